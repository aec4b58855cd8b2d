-- The laws of little-endian numbers, over any number of bytes: bytes and back, numbers and back, and that std's are the same.
-- Assumes nothing.
use mathlib.Core.Path.{◌≡◌, refl, ap, sym, ◌∙◌}
use mathlib.Core.List.{List, [], ◌∷◌}
use Prim.Native.Nat.{ℕ, zero, suc, ◌+◌, ◌-◌, ◌*◌, ◌/◌, ◌%◌, ◌^◌, ◌≤◌, ◌<◌}
use native.Mathlib.Nat.{pow-suc, div-one, div-div-eq-div-mul, mul_assoc}
use native.Mathlib.Omega.{arith}
use lib.ListN.{length, get_or, take, drop, length-drop}
use lib.Seq.{length-take-le, drop-cons}
use Rattle.std.specs.Int.{byte_at, byte_worth, bytes_low_first, sum_through}
use Rattle.rows.specs.LittleEndian.{to_le_bytes, from_le_bytes}

-- every number of a list is below m; of bytes 256, of numbers in w bytes 256 ^ w
abbrev pub Below : ℕ → List ℕ → Type 0
Below m xs = (i : ℕ) → get_or xs i 0 < m

-- ---- bytes and back

-- A number in k bytes is k numbers below 256.
pub length-to_le : (k n : ℕ) → length (to_le_bytes k n) ≡ k
unfolding to_le_bytes
length-to_le zero n = refl
length-to_le (suc k) n = ap suc (length-to_le k (n / 256))

pub to_le_below : (k n : ℕ) → Below 256 (to_le_bytes k n)
unfolding to_le_bytes
to_le_below zero n i = omega arith
to_le_below (suc k) n zero = omega arith
to_le_below (suc k) n (suc i) = to_le_below k (n / 256) i

-- k bytes are a number below 256 ^ k.
pub from_le_lt : (bs : List ℕ) → Below 256 bs → from_le_bytes bs < 256 ^ length bs
unfolding from_le_bytes
from_le_lt [] h = omega arith
from_le_lt (b ∷ bs) h = rw (pow-suc 256 (length bs)) (omega (arith, h 0, from_le_lt bs (λ i. h (suc i))))

-- Reading a number that was written gives the number.
pub from_to_le : (k n : ℕ) → n < 256 ^ k → from_le_bytes (to_le_bytes k n) ≡ n
unfolding to_le_bytes from_le_bytes
from_to_le zero n h = omega arith
from_to_le (suc k) n h =
    let q : n / 256 < 256 ^ k = omega (arith, rw pow-suc at h) in
    rw (from_to_le k (n / 256) q) (omega arith)

-- Writing a number that was read gives the bytes.
pub to_from_le : (bs : List ℕ) → Below 256 bs → to_le_bytes (length bs) (from_le_bytes bs) ≡ bs
unfolding to_le_bytes from_le_bytes
to_from_le [] h = refl
to_from_le (b ∷ bs) h =
    let n = from_le_bytes bs in
    let r : (b + 256 * n) % 256 ≡ b = omega (arith, h 0) in
    let q : (b + 256 * n) / 256 ≡ n = omega (arith, h 0) in
    rw (r, q, to_from_le bs (λ i. h (suc i))) refl

-- ---- as std has them

byte_is : (i n : ℕ) → byte_at i n ≡ n / 256 ^ i % 256
byte_is zero n = rw (div-one n) refl
byte_is (suc i) n = refl

-- std writes the same bytes, from any byte of the number on.
low_first_from : (i k n : ℕ) → bytes_low_first i k n ≡ to_le_bytes k (n / 256 ^ i)
unfolding to_le_bytes
low_first_from i zero n = refl
low_first_from i (suc k) n =
    let e : n / 256 ^ i / 256 ≡ n / 256 ^ suc i = div-div-eq-div-mul n (256 ^ i) 256 ∙ ap (λ (m : ℕ). n / m) (sym (pow-suc 256 i)) in
    rw (byte_is i n, e, low_first_from (suc i) k n) refl

pub low_first : (k n : ℕ) → bytes_low_first 0 k n ≡ to_le_bytes k n
low_first k n = low_first_from 0 k n ∙ ap (to_le_bytes k) (div-one n)

-- A byte more in front counts what is behind it 256 times.
sum_more : (b : ℕ) (bs : List ℕ) (k : ℕ) → sum_through (λ i. byte_worth i (get_or (b ∷ bs) i 0)) (suc k) ≡ b + 256 * sum_through (λ i. byte_worth i (get_or bs i 0)) k
sum_more b bs zero = omega arith
sum_more b bs (suc k) =
    let c = get_or bs (suc k) 0 in
    let e : c * 256 ^ suc (suc k) ≡ c * 256 ^ suc k * 256 = ap (λ (m : ℕ). c * m) (pow-suc 256 (suc k)) ∙ sym (mul_assoc c (256 ^ suc k) 256) in
    omega (arith, sum_more b bs k, e)

-- std reads the same number.
pub sum_is : (bs : List ℕ) (k : ℕ) → length bs ≡ suc k → sum_through (λ i. byte_worth i (get_or bs i 0)) k ≡ from_le_bytes bs
unfolding from_le_bytes
sum_is [] k e = absurd (omega arith)
sum_is (b ∷ []) zero e = omega arith
sum_is (b ∷ c ∷ bs) zero e = absurd (omega arith)
sum_is (b ∷ bs) (suc k) e = sum_more b bs k ∙ ap (λ (m : ℕ). b + 256 * m) (sum_is bs k (omega arith))

-- It is the number of a part of the bytes.
pub number-part : (at k : ℕ) (part bytes : List ℕ) → part ≡ take (at + suc k - at) (drop at bytes) → at + suc k ≤ length bytes
    → sum_through (λ i. byte_worth i (get_or part i 0)) k ≡ from_le_bytes (take (suc k) (drop at bytes))
number-part at k part bytes e h =
    let d : at + suc k - at ≡ suc k = omega arith in
    let same : part ≡ take (suc k) (drop at bytes) = rw d at e in
    let long : length part ≡ suc k = ap length same ∙ length-take-le (suc k) (drop at bytes) (rw (length-drop at bytes) (omega arith)) in
    sum_is part k long ∙ ap from_le_bytes same

-- k bytes from byte i on behind a place, one by one
abbrev pub bytes_at : ℕ → ℕ → ℕ → List ℕ → List ℕ
bytes_at at i zero bytes = []
bytes_at at i (suc k) bytes = get_or bytes (at + i) 0 ∷ bytes_at at (suc i) k bytes

bytes_at-part : (at i k : ℕ) (bytes : List ℕ) → at + i + k ≤ length bytes → bytes_at at i k bytes ≡ take k (drop (at + i) bytes)
bytes_at-part at i zero bytes h = refl
bytes_at-part at i (suc k) bytes h =
    let next : at + suc i ≡ suc (at + i) = omega arith in
    rw (drop-cons bytes (at + i) 0 (omega arith)) (ap (λ xs. get_or bytes (at + i) 0 ∷ xs) (rw next at (bytes_at-part at (suc i) k bytes (omega arith))))

-- The number of bytes that are read one by one.
pub number-bytes : (at k : ℕ) (bytes : List ℕ) → at + suc k ≤ length bytes
    → sum_through (λ i. byte_worth i (get_or (get_or bytes at 0 ∷ bytes_at at 1 k bytes) i 0)) k ≡ from_le_bytes (take (suc k) (drop at bytes))
number-bytes at k bytes h =
    let z : at + 0 ≡ at = omega arith in
    let d : at + suc k - at ≡ suc k = omega arith in
    let part = ap (λ n. get_or bytes n 0 ∷ bytes_at at 1 k bytes) (sym z) ∙ bytes_at-part at 0 (suc k) bytes (omega arith) ∙ ap (λ n. take (suc k) (drop n bytes)) z ∙ ap (λ n. take n (drop at bytes)) (sym d) in
    number-part at k (get_or bytes at 0 ∷ bytes_at at 1 k bytes) bytes part h
