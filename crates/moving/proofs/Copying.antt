-- Writing a list to the front of a buffer, each number changed by f, and 0 behind it. Assumes nothing.
use mathlib.Core.Path.{◌≡◌, refl, ap, sym, ◌∙◌}
use mathlib.Core.List.{List, [], ◌∷◌, ◌++◌, map, map-append, append_assoc}
use Prim.Native.Nat.{ℕ, zero, suc, ◌+◌, ◌-◌, ◌≤◌, ◌<◌}
use native.Mathlib.Numerals.{add-one}
use native.Mathlib.Omega.{arith}
use lib.ListN.{length, get_or, take, drop, set, replicate, length-map, length-append, length-replicate}
use lib.Seq.{take-suc, drop-cons, append_snoc, set_at, length-take-le}

-- One place more.
pub copy_next : (f : ℕ → ℕ) (l out : List ℕ) (i y : ℕ) → i < length l → i < length out → y ≡ f (get_or l i 0)
    → set (map f (take i l) ++ drop i out) i y ≡ map f (take (i + 1) l) ++ drop (i + 1) out
copy_next f l out i y p q u =
    let front = map f (take i l) in
    let long : length front ≡ i = length-map (take i l) f ∙ length-take-le i l (omega arith) in
    ap (λ (xs : List ℕ). set (front ++ xs) i y) (drop-cons out i 0 q)
    ∙ set_at front (get_or out i 0) (drop (suc i) out) y i long
    ∙ sym (append_snoc front y (drop (suc i) out))
    ∙ rw (add-one i, take-suc l i 0 p, map-append f (take i l) (get_or l i 0 ∷ []), u) refl

-- The same, of numbers that stay as they are.
pub put_next : (l out : List ℕ) (i y : ℕ) → i < length l → i < length out → y ≡ get_or l i 0 → set (take i l ++ drop i out) i y ≡ take (i + 1) l ++ drop (i + 1) out
put_next l out i y p q u =
    ap (λ (xs : List ℕ). set (take i l ++ xs) i y) (drop-cons out i 0 q)
    ∙ set_at (take i l) (get_or out i 0) (drop (suc i) out) y i (length-take-le i l (omega arith))
    ∙ sym (append_snoc (take i l) y (drop (suc i) out))
    ∙ rw (add-one i, take-suc l i 0 p, u) refl

-- One more 0 behind.
replicate-snoc : (k : ℕ) (x : ℕ) → replicate k x ++ (x ∷ []) ≡ replicate (suc k) x
replicate-snoc zero x = refl
replicate-snoc (suc k) x = ap (λ (xs : List ℕ). x ∷ xs) (replicate-snoc k x)

pub clear_next : (front out : List ℕ) (place : ℕ) → length front ≤ place → place < length out
    → set (front ++ (replicate (place - length front) 0 ++ drop place out)) place 0 ≡ front ++ (replicate (place + 1 - length front) 0 ++ drop (place + 1) out)
clear_next front out place l p =
    let k = place - length front in
    let zeros = replicate k 0 in
    let long : length (front ++ zeros) ≡ place = length-append front zeros ∙ rw (length-replicate {A = ℕ} k 0) (omega arith) in
    let next : place + 1 - length front ≡ suc k = omega arith in
    ap (λ (xs : List ℕ). set (front ++ (zeros ++ xs)) place 0) (drop-cons out place 0 p)
    ∙ ap (λ (xs : List ℕ). set xs place 0) (sym (append_assoc front zeros (get_or out place 0 ∷ drop (suc place) out)))
    ∙ set_at (front ++ zeros) (get_or out place 0) (drop (suc place) out) 0 place long
    ∙ append_assoc front zeros (0 ∷ drop (suc place) out)
    ∙ ap (λ (xs : List ℕ). front ++ xs) (sym (append_snoc zeros 0 (drop (suc place) out)))
    ∙ rw (next, add-one place, replicate-snoc k 0) refl
