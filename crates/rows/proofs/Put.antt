-- Putting bytes at a place of a buffer: where a part ends, in two parts, and as std writes them. Assumes nothing.
use mathlib.Core.Path.{◌≡◌, refl, ap, sym, ◌∙◌}
use mathlib.Core.List.{List, [], ◌∷◌, ◌++◌, append_assoc}
use Prim.Native.Nat.{ℕ, suc, ◌+◌, ◌≤◌, ◌<◌, ◌-◌}
use native.Mathlib.Nat.{add-zero, add_assoc, add-suc}
use native.Mathlib.Numerals.{add-one}
use native.Mathlib.Omega.{arith}
use lib.ListN.{length, get_or, take, drop, set, length-append, take-append-drop}
use lib.Seq.{length-take-le, drop-cons, take_at, drop-append-add, drop-drop, set_at}
use Rattle.rows.specs.LittleEndian.{to_le_bytes, put}
use Rattle.rows.proofs.LittleEndian.{length-to_le, low_first}
use borrow.Rule.Slice.PartMut.{put_mid}
use Rattle.std.specs.Int.{bytes_low_first}

-- Putting nothing changes nothing.
pub put-none : (at : ℕ) (buffer : List ℕ) → put at [] buffer ≡ buffer
unfolding put
put-none at buffer = rw (add-zero at) (take-append-drop at buffer)

-- Bytes that are put where a part ends.
pub put-behind : (p q bs : List ℕ) (n : ℕ) → length p ≡ n → put n bs (p ++ q) ≡ p ++ (bs ++ drop (length bs) q)
unfolding put
put-behind p q bs n e = rw (take_at p q n e, ← e, drop-append-add p q (length bs)) refl

module _ (at : ℕ) (bs buffer : List ℕ) (h : at ≤ length buffer) where
  -- what was put, with what is before it
  front : length (take at buffer ++ bs) ≡ at + length bs
  front = length-append (take at buffer) bs ∙ ap (λ (n : ℕ). n + length bs) (length-take-le at buffer h)

  split : put at bs buffer ≡ take at buffer ++ bs ++ drop (at + length bs) buffer
  unfolding put
  split = sym (append_assoc (take at buffer) bs (drop (at + length bs) buffer))

  -- Bytes in two parts: the second is put behind the first.
  pub put-put : (cs : List ℕ) → put (at + length bs) cs (put at bs buffer) ≡ put at (bs ++ cs) buffer
  unfolding put
  put-put cs =
      ap (put (at + length bs) cs) split
      ∙ put-behind (take at buffer ++ bs) (drop (at + length bs) buffer) cs (at + length bs) front
      ∙ simp (drop-drop, length-append, append_assoc, add_assoc)

  -- One byte more is one store.
  pub put_byte : (b : ℕ) → at + length bs < length buffer → set (put at bs buffer) (at + length bs) b ≡ put at (bs ++ (b ∷ [])) buffer
  unfolding put
  put_byte b l =
      ap (λ (xs : List ℕ). set xs (at + length bs) b) (split ∙ ap (λ (ys : List ℕ). take at buffer ++ bs ++ ys) (drop-cons buffer (at + length bs) 0 l))
      ∙ set_at (take at buffer ++ bs) (get_or buffer (at + length bs) 0) (drop (suc (at + length bs)) buffer) b (at + length bs) front
      ∙ simp (length-append, append_assoc, add-one, add-suc)

-- Four stores put four bytes.
pub put_four : (at b0 b1 b2 b3 : ℕ) (buffer : List ℕ) → at + 4 ≤ length buffer
    → set (set (set (set buffer at b0) (at + 1) b1) (at + 2) b2) (at + 3) b3 ≡ put at (b0 ∷ b1 ∷ b2 ∷ b3 ∷ []) buffer
put_four at b0 b1 b2 b3 buffer h =
    let l : at ≤ length buffer = omega arith in
    let first : set buffer at b0 ≡ put at (b0 ∷ []) buffer = simp (add-zero, put-none) at (put_byte at [] buffer l b0 (omega arith)) in
    rw (
      first,
      put_byte at (b0 ∷ []) buffer l b1 (omega arith),
      put_byte at (b0 ∷ b1 ∷ []) buffer l b2 (omega arith),
      put_byte at (b0 ∷ b1 ∷ b2 ∷ []) buffer l b3 (omega arith),
    ) refl

-- A part of a slice that is written is put there.
pub put-part : (at k : ℕ) (bs buffer : List ℕ) → length bs ≡ k → put_mid at (at + k - at) buffer bs ≡ put at bs buffer
unfolding put
put-part at k bs buffer e = let d : at + k - at ≡ length bs = omega arith in rw (d, drop-drop (length bs) at buffer) refl

-- Bytes of a number, where they are written by std.
pub put-number : (at k n : ℕ) (bs part buffer : List ℕ) → bs ≡ bytes_low_first 0 k n → part ≡ bs → put_mid at (at + k - at) buffer part ≡ put at (to_le_bytes k n) buffer
put-number at k n bs part buffer e f =
    let same : part ≡ to_le_bytes k n = f ∙ e ∙ low_first k n in
    put-part at k part buffer (ap length same ∙ length-to_le k n) ∙ ap (λ (xs : List ℕ). put at xs buffer) same
