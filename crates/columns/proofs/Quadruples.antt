-- Words of four bytes: read, taken apart, and put. Assumes nothing.
use mathlib.Core.Path.{◌≡◌, refl, ap, sym, ◌∙◌}
use mathlib.Core.List.{List}
use Prim.Native.Nat.{ℕ, zero, suc, ◌+◌, ◌*◌, ◌/◌, ◌%◌, ◌^◌, ◌<◌}
use native.Mathlib.Decide.{dec_le}
use native.Mathlib.Nat.{add-zero, zero-add}
use native.Mathlib.Numerals.{add-one}
use native.Mathlib.Omega.{arith}
use lib.ListN.{length, get_or, set}
use lib.Seq.{get_or-set_same, get_or-set_other}
use Rattle.rows.specs.LittleEndian.{from_le_bytes, to_le_bytes, put}
use Rattle.rows.proofs.Put.{put_four}
use Rattle.columns.specs.Turning.{Part, Put, Words, word_of, byte_of}
use Rattle.columns.proofs.Moves.{more_rows, more_columns, four_stores, same_values, counted_from}

-- ---- the bytes of a word

-- Each byte of a word is the byte that it was made of.
module _ (b : ℕ → ℕ) (low : (c : ℕ) → b c < 256) where
  pub byte_of-word : (c : ℕ) → c < 4 → byte_of (word_of b) c ≡ b c
  unfolding from_le_bytes byte_of
  byte_of-word zero l = omega (arith, low 0)
  byte_of-word (suc zero) l = omega (arith, low 0, low 1)
  byte_of-word (suc (suc zero)) l = omega (arith, low 0, low 1, low 2)
  byte_of-word (suc (suc (suc zero))) l = omega (arith, low 0, low 1, low 2, low 3)
  byte_of-word (suc (suc (suc (suc c)))) l = absurd (omega arith)

-- ---- reading

module _ {at : ℕ → ℕ → ℕ} {source : List ℕ} where
  pub no_words : (words : List ℕ) → Words at source 0 words
  no_words words = record { each = λ i l. absurd (omega arith) }

  pub next_word : (words : List ℕ) (n w : ℕ) → n < length words → Words at source n words → w ≡ word_of (λ c. get_or source (at n c) 0) → Words at source (n + 1) (set words n w)
  next_word words n w h so_far e =
      record {
        each = λ i l.
            elim (dec_le n i) as (λ _. get_or (set words n w) i 0 ≡ word_of (λ c. get_or source (at i c) 0)) [
              | yes s ↦ (let q : i ≡ n = omega arith in rw q (get_or-set_same words n w 0 h ∙ e))
              | no s ↦ get_or-set_other words n i w 0 (λ q. omega arith) ∙ so_far.each i (omega arith)
            ];
      }

-- ---- putting

-- The four bytes of a word more.
pub next_word_put : (words : List ℕ) (to step i : ℕ) (x y z : List ℕ) → ((c : ℕ) → c < 4 → to + i * step + c < length y)
    → Put (λ r c. to + r * step + c) (λ r c. byte_of (get_or words r 0) c) (Part 0 i 0 4) x y → z ≡ put (to + i * step) (to_le_bytes 4 (get_or words i 0)) y
    → Put (λ r c. to + r * step + c) (λ r c. byte_of (get_or words r 0) c) (Part 0 (i + 1) 0 4) x z
unfolding to_le_bytes byte_of
next_word_put words to step i x y z inside so_far e =
    let t = to + i * step in
    let four = four_stores {at = λ r c. to + r * step + c} {value = λ r c. byte_of (get_or words r 0) c} y i inside in
    let stores = put_four t _ _ _ _ y (omega (arith, inside 3 (omega arith))) in
    more_rows (omega arith) (omega arith) so_far (rw (e ∙ sym stores, add-one i) (rw (add-zero t) at four))

-- Words that are read in one layout and put in the other: what was put are the bytes of the source.
module _ (source words : List ℕ) (n m : ℕ) (low : (p : ℕ) → get_or source p 0 < 256) (all : m ≡ n) (long : length words ≡ m) where
  bytes_are : (at : ℕ → ℕ → ℕ) → Words at source m words → (i c : ℕ) → i < m → c < 4 → byte_of (get_or words i 0) c ≡ get_or source (at i c) 0
  bytes_are at are i c h l = ap (λ (w : ℕ). byte_of w c) (are.each i h) ∙ byte_of-word (λ c. get_or source (at i c) 0) (λ c. low (at i c)) c l

  pub words_put : (at at' to : ℕ → ℕ → ℕ) (x y : List ℕ) → ((i c : ℕ) → at' i c ≡ at i c) → Words at source m words
      → Put to (λ i c. byte_of (get_or words i 0) c) (Part 0 (length words) 0 4) x y → Put to (λ i c. get_or source (at' i c) 0) (Part 0 n 0 4) x y
  words_put at at' to x y e are put =
      same_values (λ i c p. refl)
      (λ i c p. ap (λ (q : ℕ). get_or source q 0) (e i c) ∙ sym (bytes_are at are i c (rw all p.row_to) p.column_to))
      (rw (long, all) at put)

-- ---- byte by byte

-- Byte c of a word, by a shift.
pub shifted_0 : (w : ℕ) → byte_of w 0 ≡ w / 2 ^ 0 % 256
unfolding byte_of
shifted_0 w = omega arith

pub shifted_8 : (w : ℕ) → byte_of w 1 ≡ w / 2 ^ 8 % 256
unfolding byte_of
shifted_8 w = refl

pub shifted_16 : (w : ℕ) → byte_of w 2 ≡ w / 2 ^ 16 % 256
unfolding byte_of
shifted_16 w = omega arith

pub shifted_24 : (w : ℕ) → byte_of w 3 ≡ w / 2 ^ 24 % 256
unfolding byte_of
shifted_24 w = omega arith

-- The bytes c of all words, put side by side at the start of their column.
module _ (words : List ℕ) (to rows : ℕ) where
  pub one_column : (c shift at : ℕ) (x y : List ℕ) → at ≡ to + c * rows → ((w : ℕ) → byte_of w c ≡ w / 2 ^ shift % 256)
      → Put (λ i j. at + i) (λ i j. get_or words i 0 / 2 ^ shift % 256) (Part 0 (length words) 0 1) x y
      → Put (λ i c. to + i + c * rows) (λ i c. byte_of (get_or words i 0) c) (Part 0 (length words) c (suc c)) x y
  one_column c shift at x y e f put =
      rw (zero-add (length words), add-one c) at
      (counted_from {at' = λ i c. to + i + c * rows} {value' = λ i c. byte_of (get_or words i 0) c} 0 c
      (λ i j h l. let z : j ≡ 0 = omega arith in rw (z, e, zero-add i, add-zero c) (omega arith))
      (λ i j h l. let z : j ≡ 0 = omega arith in rw (z, zero-add i, add-zero c) (f (get_or words i 0)))
      put)

  -- All four columns.
  pub four_columns : (x y z u v : List ℕ) → Put (λ i j. to + i) (λ i j. get_or words i 0 / 2 ^ 0 % 256) (Part 0 (length words) 0 1) x y
      → Put (λ i j. to + rows + i) (λ i j. get_or words i 0 / 2 ^ 8 % 256) (Part 0 (length words) 0 1) y z
      → Put (λ i j. to + 2 * rows + i) (λ i j. get_or words i 0 / 2 ^ 16 % 256) (Part 0 (length words) 0 1) z u
      → Put (λ i j. to + 3 * rows + i) (λ i j. get_or words i 0 / 2 ^ 24 % 256) (Part 0 (length words) 0 1) u v
      → Put (λ i c. to + i + c * rows) (λ i c. byte_of (get_or words i 0) c) (Part 0 (length words) 0 4) x v
  four_columns x y z u v a b c d =
      more_columns (omega arith) (omega arith) (more_columns (omega arith) (omega arith) (more_columns (omega arith) (omega arith) (one_column 0 0 to x y (omega arith) shifted_0 a) (one_column 1 8 (to + rows) y z (omega arith) shifted_8 b)) (one_column 2 16 (to + 2 * rows) z u refl shifted_16 c))
      (one_column 3 24 (to + 3 * rows) u v refl shifted_24 d)
