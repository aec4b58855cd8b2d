-- The two calls: what is refused, when they are accepted, and what they then leave in the output. Assumes nothing.
use mathlib.Core.Path.{◌≡◌, refl, sym, ◌∙◌}
use mathlib.Core.Bool.{Bool, true, false, not, ◌||◌, cond, false≢true}
use mathlib.Core.List.{List, ◌++◌}
use Prim.Native.Nat.{ℕ, ◌+◌, ◌*◌, ◌-◌, ◌/◌, ◌%◌, ◌≤◌, ◌<◌}
use native.Mathlib.Decide.{dec_le}
use native.Mathlib.Nat.{mul_comm, add-zero, div-add-mod'}
use native.Mathlib.Omega.{arith}
use lib.Dec.{eqb, ltb}
use lib.ListN.{length, get_or, drop, length-append, length-drop, get_or-append}
use lib.Seq.{get_or-append-add, get_or-drop, ext_get_or}
use borrow.Author.Tests.{ltb-false, eqb-true}
use Rattle.refusal.specs.declared.Refusal.{Refusal}
use Rattle.std.specs.Prelude.{Result, Ok, Err}
use Rattle.rows.proofs.Accepted.{refused}
use Rattle.columns.specs.Columns.{by_column, by_row, named, rows_to_lay, laid, rows_to_columns, columns_to_rows}
use Rattle.columns.specs.Turning.{in_rows, in_columns, Inside, Part, HasValues, Turned}
use Rattle.columns.proofs.Layouts.{place_lt, split, length-by_column, length-by_row, by_column-at, by_row-at}

-- Row lengths that are named are fours.
pub named-fours : (k : ℕ) → named k ≡ true → k % 4 ≡ 0
unfolding named
named-fours k = go (eqb k 8) refl (eqb k 12) refl (eqb k 16) refl
  where
    go : (a : Bool) → eqb k 8 ≡ a → (b : Bool) → eqb k 12 ≡ b → (c : Bool) → eqb k 16 ≡ c → (a || (b || c)) ≡ true → k % 4 ≡ 0
    go true p b q c r e = let z = eqb-true k 8 p in rw z refl
    go false p true q c r e = let z = eqb-true k 12 q in rw z refl
    go false p false q true r e = let z = eqb-true k 16 r in rw z refl
    go false p false q false r e = absurd (false≢true e)

-- what an accepted call says of the lengths
pub record Accepted (k bytes space n : ℕ) : Type 0 where
  pub length_named : named k ≡ true
  pub whole : n * k ≡ bytes
  pub room : bytes ≤ space

-- A call that is accepted for n rows says all of that.
pub accepted : (k bytes space n : ℕ) → rows_to_lay k bytes space ≡ Ok n → Accepted k bytes space n
unfolding rows_to_lay
accepted k bytes space n = go (named k) refl (eqb (bytes % k) 0) refl (ltb space bytes) refl
  where
    go : (a : Bool) → named k ≡ a → (b : Bool) → eqb (bytes % k) 0 ≡ b → (s : Bool) → ltb space bytes ≡ s
        → cond (not a) (Err Refusal.LengthMismatch) (cond (not b) (Err Refusal.LengthMismatch) (cond s (Err Refusal.NoSpace) (Ok (bytes / k)))) ≡ Ok n
        → Accepted k bytes space n
    go false p b q s r e = absurd (refused Refusal.LengthMismatch n e)
    go true p false q s r e = absurd (refused Refusal.LengthMismatch n e)
    go true p true q true r e = absurd (refused Refusal.NoSpace n e)
    go true p true q false r e =
        let rows : bytes / k ≡ n = cc in
        let even : bytes % k ≡ 0 = eqb-true _ _ q in
        record { length_named = p; whole = rw (rows, even, add-zero (n * k)) at (div-add-mod' bytes k); room = ltb-false _ _ r }

-- ---- the two layouts

-- a place of the output, as the row and the column whose byte it takes
pub record Found (at : ℕ → ℕ → ℕ) (n k p : ℕ) : Type 0 where
  pub row : ℕ
  pub column : ℕ
  pub row_lt : row < n
  pub column_lt : column < k
  pub place_is : at row column ≡ p

-- a layout of n rows of k bytes: it takes n * k places, all of them
pub record Fills (at : ℕ → ℕ → ℕ) (n k : ℕ) : Type 0 where
  pub inside : Inside at n k (n * k)
  pub found : (p : ℕ) → p < n * k → Found at n k p

rows_fill : (n k : ℕ) → Fills (in_rows k) n k
rows_fill n k =
    record {
      inside = λ i j h g. place_lt k n i j h g;
      found = λ p h.
          let s = split k n p h in
          record { row = s.line; column = s.rest; row_lt = s.line_lt; column_lt = s.rest_lt; place_is = s.place_is };
    }

columns_fill : (n k : ℕ) → Fills (in_columns n) n k
columns_fill n k =
    record {
      inside = λ i j h g. rw (mul_comm n k) (place_lt n k j i g h);
      found = λ p h.
          let s = split n k p (rw (mul_comm k n) h) in
          record { row = s.rest; column = s.line; row_lt = s.rest_lt; column_lt = s.line_lt; place_is = s.place_is };
    }

-- ---- what is left in the output

-- bytes in front of a buffer, and what is behind them
abbrev over : List ℕ → List ℕ → List ℕ
over bytes buffer = bytes ++ drop (length bytes) buffer

in_front : (bytes buffer : List ℕ) (p : ℕ) → p < length bytes → get_or (over bytes buffer) p 0 ≡ get_or bytes p 0
in_front bytes buffer p h = get_or-append bytes (drop (length bytes) buffer) 0 p h

behind : (bytes buffer : List ℕ) (p : ℕ) → length bytes ≤ p → get_or buffer p 0 ≡ get_or (over bytes buffer) p 0
behind bytes buffer p h =
    let q = p - length bytes in
    let e : length bytes + q ≡ p = omega arith in
    sym (rw e at (get_or-append-add bytes (drop (length bytes) buffer) q 0 ∙ get_or-drop (length bytes) buffer q 0))

length_over : (bytes buffer : List ℕ) → length bytes ≤ length buffer → length (over bytes buffer) ≡ length buffer
length_over bytes buffer h = length-append bytes (drop (length bytes) buffer) ∙ rw (length-drop (length bytes) buffer) (omega arith)

-- Where all bytes of n rows were moved, a list that has them in the new layout stands in front, and what is behind it stays.
turned : (from to : ℕ → ℕ → ℕ) (source bytes before after : List ℕ) (n k : ℕ) → Fills to n k → length bytes ≡ n * k → length bytes ≤ length before → length after ≡ length before
    → ((i j : ℕ) → i < n → j < k → get_or bytes (to i j) 0 ≡ get_or source (from i j) 0)
    → Turned from to source (Part 0 n 0 k) before after → after ≡ bytes ++ drop (length bytes) before
unfolding HasValues
turned from to source bytes before after n k fills long room same each moved =
    let goal = over bytes before in
    let has : HasValues to (λ i j. get_or source (from i j) 0) (Part 0 n 0 k) goal = λ i j h. in_front bytes before (to i j) (rw long (fills.inside i j h.row_to h.column_to)) ∙ each i j h.row_to h.column_to in
    let front : (p : ℕ) → p < length bytes → get_or after p 0 ≡ get_or goal p 0 =
    λ p h.
    let f = fills.found p (rw long at h) in
    let part : Part 0 n 0 k f.row f.column = record { row_from = omega arith; row_to = f.row_lt; column_from = omega arith; column_to = f.column_lt } in
    rw f.place_is at (moved.there goal has f.row f.column part ∙ sym (has f.row f.column part)) in
    ext_get_or 0 after goal (same ∙ sym (length_over bytes before room))
    (λ p h. elim (dec_le (length bytes) p) as (λ _. get_or after p 0 ≡ get_or goal p 0) [ yes b ↦ moved.kept goal has p (behind bytes before p b) | no b ↦ front p (omega arith) ])

-- ---- the two calls

-- A refusal leaves the output.
pub not_laid : (a : Result ℕ Refusal) (r : Refusal) (bytes : ℕ → List ℕ) (output : List ℕ) → a ≡ Err r → (Err r, output) ≡ laid a bytes output
unfolding laid
not_laid a r bytes output e = rw e refl

all_laid : (a : Result ℕ Refusal) (n : ℕ) (bytes : ℕ → List ℕ) (output after : List ℕ) → a ≡ Ok n → after ≡ bytes n ++ drop (length (bytes n)) output → (Ok n, after) ≡ laid a bytes output
unfolding laid
all_laid a n bytes output after e f = rw (e, f) refl

-- An accepted call moves fours of bytes, between places that are inside of both buffers,
module _ (k n : ℕ) (source before : List ℕ) (e : rows_to_lay k (length source) (length before) ≡ Ok n) where
  may_turn : {from to : ℕ → ℕ → ℕ} → Fills from n k → Fills to n k → (k % 4 ≡ 0) × Inside from n k (length source) × Inside to n k (length before)
  may_turn f t =
      let a = accepted k (length source) (length before) n e in
      (named-fours k a.length_named, λ i j h g. omega (arith, f.inside i j h g, a.whole), λ i j h g. omega (arith, t.inside i j h g, a.whole, a.room))

  pub may_lay : (k % 4 ≡ 0) × Inside (in_rows k) n k (length source) × Inside (in_columns n) n k (length before)
  may_lay = may_turn (rows_fill n k) (columns_fill n k)

  pub may_take_back : (k % 4 ≡ 0) × Inside (in_columns n) n k (length source) × Inside (in_rows k) n k (length before)
  may_take_back = may_turn (columns_fill n k) (rows_fill n k)

  module _ (after : List ℕ) (same : length after ≡ length before) where
    -- from rows to columns,
    pub columns_laid : Turned (in_rows k) (in_columns n) source (Part 0 n 0 k) before after → (Ok n, after) ≡ rows_to_columns k source before
    unfolding rows_to_columns
    columns_laid moved =
        let ok = accepted k (length source) (length before) n e in
        let long = length-by_column k n source in
        all_laid _ n (λ m. by_column k m source) before after e
        (turned (in_rows k) (in_columns n) source (by_column k n source) before after n k (columns_fill n k) long (omega (arith, long, ok.whole, ok.room)) same (by_column-at k n source) moved)

    -- and back.
    pub rows_laid : Turned (in_columns n) (in_rows k) source (Part 0 n 0 k) before after → (Ok n, after) ≡ columns_to_rows k source before
    unfolding columns_to_rows
    rows_laid moved =
        let ok = accepted k (length source) (length before) n e in
        let long = length-by_row k n source in
        all_laid _ n (λ m. by_row k m source) before after e
        (turned (in_columns n) (in_rows k) source (by_row k n source) before after n k (rows_fill n k) long (omega (arith, long, ok.whole, ok.room)) same (by_row-at k n source) moved)
