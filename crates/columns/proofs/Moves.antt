-- Values put at their places, whatever these are: nothing at first, one more by a store, and parts put together. Assumes nothing.
use mathlib.Core.Path.{◌≡◌, refl, sym, ◌∙◌}
use mathlib.Core.Bool.{Bool, true, false}
use mathlib.Core.List.{List}
use mathlib.Core.Logic.{◌⊎◌, inl, inr, ⊎_elim}
use Prim.Native.Nat.{ℕ, suc, ◌+◌, ◌-◌, ◌≤◌, ◌<◌}
use native.Mathlib.Decide.{dec_le}
use native.Mathlib.Numerals.{add-one}
use native.Mathlib.Omega.{arith}
use lib.Dec.{eqb}
use lib.ListN.{length, get_or, set, length-set}
use lib.Seq.{get_or-set_same, get_or-set_other}
use borrow.Author.Tests.{eqb-true, eqb-false}
use Rattle.columns.specs.Turning.{Part, HasValues, Put}

module _ {at value : ℕ → ℕ → ℕ} where
  -- ---- any parts

  -- Where there is nothing to move, nothing is touched.
  moved_none : {P : ℕ → ℕ → Type 0} {x : List ℕ} → ((i j : ℕ) → P i j → ⊥) → Put at value P x x
  unfolding HasValues
  moved_none none = record { there = λ goal g i j p. absurd (none i j p); kept = λ goal g p e. e }

  -- Two parts, one after the other.
  moved_both : {P Q R : ℕ → ℕ → Type 0} {x y z : List ℕ} → Put at value P x y → Put at value Q y z
      → ((i j : ℕ) → P i j → R i j) → ((i j : ℕ) → Q i j → R i j) → ((i j : ℕ) → R i j → P i j ⊎ Q i j) → Put at value R x z
  unfolding HasValues
  moved_both {P} {Q} {R} {x} {y} {z} a b p q either =
      record {
        there = λ goal g i j r.
            let gp : HasValues at value P goal = λ i j h. g i j (p i j h) in
            let gq : HasValues at value Q goal = λ i j h. g i j (q i j h) in
            ⊎_elim (λ h. b.kept goal gq (at i j) (a.there goal gp i j h ∙ sym (gp i j h)) ∙ gp i j h) (b.there goal gq i j) (either i j r);
        kept = λ goal g s e. b.kept goal (λ i j h. g i j (q i j h)) s (a.kept goal (λ i j h. g i j (p i j h)) s e);
      }

  -- One byte, by one store.
  pub moved_one : {x : List ℕ} (r c : ℕ) → at r c < length x → Put at value (Part r (suc r) c (suc c)) x (set x (at r c) (value r c))
  unfolding HasValues
  moved_one {x} r c l =
      let v = value r c in
      let t = at r c in
      record {
        there = λ goal g i j h.
            let ei : i ≡ r = omega arith in
            let ej : j ≡ c = omega arith in
            rw (ei, ej) (get_or-set_same x t v 0 l);
        kept = λ goal g p e. stored x t v goal p l (g r c (omega arith)) e (eqb p t) refl;
      }
    where
      stored : (x : List ℕ) (t v : ℕ) (goal : List ℕ) (p : ℕ) → t < length x → get_or goal t 0 ≡ v → get_or x p 0 ≡ get_or goal p 0
          → (b : Bool) → eqb p t ≡ b → get_or (set x t v) p 0 ≡ get_or goal p 0
      stored x t v goal p l right e true q = rw (eqb-true p t q) (get_or-set_same x t v 0 l ∙ sym right)
      stored x t v goal p l right e false q = get_or-set_other x t p v 0 (eqb-false p t q) ∙ e

  -- ---- a part that grows: the rows from m up to n, their columns from a up to b

  -- no rows, and no columns
  pub no_rows : {m a b : ℕ} {x : List ℕ} → Put at value (Part m m a b) x x
  no_rows = moved_none (λ i j p. omega arith)

  pub no_columns : {m n a : ℕ} {x : List ℕ} → Put at value (Part m n a a) x x
  no_columns = moved_none (λ i j p. omega arith)

  module _ {m n a b : ℕ} {x y z : List ℕ} where
    -- the rows up to e more
    pub more_rows : {e : ℕ} → m ≤ n → n ≤ e → Put at value (Part m n a b) x y → Put at value (Part n e a b) y z → Put at value (Part m e a b) x z
    more_rows {e} l h first then =
        moved_both first then (λ i j p. omega arith) (λ i j p. omega arith)
        (λ i j p. elim (dec_le n i) as (λ _. Part m n a b i j ⊎ Part n e a b i j) [ yes s ↦ inr (omega arith) | no s ↦ inl (omega arith) ])

    -- the columns up to e more
    pub more_columns : {e : ℕ} → a ≤ b → b ≤ e → Put at value (Part m n a b) x y → Put at value (Part m n b e) y z → Put at value (Part m n a e) x z
    more_columns {e} l h first then =
        moved_both first then (λ i j p. omega arith) (λ i j p. omega arith)
        (λ i j p. elim (dec_le b j) as (λ _. Part m n a b i j ⊎ Part m n b e i j) [ yes s ↦ inr (omega arith) | no s ↦ inl (omega arith) ])

  -- Four stores: the first four columns of a row.
  pub four_stores : (x : List ℕ) (r : ℕ) → ((c : ℕ) → c < 4 → at r c < length x)
      → Put at value (Part r (suc r) 0 4) x (set (set (set (set x (at r 0) (value r 0)) (at r 1) (value r 1)) (at r 2) (value r 2)) (at r 3) (value r 3))
  four_stores x r inside =
      let one = moved_one {x = x} r 0 (inside 0 (omega arith)) in
      let y = set x (at r 0) (value r 0) in
      let two = more_columns (omega arith) (omega arith) one (moved_one {x = y} r 1 (simp length-set (inside 1 (omega arith)))) in
      let z = set y (at r 1) (value r 1) in
      let three = more_columns (omega arith) (omega arith) two (moved_one {x = z} r 2 (simp length-set (inside 2 (omega arith)))) in
      more_columns (omega arith) (omega arith) three (moved_one {x = set z (at r 2) (value r 2)} r 3 (simp length-set (inside 3 (omega arith))))

  -- The store of one byte puts one row more of a column.
  pub next_row : {m r c t v : ℕ} {x y : List ℕ} → m ≤ r → t < length y → t ≡ at r c → v ≡ value r c
      → Put at value (Part m r c (suc c)) x y → Put at value (Part m (r + 1) c (suc c)) x (set y t v)
  next_row {m} {r} {c} {t} {v} {x} {y} l inside f g so_far = rw (add-one r, f, g) (more_rows l (omega arith) so_far (moved_one r c (rw f at inside)))

-- ---- said otherwise

-- The same values at the same places.
pub same_values : {at value at' value' : ℕ → ℕ → ℕ} {P : ℕ → ℕ → Type 0} {x y : List ℕ}
    → ((i j : ℕ) → P i j → at' i j ≡ at i j) → ((i j : ℕ) → P i j → value' i j ≡ value i j) → Put at value P x y → Put at' value' P x y
unfolding HasValues
same_values {at} {value} {at'} {value'} {P} same_at same_value put =
    let has : (goal : List ℕ) → HasValues at' value' P goal → HasValues at value P goal = λ goal g i j p. rw (same_at i j p, same_value i j p) at (g i j p) in
    record { there = λ goal g i j p. rw (same_at i j p, same_value i j p) (put.there goal (has goal g) i j p); kept = λ goal g. put.kept goal (has goal g) }

-- The same values at the same places, with rows counted from m and columns from a.
pub counted_from : {at value at' value' : ℕ → ℕ → ℕ} {n b : ℕ} {x y : List ℕ} (m a : ℕ)
    → ((i j : ℕ) → i < n → j < b → at' (m + i) (a + j) ≡ at i j) → ((i j : ℕ) → i < n → j < b → value' (m + i) (a + j) ≡ value i j)
    → Put at value (Part 0 n 0 b) x y → Put at' value' (Part m (m + n) a (a + b)) x y
unfolding HasValues
counted_from {at} {value} {at'} {value'} {n} {b} {x} {y} m a same_at same_value put =
    record { there = λ goal g i j p. back goal g i j p (i - m) (j - a) (omega arith) (omega arith); kept = λ goal g. put.kept goal (has goal g) }
  where
    has : (goal : List ℕ) → ((i j : ℕ) → Part m (m + n) a (a + b) i j → get_or goal (at' i j) 0 ≡ value' i j) → (i j : ℕ) → Part 0 n 0 b i j → get_or goal (at i j) 0 ≡ value i j
    has goal g i j p =
        rw (same_at i j p.row_to p.column_to, same_value i j p.row_to p.column_to) at (g (m + i) (a + j) (omega arith))

    back : (goal : List ℕ) → ((i j : ℕ) → Part m (m + n) a (a + b) i j → get_or goal (at' i j) 0 ≡ value' i j) → (i j : ℕ) → Part m (m + n) a (a + b) i j
        → (r c : ℕ) → m + r ≡ i → a + c ≡ j → get_or y (at' i j) 0 ≡ value' i j
    back goal g i j p r c e f =
        let q : Part 0 n 0 b r c = omega arith in
        rw (← e, ← f, same_at r c q.row_to q.column_to, same_value r c q.row_to q.column_to) (put.there goal (has goal g) r c q)
