-- Cells that lie inside an entry and inside a coverage: what lies in them does too. Assumes nothing.
use mathlib.Core.Path.{◌≡◌, refl, sym, ◌∙◌}
use mathlib.Core.Bool.{Bool, true, false, cond}
use mathlib.Core.List.{List, [], ◌∷◌}
use mathlib.Core.Logic.{inl, inr}
use mathlib.Core.Option.{none, some, none-ne-some}
use Prim.Native.Nat.{ℕ, suc, ◌/◌, ◌≤◌}
use native.Mathlib.Omega.{arith}
use Rattle.zuniq.specs.Cells.{lies_in}
use Rattle.zuniq.proofs.Basics.{is_false}
use Rattle.zuniq.proofs.Ranges.{start-lt_end, lies_in-within, lies_in-through, lies_in-trans, lies_in-parent_iff}
use Rattle.build.specs.Map.{Entry}
use Rattle.build.specs.Promises.{Has, LiesIn, Covers, end_of, Rises}
use Rattle.build.proofs.Entries.{Any-of_has, Has-of_any}
use Rattle.build.proofs.Rising.{Rises-has, Rises-same}
use Rattle.coverage.specs.Ranges.{Range, in_coverage}
use Rattle.coverage.specs.Promises.{AllInside}
use Rattle.coverage.proofs.Inside.{in_coverage-iff}
use Rattle.clip.specs.Clip.{value_over, in_both}

-- A cell lies in its parent.
pub in_parent : (d h : ℕ) → lies_in (suc d) h d (h / 4) ≡ true
in_parent d h = (lies_in-parent_iff d h (h / 4)).1 refl

-- A cell that lies in one that is less deep has its parent in that one.
pub parent_in : (p h a b : ℕ) → lies_in (suc p) h a b ≡ true → a ≤ p → lies_in p (h / 4) a b ≡ true
parent_in p h a b t u = sym (lies_in-through (suc p) h p (h / 4) a b (in_parent p h) u) ∙ t

-- ---- the entries
module _ {A : Type 0} where
  pub covers_below : (l : List (Entry A)) (d h e g : ℕ) → lies_in e g d h ≡ true → Covers l d h → Covers l e g
  covers_below l d h e g t c = let m = Has-of_any (LiesIn d h) l c in Any-of_has (LiesIn e g) l m.0 m.1 (lies_in-trans e g d h m.0.depth m.0.hash t m.2)

  -- The value is that of an entry that the cell lies in,
  pub entry_of_value : (l : List (Entry A)) (d h : ℕ) (x : A) → value_over l d h ≡ some x → (c : Entry A) × Has l c × LiesIn d h c × (x ≡ c.value)
  unfolding value_over
  entry_of_value [] d h x q = absurd (none-ne-some x q)
  entry_of_value (e ∷ l) d h x q = go (lies_in d h e.depth e.hash) refl q (entry_of_value l d h x)
    where
      go : (t : Bool) → lies_in d h e.depth e.hash ≡ t → cond t (some e.value) (value_over l d h) ≡ some x
          → (value_over l d h ≡ some x → (c : Entry A) × Has l c × LiesIn d h c × (x ≡ c.value)) → (c : Entry A) × Has (e ∷ l) c × LiesIn d h c × (x ≡ c.value)
      go true t q more = (e, inl refl, t, cc)
      go false t q more = let m = more q in (m.0, inr m.1, m.2, m.3)

  -- of which there is only one in a list that rises.
  pub value_of_entry : (K a b : ℕ) (l : List (Entry A)) (d h : ℕ) (c : Entry A) → Rises K a b l → d ≤ K → Has l c → LiesIn d h c → value_over l d h ≡ some c.value
  unfolding value_over
  value_of_entry K a b [] d h c r u m t = absurd m
  value_of_entry K a b (e ∷ l) d h c r u (inl q) t = rw (← q, t)
  value_of_entry K a b (e ∷ l) d h c r u (inr m) t =
      let p = Rises-has K (end_of K e) b l c r.2 m in
      let w = lies_in-within K d h c.depth c.hash u t in
      let n : lies_in d h e.depth e.hash ≡ false = is_false _ (λ v. omega (arith, lies_in-within K d h e.depth e.hash u v, start-lt_end K d h)) in
      rw n (value_of_entry K (end_of K e) b l d h c r.2 u m t)

  -- Two entries of a list that rises in which one cell lies are the same.
  pub entry_unique : (K a b : ℕ) (l : List (Entry A)) (d h : ℕ) (c e : Entry A) → Rises K a b l → d ≤ K → Has l c → Has l e → LiesIn d h c → LiesIn d h e → c ≡ e
  entry_unique K a b l d h c e r u m n t v =
      let w = lies_in-within K d h c.depth c.hash u t in
      let x = lies_in-within K d h e.depth e.hash u v in
      let s = start-lt_end K d h in
      Rises-same K a b l c e r m n (omega arith) (omega arith)

  -- ---- both
  module _ (K : ℕ) (l : List (Entry A)) (rs : List Range) (d h : ℕ) (deep : d ≤ K) (x : A) where
    pub both_some : in_both K l rs d h ≡ some x → (AllInside K rs d h) × (value_over l d h ≡ some x)
    unfolding in_both
    both_some q = go (in_coverage K rs d h) refl q
      where
        go : (t : Bool) → in_coverage K rs d h ≡ t → cond t (value_over l d h) none ≡ some x → (AllInside K rs d h) × (value_over l d h ≡ some x)
        go true t q = ((in_coverage-iff K rs d h deep).0 t, q)
        go false t q = absurd (none-ne-some x q)

    pub both_of : AllInside K rs d h → value_over l d h ≡ some x → in_both K l rs d h ≡ some x
    unfolding in_both
    both_of m q = rw ((in_coverage-iff K rs d h deep).1 m) q
