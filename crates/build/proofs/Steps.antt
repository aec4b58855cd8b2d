-- The laws of one step and of collapsing, for every type of values and every merger. Assumes nothing.
use mathlib.Core.Path.{◌≡◌, refl, ap, sym, ◌∙◌}
use mathlib.Core.Bool.{Bool, true, false, cond}
use mathlib.Core.List.{List, [], ◌∷◌}
use mathlib.Core.Logic.{inl, inr}
use mathlib.Core.Option.{Option, none, some, map, none-ne-some}
use Prim.Native.Nat.{ℕ, zero, suc, ◌+◌, ◌*◌, ◌/◌, ◌-◌, ◌<◌}
use native.Mathlib.Omega.{arith}
use lib.ListN.{length}
use Rattle.zuniq.proofs.Basics.{and_is_true}
use Rattle.zuniq.proofs.Ranges.{start-first_child, end-last_child}
use Rattle.build.specs.Map.{Entry, entry, Merger}
use Rattle.build.specs.Stack.{child, is_child, is_quad, merge_into, step, collapse_up_to, collapse}
use Rattle.build.specs.Promises.{Any, Has, Falls, last_end, total, Sums}
use Rattle.build.proofs.Entries.{is_cell-true, is_cell-self}

-- four siblings on top of s
abbrev pub quad : {A : Type 0} → ℕ → ℕ → A → A → A → A → List (Entry A) → List (Entry A)
quad d h a b c e s = child d h 3 e ∷ child d h 2 c ∷ child d h 1 b ∷ child d h 0 a ∷ s

module _ {A : Type 0} (accept : Merger A) where
  -- ---- one step
  -- What a step does: four siblings that the merger accepts become their parent.
  pub data Stepped : List (Entry A) → List (Entry A) → Type 0 where
    stepped : (d h : ℕ) (a b c e x : A) (s : List (Entry A)) → accept d h a b c e ≡ some x → Stepped (quad d h a b c e s) (entry d h x ∷ s)

  merge_is : (d h : ℕ) (e0 e1 e2 e3 : Entry A) (s t : List (Entry A)) → merge_into accept d h e0 e1 e2 e3 s ≡ some t → Stepped (e3 ∷ e2 ∷ e1 ∷ e0 ∷ s) t
  merge_is d h e0 e1 e2 e3 s t q = go (is_quad d h e0 e1 e2 e3) refl (accept d h e0.value e1.value e2.value e3.value) refl q
    where
      go : (is : Bool) → is_quad d h e0 e1 e2 e3 ≡ is → (o : Option A) → accept d h e0.value e1.value e2.value e3.value ≡ o
          → cond is (map (λ x. entry d h x ∷ s) o) none ≡ some t → Stepped (e3 ∷ e2 ∷ e1 ∷ e0 ∷ s) t
      go false is o u q = absurd (none-ne-some _ q)
      go true is none u q = absurd (none-ne-some _ q)
      go true is (some x) u q =
          let p0 = and_is_true (is_child d h 0 e0) _ is in
          let p1 = and_is_true (is_child d h 1 e1) _ p0.1 in
          let p2 = and_is_true (is_child d h 2 e2) (is_child d h 3 e3) p1.1 in
          let r : t ≡ entry d h x ∷ s = cc in
          rw (r, is_cell-true _ _ e0 p0.0, is_cell-true _ _ e1 p1.0, is_cell-true _ _ e2 p2.0, is_cell-true _ _ e3 p2.1)
          (stepped d h e0.value e1.value e2.value e3.value x s u)

  pub step_is : (s t : List (Entry A)) → step accept s ≡ some t → Stepped s t
  unfolding step
  step_is [] t q = absurd (none-ne-some _ q)
  step_is (e3 ∷ []) t q = absurd (none-ne-some _ q)
  step_is (e3 ∷ e2 ∷ []) t q = absurd (none-ne-some _ q)
  step_is (e3 ∷ e2 ∷ e1 ∷ []) t q = absurd (none-ne-some _ q)
  step_is (e3 ∷ e2 ∷ e1 ∷ e0 ∷ s) t q = merge_is (e3.depth - 1) (e3.hash / 4) e0 e1 e2 e3 s t q

  -- On four siblings a step asks the merger.
  pub step-quad : (d h : ℕ) (a b c e : A) (s : List (Entry A)) → step accept (quad d h a b c e s) ≡ map (λ x. entry d h x ∷ s) (accept d h a b c e)
  unfolding step
  step-quad d h a b c e s =
      let p : suc d - 1 ≡ d = omega arith in
      let g : (4 * h + 3) / 4 ≡ h = omega arith in
      simp (p, g, is_cell-self)

  -- P holds of a parent where it holds of the four that are merged
  abbrev pub Merges : (Entry A → Type 0) → Type 0
  Merges P = (d h : ℕ) (a b c e x : A) → accept d h a b c e ≡ some x → P (child d h 0 a) → P (child d h 1 b) → P (child d h 2 c) → P (child d h 3 e) → P (entry d h x)

  -- What every entry has, and a parent has from its four, every entry has after a step.
  pub step_all : (P : Entry A → Type 0) → Merges P → (s t : List (Entry A)) → Stepped s t → ((y : Entry A) → Has s y → P y) → (y : Entry A) → Has t y → P y
  step_all P merges s t (stepped d h a b c e x r q) p y (inl m) =
      rw m (merges d h a b c e x q (p _ (inr (inr (inr (inl refl))))) (p _ (inr (inr (inl refl)))) (p _ (inr (inl refl))) (p _ (inl refl)))
  step_all P merges s t (stepped d h a b c e x r q) p y (inr m) = p y (inr (inr (inr (inr m))))

  -- P holds of a parent where it holds of one of its children
  abbrev pub Inherits : (Entry A → Type 0) → Type 0
  Inherits P = (d h i : ℕ) (y x : A) → i < 4 → P (child d h i y) → P (entry d h x)

  -- What some entry has, and a parent has from any of its children, some entry has after a step.
  pub step_any : (P : Entry A → Type 0) → Inherits P → (s t : List (Entry A)) → Stepped s t → Any P s → Any P t
  step_any P up s t (stepped d h a b c e x r q) (inl p) = inl (up d h 3 e x (omega arith) p)
  step_any P up s t (stepped d h a b c e x r q) (inr (inl p)) = inl (up d h 2 c x (omega arith) p)
  step_any P up s t (stepped d h a b c e x r q) (inr (inr (inl p))) = inl (up d h 1 b x (omega arith) p)
  step_any P up s t (stepped d h a b c e x r q) (inr (inr (inr (inl p)))) = inl (up d h 0 a x (omega arith) p)
  step_any P up s t (stepped d h a b c e x r q) (inr (inr (inr (inr p)))) = inr p

  -- A step takes three entries away.
  pub step_length : (s t : List (Entry A)) → Stepped s t → length t + 3 ≡ length s
  step_length s t (stepped d h a b c e x r q) = omega arith

  -- A merger that gives sums keeps the total.
  pub step_total : (figure : A → ℕ) → Sums accept figure → (s t : List (Entry A)) → Stepped s t → total figure t ≡ total figure s
  step_total figure sums s t (stepped d h a b c e x r q) = omega (arith, sums d h a b c e x q)

  -- A parent has the range of its four.
  pub step_falls : (K a b : ℕ) (s t : List (Entry A)) → Stepped s t → Falls K a b s → Falls K a b t × (last_end K t ≡ last_end K s)
  step_falls K a b s t (stepped d h v0 v1 v2 v3 x r q) f =
      let first = start-first_child K d h f.0 in
      let last = end-last_child K d h f.0 in
      ((omega arith, omega arith, rw first at f.2.2.2.2), sym last)

  -- ---- collapsing
  stops : (n : ℕ) (s : List (Entry A)) → step accept s ≡ none → collapse_up_to accept n s ≡ s
  unfolding collapse_up_to
  stops zero s q = refl
  stops (suc n) s q = rw (q, collapse_up_to)

  -- Where no step is left, collapsing changes nothing.
  pub collapse-stops : (s : List (Entry A)) → step accept s ≡ none → collapse accept s ≡ s
  unfolding collapse
  collapse-stops [] q = refl
  collapse-stops (e ∷ s) q = stops e.depth (e ∷ s) q

  -- A step changes nothing of what the entries collapse to.
  pub collapse-steps : (s t : List (Entry A)) → Stepped s t → collapse accept s ≡ collapse accept t
  unfolding collapse collapse_up_to
  collapse-steps s t (stepped d h a b c e x r q) = rw (step-quad d h a b c e r ∙ ap (map (λ y. entry d h y ∷ r)) q, collapse_up_to)

  keeps_up_to : (P : List (Entry A) → Type 0) → ((s t : List (Entry A)) → Stepped s t → P s → P t) → (n : ℕ) (s : List (Entry A)) → P s → P (collapse_up_to accept n s)
  unfolding collapse_up_to
  keeps_up_to P keeps zero s p = p
  keeps_up_to P keeps (suc n) s p = go (step accept s) refl (keeps_up_to P keeps n)
    where
      go : (o : Option (List (Entry A))) → step accept s ≡ o → ((t : List (Entry A)) → P t → P (collapse_up_to accept n t)) → P (collapse_up_to accept (suc n) s)
      go none q more = rw (q, collapse_up_to) p
      go (some t) q more = rw (q, collapse_up_to) (more t (keeps s t (step_is s t q) p))

  -- What every step keeps, collapsing keeps.
  pub collapse-keeps : (P : List (Entry A) → Type 0) → ((s t : List (Entry A)) → Stepped s t → P s → P t) → (s : List (Entry A)) → P s → P (collapse accept s)
  unfolding collapse
  collapse-keeps P keeps [] p = p
  collapse-keeps P keeps (e ∷ s) p = keeps_up_to P keeps e.depth (e ∷ s) p
