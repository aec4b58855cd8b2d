-- Maps in which nothing is left to merge: adding to such a map leaves such a map, and the merger accepts no four siblings
-- that it has. Assumes nothing.
use mathlib.Core.Path.{◌≡◌, refl, ap, sym, ◌∙◌}
use mathlib.Core.List.{List, [], ◌∷◌}
use mathlib.Core.Logic.{inl, inr}
use mathlib.Core.Option.{Option, none, some, map-eq-none_iff}
use Prim.Native.Nat.{ℕ, zero, suc, ◌+◌, ◌*◌, ◌≤◌, ◌<◌}
use native.Mathlib.Omega.{arith}
use Rattle.zuniq.specs.Cells.{start}
use Rattle.zuniq.proofs.Ranges.{start-lt_iff, end-child_is_next_start}
use Rattle.build.specs.Map.{Entry, Merger}
use Rattle.build.specs.Stack.{child, step, collapse_up_to, collapse, run}
use Rattle.build.specs.Promises.{Has, start_of, end_of, Falls}
use Rattle.build.proofs.Rising.{range_of, Falls-has}
use Rattle.build.proofs.Steps.{quad, Stepped, stepped, step_is, step-quad}

module _ {A : Type 0} (accept : Merger A) where
  -- no step was left to do after any entry, the last one first
  abbrev pub Settled : List (Entry A) → Type 0
  Settled [] = Unit {0}
  Settled (e ∷ s) = (step accept (e ∷ s) ≡ none) × Settled s

  -- the same but for the last entry, which is at most of depth n
  abbrev Unsettled : ℕ → List (Entry A) → Type 0
  Unsettled n [] = Unit {0}
  Unsettled n (e ∷ s) = (e.depth ≤ n) × Settled s

  step_unsettled : (n : ℕ) (s t : List (Entry A)) → Stepped accept s t → Unsettled n s → (0 < n) × ((m : ℕ) → n ≡ suc m → Unsettled m t)
  step_unsettled n s t (stepped d h a b c e x r q) u = (omega (arith, u.0), λ m z. (omega (arith, u.0), u.1.1.1.1))

  stopped : (s : List (Entry A)) (n : ℕ) → step accept s ≡ none → Unsettled n s → Settled s
  stopped [] n q u = tt
  stopped (e ∷ s) n q u = (q, u.1)

  settles_up_to : (n : ℕ) (s : List (Entry A)) → Unsettled n s → Settled (collapse_up_to accept n s)
  unfolding collapse_up_to
  settles_up_to zero s u = go (step accept s) refl
    where
      go : (o : Option (List (Entry A))) → step accept s ≡ o → Settled s
      go none q = stopped s 0 q u
      go (some t) q = absurd (omega (arith, (step_unsettled 0 s t (step_is accept s t q) u).0))
  settles_up_to (suc n) s u = go (step accept s) refl (settles_up_to n)
    where
      go : (o : Option (List (Entry A))) → step accept s ≡ o → ((t : List (Entry A)) → Unsettled n t → Settled (collapse_up_to accept n t)) → Settled (collapse_up_to accept (suc n) s)
      go none q more = rw (q, collapse_up_to) (stopped s (suc n) q u)
      go (some t) q more = rw (q, collapse_up_to) (more t ((step_unsettled (suc n) s t (step_is accept s t q) u).1 n refl))

  -- Adding leaves nothing to merge.
  pub run_settled : (s l : List (Entry A)) → Settled s → Settled (run accept s l)
  unfolding run collapse
  run_settled s [] u = u
  run_settled s (e ∷ l) u = run_settled (collapse accept (e ∷ s)) l (settles_up_to e.depth (e ∷ s) (omega arith, u))

  -- ---- four siblings
  module _ (K : ℕ) where
    -- The entry that ends where the list does stands first.
    ends_first : (a b : ℕ) (s : List (Entry A)) (y : Entry A) → Falls K a b s → Has s y → b ≤ end_of K y → (r : List (Entry A)) × (s ≡ y ∷ r)
    ends_first a b [] y f m u = absurd m
    ends_first a b (e ∷ s) y f (inl q) u = (s, ap (λ (c : Entry A). c ∷ s) (sym q))
    ends_first a b (e ∷ s) y f (inr m) u = absurd (omega (arith, (Falls-has K a (start_of K e) s y f.2 m).2, f.1, range_of K e))

    -- What is in a list and starts before its first entry does comes after that.
    after : (e : Entry A) (s : List (Entry A)) (y : Entry A) → Has (e ∷ s) y → start_of K y < start_of K e → Has s y
    after e s y (inl q) u = absurd (omega (arith, rw q at u))
    after e s y (inr m) u = m

    module _ (d h : ℕ) (v0 v1 v2 v3 : A) where
      starts : (i j : ℕ) → i < j → start K (suc d) (4 * h + i) < start K (suc d) (4 * h + j)
      starts i j u = (start-lt_iff K (suc d) (4 * h + i) (4 * h + j)).1 (omega arith)

      -- Right after the last of four siblings stand the others.
      others_next : (a b : ℕ) (s : List (Entry A)) → Falls K a b (child d h 3 v3 ∷ s) → Has s (child d h 0 v0) → Has s (child d h 1 v1) → Has s (child d h 2 v2)
          → (r : List (Entry A)) × (s ≡ child d h 2 v2 ∷ child d h 1 v1 ∷ child d h 0 v0 ∷ r)
      others_next a b s f m0 m1 m2 =
          let c0 = child d h 0 v0 in
          let c1 = child d h 1 v1 in
          let c2 = child d h 2 v2 in
          let p2 = ends_first a _ s c2 f.2 m2 (omega (arith, end-child_is_next_start K d h 2)) in
          let f2 : Falls K a _ (c2 ∷ p2.0) = rw p2.1 at f.2 in
          let m1 : Has p2.0 c1 = after c2 p2.0 c1 (rw p2.1 at m1) (starts 1 2 (omega arith)) in
          let m0 : Has p2.0 c0 = after c2 p2.0 c0 (rw p2.1 at m0) (starts 0 2 (omega arith)) in
          let p1 = ends_first a (start_of K c2) p2.0 c1 f2.2 m1 (omega (arith, end-child_is_next_start K d h 1)) in
          let f1 : Falls K a (start_of K c2) (c1 ∷ p1.0) = rw p1.1 at f2.2 in
          let m0 : Has p1.0 c0 = after c1 p1.0 c0 (rw p1.1 at m0) (starts 0 1 (omega arith)) in
          let p0 = ends_first a (start_of K c1) p1.0 c0 f1.2 m0 (omega (arith, end-child_is_next_start K d h 0)) in
          (p0.0, cc (p2.1, p1.1, p0.1))

      -- The merger accepts no four siblings of a map in which nothing is left to merge.
      pub Settled-quad : (a b : ℕ) (s : List (Entry A)) → Falls K a b s → Settled s
          → Has s (child d h 0 v0) → Has s (child d h 1 v1) → Has s (child d h 2 v2) → Has s (child d h 3 v3) → accept d h v0 v1 v2 v3 ≡ none
      Settled-quad a b [] f u m0 m1 m2 m3 = absurd m3
      Settled-quad a b (e ∷ s) f u m0 m1 m2 (inl q) =
          let rest : (i : ℕ) (v : A) → i < 3 → Has (e ∷ s) (child d h i v) → Has s (child d h i v) = λ i v w m. after e s _ m (rw (← q) (starts i 3 w)) in
          let r = others_next a b s (rw (← q) at f) (rest 0 v0 (omega arith) m0) (rest 1 v1 (omega arith) m1) (rest 2 v2 (omega arith) m2) in
          let none_left : step accept (quad d h v0 v1 v2 v3 r.0) ≡ none = rw (← q, r.1) at u.0 in
          (map-eq-none_iff _ (accept d h v0 v1 v2 v3)).0 (sym (step-quad accept d h v0 v1 v2 v3 r.0) ∙ none_left)
      Settled-quad a b (e ∷ s) f u m0 m1 m2 (inr m3) =
          let low = (Falls-has K a (start_of K e) s (child d h 3 v3) f.2 m3).2 in
          let rest : (i : ℕ) (v : A) → i < 3 → Has (e ∷ s) (child d h i v) → Has s (child d h i v) = λ i v w m. after e s _ m (omega (arith, starts i 3 w, range_of K (child d h 3 v3))) in
          Settled-quad a (start_of K e) s f.2 u.1 (rest 0 v0 (omega arith) m0) (rest 1 v1 (omega arith) m1) (rest 2 v2 (omega arith) m2) m3
