-- What adding cells to any map keeps, for every type of values and every merger: the map rises and is within the sky, covers
-- what it should, has the total it should, is not too long and ends where the last cell does. Assumes nothing.
use mathlib.Core.Path.{◌≡◌, refl, ◌∙◌}
use mathlib.Core.Bool.{true}
use mathlib.Core.List.{List, [], ◌∷◌, ◌++◌, reverse_aux}
use mathlib.Core.Logic.{◌⊎◌, inl, inr, ⊎_elim, ◌↔◌}
use Prim.Native.Nat.{ℕ, suc, ◌+◌, ◌*◌, ◌≤◌}
use native.Mathlib.Omega.{arith}
use lib.ListN.{length}
use Rattle.zuniq.specs.Cells.{lies_in}
use Rattle.zuniq.proofs.Ranges.{lies_in-trans, child_lies_in_parent, lies_in-iff_some_child}
use Rattle.build.specs.Map.{Entry, Merger}
use Rattle.build.specs.Stack.{collapse, run}
use Rattle.build.specs.Promises.{Any, Has, LiesIn, Covers, end_of, start_of, Rises, Falls, last_end, total, Sums}
use Rattle.build.proofs.Entries.{below_four, Any-of_has, Has-of_any}
use Rattle.build.proofs.Rising.{Rises-has, Falls-to, Falls-has}
use Rattle.build.proofs.Steps.{Stepped, Merges, Inherits, step_all, step_any, step_length, step_total, step_falls, collapse-keeps}

-- Where a list on top of another ends.
onto_last_end : {A : Type 0} (K : ℕ) (l s t : List (Entry A)) → last_end K s ≡ last_end K t → last_end K (reverse_aux l s) ≡ last_end K (reverse_aux l t)
onto_last_end K [] s t q = q
onto_last_end K (e ∷ l) s t q = onto_last_end K l (e ∷ s) (e ∷ t) refl

module _ {A : Type 0} (accept : Merger A) where
  -- Adding two batches, one after the other, is adding their join.
  pub run-append : (s l m : List (Entry A)) → run accept s (l ++ m) ≡ run accept (run accept s l) m
  unfolding run
  run-append s [] m = refl
  run-append s (e ∷ l) m = run-append (collapse accept (e ∷ s)) l m

  -- What holds of a map and the cells to be added, and is kept where a cell is appended and in every step, holds in the end.
  pub run-keeps : (P : List (Entry A) → List (Entry A) → Type 0) → ((e : Entry A) (s l : List (Entry A)) → P s (e ∷ l) → P (e ∷ s) l)
      → ((s t l : List (Entry A)) → Stepped accept s t → P s l → P t l) → (s l : List (Entry A)) → P s l → P (run accept s l) []
  unfolding run
  run-keeps P append step s [] p = p
  run-keeps P append step s (e ∷ l) p = run-keeps P append step (collapse accept (e ∷ s)) l (collapse-keeps accept (λ t. P t l) (λ t u. step t u l) (e ∷ s) (append e s l p))

  -- What held entries and added cells have, and a parent has from its four, every entry has.
  pub run-all : (P : Entry A → Type 0) → Merges accept P → (s l : List (Entry A)) → ((y : Entry A) → Has s y → P y) → ((y : Entry A) → Has l y → P y)
      → (y : Entry A) → Has (run accept s l) y → P y
  run-all P merges s l p q = (run-keeps (λ s l. ((y : Entry A) → Has s y → P y) × ((y : Entry A) → Has l y → P y))
      (λ e s l r. (λ y. ⊎_elim (λ m. r.1 y (inl m)) (r.0 y), λ y m. r.1 y (inr m)))
      (λ s t l st r. (step_all accept P merges s t st r.0, r.1)) s l (p, q)).0

  -- No entry is deeper than the held entries and the added cells.
  pub run-depth : (D : ℕ) (s l : List (Entry A)) → ((y : Entry A) → Has s y → y.depth ≤ D) → ((y : Entry A) → Has l y → y.depth ≤ D) → (y : Entry A) → Has (run accept s l) y → y.depth ≤ D
  run-depth D s l = run-all (λ y. y.depth ≤ D) (λ d h a b c e x q p0 p1 p2 p3. omega arith) s l

  -- What some held entry or added cell has, and a parent has from any of its children, some entry has.
  pub run-any : (P : Entry A → Type 0) → Inherits accept P → (s l : List (Entry A)) → Any P s ⊎ Any P l → Any P (run accept s l)
  run-any P up s l p = ⊎_elim (λ a. a) absurd (run-keeps (λ s l. Any P s ⊎ Any P l)
      (λ e s l. ⊎_elim (λ a. inl (inr a)) (⊎_elim (λ a. inl (inl a)) inr))
      (λ s t l st. ⊎_elim (λ a. inl (step_any accept P up s t st a)) inr) s l p)

  -- There are at most as many entries as were held and added.
  pub run_length : (s l : List (Entry A)) → length (run accept s l) ≤ length s + length l
  run_length s l =
      let r = run-keeps (λ t m. length t + length m ≤ length s + length l) (λ e t m u. omega arith) (λ t r m st u. omega (arith, step_length accept t r st)) s l (omega arith) in
      omega arith

  -- A merger that gives sums keeps the total, in collapsing and in adding.
  module _ (figure : A → ℕ) (sums : Sums accept figure) where
    pub collapse-total : (s : List (Entry A)) → total figure (collapse accept s) ≡ total figure s
    collapse-total s = collapse-keeps accept (λ t. total figure t ≡ total figure s) (λ t u st q. step_total accept figure sums t u st ∙ q) s refl

    pub run-total : (s l : List (Entry A)) → total figure (run accept s l) ≡ total figure s + total figure l
    run-total s l =
        let r = run-keeps (λ t m. total figure t + total figure m ≡ total figure s + total figure l) (λ e t m u. omega arith) (λ t r m st u. omega (arith, step_total accept figure sums t r st)) s l refl in
        omega arith

  -- ---- ranges
  module _ (K : ℕ) where
    -- Collapsing leaves a map a map, and it ends where it did.
    pub collapse-falls : (a b : ℕ) (s : List (Entry A)) → Falls K a b s → Falls K a b (collapse accept s) × (last_end K (collapse accept s) ≡ last_end K s)
    collapse-falls a b s f = collapse-keeps accept (λ t. Falls K a b t × (last_end K t ≡ last_end K s))
        (λ t u st g. let h = step_falls accept K a b t u st g.0 in (h.0, h.1 ∙ g.1)) s (f, refl)

    -- a map, and cells yet to be added: they rise from where it ends, or later, to c
    abbrev pub Follows : ℕ → ℕ → List (Entry A) → List (Entry A) → Type 0
    Follows a c s l = (b : ℕ) × Falls K a b s × Rises K b c l

    -- The other cells follow when one is appended,
    pub append_follows : (a c : ℕ) (e : Entry A) (s l : List (Entry A)) → Follows a c s (e ∷ l) → Follows a c (e ∷ s) l
    append_follows a c e s l f = (end_of K e, (f.2.0, omega arith, Falls-to K a f.0 (start_of K e) s f.2.1 f.1), f.2.2)

    -- and when it is added.
    pub collapse-follows : (a c : ℕ) (e : Entry A) (s l : List (Entry A)) → Follows a c s (e ∷ l) → Follows a c (collapse accept (e ∷ s)) l
    collapse-follows a c e s l f = let g = append_follows a c e s l f in (g.0, (collapse-falls a g.0 (e ∷ s) g.1).0, g.2)

    -- Cells that rise, added to a map that ends where they start or before, leave a map, up to where they end.
    pub run-falls : (a b c : ℕ) (s l : List (Entry A)) → Falls K a b s → Rises K b c l → Falls K a c (run accept s l)
    run-falls a b c s l f r =
        let g = run-keeps (Follows a c) (append_follows a c) (λ t u m st g. (g.0, (step_falls accept K a g.0 t u st g.1).0, g.2)) s l (b, f, r) in
        Falls-to K a g.0 c (run accept s l) g.2 g.1

    -- The map ends where the last cell ends that was added.
    pub run-last_end : (a b c : ℕ) (s l : List (Entry A)) → Falls K a b s → Rises K b c l → last_end K (run accept s l) ≡ last_end K (reverse_aux l s)
    run-last_end a b c s l f r = (run-keeps (λ t m. Follows a c t m × (last_end K (reverse_aux m t) ≡ last_end K (reverse_aux l s)))
        (λ e t m g. (append_follows a c e t m g.0, g.1))
        (λ t u m st g.
        let h = step_falls accept K a g.0.0 t u st g.0.1 in
        ((g.0.0, h.0, g.0.2), onto_last_end K m u t h.1 ∙ g.1))
        s l ((b, f, r), refl)).1

    -- The cells covered are those that were, and those that lie in an added cell.
    pub run-covers : (a b c : ℕ) (s l : List (Entry A)) → Falls K a b s → Rises K b c l → (d h : ℕ) → K ≤ d → Covers (run accept s l) d h ↔ (Covers s d h ⊎ Covers l d h)
    run-covers a b c s l f r d h u = (
      λ t. let y = Has-of_any (LiesIn d h) (run accept s l) t in (down y.0 y.1).1 y.2,
      run-any (LiesIn d h) (λ p g i y x v t. lies_in-trans d h (suc p) (4 * g + i) p g t (child_lies_in_parent p g i v)) s l,
    )
      where
        Known : Entry A → Type 0
        Known y = (y.depth ≤ K) × (LiesIn d h y → Covers s d h ⊎ Covers l d h)

        known : Merges accept Known
        known p g v0 v1 v2 v3 x q k0 k1 k2 k3 = (
          omega (arith, k0.0),
          λ t.
              let i = (lies_in-iff_some_child d h p g (omega (arith, k0.0))).0 t in
              below_four (λ j. lies_in d h (suc p) (4 * g + j) ≡ true → Covers s d h ⊎ Covers l d h) k0.1 k1.1 k2.1 k3.1 i.0 i.1 i.2,
        )

        down : (y : Entry A) → Has (run accept s l) y → Known y
        down = run-all Known known s l
            (λ y m. ((Falls-has K a b s y f m).0, λ t. inl (Any-of_has _ s y m t)))
            (λ y m. ((Rises-has K b c l y r m).0, λ t. inr (Any-of_has _ l y m t)))
