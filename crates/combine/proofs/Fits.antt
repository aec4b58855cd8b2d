-- The laws of lying in an entry of a map, of fitting a map and of the value that a cell has there. Assumes nothing.
use mathlib.Core.Path.{◌≡◌, refl, sym, ◌∙◌}
use mathlib.Core.Bool.{Bool, true, false, ◌||◌, not, cond, false≢true, or-true}
use mathlib.Core.List.{List, [], ◌∷◌}
use mathlib.Core.Logic.{◌⊎◌, inl, inr, ⊎_elim, ⊎_map, ◌↔◌}
use mathlib.Core.Option.{Option, none, some, none-ne-some}
use Prim.Native.Nat.{ℕ, ◌-◌, ◌≤◌}
use native.Mathlib.Omega.{arith}
use borrow.Author.Tests.{eqb-true}
use Rattle.zuniq.specs.Cells.{lies_in, overlap}
use Rattle.zuniq.proofs.Basics.{or_is_true, is_false, le_or_lt}
use Rattle.zuniq.proofs.Ranges.{lies_in-iff, lies_in-through, overlap-sym, overlap-ancestor, start-lt_end, overlap-iff_lies_in, lies_in-within, apart_iff_end_le_start}
use Rattle.build.specs.Map.{Entry}
use Rattle.build.specs.Promises.{Any, Has, LiesIn, Covers, end_of, Rises}
use Rattle.build.proofs.Entries.{Any-of_has, Has-of_any}
use Rattle.build.proofs.Rising.{Rises-has}
use Rattle.combine.specs.Overlay.{Seen, seen_by, some_entry, fits, Split, part, value_in, seen_at}

-- ---- cells
-- A cell lies in one that it overlaps and that is no deeper.
pub lies_in-of_overlap : (d h e g : ℕ) → e ≤ d → overlap d h e g ≡ true → lies_in d h e g ≡ true
lies_in-of_overlap d h e g u o = (lies_in-iff d h e g).1 (u, sym (eqb-true _ _ (sym (overlap-ancestor e g d h u) ∙ overlap-sym e g d h ∙ o)))

-- Two cells in which one cell lies overlap.
pub overlap-of_common : (d h e g f k : ℕ) → lies_in d h e g ≡ true → lies_in d h f k ≡ true → overlap e g f k ≡ true
overlap-of_common d h e g f k t u = (overlap-iff_lies_in e g f k).1 (⊎_map
    (λ m. sym (lies_in-through d h e g f k t m) ∙ u)
    (λ m. sym (lies_in-through d h f k e g u (omega arith)) ∙ t)
    (le_or_lt f e))

-- What does not overlap a cell overlaps nothing in it.
pub apart_of_lies_in : (K d h e g f k : ℕ) → d ≤ K → e ≤ K → f ≤ K → lies_in e g f k ≡ true → overlap d h f k ≡ false → overlap d h e g ≡ false
apart_of_lies_in K d h e g f k u v w t o =
    let p = lies_in-within K e g f k v t in
    (apart_iff_end_le_start K d h e g u v).1 (⊎_map (λ m. omega arith) (λ m. omega arith) ((apart_iff_end_le_start K d h f k u w).0 o))

module _ {A : Type 0} where
  -- ---- tests of entries
  -- Some entry passes a test exactly if there is one that does.
  some_entry-iff : (test : Entry A → Bool) (l : List (Entry A)) → (some_entry test l ≡ true) ↔ Any (λ e. test e ≡ true) l
  unfolding some_entry
  some_entry-iff test [] = (λ q. absurd (false≢true q), absurd)
  some_entry-iff test (e ∷ l) =
      let r = some_entry-iff test l in
      (λ q. ⊎_map (λ t. t) r.0 (or_is_true (test e) (some_entry test l) q), ⊎_elim (λ t. rw t) (λ a. rw (r.1 a, or-true)))

  -- the cell (d, h) overlaps an entry
  abbrev pub Touches : List (Entry A) → ℕ → ℕ → Type 0
  Touches l d h = Any (λ e. overlap d h e.depth e.hash ≡ true) l

  -- ---- fitting
  -- A cell that lies in an entry fits.
  pub fits-of_covers : (l : List (Entry A)) (d h : ℕ) → Covers l d h → fits l d h ≡ true
  unfolding fits
  fits-of_covers l d h c = rw ((some_entry-iff (λ e. lies_in d h e.depth e.hash) l).1 c)

  -- A cell that lies in an entry if it overlaps one fits.
  pub fits-of_touches : (l : List (Entry A)) (d h : ℕ) → (Touches l d h → Covers l d h) → fits l d h ≡ true
  unfolding fits
  fits-of_touches l d h n = go (some_entry (λ e. overlap d h e.depth e.hash) l) refl
    where
      go : (t : Bool) → some_entry (λ e. overlap d h e.depth e.hash) l ≡ t → (some_entry (λ e. lies_in d h e.depth e.hash) l || not t) ≡ true
      go true q = rw ((some_entry-iff (λ e. lies_in d h e.depth e.hash) l).1 (n ((some_entry-iff _ l).0 q)))
      go false q = or-true (some_entry (λ e. lies_in d h e.depth e.hash) l)

  -- A cell that fits and overlaps an entry lies in one.
  pub Covers-of_fits : (l : List (Entry A)) (d h : ℕ) → fits l d h ≡ true → Touches l d h → Covers l d h
  unfolding fits
  Covers-of_fits l d h t c = ⊎_elim (some_entry-iff (λ e. lies_in d h e.depth e.hash) l).0
      (λ n. absurd (false≢true (rw ((some_entry-iff (λ e. overlap d h e.depth e.hash) l).1 c) at n)))
      (or_is_true (some_entry (λ e. lies_in d h e.depth e.hash) l) _ t)

  -- A cell that fits lies in an entry if a cell in it does.
  pub Covers-above : (l : List (Entry A)) (d h e g : ℕ) → lies_in e g d h ≡ true → Covers l e g → fits l d h ≡ true → Covers l d h
  Covers-above l d h e g t c f =
      let m = Has-of_any (LiesIn e g) l c in
      Covers-of_fits l d h f (Any-of_has _ l m.0 m.1 (overlap-of_common e g d h m.0.depth m.0.hash t m.2))

  module _ (split : Split A) where
    -- ---- values
    -- A cell that has a value lies in an entry.
    pub Covers-of_value : (l : List (Entry A)) (d h : ℕ) (x : A) → value_in split l d h ≡ some x → Covers l d h
    unfolding value_in
    Covers-of_value [] d h x q = absurd (none-ne-some x q)
    Covers-of_value (e ∷ l) d h x q = go (lies_in d h e.depth e.hash) refl q (Covers-of_value l d h x)
      where
        go : (t : Bool) → lies_in d h e.depth e.hash ≡ t → cond t (some (part split (d - e.depth) d h e.value)) (value_in split l d h) ≡ some x
            → (value_in split l d h ≡ some x → Covers l d h) → Covers (e ∷ l) d h
        go true t q more = inl t
        go false t q more = inr (more q)

    -- A cell that lies in an entry has a value.
    pub value_of_covers : (l : List (Entry A)) (d h : ℕ) → Covers l d h → (x : A) × (value_in split l d h ≡ some x)
    unfolding value_in
    value_of_covers [] d h c = absurd c
    value_of_covers (e ∷ l) d h c = go (lies_in d h e.depth e.hash) refl c (value_of_covers l d h)
      where
        go : (t : Bool) → lies_in d h e.depth e.hash ≡ t → Covers (e ∷ l) d h → (Covers l d h → (x : A) × (value_in split l d h ≡ some x))
            → (x : A) × (cond t (some (part split (d - e.depth) d h e.value)) (value_in split l d h) ≡ some x)
        go true t c more = (_, refl)
        go false t (inl u) more = absurd (false≢true (sym t ∙ u))
        go false t (inr c) more = more c

    -- A cell that lies in no entry has none.
    pub value_of_none : (l : List (Entry A)) (d h : ℕ) → (Covers l d h → ⊥) → value_in split l d h ≡ none
    value_of_none l d h n = go (value_in split l d h) refl
      where
        go : (o : Option A) → value_in split l d h ≡ o → o ≡ none
        go none q = refl
        go (some x) q = absurd (n (Covers-of_value l d h x q))

    -- In a list that rises a cell has the value from any entry that it lies in: there is only one.
    pub value_of_has : (K a b : ℕ) (l : List (Entry A)) (d h : ℕ) (e : Entry A) → Rises K a b l → d ≤ K → Has l e → LiesIn d h e → value_in split l d h ≡ some (part split (d - e.depth) d h e.value)
    unfolding value_in
    value_of_has K a b [] d h e r u m t = absurd m
    value_of_has K a b (c ∷ l) d h e r u (inl q) t = rw (← q, t)
    value_of_has K a b (c ∷ l) d h e r u (inr m) t =
        let p = Rises-has K (end_of K c) b l e r.2 m in
        let w = lies_in-within K d h e.depth e.hash u t in
        let n : lies_in d h c.depth c.hash ≡ false = is_false _ (λ v. omega (arith, lies_in-within K d h c.depth c.hash u v, start-lt_end K d h)) in
        rw n (value_of_has K (end_of K c) b l d h e r.2 u m t)

    -- two lists look alike from the cell (d, h)
    abbrev pub Alike : List (Entry A) → List (Entry A) → ℕ → ℕ → Type 0
    Alike l m d h = (value_in split l d h ≡ value_in split m d h) × (fits l d h ≡ fits m d h)

    pub Alike-trans : (k l m : List (Entry A)) (d h : ℕ) → Alike k l d h → Alike l m d h → Alike k m d h
    Alike-trans k l m d h p q = (p.0 ∙ q.0, p.1 ∙ q.1)

    -- An entry that the cell does not overlap makes no difference.
    pub Alike-without : (e : Entry A) (l : List (Entry A)) (d h : ℕ) → overlap d h e.depth e.hash ≡ false → Alike (e ∷ l) l d h
    unfolding value_in fits some_entry
    Alike-without e l d h o =
        let n : lies_in d h e.depth e.hash ≡ false = is_false _ (λ t. false≢true (sym o ∙ (overlap-iff_lies_in d h e.depth e.hash).1 (inl t))) in
        (rw n, rw (n, o))

    -- ---- what is seen
    -- The rule sees a cell exactly if it lies in an entry of at least one map.
    pub Covers-of_seen : (l r : List (Entry A)) (d h : ℕ) (s : Seen A) → seen_at split l r d h ≡ some s → Covers l d h ⊎ Covers r d h
    Covers-of_seen l r d h s q = go (value_in split l d h) (value_in split r d h) refl refl q
      where
        go : (x y : Option A) → value_in split l d h ≡ x → value_in split r d h ≡ y → seen_by x y ≡ some s → Covers l d h ⊎ Covers r d h
        go none none p q e = absurd (none-ne-some s e)
        go (some x) none p q e = inl (Covers-of_value l d h x p)
        go none (some y) p q e = inr (Covers-of_value r d h y q)
        go (some x) (some y) p q e = inl (Covers-of_value l d h x p)

    pub unseen_covers_none : (l r : List (Entry A)) (d h : ℕ) → seen_at split l r d h ≡ none → Covers l d h ⊎ Covers r d h → ⊥
    unseen_covers_none l r d h n = ⊎_elim
        (λ c. let v = value_of_covers l d h c in no_left v.0 (value_in split r d h) (rw v.1 at n))
        (λ c. let v = value_of_covers r d h c in no_right (value_in split l d h) v.0 (rw v.1 at n))
      where
        no_left : (x : A) (o : Option A) → seen_by (some x) o ≡ none → ⊥
        no_left x none q = none-ne-some _ (sym q)
        no_left x (some y) q = none-ne-some _ (sym q)

        no_right : (o : Option A) (y : A) → seen_by o (some y) ≡ none → ⊥
        no_right none y q = none-ne-some _ (sym q)
        no_right (some x) y q = none-ne-some _ (sym q)
