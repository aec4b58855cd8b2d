-- The laws of whole cells: how a cell comes to be whole, and that over a list that rises a whole cell is not inside a listed
-- one. Assumes nothing.
use mathlib.Core.Path.{◌≡◌, refl, ap, sym, ◌∙◌}
use mathlib.Core.Bool.{Bool, true, false, cond, false≢true}
use mathlib.Core.List.{List, [], ◌∷◌}
use mathlib.Core.Logic.{inl, inr}
use mathlib.Core.Option.{Option, none, some, none-ne-some}
use Prim.Native.Nat.{ℕ, zero, suc, ◌+◌, ◌*◌, ◌-◌, ◌≤◌, ◌<◌}
use native.Mathlib.Omega.{arith}
use Rattle.zuniq.specs.Cells.{lies_in}
use Rattle.zuniq.proofs.Ranges.{lies_in-iff, lies_in-self, lies_in-trans, child_lies_in_parent, lies_in-within}
use Rattle.build.specs.Map.{Entry, entry, is_cell, Merger, listed, merged, whole}
use Rattle.build.specs.Promises.{Has, Rises, IsWhole}
use Rattle.build.proofs.Entries.{is_cell-true, is_cell-self}
use Rattle.build.proofs.Rising.{range_of, Rises-has, Rises-same}
use Rattle.build.proofs.Steps.{Merges}

module _ {A : Type 0} where
  -- ---- listed cells
  -- A cell that is listed with a value is an entry of the list.
  pub listed_has : (l : List (Entry A)) (d h : ℕ) (x : A) → listed l d h ≡ some x → Has l (entry d h x)
  unfolding listed
  listed_has [] d h x q = none-ne-some _ q
  listed_has (e ∷ l) d h x q = go (is_cell d h e) refl q (listed_has l d h x)
    where
      go : (t : Bool) → is_cell d h e ≡ t → cond t (some e.value) (listed l d h) ≡ some x → (listed l d h ≡ some x → Has l (entry d h x)) → Has (e ∷ l) (entry d h x)
      go true t q more = let v : e.value ≡ x = cc in inl (sym (is_cell-true d h e t ∙ ap (entry d h) v))
      go false t q more = inr (more q)

  -- A cell that is not listed is no entry of the list.
  pub not_listed : (l : List (Entry A)) (d h : ℕ) (x : A) → listed l d h ≡ none → Has l (entry d h x) → ⊥
  unfolding listed
  not_listed [] d h x q m = m
  not_listed (e ∷ l) d h x q m = go (is_cell d h e) refl q m (not_listed l d h x)
    where
      go : (t : Bool) → is_cell d h e ≡ t → cond t (some e.value) (listed l d h) ≡ none → Has (e ∷ l) (entry d h x) → (listed l d h ≡ none → Has l (entry d h x) → ⊥) → ⊥
      go true t q m more = none-ne-some _ (sym q)
      go false t q (inl p) more = false≢true (sym t ∙ ap (is_cell d h) (sym p) ∙ is_cell-self d h x)
      go false t q (inr m) more = more q m

  -- In a list that rises a cell is listed with one value only.
  pub listed-of_has : (K a b : ℕ) (l : List (Entry A)) (e : Entry A) → Rises K a b l → Has l e → listed l e.depth e.hash ≡ some e.value
  listed-of_has K a b l e r m = go (listed l e.depth e.hash) refl
    where
      go : (o : Option A) → listed l e.depth e.hash ≡ o → o ≡ some e.value
      go none q = absurd (not_listed l e.depth e.hash e.value q m)
      go (some x) q =
          let s : entry e.depth e.hash x ≡ e = Rises-same K a b l _ e r (listed_has l e.depth e.hash x q) m (range_of K e) (range_of K e) in
          ap (λ (c : Entry A). some c.value) s

module _ {A : Type 0} (accept : Merger A) (l : List (Entry A)) where
  -- ---- how a cell is whole
  -- A listed cell is whole, with the listed value.
  pub whole-listed : (n d h : ℕ) (x : A) → listed l d h ≡ some x → whole accept l n d h ≡ some x
  unfolding whole
  whole-listed zero d h x q = q
  whole-listed (suc n) d h x q = rw (whole, q)

  -- A cell that is not listed is whole as its children are merged.
  pub whole-merged : (n d h : ℕ) → listed l d h ≡ none
      → whole accept l (suc n) d h ≡ merged accept d h (whole accept l n (suc d) (4 * h + 0)) (whole accept l n (suc d) (4 * h + 1)) (whole accept l n (suc d) (4 * h + 2)) (whole accept l n (suc d) (4 * h + 3))
  unfolding whole
  whole-merged n d h q = rw (whole, q)

  -- The paper's sentence, as the ways in which the cell (d, h), with n depths below it, is whole with value x.
  pub data Whole : ℕ → ℕ → ℕ → A → Type 0 where
    by_list : {n d h : ℕ} {x : A} → listed l d h ≡ some x → Whole n d h x
    by_merging : {n d h : ℕ} {a b c e x : A} → listed l d h ≡ none
        → Whole n (suc d) (4 * h + 0) a → Whole n (suc d) (4 * h + 1) b → Whole n (suc d) (4 * h + 2) c → Whole n (suc d) (4 * h + 3) e
        → accept d h a b c e ≡ some x → Whole (suc n) d h x

  -- Where four are merged, each of them is whole.
  of_four : (n d h : ℕ) (x : A) (o0 o1 o2 o3 : Option A) → listed l d h ≡ none
      → ((y : A) → o0 ≡ some y → Whole n (suc d) (4 * h + 0) y) → ((y : A) → o1 ≡ some y → Whole n (suc d) (4 * h + 1) y)
      → ((y : A) → o2 ≡ some y → Whole n (suc d) (4 * h + 2) y) → ((y : A) → o3 ≡ some y → Whole n (suc d) (4 * h + 3) y)
      → merged accept d h o0 o1 o2 o3 ≡ some x → Whole (suc n) d h x
  of_four n d h x none o1 o2 o3 u w0 w1 w2 w3 q = absurd (none-ne-some _ q)
  of_four n d h x (some a) none o2 o3 u w0 w1 w2 w3 q = absurd (none-ne-some _ q)
  of_four n d h x (some a) (some b) none o3 u w0 w1 w2 w3 q = absurd (none-ne-some _ q)
  of_four n d h x (some a) (some b) (some c) none u w0 w1 w2 w3 q = absurd (none-ne-some _ q)
  of_four n d h x (some a) (some b) (some c) (some e) u w0 w1 w2 w3 q = by_merging u (w0 a refl) (w1 b refl) (w2 c refl) (w3 e refl) q

  -- A cell is whole in one of these ways, and in no other.
  pub whole_is : (n d h : ℕ) (x : A) → whole accept l n d h ≡ some x → Whole n d h x
  unfolding whole
  whole_is zero d h x q = by_list q
  whole_is (suc n) d h x q = go (listed l d h) refl (λ i. whole_is n (suc d) (4 * h + i))
    where
      go : (o : Option A) → listed l d h ≡ o → ((i : ℕ) (y : A) → whole accept l n (suc d) (4 * h + i) ≡ some y → Whole n (suc d) (4 * h + i) y) → Whole (suc n) d h x
      go (some y) u more = by_list (u ∙ sym (whole-listed (suc n) d h y u) ∙ q)
      go none u more = of_four n d h x _ _ _ _ u (more 0) (more 1) (more 2) (more 3) (sym (whole-merged n d h u) ∙ q)

  pub is_whole : (n d h : ℕ) (x : A) → Whole n d h x → whole accept l n d h ≡ some x
  is_whole n d h x (by_list q) = whole-listed n d h x q
  is_whole n d h x (by_merging {n = m} {a = a} {b = b} {c = c} {e = e} u w0 w1 w2 w3 q) =
      whole-merged m d h u ∙ rw (is_whole m _ _ a w0, is_whole m _ _ b w1, is_whole m _ _ c w2, is_whole m _ _ e w3) q

  -- A whole cell has a listed cell in it.
  pub whole_has_listed : (n d h : ℕ) (x : A) → Whole n d h x → (c : Entry A) × Has l c × (lies_in c.depth c.hash d h ≡ true)
  whole_has_listed n d h x (by_list q) = (entry d h x, listed_has l d h x q, lies_in-self d h)
  whole_has_listed n d h x (by_merging {n = m} {a = a} u w0 w1 w2 w3 q) =
      let r = whole_has_listed m (suc d) (4 * h + 0) a w0 in
      (r.0, r.1, lies_in-trans _ _ (suc d) (4 * h + 0) d h r.2 (child_lies_in_parent d h 0 (omega arith)))

  module _ (K a b : ℕ) (rises : Rises K a b l) where
    -- No whole cell is inside a listed one.
    pub listed-has_no_whole : (d h : ℕ) (y : A) (n e g : ℕ) (x : A) → listed l d h ≡ some y → Whole n e g x → lies_in e g d h ≡ true → d < e → ⊥
    listed-has_no_whole d h y n e g x q w t u =
        let r = whole_has_listed n e g x w in
        let c = r.0 in
        let low = Rises-has K a b l c rises r.1 in
        let within = lies_in-within K c.depth c.hash d h low.0 (lies_in-trans c.depth c.hash e g d h r.2 t) in
        let same : entry d h y ≡ c = Rises-same K a b l (entry d h y) c rises (listed_has l d h y q) r.1 (omega (arith, within, range_of K c)) (omega (arith, within, range_of K c)) in
        let deep : d ≡ c.depth = ap (λ (z : Entry A). z.depth) same in
        omega (arith, ((lies_in-iff c.depth c.hash e g).0 r.2).0)

    -- A cell that is merged from whole ones is whole.
    pub whole_merges : Merges accept (λ e. (e.depth ≤ K) × IsWhole accept K l e)
    whole_merges d h v0 v1 v2 v3 x q w0 w1 w2 w3 =
        let z : K - d ≡ suc (K - suc d) = omega (arith, w0.0) in
        (omega (arith, w0.0), rw z (go (listed l d h) refl))
      where
        go : (o : Option A) → listed l d h ≡ o → whole accept l (suc (K - suc d)) d h ≡ some x
        go none u = whole-merged (K - suc d) d h u ∙ rw (w0.1, w1.1, w2.1, w3.1) q
        go (some y) u = absurd (listed-has_no_whole d h y (K - suc d) (suc d) (4 * h + 0) v0 u (whole_is _ _ _ _ w0.1) (child_lies_in_parent d h 0 (omega arith)) (omega arith))

    -- An entry of the list is whole.
    pub Has-is_whole : (e : Entry A) → Has l e → (e.depth ≤ K) × IsWhole accept K l e
    Has-is_whole e m = ((Rises-has K a b l e rises m).0, whole-listed (K - e.depth) e.depth e.hash e.value (listed-of_has K a b l e rises m))
