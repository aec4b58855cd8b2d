-- The defined map, by its definition: it rises, and its entries are all whole cells with no whole cell above them.
-- Assumes nothing.
use mathlib.Core.Path.{◌≡◌, refl, sym, ◌∙◌}
use mathlib.Core.Bool.{true}
use mathlib.Core.List.{List, []}
use mathlib.Core.Logic.{◌⊎◌, inl, inr, ⊎_elim, ◌↔◌}
use mathlib.Core.Option.{Option, none, some, none-ne-some}
use Prim.Native.Nat.{ℕ, zero, suc, ◌+◌, ◌*◌, ◌/◌, ◌-◌, ◌^◌, ◌≤◌, ◌<◌}
use native.Mathlib.Omega.{arith}
use native.Mathlib.Nat.{eq-or-lt_of_le, add-suc, sub-zero, div-lt_iff_lt-mul}
use Rattle.zuniq.specs.Cells.{n_hash, lies_in, start, end}
use Rattle.zuniq.proofs.Basics.{four_pow_pos}
use Rattle.zuniq.proofs.Ranges.{lies_in-iff, lies_in-self, lies_in-same_depth, lies_in-trans, child_lies_in_parent, lies_in-iff_some_child, start-lt_end, start-first_child, end-last_child, end-is_next_start}
use Rattle.build.specs.Map.{Entry, Merger, itself_or, joined, whole, tops, defined_map}
use Rattle.build.specs.Promises.{Has, Rises, IsWhole}
use Rattle.build.proofs.Entries.{entry-is, Any-joined}
use Rattle.build.proofs.Rising.{Rises-joined}

-- A cell in range lies in one of the twelve base cells.
pub base_lt : (d h : ℕ) → h < n_hash d → h / 4 ^ (d - 0) < 12
unfolding n_hash
base_lt d h u = (div-lt_iff_lt-mul (four_pow_pos (d - 0))).1 (rw sub-zero u)

-- The twelve base cells part the sky.
sky_start : (K : ℕ) → start K 0 0 ≡ 0
unfolding start
sky_start K = omega arith

sky_end : (K : ℕ) → start K 0 12 ≡ n_hash K
unfolding start n_hash
sky_end K = rw sub-zero

module _ {A : Type 0} (accept : Merger A) (K : ℕ) (l : List (Entry A)) where
  -- A whole cell in (d, h) with no whole cell above it, of those in (d, h).
  pub record Top (d h : ℕ) (e : Entry A) : Type 0 where
    pub inside : lies_in e.depth e.hash d h ≡ true
    pub deep : e.depth ≤ K
    pub is : IsWhole accept K l e
    pub above : (a b : ℕ) → d ≤ a → a < e.depth → lies_in e.depth e.hash a b ≡ true → (y : A) → whole accept l (K - a) a b ≡ some y → ⊥

  -- A top of (d, h) is (d, h) itself, with its value, or deeper.
  itself_or_deeper : (n d h : ℕ) (e : Entry A) → d + n ≡ K → Top d h e → ((e.depth ≡ d) × (e.hash ≡ h) × (whole accept l n d h ≡ some e.value)) ⊎ (d < e.depth)
  itself_or_deeper n d h e k t = ⊎_elim (λ q. inl (same (sym q))) inr (eq-or-lt_of_le ((lies_in-iff e.depth e.hash d h).0 t.inside).0)
    where
      same : e.depth ≡ d → (e.depth ≡ d) × (e.hash ≡ h) × (whole accept l n d h ≡ some e.value)
      same q =
          let g : e.hash ≡ h = lies_in-same_depth d e.hash h (rw q at t.inside) in
          let z : K - d ≡ n = omega arith in
          (q, g, rw (q, g, z) at t.is)

  -- The cell (d, h) alone, if it is whole, has the tops if what stands for them otherwise does.
  Has-itself : (n d h : ℕ) (e : Entry A) (inside : List (Entry A)) → d + n ≡ K → (whole accept l n d h ≡ none → Has inside e ↔ Top d h e)
      → Has (itself_or d h (whole accept l n d h) inside) e ↔ Top d h e
  Has-itself n d h e inside k more = go (whole accept l n d h) refl
    where
      z : K - d ≡ n
      z = omega arith

      go : (o : Option A) → whole accept l n d h ≡ o → Has (itself_or d h o inside) e ↔ Top d h e
      go none q = more q
      go (some x) q = (
        ⊎_elim (λ p. rw p (record { inside = lies_in-self d h; deep = omega arith; is = rw z q; above = λ a b u v. absurd (omega arith) })) absurd,
        λ t. inl (⊎_elim
            (λ s. entry-is e d h x s.0 s.1 (let w = s.2 in cc))
            (λ v. absurd (t.above d h (omega arith) v t.inside x (rw z q)))
            (itself_or_deeper n d h e k t)),
      )

  -- A top of a child is one of the parent, if the parent is not whole.
  child_top : (d h i : ℕ) (e : Entry A) → whole accept l (K - d) d h ≡ none → i < 4 → Top (suc d) (4 * h + i) e → Top d h e
  child_top d h i e q u t = record {
    inside = inside;
    deep = t.deep;
    is = t.is;
    above = λ a b v w c y m. ⊎_elim
        (λ z.
        let p = ((lies_in-iff e.depth e.hash a b).0 c).1 in
        let g : b ≡ h = sym p ∙ rw z at ((lies_in-iff e.depth e.hash d h).0 inside).1 in
        none-ne-some _ (sym q ∙ rw (← z, g) at m))
        (λ v. t.above a b v w c y m)
        (eq-or-lt_of_le v);
  }
    where
      inside : lies_in e.depth e.hash d h ≡ true
      inside = lies_in-trans _ _ (suc d) (4 * h + i) d h t.inside (child_lies_in_parent d h i u)

  -- The entries of the map in (d, h) are its tops.
  Has-tops : (n d h : ℕ) (e : Entry A) → d + n ≡ K → Has (tops accept l n d h) e ↔ Top d h e
  unfolding tops
  Has-tops zero d h e k = Has-itself zero d h e [] k (λ q. (
    absurd,
    λ t. ⊎_elim
        (λ s. none-ne-some _ (sym q ∙ s.2)) (λ v. absurd (omega (arith, t.deep))) (itself_or_deeper zero d h e k t),
  ))
  Has-tops (suc n) d h e k = Has-itself (suc n) d h e (joined 4 (λ i. tops accept l n (suc d) (4 * h + i))) k (λ q. (
    λ m.
        let c = (Any-joined (λ y. e ≡ y) 4 (λ i. tops accept l n (suc d) (4 * h + i))).0 m in
        child_top d h c.0 e (rw z at q) c.1 ((Has-tops n (suc d) (4 * h + c.0) e (omega arith)).0 c.2),
    λ t. ⊎_elim
        (λ s. absurd (none-ne-some _ (sym q ∙ s.2)))
        (λ v.
        let c = (lies_in-iff_some_child e.depth e.hash d h v).0 t.inside in
        (Any-joined (λ y. e ≡ y) 4 (λ i. tops accept l n (suc d) (4 * h + i))).1 (
          c.0,
          c.1,
          (Has-tops n (suc d) (4 * h + c.0) e (omega arith)).1 (record {
            inside = c.2;
            deep = t.deep;
            is = t.is;
            above = λ a b u. t.above a b (omega arith);
          }),
        ))
        (itself_or_deeper (suc n) d h e k t),
  ))
    where
      z : suc n ≡ K - d
      z = omega arith

  -- "The map is all whole cells" with no whole cell above them.
  pub defined_map-has : (e : Entry A) → Has (defined_map accept K l) e ↔ ((h : ℕ) × (h < 12) × Top 0 h e)
  unfolding defined_map
  defined_map-has e =
      let j = Any-joined (λ y. e ≡ y) 12 (λ h. tops accept l K 0 h) in (
        λ m. let c = j.0 m in (c.0, c.1, (Has-tops K 0 c.0 e (omega arith)).0 c.2),
        λ t. j.1 (t.0, t.1, (Has-tops K 0 t.0 e (omega arith)).1 t.2),
      )

  -- ---- rising
  itself_rises : (n d h : ℕ) (inside : List (Entry A)) → d + n ≡ K → Rises K (start K d h) (end K d h) inside → Rises K (start K d h) (end K d h) (itself_or d h (whole accept l n d h) inside)
  itself_rises n d h inside k r = go (whole accept l n d h)
    where
      go : (o : Option A) → Rises K (start K d h) (end K d h) (itself_or d h o inside)
      go none = r
      go (some x) = (omega arith, omega arith, omega arith)

  tops-rise : (n d h : ℕ) → d + n ≡ K → Rises K (start K d h) (end K d h) (tops accept l n d h)
  unfolding tops
  tops-rise zero d h k = itself_rises zero d h [] k (omega (arith, start-lt_end K d h))
  tops-rise (suc n) d h k =
      let next : (i : ℕ) → end K (suc d) (4 * h + i) ≡ start K (suc d) (4 * h + suc i) = λ i. rw add-suc (end-is_next_start K (suc d) (4 * h + i)) in
      let first = start-first_child K d h (omega arith) in
      let last : start K (suc d) (4 * h + 4) ≡ end K d h = sym (next 3) ∙ end-last_child K d h (omega arith) in
      itself_rises (suc n) d h _ k (rw (first, last) at
      (Rises-joined K 4 (λ i. start K (suc d) (4 * h + i)) (λ i. tops accept l n (suc d) (4 * h + i)) (λ i u. rw (next i) at (tops-rise n (suc d) (4 * h + i) (omega arith)))))

  -- "rising by zuniq", by ranges: over any list the map rises, and it is within the sky.
  pub defined_map-rises : Rises K 0 (n_hash K) (defined_map accept K l)
  unfolding defined_map
  defined_map-rises =
      rw (sky_start, sky_end) at (Rises-joined K 12 (start K 0) (λ h. tops accept l K 0 h) (λ h u. rw (end-is_next_start K 0 h) at (tops-rise K 0 h (omega arith))))
