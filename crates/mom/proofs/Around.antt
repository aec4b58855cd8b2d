-- What lookup finds around the place to which the query's zuniq leads: in a valid map the entries that overlap the query
-- stand there without a gap. Over any largest depth K. Assumes nothing.
use mathlib.Core.Path.{◌≡◌, refl, sym, ap, ◌∙◌}
use mathlib.Core.Bool.{true, false, false≢true}
use mathlib.Core.Logic.{◌⊎◌, inl, inr, ⊎_elim}
use mathlib.Core.List.{List}
use Prim.Native.Nat.{ℕ, ◌+◌, ◌-◌, ◌≤◌, ◌<◌}
use native.Mathlib.Nat.{le_of_lt}
use native.Mathlib.Omega.{arith}
use lib.ListN.{length, get_or, take, drop, length-take, length-drop}
use Rattle.zuniq.proofs.Basics.{is_false, le_or_lt}
use Rattle.zuniq.proofs.Ranges.{start-lt_end}
use Rattle.mom.specs.declared.ZuniqRange.{ZuniqRange}
use Rattle.mom.specs.declared.lookup.Run.{Run}
use Rattle.mom.specs.Map.{overlaps, ValidMap}
use Rattle.mom.specs.Lookup.{overlapped, first_from}
use Rattle.mom.specs.Search.{LowerBound, OverlapsBefore, OverlapsFrom}
use Rattle.mom.proofs.Overlaps.{overlaps-sym, overlaps-iff_meets, overlaps-iff_starts_before}
use Rattle.mom.proofs.Ranges.{HasRange, overlaps-meets}
use Rattle.mom.proofs.Valid.{valid_entry, ranges_rise}
use Rattle.mom.proofs.Runs.{first_found, first_none, overlapped-part}

abbrev pub run : ℕ → ℕ → Run
run first len = record { first = first; len = len }

-- The entries found on both sides of the place overlap the query, in any list.
pub all_found : {K q place first last : ℕ} {zs : List ℕ} {r : ZuniqRange} → HasRange K q r
    → OverlapsBefore K zs r place first → OverlapsFrom K zs r place last → (i : ℕ) → first ≤ i → i < last → overlaps K q (get_or zs i 0) ≡ true
all_found {place = place} {zs = zs} h before from i l m =
    overlaps-meets h (get_or zs i 0) ∙ ⊎_elim (λ a. from.all i a m) (λ a. before.all i l a) (le_or_lt place i)

module _ {K D q : ℕ} {zs : List ℕ} (v : ValidMap K D zs) {query : ZuniqRange} (h : HasRange K q query) where
  -- An entry below the query overlaps it if one before that does.
  overlaps-left : (i j : ℕ) → i < j → j < length zs → get_or zs j 0 < q → overlaps K q (get_or zs i 0) ≡ true → overlaps K q (get_or zs j 0) ≡ true
  overlaps-left i j l m b t =
      let x = valid_entry v i (omega arith) in
      let y = valid_entry v j m in
      let s = start-lt_end K y.depth y.hash in
      let r = ranges_rise v i j l m x.is y.is in
      overlaps-sym K q (get_or zs j 0) ∙ (overlaps-iff_starts_before y.is h.valid (le_of_lt b)).1 (omega (arith, (overlaps-iff_meets h.valid x.is).0 t))

  -- One that is not below the query overlaps it if one behind that does.
  overlaps-right : (i j : ℕ) → i < j → j < length zs → q ≤ get_or zs i 0 → overlaps K q (get_or zs j 0) ≡ true → overlaps K q (get_or zs i 0) ≡ true
  overlaps-right i j l m b t =
      let x = valid_entry v i (omega arith) in
      let y = valid_entry v j m in
      let s = start-lt_end K x.depth x.hash in
      let r = ranges_rise v i j l m x.is y.is in
      (overlaps-iff_starts_before h.valid x.is b).1 (omega (arith, (overlaps-iff_meets h.valid y.is).0 t))

  module _ {place : ℕ} (at : LowerBound zs q place) where
    -- The entries before the place are below the query, the others are not.
    below_place : (i : ℕ) → i < place → get_or zs i 0 < q
    below_place i l =
        ⊎_elim (λ a. let here : i ≡ place - 1 = omega arith in rw here (at.below (omega arith)))
        (λ a. omega (arith, v.rising i (place - 1) a (omega (arith, at.within)), at.below (omega arith))) (le_or_lt (place - 1) i)

    not_below_place : (i : ℕ) → place ≤ i → i < length zs → q ≤ get_or zs i 0
    not_below_place i l m =
        ⊎_elim (λ a. let here : i ≡ place = omega arith in rw here (at.above (omega arith)))
        (λ a. omega (arith, v.rising place i a m, at.above (omega arith))) (le_or_lt i place)

    -- No entry before those found overlaps the query.
    pub none_before : {first : ℕ} → OverlapsBefore K zs query place first → (i : ℕ) → i < first → overlaps K q (get_or zs i 0) ≡ false
    none_before {first} found i l = is_false _ (λ t. false≢true (sym (found.stops (omega arith)) ∙ sym (overlaps-meets h (get_or zs (first - 1) 0)) ∙ last t))
      where
        last : overlaps K q (get_or zs i 0) ≡ true → overlaps K q (get_or zs (first - 1) 0) ≡ true
        last t =
            ⊎_elim (λ a. let here : first - 1 ≡ i = omega arith in rw here t)
            (λ a. overlaps-left i (first - 1) a (omega (arith, found.within, at.within)) (below_place (first - 1) (omega (arith, found.within))) t) (le_or_lt (first - 1) i)

    -- No entry behind those found overlaps it.
    pub none_from : {last : ℕ} → OverlapsFrom K zs query place last → (i : ℕ) → last ≤ i → i < length zs → overlaps K q (get_or zs i 0) ≡ false
    none_from {last} found i l m = is_false _ (λ t. false≢true (sym (found.stops (omega arith)) ∙ sym (overlaps-meets h (get_or zs last 0)) ∙ next t))
      where
        next : overlaps K q (get_or zs i 0) ≡ true → overlaps K q (get_or zs last 0) ≡ true
        next t =
            ⊎_elim (λ a. let here : last ≡ i = omega arith in rw here t)
            (λ a. overlaps-right last i a m (not_below_place last found.from (omega arith)) t) (le_or_lt i last)

    module _ {first last : ℕ} (before : OverlapsBefore K zs query place first) (from : OverlapsFrom K zs query place last) where
      outside : (i : ℕ) → (i < first) ⊎ (last ≤ i) → i < length zs → overlaps K q (get_or zs i 0) ≡ false
      outside i (inl l) m = none_before before i l
      outside i (inr l) m = none_from from i l m

      found_part : (len : ℕ) → first + len ≡ last → overlapped K zs q ≡ take len (drop first zs)
      found_part len n =
          overlapped-part K q zs first len (omega (arith, from.within)) (λ j l. outside j (inl l) (omega (arith, before.within, at.within)))
          (λ j l m. all_found h before from j l (omega arith)) (λ j l m. outside j (inr (omega arith)) m)

      -- The entries found are the run.
      pub run_found : first < last → run (first_from K q 0 zs) (length (overlapped K zs q)) ≡ run first (last - first)
      run_found l =
          let f : first_from K q 0 zs ≡ first = first_found K q zs first 0 (omega (arith, from.within)) (all_found h before from first (omega arith) l) (λ j m. outside j (inl m) (omega (arith, from.within))) ∙ omega arith in
          let k : length (overlapped K zs q) ≡ last - first = ap length (found_part (last - first) (omega arith)) ∙ simp (length-take, length-drop) (omega (arith, from.within)) in
          rw (f, k) refl

      -- Where none is found, none overlaps the query.
      pub run_none : last ≤ first → run (first_from K q 0 zs) (length (overlapped K zs q)) ≡ run 0 0
      run_none l =
          let f : first_from K q 0 zs ≡ 0 = first_none K q zs 0 (λ j m. ⊎_elim (λ a. outside j (inr a) m) (λ a. outside j (inl (omega arith)) m) (le_or_lt last j)) in
          let k : length (overlapped K zs q) ≡ 0 = ap length (found_part 0 (omega (arith, before.within, from.from))) in
          rw (f, k) refl
