-- The answers of lookup meet their contracts. Over any largest depth K. Assumes nothing.
use mathlib.Core.Path.{◌≡◌, refl, sym, ap, ◌∙◌}
use mathlib.Core.Bool.{true, false}
use mathlib.Core.Logic.{⊎_elim}
use mathlib.Core.List.{List, map}
use Prim.Native.Nat.{ℕ, ◌+◌, ◌*◌, ◌-◌, ◌≤◌, ◌<◌}
use native.Mathlib.Omega.{arith}
use lib.ListN.{length, get_or, take, drop, length-take, length-drop}
use Rattle.std.proofs.lemmas.List.{take-map, drop-map}
use denote.Ref.{Bor}
use borrow.Author.Tests.{lt-ltb, le-ltb, eq-eqb, ne_eqb}
use Rattle.std.specs.Prelude.{None, Some, Result, Ok, Err}
use Rattle.zuniq.specs.Codec.{IsZuniqOf, decode}
use Rattle.refusal.specs.declared.Refusal.{Refusal}
use Rattle.zuniq.specs.declared.Cell.{Cell}
use Rattle.zuniq.specs.declared.Decoded.{Decoded}
use Rattle.zuniq.proofs.Basics.{is_false, le_or_lt}
use Rattle.zuniq.proofs.Numbers.{length-numbers}
use Rattle.mom.specs.declared.ZuniqRange.{ZuniqRange}
use Rattle.mom.specs.declared.lookup.Run.{Run}
use Rattle.mom.specs.declared.lookup.Overlapped.{Overlapped}
use Rattle.mom.specs.Map.{overlaps, ValidMap}
use Rattle.mom.specs.Lookup.{contains, place_from, query_at, containing, overlapped, first_from, run_or, overlapping, part_of, address_of, IsPart, the_run, run_of, ContainingAnswer, RunAnswer, OverlappedAnswer}
use Rattle.mom.specs.Range.{range_of, meets}
use Rattle.mom.specs.Search.{LowerBound, OverlapsBefore, OverlapsFrom}
use Rattle.mom.proofs.Overlaps.{contains-shallower}
use Rattle.mom.proofs.Ranges.{HasRange, has_none, overlaps-meets}
use Rattle.mom.proofs.Valid.{valid_entry, contains-once}
use Rattle.mom.proofs.Runs.{place_found, place_none, overlapping-part}
use Rattle.mom.proofs.Around.{run, all_found, none_before, none_from, run_found, run_none}

-- ---- containing
-- A query of the map's depth is looked for.
is_place : (K D : ℕ) (zs : List ℕ) (q : ℕ) (c : Cell) → D ≤ K → decode K q ≡ Decoded.Cell c → c.depth ≡ D → containing K D zs q ≡ Ok (place_from K q 0 zs)
unfolding containing query_at
is_place K D zs q c k e at_depth = rw (le-ltb K D k, e, eq-eqb c.depth D at_depth) refl

-- An entry of a valid map contains such a query exactly if it overlaps it.
contains-overlaps : {K D : ℕ} {zs : List ℕ} → ValidMap K D zs → (q : ℕ) (c : Cell) → IsZuniqOf K q c.depth c.hash → c.depth ≡ D
    → (i : ℕ) → i < length zs → contains K q (get_or zs i 0) ≡ overlaps K q (get_or zs i 0)
contains-overlaps v q c w at_depth i l = let x = valid_entry v i l in contains-shallower w x.is (omega (arith, x.shallow, at_depth))

module _ {K D : ℕ} {zs : List ℕ} {q : ℕ} where
  refused_answer : (x : Refusal) → containing K D zs q ≡ Err x → ContainingAnswer K D zs q (Err x)
  refused_answer x e = record {
    over_valid = λ v. sym e;
    refused = λ y. (λ r. e ∙ r, λ r. sym e ∙ r);
    shown = λ i r. let n : ◌≡◌ {A = ℕ} 0 1 = cc in absurd (omega arith);
  }

  -- The depth is over the largest.
  pub depth_refused : K < D → ContainingAnswer K D zs q (Err Refusal.DepthOutOfRange)
  unfolding containing
  depth_refused l = refused_answer Refusal.DepthOutOfRange (rw (lt-ltb K D l) refl)

  module _ (k : D ≤ K) where
    -- The query is no zuniq.
    pub not_zuniq_refused : range_of K q ≡ None → ContainingAnswer K D zs q (Err (Refusal.InvalidQuery 0))
    unfolding containing query_at
    not_zuniq_refused e = refused_answer (Refusal.InvalidQuery 0) (rw (le-ltb K D k, has_none K q e) refl)

    module _ {query : ZuniqRange} (h : HasRange K q query) where
      -- The query is not of the map's depth.
      pub not_at_depth_refused : (query.depth ≡ D → ⊥) → ContainingAnswer K D zs q (Err (Refusal.InvalidQuery 0))
      unfolding containing query_at
      not_at_depth_refused n =
          refused_answer (Refusal.InvalidQuery 0) (rw (le-ltb K D k, h.decoded, ne_eqb h.cell.depth D (λ same. n (h.deep ∙ same))) refl)

      module _ (at_depth : query.depth ≡ D) where
        -- An entry that overlaps the query is shown.
        pub at_answer : {i : ℕ} → i < length zs → meets K query (get_or zs i 0) ≡ true → ContainingAnswer K D zs q (Ok (Some i))
        at_answer {i} l t =
            let at_D = sym h.deep ∙ at_depth in
            let is = is_place K D zs q h.cell k h.decoded at_D in
            let o = overlaps-meets h (get_or zs i 0) ∙ t in
            record {
              over_valid = λ v.
                  let u = contains-overlaps v q h.cell h.valid at_D i l ∙ o in
                  let z : 0 + i ≡ i = omega arith in
                  sym (is ∙ ap Ok (rw z at (place_found K q zs i 0 l u (λ j m. is_false _ (λ s. absurd (omega (arith, contains-once v q j i (omega arith) l s u)))))));
              refused = λ x. (λ r. let n : ◌≡◌ {A = ℕ} 0 1 = cc in absurd (omega arith), λ r. let w = sym is ∙ r in let n : ◌≡◌ {A = ℕ} 0 1 = cc in absurd (omega arith));
              shown = λ j r. let n : i ≡ j = cc in rw (← n) (l, o);
            }

        -- Where neither neighbour of the place overlaps the query, no entry contains it.
        pub nothing_answer : {place : ℕ} → LowerBound zs q place → (0 < place → meets K query (get_or zs (place - 1) 0) ≡ false)
            → (place < length zs → meets K query (get_or zs place 0) ≡ false) → ContainingAnswer K D zs q (Ok None)
        nothing_answer {place} at left right =
            let at_D = sym h.deep ∙ at_depth in
            let is = is_place K D zs q h.cell k h.decoded at_D in
            record {
              over_valid = λ v. sym (is ∙ ap Ok (place_none K q zs 0 (λ j m. contains-overlaps v q h.cell h.valid at_D j m ∙ none v j m)));
              refused = λ x. (λ r. let n : ◌≡◌ {A = ℕ} 0 1 = cc in absurd (omega arith), λ r. let w = sym is ∙ r in let n : ◌≡◌ {A = ℕ} 0 1 = cc in absurd (omega arith));
              shown = λ j r. let n : ◌≡◌ {A = ℕ} 0 1 = cc in absurd (omega arith);
            }
          where
            before : OverlapsBefore K zs query place place
            before = record { within = omega arith; all = λ i l m. absurd (omega arith); stops = left }

            from : OverlapsFrom K zs query place place
            from = record { from = omega arith; within = at.within; all = λ i l m. absurd (omega arith); stops = right }

            none : ValidMap K D zs → (j : ℕ) → j < length zs → overlaps K q (get_or zs j 0) ≡ false
            none v j m = ⊎_elim (λ a. none_from v h at from j a m) (λ a. none_before v h at before j a) (le_or_lt place j)

-- ---- overlapping
-- A query that is a zuniq has a run.
is_run : (K : ℕ) (zs : List ℕ) (q : ℕ) (c : Cell) → decode K q ≡ Decoded.Cell c → overlapping K zs q ≡ Ok (run (first_from K q 0 zs) (length (overlapped K zs q)))
unfolding overlapping run_or
is_run K zs q c e = rw e refl

module _ {K : ℕ} {zs : List ℕ} {q : ℕ} where
  -- The query is no zuniq.
  pub run_refused : range_of K q ≡ None → RunAnswer K zs q (Err (Refusal.InvalidQuery 0))
  unfolding overlapping run_or
  run_refused e =
      let is : overlapping K zs q ≡ Err (Refusal.InvalidQuery 0) = rw (has_none K q e) refl in
      record {
        over_valid = λ v. sym is;
        refused = λ x. (λ r. is ∙ r, λ r. sym is ∙ r);
        shown = λ run r. let n : ◌≡◌ {A = ℕ} 0 1 = cc in absurd (omega arith);
      }

  module _ {query : ZuniqRange} (h : HasRange K q query) where
    -- Entries that overlap the query are shown, if they are the run of a valid map.
    entries_answer : (first len : ℕ) → first + len ≤ length zs → ((i : ℕ) → i < len → overlaps K q (get_or zs (first + i) 0) ≡ true)
        → (ValidMap K K zs → run (first_from K q 0 zs) (length (overlapped K zs q)) ≡ run first len) → RunAnswer K zs q (Ok (run first len))
    entries_answer first len l all same =
        let is = is_run K zs q h.cell h.decoded in
        record {
          over_valid = λ v. sym (is ∙ ap Ok (same v));
          refused = λ x. (λ r. let n : ◌≡◌ {A = ℕ} 0 1 = cc in absurd (omega arith), λ r. let w = sym is ∙ r in let n : ◌≡◌ {A = ℕ} 0 1 = cc in absurd (omega arith));
          shown = λ other r. let a : run first len ≡ other = cc in rw (← a) (l, all);
        }

    module _ {place first last : ℕ} (at : LowerBound zs q place) (before : OverlapsBefore K zs query place first) (from : OverlapsFrom K zs query place last) where
      -- The entries found on both sides of the place are shown.
      pub run_answer : first < last → RunAnswer K zs q (Ok (run first (last - first)))
      run_answer l =
          entries_answer first (last - first) (omega (arith, from.within))
          (λ i m. all_found h before from (first + i) (omega arith) (omega arith)) (λ v. run_found v h at before from l)

      -- Where none is found, none is shown.
      pub empty_answer : last ≤ first → RunAnswer K zs q (Ok (run 0 0))
      empty_answer l = entries_answer 0 0 (omega arith) (λ i m. absurd (omega arith)) (λ v. run_none v h at before from l)

-- ---- the part of the zuniqs
-- The part of a run is its entries, where these stand.
pub part_of_entries : {Z : Type 0} {size : ℕ} {zs part : Bor (List Z)} {run : Run} → part.now ≡ take (run.first + run.len - run.first) (drop run.first zs.now)
    → part.ref_ptr ≡ (zs.ref_ptr.0, run.first * size + zs.ref_ptr.1) → IsPart size zs run part
unfolding part_of address_of
part_of_entries {run = run} n p = let l : run.first + run.len - run.first ≡ run.len = omega arith in record { entries = rw l at n; address = p }

-- Of a refusal there is none: whatever part stood beside it would be that of its run.
pub part_of_refused : {Z : Type 0} {size : ℕ} {zs : Bor (List Z)} {r : Refusal} {answer : Result (Overlapped Z) Refusal} → answer ≡ Err r → (o : Overlapped Z) → answer ≡ Ok o → IsPart size zs (the_run o) o.part
part_of_refused e o w = let x = sym e ∙ w in let n : ◌≡◌ {A = ℕ} 0 1 = cc in absurd (omega arith)

-- So a refusal is answered.
pub overlapped_refused : {Z : Type 0} {K size q : ℕ} {numbers : List Z → List ℕ} {zs : Bor (List Z)} {r : Refusal} {answer : Result (Overlapped Z) Refusal}
    → RunAnswer K (numbers zs.now) q (Err r) → answer ≡ Err r → OverlappedAnswer K size numbers zs q answer
unfolding run_of
overlapped_refused a e =
    rw e (record {
      answer = a;
      is_part = part_of_refused refl;
      over_valid = λ v o w. let n : ◌≡◌ {A = ℕ} 0 1 = cc in absurd (omega arith);
    })

-- A run with its part of the zuniqs.
module _ {Z : Type 0} (number : Z → ℕ) (numbers : List Z → List ℕ) (are : (zs : List Z) → numbers zs ≡ map number zs) where
  -- The numbers of a part are that part of the numbers.
  numbers-part : (zs : List Z) (run : Run) → numbers (part_of zs run) ≡ part_of (numbers zs) run
  unfolding part_of
  numbers-part zs run = rw (are (take run.len (drop run.first zs)), are zs, drop-map number run.first zs, take-map number run.len (drop run.first zs)) refl

  pub overlapped_answer : {K size q : ℕ} {zs : Bor (List Z)} {o : Overlapped Z} {run : Run}
      → RunAnswer K (numbers zs.now) q (Ok run) → o.first ≡ run.first → IsPart size zs run o.part → OverlappedAnswer K size numbers zs q (Ok o)
  unfolding part_of run_of
  overlapped_answer {K} {size} {q} {zs} {o} {run} a f p =
      let within = (a.shown run refl).0 in
      let l : length o.part.now ≡ run.len = ap length p.entries ∙ simp (length-take, length-drop) (omega (arith, within, length-numbers number numbers are zs.now)) in
      let same : the_run o ≡ run = rw (f, l) refl in
      record {
        answer = rw same a;
        is_part = λ x e. let i : o ≡ x = cc in rw (← i, same) p;
        over_valid = λ v x e.
            let i : o ≡ x = cc in
            rw (← i) (ap numbers p.entries ∙ numbers-part zs.now run ∙ overlapping-part v q run (sym (a.over_valid v)));
      }
