-- What the clip call comes to, in the words of the note: every call that is not refused, one with the map's own coverage, and one with an
-- empty coverage. Assumes nothing.
use mathlib.Core.Path.{◌≡◌, refl, ap, ap₂, sym, ◌∙◌}
use mathlib.Core.Bool.{Bool, true, false, false≢true}
use mathlib.Core.List.{List, [], ◌∷◌, map}
use mathlib.Core.Option.{Option, none, some}
use Prim.Native.Nat.{ℕ, ◌-◌, ◌≤◌}
use native.Mathlib.Omega.{arith}
use lib.Ieee.{Float}
use lib.ListN.{length, take, replicate, length-map}
use borrow.Author.Tests.{le-ltb, eq-eqb}
use Rattle.refusal.specs.declared.Refusal.{Refusal}
use Rattle.zuniq.specs.Cells.{end, n_hash}
use Rattle.zuniq.proofs.Codec.{cell, decodes}
use Rattle.merger.specs.Floats.{0·0}
use Rattle.mom.specs.Map.{ValidMap}
use Rattle.mom.proofs.Faults.{no_fault_iff_valid}
use Rattle.mom.proofs.Rises.{Rises as ZuniqsRise, valid_rises}
use Rattle.build.specs.Map.{Entry}
use Rattle.build.specs.Buffers.{zuniq_of, value_of}
use Rattle.build.specs.Add.{map_refusal}
use Rattle.build.specs.Densities.{density_refusal}
use Rattle.refusal.proofs.Checks.{or_else_none}
use Rattle.build.proofs.Rising.{Rises-in_range}
use Rattle.combine.specs.Slices.{entries_of}
use Rattle.combine.specs.Pool.{Given, entries, pairs_refusal, places_refusal}
use Rattle.combine.proofs.Given.{entries_rise, entries_laid}
use Rattle.coverage.specs.Ranges.{Range, ranges_of, padded, from_of, to_of}
use Rattle.coverage.specs.Coverage.{coverage_of}
use Rattle.coverage.specs.Promises.{Parted}
use Rattle.coverage.proofs.Given.{accepted_parted}
use Rattle.coverage.proofs.Exact.{coverage_parted}
use Rattle.coverage.proofs.Laws.{ranges_again, front}
use Rattle.std.specs.Prelude.{Result, Ok, Err}
use Rattle.clip.specs.Clip.{clipped}
use Rattle.clip.specs.Promises.{Clips}
use Rattle.clip.specs.Call.{clipped_of, clip_input_refusal, clip_refusal, clipped_or, clip_call}
use Rattle.clip.proofs.Tree.{clip_rises, clip_valid, clip_has_iff}
use Rattle.clip.proofs.Call.{passes_all}
use Rattle.clip.proofs.Own.{cover_of, clip_coverage, clip_own, clip_empty}

-- The entries of a valid map have its zuniqs and its values.
laid_again : {A : Type 0} (D b : ℕ) (zs : List ℕ) (vs : List A) → length zs ≡ length vs → ZuniqsRise 29 D b zs → (map (zuniq_of 29) (entries_of zs vs) ≡ zs) × (map value_of (entries_of zs vs) ≡ vs)
unfolding entries_of
laid_again D b [] [] n r = (refl, refl)
laid_again D b [] (v ∷ vs) n r = absurd (omega arith)
laid_again D b (z ∷ zs) [] n r = absurd (omega arith)
laid_again {A} D b (z ∷ zs) (v ∷ vs) n r =
    let e = r.0 in
    let more = laid_again D (end 29 e.depth e.hash) zs vs (omega arith) r.1 in
    rw ((decodes 29 z (cell e.depth e.hash)).1 e.is) (ap₂ ◌∷◌ (sym e.is.is) more.0, ap (λ (t : List A). v ∷ t) more.1)

-- The coverage of a valid map is that of its entries.
pub cover_of-map : {A : Type 0} (D : ℕ) (zs : List ℕ) (vs : List A) → length zs ≡ length vs → ValidMap 29 D zs → cover_of 29 (entries_of zs vs) ≡ coverage_of 29 zs
cover_of-map D zs vs n v = ap (coverage_of 29) (laid_again D 0 zs vs n (valid_rises 29 D zs v)).0

-- ---- every call
-- the number that is answered
abbrev cells_in : Result ℕ Refusal → ℕ
cells_in (Ok n) = n
cells_in (Err r) = 0

abbrev is_cells : Result ℕ Refusal → Bool
is_cells (Ok n) = true
is_cells (Err r) = false

-- the answer, and the output afterwards
abbrev Answered : Type 0
Answered = Result ℕ Refusal × List ℕ × List Float

module _ (m : Given Float) (ss es : List ℕ) (zs : List ℕ) (vs : List Float) where
  abbrev l : List (Entry Float)
  l = clipped_of m.zuniqs m.values ss es

  accepted : (o : Option Refusal) (n : ℕ) (xs : List ℕ) (ws : List Float) → clipped_or o l zs vs ≡ (Ok n, xs, ws)
      → (o ≡ none) × (n ≡ length l) × (xs ≡ padded 0 (length zs) (map (zuniq_of 29) l)) × (ws ≡ padded 0·0 (length vs) (map value_of l))
  accepted (some r) n xs ws e = absurd (false≢true (ap (λ (t : Answered). is_cells t.0) e))
  accepted none n xs ws e = (refl, sym (ap (λ (t : Answered). cells_in t.0) e), sym (ap (λ (t : Answered). t.1) e), sym (ap (λ (t : Answered). t.2) e))

  -- the clip is exactly the cells of the note's sentence, a valid map of depth 29, and its coverage is the intersection
  pub clip_clips : (n : ℕ) (xs : List ℕ) (ws : List Float) → clip_call m ss es zs vs ≡ (Ok n, xs, ws) → Clips m ss es n xs ws
  unfolding clip_call clip_refusal
  clip_clips n xs ws e =
      let a = accepted (clip_refusal m ss es (length zs) (length vs)) n xs ws e in
      let p = passes_all m ss es (length zs) (length vs) (or_else_none (clip_input_refusal m ss es (length zs) (length vs)) (places_refusal (length zs) (length l)) a.0).0 in
      let rising = p.holds.rises in
      let xs_is : take n xs ≡ map (zuniq_of 29) l = rw (a.1, a.2, ← length-map l (zuniq_of 29)) (front 0 (length zs) (map (zuniq_of 29) l)) in
      let ws_is : take n ws ≡ map value_of l = rw (a.1, a.3, ← length-map l (value_of {A = Float})) (front 0·0 (length vs) (map value_of l)) in
      let same : entries_of (take n xs) (take n ws) ≡ l = rw (xs_is, ws_is) (entries_laid l (λ c k. Rises-in_range 29 0 l c (clip_rises 29 (entries m) (ranges_of ss es)) k)) in
      record {
        valid = rw xs_is (clip_valid 29 (entries m) (ranges_of ss es));
        cells = λ c. rw same (clip_has_iff 29 (entries m) (ranges_of ss es) rising c);
        reach = ap (coverage_of 29) xs_is ∙ clip_coverage 29 (entries m) rising (ranges_of ss es) p.parted ∙ rw (cover_of-map m.depth m.zuniqs m.values p.holds.paired p.valid) refl;
      }

-- ---- a given coverage
-- a map that rows 1, 4, 5 and 6 don't apply to
pub record Good (m : Given Float) : Type 0 where
  pub deep : m.depth ≤ 29
  pub paired : length m.zuniqs ≡ length m.values
  pub valid : ValidMap 29 m.depth m.zuniqs
  pub densities : density_refusal 0 m.values ≡ none

module _ (m : Given Float) (good : Good m) where
  passes_with : (rs : List Range) → Parted 0 (n_hash 29) rs → (places values : ℕ) → places ≡ values → clip_input_refusal m (map from_of rs) (map to_of rs) places values ≡ none
  unfolding clip_input_refusal pairs_refusal map_refusal
  passes_with rs parted places values e =
      rw (
        le-ltb 29 m.depth good.deep,
        eq-eqb (length m.zuniqs) (length m.values) good.paired,
        eq-eqb (length (map from_of rs)) (length (map to_of rs)) (length-map rs from_of ∙ sym (length-map rs to_of)),
        eq-eqb places values e,
        (no_fault_iff_valid 29 m.depth m.zuniqs).1 good.valid,
        good.densities,
        ranges_again rs,
      ) ((accepted_parted (n_hash 29) 0 0 rs).1 parted)

  -- "Clipping to the map's own coverage gives its entries back": the call is not refused where there is a place for each entry, and
  -- leaves the map's own zuniqs and densities.
  pub clip_own_call : (zs : List ℕ) (vs : List Float) → length zs ≡ length vs → length m.zuniqs ≤ length zs
      → clip_call m (map from_of (coverage_of 29 m.zuniqs)) (map to_of (coverage_of 29 m.zuniqs)) zs vs ≡ (Ok (length m.zuniqs), padded 0 (length zs) m.zuniqs, padded 0·0 (length vs) m.values)
  unfolding clip_call clip_refusal places_refusal
  clip_own_call zs vs e room =
      let own = coverage_of 29 m.zuniqs in
      let l = laid_again m.depth 0 m.zuniqs m.values good.paired (valid_rises 29 m.depth m.zuniqs good.valid) in
      let k : length (entries_of m.zuniqs m.values) ≡ length m.zuniqs = sym (length-map (entries_of m.zuniqs m.values) (zuniq_of 29)) ∙ ap length l.0 in
      let back : clipped_of m.zuniqs m.values (map from_of own) (map to_of own) ≡ entries_of m.zuniqs m.values =
      rw (ranges_again own, ← cover_of-map m.depth m.zuniqs m.values good.paired good.valid) (clip_own 29 (entries m) (entries_rise m.depth m.zuniqs m.values good.paired good.valid)) in
      rw (passes_with own (coverage_parted 29 m.depth m.zuniqs good.valid) (length zs) (length vs) e, back, k, le-ltb (length zs) (length m.zuniqs) room, k, l.0, l.1) refl

  -- An empty coverage gives the empty map: the call is not refused, answers 0, and every place is 0.
  pub clip_empty_call : (zs : List ℕ) (vs : List Float) → length zs ≡ length vs → clip_call m [] [] zs vs ≡ (Ok 0, replicate (length zs) 0, replicate (length vs) 0·0)
  unfolding clip_call clip_refusal places_refusal padded ranges_of
  clip_empty_call zs vs e =
      let none_left : clipped 29 (entries m) [] ≡ [] = clip_empty 29 (entries m) (entries_rise m.depth m.zuniqs m.values good.paired good.valid) in
      let z : length zs - 0 ≡ length zs = omega arith in
      let v : length vs - 0 ≡ length vs = omega arith in
      rw (passes_with [] tt (length zs) (length vs) e, none_left, le-ltb (length zs) 0 (omega arith), z, v) refl
