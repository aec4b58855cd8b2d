-- What every call answers, in the scope's numbers, places and values: the rows of the table of refusals in their order, and then the
-- answer. Each law is about the definition that the call's contract cites. Assumes nothing.
use mathlib.Core.Path.{◌≡◌, refl, sym, ap, ◌∙◌}
use mathlib.Core.Bool.{Bool, true, false, ◌||◌, not, cond}
use mathlib.Core.List.{List, reverse}
use mathlib.Core.Option.{Option, none, some}
use Prim.Native.Nat.{ℕ, ◌+◌, ◌*◌, ◌/◌, ◌%◌, ◌^◌, ◌<◌, min}
use native.Mathlib.Omega.{arith}
use lib.Dec.{eqb, leb, ltb}
use lib.Ieee.{Float, is_nan}
use lib.ListN.{length, take}
use Rattle.std.specs.Prelude.{Option as Answer, None, Some, Result, Ok, Err}
use Rattle.refusal.specs.Told.{Told, refused_by, told}
use Rattle.refusal.specs.declared.Refusal.{Refusal}
use Rattle.zuniq.specs.Cells.{n_hash, overlap}
use Rattle.zuniq.specs.Codec.{zuniq, IsZuniqOf, cell_number, encode, decode, overlap_of, overlap_test}
use Rattle.zuniq.specs.Told.{told_cell}
use Rattle.zuniq.specs.declared.Cell.{Cell}
use Rattle.zuniq.specs.declared.Decoded.{Decoded}
use Rattle.zuniq.proofs.Codec.{decodes}
use Rattle.zuniq.proofs.Ranges.{sentinel_lt}
use Rattle.merger.specs.Floats.{invalid_density}
use Rattle.protection.specs.Protected.{protected_refusal}
use Rattle.merger.specs.Merge.{quad_refusal, accept_counts, accept_densities, merge_counts, count_merger, merge_densities, first_invalid, invalid_child, density_merger}
use Rattle.merger.specs.declared.Merge.{Merge}
use Rattle.merger.specs.Told.{Four, told_merge, told_merger}
use Rattle.mom.specs.Map.{first_fault, map_check}
use Rattle.mom.specs.Lookup.{place_from, query_at, containing, first_from, overlapped, run_or, overlapping}
use Rattle.mom.specs.Told.{told_check, told_run}
use Rattle.mom.specs.declared.FirstFault.{FirstFault}
use Rattle.refusal.specs.Checks.{or_else, refused_if, ok_unless}
use Rattle.build.specs.Map.{Entry}
use Rattle.build.specs.Stack.{run}
use Rattle.build.specs.Buffers.{batch, held}
use Rattle.build.specs.Calls.{Buffers, Calls, answered, add_call}
use Rattle.build.specs.Add.{settings_refusal, lengths_refusal, map_refusal, map_end, cells_refusal, sum_of, total_refusal, space_refusal}
use Rattle.build.specs.Counts.{total_of, never, counts_refusal, Report, count_calls, counts_added, add_counts}
use Rattle.build.specs.Densities.{density_refusal, densities_refusal, density_calls, densities_added, add_densities}
use Rattle.build.specs.Told.{told_counts}
use Rattle.combine.specs.Overlay.{overlay}
use Rattle.combine.specs.Rules.{split_count, defined_pool, defined_product}
use Rattle.combine.specs.Densities.{some_not_finite}
use Rattle.combine.specs.Pool as Combining
use Rattle.combine.specs.Pool.{Given, entries, result_depth, pool_kept, product_kept, pool_counts, product_densities}
use Rattle.combine.specs.Ask.{ask_refusal, figures_of, ask_counts, same_figures, figures_refusal, commit_refusal, commit_counts}
use Rattle.combine.specs.Told.{told_asked}
use Rattle.combine.specs.declared.counts.Figures.{Figures}
use Rattle.moving.specs.Moving.{deep_refusal, entries_refusal, moving_refusal, moved_or, moved}
use Rattle.moving.specs.Told.{told_moved}
use Rattle.coverage.specs.Ranges.{Range, ranges_of, ranges_refusal}
use Rattle.coverage.specs.Coverage.{coverage_of, coverage_input_refusal, coverage_refusal, covered_or, coverage_call}
use Rattle.clip.specs.Call.{clipped_of, clip_input_refusal, clip_refusal, clipped_or, clip_call}
use Rattle.rows.specs.Rows.{differ, places, rows_to_read, rows_to_write}
use Rattle.columns.specs.Columns.{named, rows_to_lay, laid, rows_to_columns, columns_to_rows}
use Rattle.density.specs.Densities.{density_at, density_of_count}
use Rattle.claims.specs.Answers.{row, row_at, rows_of, faulty_entry, fault_told}

-- ---- rows in order
-- What is told of a choice is the choice of what is told.
of_choice : {A B : Type 0} (f : A → B) (b : Bool) (x y : A) → f (cond b x y) ≡ cond b (f x) (f y)
of_choice f true x y = refl
of_choice f false x y = refl

module _ {X : Type 0} where
  in_order : (a b : Option Refusal) (next : Told X) → rows_of (or_else a b) next ≡ rows_of a (rows_of b next)
  in_order none b next = refl
  in_order (some r) b next = refl

  one_row : (test : Bool) (r : Refusal) (next : Told X) → rows_of (refused_if test r) next ≡ cond test (refused_by r) next
  one_row true r next = refl
  one_row false r next = refl

  map_row : (f : Answer FirstFault) (next : Told X) → rows_of (map_refusal f) next ≡ row_at 5 (faulty_entry f) next
  unfolding map_refusal
  map_row None next = refl
  map_row (Some f) next = refl

  child_row : (child : Answer ℕ) (next : Told X) → rows_of (invalid_child child) next ≡ row_at 9 child next
  child_row None next = refl
  child_row (Some child) next = refl

-- ---- section 1
-- N(d): 1.
pub n_hash-tells : (d : ℕ) → told (cell_number 29 d) ≡ row 1 (ltb 29 d) (Told.answer (n_hash d))
unfolding cell_number
n_hash-tells d = of_choice told (ltb 29 d) _ _

-- Encoding: 1, 7.
pub to_zuniq_tells : (K d h : ℕ) → told (encode K d h) ≡ row 1 (ltb K d) (row 7 (leb (n_hash d) h) (Told.answer (zuniq K d h)))
unfolding encode
to_zuniq_tells K d h = of_choice told (ltb K d) _ _ ∙ ap (row 1 (ltb K d)) (of_choice told (leb (n_hash d) h) _ _)

-- Encoding in u32: 1 where the depth is over 13, 7.
pub narrow_zuniq_tells : (d h : ℕ) → told (encode 13 d h) ≡ row 1 (ltb 13 d) (row 7 (leb (n_hash d) h) (Told.answer (zuniq 13 d h)))
narrow_zuniq_tells d h = to_zuniq_tells 13 d h

-- Decoding in u32: the hash that is told fits a u32.
narrow_hash_fits : (z : ℕ) (c : Cell) → decode 13 z ≡ Decoded.Cell c → c.hash < 2 ^ 32
unfolding n_hash
narrow_hash_fits z c e =
    let v = (decodes 13 z c).0 e in
    let l = sentinel_lt 13 c.depth c.hash v.deep v.hash in
    omega arith

pub narrow_cell_tells : (z : ℕ) (c : ℕ × ℕ) → told_cell (decode 13 z) ≡ Some c → c.1 < 2 ^ 32
narrow_cell_tells z c e = go (decode 13 z) refl e
  where
    go : (a : Decoded) → decode 13 z ≡ a → told_cell a ≡ Some c → c.1 < 2 ^ 32
    go (Decoded.Cell x) d q = let k : (x.depth, x.hash) ≡ c = cc in rw (← k) (narrow_hash_fits z x d)
    go Decoded.Nothing d q = let n : ◌≡◌ {A = ℕ} 0 1 = cc in absurd (omega arith)

-- What decoding answers in u32: the cell whose zuniq it is, or there is none.
pub decoded_cell : (z : ℕ) (c : Cell) → Decoded.Cell c ≡ decode 13 z → decode 13 z ≡ Decoded.Cell c
decoded_cell z c e = sym e

pub decoded_is : (z : ℕ) (c : Cell) → Decoded.Cell c ≡ decode 13 z → IsZuniqOf 13 z c.depth c.hash
decoded_is z c e = (decodes 13 z c).0 (sym e)

pub decoded_none : (z : ℕ) → Decoded.Nothing ≡ decode 13 z → decode 13 z ≡ Decoded.Nothing
decoded_none z e = sym e

-- The overlap test: 12, place 0 or 1.
abbrev pub overlap_told : Answer (ℕ × ℕ) → Answer (ℕ × ℕ) → Told Bool
overlap_told None r = Told.refused 12 0
overlap_told (Some l) None = Told.refused 12 1
overlap_told (Some l) (Some r) = Told.answer (overlap l.0 l.1 r.0 r.1)

pub are_overlapping_tells : (K l r : ℕ) → told (overlap_test K l r) ≡ overlap_told (told_cell (decode K l)) (told_cell (decode K r))
unfolding overlap_test overlap_of
are_overlapping_tells K l r = go (decode K l) (decode K r)
  where
    go : (a b : Decoded) → told (overlap_of a b) ≡ overlap_told (told_cell a) (told_cell b)
    go Decoded.Nothing b = refl
    go (Decoded.Cell c) Decoded.Nothing = refl
    go (Decoded.Cell c) (Decoded.Cell e) = refl

-- ---- section 2
-- what both merger calls refuse: 1, 2, 3, 15 with the index, 7
module _ {X : Type 0} (P : List ℕ) (M : ℕ) (T : Float) (p h : ℕ) (next : Told X) where
  quad_rows : rows_of (quad_refusal P M T p h) next ≡ row 1 (ltb 28 p) (row 2 (ltb 29 M) (row 3 (is_nan T) (rows_of (protected_refusal 29 P) (row 7 (leb (n_hash p) h) next))))
  unfolding quad_refusal
  quad_rows =
      in_order (refused_if (ltb 28 p) Refusal.DepthOutOfRange) _ next
      ∙ one_row (ltb 28 p) _ _
      ∙ ap (row 1 (ltb 28 p)) (in_order (refused_if (ltb 29 M) Refusal.DepthThresholdOutOfRange) _ next
      ∙ one_row (ltb 29 M) _ _
      ∙ ap (row 2 (ltb 29 M)) (in_order (refused_if (is_nan T) Refusal.Chi2ThresholdIsNan) _ next
      ∙ one_row (is_nan T) _ _
      ∙ ap (row 3 (is_nan T)) (in_order (protected_refusal 29 P) _ next
      ∙ ap (rows_of (protected_refusal 29 P)) (one_row (leb (n_hash p) h) _ next))))

merger_told : {V : Type 0} (o : Option Refusal) (m : Merge V) → told_merger (ok_unless o m) ≡ rows_of o (Told.answer (told_merge m))
merger_told none m = refl
merger_told (some r) m = refl

-- The count merger: these, and 10.
pub count_merger-tells : (P : List ℕ) (M : ℕ) (T : Float) (p h n0 n1 n2 n3 : ℕ) → told_merger (count_merger P M T p h n0 n1 n2 n3)
    ≡ row 1 (ltb 28 p) (row 2 (ltb 29 M) (row 3 (is_nan T) (rows_of (protected_refusal 29 P) (row 7 (leb (n_hash p) h)
    (row 10 (ltb 4294967295 (n0 + n1 + n2 + n3)) (Told.answer (told_merge (merge_counts 29 P M T p h n0 n1 n2 n3))))))))
unfolding count_merger
count_merger-tells P M T p h n0 n1 n2 n3 =
    let over = ltb 4294967295 (n0 + n1 + n2 + n3) in
    let row10 = refused_if over (Refusal.CountOverflow 0) in
    let last : Told (Four ℕ) = Told.answer (told_merge (merge_counts 29 P M T p h n0 n1 n2 n3)) in
    merger_told (or_else (quad_refusal P M T p h) row10) (merge_counts 29 P M T p h n0 n1 n2 n3)
    ∙ in_order (quad_refusal P M T p h) row10 last
    ∙ ap (rows_of (quad_refusal P M T p h)) (one_row over (Refusal.CountOverflow 0) last)
    ∙ quad_rows P M T p h _

-- The density merger: these, and 9 with the child's place.
pub density_merger-tells : (P : List ℕ) (M : ℕ) (T : Float) (p h : ℕ) (m0 m1 m2 m3 : Float) → told_merger (density_merger P M T p h m0 m1 m2 m3)
    ≡ row 1 (ltb 28 p) (row 2 (ltb 29 M) (row 3 (is_nan T) (rows_of (protected_refusal 29 P) (row 7 (leb (n_hash p) h)
    (row_at 9 (first_invalid m0 m1 m2 m3) (Told.answer (told_merge (merge_densities P M T p h m0 m1 m2 m3))))))))
unfolding density_merger
density_merger-tells P M T p h m0 m1 m2 m3 =
    let child = first_invalid m0 m1 m2 m3 in
    let row9 = invalid_child child in
    let last : Told (Four Float) = Told.answer (told_merge (merge_densities P M T p h m0 m1 m2 m3)) in
    merger_told (or_else (quad_refusal P M T p h) row9) (merge_densities P M T p h m0 m1 m2 m3)
    ∙ in_order (quad_refusal P M T p h) row9 last
    ∙ ap (rows_of (quad_refusal P M T p h)) (child_row child last)
    ∙ quad_rows P M T p h _

-- ---- sections 3 and 6
-- The map check: 1.
pub check_tells : (K D : ℕ) (zs : List ℕ) → told_check (map_check K D zs) ≡ row 1 (ltb K D) (Told.answer (fault_told (first_fault K D zs)))
unfolding map_check
check_tells K D zs = of_choice told_check (ltb K D) _ _ ∙ ap (row 1 (ltb K D)) (go (first_fault K D zs))
  where
    go : (f : Answer FirstFault) → told_check (Ok f) ≡ Told.answer (fault_told f)
    go None = refl
    go (Some f) = refl

-- Containing: 1, 12.
abbrev pub not_at : ℕ → Answer (ℕ × ℕ) → Bool
not_at D None = true
not_at D (Some c) = not (eqb c.0 D)

pub containing-tells : (K D : ℕ) (zs : List ℕ) (q : ℕ) → told (containing K D zs q)
    ≡ row 1 (ltb K D) (row 12 (not_at D (told_cell (decode K q))) (Told.answer (place_from K q 0 zs)))
unfolding containing query_at
containing-tells K D zs q = of_choice told (ltb K D) _ _ ∙ ap (row 1 (ltb K D)) (go (decode K q))
  where
    swap : (b : Bool) (x y : Result (Answer ℕ) Refusal) → told (cond b x y) ≡ cond (not b) (told y) (told x)
    swap true x y = refl
    swap false x y = refl

    go : (c : Decoded) → told (query_at D c (place_from K q 0 zs)) ≡ row 12 (not_at D (told_cell c)) (Told.answer (place_from K q 0 zs))
    go Decoded.Nothing = refl
    go (Decoded.Cell c) = swap (eqb c.depth D) _ _

-- Overlapping: 12.
abbrev pub is_nothing : Answer (ℕ × ℕ) → Bool
is_nothing None = true
is_nothing (Some c) = false

pub overlapping-tells : (K : ℕ) (zs : List ℕ) (q : ℕ) → told_run (overlapping K zs q)
    ≡ row 12 (is_nothing (told_cell (decode K q))) (Told.answer (first_from K q 0 zs, length (overlapped K zs q)))
unfolding overlapping run_or
overlapping-tells K zs q = go (decode K q)
  where
    go : (c : Decoded) → told_run (run_or c (record { first = first_from K q 0 zs; len = length (overlapped K zs q) }))
        ≡ row 12 (is_nothing (told_cell c)) (Told.answer (first_from K q 0 zs, length (overlapped K zs q)))
    go Decoded.Nothing = refl
    go (Decoded.Cell c) = refl

-- ---- section 4
-- What an add call tells is its refusal, or the number of entries and their total.
counts_told : (g : Calls ℕ Refusal Report) (o : Option Refusal) (b : Buffers ℕ) (s : List (Entry ℕ))
    → told_counts (counts_added (answered g o b s).1) ≡ rows_of o (Told.answer ((g.report s).entries, (g.report s).sum))
counts_told g none b s = refl
counts_told g (some r) b s = refl

densities_told : (g : Calls Float Refusal ℕ) (o : Option Refusal) (b : Buffers Float) (s : List (Entry Float))
    → told (densities_added (answered g o b s).1) ≡ rows_of o (Told.answer (g.report s))
densities_told g none b s = refl
densities_told g (some r) b s = refl

-- rows 1 to 3 of an add call
module _ {X : Type 0} (K D M : ℕ) (T : Float) (next : Told X) where
  settings_rows : rows_of (settings_refusal K D M T) next ≡ row 1 (ltb K D) (row 2 (ltb 29 M) (row 3 (is_nan T) next))
  unfolding settings_refusal
  settings_rows =
      in_order (refused_if (ltb K D) Refusal.DepthOutOfRange) _ next
      ∙ one_row (ltb K D) _ _
      ∙ ap (row 1 (ltb K D)) (in_order (refused_if (ltb 29 M) Refusal.DepthThresholdOutOfRange) _ next
      ∙ one_row (ltb 29 M) _ _
      ∙ ap (row 2 (ltb 29 M)) (one_row (is_nan T) _ next))

-- Adding counts: 1 to 3, 15 (note 7: "tried after 3"), 4, 5, 7 and 8 cell by cell, 10, 11.
module _ (K : ℕ) (P : List ℕ) (D M : ℕ) (T : Float) (m : ℕ) (zs vs hs ns : List ℕ) where
  abbrev pub counts_made : List (Entry ℕ)
  counts_made = run (accept_counts K P M T) (held K m zs vs) (batch D hs ns)

  pub add_counts-tells : told_counts (add_counts K P D M T m zs vs hs ns).0
      ≡ row 1 (ltb K D)
      (row 2 (ltb 29 M)
      (row 3 (is_nan T)
      (rows_of (protected_refusal K P)
      (row 4 (not (eqb (length zs) (length vs)) || (ltb (length zs) m || not (eqb (length hs) (length ns))))
      (row_at 5 (faulty_entry (first_fault K D (take m zs)))
      (rows_of (cells_refusal never D (map_end K D (take m zs)) 0 hs ns)
      (rows_of (total_refusal (sum_of (take m vs)) ns)
      (row 11 (ltb (length zs) (m + length hs))
      (Told.answer (length counts_made, total_of counts_made))))))))))
  unfolding add_counts add_call counts_refusal lengths_refusal space_refusal
  add_counts-tells =
      counts_told (count_calls K P D M T) (counts_refusal K P D M T m (length zs) (length vs) (take m zs) (take m vs) hs ns) _ counts_made
      ∙ in_order (settings_refusal K D M T) _ _
      ∙ settings_rows K D M T _
      ∙ ap (λ x. row 1 (ltb K D) (row 2 (ltb 29 M) (row 3 (is_nan T) x)))
      (in_order (protected_refusal K P) _ _
      ∙ ap (rows_of (protected_refusal K P))
      (in_order (lengths_refusal m (length zs) (length vs) (length hs) (length ns)) _ _
      ∙ one_row (not (eqb (length zs) (length vs)) || (ltb (length zs) m || not (eqb (length hs) (length ns)))) _ _
      ∙ ap (row 4 (not (eqb (length zs) (length vs)) || (ltb (length zs) m || not (eqb (length hs) (length ns)))))
      (in_order (map_refusal (first_fault K D (take m zs))) _ _
      ∙ map_row (first_fault K D (take m zs)) _
      ∙ ap (row_at 5 (faulty_entry (first_fault K D (take m zs))))
      (in_order (cells_refusal never D (map_end K D (take m zs)) 0 hs ns) _ _
      ∙ ap (rows_of (cells_refusal never D (map_end K D (take m zs)) 0 hs ns))
      (in_order (total_refusal (sum_of (take m vs)) ns) _ _
      ∙ ap (rows_of (total_refusal (sum_of (take m vs)) ns)) (one_row (ltb (length zs) (m + length hs)) _ _))))))

-- Adding densities: 1 to 3, 15, 4 to 6, 7 to 9 cell by cell, 11.
module _ (P : List ℕ) (D M : ℕ) (T : Float) (m : ℕ) (zs : List ℕ) (vs : List Float) (hs : List ℕ) (xs : List Float) where
  abbrev pub densities_made : List (Entry Float)
  densities_made = run (accept_densities P M T) (held 29 m zs vs) (batch D hs xs)

  pub add_densities-tells : told (add_densities P D M T m zs vs hs xs).0
      ≡ row 1 (ltb 29 D)
      (row 2 (ltb 29 M)
      (row 3 (is_nan T)
      (rows_of (protected_refusal 29 P)
      (row 4 (not (eqb (length zs) (length vs)) || (ltb (length zs) m || not (eqb (length hs) (length xs))))
      (row_at 5 (faulty_entry (first_fault 29 D (take m zs)))
      (rows_of (density_refusal 0 (take m vs))
      (rows_of (cells_refusal invalid_density D (map_end 29 D (take m zs)) 0 hs xs)
      (row 11 (ltb (length zs) (m + length hs))
      (Told.answer (length densities_made))))))))))
  unfolding add_densities add_call densities_refusal lengths_refusal space_refusal
  add_densities-tells =
      densities_told (density_calls P D M T) (densities_refusal P D M T m (length zs) (length vs) (take m zs) (take m vs) hs xs) _ densities_made
      ∙ in_order (settings_refusal 29 D M T) _ _
      ∙ settings_rows 29 D M T _
      ∙ ap (λ x. row 1 (ltb 29 D) (row 2 (ltb 29 M) (row 3 (is_nan T) x)))
      (in_order (protected_refusal 29 P) _ _
      ∙ ap (rows_of (protected_refusal 29 P))
      (in_order (lengths_refusal m (length zs) (length vs) (length hs) (length xs)) _ _
      ∙ one_row (not (eqb (length zs) (length vs)) || (ltb (length zs) m || not (eqb (length hs) (length xs)))) _ _
      ∙ ap (row 4 (not (eqb (length zs) (length vs)) || (ltb (length zs) m || not (eqb (length hs) (length xs)))))
      (in_order (map_refusal (first_fault 29 D (take m zs))) _ _
      ∙ map_row (first_fault 29 D (take m zs)) _
      ∙ ap (row_at 5 (faulty_entry (first_fault 29 D (take m zs))))
      (in_order (density_refusal 0 (take m vs)) _ _
      ∙ ap (rows_of (density_refusal 0 (take m vs)))
      (in_order (cells_refusal invalid_density D (map_end 29 D (take m zs)) 0 hs xs) _ _
      ∙ ap (rows_of (cells_refusal invalid_density D (map_end 29 D (take m zs)) 0 hs xs)) (one_row (ltb (length zs) (m + length hs)) _ _))))))

-- ---- section 5: "in each row left map before right"
-- rows 1 to 3 of a pool or a product
module _ {X : Type 0} (Dl Dr M : ℕ) (T : Float) (next : Told X) where
  combining_rows : rows_of (Combining.settings_refusal Dl Dr M T) next ≡ row 1 (ltb 29 Dl || ltb 29 Dr) (row 2 (ltb 29 M) (row 3 (is_nan T) next))
  unfolding Combining.settings_refusal
  combining_rows =
      in_order (refused_if (ltb 29 Dl || ltb 29 Dr) Refusal.DepthOutOfRange) _ next
      ∙ one_row (ltb 29 Dl || ltb 29 Dr) _ _
      ∙ ap (row 1 (ltb 29 Dl || ltb 29 Dr)) (in_order (refused_if (ltb 29 M) Refusal.DepthThresholdOutOfRange) _ next
      ∙ one_row (ltb 29 M) _ _
      ∙ ap (row 2 (ltb 29 M)) (one_row (is_nan T) _ next))

-- row 5 of both maps
maps_rows : {X A : Type 0} (l r : Given A) (next : Told X)
    → rows_of (Combining.maps_refusal l r) next ≡ row_at 5 (faulty_entry (first_fault 29 l.depth l.zuniqs)) (row_at 5 (faulty_entry (first_fault 29 r.depth r.zuniqs)) next)
unfolding Combining.maps_refusal
maps_rows l r next =
    in_order (map_refusal (first_fault 29 l.depth l.zuniqs)) _ next
    ∙ map_row (first_fault 29 l.depth l.zuniqs) _
    ∙ ap (row_at 5 (faulty_entry (first_fault 29 l.depth l.zuniqs))) (map_row (first_fault 29 r.depth r.zuniqs) next)

-- "4. Paired buffers differ in length": of the maps, and of the output
abbrev pub unpaired : {A : Type 0} → Given A → Given A → ℕ → ℕ → Bool
unpaired l r zs vs = not (eqb (length l.zuniqs) (length l.values)) || (not (eqb (length r.zuniqs) (length r.values)) || not (eqb zs vs))

-- rows 1 to 3, 15, 4, 5 and 10 of a pool into buffers of these lengths
module _ {X : Type 0} (P : List ℕ) (l r : Given ℕ) (M : ℕ) (T : Float) (zs vs : ℕ) (next : Told X) where
  pool_input_rows : rows_of (Combining.pool_input_refusal P l r M T zs vs) next
      ≡ row 1 (ltb 29 l.depth || ltb 29 r.depth)
      (row 2 (ltb 29 M)
      (row 3 (is_nan T)
      (rows_of (protected_refusal 29 P)
      (row 4 (unpaired l r zs vs)
      (row_at 5 (faulty_entry (first_fault 29 l.depth l.zuniqs))
      (row_at 5 (faulty_entry (first_fault 29 r.depth r.zuniqs))
      (row 10 (ltb 4294967295 (sum_of l.values + sum_of r.values)) next)))))))
  unfolding Combining.pool_input_refusal Combining.pairs_refusal Combining.sums_refusal
  pool_input_rows =
      in_order (Combining.settings_refusal l.depth r.depth M T) _ next
      ∙ combining_rows l.depth r.depth M T _
      ∙ ap (λ x. row 1 (ltb 29 l.depth || ltb 29 r.depth) (row 2 (ltb 29 M) (row 3 (is_nan T) x)))
      (in_order (protected_refusal 29 P) _ next
      ∙ ap (rows_of (protected_refusal 29 P))
      (in_order (refused_if (unpaired l r zs vs) Refusal.LengthMismatch) _ next
      ∙ one_row (unpaired l r zs vs) _ _
      ∙ ap (row 4 (unpaired l r zs vs))
      (in_order (Combining.maps_refusal l r) _ next
      ∙ maps_rows l r _
      ∙ ap (λ x. row_at 5 (faulty_entry (first_fault 29 l.depth l.zuniqs)) (row_at 5 (faulty_entry (first_fault 29 r.depth r.zuniqs)) x))
      (one_row (ltb 4294967295 (sum_of l.values + sum_of r.values)) _ next))))

-- Pool: 1 to 3, 15, 4, 5, 10, 11.
module _ (P : List ℕ) (l r : Given ℕ) (M : ℕ) (T : Float) (zs vs : List ℕ) where
  abbrev pub pooled_map : List (Entry ℕ)
  pooled_map = reverse (defined_pool (accept_counts 29 P M T) (result_depth l r) (entries l) (entries r))

  pub pool_tells : told_counts (pool_counts P l r M T zs vs).0
      ≡ row 1 (ltb 29 l.depth || ltb 29 r.depth)
      (row 2 (ltb 29 M)
      (row 3 (is_nan T)
      (rows_of (protected_refusal 29 P)
      (row 4 (unpaired l r (length zs) (length vs))
      (row_at 5 (faulty_entry (first_fault 29 l.depth l.zuniqs))
      (row_at 5 (faulty_entry (first_fault 29 r.depth r.zuniqs))
      (row 10 (ltb 4294967295 (sum_of l.values + sum_of r.values))
      (row 11 (ltb (length zs) (length (pool_kept l r)))
      (Told.answer (length pooled_map, total_of pooled_map))))))))))
  unfolding pool_counts Combining.pool_over Combining.pool_refusal Combining.places_refusal
  pool_tells =
      let input = Combining.pool_input_refusal P l r M T (length zs) (length vs) in
      counts_told (count_calls 29 P (result_depth l r) M T) (Combining.pool_refusal P l r M T (length zs) (length vs)) _ pooled_map
      ∙ in_order input _ _
      ∙ ap (rows_of input) (one_row (ltb (length zs) (length (pool_kept l r))) _ _)
      ∙ pool_input_rows P l r M T (length zs) (length vs) _

-- Product: 1 to 3, 15, 4 to 6, 10, 11.
module _ (P : List ℕ) (l r : Given Float) (M : ℕ) (T k : Float) (zs : List ℕ) (vs : List Float) where
  abbrev pub product_map : List (Entry Float)
  product_map = reverse (defined_product (accept_densities P M T) k (result_depth l r) (entries l) (entries r))

  pub product_tells : told (product_densities P l r M T k zs vs).0
      ≡ row 1 (ltb 29 l.depth || ltb 29 r.depth)
      (row 2 (ltb 29 M)
      (row 3 (is_nan T)
      (row 3 (invalid_density k)
      (rows_of (protected_refusal 29 P)
      (row 4 (unpaired l r (length zs) (length vs))
      (row_at 5 (faulty_entry (first_fault 29 l.depth l.zuniqs))
      (row_at 5 (faulty_entry (first_fault 29 r.depth r.zuniqs))
      (rows_of (density_refusal 0 l.values)
      (rows_of (density_refusal 0 r.values)
      (row 10 (some_not_finite (product_kept k l r))
      (row 11 (ltb (length zs) (length (product_kept k l r)))
      (Told.answer (length product_map)))))))))))))
  unfolding product_densities Combining.product_over Combining.product_refusal Combining.product_input_refusal Combining.factor_refusal Combining.pairs_refusal Combining.map_densities_refusal Combining.finite_refusal Combining.places_refusal
  product_tells =
      let input = Combining.product_input_refusal P l r M T k (length zs) (length vs) in
      let space : Told ℕ = row 11 (ltb (length zs) (length (product_kept k l r))) (Told.answer (length product_map)) in
      let last : Told ℕ = row 10 (some_not_finite (product_kept k l r)) space in
      densities_told (density_calls P (result_depth l r) M T) (Combining.product_refusal P l r M T k (length zs) (length vs)) _ product_map
      ∙ in_order input _ _
      ∙ ap (rows_of input)
      (in_order (refused_if (some_not_finite (product_kept k l r)) Refusal.ProductNotFinite) _ _
      ∙ one_row (some_not_finite (product_kept k l r)) _ _
      ∙ ap (row 10 (some_not_finite (product_kept k l r))) (one_row (ltb (length zs) (length (product_kept k l r))) _ _))
      ∙ in_order (Combining.settings_refusal l.depth r.depth M T) _ last
      ∙ combining_rows l.depth r.depth M T _
      ∙ ap (λ x. row 1 (ltb 29 l.depth || ltb 29 r.depth) (row 2 (ltb 29 M) (row 3 (is_nan T) x)))
      (in_order (refused_if (invalid_density k) Refusal.InvalidFactor) _ last
      ∙ one_row (invalid_density k) _ _
      ∙ ap (row 3 (invalid_density k))
      (in_order (protected_refusal 29 P) _ last
      ∙ ap (rows_of (protected_refusal 29 P))
      (in_order (refused_if (unpaired l r (length zs) (length vs)) Refusal.LengthMismatch) _ last
      ∙ one_row (unpaired l r (length zs) (length vs)) _ _
      ∙ ap (row 4 (unpaired l r (length zs) (length vs)))
      (in_order (Combining.maps_refusal l r) _ last
      ∙ maps_rows l r _
      ∙ ap (λ x. row_at 5 (faulty_entry (first_fault 29 l.depth l.zuniqs)) (row_at 5 (faulty_entry (first_fault 29 r.depth r.zuniqs)) x))
      (in_order (density_refusal 0 l.values) (density_refusal 0 r.values) last)))))

-- ---- section 7
-- Reading rows: 4, 11.
pub read_rows_tells : (k bytes : ℕ) (ls : List ℕ) → told (rows_to_read k bytes ls)
    ≡ row 4 (differ ls) (row 4 (not (eqb (bytes % k) 0)) (row 11 (ltb (places ls) (bytes / k)) (Told.answer (bytes / k))))
unfolding rows_to_read
read_rows_tells k bytes ls =
    of_choice told (differ ls) _ _
    ∙ ap (row 4 (differ ls)) (of_choice told (not (eqb (bytes % k) 0)) _ _
    ∙ ap (row 4 (not (eqb (bytes % k) 0))) (of_choice told (ltb (places ls) (bytes / k)) _ _))

-- Writing rows: 4, 11.
pub write_rows_tells : (k bytes : ℕ) (ls : List ℕ) → told (rows_to_write k bytes ls)
    ≡ row 4 (differ ls) (row 11 (ltb bytes (places ls * k)) (Told.answer (places ls)))
unfolding rows_to_write
write_rows_tells k bytes ls =
    of_choice told (differ ls) _ _
    ∙ ap (row 4 (differ ls)) (of_choice told (ltb bytes (places ls * k)) _ _)

-- The density of a count: 1.
pub density_of_count-tells : (n d : ℕ) → told (density_of_count 29 n d) ≡ row 1 (ltb 29 d) (Told.answer (density_at n d))
unfolding density_of_count
density_of_count-tells n d = of_choice told (ltb 29 d) _ _

-- ---- note 2
moved_told : (o : Option Refusal) (L d : ℕ) (s : List (Entry ℕ)) (ozs ovs : List ℕ) → told_moved (moved_or o L d s ozs ovs).0 ≡ rows_of o (Told.answer (d, length s))
unfolding moved_or
moved_told none L d s ozs ovs = refl
moved_told (some r) L d s ozs ovs = refl

-- Moving a map of depth D from the largest depth K to L: 1, 4, 5, 13 "tried after 5", 11.
module _ (K L D : ℕ) (zs vs ozs ovs : List ℕ) where
  pub moving_tells : told_moved (moved K L D zs vs ozs ovs).0
      ≡ row 1 (ltb K D)
      (row 4 (not (eqb (length zs) (length vs)) || (ltb (length zs) 0 || not (eqb (length ozs) (length ovs))))
      (row_at 5 (faulty_entry (first_fault K D zs))
      (rows_of (deep_refusal K L 0 zs)
      (row 11 (ltb (length ozs) (0 + length zs))
      (Told.answer (min D L, length (held K (length zs) zs vs)))))))
  unfolding moved moving_refusal entries_refusal lengths_refusal space_refusal
  moving_tells =
      moved_told (moving_refusal K L D zs (length vs) (length ozs) (length ovs)) L (min D L) (held K (length zs) zs vs) ozs ovs
      ∙ in_order (refused_if (ltb K D) Refusal.DepthOutOfRange) _ _
      ∙ one_row (ltb K D) _ _
      ∙ ap (row 1 (ltb K D)) (in_order (lengths_refusal 0 (length zs) (length vs) (length ozs) (length ovs)) _ _
      ∙ one_row (not (eqb (length zs) (length vs)) || (ltb (length zs) 0 || not (eqb (length ozs) (length ovs)))) _ _
      ∙ ap (row 4 (not (eqb (length zs) (length vs)) || (ltb (length zs) 0 || not (eqb (length ozs) (length ovs)))))
      (in_order (entries_refusal K L D zs) _ _
      ∙ in_order (map_refusal (first_fault K D zs)) _ _
      ∙ map_row (first_fault K D zs) _
      ∙ ap (row_at 5 (faulty_entry (first_fault K D zs))) (ap (rows_of (deep_refusal K L 0 zs)) (one_row (ltb (length ozs) (0 + length zs)) _ _))))

-- ---- note 3
laid-told : (a : Result ℕ Refusal) (bytes : ℕ → List ℕ) (output : List ℕ) → told (laid a bytes output).0 ≡ told a
unfolding laid
laid-told (Ok n) bytes output = refl
laid-told (Err r) bytes output = refl

-- Laying rows of k bytes out by column, and the way back: 4, 11.
module _ (k bytes space : ℕ) where
  abbrev pub lay_told : Told ℕ
  lay_told = row 4 (not (named k)) (row 4 (not (eqb (bytes % k) 0)) (row 11 (ltb space bytes) (Told.answer (bytes / k))))

  lay_tells : told (rows_to_lay k bytes space) ≡ lay_told
  unfolding rows_to_lay
  lay_tells =
      of_choice told (not (named k)) _ _
      ∙ ap (row 4 (not (named k))) (of_choice told (not (eqb (bytes % k) 0)) _ _
      ∙ ap (row 4 (not (eqb (bytes % k) 0))) (of_choice told (ltb space bytes) _ _))

module _ (k : ℕ) (bytes output : List ℕ) where
  pub rows_to_columns-tells : told (rows_to_columns k bytes output).0 ≡ lay_told k (length bytes) (length output)
  unfolding rows_to_columns
  rows_to_columns-tells = laid-told (rows_to_lay k (length bytes) (length output)) _ output ∙ lay_tells k (length bytes) (length output)

  pub columns_to_rows-tells : told (columns_to_rows k bytes output).0 ≡ lay_told k (length bytes) (length output)
  unfolding columns_to_rows
  columns_to_rows-tells = laid-told (rows_to_lay k (length bytes) (length output)) _ output ∙ lay_tells k (length bytes) (length output)

-- ---- note 6
covered_told : (o : Option Refusal) (rs : List Range) (ss es : List ℕ) → told (covered_or o rs ss es).0 ≡ rows_of o (Told.answer (length rs))
covered_told none rs ss es = refl
covered_told (some r) rs ss es = refl

clipped_told : (o : Option Refusal) (l : List (Entry Float)) (zs : List ℕ) (vs : List Float) → told (clipped_or o l zs vs).0 ≡ rows_of o (Told.answer (length l))
clipped_told none l zs vs = refl
clipped_told (some r) l zs vs = refl

-- Writing a coverage: 1, 4, 5, 11.
module _ (D : ℕ) (zs ss es : List ℕ) where
  pub coverage_tells : told (coverage_call D zs ss es).0
      ≡ row 1 (ltb 29 D)
      (row 4 (not (eqb (length ss) (length es)))
      (row_at 5 (faulty_entry (first_fault 29 D zs))
      (row 11 (ltb (length ss) (length (coverage_of 29 zs)))
      (Told.answer (length (coverage_of 29 zs))))))
  unfolding coverage_call coverage_refusal coverage_input_refusal
  coverage_tells =
      let input = coverage_input_refusal D zs (length ss) (length es) in
      let last : Told ℕ = row 11 (ltb (length ss) (length (coverage_of 29 zs))) (Told.answer (length (coverage_of 29 zs))) in
      covered_told (coverage_refusal D zs (length ss) (length es)) (coverage_of 29 zs) ss es
      ∙ in_order input _ _
      ∙ ap (rows_of input) (one_row (ltb (length ss) (length (coverage_of 29 zs))) _ _)
      ∙ in_order (refused_if (ltb 29 D) Refusal.DepthOutOfRange) _ last
      ∙ one_row (ltb 29 D) _ _
      ∙ ap (row 1 (ltb 29 D)) (in_order (refused_if (not (eqb (length ss) (length es))) Refusal.LengthMismatch) _ last
      ∙ one_row (not (eqb (length ss) (length es))) _ _
      ∙ ap (row 4 (not (eqb (length ss) (length es)))) (map_row (first_fault 29 D zs) last))

-- Clipping: 1, 4, 5, 6, 14 "tried after 6", 11.
module _ (m : Given Float) (ss es : List ℕ) (zs : List ℕ) (vs : List Float) where
  -- "4. Paired buffers differ in length": of the map, the coverage and the output
  abbrev pub unpaired_to_clip : Bool
  unpaired_to_clip = not (eqb (length m.zuniqs) (length m.values)) || (not (eqb (length ss) (length es)) || not (eqb (length zs) (length vs)))

  pub clip_tells : told (clip_call m ss es zs vs).0
      ≡ row 1 (ltb 29 m.depth)
      (row 4 unpaired_to_clip
      (row_at 5 (faulty_entry (first_fault 29 m.depth m.zuniqs))
      (rows_of (density_refusal 0 m.values)
      (rows_of (ranges_refusal (n_hash 29) 0 0 (ranges_of ss es))
      (row 11 (ltb (length zs) (length (clipped_of m.zuniqs m.values ss es)))
      (Told.answer (length (clipped_of m.zuniqs m.values ss es))))))))
  unfolding clip_call clip_refusal clip_input_refusal Combining.pairs_refusal Combining.places_refusal
  clip_tells =
      let cells = clipped_of m.zuniqs m.values ss es in
      let input = clip_input_refusal m ss es (length zs) (length vs) in
      let last : Told ℕ = row 11 (ltb (length zs) (length cells)) (Told.answer (length cells)) in
      clipped_told (clip_refusal m ss es (length zs) (length vs)) cells zs vs
      ∙ in_order input _ _
      ∙ ap (rows_of input) (one_row (ltb (length zs) (length cells)) _ _)
      ∙ in_order (refused_if (ltb 29 m.depth) Refusal.DepthOutOfRange) _ last
      ∙ one_row (ltb 29 m.depth) _ _
      ∙ ap (row 1 (ltb 29 m.depth)) (in_order (refused_if unpaired_to_clip Refusal.LengthMismatch) _ last
      ∙ one_row unpaired_to_clip _ _
      ∙ ap (row 4 unpaired_to_clip) (in_order (map_refusal (first_fault 29 m.depth m.zuniqs)) _ last
      ∙ map_row (first_fault 29 m.depth m.zuniqs) _
      ∙ ap (row_at 5 (faulty_entry (first_fault 29 m.depth m.zuniqs))) (in_order (density_refusal 0 m.values) _ last)))

-- ---- note 8
asked_told : (o : Option Refusal) (f : Figures) → told_asked (ok_unless o f) ≡ rows_of o (Told.answer (f.cells, f.entries, f.total))
asked_told none f = refl
asked_told (some r) f = refl

or-false : (b : Bool) → (b || false) ≡ b
or-false true = refl
or-false false = refl

module _ (P : List ℕ) (l r : Given ℕ) (M : ℕ) (T : Float) where
  abbrev pub asked_pool : List (Entry ℕ)
  asked_pool = defined_pool (accept_counts 29 P M T) (result_depth l r) (entries l) (entries r)

  -- Asking: 1 to 3, 15, 4 of the maps alone, 5, 10.
  pub ask_tells : told_asked (ask_counts P l r M T)
      ≡ row 1 (ltb 29 l.depth || ltb 29 r.depth)
      (row 2 (ltb 29 M)
      (row 3 (is_nan T)
      (rows_of (protected_refusal 29 P)
      (row 4 (not (eqb (length l.zuniqs) (length l.values)) || not (eqb (length r.zuniqs) (length r.values)))
      (row_at 5 (faulty_entry (first_fault 29 l.depth l.zuniqs))
      (row_at 5 (faulty_entry (first_fault 29 r.depth r.zuniqs))
      (row 10 (ltb 4294967295 (sum_of l.values + sum_of r.values))
      (Told.answer (length (overlay split_count (result_depth l r) (entries l) (entries r)), length asked_pool, total_of asked_pool)))))))))
  unfolding ask_counts figures_of
  ask_tells =
      asked_told (ask_refusal P l r M T) (figures_of P l r M T)
      ∙ pool_input_rows P l r M T 0 0 _
      ∙ rw (or-false (not (eqb (length r.zuniqs) (length r.values)))) refl

  -- Committing: as a pool, with 16 "tried after 10".
  module _ (f : Figures) (zs vs : List ℕ) where
    pub commit_tells : told_counts (commit_counts P l r M T f zs vs).0
        ≡ row 1 (ltb 29 l.depth || ltb 29 r.depth)
        (row 2 (ltb 29 M)
        (row 3 (is_nan T)
        (rows_of (protected_refusal 29 P)
        (row 4 (unpaired l r (length zs) (length vs))
        (row_at 5 (faulty_entry (first_fault 29 l.depth l.zuniqs))
        (row_at 5 (faulty_entry (first_fault 29 r.depth r.zuniqs))
        (row 10 (ltb 4294967295 (sum_of l.values + sum_of r.values))
        (row 16 (not (same_figures f (figures_of P l r M T)))
        (row 11 (ltb (length zs) (length (pool_kept l r)))
        (Told.answer (length (reverse asked_pool), total_of (reverse asked_pool))))))))))))
    unfolding commit_counts Combining.pool_over commit_refusal figures_refusal Combining.places_refusal
    commit_tells =
        let input = Combining.pool_input_refusal P l r M T (length zs) (length vs) in
        let differ = not (same_figures f (figures_of P l r M T)) in
        counts_told (count_calls 29 P (result_depth l r) M T) (commit_refusal P l r M T f (length zs) (length vs)) _ (reverse asked_pool)
        ∙ in_order input _ _
        ∙ ap (rows_of input) (in_order (refused_if differ Refusal.FiguresDiffer) _ _ ∙ one_row differ _ _ ∙ ap (row 16 differ) (one_row (ltb (length zs) (length (pool_kept l r))) _ _))
        ∙ pool_input_rows P l r M T (length zs) (length vs) _
