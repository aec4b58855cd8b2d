-- What the program prints for a readable text whose cells are accepted: the defined map of section 4, entry by entry, then the
-- number of its entries and the sum of the counts. Assumes nothing.
use mathlib.Core.Path.{◌≡◌, refl, ap, sym, ◌∙◌}
use mathlib.Core.List.{List, [], ◌∷◌, ◌++◌, map, reverse, reverse-reverse}
use mathlib.Core.Logic.{inl, inr}
use mathlib.Core.Option.{Option, none, some}
use Prim.Native.Nat.{ℕ, suc, ◌+◌, ◌≤◌, ◌<◌}
use native.Mathlib.Omega.{arith}
use native.Mathlib.Numerals.{add-one}
use lib.Ieee.{Float}
use lib.ListN.{length, take, length-reverse, length-replicate}
use Rattle.zuniq.specs.Cells.{n_hash, end}
use Rattle.refusal.specs.declared.Refusal.{Refusal}
use Rattle.zuniq.proofs.Codec.{cell, decodes}
use Rattle.zuniq.proofs.Ranges.{start-deepest, end-is_next_start}
use Rattle.merger.specs.Merge.{accept_counts}
use Rattle.merger.proofs.Accept.{accepted_count_is_sum}
use Rattle.build.specs.Map.{Entry, defined_map}
use Rattle.build.specs.Stack.{run}
use Rattle.build.specs.Buffers.{batch, laid, zuniq_of, value_of, zuniq_buffer, value_buffer, read_onto, held}
use Rattle.build.specs.Promises.{Has, Rises}
use Rattle.build.specs.Calls.{Buffers, Answer, answered, add_call}
use Rattle.build.specs.Add.{map_end, cells_refusal, cell_refusal, sum_of}
use Rattle.build.specs.Counts.{never, total_of, counts_refusal, Report, count_calls, counts_added, add_counts}
use Rattle.build.proofs.Adding.{run-total}
use Rattle.build.proofs.Law.{run-gives_defined_map}
use Rattle.build.proofs.DefinedMap.{defined_map-in_range}
use Rattle.build.proofs.Buffers.{take-filled}
use Rattle.refusal.proofs.Checks.{or_else_none}
use Rattle.build.proofs.Checking.{cell_passes}
use Rattle.build.proofs.Accepted.{counts_accepted, batch-total}
use Rattle.mombuild.specs.Mombuild.{reading, readable, thousandths, answer_text, map_text, places, mombuild}
use Rattle.map_text.specs.Lines.{entry_text, entries_text, end_text}

-- the entries of a map, the first one first
unfoldable pub lines_of : List (Entry ℕ) → List ℕ
lines_of [] = []
lines_of (e ∷ l) = entry_text e.depth e.hash e.value ++ lines_of l

-- Entries that lie in the sky are printed as they are.
entries_are : (l : List (Entry ℕ)) → ((e : Entry ℕ) → Has l e → (e.depth ≤ 29) × (e.hash < n_hash e.depth)) → entries_text (map (zuniq_of 29) l) (map value_of l) ≡ lines_of l
unfolding entries_text lines_of
entries_are [] low = refl
entries_are (e ∷ l) low =
    let u = low e (inl refl) in
    rw ((decodes 29 _ (cell e.depth e.hash)).1 (record { deep = u.0; hash = u.1; is = refl }), entries_are l (λ c m. low c (inr m))) refl

end-deepest : (D h : ℕ) → end D D h ≡ h + 1
end-deepest D h = end-is_next_start D D h ∙ start-deepest D (suc h) ∙ sym (add-one h)

-- Cells that are not refused rise.
batch-rises : (D least i : ℕ) (hs ns : List ℕ) → least ≤ n_hash D → length hs ≡ length ns → cells_refusal never D least i hs ns ≡ none → Rises D least (n_hash D) (batch D hs ns)
unfolding batch cells_refusal
batch-rises D least i [] ns u n e = u
batch-rises D least i (h ∷ hs) [] u n e = absurd (omega arith)
batch-rises D least i (h ∷ hs) (x ∷ ns) u n e =
    let a = or_else_none (cell_refusal (n_hash D) least h i) (cells_refusal never D (h + 1) (i + 1) hs ns) e in
    let p = cell_passes (n_hash D) least h i a.0 in
    (omega arith, rw (start-deepest D h) p.1, rw (end-deepest D h) (batch-rises D (h + 1) (i + 1) hs ns (omega (arith, p.0)) (omega arith) a.1))

length-places : length places ≡ 2048
unfolding places
length-places = length-replicate {A = ℕ} 2048 0

module _ (D M : ℕ) (T : Float) (hs ns : List ℕ) (e : counts_refusal 29 [] D M T 0 2048 2048 [] [] hs ns ≡ none) where
  abbrev the_map : List (Entry ℕ)
  the_map = defined_map (accept_counts 29 [] M T) D (batch D hs ns)

  rises : Rises D 0 (n_hash D) (batch D hs ns)
  unfolding map_end
  rises =
      let a = (counts_accepted 29 [] D M T 0 2048 2048 [] [] hs ns e).0 in
      batch-rises D 0 0 hs ns (omega arith) a.batched a.cells

  ran : run (accept_counts 29 [] M T) [] (batch D hs ns) ≡ reverse the_map
  ran = run-gives_defined_map (accept_counts 29 [] M T) D (batch D hs ns) rises

  sum_is : total_of (run (accept_counts 29 [] M T) [] (batch D hs ns)) ≡ sum_of ns
  sum_is =
      let a = (counts_accepted 29 [] D M T 0 2048 2048 [] [] hs ns e).0 in
      let r = run-total (accept_counts 29 [] M T) (λ n. n) (λ d h n0 n1 n2 n3 x q. accepted_count_is_sum 29 [] M T d h n0 n1 n2 n3 x q) [] (batch D hs ns) in
      omega (arith, r, batch-total D hs ns a.batched)

  low : (c : Entry ℕ) → Has the_map c → (c.depth ≤ 29) × (c.hash < n_hash c.depth)
  low c m =
      let a = (counts_accepted 29 [] D M T 0 2048 2048 [] [] hs ns e).0 in
      let r = defined_map-in_range (accept_counts 29 [] M T) D (batch D hs ns) c m in
      (omega (arith, r.0, a.shallow), r.1)

  -- what an accepted call on the program's buffers leaves and answers
  abbrev answer_of : ℕ → List (Entry ℕ) → List ℕ
  answer_of n s = entries_text (take (length s) (zuniq_buffer 29 n s)) (take (length s) (value_buffer 0 n s)) ++ end_text (length s) (total_of s)

  answer_is : (n : ℕ) (s : List (Entry ℕ)) → s ≡ reverse the_map → total_of s ≡ sum_of ns → answer_of n s ≡ lines_of the_map ++ end_text (length the_map) (sum_of ns)
  unfolding laid
  answer_is n s q t =
      let z = take-filled (zuniq_of 29) 0 n s in
      let v = take-filled value_of 0 n s in
      let same : reverse s ≡ the_map = ap reverse q ∙ reverse-reverse the_map in
      let len : length s ≡ length the_map = ap length q ∙ length-reverse the_map in
      rw (z, v, same, entries_are the_map low, len, t) refl

  abbrev text_of : Buffers ℕ × Answer Refusal Report → List ℕ
  text_of t = answer_text (counts_added t.1) t.0.zuniqs t.0.values

  shown : (o : Option Refusal) (s : List (Entry ℕ)) → o ≡ none → text_of (answered (count_calls 29 [] D M T) o (record { number = 0; zuniqs = places; values = places }) s) ≡ answer_of (length places) s
  shown none s q = refl
  shown (some r) s q = let z : ◌≡◌ {A = ℕ} 0 1 = cc in absurd (omega arith)

  accepted : counts_refusal 29 [] D M T 0 (length places) (length places) [] [] hs ns ≡ none
  accepted = rw length-places e

  pub map_text_lem : map_text D M T hs ns ≡ lines_of the_map ++ end_text (length the_map) (sum_of ns)
  unfolding map_text add_counts add_call held read_onto
  map_text_lem =
      let s = run (accept_counts 29 [] M T) [] (batch D hs ns) in
      shown (counts_refusal 29 [] D M T 0 (length places) (length places) [] [] hs ns) s accepted ∙ answer_is (length places) s ran sum_is

-- The program prints the defined map.
pub prints_defined_map : (l : List ℕ) (D M T : ℕ) (hs ns : List ℕ) → reading l ≡ readable D M T hs ns → counts_refusal 29 [] D M (thousandths T) 0 2048 2048 [] [] hs ns ≡ none
    → mombuild l ≡ lines_of (defined_map (accept_counts 29 [] M (thousandths T)) D (batch D hs ns)) ++ end_text (length (defined_map (accept_counts 29 [] M (thousandths T)) D (batch D hs ns))) (sum_of ns)
unfolding mombuild
prints_defined_map l D M T hs ns r e = rw r (map_text_lem D M (thousandths T) hs ns e)
