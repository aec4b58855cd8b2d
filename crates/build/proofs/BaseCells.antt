-- Cells of depth 0, the base cells: note 1 of 02. They have no parent, so that an add call appends them and merges none, whatever the
-- merger. Assumes nothing.
use mathlib.Core.Path.{◌≡◌, refl, ap, ap₂, sym, ◌∙◌}
use mathlib.Core.List.{List, [], ◌∷◌, ◌++◌, map, reverse, reverse_aux, reverse-reverse, append_assoc}
use mathlib.Core.Logic.{inl, inr}
use mathlib.Core.Option.{none}
use Prim.Native.Nat.{ℕ, zero, suc, ◌+◌, ◌-◌}
use native.Mathlib.Omega.{arith}
use lib.Ieee.{Float, nan}
use lib.ListN.{length, take, replicate, length-map, length-reverse_aux}
use Rattle.zuniq.specs.Cells.{n_hash}
use Rattle.zuniq.specs.Codec.{zuniq}
use Rattle.merger.specs.Floats.{0·0}
use Rattle.merger.specs.Merge.{accept_counts, accept_densities}
use Rattle.merger.proofs.Accept.{accepted_count_is_sum}
use Rattle.std.specs.Prelude.{Ok}
use Rattle.build.specs.Map.{Entry, Merger, defined_map}
use Rattle.build.specs.Stack.{collapse_up_to, collapse, run}
use Rattle.build.specs.Buffers.{batch, laid, filled, zuniq_of, value_of, zuniq_buffer, value_buffer, held}
use Rattle.build.specs.Promises.{Has, Rises}
use Rattle.build.specs.Calls.{add_call}
use Rattle.build.specs.Standing.{Stands}
use Rattle.build.specs.Add.{sum_of}
use Rattle.build.specs.Counts.{total_of, counts_refusal, add_counts}
use Rattle.build.specs.Densities.{densities_refusal, add_densities}
use Rattle.build.proofs.Law.{run-gives_defined_map}
use Rattle.build.proofs.Adding.{run-total}
use Rattle.build.proofs.Buffers.{laid-onto, length-batch, batch-zuniqs, batch-values}
use Rattle.build.proofs.Calls.{batch-depth}
use Rattle.build.proofs.Places.{held-length, held-zuniqs, held-values}
use Rattle.build.proofs.Accepted.{counts_accepted, valid_stands, held-total, batch-total}
use Rattle.build.proofs.DensityCalls.{densities_accepted}

-- cells of depth 0
abbrev pub BaseCells : {A : Type 0} → List (Entry A) → Type 0
BaseCells {A} l = (e : Entry A) → Has l e → e.depth ≡ 0

module _ {A : Type 0} (accept : Merger A) where
  -- A base cell that is appended completes no four siblings.
  base_cell_stays : (e : Entry A) (s : List (Entry A)) → e.depth ≡ 0 → collapse accept (e ∷ s) ≡ e ∷ s
  unfolding collapse collapse_up_to
  base_cell_stays e s q = ap (λ (n : ℕ). collapse_up_to accept n (e ∷ s)) q

  -- "each cell stays as it is, since there is no parent": the cells are put behind the entries, the last one first.
  pub BaseCells-stay : (s l : List (Entry A)) → BaseCells l → run accept s l ≡ reverse_aux l s
  unfolding run
  BaseCells-stay s [] low = refl
  BaseCells-stay s (e ∷ l) low = rw (base_cell_stays e s (low e (inl refl))) (BaseCells-stay (e ∷ s) l (λ c m. low c (inr m)))

  -- The defined map of base cells is these cells.
  pub BaseCells-map : (D : ℕ) → D ≡ 0 → (l : List (Entry A)) → BaseCells l → Rises D 0 (n_hash D) l → defined_map accept D l ≡ l
  BaseCells-map zero q l low r =
      let m = defined_map accept 0 l in
      sym (reverse-reverse m) ∙ ap reverse (sym (run-gives_defined_map accept 0 l r) ∙ BaseCells-stay [] l low) ∙ reverse-reverse l
  BaseCells-map (suc D) q l low r = absurd (omega arith)

-- "the held ones followed by the batch's": a buffer whose first m places are held, with some more behind them, and then the value that
-- clears a place
abbrev pub followed : {B : Type 0} → ℕ → List B → List B → B → List B
followed m l more filler = take m l ++ (more ++ replicate (length l - (m + length more)) filler)

-- ---- what an accepted call of depth 0 leaves
module _ {A : Type 0} (accept : Merger A) (K : ℕ) (u : A) (m : ℕ) (zs : List ℕ) (vs : List A) (w : Stands K m zs vs) (hs : List ℕ) (xs : List A) (n : length hs ≡ length xs) where
  abbrev left : List (Entry A)
  left = run accept (held K m zs vs) (batch 0 hs xs)

  left_is : left ≡ reverse_aux (batch 0 hs xs) (held K m zs vs)
  left_is = BaseCells-stay accept (held K m zs vs) (batch 0 hs xs) (batch-depth 0 hs xs)

  length-left : length left ≡ m + length (batch 0 hs xs)
  length-left = ap length left_is ∙ omega (arith, length-reverse_aux (batch 0 hs xs) (held K m zs vs), held-length K u m zs vs w)

  buffer_left : {B : Type 0} (part : Entry A → B) (filler : B) (l more : List B) → laid part (held K m zs vs) ≡ take m l → map part (batch 0 hs xs) ≡ more
      → filled part filler (length l) left ≡ followed m l more filler
  unfolding filled
  buffer_left part filler l more p q =
      let b = batch 0 hs xs in
      let laid_left : laid part left ≡ take m l ++ more = ap (laid part) left_is ∙ laid-onto part b (held K m zs vs) ∙ ap₂ ◌++◌ p q in
      let number : length left ≡ m + length more = length-left ∙ ap (λ (k : ℕ). m + k) (sym (length-map b part) ∙ ap length q) in
      rw (laid_left, number) (append_assoc (take m l) more _)

  zuniqs_left : zuniq_buffer K (length zs) left ≡ followed m zs (map (zuniq K 0) hs) 0
  zuniqs_left = buffer_left (zuniq_of K) 0 zs (map (zuniq K 0) hs) (held-zuniqs K u m zs vs w) (batch-zuniqs 0 K hs xs n)

  values_left : (filler : A) → value_buffer filler (length vs) left ≡ followed m vs xs filler
  values_left filler = buffer_left value_of filler vs xs (held-values K u m zs vs w) (batch-values 0 hs xs n)

-- Counts: "the entries after an accepted call are the held ones followed by the batch's cells with their values", at any M and T.
pub counts_at_depth_0 : (K : ℕ) (P : List ℕ) (M : ℕ) (T : Float) (m : ℕ) (zs vs hs ns : List ℕ) → counts_refusal K P 0 M T m (length zs) (length vs) (take m zs) (take m vs) hs ns ≡ none
    → add_counts K P 0 M T m zs vs hs ns ≡ (Ok (record { entries = m + length hs; total = sum_of (take m vs) + sum_of ns }), followed m zs (map (zuniq K 0) hs) 0, followed m vs ns 0)
unfolding add_counts add_call
counts_at_depth_0 K P M T m zs vs hs ns e =
    let a = (counts_accepted K P 0 M T m (length zs) (length vs) (take m zs) (take m vs) hs ns e).0 in
    let w = valid_stands K 0 m zs vs a.within (omega (arith, a.within, a.paired)) a.valid in
    let accept = accept_counts K P M T in
    let number = length-left accept K 0 m zs vs w hs ns a.batched ∙ ap (λ (k : ℕ). m + k) (length-batch 0 hs ns a.batched) in
    let sum : total_of (run accept (held K m zs vs) (batch 0 hs ns)) ≡ sum_of (take m vs) + sum_of ns =
    run-total accept (λ x. x) (λ d h k0 k1 k2 k3 x q. accepted_count_is_sum K P M T d h k0 k1 k2 k3 x q) (held K m zs vs) (batch 0 hs ns)
    ∙ ap₂ ◌+◌ (held-total K m zs vs w) (batch-total 0 hs ns a.batched) in
    rw (e, number, sum, zuniqs_left accept K 0 m zs vs w hs ns a.batched, values_left accept K 0 m zs vs w hs ns a.batched 0) refl

-- Densities likewise.
pub densities_at_depth_0 : (P : List ℕ) (M : ℕ) (T : Float) (m : ℕ) (zs : List ℕ) (vs : List Float) (hs : List ℕ) (xs : List Float) → densities_refusal P 0 M T m (length zs) (length vs) (take m zs) (take m vs) hs xs ≡ none
    → add_densities P 0 M T m zs vs hs xs ≡ (Ok (m + length hs), followed m zs (map (zuniq 29 0) hs) 0, followed m vs xs 0·0)
unfolding add_densities add_call
densities_at_depth_0 P M T m zs vs hs xs e =
    let a = (densities_accepted P 0 M T m (length zs) (length vs) (take m zs) (take m vs) hs xs e).0 in
    let w = valid_stands 29 0 m zs vs a.within (omega (arith, a.within, a.paired)) a.valid in
    let accept = accept_densities P M T in
    let number = length-left accept 29 nan m zs vs w hs xs a.batched ∙ ap (λ (k : ℕ). m + k) (length-batch 0 hs xs a.batched) in
    rw (e, number, zuniqs_left accept 29 nan m zs vs w hs xs a.batched, values_left accept 29 nan m zs vs w hs xs a.batched 0·0) refl
