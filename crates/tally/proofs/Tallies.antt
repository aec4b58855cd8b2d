-- Counting cells one after the other: the figures are the tally of the cells. For every merger of counts. Assumes nothing.
use mathlib.Core.Path.{◌≡◌, refl, ap, sym, ◌∙◌}
use mathlib.Core.List.{List, [], ◌∷◌, ◌++◌}
use Prim.Native.Nat.{ℕ, ◌+◌, ◌^◌, ◌≤◌, ◌<◌}
use native.Mathlib.Omega.{arith}
use lib.ListN.{length, length-append}
use Rattle.zuniq.specs.Cells.{n_hash}
use Rattle.zuniq.specs.Codec.{IsZuniqOf}
use Rattle.build.specs.Map.{Entry, Merger}
use Rattle.build.specs.Stack.{run}
use Rattle.build.specs.Buffers.{held}
use Rattle.build.specs.Counts.{total_of}
use Rattle.build.specs.Promises.{end_of, Rises, Sums}
use Rattle.build.proofs.Places.{held-length}
use Rattle.tally.specs.Tally.{Tally, tally_of, entries_in, tallied, tally}
use Rattle.tally.specs.Running.{CanCount, Counted, Tallies, CanTally}
use Rattle.tally.specs.declared.Running.{Running}
use Rattle.tally.proofs.Counting.{tally-counts_run}
use Rattle.tally.proofs.Chain.{tally-live}
use Rattle.tally.proofs.Appending.{tally-next, tally-total}
use Rattle.tally.proofs.Counted.{nothing_held, nothing_runs}

module _ {accept : Merger ℕ} {zs₀ vs₀ : List ℕ} where
  pub Tallies-nothing : (t : Running) → t ≡ record { cells = 0; settled = 0; live = 0; end = 0 } → Tallies accept zs₀ vs₀ [] t zs₀ vs₀
  unfolding tally
  Tallies-nothing t q = rw q (record {
    runs = nothing_runs (record { cells = 0; settled = 0; live = 0; end = 0 }) zs₀ vs₀ refl (omega arith);
    number = refl;
    is = ap (tally_of 0) (nothing_held zs₀ vs₀);
    zuniqs = refl;
    values = refl;
  })

  -- A cell behind the others.
  pub Tallies-next : {t r : Running} {zs vs zs' vs' : List ℕ} (e : Entry ℕ) (cells : List (Entry ℕ)) → Tallies accept zs₀ vs₀ cells t zs vs → Counted accept t e zs vs r zs' vs'
      → length zs' ≡ length zs → length vs' ≡ length vs → Tallies accept zs₀ vs₀ (cells ++ (e ∷ [])) r zs' vs'
  Tallies-next e cells w k p q = record {
    runs = k.runs;
    number = k.cells ∙ omega (arith, w.number, length-append cells (e ∷ []));
    is = k.is ∙ ap (λ t. tallied accept 29 t e) w.is ∙ sym (tally-next accept 29 (tally_of 0 []) cells e);
    zuniqs = p ∙ w.zuniqs;
    values = q ∙ w.values;
  }

  module _ {t : Running} {zs vs : List ℕ} {cells : List (Entry ℕ)} (w : Tallies accept zs₀ vs₀ cells t zs vs) where
    live_is : length (held 29 t.live zs vs) ≡ t.live
    live_is = held-length 29 0 t.live zs vs w.runs.stands

    -- At the end they are the figures of the map.
    pub tallies_end : (z : ℕ) → Rises 29 0 z cells → t.settled + t.live ≡ length (run accept [] cells)
    tallies_end z r = ap (λ n. t.settled + n) (sym live_is) ∙ ap entries_in w.is ∙ tally-counts_run accept 29 z cells r

    -- One cell more can be counted, where the counts fit: with 88 places there is one for it.
    pub can_count : Sums accept (λ n. n) → (c z : ℕ) (e : Entry ℕ) → Rises 29 0 c cells → 87 < length zs₀ → 87 < length vs₀ → IsZuniqOf 29 z e.depth e.hash → total_of cells + e.value ≤ 4294967295 → length cells + 1 ≤ n_hash 29
        → CanCount t z e zs vs
    unfolding n_hash
    can_count sums c z e rise a b good fits few =
        let chain : length (tally accept 29 (tally_of 0 []) cells).live ≤ 87 = tally-live accept 29 0 c cells rise in
        let same : length (held 29 t.live zs vs) ≡ length (tally accept 29 (tally_of 0 []) cells).live = ap (λ (x : Tally ℕ). length x.live) w.is in
        let sum : total_of (held 29 t.live zs vs) ≡ total_of (tally accept 29 (tally_of 0 []) cells).live = ap (λ (x : Tally ℕ). total_of x.live) w.is in
        record {
          runs = w.runs;
          zuniqs = omega (arith, w.zuniqs, live_is);
          values = omega (arith, w.values, live_is);
          good = good;
          fits = omega (arith, tally-total accept 29 (λ n. n) sums (tally_of 0 []) cells);
          number = omega (arith, w.number);
        }

-- The front of cells that rise rises.
Rises-front : (a b : ℕ) (l o : List (Entry ℕ)) → Rises 29 a b (l ++ o) → (c : ℕ) × Rises 29 a c l
Rises-front a b [] o r = (a, omega arith)
Rises-front a b (e ∷ l) o r = let p = Rises-front (end_of 29 e) b l o r.2 in (p.0, (r.0, r.1, p.1))

total-append : (l m : List (Entry ℕ)) → total_of (l ++ m) ≡ total_of l + total_of m
total-append [] m = omega arith
total-append (e ∷ l) m = omega (arith, total-append l m)

-- Of cells that can be counted the next one can.
pub can_count_next : {accept : Merger ℕ} {zs₀ vs₀ : List ℕ} {t : Running} {zs vs : List ℕ} {cells : List (Entry ℕ)} (e : Entry ℕ) (o : List (Entry ℕ)) → Tallies accept zs₀ vs₀ cells t zs vs → Sums accept (λ n. n)
    → CanTally zs₀ vs₀ (cells ++ (e ∷ o)) → (z : ℕ) → IsZuniqOf 29 z e.depth e.hash → CanCount t z e zs vs
can_count_next {cells} e o w sums k z good =
    let r = Rises-front 0 (n_hash 29) cells (e ∷ o) k.rises in
    can_count w sums r.0 z e r.1 k.zuniqs k.values good (omega (arith, k.fits, total-append cells (e ∷ o))) (omega (arith, k.few, length-append cells (e ∷ o)))

-- All of them have been counted: these are the figures of the map.
pub tallied_all : {accept : Merger ℕ} {zs₀ vs₀ zs vs : List ℕ} {n : Running} {cells : List (Entry ℕ)} → Tallies accept zs₀ vs₀ cells n zs vs → Rises 29 0 (n_hash 29) cells → length cells ≤ n_hash 29
    → (n.cells ≡ length cells) × (n.settled + n.live ≡ length (run accept [] cells)) × (n.settled + n.live < 2 ^ 64)
unfolding n_hash
tallied_all w rises few = (w.number, tallies_end w (n_hash 29) rises, omega (arith, w.runs.few, w.number, few))
