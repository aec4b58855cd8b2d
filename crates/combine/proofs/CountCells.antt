-- The cells of a pool: they fit, they rise, and there are no more of them than cells of the largest depth. Assumes nothing.
use mathlib.Core.Path.{◌≡◌, refl, ap}
use mathlib.Core.List.{List, [], ◌∷◌, ◌++◌}
use Prim.Native.Nat.{ℕ, ◌+◌, ◌≤◌}
use native.Mathlib.Omega.{arith}
use lib.ListN.{length}
use Rattle.zuniq.specs.Cells.{n_hash}
use Rattle.build.specs.Map.{Entry, Merger}
use Rattle.build.specs.Promises.{Has, Rises}
use Rattle.build.specs.Counts.{total_of}
use Rattle.build.proofs.Entries.{value_le_total}
use Rattle.combine.specs.Overlay.{Seen, left, right, both, overlay}
use Rattle.combine.specs.Rules.{kept, split_count, pool_rule, pooled_count}
use Rattle.combine.specs.Heads.{At, shows, Turned}
use Rattle.combine.specs.Promises.{amount}
use Rattle.combine.specs.Slices.{entries_of, Holds}
use Rattle.combine.specs.Counts.{pooled, pool_cells}
use Rattle.combine.specs.Cells.{as_entry, zuniq_in, saw_of}
use Rattle.combine.specs.declared.cells.Dhzv.{Dhzv}
use Rattle.combine.specs.declared.cells.LhsRhsBoth.{LhsRhsBoth}
use Rattle.combine.proofs.Overlay.{overlay-length}
use Rattle.combine.proofs.Walk.{overlay-total}
use Rattle.combine.proofs.Kept.{kept-length, kept-overlay_rises, kept-pool_total}
use Rattle.combine.proofs.Outcomes.{total-append}
use Rattle.combine.proofs.Sharing.{split_count-shares}
use Rattle.combine.proofs.Walking.{Ready, shown_part}

-- They rise,
pub pool_cells-rise : (lz lv rz rv : List ℕ) → Merger ℕ → Rises 29 0 (n_hash 29) (pool_cells lz lv rz rv)
pool_cells-rise lz lv rz rv accept = kept-overlay_rises pool_rule accept split_count 29 (entries_of lz lv) (entries_of rz rv)

-- and are no more than there are cells of the largest depth.
pub pool_cells-few : (lz lv rz rv : List ℕ) → length (pool_cells lz lv rz rv) ≤ n_hash 29
pool_cells-few lz lv rz rv =
    let all = overlay split_count 29 (entries_of lz lv) (entries_of rz rv) in
    omega (arith, kept-length pool_rule all, overlay-length split_count 29 (entries_of lz lv) (entries_of rz rv))

module _ {lz lv rz rv : List ℕ} (h : Holds lz lv) (k : Holds rz rv) where
  -- They have the counts of both maps.
  pub pool_cells-total : total_of (pool_cells lz lv rz rv) ≡ total_of (entries_of lz lv) + total_of (entries_of rz rv)
  pool_cells-total = kept-pool_total 29 (entries_of lz lv) (entries_of rz rv) h.rises k.rises

  pooled-is : (s : Seen ℕ) → pooled_count s ≡ amount (λ n. n) s
  pooled-is (left m) = refl
  pooled-is (right n) = refl
  pooled-is (both m n) = refl

  -- Where these fit a u32, so does the count of each.
  pub pool_cell-fits : total_of (entries_of lz lv) + total_of (entries_of rz rv) ≤ 4294967295 → (e : Entry (Seen ℕ)) → Has (overlay split_count 29 (entries_of lz lv) (entries_of rz rv)) e → pooled_count e.value ≤ 4294967295
  pool_cell-fits fits e m =
      let o = overlay split_count 29 (entries_of lz lv) (entries_of rz rv) in
      rw (pooled-is e.value) (omega (arith, value_le_total (amount (λ n. n)) o e m, overlay-total split_count 29 (λ n. n) split_count-shares (entries_of lz lv) (entries_of rz rv) h.rises k.rises))

-- ---- a cell that is shown, whatever is done with it
module _ {lz lv rz rv : List ℕ} {Wrote : List (Entry ℕ) → Type 0} {m : ℕ} {l r : At (Dhzv ℕ)} {lp rp : List (Dhzv ℕ)} (h : Holds lz lv) (k : Holds rz rv)
    (fits : total_of (entries_of lz lv) + total_of (entries_of rz rv) ≤ 4294967295)
    (w : Ready split_count pool_rule as_entry zuniq_in lz lv rz rv Wrote l r lp rp m)
    (s : LhsRhsBoth ℕ) (t : Turned as_entry 29 l.head r.head (shows (saw_of s))) where
  abbrev cells : List (Entry ℕ)
  cells = kept pool_rule w.walking.done

  -- All counts that have been kept, with that of the cell, fit.
  pub kept_fits : total_of cells + (pooled s).value ≤ 4294967295
  kept_fits =
      let p = shown_part w (saw_of s) t in
      let q = ap total_of p.1 in
      let f = kept-pool_total 29 (entries_of lz lv) (entries_of rz rv) h.rises k.rises in
      omega (arith, total-append (λ n. n) (cells ++ (pooled s ∷ [])) p.0, total-append (λ n. n) cells (pooled s ∷ []))

  pub shown_fits : (pooled s).value ≤ 4294967295
  shown_fits = omega (arith, kept_fits)
