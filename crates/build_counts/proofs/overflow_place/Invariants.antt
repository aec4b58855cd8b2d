use mathlib.Core.Path.{◌≡◌}
use Prim.Native.Nat.{◌+◌, ◌≤◌, ◌<◌}
use lib.ListN.{drop}
use Rattle.build.specs.Add.{sum_of, sum_refusal}
use Rattle.build_counts.proofs.overflow_place.Given as goal

abbrev pub invariant-loop-i : goal.invariant-loop-i
invariant-loop-i l =
    (l.sum ≤ 4294967296) × (l.held ≤ l.sum) × (l.i ≡ 0 → l.sum ≡ l.held) × (0 < l.i → l.sum ≤ 4294967295)
    × (sum_refusal l.sum l.i (drop l.i l.batch) ≡ sum_refusal l.held 0 l.batch) × (l.sum + sum_of (drop l.i l.batch) ≡ l.held + sum_of l.batch)
