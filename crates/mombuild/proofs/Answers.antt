-- What is printed of an add call on the program's buffers. Assumes nothing.
use mathlib.Core.Path.{◌≡◌, ap}
use mathlib.Core.List.{List, []}
use Prim.Native.Nat.{ℕ}
use lib.Ieee.{Float}
use Rattle.build.specs.Counts.{add_counts}
use Rattle.std.specs.Prelude.{Result}
use Rattle.refusal.specs.declared.Refusal.{Refusal}
use Rattle.build.specs.declared.counts.Added.{Added}
use Rattle.mombuild.specs.Mombuild.{answer_text, map_text, places}

pub map_text-is : (D M : ℕ) (T : Float) (hs ns : List ℕ) {r : Result Added Refusal} {zs vs : List ℕ} → ◌≡◌ {A = Result Added Refusal × List ℕ × List ℕ} (r, zs, vs) (add_counts 29 [] D M T 0 places places hs ns)
    → answer_text r zs vs ≡ map_text D M T hs ns
unfolding map_text
map_text-is D M T hs ns {r} {zs} {vs} e = ap (λ (t : Result Added Refusal × List ℕ × List ℕ). answer_text t.0 t.1 t.2) e
