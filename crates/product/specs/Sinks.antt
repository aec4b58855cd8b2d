-- What trying the cells of a product tells.
use Rattle.std.specs.Prelude.{◌≡◌, true, false, List, ℕ, Float}
use Rattle.refusal.specs.declared.Refusal.{Refusal}
use Rattle.build.specs.Map.{Entry}
use Rattle.combine.specs.Densities.{some_not_finite}
use Rattle.combine.specs.Sinks.{IsCounted}

-- The cells have been counted, and all are finite.
abbrev pub IsTried : List ℕ → List Float → List (Entry Float) → ℕ → List ℕ → List Float → Type 0
IsTried zs vs l n zs' vs' = (some_not_finite l ≡ false) × IsCounted zs vs l n zs' vs'

-- One of them is not finite: the buffers are as they were.
abbrev pub NotFinite : List ℕ → List Float → List (Entry Float) → Refusal → List ℕ → List Float → Type 0
NotFinite zs vs l x zs' vs' = (some_not_finite l ≡ true) × (x ≡ Refusal.ProductNotFinite) × (zs' ≡ zs) × (vs' ≡ vs)
