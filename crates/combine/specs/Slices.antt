-- Section 5 of the scope: maps in slices.
use Rattle.std.specs.Prelude.{◌≡◌, Bool, true, false, List, [], ◌∷◌, ℕ, ◌<◌, length, get_or}
use Rattle.std.proofs.Math.Option.{Option, none, some}
use Rattle.refusal.specs.declared.Refusal.{Refusal}
use Rattle.zuniq.specs.Cells.{n_hash}
use Rattle.zuniq.specs.Codec.{IsZuniqOf, decode}
use Rattle.build.specs.Map.{Entry}
use Rattle.build.specs.Buffers.{with_cell}
use Rattle.build.specs.Promises.{Rises}

-- the entries of a map, the first one first
unfoldable pub entries_of : {A : Type 0} → List ℕ → List A → List (Entry A)
entries_of [] vs = []
entries_of (z ∷ zs) [] = []
entries_of (z ∷ zs) (v ∷ vs) = with_cell (decode 29 z) v (entries_of zs vs)

-- two slices that hold a valid map
pub record Holds {A : Type 0} (zs : List ℕ) (vs : List A) : Type 0 where
  pub paired : length zs ≡ length vs
  pub valid : (i : ℕ) → i < length zs → (d : ℕ) × (h : ℕ) × IsZuniqOf 29 (get_or zs i 0) d h
  pub rises : Rises 29 0 (n_hash 29) (entries_of zs vs)

-- nothing is refused
abbrev pub passes : Option Refusal → Bool
passes none = true
passes (some x) = false
