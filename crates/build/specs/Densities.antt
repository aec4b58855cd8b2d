-- Section 4 of the scope: adding densities.
use Rattle.std.specs.Prelude.{List, [], ◌∷◌, ℕ, ◌+◌, Float, length, Result, Ok, Err}
use Rattle.std.proofs.Math.Option.{Option, none}
use Rattle.refusal.specs.declared.Refusal.{Refusal}
use Rattle.merger.specs.Floats.{0·0, invalid_density}
use Rattle.merger.specs.Merge.{accept_densities}
use Rattle.protection.specs.Protected.{protected_refusal}
use Rattle.mom.specs.Map.{first_fault}
use Rattle.refusal.specs.Checks.{or_else, refused_if}
use Rattle.build.specs.Calls.{Answer, Calls, add_call}
use Rattle.build.specs.Add.{settings_refusal, lengths_refusal, map_refusal, map_end, cells_refusal, space_refusal}

-- "6. A held or given density is NaN, infinite or below 0; place: the entry", for the densities from place i on
unfoldable pub density_refusal : ℕ → List Float → Option Refusal
density_refusal i [] = none
density_refusal i (v ∷ vs) = or_else (refused_if (invalid_density v) (Refusal.InvalidMapDensity i)) (density_refusal (i + 1) vs)

-- The refusals of adding densities, in the order of the table: 1 to 3, 15, 4 to 6, 7 to 9 cell by cell, 11. P is the list of protected
-- parents, m the held number, `places` and `values` are the lengths of the buffers, zs and vs the held zuniqs and densities, hs and xs the
-- batch.
unfoldable pub densities_refusal : List ℕ → ℕ → ℕ → Float → ℕ → ℕ → ℕ → List ℕ → List Float → List ℕ → List Float → Option Refusal
densities_refusal P D M T m places values zs vs hs xs =
    or_else (settings_refusal 29 D M T)
    (or_else (protected_refusal 29 P)
    (or_else (lengths_refusal m places values (length hs) (length xs))
    (or_else (map_refusal (first_fault 29 D zs))
    (or_else (density_refusal 0 vs)
    (or_else (cells_refusal invalid_density D (map_end 29 D zs) 0 hs xs)
    (space_refusal places m (length hs)))))))

-- density add calls with one D, M and T, under one list; they answer "the new number of entries"
abbrev pub density_calls : List ℕ → ℕ → ℕ → Float → Calls Float Refusal ℕ
density_calls P D M T = record {
  largest = 29;
  D = D;
  filler = 0·0;
  accept = accept_densities P M T;
  refusal = λ m places values zs vs c. densities_refusal P D M T m places values zs vs c.hashes c.values;
  report = length;
}

-- what the call answers
abbrev pub densities_added : Answer Refusal ℕ → Result ℕ Refusal
densities_added (Answer.refused r) = Err r
densities_added (Answer.accepted n) = Ok n

-- The answer and both buffers afterwards.
unfoldable pub add_densities : List ℕ → ℕ → ℕ → Float → ℕ → List ℕ → List Float → List ℕ → List Float → Result ℕ Refusal × List ℕ × List Float
add_densities P D M T m zs vs hs xs =
    let t = add_call (density_calls P D M T) (record { number = m; zuniqs = zs; values = vs }) (record { hashes = hs; values = xs }) in
    (densities_added t.1, t.0.zuniqs, t.0.values)
