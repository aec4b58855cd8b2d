-- Note 2 of document 02: "moving between widths", of a count map, from zuniqs with the largest depth K to zuniqs with the largest
-- depth L: from 29 to 13 a map is narrowed, from 13 to 29 widened. A call's refusals are one definition, the first that applies in
-- order; its answer and both output buffers afterwards are another.
use Rattle.std.specs.Prelude.{Result, Ok, Err, ◌≡◌, Bool, false, List, [], ◌∷◌, ◌++◌, ℕ, ◌+◌, ◌-◌, ◌≤◌, ◌<◌, min, ltb, length, get_or, take, replicate}
use Rattle.std.proofs.Math.Option.{Option, none, some}
use Rattle.refusal.specs.declared.Refusal.{Refusal}
use Rattle.zuniq.specs.Codec.{IsZuniqOf, decode}
use Rattle.zuniq.specs.declared.Decoded.{Decoded}
use Rattle.mom.specs.Map.{first_fault, ValidMap}
use Rattle.refusal.specs.Checks.{or_else, refused_if}
use Rattle.build.specs.Map.{Entry}
use Rattle.build.specs.Buffers.{held, zuniq_buffer, value_buffer}
use Rattle.build.specs.Add.{lengths_refusal, map_refusal, space_refusal}
use Rattle.moving.specs.declared.Moved.{Moved}

-- ---- the refusals
-- "an entry deeper than 13"
unfoldable pub is_deeper : ℕ → Decoded → Bool
is_deeper L (Decoded.Cell c) = ltb L c.depth
is_deeper L Decoded.Nothing = false

-- "13, an entry deeper than 13 is narrowed, place its entry": of the entries from place i on
unfoldable pub deep_refusal : ℕ → ℕ → ℕ → List ℕ → Option Refusal
deep_refusal K L i [] = none
deep_refusal K L i (z ∷ zs) = or_else (refused_if (is_deeper L (decode K z)) (Refusal.EntryTooDeep i)) (deep_refusal K L (i + 1) zs)

-- rows 5 and 13, "tried after 5"
unfoldable pub entries_refusal : ℕ → ℕ → ℕ → List ℕ → Option Refusal
entries_refusal K L D zs = or_else (map_refusal (first_fault K D zs)) (deep_refusal K L 0 zs)

-- In order: 1, "For narrow maps number 1 means a depth over 13"; 4, of the map and of the output, where no number is stated (0 exceeds
-- no buffer); 5 and 13; 11, "space is judged by that number", the number of entries. D is the depth of the map, zs its zuniqs, `counts`
-- the number of its counts; `places` and `values` are the lengths of the output.
unfoldable pub moving_refusal : ℕ → ℕ → ℕ → List ℕ → ℕ → ℕ → ℕ → Option Refusal
moving_refusal K L D zs counts places values =
    or_else (refused_if (ltb K D) Refusal.DepthOutOfRange)
    (or_else (lengths_refusal 0 (length zs) counts places values)
    (or_else (entries_refusal K L D zs)
    (space_refusal places 0 (length zs))))

-- ---- the call
-- a map of so many entries, in the output
abbrev pub moved_map : ℕ → ℕ → Moved
moved_map d n = record { depth = d; entries = n }

-- "Moving answers the depth and the number of entries; [..] places after them are 0": the entries s, laid in zuniqs with the largest
-- depth L; where there is a refusal the output stays as it was
unfoldable pub moved_or : Option Refusal → ℕ → ℕ → List (Entry ℕ) → List ℕ → List ℕ → Result Moved Refusal × List ℕ × List ℕ
moved_or (some r) L d s ozs ovs = (Err r, ozs, ovs)
moved_or none L d s ozs ovs = (Ok (moved_map d (length s)), zuniq_buffer L (length ozs) s, value_buffer 0 (length ovs) s)

-- "A narrowed map's depth is the smaller of its own and 13, a widened one's its own", which is the smaller of its own and 29. The map
-- is the zuniqs zs with the counts vs, the output held ozs and ovs.
unfoldable pub moved : ℕ → ℕ → ℕ → List ℕ → List ℕ → List ℕ → List ℕ → Result Moved Refusal × List ℕ × List ℕ
moved K L D zs vs ozs ovs = moved_or (moving_refusal K L D zs (length vs) (length ozs) (length ovs)) L (min D L) (held K (length zs) zs vs) ozs ovs

-- ---- what is shown of every call
-- A call that answered the depth d and n entries and left xs and ws in the output has moved the map: they are a valid map of depth d with
-- the cells and the counts of the given one; and moved back, into any output that has room, they are its zuniqs and counts again, with 0
-- behind them.
pub record Moves (K L D : ℕ) (zs vs : List ℕ) (d n : ℕ) (xs ws : List ℕ) : Type 0 where
  pub depth : d ≡ min D L
  pub number : n ≡ length zs
  pub valid : ValidMap L d (take n xs)
  pub same : held L n xs ws ≡ held K n zs vs
  pub back : (ozs ovs : List ℕ) → length ozs ≡ length ovs → n ≤ length ozs
      → moved L K d (take n xs) (take n ws) ozs ovs ≡ (Ok (moved_map d n), zs ++ replicate (length ozs - n) 0, vs ++ replicate (length ovs - n) 0)

-- A call to which rows 1, 4 and 5 don't apply.
pub record Acceptable (K D : ℕ) (zs vs ozs ovs : List ℕ) : Type 0 where
  pub shallow : D ≤ K
  pub paired : length zs ≡ length vs
  pub outputs : length ozs ≡ length ovs
  pub valid : ValidMap K D zs

-- The entry at place i is deeper than L.
abbrev pub DeepAt : ℕ → ℕ → List ℕ → ℕ → Type 0
DeepAt K L zs i = (i < length zs) × ((d : ℕ) × (h : ℕ) × IsZuniqOf K (get_or zs i 0) d h × (L < d))

-- It is the first such.
pub record FirstDeep (K L : ℕ) (zs : List ℕ) (i : ℕ) : Type 0 where
  pub deep : DeepAt K L zs i
  pub first : (j : ℕ) → DeepAt K L zs j → i ≤ j
