-- Note 8 of the change requests: what the functions that count promise. The live entries stand in two buffers, as a map does; the last
-- one ends where the last cell did.
use Rattle.std.specs.Prelude.{◌≡◌, Bool, false, ◌&&◌, not, cond, List, [], ◌∷◌, ℕ, ◌+◌, ◌%◌, ◌^◌, ◌≤◌, ◌<◌, eqb, ltb, length}
use Rattle.zuniq.specs.Cells.{n_hash}
use Rattle.zuniq.specs.Codec.{IsZuniqOf}
use Rattle.zuniq.specs.declared.Decoded.{Decoded}
use Rattle.build.specs.Map.{Entry, Merger}
use Rattle.build.specs.Buffers.{held}
use Rattle.build.specs.Counts.{total_of}
use Rattle.build.specs.Promises.{end_of, Rises}
use Rattle.build.specs.Standing.{Stands}
use Rattle.tally.specs.Tally.{Tally, tally_of, tallied, tally}
use Rattle.tally.specs.declared.Running.{Running}

-- the tally that the code holds
abbrev pub tally_in : Running → List ℕ → List ℕ → Tally ℕ
tally_in t zs vs = tally_of t.settled (held 29 t.live zs vs)

-- the figures with n entries more settled, and none live
abbrev pub settled_with : Running → ℕ → Running
settled_with t n = record { cells = t.cells; settled = t.settled + n; live = 0; end = t.end }

-- the figures with a cell more, from `start` to `end`: the live entries are settled, if it does not start where the last cell ended
abbrev pub reached_by : Running → ℕ → ℕ → Running
reached_by t start end =
    let next : Running = record { cells = t.cells + 1; settled = t.settled; live = t.live; end = end } in
    cond (eqb start t.end) next (settled_with next t.live)

-- whether the cell (d, h), behind so many live entries, is out of reach: there are none, and it is not the first of four siblings
abbrev pub lone_at : ℕ → ℕ → ℕ → Bool
lone_at live d h = eqb live 0 && not (ltb 0 d && eqb (h % 4) 0)

-- whether n entries are out of reach, the last of which is the cell
abbrev pub out_at : ℕ → Decoded → Bool
out_at n (Decoded.Cell c) = cond (ltb 1 n) (eqb (c.hash % 4) 3) (lone_at 0 c.depth c.hash)
out_at n Decoded.Nothing = false

-- the same after a cell with the hash h has been merged into them
abbrev pub last_at : ℕ → Decoded → ℕ → Bool
last_at n last h = eqb (h % 4) 3 && out_at n last

-- What the figures say of the buffers.
pub record Runs (t : Running) (zs vs : List ℕ) : Type 0 where
  pub stands : Stands 29 t.live zs vs
  pub few : t.settled + t.live ≤ t.cells
  pub ends : (e : Entry ℕ) (s : List (Entry ℕ)) → held 29 t.live zs vs ≡ e ∷ s → end_of 29 e ≡ t.end

-- What it takes to count a cell, with its zuniq z.
pub record CanCount (t : Running) (z : ℕ) (e : Entry ℕ) (zs vs : List ℕ) : Type 0 where
  pub runs : Runs t zs vs
  pub zuniqs : t.live < length zs
  pub values : t.live < length vs
  pub good : IsZuniqOf 29 z e.depth e.hash
  pub fits : e.value + total_of (held 29 t.live zs vs) ≤ 4294967295
  pub number : t.cells + 1 < 2 ^ 64

-- What counting a cell leaves.
pub record Counted (accept : Merger ℕ) (t : Running) (e : Entry ℕ) (zs vs : List ℕ) (r : Running) (zs' vs' : List ℕ) : Type 0 where
  pub runs : Runs r zs' vs'
  pub cells : r.cells ≡ t.cells + 1
  pub is : tally_in r zs' vs' ≡ tallied accept 29 (tally_in t zs vs) e

-- ---- cells one after the other
-- The figures are those of the cells, and the buffers keep their lengths.
pub record Tallies (accept : Merger ℕ) (zs₀ vs₀ : List ℕ) (cells : List (Entry ℕ)) (t : Running) (zs vs : List ℕ) : Type 0 where
  pub runs : Runs t zs vs
  pub number : t.cells ≡ length cells
  pub is : tally_in t zs vs ≡ tally accept 29 (tally_of 0 []) cells
  pub zuniqs : length zs ≡ length zs₀
  pub values : length vs ≡ length vs₀

-- What it takes to count the cells, one after the other: 88 places, cells that rise, and counts that fit.
pub record CanTally (zs vs : List ℕ) (cells : List (Entry ℕ)) : Type 0 where
  pub zuniqs : 87 < length zs
  pub values : 87 < length vs
  pub rises : Rises 29 0 (n_hash 29) cells
  pub few : length cells ≤ n_hash 29
  pub fits : total_of cells ≤ 4294967295
