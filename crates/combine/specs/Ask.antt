-- Note 8 of the change requests: a pool that is asked for before it is done. P is the list of protected parents.
use Rattle.std.specs.Prelude.{Result, Ok, Err, Bool, ◌&&◌, not, List, ℕ, eqb, Float, length}
use Rattle.std.proofs.Math.Option.{Option, none, some}
use Rattle.refusal.specs.Checks.{or_else, refused_if, ok_unless}
use Rattle.refusal.specs.declared.Refusal.{Refusal}
use Rattle.merger.specs.Merge.{accept_counts}
use Rattle.build.specs.Counts.{total_of}
use Rattle.build.specs.declared.counts.Added.{Added}
use Rattle.combine.specs.Overlay.{overlay}
use Rattle.combine.specs.Rules.{split_count, defined_pool}
use Rattle.combine.specs.Pool.{Given, entries, result_depth, places_refusal, pool_kept, pool_input_refusal, pool_over}
use Rattle.combine.specs.declared.counts.Figures.{Figures}

-- ---- ask
-- Rows 1 to 3, 15, 4, 5 and 10, as of a pool: there is no output, so there are no lengths of it that could differ.
abbrev pub ask_refusal : List ℕ → Given ℕ → Given ℕ → ℕ → Float → Option Refusal
ask_refusal P l r M T = pool_input_refusal P l r M T 0 0

-- "the number of overlay cells, of entries after merging, and the total"
unfoldable pub figures_of : List ℕ → Given ℕ → Given ℕ → ℕ → Float → Figures
figures_of P l r M T =
    let pool = defined_pool (accept_counts 29 P M T) (result_depth l r) (entries l) (entries r) in
    record { cells = length (overlay split_count (result_depth l r) (entries l) (entries r)); entries = length pool; total = total_of pool }

-- the call: "it writes nothing", so it leaves nothing but its answer
unfoldable pub ask_counts : List ℕ → Given ℕ → Given ℕ → ℕ → Float → Result Figures Refusal
ask_counts P l r M T = ok_unless (ask_refusal P l r M T) (figures_of P l r M T)

-- ---- commit
abbrev pub same_figures : Figures → Figures → Bool
same_figures f g = eqb f.cells g.cells && (eqb f.entries g.entries && eqb f.total g.total)

-- "16, the figures are not those an ask would answer"
unfoldable pub figures_refusal : List ℕ → Given ℕ → Given ℕ → ℕ → Float → Figures → Option Refusal
figures_refusal P l r M T f = refused_if (not (same_figures f (figures_of P l r M T))) Refusal.FiguresDiffer

-- Rows 1 to 3, 15, 4, 5 and 10 as of a pool, 16, "tried after 10", and 11.
unfoldable pub commit_refusal : List ℕ → Given ℕ → Given ℕ → ℕ → Float → Figures → ℕ → ℕ → Option Refusal
commit_refusal P l r M T f places values =
    or_else (pool_input_refusal P l r M T places values)
    (or_else (figures_refusal P l r M T f)
    (places_refusal places (length (pool_kept l r))))

-- the call: "Commit takes those figures with the same inputs and pools."
unfoldable pub commit_counts : List ℕ → Given ℕ → Given ℕ → ℕ → Float → Figures → List ℕ → List ℕ → Result Added Refusal × List ℕ × List ℕ
commit_counts P l r M T f zs vs = pool_over P (result_depth l r) (commit_refusal P l r M T f (length zs) (length vs)) (entries l) (entries r) M T zs vs

-- ---- "an ask followed by its commit"
-- the commit of what was asked: where the ask is refused there is none, and its refusal is all that is answered
abbrev pub committed : List ℕ → Given ℕ → Given ℕ → ℕ → Float → List ℕ → List ℕ → Result Figures Refusal → Result Added Refusal × List ℕ × List ℕ
committed P l r M T zs vs (Ok f) = commit_counts P l r M T f zs vs
committed P l r M T zs vs (Err x) = (Err x, zs, vs)
