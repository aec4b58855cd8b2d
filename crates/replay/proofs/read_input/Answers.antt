-- `read_input` holds what the reader has left, up to the limit. Assumes nothing.
use mathlib.Core.Path.{ap, ◌∙◌}
use native.Mathlib.Omega.{arith}
use lib.Seq.{take-take}
use Rattle.std.proofs.Common.{◌≡◌, take, IfSome, ℕ, List, Option, None, Some, option_map}
use Rattle.replay.specs.declared.TheConstants.{MAX_INPUT}
use Rattle.replay.proofs.read_input.Goals as goal

-- what is read of what `take` leaves is the front of the whole, and so is its own front
cut_short : (n : ℕ) (left : Option (List ℕ)) (text front : List ℕ) → front ≡ take n text → IfSome (option_map (take n) left) (λ xs. text ≡ xs) → IfSome left (λ xs. front ≡ take n xs)
cut_short n (Some xs) text front e h = e ∙ ap (take n) h ∙ take-take n n xs (omega arith)
cut_short n None text front e h = h

pub returns-clause-front : goal.returns-clause-front
returns-clause-front g c =
    cut_short MAX_INPUT (g.R.Read.remaining c.args.reader) c.read_to_end.new.buf.items _ c.truncate.ensures.items
    (rw (c.take.ensures.inner, c.take.ensures.limit, c.in_ok-text.ensures.items) at c.in_ok-read_to_end.ensures.bytes)

pub returns-clause-bound : goal.returns-clause-bound
returns-clause-bound g c = omega (arith, c.truncate.ensures.len)
