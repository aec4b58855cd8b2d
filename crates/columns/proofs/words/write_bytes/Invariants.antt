use Prim.Native.Nat.{◌+◌, ◌/◌, ◌%◌, ◌^◌}
use lib.ListN.{get_or}
use Rattle.columns.specs.Turning.{Part, Put}
use Rattle.columns.proofs.words.write_bytes.Given as goal

abbrev pub invariant-loop-i : goal.invariant-loop-i
invariant-loop-i l = Put (λ r c. l.to + r) (λ r c. get_or l.words r 0 / 2 ^ l.shift % 256) (Part 0 l.i 0 1) l.initial.target l.target
