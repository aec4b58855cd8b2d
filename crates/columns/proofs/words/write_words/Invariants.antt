use Prim.Native.Nat.{◌+◌, ◌*◌}
use lib.ListN.{get_or}
use Rattle.columns.specs.Turning.{Part, Put, byte_of}
use Rattle.columns.proofs.words.write_words.Given as goal

abbrev pub invariant-loop-i : goal.invariant-loop-i
invariant-loop-i l = Put (λ r c. l.to + r * l.step + c) (λ r c. byte_of (get_or l.words r 0) c) (Part 0 l.i 0 4) l.initial.target l.target
