use Rattle.std.proofs.Common.{◌≡◌, ◌-◌, Ok, length, sym, subst, arith}
use Rattle.std.specs.Io.KnownBytes.{Consumes}
use Rattle.std.proofs.KnownBytes.{Consumes-trans}
use borrow.Rule.Slice.PartMut.{same_len_mid}
use Rattle.mombuild.proofs.Buffered.{more_is, take-read}
use Rattle.mombuild.proofs.read_input.Goals as goal

pub loop-n-preserved : goal.loop-n-preserved
loop-n-preserved g c =
    let l = c.loop-n in
    let part = c.read-answer.new.buf in
    let room = length l.buffer - l.n in
    let more : c.read-answer.result ≡ Ok c.in-Continue.bytes = more_is c.read-answer.result l.n (sym c.in-Continue.ensures) in
    let within = rw more at c.read-answer.ensures.bound in
    let read = rw more at c.read-answer.ensures.bytes in
    let same = same_len_mid l.n room l.buffer part c.read-answer.auto.buf in
    let joined = take-read l.n c.in-Continue.bytes room l.buffer part (omega arith) within.0 in
    (omega arith, omega arith, subst (Consumes _ _) joined (Consumes-trans _ _ _ _ _ l.invariant.2 read.0))
