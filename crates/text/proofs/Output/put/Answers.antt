-- `Output::put` meets its contract. Assumes nothing.
use Rattle.std.proofs.Common.{length, ◌≡◌, ◌+◌, ◌≤◌, ◌^◌, arith}
use Rattle.text.proofs.Writing.{put_between, put_beyond}
use Rattle.text.proofs.Output.put.Goals as goal

pub returns-in_default-clause-put : goal.returns-in_default-clause-put
returns-in_default-clause-put c = let o = c.args.self.now in
    let wraps : 2 ^ 64 ≤ o.end + length c.args.text.now = grind arith in
    put_beyond o.buffer.now o.end c.args.text.now (omega arith)

pub returns-then-end-self-clause-put : goal.returns-then-end-self-clause-put
returns-then-end-self-clause-put c = let o = c.args.self.now in
    let sum : c.in-Some.end ≡ o.end + length c.args.text.now = grind arith in
    put_beyond o.buffer.now o.end c.args.text.now (omega arith)

pub returns-clause-put : goal.returns-clause-put
returns-clause-put c = let o = c.args.self.now in
    let sum : c.in-Some.end ≡ o.end + length c.args.text.now = grind arith in
    rw sum (put_between o.buffer.now o.end c.args.text.now c.copy_from_slice.ensures.after (omega arith))
