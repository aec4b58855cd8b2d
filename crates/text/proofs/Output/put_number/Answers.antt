-- `Output::put_number` meets its contract: the digits that `io::decimal` makes are those of the definition. Assumes nothing.
use mathlib.Core.Path.{◌∙◌, ap}
use native.Mathlib.Omega.{arith}
use Rattle.text.specs.Text.{put_at}
use Rattle.text.proofs.Numbers.{decimal-is}
use Rattle.text.proofs.Output.put_number.Goals as goal

pub returns-clause-put : goal.returns-clause-put
returns-clause-put c = let d = c.decimal-len in
    let a = c.args in
    let same = d.ensures.digits ∙ decimal-is d.result a.n (omega arith) d.ensures.len in
    c.put.ensures.put ∙ ap (put_at a.self.now.buffer.now a.self.now.end) same
