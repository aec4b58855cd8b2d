-- `from_zuniq` meets its contract: where it leaves early the value is no zuniq, by its size or by its trailing
-- zeros, and otherwise they tell the cell. Assumes nothing.
use mathlib.Core.Path.{sym, ◌∙◌}
use native.Mathlib.Omega.{arith}
use Rattle.zuniq.proofs.Codec.{decodes, decodes_none}
use Rattle.zuniq.proofs.Ranges.{valid_iff_zuniq_lt, sky-fits}
use Rattle.zuniq.proofs.Zeros.{zuniq_zeros, zeros_zuniq}
use Rattle.zuniq.proofs.ZUniqHashT.from_zuniq.Goals as goal

pub n_hash_unchecked-end-requires : goal.n_hash_unchecked-end-requires
n_hash_unchecked-end-requires g c = omega (arith, c.MAX_DEPTH.ensures, g.met.Self.ZUniqHashT.max_depth)

pub overflow_mul-end : goal.overflow_mul-end
overflow_mul-end g c =
    let K = g.Self.ZUniqHashT.MAX_DEPTH in
    rw (c.n_hash_unchecked-end.ensures, c.MAX_DEPTH.ensures) (omega (arith, sky-fits K g.met.Self.ZUniqHashT.max_depth))

pub returns-then-number-end-clause-answer : goal.returns-then-number-end-clause-answer
returns-then-number-end-clause-answer g c =
    let K = g.Self.ZUniqHashT.MAX_DEPTH in
    let large = rw (c.n_hash_unchecked-end.ensures, c.MAX_DEPTH.ensures) at c.if-number-end.true in
    rw (← c.as_u64-number.ensures) (sym (decodes_none K _ (λ d h v. omega (arith, large, v.is, (valid_iff_zuniq_lt K d h v.deep).0 v.hash))))

pub returns-then-n_trailing_zero-MAX_SHIFT-clause-answer : goal.returns-then-n_trailing_zero-MAX_SHIFT-clause-answer
returns-then-n_trailing_zero-MAX_SHIFT-clause-answer g c =
    let K = g.Self.ZUniqHashT.MAX_DEPTH in
    let law = g.met.Self.ZUniqHashT in
    rw (← c.as_u64-number.ensures)
    (sym (decodes_none K _ (λ d h v. omega (arith, c.MAX_SHIFT.ensures, law.max_shift, law.max_depth, zuniq_zeros 64 K _ d h (omega (arith, law.max_depth)) v))))

pub returns-then-n_trailing_zero-eq1-clause-answer : goal.returns-then-n_trailing_zero-eq1-clause-answer
returns-then-n_trailing_zero-eq1-clause-answer g c =
    let K = g.Self.ZUniqHashT.MAX_DEPTH in
    let law = g.met.Self.ZUniqHashT in
    rw (← c.as_u64-number.ensures)
    (sym (decodes_none K _ (λ d h v. omega (arith, zuniq_zeros 64 K _ d h (omega (arith, law.max_depth)) v))))

pub returns-clause-answer : goal.returns-clause-answer
returns-clause-answer g c =
    let K = g.Self.ZUniqHashT.MAX_DEPTH in
    let law = g.met.Self.ZUniqHashT in
    let z = c.as_u64-number.result in
    let small = rw (c.n_hash_unchecked-end.ensures, c.MAX_DEPTH.ensures) at c.if-number-end.false in
    rw (← c.as_u64-number.ensures, c.MAX_DEPTH-2.ensures)
    (sym ((decodes K z _).1 (zeros_zuniq 64 K z (omega (arith, c.MAX_SHIFT.ensures, law.max_shift, law.max_depth)) (omega (arith, c.MAX_SHIFT.ensures, law.max_shift)) (omega arith) small)))

-- Of the cell that is answered the value is the zuniq.
pub returns-clause-cell : goal.returns-clause-cell
returns-clause-cell g c = λ x e. (decodes g.Self.ZUniqHashT.MAX_DEPTH _ x).0 (sym (returns-clause-answer g c) ∙ e)
