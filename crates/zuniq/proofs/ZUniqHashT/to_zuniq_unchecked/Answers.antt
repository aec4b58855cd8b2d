-- `to_zuniq_unchecked` meets its contract: nothing is shifted out. Assumes nothing.
use mathlib.Core.Path.{◌∙◌}
use native.Mathlib.Omega.{arith}
use native.Mathlib.Nat.{mod-eq_of_lt}
use Rattle.zuniq.proofs.Ranges.{valid_iff_zuniq_lt, sentinel_lt, zuniq-is_shifted, sky-fits}
use Rattle.zuniq.proofs.ZUniqHashT.to_zuniq_unchecked.Goals as goal

pub overflow_mul-hash : goal.overflow_mul-hash
overflow_mul-hash g c =
    let K = g.Self.ZUniqHashT.MAX_DEPTH in
    omega (arith, sky-fits K g.met.Self.ZUniqHashT.max_depth, sentinel_lt K c.args.depth c.args.hash c.requires.0 c.requires.1)

pub overflow_add-hash : goal.overflow_add-hash
overflow_add-hash g c =
    let K = g.Self.ZUniqHashT.MAX_DEPTH in
    omega (arith, sky-fits K g.met.Self.ZUniqHashT.max_depth, sentinel_lt K c.args.depth c.args.hash c.requires.0 c.requires.1)

pub of_u64-requires : goal.of_u64-requires
of_u64-requires g c =
    let K = g.Self.ZUniqHashT.MAX_DEPTH in
    rw (c.MAX_DEPTH.ensures, zuniq-is_shifted K c.args.depth c.args.hash)
    (omega (arith, (valid_iff_zuniq_lt K c.args.depth c.args.hash c.requires.0).0 c.requires.1))

pub returns : goal.returns
returns g c =
    let K = g.Self.ZUniqHashT.MAX_DEPTH in
    let d = c.args.depth in
    let h = c.args.hash in
    c.of_u64.ensures ∙ rw (c.MAX_DEPTH.ensures, zuniq-is_shifted K d h) (mod-eq_of_lt (omega (arith, sky-fits K g.met.Self.ZUniqHashT.max_depth, (valid_iff_zuniq_lt K d h c.requires.0).0 c.requires.1)))
