-- `are_siblings` meets its contract. Assumes nothing.
use mathlib.Core.Path.{◌≡◌, refl, ◌∙◌}
use mathlib.Core.Bool.{◌&&◌}
use mathlib.Core.List.{List}
use Prim.Native.Nat.{ℕ, ◌*◌, ◌%◌, ◌-◌, ◌<◌}
use native.Mathlib.Omega.{arith}
use lib.Dec.{eqb}
use lib.ListN.{length, get_or}
use borrow.Author.Tests.{eq-eqb, ne_eqb, lt-leb}
use Rattle.build.specs.Standing.{quad_at}
use Rattle.zuniq.proofs.Numbers.{number_at}
use Rattle.build.proofs.Quads.{Spaced, spaced, quad_spaced}
use Rattle.build.proofs.stack.are_siblings.Goals as goal
use Rattle.build.proofs.stack.are_siblings.Given.{Over}
use Rattle.build.proofs.stack.are_siblings.Goals.{After-as_u64-last}

-- An element that was read, as the list of numbers has it.
read : (g : Over) (zs : List g.row.Z.Denot) (i : ℕ) (z : g.row.Z.Denot) (x : ℕ) → i < length zs → z ≡ get_or zs i z → x ≡ g.Z.ZUniqHashT.number z → x ≡ get_or (g.Z.ZUniqHashT.numbers zs) i 0
read g zs i z x l e is = let w = g.Z.ZUniqHashT in is ∙ number_at w.number w.numbers g.met.Z.ZUniqHashT.numbers_are zs i z l e

-- ---- behind a fourth child

last : (g : Over) (c : After-as_u64-last g) → let a = c.args in c.as_u64-last.result ≡ get_or (g.Z.ZUniqHashT.numbers a.zuniqs.now) (a.n - 1) 0
last g c = let a = c.args in read g a.zuniqs.now (a.n - 1) _ _ (omega (arith, c.requires.0, c.if-n-lt4.false)) c.index-zuniqs-n.is c.as_u64-last.ensures

gap : (g : Over) (c : After-as_u64-last g) → let a = c.args in Spaced g.Z.ZUniqHashT.MAX_DEPTH a.depth a.hash c.as_u64-last.result c.sibling_gap-gap.result
gap g c =
    let a = c.args in
    spaced g.Z.ZUniqHashT.MAX_DEPTH a.depth a.hash c.as_u64-last.result c.sibling_gap-gap.result (rw (last g c) c.requires.1) c.if-hash-ne3.false c.sibling_gap-gap.ensures

compared : (g : Over) (c : After-as_u64-last g) → let a = c.args in
    let zs = g.Z.ZUniqHashT.numbers a.zuniqs.now in
    let last = c.as_u64-last.result in
    let s = c.sibling_gap-gap.result in
    quad_at g.Z.ZUniqHashT.MAX_DEPTH a.n zs a.depth a.hash
    ≡ (eqb (get_or zs (a.n - 2) 0) (last - s) && (eqb (get_or zs (a.n - 3) 0) (last - 2 * s) && eqb (get_or zs (a.n - 4) 0) (last - 3 * s)))
compared g c =
    let a = c.args in
    let zs = g.Z.ZUniqHashT.numbers a.zuniqs.now in
    rw (last g c) (quad_spaced g.Z.ZUniqHashT.MAX_DEPTH a.n a.depth a.hash c.sibling_gap-gap.result zs c.if-hash-ne3.false c.if-n-lt4.false (rw (last g c) at (gap g c)))

-- ---- the answers
pub returns-then-hash-ne3 : goal.returns-then-hash-ne3
unfolding quad_at
returns-then-hash-ne3 g c = rw (ne_eqb (c.args.hash % 4) 3 c.if-hash-ne3.true) refl

pub returns-then-n-lt4 : goal.returns-then-n-lt4
unfolding quad_at
returns-then-n-lt4 g c = let a = c.args in rw (eq-eqb (a.hash % 4) 3 c.if-hash-ne3.false, lt-leb 4 a.n c.if-n-lt4.true) refl

pub overflow_sub-last : goal.overflow_sub-last
overflow_sub-last g c = omega (arith, (gap g (goal.at.overflow_sub-last g c).After-as_u64-last).room)

pub overflow_sub-last-2 : goal.overflow_sub-last-2
overflow_sub-last-2 g c = omega (arith, (gap g (goal.at.overflow_sub-last-2 g c).After-as_u64-last).room)

pub overflow_sub-result : goal.overflow_sub-result
overflow_sub-result g c = omega (arith, (gap g (goal.at.overflow_sub-result g c).After-as_u64-last).room)

pub overflow_mul-gap : goal.overflow_mul-gap
overflow_mul-gap g c = record { fits = omega (arith, (gap g (goal.at.overflow_mul-gap g c).After-as_u64-last).room) }

pub overflow_mul-result : goal.overflow_mul-result
overflow_mul-result g c = record { fits = omega (arith, (gap g (goal.at.overflow_mul-result g c).After-as_u64-last).room) }

pub returns-then-as_u64-last : goal.returns-then-as_u64-last
returns-then-as_u64-last g c =
    let a = c.args in
    rw (compared g (goal.at.returns-then-as_u64-last g c).After-as_u64-last, ← read g a.zuniqs.now (a.n - 2) _ _ (omega (arith, c.requires.0, c.if-n-lt4.false)) c.index-zuniqs-n-2.is c.as_u64.ensures, ne_eqb _ _ c.if-as_u64-last.true) refl

pub returns-then-as_u64-last-2 : goal.returns-then-as_u64-last-2
returns-then-as_u64-last-2 g c =
    let a = c.args in
    rw (
      compared g (goal.at.returns-then-as_u64-last-2 g c).After-as_u64-last,
      ← read g a.zuniqs.now (a.n - 2) _ _ (omega (arith, c.requires.0, c.if-n-lt4.false)) c.index-zuniqs-n-2.is c.as_u64.ensures,
      eq-eqb _ _ c.if-as_u64-last.false,
      ← read g a.zuniqs.now (a.n - 3) _ _ (omega (arith, c.requires.0, c.if-n-lt4.false)) c.index-zuniqs-n-3.is c.as_u64-2.ensures,
      ne_eqb _ _ c.if-as_u64-last-2.true,
    ) refl

pub returns : goal.returns
returns g c =
    let a = c.args in
    rw (
      compared g (goal.at.returns g c).After-as_u64-last,
      ← read g a.zuniqs.now (a.n - 2) _ _ (omega (arith, c.requires.0, c.if-n-lt4.false)) c.index-zuniqs-n-2.is c.as_u64.ensures,
      eq-eqb _ _ c.if-as_u64-last.false,
      ← read g a.zuniqs.now (a.n - 3) _ _ (omega (arith, c.requires.0, c.if-n-lt4.false)) c.index-zuniqs-n-3.is c.as_u64-2.ensures,
      eq-eqb _ _ c.if-as_u64-last-2.false,
      ← read g a.zuniqs.now (a.n - 4) _ _ (omega (arith, c.requires.0, c.if-n-lt4.false)) c.index-zuniqs-n-4.is c.as_u64-3.ensures,
    ) refl
