-- What the loop of the map check has passed: the entries before place i have no fault, and the last of them is carried
-- along with its end. Over any largest depth K. Assumes nothing.
use mathlib.Core.Path.{◌≡◌, refl}
use mathlib.Core.Bool.{false}
use mathlib.Core.List.{List}
use Prim.Native.Nat.{ℕ, suc, ◌+◌, ◌*◌, ◌≤◌, ◌<◌}
use native.Mathlib.Numerals.{add-one}
use native.Mathlib.Omega.{arith}
use lib.Dec.{ltb}
use lib.ListN.{length, get_or, drop, drop_of_length-le}
use lib.Seq.{drop-cons}
use borrow.Author.Tests.{lt-ltb, le-ltb}
use Rattle.std.specs.Prelude.{Option, None, Some}
use Rattle.zuniq.specs.Cells.{end}
use Rattle.mom.specs.declared.Fault.{Fault}
use Rattle.mom.specs.declared.FirstFault.{FirstFault}
use Rattle.mom.specs.declared.ZuniqRange.{ZuniqRange}
use Rattle.mom.specs.Map.{fault_after, fault_of, fault_at, at_or, fault_from, first_fault}
use Rattle.mom.specs.Range.{range_of}
use Rattle.mom.proofs.Ranges.{HasRange, has_range, has_none}
use Rattle.mom.proofs.Faults.{EndsAt, IsLast, no_fault_iff_starts_after, not_above_of_starts_before, overlapping_of_starts_before}

-- what is answered of a fault at place i
abbrev pub at_place : ℕ → Fault → Option FirstFault
at_place i f = Some (record { place = i; fault = f })

-- the entry before place i, if there is one, is y, and b is twice its end
pub record Passed (K D : ℕ) (zs : List ℕ) (y b i : ℕ) : Type 0 where
  pub within : i ≤ length zs
  pub before : Option ℕ
  pub last : IsLast y before
  pub end : ℕ
  pub ends : EndsAt K before end
  pub twice : b ≡ 2 * end
  pub rest : first_fault K D zs ≡ fault_from K D i before (drop i zs)

-- Before the first entry nothing has been passed.
pub passed_none : {K D : ℕ} {zs : List ℕ} {y : ℕ} → Passed K D zs y 0 0
unfolding first_fault
passed_none = record { within = omega arith; before = None; last = tt; end = 0; ends = refl; twice = refl; rest = refl }

module _ {K D : ℕ} {zs : List ℕ} {y b i : ℕ} (p : Passed K D zs y b i) where
  -- Where no entry is left there is no fault.
  pub passed_all : length zs ≤ i → None ≡ first_fault K D zs
  unfolding fault_from
  passed_all l = rw (p.rest, drop_of_length-le zs l) refl

  -- the entry z at place i, however it was read
  module _ (l : i < length zs) {z : ℕ} (read : z ≡ get_or zs i 0) where
    -- The first fault is that of this entry, or one behind it.
    next : first_fault K D zs ≡ at_or i (fault_at K D p.before z) (fault_from K D (suc i) (Some z) (drop (suc i) zs))
    unfolding fault_from
    next = rw (p.rest, drop-cons zs i 0 l, read) refl

    pub not_zuniq_here : range_of K z ≡ None → at_place i Fault.NotZuniq ≡ first_fault K D zs
    unfolding at_or fault_at fault_of
    not_zuniq_here e = rw (next, has_none K z e) refl

    module _ {r : ZuniqRange} (e : range_of K z ≡ Some r) where
      range : HasRange K z r
      range = has_range K z r e

      pub too_deep_here : D < r.depth → at_place i Fault.TooDeep ≡ first_fault K D zs
      unfolding at_or fault_at fault_of
      too_deep_here m = rw (next, range.decoded, lt-ltb D range.cell.depth (omega (arith, range.deep))) refl

      module _ (m : r.depth ≤ D) where
        shallow : ltb D range.cell.depth ≡ false
        shallow = le-ltb D range.cell.depth (omega (arith, range.deep))

        here : (f : Fault) → fault_after K p.before z ≡ Some f → at_place i f ≡ first_fault K D zs
        unfolding at_or fault_at fault_of
        here f q = rw (next, range.decoded, shallow, q) refl

        pub not_above_here : r.start < b → z ≤ y → at_place i Fault.NotAbove ≡ first_fault K D zs
        not_above_here s a = here Fault.NotAbove (not_above_of_starts_before range.valid p.before p.ends p.last (omega (arith, range.starts, p.twice)) a)

        pub overlapping_here : r.start < b → y < z → at_place i Fault.Overlapping ≡ first_fault K D zs
        overlapping_here s a = here Fault.Overlapping (overlapping_of_starts_before range.valid p.before p.ends p.last (omega (arith, range.starts, p.twice)) a)

        pub passed_on : b ≤ r.start → Passed K D zs z r.end (i + 1)
        unfolding at_or fault_at fault_of
        passed_on s =
            let q = (no_fault_iff_starts_after range.valid p.before p.ends).1 (omega (arith, range.starts, p.twice)) in
            rw add-one (record {
              within = l;
              before = Some z;
              last = refl;
              end = end K range.cell.depth range.cell.hash;
              ends = (range.cell.depth, range.cell.hash, range.valid, refl);
              twice = range.ends;
              rest = rw (next, range.decoded, shallow, q) refl;
            })
