-- A map that comes as rows: what its refusals and the zuniqs of its rows say of the check and lookup. Over any width. Assumes
-- nothing.
use mathlib.Core.Path.{◌≡◌, refl, ap}
use mathlib.Core.Bool.{Bool, true, false, cond}
use mathlib.Core.List.{List}
use Prim.Native.Nat.{ℕ}
use native.Mathlib.Omega.{arith}
use lib.Dec.{ltb}
use Rattle.std.specs.Prelude.{Option, Result, Ok, Err}
use Rattle.refusal.specs.declared.Refusal.{Refusal}
use Rattle.mom.specs.Map.{map_check, first_fault}
use Rattle.mom.specs.Lookup.{ContainingAnswer, RunAnswer}
use Rattle.mom.specs.declared.FirstFault.{FirstFault}
use Rattle.mom.specs.declared.lookup.Run.{Run}
use Rattle.map_rows.specs.MapRows.{Width, zuniqs_in, map_rows, map_rows_at, check_rows_as, check_rows, ContainingOver, RunOver, IsMapRows}
use Rattle.map_rows.specs.declared.CountRows.{CountRows}

-- ---- the rows, or why they are no map's
pub rows_err : (Z : Type 0) (m : Result ℕ Refusal) (bytes : List ℕ) (r : Refusal) → IsMapRows {Z = Z} m bytes (Err r) → m ≡ Err r
rows_err Z (Ok n) bytes r is = absurd is
rows_err Z (Err x) bytes r is = ap Err is

pub rows_ok : {Z : Type 0} (m : Result ℕ Refusal) (bytes : List ℕ) (rows : CountRows Z) → IsMapRows m bytes (Ok rows) → (n : ℕ) × (m ≡ Ok n) × (rows.bytes.now ≡ bytes)
rows_ok (Ok n) bytes rows is = (n, refl, is)
rows_ok (Err x) bytes rows is = absurd is

module _ (v : Width) (bytes : List ℕ) where
  -- ---- what they say of the check
  module _ (D : ℕ) where
    pub check_refused : {r : Refusal} {answer : Result (Option FirstFault) Refusal} → map_rows_at v D bytes ≡ Err r → answer ≡ Err r → answer ≡ check_rows v D bytes
    unfolding check_rows_as check_rows
    check_refused e a = rw e a

    -- Where there are rows, the depth is not over the largest.
    rows-shallow : {n : ℕ} → map_rows_at v D bytes ≡ Ok n → ltb v.largest D ≡ false
    unfolding map_rows_at
    rows-shallow e = go (ltb v.largest D) e
      where
        go : {n : ℕ} (t : Bool) → cond t (Err Refusal.DepthOutOfRange) (map_rows v bytes) ≡ Ok n → t ≡ false
        go true e = let z : ◌≡◌ {A = ℕ} 0 1 = cc in absurd (omega arith)
        go false e = refl

    pub check_of_rows : {n : ℕ} {answer : Option FirstFault} → map_rows_at v D bytes ≡ Ok n → answer ≡ first_fault v.largest D (zuniqs_in v bytes) → Ok answer ≡ check_rows v D bytes
    unfolding check_rows_as check_rows map_check
    check_of_rows e a = rw e (rw (rows-shallow e) (ap Ok a))

  -- ---- and of lookup
  module _ (m : Result ℕ Refusal) (q : ℕ) where
    pub containing_refused : (D : ℕ) {r : Refusal} {answer : Result (Option ℕ) Refusal} → m ≡ Err r → answer ≡ Err r → ContainingOver v m D bytes q answer
    unfolding ContainingOver
    containing_refused D e a = rw e a

    pub containing_of_rows : (D : ℕ) {n : ℕ} {answer : Result (Option ℕ) Refusal} → m ≡ Ok n → ContainingAnswer v.largest D (zuniqs_in v bytes) q answer → ContainingOver v m D bytes q answer
    unfolding ContainingOver
    containing_of_rows D e a = rw e a

    pub run_refused : {r : Refusal} {answer : Result Run Refusal} → m ≡ Err r → answer ≡ Err r → RunOver v m bytes q answer
    unfolding RunOver
    run_refused e a = rw e a

    pub run_of_rows : {n : ℕ} {answer : Result Run Refusal} → m ≡ Ok n → RunAnswer v.largest (zuniqs_in v bytes) q answer → RunOver v m bytes q answer
    unfolding RunOver
    run_of_rows e a = rw e a
