-- Valid maps by ranges. A map is valid exactly if its entries rise: each is a zuniq that is not too deep, and starts where
-- the one before it ends, or after. The same can be said of the entries' cells. Over any largest depth K. Assumes nothing.
use mathlib.Core.Path.{◌≡◌, refl}
use mathlib.Core.Bool.{false}
use mathlib.Core.List.{List, [], ◌∷◌, ◌++◌, map}
use Prim.Native.Nat.{ℕ, zero, suc, ◌≤◌, ◌<◌}
use native.Mathlib.Nat.{le_trans, le_of_lt, le_of_suc-le-suc}
use native.Mathlib.Omega.{arith}
use lib.ListN.{length, get_or, take}
use Rattle.zuniq.specs.Cells.{n_hash, start, end}
use Rattle.zuniq.specs.Codec.{zuniq, IsZuniqOf}
use Rattle.zuniq.specs.declared.Cell.{Cell}
use Rattle.zuniq.proofs.Codec.{cell}
use Rattle.zuniq.proofs.Ranges.{start-lt_end}
use Rattle.mom.specs.Map.{overlaps, ValidMap}
use Rattle.mom.proofs.Overlaps.{cell_unique, end-le_start_iff_above}

-- z is an entry of a map of depth D, and starts at b or after
pub record EntryFrom (K D b z : ℕ) : Type 0 where
  pub depth : ℕ
  pub hash : ℕ
  pub is : IsZuniqOf K z depth hash
  pub shallow : depth ≤ D
  pub from : b ≤ start K depth hash

-- the entries of a map of depth D, the first from b on, each from the end of the one before
abbrev pub Rises : ℕ → ℕ → ℕ → List ℕ → Type 0
Rises K D b [] = Unit {0}
Rises K D b (z ∷ zs) = (e : EntryFrom K D b z) × Rises K D (end K e.depth e.hash) zs

-- every entry ends at b or before
abbrev pub EndsBy : ℕ → List ℕ → ℕ → Type 0
EndsBy K zs b = (i d h : ℕ) → i < length zs → IsZuniqOf K (get_or zs i 0) d h → end K d h ≤ b

-- the same of cells, and their zuniqs
abbrev pub CellsRise : ℕ → ℕ → ℕ → List Cell → Type 0
CellsRise K D b [] = Unit {0}
CellsRise K D b (c ∷ cs) =
    (c.depth ≤ D) × (c.hash < n_hash c.depth) × (b ≤ start K c.depth c.hash) × CellsRise K D (end K c.depth c.hash) cs

abbrev pub zuniqs_of : ℕ → List Cell → List ℕ
zuniqs_of K cs = map (λ c. zuniq K c.depth c.hash) cs

module _ (K D : ℕ) where
  -- What rises from b on rises from any place before it.
  pub Rises-from : (a b : ℕ) (zs : List ℕ) → a ≤ b → Rises K D b zs → Rises K D a zs
  Rises-from a b [] l r = tt
  Rises-from a b (z ∷ zs) l r =
      let e = r.0 in
      (record { depth = e.depth; hash = e.hash; is = e.is; shallow = e.shallow; from = le_trans l e.from }, r.1)

  -- Each entry of what rises from b on starts at b or after.
  pub entry_at : (b : ℕ) (zs : List ℕ) → Rises K D b zs → (i : ℕ) → i < length zs → EntryFrom K D b (get_or zs i 0)
  entry_at b [] r i l = absurd (omega arith)
  entry_at b (z ∷ zs) r zero l = r.0
  entry_at b (z ∷ zs) r (suc i) l =
      let e = r.0 in
      let s = start-lt_end K e.depth e.hash in
      entry_at b zs (Rises-from b (end K e.depth e.hash) zs (omega (arith, e.from)) r.1) i (le_of_suc-le-suc l)

  -- Of two entries the first ends where the second starts, or before.
  pub Rises-apart : (b : ℕ) (zs : List ℕ) → Rises K D b zs → (i j : ℕ) {d h e g : ℕ} → i < j → j < length zs
      → IsZuniqOf K (get_or zs i 0) d h → IsZuniqOf K (get_or zs j 0) e g → end K d h ≤ start K e g
  Rises-apart b [] r i j l m v w = absurd (omega arith)
  Rises-apart b (z ∷ zs) r i zero l m v w = absurd (omega arith)
  Rises-apart b (z ∷ zs) r zero (suc j) l m v w =
      let f = entry_at (end K r.0.depth r.0.hash) zs r.1 j (le_of_suc-le-suc m) in
      let p = cell_unique v r.0.is in
      let q = cell_unique w f.is in
      rw (p.0, p.1, q.0, q.1) f.from
  Rises-apart b (z ∷ zs) r (suc i) (suc j) l m v w =
      Rises-apart (end K r.0.depth r.0.hash) zs r.1 i j (le_of_suc-le-suc l) (le_of_suc-le-suc m) v w

  -- What rises, cut short, rises.
  pub Rises-take : (b m : ℕ) (zs : List ℕ) → Rises K D b zs → Rises K D b (take m zs)
  Rises-take b zero zs r = tt
  Rises-take b (suc m) [] r = tt
  Rises-take b (suc m) (z ∷ zs) r = (r.0, Rises-take (end K r.0.depth r.0.hash) m zs r.1)

  -- Entries that rise from the end of others rise behind them.
  pub Rises-append : (b c : ℕ) (xs ys : List ℕ) → b ≤ c → EndsBy K xs c → Rises K D b xs → Rises K D c ys → Rises K D b (xs ++ ys)
  Rises-append b c [] ys l ends r s = Rises-from b c ys l s
  Rises-append b c (x ∷ xs) ys l ends r s =
      let e = r.0 in
      let last = ends 0 e.depth e.hash (omega arith) e.is in
      (e, Rises-append (end K e.depth e.hash) c xs ys last (λ i d h m. ends (suc i) d h (omega arith)) r.1 s)

  -- ---- valid maps
  -- The entries of a valid map without the first are a valid map.
  valid_tail : {z : ℕ} {zs : List ℕ} → ValidMap K D (z ∷ zs) → ValidMap K D zs
  valid_tail v = record {
    valid = λ i l. v.valid (suc i) (omega arith);
    shallow = λ i d h l. v.shallow (suc i) d h (omega arith);
    rising = λ i j l m. v.rising (suc i) (suc j) (omega arith) (omega arith);
    apart = λ i j l m. v.apart (suc i) (suc j) (omega arith) (omega arith);
  }

  -- The entries of a valid map rise behind its first.
  valid_rises_after : (y d h : ℕ) (zs : List ℕ) → IsZuniqOf K y d h → ValidMap K D (y ∷ zs) → Rises K D (end K d h) zs
  valid_rises_after y d h [] w v = tt
  valid_rises_after y d h (z ∷ zs) w v =
      let c = v.valid 1 (omega arith) in
      let from = (end-le_start_iff_above w c.2).1 (v.rising 0 1 (omega arith) (omega arith), v.apart 0 1 (omega arith) (omega arith)) in (
        record { depth = c.0; hash = c.1; is = c.2; shallow = v.shallow 1 c.0 c.1 (omega arith) c.2; from = from },
        valid_rises_after z c.0 c.1 zs c.2 (valid_tail v),
      )

  -- The entries of a valid map rise.
  pub valid_rises : (zs : List ℕ) → ValidMap K D zs → Rises K D 0 zs
  valid_rises [] v = tt
  valid_rises (z ∷ zs) v =
      let c = v.valid 0 (omega arith) in (
        record { depth = c.0; hash = c.1; is = c.2; shallow = v.shallow 0 c.0 c.1 (omega arith) c.2; from = omega arith },
        valid_rises_after z c.0 c.1 zs c.2 v,
      )

  -- Entries that rise are a valid map.
  pub Rises-valid : (b : ℕ) (zs : List ℕ) → Rises K D b zs → ValidMap K D zs
  Rises-valid b zs r = record {
    valid = λ i l. let e = entry_at b zs r i l in (e.depth, e.hash, e.is);
    shallow = λ i d h l w. let e = entry_at b zs r i l in rw (cell_unique w e.is).0 e.shallow;
    rising = λ i j l m. (above i j l m).0;
    apart = λ i j l m. (above i j l m).1;
  }
    where
      above : (i j : ℕ) → i < j → j < length zs → (get_or zs i 0 < get_or zs j 0) × (overlaps K (get_or zs i 0) (get_or zs j 0) ≡ false)
      above i j l m =
          let e = entry_at b zs r i (le_trans l (le_of_lt m)) in
          let f = entry_at b zs r j m in
          (end-le_start_iff_above e.is f.is).0 (Rises-apart b zs r i j l m e.is f.is)

  -- ---- cells
  -- Cells that rise have zuniqs that do.
  pub zuniqs_rise : (b : ℕ) (cs : List Cell) → D ≤ K → CellsRise K D b cs → Rises K D b (zuniqs_of K cs)
  zuniqs_rise b [] m r = tt
  zuniqs_rise b (c ∷ cs) m r = (
    record { depth = c.depth; hash = c.hash; is = record { deep = le_trans r.0 m; hash = r.1; is = refl }; shallow = r.0; from = r.2 },
    zuniqs_rise (end K c.depth c.hash) cs m r.3,
  )

  -- Zuniqs that rise are those of cells that do.
  pub cells_rise : (b : ℕ) (zs : List ℕ) → Rises K D b zs → (cs : List Cell) × (zs ≡ zuniqs_of K cs) × CellsRise K D b cs
  cells_rise b [] r = ([], refl, tt)
  cells_rise b (z ∷ zs) r =
      let e = r.0 in
      let rest = cells_rise (end K e.depth e.hash) zs r.1 in
      (cell e.depth e.hash ∷ rest.0, cc (e.is.is, rest.1), (e.shallow, e.is.hash, e.from, rest.2))
