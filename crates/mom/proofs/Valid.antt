-- The laws of valid maps: the ranges of the entries rise, so the entries that overlap a query stand one behind the other,
-- and at most one contains it; a map stays valid when it is cut short, and when an entry is put behind its last. Over any
-- largest depth K. Assumes nothing.
use mathlib.Core.Path.{◌≡◌}
use mathlib.Core.Bool.{true}
use mathlib.Core.Logic.{⊎_elim}
use mathlib.Core.List.{List, [], ◌∷◌, ◌++◌}
use Prim.Native.Nat.{ℕ, suc, ◌≤◌, ◌<◌}
use native.Mathlib.Nat.{le_trans}
use native.Mathlib.Omega.{arith}
use lib.ListN.{length, get_or, take}
use Rattle.zuniq.specs.Cells.{start, end}
use Rattle.zuniq.specs.Codec.{IsZuniqOf}
use Rattle.zuniq.specs.declared.Cell.{Cell}
use Rattle.zuniq.proofs.Basics.{le_or_lt}
use Rattle.zuniq.proofs.Ranges.{start-lt_end}
use Rattle.mom.specs.Map.{overlaps, ValidMap}
use Rattle.mom.specs.Lookup.{contains}
use Rattle.mom.proofs.Overlaps.{cell_unique, overlaps-valid, contains-valid, overlaps-iff_meets, contains-within}
use Rattle.mom.proofs.Rises.{EntryFrom, EndsBy, CellsRise, zuniqs_of, entry_at, Rises-apart, Rises-take, Rises-append, valid_rises, Rises-valid, zuniqs_rise, cells_rise}

module _ {K D : ℕ} {zs : List ℕ} (v : ValidMap K D zs) where
  -- Every entry is one of the map.
  pub valid_entry : (i : ℕ) → i < length zs → EntryFrom K D 0 (get_or zs i 0)
  valid_entry = entry_at K D 0 zs (valid_rises K D zs v)

  -- The ranges rise: of two entries the first ends where the second starts, or before.
  pub ranges_rise : (i j : ℕ) {d h e g : ℕ} → i < j → j < length zs → IsZuniqOf K (get_or zs i 0) d h → IsZuniqOf K (get_or zs j 0) e g → end K d h ≤ start K e g
  ranges_rise = Rises-apart K D 0 zs (valid_rises K D zs v)

  -- ---- lookup
  -- The entries that overlap a query stand one behind the other.
  pub overlaps-between : (q i j k : ℕ) → i < j → j < k → k < length zs → overlaps K q (get_or zs i 0) ≡ true → overlaps K q (get_or zs k 0) ≡ true
      → overlaps K q (get_or zs j 0) ≡ true
  overlaps-between q i j k l m n s t =
      let w = (overlaps-valid q (get_or zs i 0) s).0.2 in
      let x = valid_entry i (omega arith) in
      let y = valid_entry j (omega arith) in
      let z = valid_entry k n in
      let p = (overlaps-iff_meets w x.is).0 s in
      let r = (overlaps-iff_meets w z.is).0 t in
      let a = ranges_rise i j l (omega arith) x.is y.is in
      let b = ranges_rise j k m n y.is z.is in
      let u = start-lt_end K y.depth y.hash in
      (overlaps-iff_meets w y.is).1 (omega arith, omega arith)

  -- Of two entries not both contain a query.
  not_both_contain : (q i j : ℕ) → i < j → j < length zs → contains K q (get_or zs i 0) ≡ true → contains K q (get_or zs j 0) ≡ true → ⊥
  not_both_contain q i j l m s t =
      let c = (contains-valid q (get_or zs i 0) s).0 in
      let x = valid_entry i (omega arith) in
      let y = valid_entry j m in
      let p = contains-within c.2 x.is s in
      let r = contains-within c.2 y.is t in
      let a = ranges_rise i j l m x.is y.is in
      let u = start-lt_end K c.0 c.1 in
      omega arith

  -- At most one entry contains a query.
  pub contains-once : (q i j : ℕ) → i < length zs → j < length zs → contains K q (get_or zs i 0) ≡ true → contains K q (get_or zs j 0) ≡ true → i ≡ j
  contains-once q i j l m s t =
      ⊎_elim
      (λ a. ⊎_elim (λ b. omega arith) (λ b. absurd (not_both_contain q i j b m s t)) (le_or_lt j i))
      (λ b. absurd (not_both_contain q j i b l t s)) (le_or_lt i j)

  -- ---- other maps
  -- A map cut short is valid.
  pub valid_take : (m : ℕ) → ValidMap K D (take m zs)
  valid_take m = Rises-valid K D 0 (take m zs) (Rises-take K D 0 m zs (valid_rises K D zs v))

  -- A valid map is one of any larger depth.
  pub valid_deeper : {E : ℕ} → D ≤ E → ValidMap K E zs
  valid_deeper l = record { valid = v.valid; shallow = λ i d h m w. le_trans (v.shallow i d h m w) l; rising = v.rising; apart = v.apart }

  -- If the last entry ends at b or before, every entry does.
  pub EndsBy-last : (b i : ℕ) {d h : ℕ} → suc i ≡ length zs → IsZuniqOf K (get_or zs i 0) d h → end K d h ≤ b → EndsBy K zs b
  EndsBy-last b i {d} {h} e w l j f g m u =
      let s = start-lt_end K d h in
      ⊎_elim (λ a. same (omega arith)) (λ a. omega (arith, ranges_rise j i a (omega arith) u w)) (le_or_lt i j)
    where
      same : j ≡ i → end K f g ≤ b
      same q = let p = cell_unique (rw q at u) w in rw (p.0, p.1) l

  -- An entry put behind the last one of a valid map, starting where that ends, or after, makes a valid map.
  pub valid_append : {z d h : ℕ} → IsZuniqOf K z d h → d ≤ D → EndsBy K zs (start K d h) → ValidMap K D (zs ++ (z ∷ []))
  valid_append {z} {d} {h} w l ends =
      let e : EntryFrom K D (start K d h) z = record { depth = d; hash = h; is = w; shallow = l; from = omega arith } in
      Rises-valid K D 0 (zs ++ (z ∷ [])) (Rises-append K D 0 (start K d h) zs (z ∷ []) (omega arith) ends (valid_rises K D zs v) (e, tt))

  -- A valid map is that of cells that rise.
  pub valid_cells : (cs : List Cell) × (zs ≡ zuniqs_of K cs) × CellsRise K D 0 cs
  valid_cells = cells_rise K D 0 zs (valid_rises K D zs v)

-- The empty map is valid.
pub empty_valid : {K D : ℕ} → ValidMap K D []
empty_valid {K} {D} = Rises-valid K D 0 [] tt

-- The zuniqs of cells that rise are a valid map.
pub cells_valid : {K D : ℕ} (b : ℕ) (cs : List Cell) → D ≤ K → CellsRise K D b cs → ValidMap K D (zuniqs_of K cs)
cells_valid {K} {D} b cs m r = Rises-valid K D b (zuniqs_of K cs) (zuniqs_rise K D b cs m r)
