-- The same entries in zuniqs of two widths: a map that is valid with the largest depth K is valid with L, if none of its entries is
-- deeper than either. Between 29 and 13 the zuniqs are shifted by 32 bits. Assumes nothing.
use mathlib.Core.Path.{◌≡◌, refl, ap, ap₂, sym, ◌∙◌}
use mathlib.Core.List.{List, [], ◌∷◌, ◌++◌, map, reverse}
use mathlib.Core.Logic.{inl, inr, ⊎_elim}
use Prim.Native.Nat.{ℕ, ◌+◌, ◌*◌, ◌/◌, ◌%◌, ◌-◌, ◌^◌, ◌≤◌, ◌<◌}
use native.Mathlib.Decide.{dec_le}
use mathlib.Core.Bool.{cond}
use lib.Dec.{ltb}
use native.Mathlib.Nat.{mul_assoc, mul-div_cancel, mod-eq_of_lt}
use borrow.Author.Tests.{lt-ltb, le-ltb}
use native.Mathlib.Omega.{arith}
use lib.ListN.{length, take}
use lib.Seq.{take-length}
use Rattle.zuniq.specs.Cells.{n_hash, end}
use Rattle.zuniq.specs.Codec.{IsZuniqOf, zuniq}
use Rattle.zuniq.proofs.Basics.{four_pow_split, four_pow_pos, four_pow_two}
use Rattle.zuniq.proofs.Codec.{cell, decodes}
use Rattle.zuniq.proofs.Ranges.{valid_iff_end_le, valid_iff_zuniq_lt, sky-fits}
use Rattle.mom.specs.Map.{ValidMap}
use Rattle.mom.proofs.Rises.{Rises as ZuniqsRise, valid_rises}
use Rattle.moving.specs.Widths.{in_width, MovesTo}
use Rattle.build.specs.Map.{Entry, entry}
use Rattle.build.specs.Buffers.{laid, zuniq_of, value_of, read_onto, held}
use Rattle.build.specs.Promises.{Has, start_of, Falls}
use Rattle.build.specs.Standing.{Stands}
use Rattle.build.proofs.Entries.{Any-reverse}
use Rattle.build.proofs.Rising.{Falls-to, Falls-iff_rises, Falls-in_range}
use Rattle.build.proofs.Order.{Rises-deeper_iff}
use Rattle.build.proofs.ValidMaps.{rising_is_valid}
use Rattle.build.proofs.Places.{held-length, held-zuniqs, held-values}
use Rattle.build.proofs.Buffers.{held-laid}
use Rattle.build.proofs.Accepted.{valid_stands}

-- ---- zuniqs
-- The zuniq of a cell no deeper than m is the one with the largest depth m, shifted.
zuniq-scales : (K m d h : ℕ) → d ≤ m → m ≤ K → zuniq K d h ≡ zuniq m d h * 4 ^ (K - m)
unfolding zuniq
zuniq-scales K m d h p q = rw (four_pow_split (K - d) (m - d) (K - m) (omega arith)) (sym (mul_assoc (2 * h + 1) (4 ^ (m - d)) (4 ^ (K - m))))

-- Narrowing is a shift to the right,
pub narrow_shifts : (d h : ℕ) → d ≤ 13 → zuniq 29 d h / 2 ^ 32 ≡ zuniq 13 d h
narrow_shifts d h p = omega (arith, zuniq-scales 29 13 d h p (omega arith))

-- and widening one to the left.
pub widen_shifts : (d h : ℕ) → d ≤ 13 → zuniq 13 d h * 2 ^ 32 ≡ zuniq 29 d h
widen_shifts d h p = omega (arith, zuniq-scales 29 13 d h p (omega arith))

-- Of any two widths: the zuniq of the same cell.
pub width_changes : (K L d h : ℕ) → d ≤ K → d ≤ L → in_width K L (zuniq K d h) ≡ zuniq L d h
unfolding in_width
width_changes K L d h p q =
    elim (dec_le L K) as (λ _. cond (ltb K L) (zuniq K d h * 4 ^ (L - K)) (zuniq K d h / 4 ^ (K - L)) ≡ zuniq L d h) [
      | yes l ↦ rw (le-ltb K L l, zuniq-scales K L d h q l) (mul-div_cancel (zuniq L d h) (four_pow_pos (K - L)))
      | no l ↦ rw (lt-ltb K L (omega arith)) (sym (zuniq-scales L K d h p (omega arith)))
    ]

-- It is below the bound of that width.
pub moves_to : (K L z d h : ℕ) → IsZuniqOf K z d h → d ≤ L → MovesTo K L z
unfolding n_hash
moves_to K L z d h w q = rw (w.is, width_changes K L d h w.deep q) (omega (arith, (valid_iff_zuniq_lt L d h q).0 w.hash))

-- So a shift is by two bits for each level.
module _ (K L z : ℕ) (moves : MovesTo K L z) where
  pub shifted_left : K < L → L ≤ 29 → (z * 2 ^ (2 * (L - K))) % 2 ^ 64 ≡ in_width K L z
  unfolding in_width
  shifted_left l u =
      let e : in_width K L z ≡ z * 2 ^ (2 * (L - K)) = rw (lt-ltb K L l) (ap (λ (p : ℕ). z * p) (four_pow_two (L - K))) in
      rw (← e) (mod-eq_of_lt (omega (arith, sky-fits L u)))

  pub shifted_right : L ≤ K → z / 2 ^ (2 * (K - L)) ≡ in_width K L z
  unfolding in_width
  shifted_right l = rw (le-ltb K L l) (ap (λ (p : ℕ). z / p) (sym (four_pow_two (K - L))))

-- ---- entries
-- What is read behind entries that end at b, of zuniqs that rise from there.
read_falls : (K D b : ℕ) (s : List (Entry ℕ)) (zs vs : List ℕ) → b ≤ n_hash K → ZuniqsRise K D b zs → Falls K 0 b s → ((e : Entry ℕ) → Has s e → e.depth ≤ D)
    → Falls K 0 (n_hash K) (read_onto K s zs vs) × ((e : Entry ℕ) → Has (read_onto K s zs vs) e → e.depth ≤ D)
unfolding read_onto
read_falls K D b s [] vs u r f low = (Falls-to K 0 b (n_hash K) s u f, low)
read_falls K D b s (z ∷ zs) [] u r f low = (Falls-to K 0 b (n_hash K) s u f, low)
read_falls K D b s (z ∷ zs) (v ∷ vs) u r f low =
    let d = r.0.depth in
    let h = r.0.hash in
    let w = r.0.is in
    let c : Entry ℕ = entry d h v in
    rw ((decodes K z (cell d h)).1 w)
    (read_falls K D (end K d h) (c ∷ s) zs vs ((valid_iff_end_le K d h w.deep).0 w.hash) r.1 (w.deep, omega arith, Falls-to K 0 b (start_of K c) s r.0.from f)
    (λ e m. ⊎_elim (λ p. omega (arith, r.0.shallow, ap (λ (x : Entry ℕ). x.depth) p)) (low e) m))

-- A part of each entry, changed into another.
map-parts : (f : ℕ → ℕ) (part other : Entry ℕ → ℕ) (l : List (Entry ℕ)) → ((e : Entry ℕ) → Has l e → f (part e) ≡ other e) → map f (map part l) ≡ map other l
map-parts f part other [] same = refl
map-parts f part other (e ∷ l) same = ap₂ (λ y t. y ∷ t) (same e (inl refl)) (map-parts f part other l (λ c m. same c (inr m)))

-- The entries of a valid map of depth m, the last one first.
module _ (K m : ℕ) (zs vs : List ℕ) (paired : length zs ≡ length vs) (v : ValidMap K m zs) where
  abbrev s : List (Entry ℕ)
  s = held K (length zs) zs vs

  stands : Stands K (length zs) zs vs
  stands = valid_stands K m (length zs) zs vs (omega arith) (omega arith) (rw (take-length zs) v)

  falls : Falls K 0 (n_hash K) s × ((e : Entry ℕ) → Has s e → e.depth ≤ m)
  unfolding held
  falls =
      rw (take-length zs, paired, take-length vs)
      (read_falls K m 0 [] zs vs (omega arith) (valid_rises K m zs v) (omega arith) (λ e a. absurd a))

  -- They are as many as its zuniqs, and stand in its zuniqs and counts.
  pub entries_number : length s ≡ length zs
  entries_number = held-length K 0 (length zs) zs vs stands

  pub entries_zuniqs : laid (zuniq_of K) s ≡ zs
  entries_zuniqs = held-zuniqs K 0 (length zs) zs vs stands ∙ take-length zs

  pub entries_counts : laid value_of s ≡ vs
  entries_counts = held-values K 0 (length zs) zs vs stands ∙ ap (λ (k : ℕ). take k vs) paired ∙ take-length vs

  -- A change of the zuniqs of all cells up to depth m into those with the largest depth L.
  pub entries_changed : (L : ℕ) (f : ℕ → ℕ) → ((d h : ℕ) → d ≤ m → f (zuniq K d h) ≡ zuniq L d h) → map f zs ≡ laid (zuniq_of L) s
  unfolding laid
  entries_changed L f same =
      ap (map f) (sym entries_zuniqs)
      ∙ map-parts f (zuniq_of K) (zuniq_of L) (reverse s) (λ e a. same e.depth e.hash (falls.1 e ((Any-reverse _ s).0 a)))

  module _ (L : ℕ) (p : m ≤ K) (q : m ≤ L) where
    -- Laid in zuniqs with the largest depth L they are a valid map of the same depth,
    pub entries_valid : ValidMap L m (laid (zuniq_of L) s)
    unfolding laid
    entries_valid =
        let low : (e : Entry ℕ) → Has (reverse s) e → e.depth ≤ m = λ e a. falls.1 e ((Any-reverse _ s).0 a) in
        let r = (Rises-deeper_iff m K p (reverse s)).1 (low, (Falls-iff_rises K 0 (n_hash K) s).0 falls.0) in
        rising_is_valid L m (reverse s) low ((Rises-deeper_iff m L q (reverse s)).0 r).1

    -- and are read again, whatever comes after.
    pub entries_again : (t r : List ℕ) → held L (length zs) (laid (zuniq_of L) s ++ t) (laid value_of s ++ r) ≡ s
    entries_again t r =
        ap (λ (k : ℕ). held L k (laid (zuniq_of L) s ++ t) (laid value_of s ++ r)) (sym entries_number)
        ∙ held-laid L s t r (λ e a. (omega (arith, falls.1 e a), (Falls-in_range K 0 s e falls.0 a).1))
