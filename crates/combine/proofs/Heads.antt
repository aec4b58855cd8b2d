-- What two heads lead to, by the tests of the code: the hash of the deeper one's ancestor at the other's depth against the
-- other's hash. Over any type of cells. Assumes nothing.
use mathlib.Core.Path.{◌≡◌, refl, sym, ◌∙◌}
use mathlib.Core.List.{List}
use mathlib.Core.Option.{Option, some}
use Prim.Native.Nat.{ℕ, suc, ◌+◌, ◌*◌, ◌/◌, ◌-◌, ◌^◌, ◌≤◌, ◌<◌}
use native.Mathlib.Omega.{arith}
use native.Mathlib.Nat.{pow-le-pow_right, div-one, le-div_iff_mul-le, div-lt_iff_lt-mul}
use native.Mathlib.Numerals.{add-one}
use Rattle.zuniq.specs.Cells.{n_hash, start, end}
use Rattle.zuniq.proofs.Basics.{four_pow_pos, four_pow_two}
use Rattle.zuniq.proofs.Ranges.{lies_in-iff, end-is_next_start, start-le_iff, start-at_depth, child_valid_iff}
use Rattle.build.specs.Map.{Entry, entry}
use Rattle.build.specs.Stack.{child}
use Rattle.combine.specs.Heads.{Act, shows, saw_left, saw_right, saw_both, opens_left, opens_right, EntryAt, Turned}

module _ (K d h e g : ℕ) (l : d ≤ e) (m : e ≤ K) where
  -- A cell ends before another starts if it is before its ancestor.
  before_ancestor : h < g / 4 ^ (e - d) → end K d h ≤ start K e g
  before_ancestor t = simp (end-is_next_start, start-at_depth K d e l m, start-le_iff) ((le-div_iff_mul-le (four_pow_pos (e - d))).0 t)

  -- A cell ends before another starts if its ancestor is before that.
  ancestor_before : g / 4 ^ (e - d) < h → end K e g ≤ start K d h
  ancestor_before t = simp (end-is_next_start, start-at_depth K d e l m, start-le_iff) ((div-lt_iff_lt-mul (four_pow_pos (e - d))).0 t)

-- ---- sides with a head
module _ {A C : Type 0} (as_entry : C → Entry A) (K : ℕ) (x y : Option C) where
  -- Two heads lead to what their cells lead to.
  pub heads_meet : (a b : C) (t : Act C) → x ≡ some a → y ≡ some b → Turned as_entry K (some a) (some b) t → Turned as_entry K x y t
  heads_meet a b t p q k = rw (p, q) k

-- What is known of the entry at a place, once it is known what that is.
pub entry_known : {A C : Type 0} (as_entry : C → Entry A) (zuniq_in : C → ℕ) (zs : List ℕ) (vs : List A) (i : ℕ) (x y : Option C) → x ≡ y → EntryAt as_entry zuniq_in zs vs i x → EntryAt as_entry zuniq_in zs vs i y
entry_known as_entry zuniq_in zs vs i x y q f = rw (← q) f

-- ---- two heads
module _ {A C : Type 0} (as_entry : C → Entry A) (K : ℕ) (a b : C) where
  abbrev da : ℕ
  da = (as_entry a).depth

  abbrev db : ℕ
  db = (as_entry b).depth

  abbrev ha : ℕ
  ha = (as_entry a).hash

  abbrev hb : ℕ
  hb = (as_entry b).hash

  module _ (l : da ≤ db) (m : db ≤ K) where
    pub left_before : ha < hb / 2 ^ (2 * (db - da)) → Turned as_entry K (some a) (some b) (shows (saw_left a))
    left_before t = (refl, before_ancestor K da ha db hb l m (rw four_pow_two t))

    pub right_before : hb / 2 ^ (2 * (db - da)) < ha → Turned as_entry K (some a) (some b) (shows (saw_right b))
    right_before t = (refl, ancestor_before K da ha db hb l m (rw four_pow_two t))

    pub left_around : da < db → hb / 2 ^ (2 * (db - da)) ≡ ha → Turned as_entry K (some a) (some b) (opens_left a)
    left_around u t = (b, refl, refl, (u, (lies_in-iff db hb da ha).1 (l, rw four_pow_two t)))

    pub same_cell : db ≤ da → hb / 2 ^ (2 * (db - da)) ≡ ha → Turned as_entry K (some a) (some b) (shows (saw_both a b))
    same_cell u t = let z : db - da ≡ 0 = omega arith in (refl, refl, omega arith, sym (sym (div-one hb) ∙ rw z at t))

  module _ (l : db < da) (m : da ≤ K) where
    pub left_before' : ha / 2 ^ (2 * (da - db)) < hb → Turned as_entry K (some a) (some b) (shows (saw_left a))
    left_before' t = (refl, ancestor_before K db hb da ha (omega arith) m (rw four_pow_two t))

    pub right_before' : hb < ha / 2 ^ (2 * (da - db)) → Turned as_entry K (some a) (some b) (shows (saw_right b))
    right_before' t = (refl, before_ancestor K db hb da ha (omega arith) m (rw four_pow_two t))

    pub right_around : ha / 2 ^ (2 * (da - db)) ≡ hb → Turned as_entry K (some a) (some b) (opens_right b)
    right_around t = (a, refl, refl, (l, (lies_in-iff da ha db hb).1 (omega arith, rw four_pow_two t)))

-- ---- children
-- A child of a cell that is not of the largest depth has a hash that fits 64 bits.
pub child_fits : (d h i : ℕ) → d < 29 → h < n_hash d → i < 4 → 4 * h + i < 2 ^ 64
unfolding n_hash
child_fits d h i u v w =
    let c = (child_valid_iff d h i w).1 v in
    let p : 4 ^ suc d ≤ 4 ^ 29 = pow-le-pow_right {n = 4} (omega arith) {i = suc d} {j = 29} (omega arith) in
    omega arith

-- It is a cell too.
pub child_in_sky : (d h i : ℕ) → d < 29 → h < n_hash d → i < 4 → (d + 1 ≤ 29) × (4 * h + i < n_hash (d + 1))
child_in_sky d h i u v w = (omega arith, rw add-one ((child_valid_iff d h i w).1 v))

pub child-is : {A : Type 0} (d h i : ℕ) (v x : A) → v ≡ x → entry (d + 1) (4 * h + i) v ≡ child d h i x
child-is d h i v x q = rw (q, add-one)
