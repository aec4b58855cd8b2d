-- The laws of cells and of their ranges, over any largest depth K. The range of a cell, from `start` to below `end`, holds
-- the depth-K cells that lie in it, and its zuniq is the sum of the two. A cell lies in another exactly if its range lies
-- within the other's; two cells overlap exactly if their ranges meet; of two that do not, the one with the smaller zuniq
-- ends where the other starts, or before. Four children part the range of their parent, and a hash is one that its depth
-- has exactly if the range ends within the sky. Assumes nothing.
use mathlib.Core.Path.{◌≡◌, refl, sym, ◌∙◌}
use mathlib.Core.Bool.{true, false, or-true, or_comm, or_self, false≢true}
use mathlib.Core.Logic.{◌≢◌, ◌⊎◌, inl, ⊎_elim, ⊎_map, ◌↔◌}
use Prim.Native.Nat.{ℕ, suc, ◌+◌, ◌*◌, ◌≤◌, ◌<◌, ◌/◌, ◌%◌, ◌-◌, ◌^◌}
use native.Mathlib.Nat.{mul-le-mul_right, mul-lt-mul_of_pos_right, le_of_mul-le-mul_right, lt_of_mul-lt-mul_right}
use native.Mathlib.Nat.{lt_of_le_of_lt, le-mul_of_pos_right, pow-suc, pow-le-pow_right, div-one, div-mul-le_self, lt-div-mul-add, div-eq_of_lt-le, div-div-eq-div-mul}
use native.Mathlib.Numerals.{add-one}
use native.Mathlib.Omega.{arith, by_contra}
use lib.Dec.{leb, eqb}
use borrow.Author.Tests.{le-leb, lt-leb, eq-eqb, leb-true, eqb-true}
use Rattle.zuniq.specs.Cells.{n_hash, child_hash, lies_in, overlap, start, end}
use Rattle.zuniq.specs.Codec.{zuniq}
use Rattle.zuniq.proofs.Basics.{and_is_true, or_is_true, is_false, le_or_lt, four_pow_pos, four_pow_split, four_pow_two, eqb-sym}

-- ---- lying in
-- A cell lies in another exactly if it is at least as deep and the other is its ancestor.
pub lies_in-iff : (d h e g : ℕ) → (lies_in d h e g ≡ true) ↔ ((e ≤ d) × (h / 4 ^ (d - e) ≡ g))
unfolding lies_in
lies_in-iff d h e g = (
  λ t. let p = and_is_true (leb e d) _ t in (leb-true e d p.0, eqb-true _ _ p.1),
  λ p. rw (le-leb e d p.0, eq-eqb _ _ p.1),
)

-- A cell is its own ancestor of its depth.
own_ancestor : (d h : ℕ) → h / 4 ^ (d - d) ≡ h
own_ancestor d h = let z : d - d ≡ 0 = omega arith in rw z (div-one h)

-- A cell lies in itself.
pub lies_in-self : (d h : ℕ) → lies_in d h d h ≡ true
lies_in-self d h = (lies_in-iff d h d h).1 (omega arith, own_ancestor d h)

-- Of the cells of its depth, a cell lies only in itself.
pub lies_in-same_depth : (d h g : ℕ) → lies_in d h d g ≡ true → h ≡ g
lies_in-same_depth d h g t = sym (own_ancestor d h) ∙ ((lies_in-iff d h d g).0 t).1

-- A cell and one that it lies in, (e, g), lie in the same cells of depth e or less.
pub lies_in-through : (d h e g f k : ℕ) → lies_in d h e g ≡ true → f ≤ e → lies_in d h f k ≡ lies_in e g f k
unfolding lies_in
lies_in-through d h e g f k t l =
    let p = (lies_in-iff d h e g).0 t in
    rw (le-leb f d (omega arith), le-leb f e l, four_pow_split (d - f) (d - e) (e - f) (omega arith), ← div-div-eq-div-mul, p.1)

-- Lying in is transitive.
pub lies_in-trans : (d h e g f k : ℕ) → lies_in d h e g ≡ true → lies_in e g f k ≡ true → lies_in d h f k ≡ true
lies_in-trans d h e g f k t u = lies_in-through d h e g f k t ((lies_in-iff e g f k).0 u).0 ∙ u

-- ---- overlapping
-- Two cells overlap exactly if one lies in the other.
pub overlap-iff_lies_in : (d h e g : ℕ) → (overlap d h e g ≡ true) ↔ ((lies_in d h e g ≡ true) ⊎ (lies_in e g d h ≡ true))
unfolding overlap
overlap-iff_lies_in d h e g = (or_is_true (lies_in d h e g) (lies_in e g d h), ⊎_elim (λ t. rw t) (λ t. rw (t, or-true)))

-- Overlapping is symmetric.
pub overlap-sym : (d h e g : ℕ) → overlap d h e g ≡ overlap e g d h
unfolding overlap
overlap-sym d h e g = or_comm (lies_in d h e g) (lies_in e g d h)

-- A cell overlaps one that is no less deep exactly if it is that one's ancestor.
pub overlap-ancestor : (d h e g : ℕ) → d ≤ e → overlap d h e g ≡ eqb h (g / 4 ^ (e - d))
unfolding overlap lies_in
overlap-ancestor d h e g l = ⊎_elim equal deeper (le_or_lt e d)
  where
    deeper : d < e → overlap d h e g ≡ eqb h (g / 4 ^ (e - d))
    deeper m = rw (lt-leb e d m, le-leb d e l) (eqb-sym (g / 4 ^ (e - d)) h)

    equal : e ≤ d → overlap d h e g ≡ eqb h (g / 4 ^ (e - d))
    equal m =
        let q : d ≡ e = omega arith in
        rw (q, le-leb e e (omega arith), own_ancestor e h, own_ancestor e g, eqb-sym g h) (or_self (eqb h g))

-- Of the cells of its depth, a cell overlaps only itself.
pub overlap-same_depth : (d h g : ℕ) → overlap d h d g ≡ true → h ≡ g
overlap-same_depth d h g t = ⊎_elim (lies_in-same_depth d h g) (λ u. sym (lies_in-same_depth d g h u)) ((overlap-iff_lies_in d h d g).0 t)

-- ---- children
-- A depth has the children of a cell exactly if the depth above has the cell.
pub child_valid_iff : (d h i : ℕ) → i < 4 → (child_hash h i < n_hash (suc d)) ↔ (h < n_hash d)
unfolding n_hash
child_valid_iff d h i l = rw pow-suc (λ u. omega arith, λ u. omega arith)

-- A cell of the next depth lies in (d, h) exactly if its hash is h times four and a rest.
pub lies_in-parent_iff : (d g h : ℕ) → (lies_in (suc d) g d h ≡ true) ↔ (g / 4 ≡ h)
lies_in-parent_iff d g h =
    let z : suc d - d ≡ 1 = omega arith in
    (λ t. rw z at ((lies_in-iff (suc d) g d h).0 t).1, λ q. (lies_in-iff (suc d) g d h).1 (omega arith, rw z q))

-- A child lies in its parent.
pub child_lies_in_parent : (d h i : ℕ) → i < 4 → lies_in (suc d) (child_hash h i) d h ≡ true
child_lies_in_parent d h i l = (lies_in-parent_iff d (child_hash h i) h).1 (omega arith)

-- A deeper cell lies in child i of (d, h) exactly if it lies in (d, h) and i is the last base-4 digit of the hash of its
-- ancestor of the children's depth: so it lies in no other child.
pub lies_in-child_iff : (e g d h i : ℕ) → d < e → i < 4
    → (lies_in e g (suc d) (child_hash h i) ≡ true) ↔ ((lies_in e g d h ≡ true) × (g / 4 ^ (e - suc d) % 4 ≡ i))
lies_in-child_iff e g d h i m l =
    let a = g / 4 ^ (e - suc d) in
    let up = lies_in-through e g (suc d) a d h ((lies_in-iff e g (suc d) a).1 (m, refl)) (omega arith) in
    let child = lies_in-iff e g (suc d) (child_hash h i) in (
      λ t. let q : a ≡ child_hash h i = (child.0 t).1 in (up ∙ (lies_in-parent_iff d a h).1 (omega arith), omega arith),
      λ p. let q : a / 4 ≡ h = (lies_in-parent_iff d a h).0 (sym up ∙ p.0) in child.1 (m, omega arith),
    )

-- A deeper cell lies in (d, h) exactly if it lies in one of the four children.
pub lies_in-iff_some_child : (e g d h : ℕ) → d < e
    → (lies_in e g d h ≡ true) ↔ ((i : ℕ) × (i < 4) × (lies_in e g (suc d) (child_hash h i) ≡ true))
lies_in-iff_some_child e g d h m = (
  λ t. let l : g / 4 ^ (e - suc d) % 4 < 4 = omega arith in (_, l, (lies_in-child_iff e g d h _ m l).1 (t, refl)),
  λ c. ((lies_in-child_iff e g d h c.0 m c.1).0 c.2).0,
)

-- Two different children of one parent do not overlap.
pub siblings_apart : (d h i j : ℕ) → i ≢ j → overlap (suc d) (child_hash h i) (suc d) (child_hash h j) ≡ false
siblings_apart d h i j n = is_false _ (λ t. let q = overlap-same_depth (suc d) (child_hash h i) (child_hash h j) t in n (omega arith))

module _ (K : ℕ) where
  -- ---- ranges
  -- A range is not empty.
  pub start-lt_end : (d h : ℕ) → start K d h < end K d h
  unfolding start end
  start-lt_end d h = let p = four_pow_pos (K - d) in omega arith

  -- A zuniq is the sum of the two ends of its cell's range.
  pub zuniq-is_start_plus_end : (d h : ℕ) → zuniq K d h ≡ start K d h + end K d h
  unfolding start end zuniq
  zuniq-is_start_plus_end d h = omega arith

  -- It is the middle between twice the one and twice the other.
  pub zuniq-is_middle : (d h : ℕ) → (2 * start K d h + 4 ^ (K - d) ≡ zuniq K d h) × (zuniq K d h + 4 ^ (K - d) ≡ 2 * end K d h)
  unfolding start end zuniq
  zuniq-is_middle d h = (omega arith, omega arith)

  -- A cell ends where the next of its depth starts.
  pub end-is_next_start : (d h : ℕ) → end K d h ≡ start K d (suc h)
  unfolding start end
  end-is_next_start d h = rw add-one

  -- Cells of one depth start in the order of their hashes.
  pub start-le_iff : (d h g : ℕ) → (start K d h ≤ start K d g) ↔ (h ≤ g)
  unfolding start
  start-le_iff d h g = (λ u. le_of_mul-le-mul_right u (four_pow_pos (K - d)), mul-le-mul_right (4 ^ (K - d)))

  -- The same for the strict order.
  pub start-lt_iff : (d h g : ℕ) → (start K d h < start K d g) ↔ (h < g)
  unfolding start
  start-lt_iff d h g = (lt_of_mul-lt-mul_right (4 ^ (K - d)), λ l. mul-lt-mul_of_pos_right l (four_pow_pos (K - d)))

  -- A cell starts where the first cell of depth d in it does.
  pub start-at_depth : (e d : ℕ) → e ≤ d → d ≤ K → (g : ℕ) → start K e g ≡ start K d (g * 4 ^ (d - e))
  unfolding start
  start-at_depth e d l m g = rw (four_pow_split (K - e) (d - e) (K - d) (omega arith)) (omega arith)

  -- A cell of the largest depth starts at its hash.
  pub start-deepest : (h : ℕ) → start K K h ≡ h
  unfolding start
  start-deepest h = let z : K - K ≡ 0 = omega arith in rw z (omega arith)

  -- ---- lying in and overlapping, by ranges
  -- A cell that lies in another has its range within the other's.
  pub lies_in-within : (d h e g : ℕ) → d ≤ K → lies_in d h e g ≡ true → (start K e g ≤ start K d h) × (end K d h ≤ end K e g)
  lies_in-within d h e g m t =
      let p = (lies_in-iff d h e g).0 t in
      let s = 4 ^ (d - e) in
      let u : g * s ≤ h = rw p.1 at (div-mul-le_self h s) in
      let v : h < g * s + s = rw p.1 at (lt-div-mul-add {a = h} (four_pow_pos (d - e))) in
      simp (end-is_next_start, start-at_depth e d p.0 m, start-le_iff) (omega arith)

  -- A cell whose range meets that of a cell that is no deeper lies in it.
  meets_lies_in : (d h e g : ℕ) → e ≤ d → d ≤ K → start K d h < end K e g → start K e g < end K d h → lies_in d h e g ≡ true
  meets_lies_in d h e g l m a b =
      let u = simp (end-is_next_start, start-at_depth e d l m, start-lt_iff) at a in
      let v = simp (end-is_next_start, start-at_depth e d l m, start-lt_iff) at b in
      (lies_in-iff d h e g).1 (l, div-eq_of_lt-le (4 ^ (d - e)) (omega arith) (omega arith))

  -- A cell lies in one that is no deeper exactly if it starts in its range.
  pub lies_in-iff_starts_in : (d h e g : ℕ) → e ≤ d → d ≤ K → (lies_in d h e g ≡ true) ↔ ((start K e g ≤ start K d h) × (start K d h < end K e g))
  lies_in-iff_starts_in d h e g l m =
      let p = start-lt_end d h in
      (λ t. omega (arith, lies_in-within d h e g m t), λ w. meets_lies_in d h e g l m w.1 (omega arith))

  -- The range of a cell holds exactly the depth-K cells that lie in it.
  pub lies_in-iff_in_range : (k d h : ℕ) → d ≤ K → (lies_in K k d h ≡ true) ↔ ((start K d h ≤ k) × (k < end K d h))
  lies_in-iff_in_range k d h m = rw (start-deepest k) at (lies_in-iff_starts_in K k d h m (omega arith))

  -- A cell whose range lies within another's is at least as deep.
  deeper_of_within : (d h e g : ℕ) → e ≤ K → start K e g ≤ start K d h → end K d h ≤ end K e g → e ≤ d
  unfolding start end
  deeper_of_within d h e g n a b =
      let p = four_pow_pos (K - e) in
      by_contra e d (λ l. let q : 4 ^ suc (K - e) ≤ 4 ^ (K - d) = pow-le-pow_right (omega arith) (omega arith) in omega (arith, rw pow-suc at q))

  -- A cell that ends where another starts, or before, has the smaller zuniq.
  zuniq-lt_of_end_le_start : (d h e g : ℕ) → end K d h ≤ start K e g → zuniq K d h < zuniq K e g
  zuniq-lt_of_end_le_start d h e g u = simp zuniq-is_start_plus_end (omega (arith, start-lt_end d h, start-lt_end e g))

  module _ (d h e g : ℕ) (m : d ≤ K) (n : e ≤ K) where
    -- A cell lies in another exactly if its range lies within the other's.
    pub lies_in-iff_within : (lies_in d h e g ≡ true) ↔ ((start K e g ≤ start K d h) × (end K d h ≤ end K e g))
    lies_in-iff_within =
        let p = start-lt_end d h in
        (lies_in-within d h e g m, λ w. meets_lies_in d h e g (deeper_of_within d h e g n w.0 w.1) m (omega arith) (omega arith))

    -- Two cells overlap exactly if their ranges meet.
    pub overlap-iff_meets : (overlap d h e g ≡ true) ↔ ((start K d h < end K e g) × (start K e g < end K d h))
    overlap-iff_meets =
        let p = start-lt_end d h in
        let q = start-lt_end e g in
        let nested = overlap-iff_lies_in d h e g in (
          λ t. ⊎_elim (λ u. omega (arith, lies_in-within d h e g m u)) (λ u. omega (arith, lies_in-within e g d h n u)) (nested.0 t),
          λ w. nested.1 (⊎_map (λ l. meets_lies_in d h e g l m w.0 w.1) (λ l. meets_lies_in e g d h (omega arith) n w.1 w.0) (le_or_lt e d)),
        )

    -- Two cells do not overlap exactly if one of them ends where the other starts, or before.
    pub apart_iff_end_le_start : (overlap d h e g ≡ false) ↔ ((end K d h ≤ start K e g) ⊎ (end K e g ≤ start K d h))
    apart_iff_end_le_start = (
      λ o. ⊎_map (λ u. u) (λ u. by_contra _ _ (λ v. false≢true (sym o ∙ overlap-iff_meets.1 (v, u)))) (le_or_lt (end K d h) (start K e g)),
      λ a. is_false _ (λ t. let w = overlap-iff_meets.0 t in ⊎_elim (λ u. omega arith) (λ u. omega arith) a),
    )

    -- A cell ends where another starts, or before, exactly if its zuniq is smaller and the two do not overlap.
    pub end-le_start_iff_zuniq_lt : (end K d h ≤ start K e g) ↔ ((zuniq K d h < zuniq K e g) × (overlap d h e g ≡ false))
    end-le_start_iff_zuniq_lt = (
      λ u. (zuniq-lt_of_end_le_start d h e g u, apart_iff_end_le_start.1 (inl u)),
      λ p. ⊎_elim (λ u. u) (λ u. absurd (omega (arith, p.0, zuniq-lt_of_end_le_start e g d h u))) (apart_iff_end_le_start.0 p.1),
    )

  -- ---- the ranges of children
  -- The first child starts where its parent does.
  pub start-first_child : (d h : ℕ) → d < K → start K (suc d) (child_hash h 0) ≡ start K d h
  unfolding start
  start-first_child d h m = rw (four_pow_split (K - d) 1 (K - suc d) (omega arith)) (omega arith)

  -- A child ends where the next one starts.
  pub end-child_is_next_start : (d h i : ℕ) → end K (suc d) (child_hash h i) ≡ start K (suc d) (child_hash h (i + 1))
  unfolding start end
  end-child_is_next_start d h i = omega arith

  -- The last child ends where its parent does.
  pub end-last_child : (d h : ℕ) → d < K → end K (suc d) (child_hash h 3) ≡ end K d h
  unfolding end
  end-last_child d h m = rw (four_pow_split (K - d) 1 (K - suc d) (omega arith)) (omega arith)

  -- ---- the sky
  -- The sky ends where the first cell past those of depth d would start.
  sky_end : (d : ℕ) → d ≤ K → n_hash K ≡ start K d (n_hash d)
  unfolding n_hash start
  sky_end d m = rw (four_pow_split K d (K - d) (omega arith)) (omega arith)

  -- A depth has a hash exactly if the cell's range ends within the sky.
  pub valid_iff_end_le : (d h : ℕ) → d ≤ K → (h < n_hash d) ↔ (end K d h ≤ n_hash K)
  valid_iff_end_le d h m = let i = start-le_iff d (suc h) (n_hash d) in rw (sky_end d m, end-is_next_start) (i.1, i.0)

  -- A depth has a hash exactly if the cell's zuniq is less than twice the number of cells of depth K.
  pub valid_iff_zuniq_lt : (d h : ℕ) → d ≤ K → (h < n_hash d) ↔ (zuniq K d h < 2 * n_hash K)
  valid_iff_zuniq_lt d h m =
      let p = start-lt_end d h in
      rw zuniq-is_start_plus_end (λ l. omega (arith, (valid_iff_end_le d h m).0 l), λ u. (start-lt_iff d h (n_hash d)).0 (omega (arith, sky_end d m)))

  -- The hash with its sentinel bit is at most the zuniq.
  pub sentinel_lt : (d h : ℕ) → d ≤ K → h < n_hash d → 2 * h + 1 < 2 * n_hash K
  unfolding zuniq
  sentinel_lt d h p q = lt_of_le_of_lt (le-mul_of_pos_right (2 * h + 1) (four_pow_pos (K - d))) ((valid_iff_zuniq_lt d h p).0 q)

  -- A zuniq is the hash with its sentinel bit, shifted.
  pub zuniq-is_shifted : (d h : ℕ) → (2 * h + 1) * 2 ^ (2 * (K - d)) ≡ zuniq K d h
  unfolding zuniq
  zuniq-is_shifted d h = rw (← four_pow_two (K - d)) refl

-- The sky's number of cells has 62 bits, at any largest depth that there is.
pub sky-fits : (K : ℕ) → K ≤ 29 → n_hash K < 2 ^ 62
unfolding n_hash
sky-fits K l = let most : 4 ^ K ≤ 4 ^ 29 = pow-le-pow_right (omega arith) l in omega arith
