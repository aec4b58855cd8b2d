-- How a count is shared among the four children of a cell that is split: note 10 of 02. Assumes nothing.
use mathlib.Core.Path.{◌≡◌, refl, ap}
use mathlib.Core.Bool.{cond}
use mathlib.Core.Logic.{◌⊎◌, inl, inr}
use Prim.Native.Nat.{ℕ, zero, suc, ◌+◌, ◌*◌, ◌-◌, ◌/◌, ◌%◌, ◌≤◌, ◌<◌}
use native.Mathlib.Omega.{arith}
use native.Mathlib.Nat.{eq-or-lt_of_le}
use lib.Dec.{eqb, ltb}
use borrow.Author.Tests.{lt-ltb, le-ltb, eq-eqb, ne_eqb}
use Rattle.zuniq.proofs.Basics.{le_or_lt}
use Rattle.build.proofs.Entries.{below_four}
use Rattle.combine.specs.Overlay.{part}
use Rattle.combine.specs.Rules.{extras, split_count}
use Rattle.combine.specs.Promises.{Shares}

-- How many children come before child i where child h mod 4 is the first; child 0 comes behind child 3.
abbrev pub turn : ℕ → ℕ → ℕ
turn h i = (i + 4 - h % 4) % 4

-- Child i gets one of at most four extra ones if fewer children than that come before it, and never two.
pub extras-by_turn : (h n i : ℕ) → n ≤ 4 → i < 4 → extras h n i ≡ cond (ltb (turn h i) n) 1 0
unfolding extras
extras-by_turn h zero i p q = rw (le-ltb (turn h i) 0 (omega arith)) refl
extras-by_turn h (suc n) i p q = go (le_or_lt n (turn h i)) (extras-by_turn h n i (omega arith) q)
  where
    go : (n ≤ turn h i) ⊎ (turn h i < n) → extras h n i ≡ cond (ltb (turn h i) n) 1 0 → extras h n i + cond (eqb i ((h + n) % 4)) 1 0 ≡ cond (ltb (turn h i) (suc n)) 1 0
    go (inr b) e = rw (e, lt-ltb (turn h i) n b, ne_eqb i ((h + n) % 4) (λ k. omega arith), lt-ltb (turn h i) (suc n) (omega arith)) refl
    go (inl b) e = past (eq-or-lt_of_le b)
      where
        past : (n ≡ turn h i) ⊎ (n < turn h i) → extras h n i + cond (eqb i ((h + n) % 4)) 1 0 ≡ cond (ltb (turn h i) (suc n)) 1 0
        past (inl k) = rw (e, le-ltb (turn h i) n b, eq-eqb i ((h + n) % 4) (omega arith), lt-ltb (turn h i) (suc n) (omega arith)) refl
        past (inr k) = rw (e, le-ltb (turn h i) n b, ne_eqb i ((h + n) % 4) (λ t. omega arith), le-ltb (turn h i) (suc n) (omega arith)) refl

-- So of a count that is split it has a quarter, and one more if its turn comes.
pub split_count-by_turn : (d h v i : ℕ) → i < 4 → split_count d h v i ≡ v / 4 + cond (ltb (turn h i) (v % 4)) 1 0
unfolding split_count
split_count-by_turn d h v i q = ap (λ (n : ℕ). v / 4 + n) (extras-by_turn h (v % 4) i (omega arith) q)

-- The four children get all extra ones.
pub extras-shared : (h n : ℕ) → extras h n 0 + extras h n 1 + extras h n 2 + extras h n 3 ≡ n
unfolding extras
extras-shared h zero = refl
extras-shared h (suc n) =
    let e = extras-shared h n in
    below_four (λ k. extras h n 0 + cond (eqb 0 k) 1 0 + (extras h n 1 + cond (eqb 1 k) 1 0) + (extras h n 2 + cond (eqb 2 k) 1 0) + (extras h n 3 + cond (eqb 3 k) 1 0) ≡ suc n)
    (omega (arith, e)) (omega (arith, e)) (omega (arith, e)) (omega (arith, e)) ((h + n) % 4) (omega arith)

-- The four parts of a count sum to it.
pub split_count-shares : Shares split_count (λ n. n)
unfolding split_count
split_count-shares d h v = omega (arith, extras-shared h (v % 4))

-- No two of them differ by more than one.
pub split_count-even : (d h v i j : ℕ) → i < 4 → j < 4 → split_count d h v i ≤ split_count d h v j + 1
unfolding split_count
split_count-even d h v i j p q = omega (arith, at_most_one i p)
  where
    at_most_one : (i : ℕ) → i < 4 → extras h (v % 4) i ≤ 1
    at_most_one i p = rw (extras-by_turn h (v % 4) i (omega arith) p) (go (le_or_lt (v % 4) (turn h i)))
      where
        go : (v % 4 ≤ turn h i) ⊎ (turn h i < v % 4) → cond (ltb (turn h i) (v % 4)) 1 0 ≤ 1
        go (inl b) = rw (le-ltb _ _ b) (omega arith)
        go (inr b) = rw (lt-ltb _ _ b) (omega arith)

-- the cell n levels below one of hash h that is child h mod 4 on each of them
abbrev pub corner : ℕ → ℕ → ℕ
corner zero h = h
corner (suc n) h = 4 * corner n h + h % 4

corner-turn : (n h : ℕ) → corner n h % 4 ≡ h % 4
corner-turn zero h = refl
corner-turn (suc n) h = omega arith

first_gets_one : (d h : ℕ) → split_count d h 1 (h % 4) ≡ 1
unfolding split_count extras
first_gets_one d h = rw (eq-eqb (h % 4) ((h + 0) % 4) (omega arith)) refl

-- A source that is left over alone goes to one corner of its cell, however far down: the child that it goes to would hand it on to the same one.
pub lone_source : (n d h : ℕ) → part split_count n (n + d) (corner n h) 1 ≡ 1
unfolding part
lone_source zero d h = refl
lone_source (suc n) d h =
    let up : suc n + d - 1 ≡ n + d = omega arith in
    let over : (4 * corner n h + h % 4) / 4 ≡ corner n h = omega arith in
    let same : (4 * corner n h + h % 4) % 4 ≡ corner n h % 4 = omega (arith, corner-turn n h) in
    rw (up, over, same, lone_source n d h) (first_gets_one (n + d) (corner n h))
