-- The harmonic mean of four counts is no more than their arithmetic mean, here without a division. Assumes nothing.
use Rattle.std.proofs.Common.{ℕ, ◌+◌, ◌-◌, ◌*◌, ◌<◌, ◌≤◌, Bool, true, false, not, T, leb, subst, le_of_lt, mul-le-mul_right, mul_assoc, mul_comm, add-mul, add-sub_of_le, mul-add, mul_left_comm, arith, leb→le}
use lib.Dec.{nleb→lt}
use Rattle.merger.specs.ChiError.{product_of, triples_of}

-- 2xy ≤ x² + y²
twice_product_ordered : (x y : ℕ) → x ≤ y → x * y + x * y ≤ x * x + y * y
twice_product_ordered x y h = subst (λ (z : ℕ). x * z + x * z ≤ x * x + z * z) (add-sub_of_le h) (square x (y - x))
  where
    square : (x d : ℕ) → x * (x + d) + x * (x + d) ≤ x * x + (x + d) * (x + d)
    square x d = simp (mul-add, add-mul, mul_comm d x) (omega arith)

twice_product : (x y : ℕ) → x * y + x * y ≤ x * x + y * y
twice_product x y = go (leb x y) (leb→le x y) (nleb→lt x y)
  where
    go : (t : Bool) → (T t → x ≤ y) → (T (not t) → y < x) → x * y + x * y ≤ x * x + y * y
    go true le gt = twice_product_ordered x y (le tt)
    go false le gt = let swapped = twice_product_ordered y x (le_of_lt (gt tt)) in let turned = mul_comm x y in omega arith

ruleset products = (mul_assoc, mul_comm, mul_left_comm, mul-add, add-mul)

-- two of the counts, times the other two
pair : (x y m : ℕ) → x * y * m + x * y * m ≤ x * x * m + y * y * m
pair x y m = simp add-mul at (mul-le-mul_right m (twice_product x y))

sixteen : (p q : ℕ) → p + p + p + p + (p + p + p + p) + (p + p + p + p + (p + p + p + p)) ≤ q → 16 * p ≤ q
sixteen p q h = omega arith

-- 16 × P ≤ S × E: of the sixteen products in S × E four are P, and the other twelve are, two by two, at least twice P.
pub means : (n0 n1 n2 n3 : ℕ) → 16 * product_of n0 n1 n2 n3 ≤ (n0 + n1 + n2 + n3) * triples_of n0 n1 n2 n3
means n0 n1 n2 n3 =
    let pair01 = simp products at (pair n0 n1 (n2 * n3)) in
    let pair02 = simp products at (pair n0 n2 (n1 * n3)) in
    let pair03 = simp products at (pair n0 n3 (n1 * n2)) in
    let pair12 = simp products at (pair n1 n2 (n0 * n3)) in
    let pair13 = simp products at (pair n1 n3 (n0 * n2)) in
    let pair23 = simp products at (pair n2 n3 (n0 * n1)) in
    sixteen (product_of n0 n1 n2 n3) _ (simp products (omega arith))
