-- Relative errors, counted in parts of 2^56, on whole numbers. Assumes nothing.
use Rattle.std.proofs.Common.{ℕ, ◌+◌, ◌-◌, ◌*◌, ◌^◌, ◌<◌, ◌≤◌, mul-le-mul_right, mul_assoc, add-mul, mul-le-mul_left, mul-add, le_of_mul-le-mul_right, arith}

-- y is x to k parts: 2^56 × |y − x| ≤ k × x
abbrev pub Near : (k y x : ℕ) → Type 0
Near k y x = (2 ^ 56 * y ≤ 2 ^ 56 * x + k * x) × (2 ^ 56 * x ≤ 2 ^ 56 * y + k * x)

pub Near-self : (x : ℕ) → Near 0 x x
Near-self x = omega arith

pub Near-more : (j k y x : ℕ) → j ≤ k → Near j y x → Near k y x
Near-more j k y x h e = let more : j * x ≤ k * x = mul-le-mul_right x h in omega arith

pub Near-sum : (k y x y' x' : ℕ) → Near k y x → Near k y' x' → Near k (y + y') (x + x')
Near-sum k y x y' x' e e' = let both = mul-add k x x' in omega arith

pub Near-scaled : (k y x m : ℕ) → Near k y x → Near k (y * m) (x * m)
Near-scaled k y x m e = (simp (add-mul, mul_assoc) at (mul-le-mul_right m e.0), simp (add-mul, mul_assoc) at (mul-le-mul_right m e.1))

pub Near-unscaled : (k y x m : ℕ) → 0 < m → Near k (y * m) (x * m) → Near k y x
Near-unscaled k y x m p e = (le_of_mul-le-mul_right (simp (add-mul, mul_assoc) e.0) p, le_of_mul-le-mul_right (simp (add-mul, mul_assoc) e.1) p)

-- Of two numbers that are near each other neither is more than twice the other.
pub Near-twice : (k y x : ℕ) → k ≤ 64 → Near k y x → (y ≤ 2 * x) × (x ≤ 2 * y)
Near-twice k y x h e = let few : k * x ≤ 64 * x = mul-le-mul_right x h in omega arith

-- k × a is at most k × b and one b more, where a is near b
slight : (k a b : ℕ) → k ≤ 64 → 64 * (a - b) ≤ b → k * a ≤ k * b + b
slight k a b h d =
    let above : k * a ≤ k * (b + (a - b)) = mul-le-mul_left k (omega arith) in
    let apart = mul-add k b (a - b) in
    let few : k * (a - b) ≤ 64 * (a - b) = mul-le-mul_right (a - b) h in
    omega arith

-- Nearness can be turned round, for one part more, and goes on from one number to the next, for one part more.
pub Near-turned : (k y x : ℕ) → k ≤ 64 → Near k y x → Near (k + 1) x y
Near-turned k y x h e =
    let few : k * x ≤ 64 * x = mul-le-mul_right x h in
    let less : k * x ≤ k * y + y = slight k x y h (omega arith) in
    let more = add-mul k 1 y in
    omega arith

pub near_on : (j k z y x : ℕ) → j ≤ 64 → k ≤ 64 → Near j y x → Near k z y → Near (j + k + 1) z x
near_on j k z y x h g d e =
    let few : j * x ≤ 64 * x = mul-le-mul_right x h in
    let less : k * y ≤ k * x + x = slight k y x g (omega arith) in
    let more = add-mul (j + k) 1 x in
    let both = add-mul j k x in
    omega arith
