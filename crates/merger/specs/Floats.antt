-- Short names for what section 2 of the scope does with f64s, in the terms of `lib.Ieee`.
use Rattle.std.specs.Prelude.{ℕ, Bool, true, false, cond, ◌||◌, pos, is_nan, Float}
use Rattle.std.specs.Float.Ieee as Ieee
use Rattle.std.specs.Float.{nan, inf, fin, binary64}

-- "f64 steps are in the order written, each rounded once": x + y, x − y, x × y and x / y
infixl 65 ◌⊕◌ ◌⊖◌
infixl 70 ◌⊗◌ ◌⊘◌
abbrev pub ◌⊕◌ : Float → Float → Float
x ⊕ y = Ieee.add binary64 x y

abbrev pub ◌⊖◌ : Float → Float → Float
x ⊖ y = Ieee.sub binary64 x y

abbrev pub ◌⊗◌ : Float → Float → Float
x ⊗ y = Ieee.mul binary64 x y

abbrev pub ◌⊘◌ : Float → Float → Float
x ⊘ y = Ieee.div binary64 x y

-- the f64 of a whole number, rounded once
abbrev pub float : ℕ → Float
float n = Ieee.of_int binary64 (pos n)

abbrev pub 0·0 : Float
0·0 = fin false 0 (pos 0)

abbrev pub 1·0 : Float
1·0 = fin false 1 (pos 0)

abbrev pub 4·0 : Float
4·0 = fin false 1 (pos 2)

-- "π being the f64 with bits hexadecimal 400921FB54442D18"
abbrev pub π : Float
π = Ieee.of_bits binary64 0x400921FB54442D18

-- "`max`: one comparison, NaN giving c"
abbrev pub max : Float → Float → Float
max m c = cond (Ieee.lt c m) m c

abbrev pub is_infinite : Float → Bool
is_infinite nan = false
is_infinite (inf s) = true
is_infinite (fin s m e) = false

-- "NaN, infinite or below 0 (−0 is accepted, here and in 3 and 9)"
unfoldable pub invalid_density : Float → Bool
invalid_density x = is_nan x || is_infinite x || Ieee.lt x 0·0
