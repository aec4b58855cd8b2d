-- What a check answers tells what it found. Assumes nothing.
use mathlib.Core.Path.{◌≡◌, refl, sym, ◌∙◌}
use mathlib.Core.Bool.{Bool, true, false}
use mathlib.Core.Option.{Option, none, some}
use Prim.Native.Nat.{ℕ}
use native.Mathlib.Omega.{arith}
use Rattle.std.specs.Prelude.{Result, Ok, Err}
use Rattle.refusal.specs.declared.Refusal.{Refusal}
use Rattle.refusal.specs.Checks.{or_else, refused_if, ok_unless}

-- Where there is an answer, nothing was refused,
pub none_of_ok : {X : Type 0} (o : Option Refusal) (x y : X) → ok_unless o x ≡ Ok y → o ≡ none
none_of_ok none x y e = refl
none_of_ok (some r) x y e = let z : ◌≡◌ {A = ℕ} 0 1 = cc in absurd (omega arith)

-- and that is the answer,
pub ok_is : {X : Type 0} (o : Option Refusal) (x y : X) → ok_unless o x ≡ Ok y → x ≡ y
ok_is none x y e = cc
ok_is (some r) x y e = let z : ◌≡◌ {A = ℕ} 0 1 = cc in absurd (omega arith)

pub passed_of_ok : {X : Type 0} (o : Option Refusal) (x y : X) → ok_unless o x ≡ Ok y → (o ≡ none) × (x ≡ y)
passed_of_ok o x y e = (none_of_ok o x y e, ok_is o x y e)

-- and a refusal is the one that was found.
pub some_of_err : {X : Type 0} (o : Option Refusal) (x : X) (r : Refusal) → ok_unless o x ≡ Err r → o ≡ some r
some_of_err none x r e = let z : ◌≡◌ {A = ℕ} 0 1 = cc in absurd (omega arith)
some_of_err (some s) x r e = cc

-- A check that passes leaves it to the later ones,
pub passes : {X : Type 0} {a : Result X Refusal} {y : X} (x : X) (o p : Option Refusal) → a ≡ ok_unless o x → a ≡ Ok y → or_else o p ≡ p
passes x o p e q = rw (none_of_ok o x _ (sym e ∙ q)) refl

-- and one that refuses settles it.
pub refuses : {X : Type 0} {a : Result X Refusal} {r : Refusal} (x : X) (o p : Option Refusal) → a ≡ ok_unless o x → a ≡ Err r → or_else o p ≡ some r
refuses x o p e k = rw (some_of_err o x _ (sym e ∙ k)) refl

-- Of two refusals in order there is none exactly if neither is.
pub or_else_none : (a b : Option Refusal) → or_else a b ≡ none → (a ≡ none) × (b ≡ none)
or_else_none none b e = (refl, e)
or_else_none (some r) b e = let z : ◌≡◌ {A = ℕ} 0 1 = cc in absurd (omega arith)

pub refused_if-none : (t : Bool) (r : Refusal) → refused_if t r ≡ none → t ≡ false
refused_if-none true r e = let z : ◌≡◌ {A = ℕ} 0 1 = cc in absurd (omega arith)
refused_if-none false r e = refl
