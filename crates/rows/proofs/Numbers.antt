-- The values of a type as natural numbers, in lists. Assumes nothing.
use mathlib.Core.Path.{◌≡◌, ap, sym, ◌∙◌}
use mathlib.Core.List.{List, map}
use Prim.Native.Nat.{ℕ, ◌<◌}
use lib.ListN.{length, get_or, set}
use Rattle.std.proofs.lemmas.List.{map-set, length-map, get_or-map}

module _ {A : Type 0} (number : A → ℕ) (numbers : List A → List ℕ) (are : (xs : List A) → numbers xs ≡ map number xs) where
  -- One that is stored is stored as a number.
  pub numbers-set : (xs : List A) (i : ℕ) (x : A) → numbers (set xs i x) ≡ set (numbers xs) i (number x)
  numbers-set xs i x = are (set xs i x) ∙ map-set number xs i x ∙ ap (λ (ns : List ℕ). set ns i (number x)) (sym (are xs))

  -- There are as many numbers as values,
  pub length_of-numbers : (xs : List A) → length (numbers xs) ≡ length xs
  length_of-numbers xs = ap length (are xs) ∙ length-map xs number

  -- each at the place of its value.
  pub number-of : (xs : List A) (i : ℕ) (x : A) → i < length xs → x ≡ get_or xs i x → number x ≡ get_or (numbers xs) i 0
  number-of xs i x l e = ap number e ∙ sym (ap (λ (ns : List ℕ). get_or ns i 0) (are xs) ∙ get_or-map number xs i x 0 l)
