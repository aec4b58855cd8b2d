-- The numbers of a list of zuniqs of some width, as `ZUniqHashT` has them. Assumes nothing.
use mathlib.Core.Path.{◌≡◌, refl, sym, ap, ◌∙◌}
use Rattle.std.proofs.Common.{ℕ, zero, suc, List, ◌∷◌, ◌++◌, map, length, get_or, set, take, replicate, ◌<◌}
use Rattle.std.proofs.lemmas.List.{length-map, get_or-map, map-set, take-map, map-append, get_or_default}

map-replicate : {A B : Type 0} (f : A → B) (k : ℕ) (x : A) → map f (replicate k x) ≡ replicate k (f x)
map-replicate f zero x = refl
map-replicate f (suc k) x = ap (λ xs. f x ∷ xs) (map-replicate f k x)

module _ {Z : Type 0} (number : Z → ℕ) (numbers : List Z → List ℕ) (are : (zs : List Z) → numbers zs ≡ map number zs) (zs : List Z) where
  -- There are as many as zuniqs.
  pub length-numbers : length (numbers zs) ≡ length zs
  length-numbers = ap length (are zs) ∙ length-map zs number

  -- The number of an element stands in its place.
  pub number_at : (i : ℕ) (z : Z) → i < length zs → z ≡ get_or zs i z → number z ≡ get_or (numbers zs) i 0
  number_at i z l e = ap number e ∙ sym (get_or-map number zs i z 0 l) ∙ ap (λ xs. get_or xs i 0) (sym (are zs))

  -- An element that is written is written as its number.
  pub numbers-set : (i : ℕ) (z : Z) → numbers (set zs i z) ≡ set (numbers zs) i (number z)
  numbers-set i z = are (set zs i z) ∙ map-set number zs i z ∙ ap (λ xs. set xs i (number z)) (sym (are zs))

  -- The numbers of the first zuniqs are the first numbers,
  pub numbers-take : (n : ℕ) → numbers (take n zs) ≡ take n (numbers zs)
  numbers-take n = are (take n zs) ∙ sym (take-map number n zs) ∙ ap (take n) (sym (are zs))

  -- and where the same zuniq fills the places behind them, its number does.
  pub numbers-cleared : (n k : ℕ) (z : Z) → numbers (take n zs ++ replicate k z) ≡ take n (numbers zs) ++ replicate k (number z)
  numbers-cleared n k z =
      are (take n zs ++ replicate k z) ∙ map-append number (take n zs) (replicate k z) ∙ ap (λ xs. map number (take n zs) ++ xs) (map-replicate number k z)
      ∙ ap (λ xs. xs ++ replicate k (number z)) (sym (take-map number n zs) ∙ ap (take n) (sym (are zs)))

-- An element that was read, whatever a place past the end reads as.
pub element_at : {A : Type 0} (xs : List A) (i : ℕ) (u x : A) → i < length xs → x ≡ get_or xs i x → get_or xs i u ≡ x
element_at xs i u x l e = get_or_default xs i u x l ∙ sym e
