-- What the coverage call comes to, in the words of the note. Assumes nothing.
use mathlib.Core.Path.{◌≡◌, refl, ap, sym}
use mathlib.Core.Bool.{Bool, true, false, false≢true}
use mathlib.Core.List.{List, [], ◌∷◌, map}
use mathlib.Core.Option.{Option, none, some}
use Prim.Native.Nat.{ℕ}
use lib.ListN.{length, take, length-map}
use lib.Seq.{take-append_seam}
use Rattle.refusal.specs.declared.Refusal.{Refusal}
use Rattle.refusal.specs.Checks.{refused_if}
use Rattle.refusal.proofs.Checks.{or_else_none}
use Rattle.coverage.specs.Ranges.{Range, ranges_of, padded, from_of, to_of}
use Rattle.coverage.specs.Coverage.{coverage_of, coverage_input_refusal, coverage_refusal, covered_or, coverage_call}
use Rattle.coverage.specs.Promises.{WritesCoverage}
use Rattle.std.specs.Prelude.{Result, Ok, Err}
use Rattle.coverage.proofs.Exact.{coverage_exact, coverage_parted, coverage_fewer}
use Rattle.coverage.proofs.Call.{passes_all}
use lib.Dec.{ltb}

-- Ranges are read back from the buffers that they were written to.
pub ranges_again : (rs : List Range) → ranges_of (map from_of rs) (map to_of rs) ≡ rs
unfolding ranges_of
ranges_again [] = refl
ranges_again (r ∷ rs) = ap (λ (t : List Range). r ∷ t) (ranges_again rs)

-- What is laid in a buffer stands in its first places.
pub front : {B : Type 0} (x : B) (places : ℕ) (l : List B) → take (length l) (padded x places l) ≡ l
unfolding padded
front x places l = take-append_seam l _

-- the number that is answered
abbrev ranges_in : Result ℕ Refusal → ℕ
ranges_in (Ok n) = n
ranges_in (Err r) = 0

abbrev is_ranges : Result ℕ Refusal → Bool
is_ranges (Ok n) = true
is_ranges (Err r) = false

-- the answer, and the output afterwards
abbrev Answered : Type 0
Answered = Result ℕ Refusal × List ℕ × List ℕ

module _ (D : ℕ) (zs ss es : List ℕ) where
  accepted : (o : Option Refusal) (rs : List Range) (n : ℕ) (xs ys : List ℕ) → covered_or o rs ss es ≡ (Ok n, xs, ys)
      → (o ≡ none) × (n ≡ length rs) × (xs ≡ padded 0 (length ss) (map from_of rs)) × (ys ≡ padded 0 (length es) (map to_of rs))
  accepted (some r) rs n xs ys e = absurd (false≢true (ap (λ (t : Answered). is_ranges t.0) e))
  accepted none rs n xs ys e = (refl, sym (ap (λ (t : Answered). ranges_in t.0) e), sym (ap (λ (t : Answered). t.1) e), sym (ap (λ (t : Answered). t.2) e))

  -- "exactly the depth-29 cells that lie in an entry, as rising ranges, none touching the next"
  pub coverage_written : (n : ℕ) (xs ys : List ℕ) → coverage_call D zs ss es ≡ (Ok n, xs, ys) → WritesCoverage zs n xs ys
  unfolding coverage_call coverage_refusal
  coverage_written n xs ys e =
      let rs = coverage_of 29 zs in
      let a = accepted (coverage_refusal D zs (length ss) (length es)) rs n xs ys e in
      let v = (passes_all D zs (length ss) (length es) (or_else_none (coverage_input_refusal D zs (length ss) (length es)) (refused_if (ltb (length ss) (length rs)) Refusal.NoSpace) a.0).0).valid in
      let xs_is : take n xs ≡ map from_of rs = rw (a.1, a.2, ← length-map rs from_of) (front 0 (length ss) (map from_of rs)) in
      let ys_is : take n ys ≡ map to_of rs = rw (a.1, a.3, ← length-map rs to_of) (front 0 (length es) (map to_of rs)) in
      let same : ranges_of (take n xs) (take n ys) ≡ rs = rw (xs_is, ys_is) (ranges_again rs) in
      record {
        exact = λ k. rw same (coverage_exact 29 D zs v k);
        parted = rw same (coverage_parted 29 D zs v);
        fewer = rw a.1 (coverage_fewer 29 zs);
      }
