-- The laws of the parts of a text: where a byte first stands. Assumes nothing.
use mathlib.Core.Path.{◌≡◌, refl, sym, ◌∙◌}
use mathlib.Core.Bool.{Bool, true, false, cond}
use mathlib.Core.List.{List, [], ◌∷◌}
use Prim.Native.Nat.{ℕ, suc, ◌+◌, ◌-◌, ◌≤◌}
use native.Mathlib.Omega.{arith}
use native.Mathlib.Numerals.{one-add}
use lib.Dec.{eqb, ltb}
use lib.ListN.{length, take, drop, drop_of_length-le, length-drop}
use lib.Seq.{take_all}
use Rattle.std.specs.Prelude.{Option, Some, None}
use borrow.Author.Tests.{ltb-true}
use Rattle.std.specs.List.{position_or_len}
use Rattle.std.proofs.lemmas.List.Recursion.{is_position_or_len}
use Rattle.std.proofs.lemmas.Option.{cond_some}
use Rattle.std.proofs.lemmas.Bool.Decides.{nat_tests}
use Rattle.text.specs.Text.{position, up_to, past, SplitAtFirst}

-- It stands in the text, or all of the text is before it.
pub position-le : (b : ℕ) (l : List ℕ) → position b l ≤ length l
unfolding position
position-le b [] = omega arith
position-le b (x ∷ l) = by (eqb x b) (position-le b l)
  where
    by : (t : Bool) → position b l ≤ length l → cond t 0 (suc (position b l)) ≤ suc (length l)
    by true h = omega arith
    by false h = omega arith

-- Behind what is not there stands nothing.
pub past-none : (b : ℕ) (l : List ℕ) → length l ≤ position b l → past b l ≡ []
unfolding past
past-none b l p = drop_of_length-le l {i = position b l + 1} (omega arith)

-- All that is behind a place.
pub rest_whole : (l : List ℕ) (k : ℕ) → take (length l - k) (drop k l) ≡ drop k l
rest_whole l k = take_all (length l - k) (drop k l) (omega (arith, length-drop k l))

-- ---- the first b, as std's `position` finds it
is_position : (b : ℕ) (l : List ℕ) → position b l ≡ position_or_len (λ x. eqb x b) l
unfolding position
is_position b l = is_position_or_len (position b) (λ x. eqb x b) refl (λ x xs. rw (one-add (position b xs)) refl) l

abbrev pub Finds : ℕ → List ℕ → Option ℕ → Type 0
Finds b l r = r ≡ cond (ltb (position_or_len (λ x. eqb x b) l) (length l)) (Some (position_or_len (λ x. eqb x b) l)) None

-- Where it finds none, none is there; elsewhere the text is cut there.
pub found_none : (b : ℕ) (l : List ℕ) {r : Option ℕ} → Finds b l r → r ≡ None → position b l ≡ length l
found_none b l {r} f e =
    let p = is_position b l in
    let low = position-le b l in
    grind (arith, nat_tests)

pub found_at : (b : ℕ) (l : List ℕ) {r : Option ℕ} {k : ℕ} → Finds b l r → r ≡ Some k → SplitAtFirst b l (take k l) (take (length l - (k + 1)) (drop (k + 1) l))
unfolding up_to past
found_at b l {r} {k} f e =
    let at = cond_some (ltb (position_or_len (λ x. eqb x b) l) (length l)) (position_or_len (λ x. eqb x b) l) k (sym f ∙ e) in
    let p : position b l ≡ k = is_position b l ∙ at.1 in
    record {
      there = omega (arith, ltb-true (position_or_len (λ x. eqb x b) l) (length l) at.0, at.1);
      before_is = rw p refl;
      behind_is = rw (rest_whole l (k + 1), p) refl;
    }
