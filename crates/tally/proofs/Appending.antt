-- What appending cells does to a tally: cells behind cells, and the total of the live entries. For every type of values and every
-- merger. Assumes nothing.
use mathlib.Core.Path.{◌≡◌, refl}
use mathlib.Core.Bool.{Bool, true, false, cond}
use mathlib.Core.List.{List, [], ◌∷◌, ◌++◌}
use Prim.Native.Nat.{ℕ, ◌+◌, ◌≤◌}
use native.Mathlib.Omega.{arith}
use lib.ListN.{length}
use Rattle.build.specs.Map.{Entry, Merger}
use Rattle.build.specs.Stack.{collapse}
use Rattle.build.specs.Promises.{total, Sums}
use Rattle.build.proofs.Adding.{collapse-total}
use Rattle.tally.specs.Tally.{out_of_reach, meets, Tally, tally_of, entries_in, settle, reached, tallied, tally}

module _ {A : Type 0} (accept : Merger A) (K : ℕ) where
  -- A cell behind others is appended to their tally.
  pub tally-next : (t : Tally A) (l : List (Entry A)) (e : Entry A) → tally accept K t (l ++ (e ∷ [])) ≡ tallied accept K (tally accept K t l) e
  unfolding tally
  tally-next t [] e = refl
  tally-next t (c ∷ l) e = tally-next (tallied accept K t c) l e

  module _ (figure : A → ℕ) (sums : Sums accept figure) where
    -- What is settled is no longer in the total of the live entries.
    settle-total : (n : ℕ) (s : List (Entry A)) → total figure (settle n s).live ≤ total figure s
    unfolding settle
    settle-total n s = go (out_of_reach s)
      where
        go : (o : Bool) → total figure (cond o (tally_of (n + length s) []) (tally_of n s)).live ≤ total figure s
        go true = omega arith
        go false = omega arith

    reached-total : (t : Tally A) (e : Entry A) → total figure (reached K t e).live ≤ total figure t.live
    unfolding reached
    reached-total t e = go (meets K e t.live)
      where
        go : (o : Bool) → total figure (cond o t (tally_of (entries_in t) [])).live ≤ total figure t.live
        go true = omega arith
        go false = omega arith

    tallied-total : (t : Tally A) (e : Entry A) → total figure (tallied accept K t e).live ≤ figure e.value + total figure t.live
    unfolding tallied
    tallied-total t e =
        let s = e ∷ (reached K t e).live in
        omega (arith, settle-total (reached K t e).settled (collapse accept s), collapse-total accept figure sums s, reached-total t e)

    -- With a merger that gives sums the live entries have no more than the cells.
    pub tally-total : (t : Tally A) (l : List (Entry A)) → total figure (tally accept K t l).live ≤ total figure t.live + total figure l
    unfolding tally
    tally-total t [] = omega arith
    tally-total t (e ∷ l) = omega (arith, tally-total (tallied accept K t e) l, tallied-total t e)
