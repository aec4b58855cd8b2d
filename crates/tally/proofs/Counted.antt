-- What `count` rests on: the live entries in the buffers, while a cell is counted. For every merger of counts. Assumes nothing.
use mathlib.Core.Path.{◌≡◌, refl, ap, sym, ◌∙◌, subst}
use mathlib.Core.Bool.{Bool, true, false, cond, ◌&&◌, not}
use mathlib.Core.List.{List, [], ◌∷◌}
use Prim.Native.Nat.{ℕ, zero, suc, ◌+◌, ◌*◌, ◌-◌, ◌^◌, ◌%◌, ◌≤◌, ◌<◌}
use native.Mathlib.Omega.{arith}
use lib.Dec.{eqb}
use lib.ListN.{length, get_or}
use borrow.Author.Tests.{lt-ltb, eqb-true, eqb-false}
use Rattle.zuniq.specs.Cells.{n_hash, start, end}
use Rattle.zuniq.specs.Codec.{IsZuniqOf, decode}
use Rattle.zuniq.specs.declared.Decoded.{Decoded}
use Rattle.zuniq.proofs.Basics.{and_is_true}
use Rattle.zuniq.proofs.Codec.{cell, decodes}
use Rattle.zuniq.proofs.Ranges.{end-last_child, valid_iff_end_le}
use Rattle.build.specs.Map.{Entry, entry, Merger}
use Rattle.build.specs.Stack.{step, collapse}
use Rattle.build.specs.Buffers.{held, read_onto}
use Rattle.build.specs.Counts.{total_of}
use Rattle.build.specs.Promises.{start_of, end_of}
use Rattle.build.specs.Standing.{Stands, Pushed}
use Rattle.build.proofs.Places.{held-suc, held-length}
use Rattle.build.proofs.Steps.{Stepped, stepped, collapse-keeps, collapse-stops}
use Rattle.build.proofs.Siblings.{collapse-no_fourth}
use Rattle.tally.specs.Tally.{is_first, out_of_reach, meets, Tally, tally_of, settle, reached, tallied}
use Rattle.tally.specs.Running.{tally_in, settled_with, reached_by, lone_at, out_at, last_at, Runs, CanCount, Counted}
use Rattle.tally.specs.declared.Running.{Running}

-- ---- the range of a cell
pub range_fits : (z d h w : ℕ) → IsZuniqOf 29 z d h → w ≡ 4 ^ (29 - d) → h * w + w ≤ 3458764513820540928
unfolding end n_hash
range_fits z d h w g q = rw q (omega (arith, (valid_iff_end_le 29 d h g.deep).0 g.hash))

pub start_is : (d h w : ℕ) → w ≡ 4 ^ (29 - d) → h * w ≡ start 29 d h
unfolding start
start_is d h w q = rw q

pub end_is : (d h w : ℕ) → w ≡ 4 ^ (29 - d) → h * w + w ≡ end 29 d h
unfolding end
end_is d h w q = rw q (omega arith)

-- ---- the last of the entries
out_of : (e : Entry ℕ) (s : List (Entry ℕ)) → out_at (length (e ∷ s)) (Decoded.Cell (cell e.depth e.hash)) ≡ out_of_reach (e ∷ s)
unfolding out_of_reach
out_of e [] = refl
out_of e (c ∷ s) = rw (lt-ltb 1 (length (e ∷ c ∷ s)) (omega arith))

-- What the last place tells is told of the entries.
out_at_lem : (n : ℕ) (zs vs : List ℕ) → 0 < n → Stands 29 n zs vs → out_at n (decode 29 (get_or zs (n - 1) 0)) ≡ out_of_reach (held 29 n zs vs)
out_at_lem zero zs vs u w = absurd (omega arith)
out_at_lem (suc m) zs vs u w =
    let v = w.valid m (omega arith) in
    let i : suc m - 1 ≡ m = omega arith in
    let s = held-suc 29 0 m zs vs v.0 v.1 w.zuniqs w.values v.2 in
    let n : suc m ≡ length (entry v.0 v.1 (get_or vs m 0) ∷ held 29 m zs vs) = sym (held-length 29 0 (suc m) zs vs w) ∙ ap length s in
    rw (i, (decodes 29 (get_or zs m 0) (cell v.0 v.1)).1 v.2, s) (ap (λ k. out_at k (Decoded.Cell (cell v.0 v.1))) n ∙ out_of (entry v.0 v.1 (get_or vs m 0)) (held 29 m zs vs))

-- A cell that is not lone on live entries, and not the last of four siblings, leaves them in reach.
in_reach : (e : Entry ℕ) (s : List (Entry ℕ)) → lone_at (length s) e.depth e.hash ≡ false → eqb (e.hash % 4) 3 ≡ false → out_of_reach (e ∷ s) ≡ false
unfolding out_of_reach
in_reach e [] p q = p
in_reach e (c ∷ s) p q = q

-- the last entry ends at c
abbrev EndsAt : ℕ → List (Entry ℕ) → Type 0
EndsAt c [] = ⊥
EndsAt c (e ∷ s) = (e.depth ≤ 29) × (end_of 29 e ≡ c)

step_ends : (accept : Merger ℕ) (c : ℕ) (s t : List (Entry ℕ)) → Stepped accept s t → EndsAt c s → EndsAt c t
step_ends accept c s t (stepped d h v0 v1 v2 v3 x r q) f = (omega (arith, f.0), sym (end-last_child 29 d h f.0) ∙ f.1)

ends_at : (c : ℕ) (s : List (Entry ℕ)) → EndsAt c s → (0 < length s) × ((y : Entry ℕ) (r : List (Entry ℕ)) → s ≡ y ∷ r → end_of 29 y ≡ c)
ends_at c [] f = absurd f
ends_at c (e ∷ s) f = (omega arith, λ y r q. let p : y ≡ e = cc in ap (end_of 29) p ∙ f.1)

-- ---- nothing live
pub nothing_stands : (zs vs : List ℕ) → Stands 29 0 zs vs
nothing_stands zs vs = record { zuniqs = omega arith; values = omega arith; valid = λ i u. absurd (omega arith) }

pub nothing_held : (zs vs : List ℕ) → held 29 0 zs vs ≡ []
unfolding held read_onto
nothing_held zs vs = refl

pub nothing_runs : (t : Running) (zs vs : List ℕ) → t.live ≡ 0 → t.settled ≤ t.cells → Runs t zs vs
nothing_runs t zs vs q u = record {
  stands = rw q (nothing_stands zs vs);
  few = omega arith;
  ends = λ e s h. let z = ap length (sym (nothing_held zs vs) ∙ (rw q at h)) in absurd (omega arith);
}

same_tally : {n m : ℕ} {s l : List (Entry ℕ)} → n ≡ m → s ≡ l → tally_of n s ≡ tally_of m l
same_tally p q = rw (p, q)

-- ---- before the cell is merged
-- What is left live can be pushed on.
pub record CanPush (b t : Running) (e : Entry ℕ) (zs vs : List ℕ) : Type 0 where
  pub stands : Stands 29 b.live zs vs
  pub zuniqs : b.live < length zs
  pub values : b.live < length vs
  pub fits : e.value + total_of (held 29 b.live zs vs) ≤ 4294967295
  pub few : b.settled + b.live ≤ t.cells
  pub cells : b.cells ≡ t.cells + 1

module _ (t : Running) (z : ℕ) (e : Entry ℕ) (zs vs : List ℕ) (k : CanCount t z e zs vs) where
  module _ (b : Running) (start end : ℕ) (q : b ≡ reached_by t start end) where
    pub can_push : CanPush b t e zs vs
    can_push = subst (λ (r : Running). CanPush r t e zs vs) (sym q) (go (eqb start t.end))
      where
        next : Running
        next = record { cells = t.cells + 1; settled = t.settled; live = t.live; end = end }

        go : (o : Bool) → CanPush (cond o next (settled_with next t.live)) t e zs vs
        go true = record { stands = k.runs.stands; zuniqs = k.zuniqs; values = k.values; fits = k.fits; few = k.runs.few; cells = refl }
        go false = record {
          stands = nothing_stands zs vs;
          zuniqs = omega (arith, k.zuniqs);
          values = omega (arith, k.values);
          fits = rw (nothing_held zs vs) (omega (arith, k.fits));
          few = omega (arith, k.runs.few);
          cells = refl;
        }

    ends_there : b.end ≡ end
    ends_there = subst (λ (r : Running). r.end ≡ end) (sym q) (go (eqb start t.end))
      where
        next : Running
        next = record { cells = t.cells + 1; settled = t.settled; live = t.live; end = end }

        go : (o : Bool) → (cond o next (settled_with next t.live)).end ≡ end
        go true = refl
        go false = refl

    -- The figures are those of the definition.
    reached-is : start ≡ start_of 29 e → tally_in b zs vs ≡ reached 29 (tally_in t zs vs) e
    unfolding reached meets
    reached-is s = ap (λ (r : Running). tally_in r zs vs) q ∙ go (held 29 t.live zs vs) refl (eqb start t.end) refl
      where
        next : Running
        next = record { cells = t.cells + 1; settled = t.settled; live = t.live; end = end }

        live_is : length (held 29 t.live zs vs) ≡ t.live
        live_is = held-length 29 0 t.live zs vs k.runs.stands

        go : (l : List (Entry ℕ)) → held 29 t.live zs vs ≡ l → (o : Bool) → eqb start t.end ≡ o
            → tally_in (cond o next (settled_with next t.live)) zs vs ≡ cond (meets 29 e l) (tally_of t.settled l) (tally_of (t.settled + length l) [])
        go [] h true o = same_tally (omega arith) h
        go [] h false o = same_tally (let z = ap length h in omega (arith, live_is)) (nothing_held zs vs)
        go (y ∷ l) h true o = rw (← s, k.runs.ends y l h, o) (same_tally refl h)
        go (y ∷ l) h false o = rw (← s, k.runs.ends y l h, o) (same_tally (let z = ap length h in omega (arith, live_is)) (nothing_held zs vs))

    live_is : length (held 29 b.live zs vs) ≡ b.live
    live_is = held-length 29 0 b.live zs vs can_push.stands

    module _ (accept : Merger ℕ) (s : start ≡ start_of 29 e) where
      -- What is settled of the entries that the cell has been merged into is told by the definition.
      settled_is : (l : List (Entry ℕ)) → l ≡ collapse accept (e ∷ held 29 b.live zs vs) → (o : Bool) → out_of_reach l ≡ o → cond o (tally_of (b.settled + length l) []) (tally_of b.settled l) ≡ tallied accept 29 (tally_in t zs vs) e
      unfolding tallied settle
      settled_is l p o g =
          ap (λ (o : Bool). cond o (tally_of (b.settled + length l) []) (tally_of b.settled l)) (sym g)
          ∙ ap (settle b.settled) p ∙ ap (λ (r : Tally ℕ). settle r.settled (collapse accept (e ∷ r.live))) (reached-is s)

      -- ---- a lone cell
      lone_out : (l : List (Entry ℕ)) → lone_at (length l) e.depth e.hash ≡ true → (l ≡ []) × (out_of_reach (e ∷ []) ≡ true)
      unfolding out_of_reach
      lone_out [] o = (refl, o)
      lone_out (c ∷ l) o = let u = eqb-true (length (c ∷ l)) 0 (and_is_true (eqb (length (c ∷ l)) 0) (not (is_first e)) o).0 in absurd (omega arith)

      lone_stays : e ∷ [] ≡ collapse accept (e ∷ [])
      unfolding step
      lone_stays = sym (collapse-stops accept (e ∷ []) refl)

      -- It is settled as it is.
      pub Counted-lone : lone_at b.live e.depth e.hash ≡ true → Counted accept t e zs vs (settled_with b 1) zs vs
      Counted-lone o =
          let p = lone_out (held 29 b.live zs vs) (rw live_is o) in
          record {
            runs = nothing_runs (settled_with b 1) zs vs refl (omega (arith, can_push.few, can_push.cells));
            cells = can_push.cells;
            is = same_tally refl (nothing_held zs vs) ∙ settled_is (e ∷ []) (lone_stays ∙ ap (λ l. collapse accept (e ∷ l)) (sym p.0)) true p.1;
          }

      -- ---- a cell that is merged into the live entries
      module _ (f : end_of 29 e ≡ end) (n : ℕ) (zs' vs' : List ℕ) (p : Pushed accept 29 b.live e zs vs n zs' vs') where
        pushed_ends : EndsAt end (held 29 n zs' vs')
        pushed_ends = subst (EndsAt end) (sym p.is) (collapse-keeps accept (EndsAt end) (step_ends accept end) (e ∷ held 29 b.live zs vs) (k.good.deep, f))

        number : length (held 29 n zs' vs') ≡ n
        number = held-length 29 0 n zs' vs' p.stands

        -- Something is live.
        pub pushed_some : 0 < n
        pushed_some = omega (arith, (ends_at end (held 29 n zs' vs') pushed_ends).0, number)

        out : out_of_reach (held 29 n zs' vs') ≡ out_at n (decode 29 (get_or zs' (n - 1) 0))
        out = sym (out_at_lem n zs' vs' pushed_some p.stands)

        -- Nothing is in reach any more,
        pub Counted-out : last_at n (decode 29 (get_or zs' (n - 1) 0)) e.hash ≡ true → Counted accept t e zs vs (settled_with b n) zs' vs'
        Counted-out g = record {
          runs = nothing_runs (settled_with b n) zs' vs' refl (omega (arith, can_push.few, can_push.cells, p.least));
          cells = can_push.cells;
          is = same_tally (ap (λ m. b.settled + m) (sym number)) (nothing_held zs' vs') ∙ settled_is (held 29 n zs' vs') p.is true (out ∙ (and_is_true (eqb (e.hash % 4) 3) (out_at n (decode 29 (get_or zs' (n - 1) 0))) g).1);
        }

        -- or all of them stay live.
        stays : lone_at b.live e.depth e.hash ≡ false → (o : Bool) → eqb (e.hash % 4) 3 ≡ o → (o && out_at n (decode 29 (get_or zs' (n - 1) 0))) ≡ false → out_of_reach (held 29 n zs' vs') ≡ false
        stays l true o g = out ∙ g
        stays l false o g =
            ap out_of_reach (p.is ∙ collapse-no_fourth accept e (held 29 b.live zs vs) (eqb-false (e.hash % 4) 3 o))
            ∙ in_reach e (held 29 b.live zs vs) (rw live_is l) o

        pub Counted-in : lone_at b.live e.depth e.hash ≡ false → last_at n (decode 29 (get_or zs' (n - 1) 0)) e.hash ≡ false
            → Counted accept t e zs vs (record { cells = b.cells; settled = b.settled; live = n; end = b.end }) zs' vs'
        Counted-in l g = record {
          runs = record { stands = p.stands; few = omega (arith, can_push.few, can_push.cells, p.least); ends = λ y r h. (ends_at end (held 29 n zs' vs') pushed_ends).1 y r h ∙ sym ends_there };
          cells = can_push.cells;
          is = settled_is (held 29 n zs' vs') p.is false (stays l (eqb (e.hash % 4) 3) refl g);
        }
