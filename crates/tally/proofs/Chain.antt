-- The live entries are a chain: the first of them is the first of four siblings, each later one starts where the one before it
-- ends, and none is the last of four siblings. So there are at most three of them for each depth from 1 on, 87 in all where the
-- largest depth is 29. For every type of values and every merger. Assumes nothing.
use mathlib.Core.Path.{◌≡◌, refl, ap, sym, ◌∙◌}
use mathlib.Core.Bool.{Bool, true, false, cond}
use mathlib.Core.List.{List, [], ◌∷◌}
use mathlib.Core.Logic.{◌⊎◌, inl, inr, ⊎_elim}
use Prim.Native.Nat.{ℕ, suc, ◌+◌, ◌*◌, ◌-◌, ◌^◌, ◌%◌, ◌≤◌, ◌<◌}
use native.Mathlib.Omega.{arith}
use native.Mathlib.Nat.{eq-or-lt_of_le}
use lib.Dec.{eqb, ltb}
use lib.ListN.{length}
use borrow.Author.Tests.{eqb-true, eqb-false, ltb-true, not-false}
use Rattle.zuniq.specs.Cells.{start, end}
use Rattle.zuniq.proofs.Basics.{and_is_true, le_or_lt, four_pow_split}
use Rattle.zuniq.proofs.Ranges.{start-le_iff, start-at_depth, end-is_next_start, start-first_child}
use Rattle.build.specs.Map.{Entry, entry, Merger}
use Rattle.build.specs.Stack.{child, collapse}
use Rattle.build.specs.Promises.{start_of, end_of, Rises}
use Rattle.build.proofs.Steps.{Stepped, stepped, collapse-keeps}
use Rattle.tally.specs.Tally.{is_first, out_of_reach, meets, Tally, tally_of, entries_in, settle, reached, tallied, tally}

four_divides : (a k : ℕ) → 0 < k → (c : ℕ) × (a * 4 ^ k ≡ 4 * c)
four_divides a k u = (a * 4 ^ (k - 1), rw (four_pow_split k (k - 1) 1 (omega arith)) (omega arith))

below_three : (h : ℕ) → (h % 4 ≡ 3 → ⊥) → h % 4 < 3
below_three h k = ⊎_elim (λ u. absurd (k (omega arith))) (λ u. u) (le_or_lt 3 (h % 4))

module _ (K : ℕ) where
  -- ---- a cell that starts where another ends
  -- Cells of one depth that start at one place have one hash.
  same_start : (d h g : ℕ) → start K d h ≡ start K d g → h ≡ g
  same_start d h g q = omega (arith, (start-le_iff K d h g).0 (omega arith), (start-le_iff K d g h).0 (omega arith))

  -- A cell that starts where one ends that is not the last of four siblings is its next sibling, or deeper and the first of four.
  pub next_cell : (d h e g : ℕ) → d ≤ K → e ≤ K → h % 4 < 3 → start K e g ≡ end K d h → ((e ≡ d) × (g ≡ suc h)) ⊎ ((d < e) × (g % 4 ≡ 0))
  next_cell d h e g u v w q = ⊎_elim (λ k. ⊎_elim (λ z. inl (same z)) (λ k. inr (deeper k)) (eq-or-lt_of_le k)) (λ k. absurd (above k)) (le_or_lt d e)
    where
      at : start K e g ≡ start K d (suc h)
      at = q ∙ end-is_next_start K d h

      same : d ≡ e → (e ≡ d) × (g ≡ suc h)
      same z = (sym z, same_start d g (suc h) (rw (← z) at at))

      deeper : d < e → (d < e) × (g % 4 ≡ 0)
      deeper k =
          let p : g ≡ suc h * 4 ^ (e - d) = same_start e g (suc h * 4 ^ (e - d)) (at ∙ start-at_depth K d e (omega arith) v (suc h)) in
          let f = four_divides (suc h) (e - d) (omega arith) in
          (k, omega (arith, f.1))

      above : e < d → ⊥
      above k =
          let p : g * 4 ^ (d - e) ≡ suc h = same_start d (g * 4 ^ (d - e)) (suc h) (sym (start-at_depth K e d (omega arith) u g) ∙ at) in
          let f = four_divides g (d - e) (omega arith) in
          omega (arith, f.1)

module _ {A : Type 0} (K : ℕ) where
  -- the entry starts where the others end, or is the first of four siblings if there are none
  abbrev pub On : Entry A → List (Entry A) → Type 0
  On e [] = is_first e ≡ true
  On e (c ∷ s) = start_of K e ≡ end_of K c

  -- live entries, the last one first
  abbrev pub Chain : List (Entry A) → Type 0
  Chain [] = Unit {0}
  Chain (e ∷ s) = (e.depth ≤ K) × (e.hash % 4 < 3) × On e s × Chain s

  -- the entry starts where the others end, if there are any
  abbrev pub OnAny : Entry A → List (Entry A) → Type 0
  OnAny e [] = Unit {0}
  OnAny e (c ∷ s) = start_of K e ≡ end_of K c

  -- live entries but for the last one, which may be any that starts where they end
  abbrev pub Hangs : List (Entry A) → Type 0
  Hangs [] = Unit {0}
  Hangs (e ∷ s) = (e.depth ≤ K) × OnAny e s × Chain s

  -- ---- how many there are
  -- The depth and the place among siblings of the last one bound their number.
  pub Chain-length_at : (e : Entry A) (s : List (Entry A)) → Chain (e ∷ s) → length (e ∷ s) + 2 ≤ 3 * e.depth + e.hash % 4
  Chain-length_at e [] c =
      let p = and_is_true (ltb 0 e.depth) (eqb (e.hash % 4) 0) c.2 in
      omega (arith, ltb-true 0 e.depth p.0)
  Chain-length_at e (y ∷ s) c =
      let more = Chain-length_at y s c.3 in
      ⊎_elim (λ p. let z = ap (λ n. n % 4) p.1 in omega (arith, p.0, p.1, c.3.1)) (λ p. omega (arith, p.0, c.3.1)) (next_cell K y.depth y.hash e.depth e.hash c.3.0 c.0 c.3.1 c.2)

  -- There are at most three for each depth from 1 on.
  pub chain_length : (s : List (Entry A)) → Chain s → length s ≤ 3 * K
  chain_length [] c = omega arith
  chain_length (e ∷ s) c = omega (arith, Chain-length_at e s c, c.0, c.1)

module _ {A : Type 0} (accept : Merger A) (K : ℕ) where
  -- ---- they stay a chain
  -- A step leaves the chain below its four entries, and their parent starts where they did.
  step_hangs : (s t : List (Entry A)) → Stepped accept s t → Hangs K s → Hangs K t
  step_hangs s t (stepped d h v0 v1 v2 v3 x r q) f = (omega (arith, f.0), go r f.2.3.3.2, f.2.3.3.3)
    where
      go : (r : List (Entry A)) → On K (child d h 0 v0) r → OnAny K (entry d h x) r
      go [] o = tt
      go (y ∷ r) o = sym (start-first_child K d h f.0) ∙ o

  -- What starts where live entries end, collapsed, hangs on what is left of them.
  collapse-hangs : (s : List (Entry A)) → Hangs K s → Hangs K (collapse accept s)
  collapse-hangs s f = collapse-keeps accept (Hangs K) step_hangs s f

  -- Entries that are not out of reach are a chain.
  reached_chain : (s : List (Entry A)) → Hangs K s → out_of_reach s ≡ false → Chain K s
  unfolding out_of_reach
  reached_chain [] f q = tt
  reached_chain (e ∷ []) f q =
      let o = not-false (is_first e) q in
      let p = and_is_true (ltb 0 e.depth) (eqb (e.hash % 4) 0) o in
      (f.0, omega (arith, eqb-true (e.hash % 4) 0 p.1), o, tt)
  reached_chain (e ∷ c ∷ s) f q = (f.0, below_three e.hash (eqb-false (e.hash % 4) 3 q), f.1, f.2)

  settle-chain : (n : ℕ) (s : List (Entry A)) → Hangs K s → Chain K (settle n s).live
  unfolding settle
  settle-chain n s f = go (out_of_reach s) refl
    where
      go : (o : Bool) → out_of_reach s ≡ o → Chain K (cond o (tally_of (n + length s) []) (tally_of n s)).live
      go false q = reached_chain s f q
      go true q = tt

  -- A cell that starts where live entries end hangs on them.
  meets-hangs : (e : Entry A) (s : List (Entry A)) → e.depth ≤ K → Chain K s → meets K e s ≡ true → Hangs K (e ∷ s)
  unfolding meets
  meets-hangs e [] u c q = (u, tt, c)
  meets-hangs e (y ∷ s) u c q = (u, eqb-true (start_of K e) (end_of K y) q, c)

  reached-hangs : (t : Tally A) (e : Entry A) → e.depth ≤ K → Chain K t.live → Hangs K (e ∷ (reached K t e).live)
  unfolding reached
  reached-hangs t e u c = go (meets K e t.live) refl
    where
      go : (o : Bool) → meets K e t.live ≡ o → Hangs K (e ∷ (cond o t (tally_of (entries_in t) [])).live)
      go true q = meets-hangs e t.live u c q
      go false q = (u, tt, tt)

  tallied-chain : (t : Tally A) (e : Entry A) → e.depth ≤ K → Chain K t.live → Chain K (tallied accept K t e).live
  unfolding tallied
  tallied-chain t e u c = settle-chain _ (collapse accept (e ∷ (reached K t e).live)) (collapse-hangs (e ∷ (reached K t e).live) (reached-hangs t e u c))

  -- The live entries of a tally are a chain,
  pub tally-chain : (b z : ℕ) (t : Tally A) (l : List (Entry A)) → Chain K t.live → Rises K b z l → Chain K (tally accept K t l).live
  unfolding tally
  tally-chain b z t [] c r = c
  tally-chain b z t (e ∷ l) c r = tally-chain (end_of K e) z (tallied accept K t e) l (tallied-chain t e r.0 c) r.2

  -- so at most three for each depth from 1 on are live.
  pub tally-live : (b z : ℕ) (l : List (Entry A)) → Rises K b z l → length (tally accept K (tally_of 0 []) l).live ≤ 3 * K
  tally-live b z l r = chain_length K (tally accept K (tally_of 0 []) l).live (tally-chain b z (tally_of 0 []) l tt r)
