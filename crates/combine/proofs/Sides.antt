-- One side of the walk as code keeps it: a head, pending cells in an array, and the entries that are still to be fetched. Over any
-- type C of the code's cells: as_entry is the entry that a cell stands for, zuniq_in the zuniq that it holds. Assumes nothing.
use mathlib.Core.Path.{◌≡◌, refl, ap, sym, ◌∙◌, subst}
use mathlib.Core.Bool.{Bool, true, false}
use mathlib.Core.List.{List, [], ◌∷◌, ◌++◌}
use mathlib.Core.Logic.{⊎_elim}
use mathlib.Core.Option.{Option, none, some}
use Prim.Native.Nat.{ℕ, zero, suc, ◌+◌, ◌*◌, ◌-◌, ◌≤◌, ◌<◌}
use native.Mathlib.Omega.{arith}
use native.Mathlib.Nat.{eq-or-lt_of_le}
use native.Mathlib.Numerals.{add-one, add-two, add-three}
use lib.ListN.{length, get_or, set, drop, length-set, length-append, drop_of_length-le}
use lib.Seq.{drop-cons, get_or-set_same, get_or-set_other}
use Rattle.zuniq.specs.Codec.{IsZuniqOf, decode}
use Rattle.zuniq.proofs.Codec.{cell, decodes}
use Rattle.build.specs.Map.{Entry}
use Rattle.combine.specs.Overlay.{Split}
use Rattle.combine.specs.Walk.{Piled, children}
use Rattle.combine.specs.Heads.{At, side_at, used, pushed, Good, ChildOf, EntryAt, Advanced, stays, pops, fetches, finishes}
use Rattle.combine.specs.Slices.{entries_of}
use Rattle.combine.proofs.Walk.{Piled-open}

-- the entries of a map from place i on
abbrev pub from : {A : Type 0} → List ℕ → List A → ℕ → List (Entry A)
from zs vs i = entries_of (drop i zs) (drop i vs)

module _ {A C : Type 0} (as_entry : C → Entry A) where
  -- m pending cells, the last one first
  unfoldable pub pending : List C → ℕ → List (Entry A)
  pending p zero = []
  pending [] (suc m) = []
  pending (c ∷ p) (suc m) = pending p m ++ (as_entry c ∷ [])

  -- a head that has been used up stands for nothing
  abbrev pub head_as : Bool → Option C → List (Entry A)
  head_as true x = []
  head_as false none = []
  head_as false (some a) = as_entry a ∷ []

  pending-length : (p : List C) (m : ℕ) → m ≤ length p → length (pending p m) ≡ m
  unfolding pending
  pending-length p zero u = refl
  pending-length [] (suc m) u = absurd (omega arith)
  pending-length (c ∷ p) (suc m) u = omega (arith, length-append (pending p m) (as_entry c ∷ []), pending-length p m (omega arith))

  -- The last one is that at place m, whatever is read past the end of the array.
  pending-last : (p : List C) (m : ℕ) (d : C) → m < length p → pending p (suc m) ≡ as_entry (get_or p m d) ∷ pending p m
  unfolding pending
  pending-last [] m d u = absurd (omega arith)
  pending-last (c ∷ p) zero d u = refl
  pending-last (c ∷ p) (suc m) d u = rw (pending-last p m d (omega arith))

  -- What is written above leaves the cells below.
  pending-set : (p : List C) (k m : ℕ) (c : C) → m ≤ k → pending (set p k c) m ≡ pending p m
  unfolding pending set
  pending-set p k zero c u = refl
  pending-set [] k (suc m) c u = refl
  pending-set (e ∷ p) zero (suc m) c u = absurd (omega arith)
  pending-set (e ∷ p) (suc k) (suc m) c u = rw (pending-set p k m c (omega arith))

  -- One more cell is pushed.
  pending-push : (p : List C) (m : ℕ) (c : C) → m < length p → pending (set p m c) (suc m) ≡ as_entry c ∷ pending p m
  pending-push p m c u = rw (pending-last (set p m c) m c (omega (arith, length-set p m c)), get_or-set_same p m c c u, pending-set p m m c (omega arith))

  -- all that is to come on a side; rest i: the entries from place i on
  abbrev pub to_come : (ℕ → List (Entry A)) → At C → List C → List (Entry A)
  to_come rest s p = head_as s.taken s.head ++ (pending p s.pending ++ rest s.place)

  module _ (zuniq_in : C → ℕ) where
    -- m pending cells hold their zuniqs
    abbrev pub AllGood : List C → ℕ → Type 0
    AllGood p m = (i : ℕ) (d : C) → i < m → Good as_entry zuniq_in (get_or p i d)

    -- One more cell is pushed.
    Good-push : (p : List C) (m : ℕ) (c : C) → m < length p → Good as_entry zuniq_in c → AllGood p m → AllGood (set p m c) (suc m)
    Good-push p m c u k g i d v =
        let v' : i ≤ m = omega arith in
        ⊎_elim
        (λ e. subst (Good as_entry zuniq_in) (sym (ap (λ (i : ℕ). get_or (set p m c) i d) e ∙ get_or-set_same p m c d u)) k)
        (λ w. rw (get_or-set_other p m i c d (λ e. absurd (omega arith))) (g i d w))
        (eq-or-lt_of_le v')

    -- K: the largest depth
    module _ (K : ℕ) (rest : ℕ → List (Entry A)) where
      -- a head holds its zuniq; without one there is nothing to come
      abbrev pub Known : ℕ → ℕ → Option C → Type 0
      Known m i (some a) = Good as_entry zuniq_in a
      Known m i none = (m ≡ 0) × (rest i ≡ [])

      pub record Side (s : At C) (p : List C) : Type 0 where
        pub size : length p ≡ 3 * K
        pub room : s.pending ≤ 3 * K
        pub piled : Piled (head_as s.taken s.head ++ pending p s.pending)
        pub good : AllGood p s.pending
        pub known : s.taken ≡ false → Known s.pending s.place s.head

      -- r is the side s with a head, and what is to come is the same
      pub record Filled (s r : At C) (p : List C) : Type 0 where
        pub fresh : r ≡ used false r
        pub side : Side (used false r) p
        pub same : to_come rest (used false r) p ≡ to_come rest s p

      fill_pending : (x : Option C) (t : C) (p : List C) (m i : ℕ) → Side (side_at x m i true) p → 0 < m → t ≡ get_or p (m - 1) t → Filled (side_at x m i true) (side_at (some t) (m - 1) i false) p
      fill_pending x t p zero i s u q = absurd (omega arith)
      fill_pending x t p (suc m) i s u q =
          let z : suc m - 1 ≡ m = omega arith in
          let q' : t ≡ get_or p m t = rw z at q in
          let l : pending p (suc m) ≡ as_entry t ∷ pending p m = pending-last p m t (omega (arith, s.size, s.room)) ∙ ap (λ (c : C). as_entry c ∷ pending p m) (sym q') in
          rw z (record {
            fresh = refl;
            side = record {
              size = s.size;
              room = omega (arith, s.room);
              piled = subst Piled l s.piled;
              good = λ k d v. s.good k d (omega arith);
              known = λ _. subst (Good as_entry zuniq_in) (sym q') (s.good m t (omega arith));
            };
            same = ap (λ (o : List (Entry A)). o ++ rest i) (sym l);
          })

      fill_entry : (x : Option C) (a : C) (p : List C) (m i : ℕ) → Side (side_at x m i true) p → m ≡ 0 → Good as_entry zuniq_in a → as_entry a ∷ rest (i + 1) ≡ rest i → Filled (side_at x m i true) (side_at (some a) 0 (i + 1) false) p
      unfolding pending
      fill_entry x a p m i s u g q = rw u (record { fresh = refl; side = record { size = s.size; room = omega arith; piled = (omega arith, tt); good = λ k d v. absurd (omega arith); known = λ _. g }; same = q })

      fill_end : (x : Option C) (p : List C) (m i : ℕ) → Side (side_at x m i true) p → m ≡ 0 → rest i ≡ [] → Filled (side_at x m i true) (side_at none 0 i false) p
      unfolding pending
      fill_end x p m i s u q = rw u (record { fresh = refl; side = record { size = s.size; room = omega arith; piled = tt; good = λ k d v. absurd (omega arith); known = λ _. (refl, q) }; same = refl })

      -- The same, as the code leaves it.
      as_filled : (s r r' : At C) (b : Bool) (p : List C) → s.taken ≡ b → r ≡ r' → (Side (used b s) p → Filled (used b s) r' p) → Side s p → Filled s r p
      as_filled s r r' b p e q k w =
          subst (λ (r : At C). Filled s r p) (sym q) (subst (λ (t : Bool). Side (used t s) p → Filled (used t s) r' p) (sym e) k w)

      -- A head that is used up leaves the rest.
      pub Side-taken : (s : At C) (p : List C) (t : Bool) → Side (used false s) p → Side (used t s) p
      Side-taken s p t w = record { size = w.size; room = w.room; piled = go t s.head w.piled; good = w.good; known = λ _. w.known refl }
        where
          go : (t : Bool) (x : Option C) → Piled (head_as false x ++ pending p s.pending) → Piled (head_as t x ++ pending p s.pending)
          go false x q = q
          go true none q = q
          go true (some a) q = q.1

      -- ---- splitting the head
      module _ (split : Split A) (a : C) (p : List C) (m i : ℕ) (w : Side (side_at (some a) m i false) p) (u : (as_entry a).depth < K) where
        -- There is room for three cells more.
        pub open_room : m + 3 ≤ 3 * K
        open_room = omega (arith, w.piled.0, w.size, w.room, pending-length p m)

        module _ (c3 c2 c1 c0 : C) (k3 : ChildOf as_entry zuniq_in split a 3 c3) (k2 : ChildOf as_entry zuniq_in split a 2 c2) (k1 : ChildOf as_entry zuniq_in split a 1 c1) (k0 : ChildOf as_entry zuniq_in split a 0 c0) where
          open_pending : as_entry c0 ∷ pending (pushed p m c3 c2 c1) (m + 3) ≡ children split (as_entry a) ++ pending p m
          open_pending =
              let r = open_room in
              let z = w.size in
              let z1 = length-set p m c3 in
              let z2 = length-set (set p m c3) (suc m) c2 in
              rw (add-one m, add-two m, add-three m)
              (rw (pending-push (set (set p m c3) (suc m) c2) (suc (suc m)) c1 (omega arith), pending-push (set p m c3) (suc m) c2 (omega arith), pending-push p m c3 (omega arith))
              (λ t. k0.1 t ∷ k1.1 t ∷ k2.1 t ∷ k3.1 t ∷ pending p m))

          open_good : AllGood (pushed p m c3 c2 c1) (m + 3)
          open_good =
              let r = open_room in
              let z = w.size in
              let z1 = length-set p m c3 in
              let z2 = length-set (set p m c3) (suc m) c2 in
              rw (add-one m, add-two m, add-three m)
              (Good-push (set (set p m c3) (suc m) c2) (suc (suc m)) c1 (omega arith) k1.0
              (Good-push (set p m c3) (suc m) c2 (omega arith) k2.0 (Good-push p m c3 (omega arith) k3.0 w.good)))

          pub open_side : Side (side_at (some c0) (m + 3) i false) (pushed p m c3 c2 c1)
          open_side = record {
            size = simp length-set w.size;
            room = open_room;
            piled = subst Piled (sym open_pending) (Piled-open split K (as_entry a) (pending p m) w.piled);
            good = open_good;
            known = λ _. k0.0;
          }

          -- What is to come is what came, with the head's children in its place.
          pub open_to_come : to_come rest (side_at (some c0) (m + 3) i false) (pushed p m c3 c2 c1) ≡ children split (as_entry a) ++ (pending p m ++ rest i)
          open_to_come = ap (λ (l : List (Entry A)). l ++ rest i) open_pending

    -- ---- fetching a head
    module _ (zs : List ℕ) (vs : List A) (paired : length zs ≡ length vs) where
      next_entry : (i : ℕ) (a : C) → EntryAt as_entry zuniq_in zs vs i (some a) → as_entry a ∷ from zs vs (i + 1) ≡ from zs vs i
      unfolding entries_of
      next_entry i a f =
          let q : decode 29 (get_or zs i 0) ≡ _ = (decodes 29 (get_or zs i 0) (cell (as_entry a).depth (as_entry a).hash)).1 (subst (λ (z : ℕ). IsZuniqOf 29 z (as_entry a).depth (as_entry a).hash) f.1 f.2) in
          rw (add-one, drop-cons zs i 0 f.0, drop-cons vs i (as_entry a).value (omega (arith, f.0)), q, ← f.3)

      no_entry : (i : ℕ) → length zs ≤ i → from zs vs i ≡ []
      unfolding entries_of
      no_entry i f = rw (drop_of_length-le zs f)

      -- What fetches a head changes nothing.
      pub filled : (K : ℕ) (s r : At C) (p : List C) (t : C) → t ≡ get_or p (s.pending - 1) t → Side K (from zs vs) s p → Advanced as_entry zuniq_in zs vs t s r → Filled K (from zs vs) s r p
      filled K s r p t f0 w (stays e q) = as_filled K (from zs vs) s r (used false s) false p e (q ∙ ap (λ (t : Bool). used t s) e) (λ w. record { fresh = refl; side = w; same = refl }) w
      filled K s r p t f0 w (pops e v q) = as_filled K (from zs vs) s r _ true p e q (λ w. fill_pending K (from zs vs) s.head t p s.pending s.place w v f0) w
      filled K s r p t f0 w (fetches e v a f q) = as_filled K (from zs vs) s r _ true p e q (λ w. fill_entry K (from zs vs) s.head a p s.pending s.place w (omega arith) f.2 (next_entry s.place a f)) w
      filled K s r p t f0 w (finishes e v f q) = as_filled K (from zs vs) s r _ true p e q (λ w. fill_end K (from zs vs) s.head p s.pending s.place w (omega arith) (no_entry s.place f)) w
