-- The state of the walk as code keeps it, two sides and what has been shown, and what a turn does to it. Over any type of the
-- code's cells. Assumes nothing.
use mathlib.Core.Path.{◌≡◌, refl, ap, sym, ◌∙◌, subst}
use mathlib.Core.Bool.{true, false}
use mathlib.Core.List.{List, [], ◌∷◌, ◌++◌, append_assoc, append-nil}
use mathlib.Core.Option.{Option, none, some}
use Prim.Native.Nat.{ℕ, ◌+◌, ◌<◌}
use native.Mathlib.Omega.{arith}
use Rattle.zuniq.specs.Cells.{n_hash}
use Rattle.build.specs.Map.{Entry, entry}
use Rattle.build.specs.Promises.{end_of, Rises}
use Rattle.build.proofs.Entries.{entry-is}
use Rattle.build.proofs.Rising.{Rises-from}
use Rattle.combine.specs.Overlay.{Seen, Split, overlay}
use Rattle.combine.specs.Walk.{Before, Inner}
use Rattle.combine.specs.Heads.{Saw, saw_left, saw_right, saw_both, takes_left, takes_right, shows, ends, At, side_at, used, pushed, shown_as, Ahead, Turned, ChildOf}
use Rattle.combine.proofs.Turns.{Rises-open, overlay-open_left, overlay-open_right}
use Rattle.combine.proofs.Walk.{overlay-nil, overlay-give_left, overlay-give_right, overlay-give_both}
use Rattle.combine.proofs.Sides.{pending, to_come, Side, Filled, Side-taken, open_side, open_to_come}

module _ {A C : Type 0} (split : Split A) (as_entry : C → Entry A) (zuniq_in : C → ℕ) (K : ℕ) where
  -- A side without a head is at its end.
  nothing_to_come : (rest : ℕ → List (Entry A)) (p : List C) (m i : ℕ) → Side as_entry zuniq_in K rest (side_at none m i false) p → to_come as_entry rest (side_at none m i false) p ≡ []
  unfolding pending
  nothing_to_come rest p m i s = let h = s.known refl in rw h.0 h.1

  -- What ends before the head of a side starts ends before all of it.
  ahead_before : (rest : ℕ → List (Entry A)) (a : C) (y : Option C) (p : List C) (m i : ℕ) → Side as_entry zuniq_in K rest (side_at y m i false) p → Ahead as_entry K a y → Before K (as_entry a) (to_come as_entry rest (side_at y m i false) p)
  ahead_before rest a none p m i s t = rw (nothing_to_come rest p m i s) tt
  ahead_before rest a (some b) p m i s t = t

  Rises-tail : (e : Entry A) (l : List (Entry A)) → Rises K 0 (n_hash K) (e ∷ l) → Rises K 0 (n_hash K) l
  Rises-tail e l p = Rises-from K 0 (end_of K e) (n_hash K) l (omega arith) p.2

  module _ (el er : ℕ → List (Entry A)) where
    abbrev L : At C → List C → List (Entry A)
    L s p = to_come as_entry el s p

    abbrev R : At C → List C → List (Entry A)
    R s p = to_come as_entry er s p

    -- `done` has been shown, of the overlay
    pub record State (done : List (Entry (Seen A))) (l r : At C) (lp rp : List C) : Type 0 where
      pub on_left : Side as_entry zuniq_in K el l lp
      pub on_right : Side as_entry zuniq_in K er r rp
      pub rises_left : Rises K 0 (n_hash K) (L l lp)
      pub rises_right : Rises K 0 (n_hash K) (R r rp)
      pub whole : done ++ overlay split K (L l lp) (R r rp) ≡ overlay split K (el 0) (er 0)

    -- Fetching heads changes nothing.
    pub State-filled : (done : List (Entry (Seen A))) (l r l' r' : At C) (lp rp : List C) → State done l r lp rp → Filled as_entry zuniq_in K el l l' lp → Filled as_entry zuniq_in K er r r' rp
        → State done (used false l') (used false r') lp rp
    State-filled done l r l' r' lp rp s f g = record {
      on_left = f.side;
      on_right = g.side;
      rises_left = rw f.same s.rises_left;
      rises_right = rw g.same s.rises_right;
      whole = rw (f.same, g.same) s.whole;
    }

    module _ (done : List (Entry (Seen A))) (lp rp : List C) (m n i j : ℕ) where
      -- the state with heads x and y
      abbrev Ready : Option C → Option C → Type 0
      Ready x y = State done (side_at x m i false) (side_at y n j false) lp rp

      -- ---- showing a cell
      next_whole : (e : Entry (Seen A)) (o : List (Entry (Seen A))) → done ++ (e ∷ o) ≡ overlay split K (el 0) (er 0) → (done ++ (e ∷ [])) ++ o ≡ overlay split K (el 0) (er 0)
      next_whole e o q = append_assoc done (e ∷ []) o ∙ q

      show_left : (a : C) (y : Option C) → Ready (some a) y → Ahead as_entry K a y → State (done ++ (shown_as as_entry (saw_left a) ∷ [])) (side_at (some a) m i true) (side_at y n j false) lp rp
      show_left a y s t = record {
        on_left = Side-taken as_entry zuniq_in K el (side_at (some a) m i false) lp true s.on_left;
        on_right = s.on_right;
        rises_left = Rises-tail (as_entry a) (L (side_at (some a) m i true) lp) s.rises_left;
        rises_right = s.rises_right;
        whole = next_whole _ _ (rw (overlay-give_left split K (as_entry a) (L (side_at (some a) m i true) lp) (R (side_at y n j false) rp) s.rises_left s.rises_right (ahead_before er a y rp n j s.on_right t)) at s.whole);
      }

      show_right : (x : Option C) (b : C) → Ready x (some b) → Ahead as_entry K b x → State (done ++ (shown_as as_entry (saw_right b) ∷ [])) (side_at x m i false) (side_at (some b) n j true) lp rp
      show_right x b s t = record {
        on_left = s.on_left;
        on_right = Side-taken as_entry zuniq_in K er (side_at (some b) n j false) rp true s.on_right;
        rises_left = s.rises_left;
        rises_right = Rises-tail (as_entry b) (R (side_at (some b) n j true) rp) s.rises_right;
        whole = next_whole _ _ (rw (overlay-give_right split K (as_entry b) (R (side_at (some b) n j true) rp) (L (side_at x m i false) lp) s.rises_right s.rises_left (ahead_before el b x lp m i s.on_left t)) at s.whole);
      }

      show_both : (a b : C) → Ready (some a) (some b) → (as_entry a).depth ≡ (as_entry b).depth → (as_entry a).hash ≡ (as_entry b).hash
          → State (done ++ (shown_as as_entry (saw_both a b) ∷ [])) (side_at (some a) m i true) (side_at (some b) n j true) lp rp
      show_both a b s f g =
          let z : as_entry b ≡ entry (as_entry a).depth (as_entry a).hash (as_entry b).value = entry-is (as_entry b) _ _ _ (sym f) (sym g) refl in
          let l = L (side_at (some a) m i true) lp in
          let r = R (side_at (some b) n j true) rp in
          let q : overlay split K (as_entry a ∷ l) (as_entry b ∷ r) ≡ shown_as as_entry (saw_both a b) ∷ overlay split K l r
          = ap (λ (e : Entry A). overlay split K (as_entry a ∷ l) (e ∷ r)) z
          ∙ overlay-give_both split K (as_entry a).depth (as_entry a).hash (as_entry a).value (as_entry b).value l r s.rises_left (subst (λ (e : Entry A). Rises K 0 (n_hash K) (e ∷ r)) z s.rises_right) in
          record {
            on_left = Side-taken as_entry zuniq_in K el (side_at (some a) m i false) lp true s.on_left;
            on_right = Side-taken as_entry zuniq_in K er (side_at (some b) n j false) rp true s.on_right;
            rises_left = Rises-tail (as_entry a) l s.rises_left;
            rises_right = Rises-tail (as_entry b) r s.rises_right;
            whole = next_whole _ _ (rw q at s.whole);
          }

      -- A cell is shown to the rule: the heads that it takes are used up.
      pub State-shown : (x y : Option C) (e : Saw C) → Ready x y → Turned as_entry K x y (shows e) → State (done ++ (shown_as as_entry e ∷ [])) (side_at x m i (takes_left e)) (side_at y n j (takes_right e)) lp rp
      State-shown x y (saw_left a) s t = rw t.0 (show_left a y (rw t.0 at s) t.1)
      State-shown x y (saw_right b) s t = rw t.0 (show_right x b (rw t.0 at s) t.1)
      State-shown x y (saw_both a b) s t = rw (t.0, t.1) (show_both a b (rw (t.0, t.1) at s) t.2 t.3)

      -- At the end all has been shown.
      pub state_ends : (x y : Option C) → Ready x y → Turned as_entry K x y ends → done ≡ overlay split K (el 0) (er 0)
      state_ends x y s t =
          let k : Ready none none = rw (t.0, t.1) at s in
          let q : overlay split K (L (side_at none m i false) lp) (R (side_at none n j false) rp) ≡ []
          = rw (nothing_to_come el lp m i k.on_left, nothing_to_come er rp n j k.on_right) (overlay-nil split K) in
          sym (append-nil done) ∙ ap (λ (o : List (Entry (Seen A))). done ++ o) (sym q) ∙ k.whole

      -- ---- splitting a head
      module _ (a b : C) (s : Ready (some a) (some b)) (c3 c2 c1 c0 : C) where
        pub State-open_left : Inner (as_entry b) (as_entry a) → (u : (as_entry a).depth < K) → ChildOf as_entry zuniq_in split a 3 c3 → ChildOf as_entry zuniq_in split a 2 c2 → ChildOf as_entry zuniq_in split a 1 c1 → ChildOf as_entry zuniq_in split a 0 c0
            → State done (side_at (some c0) (m + 3) i false) (side_at (some b) n j false) (pushed lp m c3 c2 c1) rp
        State-open_left t u k3 k2 k1 k0 =
            let l = L (side_at (some a) m i true) lp in
            let z = open_to_come as_entry zuniq_in K el split a lp m i s.on_left u c3 c2 c1 c0 k3 k2 k1 k0 in
            record {
              on_left = open_side as_entry zuniq_in K el split a lp m i s.on_left u c3 c2 c1 c0 k3 k2 k1 k0;
              on_right = s.on_right;
              rises_left = subst (Rises K 0 (n_hash K)) (sym z) (Rises-open split K 0 (n_hash K) (as_entry a) l u s.rises_left);
              rises_right = s.rises_right;
              whole = ap (λ (o : List (Entry (Seen A))). done ++ o) (ap (λ (l : List (Entry A)). overlay split K l (R (side_at (some b) n j false) rp)) z
                  ∙ overlay-open_left split K (as_entry a) (as_entry b) l (R (side_at (some b) n j true) rp) s.rises_left s.rises_right t) ∙ s.whole;
            }

        pub State-open_right : Inner (as_entry a) (as_entry b) → (u : (as_entry b).depth < K) → ChildOf as_entry zuniq_in split b 3 c3 → ChildOf as_entry zuniq_in split b 2 c2 → ChildOf as_entry zuniq_in split b 1 c1 → ChildOf as_entry zuniq_in split b 0 c0
            → State done (side_at (some a) m i false) (side_at (some c0) (n + 3) j false) lp (pushed rp n c3 c2 c1)
        State-open_right t u k3 k2 k1 k0 =
            let r = R (side_at (some b) n j true) rp in
            let z = open_to_come as_entry zuniq_in K er split b rp n j s.on_right u c3 c2 c1 c0 k3 k2 k1 k0 in
            record {
              on_left = s.on_left;
              on_right = open_side as_entry zuniq_in K er split b rp n j s.on_right u c3 c2 c1 c0 k3 k2 k1 k0;
              rises_left = s.rises_left;
              rises_right = subst (Rises K 0 (n_hash K)) (sym z) (Rises-open split K 0 (n_hash K) (as_entry b) r u s.rises_right);
              whole = ap (λ (o : List (Entry (Seen A))). done ++ o) (ap (λ (r : List (Entry A)). overlay split K (L (side_at (some a) m i false) lp) r) z
                  ∙ overlay-open_right split K (as_entry b) (as_entry a) r (L (side_at (some a) m i true) lp) s.rises_right s.rises_left t) ∙ s.whole;
            }
