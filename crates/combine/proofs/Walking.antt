-- The walk of two maps in slices, as code keeps it: what has been shown, what the rule has kept of that, and what is left to be
-- walked. Over any type of values and of the code's cells, any splitting and any rule. Assumes nothing.
use mathlib.Core.Path.{◌≡◌, refl, ap, sym, ◌∙◌, subst}
use mathlib.Core.Bool.{Bool, true, false, true≢false}
use mathlib.Core.List.{List, [], ◌∷◌, ◌++◌, append_assoc, append-nil}
use mathlib.Core.Option.{Option, none, some}
use Prim.Native.Nat.{ℕ, ◌+◌, ◌-◌, ◌≤◌, ◌<◌}
use native.Mathlib.Omega.{arith}
use native.Mathlib.Nat.{one-le-pow}
use lib.ListN.{length, get_or}
use Rattle.zuniq.specs.Codec.{IsZuniqOf}
use Rattle.build.specs.Map.{Entry}
use Rattle.combine.specs.Overlay.{Seen, Split, overlay}
use Rattle.combine.specs.Rules.{Rule, kept_of, kept}
use Rattle.combine.specs.Walk.{weight}
use Rattle.combine.specs.Heads.{Saw, saw_left, saw_right, saw_both, takes_left, takes_right, shows, opens_left, opens_right, ends, At, side_at, side_start, used, pushed, opened, Shallow, shown_as, Turned, zuniq_shown, Good, ChildOf, Advanced}
use Rattle.combine.specs.Slices.{entries_of, Holds}
use Rattle.combine.proofs.Walk.{weight-open}
use Rattle.combine.proofs.Sides.{from, pending, to_come, filled, open_room, open_to_come}
use Rattle.combine.proofs.State.{State, State-filled, State-shown, state_ends, State-open_left, State-open_right}

-- What a rule keeps of one list behind another.
kept_append : {A : Type 0} (rule : Rule A) (o p : List (Entry (Seen A))) → kept rule (o ++ p) ≡ kept rule o ++ kept rule p
unfolding kept
kept_append rule [] p = refl
kept_append rule (e ∷ o) p = ap (λ l. kept_of rule e ++ l) (kept_append rule o p) ∙ sym (append_assoc (kept_of rule e) (kept rule o) (kept rule p))

kept_next : {A : Type 0} (rule : Rule A) (o : List (Entry (Seen A))) (e : Entry (Seen A)) → kept rule (o ++ (e ∷ [])) ≡ kept rule o ++ kept_of rule e
unfolding kept
kept_next rule o e = kept_append rule o (e ∷ []) ∙ ap (λ l. kept rule o ++ l) (append-nil (kept_of rule e))

-- all that the rule keeps of two maps
abbrev pub kept_cells : {A : Type 0} → Split A → Rule A → List ℕ → List A → List ℕ → List A → List (Entry A)
kept_cells split rule lz lv rz rv = kept rule (overlay split 29 (entries_of lz lv) (entries_of rz rv))

-- What has been kept is the first part of all that is.
kept-part : {A C : Type 0} (split : Split A) (rule : Rule A) (as_entry : C → Entry A) (zuniq_in : C → ℕ) (lz : List ℕ) (lv : List A) (rz : List ℕ) (rv : List A) (done : List (Entry (Seen A))) (l r : At C) (lp rp : List C)
    → State split as_entry zuniq_in 29 (from lz lv) (from rz rv) done l r lp rp → (o : List (Entry A)) × (kept rule done ++ o ≡ kept_cells split rule lz lv rz rv)
kept-part split rule as_entry zuniq_in lz lv rz rv done l r lp rp s =
    let o = overlay split 29 (to_come as_entry (from lz lv) l lp) (to_come as_entry (from rz rv) r rp) in
    (kept rule o, sym (kept_append rule done o) ∙ ap (kept rule) s.whole)

-- Wrote: what is known of the cells that have been kept
pub record Walking {A C : Type 0} (split : Split A) (rule : Rule A) (as_entry : C → Entry A) (zuniq_in : C → ℕ) (lz : List ℕ) (lv : List A) (rz : List ℕ) (rv : List A) (Wrote : List (Entry A) → Type 0) (l r : At C) (lp rp : List C) : Type 0 where
  pub done : List (Entry (Seen A))
  pub state : State split as_entry zuniq_in 29 (from lz lv) (from rz rv) done l r lp rp
  pub wrote : Wrote (kept rule done)

-- what is left, weighed
abbrev pub left_over : {A C : Type 0} → (C → Entry A) → List ℕ → List A → List ℕ → List A → At C → At C → List C → List C → ℕ
left_over as_entry lz lv rz rv l r lp rp = weight 29 (to_come as_entry (from lz lv) l lp) + weight 29 (to_come as_entry (from rz rv) r rp)

-- both heads fetched, with the weight that there was before
pub record Ready {A C : Type 0} (split : Split A) (rule : Rule A) (as_entry : C → Entry A) (zuniq_in : C → ℕ) (lz : List ℕ) (lv : List A) (rz : List ℕ) (rv : List A) (Wrote : List (Entry A) → Type 0) (l r : At C) (lp rp : List C) (m : ℕ) : Type 0 where
  pub walking : Walking split rule as_entry zuniq_in lz lv rz rv Wrote (used false l) (used false r) lp rp
  pub same : left_over as_entry lz lv rz rv (used false l) (used false r) lp rp ≡ m
  pub fresh_left : l ≡ used false l
  pub fresh_right : r ≡ used false r

-- a head that is split, with m cells pending on its side
pub record Opens {A C : Type 0} (as_entry : C → Entry A) (zuniq_in : C → ℕ) (a : C) (m : ℕ) : Type 0 where
  pub good : Good as_entry zuniq_in a
  pub deep : (as_entry a).depth < 29
  pub room : m + 3 ≤ 87

module _ {A C : Type 0} {split : Split A} {rule : Rule A} {as_entry : C → Entry A} {zuniq_in : C → ℕ} {lz : List ℕ} {lv : List A} {rz : List ℕ} {rv : List A} {Wrote : List (Entry A) → Type 0} {l r : At C} {lp rp : List C} where
  pub walking_start : l ≡ side_start → r ≡ side_start → length lp ≡ 87 → length rp ≡ 87 → Holds lz lv → Holds rz rv → Wrote [] → Walking split rule as_entry zuniq_in lz lv rz rv Wrote l r lp rp
  unfolding pending kept
  walking_start e f p q h k w = rw (e, f) (record {
    done = [];
    state = record {
      on_left = record { size = p; room = omega arith; piled = tt; good = λ i d u. absurd (omega arith); known = λ t. absurd (true≢false t) };
      on_right = record { size = q; room = omega arith; piled = tt; good = λ i d u. absurd (omega arith); known = λ t. absurd (true≢false t) };
      rises_left = h.rises;
      rises_right = k.rises;
      whole = refl;
    };
    wrote = w;
  })

  pub Walking-part : (w : Walking split rule as_entry zuniq_in lz lv rz rv Wrote l r lp rp) → (o : List (Entry A)) × (kept rule w.done ++ o ≡ kept_cells split rule lz lv rz rv)
  Walking-part w = kept-part split rule as_entry zuniq_in lz lv rz rv w.done l r lp rp w.state

  -- Both heads are fetched.
  pub Walking-ready : {l' r' : At C} {i j : ℕ} (x y : C) → Holds lz lv → Holds rz rv → Walking split rule as_entry zuniq_in lz lv rz rv Wrote l r lp rp
      → i ≡ l.pending - 1 → x ≡ get_or lp i x → Advanced as_entry zuniq_in lz lv x l l' → j ≡ r.pending - 1 → y ≡ get_or rp j y → Advanced as_entry zuniq_in rz rv y r r'
      → Ready split rule as_entry zuniq_in lz lv rz rv Wrote l' r' lp rp (left_over as_entry lz lv rz rv l r lp rp)
  Walking-ready {l'} {r'} {i} {j} x y h k w e p f g q v =
      let a = filled as_entry zuniq_in lz lv h.paired 29 l l' lp x (subst (λ (i : ℕ). x ≡ get_or lp i x) e p) w.state.on_left f in
      let b = filled as_entry zuniq_in rz rv k.paired 29 r r' rp y (subst (λ (j : ℕ). y ≡ get_or rp j y) g q) w.state.on_right v in
      record {
        walking = record { done = w.done; state = State-filled split as_entry zuniq_in 29 (from lz lv) (from rz rv) w.done l r l' r' lp rp w.state a b; wrote = w.wrote };
        same = λ t. weight 29 (a.same t) + weight 29 (b.same t);
        fresh_left = a.fresh;
        fresh_right = b.fresh;
      }

  module _ {m : ℕ} (w : Ready split rule as_entry zuniq_in lz lv rz rv Wrote l r lp rp m) where
    abbrev done : List (Entry (Seen A))
    done = w.walking.done

    abbrev ReadyWith : Option C → Option C → Type 0
    ReadyWith x y = State split as_entry zuniq_in 29 (from lz lv) (from rz rv) done (side_at x l.pending l.place false) (side_at y r.pending r.place false) lp rp

    with_heads : (x y : Option C) → l.head ≡ x → r.head ≡ y → ReadyWith x y
    with_heads x y p q = subst (λ (x : Option C). ReadyWith x y) p (subst (λ (y : Option C). ReadyWith l.head y) q w.walking.state)

    -- A head holds its zuniq.
    left_good : (a : C) → l.head ≡ some a → Good as_entry zuniq_in a
    left_good a q = (with_heads (some a) r.head q refl).on_left.known refl

    right_good : (b : C) → r.head ≡ some b → Good as_entry zuniq_in b
    right_good b q = (with_heads l.head (some b) refl q).on_right.known refl

    pub heads_shallow : Shallow as_entry l.head × Shallow as_entry r.head
    heads_shallow = (go l.head (λ a q. (left_good a q).deep), go r.head (λ b q. (right_good b q).deep))
      where
        go : (x : Option C) → ((a : C) → x ≡ some a → (as_entry a).depth ≤ 29) → Shallow as_entry x
        go none k = tt
        go (some a) k = k a refl

    -- No head has been used up.
    pub left_stays : l.taken ≡ false
    left_stays = ap (λ (s : At C). s.taken) w.fresh_left

    pub right_stays : r.taken ≡ false
    right_stays = ap (λ (s : At C). s.taken) w.fresh_right

    -- At the end all has been kept that the rule keeps.
    pub ready_ends : Turned as_entry 29 l.head r.head ends → Wrote (kept_cells split rule lz lv rz rv)
    ready_ends t = subst (λ (o : List (Entry (Seen A))). Wrote (kept rule o)) (state_ends split as_entry zuniq_in 29 (from lz lv) (from rz rv) done lp rp _ _ _ _ _ _ w.walking.state t) w.walking.wrote

    -- ---- a cell that is shown
    module _ (e : Saw C) (t : Turned as_entry 29 l.head r.head (shows e)) where
      shown : State split as_entry zuniq_in 29 (from lz lv) (from rz rv) (done ++ (shown_as as_entry e ∷ [])) (used (takes_left e) l) (used (takes_right e) r) lp rp
      shown = State-shown split as_entry zuniq_in 29 (from lz lv) (from rz rv) done lp rp _ _ _ _ _ _ e w.walking.state t

      -- It is one of the overlay's cells.
      pub shown_whole : (o : List (Entry (Seen A))) × ((done ++ (shown_as as_entry e ∷ [])) ++ o ≡ overlay split 29 (entries_of lz lv) (entries_of rz rv))
      shown_whole = (_, shown.whole)

      -- What has been kept, with the cell, is the first part of all that is.
      pub shown_part : (o : List (Entry A)) × ((kept rule done ++ kept_of rule (shown_as as_entry e)) ++ o ≡ kept_cells split rule lz lv rz rv)
      shown_part =
          let p = kept-part split rule as_entry zuniq_in lz lv rz rv _ _ _ lp rp shown in
          (p.0, ap (λ (c : List (Entry A)). c ++ p.0) (sym (kept_next rule done (shown_as as_entry e))) ∙ p.1)

      -- The heads that it takes are used up.
      pub ready_shown : {tl tr : Bool} (Wrote' : List (Entry A) → Type 0) → tl ≡ takes_left e → tr ≡ takes_right e → ((o : List (Entry A)) → Wrote o → Wrote' (o ++ kept_of rule (shown_as as_entry e)))
          → Walking split rule as_entry zuniq_in lz lv rz rv Wrote' (used tl l) (used tr r) lp rp
      ready_shown Wrote' p q k = rw (p, q) (record { done = done ++ (shown_as as_entry e ∷ []); state = shown; wrote = subst Wrote' (sym (kept_next rule done (shown_as as_entry e))) (k (kept rule done) w.walking.wrote) })

    -- Its zuniq is that of its depth and hash,
    pub shown_good : (e : Saw C) → Turned as_entry 29 l.head r.head (shows e) → IsZuniqOf 29 (zuniq_shown zuniq_in e) (shown_as as_entry e).depth (shown_as as_entry e).hash
    shown_good (saw_left a) t = left_good a t.0
    shown_good (saw_right b) t = right_good b t.0
    shown_good (saw_both a b) t = left_good a t.0

    -- and without it less is left.
    less : (e : Saw C) → Turned as_entry 29 l.head r.head (shows e)
        → left_over as_entry lz lv rz rv (used (takes_left e) l) (used (takes_right e) r) lp rp < left_over as_entry lz lv rz rv (used false l) (used false r) lp rp
    less (saw_left a) t = rw t.0 (omega (arith, one-le-pow (29 - (as_entry a).depth) 8 (omega arith)))
    less (saw_right b) t = rw t.0 (omega (arith, one-le-pow (29 - (as_entry b).depth) 8 (omega arith)))
    less (saw_both a b) t = rw (t.0, t.1) (omega (arith, one-le-pow (29 - (as_entry a).depth) 8 (omega arith), one-le-pow (29 - (as_entry b).depth) 8 (omega arith)))

    pub shown_less : {tl tr : Bool} (e : Saw C) → Turned as_entry 29 l.head r.head (shows e) → tl ≡ takes_left e → tr ≡ takes_right e → left_over as_entry lz lv rz rv (used tl l) (used tr r) lp rp < m
    shown_less e t p q = rw (p, q) (omega (arith, less e t, w.same))

    -- ---- a head that is split
    module _ {a : C} (t : Turned as_entry 29 l.head r.head (opens_left a)) where
      left_state : ReadyWith (some a) (some t.0)
      left_state = with_heads (some a) (some t.0) t.1 t.2

      left_deep : (as_entry a).depth < 29
      left_deep = omega (arith, t.3.0, (right_good t.0 t.2).deep)

      pub Opens-left : Opens as_entry zuniq_in a l.pending
      Opens-left = record { good = left_good a t.1; deep = left_deep; room = open_room as_entry zuniq_in 29 (from lz lv) split a lp _ _ left_state.on_left left_deep }

      module _ {c3 c2 c1 c0 : C} {l' : At C} (k3 : ChildOf as_entry zuniq_in split a 3 c3) (k2 : ChildOf as_entry zuniq_in split a 2 c2) (k1 : ChildOf as_entry zuniq_in split a 1 c1) (k0 : ChildOf as_entry zuniq_in split a 0 c0) (q : l' ≡ opened c0 l) where
        pub left_opened : Walking split rule as_entry zuniq_in lz lv rz rv Wrote l' r (pushed lp l.pending c3 c2 c1) rp
        left_opened =
            let s = State-open_left split as_entry zuniq_in 29 (from lz lv) (from rz rv) done lp rp _ _ _ _ a t.0 left_state c3 c2 c1 c0 t.3 left_deep k3 k2 k1 k0 in
            rw (q, w.fresh_right, t.2) (record { done = done; state = s; wrote = w.walking.wrote })

        pub left_opened_less : left_over as_entry lz lv rz rv l' r (pushed lp l.pending c3 c2 c1) rp < m
        left_opened_less =
            let z = ap (weight 29) (open_to_come as_entry zuniq_in 29 (from lz lv) split a lp l.pending l.place left_state.on_left left_deep c3 c2 c1 c0 k3 k2 k1 k0) in
            let e = ap (λ (x : Option C). weight 29 (to_come as_entry (from lz lv) (side_at x l.pending l.place false) lp)) t.1 in
            let f = ap (λ (s : At C). weight 29 (to_come as_entry (from lz lv) s (pushed lp l.pending c3 c2 c1))) q in
            let g = ap (λ (s : At C). weight 29 (to_come as_entry (from rz rv) s rp)) w.fresh_right in
            omega (arith, w.same, weight-open split 29 (as_entry a) (to_come as_entry (from lz lv) (used true l) lp) left_deep)

    module _ {b : C} (t : Turned as_entry 29 l.head r.head (opens_right b)) where
      right_state : ReadyWith (some t.0) (some b)
      right_state = with_heads (some t.0) (some b) t.1 t.2

      right_deep : (as_entry b).depth < 29
      right_deep = omega (arith, t.3.0, (left_good t.0 t.1).deep)

      pub Opens-right : Opens as_entry zuniq_in b r.pending
      Opens-right = record { good = right_good b t.2; deep = right_deep; room = open_room as_entry zuniq_in 29 (from rz rv) split b rp _ _ right_state.on_right right_deep }

      module _ {c3 c2 c1 c0 : C} {r' : At C} (k3 : ChildOf as_entry zuniq_in split b 3 c3) (k2 : ChildOf as_entry zuniq_in split b 2 c2) (k1 : ChildOf as_entry zuniq_in split b 1 c1) (k0 : ChildOf as_entry zuniq_in split b 0 c0) (q : r' ≡ opened c0 r) where
        pub right_opened : Walking split rule as_entry zuniq_in lz lv rz rv Wrote l r' lp (pushed rp r.pending c3 c2 c1)
        right_opened =
            let s = State-open_right split as_entry zuniq_in 29 (from lz lv) (from rz rv) done lp rp _ _ _ _ t.0 b right_state c3 c2 c1 c0 t.3 right_deep k3 k2 k1 k0 in
            rw (q, w.fresh_left, t.1) (record { done = done; state = s; wrote = w.walking.wrote })

        pub right_opened_less : left_over as_entry lz lv rz rv l r' lp (pushed rp r.pending c3 c2 c1) < m
        right_opened_less =
            let z = ap (weight 29) (open_to_come as_entry zuniq_in 29 (from rz rv) split b rp r.pending r.place right_state.on_right right_deep c3 c2 c1 c0 k3 k2 k1 k0) in
            let e = ap (λ (y : Option C). weight 29 (to_come as_entry (from rz rv) (side_at y r.pending r.place false) rp)) t.2 in
            let f = ap (λ (s : At C). weight 29 (to_come as_entry (from rz rv) s (pushed rp r.pending c3 c2 c1))) q in
            let g = ap (λ (s : At C). weight 29 (to_come as_entry (from lz lv) s lp)) w.fresh_left in
            omega (arith, w.same, weight-open split 29 (as_entry b) (to_come as_entry (from rz rv) (used true r) rp) right_deep)
