-- Collapsing a map in two buffers, turn by turn: what is known before a turn, and what each way out and each turn leaves.
-- Over any type of values and any merger. Assumes nothing.
use mathlib.Core.Path.{◌≡◌, refl, sym, ◌∙◌, subst}
use mathlib.Core.Bool.{true, false}
use mathlib.Core.List.{List, ◌∷◌}
use mathlib.Core.Logic.{⊎_elim}
use mathlib.Core.Option.{none, some}
use Prim.Native.Nat.{ℕ, zero, suc, ◌+◌, ◌*◌, ◌≤◌, ◌<◌, ◌/◌, ◌%◌, ◌-◌}
use native.Mathlib.Numerals.{add-one}
use native.Mathlib.Omega.{arith}
use lib.ListN.{length, get_or, set}
use lib.Dec.{eqb, leb}
use lib.Seq.{get_or-set_same}
use borrow.Author.Tests.{leb-true}
use Rattle.zuniq.specs.Cells.{n_hash}
use Rattle.zuniq.specs.Codec.{zuniq, IsZuniqOf}
use Rattle.zuniq.proofs.Basics.{and_is_true, le_or_lt}
use Rattle.zuniq.proofs.Ranges.{child_valid_iff}
use Rattle.build.specs.Map.{Entry, entry, Merger}
use Rattle.build.specs.Stack.{step, collapse_up_to, collapse}
use Rattle.build.specs.Promises.{total, Sums}
use Rattle.build.specs.Buffers.{held}
use Rattle.build.specs.Standing.{Stands, quad_at, Collapsed}
use Rattle.build.proofs.Places.{held-suc, held-set, stands_set, fewer, Behind-same}
use Rattle.build.proofs.Quads.{step_at_lem}

-- A map without a step stays.
collapse_none : {A : Type 0} (accept : Merger A) (n : ℕ) (s : List (Entry A)) → step accept s ≡ none → collapse_up_to accept n s ≡ s
unfolding collapse_up_to
collapse_none accept zero s e = refl
collapse_none accept (suc n) s e = rw (e, collapse_up_to) refl

collapse_some : {A : Type 0} (accept : Merger A) (n : ℕ) (s t : List (Entry A)) → step accept s ≡ some t → collapse_up_to accept (suc n) s ≡ collapse_up_to accept n t
unfolding collapse_up_to
collapse_some accept n s t e = rw (e, collapse_up_to) refl

-- The parent of a cell in range.
pub parent_zuniq : {K z d h : ℕ} → 0 < d → IsZuniqOf K z d h → IsZuniqOf K (zuniq K (d - 1) (h / 4)) (d - 1) (h / 4)
parent_zuniq {K} {z} {d} {h} p v =
    let up : suc (d - 1) ≡ d = omega arith in
    let l : 4 * (h / 4) + h % 4 < n_hash (suc (d - 1)) = subst (λ (n : ℕ). 4 * (h / 4) + h % 4 < n_hash n) (sym up) (let e : 4 * (h / 4) + h % 4 ≡ h = omega arith in rw e v.hash) in
    record { deep = omega (arith, v.deep); hash = (child_valid_iff (d - 1) (h / 4) (h % 4) (omega arith)).0 l; is = refl }

-- Before a turn: n entries stand, (d, h) with the value x is the last, and collapsing them gives `goal`. u is what a place past
-- the end of the values reads as.
pub record Turning {A : Type 0} (accept : Merger A) (K : ℕ) (u : A) (goal : List (Entry A)) (n d h : ℕ) (x : A) (zs : List ℕ) (vs : List A) : Type 0 where
  pub stands : Stands K n zs vs
  pub some_left : 0 < n
  pub top : IsZuniqOf K (get_or zs (n - 1) 0) d h
  pub value : get_or vs (n - 1) u ≡ x
  pub goes : collapse_up_to accept d (held K n zs vs) ≡ goal

-- Where the last four are a quad, there are four.
quad_four : (K n : ℕ) (zs : List ℕ) (d h : ℕ) → quad_at K n zs d h ≡ true → 4 ≤ n
unfolding quad_at
quad_four K n zs d h e = leb-true 4 n (and_is_true (leb 4 n) _ (and_is_true (eqb (h % 4) 3) _ e).1).0

module _ {A : Type 0} {accept : Merger A} {K : ℕ} {u : A} where
  pub Turning-starts : (n : ℕ) {d h : ℕ} {x : A} {zs : List ℕ} {vs : List A} → Stands K n zs vs → 0 < n → IsZuniqOf K (get_or zs (n - 1) 0) d h → get_or vs (n - 1) u ≡ x
      → Turning accept K u (collapse accept (held K n zs vs)) n d h x zs vs
  unfolding collapse
  Turning-starts zero w p v y = absurd (omega arith)
  Turning-starts (suc n) {d} {h} {x} {zs} {vs} w p v y =
      let e : suc n - 1 ≡ n = omega arith in
      record { stands = w; some_left = p; top = v; value = y; goes = rw (held-suc K u n zs vs d h w.zuniqs w.values (rw e at v)) refl }

  module _ {goal : List (Entry A)} {n d h : ℕ} {last : A} {zs : List ℕ} {vs : List A} (t : Turning accept K u goal n d h last zs vs) where
    -- where the last four are a quad, there are four
    pub four_left : quad_at K n zs d h ≡ true → 4 ≤ n
    four_left e = quad_four K n zs d h e

    -- at depth 0, and where the last four are no quad or the merger keeps them, the map is what was to be reached
    pub turning_ends : d ≡ 0 → held K n zs vs ≡ goal
    unfolding collapse_up_to
    turning_ends e = subst (λ (m : ℕ). collapse_up_to accept m (held K n zs vs) ≡ goal) e t.goes

    stays : step accept (held K n zs vs) ≡ none → held K n zs vs ≡ goal
    stays e = sym (collapse_none accept d (held K n zs vs) e) ∙ t.goes

    pub no_quad_ends : 0 < d → quad_at K n zs d h ≡ false → held K n zs vs ≡ goal
    no_quad_ends p e = stays (step_at_lem accept K u zs vs n d h t.stands p t.top ∙ rw e refl)

    pub kept_ends : 0 < d → quad_at K n zs d h ≡ true → accept (d - 1) (h / 4) (get_or vs (n - 4) u) (get_or vs (n - 3) u) (get_or vs (n - 2) u) last ≡ none
        → held K n zs vs ≡ goal
    kept_ends p e a = stays (step_at_lem accept K u zs vs n d h t.stands p t.top ∙ rw (e, t.value, a) refl)

    -- a merged quad is one turn
    pub turns : {x : A} {z : ℕ} → 0 < d → z ≡ zuniq K (d - 1) (h / 4) → quad_at K n zs d h ≡ true
        → accept (d - 1) (h / 4) (get_or vs (n - 4) u) (get_or vs (n - 3) u) (get_or vs (n - 2) u) last ≡ some x
        → Turning accept K u goal (n - 4 + 1) (d - 1) (h / 4) x (set zs (n - 4) z) (set vs (n - 4) x)
    turns {x} {z} p y e a =
        let w = t.stands in
        let q = four_left e in
        let lz : n - 4 < length zs = omega (arith, w.zuniqs) in
        let lv : n - 4 < length vs = omega (arith, w.values) in
        let v : IsZuniqOf K z (d - 1) (h / 4) = rw y (parent_zuniq p t.top) in
        let i : n - 4 + 1 - 1 ≡ n - 4 = omega arith in
        let f : suc (d - 1) ≡ d = omega arith in
        let s : step accept (held K n zs vs) ≡ some (entry (d - 1) (h / 4) x ∷ held K (n - 4) zs vs) = step_at_lem accept K u zs vs n d h w p t.top ∙ rw (e, t.value, a) refl in
        record {
          stands = rw (add-one (n - 4)) (stands_set K n (n - 4) zs vs z (d - 1) (h / 4) x w (omega arith) lz lv v);
          some_left = omega arith;
          top = rw (i, get_or-set_same zs (n - 4) z 0 lz) v;
          value = rw i (get_or-set_same vs (n - 4) x u lv);
          goes =
              rw (add-one (n - 4), held-set K (n - 4) zs vs z (d - 1) (h / 4) x lz lv v)
              (sym (collapse_some accept (d - 1) (held K n zs vs) (entry (d - 1) (h / 4) x ∷ held K (n - 4) zs vs) s)
              ∙ subst (λ (m : ℕ). collapse_up_to accept m (held K n zs vs) ≡ goal) (sym f) t.goes);
        }

module _ {A : Type 0} (K : ℕ) (u : A) (figure : A → ℕ) (zs : List ℕ) (vs : List A) where
  total-suc : (n : ℕ) → Stands K (suc n) zs vs → total figure (held K (suc n) zs vs) ≡ figure (get_or vs n u) + total figure (held K n zs vs)
  total-suc n w = let v = w.valid n (omega arith) in rw (held-suc K u n zs vs v.0 v.1 w.zuniqs w.values v.2) refl

  -- The total of a map, with its last four entries apart.
  total-four : (n : ℕ) → 4 ≤ n → Stands K n zs vs
      → total figure (held K n zs vs)
      ≡ figure (get_or vs (n - 1) u) + (figure (get_or vs (n - 2) u) + (figure (get_or vs (n - 3) u) + (figure (get_or vs (n - 4) u) + total figure (held K (n - 4) zs vs))))
  total-four (suc (suc (suc (suc k)))) p w =
      let w3 = fewer K (suc (suc (suc k))) zs vs w in
      let w2 = fewer K (suc (suc k)) zs vs w3 in
      let w1 = fewer K (suc k) zs vs w2 in
      let n = suc (suc (suc (suc k))) in
      let m4 : n - 4 ≡ k = omega arith in
      let m3 : n - 3 ≡ suc k = omega arith in
      let m2 : n - 2 ≡ suc (suc k) = omega arith in
      let m1 : n - 1 ≡ suc (suc (suc k)) = omega arith in
      rw (m1, m2, m3, m4, total-suc (suc (suc (suc k))) w, total-suc (suc (suc k)) w3, total-suc (suc k) w2, total-suc k w1) refl
  total-four zero p w = absurd (omega arith)
  total-four (suc zero) p w = absurd (omega arith)
  total-four (suc (suc zero)) p w = absurd (omega arith)
  total-four (suc (suc (suc zero))) p w = absurd (omega arith)

  -- A quad that is replaced by a value with their sum leaves the total as it was.
  total-merged : (n z d h : ℕ) (x : A) → 4 ≤ n → Stands K n zs vs → IsZuniqOf K z d h
      → figure x ≡ figure (get_or vs (n - 4) u) + figure (get_or vs (n - 3) u) + figure (get_or vs (n - 2) u) + figure (get_or vs (n - 1) u)
      → total figure (held K (n - 4 + 1) (set zs (n - 4) z) (set vs (n - 4) x)) ≡ total figure (held K n zs vs)
  total-merged n z d h x p w v e =
      rw (add-one (n - 4), held-set K (n - 4) zs vs z d h x (omega (arith, w.zuniqs)) (omega (arith, w.values)) v)
      (omega (arith, total-four n p w))

module _ {A : Type 0} {accept : Merger A} {K : ℕ} {u : A} (figure : A → ℕ) {goal : List (Entry A)} {n d h : ℕ} {last : A} {zs : List ℕ} {vs : List A}
    (t : Turning accept K u goal n d h last zs vs) (e : quad_at K n zs d h ≡ true) where
  -- The last four are no more than the total,
  pub four_within : figure (get_or vs (n - 4) u) + figure (get_or vs (n - 3) u) + figure (get_or vs (n - 2) u) + figure last ≤ total figure (held K n zs vs)
  four_within = rw (← t.value) (omega (arith, total-four K u figure zs vs n (four_left t e) t.stands))

  -- and a turn leaves it as it was.
  pub turn_total : Sums accept figure → {x : A} {z : ℕ} → 0 < d → z ≡ zuniq K (d - 1) (h / 4)
      → accept (d - 1) (h / 4) (get_or vs (n - 4) u) (get_or vs (n - 3) u) (get_or vs (n - 2) u) last ≡ some x
      → total figure (held K (n - 4 + 1) (set zs (n - 4) z) (set vs (n - 4) x)) ≡ total figure (held K n zs vs)
  turn_total sums {x} {z} p y a =
      let v : IsZuniqOf K z (d - 1) (h / 4) = rw y (parent_zuniq p t.top) in
      let s = sums (d - 1) (h / 4) (get_or vs (n - 4) u) (get_or vs (n - 3) u) (get_or vs (n - 2) u) last x a in
      total-merged K u figure zs vs n z (d - 1) (h / 4) x (four_left t e) t.stands v (rw t.value s)

-- Where the last four are no quad, collapsing leaves the map as it stands.
pub no_quad_collapsed : {A : Type 0} {accept : Merger A} {K : ℕ} {u : A} {n d h : ℕ} {x : A} {zs : List ℕ} {vs : List A} → Turning accept K u (collapse accept (held K n zs vs)) n d h x zs vs
    → quad_at K n zs d h ≡ false → Collapsed accept K n zs vs n zs vs
no_quad_collapsed {d = d} t e = record {
  stands = t.stands;
  least = omega arith;
  is = ⊎_elim (λ z. turning_ends t (omega (arith, z))) (λ p. no_quad_ends t p e) (le_or_lt d 0);
  behind = Behind-same _ _ _;
}
