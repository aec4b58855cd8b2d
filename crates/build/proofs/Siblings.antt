-- Adding four siblings at once, for every type of values and every merger. Assumes nothing.
use mathlib.Core.Path.{◌≡◌, refl, ap, sym, ◌∙◌}
use mathlib.Core.Bool.{true, ◌&&◌}
use mathlib.Core.List.{List, ◌∷◌, reverse_aux}
use mathlib.Core.Option.{Option, none, some, map}
use Prim.Native.Nat.{ℕ, suc, ◌+◌, ◌*◌, ◌/◌, ◌%◌, ◌-◌, ◌≤◌, ◌<◌}
use native.Mathlib.Omega.{arith}
use lib.Dec.{leb, ltb}
use lib.ListN.{length, get_or, set, length-set}
use borrow.Author.Tests.{leb-true, ltb-true, eqb-true}
use Rattle.zuniq.specs.Cells.{n_hash}
use Rattle.zuniq.specs.Codec.{zuniq, IsZuniqOf}
use Rattle.zuniq.proofs.Basics.{and_is_true}
use Rattle.build.specs.Map.{Entry, entry, Merger}
use Rattle.build.specs.Stack.{step, collapse, run}
use Rattle.build.specs.Buffers.{held}
use Rattle.build.specs.Standing.{Stands, Rising, siblings_from, siblings, Collapsed, Pushed, Added}
use Rattle.build.proofs.Places.{Stored, stored, Behind-trans}
use Rattle.build.proofs.Steps.{quad, Stepped, stepped, step_is, step-quad, collapse-stops, collapse-steps}

-- Where hashes rise, the first and the fourth tell four siblings, which have a parent.
pub record AreSiblings (D : ℕ) (hs : List ℕ) (i : ℕ) : Type 0 where
  pub deep : 0 < D
  pub within : i + 4 ≤ length hs
  pub first : get_or hs i 0 % 4 ≡ 0
  pub second : get_or hs (i + 1) 0 ≡ get_or hs i 0 + 1
  pub third : get_or hs (i + 2) 0 ≡ get_or hs i 0 + 2
  pub fourth : get_or hs (i + 3) 0 ≡ get_or hs i 0 + 3
  pub below : get_or hs i 0 + 3 < n_hash D

pub siblings_from_lem : (D : ℕ) (hs : List ℕ) (i : ℕ) → Rising D hs → i < length hs → (ltb 0 D && siblings_from hs i) ≡ true → AreSiblings D hs i
unfolding siblings_from
siblings_from_lem D hs i r p e =
    let k = and_is_true (ltb 0 D) _ e in
    let e0 = and_is_true (leb 4 (length hs - i)) _ k.1 in
    let w = leb-true 4 (length hs - i) e0.0 in
    let h3 = eqb-true (get_or hs (i + 3) 0) (4 * (get_or hs i 0 / 4) + 3) e0.1 in
    let i2 : i + 1 + 1 ≡ i + 2 = omega arith in
    let i3 : i + 2 + 1 ≡ i + 3 = omega arith in
    let a0 = r.above i (omega arith) in
    let a1 = rw i2 at (r.above (i + 1) (omega arith)) in
    let a2 = rw i3 at (r.above (i + 2) (omega arith)) in
    let b = r.below (i + 3) (omega arith) in
    record { deep = ltb-true 0 D k.0; within = omega arith; first = omega arith; second = omega arith; third = omega arith; fourth = omega arith; below = omega arith }

-- Four siblings put behind n entries, one after the other.
pub siblings-stored : {A : Type 0} {K n : ℕ} {zs : List ℕ} {vs : List A} (d h : ℕ) (a b c e : A) → Stands K n zs vs → n + 4 ≤ length zs → n + 4 ≤ length vs → d ≤ K → h + 3 < n_hash d
    → {z0 z1 z2 z3 : ℕ} → z0 ≡ zuniq K d h → z1 ≡ zuniq K d (h + 1) → z2 ≡ zuniq K d (h + 2) → z3 ≡ zuniq K d (h + 3)
    → {zs1 zs2 zs3 zs4 : List ℕ} {vs1 vs2 vs3 vs4 : List A}
    → (zs1 ≡ set zs n z0) × (vs1 ≡ set vs n a) → (zs2 ≡ set zs1 (n + 1) z1) × (vs2 ≡ set vs1 (n + 1) b)
    → (zs3 ≡ set zs2 (n + 2) z2) × (vs3 ≡ set vs2 (n + 2) c) → (zs4 ≡ set zs3 (n + 3) z3) × (vs4 ≡ set vs3 (n + 3) e)
    → Stands K (n + 4) zs4 vs4 × (held K (n + 4) zs4 vs4 ≡ reverse_aux (siblings d h a b c e) (held K n zs vs))
siblings-stored {A} {K} {n} {zs} {vs} d h a b c e w p q deep below {z0} {z1} {z2} {z3} i0 i1 i2 i3 {zs1} {zs2} {zs3} {zs4} {vs1} {vs2} {vs3} {vs4} e0 e1 e2 e3 =
    let n2 : n + 1 + 1 ≡ n + 2 = omega arith in
    let n3 : n + 2 + 1 ≡ n + 3 = omega arith in
    let n4 : n + 3 + 1 ≡ n + 4 = omega arith in
    let v0 : IsZuniqOf K z0 d h = record { deep = deep; hash = omega arith; is = i0 } in
    let v1 : IsZuniqOf K z1 d (h + 1) = record { deep = deep; hash = omega arith; is = i1 } in
    let v2 : IsZuniqOf K z2 d (h + 2) = record { deep = deep; hash = omega arith; is = i2 } in
    let v3 : IsZuniqOf K z3 d (h + 3) = record { deep = deep; hash = omega arith; is = i3 } in
    let l1 : length zs1 ≡ length zs = ap length e0.0 ∙ length-set zs n z0 in
    let m1 : length vs1 ≡ length vs = ap length e0.1 ∙ length-set vs n a in
    let l2 : length zs2 ≡ length zs = ap length e1.0 ∙ length-set zs1 (n + 1) z1 ∙ l1 in
    let m2 : length vs2 ≡ length vs = ap length e1.1 ∙ length-set vs1 (n + 1) b ∙ m1 in
    let l3 : length zs3 ≡ length zs = ap length e2.0 ∙ length-set zs2 (n + 2) z2 ∙ l2 in
    let m3 : length vs3 ≡ length vs = ap length e2.1 ∙ length-set vs2 (n + 2) c ∙ m2 in
    let s0 : Stored K n z0 d h a zs vs zs1 vs1 = stored K w (omega arith) (omega arith) v0 e0 in
    let s1 : Stored K (n + 1) z1 d (h + 1) b zs1 vs1 zs2 vs2 = stored K s0.stands (omega arith) (omega arith) v1 e1 in
    let s2 : Stored K (n + 2) z2 d (h + 2) c zs2 vs2 zs3 vs3 = stored K (rw n2 at s1.stands) (omega arith) (omega arith) v2 e2 in
    let s3 : Stored K (n + 3) z3 d (h + 3) e zs3 vs3 zs4 vs4 = stored K (rw n3 at s2.stands) (omega arith) (omega arith) v3 e3 in
    (rw n4 at s3.stands, (rw n4 at s3.map_is) ∙ ap (λ s. entry d (h + 3) e ∷ s) ((rw n3 at s2.map_is) ∙ ap (λ s. entry d (h + 2) c ∷ s) ((rw n2 at s1.map_is) ∙ ap (λ s. entry d (h + 1) b ∷ s) s0.map_is)))

module _ {A : Type 0} (accept : Merger A) where
  fourth : (l t : List (Entry A)) → Stepped accept l t → (e : Entry A) (s : List (Entry A)) → l ≡ e ∷ s → e.hash % 4 ≡ 3
  fourth l t (stepped d h a b c x v r q) e s p = let u : e ≡ entry (suc d) (4 * h + 3) x = cc in rw u (omega arith)

  -- Only a fourth child closes a quad: any other cell stays as it is appended.
  pub collapse-no_fourth : (e : Entry A) (s : List (Entry A)) → (e.hash % 4 ≡ 3 → ⊥) → collapse accept (e ∷ s) ≡ e ∷ s
  collapse-no_fourth e s k = collapse-stops accept (e ∷ s) (go (step accept (e ∷ s)) refl)
    where
      go : (o : Option (List (Entry A))) → step accept (e ∷ s) ≡ o → step accept (e ∷ s) ≡ none
      go none q = q
      go (some t) q = absurd (k (fourth (e ∷ s) t (step_is accept (e ∷ s) t q) e s refl))

  module _ (d h : ℕ) (a b c e : A) (s : List (Entry A)) (p : 0 < d) (q : h % 4 ≡ 0) where
    -- on top of s
    abbrev appended : List (Entry A)
    appended = entry d (h + 3) e ∷ entry d (h + 2) c ∷ entry d (h + 1) b ∷ entry d h a ∷ s

    appended-quad : appended ≡ quad (d - 1) (h / 4) a b c e s
    appended-quad =
        let up : suc (d - 1) ≡ d = omega arith in
        let h0 : 4 * (h / 4) + 0 ≡ h = omega arith in
        let h1 : 4 * (h / 4) + 1 ≡ h + 1 = omega arith in
        let h2 : 4 * (h / 4) + 2 ≡ h + 2 = omega arith in
        let h3 : 4 * (h / 4) + 3 ≡ h + 3 = omega arith in
        rw (up, h0, h1, h2, h3) refl

    run-siblings : run accept s (siblings d h a b c e) ≡ collapse accept appended
    unfolding run
    run-siblings =
        rw (
          collapse-no_fourth (entry d h a) s (λ f. omega arith),
          collapse-no_fourth (entry d (h + 1) b) (entry d h a ∷ s) (λ f. omega arith),
          collapse-no_fourth (entry d (h + 2) c) (entry d (h + 1) b ∷ entry d h a ∷ s) (λ f. omega arith),
        ) refl

    -- Four siblings that the merger keeps are appended,
    pub siblings-kept : accept (d - 1) (h / 4) a b c e ≡ none → run accept s (siblings d h a b c e) ≡ appended
    siblings-kept k =
        run-siblings
        ∙ collapse-stops accept appended (ap (step accept) appended-quad ∙ step-quad accept (d - 1) (h / 4) a b c e s ∙ ap (map (λ x. entry (d - 1) (h / 4) x ∷ s)) k)

    -- and instead of those that it accepts their parent is.
    pub siblings-merged : (x : A) → accept (d - 1) (h / 4) a b c e ≡ some x → run accept s (siblings d h a b c e) ≡ collapse accept (entry (d - 1) (h / 4) x ∷ s)
    siblings-merged x k =
        run-siblings ∙ ap (collapse accept) appended-quad
        ∙ collapse-steps accept (quad (d - 1) (h / 4) a b c e s) (entry (d - 1) (h / 4) x ∷ s) (stepped (d - 1) (h / 4) a b c e x s k)

-- ---- as the entries stand in the buffers
module _ {A : Type 0} {accept : Merger A} {K n d h : ℕ} {zs : List ℕ} {vs : List A} where
  module _ {z : ℕ} {x : A} {zs' : List ℕ} {vs' : List A} (s : Stored K n z d h x zs vs zs' vs') where
    -- A cell that is stored is pushed, if it is no fourth child,
    pub no_fourth_pushed : (h % 4 ≡ 3 → ⊥) → Pushed accept K n (entry d h x) zs vs (n + 1) zs' vs'
    no_fourth_pushed f = record { stands = s.stands; least = omega arith; is = s.map_is ∙ sym (collapse-no_fourth accept (entry d h x) (held K n zs vs) f); behind = s.behind }

    -- or else once the map is collapsed.
    pub Collapsed-pushed : {r : ℕ} {zs'' : List ℕ} {vs'' : List A} → Collapsed accept K (n + 1) zs' vs' r zs'' vs'' → Pushed accept K n (entry d h x) zs vs r zs'' vs''
    Collapsed-pushed w = record { stands = w.stands; least = w.least; is = w.is ∙ ap (collapse accept) s.map_is; behind = Behind-trans w.behind s.behind }

  module _ {a b c e : A} (p : 0 < d) (q : h % 4 ≡ 0) where
    -- Four siblings that the merger keeps are added by appending them,
    pub kept_added : accept (d - 1) (h / 4) a b c e ≡ none → {zs' : List ℕ} {vs' : List A}
        → Stands K (n + 4) zs' vs' × (held K (n + 4) zs' vs' ≡ reverse_aux (siblings d h a b c e) (held K n zs vs))
        → Added accept K n (siblings d h a b c e) zs vs (n + 4) zs' vs'
    kept_added k s = record { stands = s.0; least = omega arith; is = s.1 ∙ sym (siblings-kept accept d h a b c e (held K n zs vs) p q k) }

    -- and those that it accepts by pushing their parent.
    pub merged_added : {x : A} → accept (d - 1) (h / 4) a b c e ≡ some x → {r : ℕ} {zs' : List ℕ} {vs' : List A}
        → Pushed accept K n (entry (d - 1) (h / 4) x) zs vs r zs' vs' → Added accept K n (siblings d h a b c e) zs vs r zs' vs'
    merged_added {x} k w = record { stands = w.stands; least = omega (arith, w.least); is = w.is ∙ sym (siblings-merged accept d h a b c e (held K n zs vs) p q x k) }
