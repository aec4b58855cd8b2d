-- Four siblings in a buffer: their zuniqs are evenly spaced, and finding them there is finding the quad that a step merges.
-- Assumes nothing.
use mathlib.Core.Path.{◌≡◌, refl, ap, sym, ◌∙◌}
use mathlib.Core.Bool.{Bool, true, false, ◌&&◌, cond, and_comm, and_assoc, and-false, false≢true}
use mathlib.Core.List.{List, [], ◌∷◌}
use mathlib.Core.Option.{Option, none, map}
use Prim.Native.Nat.{ℕ, zero, suc, ◌+◌, ◌*◌, ◌≤◌, ◌<◌, ◌/◌, ◌%◌, ◌-◌, ◌^◌}
use native.Mathlib.Omega.{arith}
use lib.Dec.{eqb}
use lib.ListN.{length, get_or}
use borrow.Author.Tests.{eq-eqb, ne_eqb, eqb-true, eqb-false, le-leb, lt-leb}
use Rattle.zuniq.specs.Codec.{zuniq, IsZuniqOf}
use Rattle.zuniq.proofs.Basics.{and_is_true, is_false, four_pow_pos}
use Rattle.zuniq.proofs.Codec.{zuniq-injective}
use Rattle.build.specs.Map.{Entry, entry, Merger}
use Rattle.build.specs.Stack.{is_child, step}
use Rattle.build.specs.Buffers.{held}
use Rattle.build.specs.Standing.{Stands, quad_at}
use Rattle.build.proofs.Places.{held-suc, held-length}

-- ---- the zuniqs of siblings
-- Behind a fourth child with the zuniq z, the other three are g, 2 g and 3 g below it.
pub record Spaced (K d h z g : ℕ) : Type 0 where
  pub room : 3 * g < z
  pub third : z - g ≡ zuniq K d (4 * (h / 4) + 2)
  pub second : z - 2 * g ≡ zuniq K d (4 * (h / 4) + 1)
  pub first : z - 3 * g ≡ zuniq K d (4 * (h / 4) + 0)

pub spaced : (K d h z g : ℕ) → IsZuniqOf K z d h → h % 4 ≡ 3 → g ≡ 2 * 4 ^ (K - d) → Spaced K d h z g
unfolding zuniq
spaced K d h z g v o e =
    let q = h / 4 in
    let w = 4 ^ (K - d) in
    let p = four_pow_pos (K - d) in
    let s : h ≡ 4 * q + 3 = omega arith in
    let is : z ≡ (2 * (4 * q + 3) + 1) * w = v.is ∙ ap (λ (n : ℕ). (2 * n + 1) * w) s in
    record { room = omega arith; third = omega arith; second = omega arith; first = omega arith }

-- So that finding the four behind a fourth child takes three comparisons.
pub quad_spaced : (K n d h g : ℕ) (zs : List ℕ) → h % 4 ≡ 3 → 4 ≤ n → Spaced K d h (get_or zs (n - 1) 0) g
    → quad_at K n zs d h
    ≡ (eqb (get_or zs (n - 2) 0) (get_or zs (n - 1) 0 - g)
    && (eqb (get_or zs (n - 3) 0) (get_or zs (n - 1) 0 - 2 * g)
    && eqb (get_or zs (n - 4) 0) (get_or zs (n - 1) 0 - 3 * g)))
unfolding quad_at
quad_spaced K n d h g zs o p s = rw (eq-eqb (h % 4) 3 o, le-leb 4 n p, s.third, s.second, s.first) refl

-- ---- the quad that a step merges
reversed : (a b c d : Bool) → (a && (b && (c && d))) ≡ (d && (c && (b && a)))
reversed a b c d = and_comm a (b && (c && d)) ∙ ap (λ (t : Bool). t && a) (and_comm b (c && d) ∙ ap (λ (t : Bool). t && b) (and_comm c d)) ∙ simp and_assoc

module _ {A : Type 0} (K : ℕ) where
  -- An entry is child i of (d - 1, g) exactly if its zuniq is that of (d, 4 g + i).
  child_test : (d g i z e h : ℕ) (x : A) → 0 < d → d ≤ K → IsZuniqOf K z e h → is_child (d - 1) g i (entry e h x) ≡ eqb z (zuniq K d (4 * g + i))
  child_test d g i z e h x p q v = go (eqb z (zuniq K d (4 * g + i))) refl
    where
      up : suc (d - 1) ≡ d
      up = omega arith

      go : (b : Bool) → eqb z (zuniq K d (4 * g + i)) ≡ b → is_child (d - 1) g i (entry e h x) ≡ b
      go true t =
          let s = zuniq-injective K e h d (4 * g + i) v.deep q (sym v.is ∙ eqb-true z (zuniq K d (4 * g + i)) t) in
          rw (up, eq-eqb e d s.0, eq-eqb h (4 * g + i) s.1) refl
      go false t = is_false _ (λ y.
          let s = and_is_true (eqb e (suc (d - 1))) (eqb h (4 * g + i)) y in
          let a : e ≡ d = eqb-true e (suc (d - 1)) s.0 ∙ up in
          let b : h ≡ 4 * g + i = eqb-true h (4 * g + i) s.1 in
          false≢true (sym t ∙ eq-eqb z (zuniq K d (4 * g + i)) (v.is ∙ (λ j. zuniq K (a j) (b j)))))

  -- The last of four is the fourth child of its own parent exactly by the last digit of its hash.
  fourth_test : (d h : ℕ) (x : A) → 0 < d → is_child (d - 1) (h / 4) 3 (entry d h x) ≡ eqb (h % 4) 3
  fourth_test d h x p = go (eqb (h % 4) 3) refl
    where
      up : suc (d - 1) ≡ d
      up = omega arith

      go : (b : Bool) → eqb (h % 4) 3 ≡ b → is_child (d - 1) (h / 4) 3 (entry d h x) ≡ b
      go true t = let o = eqb-true (h % 4) 3 t in rw (up, eq-eqb d d refl, eq-eqb h (4 * (h / 4) + 3) (omega arith)) refl
      go false t = let o = eqb-false (h % 4) 3 t in rw (up, eq-eqb d d refl, ne_eqb h (4 * (h / 4) + 3) (λ e. o (omega arith))) refl

-- A map of fewer than four entries has no step.
step-short : {A : Type 0} (accept : Merger A) (s : List (Entry A)) → length s < 4 → step accept s ≡ none
unfolding step
step-short accept [] l = refl
step-short accept (a ∷ []) l = refl
step-short accept (a ∷ b ∷ []) l = refl
step-short accept (a ∷ b ∷ c ∷ []) l = refl
step-short accept (a ∷ b ∷ c ∷ e ∷ s) l = absurd (omega arith)

module _ {A : Type 0} (accept : Merger A) (K : ℕ) (u : A) (zs : List ℕ) (vs : List A) where
  -- what a step makes of the map in the first n places, whose last entry is (d, h): read off the last four places
  abbrev pub step_at : ℕ → ℕ → ℕ → Option (List (Entry A))
  step_at n d h =
      cond (quad_at K n zs d h)
      (map (λ x. entry (d - 1) (h / 4) x ∷ held K (n - 4) zs vs) (accept (d - 1) (h / 4) (get_or vs (n - 4) u) (get_or vs (n - 3) u) (get_or vs (n - 2) u) (get_or vs (n - 1) u)))
      none

  few : (n d h : ℕ) → n < 4 → Stands K n zs vs → step accept (held K n zs vs) ≡ step_at n d h
  unfolding quad_at
  few n d h l w = step-short accept (held K n zs vs) (omega (arith, held-length K u n zs vs w)) ∙ rw (lt-leb 4 n l, and-false (eqb (h % 4) 3)) refl

  many : (k d h : ℕ) → 0 < d → Stands K (suc (suc (suc (suc k)))) zs vs → IsZuniqOf K (get_or zs (suc (suc (suc k))) 0) d h
      → step accept (held K (suc (suc (suc (suc k)))) zs vs) ≡ step_at (suc (suc (suc (suc k)))) d h
  unfolding step quad_at
  many k d h p w v =
      let v2 = w.valid (suc (suc k)) (omega arith) in
      let v1 = w.valid (suc k) (omega arith) in
      let v0 = w.valid k (omega arith) in
      let z = w.zuniqs in
      let y = w.values in
      let g = h / 4 in
      let n = suc (suc (suc (suc k))) in
      let m4 : n - 4 ≡ k = omega arith in
      let m3 : n - 3 ≡ suc k = omega arith in
      let m2 : n - 2 ≡ suc (suc k) = omega arith in
      let m1 : n - 1 ≡ suc (suc (suc k)) = omega arith in
      rw (
        held-suc K u (suc (suc (suc k))) zs vs d h (omega arith) (omega arith) v,
        held-suc K u (suc (suc k)) zs vs v2.0 v2.1 (omega arith) (omega arith) v2.2,
        held-suc K u (suc k) zs vs v1.0 v1.1 (omega arith) (omega arith) v1.2,
        held-suc K u k zs vs v0.0 v0.1 (omega arith) (omega arith) v0.2,
        m1,
        m2,
        m3,
        m4,
        le-leb 4 n (omega arith),
        child_test K d g 0 (get_or zs k 0) v0.0 v0.1 (get_or vs k u) p v.deep v0.2,
        child_test K d g 1 (get_or zs (suc k) 0) v1.0 v1.1 (get_or vs (suc k) u) p v.deep v1.2,
        child_test K d g 2 (get_or zs (suc (suc k)) 0) v2.0 v2.1 (get_or vs (suc (suc k)) u) p v.deep v2.2,
        fourth_test K d h (get_or vs (suc (suc (suc k))) u) p,
        reversed (eqb (get_or zs k 0) (zuniq K d (4 * g + 0))) (eqb (get_or zs (suc k) 0) (zuniq K d (4 * g + 1))) (eqb (get_or zs (suc (suc k)) 0) (zuniq K d (4 * g + 2))) (eqb (h % 4) 3),
      )
      refl

  -- The step on the map in the first n places, read off the last four of them.
  pub step_at_lem : (n d h : ℕ) → Stands K n zs vs → 0 < d → IsZuniqOf K (get_or zs (n - 1) 0) d h → step accept (held K n zs vs) ≡ step_at n d h
  step_at_lem zero d h w p v = few zero d h (omega arith) w
  step_at_lem (suc zero) d h w p v = few (suc zero) d h (omega arith) w
  step_at_lem (suc (suc zero)) d h w p v = few (suc (suc zero)) d h (omega arith) w
  step_at_lem (suc (suc (suc zero))) d h w p v = few (suc (suc (suc zero))) d h (omega arith) w
  step_at_lem (suc (suc (suc (suc k)))) d h w p v =
      let e : suc (suc (suc (suc k))) - 1 ≡ suc (suc (suc k)) = omega arith in
      many k d h p w (rw e at v)
