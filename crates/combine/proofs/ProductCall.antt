-- The product call: what one that is not refused leaves. Assumes nothing.
use Rattle.std.specs.Prelude.{Result, Ok, Err}
use mathlib.Core.Path.{◌≡◌, refl, ap, sym, ◌∙◌}
use mathlib.Core.Bool.{true, false}
use mathlib.Core.List.{List, reverse, ◌++◌}
use mathlib.Core.Option.{Option, none, some}
use Prim.Native.Nat.{ℕ, ◌-◌, ◌≤◌, ◌<◌}
use native.Mathlib.Omega.{arith}
use lib.Ieee.{Float, nan}
use lib.ListN.{length, take, replicate}
use borrow.Author.Tests.{lt-ltb, le-ltb}
use Rattle.refusal.specs.declared.Refusal.{Refusal}
use Rattle.protection.specs.Protected.{protected_refusal, RisingList}
use Rattle.protection.proofs.Lists.{accepted_iff_rising_list}
use Rattle.merger.specs.Floats.{0·0}
use Rattle.merger.specs.Merge.{accept_densities}
use Rattle.refusal.specs.Checks.{or_else}
use Rattle.build.specs.Map.{Entry}
use Rattle.build.specs.Buffers.{held, read_onto}
use Rattle.build.specs.Calls.{Buffers, Answer}
use Rattle.build.specs.Standing.{Added}
use Rattle.build.specs.Densities.{density_calls, densities_added}
use Rattle.build.proofs.Places.{held-length}
use Rattle.refusal.proofs.Checks.{or_else_none}
use Rattle.build.proofs.Accepted.{map_left}
use Rattle.combine.specs.Overlay.{overlay}
use Rattle.combine.specs.Rules.{kept, copy_density, product_rule, defined_product}
use Rattle.combine.specs.Densities.{some_not_finite}
use Rattle.combine.specs.Pool.{Given, entries, settings_refusal, factor_refusal, pairs_refusal, maps_refusal, places_refusal, finite_refusal, product_input_refusal, product_refusal, product_over, product_densities}
use Rattle.combine.proofs.Kept.{run-gives_combined}
use Rattle.combine.proofs.Passed.{Passed, passed, kept-deeper, combined-deeper}

-- What a walk that merges leaves, with every place after it cleared, told by the definition over all depths that there are.
module _ (P : List ℕ) (l r : List (Entry Float)) (M : ℕ) (T k : Float) (zs : List ℕ) (vs : List Float) where
  abbrev walked : List (Entry Float)
  walked = kept (product_rule k) (overlay copy_density 29 l r)

  product_left : (n : ℕ) (zs₁ : List ℕ) (vs₁ : List Float) (zs₂ : List ℕ) (vs₂ : List Float) → Added (accept_densities P M T) 29 0 walked zs vs n zs₁ vs₁
      → length zs₁ ≡ length zs → length vs₁ ≡ length vs → zs₂ ≡ take n zs₁ ++ replicate (length zs₁ - n) 0 → vs₂ ≡ take n vs₁ ++ replicate (length vs₁ - n) 0·0
      → (Ok n, zs₂, vs₂) ≡ product_over P 29 none l r M T k zs vs
  unfolding product_over held read_onto
  product_left n zs₁ vs₁ zs₂ vs₂ w lz lv ez ev =
      let accept = accept_densities P M T in
      let product = defined_product accept k 29 l r in
      let is : held 29 n zs₁ vs₁ ≡ reverse product = w.is ∙ run-gives_combined (product_rule k) accept copy_density 29 l r in
      let q : n ≡ length (held 29 n zs₁ vs₁) = sym (held-length 29 nan n zs₁ vs₁ w.stands) in
      ap (λ (m : ℕ). (Ok m, zs₂, vs₂)) q
      ∙ ap (λ (u : Buffers Float × Answer Refusal ℕ). (densities_added u.1, u.0.zuniqs, u.0.values)) (map_left (density_calls P 29 M T) nan (record { number = 0; zuniqs = zs; values = vs }) (reverse product) n zs₁ vs₁ zs₂ vs₂ w.stands is lz lv ez ev)

  -- what is known once the cells have been walked and counted
  abbrev after : Option Refusal
  after = or_else (finite_refusal walked) (places_refusal (length zs) (length walked))

  -- A product that is not finite is refused,
  pub product_not_finite : some_not_finite walked ≡ true → (Err Refusal.ProductNotFinite, zs, vs) ≡ product_over P 29 after l r M T k zs vs
  unfolding product_over finite_refusal
  product_not_finite q = rw q refl

  module _ (finite : some_not_finite walked ≡ false) (cells : ℕ) (c : cells ≡ length walked) where
    -- so is too little space,
    pub product_no_space : length zs < cells → (Err Refusal.NoSpace, zs, vs) ≡ product_over P 29 after l r M T k zs vs
    unfolding product_over finite_refusal places_refusal
    product_no_space u = rw (finite, lt-ltb (length zs) (length walked) (omega (arith, u, c))) refl

    -- and otherwise the product is made.
    pub product_made : cells ≤ length zs → (n : ℕ) (zs₁ : List ℕ) (vs₁ : List Float) (zs₂ : List ℕ) (vs₂ : List Float) → Added (accept_densities P M T) 29 0 walked zs vs n zs₁ vs₁
        → length zs₁ ≡ length zs → length vs₁ ≡ length vs → zs₂ ≡ take n zs₁ ++ replicate (length zs₁ - n) 0 → vs₂ ≡ take n vs₁ ++ replicate (length vs₁ - n) 0·0
        → (Ok n, zs₂, vs₂) ≡ product_over P 29 after l r M T k zs vs
    unfolding finite_refusal places_refusal
    product_made u n zs₁ vs₁ zs₂ vs₂ w lz lv ez ev =
        rw (finite, le-ltb (length zs) (length walked) (omega (arith, u, c))) (product_left n zs₁ vs₁ zs₂ vs₂ w lz lv ez ev)

-- ---- the call
module _ (P : List ℕ) (l r : Given Float) (M : ℕ) (T k : Float) (zs : List ℕ) (vs : List Float) where
  pub product_passes : product_input_refusal P l r M T k (length zs) (length vs) ≡ none → Passed l r (length zs) (length vs) × RisingList P
  unfolding product_input_refusal
  product_passes e =
      let a = or_else_none (settings_refusal l.depth r.depth M T) _ e in
      let b = or_else_none (factor_refusal k) _ a.1 in
      let f = or_else_none (protected_refusal 29 P) _ b.1 in
      let c = or_else_none (pairs_refusal (length l.zuniqs) (length l.values) (length r.zuniqs) (length r.values) (length zs) (length vs)) _ f.1 in
      let d = or_else_none (maps_refusal l r) _ c.1 in
      (passed l r M T (length zs) (length vs) a.0 c.0 d.0, ((accepted_iff_rising_list 29 P).0 f.0).rising)

  pub product_refused : (x : Refusal) → product_input_refusal P l r M T k (length zs) (length vs) ≡ some x → (Err x, zs, vs) ≡ product_densities P l r M T k zs vs
  unfolding product_densities product_refusal product_over
  product_refused x e = rw e refl

  pub product_done : product_input_refusal P l r M T k (length zs) (length vs) ≡ none → (t : Result ℕ Refusal × List ℕ × List Float)
      → t ≡ product_over P 29 (after P (entries l) (entries r) M T k zs vs) (entries l) (entries r) M T k zs vs → t ≡ product_densities P l r M T k zs vs
  unfolding product_densities product_refusal product_over
  product_done e t q =
      let p = (product_passes e).0 in
      rw e (q ∙ rw (kept-deeper l r _ _ p copy_density (product_rule k), combined-deeper l r _ _ p copy_density (product_rule k) (accept_densities P M T)) refl)
