-- Density add calls: row 6 place by place, what a call that is not refused may rely on, and what it leaves. Assumes nothing.
use mathlib.Core.Path.{◌≡◌, refl, ap, sym, ◌∙◌}
use mathlib.Core.List.{List, [], ◌∷◌, ◌++◌}
use mathlib.Core.Option.{none}
use Prim.Native.Nat.{ℕ, ◌+◌, ◌-◌, ◌≤◌, ◌<◌}
use native.Mathlib.Numerals.{add-one}
use native.Mathlib.Omega.{arith}
use lib.Ieee.{Float, nan}
use lib.ListN.{length, get_or, take, drop, replicate, drop_of_length-le}
use lib.Seq.{drop-cons}
use Rattle.refusal.specs.declared.Refusal.{Refusal}
use Rattle.protection.specs.Protected.{protected_refusal, RisingList}
use Rattle.protection.proofs.Lists.{accepted_iff_rising_list}
use Rattle.merger.specs.Floats.{0·0, invalid_density}
use Rattle.merger.specs.Merge.{accept_densities}
use Rattle.std.specs.Prelude.{Result, Ok}
use Rattle.refusal.specs.Checks.{or_else, refused_if}
use Rattle.build.specs.Buffers.{batch, held}
use Rattle.build.specs.Calls.{Buffers, Answer}
use Rattle.build.specs.Standing.{Added}
use Rattle.build.specs.Map.{Entry}
use Rattle.build.specs.Promises.{total}
use Rattle.build.specs.Densities.{density_refusal, densities_refusal, density_calls, densities_added, add_densities}
use Rattle.build.proofs.Places.{held-length}
use Rattle.refusal.proofs.Checks.{or_else_none}
use Rattle.build.proofs.Accepted.{Accepted, accepted, call_left}

-- The densities from place i on: the one there, and those after it.
pub densities_at : (i : ℕ) (vs : List Float) → i < length vs
    → density_refusal i (drop i vs) ≡ or_else (refused_if (invalid_density (get_or vs i nan)) (Refusal.InvalidMapDensity i)) (density_refusal (i + 1) (drop (i + 1) vs))
unfolding density_refusal
densities_at i vs p = rw (drop-cons vs i nan p, add-one i) refl

pub densities_end : (i : ℕ) (vs : List Float) → length vs ≤ i → density_refusal i (drop i vs) ≡ none
unfolding density_refusal
densities_end i vs p = rw (drop_of_length-le vs p) refl

pub densities_accepted : (P : List ℕ) (D M : ℕ) (T : Float) (m places values : ℕ) (zs : List ℕ) (vs : List Float) (hs : List ℕ) (xs : List Float)
    → densities_refusal P D M T m places values zs vs hs xs ≡ none → Accepted invalid_density 29 D m places values zs hs xs × RisingList P
unfolding densities_refusal
densities_accepted P D M T m places values zs vs hs xs e =
    let a = or_else_none _ _ e in
    let l = or_else_none (protected_refusal 29 P) _ a.1 in
    let b = or_else_none _ _ l.1 in
    let c = or_else_none _ _ b.1 in
    let d = or_else_none (density_refusal 0 vs) _ c.1 in
    let f = or_else_none _ _ d.1 in
    (accepted invalid_density 29 D M T m places values zs hs xs a.0 b.0 c.0 f.0 f.1, ((accepted_iff_rising_list 29 P).0 l.0).rising)

-- Densities add nothing to a total.
pub no_total : (s : List (Entry Float)) → total (λ x. 0) s ≡ 0
no_total [] = refl
no_total (e ∷ s) = omega (arith, no_total s)

-- What an accepted call answers, and both buffers.
abbrev pub answer_of : ℕ → List ℕ → List Float → Result ℕ Refusal × List ℕ × List Float
answer_of n zs vs = (Ok n, zs, vs)

-- What an accepted call leaves, told by the definition.
pub densities_left : (P : List ℕ) (D M : ℕ) (T : Float) (m : ℕ) (zs : List ℕ) (vs : List Float) (hs : List ℕ) (xs : List Float)
    → densities_refusal P D M T m (length zs) (length vs) (take m zs) (take m vs) hs xs ≡ none
    → (n : ℕ) (zs₁ : List ℕ) (vs₁ : List Float) (zs₂ : List ℕ) (vs₂ : List Float) → Added (accept_densities P M T) 29 m (batch D hs xs) zs vs n zs₁ vs₁
    → length zs₁ ≡ length zs → length vs₁ ≡ length vs → zs₂ ≡ take n zs₁ ++ replicate (length zs₁ - n) 0 → vs₂ ≡ take n vs₁ ++ replicate (length vs₁ - n) 0·0
    → answer_of n zs₂ vs₂ ≡ add_densities P D M T m zs vs hs xs
unfolding add_densities
densities_left P D M T m zs vs hs xs e n zs₁ vs₁ zs₂ vs₂ w lz lv ez ev =
    let k : n ≡ length (held 29 n zs₁ vs₁) = sym (held-length 29 nan n zs₁ vs₁ w.stands) in
    ap (λ (k : ℕ). answer_of k zs₂ vs₂) k
    ∙ ap (λ (r : Buffers Float × Answer Refusal ℕ). (densities_added r.1, r.0.zuniqs, r.0.values))
    (call_left (density_calls P D M T) nan (record { number = m; zuniqs = zs; values = vs }) (record { hashes = hs; values = xs }) e n zs₁ vs₁ zs₂ vs₂ w lz lv ez ev)
