-- The call: its checks are the rows of the table, and what it answers and leaves in the buffers is what the definition says. Assumes
-- nothing.
use mathlib.Core.Path.{◌≡◌, refl}
use mathlib.Core.Bool.{◌||◌, not}
use mathlib.Core.List.{List, ◌++◌}
use mathlib.Core.Option.{Option, none, some}
use Prim.Native.Nat.{ℕ, ◌+◌, ◌-◌, ◌^◌, ◌≤◌, ◌<◌}
use lib.Dec.{eqb, ltb}
use lib.Ieee.{Float}
use lib.ListN.{length, take, replicate, length-map}
use native.Mathlib.Omega.{arith}
use borrow.Author.Tests.{lt-ltb, le-ltb, eqb-true, not-false}
use Rattle.refusal.specs.declared.Refusal.{Refusal}
use Rattle.zuniq.specs.Cells.{n_hash}
use Rattle.merger.specs.Floats.{0·0}
use Rattle.mom.specs.Map.{ValidMap, first_fault}
use Rattle.refusal.specs.Checks.{or_else, refused_if}
use Rattle.refusal.proofs.Checks.{or_else_none, refused_if-none}
use Rattle.build.specs.Buffers.{zuniq_of, value_of}
use Rattle.build.specs.Add.{map_refusal}
use Rattle.build.specs.Densities.{density_refusal}
use Rattle.build.proofs.Checking.{or_false_both, map_passes}
use Rattle.combine.specs.Slices.{entries_of, Holds}
use Rattle.combine.specs.Pool.{Given, pairs_refusal, places_refusal}
use Rattle.combine.proofs.Given.{entries_rise}
use Rattle.coverage.specs.Ranges.{ranges_of, padded, ranges_refusal}
use Rattle.coverage.specs.Promises.{Parted}
use Rattle.coverage.proofs.Given.{accepted_parted}
use Rattle.std.specs.Prelude.{Ok, Err}
use Rattle.clip.specs.Passes.{Aim}
use Rattle.clip.specs.Call.{clipped_of, clip_input_refusal, clip_refusal, clip_call}
use Rattle.clip.specs.Passes.{Taken}
use Rattle.clip.proofs.Tree.{clip_length}
use Rattle.clip.proofs.Levels.{sky_is}

pub pairs-pass : (lz lv rz rv places values : ℕ) → pairs_refusal lz lv rz rv places values ≡ none → (lz ≡ lv) × (rz ≡ rv) × (places ≡ values)
unfolding pairs_refusal
pairs-pass lz lv rz rv places values e =
    let b = or_false_both (not (eqb lz lv)) (not (eqb rz rv) || not (eqb places values)) (refused_if-none _ Refusal.LengthMismatch e) in
    let c = or_false_both (not (eqb rz rv)) (not (eqb places values)) b.1 in
    (eqb-true lz lv (not-false _ b.0), eqb-true rz rv (not-false _ c.0), eqb-true places values (not-false _ c.1))

-- The cells can be counted: there are no more of them than the sky has.
pub can_count : (mz : List ℕ) (mv : List Float) (ss es : List ℕ) → 0 + length (clipped_of mz mv ss es) < 2 ^ 64
can_count mz mv ss es = omega (arith, sky_is, clip_length 29 (entries_of mz mv) (ranges_of ss es))

-- What a call that passes the checks may rely on.
pub record Passed (m : Given Float) (ss es : List ℕ) (places values : ℕ) : Type 0 where
  pub refusal : clip_input_refusal m ss es places values ≡ none
  pub valid : ValidMap 29 m.depth m.zuniqs
  pub holds : Holds m.zuniqs m.values
  pub ranges : length ss ≡ length es
  pub parted : Parted 0 (n_hash 29) (ranges_of ss es)
  pub paired : places ≡ values

module _ (m : Given Float) (ss es : List ℕ) (places values : ℕ) where
  abbrev rows4 : Option Refusal
  rows4 = pairs_refusal (length m.zuniqs) (length m.values) (length ss) (length es) places values

  abbrev rows5 : Option Refusal
  rows5 = map_refusal (first_fault 29 m.depth m.zuniqs)

  abbrev rows6 : Option Refusal
  rows6 = density_refusal 0 m.values

  abbrev rows14 : Option Refusal
  rows14 = ranges_refusal (n_hash 29) 0 0 (ranges_of ss es)

  pub passes_all : clip_input_refusal m ss es places values ≡ none → Passed m ss es places values
  unfolding clip_input_refusal
  passes_all o =
      let a = or_else_none (refused_if (ltb 29 m.depth) Refusal.DepthOutOfRange) (or_else rows4 (or_else rows5 (or_else rows6 rows14))) o in
      let b = or_else_none rows4 (or_else rows5 (or_else rows6 rows14)) a.1 in
      let d = or_else_none rows5 (or_else rows6 rows14) b.1 in
      let f = or_else_none rows6 rows14 d.1 in
      let p = pairs-pass (length m.zuniqs) (length m.values) (length ss) (length es) places values b.0 in
      let v = map_passes 29 m.depth m.zuniqs d.0 in
      record {
        refusal = o;
        valid = v;
        holds = record { paired = p.0; valid = v.valid; rises = entries_rise m.depth m.zuniqs m.values p.0 v };
        ranges = p.1;
        parted = (accepted_parted (n_hash 29) 0 0 (ranges_of ss es)).0 f.1;
        paired = p.2;
      }

module _ (m : Given Float) (ss es : List ℕ) (zs : List ℕ) (vs : List Float) where
  pub call_refused : (r : Refusal) → clip_input_refusal m ss es (length zs) (length vs) ≡ some r → (Err r, zs, vs) ≡ clip_call m ss es zs vs
  unfolding clip_call clip_refusal
  call_refused r e = rw e refl

  module _ (p : Passed m ss es (length zs) (length vs)) where
    pub call_no_space : length zs < length (clipped_of m.zuniqs m.values ss es) → (Err Refusal.NoSpace, zs, vs) ≡ clip_call m ss es zs vs
    unfolding clip_call clip_refusal places_refusal
    call_no_space l = rw (p.refusal, lt-ltb (length zs) (length (clipped_of m.zuniqs m.values ss es)) l) refl

    pub call_clipped : (n : ℕ) (zs₁ : List ℕ) (vs₁ : List Float) (zs₂ : List ℕ) (vs₂ : List Float) → n ≡ length (clipped_of m.zuniqs m.values ss es) → n ≤ length zs
        → Taken Aim.Write 0 (clipped_of m.zuniqs m.values ss es) zs vs zs₁ vs₁ → length zs₁ ≡ length zs → length vs₁ ≡ length vs
        → zs₂ ≡ take n zs₁ ++ replicate (length zs₁ - n) 0 → vs₂ ≡ take n vs₁ ++ replicate (length vs₁ - n) 0·0
        → (Ok n, zs₂, vs₂) ≡ clip_call m ss es zs vs
    unfolding clip_call clip_refusal places_refusal padded
    call_clipped n zs₁ vs₁ zs₂ vs₂ k u s lz lv cz cv =
        let l = clipped_of m.zuniqs m.values ss es in
        let z : 0 + length l ≡ length l = omega arith in
        rw (p.refusal, le-ltb (length zs) (length l) (rw (← k) u), length-map l (zuniq_of 29), length-map l (value_of {A = Float}), cz, cv, k, rw z at s.0, rw z at s.1, lz, lv) refl
