-- What is shown of moving, call by call: there and back between 29 and 13, and when number 13 is given. Assumes nothing.
use Rattle.std.specs.Prelude.{Option as Answer, None, Some}
use mathlib.Core.Path.{◌≡◌, refl, ap, ◌∙◌}
use mathlib.Core.Bool.{Bool, true, false, ◌||◌, not}
use mathlib.Core.Logic.{◌↔◌}
use mathlib.Core.List.{List, ◌++◌}
use mathlib.Core.Option.{Option, none, some}
use Prim.Native.Nat.{ℕ, ◌+◌, ◌-◌, ◌≤◌, min}
use native.Mathlib.Nat.{le_antisymm}
use native.Mathlib.Omega.{arith}
use lib.Dec.{eqb, ltb}
use lib.ListN.{length, take, replicate}
use borrow.Author.Tests.{ltb-false, le-ltb, eq-eqb}
use Rattle.refusal.specs.declared.Refusal.{Refusal}
use Rattle.mom.specs.Map.{first_fault}
use Rattle.mom.specs.declared.FirstFault.{FirstFault}
use Rattle.refusal.specs.Checks.{or_else, refused_if}
use Rattle.build.specs.Map.{Entry}
use Rattle.build.specs.Buffers.{held}
use Rattle.build.specs.Add.{lengths_refusal, map_refusal, space_refusal}
use Rattle.refusal.proofs.Checks.{refused_if-none}
use Rattle.build.proofs.Checking.{lengths_pass, map_passes}
use Rattle.std.specs.Prelude.{Ok, Err}
use Rattle.moving.specs.Moving.{moved_map, deep_refusal, entries_refusal, moving_refusal, moved_or, moved, Acceptable, DeepAt, FirstDeep}
use Rattle.moving.proofs.Deep.{deep_first, deep_passes, map_not_refused}
use Rattle.moving.proofs.Moving.{movable, accepted, moves}

-- ---- there and back
-- A map moved to a larger largest depth keeps its own depth.
pub depth_kept : (K L D : ℕ) (zs vs ozs ovs : List ℕ) (d n : ℕ) (xs ws : List ℕ) → K ≤ L → moved K L D zs vs ozs ovs ≡ (Ok (moved_map d n), xs, ws) → d ≡ D
depth_kept K L D zs vs ozs ovs d n xs ws u e =
    let m = movable K L D zs (length vs) (length ozs) (length ovs) (accepted K L D zs vs ozs ovs d n xs ws e) in
    omega (arith, m.shallow, (moves K L D zs vs ozs ovs d n xs ws e).depth)

module _ (D : ℕ) (zs vs ozs ovs : List ℕ) (d n : ℕ) (xs ws pzs pvs : List ℕ) (outputs : length pzs ≡ length pvs) (room : n ≤ length pzs) where
  -- "Narrowing and widening again gives the same entries."
  pub narrow_widen : moved 29 13 D zs vs ozs ovs ≡ (Ok (moved_map d n), xs, ws)
      → moved 13 29 d (take n xs) (take n ws) pzs pvs ≡ (Ok (moved_map d n), zs ++ replicate (length pzs - n) 0, vs ++ replicate (length pvs - n) 0)
  narrow_widen e = (moves 29 13 D zs vs ozs ovs d n xs ws e).back pzs pvs outputs room

  -- Widening and narrowing again gives the same entries, and the same depth.
  pub widen_narrow : moved 13 29 D zs vs ozs ovs ≡ (Ok (moved_map d n), xs, ws)
      → moved 29 13 D (take n xs) (take n ws) pzs pvs ≡ (Ok (moved_map D n), zs ++ replicate (length pzs - n) 0, vs ++ replicate (length pvs - n) 0)
  widen_narrow e = rw (depth_kept 13 29 D zs vs ozs ovs d n xs ws (omega arith) e) at ((moves 13 29 D zs vs ozs ovs d n xs ws e).back pzs pvs outputs room)

-- ---- number 13
-- Only a refusal is answered as one.
refused : (o : Option Refusal) (L d : ℕ) (s : List (Entry ℕ)) (ozs ovs : List ℕ) (r : Refusal) → (moved_or o L d s ozs ovs).0 ≡ Err r → o ≡ some r
unfolding moved_or
refused none L d s ozs ovs r e = let z : ◌≡◌ {A = ℕ} 0 1 = cc in absurd (omega arith)
refused (some q) L d s ozs ovs r e = cc

-- Of two refusals in order the first is the one given if the second isn't, and the second if the first isn't.
first_given : (o p : Option Refusal) (r : Refusal) → or_else o p ≡ some r → (p ≡ some r → ⊥) → o ≡ some r
first_given none p r e n = absurd (n e)
first_given (some q) p r e n = e

second_given : (o p : Option Refusal) (r : Refusal) → or_else o p ≡ some r → (o ≡ some r → ⊥) → (o ≡ none) × (p ≡ some r)
second_given none p r e n = (refl, e)
second_given (some q) p r e n = absurd (n e)

-- The other rows give other refusals.
another : (b : Bool) (q : Refusal) (i : ℕ) → (q ≡ Refusal.EntryTooDeep i → ⊥) → refused_if b q ≡ some (Refusal.EntryTooDeep i) → ⊥
another true q i n e = n cc
another false q i n e = let z : ◌≡◌ {A = ℕ} 0 1 = cc in omega arith

lengths_another : (zs vs places values i : ℕ) → lengths_refusal 0 zs vs places values ≡ some (Refusal.EntryTooDeep i) → ⊥
unfolding lengths_refusal
lengths_another zs vs places values i =
    another (not (eqb zs vs) || (ltb zs 0 || not (eqb places values))) Refusal.LengthMismatch i (λ q. let z : ◌≡◌ {A = ℕ} 0 1 = cc in omega arith)

space_another : (places n i : ℕ) → space_refusal places 0 n ≡ some (Refusal.EntryTooDeep i) → ⊥
unfolding space_refusal
space_another places n i = another (ltb places (0 + n)) Refusal.NoSpace i (λ q. let z : ◌≡◌ {A = ℕ} 0 1 = cc in omega arith)

map_another : (f : Answer FirstFault) (i : ℕ) → map_refusal f ≡ some (Refusal.EntryTooDeep i) → ⊥
unfolding map_refusal
map_another None i e = let z : ◌≡◌ {A = ℕ} 0 1 = cc in omega arith
map_another (Some f) i e = let z : ◌≡◌ {A = ℕ} 0 1 = cc in omega arith

-- Where some entry is too deep, row 13 tells the first such.
deep_given : (K L : ℕ) (zs : List ℕ) (j : ℕ) → DeepAt K L zs j → (i : ℕ) × (deep_refusal K L 0 zs ≡ some (Refusal.EntryTooDeep i)) × FirstDeep K L zs i
deep_given K L zs j p = go (deep_refusal K L 0 zs) refl
  where
    go : (o : Option Refusal) → deep_refusal K L 0 zs ≡ o → (i : ℕ) × (deep_refusal K L 0 zs ≡ some (Refusal.EntryTooDeep i)) × FirstDeep K L zs i
    go none e = absurd (omega (arith, deep_passes K L 0 j zs e p.0 p.1.0 p.1.1 p.1.2, p.1.3))
    go (some r) e =
        let x = deep_first K L 0 zs r e in
        let n : 0 + x.0 ≡ x.0 = omega arith in
        (x.0, e ∙ ap some (x.1 ∙ ap Refusal.EntryTooDeep n), x.2)

module _ (K L D : ℕ) (zs vs ozs ovs : List ℕ) where
  -- Row 13 is tried where rows 1, 4 and 5 don't apply,
  deep_tried : Acceptable K D zs vs ozs ovs
      → moving_refusal K L D zs (length vs) (length ozs) (length ovs) ≡ or_else (deep_refusal K L 0 zs) (space_refusal (length ozs) 0 (length zs))
  unfolding moving_refusal lengths_refusal entries_refusal
  deep_tried a =
      rw (
        le-ltb K D a.shallow,
        eq-eqb (length zs) (length vs) a.paired,
        eq-eqb (length ozs) (length ovs) a.outputs,
        le-ltb (length zs) 0 (omega arith),
        map_not_refused K D zs a.valid,
      ) refl

  -- and only there.
  deep_reached : (i : ℕ) → moving_refusal K L D zs (length vs) (length ozs) (length ovs) ≡ some (Refusal.EntryTooDeep i)
      → Acceptable K D zs vs ozs ovs × (deep_refusal K L 0 zs ≡ some (Refusal.EntryTooDeep i))
  unfolding moving_refusal entries_refusal
  deep_reached i e =
      let r = Refusal.EntryTooDeep i in
      let lengths = lengths_refusal 0 (length zs) (length vs) (length ozs) (length ovs) in
      let space = space_refusal (length ozs) 0 (length zs) in
      let a = second_given (refused_if (ltb K D) Refusal.DepthOutOfRange) _ r e (another (ltb K D) Refusal.DepthOutOfRange i (λ q. let z : ◌≡◌ {A = ℕ} 0 1 = cc in omega arith)) in
      let b = second_given lengths _ r a.1 (lengths_another (length zs) (length vs) (length ozs) (length ovs) i) in
      let c = first_given (entries_refusal K L D zs) space r b.1 (space_another (length ozs) (length zs) i) in
      let d = second_given (map_refusal (first_fault K D zs)) (deep_refusal K L 0 zs) r c (map_another (first_fault K D zs) i) in
      let l = lengths_pass 0 (length zs) (length vs) (length ozs) (length ovs) b.0 in
      (record { shallow = ltb-false K D (refused_if-none _ _ a.0); paired = l.0; outputs = l.2; valid = map_passes K D zs d.0 }, d.1)

  deep_answered : (i : ℕ) → Acceptable K D zs vs ozs ovs → deep_refusal K L 0 zs ≡ some (Refusal.EntryTooDeep i) → (moved K L D zs vs ozs ovs).0 ≡ Err (Refusal.EntryTooDeep i)
  unfolding moved moved_or
  deep_answered i a e = rw (deep_tried a, e) refl

  -- Moving is refused by 13 exactly where rows 1, 4 and 5 don't apply and some entry is deeper than L, with the first such place.
  pub too_deep_iff : (i : ℕ) → ((moved K L D zs vs ozs ovs).0 ≡ Err (Refusal.EntryTooDeep i)) ↔ (Acceptable K D zs vs ozs ovs × FirstDeep K L zs i)
  unfolding moved
  too_deep_iff i = (
    λ e.
        let a = deep_reached i (refused (moving_refusal K L D zs (length vs) (length ozs) (length ovs)) L (min D L) (held K (length zs) zs vs) ozs ovs (Refusal.EntryTooDeep i) e) in
        let x = deep_first K L 0 zs (Refusal.EntryTooDeep i) a.1 in
        let m : i ≡ 0 + x.0 = cc x.1 in
        let n : i ≡ x.0 = omega arith in
        (a.0, rw n x.2),
    λ p.
        let x = deep_given K L zs i p.1.deep in
        let n : x.0 ≡ i = le_antisymm (x.2.first i p.1.deep) (p.1.first x.0 x.2.deep) in
        deep_answered i p.0 (rw n at x.1),
  )

  -- Every map with an entry deeper than L to which rows 1, 4 and 5 don't apply is so refused.
  pub deep_refused : (j : ℕ) → Acceptable K D zs vs ozs ovs → DeepAt K L zs j → (i : ℕ) × (i ≤ j) × ((moved K L D zs vs ozs ovs).0 ≡ Err (Refusal.EntryTooDeep i))
  deep_refused j a p = let x = deep_given K L zs j p in (x.0, x.2.first j p, deep_answered x.0 a x.1)
