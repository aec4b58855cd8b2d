-- What is known of a map that is moved, and what is shown of every call, from any largest depth K to any L. Assumes nothing.
use mathlib.Core.Path.{◌≡◌, refl, ap, ap₂, sym, ◌∙◌}
use mathlib.Core.List.{List, [], ◌++◌, map, append-nil}
use mathlib.Core.Option.{Option, none, some}
use Prim.Native.Nat.{ℕ, ◌+◌, ◌-◌, ◌≤◌, ◌<◌, min}
use native.Mathlib.Omega.{arith}
use lib.ListN.{length, get_or, take, replicate}
use borrow.Author.Tests.{ltb-false, le-ltb, eq-eqb}
use Rattle.refusal.specs.declared.Refusal.{Refusal}
use Rattle.mom.specs.Map.{ValidMap}
use Rattle.build.specs.Map.{Entry}
use Rattle.build.specs.Buffers.{held, laid, filled, zuniq_of, value_of, zuniq_buffer, value_buffer}
use Rattle.refusal.proofs.Checks.{or_else_none, refused_if-none}
use Rattle.build.specs.Add.{lengths_refusal, space_refusal}
use Rattle.build.proofs.Checking.{lengths_pass, space_passes}
use Rattle.build.proofs.Buffers.{length-laid, take-filled}
use Rattle.moving.specs.declared.Moved.{Moved}
use Rattle.std.specs.Prelude.{Result, Ok, Err}
use Rattle.moving.specs.Moving.{moved_map, entries_refusal, moving_refusal, moved_or, moved, Moves}
use Rattle.moving.specs.Widths.{in_width, MovesTo}
use Rattle.moving.proofs.Deep.{entries_pass_iff}
use Rattle.moving.proofs.Widths.{entries_number, entries_zuniqs, entries_counts, entries_changed, entries_valid, entries_again, width_changes, moves_to}

-- A map that is not refused.
pub record Movable (K L D : ℕ) (zs : List ℕ) (counts places values : ℕ) : Type 0 where
  pub shallow : D ≤ K
  pub paired : length zs ≡ counts
  pub outputs : places ≡ values
  pub valid : ValidMap K (min D L) zs
  pub room : length zs ≤ places

-- What a call that is not refused is given is such a map,
pub movable : (K L D : ℕ) (zs : List ℕ) (counts places values : ℕ) → moving_refusal K L D zs counts places values ≡ none → Movable K L D zs counts places values
unfolding moving_refusal
movable K L D zs counts places values e =
    let a = or_else_none _ _ e in
    let b = or_else_none (lengths_refusal 0 (length zs) counts places values) _ a.1 in
    let c = or_else_none (entries_refusal K L D zs) (space_refusal places 0 (length zs)) b.1 in
    let l = lengths_pass 0 (length zs) counts places values b.0 in
    record {
      shallow = ltb-false K D (refused_if-none _ _ a.0);
      paired = l.0;
      outputs = l.2;
      valid = (entries_pass_iff K L D zs).0 c.0;
      room = omega (arith, space_passes places 0 (length zs) c.1);
    }

-- and such a map is not refused.
not_refused : (K L D : ℕ) (zs : List ℕ) (counts places values : ℕ) → Movable K L D zs counts places values → moving_refusal K L D zs counts places values ≡ none
unfolding moving_refusal lengths_refusal space_refusal
not_refused K L D zs counts places values m =
    rw (
      le-ltb K D m.shallow,
      eq-eqb (length zs) counts m.paired,
      eq-eqb places values m.outputs,
      le-ltb (length zs) 0 (omega arith),
      (entries_pass_iff K L D zs).1 m.valid,
      le-ltb places (0 + length zs) (omega (arith, m.room)),
    ) refl

-- A call that is refused answers the refusal, and the output stays.
pub moved-refused : {r : Refusal} (K L D : ℕ) (zs vs ozs ovs : List ℕ) → moving_refusal K L D zs (length vs) (length ozs) (length ovs) ≡ some r → (Err r, ozs, ovs) ≡ moved K L D zs vs ozs ovs
unfolding moved moved_or
moved-refused K L D zs vs ozs ovs e = rw e refl

-- The zuniqs of such a map move to the other width.
pub each_moves : (K L D : ℕ) (zs : List ℕ) (counts places values : ℕ) → Movable K L D zs counts places values → (i : ℕ) → i < length zs → MovesTo K L (get_or zs i 0)
each_moves K L D zs counts places values m i l =
    let w = m.valid.valid i l in
    moves_to K L (get_or zs i 0) w.0 w.1 w.2 (omega (arith, m.valid.shallow i w.0 w.1 l w.2))

-- The call's definition, by what is written.
pub moved_by : (K L D : ℕ) (zs vs ozs ovs : List ℕ) → moving_refusal K L D zs (length vs) (length ozs) (length ovs) ≡ none
    → (ozs' ovs' : List ℕ) → ozs' ≡ map (in_width K L) zs ++ replicate (length ozs - length zs) 0 → ovs' ≡ vs ++ replicate (length ovs - length zs) 0
    → (d : ℕ) → d ≡ min D L → (Ok (moved_map d (length zs)), ozs', ovs') ≡ moved K L D zs vs ozs ovs
unfolding moved moved_or filled
moved_by K L D zs vs ozs ovs e ozs' ovs' ez ev d ed =
    let m = movable K L D zs (length vs) (length ozs) (length ovs) e in
    let n = entries_number K (min D L) zs vs m.paired m.valid in
    let z = entries_changed K (min D L) zs vs m.paired m.valid L (in_width K L) (λ d h l. width_changes K L d h (omega (arith, m.shallow)) (omega arith)) in
    let v = entries_counts K (min D L) zs vs m.paired m.valid in
    rw (e, ed, n, v, ez, ev, z) refl

-- What a call that answers leaves is what the definition gives without a refusal,
answered : (o : Option Refusal) (L m : ℕ) (s : List (Entry ℕ)) (ozs ovs : List ℕ) (d n : ℕ) (xs ws : List ℕ) → moved_or o L m s ozs ovs ≡ (Ok (moved_map d n), xs, ws)
    → (o ≡ none) × (d ≡ m) × (n ≡ length s) × (xs ≡ zuniq_buffer L (length ozs) s) × (ws ≡ value_buffer 0 (length ovs) s)
unfolding moved_or
answered (some r) L m s ozs ovs d n xs ws e =
    let a : Err r ≡ Ok (moved_map d n) = ap (λ (t : Result Moved Refusal × List ℕ × List ℕ). t.0) e in
    let z : ◌≡◌ {A = ℕ} 0 1 = cc in
    absurd (omega arith)
answered none L m s ozs ovs d n xs ws e =
    let a : ◌≡◌ {A = Result Moved Refusal} (Ok (moved_map m (length s))) (Ok (moved_map d n)) = ap (λ (t : Result Moved Refusal × List ℕ × List ℕ). t.0) e in
    let same : moved_map m (length s) ≡ moved_map d n = cc in
    let b : d ≡ m = sym (ap (λ (x : Moved). x.depth) same) in
    let c : n ≡ length s = sym (ap (λ (x : Moved). x.entries) same) in
    (refl, b, c, sym (ap (λ (t : Result Moved Refusal × List ℕ × List ℕ). t.1) e), sym (ap (λ (t : Result Moved Refusal × List ℕ × List ℕ). t.2) e))

-- and so it is not refused.
pub accepted : (K L D : ℕ) (zs vs ozs ovs : List ℕ) (d n : ℕ) (xs ws : List ℕ) → moved K L D zs vs ozs ovs ≡ (Ok (moved_map d n), xs, ws)
    → moving_refusal K L D zs (length vs) (length ozs) (length ovs) ≡ none
unfolding moved
accepted K L D zs vs ozs ovs d n xs ws e = (answered (moving_refusal K L D zs (length vs) (length ozs) (length ovs)) L (min D L) (held K (length zs) zs vs) ozs ovs d n xs ws e).0

-- ---- what is shown
module _ (K L D : ℕ) (zs vs : List ℕ) (v : ValidMap K (min D L) zs) (paired : length zs ≡ length vs) (deep : D ≤ K) where
  abbrev s : List (Entry ℕ)
  s = held K (length zs) zs vs

  -- The entries, laid with the largest depth L, are moved back.
  entries_back : (ozs ovs : List ℕ) → length ozs ≡ length ovs → length zs ≤ length ozs
      → moved L K (min D L) (laid (zuniq_of L) s) (laid value_of s) ozs ovs
      ≡ (Ok (moved_map (min D L) (length zs)), zs ++ replicate (length ozs - length zs) 0, vs ++ replicate (length ovs - length zs) 0)
  unfolding moved moved_or filled
  entries_back ozs ovs p q =
      let n = entries_number K (min D L) zs vs paired v in
      let lz : length (laid (zuniq_of L) s) ≡ length zs = length-laid (zuniq_of L) s ∙ n in
      let lv : length (laid value_of s) ≡ length zs = length-laid value_of s ∙ n in
      let depth : min (min D L) K ≡ min D L = omega arith in
      let w = entries_valid K (min D L) zs vs paired v L (omega arith) (omega arith) in
      let m : Movable L K (min D L) (laid (zuniq_of L) s) (length (laid value_of s)) (length ozs) (length ovs) = record {
        shallow = omega arith;
        paired = lz ∙ sym lv;
        outputs = p;
        valid = rw depth w;
        room = omega arith;
      } in
      let again : held L (length zs) (laid (zuniq_of L) s) (laid value_of s) ≡ s =
      ap₂ (held L (length zs)) (sym (append-nil (laid (zuniq_of L) s))) (sym (append-nil (laid value_of s)))
      ∙ entries_again K (min D L) zs vs paired v L (omega arith) (omega arith) [] [] in
      rw (
        not_refused L K (min D L) (laid (zuniq_of L) s) (length (laid value_of s)) (length ozs) (length ovs) m,
        depth,
        lz,
        again,
        n,
        entries_zuniqs K (min D L) zs vs paired v,
        entries_counts K (min D L) zs vs paired v,
      ) refl

-- Every call that answers moves the map.
pub moves : (K L D : ℕ) (zs vs ozs ovs : List ℕ) (d n : ℕ) (xs ws : List ℕ) → moved K L D zs vs ozs ovs ≡ (Ok (moved_map d n), xs, ws) → Moves K L D zs vs d n xs ws
unfolding moved filled
moves K L D zs vs ozs ovs d n xs ws e =
    let s = held K (length zs) zs vs in
    let a = answered (moving_refusal K L D zs (length vs) (length ozs) (length ovs)) L (min D L) s ozs ovs d n xs ws e in
    let m = movable K L D zs (length vs) (length ozs) (length ovs) a.0 in
    let k = entries_number K (min D L) zs vs m.paired m.valid in
    let number : n ≡ length zs = a.2 ∙ k in
    let tz : take n xs ≡ laid (zuniq_of L) s = ap₂ take a.2 a.3 ∙ take-filled (zuniq_of L) 0 (length ozs) s in
    let tv : take n ws ≡ laid value_of s = ap₂ take a.2 a.4 ∙ take-filled value_of 0 (length ovs) s in
    record {
      depth = a.1;
      number = number;
      valid = rw (tz, a.1) (entries_valid K (min D L) zs vs m.paired m.valid L (omega (arith, m.shallow)) (omega arith));
      same = rw (number, a.3, a.4) (entries_again K (min D L) zs vs m.paired m.valid L (omega (arith, m.shallow)) (omega arith) _ _);
      back = λ pzs pvs p q. rw (tz, tv, a.1, number) (entries_back K L D zs vs m.valid m.paired m.shallow pzs pvs p (omega arith));
    }
