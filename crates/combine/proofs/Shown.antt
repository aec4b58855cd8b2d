-- A cell that the walk shows: the rule can see it, the sink can take what the rule keeps of it, and what that leaves. Over any rule
-- and any sink. Assumes nothing.
use mathlib.Core.Path.{◌≡◌, refl, sym, ◌∙◌, subst}
use mathlib.Core.Bool.{Bool}
use mathlib.Core.List.{List, [], ◌∷◌, ◌++◌, append_assoc}
use mathlib.Core.Logic.{inl, inr}
use Prim.Native.Nat.{ℕ, ◌<◌}
use Rattle.std.proofs.Common.{Result, Ok, Err}
use Rattle.refusal.specs.declared.Refusal.{Refusal}
use Rattle.build.specs.Map.{Entry}
use Rattle.build.specs.Promises.{Has}
use Rattle.combine.specs.Overlay.{Seen, Split, overlay}
use Rattle.combine.specs.Rules.{Rule, kept_of, kept}
use Rattle.combine.specs.Heads.{Saw, takes_left, takes_right, At, used, shows, opens_left, opens_right, Opened, shown_as, Turned}
use Rattle.combine.specs.Slices.{entries_of}
use Rattle.combine.specs.Cells.{as_entry, zuniq_in}
use Rattle.combine.specs.Sinks.{CanShow, Takes, Leaves, Walked}
use Rattle.combine.specs.declared.cells.Dhzv.{Dhzv}
use Rattle.combine.proofs.Walking.{Walking, Ready, left_over, kept_cells, shown_part, shown_good, shown_whole, ready_shown, left_opened, left_opened_less, right_opened, right_opened_less}

Has-append : {A : Type 0} (l o : List (Entry A)) (e : Entry A) → Has l e → Has (l ++ o) e
Has-append [] o e m = absurd m
Has-append (c ∷ l) o e (inl q) = inl q
Has-append (c ∷ l) o e (inr m) = inr (Has-append l o e m)

Has-last : {A : Type 0} (l : List (Entry A)) (e : Entry A) → Has (l ++ (e ∷ [])) e
Has-last [] e = inl refl
Has-last (c ∷ l) e = inr (Has-last l e)

module _ {V F : Type 0} {split : Split V} {rule : Rule V} {lz : List ℕ} {lv : List V} {rz : List ℕ} {rv : List V}
    (took : List ℕ → List V → List (Entry V) → F → List ℕ → List V → Type 0) {zs₀ : List ℕ} {vs₀ : List V} {f : F} {zs : List ℕ} {vs : List V} {l r : At (Dhzv V)} {lp rp : List (Dhzv V)} {m : ℕ}
    (w : Ready split rule as_entry zuniq_in lz lv rz rv (λ cells. took zs₀ vs₀ cells f zs vs) l r lp rp m) (s : Saw (Dhzv V)) (t : Turned as_entry 29 l.head r.head (shows s)) where
  -- The rule can see it,
  pub shown_seen : (sees : Entry (Seen V) → Type 0) → ((e : Entry (Seen V)) → Has (overlay split 29 (entries_of lz lv) (entries_of rz rv)) e → sees e) → sees (shown_as as_entry s)
  shown_seen sees k =
      let p = shown_whole w s t in
      k (shown_as as_entry s) (subst (λ (o : List (Entry (Seen V))). Has o (shown_as as_entry s)) p.1 (Has-append _ p.0 _ (Has-last w.walking.done (shown_as as_entry s))))

  -- and the sink can take what it keeps.
  pub shown_can : (fits : List ℕ → List V → List (Entry V) → Type 0) → fits zs₀ vs₀ (kept_cells split rule lz lv rz rv) → CanShow fits took rule f s zs vs
  shown_can fits fit =
      let p = shown_part w s t in
      record {
        zuniqs = zs₀;
        values = vs₀;
        before = kept rule w.walking.done;
        after = p.0;
        taken = w.walking.wrote;
        fit = subst (fits zs₀ vs₀) (sym p.1 ∙ append_assoc (kept rule w.walking.done) (kept_of rule (shown_as as_entry s)) p.0) fit;
        good = shown_good w s t;
      }

  module _ (failed : List ℕ → List V → List (Entry V) → Refusal → List ℕ → List V → Type 0) {a : Result F Refusal} {zs' : List ℕ} {vs' : List V}
      (k : Takes took failed f (kept_of rule (shown_as as_entry s)) zs vs a zs' vs') where
    -- It is taken, and the heads that it takes are used up,
    pub shown_taken : {tl tr : Bool} (g : F) → a ≡ Ok g → tl ≡ takes_left s → tr ≡ takes_right s
        → Walking split rule as_entry zuniq_in lz lv rz rv (λ cells. took zs₀ vs₀ cells g zs' vs') (used tl l) (used tr r) lp rp
    shown_taken g e p q =
        ready_shown w s t (λ cells. took zs₀ vs₀ cells g zs' vs') p q
        (λ o y. subst (λ (a : Result F Refusal). Leaves took failed zs₀ vs₀ (o ++ kept_of rule (shown_as as_entry s)) a zs' vs') e (k zs₀ vs₀ o y))

    -- or it could not be.
    pub shown_failed : (x : Refusal) → a ≡ Err x → Walked took failed zs₀ vs₀ (kept_cells split rule lz lv rz rv) (Err x) zs' vs'
    shown_failed x e =
        let p = shown_part w s t in (
          kept rule w.walking.done ++ kept_of rule (shown_as as_entry s),
          p.0,
          p.1,
          subst (λ (a : Result F Refusal). Leaves took failed zs₀ vs₀ (kept rule w.walking.done ++ kept_of rule (shown_as as_entry s)) a zs' vs') e (k zs₀ vs₀ (kept rule w.walking.done) w.walking.wrote),
        )

-- A head that is split.
module _ {A C : Type 0} {split : Split A} {rule : Rule A} {as_entry : C → Entry A} {zuniq_in : C → ℕ} {lz : List ℕ} {lv : List A} {rz : List ℕ} {rv : List A} {Wrote : List (Entry A) → Type 0} {l r : At C} {lp rp : List C} {m : ℕ}
    (w : Ready split rule as_entry zuniq_in lz lv rz rv Wrote l r lp rp m) {a : C} {s' : At C} {p' : List C} where
  pub left_split : Turned as_entry 29 l.head r.head (opens_left a) → Opened as_entry zuniq_in split a l lp s' p'
      → Walking split rule as_entry zuniq_in lz lv rz rv Wrote s' r p' rp × (left_over as_entry lz lv rz rv s' r p' rp < m)
  left_split t o = rw o.cells (left_opened w t o.third o.second o.first o.zeroth o.side, left_opened_less w t o.third o.second o.first o.zeroth o.side)

  pub right_split : Turned as_entry 29 l.head r.head (opens_right a) → Opened as_entry zuniq_in split a r rp s' p'
      → Walking split rule as_entry zuniq_in lz lv rz rv Wrote l s' lp p' × (left_over as_entry lz lv rz rv l s' lp p' < m)
  right_split t o = rw o.cells (right_opened w t o.third o.second o.first o.zeroth o.side, right_opened_less w t o.third o.second o.first o.zeroth o.side)
