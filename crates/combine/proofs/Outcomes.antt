-- Merging cells one after the other, over any type of values and any merger. Assumes nothing.
use mathlib.Core.Path.{◌≡◌, refl, ap, sym, ◌∙◌}
use mathlib.Core.List.{List, [], ◌∷◌, ◌++◌}
use Prim.Native.Nat.{ℕ, ◌+◌, ◌<◌}
use native.Mathlib.Omega.{arith}
use lib.ListN.{length, length-append}
use Rattle.build.specs.Map.{Entry, Merger}
use Rattle.build.specs.Stack.{run}
use Rattle.build.specs.Buffers.{held, read_onto}
use Rattle.build.specs.Promises.{total, Sums}
use Rattle.build.specs.Standing.{Pushed}
use Rattle.build.proofs.Adding.{run-append, run-total}
use Rattle.combine.specs.Sinks.{Laid, Room}

pub total-append : {B : Type 0} (figure : B → ℕ) (l m : List (Entry B)) → total figure (l ++ m) ≡ total figure l + total figure m
total-append figure [] m = omega arith
total-append figure (e ∷ l) m = omega (arith, total-append figure l m)

module _ {A : Type 0} {accept : Merger A} where
  -- No cell changes nothing.
  pub Laid-nothing : (zs : List ℕ) (vs : List A) → Laid accept zs vs [] 0 zs vs
  unfolding run
  Laid-nothing zs vs = record {
    added = record { stands = record { zuniqs = omega arith; values = omega arith; valid = λ i u. absurd (omega arith) }; least = omega arith; is = refl };
    zuniqs = refl;
    values = refl;
  }

  module _ {zs₀ : List ℕ} {vs₀ : List A} {n : ℕ} {zs : List ℕ} {vs : List A} {cells : List (Entry A)} (w : Laid accept zs₀ vs₀ cells n zs vs) where
    -- A cell that is pushed is merged into those before it.
    pub Laid-next : (e : Entry A) {r : ℕ} {zs' : List ℕ} {vs' : List A} → Pushed accept 29 n e zs vs r zs' vs' → length zs' ≡ length zs → length vs' ≡ length vs → Laid accept zs₀ vs₀ (cells ++ (e ∷ [])) r zs' vs'
    unfolding run
    Laid-next e p q f = record {
      added = record {
        stands = p.stands;
        least = omega (arith, p.least, w.added.least, length-append cells (e ∷ []));
        is = p.is ∙ ap (λ s. run accept s (e ∷ [])) w.added.is ∙ sym (run-append accept (held 29 0 zs₀ vs₀) cells (e ∷ []));
      };
      zuniqs = q ∙ w.zuniqs;
      values = f ∙ w.values;
    }

    -- There is a place for it, if there is one for each of them.
    pub Laid-room : (e : Entry A) (o : List (Entry A)) → Room zs₀ vs₀ (cells ++ (e ∷ o)) → (n < length zs) × (n < length vs)
    Laid-room e o room = (
      omega (arith, w.added.least, w.zuniqs, room.0, length-append cells (e ∷ o)),
      omega (arith, w.added.least, w.values, room.1, length-append cells (e ∷ o)),
    )

    -- A merger that gives sums keeps the total.
    pub Laid-total : (figure : A → ℕ) → Sums accept figure → total figure (held 29 n zs vs) ≡ total figure cells
    unfolding held read_onto
    Laid-total figure sums = let e = ap (total figure) w.added.is in omega (arith, run-total accept figure sums [] cells)
