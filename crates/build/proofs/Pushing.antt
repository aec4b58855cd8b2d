-- Appending a batch to a map in two buffers, cell by cell: what is known before a cell, after it, and in the end. Over any
-- type of values and any merger. Assumes nothing.
use mathlib.Core.Path.{◌≡◌, refl, ap, sym, ◌∙◌}
use mathlib.Core.List.{List, ◌∷◌, ◌++◌}
use Prim.Native.Nat.{ℕ, ◌+◌, ◌≤◌, ◌<◌}
use native.Mathlib.Omega.{arith}
use lib.ListN.{length, get_or, drop, drop_of_length-le}
use Rattle.build.specs.Map.{Entry, entry, Merger}
use Rattle.build.specs.Stack.{run}
use Rattle.build.specs.Promises.{total, Sums}
use Rattle.build.specs.Buffers.{batch, held}
use Rattle.build.specs.Standing.{Stands, siblings, Pushed, Added}
use Rattle.build.proofs.Adding.{run-append, collapse-total, run-total}
use Rattle.build.proofs.Buffers.{length-batch, batch-drop}
use Rattle.build.proofs.Siblings.{AreSiblings}

-- Four cells of a batch that are siblings, and those behind them.
pub batch-four : {A : Type 0} (D : ℕ) (hs : List ℕ) (xs : List A) (u : A) (i : ℕ) → AreSiblings D hs i → i + 4 ≤ length xs
    → batch D (drop i hs) (drop i xs)
    ≡ siblings D (get_or hs i 0) (get_or xs i u) (get_or xs (i + 1) u) (get_or xs (i + 2) u) (get_or xs (i + 3) u) ++ batch D (drop (i + 4) hs) (drop (i + 4) xs)
batch-four D hs xs u i f q =
    let h = get_or hs i 0 in
    let rest = batch D (drop (i + 4) hs) (drop (i + 4) xs) in
    let p = f.within in
    let i2 : i + 1 + 1 ≡ i + 2 = omega arith in
    let i3 : i + 2 + 1 ≡ i + 3 = omega arith in
    let i4 : i + 3 + 1 ≡ i + 4 = omega arith in
    let b3 : batch D (drop (i + 3) hs) (drop (i + 3) xs) ≡ entry D (h + 3) (get_or xs (i + 3) u) ∷ rest = rw (i4, f.fourth) at (batch-drop D hs xs u (i + 3) (omega arith) (omega arith)) in
    let b2 : batch D (drop (i + 2) hs) (drop (i + 2) xs) ≡ entry D (h + 2) (get_or xs (i + 2) u) ∷ entry D (h + 3) (get_or xs (i + 3) u) ∷ rest = rw (i3, f.third, b3) at (batch-drop D hs xs u (i + 2) (omega arith) (omega arith)) in
    let b1 : batch D (drop (i + 1) hs) (drop (i + 1) xs) ≡ entry D (h + 1) (get_or xs (i + 1) u) ∷ entry D (h + 2) (get_or xs (i + 2) u) ∷ entry D (h + 3) (get_or xs (i + 3) u) ∷ rest = rw (i2, f.second, b2) at (batch-drop D hs xs u (i + 1) (omega arith) (omega arith)) in
    rw b1 at (batch-drop D hs xs u i (omega arith) (omega arith))

-- Before cell i of a batch: n entries stand, and with the cells from i on they become what all cells make of the first m.
pub record Before {A : Type 0} (accept : Merger A) (K D m : ℕ) (hs : List ℕ) (xs : List A) (zs₀ : List ℕ) (vs₀ : List A) (i n : ℕ) (zs : List ℕ) (vs : List A) : Type 0 where
  pub within : i ≤ length hs
  pub stands : Stands K n zs vs
  pub least : n ≤ m + i
  pub goes : run accept (held K n zs vs) (batch D (drop i hs) (drop i xs)) ≡ run accept (held K m zs₀ vs₀) (batch D hs xs)

module _ {A : Type 0} {accept : Merger A} {K D m : ℕ} {hs : List ℕ} {xs : List A} {zs₀ : List ℕ} {vs₀ : List A} where
  pub Before-first : Stands K m zs₀ vs₀ → Before accept K D m hs xs zs₀ vs₀ 0 m zs₀ vs₀
  Before-first w = record { within = omega arith; stands = w; least = omega arith; goes = refl }

  module _ {i n : ℕ} {zs : List ℕ} {vs : List A} (b : Before accept K D m hs xs zs₀ vs₀ i n zs vs) where
    pub Before-next : (u : A) → i < length hs → i < length xs → {r : ℕ} {zs' : List ℕ} {vs' : List A} → Pushed accept K n (entry D (get_or hs i 0) (get_or xs i u)) zs vs r zs' vs'
        → Before accept K D m hs xs zs₀ vs₀ (i + 1) r zs' vs'
    unfolding run
    Before-next u p q w = record {
      within = omega arith;
      stands = w.stands;
      least = omega (arith, w.least, b.least);
      goes =
          ap (λ s. run accept s (batch D (drop (i + 1) hs) (drop (i + 1) xs))) w.is
          ∙ sym (ap (run accept (held K n zs vs)) (batch-drop D hs xs u i p q)) ∙ b.goes;
    }

    -- the same where four siblings are added at once
    pub Before-next_four : (u : A) → AreSiblings D hs i → i + 4 ≤ length xs → {r : ℕ} {zs' : List ℕ} {vs' : List A}
        → Added accept K n (siblings D (get_or hs i 0) (get_or xs i u) (get_or xs (i + 1) u) (get_or xs (i + 2) u) (get_or xs (i + 3) u)) zs vs r zs' vs'
        → Before accept K D m hs xs zs₀ vs₀ (i + 4) r zs' vs'
    Before-next_four u f q w =
        let rest = batch D (drop (i + 4) hs) (drop (i + 4) xs) in
        let four = siblings D (get_or hs i 0) (get_or xs i u) (get_or xs (i + 1) u) (get_or xs (i + 2) u) (get_or xs (i + 3) u) in
        let p = f.within in
        record {
          within = omega arith;
          stands = w.stands;
          least = omega (arith, w.least, b.least);
          goes = ap (λ s. run accept s rest) w.is ∙ sym (run-append accept (held K n zs vs) four rest) ∙ sym (ap (run accept (held K n zs vs)) (batch-four D hs xs u i f q)) ∙ b.goes;
        }

    -- The entries and the cells that are left have the total that the first entries have with all cells.
    pub Before-total : (figure : A → ℕ) → Sums accept figure
        → total figure (held K n zs vs) + total figure (batch D (drop i hs) (drop i xs)) ≡ total figure (held K m zs₀ vs₀) + total figure (batch D hs xs)
    Before-total figure sums =
        sym (run-total accept figure sums (held K n zs vs) (batch D (drop i hs) (drop i xs))) ∙ ap (total figure) b.goes ∙ run-total accept figure sums (held K m zs₀ vs₀) (batch D hs xs)

    pub after_last : length hs ≡ length xs → length hs ≤ i → Added accept K m (batch D hs xs) zs₀ vs₀ n zs vs
    unfolding batch run
    after_last e f = record {
      stands = b.stands;
      least = omega (arith, b.least, b.within, length-batch D hs xs e);
      is = rw (drop_of_length-le hs f) at b.goes;
    }

module _ {A : Type 0} {accept : Merger A} (figure : A → ℕ) (sums : Sums accept figure) {K n : ℕ} {zs : List ℕ} {vs : List A} {r : ℕ} {zs' : List ℕ} {vs' : List A} where
  -- A cell that is pushed adds its figure to the total,
  pub Pushed-total : {e : Entry A} → Pushed accept K n e zs vs r zs' vs' → total figure (held K r zs' vs') ≡ figure e.value + total figure (held K n zs vs)
  Pushed-total {e} w = rw w.is (collapse-total accept figure sums (e ∷ held K n zs vs))

  -- and so do four siblings.
  pub Added-total : {l : List (Entry A)} → Added accept K n l zs vs r zs' vs' → total figure (held K r zs' vs') ≡ total figure (held K n zs vs) + total figure l
  Added-total {l} w = rw w.is (run-total accept figure sums (held K n zs vs) l)
