-- What a call leaves in the lent buffers, by the word of its answer. Assumes nothing.
use mathlib.Core.Path.{◌≡◌, ap, subst}
use mathlib.Core.List.{List}
use Prim.Native.Nat.{ℕ}
use Rattle.std.specs.Prelude.{Result}
use Rattle.refusal.specs.declared.Refusal.{Refusal}
use Rattle.build.specs.declared.counts.Added.{Added}
use Rattle.moving.specs.declared.Moved.{Moved}
use Rattle.words.specs.Words.{number_word, counts_word, moved_word}
use Rattle.mom_c.specs.Answers.{number_told, buffers_told, counts_added_word, moved_map_word}

pub number_is : {A : Type 0} (t : Result ℕ Refusal × A) (a : Result ℕ Refusal) (r : ℕ) (x : A) → (a, x) ≡ t → r ≡ number_word a → (r, x) ≡ number_told t
unfolding number_told
number_is {A} t a r x e q = subst (λ (y : Result ℕ Refusal × A). (r, x) ≡ number_told y) e (ap (λ (w : ℕ). (w, x)) q)

pub buffers_are : {A B : Type 0} (t : Result ℕ Refusal × A × B) (a : Result ℕ Refusal) (r : ℕ) (x : A) (y : B) → (a, x, y) ≡ t → r ≡ number_word a → (r, x, y) ≡ buffers_told t
unfolding buffers_told
buffers_are {A} {B} t a r x y e q = subst (λ (z : Result ℕ Refusal × A × B). (r, x, y) ≡ buffers_told z) e (ap (λ (w : ℕ). (w, x, y)) q)

pub counts_are : (t : Result Added Refusal × List ℕ × List ℕ) (a : Result Added Refusal) (r total old : ℕ) (zs vs : List ℕ) → (a, zs, vs) ≡ t → (r, total) ≡ counts_word a old → (r, total, zs, vs) ≡ counts_added_word t old
unfolding counts_added_word
counts_are t a r total old zs vs e q =
    subst (λ (x : Result Added Refusal × List ℕ × List ℕ). (r, total, zs, vs) ≡ counts_added_word x old) e
    (ap (λ (w : ℕ × ℕ). (w.0, w.1, zs, vs)) q)

pub moved_is : (t : Result Moved Refusal × List ℕ × List ℕ) (a : Result Moved Refusal) (r depth old : ℕ) (zs vs : List ℕ) → (a, zs, vs) ≡ t → (r, depth) ≡ moved_word a old → (r, depth, zs, vs) ≡ moved_map_word t old
unfolding moved_map_word
moved_is t a r depth old zs vs e q =
    subst (λ (x : Result Moved Refusal × List ℕ × List ℕ). (r, depth, zs, vs) ≡ moved_map_word x old) e
    (ap (λ (w : ℕ × ℕ). (w.0, w.1, zs, vs)) q)
