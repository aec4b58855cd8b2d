-- The laws of lists of entries that rise, over any largest depth K. Assumes nothing.
use mathlib.Core.Path.{◌≡◌, refl, ap₂, sym, ◌∙◌}
use mathlib.Core.List.{List, [], ◌∷◌, ◌++◌, reverse, reverse_aux, reverse-reverse}
use mathlib.Core.Logic.{inl, inr, ⊎_elim, ◌↔◌}
use Prim.Native.Nat.{ℕ, zero, suc, ◌≤◌, ◌<◌}
use native.Mathlib.Omega.{arith}
use Rattle.zuniq.specs.Cells.{n_hash}
use Rattle.zuniq.proofs.Ranges.{start-lt_end, valid_iff_end_le}
use Rattle.build.specs.Map.{Entry, joined}
use Rattle.build.specs.Promises.{Has, start_of, end_of, Rises, Falls, last_end}
use Rattle.build.proofs.Entries.{Any-reverse}

module _ {A : Type 0} (K : ℕ) where
  -- ---- rising
  -- The range of an entry is not empty.
  pub range_of : (e : Entry A) → start_of K e < end_of K e
  range_of e = start-lt_end K e.depth e.hash

  -- What rises from a to b ends after it starts.
  pub Rises-le : (a b : ℕ) (l : List (Entry A)) → Rises K a b l → a ≤ b
  Rises-le a b [] r = r
  Rises-le a b (e ∷ l) r = omega (arith, range_of e, Rises-le (end_of K e) b l r.2)

  -- An entry of a rising list is in its range.
  pub Rises-has : (a b : ℕ) (l : List (Entry A)) (e : Entry A) → Rises K a b l → Has l e → (e.depth ≤ K) × (a ≤ start_of K e) × (end_of K e ≤ b)
  Rises-has a b [] e r m = absurd m
  Rises-has a b (c ∷ l) e r (inl q) = rw q (r.0, r.1, Rises-le (end_of K c) b l r.2)
  Rises-has a b (c ∷ l) e r (inr m) = let p = Rises-has (end_of K c) b l e r.2 m in (p.0, omega (arith, range_of c, r.1, p.1), p.2)

  -- An entry of a list that rises within the sky is a cell of the sky.
  pub Rises-in_range : (a : ℕ) (l : List (Entry A)) (e : Entry A) → Rises K a (n_hash K) l → Has l e → (e.depth ≤ K) × (e.hash < n_hash e.depth)
  Rises-in_range a l e r m = let p = Rises-has a (n_hash K) l e r m in (p.0, (valid_iff_end_le K e.depth e.hash p.0).1 p.2)

  -- A rising list may be said to start earlier.
  pub Rises-from : (a b c : ℕ) (l : List (Entry A)) → a ≤ b → Rises K b c l → Rises K a c l
  Rises-from a b c [] u r = omega arith
  Rises-from a b c (e ∷ l) u r = (r.0, omega (arith, r.1), r.2)

  -- Two rising lists, the second where the first ends, are one.
  pub Rises-append : (a b c : ℕ) (l m : List (Entry A)) → Rises K a b l → Rises K b c m → Rises K a c (l ++ m)
  Rises-append a b c [] m r t = Rises-from a b c m r t
  Rises-append a b c (e ∷ l) m r t = (r.0, r.1, Rises-append (end_of K e) b c l m r.2 t)

  -- The same for any number of them, the i-th from `bound i` to the next bound.
  pub Rises-joined : (n : ℕ) (bound : ℕ → ℕ) (g : ℕ → List (Entry A)) → ((i : ℕ) → i < n → Rises K (bound i) (bound (suc i)) (g i)) → Rises K (bound 0) (bound n) (joined n g)
  unfolding joined
  Rises-joined zero bound g r = omega arith
  Rises-joined (suc n) bound g r =
      Rises-append (bound 0) (bound n) (bound (suc n)) (joined n g) (g n) (Rises-joined n bound g (λ i u. r i (omega arith))) (r n (omega arith))

  -- Two entries of a rising list whose ranges meet are the same.
  pub Rises-same : (a b : ℕ) (l : List (Entry A)) (e c : Entry A) → Rises K a b l → Has l e → Has l c → start_of K e < end_of K c → start_of K c < end_of K e → e ≡ c
  Rises-same a b [] e c r m n u v = absurd m
  Rises-same a b (x ∷ l) e c r (inl p) (inl q) u v = p ∙ sym q
  Rises-same a b (x ∷ l) e c r (inl p) (inr n) u v = absurd (omega (arith, (Rises-has (end_of K x) b l c r.2 n).1, rw p at v))
  Rises-same a b (x ∷ l) e c r (inr m) (inl q) u v = absurd (omega (arith, (Rises-has (end_of K x) b l e r.2 m).1, rw q at u))
  Rises-same a b (x ∷ l) e c r (inr m) (inr n) u v = Rises-same (end_of K x) b l e c r.2 m n u v

  -- Rising lists with the same entries are the same.
  pub Rises-unique : (a b c d : ℕ) (l m : List (Entry A)) → Rises K a b l → Rises K c d m
      → ((e : Entry A) → Has l e → Has m e) → ((e : Entry A) → Has m e → Has l e) → l ≡ m
  Rises-unique a b c d [] [] r t there back = refl
  Rises-unique a b c d [] (y ∷ m) r t there back = absurd (back y (inl refl))
  Rises-unique a b c d (x ∷ l) [] r t there back = absurd (there x (inl refl))
  Rises-unique a b c d (x ∷ l) (y ∷ m) r t there back =
      let later : (e : Entry A) → Has l e → end_of K x ≤ start_of K e = λ e n. (Rises-has (end_of K x) b l e r.2 n).1 in
      let later' : (e : Entry A) → Has m e → end_of K y ≤ start_of K e = λ e n. (Rises-has (end_of K y) d m e t.2 n).1 in
      let q : x ≡ y = ⊎_elim (λ p. p) (λ n. ⊎_elim sym (λ k. absurd (omega (arith, later y k, later' x n, range_of x, range_of y))) (back y (inl refl))) (there x (inl refl)) in
      ap₂ ◌∷◌ q (Rises-unique (end_of K x) b (end_of K y) d l m r.2 t.2
      (λ e n. ⊎_elim (λ p. absurd (omega (arith, rw (p ∙ sym q) at (later e n), range_of x))) (λ k. k) (there e (inr n)))
      (λ e n. ⊎_elim (λ p. absurd (omega (arith, rw (p ∙ q) at (later' e n), range_of y))) (λ k. k) (back e (inr n))))

  -- ---- with the last entry first
  -- A falling list may be said to end later.
  pub Falls-to : (a b c : ℕ) (s : List (Entry A)) → b ≤ c → Falls K a b s → Falls K a c s
  Falls-to a b c [] u f = omega arith
  Falls-to a b c (e ∷ s) u f = (f.0, omega (arith, f.1), f.2)

  -- A list that falls, put in front of one that rises from where it ends, first entry first.
  Falls-onto : (a b c : ℕ) (s l : List (Entry A)) → Falls K a b s → Rises K b c l → Rises K a c (reverse_aux s l)
  Falls-onto a b c [] l f r = Rises-from a b c l f r
  Falls-onto a b c (e ∷ s) l f r = Falls-onto a (start_of K e) c s (e ∷ l) f.2 (f.0, omega arith, Rises-from (end_of K e) b c l f.1 r)

  -- A list that rises, put on top of one that falls and ends where it starts, last entry first.
  Rises-onto : (a b c : ℕ) (l s : List (Entry A)) → Falls K a b s → Rises K b c l → Falls K a c (reverse_aux l s)
  Rises-onto a b c [] s f r = Falls-to a b c s r f
  Rises-onto a b c (e ∷ l) s f r = Rises-onto a (end_of K e) c l (e ∷ s) (r.0, omega arith, Falls-to a b (start_of K e) s r.1 f) r.2

  -- A list falls exactly if, the other way round, it rises.
  pub Falls-iff_rises : (a b : ℕ) (s : List (Entry A)) → Falls K a b s ↔ Rises K a b (reverse s)
  Falls-iff_rises a b s = (
    λ f. Falls-onto a b b s [] f (omega arith),
    λ r. rw (reverse-reverse s) at (Rises-onto a a b (reverse s) [] (omega arith) r),
  )

  -- An entry of a falling list is in its range.
  pub Falls-has : (a b : ℕ) (s : List (Entry A)) (e : Entry A) → Falls K a b s → Has s e → (e.depth ≤ K) × (a ≤ start_of K e) × (end_of K e ≤ b)
  Falls-has a b s e f m = Rises-has a b (reverse s) e ((Falls-iff_rises a b s).0 f) ((Any-reverse _ s).1 m)

  -- An entry of a list that falls within the sky is a cell of the sky.
  pub Falls-in_range : (a : ℕ) (s : List (Entry A)) (e : Entry A) → Falls K a (n_hash K) s → Has s e → (e.depth ≤ K) × (e.hash < n_hash e.depth)
  Falls-in_range a s e f m = Rises-in_range a (reverse s) e ((Falls-iff_rises a (n_hash K) s).0 f) ((Any-reverse _ s).1 m)

  -- Two entries of a falling list whose ranges meet are the same.
  pub Falls-same : (a b : ℕ) (s : List (Entry A)) (e c : Entry A) → Falls K a b s → Has s e → Has s c → start_of K e < end_of K c → start_of K c < end_of K e → e ≡ c
  Falls-same a b s e c f m n u v = Rises-same a b (reverse s) e c ((Falls-iff_rises a b s).0 f) ((Any-reverse _ s).1 m) ((Any-reverse _ s).1 n) u v

  -- A map ends where its last entry does.
  pub Falls-to_last_end : (b : ℕ) (s : List (Entry A)) → Falls K 0 b s → Falls K 0 (last_end K s) s
  Falls-to_last_end b [] f = omega arith
  Falls-to_last_end b (e ∷ s) f = (f.0, omega arith, f.2)

  pub Rises-to_last_end : (b : ℕ) (l : List (Entry A)) → Rises K 0 b l → Rises K 0 (last_end K (reverse l)) l
  Rises-to_last_end b l r =
      let s = reverse l in
      rw (reverse-reverse l) at ((Falls-iff_rises 0 (last_end K s) s).0 (Falls-to_last_end b s ((Falls-iff_rises 0 b s).1 (rw (reverse-reverse l) r))))

  -- A cell of the sky that starts where a map ends, or later, makes it a map again.
  pub Falls-cons : (b : ℕ) (e : Entry A) (s : List (Entry A)) → Falls K 0 b s → e.depth ≤ K → e.hash < n_hash e.depth → last_end K s ≤ start_of K e → Falls K 0 (n_hash K) (e ∷ s)
  Falls-cons b e s f u v w = (u, (valid_iff_end_le K e.depth e.hash u).0 v, Falls-to 0 (last_end K s) (start_of K e) s w (Falls-to_last_end b s f))
