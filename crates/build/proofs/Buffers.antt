-- The laws of maps in two buffers and of batches: lengths, what an entry more is, and that a map is read as it was laid.
-- Assumes nothing.
use mathlib.Core.Path.{◌≡◌, refl, ap, sym, ◌∙◌}
use mathlib.Core.List.{List, [], ◌∷◌, ◌++◌, map, map-append, reverse, reverse_aux, reverse-cons, reverse-reverse, append_assoc, append-nil}
use mathlib.Core.Logic.{inl, inr}
use Prim.Native.Nat.{ℕ, suc, ◌+◌, ◌≤◌, ◌<◌}
use native.Mathlib.Omega.{arith}
use native.Mathlib.Numerals.{add-one}
use lib.ListN.{length, take, drop, get_or, length-append, length-map, length-replicate, length-reverse, drop_of_length-le}
use lib.Seq.{take_at, drop-cons, length-take-le}
use Rattle.zuniq.specs.Cells.{n_hash}
use Rattle.zuniq.specs.Codec.{zuniq, IsZuniqOf}
use Rattle.zuniq.proofs.Codec.{cell, decodes}
use Rattle.build.specs.Map.{Entry, entry}
use Rattle.build.specs.Promises.{Has}
use Rattle.build.proofs.Entries.{Any-reverse}
use Rattle.build.specs.Buffers.{batch, laid, filled, zuniq_of, value_of, read_onto, held}

module _ {A B : Type 0} (part : Entry A → B) where
  -- ---- a map in a buffer
  -- As many places are taken as there are entries.
  pub length-laid : (s : List (Entry A)) → length (laid part s) ≡ length s
  unfolding laid
  length-laid s = length-map (reverse s) part ∙ length-reverse s

  -- A buffer has its places, whatever it holds.
  pub length-filled : (filler : B) (places : ℕ) (s : List (Entry A)) → length s ≤ places → length (filled part filler places s) ≡ places
  unfolding filled
  length-filled filler places s u = simp (length-append, length-laid, length-replicate) (omega arith)

  -- The last entry stands behind the others.
  pub laid_cons : (e : Entry A) (s : List (Entry A)) → laid part (e ∷ s) ≡ laid part s ++ (part e ∷ [])
  unfolding laid
  laid_cons e s = ap (map part) (reverse-cons e s) ∙ map-append part (reverse s) (e ∷ [])

  -- The same before what comes after.
  pub laid-cons_append : (e : Entry A) (s : List (Entry A)) (t : List B) → laid part (e ∷ s) ++ t ≡ laid part s ++ (part e ∷ t)
  laid-cons_append e s t = rw laid_cons (append_assoc (laid part s) (part e ∷ []) t)

  -- The same of several.
  pub laid-onto : (l s : List (Entry A)) → laid part (reverse_aux l s) ≡ laid part s ++ map part l
  laid-onto [] s = sym (append-nil (laid part s))
  laid-onto (e ∷ l) s = laid-onto l (e ∷ s) ∙ laid-cons_append e s (map part l)

  -- The entries are the first places of the whole buffer.
  pub take-filled : (filler : B) (places : ℕ) (s : List (Entry A)) → take (length s) (filled part filler places s) ≡ laid part s
  unfolding filled
  take-filled filler places s = take_at (laid part s) _ (length s) (length-laid s)

-- ---- reading
-- all of them are zuniqs
abbrev pub Zuniqs : ℕ → List ℕ → Type 0
Zuniqs K [] = Unit {0}
Zuniqs K (z ∷ zs) = ((d : ℕ) × (h : ℕ) × IsZuniqOf K z d h) × Zuniqs K zs

module _ {A : Type 0} (K : ℕ) where
  read_laid : (l s : List (Entry A)) → ((e : Entry A) → Has l e → (e.depth ≤ K) × (e.hash < n_hash e.depth)) → read_onto K s (map (zuniq_of K) l) (map value_of l) ≡ reverse_aux l s
  unfolding read_onto
  read_laid [] s low = refl
  read_laid (e ∷ l) s low =
      let u = low e (inl refl) in
      rw ((decodes K _ (cell e.depth e.hash)).1 (record { deep = u.0; hash = u.1; is = refl })) (read_laid l (e ∷ s) (λ c m. low c (inr m)))

  -- A map of cells of the sky is read as it was laid, whatever comes after.
  pub held-laid : (s : List (Entry A)) (t : List ℕ) (r : List A) → ((e : Entry A) → Has s e → (e.depth ≤ K) × (e.hash < n_hash e.depth))
      → held K (length s) (laid (zuniq_of K) s ++ t) (laid value_of s ++ r) ≡ s
  unfolding held laid
  held-laid s t r low =
      rw (take_at (laid (zuniq_of K) s) t (length s) (length-laid (zuniq_of K) s), take_at (laid value_of s) r (length s) (length-laid value_of s))
      (read_laid (reverse s) [] (λ e m. low e ((Any-reverse _ s).0 m)) ∙ reverse-reverse s)

  laid-read : (s : List (Entry A)) (zs : List ℕ) (vs : List A) → Zuniqs K zs → length zs ≡ length vs
      → (laid (zuniq_of K) (read_onto K s zs vs) ≡ laid (zuniq_of K) s ++ zs) × (laid value_of (read_onto K s zs vs) ≡ laid value_of s ++ vs)
  unfolding read_onto
  laid-read s [] [] v n = (sym (append-nil _), sym (append-nil _))
  laid-read s [] (y ∷ vs) v n = absurd (omega arith)
  laid-read s (z ∷ zs) [] v n = absurd (omega arith)
  laid-read s (z ∷ zs) (y ∷ vs) v n =
      let d = v.0.0 in
      let h = v.0.1 in
      let more = laid-read (entry d h y ∷ s) zs vs v.1 (omega arith) in
      rw ((decodes K z (cell d h)).1 v.0.2) (more.0 ∙ rw v.0.2.is (laid-cons_append (zuniq_of K) (entry d h y) s zs), more.1 ∙ laid-cons_append value_of (entry d h y) s vs)

  -- A held map stands in its buffers.
  pub laid-held : (m : ℕ) (zs : List ℕ) (vs : List A) → m ≤ length zs → m ≤ length vs → Zuniqs K (take m zs) → (laid (zuniq_of K) (held K m zs vs) ≡ take m zs) × (laid value_of (held K m zs vs) ≡ take m vs)
  unfolding held laid
  laid-held m zs vs u w v = laid-read [] (take m zs) (take m vs) v (length-take-le m zs u ∙ sym (length-take-le m vs w))

  -- It has the stated number of entries.
  pub length-held : (m : ℕ) (zs : List ℕ) (vs : List A) → m ≤ length zs → m ≤ length vs → Zuniqs K (take m zs) → length (held K m zs vs) ≡ m
  length-held m zs vs u w v = sym (length-laid (zuniq_of K) (held K m zs vs)) ∙ ap length (laid-held m zs vs u w v).0 ∙ length-take-le m zs u

-- ---- batches
module _ {A : Type 0} (D : ℕ) where
  -- A batch has as many cells as hashes.
  pub length-batch : (hs : List ℕ) (vs : List A) → length hs ≡ length vs → length (batch D hs vs) ≡ length hs
  unfolding batch
  length-batch [] vs n = refl
  length-batch (h ∷ hs) [] n = absurd (omega arith)
  length-batch (h ∷ hs) (v ∷ vs) n = ap suc (length-batch hs vs (omega arith))

  -- Its zuniqs and its values.
  pub batch-zuniqs : (K : ℕ) (hs : List ℕ) (vs : List A) → length hs ≡ length vs → map (zuniq_of K) (batch D hs vs) ≡ map (zuniq K D) hs
  unfolding batch
  batch-zuniqs K [] vs n = refl
  batch-zuniqs K (h ∷ hs) [] n = absurd (omega arith)
  batch-zuniqs K (h ∷ hs) (v ∷ vs) n = ap (λ (l : List ℕ). zuniq K D h ∷ l) (batch-zuniqs K hs vs (omega arith))

  pub batch-values : (hs : List ℕ) (vs : List A) → length hs ≡ length vs → map value_of (batch D hs vs) ≡ vs
  unfolding batch
  batch-values [] [] n = refl
  batch-values [] (v ∷ vs) n = absurd (omega arith)
  batch-values (h ∷ hs) [] n = absurd (omega arith)
  batch-values (h ∷ hs) (v ∷ vs) n = ap (λ (l : List A). v ∷ l) (batch-values hs vs (omega arith))

  -- The cells from the i-th on, by place.
  pub batch-drop : (hs : List ℕ) (vs : List A) (u : A) (i : ℕ) → i < length hs → i < length vs → batch D (drop i hs) (drop i vs) ≡ entry D (get_or hs i 0) (get_or vs i u) ∷ batch D (drop (i + 1) hs) (drop (i + 1) vs)
  unfolding batch
  batch-drop hs vs u i h k = rw (add-one i, drop-cons hs i 0 h, drop-cons vs i u k)

  -- After the last one there are none.
  pub batch-drop_end : (hs : List ℕ) (vs : List A) (i : ℕ) → length hs ≤ i → batch D (drop i hs) (drop i vs) ≡ []
  unfolding batch
  batch-drop_end hs vs i h = rw (drop_of_length-le hs h)
