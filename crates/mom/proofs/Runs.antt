-- The laws of lookup: what looking at one entry after the other finds is told by which entries overlap or contain the
-- query, and in a valid map the entries that overlap it are a part of the map. Over any largest depth K. Assumes nothing.
use mathlib.Core.Path.{◌≡◌, refl, sym, ap, ◌∙◌}
use mathlib.Core.Bool.{Bool, true, false, cond, false≢true}
use mathlib.Core.Logic.{◌⊎◌, inl, inr, ◌↔◌}
use mathlib.Core.List.{List, [], ◌∷◌}
use Prim.Native.Nat.{ℕ, zero, suc, ◌+◌, ◌-◌, ◌≤◌, ◌<◌}
use native.Mathlib.Nat.{le_of_suc-le-suc}
use native.Mathlib.Omega.{arith}
use lib.ListN.{length, get_or, take, drop}
use lib.Seq.{take-nil, drop-nil}
use Rattle.std.specs.Prelude.{None, Some, Ok}
use Rattle.zuniq.specs.Codec.{decode}
use Rattle.zuniq.specs.declared.Decoded.{Decoded}
use Rattle.zuniq.proofs.Basics.{is_false}
use Rattle.mom.specs.declared.lookup.Run.{Run}
use Rattle.mom.specs.Map.{overlaps, ValidMap}
use Rattle.mom.specs.Lookup.{contains, place_from, overlapped, first_from, run_or, overlapping, part_of}
use Rattle.mom.proofs.Valid.{overlaps-between, contains-once}

-- ---- one entry after the other
module _ (K q : ℕ) where
  -- The first entry that contains the query is found.
  pub place_found : (zs : List ℕ) (i k : ℕ) → i < length zs → contains K q (get_or zs i 0) ≡ true
      → ((j : ℕ) → j < i → contains K q (get_or zs j 0) ≡ false) → place_from K q k zs ≡ Some (k + i)
  unfolding place_from
  place_found [] i k l t none = absurd (omega arith)
  place_found (z ∷ zs) zero k l t none = let e : k + zero ≡ k = omega arith in rw (t, e) refl
  place_found (z ∷ zs) (suc i) k l t none =
      let e : k + suc i ≡ suc k + i = omega arith in
      rw (none 0 (omega arith), e) (place_found zs i (suc k) (le_of_suc-le-suc l) t (λ j m. none (suc j) (omega arith)))

  -- Where no entry contains it, none is.
  pub place_none : (zs : List ℕ) (k : ℕ) → ((j : ℕ) → j < length zs → contains K q (get_or zs j 0) ≡ false) → place_from K q k zs ≡ None
  unfolding place_from
  place_none [] k none = refl
  place_none (z ∷ zs) k none = rw (none 0 (omega arith)) (place_none zs (suc k) (λ j m. none (suc j) (omega arith)))

  -- What is found contains the query.
  found_place : (zs : List ℕ) (k i : ℕ) → place_from K q k zs ≡ Some i → (k ≤ i) × (i < k + length zs) × (contains K q (get_or zs (i - k) 0) ≡ true)
  unfolding place_from
  found_place [] k i e = let n : ◌≡◌ {A = ℕ} 0 1 = cc in absurd (omega arith)
  found_place (z ∷ zs) k i e = go (contains K q z) refl e (found_place zs (suc k) i)
    where
      go : (b : Bool) → contains K q z ≡ b → cond b (Some k) (place_from K q (suc k) zs) ≡ Some i
          → (place_from K q (suc k) zs ≡ Some i → (suc k ≤ i) × (i < suc k + length zs) × (contains K q (get_or zs (i - suc k) 0) ≡ true))
          → (k ≤ i) × (i < k + length (z ∷ zs)) × (contains K q (get_or (z ∷ zs) (i - k) 0) ≡ true)
      go true t e rest = let n : k ≡ i = cc in let m : i - k ≡ 0 = omega arith in (omega arith, omega arith, rw m t)
      go false t e rest =
          let f = rest e in
          let m : i - k ≡ suc (i - suc k) = omega (arith, f.0) in
          (omega (arith, f.0), omega (arith, f.1), rw m f.2)

  -- The first entry that overlaps the query is found.
  pub first_found : (zs : List ℕ) (i k : ℕ) → i < length zs → overlaps K q (get_or zs i 0) ≡ true
      → ((j : ℕ) → j < i → overlaps K q (get_or zs j 0) ≡ false) → first_from K q k zs ≡ k + i
  unfolding first_from
  first_found [] i k l t none = absurd (omega arith)
  first_found (z ∷ zs) zero k l t none = rw t (omega arith)
  first_found (z ∷ zs) (suc i) k l t none =
      rw (none 0 (omega arith)) (first_found zs i (suc k) (le_of_suc-le-suc l) t (λ j m. none (suc j) (omega arith)) ∙ omega arith)

  -- Where no entry overlaps it, the first place is 0.
  pub first_none : (zs : List ℕ) (k : ℕ) → ((j : ℕ) → j < length zs → overlaps K q (get_or zs j 0) ≡ false) → first_from K q k zs ≡ 0
  unfolding first_from
  first_none [] k none = refl
  first_none (z ∷ zs) k none = rw (none 0 (omega arith)) (first_none zs (suc k) (λ j m. none (suc j) (omega arith)))

  -- Entries that overlap the query, and stand one behind the other, are a part of the map.
  pub overlapped-part : (zs : List ℕ) (first len : ℕ) → first + len ≤ length zs
      → ((j : ℕ) → j < first → overlaps K q (get_or zs j 0) ≡ false)
      → ((j : ℕ) → first ≤ j → j < first + len → overlaps K q (get_or zs j 0) ≡ true)
      → ((j : ℕ) → first + len ≤ j → j < length zs → overlaps K q (get_or zs j 0) ≡ false)
      → overlapped K zs q ≡ take len (drop first zs)
  unfolding overlapped
  overlapped-part [] first len l before inside after = rw (drop-nil first, take-nil len) refl
  overlapped-part (z ∷ zs) zero zero l before inside after =
      rw (after 0 (omega arith) (omega arith)) (overlapped-part zs zero zero (omega arith) (λ j m. absurd (omega arith)) (λ j m n. absurd (omega arith)) (λ j m n. after (suc j) (omega arith) (omega arith)))
  overlapped-part (z ∷ zs) zero (suc len) l before inside after =
      rw (inside 0 (omega arith) (omega arith))
      (ap (λ (rest : List ℕ). z ∷ rest)
      (overlapped-part zs zero len (omega arith) (λ j m. absurd (omega arith)) (λ j m n. inside (suc j) (omega arith) (omega arith)) (λ j m n. after (suc j) (omega arith) (omega arith))))
  overlapped-part (z ∷ zs) (suc first) len l before inside after =
      rw (before 0 (omega arith))
      (overlapped-part zs first len (omega arith) (λ j m. before (suc j) (omega arith)) (λ j m n. inside (suc j) (omega arith) (omega arith)) (λ j m n. after (suc j) (omega arith) (omega arith)))

  -- Where no entry overlaps it, there is none to show.
  overlapped-none : (zs : List ℕ) → ((j : ℕ) → j < length zs → overlaps K q (get_or zs j 0) ≡ false) → overlapped K zs q ≡ []
  unfolding overlapped
  overlapped-none [] none = refl
  overlapped-none (z ∷ zs) none = rw (none 0 (omega arith)) (overlapped-none zs (λ j m. none (suc j) (omega arith)))

  -- If each entry before one that overlaps the query does so too, those that do are the first of the map.
  overlapped-front : (zs : List ℕ) → ((i j : ℕ) → i < j → j < length zs → overlaps K q (get_or zs j 0) ≡ true → overlaps K q (get_or zs i 0) ≡ true)
      → take (length (overlapped K zs q)) zs ≡ overlapped K zs q
  unfolding overlapped
  overlapped-front [] front = refl
  overlapped-front (z ∷ zs) front = go (overlaps K q z) refl (overlapped-front zs (λ i j l m. front (suc i) (suc j) (omega arith) (omega arith)))
    where
      go : (b : Bool) → overlaps K q z ≡ b → take (length (overlapped K zs q)) zs ≡ overlapped K zs q
          → take (length (cond b (z ∷ overlapped K zs q) (overlapped K zs q))) (z ∷ zs) ≡ cond b (z ∷ overlapped K zs q) (overlapped K zs q)
      go true e rest = ap (λ (l : List ℕ). z ∷ l) rest
      go false e rest =
          rw (overlapped-none zs (λ j m. is_false _ (λ t. false≢true (sym e ∙ front 0 (suc j) (omega arith) (omega arith) t)))) refl

  -- The first place is k or after, unless no entry overlaps the query.
  first_from_lem : (zs : List ℕ) (k : ℕ) → (overlapped K zs q ≡ []) ⊎ (k ≤ first_from K q k zs)
  unfolding overlapped first_from
  first_from_lem [] k = inl refl
  first_from_lem (z ∷ zs) k = go (overlaps K q z) (first_from_lem zs (suc k))
    where
      go : (b : Bool) → (overlapped K zs q ≡ []) ⊎ (suc k ≤ first_from K q (suc k) zs)
          → (cond b (z ∷ overlapped K zs q) (overlapped K zs q) ≡ []) ⊎ (k ≤ cond b k (first_from K q (suc k) zs))
      go true rest = inr (omega arith)
      go false (inl e) = inl e
      go false (inr l) = inr (omega arith)

  -- If each entry between two that overlap the query does so too, those that do are a part of the map.
  overlapped-run : (zs : List ℕ) (k : ℕ)
      → ((h i j : ℕ) → h < i → i < j → j < length zs → overlaps K q (get_or zs h 0) ≡ true → overlaps K q (get_or zs j 0) ≡ true → overlaps K q (get_or zs i 0) ≡ true)
      → take (length (overlapped K zs q)) (drop (first_from K q k zs - k) zs) ≡ overlapped K zs q
  unfolding overlapped first_from
  overlapped-run [] k between = refl
  overlapped-run (z ∷ zs) k between =
      go (overlaps K q z) refl (first_from_lem zs (suc k)) (overlapped-run zs (suc k) (λ h i j l m n. between (suc h) (suc i) (suc j) (omega arith) (omega arith) (omega arith)))
    where
      go : (b : Bool) → overlaps K q z ≡ b → (overlapped K zs q ≡ []) ⊎ (suc k ≤ first_from K q (suc k) zs)
          → take (length (overlapped K zs q)) (drop (first_from K q (suc k) zs - suc k) zs) ≡ overlapped K zs q
          → take (length (cond b (z ∷ overlapped K zs q) (overlapped K zs q))) (drop (cond b k (first_from K q (suc k) zs) - k) (z ∷ zs))
          ≡ cond b (z ∷ overlapped K zs q) (overlapped K zs q)
      go true e first rest =
          let n : k - k ≡ 0 = omega arith in
          rw n (ap (λ (l : List ℕ). z ∷ l) (overlapped-front zs (λ i j l m t. between 0 (suc i) (suc j) (omega arith) (omega arith) (omega arith) e t)))
      go false e (inl none) rest = rw none refl
      go false e (inr l) rest = let n : first_from K q (suc k) zs - k ≡ suc (first_from K q (suc k) zs - suc k) = omega arith in rw n rest

-- ---- over a valid map
-- The entries that overlap a query are consecutive: they are the part of the map that the run names.
pub overlapping-part : {K D : ℕ} {zs : List ℕ} → ValidMap K D zs → (q : ℕ) (run : Run) → overlapping K zs q ≡ Ok run → part_of zs run ≡ overlapped K zs q
unfolding part_of overlapping run_or
overlapping-part {K} {D} {zs} v q run is = go (decode K q) is
  where
    found : Run
    found = record { first = first_from K q 0 zs; len = length (overlapped K zs q) }

    go : (r : Decoded) → run_or r found ≡ Ok run → part_of zs run ≡ overlapped K zs q
    go Decoded.Nothing e = let n : ◌≡◌ {A = ℕ} 0 1 = cc in absurd (omega arith)
    go (Decoded.Cell c) e =
        let same : found ≡ run = cc in
        let n : first_from K q 0 zs - 0 ≡ first_from K q 0 zs = omega arith in
        rw (← same) (rw n at (overlapped-run K q zs 0 (overlaps-between v q)))

-- The place found for a query is that of the one entry in which it lies.
pub place_iff_contains : {K D : ℕ} {zs : List ℕ} → ValidMap K D zs → (q i : ℕ)
    → (place_from K q 0 zs ≡ Some i) ↔ ((i < length zs) × (contains K q (get_or zs i 0) ≡ true))
place_iff_contains {K} {D} {zs} v q i = (
  λ e. let f = found_place K q zs 0 i e in let z : i - 0 ≡ i = omega arith in (omega (arith, f.1), rw z at f.2),
  λ p.
      let z : 0 + i ≡ i = omega arith in
      rw z at (place_found K q zs i 0 p.0 p.1 (λ j m. is_false _ (λ t. absurd (omega (arith, contains-once v q j i (omega (arith, p.0)) p.0 t p.1))))),
)
