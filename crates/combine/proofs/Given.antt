-- The entries of a valid map rise, none is deeper than its depth, and they are read back as they were laid. Assumes nothing.
use mathlib.Core.Path.{◌≡◌, refl, ap}
use mathlib.Core.Bool.{true, false≢true}
use mathlib.Core.List.{List, [], ◌∷◌, map}
use mathlib.Core.Logic.{inl, inr, ⊎_elim}
use mathlib.Core.Option.{Option, none, some}
use Prim.Native.Nat.{ℕ, ◌+◌, ◌≤◌, ◌<◌}
use native.Mathlib.Omega.{arith}
use lib.ListN.{length}
use Rattle.zuniq.specs.Cells.{n_hash, end}
use Rattle.zuniq.proofs.Codec.{cell, decodes}
use Rattle.zuniq.proofs.Ranges.{valid_iff_end_le}
use Rattle.refusal.specs.declared.Refusal.{Refusal}
use Rattle.mom.specs.Map.{first_fault, ValidMap}
use Rattle.mom.proofs.Rises.{Rises as ZuniqsRise, valid_rises}
use Rattle.build.specs.Map.{Entry}
use Rattle.build.specs.Buffers.{zuniq_of, value_of}
use Rattle.build.specs.Promises.{Has, Rises}
use Rattle.build.specs.Add.{map_refusal, sum_of}
use Rattle.build.proofs.Checking.{map_passes}
use Rattle.build.specs.Counts.{total_of}
use Rattle.combine.specs.Slices.{entries_of, Holds, passes}
use Rattle.combine.proofs.Deeper.{Shallow}

module _ {A : Type 0} (D : ℕ) where
  rise_from : (b : ℕ) (zs : List ℕ) (vs : List A) → b ≤ n_hash 29 → length zs ≡ length vs → ZuniqsRise 29 D b zs → Rises 29 b (n_hash 29) (entries_of zs vs) × Shallow D (entries_of zs vs)
  unfolding entries_of
  rise_from b [] vs u n r = (u, λ e m. absurd m)
  rise_from b (z ∷ zs) [] u n r = absurd (omega arith)
  rise_from b (z ∷ zs) (v ∷ vs) u n r =
      let d = r.0.depth in
      let h = r.0.hash in
      let q = (decodes 29 z (cell d h)).1 r.0.is in
      let more = rise_from (end 29 d h) zs vs ((valid_iff_end_le 29 d h r.0.is.deep).0 r.0.is.hash) (omega arith) r.1 in
      rw q ((r.0.is.deep, r.0.from, more.0), λ e m. ⊎_elim (λ p. omega (arith, r.0.shallow, ap (λ (c : Entry A). c.depth) p)) (more.1 e) m)

  -- The entries of a valid map rise,
  pub entries_rise : (zs : List ℕ) (vs : List A) → length zs ≡ length vs → ValidMap 29 D zs → Rises 29 0 (n_hash 29) (entries_of zs vs)
  entries_rise zs vs n v = (rise_from 0 zs vs (omega arith) n (valid_rises 29 D zs v)).0

  -- and none is deeper than the map.
  pub entries_shallow : (zs : List ℕ) (vs : List A) → length zs ≡ length vs → ValidMap 29 D zs → Shallow D (entries_of zs vs)
  entries_shallow zs vs n v = (rise_from 0 zs vs (omega arith) n (valid_rises 29 D zs v)).1

-- Entries that are cells of the sky are read back from the buffers in which they were laid.
pub entries_laid : {A : Type 0} (l : List (Entry A)) → ((e : Entry A) → Has l e → (e.depth ≤ 29) × (e.hash < n_hash e.depth)) → entries_of (map (zuniq_of 29) l) (map value_of l) ≡ l
unfolding entries_of
entries_laid [] low = refl
entries_laid {A} (e ∷ l) low =
    let u = low e (inl refl) in
    rw ((decodes 29 _ (cell e.depth e.hash)).1 (record { deep = u.0; hash = u.1; is = refl })) (ap (λ (m : List (Entry A)). e ∷ m) (entries_laid l (λ c m. low c (inr m))))

-- ---- totals
total_from : (D b : ℕ) (zs vs : List ℕ) → length zs ≡ length vs → ZuniqsRise 29 D b zs → total_of (entries_of zs vs) ≡ sum_of vs
unfolding entries_of sum_of
total_from D b [] [] n r = refl
total_from D b [] (x ∷ vs) n r = absurd (omega arith)
total_from D b (z ∷ zs) [] n r = absurd (omega arith)
total_from D b (z ∷ zs) (x ∷ vs) n r =
    let q = (decodes 29 z (cell r.0.depth r.0.hash)).1 r.0.is in
    rw q (ap (λ (k : ℕ). x + k) (total_from D (end 29 r.0.depth r.0.hash) zs vs (omega arith) r.1))

-- The total of a valid map is the sum of its counts.
pub entries_total : (D : ℕ) (zs vs : List ℕ) → length zs ≡ length vs → ValidMap 29 D zs → total_of (entries_of zs vs) ≡ sum_of vs
entries_total D zs vs n v = total_from D 0 zs vs n (valid_rises 29 D zs v)

-- ---- two slices that a check has passed
none_of_passes : (o : Option Refusal) → passes o ≡ true → o ≡ none
none_of_passes none q = refl
none_of_passes (some x) q = absurd (false≢true q)

pub map_holds : {A : Type 0} (D : ℕ) (zs : List ℕ) (vs : List A) → length zs ≡ length vs → passes (map_refusal (first_fault 29 D zs)) ≡ true → Holds zs vs
map_holds D zs vs n q =
    let v = map_passes 29 D zs (none_of_passes (map_refusal (first_fault 29 D zs)) q) in
    record { paired = n; valid = v.valid; rises = entries_rise D zs vs n v }
