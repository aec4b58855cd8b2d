-- Entries that rise are a valid map of section 3, by the zuniqs that stand for them. Assumes nothing.
use mathlib.Core.Path.{refl}
use mathlib.Core.List.{List, [], ◌∷◌, map}
use mathlib.Core.Logic.{inl, inr}
use Prim.Native.Nat.{ℕ, ◌≤◌}
use Rattle.zuniq.specs.Cells.{n_hash}
use Rattle.mom.specs.Map.{ValidMap}
use Rattle.mom.proofs.Rises.{Rises as ZuniqsRise, Rises-valid}
use Rattle.build.specs.Map.{Entry, Merger, defined_map}
use Rattle.build.specs.Buffers.{zuniq_of}
use Rattle.build.specs.Promises.{Has, end_of, Rises}
use Rattle.build.proofs.Rising.{Rises-in_range}
use Rattle.build.proofs.Order.{Rises-deeper_iff}
use Rattle.build.proofs.Tops.{defined_map-rises}

module _ {A : Type 0} (K D : ℕ) where
  zuniqs_rise : (a : ℕ) (l : List (Entry A)) → ((e : Entry A) → Has l e → e.depth ≤ D) → Rises K a (n_hash K) l → ZuniqsRise K D a (map (zuniq_of K) l)
  zuniqs_rise a [] low r = tt
  zuniqs_rise a (e ∷ l) low r = (
    record { depth = e.depth; hash = e.hash; is = record { deep = r.0; hash = (Rises-in_range K a (e ∷ l) e r (inl refl)).1; is = refl }; shallow = low e (inl refl); from = r.1 },
    zuniqs_rise (end_of K e) l (λ c m. low c (inr m)) r.2,
  )

  pub rising_is_valid : (l : List (Entry A)) → ((e : Entry A) → Has l e → e.depth ≤ D) → Rises K 0 (n_hash K) l → ValidMap K D (map (zuniq_of K) l)
  rising_is_valid l low r = Rises-valid K D 0 (map (zuniq_of K) l) (zuniqs_rise 0 l low r)

  -- The defined map is a valid map.
  pub defined_map-valid : (accept : Merger A) (l : List (Entry A)) → D ≤ K → ValidMap K D (map (zuniq_of K) (defined_map accept D l))
  defined_map-valid accept l deep =
      let m = defined_map accept D l in
      let r = (Rises-deeper_iff D K deep m).0 (defined_map-rises accept D l) in
      rising_is_valid m r.0 r.1
