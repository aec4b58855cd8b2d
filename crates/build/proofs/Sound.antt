-- Add calls that are not refused are fine: demand 3 holds for the count calls and for the density calls. Assumes nothing.
use mathlib.Core.Path.{◌≡◌, refl, ap, sym, ◌∙◌, subst}
use mathlib.Core.Bool.{Bool}
use mathlib.Core.List.{List, [], ◌∷◌, ◌++◌}
use mathlib.Core.Logic.{inl}
use mathlib.Core.Option.{none}
use Prim.Native.Nat.{ℕ, suc, ◌+◌, ◌*◌, ◌^◌, ◌-◌, ◌≤◌}
use native.Mathlib.Numerals.{add-one}
use native.Mathlib.Omega.{arith}
use lib.Ieee.{Float}
use lib.ListN.{length, length-append}
use lib.Seq.{get_or-append_seam}
use Rattle.zuniq.specs.Cells.{n_hash, start, end}
use Rattle.zuniq.specs.Codec.{decode}
use Rattle.refusal.specs.declared.Refusal.{Refusal}
use Rattle.zuniq.proofs.Codec.{cell, decodes}
use Rattle.zuniq.proofs.Ranges.{start-le_iff, start-at_depth, end-is_next_start, valid_iff_end_le}
use Rattle.mom.specs.Map.{ValidMap}
use Rattle.refusal.specs.Checks.{or_else, refused_if}
use Rattle.build.specs.Map.{Entry}
use Rattle.build.specs.Buffers.{batch, laid, zuniq_of}
use Rattle.build.specs.Promises.{Rises, Falls, last_end}
use Rattle.build.specs.Add.{cell_refusal, cells_refusal, cell_end, map_end}
use Rattle.build.specs.Counts.{count_calls}
use Rattle.build.specs.Densities.{density_calls}
use Rattle.build.proofs.Rising.{Falls-in_range}
use Rattle.build.proofs.Buffers.{laid_cons, length-batch}
use Rattle.refusal.proofs.Checks.{or_else_none}
use Rattle.build.proofs.Checking.{cell_passes}
use Rattle.build.proofs.Accepted.{Accepted, counts_accepted}
use Rattle.build.proofs.DensityCalls.{densities_accepted}
use Rattle.build.proofs.Calls.{Fine, Sound}

-- Cells that pass rise from the hash that they must not be below.
batch-rises : {A : Type 0} (bad : A → Bool) (K D least i : ℕ) (hs : List ℕ) (xs : List A) → D ≤ K → start K D least ≤ n_hash K → cells_refusal bad D least i hs xs ≡ none
    → Rises K (start K D least) (n_hash K) (batch D hs xs)
unfolding cells_refusal batch
batch-rises bad K D least i [] xs u w e = w
batch-rises bad K D least i (h ∷ hs) [] u w e = w
batch-rises bad K D least i (h ∷ hs) (x ∷ xs) u w e =
    let rest = cells_refusal bad D (h + 1) (i + 1) hs xs in
    let value = refused_if (bad x) (Refusal.InvalidDensity i) in
    let a = or_else_none (cell_refusal (n_hash D) least h i) (or_else value rest) e in
    let p = cell_passes (n_hash D) least h i a.0 in
    let next : end K D h ≡ start K D (h + 1) = end-is_next_start K D h ∙ ap (start K D) (sym (add-one h)) in
    let more = batch-rises bad K D (h + 1) (i + 1) hs xs u (subst (λ (n : ℕ). n ≤ n_hash K) next ((valid_iff_end_le K D h u).0 p.0)) (or_else_none value rest a.1).1 in
    (u, (start-le_iff K D least h).1 p.1, subst (λ (n : ℕ). Rises K n (n_hash K) (batch D hs xs)) (sym next) more)

-- ---- where the held map ends
map_end-append : (K D : ℕ) (zs : List ℕ) (z : ℕ) → map_end K D (zs ++ (z ∷ [])) ≡ cell_end D (decode K z)
unfolding map_end
map_end-append K D [] z = refl
map_end-append K D (y ∷ []) z = refl
map_end-append K D (y ∷ x ∷ zs) z = map_end-append K D (x ∷ zs) z

-- The end of a cell, as a hash of a depth that is no shallower, starts where the cell ends.
end-starts : (K D d h : ℕ) → d ≤ D → D ≤ K → start K D (end D d h) ≡ end K d h
unfolding end
end-starts K D d h u v = ap (λ (n : ℕ). start K D (n * 4 ^ (D - d))) (add-one h) ∙ sym (start-at_depth K d D u v (suc h)) ∙ sym (end-is_next_start K d h)

-- The last entry of a map of the sky ends in the sky.
last_end-le : {A : Type 0} (K : ℕ) (s : List (Entry A)) → Falls K 0 (n_hash K) s → last_end K s ≤ n_hash K
last_end-le K [] f = omega arith
last_end-le K (e ∷ s) f = f.1

-- It is the end of its last entry, as a hash of the map's depth.
map_end-is : {A : Type 0} (K D : ℕ) (s : List (Entry A)) → D ≤ K → Falls K 0 (n_hash K) s → ValidMap K D (laid (zuniq_of K) s) → start K D (map_end K D (laid (zuniq_of K) s)) ≡ last_end K s
unfolding laid map_end start cell_end end
map_end-is K D [] u f v = omega arith
map_end-is K D (e ∷ s) u f v =
    let d = e.depth in
    let h = e.hash in
    let zs = laid (zuniq_of K) s in
    let w : ValidMap K D (zs ++ (zuniq_of K e ∷ [])) = subst (ValidMap K D) (laid_cons (zuniq_of K) e s) v in
    let r = Falls-in_range K 0 (e ∷ s) e f (inl refl) in
    let q = (decodes K (zuniq_of K e) (cell d h)).1 (record { deep = r.0; hash = r.1; is = refl }) in
    let low : d ≤ D = w.shallow (length zs) d h (omega (arith, length-append zs (zuniq_of K e ∷ []))) (record { deep = r.0; hash = r.1; is = get_or-append_seam zs (zuniq_of K e) [] 0 }) in
    let last : map_end K D (laid (zuniq_of K) (e ∷ s)) ≡ end D d h = ap (map_end K D) (laid_cons (zuniq_of K) e s) ∙ map_end-append K D zs (zuniq_of K e) ∙ ap (cell_end D) q in
    ap (start K D) last ∙ end-starts K D d h low u

-- ---- the calls
Accepted-fine : {A : Type 0} (bad : A → Bool) (K D places values : ℕ) (s : List (Entry A)) (hs : List ℕ) (xs : List A) → Falls K 0 (n_hash K) s
    → Accepted bad K D (length s) places values (laid (zuniq_of K) s) hs xs → Fine K D places values s (batch D hs xs)
Accepted-fine bad K D places values s hs xs f a =
    let e = map_end-is K D s a.shallow f a.valid in
    let top : last_end K s ≤ n_hash K = last_end-le K s f in
    record {
      deep = a.shallow;
      same = a.paired;
      rises = subst (λ (n : ℕ). Rises K n (n_hash K) (batch D hs xs)) e (batch-rises bad K D _ 0 hs xs a.shallow (subst (λ (n : ℕ). n ≤ n_hash K) (sym e) top) a.cells);
      room = omega (arith, a.room, length-batch D hs xs a.batched);
    }

pub count_calls-sound : (K : ℕ) (P : List ℕ) (D M : ℕ) (T : Float) → Sound (count_calls K P D M T)
count_calls-sound K P D M T zs vs s c f q = Accepted-fine _ K D zs vs s c.hashes c.values f (counts_accepted K P D M T _ zs vs _ _ c.hashes c.values q).0

pub density_calls-sound : (P : List ℕ) (D M : ℕ) (T : Float) → Sound (density_calls P D M T)
density_calls-sound P D M T zs vs s c f q = Accepted-fine _ 29 D zs vs s c.hashes c.values f (densities_accepted P D M T _ zs vs _ _ c.hashes c.values q).0
