-- Rising by ranges is rising by zuniq with no overlap, whatever the largest depth is, and the defined map does not depend on it.
-- Assumes nothing.
use mathlib.Core.Path.{◌≡◌, refl, ap, sym, ◌∙◌}
use mathlib.Core.List.{List, [], ◌∷◌, reverse, reverse-reverse}
use mathlib.Core.Logic.{inl, inr, ◌↔◌}
use Prim.Native.Nat.{ℕ, ◌*◌, ◌-◌, ◌^◌, ◌≤◌}
use native.Mathlib.Omega.{arith}
use native.Mathlib.Nat.{mul-le-mul_right, le_of_mul-le-mul_right}
use Rattle.zuniq.specs.Cells.{n_hash, start, end}
use Rattle.zuniq.proofs.Basics.{four_pow_pos, four_pow_split}
use Rattle.zuniq.proofs.Ranges.{end-le_start_iff_zuniq_lt, valid_iff_end_le}
use Rattle.build.specs.Map.{Entry, Merger, defined_map}
use Rattle.build.specs.Promises.{Has, start_of, end_of, Rises, Ascends}
use Rattle.build.proofs.Rising.{Rises-has, Rises-from, Rises-le}
use Rattle.build.proofs.Law.{run-gives_defined_map}

module _ {A : Type 0} (K : ℕ) where
  -- A list within the sky rises by ranges exactly if its zuniqs rise and no two cells overlap.
  pub Rises-iff_ascends : (l : List (Entry A)) → Rises K 0 (n_hash K) l ↔ Ascends K l
  Rises-iff_ascends l = (there 0 l, back l)
    where
      there : (a : ℕ) (l : List (Entry A)) → Rises K a (n_hash K) l → Ascends K l
      there a [] r = tt
      there a (e ∷ l) r = (
        r.0,
        (valid_iff_end_le K e.depth e.hash r.0).1 (Rises-le K (end_of K e) (n_hash K) l r.2),
        λ c m. let p = Rises-has K (end_of K e) (n_hash K) l c r.2 m in (end-le_start_iff_zuniq_lt K e.depth e.hash c.depth c.hash r.0 p.0).0 p.1,
        there (end_of K e) l r.2,
      )

      -- a list that ascends may start where all of it is behind
      from : (a : ℕ) (l : List (Entry A)) → a ≤ n_hash K → ((c : Entry A) → Has l c → a ≤ start_of K c) → Rises K 0 (n_hash K) l → Rises K a (n_hash K) l
      from a [] u b r = u
      from a (e ∷ l) u b r = (r.0, b e (inl refl), r.2)

      back : (l : List (Entry A)) → Ascends K l → Rises K 0 (n_hash K) l
      back [] t = omega arith
      back (e ∷ l) t =
          let r = back l t.3 in (
            t.0,
            omega arith,
            from (end_of K e) l ((valid_iff_end_le K e.depth e.hash t.0).0 t.1)
                (λ c m. (end-le_start_iff_zuniq_lt K e.depth e.hash c.depth c.hash t.0 (Rises-has K 0 (n_hash K) l c r m).0).1 (t.2 c m)) r,
          )

-- ---- another largest depth
sky_scales : (K L : ℕ) → K ≤ L → n_hash L ≡ n_hash K * 4 ^ (L - K)
unfolding n_hash
sky_scales K L u = rw (four_pow_split L K (L - K) (omega arith)) (omega arith)

module _ {A : Type 0} (K L : ℕ) (deeper : K ≤ L) where
  -- A range over L is the range over K, each of whose cells has so many in it.
  start_scales : (e : Entry A) → e.depth ≤ K → start_of L e ≡ start_of K e * 4 ^ (L - K)
  unfolding start
  start_scales e u = rw (four_pow_split (L - e.depth) (K - e.depth) (L - K) (omega arith)) (omega arith)

  end_scales : (e : Entry A) → e.depth ≤ K → end_of L e ≡ end_of K e * 4 ^ (L - K)
  unfolding end
  end_scales e u = rw (four_pow_split (L - e.depth) (K - e.depth) (L - K) (omega arith)) (omega arith)

  Rises-scales : (a b : ℕ) (l : List (Entry A)) → Rises K a b l → Rises L (a * 4 ^ (L - K)) (b * 4 ^ (L - K)) l
  Rises-scales a b [] r = mul-le-mul_right (4 ^ (L - K)) r
  Rises-scales a b (e ∷ l) r = (omega (arith, r.0), rw (start_scales e r.0) (mul-le-mul_right (4 ^ (L - K)) r.1), rw (end_scales e r.0) (Rises-scales (end_of K e) b l r.2))

  scales_rises : (a b : ℕ) (l : List (Entry A)) → ((e : Entry A) → Has l e → e.depth ≤ K) → Rises L (a * 4 ^ (L - K)) (b * 4 ^ (L - K)) l → Rises K a b l
  scales_rises a b [] low r = le_of_mul-le-mul_right r (four_pow_pos (L - K))
  scales_rises a b (e ∷ l) low r =
      let u = low e (inl refl) in
      (u, le_of_mul-le-mul_right (rw (start_scales e u) at r.1) (four_pow_pos (L - K)), scales_rises (end_of K e) b l (λ c m. low c (inr m)) (rw (end_scales e u) at r.2))

  -- A list rises over K exactly if it rises over L and has no cell deeper than K.
  pub Rises-deeper_iff : (l : List (Entry A)) → Rises K 0 (n_hash K) l ↔ (((e : Entry A) → Has l e → e.depth ≤ K) × Rises L 0 (n_hash L) l)
  Rises-deeper_iff l = (
    λ r. (λ e m. (Rises-has K 0 (n_hash K) l e r m).0, Rises-from L 0 (0 * 4 ^ (L - K)) (n_hash L) l (omega arith) (rw (sky_scales K L deeper) (Rises-scales 0 (n_hash K) l r))),
    λ r. scales_rises 0 (n_hash K) l r.0 (Rises-from L (0 * 4 ^ (L - K)) 0 _ l (omega arith) (rw (sky_scales K L deeper) at r.1)),
  )

  -- The defined map is the same over any depth that no cell exceeds.
  pub defined_map-deeper : (accept : Merger A) (l : List (Entry A)) → Rises K 0 (n_hash K) l → defined_map accept K l ≡ defined_map accept L l
  defined_map-deeper accept l r =
      sym (reverse-reverse (defined_map accept K l))
      ∙ ap reverse (sym (run-gives_defined_map accept K l r) ∙ run-gives_defined_map accept L l ((Rises-deeper_iff l).0 r).1) ∙ reverse-reverse (defined_map accept L l)
