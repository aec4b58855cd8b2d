-- The ranges that are joined so far, written to two buffers. Assumes nothing.
use mathlib.Core.Path.{◌≡◌, refl, ap, ◌∙◌}
use mathlib.Core.List.{List, ◌∷◌}
use Prim.Native.Nat.{ℕ, ◌+◌, ◌-◌, ◌≤◌, ◌<◌}
use native.Mathlib.Omega.{arith}
use lib.ListN.{length, get_or, drop, set, length-set}
use Rattle.coverage.specs.Ranges.{range, join_touching}
use Rattle.coverage.specs.Coverage.{entry_ranges, coverage_of}
use Rattle.coverage.specs.Promises.{RangeOf, Stand}
use Rattle.coverage.proofs.Joining.{unload-length, Joining, Joining-start, Joining-end, Joining-same, Joining-new, stack, stack-new, stack-longer, stack-stands}

-- The ranges of i entries are joined and stand in the first n places of two buffers, which had ss₀ and es₀.
pub record Writing (zs ss₀ es₀ ss es : List ℕ) (i n last : ℕ) : Type 0 where
  pub joined : Joining zs i n last (stack n ss es)
  pub starts : length ss ≡ length ss₀
  pub ends : length es ≡ length es₀

pub as_written : {zs ss₀ es₀ ss es ss' es' : List ℕ} {i n m last end : ℕ} → ss' ≡ ss → es' ≡ es → m ≡ n → end ≡ last → Writing zs ss₀ es₀ ss es i n last → Writing zs ss₀ es₀ ss' es' i m end
as_written a b e f w = rw (a, b, e, f) w

module _ (zs ss₀ es₀ : List ℕ) where
  pub writing_start : Writing zs ss₀ es₀ ss₀ es₀ 0 0 18446744073709551615
  writing_start = record { joined = Joining-start zs; starts = refl; ends = refl }

  module _ (ss es : List ℕ) (i n last : ℕ) (w : Writing zs ss₀ es₀ ss es i n last) where
    -- There are not more of them than there will be.
    few : n ≤ length (coverage_of 29 zs)
    few = omega (arith, w.joined.number, unload-length (stack n ss es) (join_touching (entry_ranges 29 (drop i zs))), ap length w.joined.goal)

    pub Writing-end : length (coverage_of 29 zs) ≤ length ss₀ → length (coverage_of 29 zs) ≤ length es₀ → length zs ≤ i → Stand (coverage_of 29 zs) ss es
    Writing-end u v l = stack-stands n ss es (coverage_of 29 zs) (omega (arith, few, w.starts)) (omega (arith, few, w.ends)) (Joining-end zs i n last (stack n ss es) w.joined l)

    module _ (l : i < length zs) (a b : ℕ) (x : RangeOf 29 (get_or zs i 0) a b) where
      -- Where the next range starts at the end of the last one, there is a last one,
      pub writing_place : length (coverage_of 29 zs) ≤ length es₀ → a ≡ last → (1 ≤ n) × (n - 1 < length es)
      writing_place v e = let t = Joining-same zs i n last (stack n ss es) w.joined l a b x e in let p : 1 ≤ n = omega (arith, w.joined.number, ap length t.2) in (p, omega (arith, few, w.ends))

      -- which gets a new end.
      pub Writing-same : length (coverage_of 29 zs) ≤ length es₀ → a ≡ last → Writing zs ss₀ es₀ ss (set es (n - 1) b) (i + 1) n b
      Writing-same v e =
          let t = Joining-same zs i n last (stack n ss es) w.joined l a b x e in
          record {
            joined = rw (stack-longer n b ss es t.0 t.1 (omega (arith, few, w.ends)) t.2) t.3;
            starts = w.starts;
            ends = length-set es (n - 1) b ∙ w.ends;
          }

      next : (a ≡ last → ⊥) → Joining zs (i + 1) (n + 1) b (range a b ∷ stack n ss es)
      next e = Joining-new zs i n last (stack n ss es) w.joined l a b x e

      -- Where it starts elsewhere, there is a place for it,
      more : (a ≡ last → ⊥) → n < length (coverage_of 29 zs)
      more e = omega (arith, (next e).number, unload-length (range a b ∷ stack n ss es) (join_touching (entry_ranges 29 (drop (i + 1) zs))), ap length (next e).goal)

      pub writing_room : length (coverage_of 29 zs) ≤ length ss₀ → length (coverage_of 29 zs) ≤ length es₀ → (a ≡ last → ⊥) → (n < length ss) × (n < length es)
      writing_room u v e = (omega (arith, more e, w.starts), omega (arith, more e, w.ends))

      -- and it is stored there.
      pub Writing-new : length (coverage_of 29 zs) ≤ length ss₀ → length (coverage_of 29 zs) ≤ length es₀ → (a ≡ last → ⊥)
          → Writing zs ss₀ es₀ (set ss n a) (set es n b) (i + 1) (n + 1) b
      Writing-new u v e = record {
        joined = rw (stack-new n a b ss es (writing_room u v e).0 (writing_room u v e).1) (next e);
        starts = length-set ss n a ∙ w.starts;
        ends = length-set es n b ∙ w.ends;
      }
