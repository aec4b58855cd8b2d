-- Row 13, and rows 5 and 13 together: neither applies exactly if the map is a valid one of the depth that it has once moved. From any
-- largest depth K to any L. Assumes nothing.
use mathlib.Core.Path.{◌≡◌, refl, ap, sym, ◌∙◌}
use mathlib.Core.Bool.{Bool, true, false, true≢false}
use mathlib.Core.Logic.{◌↔◌}
use mathlib.Core.List.{List, [], ◌∷◌}
use mathlib.Core.Option.{Option, none, some}
use Prim.Native.Nat.{ℕ, zero, suc, ◌+◌, ◌≤◌, ◌<◌, min}
use native.Mathlib.Numerals.{add-one}
use native.Mathlib.Omega.{arith}
use lib.ListN.{length, get_or, drop, drop_of_length-le}
use lib.Seq.{drop-cons}
use borrow.Author.Tests.{ltb-true, ltb-false, le-ltb}
use Rattle.refusal.specs.declared.Refusal.{Refusal}
use Rattle.zuniq.specs.Codec.{IsZuniqOf, decode}
use Rattle.zuniq.specs.declared.Decoded.{Decoded}
use Rattle.zuniq.proofs.Codec.{cell, decodes}
use Rattle.mom.specs.Map.{first_fault, ValidMap}
use Rattle.mom.proofs.Faults.{no_fault_iff_valid}
use Rattle.mom.proofs.Valid.{valid_deeper}
use Rattle.std.specs.Prelude.{Result, ⊤}
use Rattle.std.specs.Result.{is_ok}
use Rattle.refusal.specs.Checks.{or_else, refused_if, check_of}
use Rattle.build.specs.Add.{map_refusal}
use Rattle.refusal.proofs.Checks.{or_else_none, refused_if-none}
use Rattle.build.proofs.Checking.{map_passes}
use Rattle.moving.specs.Moving.{is_deeper, deep_refusal, entries_refusal, DeepAt, FirstDeep}

-- ---- row 5
-- A valid map is not refused by 5.
pub map_not_refused : (K D : ℕ) (zs : List ℕ) → ValidMap K D zs → map_refusal (first_fault K D zs) ≡ none
unfolding map_refusal
map_not_refused K D zs v = rw ((no_fault_iff_valid K D zs).1 v) refl

module _ (K L : ℕ) where
  -- ---- one entry
  deep_true : (z : ℕ) → is_deeper L (decode K z) ≡ true → (d : ℕ) × (h : ℕ) × IsZuniqOf K z d h × (L < d)
  unfolding is_deeper
  deep_true z e = go (decode K z) refl e
    where
      go : (r : Decoded) → decode K z ≡ r → is_deeper L r ≡ true → (d : ℕ) × (h : ℕ) × IsZuniqOf K z d h × (L < d)
      go Decoded.Nothing q t = absurd (true≢false (sym t))
      go (Decoded.Cell c) q t = (c.depth, c.hash, (decodes K z c).0 q, ltb-true L c.depth t)

  deep_false : (z d h : ℕ) → is_deeper L (decode K z) ≡ false → IsZuniqOf K z d h → d ≤ L
  unfolding is_deeper
  deep_false z d h e v = ltb-false L d (rw ((decodes K z (cell d h)).1 v) at e)

  not_deep : (z : ℕ) → ((d h : ℕ) → IsZuniqOf K z d h → d ≤ L) → is_deeper L (decode K z) ≡ false
  unfolding is_deeper
  not_deep z low = go (decode K z) refl
    where
      go : (r : Decoded) → decode K z ≡ r → is_deeper L r ≡ false
      go Decoded.Nothing e = refl
      go (Decoded.Cell c) e = le-ltb L c.depth (low c.depth c.hash ((decodes K z c).0 e))

  -- ---- entry by entry
  pub deep_at : (i : ℕ) (zs : List ℕ) → i < length zs
      → deep_refusal K L i (drop i zs) ≡ or_else (refused_if (is_deeper L (decode K (get_or zs i 0))) (Refusal.EntryTooDeep i)) (deep_refusal K L (i + 1) (drop (i + 1) zs))
  unfolding deep_refusal
  deep_at i zs p = rw (drop-cons zs i 0 p, add-one i) refl

  pub deep_end : (i : ℕ) (zs : List ℕ) → length zs ≤ i → deep_refusal K L i (drop i zs) ≡ none
  unfolding deep_refusal
  deep_end i zs p = rw (drop_of_length-le zs p) refl

  -- Row 13, if it applies, tells the first entry that is too deep.
  pub deep_first : (k : ℕ) (zs : List ℕ) (r : Refusal) → deep_refusal K L k zs ≡ some r → (i : ℕ) × (r ≡ Refusal.EntryTooDeep (k + i)) × FirstDeep K L zs i
  unfolding deep_refusal
  deep_first k [] r e = let z : ◌≡◌ {A = ℕ} 0 1 = cc in absurd (omega arith)
  deep_first k (z ∷ zs) r e = go (is_deeper L (decode K z)) refl e (deep_first (k + 1) zs r)
    where
      later : (i : ℕ) → is_deeper L (decode K z) ≡ false → FirstDeep K L zs i → (j : ℕ) → DeepAt K L (z ∷ zs) j → suc i ≤ j
      later i t f zero p = absurd (omega (arith, deep_false z p.1.0 p.1.1 t p.1.2, p.1.3))
      later i t f (suc j) p = omega (arith, f.first j (omega (arith, p.0), p.1))

      go : (b : Bool) → is_deeper L (decode K z) ≡ b → or_else (refused_if b (Refusal.EntryTooDeep k)) (deep_refusal K L (k + 1) zs) ≡ some r
          → (deep_refusal K L (k + 1) zs ≡ some r → (i : ℕ) × (r ≡ Refusal.EntryTooDeep (k + 1 + i)) × FirstDeep K L zs i)
          → (i : ℕ) × (r ≡ Refusal.EntryTooDeep (k + i)) × FirstDeep K L (z ∷ zs) i
      go true t q rest =
          let n : k ≡ k + 0 = omega arith in
          let m : r ≡ Refusal.EntryTooDeep k = cc in
          (0, m ∙ ap Refusal.EntryTooDeep n, record { deep = (omega arith, deep_true z t); first = λ j p. omega arith })
      go false t q rest =
          let x = rest q in
          let n : k + 1 + x.0 ≡ k + suc x.0 = omega arith in
          let d = x.2.deep in
          (suc x.0, x.1 ∙ ap Refusal.EntryTooDeep n, record { deep = (omega (arith, d.0), d.1); first = later x.0 t x.2 })

  -- Where it doesn't apply, none is too deep,
  pub deep_passes : (k j : ℕ) (zs : List ℕ) → deep_refusal K L k zs ≡ none → j < length zs → (d h : ℕ) → IsZuniqOf K (get_or zs j 0) d h → d ≤ L
  unfolding deep_refusal
  deep_passes k j [] e l d h v = absurd (omega arith)
  deep_passes k zero (z ∷ zs) e l d h v = deep_false z d h (refused_if-none (is_deeper L (decode K z)) (Refusal.EntryTooDeep k) (or_else_none _ (deep_refusal K L (k + 1) zs) e).0) v
  deep_passes k (suc j) (z ∷ zs) e l d h v = deep_passes (k + 1) j zs (or_else_none (refused_if (is_deeper L (decode K z)) (Refusal.EntryTooDeep k)) (deep_refusal K L (k + 1) zs) e).1 (omega arith) d h v

  -- and where none is, it doesn't apply:
  pub deep_none : (k : ℕ) (zs : List ℕ) → ((j d h : ℕ) → j < length zs → IsZuniqOf K (get_or zs j 0) d h → d ≤ L) → deep_refusal K L k zs ≡ none
  unfolding deep_refusal
  deep_none k [] low = refl
  deep_none k (z ∷ zs) low = rw (not_deep z (λ d h v. low 0 d h (omega arith) v)) (deep_none (k + 1) zs (λ j d h p v. low (suc j) d h (omega arith) v))

  -- never to a larger largest depth.
  pub none_deep : (zs : List ℕ) → K ≤ L → deep_refusal K L 0 zs ≡ none
  none_deep zs u = deep_none 0 zs (λ j d h p v. omega (arith, v.deep))

  -- ---- rows 5 and 13
  -- Neither 5 nor 13 applies exactly to a valid map of the depth that it has once moved.
  pub entries_pass_iff : (D : ℕ) (zs : List ℕ) → (entries_refusal K L D zs ≡ none) ↔ ValidMap K (min D L) zs
  unfolding entries_refusal
  entries_pass_iff D zs = (
    λ e.
        let a = or_else_none (map_refusal (first_fault K D zs)) (deep_refusal K L 0 zs) e in
        let v = map_passes K D zs a.0 in
        record { valid = v.valid; shallow = λ i d h l w. omega (arith, v.shallow i d h l w, deep_passes 0 i zs a.1 l d h w); rising = v.rising; apart = v.apart },
    λ v.
        rw (map_not_refused K D zs (valid_deeper v (omega arith)))
        (deep_none 0 zs (λ j d h l w. omega (arith, v.shallow j d h l w))),
  )

-- A check that is passed refuses nothing.
pub none_of_is_ok : (o : Option Refusal) {r : Result ⊤ Refusal} → r ≡ check_of o → is_ok r ≡ true → o ≡ none
none_of_is_ok none e t = refl
none_of_is_ok (some q) e t = absurd (true≢false (sym t ∙ ap is_ok e))
