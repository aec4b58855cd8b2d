-- The laws of coding: what is encoded decodes again, and nothing else decodes. Over any largest depth K.
-- Assumes nothing.
use mathlib.Core.Path.{◌≡◌, refl, ap, sym, ◌∙◌, subst}
use mathlib.Core.Bool.{Bool, true, false, cond}
use mathlib.Core.Logic.{◌↔◌, ◌⊎◌, inl, inr}
use Prim.Native.Nat.{ℕ, zero, suc, ◌+◌, ◌*◌, ◌≤◌, ◌<◌, ◌/◌, ◌-◌, ◌^◌}
use native.Mathlib.Omega.{arith, by_contra}
use native.Mathlib.Nat.{le_antisymm, pow-suc, mul_assoc, mul-div_cancel, eq_of_mul-eq-mul_right, eq-or-lt_of_le, le_of_suc-le-suc}
use lib.Dec.{eqb, ltb, leb}
use Rattle.zuniq.proofs.Basics.{and_is_true, four_pow_pos, four_pow_split}
use borrow.Author.Tests.{lt-ltb, ltb-true, ltb-false, eq-eqb, eqb-true, le-ltb, lt-leb, leb-false}
use Rattle.zuniq.specs.Cells.{n_hash}
use Rattle.zuniq.specs.Codec.{zuniq, IsZuniqOf, encode, hash_at, is_zuniq_at, cell_up_to, decode}
use Rattle.refusal.specs.declared.Refusal.{Refusal}
use Rattle.zuniq.specs.declared.Cell.{Cell}
use Rattle.std.specs.Prelude.{Ok, Err}
use Rattle.zuniq.specs.declared.Decoded.{Decoded}

abbrev pub cell : ℕ → ℕ → Cell
cell d h = record { depth = d; hash = h }

-- the hash is read back
hash_of_zuniq : (K d h : ℕ) → hash_at K d (zuniq K d h) ≡ h
unfolding hash_at zuniq
hash_of_zuniq K d h =
    let e : (2 * h + 1) * 4 ^ (K - d) / 4 ^ (K - d) ≡ 2 * h + 1 = mul-div_cancel (2 * h + 1) (four_pow_pos (K - d)) in
    rw e (omega arith)

-- no zuniq is that of a deeper cell too: there it would be even at the place of the sentinel bit
no_deeper : (K d h e g : ℕ) → d < e → e ≤ K → zuniq K d h ≡ zuniq K e g → ⊥
unfolding zuniq
no_deeper K d h e g p q z =
    let k = e - d - 1 in
    let s : 4 ^ (K - d) ≡ 4 ^ suc k * 4 ^ (K - e) = four_pow_split (K - d) (suc k) (K - e) (omega arith) in
    let x : (2 * h + 1) * 4 ^ suc k * 4 ^ (K - e) ≡ (2 * g + 1) * 4 ^ (K - e) = mul_assoc (2 * h + 1) (4 ^ suc k) (4 ^ (K - e)) ∙ rw s at z in
    let y : (2 * h + 1) * 4 ^ suc k ≡ 2 * g + 1 = eq_of_mul-eq-mul_right (4 ^ (K - e)) (four_pow_pos (K - e)) _ _ x in
    let w : (2 * h + 1) * 4 ^ suc k ≡ (2 * h + 1) * 4 ^ k * 4 = ap (λ (n : ℕ). (2 * h + 1) * n) (pow-suc 4 k) ∙ sym (mul_assoc (2 * h + 1) (4 ^ k) 4) in
    omega arith

-- A zuniq is that of one cell only, whether or not the hash is one that the depth has.
pub zuniq-injective : (K d h e g : ℕ) → d ≤ K → e ≤ K → zuniq K d h ≡ zuniq K e g → (d ≡ e) × (h ≡ g)
unfolding zuniq
zuniq-injective K d h e g p q z =
    let same : d ≡ e = le_antisymm (by_contra d e (λ l. no_deeper K e g d h l p (sym z))) (by_contra e d (λ l. no_deeper K d h e g l q z)) in
    let w : (2 * h + 1) * 4 ^ (K - e) ≡ (2 * g + 1) * 4 ^ (K - e) = rw same at z in
    let x : 2 * h + 1 ≡ 2 * g + 1 = eq_of_mul-eq-mul_right (4 ^ (K - e)) (four_pow_pos (K - e)) _ _ w in
    (same, omega arith)

nothing_found : (c : Cell) → Decoded.Nothing ≡ Decoded.Cell c → ⊥
nothing_found c e = let z : ◌≡◌ {A = ℕ} 0 1 = cc in omega arith

-- the test at a depth passes exactly for a zuniq of that depth
test_true : (K d z : ℕ) → d ≤ K → is_zuniq_at K d z ≡ true → IsZuniqOf K z d (hash_at K d z)
unfolding is_zuniq_at
test_true K d z p t =
    let b = and_is_true (ltb (hash_at K d z) (n_hash d)) (eqb z (zuniq K d (hash_at K d z))) t in
    record { deep = p; hash = ltb-true _ _ b.0; is = eqb-true _ _ b.1 }

test_zuniq : (K d h : ℕ) → h < n_hash d → is_zuniq_at K d (zuniq K d h) ≡ true
unfolding is_zuniq_at
test_zuniq K d h p = rw (hash_of_zuniq K d h, lt-ltb h (n_hash d) p, eq-eqb (zuniq K d h) (zuniq K d h) refl) refl

-- a depth that is tried: its cell where the test passes, else what the other depths give
tried : (K d z : ℕ) (others : Decoded) (c : Cell) → d ≤ K → (others ≡ Decoded.Cell c → IsZuniqOf K z c.depth c.hash)
    → cond (is_zuniq_at K d z) (Decoded.Cell (cell d (hash_at K d z))) others ≡ Decoded.Cell c → IsZuniqOf K z c.depth c.hash
tried K d z others c p else e = go (is_zuniq_at K d z) refl e
  where
    go : (b : Bool) → is_zuniq_at K d z ≡ b → cond b (Decoded.Cell (cell d (hash_at K d z))) others ≡ Decoded.Cell c → IsZuniqOf K z c.depth c.hash
    go true t q = let k : cell d (hash_at K d z) ≡ c = cc in subst (λ (x : Cell). IsZuniqOf K z x.depth x.hash) k (test_true K d z p t)
    go false t q = else q

-- only a zuniq is found, and its cell
found : (K d z : ℕ) (c : Cell) → d ≤ K → cell_up_to K d z ≡ Decoded.Cell c → IsZuniqOf K z c.depth c.hash
unfolding cell_up_to
found K zero z c p e = tried K zero z Decoded.Nothing c p (λ q. absurd (nothing_found c q)) e
found K (suc d) z c p e = tried K (suc d) z (cell_up_to K d z) c p (λ q. found K d z c (omega arith) q) e

-- at the depth of the cell the test passes, and at no deeper one
hit : (K d h : ℕ) (others : Decoded) → h < n_hash d
    → cond (is_zuniq_at K d (zuniq K d h)) (Decoded.Cell (cell d (hash_at K d (zuniq K d h)))) others ≡ Decoded.Cell (cell d h)
hit K d h others l = rw (test_zuniq K d h l, hash_of_zuniq K d h) refl

miss : (K d h e : ℕ) → d < e → e ≤ K → is_zuniq_at K e (zuniq K d h) ≡ false
miss K d h e p q = go (is_zuniq_at K e (zuniq K d h)) refl
  where
    go : (b : Bool) → is_zuniq_at K e (zuniq K d h) ≡ b → b ≡ false
    go true t = absurd (no_deeper K d h e (hash_at K e (zuniq K d h)) p q (test_true K e (zuniq K d h) q t).is)
    go false t = refl

-- every zuniq of a depth up to n is found
finds : (K n d h : ℕ) → d ≤ n → n ≤ K → h < n_hash d → cell_up_to K n (zuniq K d h) ≡ Decoded.Cell (cell d h)
unfolding cell_up_to
finds K zero d h p q l = let e : d ≡ 0 = omega arith in rw e (hit K zero h Decoded.Nothing (rw e at l))
finds K (suc n) d h p q l = go (eq-or-lt_of_le p) (λ r. finds K n d h (le_of_suc-le-suc r) (omega arith) l)
  where
    go : (d ≡ suc n) ⊎ (d < suc n) → (d < suc n → cell_up_to K n (zuniq K d h) ≡ Decoded.Cell (cell d h)) → cell_up_to K (suc n) (zuniq K d h) ≡ Decoded.Cell (cell d h)
    go (inl e) shallower = rw e (hit K (suc n) h (cell_up_to K n (zuniq K (suc n) h)) (rw e at l))
    go (inr r) shallower = rw (miss K d h (suc n) r q) (shallower r)

-- ---- the laws

-- exactly the zuniqs decode, each to its cell
pub decodes : (K z : ℕ) (c : Cell) → (decode K z ≡ Decoded.Cell c) ↔ IsZuniqOf K z c.depth c.hash
unfolding decode
decodes K z c = (found K K z c (omega arith), λ v. rw v.is (finds K K c.depth c.hash v.deep (omega arith) v.hash))

-- and what is no zuniq decodes to nothing
pub decodes_none : (K z : ℕ) → ((d h : ℕ) → IsZuniqOf K z d h → ⊥) → decode K z ≡ Decoded.Nothing
decodes_none K z never = go (decode K z) refl
  where
    go : (r : Decoded) → decode K z ≡ r → r ≡ Decoded.Nothing
    go (Decoded.Cell c) e = absurd (never c.depth c.hash ((decodes K z c).0 e))
    go Decoded.Nothing e = refl

pub none_decodes : (K z : ℕ) → decode K z ≡ Decoded.Nothing → (d h : ℕ) → IsZuniqOf K z d h → ⊥
none_decodes K z e d h v = nothing_found (cell d h) (sym e ∙ (decodes K z (cell d h)).1 v)

-- exactly the cells in range are encoded
pub encodes : (K d h z : ℕ) → (encode K d h ≡ Ok z) ↔ IsZuniqOf K z d h
unfolding encode
encodes K d h z = (there (ltb K d) refl (leb (n_hash d) h) refl, back)
  where
    there : (a : Bool) → ltb K d ≡ a → (b : Bool) → leb (n_hash d) h ≡ b
        → cond a (Err Refusal.DepthOutOfRange) (cond b (Err (Refusal.HashOutOfRange 0)) (Ok (zuniq K d h))) ≡ Ok z → IsZuniqOf K z d h
    there true p b q e = let n : ◌≡◌ {A = ℕ} 0 1 = cc in absurd (omega arith)
    there false p true q e = let n : ◌≡◌ {A = ℕ} 0 1 = cc in absurd (omega arith)
    there false p false q e = record { deep = ltb-false K d p; hash = leb-false (n_hash d) h q; is = cc }

    back : IsZuniqOf K z d h → encode K d h ≡ Ok z
    back v = rw (le-ltb K d v.deep, lt-leb (n_hash d) h v.hash) (ap Ok (sym v.is))

-- encoding, then decoding, gives the cell again
pub decode-encode : (K d h z : ℕ) → encode K d h ≡ Ok z → decode K z ≡ Decoded.Cell (cell d h)
decode-encode K d h z e = (decodes K z (cell d h)).1 ((encodes K d h z).0 e)

-- decoding, then encoding, gives the zuniq again
pub encode-decode : (K z : ℕ) (c : Cell) → decode K z ≡ Decoded.Cell c → encode K c.depth c.hash ≡ Ok z
encode-decode K z c e = (encodes K c.depth c.hash z).1 ((decodes K z c).0 e)
