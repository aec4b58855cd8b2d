-- A map in two buffers, place by place: what appending an entry or replacing the last four by one does to it. Over any type
-- of values; `u` is what a place past the end of a buffer reads as. Assumes nothing.
use mathlib.Core.Path.{◌≡◌, refl, ap, sym, ◌∙◌, subst, subst₂}
use mathlib.Core.List.{List, [], ◌∷◌, ◌++◌}
use mathlib.Core.Logic.{⊎_elim}
use Prim.Native.Nat.{ℕ, zero, suc, ◌+◌, ◌≤◌, ◌<◌, ◌-◌}
use native.Mathlib.Numerals.{add-one}
use native.Mathlib.Omega.{arith}
use native.Mathlib.Nat.{suc_inj, eq-or-lt_of_le, le_of_suc-le-suc}
use lib.ListN.{length, get_or, take, set, length-set}
use lib.Seq.{drop-set-lt, take-suc, take-suc-set, length-take-le, get_or-set_same, get_or-set_other}
use borrow.Rule.Slice.PartMut.{mid_of, put_mid, set_mid_at, mid_len}
use Rattle.zuniq.specs.Codec.{IsZuniqOf, decode}
use Rattle.zuniq.proofs.Codec.{cell, decodes}
use Rattle.build.specs.Map.{Entry, entry}
use Rattle.build.proofs.Buffers.{laid_cons}
use Rattle.build.specs.Buffers.{with_cell, read_onto, held, laid, zuniq_of, value_of}
use Rattle.build.specs.Standing.{Stands, Behind}

-- ---- what stays
module _ {A : Type 0} where
  -- A store before place n leaves what is behind it.
  pub Behind-set : (n i : ℕ) (zs : List ℕ) (vs : List A) (z : ℕ) (x : A) → i < n → Behind n zs vs (set zs i z) (set vs i x)
  Behind-set n i zs vs z x p = record { zuniqs = drop-set-lt n zs i z p; values = drop-set-lt n vs i x p }

  pub Behind-same : (n : ℕ) (zs : List ℕ) (vs : List A) → Behind n zs vs zs vs
  Behind-same n zs vs = record { zuniqs = refl; values = refl }

  pub Behind-trans : {n : ℕ} {zs : List ℕ} {vs : List A} {zs' : List ℕ} {vs' : List A} {zs'' : List ℕ} {vs'' : List A}
      → Behind n zs' vs' zs'' vs'' → Behind n zs vs zs' vs' → Behind n zs vs zs'' vs''
  Behind-trans b c = record { zuniqs = b.zuniqs ∙ c.zuniqs; values = b.values ∙ c.values }

module _ {A : Type 0} (K : ℕ) where
  -- One more zuniq with its value is one more entry on top.
  read_more : (s : List (Entry A)) (zs : List ℕ) (vs : List A) (z : ℕ) (v : A) → length zs ≡ length vs
      → read_onto K s (zs ++ (z ∷ [])) (vs ++ (v ∷ [])) ≡ with_cell (decode K z) v (read_onto K s zs vs)
  unfolding read_onto
  read_more s [] [] z v e = refl
  read_more s [] (w ∷ vs) z v e = absurd (omega arith)
  read_more s (y ∷ zs) [] z v e = absurd (omega arith)
  read_more s (y ∷ zs) (w ∷ vs) z v e = read_more (with_cell (decode K y) w s) zs vs z v (suc_inj e)

  with_cell_is : (z d h : ℕ) (v : A) (s : List (Entry A)) → IsZuniqOf K z d h → with_cell (decode K z) v s ≡ entry d h v ∷ s
  with_cell_is z d h v s q = rw ((decodes K z (cell d h)).1 q) refl

  -- The map of one place more has the entry of that place on top.
  pub held-suc : (u : A) (m : ℕ) (zs : List ℕ) (vs : List A) (d h : ℕ) → m < length zs → m < length vs → IsZuniqOf K (get_or zs m 0) d h
      → held K (suc m) zs vs ≡ entry d h (get_or vs m u) ∷ held K m zs vs
  unfolding held
  held-suc u m zs vs d h p q v =
      rw (take-suc zs m 0 p, take-suc vs m u q)
      (read_more [] (take m zs) (take m vs) (get_or zs m 0) (get_or vs m u) (length-take-le m zs (omega arith) ∙ sym (length-take-le m vs (omega arith)))
      ∙ with_cell_is (get_or zs m 0) d h (get_or vs m u) (held K m zs vs) v)

  -- Storing an entry at place m makes it the top of the map of one place more.
  pub held-set : (m : ℕ) (zs : List ℕ) (vs : List A) (z d h : ℕ) (x : A) → m < length zs → m < length vs → IsZuniqOf K z d h
      → held K (suc m) (set zs m z) (set vs m x) ≡ entry d h x ∷ held K m zs vs
  unfolding held
  held-set m zs vs z d h x p q v =
      rw (take-suc-set zs m z p, take-suc-set vs m x q)
      (read_more [] (take m zs) (take m vs) z x (length-take-le m zs (omega arith) ∙ sym (length-take-le m vs (omega arith)))
      ∙ with_cell_is z d h x (held K m zs vs) v)

  -- ---- as the entries stand in the buffers
  pub fewer : (n : ℕ) (zs : List ℕ) (vs : List A) → Stands K (suc n) zs vs → Stands K n zs vs
  fewer n zs vs w = record { zuniqs = omega (arith, w.zuniqs); values = omega (arith, w.values); valid = λ i l. w.valid i (omega arith) }

  -- The map that stands in the first n places has n entries, whose zuniqs and values are those places.
  pub held-length : (u : A) (n : ℕ) (zs : List ℕ) (vs : List A) → Stands K n zs vs → length (held K n zs vs) ≡ n
  unfolding held read_onto
  held-length u zero zs vs w = refl
  held-length u (suc n) zs vs w =
      let v = w.valid n (omega arith) in
      rw (held-suc u n zs vs v.0 v.1 w.zuniqs w.values v.2) (ap suc (held-length u n zs vs (fewer n zs vs w)))

  pub held-zuniqs : (u : A) (n : ℕ) (zs : List ℕ) (vs : List A) → Stands K n zs vs → laid (zuniq_of K) (held K n zs vs) ≡ take n zs
  unfolding held read_onto laid
  held-zuniqs u zero zs vs w = refl
  held-zuniqs u (suc n) zs vs w =
      let v = w.valid n (omega arith) in
      rw (held-suc u n zs vs v.0 v.1 w.zuniqs w.values v.2, laid_cons (zuniq_of K) (entry v.0 v.1 (get_or vs n u)) (held K n zs vs), ← v.2.is, take-suc zs n 0 w.zuniqs)
      (ap (λ (l : List ℕ). l ++ (get_or zs n 0 ∷ [])) (held-zuniqs u n zs vs (fewer n zs vs w)))

  pub held-values : (u : A) (n : ℕ) (zs : List ℕ) (vs : List A) → Stands K n zs vs → laid value_of (held K n zs vs) ≡ take n vs
  unfolding held read_onto laid
  held-values u zero zs vs w = refl
  held-values u (suc n) zs vs w =
      let v = w.valid n (omega arith) in
      rw (held-suc u n zs vs v.0 v.1 w.zuniqs w.values v.2, laid_cons value_of (entry v.0 v.1 (get_or vs n u)) (held K n zs vs), take-suc vs n u w.values)
      (ap (λ (l : List A). l ++ (get_or vs n u ∷ [])) (held-values u n zs vs (fewer n zs vs w)))

  -- Where n places stand, storing one more entry at place m, at most n, leaves m + 1 standing.
  pub stands_set : (n m : ℕ) (zs : List ℕ) (vs : List A) (z d h : ℕ) (x : A) → Stands K n zs vs → m ≤ n → m < length zs → m < length vs → IsZuniqOf K z d h
      → Stands K (suc m) (set zs m z) (set vs m x)
  stands_set n m zs vs z d h x w l p q v = record { zuniqs = simp length-set p; values = simp length-set q; valid = go }
    where
      go : (i : ℕ) → i < suc m → (d : ℕ) × (h : ℕ) × IsZuniqOf K (get_or (set zs m z) i 0) d h
      go i b = ⊎_elim (λ e. (d, h, subst (λ (y : ℕ). IsZuniqOf K y d h) (sym (ap (λ (j : ℕ). get_or (set zs m z) j 0) e ∙ get_or-set_same zs m z 0 p)) v)) (λ k. rw (get_or-set_other zs m i z 0 (λ e. omega arith)) (w.valid i (omega arith))) (eq-or-lt_of_le (le_of_suc-le-suc b))

  -- What stands once an entry is stored behind n others.
  pub record Stored (n z d h : ℕ) (x : A) (zs : List ℕ) (vs : List A) (zs' : List ℕ) (vs' : List A) : Type 0 where
    pub stands : Stands K (n + 1) zs' vs'
    pub top : IsZuniqOf K (get_or zs' (n + 1 - 1) 0) d h
    pub value : (u : A) → get_or vs' (n + 1 - 1) u ≡ x
    pub map_is : held K (n + 1) zs' vs' ≡ entry d h x ∷ held K n zs vs
    pub behind : Behind (n + 1) zs vs zs' vs'

  pub stored : {n z d h : ℕ} {x : A} {zs : List ℕ} {vs : List A} {zs' : List ℕ} {vs' : List A} → Stands K n zs vs → n < length zs → n < length vs → IsZuniqOf K z d h
      → (zs' ≡ set zs n z) × (vs' ≡ set vs n x) → Stored n z d h x zs vs zs' vs'
  stored {n} {z} {d} {h} {x} {zs} {vs} w p q v e =
      let i : n + 1 - 1 ≡ n = omega arith in
      subst₂ (λ (a : List ℕ) (b : List A). Stored n z d h x zs vs a b) (sym e.0) (sym e.1)
      (record {
        stands = rw (add-one n) (stands_set n n zs vs z d h x w (omega arith) p q v);
        top = rw (i, get_or-set_same zs n z 0 p) v;
        value = λ u. rw i (get_or-set_same vs n x u q);
        map_is = rw (add-one n) (held-set n zs vs z d h x p q v);
        behind = Behind-set (n + 1) n zs vs z x (omega arith);
      })

-- An entry put at the front of the free part, from place n on, is stored at place n.
pub put_front : {B : Type 0} (n : ℕ) (l ys : List B) (x : B) → n < length l → ys ≡ set (mid_of n (length l - n) l) 0 x → put_mid n (length l - n) l ys ≡ set l n x
put_front n l ys x p e =
    let z : n + 0 ≡ n = omega arith in
    ap (put_mid n (length l - n) l) e ∙ set_mid_at n (length l - n) 0 l x (omega (arith, mid_len n (length l) l (omega arith))) ∙ ap (λ (i : ℕ). set l i x) z

-- Where there is no place nothing is put.
pub put_nowhere : {B : Type 0} (l : List B) (x : B) → length l ≤ 0 → l ≡ set l 0 x
put_nowhere [] x e = refl
put_nowhere (y ∷ l) x e = absurd (omega arith)
