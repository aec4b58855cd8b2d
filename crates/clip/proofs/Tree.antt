-- The clipped map, by its definition down the tree: it rises, and has exactly the cells of the note's sentence. Assumes nothing.
use mathlib.Core.Path.{◌≡◌, refl, sym, ◌∙◌}
use mathlib.Core.Bool.{true}
use mathlib.Core.List.{List, [], map}
use mathlib.Core.Logic.{◌⊎◌, inl, inr, ⊎_elim, ◌↔◌}
use mathlib.Core.Option.{Option, none, some, none-ne-some}
use Prim.Native.Nat.{ℕ, zero, suc, ◌+◌, ◌/◌, ◌-◌, ◌^◌, ◌≤◌, ◌<◌}
use native.Mathlib.Omega.{arith}
use native.Mathlib.Nat.{eq-or-lt_of_le}
use lib.ListN.{length}
use Rattle.zuniq.specs.Cells.{n_hash, child_hash, lies_in, start, end}
use Rattle.zuniq.proofs.Ranges.{lies_in-iff, lies_in-self, lies_in-same_depth, lies_in-trans, child_lies_in_parent, lies_in-iff_some_child, start-lt_end}
use Rattle.mom.specs.Map.{ValidMap}
use Rattle.build.specs.Map.{Entry, itself_or}
use Rattle.build.specs.Buffers.{zuniq_of}
use Rattle.build.specs.Promises.{Has, LiesIn, Rises}
use Rattle.build.proofs.Entries.{entry-is, Any-of_has, Has-of_any, Any-joined}
use Rattle.build.proofs.Rising.{Rises-in_range}
use Rattle.build.proofs.Tops.{base_lt}
use Rattle.build.proofs.ValidMaps.{rising_is_valid}
use Rattle.combine.proofs.Overlay.{Rises-children, Rises-sky, Rises-length}
use Rattle.coverage.specs.Ranges.{Range}
use Rattle.coverage.specs.Promises.{AllInside}
use Rattle.coverage.proofs.Inside.{AllInside-below}
use Rattle.clip.specs.Clip.{in_both, clip_in, clipped}
use Rattle.clip.specs.Promises.{ClipCell}
use Rattle.clip.proofs.Both.{in_parent, parent_in, covers_below, entry_of_value, value_of_entry, both_some, both_of}

module _ {A : Type 0} (K : ℕ) (l : List (Entry A)) (rs : List Range) where
  -- ---- rising
  here-rises : (d h : ℕ) (o : Option A) (inside : List (Entry A)) → d ≤ K → Rises K (start K d h) (end K d h) inside → Rises K (start K d h) (end K d h) (itself_or d h o inside)
  here-rises d h none inside u r = r
  here-rises d h (some x) inside u r = (u, omega arith, omega arith)

  clip_in-rises : (n d h : ℕ) → d + n ≡ K → Rises K (start K d h) (end K d h) (clip_in K l rs n d h)
  unfolding clip_in
  clip_in-rises zero d h k = here-rises d h (in_both K l rs d h) [] (omega arith) (omega (arith, start-lt_end K d h))
  clip_in-rises (suc n) d h k =
      here-rises d h (in_both K l rs d h) _ (omega arith) (Rises-children K d h (λ i. clip_in K l rs n (suc d) (child_hash h i)) (omega arith) (λ i u. clip_in-rises n (suc d) (child_hash h i) (omega arith)))

  -- The cells of the clipped map rise: no two of them overlap.
  pub clip_rises : Rises K 0 (n_hash K) (clipped K l rs)
  unfolding clipped
  clip_rises = Rises-sky K (λ h. clip_in K l rs K 0 h) (λ h u. clip_in-rises K 0 h (omega arith))

  -- There are no more of them than the depth K has.
  pub clip_length : length (clipped K l rs) ≤ n_hash K
  clip_length = omega (arith, Rises-length K 0 (n_hash K) (clipped K l rs) clip_rises)

  -- "result depth 29": they are a valid map of depth K.
  pub clip_valid : ValidMap K K (map (zuniq_of K) (clipped K l rs))
  clip_valid = rising_is_valid K K (clipped K l rs) (λ e m. (Rises-in_range K 0 (clipped K l rs) e clip_rises m).0) clip_rises

  -- ---- its cells
  -- e is one of the largest cells that lie inside both, of those in the cell (d, h)
  record Largest (d h : ℕ) (e : Entry A) : Type 0 where
    inside : lies_in e.depth e.hash d h ≡ true
    deep : e.depth ≤ K
    is : in_both K l rs e.depth e.hash ≡ some e.value
    above : (a b : ℕ) (y : A) → d ≤ a → a < e.depth → lies_in e.depth e.hash a b ≡ true → in_both K l rs a b ≡ some y → ⊥

  itself_or_deeper : (d h : ℕ) (e : Entry A) → Largest d h e → ((e.depth ≡ d) × (e.hash ≡ h)) ⊎ (d < e.depth)
  itself_or_deeper d h e t = ⊎_elim (λ q. inl (sym q, lies_in-same_depth d e.hash h (rw (sym q) at t.inside))) inr (eq-or-lt_of_le ((lies_in-iff e.depth e.hash d h).0 t.inside).0)

  has_here : (d h : ℕ) (e : Entry A) (inside : List (Entry A)) → d ≤ K → (in_both K l rs d h ≡ none → Has inside e ↔ Largest d h e)
      → Has (itself_or d h (in_both K l rs d h) inside) e ↔ Largest d h e
  has_here d h e inside u more = go (in_both K l rs d h) refl
    where
      go : (o : Option A) → in_both K l rs d h ≡ o → Has (itself_or d h o inside) e ↔ Largest d h e
      go none q = more q
      go (some x) q = (
        ⊎_elim (λ z. rw z (record { inside = lies_in-self d h; deep = u; is = q; above = λ a b y v w. absurd (omega arith) })) absurd,
        λ t. inl (⊎_elim
            (λ z. entry-is e d h x z.0 z.1 (let w = rw (z.0, z.1) at t.is in cc))
            (λ v. absurd (t.above d h x (omega arith) v t.inside q))
            (itself_or_deeper d h e t)),
      )

  -- One of the largest in a child is one in the parent, if the parent does not lie inside both.
  child_largest : (d h i : ℕ) (e : Entry A) → in_both K l rs d h ≡ none → i < 4 → Largest (suc d) (child_hash h i) e → Largest d h e
  child_largest d h i e f u t = record {
    inside = inside;
    deep = t.deep;
    is = t.is;
    above = λ a b y v w c q. ⊎_elim
        (λ z.
        let p = ((lies_in-iff e.depth e.hash a b).0 c).1 in
        let g : b ≡ h = sym p ∙ rw z at ((lies_in-iff e.depth e.hash d h).0 inside).1 in
        none-ne-some y (sym f ∙ rw (← z, g) at q))
        (λ v. t.above a b y v w c q)
        (eq-or-lt_of_le v);
  }
    where
      inside : lies_in e.depth e.hash d h ≡ true
      inside = lies_in-trans _ _ (suc d) (child_hash h i) d h t.inside (child_lies_in_parent d h i u)

  none_here : (d h : ℕ) (e : Entry A) → in_both K l rs d h ≡ none → Largest d h e → d < e.depth
  none_here d h e f t = ⊎_elim (λ z. absurd (none-ne-some e.value (sym f ∙ rw (z.0, z.1) at t.is))) (λ v. v) (itself_or_deeper d h e t)

  Has-clip_in : (n d h : ℕ) (e : Entry A) → d + n ≡ K → Has (clip_in K l rs n d h) e ↔ Largest d h e
  unfolding clip_in
  Has-clip_in zero d h e k = has_here d h e [] (omega arith) (λ f. (absurd, λ t. absurd (omega (arith, t.deep, none_here d h e f t))))
  Has-clip_in (suc n) d h e k = has_here d h e _ (omega arith) (λ f. (
    λ m.
        let c = (Any-joined (λ y. e ≡ y) 4 (λ i. clip_in K l rs n (suc d) (child_hash h i))).0 m in
        child_largest d h c.0 e f c.1 ((Has-clip_in n (suc d) (child_hash h c.0) e (omega arith)).0 c.2),
    λ t.
        let c = (lies_in-iff_some_child e.depth e.hash d h (none_here d h e f t)).0 t.inside in
        (Any-joined (λ y. e ≡ y) 4 (λ i. clip_in K l rs n (suc d) (child_hash h i))).1 (
          c.0,
          c.1,
          (Has-clip_in n (suc d) (child_hash h c.0) e (omega arith)).1 (record { inside = c.2; deep = t.deep; is = t.is; above = λ a b y u. t.above a b y (omega arith) }),
        ),
  ))

  module _ (rising : Rises K 0 (n_hash K) l) where
    -- The value of a cell that lies inside both.
    pub both_value : (d h : ℕ) (c : Entry A) → d ≤ K → Has l c → LiesIn d h c → AllInside K rs d h → in_both K l rs d h ≡ some c.value
    both_value d h c u m t i = both_of K l rs d h u c.value i (value_of_entry K 0 (n_hash K) l d h c rising u m t)

    -- "every cell that lies inside an entry and inside the coverage while its parent, if any, doesn't lie inside both, with the entry's
    -- density": the clipped map has exactly these.
    pub clip_has_iff : (e : Entry A) → Has (clipped K l rs) e ↔ ClipCell K l rs e
    unfolding clipped
    clip_has_iff e = (there, back)
      where
        there : Has (clipped K l rs) e → ClipCell K l rs e
        there m =
            let c = (Any-joined (λ y. e ≡ y) 12 (λ h. clip_in K l rs K 0 h)).0 m in
            let t = (Has-clip_in K 0 c.0 e (omega arith)).0 c.2 in
            let s = both_some K l rs e.depth e.hash t.deep e.value t.is in
            record {
              deep = t.deep;
              sky = (Rises-in_range K 0 (clipped K l rs) e clip_rises m).1;
              over = entry_of_value l e.depth e.hash e.value s.1;
              inside = s.0;
              parent = λ p q o i.
                  let u : p ≤ K = omega (arith, t.deep) in
                  let g = Has-of_any (LiesIn p (e.hash / 4)) l o in
                  t.above p (e.hash / 4) g.0.value (omega arith) (omega arith) (rw q (in_parent p e.hash)) (both_value p (e.hash / 4) g.0 u g.1 g.2 i);
            }

        -- a cell above that lies inside both has the parent in it
        no_larger : ClipCell K l rs e → (d a b : ℕ) (y : A) → e.depth ≡ d → a < d → lies_in e.depth e.hash a b ≡ true → in_both K l rs a b ≡ some y → ⊥
        no_larger t zero a b y z v w q = absurd (omega arith)
        no_larger t (suc p) a b y z v w q =
            let s = both_some K l rs a b (omega (arith, t.deep)) y q in
            let c = entry_of_value l a b y s.1 in
            let i = parent_in p e.hash a b (rw z at w) (omega arith) in
            t.parent p z (covers_below l a b p (e.hash / 4) i (Any-of_has (LiesIn a b) l c.0 c.1 c.2)) (AllInside-below K rs a b p (e.hash / 4) i s.0)

        back : ClipCell K l rs e → Has (clipped K l rs) e
        back t =
            let o = t.over in
            (Any-joined (λ y. e ≡ y) 12 (λ h. clip_in K l rs K 0 h)).1 (
              e.hash / 4 ^ (e.depth - 0),
              base_lt e.depth e.hash t.sky,
              (Has-clip_in K 0 _ e (omega arith)).1 (record {
                inside = (lies_in-iff _ _ 0 _).1 (omega arith, refl);
                deep = t.deep;
                is = rw o.3 (both_value e.depth e.hash o.0 t.deep o.1 o.2 t.inside);
                above = λ a b y u v. no_larger t e.depth a b y refl v;
              }),
            )
