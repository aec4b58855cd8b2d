-- What the clipped map covers, and its coverage; that clipping a map to its own coverage gives its entries back. Assumes nothing.
use mathlib.Core.Path.{◌≡◌, refl, ap, sym, ◌∙◌}
use mathlib.Core.Bool.{true}
use mathlib.Core.List.{List, [], ◌∷◌, map}
use mathlib.Core.Logic.{◌⊎◌, inl, inr, ⊎_map, ◌↔◌}
use mathlib.Core.Option.{Option, none, some, none-ne-some}
use Prim.Native.Nat.{ℕ, zero, suc, ◌+◌, ◌/◌, ◌≤◌, ◌<◌}
use native.Mathlib.Omega.{arith}
use native.Mathlib.Nat.{eq-or-lt_of_le}
use Rattle.zuniq.specs.Cells.{n_hash, child_hash, lies_in}
use Rattle.zuniq.proofs.Codec.{cell, decodes}
use Rattle.zuniq.proofs.Ranges.{lies_in-iff, lies_in-self, lies_in-same_depth, lies_in-trans, lies_in-iff_in_range, lies_in-iff_some_child}
use Rattle.build.specs.Map.{Entry, itself_or}
use Rattle.build.specs.Buffers.{zuniq_of}
use Rattle.build.specs.Promises.{Has, LiesIn, Covers, start_of, end_of, Rises}
use Rattle.build.proofs.Entries.{entry-is, Any-of_has, Has-of_any, Any-joined}
use Rattle.build.proofs.Rising.{range_of, Rises-has, Rises-in_range, Rises-unique}
use Rattle.build.proofs.Tops.{base_lt}
use Rattle.coverage.specs.Ranges.{Range, range, join_touching, intersection}
use Rattle.coverage.specs.Coverage.{entry_ranges, coverage_of}
use Rattle.coverage.specs.Promises.{InRanges, Follow, Parted, AllInside}
use Rattle.coverage.proofs.Ranges.{join_parted, join_exact, Parted-unique}
use Rattle.coverage.proofs.Intersection.{intersection-exact, intersection-parted}
use Rattle.clip.specs.Clip.{in_both, clip_in, clipped}
use Rattle.clip.specs.Promises.{ClipCell}
use Rattle.clip.proofs.Both.{in_parent, parent_in, entry_unique}
use Rattle.clip.proofs.Tree.{clip_rises, both_value, clip_has_iff}

-- ---- cover
module _ {A : Type 0} (K : ℕ) (l : List (Entry A)) (rs : List Range) (rising : Rises K 0 (n_hash K) l) where
  covered_here : (d h k : ℕ) (inside : List (Entry A)) → lies_in K k d h ≡ true → (in_both K l rs d h ≡ none → Covers inside K k) → Covers (itself_or d h (in_both K l rs d h) inside) K k
  covered_here d h k inside t more = go (in_both K l rs d h) refl
    where
      go : (o : Option A) → in_both K l rs d h ≡ o → Covers (itself_or d h o inside) K k
      go none q = more q
      go (some x) q = inl t

  -- A cell of the largest depth that lies in an entry and in a range lies inside both.
  deepest_both : (k : ℕ) → Covers l K k → InRanges rs k → (x : A) × (in_both K l rs K k ≡ some x)
  deepest_both k c i =
      let g = Has-of_any (LiesIn K k) l c in
      let every : AllInside K rs K k = λ j t. rw (lies_in-same_depth K j k t) i in
      (g.0.value, both_value K l rs rising K k g.0 (omega arith) g.1 g.2 every)

  covered_in : (n d h k : ℕ) → d + n ≡ K → lies_in K k d h ≡ true → Covers l K k → InRanges rs k → Covers (clip_in K l rs n d h) K k
  unfolding clip_in
  covered_in zero d h k e t c i = covered_here d h k [] t (λ f.
      let z : d ≡ K = omega arith in
      let y : k ≡ h = lies_in-same_depth K k h (rw z at t) in
      let b = deepest_both k c i in
      absurd (none-ne-some b.0 (sym f ∙ rw (z, ← y) b.1)))
  covered_in (suc n) d h k e t c i = covered_here d h k _ t (λ f.
      let j = (lies_in-iff_some_child K k d h (omega arith)).0 t in
      (Any-joined (LiesIn K k) 4 (λ i. clip_in K l rs n (suc d) (child_hash h i))).1 (j.0, j.1, covered_in n (suc d) (child_hash h j.0) k (omega arith) j.2 c i))

  -- The clipped map covers exactly the depth-29 cells that are in an entry and in the coverage.
  pub clip_covers : (k : ℕ) → Covers (clipped K l rs) K k ↔ (Covers l K k × InRanges rs k)
  unfolding clipped
  clip_covers k = (
    λ c.
        let g = Has-of_any (LiesIn K k) (clipped K l rs) c in
        let t = (clip_has_iff K l rs rising g.0).0 g.1 in
        let o = t.over in
        (Any-of_has (LiesIn K k) l o.0 o.1 (lies_in-trans K k g.0.depth g.0.hash o.0.depth o.0.hash g.2 o.2), t.inside k g.2),
    λ p.
        let g = Has-of_any (LiesIn K k) l p.0 in
        let sky : k < n_hash K = within k g.0 g.1 g.2 in
        (Any-joined (LiesIn K k) 12 (λ h. clip_in K l rs K 0 h)).1 (_, base_lt K k sky, covered_in K 0 _ k (omega arith) ((lies_in-iff K k 0 _).1 (omega arith, refl)) p.0 p.1),
  )
    where
      within : (k : ℕ) (e : Entry A) → Has l e → LiesIn K k e → k < n_hash K
      within k e m t =
          let w = Rises-has K 0 (n_hash K) l e rising m in
          omega (arith, w.2, (lies_in-iff_in_range K k e.depth e.hash w.0).0 t)

-- ---- the coverage of entries
module _ {A : Type 0} (K : ℕ) where
  -- the coverage of the map that holds these entries
  abbrev pub cover_of : List (Entry A) → List Range
  cover_of l = coverage_of K (map (zuniq_of K) l)

  -- the ranges of the entries
  abbrev ranges_in : List (Entry A) → List Range
  ranges_in l = map (λ e. range (start_of K e) (end_of K e)) l

  ranges_of_entries : (l : List (Entry A)) → ((e : Entry A) → Has l e → (e.depth ≤ K) × (e.hash < n_hash e.depth)) → entry_ranges K (map (zuniq_of K) l) ≡ ranges_in l
  unfolding entry_ranges
  ranges_of_entries [] low = refl
  ranges_of_entries (e ∷ l) low =
      let u = low e (inl refl) in
      rw ((decodes K (zuniq_of K e) (cell e.depth e.hash)).1 (record { deep = u.0; hash = u.1; is = refl }))
      (ap (λ (t : List Range). range (start_of K e) (end_of K e) ∷ t) (ranges_of_entries l (λ c m. low c (inr m))))

  follow : (a b : ℕ) (l : List (Entry A)) → Rises K a b l → Follow a b (ranges_in l)
  follow a b [] r = r
  follow a b (e ∷ l) r = (r.1, range_of K e, follow (end_of K e) b l r.2)

  ranges_cover : (a b k : ℕ) (l : List (Entry A)) → Rises K a b l → Covers l K k ↔ InRanges (ranges_in l) k
  ranges_cover a b k [] r = (absurd, absurd)
  ranges_cover a b k (e ∷ l) r =
      let here = lies_in-iff_in_range K k e.depth e.hash r.0 in
      let more = ranges_cover (end_of K e) b k l r.2 in
      (⊎_map here.0 more.0, ⊎_map here.1 more.1)

  module _ (l : List (Entry A)) (rising : Rises K 0 (n_hash K) l) where
    cover_is : cover_of l ≡ join_touching (ranges_in l)
    unfolding coverage_of
    cover_is = ap join_touching (ranges_of_entries l (λ e m. Rises-in_range K 0 l e rising m))

    pub cover_parted : Parted 0 (n_hash K) (cover_of l)
    cover_parted = rw cover_is (join_parted 0 (n_hash K) (ranges_in l) (follow 0 (n_hash K) l rising))

    pub cover_exact : (k : ℕ) → InRanges (cover_of l) k ↔ Covers l K k
    cover_exact k =
        let join = join_exact 0 (n_hash K) k (ranges_in l) (follow 0 (n_hash K) l rising) in
        let ranges = ranges_cover 0 (n_hash K) k l rising in
        rw cover_is (λ m. ranges.1 (join.0 m), λ c. join.1 (ranges.0 c))

module _ {A : Type 0} (K : ℕ) (l : List (Entry A)) (rising : Rises K 0 (n_hash K) l) where
  -- The coverage of a clip is the intersection of the map's own coverage and the given one.
  pub clip_coverage : (rs : List Range) → Parted 0 (n_hash K) rs → cover_of K (clipped K l rs) ≡ intersection (cover_of K l) rs
  clip_coverage rs parted =
      let both = clip_covers K l rs rising in
      let clip = cover_exact K (clipped K l rs) (clip_rises K l rs) in
      let own = cover_exact K l rising in
      Parted-unique 0 (n_hash K) 0 (n_hash K) (cover_of K (clipped K l rs)) (intersection (cover_of K l) rs)
      (cover_parted K (clipped K l rs) (clip_rises K l rs))
      (intersection-parted 0 (n_hash K) 0 (n_hash K) (cover_of K l) rs (cover_parted K l rising) parted)
      (λ k m. let c = (both k).0 ((clip k).0 m) in (intersection-exact (cover_of K l) rs k).1 ((own k).1 c.0, c.1))
      (λ k m. let c = (intersection-exact (cover_of K l) rs k).0 m in (clip k).1 ((both k).1 ((own k).0 c.0, c.1)))

  -- ---- its own coverage
  -- What lies in an entry lies inside the coverage.
  own_inside : (c : Entry A) (d h : ℕ) → Has l c → LiesIn d h c → AllInside K (cover_of K l) d h
  own_inside c d h m t k i = (cover_exact K l rising k).1 (Any-of_has (LiesIn K k) l c m (lies_in-trans K k d h c.depth c.hash i t))

  -- A cell of the clip is the entry that it lies in: below that its parent lies inside both too.
  own_itself : (e c : Entry A) (n : ℕ) → e.depth ≡ n → ClipCell K l (cover_of K l) e → Has l c → LiesIn e.depth e.hash c → e.value ≡ c.value → (c.depth ≡ e.depth) ⊎ (c.depth < e.depth) → e ≡ c
  own_itself e c n z t m i v (inl q) = entry-is e c.depth c.hash c.value (sym q) (lies_in-same_depth e.depth e.hash c.hash (rw q at i)) v
  own_itself e c zero z t m i v (inr q) = absurd (omega arith)
  own_itself e c (suc p) z t m i v (inr q) =
      let j = parent_in p e.hash c.depth c.hash (rw z at i) (omega arith) in
      absurd (t.parent p z (Any-of_has (LiesIn p (e.hash / 4)) l c m j) (own_inside c p (e.hash / 4) m j))

  own_there : (e : Entry A) → Has (clipped K l (cover_of K l)) e → Has l e
  own_there e m =
      let t = (clip_has_iff K l (cover_of K l) rising e).0 m in
      let o = t.over in
      let same = own_itself e o.0 e.depth refl t o.1 o.2 o.3 (eq-or-lt_of_le ((lies_in-iff e.depth e.hash o.0.depth o.0.hash).0 o.2).0) in
      rw same o.1

  own_back : (c : Entry A) → Has l c → Has (clipped K l (cover_of K l)) c
  own_back c m =
      let w = Rises-in_range K 0 l c rising m in
      (clip_has_iff K l (cover_of K l) rising c).1 (record {
        deep = w.0;
        sky = w.1;
        over = (c, m, lies_in-self c.depth c.hash, refl);
        inside = own_inside c c.depth c.hash m (lies_in-self c.depth c.hash);
        parent = λ p z o i.
            let g = Has-of_any (LiesIn p (c.hash / 4)) l o in
            let t : lies_in c.depth c.hash p (c.hash / 4) ≡ true = rw z (in_parent p c.hash) in
            let same : c ≡ g.0 = entry_unique K 0 (n_hash K) l c.depth c.hash c g.0 rising w.0 m g.1 (lies_in-self c.depth c.hash) (lies_in-trans c.depth c.hash p (c.hash / 4) g.0.depth g.0.hash t g.2) in
            omega (arith, ((lies_in-iff p (c.hash / 4) g.0.depth g.0.hash).0 g.2).0, ap (λ (x : Entry A). x.depth) same);
      })

  -- "Clipping to the map's own coverage gives its entries back", values and all.
  pub clip_own : clipped K l (cover_of K l) ≡ l
  clip_own = Rises-unique K 0 (n_hash K) 0 (n_hash K) (clipped K l (cover_of K l)) l (clip_rises K l (cover_of K l)) rising own_there own_back

  -- An empty coverage gives the empty map.
  pub clip_empty : clipped K l [] ≡ []
  clip_empty = Rises-unique K 0 (n_hash K) 0 (n_hash K) (clipped K l []) [] (clip_rises K l []) (omega arith) nothing (λ e m. absurd m)
    where
      nothing : (e : Entry A) → Has (clipped K l []) e → Has {A = A} [] e
      nothing e m =
          let t = (clip_has_iff K l [] rising e).0 m in
          t.inside (start_of K e) ((lies_in-iff_in_range K (start_of K e) e.depth e.hash t.deep).1 (omega arith, range_of K e))
