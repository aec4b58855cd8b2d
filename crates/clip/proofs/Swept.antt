-- Sweeping the sky over the entries of a map and the ranges of a coverage: from a place on, the largest cell that starts there and ends
-- within the entry and the range, then from its end on. What that gives is the clipped map. Assumes nothing.
use mathlib.Core.Path.{◌≡◌, refl, sym, ◌∙◌}
use mathlib.Core.Bool.{true}
use mathlib.Core.List.{List, [], ◌∷◌, ◌++◌, append_assoc, append-nil}
use mathlib.Core.Logic.{◌⊎◌, inl, inr, ⊎_elim, ⊎_map, ◌↔◌}
use Prim.Native.Nat.{ℕ, ◌+◌, ◌/◌, ◌≤◌, ◌<◌, max, min}
use native.Mathlib.Omega.{arith}
use Rattle.zuniq.specs.Cells.{n_hash, lies_in, start, end}
use Rattle.zuniq.proofs.Basics.{le_or_lt}
use Rattle.zuniq.proofs.Ranges.{start-lt_end, lies_in-iff, lies_in-same_depth, lies_in-trans, lies_in-within, lies_in-iff_in_range, lies_in-iff_within, overlap-iff_meets, overlap-iff_lies_in, valid_iff_end_le}
use Rattle.build.specs.Map.{Entry, entry}
use Rattle.build.specs.Promises.{Has, LiesIn, Covers, start_of, end_of, Rises}
use Rattle.build.proofs.Entries.{entry-is, Any-of_has, Has-of_any, any_append}
use Rattle.build.proofs.Rising.{range_of, Rises-has, Rises-append, Rises-same, Rises-unique}
use Rattle.coverage.specs.Ranges.{Range}
use Rattle.coverage.specs.Promises.{InRange, HasRange, InRanges, Parted, AllInside, Inside}
use Rattle.coverage.proofs.Ranges.{Some-of_has, has_of_some, Parted-has, Parted-same}
use Rattle.coverage.proofs.Inside.{Inside-iff_all}
use Rattle.clip.specs.Clip.{clipped}
use Rattle.clip.specs.Promises.{ClipCell}
use Rattle.clip.specs.Passes.{LargestAt, Cut}
use Rattle.clip.proofs.Both.{in_parent, covers_below, entry_unique}
use Rattle.clip.proofs.Tree.{clip_rises, clip_has_iff}

-- What starts at the largest of three places and is not empty ends past all of them.
further : (p x y s t : ℕ) → s ≡ max p (max x y) → s < t → max t (max x y) ≡ t
further p x y s t e u = omega arith

module _ {A : Type 0} (K : ℕ) where
  -- A rising list may be said to end later.
  Rises-to : (a b c : ℕ) (l : List (Entry A)) → b ≤ c → Rises K a b l → Rises K a c l
  Rises-to a b c [] u r = omega arith
  Rises-to a b c (e ∷ l) u r = (r.0, r.1, Rises-to (end_of K e) b c l u r.2)

module _ {A : Type 0} (K : ℕ) (l : List (Entry A)) (rs : List Range) where
  -- The sky is swept up to the place p, with the entries l₂ and the ranges rs₂ to come, and w is what it gave.
  pub record Swept (p : ℕ) (l₂ : List (Entry A)) (rs₂ : List Range) (w : List (Entry A)) : Type 0 where
    pub rises : Rises K 0 p w
    pub sound : (e : Entry A) → Has w e → ClipCell K l rs e
    -- what lies in an entry and in a range before p lies in a cell that was given
    pub covers : (k : ℕ) → k < p → Covers l K k → InRanges rs k → Covers w K k
    -- no cell that lies inside both goes over p
    pub clear : (d h : ℕ) → d ≤ K → Covers l d h → Inside K rs d h → start K d h < p → end K d h ≤ p
    -- what is not to come any more ends before p, and what is to come after it
    pub entries_past : (e : Entry A) → Has l e → Has l₂ e ⊎ (end_of K e ≤ p)
    pub ranges_past : (r : Range) → HasRange rs r → HasRange rs₂ r ⊎ (r.to ≤ p)
    pub entries_left : (e : Entry A) → Has l₂ e → Has l e × (p ≤ end_of K e)
    pub ranges_left : (r : Range) → HasRange rs₂ r → HasRange rs r × (p ≤ r.to)

  pub Swept-start : Swept 0 l rs []
  Swept-start = record {
    rises = omega arith;
    sound = λ e m. absurd m;
    covers = λ k u. absurd (omega arith);
    clear = λ d h u c i v. absurd (omega arith);
    entries_past = λ e m. inl m;
    ranges_past = λ r m. inl m;
    entries_left = λ e m. (m, omega arith);
    ranges_left = λ r m. (m, omega arith);
  }

  module _ (rising : Rises K 0 (n_hash K) l) (parted : Parted 0 (n_hash K) rs) where
    all : (d h : ℕ) → d ≤ K → Inside K rs d h ↔ AllInside K rs d h
    all d h u = Inside-iff_all K 0 (n_hash K) rs d h u parted

    deep_of : (e : Entry A) → Has l e → e.depth ≤ K
    deep_of e m = (Rises-has K 0 (n_hash K) l e rising m).0

    -- Once all entries or all ranges are past, what was given is the clipped map.
    swept_all : (p : ℕ) (l₂ : List (Entry A)) (rs₂ : List Range) (w : List (Entry A)) → Swept p l₂ rs₂ w → ((k : ℕ) → Covers l K k → InRanges rs k → k < p) → w ≡ clipped K l rs
    swept_all p l₂ rs₂ w s past = Rises-unique K 0 p 0 (n_hash K) w (clipped K l rs) s.rises (clip_rises K l rs) there back
      where
        there : (e : Entry A) → Has w e → Has (clipped K l rs) e
        there e m = (clip_has_iff K l rs rising e).1 (s.sound e m)

        back : (e : Entry A) → Has (clipped K l rs) e → Has w e
        back e m =
            let t = (clip_has_iff K l rs rising e).0 m in
            let k = start_of K e in
            let v = range_of K e in
            let i = (lies_in-iff_in_range K k e.depth e.hash t.deep).1 (omega arith, v) in
            let o = t.over in
            let cov : Covers l K k = Any-of_has (LiesIn K k) l o.0 o.1 (lies_in-trans K k e.depth e.hash o.0.depth o.0.hash i o.2) in
            let ranged : InRanges rs k = t.inside k i in
            let g = Has-of_any (LiesIn K k) w (s.covers k (past k cov ranged) cov ranged) in
            let gd = (Rises-has K 0 p w g.0 s.rises g.1).0 in
            let x = (lies_in-iff_in_range K k g.0.depth g.0.hash gd).0 g.2 in
            let same : e ≡ g.0 = Rises-same K 0 (n_hash K) (clipped K l rs) e g.0 (clip_rises K l rs) m (there g.0 g.1) x.1 (omega (arith, x.0)) in
            rw same g.1

    pub Swept-entries : (p : ℕ) (rs₂ : List Range) (w : List (Entry A)) → Swept p [] rs₂ w → w ≡ clipped K l rs
    Swept-entries p rs₂ w s = swept_all p [] rs₂ w s (λ k c r.
        let g = Has-of_any (LiesIn K k) l c in
        let x = (lies_in-iff_in_range K k g.0.depth g.0.hash (deep_of g.0 g.1)).0 g.2 in
        ⊎_elim absurd (λ u. omega (arith, x.1)) (s.entries_past g.0 g.1))

    pub Swept-ranges : (p : ℕ) (l₂ : List (Entry A)) (w : List (Entry A)) → Swept p l₂ [] w → w ≡ clipped K l rs
    Swept-ranges p l₂ w s = swept_all p l₂ [] w s (λ k c r.
        let g = has_of_some (λ q. InRange q k) rs r in
        ⊎_elim absurd (λ u. omega (arith, g.2.1)) (s.ranges_past g.0 g.1))

    module _ (p : ℕ) (e : Entry A) (l₂ : List (Entry A)) (r : Range) (rs₂ : List Range) (w : List (Entry A)) (rising₂ : Rises K 0 (n_hash K) (e ∷ l₂)) (parted₂ : Parted 0 (n_hash K) (r ∷ rs₂)) (s : Swept p (e ∷ l₂) (r ∷ rs₂) w) where
      -- from where on the next cells are, and up to where
      abbrev from_here : ℕ
      from_here = max p (max (start_of K e) r.from)

      abbrev up_to : ℕ
      up_to = min (end_of K e) r.to

      -- The entries to come start where the first of them does or later, and so do the ranges.
      entry_later : (c : Entry A) → Has (e ∷ l₂) c → start_of K e ≤ start_of K c
      entry_later c (inl q) = rw q (omega arith)
      entry_later c (inr m) = omega (arith, Rises-has K (end_of K e) (n_hash K) l₂ c rising₂.2 m, range_of K e)

      range_later : (q : Range) → HasRange (r ∷ rs₂) q → r.from ≤ q.from
      range_later q (inl z) = rw z (omega arith)
      range_later q (inr m) = omega (arith, Parted-has (r.to + 1) (n_hash K) rs₂ q parted₂.3 m, parted₂.1)

      -- What lies in both from p on is from here on.
      none_between : (k : ℕ) → p ≤ k → Covers l K k → InRanges rs k → from_here ≤ k
      none_between k u c i =
          let g = Has-of_any (LiesIn K k) l c in
          let x = (lies_in-iff_in_range K k g.0.depth g.0.hash (deep_of g.0 g.1)).0 g.2 in
          let q = has_of_some (λ q. InRange q k) rs i in
          let a : start_of K e ≤ k = ⊎_elim (λ m. omega (arith, entry_later g.0 m, x.0)) (λ v. absurd (omega (arith, x.1))) (s.entries_past g.0 g.1) in
          let b : r.from ≤ k = ⊎_elim (λ m. omega (arith, range_later q.0 m, q.2.0)) (λ v. absurd (omega (arith, q.2.1))) (s.ranges_past q.0 q.1) in
          omega arith

      -- A cell that lies inside both starts before p or from here on.
      cell_from_here : (d h : ℕ) → d ≤ K → Covers l d h → Inside K rs d h → p ≤ start K d h → from_here ≤ start K d h
      cell_from_here d h u c i v =
          let t = (lies_in-iff_in_range K (start K d h) d h u).1 (omega arith, start-lt_end K d h) in
          none_between (start K d h) v (covers_below l d h K (start K d h) t c) ((all d h u).0 i (start K d h) t)

      Has-e : Has l e
      Has-e = (s.entries_left e (inl refl)).0

      has_r : HasRange rs r
      has_r = (s.ranges_left r (inl refl)).0

      pub place_le : p ≤ up_to
      place_le = omega (arith, (s.entries_left e (inl refl)).1, (s.ranges_left r (inl refl)).1)

      -- ---- nothing between the two
      module _ (apart : up_to ≤ from_here) where
        skip_covers : (k : ℕ) → k < up_to → Covers l K k → InRanges rs k → Covers w K k
        skip_covers k u c i = ⊎_elim (λ v. absurd (omega (arith, none_between k v c i))) (λ v. s.covers k v c i) (le_or_lt p k)

        skip_clear : (d h : ℕ) → d ≤ K → Covers l d h → Inside K rs d h → start K d h < up_to → end K d h ≤ up_to
        skip_clear d h u c i v = ⊎_elim (λ x. absurd (omega (arith, cell_from_here d h u c i x))) (λ x. omega (arith, place_le, s.clear d h u c i x)) (le_or_lt p (start K d h))

        -- The next entry is past.
        pub skip_entry : end_of K e ≤ r.to → Swept up_to l₂ (r ∷ rs₂) w
        skip_entry first = record {
          rises = Rises-to K 0 p up_to w place_le s.rises;
          sound = s.sound;
          covers = skip_covers;
          clear = skip_clear;
          entries_past = λ c m. ⊎_elim (⊎_elim (λ q. inr (rw q (omega arith))) inl) (λ u. inr (omega (arith, place_le))) (s.entries_past c m);
          ranges_past = λ q m. ⊎_map (λ n. n) (λ u. omega (arith, place_le)) (s.ranges_past q m);
          entries_left = λ c m. ((s.entries_left c (inr m)).0, omega (arith, Rises-has K (end_of K e) (n_hash K) l₂ c rising₂.2 m, range_of K c));
          ranges_left = λ q m. ((s.ranges_left q m).0, ⊎_elim (λ z. rw z (omega arith)) (λ n. omega (arith, Parted-has (r.to + 1) (n_hash K) rs₂ q parted₂.3 n)) m);
        }

        -- The next range is past.
        pub skip_range : r.to ≤ end_of K e → Swept up_to (e ∷ l₂) rs₂ w
        skip_range first = record {
          rises = Rises-to K 0 p up_to w place_le s.rises;
          sound = s.sound;
          covers = skip_covers;
          clear = skip_clear;
          entries_past = λ c m. ⊎_map (λ n. n) (λ u. omega (arith, place_le)) (s.entries_past c m);
          ranges_past = λ q m. ⊎_elim (⊎_elim (λ z. inr (rw z (omega arith))) inl) (λ u. inr (omega (arith, place_le))) (s.ranges_past q m);
          entries_left = λ c m. ((s.entries_left c m).0, ⊎_elim (λ z. rw z (omega arith)) (λ n. omega (arith, Rises-has K (end_of K e) (n_hash K) l₂ c rising₂.2 n, range_of K c)) m);
          ranges_left = λ q m. ((s.ranges_left q (inr m)).0, omega (arith, Parted-has (r.to + 1) (n_hash K) rs₂ q parted₂.3 m));
        }

      -- ---- the largest cell from here on
      module _ (d h : ℕ) (g : LargestAt K from_here up_to d h) where
        inside_e : lies_in d h e.depth e.hash ≡ true
        inside_e = (lies_in-iff_within K d h e.depth e.hash g.deep (deep_of e Has-e)).1 (omega (arith, g.starts), omega (arith, g.ends))

        Inside-r : Inside K rs d h
        Inside-r = Some-of_has (λ q. (q.from ≤ start K d h) × (end K d h ≤ q.to)) rs r has_r (omega (arith, g.starts), omega (arith, g.ends))

        -- A cell with it inside that lies inside both lies in the entry and in the range.
        larger_in : (a b : ℕ) → a ≤ K → lies_in d h a b ≡ true → Covers l a b → Inside K rs a b
            → end K a b ≤ up_to
        larger_in a b u t c i =
            let m = Has-of_any (LiesIn a b) l c in
            let n = has_of_some (λ q. (q.from ≤ start K a b) × (end K a b ≤ q.to)) rs i in
            let z : e ≡ m.0 = entry_unique K 0 (n_hash K) l d h e m.0 rising g.deep Has-e m.1 inside_e (lies_in-trans d h a b m.0.depth m.0.hash t m.2) in
            let v : lies_in a b e.depth e.hash ≡ true = rw z m.2 in
            let x = lies_in-within K d h a b g.deep t in
            let y = lies_in-within K a b e.depth e.hash u v in
            let f = start-lt_end K d h in
            let q : r ≡ n.0 = Parted-same 0 (n_hash K) (start K d h) rs r n.0 parted has_r n.1 (omega (arith, g.starts), omega (arith, g.ends)) (omega (arith, n.2.0), omega (arith, n.2.1)) in
            let o : (r.from ≤ start K a b) × (end K a b ≤ r.to) = rw q n.2 in
            omega (arith, y.1, o.1)

        given : ClipCell K l rs (entry d h e.value)
        given = record {
          deep = g.deep;
          sky = (valid_iff_end_le K d h g.deep).1 (omega (arith, g.ends, Rises-has K 0 (n_hash K) l e rising Has-e));
          over = (e, Has-e, inside_e, refl);
          inside = (all d h g.deep).0 Inside-r;
          parent = λ a z c i.
              let u : a ≤ K = omega (arith, g.deep) in
              let t : lies_in d h a (h / 4) ≡ true = rw z (in_parent a h) in
              let j = (all a (h / 4) u).1 i in
              let x = larger_in a (h / 4) u t c j in
              let y = lies_in-within K d h a (h / 4) g.deep t in
              ⊎_elim
              (λ v. absurd (omega (arith, g.greatest a (h / 4) u (omega (arith, g.starts, cell_from_here a (h / 4) u c j v, y.0)) x)))
              (λ v. omega (arith, s.clear a (h / 4) u c j v, y.1, g.starts, start-lt_end K d h))
              (le_or_lt p (start K a (h / 4)));
        }

        give_clear : (a b : ℕ) → a ≤ K → Covers l a b → Inside K rs a b → start K a b < end K d h → end K a b ≤ end K d h
        give_clear a b u c i v = ⊎_elim from_p (λ x. omega (arith, s.clear a b u c i x, g.starts, start-lt_end K d h)) (le_or_lt p (start K a b))
          where
            same : (a ≡ d) → lies_in d h a b ≡ true → end K a b ≤ end K d h
            same z t = let y : h ≡ b = lies_in-same_depth d h b (rw z at t) in rw (z, ← y) (omega arith)

            outer : from_here ≤ start K a b → lies_in d h a b ≡ true → end K a b ≤ end K d h
            outer x t =
                let y = lies_in-within K d h a b g.deep t in
                let o = larger_in a b u t c i in
                same (omega (arith, ((lies_in-iff d h a b).0 t).0, g.greatest a b u (omega (arith, g.starts, y.0)) o)) t

            from_p : p ≤ start K a b → end K a b ≤ end K d h
            from_p x =
                let f = cell_from_here a b u c i x in
                ⊎_elim (λ t. (lies_in-within K a b d h u t).1) (outer f) ((overlap-iff_lies_in a b d h).0 ((overlap-iff_meets K a b d h u g.deep).1 (v, omega (arith, g.starts, start-lt_end K a b))))

        -- It is given, and the sky is swept up to its end.
        pub give : Swept (end K d h) (e ∷ l₂) (r ∷ rs₂) (w ++ (entry d h e.value ∷ []))
        give =
            let f = start-lt_end K d h in
            let past : p ≤ end K d h = omega (arith, g.starts) in
            record {
              rises = Rises-append K 0 p (end K d h) w (entry d h e.value ∷ []) s.rises (g.deep, omega (arith, g.starts), omega arith);
              sound = λ c m. ⊎_elim (s.sound c) (⊎_elim (λ z. rw z given) absurd) ((any_append (λ y. c ≡ y) w (entry d h e.value ∷ [])).0 m);
              covers = λ k u c i. (any_append (LiesIn K k) w (entry d h e.value ∷ [])).1 (⊎_elim
                  (λ v. inr (inl ((lies_in-iff_in_range K k d h g.deep).1 (omega (arith, g.starts, none_between k v c i), u))))
                  (λ v. inl (s.covers k v c i))
                  (le_or_lt p k));
              clear = give_clear;
              entries_past = λ c m. ⊎_map (λ n. n) (λ u. omega arith) (s.entries_past c m);
              ranges_past = λ q m. ⊎_map (λ n. n) (λ u. omega arith) (s.ranges_past q m);
              entries_left = λ c m. ((s.entries_left c m).0, ⊎_elim (λ z. rw z (omega (arith, g.ends))) (λ n. omega (arith, g.ends, Rises-has K (end_of K e) (n_hash K) l₂ c rising₂.2 n, range_of K c)) m);
              ranges_left = λ q m. ((s.ranges_left q m).0, ⊎_elim (λ z. rw z (omega (arith, g.ends))) (λ n. omega (arith, g.ends, Parted-has (r.to + 1) (n_hash K) rs₂ q parted₂.3 n)) m);
            }

    -- A piece that is cut from the left is swept as far as it is cut.
    pub Swept-cut : (p : ℕ) (e : Entry A) (l₂ : List (Entry A)) (r : Range) (rs₂ : List Range) (w : List (Entry A)) → Rises K 0 (n_hash K) (e ∷ l₂) → Parted 0 (n_hash K) (r ∷ rs₂)
        → Swept p (e ∷ l₂) (r ∷ rs₂) w → (a q : ℕ) (cells : List (Entry A)) → max p (max (start_of K e) r.from) ≡ a → Cut K a (min (end_of K e) r.to) e.value q cells
        → (p' : ℕ) × Swept p' (e ∷ l₂) (r ∷ rs₂) (w ++ cells) × (max p' (max (start_of K e) r.from) ≡ q)
    Swept-cut p e l₂ r rs₂ w rising₂ parted₂ s a q [] here t = (p, rw (append-nil w) s, here ∙ sym t)
    Swept-cut p e l₂ r rs₂ w rising₂ parted₂ s a q (c ∷ cells) here t =
        let g : LargestAt K (max p (max (start_of K e) r.from)) (min (end_of K e) r.to) c.depth c.hash = rw here t.0 in
        let is : entry c.depth c.hash e.value ≡ c = sym (entry-is c c.depth c.hash e.value refl refl t.1) in
        let s' : Swept (end_of K c) (e ∷ l₂) (r ∷ rs₂) (w ++ (c ∷ [])) = rw is at (give p e l₂ r rs₂ w rising₂ parted₂ s c.depth c.hash g) in
        let f = start-lt_end K c.depth c.hash in
        let there : max (end_of K c) (max (start_of K e) r.from) ≡ end_of K c = further p (start_of K e) r.from (start_of K c) (end_of K c) g.starts f in
        let more = Swept-cut (end_of K c) e l₂ r rs₂ (w ++ (c ∷ [])) rising₂ parted₂ s' (end_of K c) q cells there t.2 in
        (more.0, rw (append_assoc w (c ∷ []) cells) at more.1, more.2)
