-- The walk over a map and a coverage in buffers: what holds at each turn of its loop, and of the loop that cuts a piece. Assumes
-- nothing.
use mathlib.Core.Path.{◌≡◌, refl, ap, sym, ◌∙◌}
use mathlib.Core.List.{List, [], ◌∷◌, ◌++◌, map, map-append, append_assoc, append-nil}
use mathlib.Core.Logic.{◌⊎◌, inl, inr, ⊎_elim}
use Prim.Native.Nat.{ℕ, suc, ◌+◌, ◌*◌, ◌^◌, ◌≤◌, ◌<◌, max, min}
use native.Mathlib.Numerals.{add-one}
use native.Mathlib.Omega.{arith}
use lib.Ieee.{Float, nan}
use lib.ListN.{length, get_or, take, drop, set, length-append, drop_of_length-le}
use lib.Seq.{drop-cons, take-suc-set}
use Rattle.zuniq.specs.Cells.{n_hash, start, end}
use Rattle.zuniq.proofs.Codec.{cell, decodes}
use Rattle.zuniq.proofs.Ranges.{lies_in-iff, lies_in-iff_within, start-lt_end, zuniq-is_middle}
use Rattle.build.specs.Map.{Entry, entry}
use Rattle.build.specs.Buffers.{zuniq_of, value_of}
use Rattle.build.specs.Promises.{Has, start_of, end_of, Rises}
use Rattle.build.proofs.Rising.{range_of, Rises-has, Rises-from}
use Rattle.combine.specs.Slices.{entries_of, Holds}
use Rattle.coverage.specs.Ranges.{Range, range, ranges_of}
use Rattle.coverage.specs.Promises.{HasRange, Parted, RangeOf}
use Rattle.coverage.proofs.Ranges.{Parted-has, Parted-from}
use Rattle.coverage.proofs.Inside.{end-is_start_plus_width}
use Rattle.coverage.proofs.Given.{ranges_drop, ranges_drop_end}
use Rattle.clip.specs.Passes.{Aim}
use Rattle.clip.specs.Call.{clipped_of}
use Rattle.clip.specs.Passes.{LargestAt, LargestWidth, Cut, CutInto, Taken, Room, CanCut, IsCut, CanKeep, Kept}
use Rattle.clip.proofs.Tree.{clip_rises, clip_has_iff}
use Rattle.clip.proofs.Levels.{width_le}
use Rattle.clip.proofs.Swept.{Swept, Swept-start, Swept-entries, Swept-ranges, skip_entry, skip_range, Swept-cut}

-- ---- what is counted or written
-- behind n others the entries l stand in a buffer that had xs
abbrev Stood : {B : Type 0} → (Entry Float → B) → ℕ → List (Entry Float) → List B → List B → Type 0
Stood f n l xs xs' = take (n + length l) xs' ≡ take n xs ++ map f l

module _ {B : Type 0} (f : Entry Float → B) where
  Stood-none : (n : ℕ) (xs : List B) → Stood f n [] xs xs
  Stood-none n xs = let z : n + 0 ≡ n = omega arith in rw z (sym (append-nil (take n xs)))

  -- one more place
  Stood-more : (n m : ℕ) (l : List (Entry Float)) (e : Entry Float) (x : B) (xs₀ xs : List B) → m ≡ n + length l → m < length xs → x ≡ f e → Stood f n l xs₀ xs → Stood f n (l ++ (e ∷ [])) xs₀ (set xs m x)
  Stood-more n m l e x xs₀ xs k u z s =
      let q : n + length (l ++ (e ∷ [])) ≡ suc m = omega (arith, length-append l (e ∷ [])) in
      rw (q, take-suc-set xs m x u, k, s, z, map-append) (append_assoc (take n xs₀) (map f l) (f e ∷ []))

  -- more behind them
  Stood-behind : (n : ℕ) (w l : List (Entry Float)) (xs₀ xs xs' : List B) → n ≡ length w → Stood f 0 w xs₀ xs → Stood f n l xs xs' → Stood f 0 (w ++ l) xs₀ xs'
  Stood-behind n w l xs₀ xs xs' k s t =
      let q : 0 + length (w ++ l) ≡ n + length l = omega (arith, length-append w l) in
      let j : n ≡ 0 + length w = omega arith in
      rw (q, t, map-append) (ap (λ (ys : List B). ys ++ map f l) (rw (← j) at s))

Taken-none : (aim : Aim) (n : ℕ) (zs : List ℕ) (vs : List Float) → Taken aim n [] zs vs zs vs
Taken-none Aim.Count n zs vs = (refl, refl)
Taken-none Aim.Write n zs vs = (Stood-none (zuniq_of 29) n zs, Stood-none value_of n vs)

-- Counted or written, a cell is one more.
Taken-more : (aim : Aim) (n m : ℕ) (l : List (Entry Float)) (e : Entry Float) (z : ℕ) (v : Float) (zs₀ : List ℕ) (vs₀ : List Float) (zs : List ℕ) (vs : List Float) (zs' : List ℕ) (vs' : List Float)
    → m ≡ n + length l → z ≡ zuniq_of 29 e → v ≡ value_of e → CanKeep aim m zs vs → Taken aim n l zs₀ vs₀ zs vs → Kept aim m z v zs vs zs' vs' → Taken aim n (l ++ (e ∷ [])) zs₀ vs₀ zs' vs'
Taken-more Aim.Count n m l e z v zs₀ vs₀ zs vs zs' vs' k p q u o h = (h.0 ∙ o.0, h.1 ∙ o.1)
Taken-more Aim.Write n m l e z v zs₀ vs₀ zs vs zs' vs' k p q u o h = (
  rw h.0 (Stood-more (zuniq_of 29) n m l e z zs₀ zs k u.0 p o.0),
  rw h.1 (Stood-more value_of n m l e v vs₀ vs k u.1 q o.1),
)

Taken-behind : (aim : Aim) (n : ℕ) (w l : List (Entry Float)) (zs₀ : List ℕ) (vs₀ : List Float) (zs : List ℕ) (vs : List Float) (zs' : List ℕ) (vs' : List Float)
    → n ≡ length w → Taken aim 0 w zs₀ vs₀ zs vs → Taken aim n l zs vs zs' vs' → Taken aim 0 (w ++ l) zs₀ vs₀ zs' vs'
Taken-behind Aim.Count n w l zs₀ vs₀ zs vs zs' vs' k o h = (h.0 ∙ o.0, h.1 ∙ o.1)
Taken-behind Aim.Write n w l zs₀ vs₀ zs vs zs' vs' k o h = (Stood-behind (zuniq_of 29) n w l zs₀ zs zs' k o.0 h.0, Stood-behind value_of n w l vs₀ vs vs' k o.1 h.1)

-- Where there is room for one more, it can be kept.
can_keep : (aim : Aim) (n m : ℕ) (l : List (Entry Float)) (e : Entry Float) (zs₀ : List ℕ) (vs₀ : List Float) (zs : List ℕ) (vs : List Float)
    → m ≡ n + length l → length zs ≡ length zs₀ → length vs ≡ length vs₀ → Room aim n (l ++ (e ∷ [])) zs₀ vs₀ → CanKeep aim m zs vs
can_keep Aim.Count n m l e zs₀ vs₀ zs vs k lz lv r = omega (arith, length-append l (e ∷ []), r)
can_keep Aim.Write n m l e zs₀ vs₀ zs vs k lz lv r = (omega (arith, length-append l (e ∷ []), r.0), omega (arith, length-append l (e ∷ []), r.1))

-- ---- cutting a piece
-- One more cell is cut off.
Cut-more : {A : Type 0} (K a b : ℕ) (v : A) (p : ℕ) (l : List (Entry A)) (d h : ℕ) → Cut K a b v p l → LargestAt K p b d h → Cut K a b v (end K d h) (l ++ (entry d h v ∷ []))
Cut-more K a b v p [] d h t g = (rw t at g, refl, refl)
Cut-more K a b v p (e ∷ l) d h t g = (t.0, t.1, Cut-more K (end_of K e) b v p l d h t.2 g)

-- The piece from a to b is cut up to the place `at`, and there are m cells.
pub record Cutting (aim : Aim) (n a b : ℕ) (v : Float) (zs₀ : List ℕ) (vs₀ : List Float) (zs : List ℕ) (vs : List Float) (m at : ℕ) : Type 0 where
  pub cells : List (Entry Float)
  pub cut : Cut 29 a b v at cells
  pub past : a ≤ at
  pub number : m ≡ n + length cells
  pub taken : Taken aim n cells zs₀ vs₀ zs vs
  pub places : length zs ≡ length zs₀
  pub values : length vs ≡ length vs₀

module _ (aim : Aim) (n a b : ℕ) (v : Float) (zs₀ : List ℕ) (vs₀ : List Float) where
  pub Cutting-start : Cutting aim n a b v zs₀ vs₀ zs₀ vs₀ n a
  Cutting-start = record {
    cells = [];
    cut = refl;
    past = omega arith;
    number = omega arith;
    taken = Taken-none aim n zs₀ vs₀;
    places = refl;
    values = refl;
  }

  module _ (zs : List ℕ) (vs : List Float) (m at : ℕ) (s : Cutting aim n a b v zs₀ vs₀ zs vs m at) where
    pub cutting_end : b ≤ at → IsCut aim n a b v zs₀ vs₀ m zs vs
    cutting_end u = record { cells = s.cells; place = at; cut = s.cut; done = u; number = s.number; taken = s.taken }

    module _ (width : ℕ) (g : LargestWidth 29 at b width) where
      abbrev next : Entry Float
      next = entry g.0 g.1 v

      cut_on : Cut 29 a b v (end_of 29 next) (s.cells ++ (next ∷ []))
      cut_on = Cut-more 29 a b v at s.cells g.0 g.1 s.cut g.2

      -- The next cell's zuniq, and where it ends.
      zuniq_here : 2 * at + width ≡ zuniq_of 29 next
      zuniq_here = rw (g.3, ← g.2.starts) (zuniq-is_middle 29 g.0 g.1).0

      end_here : at + width ≡ end_of 29 next
      end_here = omega (arith, end-is_start_plus_width 29 g.0 g.1, g.2.starts, g.3)

      pub width_within : (0 < width) × (at + width ≤ b)
      width_within = (omega (arith, start-lt_end 29 g.0 g.1, end_here, g.2.starts), omega (arith, g.2.ends, end_here))

      pub CanKeep-here : CanCut aim n a b v zs₀ vs₀ → CanKeep aim m zs vs
      CanKeep-here can = can_keep aim n m s.cells next zs₀ vs₀ zs vs s.number s.places s.values (can (end_of 29 next) (s.cells ++ (next ∷ [])) cut_on)

      pub Cutting-on : CanCut aim n a b v zs₀ vs₀ → (zs' : List ℕ) (vs' : List Float) (m' : ℕ) → m' ≡ m + 1 → Kept aim m (2 * at + width) v zs vs zs' vs' → length zs' ≡ length zs → length vs' ≡ length vs
          → Cutting aim n a b v zs₀ vs₀ zs' vs' m' (at + width)
      Cutting-on can zs' vs' m' k h lz lv = record {
        cells = s.cells ++ (next ∷ []);
        cut = rw end_here cut_on;
        past = omega (arith, s.past);
        number = omega (arith, s.number, length-append s.cells (next ∷ []));
        taken = Taken-more aim n m s.cells next (2 * at + width) v zs₀ vs₀ zs vs zs' vs' s.number zuniq_here refl (CanKeep-here can) s.taken h;
        places = lz ∙ s.places;
        values = lv ∙ s.values;
      }

-- ---- a piece
-- It lies in a base cell, and in the sky.
pub piece_within : (z a b s t : ℕ) → RangeOf 29 z a b → t ≤ n_hash 29 → (min b t ≤ n_hash 29) × (min b t ≤ max a s + 4 ^ 29)
piece_within z a b s t x u =
    let w : end 29 x.depth x.hash ≤ start 29 x.depth x.hash + 4 ^ 29 = width_le 29 x.depth x.hash in
    (omega arith, omega (arith, x.starts, x.ends))

-- ---- a piece that is counted
module _ (n a b r : ℕ) (v : Float) (zs : List ℕ) (vs : List Float) (into : CutInto 29 a b v r) where
  pub counted_fits : CanCut Aim.Count n a b v zs vs → n + r < 2 ^ 64
  counted_fits can = omega (arith, can into.0 into.1 into.2, into.4)

  pub counted : IsCut Aim.Count n a b v zs vs (n + r) zs vs
  counted = record { cells = into.1; place = into.0; cut = into.2; done = into.3; number = ap (λ (k : ℕ). n + k) into.4; taken = (refl, refl) }

-- ---- an entry that lies in a range as a whole
module _ (aim : Aim) (n z a b s t : ℕ) (v : Float) (zs : List ℕ) (vs : List Float) (x : RangeOf 29 z a b) (from : s ≤ a) (to : b ≤ t) where
  abbrev itself : Entry Float
  itself = entry x.depth x.hash v

  itself_largest : LargestAt 29 (max a s) (min b t) x.depth x.hash
  itself_largest = record {
    deep = x.is.deep;
    starts = omega (arith, x.starts);
    ends = omega (arith, x.ends);
    greatest = λ e g u c d. ((lies_in-iff e g x.depth x.hash).0 ((lies_in-iff_within 29 e g x.depth x.hash u x.is.deep).1 (omega (arith, x.starts), omega (arith, x.ends)))).0;
  }

  itself-cut : Cut 29 (max a s) (min b t) v (end_of 29 itself) (itself ∷ [])
  itself-cut = (itself_largest, refl, refl)

  pub CanKeep-whole : CanCut aim n (max a s) (min b t) v zs vs → CanKeep aim n zs vs
  CanKeep-whole can = can_keep aim n n [] itself zs vs zs vs (omega arith) refl refl (can (end_of 29 itself) (itself ∷ []) itself-cut)

  -- It is cut into itself.
  pub whole_cut : CanCut aim n (max a s) (min b t) v zs vs → (zs' : List ℕ) (vs' : List Float) (r : ℕ) → r ≡ n + 1 → Kept aim n z v zs vs zs' vs' → IsCut aim n (max a s) (min b t) v zs vs r zs' vs'
  whole_cut can zs' vs' r k h = record {
    cells = itself ∷ [];
    place = end_of 29 itself;
    cut = itself-cut;
    done = omega (arith, x.ends);
    number = omega arith;
    taken = Taken-more aim n n [] itself z v zs vs zs vs zs' vs' (omega arith) x.is.is refl (CanKeep-whole can) (Taken-none aim n zs vs) h;
  }

-- ---- the walk
-- A rising list whose entries are all entries of another is no longer than that.
Rises-sub : {A : Type 0} (K a b c d : ℕ) (l m : List (Entry A)) → Rises K a b l → Rises K c d m → ((e : Entry A) → Has l e → Has m e) → length l ≤ length m
Rises-sub K a b c d [] m r t in_m = omega arith
Rises-sub K a b c d (x ∷ l) [] r t in_m = absurd (in_m x (inl refl))
Rises-sub {A} K a b c d (x ∷ l) (y ∷ m) r t in_m = go (in_m x (inl refl)) (Rises-sub K (end_of K x) b (end_of K y) d l m r.2 t.2) (Rises-sub K a b (end_of K y) d (x ∷ l) m r t.2)
  where
    -- what comes behind x is not y, if x is y or comes behind it
    behind : start_of K y ≤ start_of K x → (e : Entry A) → Has l e → Has m e
    behind u e n = ⊎_elim (λ z. absurd (omega (arith, Rises-has K (end_of K x) b l e r.2 n, range_of K x, ap (start_of K) z))) (λ k. k) (in_m e (inr n))

    go : (x ≡ y) ⊎ Has m x → (((e : Entry A) → Has l e → Has m e) → length l ≤ length m) → (((e : Entry A) → Has (x ∷ l) e → Has m e) → length (x ∷ l) ≤ length m) → length (x ∷ l) ≤ length (y ∷ m)
    go (inl z) short long = omega (arith, short (behind (omega (arith, ap (start_of K) z))))
    go (inr n) short long =
        let u : start_of K y ≤ start_of K x = omega (arith, Rises-has K (end_of K y) d m x t.2 n, range_of K y) in
        omega (arith, long (λ e. ⊎_elim (λ z. rw z n) (behind u e)))

-- The entry at a place, and those behind it.
entries_drop : (zs : List ℕ) (vs : List Float) (i a b : ℕ) (x : RangeOf 29 (get_or zs i 0) a b) → i < length zs → i < length vs
    → entries_of (drop i zs) (drop i vs) ≡ entry x.depth x.hash (get_or vs i nan) ∷ entries_of (drop (i + 1) zs) (drop (i + 1) vs)
unfolding entries_of
entries_drop zs vs i a b x u v = rw (drop-cons zs i 0 u, drop-cons vs i nan v, add-one i, (decodes 29 (get_or zs i 0) (cell x.depth x.hash)).1 x.is) refl

entries_drop_end : (zs : List ℕ) (vs : List Float) (i : ℕ) → length zs ≤ i → entries_of (drop i zs) (drop i vs) ≡ []
unfolding entries_of
entries_drop_end zs vs i u = rw (drop_of_length-le zs u) refl

-- Room for all cells is room for the first of them.
Room-less : (aim : Aim) (n : ℕ) (w l m : List (Entry Float)) (zs₀ : List ℕ) (vs₀ : List Float) (zs : List ℕ) (vs : List Float)
    → n ≡ length w → length (w ++ l) ≤ length m → length zs ≡ length zs₀ → length vs ≡ length vs₀ → Room aim 0 m zs₀ vs₀ → Room aim n l zs vs
Room-less Aim.Count n w l m zs₀ vs₀ zs vs k u lz lv r = omega (arith, length-append w l, r)
Room-less Aim.Write n w l m zs₀ vs₀ zs vs k u lz lv r = (omega (arith, length-append w l, r.0), omega (arith, length-append w l, r.1))

module _ (mz : List ℕ) (mv : List Float) (ss es : List ℕ) where
  -- The walk has come to the entry i and the range j, and there are n cells: those up to a place that no piece starts before.
  pub record Walking (aim : Aim) (zs₀ : List ℕ) (vs₀ : List Float) (zs : List ℕ) (vs : List Float) (n i j : ℕ) : Type 0 where
    pub place : ℕ
    pub cells : List (Entry Float)
    pub swept : Swept 29 (entries_of mz mv) (ranges_of ss es) place (entries_of (drop i mz) (drop i mv)) (ranges_of (drop j ss) (drop j es)) cells
    pub ahead : (c : Entry Float) (q : Range) → Has (entries_of (drop i mz) (drop i mv)) c → HasRange (ranges_of (drop j ss) (drop j es)) q → place ≤ max (start_of 29 c) q.from
    pub rising : Rises 29 0 (n_hash 29) (entries_of (drop i mz) (drop i mv))
    pub parted : Parted 0 (n_hash 29) (ranges_of (drop j ss) (drop j es))
    pub number : n ≡ length cells
    pub taken : Taken aim 0 cells zs₀ vs₀ zs vs
    pub places : length zs ≡ length zs₀
    pub values : length vs ≡ length vs₀
    pub entries : i ≤ length mz
    pub ranges : j ≤ length ss

  module _ (holds : Holds mz mv) (paired : length ss ≡ length es) (parts : Parted 0 (n_hash 29) (ranges_of ss es)) where
    pub walking_start : (aim : Aim) (zs : List ℕ) (vs : List Float) → Walking aim zs vs zs vs 0 0 0
    walking_start aim zs vs = record {
      place = 0;
      cells = [];
      swept = Swept-start 29 (entries_of mz mv) (ranges_of ss es);
      ahead = λ c q m o. omega arith;
      rising = holds.rises;
      parted = parts;
      number = refl;
      taken = Taken-none aim 0 zs vs;
      places = refl;
      values = refl;
      entries = omega arith;
      ranges = omega arith;
    }

    module _ (aim : Aim) (zs₀ : List ℕ) (vs₀ : List Float) (zs : List ℕ) (vs : List Float) (n i j : ℕ) (s : Walking aim zs₀ vs₀ zs vs n i j) where
      Swept-is : (l₂ : List (Entry Float)) (rs₂ : List Range) → entries_of (drop i mz) (drop i mv) ≡ l₂ → ranges_of (drop j ss) (drop j es) ≡ rs₂ → Swept 29 (entries_of mz mv) (ranges_of ss es) s.place l₂ rs₂ s.cells
      Swept-is l₂ rs₂ p q = rw (p, q) at s.swept

      -- With no entry left, or no range, the cells are those of the clipped map.
      done : s.cells ≡ clipped_of mz mv ss es → (n ≡ length (clipped_of mz mv ss es)) × Taken aim 0 (clipped_of mz mv ss es) zs₀ vs₀ zs vs
      done e = (s.number ∙ ap length e, rw e at s.taken)

      pub entries_done : length mz ≤ i → (n ≡ length (clipped_of mz mv ss es)) × Taken aim 0 (clipped_of mz mv ss es) zs₀ vs₀ zs vs
      entries_done u = done (Swept-entries 29 (entries_of mz mv) (ranges_of ss es) holds.rises parts s.place (ranges_of (drop j ss) (drop j es)) s.cells (Swept-is [] _ (entries_drop_end mz mv i u) refl))

      pub ranges_done : length ss ≤ j → (n ≡ length (clipped_of mz mv ss es)) × Taken aim 0 (clipped_of mz mv ss es) zs₀ vs₀ zs vs
      ranges_done u = done (Swept-ranges 29 (entries_of mz mv) (ranges_of ss es) holds.rises parts s.place (entries_of (drop i mz) (drop i mv)) s.cells (Swept-is _ [] refl (ranges_drop_end ss es j u)))

      module _ (u : i < length mz) (v : j < length ss) (a b : ℕ) (x : RangeOf 29 (get_or mz i 0) a b) (from to : ℕ) (f_is : from ≡ max a (get_or ss j 0)) (t_is : to ≡ min b (get_or es j 0)) where
        abbrev e : Entry Float
        e = entry x.depth x.hash (get_or mv i nan)

        abbrev r : Range
        r = range (get_or ss j 0) (get_or es j 0)

        abbrev l₂ : List (Entry Float)
        l₂ = entries_of (drop (i + 1) mz) (drop (i + 1) mv)

        abbrev rs₂ : List Range
        rs₂ = ranges_of (drop (j + 1) ss) (drop (j + 1) es)

        next_entry : entries_of (drop i mz) (drop i mv) ≡ e ∷ l₂
        next_entry = entries_drop mz mv i a b x u (omega (arith, holds.paired))

        next_range : ranges_of (drop j ss) (drop j es) ≡ r ∷ rs₂
        next_range = ranges_drop ss es j v (omega arith)

        rising₂ : Rises 29 0 (n_hash 29) (e ∷ l₂)
        rising₂ = rw next_entry at s.rising

        parted₂ : Parted 0 (n_hash 29) (r ∷ rs₂)
        parted₂ = rw next_range at s.parted

        swept₂ : Swept 29 (entries_of mz mv) (ranges_of ss es) s.place (e ∷ l₂) (r ∷ rs₂) s.cells
        swept₂ = Swept-is (e ∷ l₂) (r ∷ rs₂) next_entry next_range

        from_is : max s.place (max (start_of 29 e) r.from) ≡ from
        from_is =
            let ahead₂ : s.place ≤ max (start_of 29 e) r.from = s.ahead e r (rw next_entry (inl refl)) (rw next_range (inl refl)) in
            omega (arith, f_is, x.starts)

        to_is : min (end_of 29 e) r.to ≡ to
        to_is = rw (t_is, x.ends) refl

        -- The range ends in the sky.
        pub range_within : get_or es j 0 ≤ n_hash 29
        range_within = parted₂.2

        -- What is cut so far, behind the cells before it.
        Cut-so_far : (q : ℕ) (cells : List (Entry Float)) → Cut 29 from to (get_or mv i nan) q cells
            → (p : ℕ) × Swept 29 (entries_of mz mv) (ranges_of ss es) p (e ∷ l₂) (r ∷ rs₂) (s.cells ++ cells) × (max p (max (start_of 29 e) r.from) ≡ q)
        Cut-so_far q cells t = Swept-cut 29 (entries_of mz mv) (ranges_of ss es) holds.rises parts s.place e l₂ r rs₂ s.cells rising₂ parted₂ swept₂ from q cells from_is (rw to_is t)

        pub can_cut : Room aim 0 (clipped_of mz mv ss es) zs₀ vs₀ → CanCut aim n from to (get_or mv i nan) zs vs
        can_cut room q cells t =
            let w = Cut-so_far q cells t in
            let sub = Rises-sub 29 0 w.0 0 (n_hash 29) (s.cells ++ cells) (clipped_of mz mv ss es) w.1.rises (clip_rises 29 (entries_of mz mv) (ranges_of ss es))
            (λ o m. (clip_has_iff 29 (entries_of mz mv) (ranges_of ss es) holds.rises o).1 (w.1.sound o m)) in
            Room-less aim n s.cells cells (clipped_of mz mv ss es) zs₀ vs₀ zs vs s.number sub s.places s.values room

        module _ (zs' : List ℕ) (vs' : List Float) (n' : ℕ) (c : IsCut aim n from to (get_or mv i nan) zs vs n' zs' vs') (lz : length zs' ≡ length zs) (lv : length vs' ≡ length vs) where
          cells' : List (Entry Float)
          cells' = s.cells ++ c.cells

          number' : n' ≡ length (s.cells ++ c.cells)
          number' = omega (arith, s.number, c.number, length-append s.cells c.cells)

          taken' : Taken aim 0 (s.cells ++ c.cells) zs₀ vs₀ zs' vs'
          taken' = Taken-behind aim n s.cells c.cells zs₀ vs₀ zs vs zs' vs' s.number s.taken c.taken

          so_far : (p : ℕ) × Swept 29 (entries_of mz mv) (ranges_of ss es) p (e ∷ l₂) (r ∷ rs₂) (s.cells ++ c.cells) × (max p (max (start_of 29 e) r.from) ≡ c.place)
          so_far = Cut-so_far c.place c.cells c.cut

          apart : min (end_of 29 e) r.to ≤ max so_far.0 (max (start_of 29 e) r.from)
          apart = rw (to_is, so_far.2) c.done

          -- The entry ends first.
          pub past_entry : b ≤ get_or es j 0 → Walking aim zs₀ vs₀ zs' vs' n' (i + 1) j
          past_entry first =
              let le : end_of 29 e ≤ r.to = rw (← x.ends) first in
              record {
                place = min (end_of 29 e) r.to;
                cells = s.cells ++ c.cells;
                swept = rw (← next_range) at (skip_entry 29 (entries_of mz mv) (ranges_of ss es) holds.rises parts so_far.0 e l₂ r rs₂ (s.cells ++ c.cells) rising₂ parted₂ so_far.1 apart le);
                ahead = λ o q m k. omega (arith, Rises-has 29 (end_of 29 e) (n_hash 29) l₂ o rising₂.2 m);
                rising = Rises-from 29 0 (end_of 29 e) (n_hash 29) l₂ (omega arith) rising₂.2;
                parted = s.parted;
                number = number';
                taken = taken';
                places = lz ∙ s.places;
                values = lv ∙ s.values;
                entries = omega arith;
                ranges = s.ranges;
              }

          -- The range ends first.
          pub past_range : get_or es j 0 < b → Walking aim zs₀ vs₀ zs' vs' n' i (j + 1)
          past_range first =
              let le : r.to ≤ end_of 29 e = rw (← x.ends) (omega arith) in
              record {
                place = min (end_of 29 e) r.to;
                cells = s.cells ++ c.cells;
                swept = rw (← next_entry) at (skip_range 29 (entries_of mz mv) (ranges_of ss es) holds.rises parts so_far.0 e l₂ r rs₂ (s.cells ++ c.cells) rising₂ parted₂ so_far.1 apart le);
                ahead = λ o q m k. omega (arith, Parted-has (r.to + 1) (n_hash 29) rs₂ q parted₂.3 k);
                rising = s.rising;
                parted = Parted-from 0 (r.to + 1) (n_hash 29) rs₂ (omega arith) parted₂.3;
                number = number';
                taken = taken';
                places = lz ∙ s.places;
                values = lv ∙ s.values;
                entries = s.entries;
                ranges = omega arith;
              }
