-- Demand 3 of the scope, as one claim about the list: after any list of add calls the buffers hold what the accepted batches joined
-- say, and every call was answered as they say. It rests on what a call that is not refused may rely on (`Sound`): the depth is one
-- of the type's, the two buffers are of one length, the batch rises from where the held map ends, and there is room.
use mathlib.Core.Path.{◌≡◌, refl, ap, ◌∙◌, subst}
use mathlib.Core.List.{List, [], ◌∷◌, ◌++◌, reverse, reverse-reverse}
use mathlib.Core.Logic.{inl, inr, ⊎_elim}
use mathlib.Core.Option.{Option, none, some}
use Prim.Native.Nat.{ℕ, ◌+◌, ◌≤◌}
use native.Mathlib.Omega.{arith}
use lib.ListN.{length, take}
use Rattle.zuniq.specs.Cells.{n_hash}
use Rattle.build.specs.Map.{Entry, defined_map}
use Rattle.build.specs.Stack.{run}
use Rattle.build.specs.Buffers.{batch, laid, filled, zuniq_of, value_of, read_onto, held}
use Rattle.build.specs.Promises.{Has, Rises, Falls, last_end}
use Rattle.build.specs.Calls.{Buffers, Batch, Answer, Calls, cells, answered, add_call, add_calls, joined_cells, joined_map, judge, join_by, join_calls, left}
use Rattle.build.proofs.Entries.{any_append}
use Rattle.build.proofs.Rising.{Falls-iff_rises, Falls-in_range}
use Rattle.build.proofs.Adding.{run_length}
use Rattle.build.proofs.Tops.{defined_map-rises}
use Rattle.build.proofs.DefinedMap.{defined_map-nil, run-onto_defined_map, Rises-append_from_map_end}
use Rattle.build.proofs.Order.{Rises-deeper_iff, defined_map-deeper}
use Rattle.build.proofs.Buffers.{take-filled, length-filled, held-laid}

-- What a call that is not refused may rely on, over a held map s: zs and vs are the places of the buffers, l the cells.
pub record Fine {A : Type 0} (K D zs vs : ℕ) (s l : List (Entry A)) : Type 0 where
  pub deep : D ≤ K
  pub same : zs ≡ vs
  pub rises : Rises K (last_end K s) (n_hash K) l
  pub room : length s + length l ≤ zs

module _ {A R X : Type 0} (g : Calls A R X) where
  -- the joined batches after a list of calls with these buffers, and the answers: only the places of the buffers matter
  abbrev pub joining : Buffers A → Option (List (Entry A)) → List (Batch A) → Option (List (Entry A)) × List (Answer R X)
  joining b j cs = join_calls g (length b.zuniqs) (length b.values) j cs

  -- Batches that are not refused are fine, over any map of the sky.
  abbrev pub Sound : Type 0
  Sound = (zs vs : ℕ) (s : List (Entry A)) (c : Batch A) → Falls g.largest 0 (n_hash g.largest) s
      → g.refusal (length s) zs vs (laid (zuniq_of g.largest) s) (laid value_of s) c ≡ none → Fine g.largest g.D zs vs s (cells g c)

-- The cells of a batch are at its depth.
pub batch-depth : {A : Type 0} (D : ℕ) (hs : List ℕ) (vs : List A) (e : Entry A) → Has (batch D hs vs) e → e.depth ≡ D
unfolding batch
batch-depth D [] vs e m = absurd m
batch-depth D (h ∷ hs) [] e m = absurd m
batch-depth {A} D (h ∷ hs) (v ∷ vs) e (inl q) = ap (λ (c : Entry A). c.depth) q
batch-depth D (h ∷ hs) (v ∷ vs) e (inr m) = batch-depth D hs vs e m

module _ {A R X : Type 0} (g : Calls A R X) where
  -- The defined map is a map of the sky.
  map_falls : (l : List (Entry A)) → g.D ≤ g.largest → Rises g.D 0 (n_hash g.D) l → Falls g.largest 0 (n_hash g.largest) (reverse (defined_map g.accept g.D l))
  map_falls l deep r =
      let m = defined_map g.accept g.largest l in
      rw (defined_map-deeper g.D g.largest deep g.accept l r)
      ((Falls-iff_rises g.largest 0 (n_hash g.largest) (reverse m)).1 (rw (reverse-reverse m) (defined_map-rises g.accept g.largest l)))

  -- Fine cells, joined to those whose map is held, rise.
  Fine-rises : (zs vs : ℕ) (l : List (Entry A)) (c : Batch A) → Rises g.D 0 (n_hash g.D) l → Fine g.largest g.D zs vs (reverse (defined_map g.accept g.D l)) (cells g c)
      → Rises g.D 0 (n_hash g.D) (l ++ cells g c)
  Fine-rises zs vs l c r f =
      let K = g.largest in
      let low = Rises-deeper_iff g.D K f.deep in
      let t : Rises K 0 (n_hash K) (l ++ cells g c) = Rises-append_from_map_end g.accept K l (cells g c) ((low l).0 r).1 (rw (defined_map-deeper g.D K f.deep g.accept l r) at f.rises) in
      (low (l ++ cells g c)).1 (λ e m. ⊎_elim (((low l).0 r).0 e) (λ k. omega (arith, batch-depth g.D c.hashes c.values e k)) ((any_append _ l (cells g c)).0 m), t)

  module _ (sound : Sound g) (b : Buffers A) where
    -- the buffers hold the map of the joined batches
    record Holds (j : Option (List (Entry A))) : Type 0 where
      rises : Rises g.D 0 (n_hash g.D) (joined_cells g j)
      falls : Falls g.largest 0 (n_hash g.largest) (joined_map g j)
      number : (left g b j).number ≡ length (joined_map g j)
      zuniqs : take (left g b j).number (left g b j).zuniqs ≡ laid (zuniq_of g.largest) (joined_map g j)
      values : take (left g b j).number (left g b j).values ≡ laid value_of (joined_map g j)
      is : held g.largest (left g b j).number (left g b j).zuniqs (left g b j).values ≡ joined_map g j
      zs : length (left g b j).zuniqs ≡ length b.zuniqs
      vs : length (left g b j).values ≡ length b.values

    Holds-nothing : Holds none
    unfolding held read_onto laid
    Holds-nothing =
        let n = defined_map-nil g.accept g.D in
        record { rises = omega arith; falls = rw n (omega arith); number = rw n; zuniqs = rw n; values = rw n; is = rw n; zs = refl; vs = refl }

    Holds-map : (l : List (Entry A)) → g.D ≤ g.largest → Rises g.D 0 (n_hash g.D) l → length (joined_map g (some l)) ≤ length b.zuniqs → length (joined_map g (some l)) ≤ length b.values → Holds (some l)
    unfolding filled
    Holds-map l deep r u v =
        let s = joined_map g (some l) in
        let f = map_falls l deep r in
        record {
          rises = r;
          falls = f;
          number = refl;
          zuniqs = take-filled (zuniq_of g.largest) 0 (length b.zuniqs) s;
          values = take-filled value_of g.filler (length b.values) s;
          is = held-laid g.largest s _ _ (λ e m. Falls-in_range g.largest 0 s e f m);
          zs = length-filled (zuniq_of g.largest) 0 (length b.zuniqs) s u;
          vs = length-filled value_of g.filler (length b.values) s v;
        }

    call_is : (j : Option (List (Entry A))) (c : Batch A) → Holds j
        → add_call g (left g b j) c ≡ answered g (judge g (length b.zuniqs) (length b.values) j c) (left g b j) (run g.accept (joined_map g j) (cells g c))
    unfolding add_call judge
    call_is j c h = rw (h.zuniqs, h.values, h.is, h.zs, h.vs, h.number)

    -- One call does what the joined batches say.
    one_call : (j : Option (List (Entry A))) (c : Batch A) (o : Option R) → judge g (length b.zuniqs) (length b.values) j c ≡ o → Holds j
        → (add_call g (left g b j) c ≡ (left g b (join_by g o j c).0, (join_by g o j c).1)) × Holds (join_by g o j c).0
    unfolding judge
    one_call j c (some r) q h = (call_is j c h ∙ rw q, h)
    one_call j c none q h =
        let l = joined_cells g j in
        let f = sound (length b.zuniqs) (length b.values) (joined_map g j) c h.falls q in
        let r = Fine-rises _ _ l c h.rises f in
        let e : run g.accept (joined_map g j) (cells g c) ≡ joined_map g (some (l ++ cells g c)) = run-onto_defined_map g.accept g.D l (cells g c) h.rises r in
        let u : length (joined_map g (some (l ++ cells g c))) ≤ length b.zuniqs = omega (arith, f.room, ap length e, run_length g.accept (joined_map g j) (cells g c)) in
        (call_is j c h ∙ rw (q, e, h.zs, h.vs), Holds-map (l ++ cells g c) f.deep r u (omega (arith, f.same, u)))

    -- All calls do.
    calls_from : (cs : List (Batch A)) (j : Option (List (Entry A))) → Holds j → (add_calls g (left g b j) cs ≡ (left g b (joining g b j cs).0, (joining g b j cs).1)) × Holds (joining g b j cs).0
    unfolding add_calls join_calls
    calls_from [] j h = (refl, h)
    calls_from (c ∷ cs) j h =
        let o = one_call j c (judge g (length b.zuniqs) (length b.values) j c) refl h in
        let more = calls_from cs _ o.1 in
        (rw (o.0, more.0), more.1)

    -- Demand 3: from m = 0 and buffers with any content, the calls leave the buffers and give the answers that the joined batches say.
    pub calls_do_as_joined : (cs : List (Batch A)) → add_calls g (left g b none) cs ≡ (left g b (joining g b none cs).0, (joining g b none cs).1)
    calls_do_as_joined cs = (calls_from cs none Holds-nothing).0

    -- The joined batches rise, so that all that is known of defined maps is known of theirs.
    pub joined_batches_rise : (cs : List (Batch A)) → Rises g.D 0 (n_hash g.D) (joined_cells g (joining g b none cs).0)
    joined_batches_rise cs = (calls_from cs none Holds-nothing).1.rises

    -- Their map is one of the sky.
    pub joined_map_rises : (cs : List (Batch A)) → Rises g.largest 0 (n_hash g.largest) (defined_map g.accept g.D (joined_cells g (joining g b none cs).0))
    joined_map_rises cs =
        let m = defined_map g.accept g.D (joined_cells g (joining g b none cs).0) in
        subst (Rises g.largest 0 (n_hash g.largest)) (reverse-reverse m) ((Falls-iff_rises g.largest 0 (n_hash g.largest) (reverse m)).0 (calls_from cs none Holds-nothing).1.falls)

    -- It stands in the buffers that the calls leave.
    pub joined_map-stands : (cs : List (Batch A)) → let j = (joining g b none cs).0 in
        (take (left g b j).number (left g b j).zuniqs ≡ laid (zuniq_of g.largest) (joined_map g j)) × (take (left g b j).number (left g b j).values ≡ laid value_of (joined_map g j))
    joined_map-stands cs = let h = (calls_from cs none Holds-nothing).1 in (h.zuniqs, h.values)

  -- Their cells are at D.
  joined_from : (zs vs : ℕ) (j : Option (List (Entry A))) (cs : List (Batch A)) → ((e : Entry A) → Has (joined_cells g j) e → e.depth ≡ g.D)
      → (e : Entry A) → Has (joined_cells g (join_calls g zs vs j cs).0) e → e.depth ≡ g.D
  unfolding join_calls
  joined_from zs vs j [] low = low
  joined_from zs vs j (c ∷ cs) low =
      joined_by (judge g zs vs j c) (λ k. joined_from zs vs k cs)
    where
      joined_by : (o : Option R) → ((k : Option (List (Entry A))) → ((e : Entry A) → Has (joined_cells g k) e → e.depth ≡ g.D) → (e : Entry A) → Has (joined_cells g (join_calls g zs vs k cs).0) e → e.depth ≡ g.D)
          → (e : Entry A) → Has (joined_cells g (join_calls g zs vs (join_by g o j c).0 cs).0) e → e.depth ≡ g.D
      joined_by (some r) more = more j low
      joined_by none more = more (some (joined_cells g j ++ cells g c)) (λ e m. ⊎_elim (low e) (batch-depth g.D c.hashes c.values e) ((any_append _ (joined_cells g j) (cells g c)).0 m))

  pub joined_batches_depth : (zs vs : ℕ) (cs : List (Batch A)) (e : Entry A) → Has (joined_cells g (join_calls g zs vs none cs).0) e → e.depth ≡ g.D
  joined_batches_depth zs vs cs = joined_from zs vs none cs (λ e m. absurd m)
