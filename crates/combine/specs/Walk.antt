-- Section 5 of the scope: the walk of two maps by their heads, as the Rust `merge` does it. K is the largest depth.
use Rattle.std.specs.Prelude.{◌≡◌, true, List, [], ◌∷◌, ◌++◌, ℕ, ◌+◌, ◌*◌, ◌-◌, ◌^◌, ◌≤◌, ◌<◌, length}
use Rattle.zuniq.specs.Cells.{lies_in}
use Rattle.build.specs.Map.{Entry, entry}
use Rattle.build.specs.Stack.{child}
use Rattle.build.specs.Promises.{start_of, end_of}
use Rattle.combine.specs.Overlay.{Seen, left, right, both, Split}

module _ {A : Type 0} where
  -- the entry ends before the list starts
  abbrev pub Before : ℕ → Entry A → List (Entry A) → Type 0
  Before K e [] = Unit {0}
  Before K e (c ∷ l) = end_of K e ≤ start_of K c

  -- c lies strictly inside e
  abbrev pub Inner : Entry A → Entry A → Type 0
  Inner c e = (e.depth < c.depth) × (lies_in c.depth c.hash e.depth e.hash ≡ true)

  -- "`Vec` pushes of split cells: an array of 87 pending ones for each side": the cells of a side that come before those of its
  -- map, the head first. Behind each there are at most three for each of its depths.
  abbrev pub Piled : List (Entry A) → Type 0
  Piled [] = Unit {0}
  Piled (e ∷ p) = (length p ≤ 3 * e.depth) × Piled p

  -- the sum of 8^(K − d) over the cells that are left: a cell outweighs its four children
  abbrev pub weight : ℕ → List (Entry A) → ℕ
  weight K [] = 0
  weight K (e ∷ l) = 8 ^ (K - e.depth) + weight K l

  module _ (split : Split A) where
    -- the four children of a cell that is split
    abbrev pub children : Entry A → List (Entry A)
    children e =
        let part : ℕ → Entry A = λ i. child e.depth e.hash i (split e.depth e.hash e.value i) in
        part 0 ∷ part 1 ∷ part 2 ∷ part 3 ∷ []

    -- what the walk of two lists gives: of two heads the one before the other is given, or both if they are the same cell; if
    -- one lies strictly inside the other, that is split
    pub data Walk (K : ℕ) : List (Entry A) → List (Entry A) → List (Entry (Seen A)) → Type 0 where
      stop : Walk K [] [] []
      give_left : {e : Entry A} {l r : List (Entry A)} {w : List (Entry (Seen A))} → Before K e r → Walk K l r w → Walk K (e ∷ l) r (entry e.depth e.hash (left e.value) ∷ w)
      give_right : {e : Entry A} {l r : List (Entry A)} {w : List (Entry (Seen A))} → Before K e l → Walk K l r w → Walk K l (e ∷ r) (entry e.depth e.hash (right e.value) ∷ w)
      give_both : {d h : ℕ} {x y : A} {l r : List (Entry A)} {w : List (Entry (Seen A))} → Walk K l r w → Walk K (entry d h x ∷ l) (entry d h y ∷ r) (entry d h (both x y) ∷ w)
      open_left : {e c : Entry A} {l r : List (Entry A)} {w : List (Entry (Seen A))} → Inner c e → Walk K (children e ++ l) (c ∷ r) w → Walk K (e ∷ l) (c ∷ r) w
      open_right : {e c : Entry A} {l r : List (Entry A)} {w : List (Entry (Seen A))} → Inner c e → Walk K (c ∷ l) (children e ++ r) w → Walk K (c ∷ l) (e ∷ r) w
