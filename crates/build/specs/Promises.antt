-- Section 4 of the scope: what is promised of the maps. Lists of entries stand with the first one first, except where it is
-- said that the last one is.
use Rattle.std.specs.Prelude.{◌≡◌, true, false, cond, List, [], ◌∷◌, ◌⊎◌, ℕ, suc, ◌+◌, ◌/◌, ◌-◌, ◌≤◌, ◌<◌}
use Rattle.std.proofs.Math.Option.{none, some}
use Rattle.zuniq.specs.Cells.{n_hash, child_hash, lies_in, overlap, start, end}
use Rattle.zuniq.specs.Codec.{zuniq}
use Rattle.build.specs.Map.{Entry, Merger, whole}

module _ {A : Type 0} where
  -- some entry has P
  abbrev pub Any : (Entry A → Type 0) → List (Entry A) → Type 0
  Any P [] = ⊥
  Any P (e ∷ l) = P e ⊎ Any P l

  -- e is an entry of the list
  abbrev pub Has : List (Entry A) → Entry A → Type 0
  Has l e = Any (λ c. e ≡ c) l

  -- the cell (d, h) lies in the entry
  abbrev pub LiesIn : ℕ → ℕ → Entry A → Type 0
  LiesIn d h e = lies_in d h e.depth e.hash ≡ true

  -- "The cells covered are the depth-D cells that lie in an entry"
  abbrev pub Covers : List (Entry A) → ℕ → ℕ → Type 0
  Covers l D h = Any (LiesIn D h) l

  abbrev pub start_of : ℕ → Entry A → ℕ
  start_of K e = start K e.depth e.hash

  abbrev pub end_of : ℕ → Entry A → ℕ
  end_of K e = end K e.depth e.hash

  -- "they rise strictly and no two overlap", by ranges: no entry is deeper than K, each starts where the one before it ends or
  -- later, the first one at a or later, and the last one ends at b or before
  abbrev pub Rises : ℕ → ℕ → ℕ → List (Entry A) → Type 0
  Rises K a b [] = a ≤ b
  Rises K a b (e ∷ l) = (e.depth ≤ K) × (a ≤ start_of K e) × Rises K (end_of K e) b l

  -- the same of a list with its last entry first
  abbrev pub Falls : ℕ → ℕ → ℕ → List (Entry A) → Type 0
  Falls K a b [] = a ≤ b
  Falls K a b (e ∷ s) = (e.depth ≤ K) × (end_of K e ≤ b) × Falls K a (start_of K e) s

  -- "each zuniq is valid", "they rise strictly and no two overlap", of the entries before and after one another
  abbrev pub Ascends : ℕ → List (Entry A) → Type 0
  Ascends K [] = Unit {0}
  Ascends K (e ∷ l) =
      (e.depth ≤ K) × (e.hash < n_hash e.depth)
      × ((c : Entry A) → Has l c → (zuniq K e.depth e.hash < zuniq K c.depth c.hash) × (overlap e.depth e.hash c.depth c.hash ≡ false)) × Ascends K l

  -- where a map ends whose last entry stands first: "the last held entry ends"
  abbrev pub last_end : ℕ → List (Entry A) → ℕ
  last_end K [] = 0
  last_end K (e ∷ s) = end_of K e

  -- a figure of the values (their count) in total
  abbrev pub total : (A → ℕ) → List (Entry A) → ℕ
  total figure [] = 0
  total figure (e ∷ l) = figure e.value + total figure l

  -- "the counts under an entry are those of joined cells that lie in it": their total, for the cell (d, h)
  unfoldable pub total_under : (A → ℕ) → List (Entry A) → ℕ → ℕ → ℕ
  total_under figure [] d h = 0
  total_under figure (c ∷ l) d h = cond (lies_in c.depth c.hash d h) (figure c.value) 0 + total_under figure l d h

  -- a merger that, where it accepts, gives the sum of the four
  abbrev pub Sums : Merger A → (A → ℕ) → Type 0
  Sums accept figure = (d h : ℕ) (a b c e x : A) → accept d h a b c e ≡ some x → figure x ≡ figure a + figure b + figure c + figure e

module _ {A : Type 0} (accept : Merger A) (D : ℕ) (l : List (Entry A)) where
  -- the entry is a whole cell, with its value
  abbrev pub IsWhole : Entry A → Type 0
  IsWhole e = whole accept l (D - e.depth) e.depth e.hash ≡ some e.value

  -- "whose parent isn't whole": "Depth-0 cells have no parent"
  abbrev pub NoWholeParent : Entry A → Type 0
  NoWholeParent e = (p : ℕ) → e.depth ≡ suc p → whole accept l (D - p) p (e.hash / 4) ≡ none

  -- "its four children are whole", with these values
  abbrev pub WholeChildren : ℕ → ℕ → A → A → A → A → Type 0
  WholeChildren d h a b c e =
      (whole accept l (D - suc d) (suc d) (child_hash h 0) ≡ some a) × (whole accept l (D - suc d) (suc d) (child_hash h 1) ≡ some b)
      × (whole accept l (D - suc d) (suc d) (child_hash h 2) ≡ some c) × (whole accept l (D - suc d) (suc d) (child_hash h 3) ≡ some e)
