-- Section 4 of the scope: the defined map of a list of cells. The cells may be of different depths, since combining needs
-- that too; none is deeper than D, the depth of the map. Over any type of values and any merger.
use Rattle.std.specs.Prelude.{Bool, ◌&&◌, cond, List, [], ◌∷◌, ◌++◌, ℕ, zero, suc, eqb}
use Rattle.std.proofs.Math.Option.{Option, none, some}
use Rattle.refusal.specs.Checks.{or_else}
use Rattle.zuniq.specs.Cells.{child_hash}

-- a cell with its value
pub record Entry (A : Type 0) : Type 0 where
  pub depth : ℕ
  pub hash : ℕ
  pub value : A

abbrev pub entry : {A : Type 0} → ℕ → ℕ → A → Entry A
entry d h x = record { depth = d; hash = h; value = x }

abbrev pub is_cell : {A : Type 0} → ℕ → ℕ → Entry A → Bool
is_cell d h e = eqb e.depth d && eqb e.hash h

-- "the merger accepts their values": accept d h a b c e is the value of the cell (d, h) if its children 0 to 3 have the
-- values a, b, c, e and are merged, and none if they are kept
abbrev pub Merger : Type 0 → Type 0
Merger A = ℕ → ℕ → A → A → A → A → Option A

-- the lists g 0 to g (n - 1), one after the other
unfoldable pub joined : {B : Type 0} → ℕ → (ℕ → List B) → List B
joined zero g = []
joined (suc n) g = joined n g ++ g n

-- "it is in the list": the value with which the cell (d, h) is listed
unfoldable pub listed : {A : Type 0} → List (Entry A) → ℕ → ℕ → Option A
listed [] d h = none
listed (e ∷ l) d h = cond (is_cell d h e) (some e.value) (listed l d h)

-- the cell (d, h) alone, if it has a value
abbrev pub itself_or : {A : Type 0} → ℕ → ℕ → Option A → List (Entry A) → List (Entry A)
itself_or d h (some x) inside = entry d h x ∷ []
itself_or d h none inside = inside

module _ {A : Type 0} (accept : Merger A) where
  -- "its four children are whole and the merger accepts their values"
  abbrev pub merged : ℕ → ℕ → Option A → Option A → Option A → Option A → Option A
  merged d h none b c e = none
  merged d h (some a) none c e = none
  merged d h (some a) (some b) none e = none
  merged d h (some a) (some b) (some c) none = none
  merged d h (some a) (some b) (some c) (some e) = accept d h a b c e

  module _ (l : List (Entry A)) where
    -- "a cell is whole if it is in the list, or its four children are whole and the merger accepts their values; its value is
    -- the listed or merged one": that value, for the cell (d, h) with n depths below it
    unfoldable pub whole : ℕ → ℕ → ℕ → Option A
    whole zero d h = listed l d h
    whole (suc n) d h =
        or_else (listed l d h)
        (merged d h (whole n (suc d) (child_hash h 0)) (whole n (suc d) (child_hash h 1)) (whole n (suc d) (child_hash h 2)) (whole n (suc d) (child_hash h 3)))

    -- "all whole cells whose parent isn't whole, rising by zuniq", of those in the cell (d, h): itself, or those in its children
    unfoldable pub tops : ℕ → ℕ → ℕ → List (Entry A)
    tops zero d h = itself_or d h (whole zero d h) []
    tops (suc n) d h = itself_or d h (whole (suc n) d h) (joined 4 (λ i. tops n (suc d) (child_hash h i)))

-- "The map is all whole cells whose parent isn't whole, rising by zuniq. Depth-0 cells have no parent."
unfoldable pub defined_map : {A : Type 0} → Merger A → ℕ → List (Entry A) → List (Entry A)
defined_map accept D l = joined 12 (λ h. tops accept l D 0 h)
