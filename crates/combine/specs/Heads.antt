-- Section 5 of the scope: the walk as code keeps it, over any type C of cells that the code has for entries.
use Rattle.std.specs.Prelude.{◌≡◌, Bool, true, false, List, ℕ, ◌+◌, ◌-◌, ◌≤◌, ◌<◌, length, get_or, slice_set}
use Rattle.std.proofs.Math.Option.{Option, none, some}
use Rattle.zuniq.specs.Codec.{IsZuniqOf}
use Rattle.build.specs.Map.{Entry, entry}
use Rattle.build.specs.Stack.{child}
use Rattle.build.specs.Promises.{start_of, end_of}
use Rattle.combine.specs.Overlay.{Seen, left, right, both, Split}
use Rattle.combine.specs.Walk.{Inner}

-- "`LhsRhsBoth`: an enum over a struct of cell and value"
pub data Saw (C : Type 0) : Type 0 where
  saw_left : C → Saw C
  saw_right : C → Saw C
  saw_both : C → C → Saw C

-- whose head is used up when a cell is shown
abbrev pub takes_left : {C : Type 0} → Saw C → Bool
takes_left (saw_left a) = true
takes_left (saw_right b) = false
takes_left (saw_both a b) = true

abbrev pub takes_right : {C : Type 0} → Saw C → Bool
takes_right (saw_left a) = false
takes_right (saw_right b) = true
takes_right (saw_both a b) = true

-- what a turn does
pub data Act (C : Type 0) : Type 0 where
  shows : Saw C → Act C
  opens_left : C → Act C
  opens_right : C → Act C
  ends : Act C

-- a side of the walk, apart from its array of pending cells: the next cell, how many are pending, the place of the map's next
-- entry, and whether the next cell has been used up
pub record At (C : Type 0) : Type 0 where
  pub head : Option C
  pub pending : ℕ
  pub place : ℕ
  pub taken : Bool

abbrev pub side_at : {C : Type 0} → Option C → ℕ → ℕ → Bool → At C
side_at x m i t = record { head = x; pending = m; place = i; taken = t }

-- before the first entry
abbrev pub side_start : {C : Type 0} → At C
side_start = side_at none 0 0 true

-- the head used up or not
abbrev pub used : {C : Type 0} → Bool → At C → At C
used t s = side_at s.head s.pending s.place t

-- an array of pending cells after three pushes
abbrev pub pushed : {C : Type 0} → List C → ℕ → C → C → C → List C
pushed p m c3 c2 c1 = slice_set (slice_set (slice_set p m c3) (m + 1) c2) (m + 2) c1

-- the head split: its first child is the head, and three are pending
abbrev pub opened : {C : Type 0} → C → At C → At C
opened c s = side_at (some c) (s.pending + 3) s.place false

module _ {A C : Type 0} (as_entry : C → Entry A) where
  -- the overlay cell that is shown to the rule
  abbrev pub shown_as : Saw C → Entry (Seen A)
  shown_as (saw_left a) = entry (as_entry a).depth (as_entry a).hash (left (as_entry a).value)
  shown_as (saw_right b) = entry (as_entry b).depth (as_entry b).hash (right (as_entry b).value)
  shown_as (saw_both a b) = entry (as_entry a).depth (as_entry a).hash (both (as_entry a).value (as_entry b).value)

  -- a head, if there is one, is not too deep
  abbrev pub Shallow : Option C → Type 0
  Shallow none = Unit {0}
  Shallow (some a) = (as_entry a).depth ≤ 29

  -- the cell ends before the other side's head starts
  abbrev pub Ahead : ℕ → C → Option C → Type 0
  Ahead K a none = Unit {0}
  Ahead K a (some b) = end_of K (as_entry a) ≤ start_of K (as_entry b)

  -- the act is what the heads x and y lead to
  abbrev pub Turned : ℕ → Option C → Option C → Act C → Type 0
  Turned K x y (shows (saw_left a)) = (x ≡ some a) × Ahead K a y
  Turned K x y (shows (saw_right b)) = (y ≡ some b) × Ahead K b x
  Turned K x y (shows (saw_both a b)) = (x ≡ some a) × (y ≡ some b) × ((as_entry a).depth ≡ (as_entry b).depth) × ((as_entry a).hash ≡ (as_entry b).hash)
  Turned K x y (opens_left a) = (b : C) × (x ≡ some a) × (y ≡ some b) × Inner (as_entry b) (as_entry a)
  Turned K x y (opens_right b) = (a : C) × (x ≡ some a) × (y ≡ some b) × Inner (as_entry a) (as_entry b)
  Turned K x y ends = (x ≡ none) × (y ≡ none)

-- the zuniq of the overlay cell that is shown; zuniq_in c is the one that c holds
abbrev pub zuniq_shown : {C : Type 0} → (C → ℕ) → Saw C → ℕ
zuniq_shown zuniq_in (saw_left a) = zuniq_in a
zuniq_shown zuniq_in (saw_right b) = zuniq_in b
zuniq_shown zuniq_in (saw_both a b) = zuniq_in a

-- "depth, hash, zuniq and .. used for the .. left, right and pending cells"
module _ {A C : Type 0} (as_entry : C → Entry A) (zuniq_in : C → ℕ) where
  -- the cell holds the zuniq of its depth and hash
  abbrev pub Good : C → Type 0
  Good a = IsZuniqOf 29 (zuniq_in a) (as_entry a).depth (as_entry a).hash

  -- c is child i of a
  abbrev pub ChildOf : Split A → C → ℕ → C → Type 0
  ChildOf split a i c = Good c × (as_entry c ≡ child (as_entry a).depth (as_entry a).hash i (split (as_entry a).depth (as_entry a).hash (as_entry a).value i))

  -- x is the entry at place i of the map in zs and vs, if there is one
  module _ (zs : List ℕ) (vs : List A) where
    abbrev pub EntryAt : ℕ → Option C → Type 0
    EntryAt i none = length zs ≤ i
    EntryAt i (some a) = (i < length zs) × (zuniq_in a ≡ get_or zs i 0) × Good a × ((as_entry a).value ≡ get_or vs i (as_entry a).value)

    -- The side r is s with a head: the one that s has, or the last pending cell, or the next entry.
    pub data Advanced (top : C) (s r : At C) : Type 0 where
      stays : s.taken ≡ false → r ≡ s → Advanced top s r
      pops : s.taken ≡ true → 0 < s.pending → r ≡ side_at (some top) (s.pending - 1) s.place false → Advanced top s r
      fetches : s.taken ≡ true → s.pending ≤ 0 → (a : C) → EntryAt s.place (some a) → r ≡ side_at (some a) 0 (s.place + 1) false → Advanced top s r
      finishes : s.taken ≡ true → s.pending ≤ 0 → EntryAt s.place none → r ≡ side_at none 0 s.place false → Advanced top s r

-- The head of s, a, has been split: its first child is the head, and the other three are pending.
pub record Opened {A C : Type 0} (as_entry : C → Entry A) (zuniq_in : C → ℕ) (split : Split A) (a : C) (s : At C) (p : List C) (r : At C) (p' : List C) : Type 0 where
  pub c3 : C
  pub c2 : C
  pub c1 : C
  pub c0 : C
  pub third : ChildOf as_entry zuniq_in split a 3 c3
  pub second : ChildOf as_entry zuniq_in split a 2 c2
  pub first : ChildOf as_entry zuniq_in split a 1 c1
  pub zeroth : ChildOf as_entry zuniq_in split a 0 c0
  pub side : r ≡ opened c0 s
  pub cells : p' ≡ pushed p s.pending c3 c2 c1
