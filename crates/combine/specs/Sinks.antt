-- Section 5 of the scope: what the walk asks of a rule and of the sink that takes the cells which the rule keeps, and what it promises.
-- F is the type of a sink's figures.
--
-- What a sink says of itself are three facts. `fits zs vs l`: the cells l, one after the other, can be taken into the buffers zs and vs.
-- `took zs vs l f zs' vs'`: they have been, which came to the figures f and left zs' and vs'. `failed zs vs l x zs' vs'`: the last of
-- them could not be taken, which is refused by x.
use Rattle.std.specs.Prelude.{◌≡◌, List, [], ◌∷◌, ◌++◌, ℕ, ◌^◌, ◌≤◌, ◌<◌, length, Option as Answer, Some, None, Result, Ok, Err}
use Rattle.zuniq.specs.Codec.{IsZuniqOf}
use Rattle.refusal.specs.declared.Refusal.{Refusal}
use Rattle.build.specs.Map.{Entry, Merger}
use Rattle.build.specs.Standing.{Added}
use Rattle.combine.specs.Rules.{Rule, kept_of}
use Rattle.combine.specs.Heads.{Saw, shown_as, zuniq_shown}
use Rattle.combine.specs.Cells.{as_entry, zuniq_in}
use Rattle.combine.specs.declared.cells.Dhzv.{Dhzv}

module _ {V : Type 0} where
  -- the cell that a rule keeps, if it keeps one
  abbrev pub cells_of : Answer (Dhzv V) → List (Entry V)
  cells_of (Some c) = as_entry c ∷ []
  cells_of None = []

  -- it has the zuniq that was shown
  abbrev pub Carries : Saw (Dhzv V) → Answer (Dhzv V) → Type 0
  Carries s (Some c) = zuniq_in c ≡ zuniq_shown zuniq_in s
  Carries s None = Unit {0}

  module _ {F : Type 0} where
    -- What it takes to take a cell, with its zuniq z, behind others: they have been taken, and with it and more cells still fit.
    pub record CanTake (fits : List ℕ → List V → List (Entry V) → Type 0) (took : List ℕ → List V → List (Entry V) → F → List ℕ → List V → Type 0) (f : F) (z : ℕ) (e : Entry V) (zs : List ℕ) (vs : List V) : Type 0 where
      pub zuniqs : List ℕ
      pub values : List V
      pub before : List (Entry V)
      pub after : List (Entry V)
      pub taken : took zuniqs values before f zs vs
      pub fit : fits zuniqs values (before ++ (e ∷ after))
      pub good : IsZuniqOf 29 z e.depth e.hash

    -- The same of what the rule keeps of a cell that it is shown.
    pub record CanShow (fits : List ℕ → List V → List (Entry V) → Type 0) (took : List ℕ → List V → List (Entry V) → F → List ℕ → List V → Type 0) (rule : Rule V) (f : F) (s : Saw (Dhzv V)) (zs : List ℕ) (vs : List V) : Type 0 where
      pub zuniqs : List ℕ
      pub values : List V
      pub before : List (Entry V)
      pub after : List (Entry V)
      pub taken : took zuniqs values before f zs vs
      pub fit : fits zuniqs values (before ++ (kept_of rule (shown_as as_entry s) ++ after))
      pub good : IsZuniqOf 29 (zuniq_shown zuniq_in s) (shown_as as_entry s).depth (shown_as as_entry s).hash

    module _ (took : List ℕ → List V → List (Entry V) → F → List ℕ → List V → Type 0) (failed : List ℕ → List V → List (Entry V) → Refusal → List ℕ → List V → Type 0) where
      -- the cells l have been taken, or the last of them could not be
      abbrev pub Leaves : List ℕ → List V → List (Entry V) → Result F Refusal → List ℕ → List V → Type 0
      Leaves zs vs l (Ok g) zs' vs' = took zs vs l g zs' vs'
      Leaves zs vs l (Err x) zs' vs' = failed zs vs l x zs' vs'

      -- taking the cells l behind any others
      abbrev pub Takes : F → List (Entry V) → List ℕ → List V → Result F Refusal → List ℕ → List V → Type 0
      Takes f l zs vs r zs' vs' = (zs₀ : List ℕ) (vs₀ : List V) (b : List (Entry V)) → took zs₀ vs₀ b f zs vs → Leaves zs₀ vs₀ (b ++ l) r zs' vs'

      -- All have been taken, or one of them, behind those before it, could not be.
      abbrev pub Walked : List ℕ → List V → List (Entry V) → Result F Refusal → List ℕ → List V → Type 0
      Walked zs vs all (Ok g) zs' vs' = took zs vs all g zs' vs'
      Walked zs vs all (Err x) zs' vs' = (l : List (Entry V)) × (o : List (Entry V)) × (l ++ o ≡ all) × failed zs vs l x zs' vs'

-- ---- sinks
module _ {V : Type 0} where
  -- A u64 holds the number of the cells.
  abbrev pub Countable : List ℕ → List V → List (Entry V) → Type 0
  Countable zs vs l = length l < 2 ^ 64

  -- Every cell can be taken.
  abbrev pub NeverFails : List ℕ → List V → List (Entry V) → Refusal → List ℕ → List V → Type 0
  NeverFails zs vs l x zs' vs' = ⊥

  -- The cells have been counted: that is their number, and the buffers are as they were.
  abbrev pub IsCounted : List ℕ → List V → List (Entry V) → ℕ → List ℕ → List V → Type 0
  IsCounted zs vs l n zs' vs' = (n ≡ length l) × (zs' ≡ zs) × (vs' ≡ vs)

  -- The cells have been merged into buffers that keep their lengths: n entries stand there.
  pub record Laid (accept : Merger V) (zs : List ℕ) (vs : List V) (l : List (Entry V)) (n : ℕ) (zs' : List ℕ) (vs' : List V) : Type 0 where
    pub added : Added accept 29 0 l zs vs n zs' vs'
    pub zuniqs : length zs' ≡ length zs
    pub values : length vs' ≡ length vs

  -- The buffers have a place for each of the cells.
  abbrev pub Room : List ℕ → List V → List (Entry V) → Type 0
  Room zs vs l = (length l ≤ length zs) × (length l ≤ length vs)
