-- Demand 3 of the scope: what a list of add calls does to two buffers, and what it should do by the arguments of the calls alone.
-- Over any type of values, any merger, any refusals, and any answer that tells something of the map.
use Rattle.std.specs.Prelude.{List, [], ◌∷◌, ◌++◌, reverse, ℕ, length, take}
use Rattle.std.proofs.Math.Option.{Option, none, some}
use Rattle.build.specs.Map.{Entry, Merger, defined_map}
use Rattle.build.specs.Stack.{run}
use Rattle.build.specs.Buffers.{batch, laid, zuniq_of, value_of, zuniq_buffer, value_buffer, held}

-- "the held number m, two buffers": what goes from call to call
pub record Buffers (A : Type 0) : Type 0 where
  pub number : ℕ
  pub zuniqs : List ℕ
  pub values : List A

-- "and a batch"
pub record Batch (A : Type 0) : Type 0 where
  pub hashes : List ℕ
  pub values : List A

-- "It answers the new number of entries and, for counts, their total", or a refusal
pub data Answer (R X : Type 0) : Type 0 where
  refused : R → Answer R X
  accepted : X → Answer R X

-- "a list of count add calls with one D, M and T": what the calls of a list have in common
pub record Calls (A R X : Type 0) : Type 0 where
  -- the largest depth of the zuniq type, D, and the value that clears a place
  pub largest : ℕ
  pub D : ℕ
  pub filler : A
  pub accept : Merger A
  -- the refusal of a batch, if there is one, by the held number, the places of the two buffers, and the held zuniqs and values
  pub refusal : ℕ → ℕ → ℕ → List ℕ → List A → Batch A → Option R
  -- what an accepted call answers of the map, last entry first
  pub report : List (Entry A) → X

module _ {A R X : Type 0} (g : Calls A R X) where
  abbrev pub cells : Batch A → List (Entry A)
  cells c = batch g.D c.hashes c.values

  -- the buffers with a map in them
  abbrev pub holding : Buffers A → List (Entry A) → Buffers A
  holding b s = record { number = length s; zuniqs = zuniq_buffer g.largest (length b.zuniqs) s; values = value_buffer g.filler (length b.values) s }

  -- ---- the calls
  abbrev pub answered : Option R → Buffers A → List (Entry A) → Buffers A × Answer R X
  answered (some r) b s = (b, refused r)
  answered none b s = (holding b s, accepted (g.report s))

  -- "An add call"
  unfoldable pub add_call : Buffers A → Batch A → Buffers A × Answer R X
  add_call b c =
      answered (g.refusal b.number (length b.zuniqs) (length b.values) (take b.number b.zuniqs) (take b.number b.values) c) b
      (run g.accept (held g.largest b.number b.zuniqs b.values) (cells c))

  -- "Each later one gets the buffers as the last call left them and m as the last accepted call answered it"
  unfoldable pub add_calls : Buffers A → List (Batch A) → Buffers A × List (Answer R X)
  add_calls b [] = (b, [])
  add_calls b (c ∷ cs) = let r = add_call b c in let t = add_calls r.0 cs in (t.0, r.1 ∷ t.1)

  -- ---- what they should do
  -- "The joined batches start empty": none before a call is accepted
  abbrev pub joined_cells : Option (List (Entry A)) → List (Entry A)
  joined_cells none = []
  joined_cells (some l) = l

  -- "the defined map of the joined batches", last entry first
  abbrev pub joined_map : Option (List (Entry A)) → List (Entry A)
  joined_map j = reverse (defined_map g.accept g.D (joined_cells j))

  -- "A call is refused exactly when, and as, the refusals below say with the defined map of the joined batches as held map"
  unfoldable pub judge : ℕ → ℕ → Option (List (Entry A)) → Batch A → Option R
  judge zs vs j c = g.refusal (length (joined_map j)) zs vs (laid (zuniq_of g.largest) (joined_map j)) (laid value_of (joined_map j)) c

  -- "the joined batches then stay. Otherwise its cells and counts are put at their end."
  abbrev pub join_by : Option R → Option (List (Entry A)) → Batch A → Option (List (Entry A)) × Answer R X
  join_by (some r) j c = (j, refused r)
  join_by none j c = let k = some (joined_cells j ++ cells c) in (k, accepted (g.report (joined_map k)))

  unfoldable pub join_calls : ℕ → ℕ → Option (List (Entry A)) → List (Batch A) → Option (List (Entry A)) × List (Answer R X)
  join_calls zs vs j [] = (j, [])
  join_calls zs vs j (c ∷ cs) = let r = join_by (judge zs vs j c) j c in let t = join_calls zs vs r.0 cs in (t.0, r.1 ∷ t.1)

  -- "The first gets m = 0 and buffers with any content"; "After the list m is the number of entries, and the buffers hold the
  -- defined map with 0 in every place after it or, with no call accepted, their first content"
  abbrev pub left : Buffers A → Option (List (Entry A)) → Buffers A
  left b none = record { number = 0; zuniqs = b.zuniqs; values = b.values }
  left b (some l) = holding b (joined_map (some l))
