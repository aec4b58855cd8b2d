-- Section 4 of the scope: the batch, and a map in two buffers, one of zuniqs and one of values. K is the largest depth of
-- the zuniq type, and `filler` the value that clears a place. The entries of a map stand with the last one first.
use Rattle.std.specs.Prelude.{List, [], ◌∷◌, ◌++◌, map, reverse, ℕ, ◌-◌, length, take, replicate}
use Rattle.zuniq.specs.Codec.{zuniq, decode}
use Rattle.zuniq.specs.declared.Decoded.{Decoded}
use Rattle.build.specs.Map.{Entry, entry}

module _ {A : Type 0} where
  -- "a batch": cells of depth D with their values
  unfoldable pub batch : ℕ → List ℕ → List A → List (Entry A)
  batch D [] vs = []
  batch D (h ∷ hs) [] = []
  batch D (h ∷ hs) (v ∷ vs) = entry D h v ∷ batch D hs vs

  -- a map as it stands in a buffer that holds `part` of each entry: the first entry first
  unfoldable pub laid : {B : Type 0} → (Entry A → B) → List (Entry A) → List B
  laid part s = map part (reverse s)

  -- "every place after the entries is 0": the whole of the buffer, of `places` places
  unfoldable pub filled : {B : Type 0} → (Entry A → B) → B → ℕ → List (Entry A) → List B
  filled part filler places s = laid part s ++ replicate (places - length s) filler

  -- the two buffers
  abbrev pub zuniq_of : ℕ → Entry A → ℕ
  zuniq_of K e = zuniq K e.depth e.hash

  abbrev pub value_of : Entry A → A
  value_of e = e.value

  abbrev pub zuniq_buffer : ℕ → ℕ → List (Entry A) → List ℕ
  zuniq_buffer K places s = filled (zuniq_of K) 0 places s

  abbrev pub value_buffer : A → ℕ → List (Entry A) → List A
  value_buffer filler places s = filled value_of filler places s

  -- the entry that a zuniq and a value give, on top of s; what is no zuniq gives none
  abbrev pub with_cell : Decoded → A → List (Entry A) → List (Entry A)
  with_cell (Decoded.Cell c) v s = entry c.depth c.hash v ∷ s
  with_cell Decoded.Nothing v s = s

  -- those of two buffers, one after the other
  unfoldable pub read_onto : ℕ → List (Entry A) → List ℕ → List A → List (Entry A)
  read_onto K s [] vs = s
  read_onto K s (z ∷ zs) [] = s
  read_onto K s (z ∷ zs) (v ∷ vs) = read_onto K (with_cell (decode K z) v s) zs vs

  -- "the held number m, two buffers": the held map
  unfoldable pub held : ℕ → ℕ → List ℕ → List A → List (Entry A)
  held K m zs vs = read_onto K [] (take m zs) (take m vs)
