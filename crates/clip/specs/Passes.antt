-- Note 6 of document 02: what the inner functions of clipping promise. A walk counts the cells, or writes them to two buffers.
use Rattle.std.specs.Prelude.{◌≡◌, List, [], ◌∷◌, ◌++◌, map, ℕ, zero, suc, ◌+◌, ◌/◌, ◌%◌, ◌-◌, ◌^◌, ◌≤◌, ◌<◌, Float, length, take, set}
use Rattle.zuniq.specs.Cells.{start, end}
use Rattle.build.specs.Map.{Entry}
use Rattle.build.specs.Buffers.{zuniq_of, value_of}
use Rattle.build.specs.Promises.{end_of}

-- ---- the largest cells
-- of the cells of depth up to K that start at a and end at b or before, (d, h) is the largest
pub record LargestAt (K a b d h : ℕ) : Type 0 where
  pub deep : d ≤ K
  pub starts : start K d h ≡ a
  pub ends : end K d h ≤ b
  pub greatest : (e g : ℕ) → e ≤ K → start K e g ≡ a → end K e g ≤ b → d ≤ e

-- it has so many depth-K cells
abbrev pub LargestWidth : ℕ → ℕ → ℕ → ℕ → Type 0
LargestWidth K a b width = (d : ℕ) × (h : ℕ) × LargestAt K a b d h × (width ≡ 4 ^ (K - d))

-- cut from the left into the largest cells that fit: of the piece from a to b the first cells, those up to p; v is their value
abbrev pub Cut : {A : Type 0} → ℕ → ℕ → ℕ → A → ℕ → List (Entry A) → Type 0
Cut K a b v p [] = p ≡ a
Cut K a b v p (e ∷ l) = LargestAt K a b e.depth e.hash × (e.value ≡ v) × Cut K (end_of K e) b v p l

-- the whole piece from a to b, cut so, is n cells of the value v
abbrev pub CutInto : {A : Type 0} → ℕ → ℕ → ℕ → A → ℕ → Type 0
CutInto {A} K a b v n = (p : ℕ) × (l : List (Entry A)) × Cut K a b v p l × (b ≤ p) × (n ≡ length l)

-- it is n cells whatever their value: "space is judged by it", the number of cells
abbrev pub IsCutInto : ℕ → ℕ → ℕ → ℕ → Type 0
IsCutInto K a b n = (v : Float) → CutInto K a b v n

-- the sum of the w lowest digits of n in base 4
unfoldable pub digit_sum : ℕ → ℕ → ℕ
digit_sum zero n = zero
digit_sum (suc w) n = n % 4 + digit_sum w (n / 4)

-- ---- counting and writing
-- what is done with the cells that a walk comes to
pub data Aim : Type 0 where
  Count : Aim
  Write : Aim

-- Behind n others the cells l are counted, which leaves the buffers as they are, or written.
abbrev pub Taken : Aim → ℕ → List (Entry Float) → List ℕ → List Float → List ℕ → List Float → Type 0
Taken Aim.Count n l zs vs zs' vs' = (zs' ≡ zs) × (vs' ≡ vs)
Taken Aim.Write n l zs vs zs' vs' = (take (n + length l) zs' ≡ take n zs ++ map (zuniq_of 29) l) × (take (n + length l) vs' ≡ take n vs ++ map value_of l)

-- the number of them is no more than a usize holds, or than the buffers have places
abbrev pub Room : Aim → ℕ → List (Entry Float) → List ℕ → List Float → Type 0
Room Aim.Count n l zs vs = n + length l < 2 ^ 64
Room Aim.Write n l zs vs = (n + length l ≤ length zs) × (n + length l ≤ length vs)

-- what it takes to cut the piece from a to b behind n others: room for its cells, as far as it is cut
abbrev pub CanCut : Aim → ℕ → ℕ → ℕ → Float → List ℕ → List Float → Type 0
CanCut aim n a b v zs vs = (p : ℕ) (l : List (Entry Float)) → Cut 29 a b v p l → Room aim n l zs vs

-- and what that leaves: it is cut up to its end, and r is the new number
pub record IsCut (aim : Aim) (n a b : ℕ) (v : Float) (zs : List ℕ) (vs : List Float) (r : ℕ) (zs' : List ℕ) (vs' : List Float) : Type 0 where
  pub cells : List (Entry Float)
  pub place : ℕ
  pub cut : Cut 29 a b v place cells
  pub done : b ≤ place
  pub number : r ≡ n + length cells
  pub taken : Taken aim n cells zs vs zs' vs'

-- what it takes to keep one more cell behind n others
abbrev pub CanKeep : Aim → ℕ → List ℕ → List Float → Type 0
CanKeep Aim.Count n zs vs = n + 1 < 2 ^ 64
CanKeep Aim.Write n zs vs = (n < length zs) × (n < length vs)

-- and what that leaves
abbrev pub Kept : Aim → ℕ → ℕ → Float → List ℕ → List Float → List ℕ → List Float → Type 0
Kept Aim.Count n z v zs vs zs' vs' = (zs' ≡ zs) × (vs' ≡ vs)
Kept Aim.Write n z v zs vs zs' vs' = (zs' ≡ set zs n z) × (vs' ≡ set vs n v)
