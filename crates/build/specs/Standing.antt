-- What the inner functions of adding promise: a map in the first places of two buffers, while cells are appended to it.
use Rattle.std.specs.Prelude.{◌≡◌, Bool, ◌&&◌, List, [], ◌∷◌, ℕ, ◌+◌, ◌/◌, ◌%◌, ◌-◌, ◌≤◌, ◌<◌, eqb, leb, length, get_or, drop}
use Rattle.zuniq.specs.Cells.{n_hash, child_hash}
use Rattle.zuniq.specs.Codec.{zuniq, IsZuniqOf}
use Rattle.build.specs.Map.{Entry, entry, Merger}
use Rattle.build.specs.Stack.{collapse, run}
use Rattle.build.specs.Buffers.{held}

-- The first n places of two buffers hold a map's zuniqs and values.
pub record Stands {A : Type 0} (K n : ℕ) (zs : List ℕ) (vs : List A) : Type 0 where
  pub zuniqs : n ≤ length zs
  pub values : n ≤ length vs
  pub valid : (i : ℕ) → i < n → (d : ℕ) × (h : ℕ) × IsZuniqOf K (get_or zs i 0) d h

-- The last four of the first n places hold the zuniqs of children 0 to 3 of one parent, the last one that of (d, h).
unfoldable pub quad_at : ℕ → ℕ → List ℕ → ℕ → ℕ → Bool
quad_at K n zs d h =
    eqb (h % 4) 3
    && (leb 4 n
    && (eqb (get_or zs (n - 2) 0) (zuniq K d (child_hash (h / 4) 2))
    && (eqb (get_or zs (n - 3) 0) (zuniq K d (child_hash (h / 4) 1))
    && eqb (get_or zs (n - 4) 0) (zuniq K d (child_hash (h / 4) 0)))))

-- Hashes of depth D that rise.
pub record Rising (D : ℕ) (hs : List ℕ) : Type 0 where
  pub below : (i : ℕ) → i < length hs → get_or hs i 0 < n_hash D
  pub above : (i : ℕ) → i + 1 < length hs → get_or hs i 0 < get_or hs (i + 1) 0

-- The hashes from place i on are those of children 0 to 3 of one parent: where they rise, the first and the fourth tell.
unfoldable pub siblings_from : List ℕ → ℕ → Bool
siblings_from hs i = leb 4 (length hs - i) && eqb (get_or hs (i + 3) 0) (child_hash (get_or hs i 0 / 4) 3)

-- Four siblings with their values, (d, h) being the first: as cells to be added.
abbrev pub siblings : {A : Type 0} → ℕ → ℕ → A → A → A → A → List (Entry A)
siblings d h a b c e = entry d h a ∷ entry d (h + 1) b ∷ entry d (h + 2) c ∷ entry d (h + 3) e ∷ []

-- From place n on both buffers are as they were.
pub record Behind {A : Type 0} (n : ℕ) (zs : List ℕ) (vs : List A) (zs' : List ℕ) (vs' : List A) : Type 0 where
  pub zuniqs : drop n zs' ≡ drop n zs
  pub values : drop n vs' ≡ drop n vs

-- What collapsing the map in the first n places leaves: r entries, which are that map collapsed. The places from r to n are free, and
-- those behind them stay.
pub record Collapsed {A : Type 0} (accept : Merger A) (K n : ℕ) (zs : List ℕ) (vs : List A) (r : ℕ) (zs' : List ℕ) (vs' : List A) : Type 0 where
  pub stands : Stands K r zs' vs'
  pub least : r ≤ n
  pub is : held K r zs' vs' ≡ collapse accept (held K n zs vs)
  pub behind : Behind n zs vs zs' vs'

-- What appending an entry behind n others leaves: the map with that entry on top, collapsed, in r places. Those from r to n + 1 are
-- free, and those behind them stay.
pub record Pushed {A : Type 0} (accept : Merger A) (K n : ℕ) (e : Entry A) (zs : List ℕ) (vs : List A) (r : ℕ) (zs' : List ℕ) (vs' : List A) : Type 0 where
  pub stands : Stands K r zs' vs'
  pub least : r ≤ n + 1
  pub is : held K r zs' vs' ≡ collapse accept (e ∷ held K n zs vs)
  pub behind : Behind (n + 1) zs vs zs' vs'

-- What adding a batch of cells to n entries leaves.
pub record Added {A : Type 0} (accept : Merger A) (K n : ℕ) (l : List (Entry A)) (zs : List ℕ) (vs : List A) (r : ℕ) (zs' : List ℕ) (vs' : List A) : Type 0 where
  pub stands : Stands K r zs' vs'
  pub least : r ≤ n + length l
  pub is : held K r zs' vs' ≡ run accept (held K n zs vs) l
