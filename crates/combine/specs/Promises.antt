-- Section 5 of the scope: what is promised of the overlay, in the paper's words.
use Rattle.std.specs.Prelude.{◌≡◌, true, false, ◌&&◌, List, ◌⊎◌, ℕ, ◌+◌, ◌≤◌, ◌<◌}
use Rattle.std.proofs.Math.Option.{some}
use Rattle.zuniq.specs.Cells.{n_hash, lies_in}
use Rattle.build.specs.Map.{Entry}
use Rattle.build.specs.Promises.{Covers}
use Rattle.combine.specs.Overlay.{Seen, left, right, both, Split, fits, seen_at}

-- "lie in an entry of at least one map and, for each map, lie in one of its entries or overlap none"
abbrev pub Qualifies : {A : Type 0} → List (Entry A) → List (Entry A) → ℕ → ℕ → Type 0
Qualifies l r d h = (Covers l d h ⊎ Covers r d h) × (fits l d h ≡ true) × (fits r d h ≡ true)

-- e is one of "the largest cells" that do, and has the values of the entries that it lies in
pub record OverlayCell {A : Type 0} (split : Split A) (K : ℕ) (l r : List (Entry A)) (e : Entry (Seen A)) : Type 0 where
  pub deep : e.depth ≤ K
  pub sky : e.hash < n_hash e.depth
  pub qualifies : Qualifies l r e.depth e.hash
  pub sees : seen_at split l r e.depth e.hash ≡ some e.value
  pub largest : (a b : ℕ) → a < e.depth → lies_in e.depth e.hash a b ≡ true → Qualifies l r a b → ⊥

-- the cell (d, h), an entry of one map or a part of one, is split: it does not fit the other map
abbrev pub IsSplit : {A : Type 0} → List (Entry A) → List (Entry A) → ℕ → ℕ → Type 0
IsSplit l r d h = (Covers l d h ⊎ Covers r d h) × ((fits l d h && fits r d h) ≡ false)

-- a figure of what the rule sees: that of both sides together
abbrev pub amount : {A : Type 0} → (A → ℕ) → Seen A → ℕ
amount figure (left x) = figure x
amount figure (right y) = figure y
amount figure (both x y) = figure x + figure y

-- a splitting that shares a figure out among the children, and leaves nothing over
abbrev pub Shares : {A : Type 0} → Split A → (A → ℕ) → Type 0
Shares {A} split figure = (d h : ℕ) (v : A) → figure (split d h v 0) + figure (split d h v 1) + figure (split d h v 2) + figure (split d h v 3) ≡ figure v
