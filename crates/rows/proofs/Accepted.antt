-- When rows are accepted: what the lengths then are, that nothing else is asked, and what the call did. Assumes nothing.
use mathlib.Core.Path.{◌≡◌, refl, ap, sym}
use mathlib.Core.Bool.{Bool, true, false, not, ◌||◌, cond, false≢true}
use mathlib.Core.List.{List, [], ◌∷◌, ◌++◌}
use Prim.{Unit}
use Prim.Native.Nat.{ℕ, ◌*◌, ◌/◌, ◌%◌, ◌≤◌}
use lib.Dec.{eqb, ltb}
use lib.ListN.{length, drop}
use borrow.Author.Tests.{le-ltb, ltb-false, eq-eqb, eqb-true}
use Rattle.std.specs.Prelude.{Result, Ok, Err}
use Rattle.refusal.specs.declared.Refusal.{Refusal}
use Rattle.rows.specs.Rows.{Column, row_size, rows_bytes, filled, lengths, others_differ, differ, places, rows_to_read, rows_to_write, read_as, read_rows, write_as, write_rows}

-- a refusal is no number of rows
pub refused : (r : Refusal) (n : ℕ) → ◌≡◌ {A = Result ℕ Refusal} (Err r) (Ok n) → ⊥
refused r n e = cc

-- ---- reading

-- what an accepted reading of n rows of k bytes says of the lengths
pub record Readable (k bytes : ℕ) (ls : List ℕ) (n : ℕ) : Type 0 where
  pub paired : differ ls ≡ false
  pub even : bytes % k ≡ 0
  pub space : bytes / k ≤ places ls
  pub rows : bytes / k ≡ n

-- Reading is accepted exactly if all of that holds.
pub readable : (k bytes : ℕ) (ls : List ℕ) (n : ℕ) → rows_to_read k bytes ls ≡ Ok n → Readable k bytes ls n
unfolding rows_to_read
readable k bytes ls n = go (differ ls) refl (eqb (bytes % k) 0) refl (ltb (places ls) (bytes / k)) refl
  where
    go : (a : Bool) → differ ls ≡ a → (b : Bool) → eqb (bytes % k) 0 ≡ b → (s : Bool) → ltb (places ls) (bytes / k) ≡ s
        → cond a (Err Refusal.LengthMismatch) (cond (not b) (Err Refusal.LengthMismatch) (cond s (Err Refusal.NoSpace) (Ok (bytes / k)))) ≡ Ok n
        → Readable k bytes ls n
    go true p b q s r e = absurd (refused Refusal.LengthMismatch n e)
    go false p false q s r e = absurd (refused Refusal.LengthMismatch n e)
    go false p true q true r e = absurd (refused Refusal.NoSpace n e)
    go false p true q false r e = record { paired = p; even = eqb-true _ _ q; space = ltb-false _ _ r; rows = cc }

pub reads : (k bytes : ℕ) (ls : List ℕ) (n : ℕ) → Readable k bytes ls n → rows_to_read k bytes ls ≡ Ok n
unfolding rows_to_read
reads k bytes ls n a =
    rw (a.paired, eq-eqb (bytes % k) 0 a.even, le-ltb (places ls) (bytes / k) a.space) (ap (λ (m : ℕ). Ok m) a.rows)

-- ---- writing

-- what an accepted writing says of the lengths
pub record Writable (k bytes : ℕ) (ls : List ℕ) (n : ℕ) : Type 0 where
  pub paired : differ ls ≡ false
  pub space : places ls * k ≤ bytes
  pub rows : places ls ≡ n

-- Writing is accepted exactly if all of that holds.
pub writable : (k bytes : ℕ) (ls : List ℕ) (n : ℕ) → rows_to_write k bytes ls ≡ Ok n → Writable k bytes ls n
unfolding rows_to_write
writable k bytes ls n = go (differ ls) refl (ltb bytes (places ls * k)) refl
  where
    go : (a : Bool) → differ ls ≡ a → (s : Bool) → ltb bytes (places ls * k) ≡ s
        → cond a (Err Refusal.LengthMismatch) (cond s (Err Refusal.NoSpace) (Ok (places ls))) ≡ Ok n
        → Writable k bytes ls n
    go true p s r e = absurd (refused Refusal.LengthMismatch n e)
    go false p true r e = absurd (refused Refusal.NoSpace n e)
    go false p false r e = record { paired = p; space = ltb-false _ _ r; rows = cc }

pub writes : (k bytes : ℕ) (ls : List ℕ) (n : ℕ) → Writable k bytes ls n → rows_to_write k bytes ls ≡ Ok n
unfolding rows_to_write
writes k bytes ls n a = rw (a.paired, le-ltb bytes (places ls * k) a.space) (ap (λ (m : ℕ). Ok m) a.rows)

-- ---- lengths that do not differ

-- every length is n
unfoldable pub AllAre : ℕ → List ℕ → Type 0
AllAre n [] = Unit {0}
AllAre n (m ∷ ms) = (n ≡ m) × AllAre n ms

others_same : (n : ℕ) (ms : List ℕ) → others_differ n ms ≡ false → AllAre n ms
unfolding others_differ AllAre
others_same n [] e = tt
others_same n (m ∷ ms) e = go (eqb n m) refl e (others_same n ms)
  where
    go : (b : Bool) → eqb n m ≡ b → (not b || others_differ n ms) ≡ false → (others_differ n ms ≡ false → AllAre n ms) → (n ≡ m) × AllAre n ms
    go true q d rest = (eqb-true n m q, rest d)
    go false q d rest = absurd (false≢true (sym d))

same_others : (n : ℕ) (ms : List ℕ) → AllAre n ms → others_differ n ms ≡ false
unfolding others_differ AllAre
same_others n [] a = refl
same_others n (m ∷ ms) a = rw (eq-eqb n m a.0) (same_others n ms a.1)

-- Buffers that do not differ in length are all as long as the first, and the other way round.
pub same_lengths : (n : ℕ) (ls : List ℕ) → differ ls ≡ false → places ls ≡ n → AllAre n ls
unfolding differ places AllAre
same_lengths n [] e q = tt
same_lengths n (m ∷ ms) e q = (sym q, others_same n ms (rw q at e))

pub lengths_same : (n : ℕ) (ls : List ℕ) → AllAre n ls → differ ls ≡ false
unfolding differ AllAre
lengths_same n [] a = refl
lengths_same n (m ∷ ms) a = rw (← a.0) (same_others n ms a.1)

-- ---- what an accepted call did

-- An accepted writing puts the rows in front of the buffer.
pub written : (t : List Column) (buffer out : List ℕ) (n : ℕ) → write_rows t buffer ≡ (Ok n, out)
    → (rows_to_write (row_size t) (length buffer) (lengths t) ≡ Ok n) × (out ≡ rows_bytes t n ++ drop (n * row_size t) buffer)
unfolding write_as write_rows
written t buffer out n = go (rows_to_write (row_size t) (length buffer) (lengths t))
  where
    go : (a : Result ℕ Refusal) → write_as a t buffer ≡ (Ok n, out) → (a ≡ Ok n) × (out ≡ rows_bytes t n ++ drop (n * row_size t) buffer)
    go (Ok m) e =
        let a : Ok m ≡ Ok n = ap (λ (p : Result ℕ Refusal × List ℕ). p.0) e in
        let q : m ≡ n = cc in
        (a, rw q at (sym (ap (λ (p : Result ℕ Refusal × List ℕ). p.1) e)))
    go (Err r) e = absurd (refused r n (ap (λ (p : Result ℕ Refusal × List ℕ). p.0) e))

-- An accepted reading fills the columns.
pub was_read : (t s : List Column) (bytes : List ℕ) (n : ℕ) → read_rows t bytes ≡ (Ok n, s)
    → (rows_to_read (row_size t) (length bytes) (lengths t) ≡ Ok n) × (s ≡ filled (row_size t) 0 bytes n t)
unfolding read_as read_rows
was_read t s bytes n = go (rows_to_read (row_size t) (length bytes) (lengths t))
  where
    go : (a : Result ℕ Refusal) → read_as a t bytes ≡ (Ok n, s) → (a ≡ Ok n) × (s ≡ filled (row_size t) 0 bytes n t)
    go (Ok m) e =
        let a : Ok m ≡ Ok n = ap (λ (p : Result ℕ Refusal × List Column). p.0) e in
        let q : m ≡ n = cc in
        (a, rw q at (sym (ap (λ (p : Result ℕ Refusal × List Column). p.1) e)))
    go (Err r) e = absurd (refused r n (ap (λ (p : Result ℕ Refusal × List Column). p.0) e))
