-- The laws of what is printed: how lines are put together, and how long they are. Assumes nothing.
use mathlib.Core.Path.{◌≡◌, refl, ap, sym, ◌∙◌}
use mathlib.Core.Bool.{Bool, true, false}
use mathlib.Core.List.{List, [], ◌∷◌, ◌++◌, append_assoc, append-nil}
use Prim.Native.Nat.{ℕ, ◌+◌, ◌*◌, ◌≤◌, ◌<◌, min}
use native.Mathlib.Omega.{arith}
use native.Mathlib.Numerals.{add-one}
use lib.Dec.{leb}
use lib.ListN.{length, take, drop, get_or, length-append, length-drop, drop_of_length-le}
use lib.Seq.{drop-cons, take_all}
use borrow.Author.Tests.{leb-true, leb-false}
use Rattle.zuniq.specs.Codec.{decode}
use Rattle.zuniq.specs.declared.Decoded.{Decoded}
use Rattle.text.specs.Text.{lf, comma, decimal, Appends}
use Rattle.text.specs.declared.Output.{Output}
use Rattle.map_text.specs.Lines.{pair_text, entry_text, zuniq_text, entries_text}
use Rattle.text.proofs.Numbers.{length-decimal}
use Rattle.text.proofs.Writing.{written_on}

-- ---- lines
pub pair_joined : (m n : ℕ) → ((decimal m ++ (comma ∷ [])) ++ decimal n) ++ (lf ∷ []) ≡ pair_text m n
unfolding pair_text
pair_joined m n = simp append_assoc

pub entry_joined : (d h n : ℕ) → (decimal d ++ (comma ∷ [])) ++ pair_text h n ≡ entry_text d h n
unfolding entry_text
entry_joined d h n = append_assoc (decimal d) (comma ∷ []) (pair_text h n)

pub length-pair : (m n : ℕ) → length (pair_text m n) ≤ 42
unfolding pair_text
length-pair m n =
    omega (arith, length-append (decimal m) (comma ∷ (decimal n ++ (lf ∷ []))), length-append (decimal n) (lf ∷ []), length-decimal m, length-decimal n)

pub length-entry : (d h n : ℕ) → length (entry_text d h n) ≤ 63
unfolding entry_text
length-entry d h n = omega (arith, length-append (decimal d) (comma ∷ pair_text h n), length-decimal d, length-pair h n)

pub length-zuniq : (x : Decoded) (n : ℕ) → length (zuniq_text x n) ≤ 63
length-zuniq (Decoded.Cell c) n = length-entry c.depth c.hash n
length-zuniq Decoded.Nothing n = omega arith

pub length-entries : (zs ns : List ℕ) → length (entries_text zs ns) ≤ 63 * length zs
unfolding entries_text
length-entries [] ns = omega arith
length-entries (z ∷ zs) [] = omega arith
length-entries (z ∷ zs) (n ∷ ns) =
    omega (arith, length-append (zuniq_text (decode 29 z) n) (entries_text zs ns), length-zuniq (decode 29 z) n, length-entries zs ns)

-- ---- the entries of a map, one after the other
-- More entries than there are places are those of all places.
pub take-least : (l : List ℕ) (n : ℕ) {k : ℕ} → k ≡ min n (length l) → take k l ≡ take n l
take-least l n {k} e = by (leb n (length l)) refl
  where
    by : (t : Bool) → leb n (length l) ≡ t → take k l ≡ take n l
    by true p = let few = leb-true n (length l) p in let same : k ≡ n = omega arith in rw same refl
    by false p = let many = leb-false n (length l) p in take_all k l (omega arith) ∙ sym (take_all n l (omega arith))

pub entries_next : (zs ns : List ℕ) (i : ℕ) → i < length zs → i < length ns
    → entries_text (drop i zs) (drop i ns) ≡ zuniq_text (decode 29 (get_or zs i 0)) (get_or ns i 0) ++ entries_text (drop (i + 1) zs) (drop (i + 1) ns)
unfolding entries_text
entries_next zs ns i p q = rw (drop-cons zs i 0 p, drop-cons ns i 0 q, add-one i) refl

no_entries : (zs ns : List ℕ) → length ns ≡ 0 → entries_text zs ns ≡ []
unfolding entries_text
no_entries [] ns p = refl
no_entries (z ∷ zs) [] p = refl
no_entries (z ∷ zs) (n ∷ ns) p = absurd (omega arith)

pub entries_end : (zs ns : List ℕ) (i : ℕ) → i ≡ min (length zs) (length ns) → entries_text (drop i zs) (drop i ns) ≡ []
unfolding entries_text
entries_end zs ns i p = by (leb (length zs) (length ns)) refl
  where
    by : (t : Bool) → leb (length zs) (length ns) ≡ t → entries_text (drop i zs) (drop i ns) ≡ []
    by true e = let few = leb-true (length zs) (length ns) e in let none : length zs ≤ i = omega arith in rw (drop_of_length-le zs none) refl
    by false e = let few = leb-false (length zs) (length ns) e in no_entries (drop i zs) (drop i ns) (omega (arith, length-drop i ns))

-- The first i entries are written, in at most 63 bytes each.
pub record Printed (zs ns : List ℕ) (before after : Output) (i : ℕ) : Type 0 where
  pub same_buffer : after.buffer.ghost_name ≡ before.buffer.ghost_name
  pub text : List ℕ
  pub written : Appends before text after
  pub few : after.end ≤ before.end + 63 * i
  pub goal : text ++ entries_text (drop i zs) (drop i ns) ≡ entries_text zs ns

module _ {zs ns : List ℕ} {before after : Output} {i : ℕ} (w : Printed zs ns before after i) where
  pub Printed-next : {next : Output} → i < length zs → i < length ns → next.buffer.ghost_name ≡ after.buffer.ghost_name
      → Appends after (zuniq_text (decode 29 (get_or zs i 0)) (get_or ns i 0)) next → Printed zs ns before next (i + 1)
  Printed-next p q s v =
      let line = zuniq_text (decode 29 (get_or zs i 0)) (get_or ns i 0) in
      record {
        same_buffer = s ∙ w.same_buffer;
        text = w.text ++ line;
        written = written_on w.written v;
        few = omega (arith, w.few, v.end_is, length-zuniq (decode 29 (get_or zs i 0)) (get_or ns i 0));
        goal = append_assoc w.text line (entries_text (drop (i + 1) zs) (drop (i + 1) ns)) ∙ ap (λ t. w.text ++ t) (sym (entries_next zs ns i p q)) ∙ w.goal;
      }

  pub printed_end : i ≡ min (length zs) (length ns) → Appends before (entries_text zs ns) after
  printed_end p =
      let whole : w.text ≡ entries_text zs ns = sym (append-nil w.text) ∙ ap (λ t. w.text ++ t) (sym (entries_end zs ns i p)) ∙ w.goal in
      rw (← whole) w.written
