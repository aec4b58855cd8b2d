-- The laws of reading: what is read of a text, line by line, and what is printed then. Assumes nothing.
use mathlib.Core.Path.{◌≡◌, refl, ap, sym, ◌∙◌}
use mathlib.Core.Bool.{false}
use mathlib.Core.List.{List}
use Prim.Native.Nat.{ℕ}
use native.Mathlib.Omega.{arith}
use lib.IntN.{pos}
use lib.Ieee as Ieee
use lib.Ieee.{Float, fin}
use lib.ListN.{length, take, drop, length-append}
use lib.Seq.{take_at}
use borrow.Author.Tests.{lt-ltb, le-ltb}
use Rattle.std.specs.Prelude.{Option, Some, None, Result, Ok, Err}
use Rattle.merger.specs.Floats.{◌⊘◌, float}
use Rattle.text.specs.Text.{lf, position, SplitAtFirst}
use Rattle.mombuild.specs.Mombuild.{reading, thousandths, map_text, mombuild}
use Rattle.mombuild.specs.Steps.{TextIs}
use Rattle.mombuild.specs.declared.ReadableText.{ReadableText}
use Rattle.map_text.specs.Lines.{settings_line, first_settings, cells, refused_text}
use Rattle.map_text.specs.Steps.{cell_lines, CellsAre}
use Rattle.map_text.specs.declared.read.Settings.{Settings}
use Rattle.map_text.specs.declared.read.UnreadableLine.{UnreadableLine}

-- T is divided by the f64 that is 1000.
pub thousandths-is : (T : ℕ) → float T ⊘ fin false 125 (pos 3) ≡ thousandths T
unfolding thousandths Ieee.of_int
thousandths-is T = refl

-- ---- line 1
first_is : {l line rest : List ℕ} → SplitAtFirst lf l line rest → first_settings l ≡ settings_line line
unfolding first_settings
first_is {l} cut = rw (lt-ltb (position lf l) (length l) cut.there, cut.before_is) refl

module _ (l : List ℕ) {hs ns : List ℕ} where
  pub unended : position lf l ≡ length l → TextIs l (Err (record { line = 1 })) hs ns
  unfolding reading first_settings
  unended p = record { reads = rw (le-ltb (position lf l) (length l) (omega arith)) refl; hashes_fit = omega arith; counts_fit = omega arith; few = omega arith }

  pub no_settings : {line rest : List ℕ} → SplitAtFirst lf l line rest → settings_line line ≡ None → TextIs l (Err (record { line = 1 })) hs ns
  unfolding reading
  no_settings cut s = record { reads = rw (first_is cut, s) refl; hashes_fit = omega arith; counts_fit = omega arith; few = omega arith }

-- ---- the lines behind it
is_unreadable : (n : ℕ) (u : Option ℕ) (e : UnreadableLine) → Err e ≡ cell_lines n u → u ≡ Some e.line
is_unreadable n None e q = let z : ◌≡◌ {A = ℕ} 0 1 = cc in absurd (omega arith)
is_unreadable n (Some x) e q = let same : e ≡ record { line = x } = cc in rw same refl

is_readable : (m : ℕ) (u : Option ℕ) (n : ℕ) → Ok n ≡ cell_lines m u → (u ≡ None) × (n ≡ m)
is_readable m None n e = (refl, cc)
is_readable m (Some x) n e = let z : ◌≡◌ {A = ℕ} 0 1 = cc in absurd (omega arith)

module _ (l : List ℕ) {line rest : List ℕ} (cut : SplitAtFirst lf l line rest) {s : Settings} (settings : settings_line line ≡ Some s)
    {r : Result ℕ UnreadableLine} {hs ns hs' ns' : List ℕ} (w : CellsAre (cells 2048 2 rest) r hs ns hs' ns') where
  pub no_cell : {e : UnreadableLine} → r ≡ Err e → TextIs l (Err e) hs' ns'
  unfolding reading
  no_cell {e} q =
      let stops = is_unreadable _ (cells 2048 2 rest).unreadable e (sym q ∙ w.answer) in
      record { reads = rw (first_is cut, settings, ← cut.behind_is, stops) refl; hashes_fit = omega arith; counts_fit = omega arith; few = omega arith }

  -- The cells stand in the first n places of the buffers.
  pub all_cells : {n : ℕ} → r ≡ Ok n → TextIs l (Ok (record { settings = s; cells = n })) hs' ns'
  unfolding reading
  all_cells {n} q =
      let c = cells 2048 2 rest in
      let m = is_readable _ c.unreadable n (sym q ∙ w.answer) in
      let front = ap (take n) w.hashes_are ∙ take_at c.hashes (drop (length c.hashes) hs) n (sym m.1) in
      let back = ap (take n) w.counts_are ∙ take_at c.counts (drop (length c.counts) ns) n (sym (m.1 ∙ w.paired)) in
      record {
        reads = rw (first_is cut, settings, ← cut.behind_is, m.0, front, back) refl;
        hashes_fit = omega (arith, m.1, ap length w.hashes_are, length-append c.hashes (drop (length c.hashes) hs));
        counts_fit = omega (arith, m.1, w.paired, ap length w.counts_are, length-append c.counts (drop (length c.counts) ns));
        few = omega (arith, m.1, w.fit);
      }

-- ---- what is printed
module _ {l hs ns : List ℕ} where
  pub prints_refusal : {e : UnreadableLine} → TextIs l (Err e) hs ns → refused_text 0 e.line ≡ mombuild l
  unfolding mombuild
  prints_refusal w = rw w.reads refl

  pub prints_map : {t : ReadableText} → TextIs l (Ok t) hs ns
      → map_text t.settings.depth t.settings.depth_threshold (thousandths t.settings.thousandths) (take t.cells hs) (take t.cells ns) ≡ mombuild l
  unfolding mombuild
  prints_map w = rw w.reads refl
