-- The laws of writing a text into a buffer. Assumes nothing.
use mathlib.Core.Path.{◌≡◌, refl, ap, sym, ◌∙◌}
use mathlib.Core.List.{List, ◌++◌, append_assoc}
use Prim.Native.Nat.{ℕ, ◌+◌, ◌-◌, ◌≤◌, ◌<◌}
use native.Mathlib.Omega.{arith}
use lib.ListN.{length, take, drop, length-append}
use lib.Seq.{paste, length-paste, take-paste, drop-paste, take-length, drop-drop}
use borrow.Rule.Slice.PartMut.{put_mid}
use borrow.Author.Tests.{le-leb, lt-leb}
use Rattle.text.specs.Text.{put_at, Written}

-- A text that fits.
pub put_fits : (d : List ℕ) (at : ℕ) (t : List ℕ) → at + length t ≤ length d → ((take at d ++ t) ++ drop (at + length t) d, at + length t) ≡ put_at d at t
unfolding put_at
put_fits d at t p = rw (le-leb (at + length t) (length d) p) refl

-- One that doesn't.
pub put_beyond : (d : List ℕ) (at : ℕ) (t : List ℕ) → length d < at + length t → (d, at) ≡ put_at d at t
unfolding put_at
put_beyond d at t p = rw (lt-leb (at + length t) (length d) p) refl

-- Its bytes copied to the places between.
pub put_between : (d : List ℕ) (at : ℕ) (t : List ℕ) {e : List ℕ} → e ≡ t → at + length t ≤ length d → (put_mid at (at + length t - at) d e, at + length t) ≡ put_at d at t
put_between d at t {e} q p =
    let room : at + length t - at ≡ length t = omega arith in
    rw (q, room, drop-drop (length t) at d, ← append_assoc (take at d) t (drop (at + length t) d)) (put_fits d at t p)

-- What fits is written.
pub put_written : {d e t : List ℕ} {at m : ℕ} → (e, m) ≡ put_at d at t → at + length t ≤ length d → Written d at t e m
put_written {d} {e} {t} {at} {m} q p = record {
  same_length = ap length whole ∙ length-paste d at t (length t) p (omega arith);
  end_is = end;
  front = rw end (ap (take (at + length t)) whole ∙ take-paste d at t (length t) (omega arith) (omega arith) ∙ rw (take-length t) refl);
  rest = rw end (ap (drop (at + length t)) whole ∙ drop-paste d at t (length t) (omega arith) (omega arith));
}
  where
    both : ◌≡◌ {A = List ℕ × ℕ} (e, m) ((take at d ++ t) ++ drop (at + length t) d, at + length t)
    both = q ∙ sym (put_fits d at t p)

    whole : e ≡ paste d at t (length t)
    whole = ap (λ (x : List ℕ × ℕ). x.0) both ∙ rw (take-length t) refl

    end : m ≡ at + length t
    end = ap (λ (x : List ℕ × ℕ). x.1) both

-- One text behind another.
pub written_on : {d e f t u : List ℕ} {at m n : ℕ} → Written d at t e m → Written e m u f n → Written d at (t ++ u) f n
written_on {d} {e} {f} {t} {u} {at} {m} {n} w v = record {
  same_length = v.same_length ∙ w.same_length;
  end_is = omega (arith, w.end_is, v.end_is, length-append t u);
  front = v.front ∙ rw w.front (append_assoc (take at d) t u);
  rest = v.rest ∙ further;
}
  where
    further : drop n e ≡ drop n d
    further = rw v.end_is (sym (drop-drop (length u) m e) ∙ ap (drop (length u)) w.rest ∙ drop-drop (length u) m d)

-- The same text by another name.
pub written_as : {d e t u : List ℕ} {at m : ℕ} → t ≡ u → Written d at t e m → Written d at u e m
written_as {d} {e} {t} {u} {at} {m} q w = rw (sym q) w
