-- What an add call that is not refused may rely on, and what it leaves in the buffers: of any values, and of counts. `bad` tells
-- the values that no cell may have. Assumes nothing.
use mathlib.Core.Path.{◌≡◌, refl, ap, ap₂, sym, ◌∙◌}
use mathlib.Core.Bool.{Bool}
use mathlib.Core.List.{List, [], ◌∷◌, ◌++◌, append-nil}
use mathlib.Core.Option.{none}
use Prim.Native.Nat.{ℕ, zero, suc, ◌+◌, ◌≤◌, ◌-◌}
use native.Mathlib.Omega.{arith}
use lib.Ieee.{Float}
use lib.ListN.{length, get_or, take, drop, replicate, length-drop, drop_of_length-le}
use lib.Seq.{get_or-take, length-take-le, take-suc}
use borrow.Rule.Slice.PartMut.{mid_of, put_mid, mid_len}
use Rattle.std.specs.Prelude.{Result, Ok}
use Rattle.build.specs.declared.counts.Added.{Added as Answered}
use Rattle.refusal.specs.declared.Refusal.{Refusal}
use Rattle.protection.specs.Protected.{protected_refusal, RisingList}
use Rattle.protection.proofs.Lists.{accepted_iff_rising_list}
use Rattle.merger.specs.Floats.{invalid_density}
use Rattle.merger.specs.Merge.{accept_counts}
use Rattle.merger.proofs.Accept.{accepted_count_is_sum}
use Rattle.mom.specs.Map.{first_fault, ValidMap}
use Rattle.refusal.specs.Checks.{or_else}
use Rattle.build.specs.Map.{Entry}
use Rattle.build.specs.Buffers.{batch, read_onto, held, filled, zuniq_of, value_of, zuniq_buffer, value_buffer}
use Rattle.build.specs.Calls.{Buffers, Batch, Answer, Calls, cells, answered, add_call}
use Rattle.build.specs.Standing.{Stands, Rising, Added}
use Rattle.build.specs.Add.{settings_refusal, lengths_refusal, map_refusal, held_refusal, map_end, cells_refusal, hashes_refusal, sum_of, total_refusal, space_refusal}
use Rattle.build.specs.Counts.{total_of, never, counts_refusal, Report, count_calls, counts_added, add_counts}
use Rattle.build.specs.Densities.{density_refusal, densities_refusal}
use Rattle.build.proofs.Adding.{run-total}
use Rattle.build.proofs.Places.{fewer, held-suc, held-length, held-zuniqs, held-values}
use Rattle.build.proofs.Filling.{sum_append}
use Rattle.refusal.proofs.Checks.{or_else_none}
use Rattle.build.proofs.Checking.{grouped, settings-pass, lengths_pass, map_passes, space_passes, total_fits, cells_pass, cells_by_hashes}

pub record Accepted {A : Type 0} (bad : A → Bool) (K D m places values : ℕ) (zs hs : List ℕ) (xs : List A) : Type 0 where
  pub shallow : D ≤ K
  pub paired : places ≡ values
  pub within : m ≤ places
  pub batched : length hs ≡ length xs
  pub valid : ValidMap K D zs
  pub cells : cells_refusal bad D (map_end K D zs) 0 hs xs ≡ none
  pub room : m + length hs ≤ places

-- The rows that all add calls have in common.
pub accepted : {A : Type 0} (bad : A → Bool) (K D M : ℕ) (T : Float) (m places values : ℕ) (zs hs : List ℕ) (xs : List A)
    → settings_refusal K D M T ≡ none → lengths_refusal m places values (length hs) (length xs) ≡ none → map_refusal (first_fault K D zs) ≡ none
    → cells_refusal bad D (map_end K D zs) 0 hs xs ≡ none → space_refusal places m (length hs) ≡ none → Accepted bad K D m places values zs hs xs
accepted bad K D M T m places values zs hs xs a b c d e =
    let l = lengths_pass m places values (length hs) (length xs) b in
    record {
      shallow = settings-pass K D M T a;
      paired = l.0;
      within = l.1;
      batched = l.2;
      valid = map_passes K D zs c;
      cells = d;
      room = space_passes places m (length hs) e;
    }

pub counts_accepted : (K : ℕ) (P : List ℕ) (D M : ℕ) (T : Float) (m places values : ℕ) (zs vs hs ns : List ℕ) → counts_refusal K P D M T m places values zs vs hs ns ≡ none
    → Accepted never K D m places values zs hs ns × (sum_of vs + sum_of ns ≤ 4294967295) × RisingList P
unfolding counts_refusal
counts_accepted K P D M T m places values zs vs hs ns e =
    let a = or_else_none _ _ e in
    let l = or_else_none (protected_refusal K P) _ a.1 in
    let b = or_else_none _ _ l.1 in
    let c = or_else_none _ _ b.1 in
    let d = or_else_none _ _ c.1 in
    let f = or_else_none _ _ d.1 in
    (accepted never K D M T m places values zs hs ns a.0 b.0 c.0 d.0 f.1, total_fits (sum_of vs) ns f.0, ((accepted_iff_rising_list K P).0 l.0).rising)

-- ---- rows 1 to 3, 15, 4 and 5 as one check
pub record HeldPassed (K D m places values hashes batch : ℕ) : Type 0 where
  pub shallow : D ≤ K
  pub paired : places ≡ values
  pub within : m ≤ places
  pub batched : hashes ≡ batch

pub held_passes : (K : ℕ) (P : List ℕ) (D M : ℕ) (T : Float) (m places values : ℕ) (zs : List ℕ) (hashes batch : ℕ) → held_refusal K P D M T m places values zs hashes batch ≡ none
    → HeldPassed K D m places values hashes batch
unfolding held_refusal
held_passes K P D M T m places values zs hashes batch e =
    let a = or_else_none _ _ e in
    let b = or_else_none (protected_refusal K P) _ a.1 in
    let l = lengths_pass m places values hashes batch (or_else_none _ _ b.1).0 in
    record { shallow = settings-pass K D M T a.0; paired = l.0; within = l.1; batched = l.2 }

-- The refusals of an add call are those rows and then the others.
pub counts_after_held : (K : ℕ) (P : List ℕ) (D M : ℕ) (T : Float) (m places values : ℕ) (zs vs hs ns : List ℕ)
    → counts_refusal K P D M T m places values zs vs hs ns
    ≡ or_else (held_refusal K P D M T m places values zs (length hs) (length ns))
    (or_else (cells_refusal never D (map_end K D zs) 0 hs ns) (or_else (total_refusal (sum_of vs) ns) (space_refusal places m (length hs))))
unfolding counts_refusal held_refusal
counts_after_held K P D M T m places values zs vs hs ns = grouped (settings_refusal K D M T) (protected_refusal K P) (lengths_refusal m places values (length hs) (length ns)) (map_refusal (first_fault K D zs)) _

-- Once those rows have passed, adding counts is refused as the check of the batch tells.
pub counts_by_batch : (K : ℕ) (P : List ℕ) (D M : ℕ) (T : Float) (m end : ℕ) (zs vs hs ns : List ℕ) → held_refusal K P D M T m (length zs) (length vs) (take m zs) (length hs) (length ns) ≡ none
    → end ≡ map_end K D (take m zs)
    → counts_refusal K P D M T m (length zs) (length vs) (take m zs) (take m vs) hs ns
    ≡ or_else (hashes_refusal D end 0 hs) (or_else (total_refusal (sum_of (take m vs)) ns) (space_refusal (length zs) (length (take m vs)) (length hs)))
counts_by_batch K P D M T m end zs vs hs ns e f =
    let p = held_passes K P D M T m (length zs) (length vs) (take m zs) (length hs) (length ns) e in
    let l = length-take-le m vs (omega (arith, p.within, p.paired)) in
    rw (counts_after_held K P D M T m (length zs) (length vs) (take m zs) (take m vs) hs ns, e, cells_by_hashes D (map_end K D (take m zs)) 0 hs ns p.batched, ← f, l) refl

pub densities_after_held : (P : List ℕ) (D M : ℕ) (T : Float) (m places values : ℕ) (zs : List ℕ) (vs : List Float) (hs : List ℕ) (xs : List Float)
    → densities_refusal P D M T m places values zs vs hs xs
    ≡ or_else (held_refusal 29 P D M T m places values zs (length hs) (length xs))
    (or_else (density_refusal 0 vs) (or_else (cells_refusal invalid_density D (map_end 29 D zs) 0 hs xs) (space_refusal places m (length hs))))
unfolding densities_refusal held_refusal
densities_after_held P D M T m places values zs vs hs xs = grouped (settings_refusal 29 D M T) (protected_refusal 29 P) (lengths_refusal m places values (length hs) (length xs)) (map_refusal (first_fault 29 D zs)) _

-- Once those rows have passed, adding densities is refused as the check of the batch tells.
pub densities_by_batch : (P : List ℕ) (D M : ℕ) (T : Float) (m end : ℕ) (zs : List ℕ) (vs : List Float) (hs : List ℕ) (xs : List Float)
    → held_refusal 29 P D M T m (length zs) (length vs) (take m zs) (length hs) (length xs) ≡ none → end ≡ map_end 29 D (take m zs)
    → densities_refusal P D M T m (length zs) (length vs) (take m zs) (take m vs) hs xs
    ≡ or_else (density_refusal 0 (take m vs)) (or_else (cells_refusal invalid_density D end 0 hs xs) (space_refusal (length zs) (length (take m vs)) (length hs)))
densities_by_batch P D M T m end zs vs hs xs e f =
    let p = held_passes 29 P D M T m (length zs) (length vs) (take m zs) (length hs) (length xs) e in
    let l = length-take-le m vs (omega (arith, p.within, p.paired)) in
    rw (densities_after_held P D M T m (length zs) (length vs) (take m zs) (take m vs) hs xs, e, ← f, l) refl

-- A valid map stands in its places.
pub valid_stands : {A : Type 0} (K D m : ℕ) (zs : List ℕ) (vs : List A) → m ≤ length zs → m ≤ length vs → ValidMap K D (take m zs) → Stands K m zs vs
valid_stands K D m zs vs p q v = record {
  zuniqs = p;
  values = q;
  valid = λ i l. rw (get_or-take m zs i 0 l) at (v.valid i (omega (arith, length-take-le m zs p)));
}

-- What is accepted may be pushed: the map stands, there is room for the batch, and its cells rise.
pub may_push : {A : Type 0} {bad : A → Bool} {K D m : ℕ} {zs : List ℕ} {vs : List A} {hs : List ℕ} {xs : List A} → Accepted bad K D m (length zs) (length vs) (take m zs) hs xs
    → (Stands K m zs vs × (D ≤ K) × (length hs ≡ length xs) × (m + length hs ≤ length zs) × (m + length hs ≤ length vs)) × Rising D hs
may_push {A} {bad} {K} {D} {m} {zs} {vs} {hs} {xs} a =
    let stands = valid_stands K D m zs vs a.within (omega (arith, a.within, a.paired)) a.valid in
    ((stands, a.shallow, a.batched, a.room, omega (arith, a.room, a.paired)), cells_pass bad D (map_end K D (take m zs)) 0 hs xs a.batched a.cells)

-- The total of a map is the sum of the counts in its places.
pub held-total : (K m : ℕ) (zs vs : List ℕ) → Stands K m zs vs → total_of (held K m zs vs) ≡ sum_of (take m vs)
unfolding held read_onto sum_of
held-total K zero zs vs w = refl
held-total K (suc m) zs vs w =
    let v = w.valid m (omega arith) in
    rw (held-suc K 0 m zs vs v.0 v.1 w.zuniqs w.values v.2, take-suc vs m 0 w.values)
    (omega (arith, held-total K m zs vs (fewer K m zs vs w), sum_append (take m vs) (get_or vs m 0)))

pub batch-total : (D : ℕ) (hs ns : List ℕ) → length hs ≡ length ns → total_of (batch D hs ns) ≡ sum_of ns
unfolding batch sum_of
batch-total D [] [] e = refl
batch-total D [] (n ∷ ns) e = absurd (omega arith)
batch-total D (h ∷ hs) [] e = absurd (omega arith)
batch-total D (h ∷ hs) (n ∷ ns) e = ap (λ (k : ℕ). n + k) (batch-total D hs ns (omega arith))

-- Clearing the free part, from place n on.
pub cleared : {B : Type 0} (n : ℕ) (l ys : List B) (x : B) → n ≤ length l → ys ≡ replicate (length (mid_of n (length l - n) l)) x → put_mid n (length l - n) l ys ≡ take n l ++ replicate (length l - n) x
cleared n l ys x p e =
    let k = length l - n in
    let m : length (mid_of n k l) ≡ k = mid_len n (length l) l (omega arith) in
    let q : length (drop n l) ≤ k = omega (arith, length-drop n l) in
    let d : drop k (drop n l) ≡ [] = drop_of_length-le (drop n l) q in
    rw (e, m, d, append-nil (replicate k x)) refl

-- The map that stands in n places, with every place after it cleared, is the whole buffer.
module _ {A : Type 0} (K : ℕ) (u : A) (n : ℕ) (zs : List ℕ) (vs : List A) (w : Stands K n zs vs) where
  pub zuniqs_filled : take n zs ++ replicate (length zs - n) 0 ≡ filled (zuniq_of K) 0 (length zs) (held K n zs vs)
  unfolding filled
  zuniqs_filled = rw (held-zuniqs K u n zs vs w, held-length K u n zs vs w) refl

  pub values_filled : (x : A) → take n vs ++ replicate (length vs - n) x ≡ filled value_of x (length vs) (held K n zs vs)
  unfolding filled
  values_filled x = rw (held-values K u n zs vs w, held-length K u n zs vs w) refl

-- Buffers in which a map s stands in n places, with every place after it cleared, hold it; and the answer tells of it.
module _ {A R X : Type 0} (g : Calls A R X) (u : A) (b : Buffers A) where
  pub map_left : (s : List (Entry A)) (n : ℕ) (zs : List ℕ) (vs : List A) (zs' : List ℕ) (vs' : List A) → Stands g.largest n zs vs → held g.largest n zs vs ≡ s
      → length zs ≡ length b.zuniqs → length vs ≡ length b.values
      → zs' ≡ take n zs ++ replicate (length zs - n) 0 → vs' ≡ take n vs ++ replicate (length vs - n) g.filler
      → ◌≡◌ {A = Buffers A × Answer R X} (record { number = n; zuniqs = zs'; values = vs' }, Answer.accepted (g.report (held g.largest n zs vs))) (answered g none b s)
  map_left s n zs vs zs' vs' w q lz lv ez ev =
      let k : n ≡ length s = sym (held-length g.largest u n zs vs w) ∙ ap length q in
      let z : zs' ≡ zuniq_buffer g.largest (length b.zuniqs) s = ez ∙ zuniqs_filled g.largest u n zs vs w ∙ ap₂ (filled (zuniq_of g.largest) 0) lz q in
      let v : vs' ≡ value_buffer g.filler (length b.values) s = ev ∙ values_filled g.largest u n zs vs w g.filler ∙ ap₂ (filled value_of g.filler) lv q in
      λ i. (record { number = k i; zuniqs = z i; values = v i }, Answer.accepted (g.report (q i)))

  -- What an accepted call leaves, told by the definition: n entries, and both buffers.
  pub call_left : (c : Batch A) → g.refusal b.number (length b.zuniqs) (length b.values) (take b.number b.zuniqs) (take b.number b.values) c ≡ none
      → (n : ℕ) (zs : List ℕ) (vs : List A) (zs' : List ℕ) (vs' : List A) → Added g.accept g.largest b.number (cells g c) b.zuniqs b.values n zs vs
      → length zs ≡ length b.zuniqs → length vs ≡ length b.values
      → zs' ≡ take n zs ++ replicate (length zs - n) 0 → vs' ≡ take n vs ++ replicate (length vs - n) g.filler
      → ◌≡◌ {A = Buffers A × Answer R X} (record { number = n; zuniqs = zs'; values = vs' }, Answer.accepted (g.report (held g.largest n zs vs))) (add_call g b c)
  unfolding add_call
  call_left c e n zs vs zs' vs' w lz lv ez ev = rw e (map_left _ n zs vs zs' vs' w.stands w.is lz lv ez ev)

-- What an accepted call answers, and both buffers.
abbrev pub answer_of : ℕ → ℕ → List ℕ → List ℕ → Result Answered Refusal × List ℕ × List ℕ
answer_of n sum zs vs = (Ok (record { entries = n; total = sum }), zs, vs)

-- The same for counts, with their total.
pub counts_left : (K : ℕ) (P : List ℕ) (D M : ℕ) (T : Float) (m : ℕ) (zs vs hs ns : List ℕ) → counts_refusal K P D M T m (length zs) (length vs) (take m zs) (take m vs) hs ns ≡ none
    → (n sum : ℕ) (zs₁ vs₁ zs₂ vs₂ : List ℕ) → Added (accept_counts K P M T) K m (batch D hs ns) zs vs n zs₁ vs₁ → length zs₁ ≡ length zs → length vs₁ ≡ length vs
    → zs₂ ≡ take n zs₁ ++ replicate (length zs₁ - n) 0 → vs₂ ≡ take n vs₁ ++ replicate (length vs₁ - n) 0 → sum_of (take m vs) + sum_of ns ≡ sum
    → answer_of n sum zs₂ vs₂ ≡ add_counts K P D M T m zs vs hs ns
unfolding add_counts
counts_left K P D M T m zs vs hs ns e n sum zs₁ vs₁ zs₂ vs₂ w lz lv ez ev es =
    let a = (counts_accepted K P D M T m (length zs) (length vs) (take m zs) (take m vs) hs ns e).0 in
    let s = valid_stands K D m zs vs a.within (omega (arith, a.within, a.paired)) a.valid in
    let k : n ≡ length (held K n zs₁ vs₁) = sym (held-length K 0 n zs₁ vs₁ w.stands) in
    let t : sum ≡ total_of (held K n zs₁ vs₁) =
    sym es ∙ ap₂ ◌+◌ (sym (held-total K m zs vs s)) (sym (batch-total D hs ns a.batched))
    ∙ sym (run-total (accept_counts K P M T) (λ x. x) (λ d h k0 k1 k2 k3 x q. accepted_count_is_sum K P M T d h k0 k1 k2 k3 x q) (held K m zs vs) (batch D hs ns))
    ∙ sym (ap total_of w.is) in
    ap₂ (λ (k t : ℕ). answer_of k t zs₂ vs₂) k t
    ∙ ap (λ (r : Buffers ℕ × Answer Refusal Report). (counts_added r.1, r.0.zuniqs, r.0.values))
    (call_left (count_calls K P D M T) 0 (record { number = m; zuniqs = zs; values = vs }) (record { hashes = hs; values = ns }) e n zs₁ vs₁ zs₂ vs₂ w lz lv ez ev)
