-- The laws of one read into the buffer. Assumes nothing.
use Rattle.std.proofs.Common.{◌≡◌, ℕ, zero, suc, ◌+◌, ◌≤◌, List, ◌++◌, length, take, Result, Ok, Err, sym, ap, ◌∙◌, arith, drop_at, length-take-le}
use lib.Seq.{take_at, take-add, take-append-le}
use borrow.Rule.Slice.PartMut.{put_mid, post_of}
use Rattle.mombuild.specs.Mombuild.{step_of}
use Rattle.std.specs.declared.ops.ControlFlow.TheVariants.{Continue}

-- More bytes are those that the read answered.
pub more_is : {E : Type 0} (answer : Result ℕ E) (n : ℕ) {bytes : ℕ} → step_of answer n ≡ Continue bytes → answer ≡ Ok bytes
more_is (Err e) n s = let z : ◌≡◌ {A = ℕ} 0 1 = cc in absurd (omega arith)
more_is (Ok zero) n s = let z : ◌≡◌ {A = ℕ} 0 1 = cc in absurd (omega arith)
more_is (Ok (suc k)) n {bytes} s = let same : suc k ≡ bytes = cc in ap Ok same

-- They stand behind those that were there.
pub take-read : (n k room : ℕ) (buffer part : List ℕ) → n ≤ length buffer → k ≤ length part → take n buffer ++ take k part ≡ take (n + k) (put_mid n room buffer part)
take-read n k room buffer part p q =
    let front = length-take-le n buffer p in
    let behind = part ++ post_of n room buffer in
    sym (take-add n k (take n buffer ++ behind)
    ∙ rw (take_at (take n buffer) behind n front, drop_at (take n buffer) behind n front) (ap (λ l. take n buffer ++ l) (take-append-le k part (post_of n room buffer) q)))
