-- Section 7 of the scope: numbers in a text, read and printed. A text is a list of bytes.
use Rattle.std.specs.Prelude.{◌≡◌, Bool, true, ◌&&◌, cond, Option, Some, None, List, [], ◌∷◌, ◌++◌, ℕ, zero, suc, ◌+◌, ◌*◌, ◌-◌, ◌/◌, ◌%◌, ◌<◌, eqb, leb, ltb, length, take, drop}
use Rattle.text.specs.declared.Output.{Output}

-- the bytes that part a text
abbrev pub lf : ℕ
lf = 10

abbrev pub comma : ℕ
comma = 44

-- ---- parts
-- how many bytes stand before the first b; all of them where there is none
unfoldable pub position : ℕ → List ℕ → ℕ
position b [] = 0
position b (x ∷ l) = cond (eqb x b) 0 (suc (position b l))

-- what stands before the first b, and what stands behind it: nothing where there is none
unfoldable pub up_to : ℕ → List ℕ → List ℕ
up_to b l = take (position b l) l

unfoldable pub past : ℕ → List ℕ → List ℕ
past b l = drop (position b l + 1) l

-- The two parts of a text round the first b.
pub record SplitAtFirst (b : ℕ) (l before behind : List ℕ) : Type 0 where
  pub there : position b l < length l
  pub before_is : before ≡ up_to b l
  pub behind_is : behind ≡ past b l

-- ---- reading
abbrev pub is_digit : ℕ → Bool
is_digit x = leb 48 x && leb x 57

unfoldable pub are_digits : List ℕ → Bool
are_digits [] = true
are_digits (x ∷ l) = is_digit x && are_digits l

-- the number that the digits of l make behind those of n
unfoldable pub value_from : ℕ → List ℕ → ℕ
value_from n [] = n
value_from n (x ∷ l) = value_from (10 * n + (x - 48)) l

-- "Numbers are 1 to 20 digits"
unfoldable pub is_number : List ℕ → Bool
is_number l = leb 1 (length l) && (leb (length l) 20 && are_digits l)

-- the number that a field holds, "one too large" being unreadable
unfoldable pub number : ℕ → List ℕ → Option ℕ
number most l = cond (is_number l && leb (value_from 0 l) most) (Some (value_from 0 l)) None

-- a number with one more digit behind it, if x is one
unfoldable pub longer : ℕ → ℕ → ℕ → Option ℕ
longer most n x = cond (is_digit x && leb (10 * n + (x - 48)) most) (Some (10 * n + (x - 48))) None

-- ---- printing
-- the digits of n, none in front being 0 unless it is the only one; at most k of them
unfoldable pub digits_up_to : ℕ → ℕ → List ℕ
digits_up_to zero n = []
digits_up_to (suc k) n = cond (ltb n 10) ((48 + n) ∷ []) (digits_up_to k (n / 10) ++ ((48 + n % 10) ∷ []))

-- a u64 has no more than 20
unfoldable pub decimal : ℕ → List ℕ
decimal n = digits_up_to 20 n

-- a buffer with a text written into it at a place, and the place behind the text; where the text does not fit, the buffer as it was and the
-- place itself
unfoldable pub put_at : List ℕ → ℕ → List ℕ → List ℕ × ℕ
put_at buffer at text =
    cond (leb (at + length text) (length buffer)) ((take at buffer ++ text) ++ drop (at + length text) buffer, at + length text) (buffer, at)

-- What a buffer holds once a text is written into it at a place: the text there, and all else as it was.
pub record Written (before : List ℕ) (at : ℕ) (text after : List ℕ) (end : ℕ) : Type 0 where
  pub same_length : length after ≡ length before
  pub end_is : end ≡ at + length text
  pub front : take end after ≡ take at before ++ text
  pub rest : drop end after ≡ drop end before

-- What an output comes to once a text is written to it: the text stands behind what was written.
abbrev pub Appends : (before : Output) (text : List ℕ) (after : Output) → Type 0
Appends before text after = Written before.buffer.now before.end text after.buffer.now after.end
