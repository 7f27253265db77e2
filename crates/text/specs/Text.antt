-- Text as bytes, and text written into lent bytes, one piece behind another.
use Rattle.std.specs.Prelude.{cond, List, [], ◌∷◌, ◌++◌, ◌≡◌, ℕ, zero, suc, ◌+◌, ◌/◌, ◌%◌, ◌≤◌, ltb, length, take}
use Prim.Native.Char.{code}
use Prim.Native.String.{String}
use Prim.Native.String as string

-- The bytes of a text of ASCII characters.
abbrev pub ascii : String → List ℕ
ascii string.[] = []
ascii (string.◌∷◌ c s) = code c ∷ ascii s

-- The digit d as a byte ("0" is 48).
abbrev pub digit : ℕ → ℕ
digit d = 48 + d

-- The digits of n in base ten, the most significant first, at most `more` of them before the last.
unfoldable pub numeral : ℕ → ℕ → List ℕ
numeral zero n = digit n ∷ []
numeral (suc more) n = cond (ltb n 10) (digit n ∷ []) (numeral more (n / 10) ++ digit (n % 10) ∷ [])

-- A number in base ten. (It has no more digits than its own value and 1.)
abbrev pub decimal : ℕ → List ℕ
decimal n = numeral n n

-- A name and a number.
unfoldable pub labelled : List ℕ → ℕ → List ℕ
labelled name n = name ++ decimal n

-- The same at the end of a line (01: "Every line ends in a line feed").
unfoldable pub ending : List ℕ → ℕ → List ℕ
ending name n = labelled name n ++ ascii "\n"

-- The most digits of a 64-bit number.
abbrev pub most_digits : ℕ
most_digits = 20

-- The text, of at most `most` bytes, was written into the room from `at` on, and `next` is the byte after it. What stands before `at` is as it was; what
-- stands from `next` on is not said.
pub record Wrote (room : List ℕ) (at : ℕ) (text : List ℕ) (most : ℕ) (exit : List ℕ) (next : ℕ) : Type 0 where
  pub bytes : take next exit ≡ take at room ++ text
  pub size : length exit ≡ length room
  pub few : next ≤ at + most
