-- How an operation's answer is told as numbers, and these as one number for C.
use Rattle.std.specs.Prelude.{ℕ, ◌+◌, ◌*◌, ◌^◌, ◌<◌}

-- What an operation answers: 01's number of the refusal (0: accepted), the part that it speaks of, and two values.
pub record Outcome : Type 0 where
  pub refusal : ℕ
  pub part : ℕ
  pub first : ℕ
  pub second : ℕ

-- The outcome of four numbers.
abbrev pub outcome : ℕ → ℕ → ℕ → ℕ → Outcome
outcome refusal part first second =
    record { refusal = refusal; part = part; first = first; second = second }

-- The part that a refusal speaks of: the call itself;
abbrev pub of_call : ℕ
of_call = 0

-- the left or only book;
abbrev pub of_left_book : ℕ
of_left_book = 1

-- the right book;
abbrev pub of_right_book : ℕ
of_right_book = 2

-- or a sheet.
abbrev pub of_sheet : ℕ
of_sheet = 3

-- Accepted, with two values; the part is 0.
abbrev pub accepted : ℕ → ℕ → Outcome
accepted first second = outcome 0 of_call first second

-- The refusal of that number, of a part. The values are 0.
abbrev pub refused : ℕ → ℕ → Outcome
refused part number = outcome number part 0 0

-- The four numbers as one: bits 0 to 7, 8 to 15, 16 to 39, and 40 to 63.
unfoldable pub code : Outcome → ℕ
code o = o.refusal + 2 ^ 8 * o.part + 2 ^ 16 * o.first + 2 ^ 40 * o.second

-- Each number has room in its bits: then they can be told from the one number (`OutcomeLaws`).
pub record Fits (o : Outcome) : Type 0 where
  pub refusal : o.refusal < 2 ^ 8
  pub part : o.part < 2 ^ 8
  pub first : o.first < 2 ^ 24
  pub second : o.second < 2 ^ 24
