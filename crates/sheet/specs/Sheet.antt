-- The sheet's format (01, "Sheet bytes" and "Check a sheet"), as executable definitions over the list of its bytes.
use Rattle.std.specs.Prelude.{Bool, false, cond, not, ◌&&◌, ◌||◌, List, [], ◌∷◌, ℕ, zero, suc, ◌+◌, ◌-◌, ◌*◌, eqb, ltb, leb, length, get_or, Result, Ok, Err}
use Rattle.fields.specs.Fields.{field}
use Rattle.fields.specs.Label.{label_width}
use Rattle.outcome.specs.Outcome.{Outcome, accepted}
use Rattle.outcome.specs.Refusals.{first_of}
use Rattle.outcome.specs.Refused.{of_part, declined, judged}
use Rattle.outcome.specs.declared.Refusal.{Refusal}
use Rattle.outcome.specs.declared.Part.TheVariants as part
use Rattle.theory.specs.Expression.{NodeExpr}
use Rattle.sheet.specs.Entry.{Step, Entry, entry_with, expression, numbers, most_steps}
use Rattle.sheet.specs.declared.Heading.{Heading}

-- ---- the header

-- "Bytes 0-3: whole length."
abbrev pub length_of : List ℕ → ℕ
length_of s = field 4 s 0

-- "Byte 4: version 1"; 02, 2026-02: or 2.
abbrev pub version_of : List ℕ → ℕ
version_of s = get_or s 4 0

-- "Byte 5: bound c, 0 to 4."
abbrev pub bound_of : List ℕ → ℕ
bound_of s = get_or s 5 0

-- "Bytes 6-7: entries q, 1 to 16,385."
abbrev pub count_of : List ℕ → ℕ
count_of s = field 2 s 6

-- "Then the entries": where the first one starts.
abbrev pub head_size : ℕ
head_size = 8

-- The latest version.
abbrev pub most_version : ℕ
most_version = 2

-- The largest bound.
abbrev pub most_bound : ℕ
most_bound = 4

-- The most entries.
abbrev pub most_entries : ℕ
most_entries = 16385

-- What a map has in place of an entry's number where a cell is hidden (02, 2026-07: "Map places with a hidden cell get 65,535"): no entry has it.
abbrev pub hidden_place : ℕ
hidden_place = 65535

-- ---- an entry

-- The largest kind.
abbrev pub most_kind : ℕ
most_kind = 6

-- "A number is 2 bytes."
abbrev pub number_width : ℕ
number_width = 2

-- The bytes of a step in a sheet of version v: "a label byte and the number of a test"; 02, 2026-02: version 2 "has 2-byte labels in its steps".
abbrev pub step_width : ℕ → ℕ
step_width v = label_width v + number_width

-- The number at byte `at`.
abbrev pub number_at : List ℕ → ℕ → ℕ
number_at s at = field number_width s at

-- The step at byte `at`.
abbrev pub step_at : ℕ → List ℕ → ℕ → Step
step_at v s at = record { label = field (label_width v) s at; test = number_at s (at + label_width v) }

-- The k steps from byte `at` on.
unfoldable pub steps_at : ℕ → List ℕ → ℕ → ℕ → List Step
steps_at v s at zero = []
steps_at v s at (suc k) = step_at v s at ∷ steps_at v s (at + step_width v) k

-- How many step counts a kind has: "4 way, a step count k and k steps; 5 same and 6 differ, two step counts, the first way's steps,
-- the second's".
unfoldable pub step_counts : ℕ → ℕ
step_counts kind = cond (ltb kind 4) 0 (cond (eqb kind 4) 1 2)

-- Where the steps of the first way start in a body at `at`.
abbrev pub first_start : ℕ → ℕ → ℕ
first_start kind at = at + step_counts kind

-- How many they are.
abbrev pub first_count : List ℕ → ℕ → ℕ
first_count s at = get_or s at 0

-- Where the steps of the second way start.
abbrev pub second_start : ℕ → ℕ → List ℕ → ℕ → ℕ
second_start v kind s at = first_start kind at + step_width v * first_count s at

-- How many they are.
abbrev pub second_count : List ℕ → ℕ → ℕ
second_count s at = get_or s (at + 1) 0

-- The entry of a kind whose body starts at byte `at`.
unfoldable pub entry_of : ℕ → ℕ → List ℕ → ℕ → Entry
entry_of v kind s at =
    entry_with kind (number_at s at) (number_at s (at + number_width))
    (steps_at v s (first_start kind at) (first_count s at)) (steps_at v s (second_start v kind s at) (second_count s at))

-- "An entry is one byte counting what follows it, then a kind byte, then" the body.
abbrev pub entry_in : ℕ → List ℕ → ℕ → Entry
entry_in v s at = entry_of v (get_or s (at + 1) 0) s (at + 2)

-- The entry at `at`, in the sheet's own version.
abbrev pub entry_at : List ℕ → ℕ → Entry
entry_at s at = entry_in (version_of s) s at

-- Where the entry after the one at `at` starts.
abbrev pub next_at : List ℕ → ℕ → ℕ
next_at s at = at + 1 + get_or s at 0

-- The q entries from byte `at` on.
unfoldable pub entries_at : ℕ → List ℕ → ℕ → ℕ → List Entry
entries_at v s at zero = []
entries_at v s at (suc q) = entry_in v s at ∷ entries_at v s (next_at s at) q

-- Where the entry starts that stands k entries after the one at `at`.
unfoldable pub start_from : List ℕ → ℕ → ℕ → ℕ
start_from s at zero = at
start_from s at (suc k) = start_from s (next_at s at) k

-- The entries of a sheet.
abbrev pub entries_of : List ℕ → List Entry
entries_of s = entries_at (version_of s) s head_size (count_of s)

-- The byte where entry k starts.
abbrev pub entry_start : List ℕ → ℕ → ℕ
entry_start s k = start_from s head_size k

-- The question of entry k.
abbrev pub question_of : List ℕ → ℕ → NodeExpr
question_of s k = expression (entries_of s) k

-- ---- the check: each refusal below is 0 where there is none

-- The refusal of the header. "1: fewer than 8 bytes. 2: L is not the number of bytes lent. 3: version" (02, 2026-02: "neither").
-- "8: c or q out of range."
unfoldable pub head_refusal : List ℕ → ℕ
head_refusal s =
    cond (ltb (length s) head_size) 1
    (cond (not (eqb (length_of s) (length s))) 2
    (cond (eqb (version_of s) 0) 3
    (cond (ltb most_version (version_of s)) 3
    (cond (ltb most_bound (bound_of s)) 8
    (cond (eqb (count_of s) 0) 8
    (cond (ltb most_entries (count_of s)) 8 0))))))

-- Whether a step count of the body at `at` is too large for the bound c.
unfoldable pub too_large : ℕ → ℕ → ℕ → List ℕ → ℕ → Bool
too_large v c kind s at =
    cond (ltb kind 4) false
    (cond (eqb kind 4) (ltb (most_steps v) (first_count s at))
    (ltb c (first_count s at) || ltb c (second_count s at)))

-- The size that the body at `at` is required to have.
unfoldable pub required : ℕ → ℕ → List ℕ → ℕ → ℕ
required v kind s at =
    cond (eqb kind 0) 0
    (cond (eqb kind 1) number_width
    (cond (ltb kind 4) (2 * number_width)
    (cond (eqb kind 4) (1 + step_width v * first_count s at)
    (2 + step_width v * (first_count s at + second_count s at)))))

-- "12: a number not earlier", of the numbers in entry n.
unfoldable pub numbers_refusal : ℕ → List ℕ → ℕ
numbers_refusal n [] = 0
numbers_refusal n (i ∷ is) = cond (ltb i n) (numbers_refusal n is) 12

-- The refusal of the body at `at`, of `size` bytes, in entry n. "14: step count bytes missing; 11: a step count too large;
-- 14: body not exactly the size required"; then 12.
unfoldable pub body_refusal : ℕ → List ℕ → ℕ → ℕ → ℕ → ℕ → ℕ → ℕ
body_refusal v s c n kind at size =
    cond (ltb size (step_counts kind)) 14
    (cond (too_large v c kind s at) 11
    (cond (not (eqb size (required v kind s at))) 14
    (numbers_refusal n (numbers (entry_of v kind s at)))))

-- "10: kind above 6; 13: entry 0 not kind 0."
unfoldable pub kind_refusal : ℕ → ℕ → ℕ
kind_refusal n kind = cond (ltb (most_kind) kind) 10 (cond (eqb n 0 && not (eqb kind 0)) 13 0)

-- The refusal of the count byte at `at`. "9: the count byte is absent, 0, or reaches past the end." 0: none of these.
unfoldable pub count_refusal : List ℕ → ℕ → ℕ
count_refusal s at =
    cond (leb (length s) at) 9
    (cond (eqb (get_or s at 0) 0) 9
    (cond (leb (length s) (at + get_or s at 0)) 9 0))

-- The refusal of entry n, which starts at `at`. "9: the count byte is absent, 0, or reaches past the end"; then the kind's and the body's.
unfoldable pub entry_refusal : ℕ → List ℕ → ℕ → ℕ → ℕ → ℕ
entry_refusal v s c n at =
    cond (leb (length s) at) 9
    (cond (eqb (get_or s at 0) 0) 9
    (cond (leb (length s) (at + get_or s at 0)) 9
    (first_of (kind_refusal n (get_or s (at + 1) 0)) (body_refusal v s c n (get_or s (at + 1) 0) (at + 2) (get_or s at 0 - 1)))))

-- The refusal of the `left` entries from number n on, the first of which starts at `at`.
-- "Entry by entry"; "after the last, 9: bytes left over."
unfoldable pub entries_refusal : ℕ → List ℕ → ℕ → ℕ → ℕ → ℕ → ℕ
entries_refusal v s c n at zero = cond (ltb at (length s)) 9 0
entries_refusal v s c n at (suc left) = first_of (entry_refusal v s c n at) (entries_refusal v s c (n + 1) (next_at s at) left)

-- The refusal of a sheet.
unfoldable pub sheet_refusal : List ℕ → ℕ
sheet_refusal s = first_of (head_refusal s) (entries_refusal (version_of s) s (bound_of s) 0 head_size (count_of s))

-- A heading of q entries and the bound c.
abbrev pub heading : ℕ → ℕ → Heading
heading q c = record { entries = q; bound = c }

-- "Check a sheet gives q and c", or its refusal.
unfoldable pub sheet_answer : List ℕ → Result Heading Refusal
sheet_answer s = judged (sheet_refusal s) (heading (count_of s) (bound_of s))

-- 01's numbers and values for each answer; a refusal speaks of the sheet.
abbrev pub sheet_outcome : Result Heading Refusal → Outcome
sheet_outcome (Ok h) = accepted h.entries h.bound
sheet_outcome (Err r) = declined (of_part part.Sheet r)
