-- The room that a comparison needs (01: "sheet room below 10 + 44 × n × m bytes"; 02, 2026-02: with version 2 "10 + 52 × n × m"), by the version v of the sheet that is written.
use Rattle.std.specs.Prelude.{ℕ, ◌+◌, ◌*◌}
use Rattle.sheet.specs.Sheet.{most_bound, step_width}

-- The most bytes of an entry that puts a reason: a same or differ of two ways of as many steps as the largest bound (28 in version 1, 36 in version 2).
abbrev pub reason_bytes : ℕ → ℕ
reason_bytes v = 4 + step_width v * (most_bound + most_bound)

-- The most entries that a parted pair takes: the one that puts the reason, its denial, two conjunctions.
abbrev pub pair_entries : ℕ
pair_entries = 4

-- The most bytes of the entry and its denial.
abbrev pub denied_bytes : ℕ → ℕ
denied_bytes v = reason_bytes v + 4

-- The most bytes that the four take, with 6 for each conjunction (44 in version 1, 52 in version 2).
abbrev pub pair_bytes : ℕ → ℕ
pair_bytes v = denied_bytes v + 6 + 6

-- The bytes that so many pairs need: the header and the first entry, and what parts them all.
abbrev pub room_needed : ℕ → ℕ → ℕ
room_needed v n = 10 + pair_bytes v * n
