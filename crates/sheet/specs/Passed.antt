-- What the check passes: a header, a body and an entry that are not refused.
use Rattle.std.specs.Prelude.{false, List, ◌≡◌, ℕ, ◌+◌, ◌-◌, ◌≤◌, ◌<◌, length, get_or}
use Rattle.sheet.specs.Entry.{numbers}
use Rattle.sheet.specs.Sheet.{length_of, version_of, bound_of, count_of, head_size, most_version, most_bound, most_entries, most_kind, entry_of, too_large, required, numbers_refusal}

-- A header that is not refused.
pub record Headed (s : List ℕ) : Type 0 where
  pub eight : head_size ≤ length s
  pub whole : length_of s ≡ length s
  pub version : (1 ≤ version_of s) × (version_of s ≤ most_version)
  pub bounded : bound_of s ≤ most_bound
  pub some : 1 ≤ count_of s
  pub most : count_of s ≤ most_entries

-- A body that is not refused.
pub record Sized (v : ℕ) (s : List ℕ) (c n kind at size : ℕ) : Type 0 where
  pub small : too_large v c kind s at ≡ false
  pub exact : size ≡ required v kind s at
  pub earlier : numbers_refusal n (numbers (entry_of v kind s at)) ≡ 0

-- An entry n that starts at `at` and is not refused.
pub record EntryPassed (v : ℕ) (s : List ℕ) (c n at : ℕ) : Type 0 where
  pub present : 1 ≤ get_or s at 0
  pub inside : at + get_or s at 0 < length s
  pub known : get_or s (at + 1) 0 ≤ most_kind
  pub first : n ≡ 0 → get_or s (at + 1) 0 ≡ 0
  pub body : Sized v s c n (get_or s (at + 1) 0) (at + 2) (get_or s at 0 - 1)
