-- Unsigned fields of any width in a list of bytes, most significant byte first.
use Rattle.std.specs.Prelude.{ℕ, zero, suc, ◌+◌, ◌*◌, ◌/◌, ◌%◌, ◌^◌, ◌<◌, List, [], ◌∷◌, get_or}
use Rattle.std.proofs.lemmas.List.Edits.{sets}

-- the number that the `width` bytes of s from `at` on hold
unfoldable pub field : ℕ → List ℕ → ℕ → ℕ
field zero s at = 0
field (suc width) s at = get_or s at 0 * 256 ^ width + field width s (at + 1)

-- the last `width` bytes of a number
unfoldable pub bytes_of : ℕ → ℕ → List ℕ
bytes_of zero v = []
bytes_of (suc width) v = v / 256 ^ width % 256 ∷ bytes_of width v

-- s with the field of `width` bytes at `at` set to v, and all else as it was
unfoldable pub with_field : ℕ → List ℕ → ℕ → ℕ → List ℕ
with_field width s at v = sets s at (bytes_of width v)

-- each element of s is a byte. A record, so that `search` finds it whole
pub record Bytes (s : List ℕ) : Type 0 where
  pub each : (i : ℕ) → get_or s i 0 < 256
