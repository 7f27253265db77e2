-- A run of bytes put into lent room.
use Rattle.std.specs.Prelude.{List, ◌≡◌, ℕ, ◌+◌, length}
use Rattle.std.proofs.lemmas.List.Edits.{sets}

-- The bytes were put into the room from `at` on, and nothing else changed; `next` is the place after them.
pub record PutBytes (room : List ℕ) (at : ℕ) (bytes : List ℕ) (exit : List ℕ) (next : ℕ) : Type 0 where
  pub left : exit ≡ sets room at bytes
  pub end : next ≡ at + length bytes
