-- A table that groups no links: a step reads them all.
use Rattle.std.specs.Prelude.{true, ◌≡◌, List, ℕ, eqb, get_or}
use Rattle.std.proofs.Math.Nat.{le_refl}
use native.Mathlib.Omega.{arith}
use Rattle.edges.specs.Groups.{start_for, until_for, Grouped}

pub ungrouped : (starts : List ℕ) → get_or starts 65 0 ≡ 0 → (ls : List ℕ) → Grouped starts ls
unfolding start_for until_for
ungrouped starts d ls =
    let t : eqb (get_or starts 65 0) 0 ≡ true = rw d in
    record {
      start_within = λ a. rw t (omega arith);
      until_within = λ a. rw t (le_refl _);
      onward = λ k l. rw t (omega arith);
      before = λ k l. rw t l;
    }
