-- What follows for the entries and the map that a comparison leaves: demands 2 and 3 of its zeros, and that a sheet has room for the entries.
-- (What is said of its other numbers stands in `Compared` of `Refining`, which is what code has to reach.)
use Rattle.std.specs.Prelude.{true, List, ◌↔◌, ◌≢◌, ◌≡◌, ℕ, ◌≤◌, length}
use mathlib.Core.Logic.Iff
use Rattle.std.proofs.Common.{⊎_elim, ◌∙◌, arith, mul-le-mul, mul-le-mul_left}
use Rattle.theory.specs.Graph.{Node}
use Rattle.theory.specs.Expression.{NodeExpr}
use Rattle.theory.specs.Meaning.{holds}
use Rattle.theory.specs.Bound.{Within}
use Rattle.theory.specs.Bisimulation.{Spoken, Greatest, two_sided}
use Rattle.theory.specs.Rounds.{related, settled}
use Rattle.theory.proofs.TestLaws.{eqb_iff, test_eq}
use Rattle.theory.proofs.GreatestLaws.{greatest}
use Rattle.theory.proofs.DescribingLaws.{agree_iff, keep_iff, after_ext}
use Rattle.sheet.specs.Entry.{Entry}
use Rattle.sheet.specs.Encoding.{sheet_bytes}
use Rattle.sheet.specs.WrittenLaws.{Writable, written-length}
use Rattle.compare_laws.specs.Places.{placed, unparted, zero_pairs, nonzeros}
use Rattle.sheet.specs.Sheet.{hidden_place}
use Rattle.compare_laws.proofs.PlaceLaws.{nonzeros_most, among_inside, among-at, eq-or-ne, hidden_beyond}
use Rattle.compare_laws.specs.Setting.{Setting, pairs}
use Rattle.compare_laws.specs.Room.{pair_bytes, room_needed}
use Rattle.compare_laws.specs.Refining.{Comparable, Compared}

module _ {s : Setting} {es : List Entry} {map : List ℕ} (g : Comparable s) (t : Compared s es map) where
  -- They are what the rounds settle to, that is two-sided the matched pairs.
  pub zero_pairs-settled : zero_pairs s.left s.right map ≡ related (settled s.sides s.left s.right s.bound)
  unfolding settled
  zero_pairs-settled =
      after_ext s.sides s.bound g.formed.0 g.formed.1 (pairs s) (zero_pairs s.left s.right map) (among_inside s.left.size s.right.size (unparted s.right.size map))
      (λ a b o u. among-at s.left.size s.right.size (unparted s.right.size map) a b o u
      ∙ test_eq _ _ (λ e. (t.zeros a b o u).0 ((eqb_iff _ 0).0 e)) (λ e. (eqb_iff _ 0).1 ((t.zeros a b o u).1 e)))

  -- Demand 2: the pairs whose place holds 0 are the greatest (bi)simulation for the bound.
  pub zero_pairs_greatest : Greatest s.sides s.left s.right s.bound (zero_pairs s.left s.right map)
  zero_pairs_greatest = rw zero_pairs-settled (greatest s.sides s.bound g.formed.0 g.formed.1)

  module _ (a b : ℕ) (o : Node s.left a) (u : Node s.right b) where
    -- A place holds 0 exactly when every node expression within the bound (without "not", one-sided) that is true at the left node is at the right one.
    pub zero_keeps : (placed s.right.size map a b ≡ 0) ↔ ((q : NodeExpr) → Within s.bound q → Spoken s.sides q → holds s.left q a ≡ true → holds s.right q b ≡ true)
    zero_keeps = Iff.trans (t.zeros a b o.below u.below) (keep_iff s.sides s.bound g.formed.0 g.formed.1 a b o u)

module _ {s : Setting} {es : List Entry} {map : List ℕ} (g : Comparable s) (both : s.sides ≡ two_sided) (t : Compared s es map) (a b : ℕ) (o : Node s.left a) (u : Node s.right b) where
  -- Demand 3: a place holds 0 exactly when every node expression within the bound, of any size, has one truth at both nodes.
  pub zero_agrees : (placed s.right.size map a b ≡ 0) ↔ ((q : NodeExpr) → Within s.bound q → holds s.left q a ≡ holds s.right q b)
  zero_agrees = Iff.trans (t.zeros a b o.below u.below) (rw both (agree_iff s.bound g.formed.0 g.formed.1 a b o u))

-- ---- the sheet

module _ {s : Setting} {es : List Entry} {map : List ℕ} (g : Comparable s) (t : Compared s es map) where
  -- Between graphs of at most 64 nodes a sheet can hold the entries (and so is accepted: `WrittenLaws` of the crate `sheet`),
  pub compared_writable : Writable s.version s.bound es
  compared_writable =
      record {
        version = g.version;
        bounded = g.bound;
        some = t.sheet.some;
        few = omega (arith, t.few, nonzeros_most map, t.size, mul-le-mul g.small.0 g.small.1);
        formed = t.sheet.formed;
        labelled = t.sheet.labelled;
      }

  -- the place of two nodes never holds what the others do,
  pub node_place : (a b : ℕ) → Node s.left a → Node s.right b → placed s.right.size map a b ≢ hidden_place
  node_place a b o u e =
      ⊎_elim (λ z. omega arith) (λ z. omega (arith, t.number a b o u z, compared_writable.few, hidden_beyond)) (eq-or-ne (placed s.right.size map a b) 0)

  -- and it has room in the bytes that 01 asks for.
  pub compared_room : length (sheet_bytes s.version s.bound es) ≤ room_needed s.version (pairs s)
  compared_room =
      let n : nonzeros map ≤ pairs s = omega (arith, nonzeros_most map, t.size) in
      omega (arith, mul-le-mul_left (pair_bytes s.version) n, t.room, written-length compared_writable)
