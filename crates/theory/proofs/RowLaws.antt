-- Rows of a round are equal or disjoint: two left nodes that are related to one right node are related to the same right nodes. Two-sided only.
--
-- After round k let chi describe the nodes by expressions of depth at most k (`DescribingLaws`), and let a and a' both be related to b, and a' to b'.
-- What describes a is true at a; related nodes agree on it (`InvarianceLaws`), so it is true at b, hence at a', hence at b'. But in the right graph it
-- is true only at nodes that a is related to: so a is related to b'. With a and a' exchanged, their rows are equal.
-- One-sided relations do not go back from b to a', and their rows need not be equal.
use Rattle.std.proofs.Math.Bool.{So}
use Rattle.std.specs.Prelude.{◌≡◌, ℕ}
use Rattle.std.proofs.Common.{sym, ◌∙◌}
use Rattle.theory.specs.Graph.{Graph, Node, WellFormed}
use Rattle.theory.specs.Expression.{NodeExpr}
use Rattle.theory.specs.Meaning.{holds}
use Rattle.theory.specs.Bisimulation.{two_sided}
use Rattle.theory.specs.Rounds.{after}
use Rattle.theory.proofs.GreatestLaws.{after_inside}
use Rattle.theory.proofs.FamilyLaws.{rounds_family}
use Rattle.theory.proofs.InvarianceLaws.{agrees}
use Rattle.theory.specs.Parting.{Describes}
use Rattle.theory.proofs.DescribingLaws.{account}

module _ {l r : Graph} (c : ℕ) (wl : WellFormed l) (wr : WellFormed r) (k : ℕ) where
  -- if a and a' share b, then a is related to what a' is related to
  pub across : (a a' b b' : ℕ) → So (after two_sided l r c k a b) → So (after two_sided l r c k a' b) → So (after two_sided l r c k a' b')
      → So (after two_sided l r c k a b')
  across a a' b b' e f g =
      let (chi, h) = (account two_sided c wl wr k).lefts in
      let t = h a (after_inside two_sided c wl wr k a b e).0 in
      t.only b' (after_inside two_sided c wl wr k a' b' g).1 (sym (agree (chi a) t a' b' g) ∙ agree (chi a) t a' b f ∙ sym (agree (chi a) t a b e) ∙ t.own)
    where
      agree : (q : NodeExpr) → Describes two_sided l r c k (after two_sided l r c k) a (Node r) q → (x y : ℕ) → So (after two_sided l r c k x y)
          → holds l q x ≡ holds r q y
      agree q t x y i = agrees q (rounds_family two_sided c wl wr) t.within k x y t.shallow i
