-- From a clause that fails to an expression that distinguishes the pair.
--
-- Let chi describe the nodes of l: chi x is true at x, and in r at no node but those that z relates to x. A path p of l becomes a path expression
-- (`path_expr`): its labels in order, and after each the test chi of the node that p comes to. Its length is that of p; p itself takes it; and whatever
-- takes it in r goes through nodes that z relates to those of p, place by place, so it is one that `follow` follows.
-- If a link from a has no counterpart from b, "there is a way" along that link's expression is therefore true at a and false at b. If two paths p, q
-- from a, whose ends pass a comparison, have none, the same or differ of their two expressions is: it is true at a by p and q, and two ends that made it
-- true at b would be the counterpart. Both stay within the bound (p and q have at most c links) and are one deeper than chi. From the right side to the
-- left the same expression, denied, distinguishes the pair.
use Rattle.std.specs.Prelude.{true, not, ◌≡◌, ℕ, suc, ◌<◌, ◌≤◌, length}
use mathlib.Core.List.{[], ◌∷◌}
use Rattle.std.proofs.Math.Path.{refl}
use Rattle.std.proofs.Common.{ap}
use native.Mathlib.Omega.{arith}
use Rattle.theory.specs.Graph.{Graph, Node, WellFormed, linked}
use Rattle.theory.specs.Expression.{NodeExpr, neg, PositivePath, Positive}
use Rattle.theory.specs.Meaning.{reach, holds}
use Rattle.theory.specs.Bound.{len, WithinPath, Within, test_depth, depth}
use Rattle.theory.specs.Path.{Hop, Path, Walk, end}
use Rattle.theory.specs.Bisimulation.{Relation, Sides, one_sided, two_sided}
use Rattle.theory.specs.Rounds.{follow, met}
use Rattle.theory.specs.Parting.{Tells, Parts, Describes, Described, path_expr, Reason, by_link, by_paths, Fails, asked}
use Rattle.theory.proofs.TestLaws.{facts, test_fails}
use Rattle.theory.proofs.WalkLaws.{linked_inside, linked_node}
use Rattle.theory.proofs.ClauseLaws.{apart}

module _ {s : Sides} {l r : Graph} {c d : ℕ} {z : Relation} {chi : ℕ → NodeExpr} (w : WellFormed l) (v : WellFormed r) (f : Described s l r c d z chi) where
  path_len : (p : Path) → len (path_expr chi p) ≡ length p
  unfolding path_expr len
  path_len [] = refl
  path_len (h ∷ p) = omega (arith, path_len p)

  -- what describes the node that a hop of a path leads to
  reached : (x : ℕ) (h : Hop) → linked l x h.label h.to ≡ true → Describes s l r c d z h.to (Node r) (chi h.to)
  reached x h e = f h.to (linked_node w x h.label h.to e)

  path_within : (p : Path) (x : ℕ) → Walk l x p → WithinPath c (path_expr chi p)
  unfolding path_expr Within Walk
  path_within [] x k = tt
  path_within (h ∷ p) x (e, k) = (tt, ((reached x h e).within, path_within p h.to k))

  path_spoken : (p : Path) (x : ℕ) → Walk l x p → s ≡ one_sided → PositivePath (path_expr chi p)
  unfolding path_expr Positive Walk
  path_spoken [] x k i = tt
  path_spoken (h ∷ p) x (e, k) i = (tt, ((reached x h e).spoken i, path_spoken p h.to k i))

  path_tests : (p : Path) (x : ℕ) → Walk l x p → test_depth (path_expr chi p) ≤ d
  unfolding path_expr test_depth Walk
  path_tests [] x k = omega arith
  path_tests (h ∷ p) x (e, k) = omega (arith, (reached x h e).shallow, path_tests p h.to k)

  -- a path takes its own expression, and ends below the size
  path_own : (p : Path) (x : ℕ) → x < l.size → Walk l x p → (end x p < l.size) × (reach l (path_expr chi p) x (end x p) ≡ true)
  unfolding path_expr reach end Walk
  path_own [] x o k = (o, simp facts refl)
  path_own (h ∷ p) x o (e, k) =
      let o' = linked_inside w x h.label h.to e in
      let (i, u) = path_own p h.to o' k in
      (i, simp facts (h.to, o', (e, (h.to, o', ((refl, (reached x h e).own), u)))))

  -- what takes the path's expression in r follows the path
  path_only : (p : Path) (x b y : ℕ) → Walk l x p → reach r (path_expr chi p) b y ≡ true → follow r z p b y ≡ true
  unfolding path_expr reach follow Walk
  path_only [] x b y k h = h
  path_only (h ∷ p) x b y (e, k) t =
      let (m, o, (u, (m', o', ((i, t), t')))) = simp facts at t in
      let j = (reached x h e).only m (linked_node v b h.label m u) t in
      simp facts (m, o, ((u, j), path_only p h.to m y k (rw (← i) at t')))

  -- the expression that a reason gives distinguishes a from b, one deeper than what describes the nodes
  pub parting : (why : Reason) (a b : ℕ) → a < l.size → Fails l r c z a b why → Parts s l r c (suc d) a b (asked chi why)
  unfolding asked holds Within Positive depth met path_expr reach
  parting (by_link h) a b o g =
      let y = h.to in
      let e = g.there in
      let i = linked_inside w a h.label y e in
      let k = reached a h e in
      record {
        tells = record {
          within = (tt, (k.within, tt));
          spoken = λ q. (tt, (k.spoken q, tt));
          left = simp facts (y, i, (y, i, (e, (y, i, ((refl, k.own), refl)))));
          right = test_fails _ _ (λ h.
              let (x, o, (m, o', (u, (m', o'', ((j, t), j'))))) = simp facts at h in
              simp facts (m, o', (u, k.only m (linked_node v b _ m u) t))) g.missing;
        };
        shallow = omega arith;
      }
  parting (by_paths t p q) a b o g =
      let (i, u) = path_own p a o g.walk in
      let (i', u') = path_own q a o g.walk' in
      record {
        tells = record {
          within = (rw path_len g.short, rw path_len g.short', path_within p a g.walk, path_within q a g.walk');
          spoken = λ e. (path_spoken p a g.walk e, path_spoken q a g.walk' e);
          left = simp facts (end a p, i, (u, (end a q, i', (u', g.ends))));
          right = test_fails _ _ (λ h.
              let (x, k, (t, (y, k', (t', j)))) = simp facts at h in
              simp facts (x, k, (path_only p a b x g.walk t, (y, k', (path_only q a b y g.walk' t', j))))) g.missing;
        };
        shallow = omega (arith, path_tests p a g.walk, path_tests q a g.walk');
      }

-- What distinguishes b from a distinguishes a from b when it is denied, and is as deep.
pub tells_back : {s : Sides} {l r : Graph} {c a b : ℕ} {q : NodeExpr} → s ≡ two_sided → Tells s r l c b a q → Tells s l r c a b (neg q)
unfolding holds Within
tells_back e t = record { within = t.within; spoken = λ o. apart o e; left = ap not t.right; right = ap not t.left }

pub part_back : {s : Sides} {l r : Graph} {c d a b : ℕ} {q : NodeExpr} → s ≡ two_sided → Parts s r l c d b a q → Parts s l r c d a b (neg q)
unfolding depth
part_back e p = record { tells = tells_back e p.tells; shallow = p.shallow }
