-- A way of a sheet, step by step: where there is one, and where it ends.
use Rattle.std.specs.Prelude.{true, ◌&&◌, ◌≡◌, refl, List, [], ◌∷◌, ℕ, ◌<◌}
use Rattle.theory.specs.Search.{any}
use Rattle.theory.specs.Graph.{Graph, linked}
use Rattle.theory.specs.Expression.{NodeExpr, exists}
use Rattle.theory.specs.Meaning.{reach, holds}
use Rattle.theory.proofs.TestLaws.{any_iff, and_iff, eqb_iff, test_eq}
use Rattle.sheet.specs.Entry.{Step, named, spell_way}

module _ (g : Graph) (qs : List NodeExpr) where
  -- a way of no steps leads from a node to itself
  pub stays : (x : ℕ) → x < g.size → holds g (exists (spell_way qs [])) x ≡ true
  unfolding holds reach spell_way
  stays x h = (any_iff _ _).1 (x, h, (eqb_iff x x).1 refl)

  -- the ends of a way: a link by the first label to a node where the first test holds, and from there the other steps
  pub reach_step : (s : Step) (ss : List Step) (x z : ℕ)
      → reach g (spell_way qs (s ∷ ss)) x z
      ≡ any g.size (λ y. linked g x s.label y && (holds g (named qs s.test) y && reach g (spell_way qs ss) y z))
  unfolding reach spell_way
  reach_step s ss x z =
      test_eq _ _
      (λ h. let (y, i, (l, (u, j, ((e, t), r)))) = simp (any_iff, and_iff, eqb_iff) at h in
      simp (any_iff, and_iff) (y, i, (l, (t, rw e r))))
      (λ h. let (y, i, (l, (t, r))) = simp (any_iff, and_iff) at h in
      simp (any_iff, and_iff, eqb_iff) (y, i, (l, (y, i, ((refl, t), r)))))

  -- where there is a way
  pub exists_step : (s : Step) (ss : List Step) (x : ℕ)
      → holds g (exists (spell_way qs (s ∷ ss))) x
      ≡ any g.size (λ y. linked g x s.label y && (holds g (named qs s.test) y && holds g (exists (spell_way qs ss)) y))
  unfolding holds
  exists_step s ss x =
      test_eq _ _
      (λ h. let (z, i, (y, j, (l, (t, r)))) = simp (any_iff, reach_step, and_iff) at h in
      simp (any_iff, and_iff) (y, j, (l, (t, (z, i, r)))))
      (λ h. let (y, j, (l, (t, (z, i, r)))) = simp (any_iff, and_iff) at h in
      simp (any_iff, reach_step, and_iff) (z, i, (y, j, (l, (t, r)))))
