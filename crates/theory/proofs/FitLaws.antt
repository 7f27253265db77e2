-- The meaning of a path expression by paths: where it leads from x to y, some path from x to y fits it.
use Rattle.std.specs.Prelude.{true, [], ◌∷◌, ◌++◌, ◌⊎◌, ◌≡◌, ℕ, ◌≤◌, length}
use Rattle.std.proofs.Math.Logic.{inl, inr}
use Rattle.std.proofs.Math.Path.{refl}
use Rattle.std.proofs.Common.{arith}
use Rattle.std.proofs.Math.ListN.{length-append}
use Rattle.theory.specs.Graph.{Graph}
use Rattle.theory.specs.Expression.{PathExpr, stay, step, test, seq, union}
use Rattle.theory.specs.Bound.{len}
use Rattle.theory.specs.Path.{hop, Path, Walk, end}
use Rattle.theory.specs.Meaning.{reach, holds}
use Rattle.theory.proofs.TestLaws.{facts}
use Rattle.theory.proofs.FollowLaws.{end-append, walk_append}

-- The path p from x has the labels of w in order, and passes its tests.
unfoldable pub Fits : Graph → PathExpr → ℕ → Path → Type 0
Fits g stay x p = p ≡ []
Fits g (step e) x p = (y : ℕ) × (p ≡ (hop e y ∷ []))
Fits g (test q) x p = (p ≡ []) × (holds g q x ≡ true)
Fits g (seq w v) x p = (p₁ p₂ : Path) × (p ≡ p₁ ++ p₂) × Fits g w x p₁ × Fits g v (end x p₁) p₂
Fits g (union w v) x p = Fits g w x p ⊎ Fits g v x p

-- A path of g from x to y that fits w, no longer than w.
pub record Along (g : Graph) (w : PathExpr) (x y : ℕ) : Type 0 where
  pub path : Path
  pub walk : Walk g x path
  pub ends : end x path ≡ y
  pub short : length path ≤ len w
  pub fits : Fits g w x path

module _ (g : Graph) where
  widen : (w v : PathExpr) (x y : ℕ) → len w ≤ len v → ((p : Path) → Fits g w x p → Fits g v x p) → Along g w x y → Along g v x y
  widen w v x y s f p = record {
    path = p.path;
    walk = p.walk;
    ends = p.ends;
    short = omega arith;
    fits = f p.path p.fits;
  }

  pub reach_fits : (w : PathExpr) (x y : ℕ) → reach g w x y ≡ true → Along g w x y
  unfolding reach len Fits Walk end
  reach_fits stay x y h = record { path = []; walk = tt; ends = simp facts at h; short = omega arith; fits = refl }
  reach_fits (step e) x y h =
      record { path = hop e y ∷ []; walk = (h, tt); ends = refl; short = omega arith; fits = (y, refl) }
  reach_fits (test q) x y h =
      let (e, t) = simp facts at h in
      record { path = []; walk = tt; ends = e; short = omega arith; fits = (refl, t) }
  reach_fits (seq w v) x y h =
      let (m, o, (u, t)) = simp facts at h in join m (reach_fits w x m u) (reach_fits v m y t)
    where
      join : (m : ℕ) → Along g w x m → Along g v m y → Along g (seq w v) x y
      join m p q = record {
        path = p.path ++ q.path;
        walk = walk_append g x p.path q.path p.walk (rw p.ends q.walk);
        ends = rw (end-append, p.ends) q.ends;
        short = simp length-append (omega arith);
        fits = (p.path, q.path, refl, p.fits, rw p.ends q.fits);
      }
  reach_fits (union w v) x y h = elim (simp facts at h) [
    | inl u ↦ widen w (union w v) x y (omega arith) (λ p f. inl f) (reach_fits w x y u)
    | inr u ↦ widen v (union w v) x y (omega arith) (λ p f. inr f) (reach_fits v x y u)
  ]
