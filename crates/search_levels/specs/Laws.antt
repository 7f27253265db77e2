-- Level 0, which the levels begin with.
use Rattle.std.specs.Prelude.{Bool, true, false, ◌≡◌, refl, ℕ, ◌^◌, ◌<◌, length, set}
use Rattle.std.proofs.Math.Path.{sym}
use Rattle.std.proofs.Common.{◌∙◌, length-set}
use mathlib.Core.List.{List, [], ◌∷◌}
use Rattle.std.proofs.Math.Logic.{inl}
use native.Mathlib.Omega.{arith}
use Rattle.theory.proofs.TestLaws.{never}
use Rattle.search_links.specs.Hops.{View}
use Rattle.search_links.specs.Sets.{seen_as}
use Rattle.search_tables.specs.Laws.{covered_by_has, one_has, one_only}
use Rattle.search_steps.specs.Paths.{Trail, end_of, ends_over}
use Rattle.search_levels.specs.declared.Levels.{Levels}
use Rattle.search_levels.specs.Depths.{Laid, Level, Standing, only_first}

-- a path without links
pub empty : (p : List ℕ) → length p ≡ 0 → p ≡ []
empty [] e = refl
empty (k ∷ p) e = absurd (omega arith)

-- ---- level 0: the table with the tip (x, {y})
pub first_laid : (ls rs : List ℕ) (a b : ℕ) → length ls ≡ 64 → length rs ≡ 64 → (t : Levels) → t ≡ only_first → Laid (set ls 0 a) (set rs 0 b) t
unfolding only_first
first_laid ls rs a b ll lr t dt = rw dt (record {
  long = refl;
  order = omega arith;
  few = omega arith;
  rising = λ k m. let e : k ≡ 0 = omega arith in rw e (omega arith);
  room = record { left = length-set ls 0 a ∙ ll; right = length-set rs 0 b ∙ lr; few = omega arith };
})

module _ (v u : View) (z ea eb ls rs : List ℕ) (x y c a b : ℕ) (da : a ≡ 2 ^ x) (db : b ≡ 2 ^ y) (low : x < 64) (ll : length ls ≡ 64) (lr : length rs ≡ 64) (t : Levels) (dt : t ≡ only_first) where
  pub first_standing : Standing v u z ea eb x y c (set ls 0 a) (set rs 0 b) t
  unfolding only_first Trail end_of ends_over seen_as
  first_standing = rw dt (record {
    exact = λ k m. let e : k ≡ 0 = omega arith in rw e (level false);
    each = λ k m. let e : k ≡ 0 = omega arith in rw e (level true);
    none = λ e. never e;
  })
    where
      level : (loose : Bool) → Level v u z ea eb x y loose 0 (set ls 0 a) (set rs 0 b) 1
      level loose = record {
        sound = λ e o h.
            let (dx, dw) = one_only ls rs x (2 ^ y) a b da db ll lr e o h in
            record { path = []; trail = tt; long = omega arith; wide = false; only = λ w. never w; end = inl (sym dx); seen = sym dw };
        whole = λ p tr len. let d : p ≡ [] = empty p (omega arith) in
            rw d (record { wide = false; only = λ w. never w; covered = covered_by_has _ _ _ _ _ (one_has ls rs x (2 ^ y) a b da db ll lr low) });
      }
