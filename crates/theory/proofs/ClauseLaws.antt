-- The tests of a round are the clauses of a simulation.
use Rattle.std.proofs.Math.Bool.{So}
use Rattle.std.specs.Prelude.{◌≡◌, ◌↔◌, ℕ, ◌<◌}
use Rattle.std.proofs.Math.Path.{refl}
use mathlib.Core.List.{[], ◌∷◌, Memᴰ}
use Rattle.std.proofs.Common.{arith}
use Rattle.theory.proofs.TestLaws.{eqb_iff, and_iff, if_iff, any_iff, every_iff}
use Rattle.theory.specs.Graph.{Comparison, same, differ, comparisons, Graph, Node, linked}
use Rattle.theory.specs.Path.{hop, Path, Walk, end}
use Rattle.theory.proofs.WalkLaws.{out_iff, paths_iff}
use Rattle.theory.proofs.FollowLaws.{follow-below}
use Rattle.theory.specs.Bisimulation.{Relation, flip, pairs, Alike, Image, Counterpart, Zig, Sides, one_sided, two_sided}
use Rattle.theory.specs.Rounds.{follow, met, one_link, two_paths, zigs, zags}

-- every comparison is listed
pub listed : (t : Comparison) → Memᴰ t comparisons
unfolding comparisons
listed same = Memᴰ.head refl
listed differ = Memᴰ.tail (Memᴰ.head refl)

-- A link to a related node leads to one of the nodes.
abbrev pub Into : Graph → Relation → Type 0
Into r z = (b x y h : ℕ) → So (linked r b x y) → So (z h y) → Node r y

module _ (r : Graph) (z : Relation) (into : Into r z) where
  image : (p : Path) (b y : ℕ) → So (follow r z p b y) → Image r (pairs z) p b y
  unfolding Walk Alike follow end
  image [] b y e = record { path = []; walk = tt; alike = tt; last = (eqb_iff b y).0 e }
  image (h ∷ p) b y e =
      let t = simp (any_iff, and_iff) at e in
      let i = image p t.0 y t.2.1 in
      record { path = hop h.label t.0 ∷ i.path; walk = (t.2.0.0, i.walk); alike = (refl, t.2.0.1, i.alike); last = i.last }

  followed : (p p' : Path) (b : ℕ) → Walk r b p' → Alike (pairs z) p p' → So (follow r z p b (end b p'))
  unfolding Walk Alike follow end
  followed [] [] b k a = (eqb_iff b b).1 refl
  followed [] (s ∷ p') b k a = absurd a
  followed (h ∷ p) [] b k a = absurd a
  followed (h ∷ p) (s ∷ p') b k a =
      let e : So (linked r b h.label s.to) = rw a.0 k.0 in
      simp (any_iff, and_iff) (s.to, (into b h.label s.to h.to e a.1).below, ((e, a.1), followed p p' s.to k.1 a.2))

  pub follow_iff : (p : Path) (b y : ℕ) → So (follow r z p b y) ↔ Image r (pairs z) p b y
  follow_iff p b y = (image p b y, λ i. rw (← i.last) (followed p i.path b i.walk i.alike))

  pub met_iff : (b : ℕ) (t : Comparison) (p q : Path) → b < r.size → So (met r z b t p q) ↔ Counterpart r (pairs z) t b p q
  unfolding met
  met_iff b t p q h =
      simp (any_iff, and_iff, follow_iff) (
        λ (y, _, (i, (y', _, (i', e)))). record { y = y; y' = y'; first = i; second = i'; ends = e },
        λ c. (c.y, below h c.first, (c.first, (c.y', below h c.second, (c.second, c.ends)))),
      )
    where
      below : {p : Path} {y : ℕ} → b < r.size → Image r (pairs z) p b y → y < r.size
      below {p = p} {y = y} h i = follow-below r z p b y h ((follow_iff p b y).1 i)

  -- the Boolean clause is the clause
  pub zigs_iff : (l : Graph) (c a b : ℕ) → b < r.size → So (zigs l r c z a b) ↔ Zig l r c (pairs z) a b
  unfolding zigs one_link two_paths
  zigs_iff l c a b h =
      simp (and_iff, every_iff, any_iff, if_iff, met_iff, paths_iff, out_iff) (
        λ (links, ways). record {
          two = λ t p q u v wp wq. ways p (wp, u) q (wq, v) t (listed t);
          one = λ x y e. let t = links (hop x y) e in (t.0, t.2.0, t.2.1);
        },
        λ k. (
          λ s e. (let t = k.one s.label s.to e in
              (t.0, (into b s.label t.0 s.to t.1 t.2).below, (t.1, t.2))),
          λ p u q v t _. k.two t p q u.1 v.1 u.0 v.0,
        ),
      )

-- one side is not two
pub apart : {A : Type 0} {s : Sides} → s ≡ one_sided → s ≡ two_sided → A
apart p q = let z : ◌≡◌ {A = ℕ} 0 1 = cc in absurd (omega arith)

pub zags_iff : (s : Sides) (l r : Graph) (c : ℕ) (z : Relation) (a b : ℕ) → Into l (flip z) → a < l.size
    → So (zags s l r c z a b) ↔ (s ≡ two_sided → Zig r l c (pairs (flip z)) b a)
unfolding zags
zags_iff one_sided l r c z a b into h = (λ _ e. apart refl e, λ _. refl)
zags_iff two_sided l r c z a b into h =
    (λ e _. (zigs_iff l (flip z) into r c b a h).0 e, λ f. (zigs_iff l (flip z) into r c b a h).1 (f refl))
