-- From the numbered paths and the words to the theory's paths, `follow` and `met`.
use Rattle.std.specs.Prelude.{Bool, true, false, ◌≡◌, ◌↔◌, eqb, length, get_or}
use Rattle.std.proofs.Math.Bool.{So, not, ◌&&◌}
use Rattle.std.proofs.lemmas.Bool.{false≢true}
use Rattle.std.proofs.Math.Path.{refl, sym, ap, ap₂}
use Rattle.std.proofs.Common.{◌∙◌, lt_of_le_of_lt, arith}
use mathlib.Core.List.{List, [], ◌∷◌}
use Prim.Native.Nat.{ℕ, suc, ◌^◌, ◌<◌}
use borrow.Author.Tests.{eqb-true, eq-eqb, ne_eqb}
use Rattle.std.specs.Int.Bits.{bit_and}
use Rattle.std.proofs.lemmas.Nat.{and_le_l}
use Rattle.std.proofs.Math.Pow.{pow-lt}
use Rattle.theory.specs.Search.{any}
use Rattle.theory.proofs.TestLaws.{any_ext, any_iff, and_iff, test_eq}
use Rattle.theory.specs.Graph.{Comparison, Graph, linked}
use Rattle.theory.specs.Path.{Hop, hop, Path, Walk, end}
use Rattle.theory.proofs.WalkLaws.{linked_inside, end_inside}
use Rattle.theory.specs.Bisimulation.{Relation}
use Rattle.theory.specs.Rounds.{follow, met}
use Rattle.theory.proofs.FollowLaws.{follow-below}
use Rattle.words.specs.Words.{bit}
use Rattle.words.specs.Laws.{bit-and, bit-pow}
use Rattle.edges.specs.Edges.{meets}
use Rattle.edges.specs.Laws.{meets-zero}
use Rattle.search_links.specs.Hops.{View, start_of, label_of, to_of, hop_at, hops_of}
use Rattle.search_links.specs.Sets.{among, reached, spread, image_of, row_at}
use Rattle.search_links.specs.Laws.{among_iff, linked-among, bit-reached, bit-spread, spread-lt}
use Rattle.search_steps.specs.Paths.{Leaves, Trail, end_of, path_of, step_word, ends_over}
use Rattle.search_steps.specs.Laws.{hop_in, hop-out}
use Rattle.search_pairs.specs.Pairs.{failing, alone}
use Rattle.search.specs.Reasons.{number_of, Drawn}

-- ---- numbered paths
module _ (v : View) where
  end_path : (x : ℕ) (w : List ℕ) → end_of v x w ≡ end x (path_of v w)
  unfolding end_of path_of end
  end_path x [] = refl
  end_path x (k ∷ w) = end_path (to_of v k) w

  pub path_length : (p : List ℕ) → length (path_of v p) ≡ length p
  unfolding path_of
  path_length [] = refl
  path_length (k ∷ p) = ap suc (path_length p)

  module _ (g : Graph) (ends : List ℕ) (s : Drawn g v ends) where
    linked_is : (x a y : ℕ) → x < 64 → linked g x a y ≡ among (hops_of v x) a y
    linked_is x a y l = linked-among g (hops_of v x) x a y (s.hops x l)

    inside : (x a y : ℕ) → x < 64 → So (among (hops_of v x) a y) → y < 64
    inside x a y l e = let i = linked_inside s.formed x a y (rw (linked_is x a y l) e) in omega (arith, s.small)

    -- the links out of a node are its hops
    pub leaves_linked : (x k : ℕ) → x < 64 → Leaves v x k → So (linked g x (label_of v k) (to_of v k))
    leaves_linked x k l o =
        linked_is x (label_of v k) (to_of v k) l ∙ (among_iff (hops_of v x) (label_of v k) (to_of v k)).1 (hop_in v (start_of v x) _ k o.from (omega (arith, o.until)))

    pub linked_leaves : (x a y : ℕ) → x < 64 → So (linked g x a y) → (k : ℕ) × Leaves v x k × (hop a y ≡ hop_at v k)
    linked_leaves x a y l e =
        let (k, m, b, q) = hop-out v (start_of v x) _ (hop a y) ((among_iff (hops_of v x) a y).0 (sym (linked_is x a y l) ∙ e)) in
        (k, record { from = m; until = omega arith }, q)

    -- the numbered paths are the paths
    pub trail_walk : (x : ℕ) (w : List ℕ) → x < 64 → Trail v x w → Walk g x (path_of v w)
    unfolding Trail path_of Walk
    trail_walk x [] l t = tt
    trail_walk x (k ∷ w) l (o, t) =
        let e = leaves_linked x k l o in
        (e, trail_walk (to_of v k) w (inside x (label_of v k) (to_of v k) l (sym (linked_is x (label_of v k) (to_of v k) l) ∙ e)) t)

    pub walk_trail : (x : ℕ) (p : Path) → x < 64 → Walk g x p → (w : List ℕ) × Trail v x w × (path_of v w ≡ p)
    unfolding Trail path_of Walk
    walk_trail x [] l k = ([], tt, refl)
    walk_trail x (h ∷ p) l (k, r) =
        let (j, o, q) = linked_leaves x h.label h.to l k in
        let t : h.to ≡ to_of v j = ap (λ (h : Hop). h.to) q in
        let (u, n, e) = walk_trail (to_of v j) p (inside x h.label (to_of v j) l (sym (linked_is x h.label (to_of v j) l) ∙ rw (← t) k)) (rw t at r) in
        (j ∷ u, (o, n), (cc))

-- ---- words
-- the relation of rows of words
abbrev pub relation_of : List ℕ → Relation
relation_of rows a b = bit (get_or rows a 0) b

-- words without a common node
apart_iff : (a b : ℕ) → a < 2 ^ 64 → eqb (bit_and a b) 0 ≡ not (meets a b)
apart_iff a b l = by (meets a b) refl
  where
    by : (e : Bool) → meets a b ≡ e → eqb (bit_and a b) 0 ≡ not e
    by true h = ne_eqb (bit_and a b) 0 (λ z. false≢true (sym ((meets-zero a b l).0 z) ∙ h))
    by false h = eq-eqb (bit_and a b) 0 ((meets-zero a b l).1 h)

-- ---- the words are `follow`
module _ (v u : View) (r : Graph) (ends : List ℕ) (s : Drawn r u ends) (rows : List ℕ) where
  bit-image : (w a y : ℕ) → y < 64 → So (bit (image_of u w a) y) ↔ ((x : ℕ) × (x < 64) × So (bit w x) × So (linked r x a y))
  bit-image w a y l = (
    λ e.
        let (x, lx, (p, q)) = simp (any_iff, and_iff) at (sym (bit-spread (λ x. reached (hops_of u x) a) w y l) ∙ e) in
        (x, lx, p, linked_is u r ends s x a y lx ∙ sym (bit-reached (hops_of u x) a y l) ∙ q),
    λ (x, lx, p, q).
        bit-spread (λ x. reached (hops_of u x) a) w y l
        ∙ (any_iff 64 _).1 (x, lx, (and_iff _ _).1 (p, bit-reached (hops_of u x) a y l ∙ sym (linked_is u r ends s x a y lx) ∙ q)),
  )

  -- a node of the next word
  step_iff : (w a t y : ℕ) → y < 64 → So (bit (step_word u rows w a t) y) ↔ ((x : ℕ) × (x < 64) × So (bit w x) × So (linked r x a y) × So (relation_of rows t y))
  unfolding step_word
  step_iff w a t y l = (
    λ e.
        let (i, j) = (and_iff _ _).0 (sym (bit-and (image_of u w a) (get_or rows t 0) y) ∙ e) in
        let (x, lx, p, q) = (bit-image w a y l).0 i in
        (x, lx, p, q, j),
    λ (x, lx, p, q, j). bit-and (image_of u w a) (get_or rows t 0) y ∙ (and_iff _ _).1 ((bit-image w a y l).1 (x, lx, p, q), j),
  )

  ends_follow : (p : List ℕ) (w y : ℕ) → y < 64 → So (bit (ends_over v u rows w p) y) ↔ ((x : ℕ) × (x < 64) × So (bit w x) × So (follow r (relation_of rows) (path_of v p) x y))
  unfolding ends_over follow path_of
  ends_follow [] w y l = (λ e. (y, l, e, eq-eqb y y refl), λ (x, lx, e, f). let q : x ≡ y = eqb-true x y f in rw q at e)
  ends_follow (k ∷ p) w y l = (
    λ e.
        let (x', lx', e', f) = (ends_follow p (step_word u rows w (label_of v k) (to_of v k)) y l).0 e in
        let (x, lx, h, i, j) = (step_iff w (label_of v k) (to_of v k) x' lx').0 e' in
        (x, lx, h, simp (any_iff, and_iff) (x', linked_inside s.formed x (label_of v k) x' i, ((i, j), f))),
    λ (x, lx, h, g).
        let (x', lx', ((i, j), f)) = simp (any_iff, and_iff) at g in
        let m : x' < 64 = omega (arith, s.small) in
        (ends_follow p (step_word u rows w (label_of v k) (to_of v k)) y l).1 (x', m, (step_iff w (label_of v k) (to_of v k) x' m).1 (x, lx, h, i, j), f),
  )

  -- from one node
  pub ends_from : (b : ℕ) → b < 64 → (p : List ℕ) (y : ℕ) → y < 64 → So (bit (ends_over v u rows (2 ^ b) p) y) ↔ So (follow r (relation_of rows) (path_of v p) b y)
  ends_from b lb p y l = (
    λ e. let (x, lx, h, f) = (ends_follow p (2 ^ b) y l).0 e in let q : b ≡ x = eqb-true b x (sym (bit-pow b x) ∙ h) in rw (← q) at f,
    λ f. (ends_follow p (2 ^ b) y l).1 (b, lb, bit-pow b b ∙ eq-eqb b b refl, f),
  )

step_small : (u : View) (rows : List ℕ) (w a t : ℕ) → step_word u rows w a t < 2 ^ 64
unfolding step_word
step_small u rows w a t = lt_of_le_of_lt (and_le_l (image_of u w a) (get_or rows t 0)) (spread-lt _ w)

pub over-lt : (v u : View) (rows : List ℕ) (p : List ℕ) (w : ℕ) → w < 2 ^ 64 → ends_over v u rows w p < 2 ^ 64
unfolding ends_over
over-lt v u rows [] w l = l
over-lt v u rows (k ∷ p) w l = over-lt v u rows p _ (step_small u rows w (label_of v k) (to_of v k))

-- ---- another relation that agrees on the nodes
module _ (l r : Graph) (z z' : Relation) (agree : (x y : ℕ) → x < l.size → y < r.size → z x y ≡ z' x y) (ends : List ℕ) (v : View) (s : Drawn l v ends) where
  follow_ext : (p : Path) (x b y : ℕ) → Walk l x p → follow r z p b y ≡ follow r z' p b y
  unfolding follow Walk
  follow_ext [] x b y k = refl
  follow_ext (h ∷ p) x b y (k, w) =
      any_ext r.size _ _
      (λ b' m.
      ap₂ ◌&&◌ (ap (λ (c : Bool). linked r b h.label b' && c) (agree h.to b' (linked_inside s.formed x h.label h.to k) m))
      (follow_ext p h.to b' y w))

  pub met_ext : (t : Comparison) (p q : Path) (x b : ℕ) → Walk l x p → Walk l x q → met r z b t p q ≡ met r z' b t p q
  unfolding met
  met_ext t p q x b wp wq =
      any_ext r.size _ _
      (λ y m. ap₂ ◌&&◌ (follow_ext p x b y wp) (any_ext r.size _ _ (λ y' m'. ap (λ (c : Bool). c && r.ends t y y') (follow_ext q x b y' wq))))

-- ---- two paths are alone where they pass t and have no counterpart
module _ (v u : View) (l r : Graph) (rows ea eb : List ℕ) (dl : Drawn l v ea) (dr : Drawn r u eb) (t : Comparison) (x y : ℕ) (lx : x < l.size) (ly : y < r.size) where
  small : y < 64
  small = omega (arith, dr.small)

  met_is : (p q : List ℕ) → meets (ends_over v u rows (2 ^ y) q) (spread (row_at eb (number_of t)) (ends_over v u rows (2 ^ y) p))
      ≡ met r (relation_of rows) y t (path_of v p) (path_of v q)
  unfolding met meets
  met_is p q = test_eq _ _ to from
    where
      to : So (any 64 (λ i. bit (ends_over v u rows (2 ^ y) q) i && bit (spread (row_at eb (number_of t)) (ends_over v u rows (2 ^ y) p)) i))
          → So (any r.size (λ i. follow r (relation_of rows) (path_of v p) y i
          && any r.size (λ j. follow r (relation_of rows) (path_of v q) y j && r.ends t i j)))
      to e =
          let (j, lj, (f, g)) = simp (any_iff, and_iff) at e in
          let (i, li, (f', h)) = simp (any_iff, and_iff) at (sym (bit-spread (row_at eb (number_of t)) (ends_over v u rows (2 ^ y) p) j lj) ∙ g) in
          let a = (ends_from v u r eb dr rows y small q j lj).0 f in
          let b = (ends_from v u r eb dr rows y small p i li).0 f' in
          let bi = follow-below r (relation_of rows) (path_of v p) y i ly b in
          let bj = follow-below r (relation_of rows) (path_of v q) y j ly a in
          simp (any_iff, and_iff) (i, bi, (b, (j, bj, (a, sym (dr.rows t i j bi bj) ∙ h))))

      from : So (any r.size (λ i. follow r (relation_of rows) (path_of v p) y i
          && any r.size (λ j. follow r (relation_of rows) (path_of v q) y j && r.ends t i j)))
          → So (any 64 (λ i. bit (ends_over v u rows (2 ^ y) q) i && bit (spread (row_at eb (number_of t)) (ends_over v u rows (2 ^ y) p)) i))
      from e =
          let (i, bi, (b, (j, bj, (a, h)))) = simp (any_iff, and_iff) at e in
          let li : i < 64 = omega (arith, dr.small) in
          let lj : j < 64 = omega (arith, dr.small) in
          let g = bit-spread (row_at eb (number_of t)) (ends_over v u rows (2 ^ y) p) j lj
          ∙ (any_iff 64 (λ x. bit (ends_over v u rows (2 ^ y) p) x && bit (row_at eb (number_of t) x) j)).1
          (i, li, (and_iff _ _).1 ((ends_from v u r eb dr rows y small p i li).1 b, dr.rows t i j bi bj ∙ h)) in
          simp (any_iff, and_iff) (j, lj, ((ends_from v u r eb dr rows y small q j lj).1 a, g))

  pub alone_is : (p q : List ℕ) → Walk l x (path_of v p) → Walk l x (path_of v q)
      → alone v u rows ea eb x y (number_of t) p q ≡ l.ends t (end x (path_of v p)) (end x (path_of v q)) && not (met r (relation_of rows) y t (path_of v p) (path_of v q))
  unfolding alone failing
  alone_is p q wp wq =
      ap₂ ◌&&◌
      (ap₂ (λ (i j : ℕ). bit (row_at ea (number_of t) i) j) (end_path v x p) (end_path v x q)
      ∙ dl.rows t _ _ (end_inside dl.formed x (path_of v p) lx wp) (end_inside dl.formed x (path_of v q) lx wq))
      (apart_iff _ _ (over-lt v u rows q (2 ^ y) (pow-lt small)) ∙ ap not (met_is p q))
