-- The rounds descend, settle within as many rounds as there are pairs, and settle to the greatest.
--
-- A round keeps a pair exactly when the clauses hold for it under the relation before (`round_iff`), so each relation is within the one before, and as
-- long as the table changes the number of its pairs falls. It starts at no more than n × m, so after n × m rounds the table stands still (`last`, `fixed`), and a
-- relation that a round leaves as it is has only pairs whose clauses hold under itself: it is a simulation, or a bisimulation (`sided_iff`).
-- Every other lies within it: it lies within the first table, which has all pairs of nodes; and if it lies within one round's relation it lies within the next,
-- because clauses that hold under a relation hold under any larger one (`zig_near`, `within`). Nothing here asks whether that other one can be computed.
use Rattle.std.specs.Prelude.{true, ◌≡◌, ◌↔◌, ◌⊎◌, length}
use Rattle.std.proofs.Math.Bool.{false, So}
use Rattle.std.proofs.Math.Path.{refl, sym, ap}
use Rattle.std.proofs.Common.{◌∙◌, inl, inr, le_of_eq, not-suc-le-zero, le_of_suc-le-suc, arith}
use Rattle.std.proofs.Math.Logic.{⊎_elim}
use mathlib.Core.List.{[], ◌∷◌}
use Prim.Native.Nat.{ℕ, zero, suc, ◌*◌, ◌≤◌, ◌<◌, suc-le-suc}
use Rattle.std.proofs.Math.ListN.{get_or}
use Rattle.theory.proofs.TestLaws.{never, le-or-lt, and_iff, test_eq, list_at, list_past, list_ext}
use Rattle.theory.specs.Graph.{Graph, Node, WellFormed, linked}
use Rattle.theory.specs.Path.{Hop, hop, Path, Walk, end}
use Rattle.theory.proofs.WalkLaws.{linked_node}
use Rattle.theory.specs.Bisimulation.{Relation, flip, Pairs, pairs, Under, Alike, Image, Zig, Sides, one_sided, two_sided, Sided, Greatest}
use Rattle.theory.specs.Rounds.{Table, related, table, zigs, zags, round, rounds, after, settled}
use Rattle.theory.proofs.ClauseLaws.{apart, zigs_iff, zags_iff}
use Rattle.theory.proofs.SettleLaws.{sum, sum-le, sum-eq, sum_most, bit, bit_most, bit_le, bit-eq, stays, settles_by}

module _ (n m : ℕ) (z : Relation) where
  pub related-at : (a b : ℕ) → a < n → b < m → related (table n m z) a b ≡ z a b
  unfolding table
  related-at a b h k = ap (λ row. get_or row b false) (list_at n _ a [] h) ∙ list_at m _ b false k

  related_in : (a b : ℕ) → So (related (table n m z) a b) → (a < n) × (b < m)
  unfolding table
  related_in a b e =
      ⊎_elim (λ h. never (sym (ap (λ row. get_or row b false) (list_past n _ a [] h)) ∙ e))
      (λ h. ⊎_elim (λ k. never (sym (ap (λ row. get_or row b false) (list_at n _ a [] h) ∙ list_past m _ b false k) ∙ e)) (λ k. (h, k)) (le-or-lt m b))
      (le-or-lt n a)

  -- what a table relates: numbers in range that its relation relates
  pub related_iff : (a b : ℕ) → So (related (table n m z) a b) ↔ ((a < n) × (b < m) × So (z a b))
  related_iff a b =
      (λ e. let t = related_in a b e in (t.0, t.1, rw (← related-at a b t.0 t.1) e), λ t. rw (related-at a b t.0 t.1) t.2)

pub table_ext : (n m : ℕ) (z y : Relation) → ((a b : ℕ) → a < n → b < m → z a b ≡ y a b) → table n m z ≡ table n m y
unfolding table
table_ext n m z y h = list_ext n _ _ (λ a i. list_ext m _ _ (λ b k. h a b i k))

-- ---- clauses that hold under z hold under more, if the pairs of z near the two nodes are among the more

-- At most d links lead from a to x.
pub record Near (g : Graph) (d a x : ℕ) : Type 0 where
  pub path : Path
  pub walk : Walk g a path
  pub short : length path ≤ d
  pub last : end a path ≡ x

module _ {g : Graph} {d a : ℕ} (h : Hop) (e : linked g a h.label h.to ≡ true) where
  -- a link before
  near_step : {x : ℕ} → Near g d h.to x → Near g (suc d) a x
  unfolding Walk end
  near_step n = record { path = h ∷ n.path; walk = (e, n.walk); short = suc-le-suc n.short; last = n.last }

  -- one link
  near_link : 1 ≤ d → Near g d a h.to
  unfolding Walk end
  near_link o = record { path = h ∷ []; walk = (e, tt); short = o; last = refl }

-- Every pair of z that is near a and b is one of y.
abbrev NearUnder : Graph → Graph → Pairs → Pairs → ℕ → ℕ → ℕ → Type 0
NearUnder l r z y d a b = (x x' : ℕ) → Near l d a x → Near r d b x' → z x x' → y x x'

module _ {l r : Graph} {z y : Pairs} where
  alike_near : (d : ℕ) (p q : Path) (a b : ℕ) → length p ≤ d → Walk l a p → Walk r b q → NearUnder l r z y d a b → Alike z p q → Alike y p q
  unfolding Alike Walk
  alike_near d [] [] a b s v w more h = tt
  alike_near d [] (k ∷ q) a b s v w more h = h
  alike_near d (k ∷ p) [] a b s v w more h = h
  alike_near zero (k ∷ p) (t ∷ q) a b s v w more h = absurd (not-suc-le-zero s)
  alike_near (suc d) (k ∷ p) (t ∷ q) a b s v w more h = (
    h.0,
    more k.to t.to (near_link k v.0 (omega arith)) (near_link t w.0 (omega arith)) h.1,
    alike_near d p q k.to t.to (le_of_suc-le-suc s) v.1 w.1 (λ x x' n m. more x x' (near_step k v.0 n) (near_step t w.0 m)) h.2,
  )

  pub zig_near : (d : ℕ) {c a b : ℕ} → 1 ≤ d → c ≤ d → NearUnder l r z y d a b → Zig l r c z a b → Zig l r c y a b
  zig_near d {c} {a} {b} one all more k =
      record {
        two = λ t p q u v wp wq e.
            let s = k.two t p q u v wp wq e in
            record { y = s.y; y' = s.y'; first = image p u wp s.first; second = image q v wq s.second; ends = s.ends };
        one = λ x y e. let t = k.one x y e in (t.0, t.1, more y t.0 (near_link (hop x y) e one) (near_link (hop x t.0) t.1 one) t.2);
      }
    where
      image : (p : Path) {y' : ℕ} → length p ≤ c → Walk l a p → Image r z p b y' → Image r y p b y'
      image p u w i =
          record { path = i.path; walk = i.walk; alike = alike_near d p i.path a b (omega arith) w i.walk more i.alike; last = i.last }

-- What a round asks of a pair that it keeps.
pub record Kept (s : Sides) (l r : Graph) (c : ℕ) (z : Pairs) (a b : ℕ) : Type 0 where
  pub left : Node l a
  pub right : Node r b
  pub before : z a b
  pub zig : Zig l r c z a b
  pub zag : s ≡ two_sided → Zig r l c (λ y x. z x y) b a

-- A relation all of whose pairs are kept is a simulation or a bisimulation, and the other way round.
pub sided_iff : (s : Sides) (l r : Graph) (c : ℕ) (z : Pairs) → Sided s l r c z ↔ ((a b : ℕ) → z a b → Kept s l r c z a b)
sided_iff one_sided l r c z = (
  λ m a b e. record { left = m.left a b e; right = m.right a b e; before = e; zig = m.zig a b e; zag = λ q. apart refl q },
  λ k. record { left = λ a b e. (k a b e).left; right = λ a b e. (k a b e).right; zig = λ a b e. (k a b e).zig },
)
sided_iff two_sided l r c z = (
  λ m a b e. record {
    left = m.forth.left a b e;
    right = m.forth.right a b e;
    before = e;
    zig = m.forth.zig a b e;
    zag = λ _. m.back.zig b a e;
  },
  λ k. record {
    forth = record { left = λ a b e. (k a b e).left; right = λ a b e. (k a b e).right; zig = λ a b e. (k a b e).zig };
    back = record { left = λ b a e. (k a b e).right; right = λ b a e. (k a b e).left; zig = λ b a e. (k a b e).zag refl };
  },
)

-- How many pairs a table relates.
unfoldable pub count : ℕ → ℕ → Table → ℕ
count n m t = sum n (λ a. sum m (λ b. bit (related t a b)))

module _ (s : Sides) {l r : Graph} (c : ℕ) (wl : WellFormed l) (wr : WellFormed r) where
  -- the first relation has the pairs of nodes
  pub start_iff : (a b : ℕ) → So (after s l r c 0 a b) ↔ (Node l a × Node r b)
  unfolding rounds
  start_iff a b =
      simp (related_iff, and_iff) (
        λ (h, k, (i, j)). (record { below = h; seen = i }, record { below = k; seen = j }),
        λ (n, m). (n.below, m.below, (n.seen, m.seen)),
      )

  pub descends : (k : ℕ) → Under (pairs (after s l r c (suc k))) (pairs (after s l r c k))
  unfolding rounds round
  descends k a b e = let (_, _, h) = (related_iff _ _ _ a b).0 e in ((and_iff _ _).0 h).0

  -- every round's relation is one among the nodes
  pub after_inside : (k a b : ℕ) → So (after s l r c k a b) → Node l a × Node r b
  after_inside zero a b e = (start_iff a b).0 e
  after_inside (suc k) a b e = after_inside k a b (descends k a b e)

  pub round_iff : (t : Table) → ((a b : ℕ) → So (related t a b) → Node l a × Node r b)
      → (a b : ℕ) → So (related (round s l r c t) a b) ↔ Kept s l r c (pairs (related t)) a b
  unfolding round
  round_iff t inside a b =
      simp (related_iff, and_iff) (
        λ (h, k, (e, (i, j))). let (n, m) = inside a b e in record { left = n; right = m; before = e; zig = (forth k).0 i; zag = (back h).0 j },
        λ p. (p.left.below, p.right.below, (p.before, ((forth p.right.below).1 p.zig, (back p.left.below).1 p.zag))),
      )
    where
      forth : b < r.size → So (zigs l r c (related t) a b) ↔ Zig l r c (pairs (related t)) a b
      forth = zigs_iff r (related t) (λ b x y h e i. linked_node wr b x y e) l c a b

      back : a < l.size → So (zags s l r c (related t) a b) ↔ (s ≡ two_sided → Zig r l c (pairs (flip (related t))) b a)
      back = zags_iff s l r c (related t) a b (λ b x y h e i. linked_node wl b x y e)

  -- a round keeps the pairs whose clauses hold under the relation before
  pub next_iff : (k a b : ℕ) → So (after s l r c (suc k) a b) ↔ Kept s l r c (pairs (after s l r c k)) a b
  unfolding rounds
  next_iff k = round_iff (rounds s l r c k) (after_inside k)

  -- A pair that a round keeps is kept by the next one too, if the round dropped no pair near it.
  pub near_kept : (d k a b : ℕ) → 1 ≤ d → c ≤ d → ((x y : ℕ) → Near l d a x → Near r d b y → So (after s l r c k x y) → So (after s l r c (suc k) x y))
      → So (after s l r c (suc k) a b) → So (after s l r c (suc (suc k)) a b)
  near_kept d k a b one all more e =
      let t = (next_iff k a b).0 e in
      (next_iff (suc k) a b).1 (record {
        left = t.left;
        right = t.right;
        before = e;
        zig = zig_near d one all more t.zig;
        zag = λ q. zig_near d one all (λ y x n m. more x y m n) (t.zag q);
      })

  -- every simulation (or bisimulation) lies within every round
  pub within : (z : Pairs) → Sided s l r c z → (k : ℕ) → Under z (pairs (after s l r c k))
  within z m zero a b e = let p = (sided_iff s l r c z).0 m a b e in (start_iff a b).1 (p.left, p.right)
  within z m (suc k) a b e =
      let p = (sided_iff s l r c z).0 m a b e in
      (next_iff k a b).1 (record {
        left = p.left;
        right = p.right;
        before = within z m k a b e;
        zig = zig_near (suc c) (omega arith) (omega arith) (λ x y _ _. within z m k x y) p.zig;
        zag = λ q. zig_near (suc c) (omega arith) (omega arith) (λ x y _ _. within z m k y x) (p.zag q);
      })

  tabled : (k : ℕ) → rounds s l r c k ≡ table l.size r.size (after s l r c k)
  unfolding rounds round
  tabled zero = table_ext _ _ _ _ (λ a b h k. sym (related-at _ _ _ a b h k))
  tabled (suc k) = table_ext _ _ _ _ (λ a b h k. sym (related-at _ _ _ a b h k))

  -- rounds that relate the same numbers have one table
  rounds_ext : (j k : ℕ) → ((a b : ℕ) → a < l.size → b < r.size → after s l r c j a b ≡ after s l r c k a b) → rounds s l r c j ≡ rounds s l r c k
  rounds_ext j k h = tabled j ∙ table_ext _ _ _ _ h ∙ sym (tabled k)

  -- and the next rounds relate the same
  pub next_ext : (j k : ℕ) → ((a b : ℕ) → a < l.size → b < r.size → after s l r c j a b ≡ after s l r c k a b)
      → (a b : ℕ) → after s l r c (suc j) a b ≡ after s l r c (suc k) a b
  unfolding rounds
  next_ext j k h a b = ap (λ t. related (round s l r c t) a b) (rounds_ext j k h)

  -- a round that relates as many pairs relates the same
  same : (k : ℕ) → count l.size r.size (rounds s l r c k) ≤ count l.size r.size (rounds s l r c (suc k))
      → (a b : ℕ) → a < l.size → b < r.size → after s l r c (suc k) a b ≡ after s l r c k a b
  unfolding count
  same k e a b h i =
      bit-eq _ _ (sum-eq _ _ (fewer a) r.size (le_of_eq (sym (sum-eq _ _ (λ x. sum-le _ _ (fewer x) r.size) l.size e a h))) b i)
    where
      fewer : (x y : ℕ) → bit (after s l r c (suc k) x y) ≤ bit (after s l r c k x y)
      fewer x y = bit_le _ _ (descends k x y)

  down : (k : ℕ) → (rounds s l r c (suc k) ≡ rounds s l r c k) ⊎ (count l.size r.size (rounds s l r c (suc k)) < count l.size r.size (rounds s l r c k))
  down k = ⊎_elim (λ e. inl (rounds_ext (suc k) k (same k e))) inr (le-or-lt _ _)

  most : count l.size r.size (rounds s l r c 0) ≤ l.size * r.size
  unfolding count
  most = sum_most _ _ _ (λ a. omega (arith, sum_most r.size 1 (λ b. bit (after s l r c 0 a b)) (λ b. bit_most _)))

  -- after as many rounds as there are pairs no round changes the table
  pub last : (k : ℕ) → l.size * r.size ≤ k → rounds s l r c k ≡ settled s l r c
  unfolding settled rounds
  last = settles_by (rounds s l r c) (count l.size r.size) down (round s l r c) (λ k. refl) (l.size * r.size) most

  pub fixed : round s l r c (settled s l r c) ≡ settled s l r c
  unfolding settled rounds
  fixed = last (suc (l.size * r.size)) (omega arith)

  -- what the rounds settle to is the greatest
  pub greatest : Greatest s l r c (related (settled s l r c))
  unfolding settled
  greatest =
      record {
        is = (sided_iff s l r c _).1 (λ a b e. (round_iff (settled s l r c) (after_inside (l.size * r.size)) a b).0 (rw fixed e));
        most = λ y m. within y m (l.size * r.size);
      }

  -- a round that drops no pair leaves the greatest
  pub still_settled : (k : ℕ) → Under (pairs (after s l r c k)) (pairs (after s l r c (suc k))) → rounds s l r c k ≡ settled s l r c
  unfolding settled rounds
  still_settled k h =
      let e = rounds_ext (suc k) k (λ a b _ _. test_eq _ _ (descends k a b) (h a b)) in
      ⊎_elim (λ i. sym (stays (rounds s l r c) (count l.size r.size) down (round s l r c) (λ k. refl) k e (l.size * r.size) i))
      (λ i. last k (omega arith)) (le-or-lt k (l.size * r.size))

  -- a round that drops a pair is one of the first n × m
  pub round_most : (k a b : ℕ) → So (after s l r c k a b) → after s l r c (suc k) a b ≡ false → suc k ≤ l.size * r.size
  round_most k a b e f =
      ⊎_elim (λ i. never (sym f ∙ rw (last (suc k) (omega arith), ← last k i) e)) (λ i. i) (le-or-lt (l.size * r.size) k)
