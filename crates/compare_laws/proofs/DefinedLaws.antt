-- What the definition of the comparison gives: the invariant holds before every place of every round, so all that is promised of the entries and the map
-- (`Compared`) holds of them, whatever code may do. And what code cites that goes from place to place: when the next state is this one, when it is the step
-- for a pair that is judged, and that there is room for it.
use Rattle.std.specs.Prelude.{Bool, true, false, ◌≢◌, ◌≡◌, length}
use Rattle.std.proofs.Math.Bool.{So}
use Rattle.std.proofs.lemmas.Bool.{false≢true}
use Rattle.std.proofs.Math.Path.{refl, ap}
use Rattle.std.proofs.Common.{sym, ◌∙◌, subst, le_refl, div-add-mod', mul-le-mul, mul-le-mul_left, arith, eqb-true, eq-eqb}
use Prim.Native.Nat.{ℕ, zero, suc, ◌+◌, ◌*◌, ◌/◌, ◌%◌, ◌<◌, ◌≤◌}
use Rattle.theory.specs.Graph.{Graph}
use Rattle.theory.specs.Bisimulation.{Relation, flip, Sides, one_sided, two_sided}
use Rattle.theory.specs.Rounds.{zigs, zags}
use Rattle.theory.specs.Choosing.{Choice, none, some, chosen}
use Rattle.theory.proofs.ChoosingLaws.{chosen_fails, chosen_none}
use Rattle.sheet.specs.Sheet.{most_entries}
use Rattle.sheet.specs.Encoding.{encode}
use Rattle.compare_laws.specs.Places.{placed}
use Rattle.compare_laws.proofs.PlaceLaws.{nonzeros_most, place_below, place_over, place_under, row_below, column_below}
use Rattle.compare_laws.specs.Setting.{Setting, pairs, relation_after}
use Rattle.compare_laws.specs.Room.{pair_entries, pair_bytes, room_needed}
use Rattle.compare_laws.specs.Comparison.{State, begin, turned, verdict, obey, settle, upto, states, state_at, comparison}
use Rattle.compare_laws.specs.Refining.{Comparable, Refined, Compared}
use Rattle.compare_laws.proofs.StepLaws.{verdict_left, verdict_right, kept_clauses, settle_stays, stays_refined, shares_related, zero-related, zero_spare}
use Rattle.compare_laws.proofs.WritingLaws.{ahead_refined, back_refined}
use Rattle.compare_laws.proofs.RoundLaws.{begin_refined, turned_refined, still_compared, last_compared}

-- the clauses from right to left, where both sides count
back_holds : (x : Sides) (l r : Graph) (c : ℕ) (z : Relation) (a b : ℕ) → x ≡ two_sided → So (zigs r l c (flip z) b a) → So (zags x l r c z a b)
unfolding zags
back_holds x l r c z a b e h = rw e h

-- where one side counts, the other's clauses ask nothing
one_holds : (x : Sides) (l r : Graph) (c : ℕ) (z : Relation) (a b : ℕ) → x ≡ one_sided → So (zags x l r c z a b)
unfolding zags
one_holds x l r c z a b e = rw e refl

module _ {s : Setting} (g : Comparable s) where
  -- ---- the invariant

  -- a pair, by what is chosen from either side
  pair_refined : (k a b : ℕ) (now : State) → a < s.left.size → b < s.right.size → Refined s k (a * s.right.size + b) now
      → Refined s k (suc (a * s.right.size + b)) (settle s (relation_after s k) a b now)
  unfolding settle obey
  pair_refined k a b now o u inv =
      go (z a b) refl (chosen s.left s.right s.bound z a b) refl (chosen s.right s.left s.bound (flip z) b a) refl
    where
      z : Relation
      z = relation_after s k

      stays : (So (z a b) → So (zigs s.left s.right s.bound z a b) × So (zags s.sides s.left s.right s.bound z a b))
          → Refined s k (suc (a * s.right.size + b)) (settle s z a b now)
      stays f = rw (settle_stays s z a b now g f) (stays_refined g inv o u f)

      go : (e : Bool) → z a b ≡ e → (d : Choice) → chosen s.left s.right s.bound z a b ≡ d → (d' : Choice)
          → chosen s.right s.left s.bound (flip z) b a ≡ d' → Refined s k (suc (a * s.right.size + b)) (settle s z a b now)
      go false e d p d' p' = stays (λ t. absurd (false≢true (sym e ∙ t)))
      go true e (some why) p d' p' =
          let v = verdict_left s z a b why p in
          rw (e, v) (ahead_refined g inv o u e why (chosen_fails s.left s.right z a b s.bound why p) v)
      go true e none p d' p' = behind s.sides refl d' p'
        where
          holds : So (zigs s.left s.right s.bound z a b)
          holds = (chosen_none s.left s.right z a b s.bound g.symmetric.0 g.symmetric.1).0 p

          behind : (x : Sides) → s.sides ≡ x → (d' : Choice) → chosen s.right s.left s.bound (flip z) b a ≡ d'
              → Refined s k (suc (a * s.right.size + b)) (settle s z a b now)
          behind one_sided one d' p' = stays (λ _. (holds, one_holds s.sides s.left s.right s.bound z a b one))
          behind two_sided both (some why) p' =
              let v = verdict_right s z a b p both why p' in
              rw (e, v) (back_refined g inv o u e both why (chosen_fails s.right s.left (flip z) b a s.bound why p') v)
          behind two_sided both none p' =
              stays (λ _. (
                holds,
                back_holds s.sides s.left s.right s.bound z a b both
                    ((chosen_none s.right s.left (flip z) b a s.bound g.symmetric.1 g.symmetric.0).0 p'),
              ))

  -- the pair at a place
  place_refined : (k a b p : ℕ) (now : State) → a * s.right.size + b ≡ p → a < s.left.size → b < s.right.size → Refined s k p now
      → Refined s k (suc p) (settle s (relation_after s k) a b now)
  place_refined k a b p now e o u =
      subst (λ p. Refined s k p now → Refined s k (suc p) (settle s (relation_after s k) a b now)) e (pair_refined k a b now o u)

  -- a round, place by place
  places_refined : (k : ℕ) → Refined s k 0 (states s k) → (p : ℕ) → p ≤ pairs s → Refined s k p (state_at s k p)
  unfolding upto
  places_refined k inv zero h = inv
  places_refined k inv (suc p) h =
      place_refined k (p / s.right.size) (p % s.right.size) p (state_at s k p) (div-add-mod' p s.right.size)
      (row_below s.left.size s.right.size p h) (column_below s.left.size s.right.size p h) (places_refined k inv p (omega arith))

  -- the rounds
  states_refined : (k : ℕ) → Refined s k 0 (states s k)
  unfolding states
  states_refined zero = begin_refined g
  states_refined (suc k) = turned_refined g (places_refined k (states_refined k) (pairs s) (le_refl _))

  -- before every place of every round
  pub state_refined : (k p : ℕ) → p ≤ pairs s → Refined s k p (state_at s k p)
  state_refined k = places_refined k (states_refined k)

  -- all that is promised of a comparison holds of what the definition gives
  pub comparison-compared : Compared s (comparison s).entries (comparison s).map
  comparison-compared = last_compared g (states_refined (pairs s))

  -- ---- a round that wrote nothing was the last

  pub still_last : (k : ℕ) → length (state_at s k (pairs s)).entries ≡ length (states s k).entries
      → Compared s (state_at s k (pairs s)).entries (state_at s k (pairs s)).map
  still_last k e = still_compared g (state_refined k (pairs s) (le_refl _)) e

  -- there are never more entries than a sheet can have
  pub entries_few : (k p : ℕ) → p ≤ pairs s → length (state_at s k p).entries ≤ most_entries
  entries_few k p h =
      let inv = state_refined k p h in
      omega (arith, inv.few, nonzeros_most (state_at s k p).map, inv.size, mul-le-mul g.small.0 g.small.1)

  -- ---- from place to place: p is the place of the pair (a, b)

  module _ (k a b p : ℕ) (at : p ≡ a * s.right.size + b) (o : a < s.left.size) (u : b < s.right.size) where
    pub place_inside : p < pairs s
    place_inside = rw at (place_below s.left.size s.right.size a b o u)

    -- the invariant there, where the laws of a step have it
    refined_here : Refined s k (a * s.right.size + b) (state_at s k p)
    refined_here = rw (← at) (state_refined k p (omega (arith, place_inside)))

    next_state : state_at s k (suc p) ≡ settle s (relation_after s k) a b (state_at s k p)
    unfolding upto
    next_state = rw (at, place_over s.right.size a b u, place_under s.right.size a b u)

    -- the place holds a number: the pair was parted before
    pub nonzero_next : placed s.right.size (state_at s k p).map a b ≢ 0 → state_at s k (suc p) ≡ state_at s k p
    nonzero_next h =
        next_state ∙ settle_stays s (relation_after s k) a b (state_at s k p) g
        (λ e. absurd (h (eqb-true _ 0 (refined_here.waiting a b o u (le_refl _) ∙ e))))

    -- the round keeps the pair, if it was not parted before
    pub kept_next : (So (relation_after s k a b) → So (relation_after s (suc k) a b)) → state_at s k (suc p) ≡ state_at s k p
    kept_next f =
        next_state ∙ settle_stays s (relation_after s k) a b (state_at s k p) g (λ e. let (_, h, h') = kept_clauses s k a b (f e) in (h, h'))

    -- two-sided: the row of a and that of x before it share y, and x and b are not parted: a and b are not
    pub shared_next : s.sides ≡ two_sided → (x y : ℕ) → x < a → y < b → placed s.right.size (state_at s k p).map a y ≡ 0 → placed s.right.size (state_at s k p).map x y ≡ 0
        → placed s.right.size (state_at s k p).map x b ≡ 0 → state_at s k (suc p) ≡ state_at s k p
    shared_next both x y i j d e f = kept_next (λ _. shares_related g both refined_here a b x y refl o u i j d e f)

    module _ (h : placed s.right.size (state_at s k p).map a b ≡ 0) where
      -- the place holds 0: the pair is judged
      pub zero-next : state_at s k (suc p) ≡ obey s.sides s.right.size a b (verdict s (relation_after s k) a b) (state_at s k p)
      unfolding settle
      zero-next = next_state ∙ rw (zero-related g refined_here o u h) refl

      -- and there is room for what parts it, of entries and of bytes
      pub zero_few : length (state_at s k p).entries + pair_entries ≤ most_entries
      zero_few =
          omega (arith, zero_spare g refined_here o u h, refined_here.few, mul-le-mul g.small.0 g.small.1)

      pub zero_room : length (encode s.version (state_at s k p).entries) + pair_bytes s.version + 8 ≤ room_needed s.version (pairs s)
      zero_room = omega (arith, mul-le-mul_left (pair_bytes s.version) (zero_spare g refined_here o u h), refined_here.room)

  -- the places passed hold 0 in one state of a round as in another
  pub zero_still : (k a b p q : ℕ) → p ≤ pairs s → q ≤ pairs s → a < s.left.size → b < s.right.size
      → a * s.right.size + b < p → a * s.right.size + b < q → placed s.right.size (state_at s k p).map a b ≡ 0
      → placed s.right.size (state_at s k q).map a b ≡ 0
  zero_still k a b p q hp hq o u i j z =
      eqb-true _ 0 ((state_refined k q hq).settled a b o u j ∙ sym ((state_refined k p hp).settled a b o u i) ∙ eq-eqb _ 0 z)

-- ---- the version

-- what is compared does not depend on the version of the sheet that it is written in
module _ (s : Setting) (v : ℕ) where
  abbrev written : Setting
  written = record { left = s.left; right = s.right; sides = s.sides; bound = s.bound; version = v }

  upto-any : (z : Relation) (p : ℕ) (now : State) → upto s z p now ≡ upto written z p now
  unfolding upto settle verdict
  upto-any z zero now = refl
  upto-any z (suc p) now = ap (settle s z (p / s.right.size) (p % s.right.size)) (upto-any z p now)

  states-any : (k : ℕ) → states s k ≡ states written k
  unfolding states begin
  states-any zero = refl
  states-any (suc k) =
      ap turned (upto-any (relation_after s k) (pairs s) (states s k) ∙ ap (upto written (relation_after s k) (pairs s)) (states-any k))

  pub comparison-any : comparison s ≡ comparison written
  comparison-any = states-any (pairs s)
