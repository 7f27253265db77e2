-- The steps keep the invariant: a pair that stays, and a pair that is parted.
use Rattle.std.specs.Prelude.{Bool, true, false, List, ◌⊎◌, ◌≢◌, ◌≡◌, ℕ, suc, ◌+◌, ◌*◌, ◌<◌, ◌≤◌, length, get_or, set}
use Rattle.std.proofs.Math.Bool.{So}
use Rattle.std.proofs.lemmas.Bool.{false≢true}
use Rattle.std.proofs.Common.{inl, inr, ⊎_elim, sym, ◌∙◌, arith, eq-or-lt_of_le, le_of_suc-le-suc, le_refl, length-set, get_or-set_same, get_or-set_other, eqb-true, eq-eqb, ne_eqb, le-leb}
use Rattle.std.proofs.Math.Path.{refl, ap}
use Rattle.theory.specs.Expression.{NodeExpr}
use Rattle.theory.specs.Graph.{Graph, Node}
use Rattle.theory.specs.Bisimulation.{Relation, flip, Sides, one_sided, two_sided}
use Rattle.theory.specs.Rounds.{zigs, zags, round, rounds, after}
use Rattle.theory.proofs.TestLaws.{facts, and_iff, test_eq}
use Rattle.theory.proofs.GreatestLaws.{related_iff, descends, after_inside}
use Rattle.theory.specs.Choosing.{none, some, chosen}
use Rattle.theory.proofs.ChoosingLaws.{chosen_none}
use Rattle.theory.specs.Parting.{Reason, Describes}
use Rattle.theory.proofs.DescribingLaws.{stays, parts-drop}
use Rattle.theory.proofs.RowLaws.{across}
use Rattle.sheet.specs.Entry.{Entry}
use Rattle.compare_laws.specs.Room.{pair_bytes}
use Rattle.compare_laws.specs.Places.{placed, unparted, nonzeros}
use Rattle.compare_laws.proofs.PlaceLaws.{nonzeros-set, nonzeros_most, eq-or-ne, place_below, place_row, place_column, place_over, place_under, placed-set, placed-other}
use Rattle.compare_laws.specs.Setting.{Setting, pairs, relation_after}
use Rattle.compare_laws.specs.Entries.{Grows}
use Rattle.compare_laws.specs.Comparison.{State, ahead, back, remains, parted_by, verdict_of, counted, verdict, obey, settle, upto, states}
use Rattle.compare_laws.specs.Refining.{Comparable, DescribedBy, Named, Refined, Redescribed, Written}

-- ---- more entries, a larger depth, a larger relation

-- and fewer nodes among which it describes
pub describes_more : {s : Sides} {l r : Graph} {c d d' x : ℕ} {z z' : Relation} {A B : ℕ → Type 0} {q q' : NodeExpr} → d ≤ d' → q' ≡ q
    → ((y : ℕ) → B y → A y × (So (z x y) → So (z' x y))) → Describes s l r c d z x A q → Describes s l r c d' z' x B q'
describes_more h e f t =
    rw e (record {
      within = t.within;
      spoken = t.spoken;
      shallow = omega (arith, t.shallow);
      own = t.own;
      only = λ y o u. let (v, g) = f y o in g (t.only y v u);
    })

pub described_more : {s : Setting} {d d' : ℕ} {z z' : Relation} {es es' : List Entry} {xs : List ℕ} → d ≤ d' → Grows es es'
    → ((x y : ℕ) → Node s.left x → Node s.right y → So (z x y) → So (z' x y)) → DescribedBy s d z es xs → DescribedBy s d' z' es' xs
described_more h g f t =
    record {
      wide = t.wide;
      earlier = λ x o. omega (arith, t.earlier x o, g.longer);
      describes = λ x o. describes_more h (g.same _ (t.earlier x o.below)) (λ y u. (u, f x y o u)) (t.describes x o);
    }

pub redescribed_more : {s : Setting} {d x : ℕ} {z : Relation} {es es' : List Entry} {xs xs' : List ℕ} → Grows es es'
    → Redescribed s d z es xs xs' x → Redescribed s d z es' xs xs' x
redescribed_more g t =
    record {
      entry = t.entry;
      is = t.is;
      number = omega (arith, t.number, g.longer);
      describes = rw (g.same _ t.number) t.describes;
    }

named_more : {s : Setting} {a b i : ℕ} {es es' : List Entry} → Grows es es' → Named s es a b i → Named s es' a b i
named_more g t =
    record { number = omega (arith, g.longer); round = t.round; before = t.before; parts = rw (g.same _ t.number) t.parts }

-- one node described anew
described_set : {s : Setting} {d a : ℕ} {z z' : Relation} {es es' : List Entry} {xs xs' : List ℕ} → Grows es es'
    → Redescribed s d z' es' xs xs' a → ((x y : ℕ) → Node s.left x → Node s.right y → x ≢ a → So (z x y) → So (z' x y))
    → DescribedBy s d z es xs → DescribedBy s d z' es' xs'
described_set {s} {a = a} {xs = xs} {xs' = xs'} g n f t =
    record {
      wide = rw n.is (simp length-set t.wide);
      earlier = λ x o. ⊎_elim (λ e. rw (here x o e) n.number) (λ e. rw (other x e) (omega (arith, t.earlier x o, g.longer))) (eq-or-ne x a);
      describes = λ x o.
          ⊎_elim (λ e. rw (here x o.below e) (rw e n.describes))
          (λ e. rw (other x e) (describes_more (le_refl _) (g.same _ (t.earlier x o.below)) (λ y v. (v, f x y o v e)) (t.describes x o)))
          (eq-or-ne x a);
    }
  where
    here : (x : ℕ) → x < s.left.size → x ≡ a → get_or xs' x 0 ≡ n.entry
    here x o e = rw (n.is, e) (get_or-set_same xs a n.entry 0 (omega (arith, t.wide)))

    other : (x : ℕ) → x ≢ a → get_or xs' x 0 ≡ get_or xs x 0
    other x e = rw n.is (get_or-set_other xs a x n.entry 0 e)

-- ---- the step, as it is defined

-- what is chosen from either side decides
module _ (s : Setting) (z : Relation) (a b : ℕ) where
  pub verdict_left : (why : Reason) → chosen s.left s.right s.bound z a b ≡ some why → verdict s z a b ≡ parted_by (ahead why)
  unfolding verdict verdict_of
  verdict_left why e = rw e

  module _ (e : chosen s.left s.right s.bound z a b ≡ none) where
    pub verdict_right : s.sides ≡ two_sided → (why : Reason) → chosen s.right s.left s.bound (flip z) b a ≡ some why
        → verdict s z a b ≡ parted_by (back why)
    unfolding verdict verdict_of counted
    verdict_right both why f = rw (e, both, f)

    pub verdict-alone : s.sides ≡ one_sided → verdict s z a b ≡ remains
    unfolding verdict verdict_of counted
    verdict-alone one = rw (e, one)

    pub verdict_none : chosen s.right s.left s.bound (flip z) b a ≡ none → verdict s z a b ≡ remains
    unfolding verdict verdict_of counted
    verdict_none f = rw (e, f) (ap (verdict_of none) (counted_none s.sides))
      where
        counted_none : (x : Sides) → counted x none ≡ none
        counted_none one_sided = refl
        counted_none two_sided = refl

-- a pair whose clauses hold stays
pub verdict_stays : (s : Setting) (z : Relation) (a b : ℕ) → Comparable s → So (zigs s.left s.right s.bound z a b)
    → So (zags s.sides s.left s.right s.bound z a b) → verdict s z a b ≡ remains
unfolding zags
verdict_stays s z a b g h h' = by s.sides refl h'
  where
    by : (x : Sides) → s.sides ≡ x → So (zags x s.left s.right s.bound z a b) → verdict s z a b ≡ remains
    by one_sided one _ = verdict-alone s z a b ((chosen_none s.left s.right z a b s.bound g.symmetric.0 g.symmetric.1).1 h) one
    by two_sided both h' =
        verdict_none s z a b ((chosen_none s.left s.right z a b s.bound g.symmetric.0 g.symmetric.1).1 h)
        ((chosen_none s.right s.left (flip z) b a s.bound g.symmetric.1 g.symmetric.0).1 h')

-- the clauses of a pair that a round relates hold under the relation before
pub kept_clauses : (s : Setting) (k a b : ℕ) → So (relation_after s (suc k) a b)
    → So (relation_after s k a b) × So (zigs s.left s.right s.bound (relation_after s k) a b)
    × So (zags s.sides s.left s.right s.bound (relation_after s k) a b)
unfolding rounds round
kept_clauses s k a b e =
    let (_, _, h) = (related_iff _ _ _ a b).0 e in
    let (p, q) = (and_iff _ _).0 h in
    let (t, u) = (and_iff _ _).0 q in
    (p, t, u)

-- so nothing is done
pub settle_stays : (s : Setting) (z : Relation) (a b : ℕ) (now : State) → Comparable s
    → (So (z a b) → So (zigs s.left s.right s.bound z a b) × So (zags s.sides s.left s.right s.bound z a b)) → settle s z a b now ≡ now
unfolding settle obey
settle_stays s z a b now g f = by (z a b) refl
  where
    by : (e : Bool) → z a b ≡ e → settle s z a b now ≡ now
    by true e = let (h, h') = f e in rw (e, verdict_stays s z a b g h h')
    by false e = rw e

-- ---- one pair

module _ {s : Setting} {k a b : ℕ} {now : State} (g : Comparable s)
    (inv : Refined s k (a * s.right.size + b) now) (o : a < s.left.size) (u : b < s.right.size) where
  -- the places before the next one are those before this one, and this one
  before-next : (x y : ℕ) → y < s.right.size → x * s.right.size + y < suc (a * s.right.size + b) → ((x ≡ a) × (y ≡ b)) ⊎ (x * s.right.size + y < a * s.right.size + b)
  before-next x y v h = ⊎_elim (λ e. inl (place_row _ x y a b v u e, place_column _ x y a b v u e)) inr (eq-or-lt_of_le (le_of_suc-le-suc h))

  -- the state that the definition has next
  next_is : (next : State) → settle s (relation_after s k) a b now ≡ next
      → next ≡ upto s (relation_after s k) (suc (a * s.right.size + b)) (states s k)
  unfolding upto
  next_is next q = rw (place_over s.right.size a b u, place_under s.right.size a b u) (sym q ∙ ap (settle s (relation_after s k) a b) inv.is)

  -- a place that is as round k + 1 leaves it
  still_refined : unparted s.right.size now.map a b ≡ relation_after s (suc k) a b → settle s (relation_after s k) a b now ≡ now
      → Refined s k (suc (a * s.right.size + b)) now
  still_refined here q =
      record {
        is = next_is now q;
        sheet = inv.sheet;
        few = inv.few;
        room = inv.room;
        size = inv.size;
        settled = λ x y o' u' h. ⊎_elim (λ (e, e'). rw (e, e') here) (λ h'. inv.settled x y o' u' h') (before-next x y u' h);
        waiting = λ x y o' u' h. inv.waiting x y o' u' (omega arith);
        named = inv.named;
        hidden = inv.hidden;
        began = inv.began;
        from = inv.from;
        old_left = inv.old_left;
        old_right = inv.old_right;
        new_left = inv.new_left;
        new_right = inv.new_right;
      }

  -- a pair whose clauses are met, or that was parted before
  pub stays_refined : (So (relation_after s k a b) → So (zigs s.left s.right s.bound (relation_after s k) a b) × So (zags s.sides s.left s.right s.bound (relation_after s k) a b))
      → Refined s k (suc (a * s.right.size + b)) now
  stays_refined f =
      still_refined (inv.waiting a b o u (le_refl _)
      ∙ test_eq _ _ (λ e. let t = f e in stays s.sides s.bound g.formed.0 g.formed.1 k a b e t.0 t.1) (descends s.sides s.bound g.formed.0 g.formed.1 k a b))
      (settle_stays s (relation_after s k) a b now g f)

  -- a place that holds 0: its pair is related as the round began
  pub zero-related : placed s.right.size now.map a b ≡ 0 → So (relation_after s k a b)
  zero-related h = sym (inv.waiting a b o u (le_refl _)) ∙ eq-eqb _ 0 h

  place_inside : a * s.right.size + b < length now.map
  place_inside = rw inv.size (place_below s.left.size s.right.size a b o u)

  -- and there is room for what parts it
  pub zero_spare : placed s.right.size now.map a b ≡ 0 → suc (nonzeros now.map) ≤ pairs s
  zero_spare h =
      let p = a * s.right.size + b in
      let t = nonzeros-set now.map p 1 place_inside h (omega arith) in
      omega (arith, t, nonzeros_most (set now.map p 1), length-set now.map p 1, inv.size)

  module _ {next : State} {i : ℕ} (e : So (relation_after s k a b)) (t : Written s k a b now next i) where
    ends : Node s.left a × Node s.right b
    ends = after_inside s.sides s.bound g.formed.0 g.formed.1 k a b e

    placed_still : (x y : ℕ) → x * s.right.size + y ≢ a * s.right.size + b → placed s.right.size next.map x y ≡ placed s.right.size now.map x y
    placed_still x y h = rw t.map (placed-other s.right.size now.map a b i x y h)

    placed_here : placed s.right.size next.map a b ≡ i
    placed_here = rw t.map (placed-set s.right.size now.map a b i place_inside)

    entry_positive : 0 < i
    entry_positive = omega (arith, inv.sheet.some, t.fresh)

    nonzeros-more : nonzeros next.map ≡ suc (nonzeros now.map)
    nonzeros-more = rw t.map (nonzeros-set now.map (a * s.right.size + b) i place_inside (eqb-true _ _ (inv.waiting a b o u (le_refl _) ∙ e)) entry_positive)

    this_or-other : (x y : ℕ) → y < s.right.size → ((x ≡ a) × (y ≡ b)) ⊎ (x * s.right.size + y ≢ a * s.right.size + b)
    this_or-other x y v = ⊎_elim (λ q. inl (place_row _ x y a b v u q, place_column _ x y a b v u q)) inr (eq-or-ne (x * s.right.size + y) (a * s.right.size + b))

    -- a pair that is parted, however that is written
    pub written_refined : settle s (relation_after s k) a b now ≡ next → Refined s k (suc (a * s.right.size + b)) next
    written_refined q =
        record {
          is = next_is next q;
          sheet = t.sheet;
          few = omega (arith, nonzeros-more, inv.few, t.few);
          room = omega (arith, ap (λ n. pair_bytes s.version * n) nonzeros-more, inv.room, t.room);
          size = rw t.map (simp length-set inv.size);
          settled = λ x y o' u' h. ⊎_elim
              (λ (p, p'). rw (p, p', placed_here) (ne_eqb i 0 (λ q. omega (arith, entry_positive)) ∙ sym (parts-drop s.sides s.bound g.formed.0 g.formed.1 (suc k) a b _ t.parts)))
              (λ h'. rw (placed_still x y (λ q. omega arith)) (inv.settled x y o' u' h'))
              (before-next x y u' h);
          waiting = λ x y o' u' h. rw (placed_still x y (λ q. omega arith)) (inv.waiting x y o' u' (omega arith));
          named = λ x y o' u'. ⊎_elim
              (λ (p, p'). rw (p, p', placed_here) (λ f. record { number = t.number; round = k; before = e; parts = t.parts }))
              (λ q. rw (placed_still x y q) (λ f. named_more t.grows (inv.named x y o' u' f)))
              (this_or-other x y u'.below);
          hidden = λ x y o' u' f. ⊎_elim
              (λ (p, p'). absurd (false≢true (sym (rw (p, p') at f) ∙ (and_iff _ _).1 (ends.0.seen, ends.1.seen))))
              (λ q. rw (placed_still x y q) (inv.hidden x y o' u' f))
              (this_or-other x y u');
          began = λ x y o' u'. ⊎_elim
              (λ (p, p'). rw (p, p', placed_here) (simp facts (inr (le-leb (length (states s k).entries) i (omega (arith, inv.from, t.fresh)))) ∙ sym e))
              (λ q. rw (placed_still x y q) (inv.began x y o' u'))
              (this_or-other x y u'.below);
          from = omega (arith, inv.from, t.grows.longer);
          old_left = rw t.old_left (described_more (le_refl k) t.grows (λ x y _ _ h. h) inv.old_left);
          old_right = λ q. rw t.old_right (described_more (le_refl k) t.grows (λ x y _ _ h. h) (inv.old_right q));
          new_left = described_set t.grows t.new_left
              (λ x y o' u' q h. rw (placed_still x y (λ v. q (place_row _ x y a b u'.below u v))) h) inv.new_left;
          new_right = λ d. described_set t.grows (t.new_right d)
              (λ y x u' o' q h. rw (placed_still x y (λ v. q (place_column _ x y a b u'.below u v))) h) (inv.new_right d);
        }

-- a pair that a row before tells of, two-sided: rows a and x share node y and x is related to b, so a is too (theory, `across`)
pub shares_related : {s : Setting} {k p : ℕ} {now : State} → Comparable s → s.sides ≡ two_sided → Refined s k p now → (a b x y : ℕ) → p ≡ a * s.right.size + b
    → a < s.left.size → b < s.right.size → x < a → y < b → placed s.right.size now.map a y ≡ 0 → placed s.right.size now.map x y ≡ 0
    → placed s.right.size now.map x b ≡ 0 → So (relation_after s (suc k) a b)
shares_related {s} {k} {p} {now} g both inv a b x y at o u i j e f h =
    rw both (across s.bound g.formed.0 g.formed.1 (suc k) a x y b (kept a y o (omega arith) (omega arith) e)
    (kept x y (omega arith) (omega arith) (above y (omega arith)) f) (kept x b (omega arith) u (above b u) h))
  where
    above : (w : ℕ) → w < s.right.size → x * s.right.size + w < p
    above w h = omega (arith, place_below a s.right.size x w i h)

    kept : (v w : ℕ) → v < s.left.size → w < s.right.size → v * s.right.size + w < p → placed s.right.size now.map v w ≡ 0
        → So (after two_sided s.left s.right s.bound (suc k) v w)
    kept v w l q h z = rw both at (sym (inv.settled v w l q h) ∙ eq-eqb _ 0 z)
