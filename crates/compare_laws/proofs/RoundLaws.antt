-- The rounds: how they begin, from one to the next, and what holds at the end.
use Rattle.std.specs.Prelude.{Bool, ◌||◌, List, ◌⊎◌, ◌≡◌, replicate}
use Rattle.std.proofs.Math.Bool.{true, false, So}
use Rattle.std.proofs.lemmas.Bool.{false≢true}
use Rattle.std.proofs.Common.{inl, inr, ◌∙◌, le_refl, not-suc-le-zero}
use Rattle.std.proofs.Math.Path.{refl, sym, ap}
use Prim.Native.Nat.{ℕ, zero, suc, ◌+◌, ◌-◌, ◌/◌, ◌%◌, ◌<◌, ◌≤◌}
use native.Mathlib.Omega.{arith}
use Rattle.std.proofs.Math.Nat.{zero-add, suc-add}
use Rattle.std.proofs.Math.Dec.{leb}
use Rattle.std.proofs.Math.ListN.{length}
use Rattle.std.proofs.lemmas.List.{length-replicate, get_or-replicate}
use borrow.Author.Tests.{eqb-true, eq-eqb, ne_eqb, lt-leb}
use Rattle.theory.specs.Graph.{Node}
use Rattle.theory.specs.Bisimulation.{Relation}
use Rattle.theory.specs.Rounds.{related, round, rounds, settled}
use Rattle.theory.proofs.TestLaws.{facts, and_iff, le-or-lt}
use Rattle.theory.proofs.GreatestLaws.{related-at, start_iff, after_inside, fixed, still_settled}
use Rattle.theory.proofs.DescribingLaws.{always_describes, parts_least}
use Rattle.sheet.specs.Entry.{Entry}
use Rattle.sheet.specs.Encoding.{body_of, encode_entry, encode}
use Rattle.compare_laws.specs.Places.{placed, start_map, unparted, unparted_before}
use Rattle.compare_laws.proofs.PlaceLaws.{place_below, length_start, start_placed, start_unparted}
use Rattle.compare_laws.specs.Setting.{Setting, swapped, pairs, relation_after}
use Rattle.compare_laws.specs.Entries.{Sheet}
use Rattle.compare_laws.proofs.EntryLaws.{grows_refl, sheet_truth, expression-zero}
use Rattle.compare_laws.specs.Comparison.{State, begin, turned, upto, states, comparison}
use Rattle.compare_laws.specs.Refining.{Comparable, DescribedBy, Refined, Compared}
use Rattle.compare_laws.proofs.StepLaws.{described_more, kept_clauses, settle_stays}

-- entry 0 describes every node, for a relation of all nodes
zeros_describe : {s : Setting} {d : ℕ} {z : Relation} {es : List Entry} → Sheet s.version s.bound es → s.left.size ≤ 64
    → ((x y : ℕ) → Node s.left x → Node s.right y → So (z x y)) → DescribedBy s d z es (replicate 64 0)
zeros_describe t small f =
    record {
      wide = simp length-replicate small;
      earlier = λ x o. rw (get_or-replicate {A = ℕ} 64 x 0 0 (omega arith)) t.some;
      describes = λ x o. rw (get_or-replicate {A = ℕ} 64 x 0 0 (omega (arith, o.below)), expression-zero t) (always_describes o.below (λ y u. f x y o u));
    }

-- ---- rounds that write nothing
-- two states have the same entries and the same map
abbrev Alike : State → State → Type 0
Alike x y = (x.entries ≡ y.entries) × (x.map ≡ y.map)

-- the table after k rounds
abbrev table_after : Setting → ℕ → List (List Bool)
table_after s = rounds s.sides s.left s.right s.bound

abbrev last_table : Setting → List (List Bool)
last_table s = settled s.sides s.left s.right s.bound

module _ (s : Setting) (g : Comparable s) where
  settled-next : (k : ℕ) → table_after s k ≡ last_table s → table_after s (suc k) ≡ last_table s
  unfolding rounds
  settled-next k e = ap (round s.sides s.left s.right s.bound) e ∙ fixed s.sides s.bound g.formed.0 g.formed.1

  settled_on : (k i : ℕ) → table_after s k ≡ last_table s → table_after s (i + k) ≡ last_table s
  settled_on k zero e = rw zero-add e
  settled_on k (suc i) e = rw suc-add (settled-next (i + k) (settled_on k i e))

  quiet : (k : ℕ) → table_after s k ≡ last_table s → (p : ℕ) (now : State) → upto s (relation_after s k) p now ≡ now
  unfolding upto
  quiet k e zero now = refl
  quiet k e (suc p) now =
      rw (quiet k e p now) (settle_stays s (relation_after s k) _ _ now g
      (λ h. let (_, t, u) = kept_clauses s k _ _ (ap (λ t. related t (p / s.right.size) (p % s.right.size)) (settled-next k e ∙ sym e) ∙ h) in (t, u)))

  -- so the entries and the map stay as they are
  states_stay : (k : ℕ) → table_after s k ≡ last_table s → (i : ℕ) → Alike (states s (i + k)) (states s k)
  unfolding states turned
  states_stay k e zero = rw zero-add (refl, refl)
  states_stay k e (suc i) =
      let (p, q) = states_stay k e i in
      let d = quiet (i + k) (settled_on k i e) (pairs s) (states s (i + k)) in
      rw suc-add (ap (λ (t : State). t.entries) d ∙ p, ap (λ (t : State). t.map) d ∙ q)

module _ {s : Setting} (g : Comparable s) where
  -- before the first round
  pub begin_refined : Refined s 0 0 (begin s)
  unfolding begin body_of encode_entry encode upto states
  begin_refined =
      record {
        is = refl;
        sheet = sheet_truth s.version s.bound;
        few = omega arith;
        room = omega arith;
        size = length_start _ _ _ _;
        settled = λ x y _ _ h. absurd (not-suc-le-zero h);
        waiting = λ x y o u _. start_unparted _ _ _ _ x y o u ∙ sym (unfold rounds in related-at _ _ _ x y o u);
        named = λ x y o u e. absurd (false≢true (sym e ∙ all x y o u));
        hidden = λ x y o u e. start_placed _ _ _ _ x y o u ∙ rw e refl;
        began = λ x y o u. simp facts (inl (all x y o u)) ∙ sym (start x y o u);
        from = omega arith;
        old_left = zeros_describe (sheet_truth s.version s.bound) g.small.0 start;
        old_right = λ _. zeros_describe {s = swapped s} (sheet_truth s.version s.bound) g.small.1 (λ y x u o. start x y o u);
        new_left = zeros_describe (sheet_truth s.version s.bound) g.small.0 all;
        new_right = λ _. zeros_describe {s = swapped s} (sheet_truth s.version s.bound) g.small.1 (λ y x u o. all x y o u);
      }
    where
      all : (x y : ℕ) → Node s.left x → Node s.right y
          → So (unparted s.right.size (start_map s.left.size s.right.size s.left.shown s.right.shown) x y)
      all x y o u = start_unparted _ _ _ _ x y o.below u.below ∙ (and_iff _ _).1 (o.seen, u.seen)

      start : (x y : ℕ) → Node s.left x → Node s.right y → So (relation_after s 0 x y)
      start x y o u = (start_iff s.sides s.bound g.formed.0 g.formed.1 x y).1 (o, u)

  module _ {k : ℕ} {now : State} (inv : Refined s k (pairs s) now) where
    round_done : (x y : ℕ) → x < s.left.size → y < s.right.size → unparted s.right.size now.map x y ≡ relation_after s (suc k) x y
    round_done x y o u = inv.settled x y o u (place_below s.left.size s.right.size x y o u)

    -- what the next round begins with
    next_is : turned now ≡ states s (suc k)
    unfolding states
    next_is = ap turned inv.is

    next-entries : length (states s (suc k)).entries ≡ length now.entries
    unfolding turned
    next-entries = ap (λ (t : State). length t.entries) (sym next_is)

    -- from a round's end to the next one's start
    pub turned_refined : Refined s (suc k) 0 (turned now)
    unfolding turned upto
    turned_refined =
        record {
          is = next_is;
          sheet = inv.sheet;
          few = inv.few;
          room = inv.room;
          size = inv.size;
          settled = λ x y _ _ h. absurd (not-suc-le-zero h);
          waiting = λ x y o u _. round_done x y o u;
          named = inv.named;
          hidden = inv.hidden;
          began = λ x y o u. rw next-entries (since x y o u (unparted s.right.size now.map x y) refl) ∙ round_done x y o.below u.below;
          from = omega (arith, next-entries);
          old_left = described_more (le_refl _) (grows_refl _) (λ x y o u h. sym (round_done x y o.below u.below) ∙ h) inv.new_left;
          old_right = λ q. described_more (le_refl _) (grows_refl _) (λ y x u o h. sym (round_done x y o.below u.below) ∙ h) (inv.new_right q);
          new_left = described_more (omega arith) (grows_refl _) (λ x y o u h. h) inv.new_left;
          new_right = λ q. described_more (omega arith) (grows_refl _) (λ y x u o h. h) (inv.new_right q);
        }
      where
        -- a number in the map is one of the entries before
        since : (x y : ℕ) → Node s.left x → Node s.right y → (i : Bool) → unparted s.right.size now.map x y ≡ i
            → (i || leb (length now.entries) (placed s.right.size now.map x y)) ≡ i
        since x y o u true e = refl
        since x y o u false e = lt-leb _ _ (inv.named x y o u e).number

    module _ (e : length now.entries ≡ length (states s k).entries) where
      -- a round that writes nothing drops no pair
      still_same : (x y : ℕ) → So (relation_after s k x y) → So (relation_after s (suc k) x y)
      still_same x y h =
          let (o, u) = after_inside s.sides s.bound g.formed.0 g.formed.1 k x y h in
          sym (round_done x y o.below u.below) ∙ was o u _ refl
        where
          was : Node s.left x → Node s.right y → (i : Bool) → unparted s.right.size now.map x y ≡ i
              → So (unparted s.right.size now.map x y)
          was o u true f = f
          was o u false f =
              let n : unparted_before s.right.size (length (states s k).entries) now.map x y ≡ false =
              rw f (lt-leb _ _ (rw e at (inv.named x y o u f).number)) in
              absurd (false≢true (sym n ∙ inv.began x y o u ∙ h))

      -- a round that writes nothing is one of the last
      still_rounds : table_after s k ≡ last_table s
      still_rounds = still_settled s.sides s.bound g.formed.0 g.formed.1 k still_same

      -- a round that writes nothing leaves the greatest
      still_related : (a b : ℕ) → a < s.left.size → b < s.right.size → unparted s.right.size now.map a b ≡ related (last_table s) a b
      still_related a b o u = round_done a b o u ∙ ap (λ t. related t a b) (settled-next s g k still_rounds)

  -- what is promised, once the zeros are the greatest
  settled-compared : {k p : ℕ} {now : State} → Refined s k p now → now.entries ≡ (comparison s).entries → now.map ≡ (comparison s).map
      → ((a b : ℕ) → a < s.left.size → b < s.right.size → unparted s.right.size now.map a b ≡ related (last_table s) a b)
      → Compared s now.entries now.map
  settled-compared inv q q' f =
      record {
        entries = q;
        places = q';
        sheet = inv.sheet;
        few = inv.few;
        room = inv.room;
        size = inv.size;
        zeros = λ a b o u. (λ e. sym (f a b o u) ∙ eq-eqb _ 0 e, λ e. eqb-true _ 0 (f a b o u ∙ e));
        hidden = inv.hidden;
        number = λ a b o u e. (inv.named a b o u (ne_eqb _ 0 e)).number;
        tells = λ a b o u e. (inv.named a b o u (ne_eqb _ 0 e)).parts.tells;
        least = λ a b o u e.
            let t = inv.named a b o u (ne_eqb _ 0 e) in
            let (exact, least) = parts_least s.sides s.bound g.formed.0 g.formed.1 t.round a b _ t.before t.parts in
            rw exact least;
      }

  still_is : {k : ℕ} {now : State} → Refined s k (pairs s) now → table_after s k ≡ last_table s
      → (now.entries ≡ (comparison s).entries) × (now.map ≡ (comparison s).map)
  unfolding settled
  still_is {k} {now} inv e =
      let d = inv.is ∙ quiet s g k e (pairs s) (states s k) in
      let (p, q) = same (le-or-lt k (pairs s)) in
      (ap (λ (t : State). t.entries) d ∙ p, ap (λ (t : State). t.map) d ∙ q)
    where
      same : (k ≤ pairs s) ⊎ (pairs s < k) → Alike (states s k) (comparison s)
      same (inl h) =
          let (p, q) = states_stay s g k e (pairs s - k) in
          let d : pairs s - k + k ≡ pairs s = omega arith in
          (sym (rw d at p), sym (rw d at q))
      same (inr h) =
          let (p, q) = states_stay s g (pairs s) refl (k - pairs s) in
          let d : k - pairs s + pairs s ≡ k = omega arith in
          (rw d at p, rw d at q)

  -- after a round that writes nothing
  pub still_compared : {k : ℕ} {now : State} → Refined s k (pairs s) now → length now.entries ≡ length (states s k).entries
      → Compared s now.entries now.map
  still_compared inv e = let (q, q') = still_is inv (still_rounds inv e) in settled-compared inv q q' (still_related inv e)

  -- and after as many rounds as there are pairs
  pub last_compared : {now : State} → Refined s (pairs s) 0 now → Compared s now.entries now.map
  unfolding settled upto
  last_compared inv =
      settled-compared inv (ap (λ (t : State). t.entries) inv.is) (ap (λ (t : State). t.map) inv.is) (λ a b o u. inv.waiting a b o u (omega arith))
