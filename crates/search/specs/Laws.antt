-- What a caller of the search cites, in exit form: every number that the code has is a variable.
use Rattle.std.specs.Prelude.{true, ◌≡◌, refl, List, [], ◌∷◌, ℕ, zero, suc, ◌≤◌, ◌<◌, length, get_or, take, Option, Some, None}
use Rattle.std.proofs.Math.Path.{sym}
use Rattle.std.proofs.Common.{ap, ◌∙◌, not-suc-le-zero, le_of_suc-le-suc, arith, get_or-take, length-take-le}
use Rattle.theory.specs.Graph.{same, differ, Graph}
use Rattle.theory.specs.Path.{Hop}
use Rattle.theory.specs.Bisimulation.{Relation}
use Rattle.theory.specs.Rounds.{zigs}
use Rattle.theory.specs.Parting.{by_link, by_paths, Fails}
use Rattle.theory.specs.Choosing.{none, some, chosen}
use Rattle.theory.proofs.ChoosingLaws.{chosen_fails, chosen_none}
use Rattle.words.specs.Words.{bit}
use Rattle.search_links.specs.Hops.{View, hop_at}
use Rattle.search_steps.specs.Paths.{path_of}
use Rattle.search_pairs.specs.declared.Route.{Route}
use Rattle.sheet.specs.Entry.{kind_number}
use Rattle.search.specs.declared.Reason.{Reason}
use Rattle.search.specs.BridgeLaws.{path_length}
use Rattle.search.specs.Lengths.{Ready}
use Rattle.search.specs.Reasons.{Charted, Posed, path_in, reason_of, choice_of, Numbered, Answered}

-- ---- what the search asks, and what its answer is about
module _ {l r : Graph} {v u : View} {ea eb : List ℕ} (left : Charted l v ea) (right : Charted r u eb) (a b : ℕ) (here : a < l.size) (there : b < r.size) where
  pub charted_ready : Ready v u a b
  charted_ready = record {
    left = left.ordered;
    right = right.ordered;
    cell = omega (arith, left.drawn.small);
    partner = omega (arith, right.drawn.small);
  }

  pub charted_posed : (rows : List ℕ) (z : Relation) → ((x y : ℕ) → x < l.size → y < r.size → bit (get_or rows x 0) y ≡ z x y)
      → Posed l r z v u rows ea eb a b
  charted_posed rows z e = record { left = left.drawn; right = right.drawn; related = e; here = here; there = there }

-- ---- the answer, of two graphs and a relation that the lists show
module _ (l r : Graph) (z : Relation) (v u : View) (rows ea eb : List ℕ) (a b c : ℕ) (o : Option Reason) (w : Answered v u rows ea eb a b c o)
    (d : Posed l r z v u rows ea eb a b) where
  -- a reason is the one that the theory chooses
  pub answer_some : (s : Reason) → o ≡ Some s → chosen l r c z a b ≡ some (reason_of v s)
  unfolding choice_of
  answer_some s e = sym (w.is l r z d) ∙ ap (choice_of v) e

  -- it fails
  pub answer_fails : (s : Reason) → o ≡ Some s → Fails l r c z a b (reason_of v s)
  answer_fails s e = chosen_fails l r z a b c (reason_of v s) (answer_some s e)

  -- where there is none, it chooses none
  pub answer_chosen_none : o ≡ None → chosen l r c z a b ≡ none
  unfolding choice_of
  answer_chosen_none e = sym (w.is l r z d) ∙ ap (choice_of v) e

  -- and the clauses hold from left to right
  pub answer_none : o ≡ None → zigs l r c z a b ≡ true
  answer_none e = (chosen_none l r z a b c d.left.symmetric d.right.symmetric).0 (answer_chosen_none e)

-- ---- the reason of each kind
module _ (v : View) (s : Reason) where
  pub reason_link : kind_number s.kind ≡ 4 → reason_of v s ≡ by_link (hop_at v (get_or s.first.links 0 0))
  unfolding reason_of
  reason_link e = rw e

  pub reason_same : kind_number s.kind ≡ 5 → reason_of v s ≡ by_paths same (path_in v s.first) (path_in v s.second)
  unfolding reason_of
  reason_same e = rw e

  pub reason_differ : kind_number s.kind ≡ 6 → reason_of v s ≡ by_paths differ (path_in v s.first) (path_in v s.second)
  unfolding reason_of
  reason_differ e = rw e

-- ---- the paths of a reason, link by link
path_at : (v : View) (p : List ℕ) (i : ℕ) (h : Hop) → i < length p → get_or (path_of v p) i h ≡ hop_at v (get_or p i 0)
unfolding path_of
path_at v [] i h l = absurd (not-suc-le-zero l)
path_at v (k ∷ p) zero h l = refl
path_at v (k ∷ p) (suc i) h l = path_at v p i h (le_of_suc-le-suc l)

module _ (v : View) (to : List ℕ) (c : ℕ) (w : Route) (n : Numbered to c w) (small : c ≤ 4) where
  whole : length (take w.len w.links) ≡ w.len
  whole = length-take-le w.len w.links (omega (arith, n.short, n.links))

  pub steps-length : length (path_in v w) ≡ w.len
  steps-length = path_length v (take w.len w.links) ∙ whole

  module _ (i : ℕ) (l : i < w.len) where
    pub steps-below : get_or w.links i 0 < 512
    steps-below = n.below i l

    pub steps_low : get_or to (get_or w.links i 0) 0 < 64
    steps_low = n.low i l

    pub steps-at : (h : Hop) → get_or (path_in v w) i h ≡ hop_at v (get_or w.links i 0)
    steps-at h =
        path_at v (take w.len w.links) i h (omega (arith, whole))
        ∙ ap (λ (k : ℕ). hop_at v k) (get_or-take w.len w.links i 0 l)
