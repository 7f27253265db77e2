-- What Compare writes, as a function of the setting: the entries and the map, by rounds over all pairs of nodes (`comparison`).
-- A round asks, of each pair that was related as it began, for the reason that plain nested loops come to first (theory, `Choosing`): from the left, or else,
-- two-sided, from the right. Where there is one the pair is parted, and what parts it is written: one-sided without a denial (02, 2026-03).
use Rattle.std.specs.Prelude.{cond, List, [], ◌∷◌, ◌++◌, ℕ, zero, suc, ◌+◌, ◌*◌, ◌/◌, ◌%◌, length, get_or, set, replicate}
use Rattle.theory.specs.Path.{Path}
use Rattle.theory.specs.Bisimulation.{Relation, flip, Sides, one_sided, two_sided}
use Rattle.theory.specs.Parting.{Reason, by_link, by_paths}
use Rattle.theory.specs.Choosing.{Choice, none, some, chosen}
use Rattle.sheet.specs.Entry.{Step, Entry, truth, negation, conjunction, way, comparison as comparing}
use Rattle.compare_laws.specs.Places.{start_map}
use Rattle.compare_laws.specs.Setting.{Setting, pairs, relation_after}

-- The entries so far; the map, 0 where a pair of nodes is not parted; and for each node of each graph the number of the entry that describes it, as the round
-- found it and as it has become.
pub record State : Type 0 where
  pub entries : List Entry
  pub map : List ℕ
  pub old_left : List ℕ
  pub old_right : List ℕ
  pub new_left : List ℕ
  pub new_right : List ℕ

-- The state before the first round, with 64 places for what describes nodes.
unfoldable pub begin : Setting → State
begin s =
    record {
      entries = truth ∷ [];
      map = start_map s.left.size s.right.size s.left.shown s.right.shown;
      old_left = replicate 64 0;
      old_right = replicate 64 0;
      new_left = replicate 64 0;
      new_right = replicate 64 0;
    }

-- ---- what is written for a pair

-- Why a pair is parted: what the left node has and the right one lacks, or the other way round.
pub data Cause : Type 0 where
  ahead back : Reason → Cause

-- The steps along a path: at each node the test is the entry that xs gives for it.
unfoldable pub steps_along : List ℕ → Path → List Step
steps_along xs [] = []
steps_along xs (h ∷ p) = record { label = h.label; test = get_or xs h.to 0 } ∷ steps_along xs p

-- The entry that puts a reason.
unfoldable pub reason_entry : List ℕ → Reason → Entry
reason_entry xs (by_link h) = way (steps_along xs (h ∷ []))
reason_entry xs (by_paths t p q) = comparing t (steps_along xs p) (steps_along xs q)

-- The entries after e and its denial were written.
unfoldable pub with_denial : List Entry → Entry → List Entry
with_denial es e = (es ++ (e ∷ [])) ++ (negation (length es) ∷ [])

-- The entries after "i and j" was written. Where i is 0, always true, nothing is written and j serves.
unfoldable pub conjoined : List Entry → ℕ → ℕ → List Entry
conjoined es zero j = es
conjoined es (suc i) j = es ++ (conjunction (suc i) j ∷ [])

-- The number of "i and j" there.
unfoldable pub conjoint : List Entry → ℕ → ℕ → ℕ
conjoint es zero j = j
conjoint es (suc i) j = length es

-- The state with other entries.
abbrev pub with_entries : List Entry → State → State
with_entries es now =
    record {
      entries = es;
      map = now.map;
      old_left = now.old_left;
      old_right = now.old_right;
      new_left = now.new_left;
      new_right = now.new_right;
    }

-- Name the entry i, which is true at the left node a, in the map, and add it to what describes a.
unfoldable pub name_left : ℕ → ℕ → ℕ → ℕ → State → State
name_left m a b i now =
    record {
      entries = conjoined now.entries (get_or now.new_left a 0) i;
      map = set now.map (a * m + b) i;
      old_left = now.old_left;
      old_right = now.old_right;
      new_left = set now.new_left a (conjoint now.entries (get_or now.new_left a 0) i);
      new_right = now.new_right;
    }

-- Add the entry j, which is true at the right node b, to what describes b.
unfoldable pub describe_right : ℕ → ℕ → State → State
describe_right b j now =
    record {
      entries = conjoined now.entries (get_or now.new_right b 0) j;
      map = now.map;
      old_left = now.old_left;
      old_right = now.old_right;
      new_left = now.new_left;
      new_right = set now.new_right b (conjoint now.entries (get_or now.new_right b 0) j);
    }

-- Write the entry e, which parts the pair, and where both sides count its denial. Of the two i is true at the left node a, and named; and j at the right node b,
-- which nothing describes where one side counts.
unfoldable pub write : Sides → ℕ → ℕ → ℕ → Entry → ℕ → ℕ → State → State
write one_sided m a b e i j now = name_left m a b i (with_entries (now.entries ++ (e ∷ [])) now)
write two_sided m a b e i j now = describe_right b j (name_left m a b i (with_entries (with_denial now.entries e) now))

-- The step for a pair that is parted: the entry tests the nodes on its ways by what described them as the round began.
unfoldable pub part : Sides → ℕ → ℕ → ℕ → Cause → State → State
part x m a b (ahead why) now = write x m a b (reason_entry now.old_left why) (length now.entries) (suc (length now.entries)) now
part x m a b (back why) now = write x m a b (reason_entry now.old_right why) (suc (length now.entries)) (length now.entries) now

-- The state at the next round's start: what describes a node is what it has become.
unfoldable pub turned : State → State
turned now =
    record {
      entries = now.entries;
      map = now.map;
      old_left = now.new_left;
      old_right = now.new_right;
      new_left = now.new_left;
      new_right = now.new_right;
    }

-- ---- which pairs are parted, and by what

-- What becomes of a pair: its clauses hold and it remains, or it is parted by a cause.
pub data Verdict : Type 0 where
  remains : Verdict
  parted_by : Cause → Verdict

-- A reason from the left, or else one from the right.
unfoldable pub verdict_of : Choice → Choice → Verdict
verdict_of (some why) d = parted_by (ahead why)
verdict_of none (some why) = parted_by (back why)
verdict_of none none = remains

-- The reason from the right, where that side counts.
unfoldable pub counted : Sides → Choice → Choice
counted one_sided d = none
counted two_sided d = d

-- What becomes of the pair (a, b) under the relation z.
unfoldable pub verdict : Setting → Relation → ℕ → ℕ → Verdict
verdict s z a b = verdict_of (chosen s.left s.right s.bound z a b) (counted s.sides (chosen s.right s.left s.bound (flip z) b a))

-- The step for it.
unfoldable pub obey : Sides → ℕ → ℕ → ℕ → Verdict → State → State
obey x m a b remains now = now
obey x m a b (parted_by why) now = part x m a b why now

-- The step for a pair that z relates; others were parted before, or are none of two nodes.
unfoldable pub settle : Setting → Relation → ℕ → ℕ → State → State
settle s z a b now = cond (z a b) (obey s.sides s.right.size a b (verdict s z a b) now) now

-- The state after the places before p, in a round under the relation z.
unfoldable pub upto : Setting → Relation → ℕ → State → State
upto s z zero now = now
upto s z (suc p) now = settle s z (p / s.right.size) (p % s.right.size) (upto s z p now)

-- The state before round k + 1.
unfoldable pub states : Setting → ℕ → State
states s zero = begin s
states s (suc k) = turned (upto s (relation_after s k) (pairs s) (states s k))

-- The state before place p of round k + 1.
abbrev pub state_at : Setting → ℕ → ℕ → State
state_at s k p = upto s (relation_after s k) p (states s k)

-- The comparison: the state after as many rounds as the map has places.
abbrev pub comparison : Setting → State
comparison s = states s (pairs s)
