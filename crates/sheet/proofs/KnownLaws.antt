-- Laws of a pass over a sheet: which numbers are known, what can be read, and how it goes on.
use Rattle.std.specs.Prelude.{List, [], ◌∷◌, ◌≡◌, ℕ, zero, suc, ◌+◌, ◌-◌, ◌≤◌, ◌<◌, length, get_or, drop}
use Rattle.std.proofs.Common.{sym, ap, ◌∙◌, not-suc-le-zero, arith, drop_of_length-le, drop-cons}
use Rattle.sheet.specs.Entry.{Step, Entry, truth, negation, conjunction, disjunction, way, comparison, kind_of, first_way_lem, second_way, step_in, tests, numbers, Below}
use Rattle.sheet.specs.ExpressionLaws.{below-append}
use Rattle.sheet.specs.Sheet.{count_of, entry_at, entry_start, next_at, most_entries, sheet_refusal}
use Rattle.sheet.proofs.PassedLaws.{accepted_head}
use Rattle.sheet.proofs.AcceptedLaws.{length-steps, well_formed_entry, entry_start-next, accepted_standing}
use Rattle.sheet.specs.Reading.{Readable, HasNumber, HasStep, Reads, steps_of}
use Rattle.sheet.proofs.ReadingLaws.{readable, has_number, test_below}
use Rattle.sheet.specs.Known.{WayKnown, EntryKnown, EntriesFit}
use Rattle.sheet.specs.declared.Steps.{Steps}

-- ---- numbers below a limit

pub below_at : (m : ℕ) (is : List ℕ) (i : ℕ) → Below m is → i < length is → get_or is i 0 < m
unfolding Below
below_at m [] i b h = absurd (not-suc-le-zero h)
below_at m (k ∷ is) zero b h = b.0
below_at m (k ∷ is) (suc i) b h = below_at m is i b.1 (omega arith)

pub below_more : (m k : ℕ) (is : List ℕ) → m ≤ k → Below m is → Below k is
unfolding Below
below_more m k [] h b = tt
below_more m k (i ∷ is) h b = (omega (arith, b.0), below_more m k is h b.1)

-- the tests of an entry's ways are among its numbers
pub ways-below : (m : ℕ) (e : Entry) → Below m (numbers e) → Below m (tests (first_way_lem e)) × Below m (tests (second_way e))
unfolding Below numbers tests first_way_lem second_way
ways-below m truth b = (tt, tt)
ways-below m (negation i) b = (tt, tt)
ways-below m (conjunction i j) b = (tt, tt)
ways-below m (disjunction i j) b = (tt, tt)
ways-below m (way ss) b = (b, tt)
ways-below m (comparison c ss ss') b = below-append m (tests ss) (tests ss') b

-- ---- the numbers of a not, and or or

module _ (s : List ℕ) (at i m k : ℕ) (h : HasNumber s at i) (e : EntryKnown s at m) (d : k ≡ get_or (numbers (entry_at s at)) i 0) where
  pub number_known : k < m
  number_known = rw d (below_at m (numbers (entry_at s at)) i e.known h.present)

module _ (s : List ℕ) (at m kind : ℕ) (o : EntryKnown s at m) (l : kind_of (entry_at s at) < 4) (d : kind ≡ kind_of (entry_at s at)) (f : kind ≡ 0 → ⊥) where
  pub first_number : HasNumber s at 0
  first_number = has_number o.entry 0 (omega arith) (omega arith) l

  pub second_number : (kind ≡ 1 → ⊥) → HasNumber s at 1
  second_number g = has_number o.entry 1 (omega arith) (omega arith) l

-- ---- the ways of an entry

module _ (s : List ℕ) (at m : ℕ) (o : EntryKnown s at m) (p w : Steps) where
  pub first_known : Reads s p (first_way_lem (entry_at s at)) w → WayKnown s w m
  first_known r = record { few = r.few; inside = r.inside; known = rw r.steps (ways-below m (entry_at s at) o.known).0 }

  pub second_known : Reads s p (second_way (entry_at s at)) w → WayKnown s w m
  second_known r = record { few = r.few; inside = r.inside; known = rw r.steps (ways-below m (entry_at s at) o.known).1 }

-- ---- the steps of a way

module _ (s : List ℕ) (w : Steps) (i m : ℕ) (h : i < w.count) (e : WayKnown s w m) where
  pub has-step : HasStep s w i
  has-step = record { present = h; few = e.few; inside = e.inside }

  pub test_known : (k : ℕ) → k ≡ (step_in (steps_of s w) i).test → k < m
  test_known k d = rw d (test_below m (steps_of s w) i e.known (rw (length-steps w.version s w.start w.count) h))

-- there are no steps from `count` on, and all are from 0 on
pub none_left : (s : List ℕ) (w : Steps) → drop w.count (steps_of s w) ≡ []
none_left s w = drop_of_length-le (steps_of s w) {i = w.count} (omega (arith, length-steps w.version s w.start w.count))

pub all_left : (ss : List Step) (left : ℕ) → left ≤ 0 → drop left ss ≡ ss
all_left ss left h = rw (let e : left ≡ 0 = omega arith in e)

-- the steps from the one before `left` on
pub next-step : (s : List ℕ) (w : Steps) (left : ℕ) → 0 < left → left ≤ w.count → drop (left - 1) (steps_of s w) ≡ step_in (steps_of s w) (left - 1) ∷ drop left (steps_of s w)
next-step s w left p h =
    let ss = steps_of s w in
    let e : suc (left - 1) ≡ left = omega arith in
    drop-cons ss (left - 1) (record { label = 0; test = 0 }) (omega (arith, length-steps w.version s w.start w.count)) ∙ ap (λ i. step_in ss (left - 1) ∷ drop i ss) e

-- ---- from entry to entry

pub start_next : (s : List ℕ) (k at next : ℕ) → at ≡ entry_start s k → next ≡ next_at s at → next ≡ entry_start s (k + 1)
start_next s k at next d e = rw (e, d) (sym (entry_start-next s k))

module _ (s : List ℕ) (upto m : ℕ) (o : EntriesFit s upto m) where
  pub fit_first : (sheet_refusal s ≡ 0) × (0 < count_of s)
  fit_first = (o.good, (accepted_head s o.good).some)

  module _ (k at : ℕ) (h : k < upto) (d : at ≡ entry_start s k) where
    pub fit_readable : Readable s at
    fit_readable = readable s k at o.good (let e = o.entries in omega arith) d

    -- its numbers name entries before it
    pub fit_earlier : Below k (numbers (entry_at s at))
    fit_earlier = rw d (well_formed_entry (accepted_standing s o.good k (let e = o.entries in omega arith))).earlier

    pub fit_known : (l : List ℕ) → length l ≡ m → EntryKnown s at (length l)
    fit_known l e = record { entry = fit_readable; known = below_more k (length l) _ (let w = o.places in omega arith) fit_earlier }

-- no sheet has more entries than there may be places
module _ (s : List ℕ) (good : sheet_refusal s ≡ 0) (k : ℕ) (h : k < count_of s) where
  pub entry_few : k < most_entries
  entry_few = let m = (accepted_head s good).most in omega arith

  pub entries_fit : (l : List ℕ) → length l ≡ most_entries → EntriesFit s (k + 1) (length l)
  entries_fit l e = record { good = good; entries = omega arith; places = omega (arith, entry_few) }
