-- What the functions return that measure a question: a law for each exit and each turn of a loop.
use mathlib.Core.List.{List, [], ◌∷◌}
use mathlib.Core.Path.{◌≡◌, refl, sym, ap, ap₂, ◌∙◌}
use Prim.Native.Nat.{ℕ, ◌+◌, ◌-◌, ◌≤◌, ◌<◌}
use native.Mathlib.Omega.{arith}
use borrow.Author.Tests.{lt-ltb, ne_eqb}
use lib.ListN.{length, get_or, set, drop}
use Rattle.sheet.specs.Entry.{Step, Entry, expressions, kind_number, kind_of, first_way_lem, step_in, numbers}
use Rattle.sheet.specs.Sheet.{count_of, entries_of, entry_at, entry_start, question_of, most_entries, sheet_refusal}
use Rattle.sheet.proofs.PassedLaws.{accepted_head}
use Rattle.sheet.proofs.AcceptedLaws.{length-steps, accepted_question}
use Rattle.sheet.specs.Reading.{steps_of}
use Rattle.sheet.specs.Known.{EntriesFit}
use Rattle.sheet.proofs.KindLaws.{kind_two}
use Rattle.sheet.specs.KindLaws.{last_stepped}
use Rattle.sheet.proofs.KnownLaws.{none_left, next-step, fit_earlier}
use Rattle.sheet.specs.declared.Steps.{Steps}
use Rattle.sheet.specs.declared.kinds.Kind.{Kind}
use Rattle.sheet.specs.declared.kinds.Kind.TheVariants as says
use Rattle.question_measure.specs.Measures.{measured, beside, longer, referred, step_measure, steps_measure, way_measure, plain_by_lem, ways_by, pair_measure, entry_measure}
use Rattle.question_measure.specs.HoldsLaws.{holds_none, holds_next}
use Rattle.question_measure.specs.MeasureLaws.{Measured, entry_measured}
use Rattle.question_measure.specs.declared.Measure.{Measure}

-- ---- ways
module _ (s : List ℕ) (w : Steps) (cs ls : List ℕ) where
  pub steps_start : record { chain = 0; length = 0 } ≡ steps_measure cs ls (drop w.count (steps_of s w))
  unfolding steps_measure
  steps_start = rw (none_left s w)

  pub steps_next : (left : ℕ) (a out r : Measure) → 0 < left → left ≤ w.count → out ≡ steps_measure cs ls (drop left (steps_of s w))
      → a ≡ step_measure cs ls (step_in (steps_of s w) (left - 1)) → r ≡ beside a out → r ≡ steps_measure cs ls (drop (left - 1) (steps_of s w))
  unfolding steps_measure
  steps_next left a out r p h i d e = e ∙ rw (d, i, next-step s w left p h)

  pub way_none : w.count ≡ 0 → record { chain = 0; length = 1 } ≡ way_measure cs ls (steps_of s w)
  unfolding way_measure
  way_none e = go (steps_of s w) (omega (arith, length-steps w.version s w.start w.count))
    where
      go : (ss : List Step) → length ss ≡ 0 → record { chain = 0; length = 1 } ≡ way_measure cs ls ss
      go [] h = refl
      go (x ∷ ss) h = absurd (omega arith)

  pub way_some : (r : Measure) → (w.count ≡ 0 → ⊥) → r ≡ steps_measure cs ls (steps_of s w) → r ≡ way_measure cs ls (steps_of s w)
  unfolding way_measure
  way_some r f = go (steps_of s w) (length-steps w.version s w.start w.count)
    where
      go : (ss : List Step) → length ss ≡ w.count → r ≡ steps_measure cs ls ss → r ≡ way_measure cs ls ss
      go [] h e = absurd (f (sym h))
      go (x ∷ ss) h e = e

-- ---- an entry, by its kind

-- an and or an or: what is left below a way, by its kind's number
pub two_kinds : (k : Kind) (n : ℕ) → kind_number k ≡ n → (k ≡ says.True → ⊥) → (k ≡ says.Not → ⊥) → kind_number k < 4 → (2 ≤ n) × (n < 4)
two_kinds k n d f g h = (omega (arith, kind_two k f g), omega arith)

-- a differ: what is left from a way on
pub differ_kind : (k : Kind) (n : ℕ) → kind_number k ≡ n → (k ≡ says.Way → ⊥) → (k ≡ says.Same → ⊥) → 4 ≤ kind_number k → 6 ≡ n
differ_kind k n d f g h = last_stepped k h f g ∙ d

module _ (cs ls : List ℕ) (e : Entry) where
  pub entry_true : 0 ≡ kind_of e → record { chain = 0; length = 3 } ≡ entry_measure cs ls e
  unfolding entry_measure plain_by_lem
  entry_true q = rw (← q)

  module _ (a r : Measure) (d : a ≡ referred cs ls (get_or (numbers e) 0 0)) where
    pub entry_not : 1 ≡ kind_of e → r ≡ longer a 3 → r ≡ entry_measure cs ls e
    unfolding entry_measure plain_by_lem
    entry_not q p = p ∙ rw (← q, d)

    pub entry_two : (b m : Measure) → (2 ≤ kind_of e) × (kind_of e < 4) → b ≡ referred cs ls (get_or (numbers e) 1 0) → m ≡ beside a b → r ≡ longer m 3
        → r ≡ entry_measure cs ls e
    unfolding entry_measure plain_by_lem
    entry_two b m q f g p =
        p ∙ rw (g, d, f, lt-ltb (kind_of e) 4 q.1, ne_eqb (kind_of e) 0 (λ z. omega (arith, q.0)), ne_eqb (kind_of e) 1 (λ z. omega (arith, q.0)))

  pub entry_way : (ss : List Step) (a r : Measure) → 4 ≡ kind_of e → ss ≡ first_way_lem e → a ≡ way_measure cs ls ss → r ≡ longer a 2 → r ≡ entry_measure cs ls e
  unfolding entry_measure ways_by
  entry_way ss a r q f d p = p ∙ rw (← q, d, f)

  module _ (m r : Measure) (d : m ≡ pair_measure cs ls e) where
    pub entry_same : 5 ≡ kind_of e → r ≡ longer m 3 → r ≡ entry_measure cs ls e
    unfolding entry_measure ways_by
    entry_same q p = p ∙ rw (← q, d)

    pub entry_differ : 6 ≡ kind_of e → r ≡ longer m 4 → r ≡ entry_measure cs ls e
    unfolding entry_measure ways_by
    entry_differ q p = p ∙ rw (← q, d)

-- ---- entry by entry
pub measured_none : (s cs ls : List ℕ) → Measured s 0 cs ls
measured_none s cs ls = record { chains = holds_none _ cs; lengths = holds_none _ ls }

-- there is a place for each entry
pub entries_listed : (s : List ℕ) (upto : ℕ) → sheet_refusal s ≡ 0 → upto ≤ count_of s → EntriesFit s upto most_entries
entries_listed s upto good h = record { good = good; entries = h; places = omega (arith, (accepted_head s good).most) }

-- the next entry's chain and length
module _ (s : List ℕ) (upto : ℕ) (o : EntriesFit s upto most_entries) where
  pub measured-next : (k at : ℕ) (cs ls : List ℕ) (m : Measure) → length cs ≡ most_entries → length ls ≡ most_entries → k < upto → at ≡ entry_start s k → Measured s k cs ls
      → m ≡ entry_measure cs ls (entry_at s at) → Measured s (k + 1) (set cs k m.chain) (set ls k m.length)
  measured-next k at cs ls m p q h d i e =
      let is : m ≡ measured (question_of s k) =
      e
      ∙ entry_measured (expressions (entries_of s)) k cs ls (record { chains = i.chains; lengths = i.lengths }) (entry_at s at)
      (fit_earlier s upto most_entries o k at h d)
      ∙ ap measured (rw d (sym (accepted_question s o.good k (omega (arith, o.entries))))) in
      let f : k < most_entries = omega (arith, o.places) in
      record {
        chains = holds_next i.chains (omega arith) m.chain (ap (λ m. m.chain) is);
        lengths = holds_next i.lengths (omega arith) m.length (ap (λ m. m.length) is);
      }

pub measured_last : (s : List ℕ) (k : ℕ) (cs ls : List ℕ) → Measured s (k + 1) cs ls → record { chain = get_or cs k 0; length = get_or ls k 0 } ≡ measured (question_of s k)
measured_last s k cs ls i = ap₂ (λ c n. record { chain = c; length = n }) (i.chains.each k (omega arith)) (i.lengths.each k (omega arith))
