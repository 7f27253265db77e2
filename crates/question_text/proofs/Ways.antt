-- The writers of ways: what each call needs and what each exit leaves, piece by piece.
use mathlib.Core.List.{List, [], ◌∷◌, ◌++◌, append_assoc, append-nil}
use mathlib.Core.Bool.{Bool, true, false, cond}
use mathlib.Core.Path.{◌≡◌, refl, sym, ap, ◌∙◌}
use Prim.Native.Nat.{ℕ, suc, ◌+◌, ◌-◌, ◌*◌, ◌≤◌, ◌<◌}
use native.Mathlib.Nat.{mul-le-mul_left}
use native.Mathlib.Omega.{arith}
use lib.Dec.{eqb}
use lib.ListN.{length, length-append}
use Rattle.theory.specs.Expression.{NodeExpr}
use Rattle.fields.specs.Runs.{PutBytes}
use Rattle.fields.specs.RunLaws.{put_none, put_as, put_after, piece_fits, rest_fits}
use Rattle.sheet.specs.Entry.{Step, kind_of, first_way_lem, second_way, step_in, named, spell_way, tests, Below}
use Rattle.sheet.specs.Sheet.{step_width, step_at, steps_at, entry_at}
use Rattle.sheet.proofs.AcceptedLaws.{length-steps}
use Rattle.sheet.specs.Reading.{HasWay, HasStep, Reads, steps_of}
use Rattle.sheet.proofs.ReadingLaws.{test_below}
use Rattle.sheet.proofs.KnownLaws.{ways-below}
use Rattle.sheet.specs.declared.Steps.{Steps}
use Rattle.text.specs.Text.{ascii, decimal}
use Rattle.question_measure.specs.Text.{sign_text, or_stay, steps_text, question_text, way_text}
use Rattle.question_text.specs.Answer.{text_of}
use Rattle.question_text.specs.Writing.{WayOf, sign_by, questions_of, label_text, between, steps_text_of, way_text_of, second_text}
use Rattle.question_text.proofs.Entries.{text_way, text_ways, Entered, entered_readable, entered_text, entered_earlier}

-- ---- the ways of entry k
module _ (s starts : List ℕ) (k start : ℕ) (o : Entered s k start) (l : k < length starts) where
  earlier : Below k (tests (first_way_lem (entry_at s start))) × Below k (tests (second_way (entry_at s start)))
  earlier = ways-below k (entry_at s start) (entered_earlier s k start o)

  way_of : (p w : Steps) (ss : List Step) → Reads s p ss w → Below k (tests ss) → WayOf s starts k w
  way_of p w ss r e = record { listed = omega arith; inside = r.inside; earlier = rw r.steps e }

  module _ (p w : Steps) where
    pub first-way_of : Reads s p (first_way_lem (entry_at s start)) w → WayOf s starts k w
    first-way_of f = way_of p w (first_way_lem (entry_at s start)) f earlier.0

    pub second_way_of : Reads s p (second_way (entry_at s start)) w → WayOf s starts k w
    second_way_of f = way_of p w (second_way (entry_at s start)) f earlier.1

-- ---- put_exists
module _ (s : List ℕ) (k start : ℕ) (o : Entered s k start) (q : kind_of (entry_at s start) ≡ 4) where
  pub exists_way : HasWay s start 4
  exists_way = record { entry = entered_readable s k start o; kind = omega arith }

  module _ (p w : Steps) (f : Reads s p (first_way_lem (entry_at s start)) w) (room : List ℕ) (at : ℕ) where
    exists_text : text_of s k ≡ ascii "<" ++ (way_text_of s w ++ ascii ">")
    exists_text = entered_text s k start o ∙ text_way (questions_of s) (entry_at s start) q ∙ rw f.steps

    pub exists_opens : at + length (text_of s k) ≤ length room → at + 1 ≤ length room
    exists_opens h = piece_fits room at (text_of s k) (ascii "<") (way_text_of s w ++ ascii ">") exists_text h

    module _ (mid : List ℕ) (to : ℕ) (r : PutBytes room at (60 ∷ []) mid to) where
      exists_rest : at + length (text_of s k) ≤ length room → to + length (way_text_of s w ++ ascii ">") ≤ length mid
      exists_rest h = rest_fits (text_of s k) (ascii "<") (way_text_of s w ++ ascii ">") exists_text h r

      pub exists_part : at + length (text_of s k) ≤ length room → to + length (way_text_of s w) ≤ length mid
      exists_part h = piece_fits mid to (way_text_of s w ++ ascii ">") (way_text_of s w) (ascii ">") refl (exists_rest h)

      module _ (mid' : List ℕ) (to' : ℕ) (r' : PutBytes mid to (way_text_of s w) mid' to') where
        pub exists_closes : at + length (text_of s k) ≤ length room → to' + 1 ≤ length mid'
        exists_closes h = rest_fits (way_text_of s w ++ ascii ">") (way_text_of s w) (ascii ">") refl (exists_rest h) r'

        pub exists_put : (exit : List ℕ) (next : ℕ) → PutBytes mid' to' (62 ∷ []) exit next → PutBytes room at (text_of s k) exit next
        exists_put exit next x = put_as (sym exists_text) (put_after r (put_after r' x))

-- ---- put_comparison
module _ (s : List ℕ) (k start kind : ℕ) (o : Entered s k start) (q : kind ≡ kind_of (entry_at s start)) (b : 5 ≤ kind) where
  pub compared-first : HasWay s start 4
  compared-first = record { entry = entered_readable s k start o; kind = omega arith }

  module _ (p w : Steps) (f : Reads s p (first_way_lem (entry_at s start)) w) (room : List ℕ) (at : ℕ) where
    compared_text : text_of s k ≡ ascii "<" ++ (way_text_of s w ++ second_text s kind start)
    compared_text = entered_text s k start o ∙ text_ways (questions_of s) (entry_at s start) (omega arith) ∙ rw (f.steps, q)

    pub compared_opens : at + length (text_of s k) ≤ length room → at + 1 ≤ length room
    compared_opens h = piece_fits room at (text_of s k) (ascii "<") (way_text_of s w ++ second_text s kind start) compared_text h

    module _ (mid : List ℕ) (to : ℕ) (r : PutBytes room at (60 ∷ []) mid to) where
      compared-rest : at + length (text_of s k) ≤ length room → to + length (way_text_of s w ++ second_text s kind start) ≤ length mid
      compared-rest h = rest_fits (text_of s k) (ascii "<") (way_text_of s w ++ second_text s kind start) compared_text h r

      pub compared-part : at + length (text_of s k) ≤ length room → to + length (way_text_of s w) ≤ length mid
      compared-part h = piece_fits mid to (way_text_of s w ++ second_text s kind start) (way_text_of s w) (second_text s kind start) refl (compared-rest h)

      module _ (mid' : List ℕ) (to' : ℕ) (r' : PutBytes mid to (way_text_of s w) mid' to') where
        pub compared-other : at + length (text_of s k) ≤ length room → to' + length (second_text s kind start) ≤ length mid'
        compared-other h = rest_fits (way_text_of s w ++ second_text s kind start) (way_text_of s w) (second_text s kind start) refl (compared-rest h) r'

        pub compared_put : (exit : List ℕ) (next : ℕ) → PutBytes mid' to' (second_text s kind start) exit next → PutBytes room at (text_of s k) exit next
        compared_put exit next x = put_as (sym compared_text) (put_after r (put_after r' x))

-- ---- put_second
sign_some : (kind : ℕ) → 1 ≤ length (sign_by kind)
unfolding sign_by sign_text
sign_some kind = go (eqb kind 5)
  where
    go : (b : Bool) → 1 ≤ length (cond b (ascii "=") (ascii "!="))
    go true = omega arith
    go false = omega arith

pub compared_second : (s : List ℕ) (k start kind : ℕ) → Entered s k start → kind ≡ kind_of (entry_at s start) → 5 ≤ kind → HasWay s start 5
compared_second s k start kind o q b = record { entry = entered_readable s k start o; kind = omega arith }

module _ (s : List ℕ) (start kind : ℕ) (p w : Steps) (f : Reads s p (second_way (entry_at s start)) w) (room : List ℕ) (at : ℕ) where
  second-text : second_text s kind start ≡ sign_by kind ++ (way_text_of s w ++ ascii ">")
  second-text = rw f.steps

  pub second_sign : at + length (second_text s kind start) ≤ length room → at + 2 ≤ length room
  second_sign h =
      omega (arith, ap length second-text, length-append (sign_by kind) (way_text_of s w ++ ascii ">"), length-append (way_text_of s w) (ascii ">"), sign_some kind)

  module _ (mid : List ℕ) (to : ℕ) (r : PutBytes room at (sign_by kind) mid to) where
    second_rest : at + length (second_text s kind start) ≤ length room → to + length (way_text_of s w ++ ascii ">") ≤ length mid
    second_rest h = rest_fits (second_text s kind start) (sign_by kind) (way_text_of s w ++ ascii ">") second-text h r

    pub second_part : at + length (second_text s kind start) ≤ length room → to + length (way_text_of s w) ≤ length mid
    second_part h = piece_fits mid to (way_text_of s w ++ ascii ">") (way_text_of s w) (ascii ">") refl (second_rest h)

    module _ (mid' : List ℕ) (to' : ℕ) (r' : PutBytes mid to (way_text_of s w) mid' to') where
      pub second_closes : at + length (second_text s kind start) ≤ length room → to' + 1 ≤ length mid'
      second_closes h = rest_fits (way_text_of s w ++ ascii ">") (way_text_of s w) (ascii ">") refl (second_rest h) r'

      pub second_put : (exit : List ℕ) (next : ℕ) → PutBytes mid' to' (62 ∷ []) exit next → PutBytes room at (second_text s kind start) exit next
      second_put exit next x = put_as (sym second-text) (put_after r (put_after r' x))

-- ---- put_way
module _ (s : List ℕ) (w : Steps) where
  steps_none : w.count ≡ 0 → way_text_of s w ≡ ascii "."
  unfolding steps_at spell_way steps_text or_stay
  steps_none e = rw e

  steps_some : (w.count ≡ 0 → ⊥) → way_text_of s w ≡ steps_text_of s w
  unfolding spell_way steps_text or_stay
  steps_some f = go (steps_of s w) (length-steps w.version s w.start w.count)
    where
      go : (ss : List Step) → length ss ≡ w.count → way_text (spell_way (questions_of s) ss) ≡ steps_text (spell_way (questions_of s) ss)
      go [] h = absurd (f (sym h))
      go (x ∷ ss) h = refl

  module _ (room : List ℕ) (at : ℕ) where
    pub dot_fits : w.count ≡ 0 → at + length (way_text_of s w) ≤ length room → at + 1 ≤ length room
    dot_fits e h = omega (arith, ap length (steps_none e))

    pub dot_put : (exit : List ℕ) (next : ℕ) → w.count ≡ 0 → PutBytes room at (46 ∷ []) exit next → PutBytes room at (way_text_of s w) exit next
    dot_put exit next e p = put_as (sym (steps_none e)) p

    pub steps_fit : (w.count ≡ 0 → ⊥) → at + length (way_text_of s w) ≤ length room → at + length (steps_text_of s w) ≤ length room
    steps_fit f h = omega (arith, ap length (steps_some f))

    pub steps_put : (exit : List ℕ) (next : ℕ) → (w.count ≡ 0 → ⊥) → PutBytes room at (steps_text_of s w) exit next → PutBytes room at (way_text_of s w) exit next
    steps_put exit next f p = put_as (sym (steps_some f)) p

-- ---- put_steps

-- The n steps from byte `from` on, in version v.
abbrev pub run : ℕ → ℕ → ℕ → Steps
run v from n = record { start = from; count = n; version = v }

-- Of a text that is written from `at` on, `done` is written, and the steps of w are left.
pub record Going (s room₀ : List ℕ) (at : ℕ) (text room : List ℕ) (next : ℕ) (w : Steps) : Type 0 where
  pub done : List ℕ
  pub split : text ≡ done ++ steps_text_of s w
  pub put : PutBytes room₀ at done room next

pub going_start : (s room : List ℕ) (at : ℕ) (w : Steps) → Going s room at (steps_text_of s w) room at w
going_start s room at w = record { done = []; split = refl; put = put_none room at }

pub going_end : (s room₀ : List ℕ) (at : ℕ) (text room : List ℕ) (next v from left : ℕ) → left ≡ 0 → Going s room₀ at text room next (run v from left)
    → PutBytes room₀ at text room next
unfolding steps_at spell_way steps_text
going_end s room₀ at text room next v from left e g = put_as (sym (g.split ∙ ap (λ n. g.done ++ steps_text_of s (run v from n)) e ∙ append-nil g.done)) g.put

-- a step's text stands before that of the others
step-first : (qs : List NodeExpr) (x : Step) (ss : List Step) → steps_text (spell_way qs (x ∷ ss)) ≡ steps_text (spell_way qs (x ∷ [])) ++ steps_text (spell_way qs ss)
unfolding spell_way steps_text
step-first qs x ss =
    let A = ascii "/" ++ decimal x.label in
    let B = ascii "[" ++ (question_text (named qs x.test) ++ ascii "]") in
    let R = steps_text (spell_way qs ss) in
    sym (ap (λ l. (A ++ l) ++ R) (append-nil B) ∙ append_assoc A B R)

module _ (s starts : List ℕ) (k v from left : ℕ) (o : WayOf s starts k (run v from left)) (h : 0 < left) where
  -- the first step, of `size` bytes, and the others
  module _ (size : ℕ) (d : size ≡ step_width v * 1) where
    parted : steps_of s (run v from left) ≡ step_at v s from ∷ steps_of s (run v (from + size) (left - 1))
    unfolding steps_at
    parted =
        ap (steps_at v s from) (let e : left ≡ suc (left - 1) = omega arith in e)
        ∙ ap (λ at. step_at v s from ∷ steps_at v s at (left - 1)) (let e : from + step_width v ≡ from + size = omega arith in e)

    split_earlier : ((step_at v s from).test < k) × Below k (tests (steps_of s (run v (from + size) (left - 1))))
    unfolding tests Below
    split_earlier = rw parted at o.earlier

    pub others-way : WayOf s starts k (run v (from + size) (left - 1))
    others-way =
        record {
          listed = o.listed;
          inside = let i = o.inside in let e : left ≡ suc (left - 1) = omega arith in omega (arith, ap (λ n. step_width v * n) e);
          earlier = split_earlier.1;
        }

    first-others : steps_text_of s (run v from left) ≡ steps_text_of s (run v from 1) ++ steps_text_of s (run v (from + size) (left - 1))
    unfolding steps_at
    first-others = ap (λ ss. steps_text (spell_way (questions_of s) ss)) parted ∙ step-first (questions_of s) (step_at v s from) _

    module _ (room₀ : List ℕ) (at : ℕ) (text room : List ℕ) (next : ℕ) (g : Going s room₀ at text room next (run v from left)) where
      pub going_next : (exit : List ℕ) (to : ℕ) → PutBytes room next (steps_text_of s (run v from 1)) exit to → Going s room₀ at text exit to (run v (from + size) (left - 1))
      going_next exit to p =
          record {
            done = g.done ++ steps_text_of s (run v from 1);
            split = g.split ∙ ap (λ l. g.done ++ l) first-others ∙ sym (append_assoc g.done _ _);
            put = put_after g.put p;
          }

  pub one_way : WayOf s starts k (run v from 1)
  unfolding steps_at tests Below
  one_way =
      record {
        listed = o.listed;
        inside = let i = o.inside in omega (arith, mul-le-mul_left (step_width v) h);
        earlier = ((split_earlier (step_width v * 1) refl).0, tt);
      }

  pub going_fits : (room₀ : List ℕ) (at : ℕ) (text room : List ℕ) (next : ℕ) → Going s room₀ at text room next (run v from left) → at + length text ≤ length room₀
      → next + length (steps_text_of s (run v from 1)) ≤ length room
  going_fits room₀ at text room next g f =
      piece_fits room next (steps_text_of s (run v from left)) (steps_text_of s (run v from 1)) _ (first-others (step_width v * 1) refl)
      (rest_fits text g.done (steps_text_of s (run v from left)) g.split f g.put)

-- ---- put_step
one-step : (qs : List NodeExpr) (ss : List Step) → length ss ≡ 1
    → steps_text (spell_way qs ss) ≡ ascii "/" ++ (decimal (step_in ss 0).label ++ (ascii "[" ++ (question_text (named qs (step_in ss 0).test) ++ ascii "]")))
unfolding spell_way steps_text
one-step qs [] h = absurd (omega arith)
one-step qs (x ∷ []) h = rw append-nil
one-step qs (x ∷ y ∷ ss) h = absurd (omega arith)

module _ (s starts : List ℕ) (k : ℕ) (w : Steps) (o : WayOf s starts k w) (c : w.count ≡ 1) where
  pub step-has : HasStep s w 0
  step-has = record { present = omega arith; few = omega arith; inside = o.inside }

  pub test_earlier : (i : ℕ) → i ≡ (step_in (steps_of s w) 0).test → i < k
  test_earlier i e = rw e (test_below k (steps_of s w) 0 o.earlier (omega (arith, length-steps w.version s w.start w.count)))

  -- the test in brackets
  tested : List ℕ
  tested = between 91 (text_of s (step_in (steps_of s w) 0).test) 93

  step_is : steps_text_of s w ≡ ascii "/" ++ (decimal (step_in (steps_of s w) 0).label ++ tested)
  unfolding tested
  step_is = one-step (questions_of s) (steps_of s w) (omega (arith, length-steps w.version s w.start w.count))

  module _ (room : List ℕ) (at : ℕ) (a : ℕ) (d : a ≡ (step_in (steps_of s w) 0).label) where
    step_text : steps_text_of s w ≡ label_text a ++ tested
    step_text = step_is ∙ rw d

    pub step_label : at + length (steps_text_of s w) ≤ length room → at + length (label_text a) ≤ length room
    step_label h = piece_fits room at (steps_text_of s w) (label_text a) tested step_text h

    module _ (mid : List ℕ) (to : ℕ) (p : PutBytes room at (label_text a) mid to) (i : ℕ) (e : i ≡ (step_in (steps_of s w) 0).test) where
      pub step_test : at + length (steps_text_of s w) ≤ length room → to + length (between 91 (text_of s i) 93) ≤ length mid
      unfolding tested
      step_test h = rw e (rest_fits (steps_text_of s w) (label_text a) tested step_text h p)

      pub step_put : (exit : List ℕ) (next : ℕ) → PutBytes mid to (between 91 (text_of s i) 93) exit next → PutBytes room at (steps_text_of s w) exit next
      unfolding tested
      step_put exit next x = put_as (sym step_text) (put_after p (put_as (ap (λ i. between 91 (text_of s i) 93) e) x))
