-- What each function of the evaluation returns, and what its loops keep: a law for each exit and each turn.
use mathlib.Core.Bool.{Bool, true, false, cond, not, ◌&&◌, ◌||◌, and-false, or-false, false≢true}
use mathlib.Core.Path.{◌≡◌, refl, sym, ap, ◌∙◌}
use mathlib.Core.List.{List, [], ◌∷◌, append-nil}
use Prim.Native.Nat.{ℕ, zero, suc, ◌+◌, ◌-◌, ◌^◌, ◌≤◌, ◌<◌}
use native.Mathlib.Nat.{sub-zero}
use native.Mathlib.Omega.{arith}
use borrow.Author.Tests.{eqb-true, not-false, not-true}
use lib.Bits.{bit_and, bit_or, bit_xor, or_lt}
use lib.Dec.{eqb, ltb}
use lib.ListN.{length, get_or, set, drop, drop_of_length-le}
use lib.Pow.{pow_pos, pow-lt}
use Rattle.theory.specs.Search.{list}
use Rattle.theory.specs.Graph.{same, differ, Link}
use Rattle.words.specs.Words.{bit, IsLowest, IsWithout}
use Rattle.words.specs.Laws.{bit-zero, bit_with, bit_without, word_of_is}
use Rattle.sheet.specs.Entry.{Step, Entry, truth, negation, conjunction, disjunction, way, comparison, kind_of, first_way_lem, second_way, step_in, numbers}
use Rattle.sheet.specs.Sheet.{entry_at, entry_start, next_at}
use Rattle.sheet.proofs.AcceptedLaws.{entry_start-zero}
use Rattle.sheet.specs.Reading.{Reads, steps_of}
use Rattle.sheet.proofs.KnownLaws.{none_left, all_left, next-step}
use Rattle.sheet.specs.declared.Steps.{Steps}
use Rattle.edges.specs.Edges.{image, Gathered, any_passes}
use Rattle.edges.specs.Laws.{empty_at, gather_empty, passes_none, passes_no_second}
use Rattle.evaluate.specs.Evaluation.{Tables, forward, backward, plain_word, way_word, end_rows, Ended, comparison_word, pair_word, entry_word, evaluated_from, evaluated}
use Rattle.evaluate.specs.WritingLaws.{over, over-next}

-- ---- the words that numbers and tests name
pub read_at : (ws : List ℕ) (k j : ℕ) → k ≡ j → get_or ws k 0 ≡ get_or ws j 0
read_at ws k j e = ap (λ i. get_or ws i 0) e

-- ---- ways, from the last step to the first
-- where the later steps end nowhere, so do all
nowhere : (ks : List Link) (ws : List ℕ) (k : ℕ) (ss : List Step) → ((x : ℕ) → get_or (end_rows ks ws (drop k ss)) x 0 ≡ 0) → (x : ℕ) → get_or (end_rows ks ws ss) x 0 ≡ 0
unfolding end_rows
nowhere ks ws zero ss f = f
nowhere ks ws (suc k) [] f = f
nowhere ks ws (suc k) (t ∷ ss) f = gather_empty ks t.label (get_or ws t.test 0) _ _ (nowhere ks ws k ss f) (empty_at 64)

module _ (s : List ℕ) (w : Steps) (left : ℕ) (p : 0 < left) (h : left ≤ w.count) where
  module _ (ks : List Link) (ws : List ℕ) (a v : ℕ) (d : a ≡ (step_in (steps_of s w) (left - 1)).label) (e : v ≡ get_or ws (step_in (steps_of s w) (left - 1)).test 0) where
    pub way_next : (every out m r : ℕ) → out ≡ way_word every ks ws (drop left (steps_of s w)) → m ≡ bit_and v out → r ≡ image ks a m 0
        → r ≡ way_word every ks ws (drop (left - 1) (steps_of s w))
    unfolding way_word
    way_next every out m r i f g = g ∙ rw (f, d, e, i, next-step s w left p h)

    module _ (rows : List ℕ) (i : rows ≡ end_rows ks ws (drop left (steps_of s w))) (b : Bool) (rows' : List ℕ) (g : Gathered ks a v rows b rows') where
      pub rows_next : rows' ≡ end_rows ks ws (drop (left - 1) (steps_of s w))
      unfolding end_rows
      rows_next = g.is ∙ rw (d, e, i, next-step s w left p h)

      -- no way has an end
      pub rows_none : not b ≡ true → Ended ks ws (steps_of s w) false rows'
      rows_none t = record {
        is = λ f. absurd (false≢true f);
        none = λ _. nowhere ks ws (left - 1) (steps_of s w) (λ x. rw (← rows_next) (g.none (not-true b t) x));
      }

module _ (s : List ℕ) (w : Steps) (ks : List Link) (ws : List ℕ) where
  pub way_start : (every : ℕ) → every ≡ way_word every ks ws (drop w.count (steps_of s w))
  unfolding way_word
  way_start every = rw (none_left s w)

  pub rows_start : (rows : List ℕ) → rows ≡ list 64 (λ x. 2 ^ x) → rows ≡ end_rows ks ws (drop w.count (steps_of s w))
  unfolding end_rows
  rows_start rows d = d ∙ rw (none_left s w)

  pub rows_end : (rows : List ℕ) (left : ℕ) → left ≤ 0 → rows ≡ end_rows ks ws (drop left (steps_of s w)) → Ended ks ws (steps_of s w) true rows
  rows_end rows left h i = record { is = λ _. i ∙ rw (all_left (steps_of s w) left h); none = λ e. absurd (false≢true (sym e)) }

-- ---- for each node the set of that node
abbrev pub single : ℕ → ℕ
single x = 2 ^ x

-- the rows with the first x written
abbrev pub singles_to : ℕ → List ℕ → List ℕ
singles_to x rows₀ = over x single rows₀

module _ (rows₀ : List ℕ) (long : length rows₀ ≡ 64) where
  pub singles_start : (rows : List ℕ) → rows ≡ rows₀ → rows ≡ singles_to 0 rows₀
  unfolding list
  singles_start rows d = d

  pub singles_next : (x v : ℕ) (rows : List ℕ) → x < 64 → rows ≡ singles_to x rows₀ → v ≡ 2 ^ x → set rows x v ≡ singles_to (x + 1) rows₀
  singles_next x v rows h d e = rw (d, e) (over-next x single rows₀ (omega arith))

  pub singles_end : (x : ℕ) (rows : List ℕ) → 64 ≤ x → x ≤ 64 → rows ≡ singles_to x rows₀ → rows ≡ list 64 (λ x. 2 ^ x)
  singles_end x rows h l d =
      d ∙ rw (let e : x ≡ 64 = omega arith in e, drop_of_length-le rows₀ {i = 64} (omega arith)) (append-nil (list 64 single))

-- ---- two rows a node
-- whether an end in a node's first row and an end in its second pass
abbrev passed : List ℕ → List ℕ → List ℕ → ℕ → Bool
passed rows firsts seconds y = any_passes (get_or firsts y 0) (get_or seconds y 0) rows

-- the nodes found, and those that pass of the nodes that are left, are all that pass
pub record Found (every : ℕ) (rows firsts seconds : List ℕ) (out left : ℕ) : Type 0 where
  pub small : out < 2 ^ 64
  pub each : (y : ℕ) → y < 64 → (bit out y || (bit left y && passed rows firsts seconds y)) ≡ (bit every y && passed rows firsts seconds y)

pub found_start : (every : ℕ) (rows firsts seconds : List ℕ) → Found every rows firsts seconds 0 every
found_start every rows firsts seconds = record { small = pow_pos 64; each = λ y _. rw bit-zero }

module _ (every : ℕ) (rows firsts seconds : List ℕ) (out left : ℕ) (d : Found every rows firsts seconds out left) where
  module _ (x : ℕ) (l : IsLowest left x) (b : Bool) (e : b ≡ passed rows firsts seconds x) (rest : ℕ) (w : IsWithout left x rest) where
    -- one more, and the same of it both times
    more : (found : Bool) (next : ℕ) → next < 2 ^ 64 → ((y : ℕ) → bit next y ≡ (bit out y || (found && eqb x y))) → b ≡ found
        → Found every rows firsts seconds next rest
    more found next small bits f = record { small = small; each = λ y m. rw w.is (step y ∙ d.each y m) }
      where
        by : (y : ℕ) (q : Bool) → eqb x y ≡ q
            → ((bit out y || (found && q)) || ((bit left y && not q) && passed rows firsts seconds y)) ≡ (bit out y || (bit left y && passed rows firsts seconds y))
        by y true q = rw (← eqb-true x y q, l.there, ← e, f) (with_it (bit out x) found)
          where
            with_it : (o p : Bool) → ((o || (p && true)) || ((true && false) && p)) ≡ (o || (true && p))
            with_it true p = refl
            with_it false true = refl
            with_it false false = refl
        by y false q = without_it (bit out y) found (bit left y) (passed rows firsts seconds y)
          where
            without_it : (o p l r : Bool) → ((o || (p && false)) || ((l && true) && r)) ≡ (o || (l && r))
            without_it true p l r = refl
            without_it false true true r = refl
            without_it false true false r = refl
            without_it false false true r = refl
            without_it false false false r = refl

        step : (y : ℕ) → (bit next y || (bit (bit_xor left (2 ^ x)) y && passed rows firsts seconds y)) ≡ (bit out y || (bit left y && passed rows firsts seconds y))
        step y = rw (bits y, bit_without left x y l.there) (by y (eqb x y) refl)

    pub found_in : b ≡ true → (joined next : ℕ) → joined ≡ bit_or out (2 ^ x) → next ≡ joined → Found every rows firsts seconds next rest
    found_in t joined next u v =
        more true next (rw (v, u) (or_lt 64 out (2 ^ x) d.small (pow-lt l.small))) (λ y. rw (v, u) (bit_with out x y)) t

    pub found_out : b ≡ false → (next : ℕ) → next ≡ out → Found every rows firsts seconds next rest
    found_out t next v = more false next (rw v d.small) (λ y. rw v (sym (or-false (bit out y)))) t

  pub found_all : left ≡ 0 → out ≡ comparison_word every rows firsts seconds
  unfolding comparison_word
  found_all z = word_of_is 64 out _ d.small (λ y m. sym (or-false (bit out y)) ∙ rw (z, bit-zero) at (d.each y m))

-- ---- rows without ends
module _ (every : ℕ) (rows : List ℕ) where
  none_pass : (firsts seconds : List ℕ) → ((x : ℕ) → passed rows firsts seconds x ≡ false) → 0 ≡ comparison_word every rows firsts seconds
  unfolding comparison_word
  none_pass firsts seconds f = word_of_is 64 0 _ (pow_pos 64) (λ y _. bit-zero y ∙ sym (rw (f y) (and-false (bit every y))))

  module _ (ks : List Link) (ws : List ℕ) (s : List ℕ) (at : ℕ) where
    pub no_first : (p w : Steps) → Reads s p (first_way_lem (entry_at s at)) w → (b : Bool) (firsts : List ℕ) → Ended ks ws (steps_of s w) b firsts → not b ≡ true
        → 0 ≡ pair_word every rows ks ws (entry_at s at)
    no_first p w a b firsts d t =
        none_pass _ _ (λ x. rw (← a.steps, d.none (not-true b t) x) (passes_none _ rows))

    pub no_second : (p w : Steps) → Reads s p (second_way (entry_at s at)) w → (b : Bool) (seconds : List ℕ) → Ended ks ws (steps_of s w) b seconds → not b ≡ true
        → 0 ≡ pair_word every rows ks ws (entry_at s at)
    no_second p w a b seconds d t =
        none_pass _ _ (λ x. rw (← a.steps, d.none (not-true b t) x) (passes_no_second _ rows))

-- ---- the ways of an entry
pub pair_returned : (every r : ℕ) (rows : List ℕ) (ks : List Link) (ws s : List ℕ) (p p' w w' : Steps) (ss ss' : List Step) (x y : Bool) (firsts seconds : List ℕ)
    → Reads s p ss w → Reads s p' ss' w' → Ended ks ws (steps_of s w) x firsts → not x ≡ false → Ended ks ws (steps_of s w') y seconds → not y ≡ false
    → r ≡ comparison_word every rows firsts seconds → r ≡ comparison_word every rows (end_rows ks ws ss) (end_rows ks ws ss')
pair_returned every r rows ks ws s p p' w w' ss ss' x y firsts seconds a b d t e u f =
    f ∙ rw (d.is (not-false x t), e.is (not-false y u), a.steps, b.steps)

-- ---- the word of an entry, by the number of its kind
-- below 4, of all nodes and the words that its numbers name
plain_by_lem : ℕ → ℕ → ℕ → ℕ → ℕ
plain_by_lem kind every a b = cond (eqb kind 0) every (cond (eqb kind 1) (bit_xor every a) (cond (eqb kind 2) (bit_and a b) (bit_or a b)))

-- from 4 on, of its ways
ways_by : ℕ → Tables → List ℕ → List Step → List Step → ℕ
ways_by kind t ws ss ss' =
    cond (eqb kind 4) (way_word t.every (backward t) ws ss)
    (comparison_word t.every (cond (eqb kind 5) t.sames t.differs) (end_rows (forward t) ws ss) (end_rows (forward t) ws ss'))

entry_by : (t : Tables) (ws : List ℕ) (e : Entry)
    → entry_word t ws e
    ≡ cond (ltb (kind_of e) 4) (plain_by_lem (kind_of e) t.every (get_or ws (get_or (numbers e) 0 0) 0) (get_or ws (get_or (numbers e) 1 0) 0))
    (ways_by (kind_of e) t ws (first_way_lem e) (second_way e))
unfolding entry_word plain_word kind_of numbers first_way_lem second_way plain_by_lem ways_by
entry_by t ws truth = refl
entry_by t ws (negation i) = refl
entry_by t ws (conjunction i j) = refl
entry_by t ws (disjunction i j) = refl
entry_by t ws (way ss) = refl
entry_by t ws (comparison same ss ss') = refl
entry_by t ws (comparison differ ss ss') = refl

module _ (t : Tables) (ws s : List ℕ) (at : ℕ) where
  -- the word that number i of the entry names
  abbrev numbered : ℕ → ℕ
  numbered i = get_or ws (get_or (numbers (entry_at s at)) i 0) 0

  by-kind : (k : ℕ) → k ≡ kind_of (entry_at s at) → entry_word t ws (entry_at s at)
      ≡ cond (ltb k 4) (plain_by_lem k t.every (numbered 0) (numbered 1)) (ways_by k t ws (first_way_lem (entry_at s at)) (second_way (entry_at s at)))
  by-kind k d = rw d (entry_by t ws (entry_at s at))

  pub entry_true : 0 ≡ kind_of (entry_at s at) → t.every ≡ entry_word t ws (entry_at s at)
  unfolding plain_by_lem
  entry_true d = sym (by-kind 0 d)

  module _ (a : ℕ) (x : a ≡ numbered 0) where
    pub entry_not : 1 ≡ kind_of (entry_at s at) → bit_xor t.every a ≡ entry_word t ws (entry_at s at)
    unfolding plain_by_lem
    entry_not d = rw x (sym (by-kind 1 d))

    module _ (b : ℕ) (y : b ≡ numbered 1) (r : ℕ) where
      pub entry_and : 2 ≡ kind_of (entry_at s at) → r ≡ bit_and a b → r ≡ entry_word t ws (entry_at s at)
      unfolding plain_by_lem
      entry_and d z = z ∙ rw (x, y) (sym (by-kind 2 d))

      pub entry_or : 3 ≡ kind_of (entry_at s at) → r ≡ bit_or a b → r ≡ entry_word t ws (entry_at s at)
      unfolding plain_by_lem
      entry_or d z = z ∙ rw (x, y) (sym (by-kind 3 d))

  module _ (r : ℕ) where
    pub entry_way : 4 ≡ kind_of (entry_at s at) → (p w : Steps) → Reads s p (first_way_lem (entry_at s at)) w → r ≡ way_word t.every (backward t) ws (steps_of s w)
        → r ≡ entry_word t ws (entry_at s at)
    unfolding ways_by
    entry_way d p w a e = e ∙ rw a.steps (sym (by-kind 4 d))

    pub entry_same : 5 ≡ kind_of (entry_at s at) → r ≡ pair_word t.every t.sames (forward t) ws (entry_at s at) → r ≡ entry_word t ws (entry_at s at)
    unfolding ways_by
    entry_same d e = e ∙ sym (by-kind 5 d)

    pub entry_differ : 6 ≡ kind_of (entry_at s at) → r ≡ pair_word t.every t.differs (forward t) ws (entry_at s at) → r ≡ entry_word t ws (entry_at s at)
    unfolding ways_by
    entry_differ d e = e ∙ sym (by-kind 6 d)

-- ---- entry by entry
module _ (t : Tables) (s : List ℕ) (upto : ℕ) where
  pub evaluate_start : (at : ℕ) (ws : List ℕ) → at ≡ entry_start s 0 → evaluated_from t s 0 at (upto - 0) ws ≡ evaluated t s upto ws
  evaluate_start at ws d = rw (d, entry_start-zero s, sub-zero upto)

  module _ (k at : ℕ) (ws end : List ℕ) (i : evaluated_from t s k at (upto - k) ws ≡ end) where
    module _ (v next : ℕ) (ws' : List ℕ) (h : k < upto) (w : ws' ≡ set ws k v) (e : next ≡ next_at s at) where
      pub evaluate_next : v ≡ entry_word t ws (entry_at s at) → evaluated_from t s (k + 1) next (upto - (k + 1)) ws' ≡ end
      unfolding evaluated_from
      evaluate_next d =
          rw (w, d, e) (rw (let q : upto - k ≡ suc (upto - (k + 1)) = omega arith in q) at i)

    pub evaluate_end : upto ≤ k → ws ≡ end
    unfolding evaluated_from
    evaluate_end h = rw (let q : upto - k ≡ 0 = omega arith in q) at i
