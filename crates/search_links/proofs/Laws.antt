-- What each turn and each way out of the functions shows of the definitions of `specs/`. The numbers that the code computed are variables
-- here, with what is known of them, so that `search` finds them in a need's record.
use mathlib.Core.Bool.{Bool, true, false, So, not, ◌&&◌, ◌||◌, or-false, or_assoc}
use mathlib.Core.Path.{◌≡◌, refl, sym, ap, ap₂, ◌∙◌}
use mathlib.Core.Logic.{inl, inr, ⊎_elim}
use mathlib.Core.List.{List, ◌++◌}
use Prim.Native.Nat.{ℕ, zero, suc, ◌+◌, ◌-◌, ◌*◌, ◌^◌, ◌≤◌, ◌<◌, min}
use native.Mathlib.Nat.{eq-or-lt_of_le}
use native.Mathlib.Numerals.{add-one}
use native.Mathlib.Omega.{arith}
use borrow.Author.Tests.{eqb-true, eq-eqb, ne_eqb, le-leb, lt-leb}
use lib.Bits.{bit_or, bit_xor}
use lib.Dec.{eqb}
use lib.ListN.{length, get_or, set, length-set}
use lib.Seq.{get_or-set_same, get_or-set_other}
use Rattle.std.proofs.lemmas.List.{get_or_append_left, get_or-append_right}
use Rattle.theory.specs.Search.{any}
use Rattle.theory.proofs.TestLaws.{never, le-or-lt, and_iff, or_iff, facts, test_eq}
use Rattle.words.specs.Words.{bit, word_of, IsLowest, IsWithout, IsMinus}
use Rattle.words.specs.Laws.{bit-or, bit-zero, bit-pow, bit_without, word_of_is, first_stop, first-end, first_next}
use Rattle.search_links.specs.Hops.{View, start_of, label_of, to_of, hops_from, Opened, Ordered, every_label, LeastLabel, lead, Starts}
use Rattle.search_links.specs.Sets.{among, reached, meets, spread, row_at, Paired, Valued}
use Rattle.search_links.specs.Laws.{until_few, link_low}
use Rattle.search_links.specs.BookHopLaws.{lead-le, lead-rises}

-- ---- the first link from a node or a later one
module _ (count : ℕ) (fs : List ℕ) (x at : ℕ) (i : at ≤ lead count fs x) where
  pub lead_stop : x ≤ get_or fs at 0 → at ≡ lead count fs x
  unfolding lead
  lead_stop h = first_stop count _ at i (le-leb x _ h)

  pub lead-end : count ≤ at → at ≡ lead count fs x
  unfolding lead
  lead-end h = first-end count _ at i h

  pub lead-next : at < count → get_or fs at 0 < x → at + 1 ≤ lead count fs x
  unfolding lead
  lead-next h l = first_next count _ at i h (lt-leb x _ l)

-- ---- the table of starts
pub record Begun (count : ℕ) (fs table : List ℕ) (x : ℕ) : Type 0 where
  pub long : length table ≡ 65
  pub each : (j : ℕ) → j < x → get_or table j 0 ≡ lead count fs j

pub begun_none : (count : ℕ) (fs table : List ℕ) → length table ≡ 65 → Begun count fs table 0
begun_none count fs table l = record { long = l; each = λ j h. absurd (omega arith) }

pub begun_more : (count : ℕ) (fs table : List ℕ) (x k at : ℕ) → Begun count fs table x → x < 65 → k ≡ lead count fs x → at ≡ x
    → Begun count fs (set table at k) (x + 1)
begun_more count fs table x k at b h d e = rw e (record {
  long = length-set table x k ∙ b.long;
  each = λ j m. ⊎_elim
      (λ q. rw q (get_or-set_same table x k 0 (omega (arith, b.long)) ∙ d))
      (λ l. get_or-set_other table x j k 0 (λ q. omega arith) ∙ b.each j l)
      (eq-or-lt_of_le (under j m));
})
  where
    under : (j : ℕ) → j < x + 1 → j ≤ x
    under j m = omega arith

pub begun_all : (count : ℕ) (fs table : List ℕ) (x : ℕ) → Begun count fs table x → 65 ≤ x → Starts count fs table
begun_all count fs table x b h = record { each = λ j l. b.each j (omega arith) }

pub lead_on : (count : ℕ) (fs : List ℕ) (x k : ℕ) → k ≡ lead count fs x → k ≤ lead count fs (x + 1)
lead_on count fs x k d = omega (arith, lead-rises count fs x)

pub lead_small : (count : ℕ) (fs : List ℕ) (x k : ℕ) → count ≤ 512 → k ≡ lead count fs x → k < 2 ^ 16
lead_small count fs x k h d = omega (arith, lead-le count fs x)

-- ---- a word that a loop joins up: what it has, or what is left has, is what the whole has
pub record Joins (out : ℕ) (rest whole : ℕ → Bool) : Type 0 where
  pub each : (y : ℕ) → y < 64 → bit out y || rest y ≡ whole y

module _ (whole : ℕ → Bool) where
  joins_start : Joins 0 whole whole
  joins_start = record { each = λ y l. rw bit-zero }

  joins_end : (out : ℕ) (rest : ℕ → Bool) → Joins out rest whole → ((y : ℕ) → rest y ≡ false) → out < 2 ^ 64 → out ≡ word_of 64 whole
  joins_end out rest j f l =
      word_of_is 64 out whole l (λ y m. sym (or-false (bit out y)) ∙ ap (λ (b : Bool). bit out y || b) (sym (f y)) ∙ j.each y m)

  -- a part that was left is now had
  joins_more : (out more : ℕ) (rest rest' : ℕ → Bool) → Joins out rest whole → ((y : ℕ) → y < 64 → rest y ≡ bit more y || rest' y)
      → Joins (bit_or out more) rest' whole
  joins_more out more rest rest' j f = record {
    each = λ y l.
        ap (λ (b : Bool). b || rest' y) (bit-or out more y) ∙ or_assoc (bit out y) (bit more y) (rest' y)
        ∙ ap (λ (b : Bool). bit out y || b) (sym (f y l)) ∙ j.each y l;
  }

-- ---- the union of rows
module _ (row : ℕ → ℕ) where
  abbrev pub joined : ℕ → ℕ → Bool
  joined w y = any 64 (λ x. bit w x && bit (row x) y)

  none_left : (left y : ℕ) → left ≡ 0 → joined left y ≡ false
  none_left left y z = test_eq _ _ (λ e. let (x, l, (b, q)) = simp facts at e in sym (bit-zero x) ∙ ap (λ (u : ℕ). bit u x) (sym z) ∙ b) never

  split : (left i : ℕ) → i < 64 → bit left i ≡ true → (y : ℕ) → joined left y ≡ bit (row i) y || joined (bit_xor left (2 ^ i)) y
  split left i li there y = test_eq _ _ to from
    where
      by : (x : ℕ) → x < 64 → So (bit left x) → So (bit (row x) y) → (b : Bool) → eqb i x ≡ b → So (bit (row i) y || joined (bit_xor left (2 ^ i)) y)
      by x l p q true e = simp or_iff (inl (rw (eqb-true i x e) q))
      by x l p q false e = simp or_iff (inr (simp facts (x, l, (bit_without left i x there ∙ rw (e, p), q))))

      to : So (joined left y) → So (bit (row i) y || joined (bit_xor left (2 ^ i)) y)
      to e = let (x, l, (p, q)) = simp facts at e in by x l p q (eqb i x) refl

      from : So (bit (row i) y || joined (bit_xor left (2 ^ i)) y) → So (joined left y)
      from e =
          elim (simp or_iff at e) [
            | inl u ↦ simp facts (i, li, (there, u))
            | inr u ↦ let (x, l, (p, q)) = simp facts at u in simp facts (x, l, (((and_iff _ _).0 (sym (bit_without left i x there) ∙ p)).0, q))
          ]

  pub spread_start : (w : ℕ) → Joins 0 (joined w) (joined w)
  spread_start w = joins_start (joined w)

  pub spread-next : (w out left i : ℕ) → Joins out (joined left) (joined w) → i < 64 → bit left i ≡ true → (more out' left' : ℕ) → more ≡ row i
      → out' ≡ bit_or out more → left' ≡ bit_xor left (2 ^ i) → Joins out' (joined left') (joined w)
  spread-next w out left i j li b more out' left' dm dout dleft =
      rw (dout, dm, dleft) (joins_more (joined w) out (row i) (joined left) (joined (bit_xor left (2 ^ i))) j (λ y l. split left i li b y))

  pub spread_end : (w out left : ℕ) → Joins out (joined left) (joined w) → out < 2 ^ 64 → left ≡ 0 → out ≡ spread row w
  unfolding spread
  spread_end w out left j l z = joins_end (joined w) out (joined left) j (λ y. none_left left y z) l

-- ---- the union of the rows of a comparison that goes by a value: a row has those of the nodes that pass same
module _ (ends : List ℕ) (t : ℕ) (lt : t < 2) (values : Valued ends) (w out left i : ℕ) (j : Joins out (joined (row_at ends t) left) (joined (row_at ends t) w))
    (low : IsLowest left i) (off : ℕ) (d : IsWithout left i off) (alike left' : ℕ) (da : alike ≡ row_at ends 0 i) (m : IsMinus off alike left') where
  bit_left : (x : ℕ) → bit left' x ≡ (bit left x && not (eqb i x)) && not (bit (row_at ends 0 i) x)
  bit_left x =
      m.bits x ∙ ap₂ ◌&&◌ (ap (λ (u : ℕ). bit u x) d.is ∙ bit_without left i x low.there) (ap (λ (u : ℕ). not (bit u x)) da)

  value_split : (y : ℕ) → joined (row_at ends t) left y ≡ bit (row_at ends t i) y || joined (row_at ends t) left' y
  value_split y = test_eq _ _ to from
    where
      by : (x : ℕ) → x < 64 → So (bit left x) → So (bit (row_at ends t x) y) → (b c : Bool) → eqb i x ≡ b → bit (row_at ends 0 i) x ≡ c
          → So (bit (row_at ends t i) y || joined (row_at ends t) left' y)
      by x l p q true c e f = simp or_iff (inl (rw (eqb-true i x e) q))
      by x l p q false true e f = simp or_iff (inl (values.alike t i x y lt low.small l f q))
      by x l p q false false e f = simp or_iff (inr (simp facts (x, l, (bit_left x ∙ rw (p, e, f), q))))

      to : So (joined (row_at ends t) left y) → So (bit (row_at ends t i) y || joined (row_at ends t) left' y)
      to e = let (x, l, (p, q)) = simp facts at e in by x l p q (eqb i x) (bit (row_at ends 0 i) x) refl refl

      from : So (bit (row_at ends t i) y || joined (row_at ends t) left' y) → So (joined (row_at ends t) left y)
      from e =
          elim (simp or_iff at e) [
            | inl u ↦ simp facts (i, low.small, (low.there, u))
            | inr u ↦
                let (x, l, (p, q)) = simp facts at u in
                simp facts (x, l, (((and_iff _ _).0 ((and_iff _ _).0 (sym (bit_left x) ∙ p)).0).0, q))
          ]

  pub value_next : (more out' : ℕ) → more ≡ row_at ends t i → out' ≡ bit_or out more → Joins out' (joined (row_at ends t) left') (joined (row_at ends t) w)
  value_next more out' dm dout =
      rw (dout, dm) (joins_more (joined (row_at ends t) w) out (row_at ends t i) (joined (row_at ends t) left) (joined (row_at ends t) left') j (λ y l. value_split y))

-- ---- whether a link leads to a node of w
module _ (to : List ℕ) (w until from k : ℕ) (j : meets to w from (until - from) ≡ meets to w k (until - k)) where
  leads_step : k < until → meets to w k (until - k) ≡ bit w (get_or to k 0) || meets to w (k + 1) (until - (k + 1))
  unfolding meets
  leads_step l =
      let e : until - k ≡ suc (until - (k + 1)) = omega arith in
      ap (λ (n : ℕ). meets to w k n) e ∙ rw (add-one k)

  module _ (l : k < until) (b : Bool) (d : b ≡ bit w (get_or to k 0)) where
    pub leads_found : So b → true ≡ meets to w from (until - from)
    leads_found t = sym (j ∙ leads_step l ∙ rw (← d, t))

    pub leads_skip : b ≡ false → meets to w from (until - from) ≡ meets to w (k + 1) (until - (k + 1))
    leads_skip t = j ∙ leads_step l ∙ rw (← d, t)

  pub leads_none : until ≤ k → false ≡ meets to w from (until - from)
  unfolding meets
  leads_none h = let e : until - k ≡ 0 = omega arith in sym (j ∙ ap (λ (n : ℕ). meets to w k n) e)

-- ---- the labels of the links out of a node, which rise
-- those of the links before k are below `least`
pub record Under (v : View) (x least k : ℕ) : Type 0 where
  pub from : start_of v x ≤ k
  pub each : (j : ℕ) → start_of v x ≤ j → j < k → label_of v j < least

module _ (v : View) (x least : ℕ) where
  pub under_start : (k : ℕ) → k ≡ start_of v x → Under v x least k
  under_start k d = record { from = omega arith; each = λ j a b. absurd (omega arith) }

  module _ (k : ℕ) (u : Under v x least k) where
    pub under_next : (found : ℕ) → found ≡ label_of v k → found < least → Under v x least (k + 1)
    under_next found d l = record {
      from = omega (arith, u.from);
      each = λ j a b. ⊎_elim (λ e. let q = ap (λ (i : ℕ). label_of v i) e in omega (arith, q)) (λ m. u.each j a m) (eq-or-lt_of_le (last j b));
    }
      where
        last : (j : ℕ) → j < k + 1 → j ≤ k
        last j b = omega arith

    pub least_none : (until best : ℕ) → until ≡ start_of v (x + 1) → until ≤ k → LeastLabel v x least best best
    least_none until best d h = record {
      onward = λ l. l;
      most = omega arith;
      none = λ j a b l. absurd (omega (arith, u.each j a (omega arith)));
      one = inl refl;
    }

    module _ (o : Ordered v) (low : x < 64) (until : ℕ) (d : until ≡ start_of v (x + 1)) (h : k < until) (found : ℕ) (is : found ≡ label_of v k) (above : least ≤ found) where
      -- those of the links from k on are not
      pub above_on : (i : ℕ) → k ≤ i → i < until → least ≤ label_of v i
      above_on i p q = omega (arith, o.rising x k i low u.from p (omega arith))

      pub least_found : (best r : ℕ) → found < every_label → r ≡ min found best → LeastLabel v x least best r
      least_found best r few m = record {
        onward = λ l. omega arith;
        most = omega arith;
        none = λ j a b l. ⊎_elim (λ q. (omega (arith, o.rising x k j low u.from q b), omega arith)) (λ q. absurd (omega (arith, u.each j a q))) (le-or-lt k j);
        one = ⊎_elim (λ e. inr (k, u.from, omega arith, omega arith, omega arith)) (λ e. inl (omega arith)) (le-or-lt found best);
      }

-- ---- the nodes that some links lead to
among_none : (v : View) (a y n k : ℕ) → ((i : ℕ) → k ≤ i → i < k + n → label_of v i ≡ a → ⊥) → among (hops_from v k n) a y ≡ false
unfolding hops_from among
among_none v a y zero k f = refl
among_none v a y (suc n) k f = rw (ne_eqb (label_of v k) a (f k (omega arith) (omega arith))) (among_none v a y n (suc k) (λ i p q. f i (omega arith) (omega arith)))

module _ (v : View) (a until : ℕ) where
  abbrev pub onto : ℕ → ℕ → Bool
  onto k y = among (hops_from v k (until - k)) a y

  step : (k y : ℕ) → k < until → onto k y ≡ (eqb (label_of v k) a && eqb (to_of v k) y) || onto (k + 1) y
  unfolding hops_from among
  step k y l =
      let e : until - k ≡ suc (until - (k + 1)) = omega arith in
      ap (λ (n : ℕ). among (hops_from v k n) a y) e ∙ rw (add-one k)

  pub targets_start : (from : ℕ) → Joins 0 (onto from) (onto from)
  targets_start from = joins_start (onto from)

  module _ (from out k : ℕ) (j : Joins out (onto k) (onto from)) where
    module _ (h : k < until) (found : ℕ) (is : found ≡ label_of v k) where
      pub targets_in : found ≡ a → (r out' : ℕ) → r ≡ bit_or out (2 ^ to_of v k) → out' ≡ r → Joins out' (onto (k + 1)) (onto from)
      targets_in e r out' dr dout =
          rw (dout, dr) (joins_more (onto from) out (2 ^ to_of v k) (onto k) (onto (k + 1)) j
          (λ y m. step k y h ∙ rw (eq-eqb (label_of v k) a (sym is ∙ e), bit-pow)))

      pub targets_skip : (found ≡ a → ⊥) → (out' : ℕ) → out' ≡ out → Joins out' (onto (k + 1)) (onto from)
      targets_skip f out' dout =
          rw dout (record { each = λ y m. ap (λ (b : Bool). bit out y || b) (sym (step k y h ∙ rw (ne_eqb (label_of v k) a (λ e. f (is ∙ e))))) ∙ j.each y m })

    -- no link from k on has the label
    pub targets_end : ((i : ℕ) → k ≤ i → i < until → label_of v i ≡ a → ⊥) → out < 2 ^ 64 → out ≡ reached (hops_from v from (until - from)) a
    unfolding reached
    targets_end f l = joins_end (onto from) out (onto k) j (λ y. among_none v a y (until - k) k (λ i p q. f i p (omega arith))) l

-- ---- the links up to where those out of a node end
pub record Reach (ts : List ℕ) (until : ℕ) : Type 0 where
  pub few : until ≤ 512
  pub low : (k : ℕ) → k < until → get_or ts k 0 < 64

pub reach_of : (starts ts : List ℕ) (x until : ℕ) → Opened starts ts → x < 64 → until ≡ get_or starts (x + 1) 0 → Reach ts until
reach_of starts ts x until o l d =
    record { few = until_few starts ts x until o l d; low = λ k m. link_low starts ts x k until _ o l d refl m }

pub reach_low : (ts : List ℕ) (until k : ℕ) → Reach ts until → k < until → get_or ts k 0 < 64
reach_low ts until k r h = r.low k h

-- ---- both comparisons in one table
pub paired_join : (same differ first second : List ℕ) → length same ≡ 64 → first ≡ same → second ≡ differ → Paired same differ (first ++ second)
paired_join same differ first second l p q = record {
  first = λ x h. let e : 64 * 0 + x ≡ x = omega arith in rw (p, e) (get_or_append_left same second 0 x (omega arith));
  second = λ x h.
      let e : 64 * 1 + x - 64 ≡ x = omega arith in
      rw (p, q) (get_or-append_right same differ 64 (64 * 1 + x) 0 l (omega arith) ∙ ap (λ (i : ℕ). get_or differ i 0) e);
}
