-- What each turn and each way out of the functions shows. Every number that the code computed is a variable here, with what is known of it, so
-- that `search` finds it in a need's record.
use mathlib.Core.Bool.{Bool, true, false, So, not, ◌&&◌, ◌||◌, false≢true}
use mathlib.Core.Path.{◌≡◌, refl, sym, ap, ◌∙◌}
use mathlib.Core.Logic.{◌↔◌, ◌⊎◌, inl, inr, ⊎_elim}
use mathlib.Core.List.{List}
use Prim.Native.Nat.{ℕ, ◌+◌, ◌^◌, ◌≤◌, ◌<◌}
use native.Mathlib.Nat.{eq-or-lt_of_le}
use native.Mathlib.Omega.{arith}
use borrow.Author.Tests.{eqb-true, eq-eqb}
use lib.Bits.{bit_and, bit_or}
use lib.Dec.{eqb}
use lib.ListN.{get_or, set, length-set}
use lib.Seq.{get_or-set_same, get_or-set_other}
use Rattle.theory.proofs.TestLaws.{never, le-or-lt, any_iff, and_iff, or_iff, not_iff}
use Rattle.words.specs.Words.{bit, Inside, IsLowest, IsWithout, IsMinus}
use Rattle.words.specs.Laws.{bit-zero, bit-or, bit_with, bit_without, bit-word_of, first_least}
use Rattle.search_tables.specs.declared.Grown.{Grown}
use Rattle.search_tables.specs.Tips.{Has, Covered, TableRoom, Rowmates, Rest, Untouched, ClassPlace, Joined, Narrowed, Put, cut_as, Grew}
use Rattle.search_links.specs.Sets.{spread, StandsIn, seen_as}
use Rattle.search_tables.specs.Laws.{equal_or, covered_by_has, covered_trans, untouched_refl, untouched_trans}

-- the empty set has no cells
none_in : {A : Type 0} (w x : ℕ) → w ≡ 0 → So (bit w x) → A
none_in w x e i = never (sym (bit-zero x) ∙ rw e at i)

-- ---- cells taken out of a set
module _ (a b r : ℕ) (m : IsMinus a b r) (x : ℕ) where
  minus_in : So (bit r x) → So (bit a x) × (So (bit b x) → ⊥)
  minus_in i = let (p, q) = (and_iff _ _).0 (sym (m.bits x) ∙ i) in (p, (not_iff _).0 q)

  minus_or : So (bit a x) → So (bit r x) ⊎ So (bit b x)
  minus_or i = by (bit b x) refl
    where
      by : (t : Bool) → bit b x ≡ t → So (bit r x) ⊎ So (bit b x)
      by true e = inr e
      by false e = inl (m.bits x ∙ rw (i, e))

-- ---- the cells of one row: of each cell of the set, it is still to come, or it is in `out` if its row is that
pub record Mating (z : List ℕ) (cells row out left : ℕ) : Type 0 where
  pub small : left < 2 ^ 64
  pub part : (x : ℕ) → So (bit left x) → So (bit cells x)
  pub sound : (x : ℕ) → So (bit out x) → So (bit cells x) × (get_or z x 0 ≡ row)
  pub whole : (x : ℕ) → x < 64 → So (bit cells x) → get_or z x 0 ≡ row → So (bit left x) ⊎ So (bit out x)

module _ (z : List ℕ) (cells row : ℕ) where
  pub mating_start : cells < 2 ^ 64 → Mating z cells row 0 cells
  mating_start l = record { small = l; part = λ x i. i; sound = λ x i. never (sym (bit-zero x) ∙ i); whole = λ x _ i _. inl i }

  module _ (out left : ℕ) (m : Mating z cells row out left) where
    pub mating_end : left ≡ 0 → Rowmates z cells row out
    mating_end e = record { sound = m.sound; whole = λ x l i d. ⊎_elim (none_in left x e) (λ j. j) (m.whole x l i d) }

    module _ (x left' : ℕ) (low : IsLowest left x) (off : IsWithout left x left') where
      bit_off : (y : ℕ) → bit left' y ≡ bit left y && not (eqb x y)
      bit_off y = ap (λ (w : ℕ). bit w y) off.is ∙ bit_without left x y low.there

      -- the cell that was taken is in the new set if its row is that
      mating_next : (out' : ℕ) → ((y : ℕ) → So (bit out' y) → So (bit out y) ⊎ ((x ≡ y) × (get_or z x 0 ≡ row)))
          → ((y : ℕ) → So (bit out y) → So (bit out' y)) → (get_or z x 0 ≡ row → So (bit out' x)) → Mating z cells row out' left'
      mating_next out' f g h = record {
        small = omega (arith, off.less, m.small);
        part = λ y i. m.part y ((and_iff _ _).0 (sym (bit_off y) ∙ i)).0;
        sound = λ y i. ⊎_elim (λ j. m.sound y j) (λ (q, d). (rw (← q) (m.part x low.there), rw (← q) d)) (f y i);
        whole = λ y l i d. ⊎_elim (λ j. left_or y j d (equal_or x y)) (λ j. inr (g y j)) (m.whole y l i d);
      }
        where
          left_or : (y : ℕ) → So (bit left y) → get_or z y 0 ≡ row → (x ≡ y) ⊎ (x ≡ y → ⊥) → So (bit left' y) ⊎ So (bit out' y)
          left_or y i d e = ⊎_elim
              (λ q. inr (rw (← q) (h (rw q d))))
              (λ n. inl (bit_off y ∙ (and_iff _ _).1 (i, (not_iff _).1 (λ t. n (eqb-true x y t))))) e

      pub mating_in : (out' : ℕ) → get_or z x 0 ≡ row → out' ≡ bit_or out (2 ^ x) → Mating z cells row out' left'
      mating_in out' d e =
          mating_next out' (λ y i. ⊎_elim inl (λ t. inr (eqb-true x y t, d)) ((or_iff _ _).0 (sym (bit-more y) ∙ i)))
          (λ y i. bit-more y ∙ (or_iff _ _).1 (inl i)) (λ _. bit-more x ∙ (or_iff (bit out x) _).1 (inr (eq-eqb x x refl)))
        where
          bit-more : (y : ℕ) → bit out' y ≡ bit out y || eqb x y
          bit-more y = ap (λ (w : ℕ). bit w y) e ∙ bit_with out x y

      pub mating_out : (get_or z x 0 ≡ row → ⊥) → Mating z cells row out left'
      mating_out n = mating_next out (λ y. inl) (λ y i. i) (λ d. absurd (n d))

-- ---- the cells that the table does not cover
module _ (ls rs : List ℕ) (n cells w : ℕ) where
  pub rest_start : Rest ls rs n cells w cells
  rest_start = record { part = λ x i. i; others = λ x _ i. inl i }

  pub rest-next : (left left' e : ℕ) (r : Bool) → Rest ls rs n cells w left → e < n → (r ≡ true) ↔ Inside (get_or rs e 0) w → r ≡ true
      → IsMinus left (get_or ls e 0) left' → Rest ls rs n cells w left'
  rest-next left left' e r f b d t m = record {
    part = λ x i. f.part x (minus_in left (get_or ls e 0) left' m x i).0;
    others = λ x l i. ⊎_elim
        (λ j. ⊎_elim
        inl
        (λ k. inr (record { word = get_or rs e 0; has = record { class = e; below = b; cell = l; inside = k; word = refl }; inside = d.0 t }))
        (minus_or left (get_or ls e 0) left' m x j)) inr (f.others x l i);
  }

-- ---- cells are put into class e, which then has the cells l
module _ (ls rs : List ℕ) (base n cells w e : ℕ) (room : TableRoom ls rs n) (free : e < 64) (placed : ClassPlace ls rs base n w e) where
  -- a class that has cells has the set already
  word_is : (y : ℕ) → e < n → So (bit (get_or ls e 0) y) → get_or rs e 0 ≡ w
  word_is y b i = ⊎_elim (λ q. q) (λ q. none_in (get_or ls e 0) y q i) (placed.there b)

  module _ (l n' : ℕ) (counted : ((n' ≡ n) × (e < n)) ⊎ ((n' ≡ n + 1) × (e ≡ n)))
      (had : (y : ℕ) → e < n → So (bit (get_or ls e 0) y) → So (bit l y)) (has : (y : ℕ) → So (bit cells y) → So (bit l y))
      (only : (y : ℕ) → So (bit l y) → ((e < n) × So (bit (get_or ls e 0) y)) ⊎ So (bit cells y)) where
    cells_at : get_or (set ls e l) e 0 ≡ l
    cells_at = get_or-set_same ls e l 0 (omega (arith, room.left))

    word_at : get_or (set rs e w) e 0 ≡ w
    word_at = get_or-set_same rs e w 0 (omega (arith, room.right))

    less : e < n'
    less = ⊎_elim (λ (p, q). omega arith) (λ (p, q). omega arith) counted

    joins_sound : (y o : ℕ) → Has (set ls e l) (set rs e w) n' y o → Has ls rs n y o ⊎ (So (bit cells y) × (o ≡ w))
    joins_sound y o h = ⊎_elim here there (equal_or h.class e)
      where
        here : h.class ≡ e → Has ls rs n y o ⊎ (So (bit cells y) × (o ≡ w))
        here q =
            let d : o ≡ w = sym (rw q at h.word) ∙ word_at in
            ⊎_elim
            (λ (b, i). inl (record { class = e; below = b; cell = h.cell; inside = i; word = word_is y b i ∙ sym d }))
            (λ i. inr (i, d))
            (only y (rw cells_at at (rw q at h.inside)))

        there : (h.class ≡ e → ⊥) → Has ls rs n y o ⊎ (So (bit cells y) × (o ≡ w))
        there q = inl (record {
          class = h.class;
          below = ⊎_elim (λ (p, _). rw p at h.below) (λ (p, r). others (rw p at h.below) r) counted;
          cell = h.cell;
          inside = rw (get_or-set_other ls e h.class l 0 q) at h.inside;
          word = rw (get_or-set_other rs e h.class w 0 q) at h.word;
        })
          where
            others : h.class < n + 1 → e ≡ n → h.class < n
            others m r = let l : h.class ≤ n = omega arith in ⊎_elim (λ s. absurd (q (s ∙ sym r))) (λ s. s) (eq-or-lt_of_le l)

    joins_kept : (y o : ℕ) → Has ls rs n y o → Has (set ls e l) (set rs e w) n' y o
    joins_kept y o h = ⊎_elim here there (equal_or h.class e)
      where
        here : h.class ≡ e → Has (set ls e l) (set rs e w) n' y o
        here q =
            let b : e < n = rw q at h.below in
            let i : So (bit (get_or ls e 0) y) = rw q at h.inside in
            let d : w ≡ o = sym (word_is y b i) ∙ rw q at h.word in
            record { class = e; below = less; cell = h.cell; inside = rw cells_at (had y b i); word = word_at ∙ d }

        there : (h.class ≡ e → ⊥) → Has (set ls e l) (set rs e w) n' y o
        there q = record {
          class = h.class;
          below = ⊎_elim (λ (p, _). omega (arith, h.below)) (λ (p, _). omega (arith, h.below)) counted;
          cell = h.cell;
          inside = rw (get_or-set_other ls e h.class l 0 q) h.inside;
          word = rw (get_or-set_other rs e h.class w 0 q) h.word;
        }

    joins : Joined ls rs base n cells w (set ls e l) (set rs e w) n'
    joins = record {
      low = record {
        left = λ k m. get_or-set_other ls e k l 0 (λ q. omega (arith, placed.least));
        right = λ k m. get_or-set_other rs e k w 0 (λ q. omega (arith, placed.least));
      };
      room = record {
        left = length-set ls e l ∙ room.left;
        right = length-set rs e w ∙ room.right;
        few = ⊎_elim (λ (p, _). omega (arith, room.few)) (λ (p, q). omega arith) counted;
      };
      least = ⊎_elim (λ (p, _). omega (arith, placed.least)) (λ (p, _). omega (arith, placed.least)) counted;
      few = ⊎_elim (λ (p, _). omega arith) (λ (p, _). omega arith) counted;
      sound = joins_sound;
      kept = joins_kept;
      new = λ y m i. record { class = e; below = less; cell = m; inside = rw cells_at (has y i); word = word_at };
    }

  -- it is one of the table's
  pub joined : (l : ℕ) → e < n → l ≡ bit_or (get_or ls e 0) cells → Joined ls rs base n cells w (set ls e l) (set rs e w) n
  joined l b d =
      joins l n (inl (refl, b)) (λ y _ i. both y ∙ (or_iff _ _).1 (inl i)) (λ y i. both y ∙ (or_iff (bit (get_or ls e 0) y) _).1 (inr i))
      (λ y i. ⊎_elim (λ j. inl (b, j)) inr ((or_iff _ _).0 (sym (both y) ∙ i)))
    where
      both : (y : ℕ) → bit l y ≡ bit (get_or ls e 0) y || bit cells y
      both y = ap (λ (v : ℕ). bit v y) d ∙ bit-or (get_or ls e 0) cells y

  -- it is the next
  pub begun : (n' : ℕ) → n ≤ e → n' ≡ n + 1 → Joined ls rs base n cells w (set ls e cells) (set rs e w) n'
  begun n' b d = joins cells n' (inr (d, omega (arith, placed.most))) (λ y l. absurd (omega arith)) (λ y i. i) (λ y. inr)

-- ---- cells are taken out of classes whose sets are wider
module _ (ls rs : List ℕ) (base n cells w : ℕ) where
  pub narrowed_start : TableRoom ls rs n → Narrowed ls rs base n cells w ls
  narrowed_start r = record { room = r; low = untouched_refl base ls rs; sound = λ y o h. h; kept = λ y o h. inl h }

  module _ (ls' : List ℕ) (e l : ℕ) (r : Bool) (f : Narrowed ls rs base n cells w ls') (least : base ≤ e) (b : e < n) (other : get_or rs e 0 ≡ w → ⊥)
      (d : (r ≡ true) ↔ Inside w (get_or rs e 0)) (t : r ≡ true) (m : IsMinus (get_or ls' e 0) cells l) where
    here_at : get_or (set ls' e l) e 0 ≡ l
    here_at = get_or-set_same ls' e l 0 (omega (arith, f.room.left, f.room.few))

    turn-sound : (y o : ℕ) → Has (set ls' e l) rs n y o → Has ls' rs n y o
    turn-sound y o h =
        let i = ⊎_elim here there (equal_or h.class e) in
        record { class = h.class; below = h.below; cell = h.cell; inside = i; word = h.word }
      where
        here : h.class ≡ e → So (bit (get_or ls' h.class 0) y)
        here q = rw q (minus_in (get_or ls' e 0) cells l m y (rw here_at at (rw q at h.inside))).0

        there : (h.class ≡ e → ⊥) → So (bit (get_or ls' h.class 0) y)
        there q = rw (get_or-set_other ls' e h.class l 0 q) at h.inside

    turn-kept : (y o : ℕ) → Has ls' rs n y o → Has (set ls' e l) rs n y o ⊎ (So (bit cells y) × Inside w o × (o ≡ w → ⊥))
    turn-kept y o h = ⊎_elim here there (equal_or h.class e)
      where
        stays : So (bit (get_or (set ls' e l) h.class 0) y) → Has (set ls' e l) rs n y o
        stays i = record { class = h.class; below = h.below; cell = h.cell; inside = i; word = h.word }

        here : h.class ≡ e → Has (set ls' e l) rs n y o ⊎ (So (bit cells y) × Inside w o × (o ≡ w → ⊥))
        here q =
            let p : get_or rs e 0 ≡ o = rw q at h.word in
            ⊎_elim
            (λ i. inl (stays (rw (q, here_at) i)))
            (λ i. inr (i, rw p at (d.0 t), rw p at other))
            (minus_or (get_or ls' e 0) cells l m y (rw q at h.inside))

        there : (h.class ≡ e → ⊥) → Has (set ls' e l) rs n y o ⊎ (So (bit cells y) × Inside w o × (o ≡ w → ⊥))
        there q = inl (stays (rw (get_or-set_other ls' e h.class l 0 q) h.inside))

    pub narrowed_next : Narrowed ls rs base n cells w (set ls' e l)
    narrowed_next = record {
      low = record { left = λ k m. get_or-set_other ls' e k l 0 (λ q. omega arith) ∙ f.low.left k m; right = f.low.right };
      room = record { left = length-set ls' e l ∙ f.room.left; right = f.room.right; few = f.room.few };
      sound = λ y o h. f.sound y o (turn-sound y o h);
      kept = λ y o h. ⊎_elim (turn-kept y o) inr (f.kept y o h);
    }

-- ---- nodes that stand in for some of a set, such that the table covers the tips of the others
pub record StandIns (own : List ℕ) (wide : Bool) (ls rs : List ℕ) (n cells w r : ℕ) : Type 0 where
  pub part : (y : ℕ) → So (bit r y) → (x : ℕ) × So (bit cells x) × StandsIn own wide x y
  pub others : (y : ℕ) → y < 64 → So (bit cells y) → So (bit r y) ⊎ Covered ls rs n y w

pub stand_ins : (own : List ℕ) (wide : Bool) (ls rs : List ℕ) (n cells w new seen more : ℕ) → Rest ls rs n cells w new → seen ≡ seen_as own wide new
    → more ≡ bit_or new seen → StandIns own wide ls rs n cells w more
unfolding seen_as spread
stand_ins own wide ls rs n cells w new seen more rest ds dm = record {
  part = λ y i.
      ⊎_elim (λ j. (y, rest.part y j, inl refl)) (λ j. stood y wide refl (ap (λ (v : ℕ). bit v y) (sym ds) ∙ j)) ((or_iff _ _).0 (sym (both y) ∙ i));
  others = λ y l i. ⊎_elim (λ j. inl (both y ∙ (or_iff _ _).1 (inl j))) inr (rest.others y l i);
}
  where
    both : (y : ℕ) → bit more y ≡ bit new y || bit seen y
    both y = ap (λ (v : ℕ). bit v y) dm ∙ bit-or new seen y

    stood : (y : ℕ) (b : Bool) → wide ≡ b → So (bit (seen_as own b new) y) → (x : ℕ) × So (bit cells x) × StandsIn own wide x y
    stood y true e j = let (l, (x, m, (p, q))) = simp (bit-word_of, and_iff, any_iff) at j in (x, rest.part x p, inr (e, q))
    stood y false e j = (y, rest.part y j, inl refl)

-- ---- tips are put into a table
module _ (own : List ℕ) (wide : Bool) (ls rs : List ℕ) (base n cells w : ℕ) (room : TableRoom ls rs n) (least : base ≤ n) (new : ℕ) (rest : Rest ls rs n cells w new) where
  -- all are covered
  pub put_none : new ≡ 0 → (r : Grown) → r.count ≡ n → r.full ≡ false → Put own wide ls rs base n cells w ls rs r
  put_none e r dc df = record {
    room = rw dc room;
    low = untouched_refl base ls rs;
    least = omega arith;
    few = omega arith;
    full = λ t. absurd (false≢true (sym df ∙ t));
    sound = λ y o h. inl (rw dc at h);
    kept = λ y o h. rw dc (covered_by_has ls rs n y o h);
    new = λ _ y l i. rw dc (⊎_elim (none_in new y e) (λ c. c) (rest.others y l i));
  }

  -- there is no room
  pub put_full : (e : ℕ) → ClassPlace ls rs base n w e → e ≡ 64 → (r : Grown) → r.count ≡ n → r.full ≡ true → Put own wide ls rs base n cells w ls rs r
  put_full e p q r dc df = record {
    room = rw dc room;
    low = untouched_refl base ls rs;
    least = omega arith;
    few = omega arith;
    full = λ _. (omega (arith, p.most, room.few), dc);
    sound = λ y o h. inl (rw dc at h);
    kept = λ y o h. rw dc (covered_by_has ls rs n y o h);
    new = λ t. absurd (false≢true (sym t ∙ df));
  }

-- nodes that stand in for the others are taken out of the classes from `start` on with wider sets, and were joined to a class before. That the same nodes were
-- joined, that the classes below `base` stay, and that the nodes stand in, are premises apart, so that a refusal shows which of them fails.
module _ {ls rs : List ℕ} {base n more w : ℕ} {ls' rs' : List ℕ} {n' start : ℕ} {ls'' : List ℕ} (f : Narrowed ls' rs' start n' more w ls'')
    (j : Joined ls rs base n more w ls' rs' n') where
  news : (y : ℕ) → y < 64 → So (bit more y) → Has ls'' rs' n' y w
  news y l i = ⊎_elim (λ h. h) (λ (_, _, q). absurd (q refl)) (f.kept y w (j.new y l i))

  keeps : (y o : ℕ) → Has ls rs n y o → Covered ls'' rs' n' y o
  keeps y o h =
      ⊎_elim (covered_by_has ls'' rs' n' y o) (λ (i, p, _). record { word = w; has = news y h.cell i; inside = p }) (f.kept y o (j.kept y o h))

  pub put_done : {own : List ℕ} {wide : Bool} {cells : ℕ} → Untouched base ls' rs' ls'' rs' → StandIns own wide ls rs n cells w more
      → Put own wide ls rs base n cells w ls'' rs' (record { count = n'; full = false })
  put_done u s = record {
    room = f.room;
    low = untouched_trans base ls rs ls' rs' j.low ls'' rs' u;
    least = j.least;
    few = j.few;
    full = λ t. absurd (false≢true t);
    sound = λ y o h. ⊎_elim inl (λ (i, q). let (x, p, t) = s.part y i in inr (x, p, t, q)) (j.sound y o (f.sound y o h));
    kept = keeps;
    new = λ _ y l i. ⊎_elim (λ k. covered_by_has ls'' rs' n' y w (news y l k)) (covered_trans ls rs n ls'' rs' n' keeps y w) (s.others y l i);
  }

-- ---- tips are put into a table, those of one row at once: of each node, it is still to come, or the table covers its tip
pub record Growing (z own ends : List ℕ) (wide : Bool) (ls₀ rs₀ : List ℕ) (base n cells s : ℕ) (ls rs : List ℕ) (count left : ℕ) : Type 0 where
  pub room : TableRoom ls rs count
  pub low : Untouched base ls₀ rs₀ ls rs
  pub least : base ≤ count
  pub many : (i : ℕ) → So (bit left i) → count ≤ n + i
  pub small : left < 2 ^ 64
  pub sound : (y o : ℕ) → Has ls rs count y o → Has ls₀ rs₀ n y o ⊎ ((x : ℕ) × So (bit cells x) × StandsIn own wide x y × (cut_as ends wide z s x ≡ o))
  pub kept : (y o : ℕ) → Has ls₀ rs₀ n y o → Covered ls rs count y o
  pub part : (y : ℕ) → So (bit left y) → So (bit cells y)
  pub done : (y : ℕ) → y < 64 → So (bit cells y) → So (bit left y) ⊎ Covered ls rs count y (cut_as ends wide z s y)

module _ (z own ends : List ℕ) (wide : Bool) (ls₀ rs₀ : List ℕ) (base n cells s : ℕ) where
  pub growing_start : TableRoom ls₀ rs₀ n → base ≤ n → cells < 2 ^ 64 → Growing z own ends wide ls₀ rs₀ base n cells s ls₀ rs₀ n cells
  growing_start r b l = record {
    room = r;
    low = untouched_refl base ls₀ rs₀;
    least = b;
    many = λ i _. omega arith;
    small = l;
    sound = λ y o h. inl h;
    kept = covered_by_has ls₀ rs₀ n;
    part = λ y i. i;
    done = λ y _ i. inl i;
  }

  module _ (ls rs : List ℕ) (count left : ℕ) (g : Growing z own ends wide ls₀ rs₀ base n cells s ls rs count left) where
    pub growing_end : left ≡ 0 → (r : Grown) → r.count ≡ count → r.full ≡ false → Grew z own ends wide ls₀ rs₀ base n cells s ls rs r
    growing_end e r dc df = record {
      room = rw dc g.room;
      low = g.low;
      least = omega (arith, g.least);
      full = λ t. absurd (false≢true (sym df ∙ t));
      sound = rw dc g.sound;
      kept = rw dc g.kept;
      whole = λ _ y l i. rw dc (⊎_elim (none_in left y e) (λ c. c) (g.done y l i));
    }

    module _ (y row mates cut w : ℕ) (ls' rs' : List ℕ) (p : Grown) (low : IsLowest left y) (dr : row ≡ get_or z y 0)
        (m : Rowmates z left row mates) (dc : cut ≡ bit_and s row) (dw : w ≡ seen_as ends wide cut) (a : Put own wide ls rs base count mates w ls' rs' p) where
      set_is : w ≡ seen_as ends wide (bit_and s row)
      set_is = dw ∙ ap (seen_as ends wide) dc

      on_sound : (x o : ℕ) → Has ls' rs' p.count x o → Has ls₀ rs₀ n x o ⊎ ((t : ℕ) × So (bit cells t) × StandsIn own wide t x × (cut_as ends wide z s t ≡ o))
      on_sound x o h =
          ⊎_elim (g.sound x o) (λ (t, i, b, q). let (j, d) = m.sound t i in inr (t, g.part t j, b, ap (λ (r : ℕ). seen_as ends wide (bit_and s r)) d ∙ sym set_is ∙ sym q)) (a.sound x o h)

      on_kept : (x o : ℕ) → Has ls₀ rs₀ n x o → Covered ls' rs' p.count x o
      on_kept x o h = covered_trans ls rs count ls' rs' p.count a.kept x o (g.kept x o h)

      on_low : Untouched base ls₀ rs₀ ls' rs'
      on_low = untouched_trans base ls₀ rs₀ ls rs g.low ls' rs' a.low

      pub growing_full : p.full ≡ true → (r : Grown) → r.count ≡ count → r.full ≡ true → Grew z own ends wide ls₀ rs₀ base n cells s ls' rs' r
      growing_full t r dn df =
          let q : r.count ≡ p.count = dn ∙ sym (a.full t).1 in
          record {
            room = rw q a.room;
            low = on_low;
            least = omega (arith, a.least);
            full = λ _. omega (arith, (a.full t).0, g.many y low.there, low.small);
            sound = rw q on_sound;
            kept = rw q on_kept;
            whole = λ t. absurd (false≢true (sym t ∙ df));
          }

      -- the lowest cell is one of its row
      mates_there : So (bit mates y)
      mates_there = m.whole y low.small low.there (sym dr)

      module _ (left' : ℕ) (off : IsMinus left mates left') where
        pub growing_less : left' < left
        growing_less = off.less y low.there mates_there

        least : (i : ℕ) → So (bit left i) → y ≤ i
        least i e = ⊎_elim (λ l. l) (λ l. never (sym (first_least 64 (bit left) i (omega (arith, low.is))) ∙ e)) (le-or-lt y i)

        on_many : (i : ℕ) → So (bit left' i) → p.count ≤ n + i
        on_many i e =
            let (j, k) = minus_in left mates left' off i e in
            ⊎_elim (λ q. absurd (k (rw (← q) mates_there))) (λ l. omega (arith, a.few, g.many y low.there)) (eq-or-lt_of_le (least i j))

        pub growing_next : p.full ≡ false → Growing z own ends wide ls₀ rs₀ base n cells s ls' rs' p.count left'
        growing_next t = record {
          room = a.room;
          low = on_low;
          least = a.least;
          many = on_many;
          small = omega (arith, growing_less, g.small);
          sound = on_sound;
          kept = on_kept;
          part = λ x e. g.part x (minus_in left mates left' off x e).0;
          done = λ x l e. ⊎_elim
              (λ i. ⊎_elim inl (λ j. inr (rw ((m.sound x j).1, ← set_is) (a.new t x l j))) (minus_or left mates left' off x i))
              (λ c. inr (covered_trans ls rs count ls' rs' p.count a.kept x _ c))
              (g.done x l e);
        }
