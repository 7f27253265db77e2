-- What each turn and each way out of the functions shows. Every number that the code computed is a variable here, with what is known of it, so
-- that `search` finds it in a need's record.
use mathlib.Core.Bool.{Bool, true, false, So, false≢true}
use mathlib.Core.Path.{◌≡◌, refl, sym, ap, ◌∙◌}
use mathlib.Core.Logic.{◌⊎◌, inl, inr, ⊎_elim}
use mathlib.Core.List.{List}
use Prim.Native.Nat.{ℕ, ◌+◌, ◌*◌, ◌/◌, ◌%◌, ◌^◌, ◌≤◌, ◌<◌, max}
use native.Mathlib.Nat.{eq-or-lt_of_le}
use native.Mathlib.Omega.{arith}
use borrow.Author.Tests.{eqb-true}
use lib.Bits.{bit_and, bit_or}
use lib.ListN.{length, get_or, set, length-set}
use lib.Seq.{get_or-set_same, get_or-set_other}
use Rattle.theory.proofs.TestLaws.{never, le-or-lt, and_iff, or_iff, not_iff}
use Rattle.words.specs.Words.{bit, IsLowest, IsWithout}
use Rattle.words.specs.Laws.{bit-zero, bit-or, bit_without}
use Rattle.search_links.specs.Hops.{View, label_of, to_of, hops_of, Opened, every_label, LeastLabel}
use Rattle.search_links.specs.Sets.{reached, image_of, row_at, StandsIn, seen_as}
use Rattle.search_tables.specs.declared.Grown.{Grown}
use Rattle.search_tables.specs.Tips.{Has, Covered, TableRoom, Untouched, cut_as, Grew}
use Rattle.search_tables.specs.Laws.{equal_or, covered_by_has, covered_trans, untouched_refl, untouched_trans}
use Rattle.search_steps.specs.declared.Part.{Part}
use Rattle.search_steps.specs.Paths.{Leaves, step_word}
use Rattle.search_steps.specs.Tables.{Beyond, NextLabel, Unites, Rowed, cells_by, set_by, Stretch, Stretched, Moves, slot, last_place, Passed, Begins, Filled}
use Rattle.search_steps.specs.Laws.{spread_agrees, leaves_low, image_in, image-out}

-- what is below the next number is at most this one
at_most : (n j : ℕ) → j < n + 1 → j ≤ n
at_most n j m = omega arith

-- ---- a step
pub step_is : (u : View) (z : List ℕ) (w a y n m : ℕ) → n ≡ image_of u w a → m ≡ bit_and n (get_or z y 0) → m ≡ step_word u z w a y
unfolding step_word
step_is u z w a y n m dn dm = dm ∙ rw dn

-- ---- labels
-- the nodes: of each, it is still to come, or its labels are none between
pub record Labelling (v : View) (cells least out left : ℕ) : Type 0 where
  pub small : left < 2 ^ 64
  pub within : (x : ℕ) → So (bit left x) → So (bit cells x)
  pub onward : least ≤ out
  pub most : out ≤ every_label
  pub none : (x k : ℕ) → x < 64 → So (bit cells x) → Leaves v x k → least ≤ label_of v k
      → So (bit left x) ⊎ ((out ≤ label_of v k) × (out < every_label))
  pub one : (out ≡ every_label) ⊎ ((x k : ℕ) × So (bit cells x) × Leaves v x k × (label_of v k ≡ out))

module _ (v : View) (cells least : ℕ) where
  pub labelling_start : least ≤ every_label → cells < 2 ^ 64 → Labelling v cells least every_label cells
  labelling_start l m = record { small = m; within = λ x i. i; onward = l; most = omega arith; none = λ x k a i b e. inl i; one = inl refl }

  module _ (out left : ℕ) (g : Labelling v cells least out left) where
    pub labelling_end : left ≡ 0 → NextLabel v cells least out
    labelling_end e = record {
      onward = g.onward;
      most = g.most;
      none = λ x k a i b h. ⊎_elim (λ j. never (sym (bit-zero x) ∙ rw e at j)) (λ q. q) (g.none x k a i b h);
      one = g.one;
    }

    pub labelling_next : (x out' left' : ℕ) → IsLowest left x → IsWithout left x left' → LeastLabel v x least out out'
        → Labelling v cells least out' left'
    labelling_next x out' left' low off f = record {
      small = omega (arith, off.less, g.small);
      within = λ y i. g.within y ((and_iff _ _).0 (sym (ap (λ (w : ℕ). bit w y) off.is ∙ bit_without left x y low.there) ∙ i)).0;
      onward = f.onward g.onward;
      most = omega (arith, f.most, g.most);
      none = λ y k a i b h. each y k a i b h (equal_or y x);
      one =
          ⊎_elim (λ e. ⊎_elim (λ q. inl (e ∙ q)) (λ (y, k, i, b, q). inr (y, k, i, b, q ∙ sym e)) g.one)
          (λ (k, p, q, _, e). inr (x, k, g.within x low.there, record { from = p; until = q }, e)) f.one;
    }
      where
        each : (y k : ℕ) → y < 64 → So (bit cells y) → Leaves v y k → least ≤ label_of v k → (y ≡ x) ⊎ (y ≡ x → ⊥)
            → So (bit left' y) ⊎ ((out' ≤ label_of v k) × (out' < every_label))
        each y k a i b h e =
            ⊎_elim
            (λ q. inr (f.none k (rw q at b.from) (rw q at b.until) h))
            (λ n. ⊎_elim
            (λ j. inl (ap (λ (w : ℕ). bit w y) off.is ∙ bit_without left x y low.there ∙ (and_iff _ _).1 (j, (not_iff _).1 (λ t. n (sym (eqb-true x y t))))))
            (λ (l, m). inr (omega (arith, f.most), omega (arith, f.most)))
            (g.none y k a i b h)) e

-- ---- sets are united
module _ (sets : List ℕ) (first : ℕ) where
  pub union_start : (out : ℕ) → Unites sets first first out
  union_start out = record { each = λ e x a l. absurd (omega arith) }

  pub union_next : (n out out' : ℕ) → Unites sets first n out → out' ≡ bit_or out (get_or sets n 0) → Unites sets first (n + 1) out'
  union_next n out out' u d = record {
    each = λ e x a l i.
        ap (λ (w : ℕ). bit w x) d ∙ bit-or out (get_or sets n 0) x
        ∙ (or_iff (bit out x) (bit (get_or sets n 0) x)).1 (⊎_elim (λ q. inr (rw q at i)) (λ s. inl (u.each e x a s i)) (eq-or-lt_of_le (at_most n e l)));
  }

  pub union_end : (n e out : ℕ) → Unites sets first e out → n ≤ e → Unites sets first n out
  union_end n e out u l = record { each = λ j x a m. u.each j x a (omega arith) }

-- ---- rows are put into a table of rows: of each node, it is still to come, or its row is there
pub record Rowing (v : View) (cells a base : ℕ) (rows₀ rows : List ℕ) (left : ℕ) : Type 0 where
  pub long : length rows ≡ 128
  pub small : left < 2 ^ 64
  pub each : (x : ℕ) → x < 64 → So (bit cells x) → So (bit left x) ⊎ (get_or rows (base + x) 0 ≡ reached (hops_of v x) a)
  pub kept : (j : ℕ) → (j < base) ⊎ (base + 64 ≤ j) → get_or rows j 0 ≡ get_or rows₀ j 0

module _ (v : View) (cells a base : ℕ) (rows₀ : List ℕ) where
  pub rowing_start : length rows₀ ≡ 128 → cells < 2 ^ 64 → Rowing v cells a base rows₀ rows₀ cells
  rowing_start l m = record { long = l; small = m; each = λ x _ i. inl i; kept = λ j _. refl }

  module _ (rows : List ℕ) (left : ℕ) (g : Rowing v cells a base rows₀ rows left) where
    pub rowing_end : left ≡ 0 → Rowed v cells a base rows₀ rows
    rowing_end e = record {
      long = g.long;
      each = λ x l i. ⊎_elim (λ j. never (sym (bit-zero x) ∙ rw e at j)) (λ q. q) (g.each x l i);
      kept = g.kept;
    }

    module _ (x left' r : ℕ) (room : base ≤ 64) (low : IsLowest left x) (off : IsWithout left x left') (d : r ≡ reached (hops_of v x) a) where
      pub rowing_next : Rowing v cells a base rows₀ (set rows (base + x) r) left'
      rowing_next = record {
        long = length-set rows (base + x) r ∙ g.long;
        small = omega (arith, off.less, g.small);
        each = λ y l i. each_next y l i (equal_or y x);
        kept = λ j h. get_or-set_other rows (base + x) j r 0 (λ q. ⊎_elim (λ l. omega (arith, low.small)) (λ l. omega (arith, low.small)) h) ∙ g.kept j h;
      }
        where
          each_next : (y : ℕ) → y < 64 → So (bit cells y) → (y ≡ x) ⊎ (y ≡ x → ⊥) → So (bit left' y) ⊎ (get_or (set rows (base + x) r) (base + y) 0 ≡ reached (hops_of v y) a)
          each_next y l i h =
              ⊎_elim
              (λ q. inr (rw q (get_or-set_same rows (base + x) r 0 (omega (arith, g.long, low.small)) ∙ d)))
              (λ n. ⊎_elim
              (λ j. inl (ap (λ (w : ℕ). bit w y) off.is ∙ bit_without left x y low.there ∙ (and_iff _ _).1 (j, (not_iff _).1 (λ t. n (sym (eqb-true x y t))))))
              (λ e. inr (get_or-set_other rows (base + x) (base + y) r 0 (λ q. n (omega arith)) ∙ e))
              (g.each y l i)) h

-- ---- the classes of a table are gone through for one label: the other table covers the tips by those passed
pub record Stretching (z own ends : List ℕ) (wide : Bool) (rows ls rs : List ℕ) (n from : ℕ) (ls₀ rs₀ : List ℕ) (base count : ℕ) (ls' rs' : List ℕ) (total e : ℕ) : Type 0 where
  pub room : TableRoom ls' rs' total
  pub low : Untouched base ls₀ rs₀ ls' rs'
  pub least : base ≤ total
  pub onward : from ≤ e
  pub fresh : e ≡ from → total ≡ count
  pub sound : (y o : ℕ) → Has ls' rs' total y o
      → Has ls₀ rs₀ count y o ⊎ ((e x : ℕ) × (from ≤ e) × (e < n) × So (bit (cells_by rows ls e) x) × StandsIn own wide x y × (cut_as ends wide z (set_by rows rs e) x ≡ o))
  pub kept : (y o : ℕ) → Has ls₀ rs₀ count y o → Covered ls' rs' total y o
  pub whole : (j y : ℕ) → from ≤ j → j < e → y < 64 → So (bit (cells_by rows ls j) y) → Covered ls' rs' total y (cut_as ends wide z (set_by rows rs j) y)

module _ (z own ends : List ℕ) (wide : Bool) (rows ls rs : List ℕ) (n from : ℕ) (ls₀ rs₀ : List ℕ) (base count : ℕ) where
  pub stretching_start : TableRoom ls₀ rs₀ count → base ≤ count → Stretching z own ends wide rows ls rs n from ls₀ rs₀ base count ls₀ rs₀ count from
  stretching_start r b = record {
    room = r;
    low = untouched_refl base ls₀ rs₀;
    least = b;
    onward = omega arith;
    fresh = λ _. refl;
    sound = λ y o h. inl h;
    kept = covered_by_has ls₀ rs₀ count;
    whole = λ j y a b. absurd (omega arith);
  }

  module _ (ls' rs' : List ℕ) (total e : ℕ) (f : Stretching z own ends wide rows ls rs n from ls₀ rs₀ base count ls' rs' total e) where
    pub stretching_end : n ≤ e → (r : Stretch) → r.count ≡ total → r.upto ≡ max from n → r.full ≡ false
        → Stretched z own ends wide rows ls rs n from ls₀ rs₀ base count ls' rs' r
    stretching_end l r dc du df = record {
      room = rw dc f.room;
      low = f.low;
      least = omega (arith, f.least);
      sound = rw dc f.sound;
      kept = rw dc f.kept;
      whole = λ j y a b. rw dc (f.whole j y a (omega (arith, f.onward)));
      onward = omega arith;
      full = λ t. absurd (false≢true (sym df ∙ t));
      all = λ _. omega arith;
    }

    module _ (cells s : ℕ) (dc : cells ≡ cells_by rows ls e) (ds : s ≡ set_by rows rs e) (l : e < n) (ls'' rs'' : List ℕ) (g : Grown) (w : Grew z own ends wide ls' rs' base total cells s ls'' rs'' g) where
      on_sound : (y o : ℕ) → Has ls'' rs'' g.count y o
          → Has ls₀ rs₀ count y o ⊎ ((e x : ℕ) × (from ≤ e) × (e < n) × So (bit (cells_by rows ls e) x) × StandsIn own wide x y × (cut_as ends wide z (set_by rows rs e) x ≡ o))
      on_sound y o h = ⊎_elim (λ h. f.sound y o h) (λ (x, i, t, q). inr (e, x, f.onward, l, rw (← dc) i, t, rw (← ds) q)) (w.sound y o h)

      -- what was covered before is covered still
      still : (y o : ℕ) → Covered ls' rs' total y o → Covered ls'' rs'' g.count y o
      still = covered_trans ls' rs' total ls'' rs'' g.count w.kept

      on_kept : (y o : ℕ) → Has ls₀ rs₀ count y o → Covered ls'' rs'' g.count y o
      on_kept y o h = still y o (f.kept y o h)

      on_low : Untouched base ls₀ rs₀ ls'' rs''
      on_low = untouched_trans base ls₀ rs₀ ls' rs' f.low ls'' rs'' w.low

      pub stretching_full : g.full ≡ true → (r : Stretch) → r.count ≡ g.count → r.upto ≡ e → r.full ≡ true
          → Stretched z own ends wide rows ls rs n from ls₀ rs₀ base count ls'' rs'' r
      stretching_full t r dn du df = record {
        room = rw dn w.room;
        low = on_low;
        least = omega (arith, w.least);
        sound = rw dn on_sound;
        kept = rw dn on_kept;
        whole = λ j y a b c d. rw dn (still _ _ (f.whole j y a (rw du at b) c d));
        onward = rw du f.onward;
        full = λ _. (omega arith, rw du (⊎_elim (λ q. inr (omega (arith, w.full t, f.fresh (sym q)))) (λ o. inl o) (eq-or-lt_of_le f.onward)));
        all = λ t. absurd (false≢true (sym t ∙ df));
      }

      pub stretching_next : g.full ≡ false → Stretching z own ends wide rows ls rs n from ls₀ rs₀ base count ls'' rs'' g.count (e + 1)
      stretching_next t = record {
        room = w.room;
        low = on_low;
        least = w.least;
        onward = omega (arith, f.onward);
        fresh = λ q. absurd (omega (arith, f.onward));
        sound = on_sound;
        kept = on_kept;
        whole = λ j y a b m i. ⊎_elim
            (λ q. rw q (new y m (rw q at i)))
            (λ s. still _ _ (f.whole j y a s m i))
            (eq-or-lt_of_le (at_most e j b));
      }
        where
          new : (y : ℕ) → y < 64 → So (bit (cells_by rows ls e) y) → Covered ls'' rs'' g.count y (cut_as ends wide z (set_by rows rs e) y)
          new y m i = rw ds at (w.whole t y m (rw dc i))

-- ---- the rows of a label, of both books, in one table
module _ (v u : View) (here there a : ℕ) (rows rows₁ rows₂ : List ℕ) (f : Rowed v here a 0 rows rows₁) (g : Rowed u there a 64 rows₁ rows₂) where
  -- which has the images of the sets within those that the rows were put in for
  cells_are : (ls : List ℕ) (first n e : ℕ) → Unites ls first n here → first ≤ e → e < n → cells_by rows₂ ls e ≡ image_of v (get_or ls e 0) a
  cells_are ls first n e w b l =
      spread_agrees (row_at rows₂ 0) (λ x. reached (hops_of v x) a) (get_or ls e 0)
      (λ x m i. g.kept (64 * 0 + x) (inl (omega arith)) ∙ f.each x m (w.each e x b l i))

  set_is : (rs : List ℕ) (first n e : ℕ) → Unites rs first n there → first ≤ e → e < n → set_by rows₂ rs e ≡ image_of u (get_or rs e 0) a
  set_is rs first n e w b l =
      spread_agrees (row_at rows₂ 1) (λ x. reached (hops_of u x) a) (get_or rs e 0) (λ x m i. g.each x m (w.each e x b l i))

-- below a number, or not
or-not : (m n : ℕ) → (m < n) ⊎ (n ≤ m)
or-not m n = ⊎_elim (λ l. inr l) (λ l. inl l) (le-or-lt n m)

-- ---- where a label is begun
module _ (first a at : ℕ) where
  pub begins_later : a ≡ at / 64 → (r : ℕ) → r ≡ max first (at % 64) → Begins first a at r
  begins_later d r q = record { least = omega arith; few = λ l. omega arith; reaches = λ l. omega arith; most = λ e b m. omega arith }

  pub begins_first : (a ≡ at / 64 → ⊥) → Begins first a at first
  begins_first h = record { least = omega arith; few = λ b. b; reaches = λ l. ⊎_elim (λ q. absurd (h (sym q))) (λ s. omega arith) (eq-or-lt_of_le l); most = λ e b m. b }

-- ---- a table is filled: it covers the tips by the classes and labels passed
pub record Filling (v u : View) (z own ends : List ℕ) (wide : Bool) (ls rs : List ℕ) (first n at : ℕ) (ls₀ rs₀ : List ℕ) (base count : ℕ) (ls' rs' : List ℕ) (total a from : ℕ) : Type 0 where
  pub room : TableRoom ls' rs' total
  pub low : Untouched base ls₀ rs₀ ls' rs'
  pub least : base ≤ total
  pub since : first ≤ from
  pub onward : at ≤ slot from a
  pub begun : at < 64 * (a + 1)
  pub most : a ≤ every_label
  pub fresh : (at < slot from a) ⊎ (total ≡ count)
  pub sound : (y o : ℕ) → Has ls' rs' total y o → Has ls₀ rs₀ count y o ⊎ ((x w : ℕ) × Beyond v u z ls rs n x w × StandsIn own wide x y × (seen_as ends wide w ≡ o))
  pub kept : (y o : ℕ) → Has ls₀ rs₀ count y o → Covered ls' rs' total y o
  pub whole : (e x k : ℕ) → Moves v ls first n e x k → at ≤ slot e (label_of v k) → slot e (label_of v k) < slot from a
      → Covered ls' rs' total (to_of v k) (seen_as ends wide (step_word u z (get_or rs e 0) (label_of v k) (to_of v k)))
  pub ended : a ≡ every_label → (e x k : ℕ) → Moves v ls first n e x k → label_of v k < every_label

module _ (v u : View) (z own ends : List ℕ) (wide : Bool) (ls rs : List ℕ) (first n at : ℕ) (ls₀ rs₀ : List ℕ) (base count : ℕ) (few : n ≤ 64) (here : ℕ) (wl : Unites ls first n here) where
  -- a link out of a class has none of the labels between
  none_between : (least a : ℕ) → NextLabel v here least a → (e x k : ℕ) → Moves v ls first n e x k → least ≤ label_of v k
      → (a ≤ label_of v k) × (a < every_label)
  none_between least a h e x k m l =
      h.none x k m.cell (wl.each e x m.least m.class m.inside) m.leaves l

  pub filling_start : TableRoom ls₀ rs₀ count → base ≤ count → at ≤ last_place → (d a from : ℕ) → d ≡ at / 64 → NextLabel v here d a → Begins first a at from
      → Filling v u z own ends wide ls rs first n at ls₀ rs₀ base count ls₀ rs₀ count a from
  filling_start r b l d a from dd h s = record {
    room = r;
    low = untouched_refl base ls₀ rs₀;
    least = b;
    since = s.least;
    onward = s.reaches (omega (arith, h.onward));
    begun = omega (arith, h.onward);
    most = h.most;
    fresh = inr refl;
    sound = λ y o g. inl g;
    kept = covered_by_has ls₀ rs₀ count;
    whole = λ e x k m c g. absurd (nothing e x k m c g);
    ended = λ q e x k m. ⊎_elim (λ g. absurd (omega (arith, (none_between d a h e x k m g).1))) (λ g. omega arith) (le-or-lt d (label_of v k));
  }
    where
      nothing : (e x k : ℕ) → Moves v ls first n e x k → at ≤ slot e (label_of v k) → slot e (label_of v k) < slot from a → ⊥
      nothing e x k m c g =
          let i : d ≤ label_of v k = omega (arith, m.class) in
          let j = (none_between d a h e x k m i).0 in
          ⊎_elim (λ q. omega (arith, s.most e m.least (rw q c))) (λ o. omega (arith, m.class, s.few (omega (arith, m.least, m.class)))) (eq-or-lt_of_le j)

  module _ (ls' rs' : List ℕ) (total a from : ℕ) (f : Filling v u z own ends wide ls rs first n at ls₀ rs₀ base count ls' rs' total a from) where
    pub filling_end : every_label ≤ a → (r : Part) → r.count ≡ total → r.next ≡ last_place → Filled v u z own ends wide ls rs first n at ls₀ rs₀ base count ls' rs' r
    filling_end l r dc dx = record {
      room = rw dc f.room;
      low = f.low;
      least = omega (arith, f.least);
      sound = rw dc f.sound;
      kept = rw dc f.kept;
      whole = λ e x k m b _. rw dc (f.whole e x k m b (omega (arith, f.ended (omega (arith, f.most)) e x k m, m.class, f.most, m.least, f.since)));
      further = λ _ m. omega arith;
      most = omega arith;
    }

    module _ (there : ℕ) (wr : Unites rs first n there) (rows rows₁ rows₂ : List ℕ) (a' : ℕ) (da : a' ≡ a)
        (fa : Rowed v here a' 0 rows rows₁) (fb : Rowed u there a' 64 rows₁ rows₂) (l : a < every_label)
        (ls'' rs'' : List ℕ) (p : Stretch) (w : Stretched z own ends wide rows₂ ls rs n from ls' rs' base total ls'' rs'' p) where
      label_sound : (y o : ℕ) → Has ls'' rs'' p.count y o → Has ls₀ rs₀ count y o ⊎ ((x w : ℕ) × Beyond v u z ls rs n x w × StandsIn own wide x y × (seen_as ends wide w ≡ o))
      unfolding step_word
      label_sound y o h =
          ⊎_elim (f.sound y o)
          (λ (e, x, c, b, i, r, q).
          let s : first ≤ e = omega (arith, f.since) in
          let t = image-out v (get_or ls e 0) a' x (rw (cells_are v u here there a' rows rows₁ rows₂ fa fb ls first n e wl s b) at i) in
          inr (
            x,
            step_word u z (get_or rs e 0) (label_of v t.link) x,
            record {
              cell = t.node;
              word = get_or rs e 0;
              link = t.link;
              has = record { class = e; below = b; cell = t.low; inside = t.inside; word = refl };
              leads = record { leaves = t.leaves; to = t.to; word = refl };
            },
            r,
            rw t.label (rw (set_is v u here there a' rows rows₁ rows₂ fa fb rs first n e wr s b) at q),
          ))
          (w.sound y o h)

      -- what was covered before this label is covered after it
      later : (y o : ℕ) → Covered ls' rs' total y o → Covered ls'' rs'' p.count y o
      later = covered_trans ls' rs' total ls'' rs'' p.count w.kept

      label_low : Untouched base ls₀ rs₀ ls'' rs''
      label_low = untouched_trans base ls₀ rs₀ ls' rs' f.low ls'' rs'' w.low

      module _ (o : Opened v.starts v.to) where
        -- the tips by this label and the classes from `from` up to p.upto
        label_whole : (e x k : ℕ) → Moves v ls first n e x k → label_of v k ≡ a → from ≤ e → e < p.upto
            → Covered ls'' rs'' p.count (to_of v k) (seen_as ends wide (step_word u z (get_or rs e 0) (label_of v k) (to_of v k)))
        unfolding step_word
        label_whole e x k m g b c =
            let q : label_of v k ≡ a' = g ∙ sym da in
            rw (q, ← set_is v u here there a' rows rows₁ rows₂ fa fb rs first n e wr m.least m.class)
            (w.whole e (to_of v k) b c (leaves_low v o x k m.cell m.leaves)
            (rw (cells_are v u here there a' rows rows₁ rows₂ fa fb ls first n e wl m.least m.class, ← q) (image_in v o x k m.cell m.leaves (get_or ls e 0) m.inside)))

        -- and those by the labels and classes passed before
        whole_upto : (e x k : ℕ) → Moves v ls first n e x k → at ≤ slot e (label_of v k)
            → slot e (label_of v k) < slot from a ⊎ ((label_of v k ≡ a) × (from ≤ e) × (e < p.upto))
            → Covered ls'' rs'' p.count (to_of v k) (seen_as ends wide (step_word u z (get_or rs e 0) (label_of v k) (to_of v k)))
        whole_upto e x k m b h = ⊎_elim (λ s. later _ _ (f.whole e x k m b s)) (λ (q, s, t). label_whole e x k m q s t) h

        pub filling_full : p.full ≡ true → (r : Part) → r.count ≡ p.count → r.next ≡ 64 * a + p.upto → Filled v u z own ends wide ls rs first n at ls₀ rs₀ base count ls'' rs'' r
        filling_full t r dn dx = record {
          room = rw dn w.room;
          low = label_low;
          least = omega (arith, w.least);
          sound = rw dn label_sound;
          kept = rw dn (λ y o h. later y o (f.kept y o h));
          whole = λ e x k m b c. rw dn (whole_upto e x k m b (parts e (label_of v k) m.class m.least (before c)));
          further = λ z _. ⊎_elim (λ s. omega (arith, f.onward)) (λ s. ⊎_elim (λ q. omega (arith, w.onward)) (λ q. absurd (omega arith)) f.fresh) (w.full t).1;
          most = omega (arith, (w.full t).0);
        }
          where
            before : {s : ℕ} → Passed s r.next → s < slot p.upto a
            before c = ⊎_elim (λ b. omega arith) (λ q. absurd (omega (arith, (w.full t).0))) c

            parts : (e j : ℕ) → e < n → first ≤ e → slot e j < slot p.upto a → slot e j < slot from a ⊎ ((j ≡ a) × (from ≤ e) × (e < p.upto))
            parts e j c g s = ⊎_elim (λ b. inl b) (λ b. inr (omega (arith, (w.full t).0), omega (arith, (w.full t).0), omega (arith, (w.full t).0))) (or-not (slot e j) (slot from a))

        pub filling_next : p.full ≡ false → (a'' : ℕ) → NextLabel v here (a' + 1) a''
            → Filling v u z own ends wide ls rs first n at ls₀ rs₀ base count ls'' rs'' p.count a'' first
        filling_next t a'' h = record {
          room = w.room;
          low = label_low;
          least = w.least;
          since = omega arith;
          onward = omega (arith, f.begun, h.onward);
          begun = omega (arith, f.begun, h.onward);
          most = h.most;
          fresh = inl (omega (arith, f.begun, h.onward));
          sound = label_sound;
          kept = λ y o g. later y o (f.kept y o g);
          whole = λ e x k m b c. whole_upto e x k m b (parts e x k m c);
          ended = λ q e x k m. ⊎_elim (λ g. absurd (omega (arith, (none_between (a' + 1) a'' h e x k m g).1))) (λ g. omega arith) (le-or-lt (a' + 1) (label_of v k));
        }
          where
            parts : (e x k : ℕ) → Moves v ls first n e x k → slot e (label_of v k) < slot first a''
                → slot e (label_of v k) < slot from a ⊎ ((label_of v k ≡ a) × (from ≤ e) × (e < p.upto))
            parts e x k m s =
                let i : label_of v k ≤ a = ⊎_elim (λ g. absurd (omega (arith, (none_between (a' + 1) a'' h e x k m g).0, m.class, m.least))) (λ g. omega arith) (le-or-lt (a' + 1) (label_of v k)) in
                ⊎_elim (λ b. inl b) (λ b. inr (omega (arith, m.class, f.since), omega (arith, m.class), omega (arith, w.all t, m.class))) (or-not (slot e (label_of v k)) (slot from a))
