-- What the calls of `round` ask and what its way out shows of the definitions of `specs/`, in the form in which `search` finds it.
use mathlib.Core.Bool.{Bool, true, false, false≢true, So}
use mathlib.Core.List.{List}
use mathlib.Core.Path.{◌≡◌, refl, sym, ap, ap₂, ◌∙◌}
use Prim.Native.Nat.{ℕ, suc, ◌*◌, ◌≤◌, ◌<◌}
use native.Mathlib.Nat.{le_refl}
use native.Mathlib.Omega.{arith}
use lib.ListN.{length}
use Rattle.theory.specs.Bisimulation.{Relation, flip}
use Rattle.theory.proofs.GreatestLaws.{Near, near_kept, after_inside}
use Rattle.words.specs.Words.{bit}
use Rattle.compare_laws.specs.Setting.{Setting, pairs, relation_after}
use Rattle.compare_laws.specs.Comparison.{State, turned, upto, states, state_at}
use Rattle.compare_laws.proofs.DefinedLaws.{state_refined, still_last, entries_few}
use Rattle.compare_map.specs.Relation.{Mapped, rows_of, columns_of, Tells}
use Rattle.compare_map.specs.Laws.{rows-begin, columns_tell}
use Rattle.compare_entries.specs.declared.Pen.{Pen}
use Rattle.compare_entries.specs.Parting.{lists}
use Rattle.compare_pair.specs.declared.Sizes.{Sizes}
use Rattle.compare_pair.specs.Settling.{Chart, Ground, basis_with, Idle, Round, Standing, Stands, Goes}
use Rattle.compare_near.specs.Near.{changed, near_to, reach_of_lem}
use Rattle.compare_near.specs.NearLaws.{reach_one, reach_all, near_same}
use Rattle.compare_round.specs.declared.Live.{Live}
use Rattle.compare_round.specs.Idle.{idle_in}
use Rattle.compare_rounds.specs.Turns.{at_rest, live_after, Opens, Finished, Turned}

-- the state before the first place is the one that the round begins with
at_first : (s : Setting) (k : ℕ) → state_at s k 0 ≡ states s k
unfolding upto
at_first s k = refl

-- what `live_after` makes is what is defined
pub live_is : (sa ta sb tb rows columns map : List ℕ) (z : Sizes) (after across : List ℕ) (left right : ℕ) → after ≡ rows_of map z.left z.right
    → across ≡ columns_of after z.left z.right → left ≡ near_to sa ta z.left (changed rows after z.left) (reach_of_lem z.bound)
    → right ≡ near_to sb tb z.right (changed columns across z.right) (reach_of_lem z.bound)
    → ◌≡◌ {A = Live} (record { left = left; right = right }) (live_after sa ta sb tb rows columns map z)
unfolding live_after
live_is sa ta sb tb rows columns map z after across left right da dx dl dr = rw (dl, dr, dx, da)

module _ {l r : Chart} {z : Sizes} where
  -- ---- of a setting that the lists show
  module _ {room : List ℕ} {pen : Pen} {map new : List ℕ} (s : Setting) (k : ℕ) (g : Ground s l r z) (t : Standing s k 0 (at_rest room pen map new)) where
    left_small : z.left ≤ 64
    left_small = omega (arith, g.left_size, g.comparable.small.0)

    right_small : z.right ≤ 64
    right_small = omega (arith, g.right_size, g.comparable.small.1)

    sizes : Mapped map z.left z.right
    sizes =
        record {
          few = left_small;
          some = omega (arith, g.right_size, g.comparable.some.1);
          most = right_small;
          size = ap length t.shows.places ∙ (state_refined g.comparable k 0 (omega arith)).size ∙ sym (ap₂ ◌*◌ g.left_size g.right_size);
        }

    -- the rows and the columns of the map tell the relation that the round begins with
    module _ (rows : List ℕ) (dr : rows ≡ rows_of map z.left z.right) where
      rows_read : Tells z.left z.right (relation_after s k) rows
      rows_read =
          rw (dr, t.shows.places)
          (rows-begin z.left z.right g.left_size g.right_size (rw t.shows.places at sizes) (state_refined g.comparable k 0 (omega arith)))

      rows_told : Tells s.left.size s.right.size (relation_after s k) rows
      rows_told = rw (g.left_size, g.right_size) at rows_read

      columns_told : (columns : List ℕ) → columns ≡ columns_of rows z.left z.right → Tells s.right.size s.left.size (flip (relation_after s k)) columns
      columns_told columns dc =
          let u : Tells z.right z.left (flip (relation_after s k)) columns = rw dc (columns_tell z.left z.right _ rows right_small rows_read) in
          rw (g.left_size, g.right_size) at u

    -- the round, taken to its end
    module _ {idle : Relation} (f : Idle s k idle) {rows columns : List ℕ} (dr : rows ≡ rows_of map z.left z.right)
        (dc : columns ≡ columns_of rows z.left z.right) where
      round_is : Round s k (basis_with idle l r z rows columns)
      round_is = record { ground = g; ahead = rows_told rows dr; back = columns_told rows dr columns dc; idle = f }

      module _ {room' : List ℕ} {pen' : Pen} {map' new' : List ℕ}
          (goes : Goes (basis_with idle l r z rows columns) 0 (z.left * z.right) (at_rest room pen map new) (lists room' pen' map' new new')) where
        done : Standing s k (pairs s) (lists room' pen' map' new new')
        done =
            let d : z.left * z.right ≡ pairs s = ap₂ ◌*◌ g.left_size g.right_size in
            rw d at (goes.next s k round_is t)

        next-round : Standing s (suc k) 0 (at_rest room' pen' map' new')
        unfolding upto states turned
        next-round =
            let x = done.shows in
            record {
              shows = record {
                entries = x.entries;
                places = x.places;
                old_left = x.new_left;
                old_right = x.new_right;
                new_left = x.new_left;
                new_right = x.new_right;
              };
              version = done.version;
              wide = done.wide;
              roomy = done.roomy;
            }

        began : pen.next ≡ length (states s k).entries
        began = t.shows.entries.number ∙ ap (λ (x : State). length x.entries) (at_first s k)

        ended : pen'.next ≡ length (state_at s k (pairs s)).entries
        ended = done.shows.entries.number

        last_round : pen'.next ≡ pen.next → Finished s room' pen' map'
        last_round e =
            record {
              entries = (state_at s k (pairs s)).entries;
              penned = done.shows.entries;
              version = done.version;
              compared = rw done.shows.places (still_last g.comparable k (sym ended ∙ e ∙ began));
            }

        more-entries : pen.next ≤ pen'.next
        more-entries = omega (arith, began, ended, (state_refined g.comparable k (pairs s) (le_refl _)).from)

        few_entries : pen'.next ≤ 16385
        few_entries = omega (arith, ended, entries_few g.comparable k (pairs s) (le_refl _))

  -- ---- the pairs that the next round keeps
  module _ {map map' room room' new new' : List ℕ} {pen pen' : Pen} (s : Setting) (k : ℕ) (g : Ground s l r z) (t : Standing s k 0 (at_rest room pen map new))
      (t' : Standing s (suc k) 0 (at_rest room' pen' map' new')) where
    -- No pair near these was dropped.
    abbrev Calm : ℕ → ℕ → Type 0
    Calm a b = (x y : ℕ) → Near s.left (reach_of_lem s.bound) a x → Near s.right (reach_of_lem s.bound) b y → So (relation_after s k x y) → So (relation_after s (suc k) x y)

    module _ (a b : ℕ) (o : a < s.left.size) (u : b < s.right.size) where
      module _ {rows after : List ℕ} (dr : rows ≡ rows_of map z.left z.right) (da : after ≡ rows_of map' z.left z.right) where
        left_calm : bit (near_to l.view.starts l.view.to z.left (changed rows after z.left) (reach_of_lem z.bound)) a ≡ false → Calm a b
        left_calm far x y n m e =
            let v = (after_inside s.sides s.bound g.comparable.formed.0 g.comparable.formed.1 k x y e).1.below in
            sym (near_same g.left.drawn s.right.size (relation_after s k) (relation_after s (suc k)) (rows_told s k g t rows dr)
            (rows_told s (suc k) g t' after da) (reach_of_lem s.bound) a o (rw (← g.left_size, ← g.bound) far) x y n v) ∙ e

        right_calm : {columns across : List ℕ} → columns ≡ columns_of rows z.left z.right → across ≡ columns_of after z.left z.right
            → bit (near_to r.view.starts r.view.to z.right (changed columns across z.right) (reach_of_lem z.bound)) b ≡ false → Calm a b
        right_calm {columns} {across} dc dx far x y n m e =
            let v = (after_inside s.sides s.bound g.comparable.formed.0 g.comparable.formed.1 k x y e).0.below in
            sym (near_same g.right.drawn s.left.size (flip (relation_after s k)) (flip (relation_after s (suc k))) (columns_told s k g t rows dr columns dc)
            (columns_told s (suc k) g t' after da across dx) (reach_of_lem s.bound) b u (rw (← g.right_size, ← g.bound) far) y x m v) ∙ e

    next_idle : {rows columns : List ℕ} → rows ≡ rows_of map z.left z.right → columns ≡ columns_of rows z.left z.right → (live : Live)
        → live ≡ live_after l.view.starts l.view.to r.view.starts r.view.to rows columns map' z → Idle s (suc k) (idle_in live)
    unfolding idle_in live_after
    next_idle dr dc live d a b o u e h =
        near_kept s.sides s.bound g.comparable.formed.0 g.comparable.formed.1 (reach_of_lem s.bound) k a b (reach_one _) (reach_all _)
        (by (bit live.left a) refl (bit live.right b) refl) h
      where
        by : (p : Bool) → bit live.left a ≡ p → (q : Bool) → bit live.right b ≡ q → Calm a b
        by false f q f' = left_calm a b o u dr refl (ap (λ (w : Live). bit w.left a) (sym d) ∙ f)
        by true f false f' = right_calm a b o u dr refl dc refl (ap (λ (w : Live). bit w.right b) (sym d) ∙ f')
        by true f true f' = absurd (false≢true (rw (f, f') at e))

  -- ---- what the calls ask, and the way out
  module _ {idle : Relation} {room : List ℕ} {pen : Pen} {map new : List ℕ} (o : Opens l r z idle (at_rest room pen map new)) where
    pub left_few : z.left ≤ 64
    left_few = left_small _ _ o.ground o.standing

    pub right_few : z.right ≤ 64
    right_few = right_small _ _ o.ground o.standing

    pub mapped : Mapped map z.left z.right
    mapped = sizes _ _ o.ground o.standing

    module _ {rows columns : List ℕ} (dr : rows ≡ rows_of map z.left z.right) (dc : columns ≡ columns_of rows z.left z.right) where
      pub stands : Stands (basis_with idle l r z rows columns) 0 (at_rest room pen map new)
      stands =
          record { setting = o.setting; before = o.before; round = round_is _ _ o.ground o.standing o.known dr dc; standing = o.standing }

      module _ {room' : List ℕ} {pen' : Pen} {map' new' : List ℕ}
          (goes : Goes (basis_with idle l r z rows columns) 0 (z.left * z.right) (at_rest room pen map new) (lists room' pen' map' new new')) where
        -- the map has as many rows and columns as before
        pub mapped-next : Mapped map' z.left z.right
        mapped-next = sizes _ _ o.ground (next-round _ _ o.ground o.standing o.known dr dc goes)

        pub turned_round : (live : Live) → live ≡ live_after l.view.starts l.view.to r.view.starts r.view.to rows columns map' z
            → Turned l r z idle (idle_in live) (at_rest room pen map new) (at_rest room' pen' map' new')
        turned_round live d =
            record {
              next = λ s k g f t. let t' = next-round s k g t f dr dc goes in (t', next_idle s k g t t' dr dc live d);
              last = λ e s k g f t. last_round s k g t f dr dc goes e;
              onward = goes.onward;
              rising = more-entries _ _ o.ground o.standing o.known dr dc goes;
              few = few_entries _ _ o.ground o.standing o.known dr dc goes;
            }
