-- What each way out of `settle` shows of the definitions of `specs/`. The numbers that the code computed are variables here, with what is
-- known of them, so that `search` finds them in a need's record.
use mathlib.Core.Bool.{Bool, true, false}
use mathlib.Core.List.{List}
use mathlib.Core.Path.{◌≡◌, ap, ◌∙◌}
use Prim.Native.Nat.{ℕ, suc, ◌+◌, ◌*◌, ◌≤◌, ◌<◌}
use native.Mathlib.Nat.{mul-le-mul}
use native.Mathlib.Omega.{arith}
use Rattle.std.specs.Prelude.{Option, Some, None}
use Rattle.theory.specs.Bisimulation.{Relation, flip, one_sided, two_sided, sides_of}
use Rattle.search_links.specs.Sets.{Valued}
use Rattle.search.specs.Reasons.{Posed, Answered}
use Rattle.search.specs.Laws.{charted_posed, answer_some, answer_chosen_none}
use Rattle.search.specs.declared.Reason.{Reason}
use Rattle.compare_laws.specs.Room.{pair_entries, pair_bytes}
use Rattle.compare_laws.specs.Places.{placed}
use Rattle.compare_laws.specs.Setting.{Setting, relation_after}
use Rattle.compare_laws.specs.Comparison.{Cause, ahead, back, Verdict, remains, parted_by, verdict, obey, state_at}
use Rattle.compare_laws.proofs.StepLaws.{verdict_left, verdict_right, verdict-alone, verdict_none}
use Rattle.compare_laws.proofs.DefinedLaws.{place_inside, state_refined, zero-next, zero_few, zero_room}
use Rattle.compare_entries.specs.Growing.{Roomy}
use Rattle.compare_entries.specs.GrowingLaws.{onward_none}
use Rattle.compare_entries.specs.Parting.{listed, cause_in, Puttable, PartFits, Lists, Parted}
use Rattle.compare_entries.specs.PartingLaws.{listed_is, answer_puttable}
use Rattle.compare_pair.specs.declared.Case.{Case}
use Rattle.compare_pair.specs.Settling.{Chart, basis, Round, Standing, Stands, Goes, place_of, Undecided}

module _ {l r : Chart} {rows columns : List ℕ} {x : Lists} {here : Case} (open' : Undecided x.map here) where
  -- ---- of a setting that the lists show
  module _ (s : Setting) (k : ℕ) (g : Round s k (basis l r here.sizes rows columns)) (t : Standing s k (place_of here) x) where
    in_left : here.left.0 < s.left.size
    in_left = rw (← g.ground.left_size) open'.left

    in_right : here.right.0 < s.right.size
    in_right = rw (← g.ground.right_size) open'.right

    at_place : place_of here ≡ here.left.0 * s.right.size + here.right.0
    at_place = ap (λ m. here.left.0 * m + here.right.0) g.ground.right_size

    zero : placed s.right.size (state_at s k (place_of here)).map here.left.0 here.right.0 ≡ 0
    zero = rw (← at_place, ← t.shows.places) open'.zero

    -- the relation that the round began with
    abbrev z : Relation
    z = relation_after s k

    ahead_posed : Posed s.left s.right z l.view r.view rows l.ends r.ends here.left.0 here.right.0
    ahead_posed = charted_posed g.ground.left g.ground.right _ _ in_left in_right rows z g.ahead.bits

    back_posed : Posed s.right s.left (flip z) r.view l.view columns r.ends l.ends here.right.0 here.left.0
    back_posed = charted_posed g.ground.right g.ground.left _ _ in_right in_left columns (flip z) g.back.bits

    -- the next state, by the verdict
    next_by : (v : Verdict) → verdict s z here.left.0 here.right.0 ≡ v
        → state_at s k (suc (place_of here)) ≡ obey s.sides s.right.size here.left.0 here.right.0 v (state_at s k (place_of here))
    next_by v e =
        zero-next g.ground.comparable k _ _ (place_of here) at_place in_left in_right zero
        ∙ ap (λ v. obey s.sides s.right.size here.left.0 here.right.0 v (state_at s k (place_of here))) e

    standing_parted : (x' : Lists) (cause : Cause) → verdict s z here.left.0 here.right.0 ≡ parted_by cause
        → Parted s.sides x x' (place_of here) here.left.0 here.right.0 cause → Standing s k (suc (place_of here)) x'
    unfolding obey
    standing_parted x' cause e p =
        record {
          shows = rw (next_by (parted_by cause) e) (p.next s.right.size (state_at s k (place_of here)) at_place t.shows);
          version = p.version ∙ t.version;
          wide = p.wide ∙ t.wide;
          roomy = rw p.onward.size t.roomy;
        }

    standing_stays : verdict s z here.left.0 here.right.0 ≡ remains → Standing s k (suc (place_of here)) x
    unfolding obey
    standing_stays e = record { shows = rw (next_by remains e) t.shows; version = t.version; wide = t.wide; roomy = t.roomy }

    -- there is room for what parts the pair
    roomy : Roomy x.room x.pen (pair_bytes x.pen.version) pair_entries
    roomy =
        let p = zero_room g.ground.comparable k _ _ (place_of here) at_place in_left in_right zero in
        let q = zero_few g.ground.comparable k _ _ (place_of here) at_place in_left in_right zero in
        record {
          inside = rw t.version (omega (arith, p, rw t.version at t.shows.entries.held.place, t.roomy));
          few = omega (arith, q, t.shows.entries.number);
        }

    fits : (labels to : List ℕ) (why : Reason) → Puttable s.version labels to why → PartFits x.room x.pen x.map (place_of here) labels to x.new here.left.0 here.right.0 why
    fits labels to why p =
        let here-inside = place_inside g.ground.comparable k _ _ (place_of here) at_place in_left in_right in
        record {
          puttable = rw t.version p;
          roomy = roomy;
          inside = rw (t.shows.places, (state_refined g.ground.comparable k (place_of here) (omega (arith, here-inside))).size) here-inside;
          left_cell = omega (arith, in_left, g.ground.comparable.small.0);
          right_cell = omega (arith, in_right, g.ground.comparable.small.1);
          wide = t.wide;
        }

    -- what the search found, in the setting
    module _ (found : Option Reason) (w : Answered l.view r.view rows l.ends r.ends here.left.0 here.right.0 here.sizes.bound found) where
      verdict_ahead : (why : Reason) → found ≡ Some why → verdict s z here.left.0 here.right.0 ≡ parted_by (ahead (listed l.view.labels l.view.to why))
      verdict_ahead why e =
          rw (← listed_is l.view.starts l.view.labels l.view.to why)
          (verdict_left s z _ _ _ (rw g.ground.bound at (answer_some _ _ z l.view r.view rows l.ends r.ends _ _ _ found w ahead_posed why e)))

      module _ (none : found ≡ None) (found' : Option Reason)
          (w' : Answered r.view l.view columns r.ends l.ends here.right.0 here.left.0 here.sizes.bound found') where
        verdict_back : s.sides ≡ two_sided → (why : Reason) → found' ≡ Some why
            → verdict s z here.left.0 here.right.0 ≡ parted_by (back (listed r.view.labels r.view.to why))
        verdict_back both why e =
            rw (← listed_is r.view.starts r.view.labels r.view.to why)
            (verdict_right s z _ _ (rw g.ground.bound at (answer_chosen_none _ _ z l.view r.view rows l.ends r.ends _ _ _ found w ahead_posed none))
            both _
            (rw g.ground.bound at (answer_some _ _ (flip z) r.view l.view columns r.ends l.ends _ _ _ found' w' back_posed why e)))

        verdict_neither : found' ≡ None → verdict s z here.left.0 here.right.0 ≡ remains
        verdict_neither none' =
            verdict_none s z _ _ (rw g.ground.bound at (answer_chosen_none _ _ z l.view r.view rows l.ends r.ends _ _ _ found w ahead_posed none))
            (rw g.ground.bound at (answer_chosen_none _ _ (flip z) r.view l.view columns r.ends l.ends _ _ _ found' w' back_posed none'))

  -- ---- what the calls ask, and the ways out
  module _ (st : Stands (basis l r here.sizes rows columns) (place_of here) x) where
    bounded : here.sizes.bound ≤ 4
    bounded = omega (arith, st.round.ground.bound, st.round.ground.comparable.bound)

    module _ (found : Option Reason) (w : Answered l.view r.view rows l.ends r.ends here.left.0 here.right.0 here.sizes.bound found) where
      module _ (why : Reason) (e : found ≡ Some why) where
        pub ahead_fits : PartFits x.room x.pen x.map (place_of here) l.view.labels l.view.to x.new here.left.0 here.right.0 why
        ahead_fits =
            fits _ _ st.round st.standing l.view.labels l.view.to why
            (answer_puttable st.round.ground.comparable.narrow.0 l.view r.view rows l.ends r.ends _ _ _ found w
            (ahead_posed _ _ st.round st.standing) bounded why e)

        -- by a reason from the left, where so many sides count
        goes_by : (b : Bool) → here.sizes.both ≡ b → (x' : Lists)
            → Parted (sides_of b) x x' (place_of here) here.left.0 here.right.0 (ahead (listed l.view.labels l.view.to why))
            → Goes (basis l r here.sizes rows columns) (place_of here) (suc (place_of here)) x x'
        goes_by b d x' p =
            record { next = λ s k g t. standing_parted s k g t x' _ (verdict_ahead s k g t found w why e) (rw (g.ground.sides, d) p); onward = p.onward }

        pub ahead_goes : here.sizes.both ≡ true → (x' : Lists)
            → Parted two_sided x x' (place_of here) here.left.0 here.right.0 (cause_in l.view.labels l.view.to true why)
            → Goes (basis l r here.sizes rows columns) (place_of here) (suc (place_of here)) x x'
        ahead_goes = goes_by true

        pub left_goes : here.sizes.both ≡ false → (x' : Lists)
            → Parted one_sided x x' (place_of here) here.left.0 here.right.0 (ahead (listed l.view.labels l.view.to why))
            → Goes (basis l r here.sizes rows columns) (place_of here) (suc (place_of here)) x x'
        left_goes = goes_by false

      module _ (none : found ≡ None) where
        -- no reason from the left, which alone counts
        pub covered_goes : here.sizes.both ≡ false → Goes (basis l r here.sizes rows columns) (place_of here) (suc (place_of here)) x x
        covered_goes d =
            record {
              next = λ s k g t. standing_stays s k g t
                  (verdict-alone s _ _ _ (rw g.ground.bound at (answer_chosen_none _ _ _ l.view r.view rows l.ends r.ends _ _ _ found w (ahead_posed s k g t) none))
                  (g.ground.sides ∙ ap sides_of d));
              onward = onward_none x.room x.pen.at;
            }

        module _ (found' : Option Reason) (w' : Answered r.view l.view columns r.ends l.ends here.right.0 here.left.0 here.sizes.bound found') where
          module _ (why : Reason) (e : found' ≡ Some why) where
            pub back_fits : PartFits x.room x.pen x.map (place_of here) r.view.labels r.view.to x.new here.left.0 here.right.0 why
            back_fits =
                fits _ _ st.round st.standing r.view.labels r.view.to why
                (answer_puttable st.round.ground.comparable.narrow.1 r.view l.view columns r.ends l.ends _ _ _ found' w'
                (back_posed _ _ st.round st.standing) bounded why e)

            pub back_goes : here.sizes.both ≡ true → (x' : Lists) → Parted two_sided x x' (place_of here) here.left.0 here.right.0 (cause_in r.view.labels r.view.to false why)
                → Goes (basis l r here.sizes rows columns) (place_of here) (suc (place_of here)) x x'
            back_goes d x' p =
                record {
                  next = λ s k g t.
                      let both = g.ground.sides ∙ ap sides_of d in
                      standing_parted s k g t x' _ (verdict_back s k g t found w none found' w' both why e) (rw both p);
                  onward = p.onward;
                }

          pub stays_goes : found' ≡ None → Goes (basis l r here.sizes rows columns) (place_of here) (suc (place_of here)) x x
          stays_goes none' =
              record { next = λ s k g t. standing_stays s k g t (verdict_neither s k g t found w none found' w' none'); onward = onward_none x.room x.pen.at }
