-- What each turn and the way out of `settle_row` and `settle_all` shows of the definitions of `specs/`. The numbers that the code computed are
-- variables here, with what is known of them, so that `search` finds them in a need's record.
use mathlib.Core.Bool.{Bool, true, So, ◌&&◌, ◌||◌}
use mathlib.Core.List.{List}
use mathlib.Core.Logic.{◌≢◌, ⊎_elim}
use mathlib.Core.Path.{◌≡◌, refl, sym, ap, ap₂, ◌∙◌}
use Prim.Native.Nat.{ℕ, suc, ◌+◌, ◌*◌, ◌≤◌, ◌<◌}
use native.Mathlib.Nat.{le_refl, mul-le-mul_right, suc-mul, add-zero, zero-mul}
use native.Mathlib.Numerals.{add-one}
use native.Mathlib.Omega.{arith}
use borrow.Author.Tests.{eqb-true}
use Rattle.std.specs.Prelude.{Option, Some, None}
use lib.ListN.{length, get_or}
use Rattle.theory.specs.Bisimulation.{sides_of}
use Rattle.theory.proofs.TestLaws.{never, and_iff, or_iff}
use Rattle.compare_laws.specs.Places.{placed, unparted}
use Rattle.compare_laws.proofs.PlaceLaws.{place_below}
use Rattle.compare_laws.specs.Setting.{Setting}
use Rattle.compare_laws.specs.Comparison.{state_at}
use Rattle.compare_laws.proofs.DefinedLaws.{state_refined, nonzero_next, kept_next, shared_next, zero_still}
use Rattle.compare_entries.specs.declared.Pen.{Pen}
use Rattle.compare_entries.specs.Parting.{Lists, lists}
use Rattle.compare_entries.specs.GrowingLaws.{onward_none}
use Rattle.compare_pair.specs.declared.Case.{Case}
use Rattle.compare_pair.specs.Settling.{Basis, Round, Standing, Stands, Goes, Undecided}
use Rattle.compare_pair.proofs.Laws.{goes_none, goes_more, goes_stands}
use Rattle.compare_round.specs.Twins.{twin_of, shares, Twin}
use Rattle.compare_round.proofs.Twins.{twin_next, twin_still}

-- ---- a place with nothing to do, of a round that stands before it

module _ (by : Basis) (i j : ℕ) (x : Lists) (o : i < by.sizes.left) (u : j < by.sizes.right) where
  module _ (s : Setting) (k : ℕ) (g : Round s k by) where
    in_left : i < s.left.size
    in_left = rw (← g.ground.left_size) o

    in_right : j < s.right.size
    in_right = rw (← g.ground.right_size) u

    at_place : i * by.sizes.right + j ≡ i * s.right.size + j
    at_place = ap (λ m. i * m + j) g.ground.right_size

    -- what the map holds there is what the state has
    placed_is : (t : Standing s k (i * by.sizes.right + j) x) (a b : ℕ)
        → placed by.sizes.right x.map a b ≡ placed s.right.size (state_at s k (i * by.sizes.right + j)).map a b
    placed_is t a b = rw (t.shows.places, g.ground.right_size)

  idle : (p q : ℕ) → p ≡ i * by.sizes.right + j → q ≡ suc p
      → ((s : Setting) (k : ℕ) → Round s k by → Standing s k p x → state_at s k q ≡ state_at s k p) → Goes by p q x x
  idle p q d e f =
      record {
        next = λ s k g t. record { shows = rw (f s k g t) t.shows; version = t.version; wide = t.wide; roomy = t.roomy };
        onward = onward_none x.room x.pen.at;
      }

  -- its pair was parted before
  pub parted_goes : placed by.sizes.right x.map i j ≢ 0 → Goes by (i * by.sizes.right + j) (suc (i * by.sizes.right + j)) x x
  parted_goes h =
      idle _ _ refl refl
      (λ s k g t. nonzero_next g.ground.comparable k i j _ (at_place s k g) (in_left s k g) (in_right s k g) (λ e. h (placed_is s k g t i j ∙ e)))

  -- its pair is known to stay
  pub idle_goes : So (by.idle i j) → Goes by (i * by.sizes.right + j) (suc (i * by.sizes.right + j)) x x
  idle_goes e =
      idle _ _ refl refl
      (λ s k g t. kept_next g.ground.comparable k i j _ (at_place s k g) (in_left s k g) (in_right s k g) (g.idle i j (in_left s k g) (in_right s k g) e))

  -- its pair stays by a row before that shares a column with this one
  pub shared_goes : by.sizes.both ≡ true → (a b : ℕ) → a < i → b < j → placed by.sizes.right x.map i b ≡ 0 → placed by.sizes.right x.map a b ≡ 0
      → placed by.sizes.right x.map a j ≡ 0 → Goes by (i * by.sizes.right + j) (suc (i * by.sizes.right + j)) x x
  shared_goes both a b l m d e f =
      idle _ _ refl refl
      (λ s k g t. shared_next g.ground.comparable k i j _ (at_place s k g) (in_left s k g) (in_right s k g) (g.ground.sides ∙ ap sides_of both) a b l m
      (sym (placed_is s k g t i b) ∙ d) (sym (placed_is s k g t a b) ∙ e) (sym (placed_is s k g t a j) ∙ f))

-- the lists as they are where branches meet
pub goes_to : {by : Basis} {p q : ℕ} {x : Lists} {room room' map map' old new new' : List ℕ} {pen pen' : Pen} → Goes by p q x (lists room' pen' map' old new')
    → room ≡ room' → map ≡ map' → new ≡ new' → pen ≡ pen' → Goes by p q x (lists room pen map old new)
goes_to g dr dm dn dp = rw (dr, dm, dn, dp) g

-- ---- the sizes of what stands

module _ {by : Basis} {p : ℕ} {x : Lists} (st : Stands by p x) where
  pub left_few : by.sizes.left ≤ 64
  left_few = omega (arith, st.round.ground.left_size, st.round.ground.comparable.small.0)

  pub right_few : by.sizes.right ≤ 64
  right_few = omega (arith, st.round.ground.right_size, st.round.ground.comparable.small.1)

  pub map_size : p ≤ by.sizes.left * by.sizes.right → length x.map ≡ by.sizes.left * by.sizes.right
  map_size h =
      let g = st.round.ground in
      rw (st.standing.shows.places, g.left_size, g.right_size)
      (state_refined g.comparable st.before p (rw (← g.left_size, ← g.right_size) h)).size

-- ---- a row

-- The round stands before column j of the row, and `twin` is the row's twin.
pub record InRow (by : Basis) (i j : ℕ) (twin : Option ℕ) (x₀ x : Lists) : Type 0 where
  pub begun : Stands by (i * by.sizes.right) x₀
  pub goes : Goes by (i * by.sizes.right) (i * by.sizes.right + j) x₀ x
  pub row : i < by.sizes.left
  pub within : j ≤ by.sizes.right
  pub shares : Twin by.sizes.right x.map i j twin

pub row_begun : {by : Basis} {i : ℕ} {x : Lists} → Stands by (i * by.sizes.right) x → i < by.sizes.left → InRow by i 0 None x x
row_begun {by} {i} {x} st o =
    record {
      begun = st;
      goes = rw add-zero (goes_none by (i * by.sizes.right) x);
      row = o;
      within = omega arith;
      shares = record { before = record { row = λ a d. absurd (cc) }; shared = λ a d. absurd (cc) };
    }

module _ {by : Basis} {i j : ℕ} {twin : Option ℕ} {x₀ x : Lists} (inv : InRow by i j twin x₀ x) where
  pub row_stands : Stands by (i * by.sizes.right + j) x
  row_stands = goes_stands inv.begun inv.goes

  pub row_done : by.sizes.right ≤ j → Goes by (i * by.sizes.right) (suc i * by.sizes.right) x₀ x
  row_done h =
      let e : i * by.sizes.right + j ≡ suc i * by.sizes.right = omega (arith, suc-mul i by.sizes.right, inv.within) in
      rw e at inv.goes

  pub row_small : i < 64
  row_small = omega (arith, inv.row, left_few inv.begun)

  pub width_small : by.sizes.right ≤ 64
  width_small = right_few inv.begun

  module _ (h : j < by.sizes.right) where
    before-end : i * by.sizes.right + j < by.sizes.left * by.sizes.right
    before-end = place_below by.sizes.left by.sizes.right i j inv.row h

    -- the place is in the map, before and after the step
    pub inside : i * by.sizes.right + j < length x.map
    inside = rw (map_size row_stands (omega (arith, before-end))) before-end

    module _ {x' : Lists} (step : Goes by (i * by.sizes.right + j) (suc (i * by.sizes.right + j)) x x') where
      next_stands : Stands by (suc (i * by.sizes.right + j)) x'
      next_stands = goes_stands row_stands step

      pub inside_next : i * by.sizes.right + j < length x'.map
      inside_next = rw (map_size next_stands (omega (arith, before-end))) before-end

      -- the next column
      pub row_next : (twin' : Option ℕ) → twin' ≡ twin_of by.sizes.right x'.map i j twin → InRow by i (j + 1) twin' x₀ x'
      row_next twin' e =
          let d : suc (i * by.sizes.right + j) ≡ i * by.sizes.right + (j + 1) = omega arith in
          rw e (record {
            begun = inv.begun;
            goes = goes_more inv.goes (rw d at step);
            row = inv.row;
            within = omega arith;
            shares = twin_next (twin_still inv.shares x'.map still);
          })
        where
          passed : (a b : ℕ) → a ≤ i → b < j → a * by.sizes.right + b < i * by.sizes.right + j
          passed a b l v = omega (arith, mul-le-mul_right by.sizes.right l)

          still : (a b : ℕ) → a ≤ i → b < j → placed by.sizes.right x.map a b ≡ 0 → placed by.sizes.right x'.map a b ≡ 0
          still a b l v z =
              let r = inv.begun.round in
              let g = r.ground in
              let t = inv.goes.next _ _ r inv.begun.standing in
              let width = ap (λ m. a * m) g.right_size in
              let all = ap₂ ◌*◌ g.left_size g.right_size in
              ap₂ (λ m xs. placed m xs a b) g.right_size (step.next _ _ r t).shows.places
              ∙ zero_still g.comparable inv.begun.before a b (i * by.sizes.right + j) (suc (i * by.sizes.right + j))
              (omega (arith, before-end, all)) (omega (arith, before-end, all)) (omega (arith, inv.row, g.left_size)) (omega (arith, h, v, g.right_size))
              (omega (arith, passed a b l v, width)) (omega (arith, passed a b l v, width))
              (sym (ap₂ (λ m xs. placed m xs a b) g.right_size t.shows.places) ∙ z)

    -- a pair whose place holds 0
    pub undecided : (here : Case) → here.sizes ≡ by.sizes → here.left.0 ≡ i → here.right.0 ≡ j → get_or x.map (i * by.sizes.right + j) 0 ≡ 0
        → Undecided x.map here
    undecided here c d e z = record { left = rw (c, d) inv.row; right = rw (c, e) h; zero = rw (c, d, e) z }

    -- a pair whose place holds a number
    pub next_parted : get_or x.map (i * by.sizes.right + j) 0 ≢ 0 → Goes by (i * by.sizes.right + j) (suc (i * by.sizes.right + j)) x x
    next_parted = parted_goes by i j x inv.row h

    -- a pair that stays, as is known or by the twin
    pub next_stays : {b : Bool} → b ≡ (by.idle i j || (by.sizes.both && shares by.sizes.right x.map twin j)) → b ≡ true
        → Goes by (i * by.sizes.right + j) (suc (i * by.sizes.right + j)) x x
    next_stays {b} e t = ⊎_elim (idle_goes by i j x inv.row h) (λ f. let (w, z) = simp and_iff at f in followed w twin refl z) ((or_iff _ _).0 (sym e ∙ t))
      where
        followed : by.sizes.both ≡ true → (o : Option ℕ) → twin ≡ o → So (shares by.sizes.right x.map o j)
            → Goes by (i * by.sizes.right + j) (suc (i * by.sizes.right + j)) x x
        followed w None d z = never z
        followed w (Some a) d z =
            let (y, v, p, q) = inv.shares.shared a d in
            shared_goes by i j x inv.row h w a y (inv.shares.before.row a d) v p q (eqb-true _ 0 z)

-- ---- all rows

-- The round stands before row i.
pub record InMap (by : Basis) (i : ℕ) (x₀ x : Lists) : Type 0 where
  pub begun : Stands by 0 x₀
  pub goes : Goes by 0 (i * by.sizes.right) x₀ x
  pub within : i ≤ by.sizes.left

pub map_begun : {by : Basis} {x : Lists} → Stands by 0 x → InMap by 0 x x
map_begun {by} {x} st = record { begun = st; goes = rw zero-mul (goes_none by 0 x); within = omega arith }

module _ {by : Basis} {i : ℕ} {x₀ x : Lists} (inv : InMap by i x₀ x) where
  pub map_stands : Stands by (i * by.sizes.right) x
  map_stands = goes_stands inv.begun inv.goes

  pub map_next : {x' : Lists} → i < by.sizes.left → Goes by (i * by.sizes.right) (suc i * by.sizes.right) x x' → InMap by (i + 1) x₀ x'
  map_next h step = record { begun = inv.begun; goes = rw add-one (goes_more inv.goes step); within = omega arith }

  pub map_done : by.sizes.left ≤ i → Goes by 0 (by.sizes.left * by.sizes.right) x₀ x
  map_done h =
      let e : i ≡ by.sizes.left = omega (arith, inv.within) in
      rw e at inv.goes
