-- What each turn and each way out of the functions shows of the definitions of `specs/`. The numbers that the code computed are variables
-- here, with what is known of them, so that `search` finds them in a need's record.
use mathlib.Core.Bool.{Bool, true, false}
use mathlib.Core.List.{List, [], ◌∷◌, ◌++◌}
use mathlib.Core.Logic.{⊎_elim}
use mathlib.Core.Path.{◌≡◌, refl, sym, ap, ap₂, ◌∙◌}
use Prim.Native.Nat.{ℕ, zero, suc, ◌+◌, ◌*◌, ◌≤◌, ◌<◌}
use native.Mathlib.Nat.{eq-or-lt_of_le, mul-le-mul_left}
use native.Mathlib.Numerals.{add-one}
use native.Mathlib.Omega.{arith}
use lib.ListN.{length, get_or, set, take, drop, length-set, length-append}
use lib.Seq.{drop-cons, length-take-le, get_or-set_same, get_or-set_other, get_or-take}
use mir.Syntax.{w8}
use mir.Val.{Fits}
use Rattle.theory.specs.Bisimulation.{one_sided, two_sided}
use Rattle.sheet.specs.Entry.{Entry, negation, entry_with, way, kind_number, most_steps}
use Rattle.sheet.specs.Sheet.{step_width}
use Rattle.sheet.specs.WrittenLaws.{size_of}
use Rattle.sheet.specs.declared.kinds.Kind.{Kind}
use Rattle.sheet.specs.declared.kinds.Kind.TheVariants as kind
use Rattle.sheet_writer.specs.declared.Step.{Step as Given}
use Rattle.sheet_writer.specs.Writing.{step, steps_given, given, StepsFit, WaysFit, PutEntry, PutPlain}
use Rattle.search_links.specs.Hops.{view_of}
use Rattle.search_steps.specs.Paths.{path_of}
use Rattle.search.specs.Reasons.{path_in, Numbered}
use Rattle.search.specs.Laws.{reason_link, reason_same, reason_differ}
use Rattle.search_pairs.specs.declared.Route.{Route}
use Rattle.search.specs.declared.Reason.{Reason}
use Rattle.compare_laws.specs.Room.{reason_bytes, denied_bytes}
use Rattle.compare_laws.specs.Comparison.{State, Cause, ahead, back, with_denial, name_left, describe_right, write, part, steps_along, reason_entry}
use Rattle.compare_entries.specs.Growing.{Roomy, Extends, side_of, Conjoins, NameFits, Names}
use Rattle.compare_entries.specs.GrowingLaws.{onward-more, extends_one, extends_more, side_at, left_at, left_set, right_kept}
use Rattle.compare_entries.specs.declared.Pen.{Pen}
use Rattle.compare_entries.specs.Parting.{listed, cause_in, Passable, Spells, Puttable, Denies, PartFits, Lists, lists, Shows, Parted}

-- ---- the steps of a way, one turn at a time
-- the first i are made
pub record Filled (labels to numbers links : List ℕ) (gs : List Given) (i : ℕ) : Type 0 where
  pub long : length gs ≡ 4
  pub label : (j : ℕ) → j < i → (given gs j).label ≡ get_or labels (get_or links j 0) 0
  pub test : (j : ℕ) → j < i → (given gs j).test.0 ≡ get_or numbers (get_or to (get_or links j 0) 0) 0

module _ (labels to numbers : List ℕ) (base : ℕ) (path : Route) where
  pub filled_none : (gs : List Given) → length gs ≡ 4 → Filled labels to (side_of base numbers) path.links gs 0
  filled_none gs h = record { long = h; label = λ j l. absurd (omega arith); test = λ j l. absurd (omega arith) }

  module _ (gs : List Given) (i : ℕ) (inv : Filled labels to (side_of base numbers) path.links gs i) (pass : Numbered to 4 path) where
    pub filled_more : i < path.len → (a y : ℕ) → a ≡ get_or labels (get_or path.links i 0) 0 → y ≡ get_or to (get_or path.links i 0) 0 → (g : Given) → g.label ≡ a
        → g.test.0 ≡ get_or numbers (base + y) 0 → Filled labels to (side_of base numbers) path.links (set gs i g) (i + 1)
    filled_more h a y da dy g dg dt = record {
      long = length-set gs i g ∙ inv.long;
      label = λ j l. ⊎_elim (λ e. rw e (ap (λ (s : Given). s.label) here ∙ dg ∙ da)) (λ o. ap (λ (s : Given). s.label) (there j o) ∙ inv.label j o) (eq-or-lt_of_le (most j l));
      test = λ j l. ⊎_elim (λ e. rw e (ap (λ (s : Given). s.test.0) here ∙ dt ∙ rw dy (sym (side_at base numbers _ (pass.low i h)))))
          (λ o. ap (λ (s : Given). s.test.0) (there j o) ∙ inv.test j o)
          (eq-or-lt_of_le (most j l));
    }
      where
        here : given (set gs i g) i ≡ g
        here = get_or-set_same gs i g _ (omega (arith, inv.long, pass.short))

        there : (j : ℕ) → j < i → given (set gs i g) j ≡ given gs j
        there j o = get_or-set_other gs i j g _ (λ e. omega arith)

        most : (j : ℕ) → j < i + 1 → j ≤ i
        most j l = omega arith

    pub filled_all : path.len ≤ i → Spells labels to (side_of base numbers) path gs
    unfolding steps_given steps_along path_of
    filled_all k = record { steps = go path.len 0 (omega arith); label = λ j o. inv.label j (omega arith); long = inv.long }
      where
        long : path.len ≤ length path.links
        long = omega (arith, pass.short, pass.links)

        go : (q j : ℕ) → j + q ≤ path.len → steps_given (take q (drop j gs)) ≡ steps_along (side_of base numbers) (path_of (view_of [] labels to) (take q (drop j path.links)))
        go zero j l = refl
        go (suc q) j l =
            rw (drop-cons path.links j 0 (omega (arith, long)), drop-cons gs j (record { label = 0; test = record { 0 = 0 } }) (omega (arith, inv.long, pass.short)))
            (ap₂ ◌∷◌ (ap₂ step (inv.label j (omega arith)) (inv.test j (omega arith)))
            (go q (suc j) (omega arith)))

  -- what the reads of a turn ask
  module _ (pass : Numbered to 4 path) (i : ℕ) (h : i < path.len) where
    pub link-below : get_or path.links i 0 < 512
    link-below = pass.below i h

    module _ (low : base ≤ 64) (y : ℕ) (dy : y ≡ get_or to (get_or path.links i 0) 0) where
      node_below : y < 64
      node_below = rw dy (pass.low i h)

      pub number_below : base + y < 128
      number_below = omega (arith, node_below)

      pub number_fits : Fits w8 (base + y)
      number_fits = record { fits = omega (arith, node_below) }

-- ---- the entry of a reason
-- another kind than a way has another number
not_way : (k : Kind) → (k ≡ kind.Way → ⊥) → kind_number k ≡ 4 → ⊥
not_way kind.True n e = absurd (omega arith)
not_way kind.Not n e = absurd (omega arith)
not_way kind.And n e = absurd (omega arith)
not_way kind.Or n e = absurd (omega arith)
not_way kind.Way n e = n refl
not_way kind.Same n e = absurd (omega arith)
not_way kind.Differ n e = absurd (omega arith)

-- the steps of a way that its path has
module _ (v : ℕ) (labels to numbers : List ℕ) (path : Route) (pass : Passable v labels to path) (gs : List Given) (sp : Spells labels to numbers path gs) where
  -- the path is no longer than the steps
  pub steps_inside : path.len ≤ length gs
  steps_inside = omega (arith, pass.numbered.short, sp.long)

  steps_many : length (take path.len gs) ≡ path.len
  steps_many = length-take-le path.len gs steps_inside

  steps_short : length (take path.len gs) ≤ 4
  steps_short = omega (arith, steps_many, pass.numbered.short)

  -- there is room for them where there is for 4, and their labels have room in their bytes
  steps_fit : (room : List ℕ) (at : ℕ) → at + step_width v * 4 ≤ length room → StepsFit v room at (take path.len gs)
  steps_fit room at h = record {
    narrow = λ i l. rw (get_or-take path.len gs i _ (omega (arith, steps_many)), sp.label i (omega (arith, steps_many))) (pass.narrow i (omega (arith, steps_many)));
    inside = omega (arith, mul-le-mul_left (step_width v) steps_short);
  }

module _ (v : ℕ) (labels to numbers room : List ℕ) (at : ℕ) (why : Reason) (put : Puttable v labels to why) (fits : at + reason_bytes v ≤ length room) (gs : List Given)
    (sp : Spells labels to numbers why.first gs) where
  pub first-numbered : Numbered to 4 why.first
  first-numbered = put.first.numbered

  pub way_short : length (take why.first.len gs) ≤ most_steps v
  way_short = omega (arith, steps_short v labels to numbers why.first put.first gs sp)

  pub way_fits : StepsFit v room (at + 3) (take why.first.len gs)
  way_fits = steps_fit v labels to numbers why.first put.first gs sp room (at + 3) (omega arith)

  pub put_link : why.kind ≡ kind.Way → (room' : List ℕ) (end : ℕ) → PutEntry v room at (way (steps_given (take why.first.len gs))) room' end
      → PutEntry v room at (reason_entry numbers (listed labels to why)) room' end
  unfolding reason_entry path_of
  put_link e room' end w =
      rw (reason_link (view_of [] labels to) why four) (rw (sp.steps, put.one four, one why.first.links put.first.numbered.links) at w)
    where
      four : kind_number why.kind ≡ 4
      four = ap kind_number e

      one : (links : List ℕ) → length links ≡ 4 → take 1 links ≡ get_or links 0 0 ∷ []
      one [] h = absurd (omega arith)
      one (k ∷ ks) h = refl

  module _ (f : why.kind ≡ kind.Way → ⊥) where
    pub pair_kind : 5 ≤ kind_number why.kind
    pair_kind = let g : kind_number why.kind ≡ 4 → ⊥ = not_way why.kind f in omega (arith, put.known.0)

    pair_passable : Passable v labels to why.second
    pair_passable = put.two pair_kind

    pub second_numbered : Numbered to 4 why.second
    second_numbered = pair_passable.numbered

    module _ (gs' : List Given) (sp' : Spells labels to numbers why.second gs') where
      pub ways_fit : WaysFit v room (at + 4) (take why.first.len gs) (take why.second.len gs')
      ways_fit =
          let s = steps_short v labels to numbers why.first put.first gs sp in
          record {
            short = s;
            short' = steps_short v labels to numbers why.second pair_passable gs' sp';
            first = steps_fit v labels to numbers why.first put.first gs sp room (at + 4) (omega arith);
            second = steps_fit v labels to numbers why.second pair_passable gs' sp' room _ (omega (arith, mul-le-mul_left (step_width v) s));
          }

      pub put_pair : (room' : List ℕ) (end : ℕ)
          → PutEntry v room at (entry_with (kind_number why.kind) 0 0 (steps_given (take why.first.len gs)) (steps_given (take why.second.len gs'))) room' end
          → PutEntry v room at (reason_entry numbers (listed labels to why)) room' end
      unfolding reason_entry entry_with
      put_pair room' end w =
          let w' = rw (sp.steps, sp'.steps) at w in
          ⊎_elim
          (λ e. rw (reason_differ (view_of [] labels to) why e) (rw e at w'))
          (λ l. let e : kind_number why.kind ≡ 5 = omega (arith, pair_kind) in rw (reason_same (view_of [] labels to) why e) (rw e at w'))
          (eq-or-lt_of_le put.known.1)

-- ---- the entry and its denial
-- the entry takes at most so many bytes
length_along : (numbers : List ℕ) (labels to w : List ℕ) → length (steps_along numbers (path_of (view_of [] labels to) w)) ≡ length w
unfolding steps_along path_of
length_along numbers labels to [] = refl
length_along numbers labels to (k ∷ w) = ap suc (length_along numbers labels to w)

module _ (v : ℕ) (labels to numbers : List ℕ) (why : Reason) (put : Puttable v labels to why) where
  length_path : (path : Route) → Passable v labels to path → length (steps_along numbers (path_in (view_of [] labels to) path)) ≤ 4
  length_path path s =
      omega (
        arith,
        length_along numbers labels to (take path.len path.links),
        s.numbered.short,
        length-take-le path.len path.links (omega (arith, s.numbered.short, s.numbered.links)),
      )

  eight : {a b : ℕ} → a ≤ 4 → b ≤ 4 → step_width v * (a + b) ≤ step_width v * 8
  eight {a} {b} h k = let f : a + b ≤ 8 = omega arith in mul-le-mul_left (step_width v) f

  reason_size : size_of v (reason_entry numbers (listed labels to why)) ≤ reason_bytes v
  unfolding reason_entry size_of steps_along
  reason_size =
      ⊎_elim
      (λ e. rw (reason_link (view_of [] labels to) why (sym e)) (omega arith))
      (λ l.
      let p = length_path why.first put.first in
      let q = length_path why.second (put.two l) in
      ⊎_elim
      (λ e. rw (reason_differ (view_of [] labels to) why e) (omega (arith, eight p q)))
      (λ k. let e : kind_number why.kind ≡ 5 = omega arith in rw (reason_same (view_of [] labels to) why e) (omega (arith, eight p q)))
      (eq-or-lt_of_le put.known.1))
      (eq-or-lt_of_le put.known.0)

  module _ (room room₁ : List ℕ) (pen : Pen) (d : v ≡ pen.version) (roomy : Roomy room pen (denied_bytes pen.version) 2) (mid : ℕ)
      (w : PutEntry v room pen.at (reason_entry numbers (listed labels to why)) room₁ mid) where
    first : Extends room room₁ pen (record { at = mid; next = pen.next + 1; version = pen.version }) (reason_bytes pen.version) 1 (λ es. es ++ (reason_entry numbers (listed labels to why) ∷ []))
    first =
        extends_one room room₁ pen (reason_bytes pen.version) mid _ (record { inside = omega (arith, roomy.inside); few = omega (arith, roomy.few) }) (rw (← d) reason_size) (rw (← d) w)

    pub denial_fits : mid + 4 ≤ length room₁
    denial_fits = omega (arith, roomy.inside, first.onward.size, first.bytes_most)

    pub denied : (room₂ : List ℕ) (end : ℕ) → PutPlain room₁ mid (negation pen.next) room₂ end
        → Denies room room₂ pen (record { at = end; next = pen.next + 2; version = pen.version }) (reason_entry numbers (listed labels to why))
    unfolding with_denial size_of
    denied room₂ end w₂ =
        let e = reason_entry numbers (listed labels to why) in
        let second = extends_one room₁ room₂ (record { at = mid; next = pen.next + 1; version = pen.version }) 4 end (negation pen.next)
        (record { inside = denial_fits; few = omega (arith, roomy.few) }) (omega arith) (w₂.any pen.version) in
        let t = extends_more first second in
        record {
          written = record {
            grown = λ es p. record {
              held = rw (← p.number) (t.grown es p).held;
              number = omega (arith, p.number, length-append (es ++ (e ∷ [])) (negation (length es) ∷ []), length-append es (e ∷ []));
            };
            onward = t.onward;
            bytes_most = omega (arith, t.bytes_most);
            entries_most = omega arith;
            version = refl;
          };
        }

-- ---- the pair
module _ (room : List ℕ) (pen : Pen) (map : List ℕ) (place : ℕ) (labels to old new : List ℕ) (a b : ℕ) (why : Reason)
    (fits : PartFits room pen map place labels to new a b why) where
  pub denied_roomy : Roomy room pen (denied_bytes pen.version) 2
  denied_roomy = record { inside = omega (arith, fits.roomy.inside); few = omega (arith, fits.roomy.few) }

  module _ (room₁ : List ℕ) (pen₁ : Pen) where
    pub name_fits : (e : Entry) → Denies room room₁ pen pen₁ e → NameFits room₁ pen₁ map place new a b
    name_fits e y =
        let x = y.written in
        record {
          roomy = record {
            inside = omega (arith, fits.roomy.inside, x.onward.size, x.bytes_most);
            few = omega (arith, fits.roomy.few, x.entries_most);
          };
          inside = fits.inside;
          left_cell = fits.left_cell;
          right_cell = fits.right_cell;
          wide = fits.wide;
        }

    module _ (room₂ : List ℕ) (pen₂ : Pen) (map' new' : List ℕ) where
      abbrev before : Lists
      before = lists room pen map old new

      abbrev next : Lists
      next = lists room₂ pen₂ map' old new'

      parted_named : (e : Entry) (i j : ℕ) (cause : Cause)
          → ((m : ℕ) (now : State) → Shows before now → part two_sided m a b cause now ≡ write two_sided m a b e i j now) → Denies room room₁ pen pen₁ e
          → Names room₁ room₂ pen₁ pen₂ map map' place new new' a b i j → Parted two_sided before next place a b cause
      unfolding write name_left describe_right
      parted_named e i j cause is y n =
          record {
            next = λ m now d s.
                let p = y.written.grown now.entries s.entries in
                rw (is m now s)
                (record {
                  entries = rw (← s.new_left, ← s.new_right) (n.written.grown (with_denial now.entries e) p);
                  places = rw (← s.places, ← d) n.marked;
                  old_left = s.old_left;
                  old_right = s.old_right;
                  new_left = rw (← s.new_left) (n.left (with_denial now.entries e) p);
                  new_right = rw (← s.new_left, ← s.new_right) (n.right (with_denial now.entries e) p);
                });
            onward = onward-more y.written.onward n.written.onward;
            version = n.written.version ∙ y.written.version;
            wide = n.wide;
          }

      pub parted_ahead : (forth : Bool) → forth ≡ true → Denies room room₁ pen pen₁ (reason_entry (side_of 0 old) (listed labels to why))
          → Names room₁ room₂ pen₁ pen₂ map map' place new new' a b pen.next (pen.next + 1) → Parted two_sided before next place a b (cause_in labels to forth why)
      unfolding part
      parted_ahead forth h =
          rw h (parted_named _ pen.next (pen.next + 1) (ahead (listed labels to why)) (λ m now s. rw (s.old_left, s.entries.number, add-one) refl))

      pub parted_back : (forth : Bool) → forth ≡ false → Denies room room₁ pen pen₁ (reason_entry (side_of 64 old) (listed labels to why))
          → Names room₁ room₂ pen₁ pen₂ map map' place new new' a b (pen.next + 1) pen.next → Parted two_sided before next place a b (cause_in labels to forth why)
      unfolding part
      parted_back forth h =
          rw h (parted_named _ (pen.next + 1) pen.next (back (listed labels to why)) (λ m now s. rw (s.old_right, s.entries.number, add-one) refl))

-- ---- the pair, where the left side alone counts
module _ (room : List ℕ) (pen : Pen) (map : List ℕ) (place : ℕ) (labels to old new : List ℕ) (a b : ℕ) (why : Reason)
    (fits : PartFits room pen map place labels to new a b why) where
  pub left_fits : pen.at + reason_bytes pen.version ≤ length room
  left_fits = omega (arith, fits.roomy.inside)

  abbrev said : Entry
  said = reason_entry (side_of 0 old) (listed labels to why)

  module _ (room₁ : List ℕ) (end : ℕ) (w : PutEntry pen.version room pen.at said room₁ end) where
    abbrev pen₁ : Pen
    pen₁ = record { at = end; next = pen.next + 1; version = pen.version }

    only : Extends room room₁ pen pen₁ (reason_bytes pen.version) 1 (λ es. es ++ (said ∷ []))
    only =
        extends_one room room₁ pen (reason_bytes pen.version) end said (record { inside = left_fits; few = omega (arith, fits.roomy.few) })
        (reason_size pen.version labels to (side_of 0 old) why fits.puttable) w

    pub left_roomy : Roomy room₁ pen₁ 6 1
    left_roomy =
        record { inside = omega (arith, fits.roomy.inside, only.onward.size, only.bytes_most); few = omega (arith, fits.roomy.few) }

    pub parted_left : (room₂ : List ℕ) (pen₂ : Pen) (new' : List ℕ) → Conjoins room₁ room₂ pen₁ pen₂ new new' a pen.next
        → Parted one_sided (lists room pen map old new) (lists room₂ pen₂ (set map place pen.next) old new') place a b (ahead (listed labels to why))
    unfolding write part name_left
    parted_left room₂ pen₂ new' k =
        record {
          next = λ m now d s.
              let n = s.entries.number in
              let p = only.grown now.entries s.entries in
              let l = left_at new a fits.left_cell in
              rw (← s.old_left, ← n)
              (record {
                entries = rw (← s.new_left, l) (k.written.grown (now.entries ++ (said ∷ [])) p);
                places = rw (← s.places, ← d) refl;
                old_left = refl;
                old_right = s.old_right;
                new_left = rw (← s.new_left, l) (ap (side_of 0) (k.named _ p) ∙ left_set new a fits.left_cell _);
                new_right = ap (side_of 64) (k.named _ p) ∙ right_kept new a _ fits.left_cell ∙ s.new_right;
              });
          onward = onward-more only.onward k.written.onward;
          version = k.written.version;
          wide = k.wide;
        }
