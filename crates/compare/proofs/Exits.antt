-- What each way out of Compare shows of the definitions of `specs/`, in the form in which `search` finds it.
use mathlib.Core.Bool.{Bool, true, false}
use mathlib.Core.List.{List, ◌++◌}
use mathlib.Core.Path.{◌≡◌, refl, sym, ap, ap₂, ◌∙◌}
use Prim.Native.Nat.{ℕ, ◌+◌, ◌*◌, ◌^◌, ◌≤◌, ◌<◌}
use native.Mathlib.Omega.{arith}
use mir.Syntax.{w8}
use mir.Val.{Fits}
use borrow.Author.Tests.{lt-ltb, le-ltb, eq-eqb, ne_eqb}
use lib.ListN.{length, get_or, drop, replicate, take-append-drop}
use lib.Seq.{sets}
use Rattle.theory.specs.Bisimulation.{sides_of}
use Rattle.std.specs.Prelude.{Result, Ok, Err}
use Rattle.outcome.specs.Outcome.{code}
use Rattle.outcome.specs.Refused.{named, of_part}
use Rattle.outcome.specs.declared.Refusal.TheVariants as says
use Rattle.outcome.specs.declared.Part.TheVariants as part
use Rattle.outcome.specs.declared.Refused.{Refused}
use Rattle.book.specs.declared.Hidden.{Hidden}
use Rattle.book.specs.Book.{cells_of, book_refusal}
use Rattle.book.specs.BookGraph.{hides_beyond}
use Rattle.sheet.specs.Entry.{Entry}
use Rattle.sheet.specs.Sheet.{most_bound, step_width}
use Rattle.sheet.specs.Encoding.{header, sheet_bytes}
use Rattle.sheet.specs.WrittenLaws.{Writable, written-length}
use Rattle.sheet_writer.specs.Writing.{Holding}
use Rattle.sheet_writer.specs.WritingLaws.{holding_sheet, sheet_kept-after}
use Rattle.compare_laws.specs.Places.{zeros}
use Rattle.compare_laws.proofs.PlaceLaws.{zeros-nonzeros}
use Rattle.compare_laws.specs.Room.{pair_bytes, room_needed}
use Rattle.compare_laws.specs.Refining.{Compared}
use Rattle.compare_laws.proofs.Theorems.{compared_writable, compared_room}
use Rattle.compare_entries.specs.declared.Pen.{Pen}
use Rattle.compare_lists.specs.BookSetting.{sheet_version, setting_of}
use Rattle.compare_lists.specs.Comparing.{Lent, Fills}
use Rattle.compare.specs.declared.Compared.{Compared as Done}
use Rattle.compare.specs.Compare.{pairs_of, scratch_needed, serves, lent_answer, compare_answer, compare_outcome, compared_map, compared_sheet, Lists, left_by, right_answer, lent, IsCompare, IsCompareCode}
use Rattle.compare.specs.Promises.{Given, map_places, sheet_fits}
use Rattle.compare.specs.Laws.{books_accepted, accepts_compared, compared_accepts, room_most, pairs_most}

-- three lists are these
lists_ext : {map map' room room' scratch scratch' : List ℕ} → map ≡ map' → room ≡ room' → scratch ≡ scratch' → lent map room scratch ≡ lent map' room' scratch'
lists_ext p q r = λ i. record { map = p i; room = q i; scratch = r i }

-- ---- the sheet, once its header is written

module _ {both : Bool} {l r : List ℕ} {c : ℕ} {hidden : Hidden} {map : List ℕ} {room : List ℕ} (left_good : book_refusal l ≡ 0) (right_good : book_refusal r ≡ 0) (given : Lent l r c hidden map room) {map' filled : List ℕ} {pen : Pen}
    (t : Fills both l r c hidden room filled pen map') where
  entries : List Entry
  entries = t.finished.entries

  held : Holding (sheet_version l r) filled entries pen.at
  unfolding entries
  held = rw t.finished.version at t.finished.penned.held

  compared : Compared (setting_of (sides_of both) l r c hidden) entries map'
  unfolding entries
  compared = t.finished.compared

  writable : Writable (sheet_version l r) c entries
  writable = compared_writable t.comparable compared

  sheet_length : length (sheet_bytes (sheet_version l r) c entries) ≡ pen.at
  sheet_length = written-length writable ∙ sym held.place

  -- the sheet's length and the count of zeros fit their numbers
  pub sheet_narrow : pen.at < 2 ^ 32
  sheet_narrow =
      let h = compared_room t.comparable compared in
      omega (arith, sheet_length, room_most (sheet_version l r) _ 4096 (pairs_most l r left_good right_good))

  pub count-narrow : (count : ℕ) → count ≡ zeros map' → count < 2 ^ 32
  count-narrow count e = omega (arith, zeros-nonzeros map', compared.size, pairs_most l r left_good right_good)

  -- what is defined is what is there
  sheet_is : sheet_bytes (sheet_version l r) c entries ≡ compared_sheet (sides_of both) l r c hidden
  sheet_is = ap (sheet_bytes (sheet_version l r) c) compared.entries

  module _ {room' : List ℕ} (w : room' ≡ sets filled 0 (header pen.version pen.at c pen.next)) where
    headed : room' ≡ sets filled 0 (header (sheet_version l r) pen.at c (length entries))
    unfolding entries
    headed = w ∙ ap₂ (λ v n. sets filled 0 (header v pen.at c n)) t.finished.version t.finished.penned.number

    -- the room starts with the sheet, and what follows it is as it was
    room_is : room' ≡ compared_sheet (sides_of both) l r c hidden ++ drop (length (compared_sheet (sides_of both) l r c hidden)) room
    room_is =
        sym (take-append-drop pen.at room')
        ∙ ap₂ ◌++◌ (holding_sheet held c headed) (sheet_kept-after held c headed pen.at (omega (arith, held.place)) ∙ t.behind.kept pen.at (omega arith))
        ∙ ap (λ n. sheet_bytes (sheet_version l r) c entries ++ drop n room) (sym sheet_length) ∙ ap (λ s. s ++ drop (length s) room) sheet_is

    -- Compare has served the caller
    pub all_served : {scratch scratch' : List ℕ} {count : ℕ} → scratch_needed (pairs_of l r) ≤ length scratch → scratch' ≡ replicate (length scratch) 0 → count ≡ zeros map'
        → IsCompare (sides_of both) l r c hidden (lent map room scratch) (serves pen.at count) (lent map' room' scratch')
    unfolding left_by
    all_served h z n =
        let told = accepts_compared l r c hidden (length map) (length room) _ (length (compared_sheet (sides_of both) l r c hidden)) (zeros (compared_map (sides_of both) l r c hidden)) (record {
          bound = given.bound;
          left = left_good;
          right = right_good;
          left_word = given.left_word;
          right_word = given.right_word;
          map = given.places;
          roomy = given.roomy;
          spare = h;
        }) in
        record {
          answer = ap₂ serves (sym sheet_length ∙ ap length sheet_is) (n ∙ ap zeros compared.places) ∙ sym told;
          lists = rw told (lists_ext compared.places room_is z);
        }

-- ---- what is lent

module _ (l r : List ℕ) (n m : ℕ) (d : n ≡ cells_of l) (e : m ≡ cells_of r) where
  pub scratch_lent : (size : ℕ) → scratch_needed (n * m) ≤ size → scratch_needed (pairs_of l r) ≤ size
  scratch_lent size h = rw (d, e) at h

  module _ (left : book_refusal l ≡ 0) (right : book_refusal r ≡ 0) where
    pub pairs_few : n * m ≤ 4096
    pairs_few = rw (d, e) (pairs_most l r left right)

    pub pairs_fit : n * m < 2 ^ 64
    pairs_fit = omega (arith, pairs_few)

    pub all_lent : (c : ℕ) (hidden : Hidden) → hides_beyond hidden.left l ≡ false → hides_beyond hidden.right r ≡ false → (map room : List ℕ) (v needed : ℕ) → v ≡ sheet_version l r → needed ≡ room_needed v (n * m) → c ≤ most_bound → length map ≡ n * m → needed ≤ length room
        → Lent l r c hidden map room
    all_lent c hidden lw rw' map room v needed dv k low places roomy =
        record { left_word = lw; right_word = rw'; bound = low; places = rw (d, e) at places; roomy = rw (k, dv, d, e) at roomy }

-- the room that is asked for
module _ (v size pairs : ℕ) (d : size ≡ step_width v * 8) (h : pairs ≤ 4096) where
  pub room_is_needed : 10 + (20 + size) * pairs ≡ room_needed v pairs
  room_is_needed = ap (λ b. 10 + b * pairs) (let e : 20 + size ≡ pair_bytes v = omega arith in e)

  pub room_small : 10 + (20 + size) * pairs ≤ 10 + 52 * 4096
  room_small = rw room_is_needed (room_most v pairs 4096 h)

-- ---- what is declined

module _ (both : Bool) (l r : List ℕ) (c : ℕ) (hidden : Hidden) (b : Lists) where
  declined : (a : Result Done Refused) → right_answer (sides_of both) l r c hidden b ≡ a → b ≡ left_by (sides_of both) l r c hidden b a → IsCompare (sides_of both) l r c hidden b a b
  declined a e k = record { answer = sym e; lists = rw e k }

  pub bound_above : most_bound < c → IsCompare (sides_of both) l r c hidden b (Err (of_part part.Call says.BoundAbove)) b
  unfolding compare_answer left_by
  bound_above h = declined (Err (of_part part.Call says.BoundAbove)) (simp (lt-ltb most_bound c h)) refl

  module _ (low : c ≤ most_bound) where
    pub left_refused : (f : Refused) → f ≡ of_part part.LeftBook (named (book_refusal l)) → (book_refusal l ≡ 0 → ⊥) → IsCompare (sides_of both) l r c hidden b (Err f) b
    unfolding compare_answer left_by
    left_refused f d z = rw d (declined _ (simp (le-ltb most_bound c low, ne_eqb (book_refusal l) 0 z)) refl)

    -- none of the left book
    module _ (left : book_refusal l ≡ 0) where
      pub right_refused : (f : Refused) → f ≡ of_part part.RightBook (named (book_refusal r)) → (book_refusal r ≡ 0 → ⊥) → IsCompare (sides_of both) l r c hidden b (Err f) b
      unfolding compare_answer left_by
      right_refused f d z = rw d (declined _ (simp (le-ltb most_bound c low, eq-eqb (book_refusal l) 0 left, ne_eqb (book_refusal r) 0 z)) refl)

      -- none of either book, and a word that hides what is no cell
      module _ (right : book_refusal r ≡ 0) (w : Bool) (d : w ≡ hides_beyond hidden.left l) where
        pub left-hidden : w ≡ true → IsCompare (sides_of both) l r c hidden b (Err (of_part part.LeftBook says.HiddenBeyond)) b
        unfolding compare_answer left_by
        left-hidden e = declined _ (simp (le-ltb most_bound c low, eq-eqb (book_refusal l) 0 left, eq-eqb (book_refusal r) 0 right, sym d ∙ e)) refl

        pub right-hidden : w ≡ false → (v : Bool) → v ≡ hides_beyond hidden.right r → v ≡ true
            → IsCompare (sides_of both) l r c hidden b (Err (of_part part.RightBook says.HiddenBeyond)) b
        unfolding compare_answer left_by
        right-hidden z v f e =
            declined _ (simp (le-ltb most_bound c low, eq-eqb (book_refusal l) 0 left, eq-eqb (book_refusal r) 0 right, sym d ∙ z, sym f ∙ e)) refl

    module _ (left : book_refusal l ≡ 0) (right : book_refusal r ≡ 0) (lw : hides_beyond hidden.left l ≡ false) (rw' : hides_beyond hidden.right r ≡ false)
        (n m : ℕ) (d : n ≡ cells_of l) (e : m ≡ cells_of r) where
      -- what is lent is judged by the number of pairs
      lent_declined : (a : Result Done Refused) → lent_answer (sheet_version l r) (n * m) (length b.map) (length b.room) (length b.scratch) (length (compared_sheet (sides_of both) l r c hidden)) (zeros (compared_map (sides_of both) l r c hidden)) ≡ a
          → b ≡ left_by (sides_of both) l r c hidden b a → IsCompare (sides_of both) l r c hidden b a b
      lent_declined a k = declined a (books_accepted l r c hidden _ _ _ _ _ low left right lw rw' ∙ rw (d, e) at k)

      pub map-length : (length b.map ≡ n * m → ⊥) → IsCompare (sides_of both) l r c hidden b (Err (of_part part.Call says.MapLength)) b
      unfolding lent_answer left_by
      map-length f = lent_declined _ (simp (ne_eqb (length b.map) (n * m) f)) refl

      module _ (places : length b.map ≡ n * m) (v needed : ℕ) (dv : v ≡ sheet_version l r) (k : needed ≡ room_needed v (n * m)) where
        pub few_room : length b.room < needed → IsCompare (sides_of both) l r c hidden b (Err (of_part part.Call says.FewRoom)) b
        unfolding lent_answer left_by
        few_room h = lent_declined _ (simp (eq-eqb (length b.map) (n * m) places, lt-ltb (length b.room) (room_needed (sheet_version l r) (n * m)) (rw (k, dv) at h))) refl

        module _ (roomy : needed ≤ length b.room) where
          pub few_scratch : length b.scratch < scratch_needed (n * m) → IsCompare (sides_of both) l r c hidden b (Err (of_part part.Call says.FewScratch)) b
          unfolding lent_answer left_by
          few_scratch h =
              lent_declined _
              (simp (eq-eqb (length b.map) (n * m) places, le-ltb (length b.room) (room_needed (sheet_version l r) (n * m)) (rw (k, dv) at roomy), lt-ltb (length b.scratch) (scratch_needed (n * m)) h)) refl

-- ---- as one number

module _ (both : Bool) (l r : List ℕ) (c : ℕ) (hidden : Hidden) (before now : Lists) where
  -- the values of an answer have room in their bits
  module _ (done : Done) (t : IsCompare (sides_of both) l r c hidden before (Ok done) now) (bl : (i : ℕ) → Fits w8 (get_or l i 0)) (br : (i : ℕ) → Fits w8 (get_or r i 0)) where
    pub values : (done.sheet < 2 ^ 24) × (done.matched < 2 ^ 24)
    values =
        let (g, d, n) = compared_accepts l r c hidden _ _ _ _ _ done.sheet done.matched t.answer in
        let books : Given l r c =
        record { bytes = (record { each = λ i. (bl i).fits }, record { each = λ i. (br i).fits }); left = g.left; right = g.right; bound = g.bound } in
        let most = pairs_most l r g.left g.right in
        (omega (arith, d, sheet_fits (sides_of both) hidden books, room_most (sheet_version l r) _ 4096 most), omega (arith, n, zeros-nonzeros (compared_map (sides_of both) l r c hidden), map_places (sides_of both) hidden books))

  pub compare_coded : (a : Result Done Refused) → IsCompare (sides_of both) l r c hidden before a now → (v : ℕ) → v ≡ code (compare_outcome a)
      → IsCompareCode (sides_of both) l r c hidden before v now
  compare_coded a t v e = record { answer = e ∙ ap (λ a. code (compare_outcome a)) t.answer; lists = t.lists }
