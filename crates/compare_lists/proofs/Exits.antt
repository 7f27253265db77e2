-- What each function of the crate shows of the definitions of `specs/`, in the form in which `search` finds it.
use mathlib.Core.Bool.{Bool}
use mathlib.Core.List.{List}
use mathlib.Core.Path.{◌≡◌, refl, sym, ap, ap₂, ◌∙◌}
use Prim.Native.Nat.{ℕ, ◌+◌, ◌*◌, ◌≤◌}
use native.Mathlib.Nat.{mul-le-mul_right}
use native.Mathlib.Omega.{arith}
use borrow.Author.Tests.{eq-eqb, ne_eqb}
use mir.Syntax.{w8}
use mir.Val.{Fits}
use lib.ListN.{length, get_or, replicate}
use lib.Seq.{length-sets}
use Rattle.fields.specs.Fields.{Bytes}
use Rattle.theory.specs.Search.{list}
use Rattle.theory.specs.Bisimulation.{sides_of}
use Rattle.theory.proofs.TestLaws.{never}
use Rattle.book.specs.declared.Hidden.{Hidden}
use Rattle.book.specs.Book.{version_of, cells_of, book_refusal}
use Rattle.book.specs.BookGraph.{showing}
use Rattle.book.specs.AcceptedLaws.{book_sizes}
use Rattle.edges.specs.Edges.{empty_rows}
use Rattle.edges.specs.BookEdges.{Loaded, BothRows}
use Rattle.edges.specs.Laws.{empty_at}
use Rattle.search_links.specs.Hops.{view_of, Starts, Ordered}
use Rattle.search_links.specs.declared.side.Side.{Side}
use Rattle.search_links.specs.BookHopLaws.{seen_ordered}
use Rattle.search_links.specs.Sets.{Paired}
use Rattle.sheet.specs.Entry.{truth}
use Rattle.sheet.specs.Encoding.{encode_entry}
use Rattle.sheet.specs.WrittenLaws.{size_of}
use Rattle.sheet_writer.specs.Writing.{PutPlain}
use Rattle.sheet_writer.specs.WritingLaws.{holding_none, holding_next, kept-after}
use Rattle.search.specs.BookReasons.{Read}
use Rattle.search.specs.BookReasonLaws.{read_charted}
use Rattle.compare_laws.specs.Places.{start_at, start_map}
use Rattle.compare_laws.specs.Comparison.{begin, upto, states}
use Rattle.compare_entries.specs.declared.Pen.{Pen}
use Rattle.compare_pair.specs.Settling.{chart_of, Ground, Standing}
use Rattle.compare_rounds.specs.Turns.{at_rest, no_pair, Opens, Refines}
use Rattle.compare_lists.specs.BookSetting.{sheet_version, setting_of}
use Rattle.compare_lists.specs.Laws.{books_comparable}
use Rattle.compare_lists.specs.Comparing.{IsRead, Lent, Started, Fills}

-- ---- a book, not read and read

-- where no links begin there are none
pub unlinked : (ls ts : List ℕ) → Ordered (view_of (replicate 65 0) ls ts)
unfolding empty_rows
unlinked ls ts =
    record {
      opened = record { few = omega (arith, none 64); within = λ x l. omega (arith, none x); low = λ k l. absurd (omega (arith, none 64)) };
      rising = λ x j k l m n o. absurd (omega (arith, none (x + 1)));
    }
  where
    none : (x : ℕ) → get_or {A = ℕ} (replicate 65 0) x 0 ≡ 0
    none x = empty_at 65 x

module _ (h : ℕ) (s fs ls ts starts : List ℕ) (count : ℕ) (r : book_refusal s ≡ 0) (d : Loaded h s count fs ls ts) (t : Starts count fs starts) where
  pub read_ordered : Ordered (view_of starts ls ts)
  read_ordered = seen_ordered h s count fs ls ts starts r d t

  pub read_whole : (alike unlike ends : List ℕ) → BothRows h s alike unlike → Paired alike unlike ends → Read h s count fs ls ts starts ends
  read_whole alike unlike ends b p = record { accepted = r; loaded = d; table = t; rows = rw (b.first, b.second) at p }

-- ---- the first entry

module _ {map map' room room' : List ℕ} {at v m : ℕ} {hidden : Hidden} where
  pub started : 10 ≤ length room → map' ≡ list (length map) (start_at m (showing hidden.left) (showing hidden.right)) → PutPlain room 8 truth room' at
      → Started v m hidden map map' room room' (record { at = at; next = 1; version = v })
  unfolding size_of
  started h b w =
      record {
        blank = b;
        penned = record { held = holding_next (holding_none v room (omega arith)) truth (w.any v) (omega arith); number = refl };
        version = refl;
        behind = record {
          size = ap length (w.any v).left ∙ length-sets room 8 (encode_entry v truth);
          kept = kept-after (holding_none v room (omega arith)) truth (w.any v) (omega arith);
        };
      }

-- ---- the version of the sheet

pub bytes_are : (s : List ℕ) → ((i : ℕ) → Fits w8 (get_or s i 0)) → Bytes s
bytes_are s f = record { each = λ i. (f i).fits }

module _ (left right : List ℕ) (v : ℕ) (d : v ≡ version_of left) where
  pub left_wide : v ≡ 2 → 2 ≡ sheet_version left right
  unfolding sheet_version
  left_wide e = rw (eq-eqb (version_of left) 2 (sym d ∙ e))

  module _ (f : v ≡ 2 → ⊥) (w : ℕ) (dw : w ≡ version_of right) where
    pub right_wide : w ≡ 2 → 2 ≡ sheet_version left right
    unfolding sheet_version
    right_wide e = rw (ne_eqb (version_of left) 2 (λ q. f (d ∙ q)), eq-eqb (version_of right) 2 (sym dw ∙ e))

    pub both_narrow : (w ≡ 2 → ⊥) → 1 ≡ sheet_version left right
    unfolding sheet_version
    both_narrow g = rw (ne_eqb (version_of left) 2 (λ q. f (d ∙ q)), ne_eqb (version_of right) 2 (λ q. g (dw ∙ q)))

-- ---- the comparison

pub long : (s : List ℕ) → book_refusal s ≡ 0 → 8 ≤ length s
long s e = (book_sizes s e).long

module _ {left right : List ℕ} {c : ℕ} {hidden : Hidden} {map room : List ℕ} (left_good : book_refusal left ≡ 0) (right_good : book_refusal right ≡ 0)
    (given : Lent left right c hidden map room) where
  -- what the map's start asks for
  pub map-asked : (m : ℕ) → m ≡ cells_of right → (10 ≤ length room) × (1 ≤ m) × (m ≤ 64) × (length map ≤ 64 * m)
  map-asked m d =
      let l = book_sizes left left_good in
      let r = book_sizes right right_good in
      (omega (arith, given.roomy), omega (arith, r.some), omega (arith, r.few), rw d (omega (arith, given.places, mul-le-mul_right (cells_of right) l.few)))

  module _ (both : Bool) where
    -- the lists are those of the books' setting
    ground : {a b : Side} {n m : ℕ} → Bytes left × Bytes right
        → IsRead hidden.left left a → IsRead hidden.right right b → n ≡ cells_of left → m ≡ cells_of right
        → Ground (setting_of (sides_of both) left right c hidden) (chart_of a) (chart_of b) (record { left = n; right = m; bound = c; both = both })
    ground f x y dn dm =
        record {
          comparable = books_comparable (sides_of both) left right c hidden f.0 f.1 left_good right_good
              given.bound;
          left = read_charted hidden.left left x.count x.from _ _ _ _ x.read;
          right = read_charted hidden.right right y.count y.from _ _ _ _ y.read;
          left_size = dn;
          right_size = dm;
          bound = refl;
          sides = refl;
        }

    module _ {map' room' : List ℕ} {pen : Pen} {v m : ℕ} (d : v ≡ sheet_version left right) (dm : m ≡ cells_of right) (first : Started v m hidden map map' room room' pen) where
      standing : Standing (setting_of (sides_of both) left right c hidden) 0 0 (at_rest room' pen map' (replicate 128 0))
      unfolding upto states begin start_map
      standing =
          record {
            shows = record {
              entries = first.penned;
              places = first.blank ∙ ap₂ (λ n m. list n (start_at m (showing hidden.left) (showing hidden.right))) given.places dm;
              old_left = refl;
              old_right = refl;
              new_left = refl;
              new_right = refl;
            };
            version = first.version ∙ d;
            wide = refl;
            roomy = rw first.behind.size given.roomy;
          }

      module _ {a b : Side} {n : ℕ} (f : Bytes left × Bytes right)
          (x : IsRead hidden.left left a) (y : IsRead hidden.right right b) (dn : n ≡ cells_of left) where
        pub opened : Opens (chart_of a) (chart_of b) (record { left = n; right = m; bound = c; both = both }) no_pair (at_rest room' pen map' (replicate 128 0))
        opened =
            record { setting = setting_of (sides_of both) left right c hidden; before = 0; ground = ground f x y dn dm; standing = standing; known = λ a b o u e. never e }

        pub filled : {map'' room'' new : List ℕ} {pen' : Pen}
            → Refines (chart_of a) (chart_of b) (record { left = n; right = m; bound = c; both = both }) (at_rest room' pen map' (replicate 128 0)) (at_rest room'' pen' map'' new)
            → Fills both left right c hidden room room'' pen' map''
        filled t =
            record {
              comparable = (ground f x y dn dm).comparable;
              finished = t.finished _ 0 (ground f x y dn dm) standing;
              behind = record {
                size = t.onward.size ∙ first.behind.size;
                kept = λ n h. t.onward.kept n h ∙ first.behind.kept n (omega (arith, t.onward.further));
              };
            }
