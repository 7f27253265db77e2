-- What 01 says of the map and the sheet, as theorems about their definition: for accepted books and a bound of at most 4, whatever code computes them.
use Rattle.std.specs.Prelude.{Bool, true, false, ◌||◌, List, ◌++◌, ◌↔◌, ◌≢◌, ◌≡◌, refl, ℕ, ◌≤◌, ◌<◌, length, take, Ok}
use Rattle.std.proofs.lemmas.Bool.{false≢true}
use Rattle.std.proofs.Common.{sym, ap, ap₂, ◌∙◌, arith, take_at}
use Rattle.fields.specs.Fields.{Bytes}
use Rattle.fields.specs.Laws.{field-append_left}
use Rattle.theory.specs.Graph.{Graph}
use Rattle.theory.specs.Expression.{NodeExpr}
use Rattle.theory.specs.Meaning.{holds}
use Rattle.theory.specs.Bound.{Within, depth}
use Rattle.theory.specs.Bisimulation.{Sides, two_sided, Spoken, Greatest}
use Rattle.theory.specs.Rounds.{matched}
use Rattle.theory.specs.Parting.{LeastDepth}
use Rattle.theory.proofs.Theorems.{least_shallow}
use Rattle.book.specs.declared.Hidden.{Hidden}
use Rattle.book.specs.Book.{cells_of, book_refusal}
use Rattle.book.specs.BookGraph.{hides, seen_of, Cell}
use Rattle.book.specs.Contents.{SameContents}
use Rattle.book.specs.VersionLaws.{same_seen}
use Rattle.sheet.specs.Sheet.{hidden_place, most_bound, length_of, count_of, question_of, heading, sheet_answer}
use Rattle.sheet.proofs.PassedLaws.{accepted_head}
use Rattle.sheet.specs.WrittenLaws.{Writable, written_good, written_answer, written_count, written_question}
use Rattle.compare_laws.specs.Setting.{Setting}
use Rattle.compare_laws.specs.Room.{room_needed}
use Rattle.compare_laws.specs.Comparison.{comparison}
use Rattle.compare_laws.specs.Places.{placed}
use Rattle.compare_laws.specs.Refining.{Comparable, Compared}
use Rattle.compare_laws.proofs.DefinedLaws.{comparison-compared, comparison-any}
use Rattle.compare_laws.specs.Places.{zero_pairs}
use Rattle.compare_laws.proofs.Theorems.{zero_pairs-settled, zero_pairs_greatest, zero_keeps as place-keeps, zero_agrees, node_place, compared_writable, compared_room}
use Rattle.compare_lists.specs.BookSetting.{sheet_version, setting_of}
use Rattle.compare_lists.specs.Laws.{books_comparable}
use Rattle.compare.specs.Compare.{pairs_of, compared, compared_map, compared_sheet}
use Rattle.compare.specs.Parted.{PartedBy}

-- The books are accepted (and are bytes, as all that is lent), and the bound is at most 4.
pub record Given (l r : List ℕ) (c : ℕ) : Type 0 where
  pub bytes : Bytes l × Bytes r
  pub left : book_refusal l ≡ 0
  pub right : book_refusal r ≡ 0
  pub bound : c ≤ most_bound

module _ (x : Sides) {l r : List ℕ} {c : ℕ} (hidden : Hidden) (g : Given l r c) where
  comparable : Comparable (setting_of x l r c hidden)
  comparable = books_comparable x l r c hidden g.bytes.0 g.bytes.1 g.left g.right g.bound

  done : Compared (setting_of x l r c hidden) (compared x l r c hidden).entries (compared_map x l r c hidden)
  done = comparison-compared comparable

  writable : Writable (sheet_version l r) c (compared x l r c hidden).entries
  writable = compared_writable comparable done

  -- a place for each pair
  pub map_places : length (compared_map x l r c hidden) ≡ pairs_of l r
  map_places = done.size

  -- "The sheet is accepted by its check, has bound c,"
  pub sheet_accepted : sheet_answer (compared_sheet x l r c hidden) ≡ Ok (heading (count_of (compared_sheet x l r c hidden)) c)
  sheet_accepted = written_answer writable ∙ ap (λ q. Ok (heading q c)) (sym (written_count writable))

  -- has room in the bytes that are asked for,
  pub sheet_fits : length (compared_sheet x l r c hidden) ≤ room_needed (sheet_version l r) (pairs_of l r)
  sheet_fits = compared_room comparable done

  -- "and starts the room": it is found there by the length that it says.
  pub sheet_found : (rest : List ℕ) → take (length_of (compared_sheet x l r c hidden ++ rest)) (compared_sheet x l r c hidden ++ rest) ≡ compared_sheet x l r c hidden
  sheet_found rest =
      let s = compared_sheet x l r c hidden in
      let h = accepted_head s (written_good writable) in
      let e : length_of (s ++ rest) ≡ length s = field-append_left 4 s rest 0 (let k = h.eight in omega arith) ∙ h.whole in
      ap (λ n. take n (s ++ rest)) e ∙ take_at s rest (length s) refl

  -- Demand 2: the pairs whose place holds 0 are the greatest bisimulation for the bound, or one-sided the greatest simulation;
  pub zeros_greatest : Greatest x (seen_of hidden.left l) (seen_of hidden.right r) c (zero_pairs (seen_of hidden.left l) (seen_of hidden.right r) (compared_map x l r c hidden))
  zeros_greatest = zero_pairs_greatest comparable done

  -- "Map places with a hidden cell get 65,535", and no others do.
  pub hidden-place : (i j : ℕ) → i < cells_of l → j < cells_of r
      → (placed (cells_of r) (compared_map x l r c hidden) i j ≡ hidden_place) ↔ ((hides hidden.left i || hides hidden.right j) ≡ true)
  hidden-place i j o u = by (hides hidden.left i) refl (hides hidden.right j) refl
    where
      place : ℕ
      place = placed (cells_of r) (compared_map x l r c hidden) i j

      by : (a : Bool) → hides hidden.left i ≡ a → (b : Bool) → hides hidden.right j ≡ b → (place ≡ hidden_place) ↔ ((a || b) ≡ true)
      by true e b f = (λ _. refl, λ _. done.hidden i j o u (rw e))
      by false e true f = (λ _. refl, λ _. done.hidden i j o u (rw (e, f)))
      by false e false f = (
        λ d. absurd (node_place comparable done i j (record { below = o; seen = rw e }) (record { below = u; seen = rw f }) d),
        λ t. absurd (false≢true t),
      )

  module _ (i j : ℕ) (o : Cell hidden.left l i) (u : Cell hidden.right r j) where
    -- a place holds 0 exactly when every question within the bound (one-sided, without "not") that is true at the left cell is true at the right one.
    pub zero_keeps : (placed (cells_of r) (compared_map x l r c hidden) i j ≡ 0) ↔ ((q : NodeExpr) → Within c q → Spoken x q → holds (seen_of hidden.left l) q i ≡ true → holds (seen_of hidden.right r) q j ≡ true)
    zero_keeps = place-keeps comparable done i j o u

    -- Another number is that of a question with the smallest depth of all within the bound (one-sided, without "not") that are true left and false right (02, 2026-06),
    pub nonzero_least : placed (cells_of r) (compared_map x l r c hidden) i j ≢ 0
        → LeastDepth x (seen_of hidden.left l) (seen_of hidden.right r) c i j (depth (question_of (compared_sheet x l r c hidden) (placed (cells_of r) (compared_map x l r c hidden) i j)))
    nonzero_least e = rw (written_question writable (placed (cells_of r) (compared_map x l r c hidden) i j)) (done.least i j o u e)

    -- and itself one of these, of the sheet. Its depth is at most left cells × right cells, since the smallest is.
    pub nonzero_parts : placed (cells_of r) (compared_map x l r c hidden) i j ≢ 0 → PartedBy x l r c hidden (compared_sheet x l r c hidden) i j (placed (cells_of r) (compared_map x l r c hidden) i j)
    nonzero_parts e =
        record {
          named = rw (written_count writable) (done.number i j o u e);
          tells = rw (written_question writable (placed (cells_of r) (compared_map x l r c hidden) i j)) (done.tells i j o u e);
          shallow = least_shallow x c comparable.formed.0 comparable.formed.1 i j o u _ (nonzero_least e);
        }

module _ {l r : List ℕ} {c : ℕ} (hidden : Hidden) (g : Given l r c) where
  -- Two-sided the pairs whose place holds 0 are the matched ones.
  pub zeros-matched : zero_pairs (seen_of hidden.left l) (seen_of hidden.right r) (compared_map two_sided l r c hidden) ≡ matched (seen_of hidden.left l) (seen_of hidden.right r) c
  zeros-matched = zero_pairs-settled (comparable two_sided hidden g) (done two_sided hidden g)

  module _ (i j : ℕ) (o : Cell hidden.left l i) (u : Cell hidden.right r j) where
    -- Demand 3: a place holds 0 exactly when every question within the bound, of any size, is true at both cells or false at both.
    pub zero_exactly : (placed (cells_of r) (compared_map two_sided l r c hidden) i j ≡ 0) ↔ ((q : NodeExpr) → Within c q → holds (seen_of hidden.left l) q i ≡ holds (seen_of hidden.right r) q j)
    zero_exactly = zero_agrees (comparable two_sided hidden g) refl (done two_sided hidden g) i j o u

-- Books that are one graph each are compared alike: the same places and the same entries, in whatever versions the books and the sheet are written.
pub compared_alike : (x : Sides) (l l' r r' : List ℕ) (c : ℕ) (hidden : Hidden) → seen_of hidden.left l ≡ seen_of hidden.left l' → seen_of hidden.right r ≡ seen_of hidden.right r'
    → (compared_map x l r c hidden ≡ compared_map x l' r' c hidden) × ((compared x l r c hidden).entries ≡ (compared x l' r' c hidden).entries)
compared_alike x l l' r r' c hidden e f = (ap (λ s. s.map) state, ap (λ s. s.entries) state)
  where
    both : ℕ → Graph → Graph → Setting
    both v g h = record { left = g; right = h; sides = x; bound = c; version = v }

    state : compared x l r c hidden ≡ compared x l' r' c hidden
    state = comparison-any (setting_of x l r c hidden) (sheet_version l' r') ∙ ap₂ (λ g h. comparison (both (sheet_version l' r') g h)) e f

-- So are books with the same cells and links, of one version or of two: they are one graph each.
pub contents_alike : (x : Sides) (l l' r r' : List ℕ) (c : ℕ) (hidden : Hidden) → SameContents l l' → SameContents r r'
    → (compared_map x l r c hidden ≡ compared_map x l' r' c hidden) × ((compared x l r c hidden).entries ≡ (compared x l' r' c hidden).entries)
contents_alike x l l' r r' c hidden d e = compared_alike x l l' r r' c hidden (same_seen l l' d hidden.left) (same_seen r r' e hidden.right)
