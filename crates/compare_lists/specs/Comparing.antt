-- What is lent for a comparison of two accepted books, and what it leaves before the sheet's header is written.
use Rattle.std.specs.Prelude.{Bool, false, List, [], ◌∷◌, ◌≡◌, ℕ, ◌*◌, ◌≤◌, length, drop}
use Rattle.theory.specs.Search.{list}
use Rattle.theory.specs.Bisimulation.{sides_of}
use Rattle.book.specs.declared.Hidden.{Hidden}
use Rattle.book.specs.Book.{cells_of}
use Rattle.book.specs.BookGraph.{showing, hides_beyond}
use Rattle.sheet.specs.Entry.{truth}
use Rattle.sheet.specs.Sheet.{most_bound}
use Rattle.search_links.specs.declared.side.Side.{Side}
use Rattle.search.specs.BookReasons.{Read}
use Rattle.compare_laws.specs.Room.{room_needed}
use Rattle.compare_laws.specs.Places.{start_at}
use Rattle.compare_laws.specs.Refining.{Comparable}
use Rattle.compare_entries.specs.Growing.{Penned}
use Rattle.compare_entries.specs.declared.Pen.{Pen}
use Rattle.compare_rounds.specs.Turns.{Finished}
use Rattle.compare_lists.specs.BookSetting.{sheet_version, setting_of}

-- The side holds an accepted book, seen through a word, as the search reads it.
pub record IsRead (hidden : ℕ) (s : List ℕ) (a : Side) : Type 0 where
  pub count : ℕ
  pub from : List ℕ
  pub read : Read hidden s count from a.labels a.to a.starts a.ends

-- Words that hide cells of two accepted books, a bound, a place of the map for each pair, and room for what parts them all.
pub record Lent (left right : List ℕ) (c : ℕ) (hidden : Hidden) (map room : List ℕ) : Type 0 where
  pub left_word : hides_beyond hidden.left left ≡ false
  pub right_word : hides_beyond hidden.right right ≡ false
  pub bound : c ≤ most_bound
  pub places : length map ≡ cells_of left * cells_of right
  pub roomy : room_needed (sheet_version left right) (cells_of left * cells_of right) ≤ length room

-- What is written went behind a header, and nothing else of the room was changed from the pen on.
pub record Behind (room room' : List ℕ) (pen : Pen) : Type 0 where
  pub size : length room' ≡ length room
  pub kept : (n : ℕ) → pen.at ≤ n → drop n room' ≡ drop n room

-- Before the first round: the map, m places a row, holds 0 where no cell is hidden, and the one entry is always true, in a sheet of version v.
pub record Started (v m : ℕ) (hidden : Hidden) (map map' room room' : List ℕ) (pen : Pen) : Type 0 where
  pub blank : map' ≡ list (length map) (start_at m (showing hidden.left) (showing hidden.right))
  pub penned : Penned room' (truth ∷ []) pen
  pub version : pen.version ≡ v
  pub behind : Behind room room' pen

-- The comparison is done, of both sides or of the left one alone.
pub record Fills (both : Bool) (left right : List ℕ) (c : ℕ) (hidden : Hidden) (room room' : List ℕ) (pen : Pen) (map : List ℕ) : Type 0 where
  pub comparable : Comparable (setting_of (sides_of both) left right c hidden)
  pub finished : Finished (setting_of (sides_of both) left right c hidden) room' pen map
  pub behind : Behind room room' pen
