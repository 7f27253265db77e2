-- A sheet that grows in lent room, entry by entry, and what a parted pair adds to it.
use Rattle.std.specs.Prelude.{List, ◌≡◌, ℕ, ◌+◌, ◌≤◌, ◌<◌, length, get_or, set, take, drop}
use Rattle.sheet.specs.Entry.{Entry}
use Rattle.sheet_writer.specs.Writing.{Holding}
use Rattle.compare_laws.specs.Comparison.{conjoined, conjoint}
use Rattle.compare_entries.specs.declared.Pen.{Pen}

-- The room holds the entries, and the pen is behind the last of them.
pub record Penned (room : List ℕ) (es : List Entry) (pen : Pen) : Type 0 where
  pub held : Holding pen.version room es pen.at
  pub number : pen.next ≡ length es

-- There is room for as many bytes and entries more.
pub record Roomy (room : List ℕ) (pen : Pen) (bytes entries : ℕ) : Type 0 where
  pub inside : pen.at + bytes ≤ length room
  pub few : pen.next + entries < 65536

-- What was written goes on to byte at', from byte at or before it, and nothing behind was changed.
pub record Onward (room room' : List ℕ) (at at' : ℕ) : Type 0 where
  pub size : length room' ≡ length room
  pub kept : (n : ℕ) → at' ≤ n → drop n room' ≡ drop n room
  pub further : at ≤ at'

-- Whatever the entries es were, they are now f es: at most as many bytes and entries were written behind them, and nothing else.
pub record Extends (room room' : List ℕ) (pen pen' : Pen) (bytes entries : ℕ) (f : List Entry → List Entry) : Type 0 where
  pub grown : (es : List Entry) → Penned room es pen → Penned room' (f es) pen'
  pub onward : Onward room room' pen.at pen'.at
  pub bytes_most : pen'.at ≤ pen.at + bytes
  pub entries_most : pen'.next ≤ pen.next + entries
  pub version : pen'.version ≡ pen.version

-- In a list of what describes the cells of both books: the numbers of one side, the left cells' from 0 on, the right ones' from 64 on.
abbrev pub side_of : ℕ → List ℕ → List ℕ
side_of base xs = take 64 (drop base xs)

-- Entry d was added to what the numbers name at place x.
pub record Conjoins (room room' : List ℕ) (pen pen' : Pen) (numbers numbers' : List ℕ) (x d : ℕ) : Type 0 where
  pub written : Extends room room' pen pen' 6 1 (λ es. conjoined es (get_or numbers x 0) d)
  pub named : (es : List Entry) → Penned room es pen → numbers' ≡ set numbers x (conjoint es (get_or numbers x 0) d)
  pub wide : length numbers' ≡ length numbers

-- The pair's place is in the map, the cells are of at most 64, and there is room.
pub record NameFits (room : List ℕ) (pen : Pen) (map : List ℕ) (place : ℕ) (new : List ℕ) (a b : ℕ) : Type 0 where
  pub roomy : Roomy room pen 12 2
  pub inside : place < length map
  pub left_cell : a < 64
  pub right_cell : b < 64
  pub wide : length new ≡ 128

-- Entry i was named at the place; i was added to what describes a, then j to what describes b.
pub record Names (room room' : List ℕ) (pen pen' : Pen) (map map' : List ℕ) (place : ℕ) (new new' : List ℕ) (a b i j : ℕ) : Type 0 where
  pub written : Extends room room' pen pen' 12 2 (λ es. conjoined (conjoined es (get_or (side_of 0 new) a 0) i) (get_or (side_of 64 new) b 0) j)
  pub marked : map' ≡ set map place i
  pub left : (es : List Entry) → Penned room es pen → side_of 0 new' ≡ set (side_of 0 new) a (conjoint es (get_or (side_of 0 new) a 0) i)
  pub right : (es : List Entry) → Penned room es pen
      → side_of 64 new' ≡ set (side_of 64 new) b (conjoint (conjoined es (get_or (side_of 0 new) a 0) i) (get_or (side_of 64 new) b 0) j)
  pub wide : length new' ≡ length new
