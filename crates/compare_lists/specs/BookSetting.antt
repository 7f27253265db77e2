-- The setting of a comparison of two books.
use Rattle.std.specs.Prelude.{cond, ◌||◌, List, ℕ, eqb}
use Rattle.theory.specs.Bisimulation.{Sides}
use Rattle.book.specs.Book.{version_of}
use Rattle.book.specs.BookGraph.{seen_of}
use Rattle.book.specs.declared.Hidden.{Hidden}
use Rattle.compare_laws.specs.Setting.{Setting}

-- "Compare writes version 2 if either book is version 2" (02, 2026-02).
unfoldable pub sheet_version : List ℕ → List ℕ → ℕ
sheet_version l r = cond (eqb (version_of l) 2 || eqb (version_of r) 2) 2 1

-- The graphs of the two books as they are seen (02, 2026-07: "a hidden cell and all links at it count as absent"), the sides that count, the bound, and the
-- version of the sheet.
abbrev pub setting_of : Sides → List ℕ → List ℕ → ℕ → Hidden → Setting
setting_of x l r c hidden = record { left = seen_of hidden.left l; right = seen_of hidden.right r; sides = x; bound = c; version = sheet_version l r }
