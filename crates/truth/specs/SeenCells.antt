-- The cells of a book that a word does not hide.
use Rattle.std.specs.Prelude.{not, List, ℕ}
use Rattle.words.specs.Words.{word_of}
use Rattle.book.specs.Book.{cells_of}
use Rattle.book.specs.BookGraph.{hides}

-- As a word: the nodes of the graph that is seen.
unfoldable pub seen_word : ℕ → List ℕ → ℕ
seen_word h s = word_of (cells_of s) (λ x. not (hides h x))
