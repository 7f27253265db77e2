-- Books of different versions (02, 2026-02): how large a label is, and that a book's graph does not tell its version.
use Rattle.std.specs.Prelude.{true, not, ◌||◌, List, ◌≡◌, get_or}
use Rattle.std.proofs.Math.Bool.{cond}
use Rattle.std.proofs.Math.Path.{refl, sym, ap, ap₂}
use Rattle.std.proofs.Common.{◌∙◌, arith}
use Prim.Native.Nat.{ℕ, zero, suc, ◌+◌, ◌^◌, ◌≤◌, ◌<◌}
use Rattle.std.proofs.Math.Dec.{leb}
use Rattle.fields.specs.Fields.{Bytes}
use Rattle.fields.specs.Label.{label_width}
use Rattle.fields.specs.Laws.{field_lt}
use Rattle.outcome.specs.Refusals.{first_of}
use Rattle.outcome.specs.RefusalLaws.{first_none}
use Rattle.theory.specs.Search.{list}
use Rattle.theory.proofs.TestLaws.{list_ext}
use Rattle.book.specs.Book.{version_of, cells_of, links_of, recording_at, link_place, link_in, link_at, head_refusal, precedes, rises, link_refusal, links_refusal, book_refusal}
use Rattle.book.specs.BookGraph.{passes, book_links, graph_of, hides, showing, clear, kept, seen_recording, seen_of}
use Rattle.book.specs.Contents.{SameContents}
use Rattle.book.specs.AcceptedLaws.{Headed, headed_passes, accepted_links}

-- a label has room in the bytes that a label takes
pub label_fits : (s : List ℕ) → Bytes s → (k : ℕ) → (link_at s k).label < 256 ^ label_width (version_of s)
unfolding link_at link_in
label_fits s b k = field_lt (label_width (version_of s)) s (link_place s k + 1) b

-- "Version 1 is still read, its labels as the same numbers": such books are one graph, whatever is hidden of both
module _ (s t : List ℕ) (d : SameContents s t) where
  same_recordings : (f : ℕ → ℕ → ℕ) → list (cells_of s) (λ x. f x (recording_at s x)) ≡ list (cells_of t) (λ x. f x (recording_at t x))
  same_recordings f = list_ext (cells_of s) _ _ (λ x l. ap (f x) (d.recordings x l)) ∙ ap (λ n. list n (λ x. f x (recording_at t x))) d.cells

  same_links : book_links s ≡ book_links t
  same_links = list_ext (links_of s) (link_at s) (link_at t) d.each ∙ ap (λ e. list e (link_at t)) d.links

  pub same_graph : graph_of s ≡ graph_of t
  same_graph =
      let values = same_recordings (λ x v. v) in
      λ i. record { size = d.cells i; shown = λ x. true; links = same_links i; ends = λ k x y. passes k (get_or (values i) x 0) (get_or (values i) y 0) }

  pub same_seen : (h : ℕ) → seen_of h s ≡ seen_of h t
  unfolding seen_recording
  same_seen h =
      let values = same_recordings (λ x v. cond (hides h x) 0 v) in
      λ i. record {
        size = d.cells i;
        shown = showing h;
        links = kept (clear h) (same_links i);
        ends = λ k x y. passes k (get_or (values i) x 0) (get_or (values i) y 0);
      }

-- and are refused alike for their links, so that one is accepted where the other is and its own header is not refused
module _ (s t : List ℕ) (d : SameContents s t) where
  rises_alike : (j : ℕ) → j < links_of s → rises s j ≡ rises t j
  unfolding rises
  rises_alike zero h = refl
  rises_alike (suc j) h = ap₂ precedes (d.each j (omega arith)) (d.each (suc j) h)

  links_alike : (j left : ℕ) → j + left ≤ links_of s → links_refusal s j left ≡ links_refusal t j left
  unfolding links_refusal link_refusal
  links_alike j zero h = refl
  links_alike j (suc left) h =
      let each = d.each j (omega arith) in
      let rise = rises_alike j (omega arith) in
      let rest = links_alike (suc j) left (omega arith) in
      λ i. first_of (cond (leb (d.cells i) (each i).from || leb (d.cells i) (each i).to) 6 (cond (not (rise i)) 7 0)) (rest i)

  pub accepted_alike : Headed t → book_refusal s ≡ 0 → book_refusal t ≡ 0
  unfolding book_refusal
  accepted_alike h z =
      first_none (head_refusal t) _ (headed_passes t h)
      ∙ ap (links_refusal t 0) (sym d.links)
      ∙ sym (links_alike 0 (links_of s) (omega arith))
      ∙ accepted_links s z
