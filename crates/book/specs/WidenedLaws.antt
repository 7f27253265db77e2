-- Each accepted book has one of version 2 that is accepted and is the same graph.
use Rattle.std.specs.Prelude.{List, [], ◌∷◌, ◌++◌, ◌≡◌, ℕ, zero, suc, ◌+◌, ◌*◌, ◌/◌, ◌%◌, ◌≤◌, ◌<◌, length, take, drop}
use Rattle.std.proofs.Math.Path.{sym, ap₂}
use Rattle.std.proofs.Common.{ap, ◌∙◌, length-append}
use native.Mathlib.Omega.{arith}
use Rattle.std.proofs.Math.ListN.{length-drop}
use Rattle.std.proofs.Math.Seq.{length-take-le}
use Rattle.fields.specs.Fields.{field, bytes_of, Bytes}
use Rattle.fields.specs.Label.{label_width}
use Rattle.fields.specs.LabelLaws.{label-width}
use Rattle.fields.specs.Laws.{field-append_left, field-append_right, field-take, field-drop, field-bytes_of-append}
use Rattle.theory.specs.Graph.{Link}
use Rattle.book.specs.Book.{length_of, version_of, cells_of, links_of, recording_at, link_place, link_in, link_at, book_refusal}
use Rattle.book.specs.BookGraph.{graph_of}
use Rattle.book.specs.Widened.{wide_links, wide_front, widened}
use Rattle.book.specs.AcceptedLaws.{Headed, book_sizes}
use Rattle.book.specs.Contents.{SameContents}
use Rattle.book.specs.VersionLaws.{label_fits, same_graph, accepted_alike}

-- ---- its links
-- a link behind a
link-behind : (w : ℕ) (a b : List ℕ) (from at : ℕ) → from ≡ length a + at → link_in w (a ++ b) from ≡ link_in w b at
unfolding link_in
link-behind w a b from at e =
    let behind : (u to o : ℕ) → to ≡ length a + o → field u (a ++ b) to ≡ field u b o =
    λ u to o d. ap (field u (a ++ b)) d ∙ field-append_right u a b o in
    λ i. record { from = behind 1 from at e i; label = behind w (from + 1) (at + 1) (omega arith) i; to = behind 1 (from + 1 + w) (at + 1 + w) (omega arith) i }

length-wide : (e : ℕ) (f : ℕ → Link) → length (wide_links e f) ≡ 4 * e
unfolding wide_links bytes_of
length-wide zero f = omega arith
length-wide (suc e) f = omega (arith, length-wide e (λ i. f (suc i)))

wide-link : (e : ℕ) (f : ℕ → Link) (i : ℕ) → i < e → (f i).label < 65536 → link_in 2 (wide_links e f) (4 * i) ≡ f i
unfolding wide_links link_in field bytes_of
wide-link zero f i h l = absurd (omega arith)
wide-link (suc e) f zero h l =
    let from : (f 0).from * 1 + 0 ≡ (f 0).from = omega arith in
    let label : (f 0).label / 256 % 256 * 256 + ((f 0).label / 1 % 256 * 1 + 0) ≡ (f 0).label = omega arith in
    let to : (f 0).to * 1 + 0 ≡ (f 0).to = omega arith in
    λ i. record { from = from i; label = label i; to = to i }
wide-link (suc e) f (suc i) h l =
    link-behind 2 ((f 0).from ∷ (bytes_of 2 (f 0).label ++ ((f 0).to ∷ []))) (wide_links e (λ i. f (suc i))) (4 * suc i) (4 * i) (omega arith)
    ∙ wide-link e (λ i. f (suc i)) i (omega arith) l

-- ---- the book
module _ (s : List ℕ) (bytes : Bytes s) (z : book_refusal s ≡ 0) where
  sizes : Headed s
  sizes = book_sizes s z

  length_front : length (wide_front s) ≡ 8 + 4 * cells_of s
  unfolding wide_front bytes_of
  length_front = omega (arith, length-take-le (3 + 4 * cells_of s) (drop 5 s) (omega (arith, length-drop 5 s, sizes.sized)))

  -- the counts and recordings are kept
  kept : (u from at : ℕ) → from ≡ 5 + at → at + u ≤ 3 + 4 * cells_of s → field u (widened s) from ≡ field u s from
  unfolding wide_front bytes_of
  kept u from at e h =
      rw e
      (field-append_left u (wide_front s) _ (5 + at) (omega (arith, length_front))
      ∙ field-append_right u (bytes_of 4 (8 + 4 * cells_of s + 4 * links_of s) ++ (2 ∷ [])) (take (3 + 4 * cells_of s) (drop 5 s)) at
      ∙ field-take u (3 + 4 * cells_of s) (drop 5 s) at h ∙ field-drop u 5 s at)

  widened-length : length_of (widened s) ≡ 8 + 4 * cells_of s + 4 * links_of s
  unfolding wide_front
  widened-length =
      field-append_left 4 (wide_front s) _ 0 (omega (arith, length_front)) ∙ field-bytes_of-append 4 _ _ (omega (arith, sizes.few, sizes.most))

  pub widened_version : version_of (widened s) ≡ 2
  unfolding wide_front bytes_of field
  widened_version = omega arith

  same_place : (i : ℕ) → link_place (widened s) i ≡ 8 + 4 * cells_of s + 4 * i
  unfolding label_width
  same_place i = rw (widened_version, kept 1 5 0 (omega arith) (omega arith)) (omega arith)

  pub widened_contents : SameContents s (widened s)
  unfolding recording_at link_at label_width
  widened_contents = record {
    cells = sym (kept 1 5 0 (omega arith) (omega arith));
    recordings = λ x h. sym (kept 4 (8 + 4 * x) (3 + 4 * x) (omega arith) (omega arith));
    links = sym (kept 2 6 1 (omega arith) (omega (arith, sizes.some)));
    each = λ i h. sym (link i h);
  }
    where
      link : (i : ℕ) → i < links_of s → link_at (widened s) i ≡ link_at s i
      link i h =
          ap₂ (λ v at. link_in (label_width v) (widened s) at) widened_version (same_place i)
          ∙ link-behind 2 (wide_front s) (wide_links (links_of s) (link_at s)) (8 + 4 * cells_of s + 4 * i) (4 * i) (omega (arith, length_front))
          ∙ wide-link (links_of s) (link_at s) i h ((label-width (version_of s)).fits _ (label_fits s bytes i))

  -- it is the same graph,
  pub widened_graph : graph_of s ≡ graph_of (widened s)
  widened_graph = same_graph s (widened s) widened_contents

  -- and accepted
  pub widened-accepted : book_refusal (widened s) ≡ 0
  widened-accepted = accepted_alike s (widened s) widened_contents head z
    where
      size : length (widened s) ≡ 8 + 4 * cells_of s + 4 * links_of s
      size = omega (arith, length-append (wide_front s) (wide_links (links_of s) (link_at s)), length_front, length-wide (links_of s) (link_at s))

      head : Headed (widened s)
      head = record {
        long = omega (arith, size);
        whole = widened-length ∙ sym size;
        version = omega (arith, widened_version);
        latest = omega (arith, widened_version);
        some = rw (← widened_contents.cells) sizes.some;
        few = rw (← widened_contents.cells) sizes.few;
        most = rw (← widened_contents.links) sizes.most;
        sized = size ∙ sym (same_place (links_of (widened s)) ∙ rw (← widened_contents.links));
      }
