-- What Compare leaves in the map of two books that are listed, and the listing of that map.
use mathlib.Core.List.{List}
use mathlib.Core.Path.{◌≡◌, refl, sym, ap, ◌∙◌}
use Prim.Native.Nat.{ℕ, ◌≤◌, ◌<◌}
use native.Mathlib.Nat.{mul-le-mul}
use native.Mathlib.Omega.{arith}
use lib.ListN.{length, get_or}
use Rattle.theory.specs.Bisimulation.{two_sided}
use Rattle.theory.specs.Rounds.{matched}
use Rattle.book.specs.Book.{cells_of}
use Rattle.book.specs.BookGraph.{graph_of}
use Rattle.book.specs.SeenLaws.{seen_all, hides_none}
use Rattle.book.specs.declared.Hidden.{Hidden}
use Rattle.book.specs.AcceptedLaws.{book_sizes}
use Rattle.compare_laws.specs.Places.{unparted, zeros}
use Rattle.compare_laws.proofs.PlaceLaws.{among-at}
use mir.Syntax.{w8}
use mir.Val.{Fits}
use Rattle.compare_lists.specs.BookSetting.{sheet_version}
use Rattle.std.specs.Prelude.{Result, IsOk}
use Rattle.fields.specs.Fields.{Bytes}
use Rattle.outcome.specs.declared.Refused.{Refused}
use Rattle.compare.specs.Compare.{pairs_of, serves, compared_map, compared_sheet, Lists, left_by, lent, right_answer, IsCompare}
use Rattle.compare.specs.Promises.{Given, map_places, zeros-matched}
use Rattle.compare.specs.Laws.{room_most, accepts_compared}
use Rattle.compare.specs.declared.Compared.{Compared}
use Rattle.text.specs.Text.{Wrote}
use Rattle.text.specs.Laws.{wrote_within}
use Rattle.listing_lines.specs.Lines.{pair_lines, pair_most, Sized}
use Rattle.listing_lines.specs.Laws.{pair_lines_ext}
use Rattle.listing_text.specs.Listing.{most_listing, matched_lines, Listed, MatchMap}

-- what a slice of bytes gives
pub bytes_known : (s : List ℕ) → ((i : ℕ) → Fits w8 (get_or s i 0)) → Bytes s
bytes_known s f = record { each = λ i. (f i).fits }

-- Nothing is hidden.
abbrev hidden : Hidden
hidden = record { left = 0; right = 0 }

module _ (l r : List ℕ) (c : ℕ) (g : Listed l r c) where
  pairs_few : pairs_of l r ≤ 1024
  pairs_few = mul-le-mul g.few_left g.few_right

  module _ (map room scratch map' room' scratch' : List ℕ) (a : Result Compared Refused) (h : length map ≡ pairs_of l r) (f : 65536 ≡ length room) (k : 65536 ≡ length scratch) where
    served : right_answer two_sided l r c hidden (lent map room scratch) ≡ serves (length (compared_sheet two_sided l r c hidden)) (zeros (compared_map two_sided l r c hidden))
    served =
        accepts_compared l r c hidden (length map) (length room) (length scratch) (length (compared_sheet two_sided l r c hidden)) (zeros (compared_map two_sided l r c hidden))
        (record {
          bound = g.bounded;
          left = g.left;
          right = g.right;
          left_word = hides_none l;
          right_word = hides_none r;
          map = h;
          roomy = omega (arith, room_most (sheet_version l r) (pairs_of l r) 1024 pairs_few);
          spare = omega (arith, pairs_few);
        })

    -- nothing is declined,
    pub map-answered : IsCompare two_sided l r c hidden (lent map room scratch) a (lent map' room' scratch') → IsOk a
    map-answered s = rw (s.answer ∙ served) refl

    -- and the zeros of the map are the matched pairs
    pub map-filled : Bytes l × Bytes r → IsCompare two_sided l r c hidden (lent map room scratch) a (lent map' room' scratch') → MatchMap l r c map'
    unfolding left_by
    map-filled b s =
        let books : Given l r c = record { bytes = b; left = g.left; right = g.right; bound = g.bounded } in
        let e : map' ≡ compared_map two_sided l r c hidden = ap (λ (x : Lists). x.map) (s.lists ∙ ap (left_by two_sided l r c hidden (lent map room scratch)) served) in
        rw e (record { places = map_places two_sided hidden books; matching = rw (← seen_all l, ← seen_all r) (zeros-matched hidden books) })

  -- ---- the listing of the map

  module _ (n m : ℕ) (en : n ≡ cells_of l) (em : m ≡ cells_of r) where
    module _ (map : List ℕ) (f : MatchMap l r c map) where
      pub map-sized : Sized map n m
      map-sized =
          rw (en, em)
          (record { some = (book_sizes r g.right).some; most = (book_sizes r g.right).few; places = omega (arith, f.places) })

      same_pairs : (i j : ℕ) → i < cells_of l → j < cells_of r → unparted (cells_of r) map i j ≡ matched (graph_of l) (graph_of r) c i j
      same_pairs i j h k = sym (among-at (cells_of l) (cells_of r) (unparted (cells_of r) map) i j h k) ∙ ap (λ z. z i j) f.matching

      same_lines : pair_lines n m c (unparted m map) ≡ matched_lines l r c
      same_lines = rw (en, em) (pair_lines_ext (cells_of l) (cells_of r) c (unparted (cells_of r) map) (matched (graph_of l) (graph_of r) c) same_pairs)

      pub map-listed : {out exit : List ℕ} {next : ℕ} → Wrote out 0 (pair_lines n m c (unparted m map)) (pair_most n) exit next
          → Wrote out 0 (matched_lines l r c) most_listing exit next
      map-listed {out} {exit} {next} w = rw same_lines at (wrote_within {k = most_listing} (omega (arith, g.few_left, en)) w)
