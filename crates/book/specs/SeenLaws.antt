-- A book whose cells a word hides in part (02, 2026-07): its graph, and that nothing of a hidden cell is in it.
use Rattle.std.specs.Prelude.{Bool, not, ◌≡◌, ◌↔◌, ℕ, ◌^◌, ◌≤◌, ◌<◌, get_or}
use Rattle.std.proofs.Math.Bool.{true, false, So, cond}
use Rattle.std.proofs.Math.Path.{refl, ap}
use Rattle.std.proofs.Common.{sym, ap₂, ◌∙◌, ⊎_elim, eq-or-lt_of_le, le_refl, pow_pos}
use mathlib.Core.List.Memᴰ
use mathlib.Core.List.{List, [], ◌∷◌, Memᴰ}
use Rattle.std.proofs.lemmas.Bool.{lt-leb}
use Rattle.fields.specs.Fields.{Bytes}
use Rattle.fields.specs.Label.{label_width}
use Rattle.theory.specs.Search.{list}
use Rattle.theory.proofs.TestLaws.{never, and_iff, list_at, list_ext}
use Rattle.theory.specs.Graph.{Comparison, Link, link, Inside, has, linked, WellFormed}
use Rattle.theory.proofs.WalkLaws.{has_iff}
use Rattle.words.specs.Laws.{bit-zero}
use Rattle.book.specs.Book.{version_of, cells_of, links_of, recording_at, link_at, book_refusal}
use Rattle.book.specs.BookGraph.{passes, book_recordings, book_links, graph_of, hides, showing, hides_beyond, clear, kept, seen_links, seen_recording, seen_recordings, seen_of}
use Rattle.book.specs.Contents.{SameSeen}
use Rattle.book.specs.AcceptedLaws.{book_inside, book_rises, precedes_from, precedes_label}
use Rattle.book.specs.RisingLaws.{Rising, rising_eq, rising_list, rising_at, member_list}
use Rattle.book.specs.VersionLaws.{label_fits}

-- ---- the links that are kept
-- they are those that pass
pub kept_iff : (p : Link → Bool) (ks : List Link) (k : Link) → Memᴰ k (kept p ks) ↔ (Memᴰ k ks × So (p k))
unfolding kept
kept_iff p [] k = (λ m. absurd (Memᴰ.not-nil m), λ h. absurd (Memᴰ.not-nil h.0))
kept_iff p (j ∷ ks) k = by (p j) refl (kept_iff p ks k)
  where
    by : (b : Bool) → p j ≡ b → Memᴰ k (kept p ks) ↔ (Memᴰ k ks × So (p k))
        → Memᴰ k (cond b (j ∷ kept p ks) (kept p ks)) ↔ (Memᴰ k (j ∷ ks) × So (p k))
    by true e f = (
      λ m. ⊎_elim (λ d. (Memᴰ.head d, rw d e)) (λ n. let (o, t) = f.0 n in (Memᴰ.tail o, t)) (Memᴰ.cases_cons m),
      λ (m, t). ⊎_elim (λ d. Memᴰ.head d) (λ n. Memᴰ.tail (f.1 (n, t))) (Memᴰ.cases_cons m),
    )
    by false e f = (
      λ m. let (o, t) = f.0 m in (Memᴰ.tail o, t),
      λ (m, t). ⊎_elim (λ d. never (sym e ∙ rw d at t)) (λ n. f.1 (n, t)) (Memᴰ.cases_cons m),
    )

-- in their order
kept_rising : (p : Link → Bool) (ks : List Link) → Rising ks → Rising (kept p ks)
unfolding kept Rising
kept_rising p [] r = tt
kept_rising p (k ∷ ks) r = by (p k) (kept_rising p ks r.1)
  where
    by : (b : Bool) → Rising (kept p ks) → Rising (cond b (k ∷ kept p ks) (kept p ks))
    by true rest = (λ j m. r.0 j ((kept_iff p ks j).0 m).0, rest)
    by false rest = rest

kept_inside : (n : ℕ) (p : Link → Bool) (ks : List Link) → Inside n ks → Inside n (kept p ks)
unfolding kept Inside
kept_inside n p [] i = tt
kept_inside n p (k ∷ ks) (f, t, i) = by (p k) (kept_inside n p ks i)
  where
    by : (b : Bool) → Inside n (kept p ks) → Inside n (cond b (k ∷ kept p ks) (kept p ks))
    by true rest = (f, t, rest)
    by false rest = rest

-- all, where all pass
kept_all : (p : Link → Bool) (ks : List Link) → ((k : Link) → p k ≡ true) → kept p ks ≡ ks
unfolding kept
kept_all p [] h = refl
kept_all p (k ∷ ks) h = rw (h k) (ap (λ (l : List Link). k ∷ l) (kept_all p ks h))

-- ---- the graph that is seen
-- a book without hidden cells is its graph
-- no cell is hidden by no bit, and none that there is not
pub hides_none : (s : List ℕ) → hides_beyond 0 s ≡ false
unfolding hides_beyond
hides_none s = lt-leb (2 ^ cells_of s) 0 (pow_pos (cells_of s))

pub seen_all : (s : List ℕ) → seen_of 0 s ≡ graph_of s
unfolding clear seen_recording
seen_all s =
    λ i. record { size = cells_of s; shown = λ x. not (bit-zero x i); links = links i; ends = λ k x y. passes k (get_or (recordings i) x 0) (get_or (recordings i) y 0) }
  where
    links : seen_links 0 s ≡ book_links s
    links = kept_all (clear 0) (book_links s) (λ k. rw (bit-zero k.from, bit-zero k.to))

    recordings : seen_recordings 0 s ≡ book_recordings s
    recordings = list_ext (cells_of s) (seen_recording 0 s) (recording_at s) (λ x l. rw (bit-zero x))

-- each cell has the recording that is seen
seen-recording : (h : ℕ) (s : List ℕ) (x : ℕ) → x < cells_of s → get_or (seen_recordings h s) x 0 ≡ seen_recording h s x
seen-recording h s x l = list_at (cells_of s) (seen_recording h s) x 0 l

-- two cells pass a comparison where the recordings that are seen do
pub seen_ends : (h : ℕ) (s : List ℕ) (t : Comparison) (x y : ℕ) → x < cells_of s → y < cells_of s
    → (seen_of h s).ends t x y ≡ passes t (seen_recording h s x) (seen_recording h s y)
seen_ends h s t x y l m = ap₂ (passes t) (seen-recording h s x l) (seen-recording h s y m)

-- a link that is seen is one of the book's, at no hidden cell
pub seen_link : (h : ℕ) (s : List ℕ) (x a y : ℕ) → So (linked (seen_of h s) x a y) ↔ (So (has (book_links s) x a y) × So (clear h (link x a y)))
seen_link h s x a y = simp (has_iff, kept_iff) ((λ m. m), (λ m. m))

-- the links lead between cells that are seen
pub seen_graph : (h : ℕ) (s : List ℕ) → book_refusal s ≡ 0 → WellFormed (seen_of h s)
unfolding clear
seen_graph h s r = record {
  inside = kept_inside (cells_of s) (clear h) (book_links s) (book_inside s r);
  seen = λ x a y e. (and_iff _ _).0 ((seen_link h s x a y).0 e).1;
}

pub book_graph : (s : List ℕ) → book_refusal s ≡ 0 → WellFormed (graph_of s)
book_graph s r = rw (seen_all s) at (seen_graph 0 s r)

-- a label has room in the bytes that a label takes
pub seen_label : (h : ℕ) (s : List ℕ) → Bytes s → (x a y : ℕ) → So (linked (seen_of h s) x a y) → a < 256 ^ label_width (version_of s)
seen_label h s b x a y e =
    let (i, _, d) = member_list (links_of s) (link_at s) (link x a y) ((has_iff (book_links s) x a y).0 ((seen_link h s x a y).0 e).0) in
    rw (← ap (λ (k : Link). k.label) d) at (label_fits s b i)

-- ---- the order of the links
pub seen_rising : (h : ℕ) (s : List ℕ) → book_refusal s ≡ 0 → Rising (seen_links h s)
seen_rising h s r = kept_rising (clear h) (book_links s) (rising_list (links_of s) (link_at s) (book_rises s r))

module _ (h : ℕ) (s : List ℕ) (r : book_refusal s ≡ 0) (n : ℕ) (f : ℕ → Link) (e : list n f ≡ seen_links h s) (j k : ℕ) (l : j ≤ k) (m : k < n) where
  -- from cells do not fall
  pub seen_from : (f j).from ≤ (f k).from
  seen_from =
      ⊎_elim (λ d. rw d (le_refl _)) (λ o. precedes_from _ _ (rising_at n f (rw e (seen_rising h s r)) j k o m)) (eq-or-lt_of_le l)

  -- nor do the labels of links out of one cell
  pub seen_labels : (f j).from ≡ (f k).from → (f j).label ≤ (f k).label
  seen_labels c =
      ⊎_elim (λ d. rw d (le_refl _)) (λ o. precedes_label _ _ (rising_at n f (rw e (seen_rising h s r)) j k o m) c) (eq-or-lt_of_le l)

-- ---- secrecy
-- of accepted books that differ only in what is hidden, one graph is seen
module _ (h : ℕ) (s t : List ℕ) (p : book_refusal s ≡ 0) (q : book_refusal t ≡ 0) (d : SameSeen h s t) where
  seen-recordings : seen_recordings h s ≡ seen_recordings h t
  unfolding seen_recording
  seen-recordings = list_ext (cells_of s) (seen_recording h s) (seen_recording h t) each ∙ ap (λ n. list n (seen_recording h t)) d.cells
    where
      each : (x : ℕ) → x < cells_of s → seen_recording h s x ≡ seen_recording h t x
      each x l = by (hides h x) refl
        where
          by : (b : Bool) → hides h x ≡ b → cond b 0 (recording_at s x) ≡ cond b 0 (recording_at t x)
          by true e = refl
          by false e = d.recordings x l e

  seen-links : seen_links h s ≡ seen_links h t
  seen-links =
      rising_eq _ _ (seen_rising h s p) (seen_rising h t q) (across s t d.links) (across t s (λ x a y c. sym (d.links x a y c)))
    where
      across : (u v : List ℕ) → ((x a y : ℕ) → So (clear h (link x a y)) → has (book_links u) x a y ≡ has (book_links v) x a y)
          → (k : Link) → Memᴰ k (seen_links h u) → Memᴰ k (seen_links h v)
      across u v f k m =
          let (i, c) = (kept_iff (clear h) (book_links u) k).0 m in
          (kept_iff (clear h) (book_links v) k).1
          ((has_iff (book_links v) _ _ _).0 (sym (f _ _ _ c) ∙ (has_iff (book_links u) k.from k.label k.to).1 i), c)

  pub seen_alike : seen_of h s ≡ seen_of h t
  seen_alike =
      λ i. record {
        size = d.cells i;
        shown = showing h;
        links = seen-links i;
        ends = λ k x y. passes k (get_or (seen-recordings i) x 0) (get_or (seen-recordings i) y 0);
      }
