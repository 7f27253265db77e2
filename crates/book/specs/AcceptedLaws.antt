-- What an accepted book is: its sizes, its links in order, and its graph.
use Rattle.std.specs.Prelude.{Bool, true, false, not, ◌||◌, ◌↔◌, ◌⊎◌, ◌≡◌, refl, List, ℕ, zero, suc, ◌+◌, ◌*◌, ◌≤◌, ◌<◌, eqb, ltb, leb, length, get_or, Result, Ok, Err, IfOk}
use Rattle.std.proofs.Math.Bool.{So}
use Rattle.std.specs.Borrow.{Bor}
use Rattle.std.proofs.lemmas.Result.{IfOk-at_ok}
use Rattle.std.proofs.Common.{inl, inr, ⊎_elim, sym, ap, ap₂, ◌∙◌, suc-le-suc, mul-le-mul_left, mul-le-mul_right, le_of_suc-le-suc, eq-or-lt_of_le, le_refl, arith, ltb-false, le-ltb, leb-false, eqb-true, eq-eqb}
use Rattle.fields.specs.LabelLaws.{label-width}
use Rattle.outcome.specs.Refused.{named}
use Rattle.outcome.specs.RefusalLaws.{first-zero, passed, judged-ok, judged-some}
use Rattle.theory.proofs.TestLaws.{and_iff, or_iff, sum_iff, eqb_iff, ltb_iff, list_at}
use Rattle.theory.specs.Search.{list}
use Rattle.theory.specs.Graph.{Comparison, Link, Inside}
use Rattle.book.specs.Book.{length_of, version_of, most_version, cells_of, links_of, recording_at, link_width, link_start, link_place, link_at, counts_refusal, head_refusal, below, precedes, rises, link_refusal, links_refusal, book_refusal, counts_of, book_answer}
use Rattle.book.specs.declared.accepted.Book.{Book}
use Rattle.book.specs.BookGraph.{passes, book_recordings, book_links, graph_of}

not_false : (t : Bool) → not t ≡ false → So t
not_false true e = refl
not_false false e = sym e

or_false : (t u : Bool) → (t || u) ≡ false → (t ≡ false) × (u ≡ false)
or_false true u e = absurd (let z : true ≡ false = e in let n : ◌≡◌ {A = ℕ} 0 1 = cc in omega arith)
or_false false u e = (refl, e)

-- ---- the header
pub record Headed (s : List ℕ) : Type 0 where
  pub long : 8 ≤ length s
  pub whole : length_of s ≡ length s
  pub version : 1 ≤ version_of s
  pub latest : version_of s ≤ most_version
  pub some : 1 ≤ cells_of s
  pub few : cells_of s ≤ 64
  pub most : links_of s ≤ 512
  pub sized : length s ≡ link_place s (links_of s)

-- what a header says that is not refused
pub headed : (s : List ℕ) → head_refusal s ≡ 0 → Headed s
unfolding head_refusal counts_refusal
headed s h =
    let (long, h2) = passed (ltb (length s) 8) 0 h in
    let (whole, h3) = passed (not (eqb (length_of s) (length s))) 1 h2 in
    let (versions, h4) = passed (ltb (version_of s) 1 || ltb most_version (version_of s)) 2 h3 in
    let (counts, h5) = passed (ltb (cells_of s) 1 || (ltb 64 (cells_of s) || ltb 512 (links_of s))) 3 h4 in
    let (sized, _) = passed (not (eqb (length_of s) (link_place s (links_of s)))) 4 h5 in
    let (version, latest) = or_false (ltb (version_of s) 1) _ versions in
    let (some, rest) = or_false (ltb (cells_of s) 1) _ counts in
    let (few, most) = or_false (ltb 64 (cells_of s)) _ rest in
    let whole = eqb-true _ _ (not_false (eqb (length_of s) (length s)) whole) in
    record {
      long = ltb-false _ _ long;
      whole = whole;
      version = ltb-false _ _ version;
      latest = ltb-false _ _ latest;
      some = ltb-false _ _ some;
      few = ltb-false _ _ few;
      most = ltb-false _ _ most;
      sized = sym whole ∙ eqb-true _ _ (not_false (eqb (length_of s) (link_place s (links_of s))) sized);
    }

-- and what says so is not refused
pub headed_passes : (s : List ℕ) → Headed s → head_refusal s ≡ 0
unfolding head_refusal counts_refusal
headed_passes s d =
    rw (
      le-ltb (length s) 8 d.long,
      eq-eqb (length_of s) (length s) d.whole,
      le-ltb (version_of s) 1 d.version,
      le-ltb most_version (version_of s) d.latest,
      le-ltb (cells_of s) 1 d.some,
      le-ltb 64 (cells_of s) d.few,
      le-ltb 512 (links_of s) d.most,
      eq-eqb (length_of s) (link_place s (links_of s)) (d.whole ∙ d.sized),
    )

-- ---- where the links lie
-- a link takes at most 4 bytes
pub start_most : (s : List ℕ) (n k : ℕ) → link_start s n k ≤ 8 + 4 * n + 4 * k
start_most s n k =
    let h : link_width s ≤ 4 = omega (arith, (label-width (version_of s)).most) in
    omega (arith, mul-le-mul_right k h)

-- they start after the header
pub start_long : (s : List ℕ) (n k : ℕ) → link_start s n k ≤ length s → 8 ≤ length s
start_long s n k h = omega arith

-- each link lies whole in the book
pub link_room : (s : List ℕ) → Headed s → (k : ℕ) → k < links_of s → link_place s k + link_width s ≤ length s
link_room s d k h = omega (arith, mul-le-mul_left (link_width s) h, d.sized)

-- ---- triples in order
-- the first numbers rise, or they are equal and the rest does
abbrev pub Below : ℕ → ℕ → Type 0 → Type 0
Below m n rest = (m < n) ⊎ ((m ≡ n) × rest)

-- "strictly rising as triples"
abbrev pub Precedes : Link → Link → Type 0
Precedes j k = Below j.from k.from (Below j.label k.label (j.to < k.to))

pair_iff : {A B C D : Type 0} → A ↔ C → B ↔ D → (A × B) ↔ (C × D)
pair_iff f g = (λ (a, b). (f.0 a, g.0 b), λ (c, d). (f.1 c, g.1 d))

both_iff : {A B C : Type 0} → A ↔ B → B ↔ C → A ↔ C
both_iff f g = (λ a. g.0 (f.0 a), λ c. f.1 (g.1 c))

below_iff : (m n : ℕ) (t : Bool) {T : Type 0} → So t ↔ T → So (below m n t) ↔ Below m n T
unfolding below
below_iff m n t f =
    both_iff (or_iff _ _) (sum_iff (ltb_iff m n) (both_iff (and_iff _ _) (pair_iff (eqb_iff m n) f)))

-- the test is the order
pub precedes_iff : (j k : Link) → So (precedes j k) ↔ Precedes j k
unfolding precedes
precedes_iff j k = below_iff _ _ _ (below_iff _ _ _ (ltb_iff _ _))

below_trans : {a b c : ℕ} {P Q R : Type 0} → (P → Q → R) → Below a b P → Below b c Q → Below a c R
below_trans f (inl h) (inl g) = inl (omega arith)
below_trans f (inl h) (inr (e, q)) = inl (omega arith)
below_trans f (inr (d, p)) (inl g) = inl (omega arith)
below_trans f (inr (d, p)) (inr (e, q)) = inr (d ∙ e, f p q)

pub precedes_trans : (i j k : Link) → Precedes i j → Precedes j k → Precedes i k
precedes_trans i j k = below_trans (below_trans (λ p q. omega arith))

-- a link that comes before another is not from a later cell
pub precedes_from : (j k : Link) → Precedes j k → j.from ≤ k.from
precedes_from j k (inl h) = omega arith
precedes_from j k (inr (e, h)) = omega arith

pub precedes_label : (j k : Link) → Precedes j k → j.from ≡ k.from → j.label ≤ k.label
precedes_label j k (inl h) e = absurd (omega arith)
precedes_label j k (inr (_, inl h)) e = omega arith
precedes_label j k (inr (_, inr (d, h))) e = omega arith

-- ---- the links
pub record Linked (s : List ℕ) (k : ℕ) : Type 0 where
  pub from : (link_at s k).from < cells_of s
  pub to : (link_at s k).to < cells_of s
  pub rises : So (rises s k)

-- what a link says that is not refused
pub linked : (s : List ℕ) (k : ℕ) → link_refusal s k ≡ 0 → Linked s k
unfolding link_refusal
linked s k h =
    let (cells, r) = passed (leb (cells_of s) (link_at s k).from || leb (cells_of s) (link_at s k).to) 5 h in
    let (rise, _) = passed (not (rises s k)) 6 r in
    let (from, to) = or_false (leb (cells_of s) (link_at s k).from) _ cells in
    record { from = leb-false _ _ from; to = leb-false _ _ to; rises = not_false (rises s k) rise }

-- none of some links is refused
each_passes : (s : List ℕ) (k left : ℕ) → links_refusal s k left ≡ 0 → (i : ℕ) → k ≤ i → i < k + left → link_refusal s i ≡ 0
unfolding links_refusal
each_passes s k zero h i l m = absurd (omega arith)
each_passes s k (suc left) h i l m =
    let (first, rest) = first-zero (link_refusal s k) h in
    ⊎_elim (λ e. rw (← e) first) (λ n. each_passes s (suc k) left rest i n (omega arith)) (eq-or-lt_of_le l)

-- ---- an accepted book
-- its header is not refused, and none of its links
pub accepted_head : (s : List ℕ) → book_refusal s ≡ 0 → head_refusal s ≡ 0
unfolding book_refusal
accepted_head s r = (first-zero (head_refusal s) r).0

pub accepted_links : (s : List ℕ) → book_refusal s ≡ 0 → links_refusal s 0 (links_of s) ≡ 0
unfolding book_refusal
accepted_links s r = (first-zero (head_refusal s) r).1

-- its sizes
pub book_sizes : (s : List ℕ) → book_refusal s ≡ 0 → Headed s
book_sizes s r = headed s (accepted_head s r)

pub book_long : (s : List ℕ) → book_refusal s ≡ 0 → 8 ≤ length s
book_long s r = (book_sizes s r).long

pub cell_few : (s : List ℕ) (x : ℕ) → book_refusal s ≡ 0 → x < cells_of s → x < 64
cell_few s x r h = omega (arith, (book_sizes s r).few)

-- its links, each by itself
pub book_link : (s : List ℕ) → book_refusal s ≡ 0 → (k : ℕ) → k < links_of s → Linked s k
book_link s r k h = linked s k (each_passes s 0 (links_of s) (accepted_links s r) k (omega arith) (omega arith))

-- its links rise as triples
next-rises : (s : List ℕ) → book_refusal s ≡ 0 → (k : ℕ) → suc k < links_of s → Precedes (link_at s k) (link_at s (suc k))
unfolding rises
next-rises s r k h = (precedes_iff _ _).0 (book_link s r (suc k) h).rises

pub book_rises : (s : List ℕ) → book_refusal s ≡ 0 → (j k : ℕ) → j < k → k < links_of s → Precedes (link_at s j) (link_at s k)
book_rises s r j zero l h = absurd (omega arith)
book_rises s r j (suc k) l h =
    let next = next-rises s r k h in
    ⊎_elim (λ e. rw e next) (λ m. precedes_trans _ _ _ (book_rises s r j k m (omega arith)) next) (eq-or-lt_of_le (le_of_suc-le-suc l))

-- from cells do not fall
pub book_from : (s : List ℕ) → book_refusal s ≡ 0 → (j k : ℕ) → j ≤ k → k < links_of s → (link_at s j).from ≤ (link_at s k).from
book_from s r j k l h =
    ⊎_elim (λ e. rw e (le_refl _)) (λ m. precedes_from _ _ (book_rises s r j k m h)) (eq-or-lt_of_le l)

-- ---- its graph
inside_list : (n m : ℕ) (f : ℕ → Link) → ((i : ℕ) → i < m → ((f i).from < n) × ((f i).to < n)) → Inside n (list m f)
unfolding Inside list
inside_list n zero f h = tt
inside_list n (suc m) f h =
    ((h 0 (omega arith)).0, (h 0 (omega arith)).1, inside_list n m (λ i. f (suc i)) (λ i l. h (suc i) (suc-le-suc l)))

pub book_inside : (s : List ℕ) → book_refusal s ≡ 0 → Inside (cells_of s) (book_links s)
book_inside s r = inside_list _ _ _ (λ k h. let b = book_link s r k h in (b.from, b.to))

-- each cell has its recording
book_recording : (s : List ℕ) (x : ℕ) → x < cells_of s → get_or (book_recordings s) x 0 ≡ recording_at s x
book_recording s x h = list_at (cells_of s) (recording_at s) x 0 h

-- two cells pass a comparison where their recordings do
pub book_ends : (s : List ℕ) (t : Comparison) (x y : ℕ) → x < cells_of s → y < cells_of s
    → (graph_of s).ends t x y ≡ passes t (recording_at s x) (recording_at s y)
book_ends s t x y h l = ap₂ (passes t) (book_recording s x h) (book_recording s y l)

-- ---- the check's answer
pub answer_accepted : (s : List ℕ) → book_refusal s ≡ 0 → book_answer s ≡ Ok (counts_of s)
unfolding book_answer
answer_accepted s r = judged-ok _ _ r

pub answer_refused : (s : List ℕ) → (book_refusal s ≡ 0 → ⊥) → book_answer s ≡ Err (named (book_refusal s))
unfolding book_answer
answer_refused s f = judged-some _ _ f

-- ---- a book with its proof
-- is of the bytes that were lent to its check
pub lent_now : {E : Type 0} {r : Result Book E} {b : Book} (bytes : Bor (List ℕ)) → r ≡ Ok b → IfOk r (λ b. b.bytes ≡ bytes) → b.bytes.now ≡ bytes.now
lent_now bytes e h = ap (λ x. x.now) (IfOk-at_ok (λ b. b.bytes ≡ bytes) e h)
