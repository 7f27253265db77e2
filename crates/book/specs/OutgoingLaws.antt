-- The links out of a cell of an accepted book are one run of its links, and the part that Links hands out holds exactly these.
--
use Rattle.std.specs.Prelude.{Bool, true, false, cond, ◌⊎◌, ◌≡◌, List, ◌∷◌, eqb, ltb, leb, drop, Result, Ok, Err}
use Rattle.outcome.specs.Refused.{named, of_part}
use Rattle.outcome.specs.declared.Refusal.TheVariants as says
use Rattle.outcome.specs.declared.Part.TheVariants as part
use Rattle.outcome.specs.declared.Refused.{Refused}
use Rattle.book.specs.declared.LinksPart.{LinksPart}
use Rattle.std.proofs.Common.{inl, inr, ⊎_elim, ap₂, ◌∙◌, mul-le-mul_left, le_of_suc-le-suc, mul-zero, arith, length-drop, length-take-le}
use Rattle.std.proofs.Math.Path.{refl, sym, ap}
use Prim.Native.Nat.{ℕ, zero, suc, ◌+◌, ◌*◌, ◌/◌, ◌≤◌, ◌<◌, suc-le-suc}
use Rattle.std.proofs.Math.Nat.{mul-sub, mul-div_cancel_left}
use borrow.Author.Tests.{ltb-true, ltb-false, eqb-true, eq-eqb, ne_eqb, lt-leb}
use Rattle.std.proofs.Math.ListN.{length, take}
use Rattle.fields.specs.Fields.{field}
use Rattle.fields.specs.Laws.{field-take, field-drop}
use Rattle.fields.specs.Label.{label_width}
use Rattle.theory.proofs.TestLaws.{list_ext}
use Rattle.theory.specs.Search.{list}
use Rattle.theory.specs.Graph.{Link}
use Rattle.theory.specs.Path.{out}
use Rattle.book.specs.Book.{version_of, cells_of, links_of, link_width, link_place, link_in, link_at, book_refusal}
use Rattle.book.specs.BookGraph.{graph_of}
use Rattle.book.specs.BookLinks.{links_before, first_link, count_out, part_from, links_answer, part_of, links_part, hop_of, hops_in}
use Rattle.book.specs.AcceptedLaws.{book_sizes, book_from}

-- ---- the links before the first that is not below x
-- k links are from cells below x, and the next is not
pub record Before (x n : ℕ) (f : ℕ → Link) (k : ℕ) : Type 0 where
  pub most : k ≤ n
  pub below : (j : ℕ) → j < k → (f j).from < x
  pub stop : k < n → x ≤ (f k).from

-- such is the number of links before
before : (x n : ℕ) (f : ℕ → Link) → Before x n f (links_before x (list n f))
unfolding links_before list
before x zero f = record { most = omega arith; below = λ j h. absurd (omega arith); stop = λ h. absurd (omega arith) }
before x (suc n) f = go (before x n (λ i. f (suc i))) (ltb (f 0).from x) refl
  where
    go : {k : ℕ} → Before x n (λ i. f (suc i)) k → (t : Bool) → ltb (f 0).from x ≡ t → Before x (suc n) f (cond t (suc k) 0)
    go b true e =
        record { most = suc-le-suc b.most; below = λ j. lower b (ltb-true _ _ e) j; stop = λ h. b.stop (le_of_suc-le-suc h) }
      where
        lower : {k : ℕ} → Before x n (λ i. f (suc i)) k → (f 0).from < x → (j : ℕ) → j < suc k → (f j).from < x
        lower b l zero h = l
        lower b l (suc j) h = b.below j (le_of_suc-le-suc h)
    go b false e = record { most = omega arith; below = λ j h. absurd (omega arith); stop = λ h. ltb-false _ _ e }

-- and no other
pub before_is : (x n : ℕ) (f : ℕ → Link) (k : ℕ) → Before x n f k → links_before x (list n f) ≡ k
before_is x n f k b =
    let a = before x n f in
    let m = links_before x (list n f) in
    let no_less : m < k → ⊥ = λ h. omega (arith, b.below m h, a.stop (omega arith)) in
    let no_more : k < m → ⊥ = λ h. omega (arith, a.below k h, b.stop (omega arith)) in
    omega arith

-- the links before a later cell's are no fewer
pub before-rises : (x n : ℕ) (f : ℕ → Link) → links_before x (list n f) ≤ links_before (x + 1) (list n f)
before-rises x n f =
    let a = before x n f in
    let b = before (x + 1) n f in
    let no_less : links_before (x + 1) (list n f) < links_before x (list n f) → ⊥ =
    λ h. omega (arith, a.below (links_before (x + 1) (list n f)) h, b.stop (omega arith)) in
    omega arith

-- ---- the run of links out of a cell
-- the hops out of x, where the links out of x are the m from link a on
run_out : (n : ℕ) (f : ℕ → Link) (x a m : ℕ) → a + m ≤ n → ((j : ℕ) → a ≤ j → j < a + m → (f j).from ≡ x)
    → ((j : ℕ) → j < n → (j < a) ⊎ (a + m ≤ j) → (f j).from ≡ x → ⊥) → out (list n f) x ≡ list m (λ i. hop_of (f (a + i)))
unfolding out list
run_out zero f x a zero l h g = refl
run_out zero f x a (suc m) l h g = absurd (omega arith)
run_out (suc n) f x (suc a) m l h g =
    rw (ne_eqb (f 0).from x (g 0 (omega arith) (inl (omega arith))))
    (run_out n (λ i. f (suc i)) x a m (omega arith) (λ j p q. h (suc j) (omega arith) (omega arith))
    (λ j p q. g (suc j) (omega arith) (⊎_elim (λ r. inl (omega arith)) (λ r. inr (omega arith)) q))
    ∙ list_ext m _ _ (λ i p. let e : suc (a + i) ≡ suc a + i = omega arith in rw e))
run_out (suc n) f x zero (suc m) l h g =
    rw (eq-eqb (f 0).from x (h 0 (omega arith) (omega arith)))
    (ap₂ ◌∷◌ refl
    (run_out n (λ i. f (suc i)) x 0 m (omega arith) (λ j p q. h (suc j) (omega arith) (omega arith))
    (λ j p q. g (suc j) (omega arith) (⊎_elim (λ r. absurd (omega arith)) (λ r. inr (omega arith)) q))
    ∙ list_ext m _ _ (λ i p. let e : suc (0 + i) ≡ 0 + suc i = omega arith in rw e)))
run_out (suc n) f x zero zero l h g =
    rw (ne_eqb (f 0).from x (g 0 (omega arith) (inr (omega arith))))
    (run_out n (λ i. f (suc i)) x 0 0 (omega arith) (λ j p q. absurd (omega arith))
    (λ j p q. g (suc j) (omega arith) (inr (omega arith))))

-- the links out of lower cells come first
pub first-before : (s : List ℕ) (x : ℕ) → Before x (links_of s) (link_at s) (first_link s x)
unfolding first_link
first-before s x = before x (links_of s) (link_at s)

-- the next cell's links come no earlier
pub first-rises : (s : List ℕ) (x : ℕ) → first_link s x ≤ first_link s (x + 1)
unfolding first_link
first-rises s x = before-rises x (links_of s) (link_at s)

-- every link from the first one on is from x or a later cell
pub from_first : (s : List ℕ) → book_refusal s ≡ 0 → (x k : ℕ) → first_link s x ≤ k → k < links_of s → x ≤ (link_at s k).from
from_first s r x k l h =
    omega (arith, (first-before s x).stop (omega arith), book_from s r (first_link s x) k l h)

-- the hops out of x are those of the links from its first to the next cell's first
pub book_out : (s : List ℕ) → book_refusal s ≡ 0 → (x : ℕ)
    → out (graph_of s).links x ≡ list (count_out s x) (λ i. hop_of (link_at s (first_link s x + i)))
book_out s r x =
    let a = first-before s x in
    let b = first-before s (x + 1) in
    let up = first-rises s x in
    run_out (links_of s) (link_at s) x (first_link s x) (count_out s x) (omega (arith, b.most))
    (λ j p q. omega (arith, from_first s r x j p (omega (arith, b.most)), b.below j (omega arith)))
    (λ j p q e. ⊎_elim (λ h. omega (arith, a.below j h)) (λ h. omega (arith, from_first s r (x + 1) j (omega arith) p)) q)

-- ---- the part
-- a link of a part is a link of the whole
part-link : (w : ℕ) (s : List ℕ) (size start at : ℕ) → at + (2 + w) ≤ size → link_in w (take size (drop start s)) at ≡ link_in w s (start + at)
unfolding link_in
part-link w s size start at h =
    let moved : (v to : ℕ) → to + v ≤ size → field v (take size (drop start s)) to ≡ field v s (start + to) =
    λ v to l. field-take v size (drop start s) to l ∙ field-drop v start s to in
    let label : start + (at + 1) ≡ start + at + 1 = omega arith in
    let last : start + (at + 1 + w) ≡ start + at + 1 + w = omega arith in
    rw (moved 1 at (omega arith), moved w (at + 1) (omega arith), moved 1 (at + 1 + w) (omega arith), label, last)

-- the links out of x end in the book
run_room : (s : List ℕ) → book_refusal s ≡ 0 → (x : ℕ) → link_place s (first_link s x) + link_width s * count_out s x ≤ length s
run_room s r x =
    let d = book_sizes s r in
    let m = mul-le-mul_left (link_width s) (first-before s (x + 1)).most in
    let k = mul-le-mul_left (link_width s) (first-rises s x) in
    omega (arith, d.sized, mul-sub (link_width s) (first_link s (x + 1)) (first_link s x))

-- where an answer speaks of a part, the book is accepted
pub part-accepted : (s : List ℕ) (x : ℕ) (p : LinksPart) → links_answer s x ≡ Ok p → book_refusal s ≡ 0
unfolding links_answer
part-accepted s x p e = go (eqb (book_refusal s) 0) refl e
  where
    go : (t : Bool) → eqb (book_refusal s) 0 ≡ t
        → ◌≡◌ {A = Result LinksPart Refused} (cond t (cond (leb (cells_of s) x) (Err (of_part part.Call says.NoPlace)) (Ok (part_from s (first_link s x) (count_out s x)))) (Err (of_part part.LeftBook (named (book_refusal s))))) (Ok p)
        → book_refusal s ≡ 0
    go true d e = eqb-true _ _ d
    go false d e = cc

-- and the part lies in it
pub part_room : (s : List ℕ) (x : ℕ) (p : LinksPart) → links_answer s x ≡ Ok p → p.start + link_width s * p.count ≤ length s
unfolding links_answer part_from
part_room s x p e = let r = part-accepted s x p e in go r (leb (cells_of s) x) (rw (eq-eqb (book_refusal s) 0 r) at e)
  where
    run : (k m : ℕ) → link_place s k + link_width s * m ≤ length s → part_from s k m ≡ p → p.start + link_width s * p.count ≤ length s
    run k zero h e = rw (← e, mul-zero (link_width s)) (omega arith)
    run k (suc m) h e = rw (← e) h

    go : book_refusal s ≡ 0 → (u : Bool) → ◌≡◌ {A = Result LinksPart Refused} (cond u (Err (of_part part.Call says.NoPlace)) (Ok (part_from s (first_link s x) (count_out s x)))) (Ok p)
        → p.start + link_width s * p.count ≤ length s
    go r true e = absurd (let z : ◌≡◌ {A = ℕ} 0 1 = cc in omega arith)
    go r false e = run (first_link s x) (count_out s x) (run_room s r x) (let z : part_from s (first_link s x) (count_out s x) ≡ p = cc in z)

module _ (s : List ℕ) (r : book_refusal s ≡ 0) (x : ℕ) (h : x < cells_of s) where
  -- what Links hands out are the bytes of the links from the first out of x on
  pub part_is : links_part s x ≡ take (link_width s * count_out s x) (drop (link_place s (first_link s x)) s)
  unfolding links_answer part_from part_of
  part_is = rw (eq-eqb (book_refusal s) 0 r, lt-leb (cells_of s) x h) (go (count_out s x))
    where
      go : (m : ℕ) → part_of s (Ok (part_from s (first_link s x) m)) ≡ take (link_width s * m) (drop (link_place s (first_link s x)) s)
      go zero = rw (mul-zero (link_width s))
      go (suc m) = refl

  pub part_length : length (links_part s x) ≡ link_width s * count_out s x
  part_length = rw part_is (length-take-le _ _ (rw length-drop (omega (arith, run_room s r x))))

  -- read as hops, it is exactly the hops out of x
  pub part_out : hops_in (label_width (version_of s)) (links_part s x) ≡ out (graph_of s).links x
  unfolding hops_in link_at
  part_out =
      ap (λ (n : ℕ). list n (λ k. hop_of (link_in (label_width (version_of s)) (links_part s x) (link_width s * k)))) count
      ∙ list_ext (count_out s x) _ _ (λ i l. ap hop_of (each i l))
      ∙ sym (book_out s r x)
    where
      count : length (links_part s x) / link_width s ≡ count_out s x
      count = rw part_length (mul-div_cancel_left (count_out s x) (omega arith))

      each : (i : ℕ) → i < count_out s x → link_in (label_width (version_of s)) (links_part s x) (link_width s * i) ≡ link_at s (first_link s x + i)
      each i l =
          let place : link_place s (first_link s x) + link_width s * i ≡ link_place s (first_link s x + i) = omega arith in
          rw part_is (part-link (label_width (version_of s)) s (link_width s * count_out s x) (link_place s (first_link s x)) (link_width s * i)
          (omega (arith, mul-le-mul_left (link_width s) l))
          ∙ rw place)
