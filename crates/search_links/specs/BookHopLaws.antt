-- The links of an accepted book, loaded and with their table of starts, are the hops of its graph.
use Rattle.std.specs.Prelude.{Bool, true, false, cond, ◌≡◌, eqb, get_or}
use Rattle.std.proofs.Math.Path.{refl, ap₂}
use Rattle.std.proofs.Common.{sym, ap, ◌∙◌, ⊎_elim, eq-or-lt_of_le}
use mathlib.Core.List.{List, [], ◌∷◌, ◌++◌, append-nil}
use Prim.Native.Nat.{ℕ, zero, suc, ◌+◌, ◌-◌, ◌≤◌, ◌<◌}
use native.Mathlib.Omega.{arith}
use borrow.Author.Tests.{eq-eqb, ne_eqb, leb-true, leb-false}
use Rattle.std.proofs.Math.Dec.{leb}
use Rattle.theory.specs.Search.{list}
use Rattle.theory.proofs.TestLaws.{le-or-lt}
use Rattle.theory.specs.Graph.{Link}
use Rattle.theory.specs.Path.{Hop, hop, out}
use Rattle.words.specs.Laws.{first_there, first_least, first-le}
use Rattle.book.specs.Book.{book_refusal}
use Rattle.book.specs.BookGraph.{seen_of}
use Rattle.book.specs.SeenLaws.{seen_from, seen_labels}
use Rattle.edges.specs.Edges.{edge_at, edges, Held}
use Rattle.edges.specs.BookEdges.{Loaded}
use Rattle.search_links.specs.Hops.{view_of, hop_at, hops_from, hops_of, Opened, Ordered, lead, Starts}

-- ---- the first link from a node or a later one
module _ (count : ℕ) (fs : List ℕ) (x : ℕ) where
  pub lead-le : lead count fs x ≤ count
  unfolding lead
  lead-le = first-le count _

  pub lead-below : (i : ℕ) → i < lead count fs x → get_or fs i 0 < x
  unfolding lead
  lead-below i h = leb-false x (get_or fs i 0) (first_least count _ i h)

  pub lead-at : lead count fs x < count → x ≤ get_or fs (lead count fs x) 0
  unfolding lead
  lead-at h = leb-true x _ (first_there count (λ k. leb x (get_or fs k 0)) h)

pub lead-rises : (count : ℕ) (fs : List ℕ) (x : ℕ) → lead count fs x ≤ lead count fs (x + 1)
lead-rises count fs x =
    ⊎_elim (λ h. h) (λ h. absurd (omega (arith, lead-le count fs x, lead-below count fs x (lead count fs (x + 1)) h, high h))) (le-or-lt _ _)
  where
    high : lead count fs (x + 1) < lead count fs x → x + 1 ≤ get_or fs (lead count fs (x + 1)) 0
    high h = lead-at count fs (x + 1) (omega (arith, lead-le count fs x))

-- ---- links in a row
edges_from : List ℕ → List ℕ → List ℕ → ℕ → ℕ → List Link
edges_from fs ls ts k zero = []
edges_from fs ls ts k (suc n) = edge_at fs ls ts k ∷ edges_from fs ls ts (suc k) n

out-append : (a b : List Link) (x : ℕ) → out (a ++ b) x ≡ out a x ++ out b x
unfolding out
out-append [] b x = refl
out-append (l ∷ a) b x = by (eqb l.from x) (out-append a b x)
  where
    by : (c : Bool) → out (a ++ b) x ≡ out a x ++ out b x
        → cond c (hop l.label l.to ∷ out (a ++ b) x) (out (a ++ b) x) ≡ cond c (hop l.label l.to ∷ out a x) (out a x) ++ out b x
    by true e = ap (λ (hs : List Hop). hop l.label l.to ∷ hs) e
    by false e = e

module _ (fs ls ts : List ℕ) where
  listed : (k n : ℕ) (f : ℕ → Link) → ((i : ℕ) → f i ≡ edge_at fs ls ts (k + i)) → list n f ≡ edges_from fs ls ts k n
  unfolding list edges_from
  listed k zero f h = refl
  listed k (suc n) f h =
      let z : k + 0 ≡ k = omega arith in
      ap₂ ◌∷◌ (rw z at (h 0)) (listed (suc k) n (λ i. f (suc i)) (λ i. let e : suc k + i ≡ k + suc i = omega arith in rw e (h (suc i))))

  split : (k n m : ℕ) → edges_from fs ls ts k (n + m) ≡ edges_from fs ls ts k n ++ edges_from fs ls ts (k + n) m
  unfolding edges_from
  split k zero m = let e : k + 0 ≡ k = omega arith in let f : 0 + m ≡ m = omega arith in rw (e, f)
  split k (suc n) m =
      let e : suc n + m ≡ suc (n + m) = omega arith in
      let f : k + suc n ≡ suc k + n = omega arith in
      rw (e, f) (ap (λ (rest : List Link). edge_at fs ls ts k ∷ rest) (split (suc k) n m))

  -- links that are not from x
  out_none : (k n x : ℕ) → ((i : ℕ) → k ≤ i → i < k + n → get_or fs i 0 ≡ x → ⊥) → out (edges_from fs ls ts k n) x ≡ []
  unfolding out edges_from
  out_none k zero x f = refl
  out_none k (suc n) x f =
      rw (ne_eqb (get_or fs k 0) x (f k (omega arith) (omega arith))) (out_none (suc k) n x (λ i a b. f i (omega arith) (omega arith)))

  module _ (starts : List ℕ) where
    -- links that are all from x
    out_all : (k n x : ℕ) → ((i : ℕ) → k ≤ i → i < k + n → get_or fs i 0 ≡ x) → out (edges_from fs ls ts k n) x ≡ hops_from (view_of starts ls ts) k n
    unfolding out hops_from edges_from
    out_all k zero x f = refl
    out_all k (suc n) x f =
        rw (eq-eqb (get_or fs k 0) x (f k (omega arith) (omega arith)))
        (ap (λ (hs : List Hop). hop_at (view_of starts ls ts) k ∷ hs) (out_all (suc k) n x (λ i a b. f i (omega arith) (omega arith))))

    module _ (count : ℕ) (held : Held count fs ts) (t : Starts count fs starts) where
      -- all links are from nodes below 64
      lead_all : lead count fs 64 ≡ count
      lead_all =
          ⊎_elim (λ e. e) (λ l. absurd (omega (arith, lead-at count fs 64 l, held.from_low (lead count fs 64) l)))
          (eq-or-lt_of_le (lead-le count fs 64))

      whole : get_or starts 64 0 ≡ count
      whole = t.each 64 (omega arith) ∙ lead_all

      links_opened : Opened starts ts
      links_opened = record {
        few = omega (arith, whole, held.few);
        within = λ x h. omega (arith, whole, t.each x (omega arith), lead-le count fs x);
        low = λ k h. held.to_low k (omega (arith, whole));
      }

      module _ (rising : (j k : ℕ) → j ≤ k → k < count → get_or fs j 0 ≤ get_or fs k 0) where
        -- the links from the first out of node y on are from it or a later one
        from_at : (y i : ℕ) → lead count fs y ≤ i → i < count → y ≤ get_or fs i 0
        from_at y i p q = omega (arith, lead-at count fs y (omega arith), rising (lead count fs y) i p q)

        -- those out of node x are from it
        from_is : (x i : ℕ) → x < 64 → get_or starts x 0 ≤ i → i < get_or starts (x + 1) 0 → get_or fs i 0 ≡ x
        from_is x i l p q =
            let da = t.each x (omega arith) in
            let db = t.each (x + 1) (omega arith) in
            omega (arith, lead-below count fs (x + 1) i (omega arith), from_at x i (omega arith) (omega (arith, lead-le count fs (x + 1))))

        pub links_ordered : ((j k : ℕ) → j ≤ k → k < count → get_or fs j 0 ≡ get_or fs k 0 → get_or ls j 0 ≤ get_or ls k 0) → Ordered (view_of starts ls ts)
        links_ordered labels = record {
          opened = links_opened;
          rising = λ x j k l p m q.
              labels j k m (omega (arith, t.each (x + 1) (omega arith), lead-le count fs (x + 1)))
              (from_is x j l p (omega arith) ∙ sym (from_is x k l (omega arith) q));
        }

        pub links_out : (x : ℕ) → x < 64 → out (edges count fs ls ts) x ≡ hops_of (view_of starts ls ts) x
        links_out x h = parts (get_or starts x 0) (get_or starts (x + 1) 0) refl refl (t.each x (omega arith)) (t.each (x + 1) (omega arith))
          where
            parts : (a b : ℕ) → a ≡ get_or starts x 0 → b ≡ get_or starts (x + 1) 0 → a ≡ lead count fs x → b ≡ lead count fs (x + 1) → out (edges count fs ls ts) x ≡ hops_from (view_of starts ls ts) a (b - a)
            parts a b sa sb da db =
                let l : b ≤ count = omega (arith, lead-le count fs (x + 1)) in
                let m : a ≤ b = omega (arith, lead-rises count fs x) in
                let e : count ≡ a + ((b - a) + (count - b)) = omega arith in
                let f : 0 + a ≡ a = omega arith in
                let g : a + (b - a) ≡ b = omega arith in
                ap (λ (ks : List Link). out ks x) (listed 0 count (edge_at fs ls ts) (λ i. let z : 0 + i ≡ i = omega arith in rw z))
                ∙ ap (λ (n : ℕ). out (edges_from fs ls ts 0 n) x) e
                ∙ ap (λ (ks : List Link). out ks x) (split 0 a ((b - a) + (count - b)) ∙ ap (λ (ks : List Link). edges_from fs ls ts 0 a ++ ks) (rw f (split a (b - a) (count - b))))
                ∙ out-append (edges_from fs ls ts 0 a) (edges_from fs ls ts a (b - a) ++ edges_from fs ls ts (a + (b - a)) (count - b)) x
                ∙ ap₂ (λ (p q : List Hop). p ++ q) (out_none 0 a x before)
                (out-append (edges_from fs ls ts a (b - a)) (edges_from fs ls ts (a + (b - a)) (count - b)) x
                ∙ ap₂ (λ (p q : List Hop). p ++ q) (out_all a (b - a) x within) (rw g (out_none b (count - b) x after)) ∙ append-nil _)
              where
                before : (i : ℕ) → 0 ≤ i → i < 0 + a → get_or fs i 0 ≡ x → ⊥
                before i p q e = omega (arith, lead-below count fs x i (omega arith))

                within : (i : ℕ) → a ≤ i → i < a + (b - a) → get_or fs i 0 ≡ x
                within i p q = from_is x i h (omega arith) (omega arith)

                after : (i : ℕ) → b ≤ i → i < b + (count - b) → get_or fs i 0 ≡ x → ⊥
                after i p q e = omega (arith, from_at (x + 1) i (omega arith) (omega (arith, lead-le count fs (x + 1))))

-- ---- an accepted book
module _ (h : ℕ) (s : List ℕ) (count : ℕ) (fs ls ts starts : List ℕ) (r : book_refusal s ≡ 0) (d : Loaded h s count fs ls ts) (t : Starts count fs starts) where
  -- the search may read the links that are seen by number, in order
  pub seen_ordered : Ordered (view_of starts ls ts)
  seen_ordered = links_ordered fs ls ts starts count d.held t (seen_from h s r count (edge_at fs ls ts) d.is) (seen_labels h s r count (edge_at fs ls ts) d.is)

  -- and finds the hops of the graph that is seen
  pub seen_out : (x : ℕ) → x < 64 → out (seen_of h s).links x ≡ hops_of (view_of starts ls ts) x
  seen_out x l = rw (← d.is) (links_out fs ls ts starts count d.held t (seen_from h s r count (edge_at fs ls ts) d.is) x l)
