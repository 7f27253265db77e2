-- What each way out of the functions shows of the definitions of `specs/`. The numbers that the code computed are variables here, with
-- what is known of them, so that `search` finds them in a need's record.
use mathlib.Core.Path.{◌≡◌, refl, sym, ap, ◌∙◌}
use mathlib.Core.Bool.{Bool, true, false, not, So, cond, ◌&&◌, ◌||◌}
use mathlib.Core.List.{List, []}
use mathlib.Core.Logic.{⊎_elim}
use Prim.Native.Nat.{ℕ, zero, suc, ◌+◌, ◌-◌, ◌*◌, ◌^◌, ◌≤◌, ◌<◌}
use native.Mathlib.Nat.{mul-le-mul_right, eq-or-lt_of_le}
use native.Mathlib.Numerals.{add-one}
use native.Mathlib.Omega.{arith}
use borrow.Author.Tests.{lt-ltb, le-ltb, ltb-true, le-leb, lt-leb, leb-true, eq-eqb, ne_eqb, not-false, not-true}
use lib.Dec.{eqb, ltb}
use Rattle.std.specs.Ordering.{is_lt, is_some_and, nat_cmp, partial_ordering_then}
use Rattle.std.proofs.Common.{Ordering, Less, Equal, Greater}
use Rattle.std.specs.Prelude.{Option, None, Some, Result, Ok, Err}
use Rattle.std.proofs.lemmas.Option.{none-some, same_Some}
use Rattle.outcome.specs.Refused.{number, named, of_part}
use Rattle.outcome.specs.declared.Refusal.{Refusal}
use Rattle.outcome.specs.declared.Refused.{Refused}
use Rattle.outcome.specs.declared.Refusal.TheVariants as says
use Rattle.outcome.specs.declared.Part.TheVariants as part
use Rattle.book.specs.declared.LinksPart.{LinksPart}
use lib.ListN.{length, take, drop, get_or}
use lib.Pow.{pow_pos}
use mir.Syntax.{w8}
use mir.Val.{Fits}
use Rattle.fields.specs.Fields.{field}
use Rattle.fields.specs.Laws.{byte}
use Rattle.fields.specs.Label.{label_width}
use Rattle.theory.proofs.TestLaws.{test_eq}
use Rattle.theory.specs.Graph.{same, compared, link}
use Rattle.book.specs.BookGraph.{heard, passes, hides, hides_beyond, seen_recording}
use Rattle.outcome.specs.Refusals.{first_of}
use Rattle.outcome.specs.RefusalLaws.{first_none, first_some, judged-err}
use Rattle.book.specs.Book.{length_of, version_of, most_version, cells_of, links_of, recording_place, recording_at, link_width, link_start, link_place, link_in, link_at, counts_refusal, head_refusal, below, precedes, preceding, rises, link_refusal, links_refusal, book_refusal, book_answer, as_link}
use Rattle.book.specs.AcceptedLaws.{headed, start_most, link_room, book_sizes, book_long, cell_few, answer_accepted}
use Rattle.book.specs.OutgoingLaws.{before_is, first-before, first-rises, part-accepted, part_room}
use Rattle.book.specs.BookLinks.{links_before, links_after, first_link, RangeOut, part_from, links_answer, part_of, links_part}
use Rattle.book.specs.declared.BookLink.{BookLink}

-- ---- places
pub width_is : (s : List ℕ) (v w : ℕ) → v ≡ version_of s → w ≡ label_width v → 2 + w ≡ link_width s
width_is s v w d e = rw (← d) (omega arith)

-- a link takes at most 4 bytes
pub links_size : (w k : ℕ) → w ≤ 4 → w * k ≤ 4 * k
links_size w k h = mul-le-mul_right k h

module _ (s : List ℕ) (n w k : ℕ) (dw : w ≡ link_width s) where
  pub start_is : 8 + 4 * n + w * k ≡ link_start s n k
  start_is = rw dw

  pub start_small : 8 + 4 * n + w * k ≤ 8 + 4 * n + 4 * k
  start_small = rw dw (start_most s n k)

-- ---- the header
pub head_short : (s : List ℕ) → length s < 8 → 1 ≡ head_refusal s
unfolding head_refusal
head_short s h = simp (lt-ltb (length s) 8 h)

module _ (s : List ℕ) (l : ℕ) (d : l ≡ length_of s) (a : 8 ≤ length s) where
  pub head_whole : (l ≡ length s → ⊥) → 2 ≡ head_refusal s
  unfolding head_refusal
  head_whole b = simp (le-ltb (length s) 8 a, ne_eqb (length_of s) (length s) (λ p. b (d ∙ p)))

  module _ (b : l ≡ length s) (v : ℕ) (dv : v ≡ version_of s) where
    pub head_unversioned : v < 1 → 3 ≡ head_refusal s
    unfolding head_refusal
    head_unversioned f = simp (le-ltb (length s) 8 a, eq-eqb (length_of s) (length s) (sym d ∙ b), ← dv, lt-ltb v 1 f)

    module _ (f : 1 ≤ v) where
      pub head_newer : most_version < v → 3 ≡ head_refusal s
      unfolding head_refusal
      head_newer g = simp (le-ltb (length s) 8 a, eq-eqb (length_of s) (length s) (sym d ∙ b), ← dv, le-ltb v 1 f, lt-ltb most_version v g)

      pub head_counts : v ≤ most_version → (r : ℕ) → r ≡ counts_refusal s → r ≡ head_refusal s
      unfolding head_refusal
      head_counts g r dr = simp (le-ltb (length s) 8 a, eq-eqb (length_of s) (length s) (sym d ∙ b), ← dv, le-ltb v 1 f, le-ltb most_version v g) dr

-- ---- its counts
module _ (s : List ℕ) (n : ℕ) (dn : n ≡ cells_of s) where
  pub counts_none : n < 1 → 4 ≡ counts_refusal s
  unfolding counts_refusal
  counts_none h = simp (← dn, lt-ltb n 1 h)

  module _ (h : 1 ≤ n) where
    pub counts_many : 64 < n → 4 ≡ counts_refusal s
    unfolding counts_refusal
    counts_many k = simp (← dn, le-ltb n 1 h, lt-ltb 64 n k)

    module _ (k : n ≤ 64) (e : ℕ) (de : e ≡ links_of s) where
      pub counts_links : 512 < e → 4 ≡ counts_refusal s
      unfolding counts_refusal
      counts_links m = simp (← dn, ← de, le-ltb n 1 h, le-ltb 64 n k, lt-ltb 512 e m)

      module _ (m : e ≤ 512) (l p : ℕ) (dl : l ≡ length_of s) (dp : p ≡ link_place s e) where
        place : p ≡ link_place s (links_of s)
        place = dp ∙ ap (link_place s) de

        in_range : (ltb (cells_of s) 1 || (ltb 64 (cells_of s) || ltb 512 (links_of s))) ≡ false
        in_range = simp (← dn, ← de, le-ltb n 1 h, le-ltb 64 n k, le-ltb 512 e m)

        pub counts_formula : (l ≡ p → ⊥) → 5 ≡ counts_refusal s
        unfolding counts_refusal
        counts_formula f =
            rw (in_range, ne_eqb (length_of s) (link_place s (links_of s)) (λ q. f (dl ∙ q ∙ sym place)))

        pub counts_pass : l ≡ p → 0 ≡ counts_refusal s
        unfolding counts_refusal
        counts_pass q = rw (in_range, eq-eqb (length_of s) (link_place s (links_of s)) (sym dl ∙ q ∙ place))

-- ---- the fields of link k, in a book whose header is not refused
module _ (s : List ℕ) (k at : ℕ) (d : at ≡ link_place s k) (z : head_refusal s ≡ 0) (h : k < links_of s) where
  pub from_room : at < length s
  from_room = omega (arith, link_room s (headed s z) k h)

  module _ (v : ℕ) (dv : v ≡ version_of s) where
    pub label_room : at + 1 + label_width v ≤ length s
    label_room = rw dv (omega (arith, link_room s (headed s z) k h))

    module _ (width : ℕ) (dw : width ≡ label_width v) where
      pub to_room : at + 1 + width < length s
      to_room = rw (dw, dv) (omega (arith, link_room s (headed s z) k h))

      pub link_read : (label : ℕ) → label ≡ field (label_width v) s (at + 1)
          → link (get_or s at 0) label (get_or s (at + 1 + width) 0) ≡ link_at s k
      unfolding link_at link_in
      link_read label q = rw (byte s at, byte s (at + 1 + width), q, d, dw, dv)

pub head_long : (s : List ℕ) → head_refusal s ≡ 0 → 8 ≤ length s
head_long s z = (headed s z).long

pub head_few : (s : List ℕ) (k : ℕ) → head_refusal s ≡ 0 → k < links_of s → k ≤ 512
head_few s k z h = omega (arith, (headed s z).most)

-- ---- triples in order
-- what a derived order tells of the first numbers and the rest
below_is : (m n : ℕ) (rest : Option Ordering) → is_some_and is_lt (partial_ordering_then (Some (nat_cmp m n)) rest) ≡ below m n (is_some_and is_lt rest)
unfolding below
below_is m n rest = go (ltb m n) (eqb m n)
  where
    go : (t u : Bool) → is_some_and is_lt (partial_ordering_then (Some (cond t Less (cond u Equal Greater))) rest) ≡ (t || (u && is_some_and is_lt rest))
    go true u = refl
    go false true = refl
    go false false = refl

last_is : (m n : ℕ) → is_some_and is_lt (Some (nat_cmp m n)) ≡ ltb m n
last_is m n = go (ltb m n) (eqb m n)
  where
    go : (t u : Bool) → is_some_and is_lt (Some (cond t Less (cond u Equal Greater))) ≡ t
    go true u = refl
    go false true = refl
    go false false = refl

-- the order of links is that of triples
pub order_is : (j k : BookLink)
    → is_some_and is_lt (partial_ordering_then (Some (nat_cmp j.from k.from)) (partial_ordering_then (Some (nat_cmp j.label k.label)) (Some (nat_cmp j.to k.to))))
    ≡ precedes (as_link j) (as_link k)
unfolding precedes
order_is j k = rw (below_is j.from k.from, below_is j.label k.label, last_is j.to k.to)

-- ---- one link
module _ (s : List ℕ) (k n : ℕ) (dn : n ≡ cells_of s) (l : BookLink) (dl : as_link l ≡ link_at s k) where
  pub link_from : n ≤ l.from → 6 ≡ link_refusal s k
  unfolding link_refusal
  link_from h = simp (← dl, ← dn, le-leb n l.from h)

  module _ (f : l.from < n) where
    pub link-to : n ≤ l.to → 6 ≡ link_refusal s k
    unfolding link_refusal
    link-to h = simp (← dl, ← dn, lt-leb n l.from f, le-leb n l.to h)

    module _ (g : l.to < n) where
      inside : (t : Bool) → rises s k ≡ t → link_refusal s k ≡ cond (not t) 7 0
      unfolding link_refusal
      inside t e = simp (e, ← dl, ← dn, lt-leb n l.from f, lt-leb n l.to g)

      pub link-first : None ≡ preceding s k → 0 ≡ link_refusal s k
      unfolding rises
      link-first z = sym (inside true (go k z))
        where
          go : (k : ℕ) → None ≡ preceding s k → rises s k ≡ true
          go zero z = refl
          go (suc k) z = absurd (none-some _ z)

      module _ (b : BookLink) (db : Some (as_link b) ≡ preceding s k) (t : Bool) (dt : t ≡ precedes (as_link b) (as_link l)) where
        after : rises s k ≡ t
        unfolding rises
        after = go k db dl
          where
            go : (k : ℕ) → Some (as_link b) ≡ preceding s k → as_link l ≡ link_at s k → rises s k ≡ t
            go zero p q = absurd (none-some _ (sym p))
            go (suc k) p q = rw (← q, dt, same_Some _ _ p)

        pub link_above : So t → 0 ≡ link_refusal s k
        link_above e = sym (inside true (after ∙ e))

        pub link-below : t ≡ false → 7 ≡ link_refusal s k
        link-below e = sym (inside false (after ∙ e))

-- ---- the links, one turn at a time
pub preceding-next : (s : List ℕ) (k : ℕ) (l : BookLink) → as_link l ≡ link_at s k → Some (as_link l) ≡ preceding s (k + 1)
preceding-next s k l d = rw (add-one k, d)

module _ (s : List ℕ) (k : ℕ) (i : links_refusal s 0 (links_of s) ≡ links_refusal s k (links_of s - k)) where
  pub links_end : links_of s ≤ k → 0 ≡ links_refusal s 0 (links_of s)
  unfolding links_refusal
  links_end h = let z : links_of s - k ≡ 0 = omega arith in sym (i ∙ rw z)

  module _ (h : k < links_of s) (r : ℕ) (dr : r ≡ link_refusal s k) where
    turn : links_refusal s 0 (links_of s) ≡ first_of r (links_refusal s (k + 1) (links_of s - (k + 1)))
    unfolding links_refusal
    turn = let z : links_of s - k ≡ suc (links_of s - (k + 1)) = omega arith in i ∙ rw (z, dr, add-one k)

    pub links_stop : (r ≡ 0 → ⊥) → r ≡ links_refusal s 0 (links_of s)
    links_stop f = sym (turn ∙ first_some r _ f)

    pub links_next : r ≡ 0 → links_refusal s 0 (links_of s) ≡ links_refusal s (k + 1) (links_of s - (k + 1))
    links_next z = turn ∙ first_none r _ z

-- ---- the whole book
module _ (s : List ℕ) (h : ℕ) (d : h ≡ head_refusal s) where
  pub refusal_head : (h ≡ 0 → ⊥) → h ≡ book_refusal s
  unfolding book_refusal
  refusal_head f = rw (← d) (sym (first_some h _ f))

  module _ (z : h ≡ 0) where
    pub head_none : head_refusal s ≡ 0
    head_none = sym d ∙ z

    pub refusal_links : (r : ℕ) → r ≡ links_refusal s 0 (links_of s) → r ≡ book_refusal s
    unfolding book_refusal
    refusal_links r dr = rw (← d) (dr ∙ sym (first_none h _ z))

-- ---- an accepted book
module _ (s : List ℕ) (e : Refusal) (d : number e ≡ book_refusal s) where
  pub check_refused : Err e ≡ book_answer s
  unfolding book_answer
  check_refused = sym (judged-err _ _ e d)

module _ (s : List ℕ) where
  pub links_refused : (book_refusal s ≡ 0 → ⊥) → (x : ℕ) → Err (of_part part.LeftBook (named (book_refusal s))) ≡ links_answer s x
  unfolding links_answer
  links_refused f x = rw (ne_eqb (book_refusal s) 0 f)

module _ (s : List ℕ) (z : book_refusal s ≡ 0) where
  pub check_accepted : (n e : ℕ) → n ≡ cells_of s → e ≡ links_of s → Ok (record { cells = n; links = e }) ≡ book_answer s
  check_accepted n e p q = rw (p, q) (sym (answer_accepted s z))

  pub no_cell : (n x : ℕ) → n ≡ cells_of s → n ≤ x → Err (of_part part.Call says.NoPlace) ≡ links_answer s x
  unfolding links_answer
  no_cell n x dn h = rw (eq-eqb (book_refusal s) 0 z, ← dn, le-leb n x h)

  pub cell_part : (n x first end : ℕ) (p : LinksPart) → n ≡ cells_of s → x < n → RangeOut s x first end → p ≡ part_from s first (end - first) → Ok p ≡ links_answer s x
  unfolding links_answer
  cell_part n x first end p dn h g e = rw (eq-eqb (book_refusal s) 0 z, ← dn, lt-leb n x h, ← g.first, ← g.end, e)

-- ---- the readers
pub cell_test : (s : List ℕ) (n x : ℕ) → n ≡ cells_of s → ltb x n ≡ ltb x (cells_of s)
cell_test s n x d = rw d

pub recording_room : (s : List ℕ) (x : ℕ) → book_refusal s ≡ 0 → x < cells_of s → recording_place (x + 1) ≤ length s
recording_room s x z h = omega (arith, (book_sizes s z).sized)

-- ---- what is hidden
pub cell_fits : (s : List ℕ) (x : ℕ) → book_refusal s ≡ 0 → x < cells_of s → Fits w8 x
cell_fits s x z h = record { fits = omega (arith, cell_few s x z h) }

pub cells_few : (s : List ℕ) (n : ℕ) → book_refusal s ≡ 0 → n ≡ cells_of s → n ≤ 64
cells_few s n z d = omega (arith, (book_sizes s z).few)

-- a word above that of the n lowest cells has another one
pub beyond : (s : List ℕ) (h n full : ℕ) → n ≡ cells_of s → full ≡ 2 ^ n - 1 → ltb full h ≡ hides_beyond h s
unfolding hides_beyond
beyond s h n full d e =
    let p = pow_pos n in
    rw (← d)
    (test_eq _ _ (λ o. le-leb (2 ^ n) h (let l = ltb-true full h o in omega arith)) (λ o. lt-ltb full h (let l = leb-true (2 ^ n) h o in omega arith)))

module _ (s : List ℕ) (h x : ℕ) (b : Bool) (d : b ≡ hides h x) where
  pub seen_silent : b ≡ true → 0 ≡ seen_recording h s x
  unfolding seen_recording
  seen_silent e = rw (← d, e)

  pub seen_as_is : b ≡ false → (r : ℕ) → r ≡ recording_at s x → r ≡ seen_recording h s x
  unfolding seen_recording
  seen_as_is e r f = rw (← d, e) f

-- ---- the first link out of a cell
-- the first k links are out of cells below x
pub record Lower (s : List ℕ) (n x k : ℕ) : Type 0 where
  pub each : (j : ℕ) → j < k → field 1 s (link_start s n j) < x

module _ (s : List ℕ) (n e x k : ℕ) (i : Lower s n x k) where
  first_is : k ≤ e → (k < e → x ≤ field 1 s (link_start s n k)) → k ≡ links_before x (links_after s n e)
  unfolding link_in
  first_is h f = sym (before_is x e (λ j. link_in (label_width (version_of s)) s (link_start s n j)) k (record { most = h; below = i.each; stop = f }))

  pub first-end : e ≤ k → k ≤ e → e ≡ links_before x (links_after s n e)
  first-end h l = let d : k ≡ e = omega arith in sym d ∙ first_is l (λ m. absurd (omega arith))

  module _ (h : k < e) (at : ℕ) (da : at ≡ link_start s n k) where
    read : get_or s at 0 ≡ field 1 s (link_start s n k)
    read = byte s at ∙ ap (field 1 s) da

    pub first_stop : x ≤ get_or s at 0 → k ≡ links_before x (links_after s n e)
    first_stop g = first_is (omega arith) (λ m. omega (arith, read))

    pub first_next : get_or s at 0 < x → Lower s n x (k + 1)
    first_next g =
        record { each = λ j m. ⊎_elim (λ q. rw q (omega (arith, read))) (λ o. i.each j o) (eq-or-lt_of_le (omega arith)) }

-- the counts are the header's
module _ (s : List ℕ) (n e : ℕ) (dn : n ≡ cells_of s) (de : e ≡ links_of s) where
  pub links_room : book_refusal s ≡ 0 → link_start s n e ≤ length s
  links_room z = rw (dn, de) (omega (arith, (book_sizes s z).sized))

  pub first-among : (x r : ℕ) → r ≡ links_before x (links_after s n e) → r ≡ first_link s x
  unfolding first_link link_at
  first-among x r d = rw (dn, de) at d

-- ---- the part
pub part_few : (s : List ℕ) (x first end : ℕ) → book_refusal s ≡ 0 → RangeOut s x first end → end ≤ 512
part_few s x first end z g = omega (arith, g.most, (book_sizes s z).most)

pub range_out : (s : List ℕ) (x first end : ℕ) → first ≡ first_link s x → end ≡ first_link s (x + 1) → RangeOut s x first end
range_out s x first end p q =
    record { first = p; end = q; rises = rw (p, q) (first-rises s x); most = rw q (first-before s (x + 1)).most }

module _ (s : List ℕ) (k count : ℕ) where
  pub part_none : count ≡ 0 → record { count = 0; start = 0 } ≡ part_from s k count
  unfolding part_from
  part_none z = rw z

  pub part_some : (count ≡ 0 → ⊥) → (start : ℕ) → start ≡ link_place s k → record { count = count; start = start } ≡ part_from s k count
  unfolding part_from
  part_some f start d = go count f
    where
      go : (count : ℕ) → (count ≡ 0 → ⊥) → record { count = count; start = start } ≡ part_from s k count
      go zero f = absurd (f refl)
      go (suc count) f = rw d

-- ---- what an answer says, once it is known
module _ {a : Result LinksPart Refused} (s : List ℕ) (x : ℕ) (d : a ≡ links_answer s x) where
  pub part_refused : (r : Refused) → a ≡ Err r → [] ≡ links_part s x
  unfolding part_of
  part_refused r p = rw (← d, p)

  module _ (q : LinksPart) (p : a ≡ Ok q) where
    pub part_long : 8 ≤ length s
    part_long = book_long s (part-accepted s x q (sym d ∙ p))

    module _ (w : ℕ) (dw : w ≡ link_width s) where
      pub part_end : q.start + w * q.count ≤ length s
      part_end = rw dw (part_room s x q (sym d ∙ p))

      pub part_bytes : take (q.start + w * q.count - q.start) (drop q.start s) ≡ links_part s x
      unfolding part_of
      part_bytes = let e : q.start + w * q.count - q.start ≡ w * q.count = omega arith in rw (← d, p, e, dw)

-- ---- recordings
module _ (a b : ℕ) where
  pub heard_none : a ≡ 0 → false ≡ (heard a && heard b)
  unfolding heard
  heard_none e = rw (eq-eqb a 0 e)

  pub heard_both : (r : Bool) → (a ≡ 0 → ⊥) → r ≡ not (eqb b 0) → r ≡ (heard a && heard b)
  unfolding heard
  heard_both r f d = rw (ne_eqb a 0 f) d

  module _ (h : Bool) (d : h ≡ (heard a && heard b)) where
    pub silent_same : not h ≡ true → false ≡ passes same a b
    unfolding passes
    silent_same e = rw (← d, not-true h e)

    pub heard_same : not h ≡ false → (r : Bool) → r ≡ eqb a b → r ≡ passes same a b
    unfolding passes compared
    heard_same e r k = rw (← d, not-false h e) k
