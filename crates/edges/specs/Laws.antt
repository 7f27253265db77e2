-- What sets of nodes become along the links of a graph: the laws of `Edges` for callers, in the theory's terms.
use Rattle.std.specs.Prelude.{Bool, true, false, cond, ◌&&◌, ◌||◌, ◌≡◌, refl, List, [], ◌∷◌, ◌↔◌, ℕ, zero, suc, ◌+◌, ◌^◌, ◌≤◌, ◌<◌, eqb, ltb, length, get_or, set}
use Rattle.std.proofs.Math.Bool.{So, and-false, or-false, and_assoc, and_comm, or_assoc}
use Rattle.std.proofs.Common.{sym, ap, ap₂, ◌∙◌, ⊎_elim, inl, inr, suc-le-suc, arith, eqb-true, ltb-true, lt-ltb, length-set, pow_pos, get_or-set_same, get_or-set_other}
use Rattle.std.proofs.lemmas.Bool.{eqb-false}
use Rattle.std.specs.Int.Bits.{bit_and, bit_or, bit_xor, or_zero_r}
use Rattle.std.proofs.lemmas.Nat.{or_lt}
use Rattle.std.proofs.Math.Dec.{leb-suc-zero}
use Rattle.std.proofs.lemmas.List.{get_or-replicate, length-replicate}
use Rattle.std.proofs.Math.Pow.{pow-lt}
use Rattle.theory.specs.Search.{any, list}
use Rattle.theory.proofs.TestLaws.{any_iff, any_ext, and_iff, or_iff, test_eq, test_fails, list_at, list_ext, facts}
use Rattle.theory.specs.Graph.{Graph, Link, Inside, has, linked}
use Rattle.outcome.specs.RefusalLaws.{either}
use Rattle.words.specs.Words.{bit, word_of}
use Rattle.words.specs.Laws.{bit-zero, bit-or, bit_with, bit_without, meet_zero_iff, bit-word_of, bit-word_of-lt, word_of-lt, word_of_is}
use Rattle.edges.specs.Edges.{edge_at, edges, turn, turned, Held, image, gather, empty_rows, rows_to, meets, any_passes, Rows}

-- ---- searches
any_none : (n : ℕ) → any n (λ x. false) ≡ false
unfolding any
any_none zero = refl
any_none (suc n) = any_none n

-- a search among the nodes of a set of n nodes
any_word : (n m : ℕ) (f p : ℕ → Bool) → n ≤ m → any m (λ y. bit (word_of n f) y && p y) ≡ any n (λ y. f y && p y)
any_word n m f p h =
    test_eq _ _
    (λ t. let (y, l, (b, e)) = simp (facts, bit-word_of) at t in simp facts (y, ltb-true y n b.0, (b.1, e)))
    (λ t. let (y, l, (b, e)) = simp facts at t in simp facts (y, omega arith, (bit-word_of-lt n f y l ∙ b, e)))

-- ---- links walked backwards
list-turned : (n : ℕ) (f : ℕ → Link) → turned (list n f) ≡ list n (λ i. turn (f i))
unfolding list turned
list-turned zero f = refl
list-turned (suc n) f = ap₂ ◌∷◌ refl (list-turned n (λ i. f (suc i)))

pub edges-turned : (count : ℕ) (fs ls ts : List ℕ) → edges count ts ls fs ≡ turned (edges count fs ls ts)
edges-turned count fs ls ts = sym (list-turned count (edge_at fs ls ts))

pub held_turned : {count : ℕ} {fs ts : List ℕ} → Held count fs ts → Held count ts fs
held_turned h = record { few = h.few; from_low = h.to_low; to_low = h.from_low }

inside_turned : (n : ℕ) (ks : List Link) → Inside n ks → Inside n (turned ks)
unfolding Inside turned
inside_turned n [] i = tt
inside_turned n (k ∷ ks) (l, m, i) = (m, l, inside_turned n ks i)

pub has-turned : (ks : List Link) (x a y : ℕ) → has (turned ks) x a y ≡ has ks y a x
unfolding has turned
has-turned [] x a y = refl
has-turned (k ∷ ks) x a y = ap₂ ◌||◌ (exchanged (eqb k.to x) (eqb k.label a) (eqb k.from y)) (has-turned ks x a y)
  where
    exchanged : (t l f : Bool) → t && (l && f) ≡ f && (l && t)
    exchanged t l f = sym (and_assoc t l f) ∙ and_comm (t && l) f ∙ ap (λ (b : Bool). f && b) (and_comm t l)

-- ---- one link more
-- is found at its from node
from_more : (n : ℕ) (k : Link) (ks : List Link) (a y : ℕ) (p : ℕ → Bool) → k.from < n
    → any n (λ x. has (k ∷ ks) x a y && p x) ≡ (eqb k.label a && (eqb k.to y && p k.from)) || any n (λ x. has ks x a y && p x)
unfolding has
from_more n k ks a y p l = test_eq _ _ to from
  where
    to : So (any n (λ x. has (k ∷ ks) x a y && p x))
        → So ((eqb k.label a && (eqb k.to y && p k.from)) || any n (λ x. has ks x a y && p x))
    to h =
        let (x, m, (e, q)) = simp facts at h in
        simp or_iff
        (⊎_elim
        (λ u. let (f, (b, t)) = simp facts at u in inl (simp facts (b, (t, rw f q))))
        (λ u. inr (simp facts (x, m, (u, q)))) e)

    from : So ((eqb k.label a && (eqb k.to y && p k.from)) || any n (λ x. has ks x a y && p x))
        → So (any n (λ x. has (k ∷ ks) x a y && p x))
    from h =
        elim (simp or_iff at h) [
          | inl u ↦ let (b, (t, q)) = simp facts at u in simp facts (k.from, l, (inl (simp facts (refl, (b, t))), q))
          | inr u ↦ let (x, m, (e, q)) = simp facts at u in simp facts (x, m, (inr e, q))
        ]

-- and at its to node
to-more : (n : ℕ) (k : Link) (ks : List Link) (x a : ℕ) (p : ℕ → Bool) → k.to < n
    → any n (λ y. has (k ∷ ks) x a y && p y) ≡ (eqb k.label a && (eqb k.from x && p k.to)) || any n (λ y. has ks x a y && p y)
unfolding turned
to-more n k ks x a p l = simp (has-turned (k ∷ ks), has-turned ks) at (from_more n (turn k) (turned ks) a x p l)

-- ---- the image of a set
added : (b : Bool) (out j y : ℕ) → bit (cond b (bit_or out (2 ^ j)) out) y ≡ bit out y || (b && eqb j y)
added true out j y = bit_with out j y
added false out j y = sym (or-false (bit out y))

-- what the image adds to `out`
pub image-bit : (n : ℕ) (ks : List Link) → Inside n ks → (a w out y : ℕ)
    → bit (image ks a w out) y ≡ bit out y || any n (λ x. has ks x a y && bit w x)
unfolding image Inside has
image-bit n [] i a w out y = sym (ap (λ (b : Bool). bit out y || b) (any_none n) ∙ or-false (bit out y))
image-bit n (k ∷ ks) (l, m, i) a w out y =
    let rest = any n (λ x. has ks x a y && bit w x) in
    image-bit n ks i a w _ y
    ∙ ap (λ (b : Bool). b || rest) (added (eqb k.label a && bit w k.from) out k.to y)
    ∙ or_assoc (bit out y) _ rest
    ∙ ap (λ (b : Bool). bit out y || (b || rest)) (ordered (eqb k.label a) (bit w k.from) (eqb k.to y))
    ∙ ap (λ (b : Bool). bit out y || b) (sym (from_more n k ks a y (bit w) l))
  where
    ordered : (l f t : Bool) → l && f && t ≡ l && (t && f)
    ordered l f t = and_assoc l f t ∙ ap (λ (b : Bool). l && b) (and_comm f t)

image-lt : (n : ℕ) (ks : List Link) → Inside n ks → (a w out : ℕ) → out < 2 ^ n → image ks a w out < 2 ^ n
unfolding image Inside
image-lt n [] i a w out h = h
image-lt n (k ∷ ks) (l, m, i) a w out h =
    image-lt n ks i a w _
    (either (λ x. x < 2 ^ n) (eqb k.label a && bit w k.from) (λ _. or_lt n out (2 ^ k.to) h (pow-lt m)) (λ _. h))

-- the image of a set of nodes, as a set of nodes
image_word : (n : ℕ) (ks : List Link) → Inside n ks → (a : ℕ) (p : ℕ → Bool)
    → image ks a (word_of n p) 0 ≡ word_of n (λ y. any n (λ x. has ks x a y && p x))
image_word n ks i a p =
    word_of_is n _ _ (image-lt n ks i a (word_of n p) 0 (pow_pos n))
    (λ y h.
    image-bit n ks i a (word_of n p) 0 y
    ∙ rw bit-zero (any_ext n _ _ (λ x l. ap (λ (b : Bool). has ks x a y && b) (bit-word_of-lt n p x l))))

-- ---- rows of sets
pub row-set : (rows : List ℕ) (i v x : ℕ) → i < length rows → get_or (set rows i v) x 0 ≡ cond (eqb i x) v (get_or rows x 0)
row-set rows i v x h = go (eqb i x) refl
  where
    go : (b : Bool) → eqb i x ≡ b → get_or (set rows i v) x 0 ≡ cond b v (get_or rows x 0)
    go true e = rw (← eqb-true i x e) (get_or-set_same rows i v 0 h)
    go false e = get_or-set_other rows i x v 0 (λ d. eqb-false i x e (sym d))

row_added : (b : Bool) (rows : List ℕ) (i v x z : ℕ) → i < length rows
    → bit (get_or (cond b (set rows i (bit_or (get_or rows i 0) v)) rows) x 0) z ≡ bit (get_or rows x 0) z || (b && (eqb i x && bit v z))
row_added true rows i v x z h = ap (λ (w : ℕ). bit w z) (row-set rows i _ x h) ∙ go (eqb i x) refl
  where
    go : (b : Bool) → eqb i x ≡ b → bit (cond b (bit_or (get_or rows i 0) v) (get_or rows x 0)) z ≡ bit (get_or rows x 0) z || (b && bit v z)
    go true e = rw (← eqb-true i x e) (bit-or (get_or rows i 0) v z)
    go false e = sym (or-false (bit (get_or rows x 0) z))
row_added false rows i v x z h = sym (or-false (bit (get_or rows x 0) z))

length_either : (b : Bool) (rows : List ℕ) (i v : ℕ) → length (cond b (set rows i v) rows) ≡ length rows
length_either true rows i v = length-set rows i v
length_either false rows i v = refl

-- what `gather` adds to row x
pub gather-bit : (n : ℕ) (ks : List Link) → Inside n ks → (a w : ℕ) (later rows : List ℕ) (x z : ℕ) → n ≤ length rows
    → bit (get_or (gather ks a w later rows) x 0) z ≡ bit (get_or rows x 0) z || any n (λ y. has ks x a y && (bit w y && bit (get_or later y 0) z))
unfolding gather Inside has
gather-bit n [] i a w later rows x z h = sym (ap (λ (b : Bool). bit (get_or rows x 0) z || b) (any_none n) ∙ or-false (bit (get_or rows x 0) z))
gather-bit n (k ∷ ks) (l, m, i) a w later rows x z h =
    let p : ℕ → Bool = λ y. bit w y && bit (get_or later y 0) z in
    let rest = any n (λ y. has ks x a y && p y) in
    let into = eqb k.label a && bit w k.to in
    gather-bit n ks i a w later _ x z (rw (length_either into rows k.from _) h)
    ∙ ap (λ (b : Bool). b || rest) (row_added into rows k.from (get_or later k.to 0) x z (omega arith))
    ∙ or_assoc (bit (get_or rows x 0) z) _ rest
    ∙ ap (λ (b : Bool). bit (get_or rows x 0) z || (b || rest))
    (ordered (eqb k.label a) (bit w k.to) (eqb k.from x) (bit (get_or later k.to 0) z))
    ∙ ap (λ (b : Bool). bit (get_or rows x 0) z || b) (sym (to-more n k ks x a p m))
  where
    ordered : (l t f v : Bool) → l && t && (f && v) ≡ l && (f && (t && v))
    ordered false t f v = refl
    ordered true true f v = refl
    ordered true false f v = sym (and-false f)

gather-lt : (n : ℕ) (ks : List Link) → Inside n ks → (a w : ℕ) (later rows : List ℕ) → n ≤ length rows
    → ((y : ℕ) → y < n → get_or later y 0 < 2 ^ n) → ((x : ℕ) → x < n → get_or rows x 0 < 2 ^ n)
    → (x : ℕ) → x < n → get_or (gather ks a w later rows) x 0 < 2 ^ n
unfolding gather Inside
gather-lt n [] i a w later rows h f g = g
gather-lt n (k ∷ ks) (l, m, i) a w later rows h f g =
    let into = eqb k.label a && bit w k.to in
    gather-lt n ks i a w later _ (rw (length_either into rows k.from _) h) f (next into)
  where
    next : (b : Bool) (x : ℕ) → x < n → get_or (cond b (set rows k.from (bit_or (get_or rows k.from 0) (get_or later k.to 0))) rows) x 0 < 2 ^ n
    next true x o =
        rw (row-set rows k.from (bit_or (get_or rows k.from 0) (get_or later k.to 0)) x (omega arith))
        (either (λ v. v < 2 ^ n) (eqb k.from x) (λ _. or_lt n _ _ (g k.from l) (f k.to m)) (λ _. g x o))
    next false x o = g x o

-- the rows that are gathered from rows that hold q
gather_word : (n : ℕ) (ks : List Link) → Inside n ks → (a : ℕ) (p : ℕ → Bool) (q : ℕ → ℕ → Bool) (later : List ℕ) → Rows n q later → (size : ℕ)
    → n ≤ size → Rows n (λ x z. any n (λ y. has ks x a y && (p y && q y z))) (gather ks a (word_of n p) later (empty_rows size))
unfolding empty_rows
gather_word n ks i a p q later d size h = record { row = each }
  where
    long : n ≤ length (empty_rows size)
    long = rw length-replicate h

    none : (x : ℕ) → x < n → get_or (empty_rows size) x 0 ≡ 0
    none x l = get_or-replicate size x 0 0 (omega arith)

    each : (x : ℕ) → x < n → get_or (gather ks a (word_of n p) later (empty_rows size)) x 0 ≡ word_of n (λ z. any n (λ y. has ks x a y && (p y && q y z)))
    each x l =
        word_of_is n _ _
        (gather-lt n ks i a (word_of n p) later (empty_rows size) long (λ y m. rw (d.row y m) (word_of-lt n (q y))) (λ y m. rw (none y m) (pow_pos n)) x l)
        (λ z o.
        gather-bit n ks i a (word_of n p) later (empty_rows size) x z long
        ∙ rw (none x l, bit-zero)
        (any_ext n _ _
        (λ y m.
        ap₂ (λ (b c : Bool). has ks x a y && (b && c)) (bit-word_of-lt n p y m)
        (ap (λ (w : ℕ). bit w z) (d.row y m) ∙ bit-word_of-lt n (q y) z o))))

-- ---- rows that are empty
pub empty_at : (n x : ℕ) → get_or (empty_rows n) x 0 ≡ 0
unfolding empty_rows
empty_at zero x = refl
empty_at (suc n) zero = refl
empty_at (suc n) (suc x) = empty_at n x

-- stay so with an empty row more,
empty_set : (rows : List ℕ) (i x : ℕ) → ((y : ℕ) → get_or rows y 0 ≡ 0) → get_or (set rows i 0) x 0 ≡ 0
empty_set [] i x f = refl
empty_set (r ∷ rows) zero zero f = refl
empty_set (r ∷ rows) zero (suc x) f = f (suc x)
empty_set (r ∷ rows) (suc i) zero f = f 0
empty_set (r ∷ rows) (suc i) (suc x) f = empty_set rows i x (λ y. f (suc y))

-- and give no others
pub gather_empty : (ks : List Link) (a w : ℕ) (later rows : List ℕ) → ((y : ℕ) → get_or later y 0 ≡ 0) → ((y : ℕ) → get_or rows y 0 ≡ 0)
    → (x : ℕ) → get_or (gather ks a w later rows) x 0 ≡ 0
unfolding gather
gather_empty [] a w later rows f g x = g x
gather_empty (k ∷ ks) a w later rows f g x =
    gather_empty ks a w later _ f (next (eqb k.label a && bit w k.to)) x
  where
    next : (b : Bool) (y : ℕ) → get_or (cond b (set rows k.from (bit_or (get_or rows k.from 0) (get_or later k.to 0))) rows) y 0 ≡ 0
    next true y = rw (f k.to, g k.from, or_zero_r 0) (empty_set rows k.from y g)
    next false y = g y

-- ---- rows made from the front
pub rows_at : (size m : ℕ) (f : ℕ → ℕ) (x : ℕ) → x < size → x < m → get_or (rows_to size m f) x 0 ≡ f x
unfolding rows_to
rows_at size m f x h l = list_at size _ x 0 h ∙ rw (lt-ltb x m l)

pub rows_none : (size : ℕ) (f : ℕ → ℕ) → empty_rows size ≡ rows_to size 0 f
unfolding empty_rows rows_to list
rows_none size f = same size ∙ list_ext size _ _ (λ x l. rw (leb-suc-zero x))
  where
    same : (n : ℕ) → empty_rows n ≡ list n (λ x. 0)
    same zero = refl
    same (suc n) = ap₂ ◌∷◌ refl (same n)

-- a list that differs from another at one place
set-list : {A : Type 0} (size m : ℕ) (g h : ℕ → A) → ((i : ℕ) → i < size → (i ≡ m → ⊥) → g i ≡ h i) → set (list size g) m (h m) ≡ list size h
unfolding list
set-list zero m g h q = refl
set-list (suc size) zero g h q = ap₂ ◌∷◌ refl (list_ext size _ _ (λ i l. q (suc i) (suc-le-suc l) (λ e. omega arith)))
set-list (suc size) (suc m) g h q =
    ap₂ ◌∷◌ (q 0 (omega arith) (λ e. omega arith))
    (set-list size m (λ i. g (suc i)) (λ i. h (suc i)) (λ i l n. q (suc i) (suc-le-suc l) (λ e. n (omega arith))))

pub rows_more : (size m : ℕ) (f : ℕ → ℕ) → set (rows_to size m f) m (f m) ≡ rows_to size (m + 1) f
unfolding rows_to
rows_more size m f =
    rw (lt-ltb m (m + 1) (omega arith)) at (set-list size m (λ x. cond (ltb x m) (f x) 0) (λ x. cond (ltb x (m + 1)) (f x) 0) other)
  where
    other : (i : ℕ) → i < size → (i ≡ m → ⊥) → cond (ltb i m) (f i) 0 ≡ cond (ltb i (m + 1)) (f i) 0
    other i l n =
        ap (λ (b : Bool). cond b (f i) 0)
        (test_eq _ _ (λ t. lt-ltb i (m + 1) (omega (arith, ltb-true i m t))) (λ t. lt-ltb i m (omega (arith, ltb-true i (m + 1) t))))

-- ---- two sets and rows
-- two words without a common node, as the machine tests it
pub meets-zero : (v w : ℕ) → v < 2 ^ 64 → (bit_and v w ≡ 0) ↔ (meets v w ≡ false)
unfolding meets
meets-zero v w h =
    let z = meet_zero_iff 64 v w h in
    ((λ e. any_ext 64 _ _ (z.0 e) ∙ any_none 64), (λ e. z.1 (λ i l. test_fails _ _ (λ t. (any_iff 64 _).1 (i, l, t)) e)))

pub passes_none : (second : ℕ) (rows : List ℕ) → any_passes 0 second rows ≡ false
unfolding any_passes
passes_none second rows = simp bit-zero (any_none 64)

pub passes_no_second : (first : ℕ) (rows : List ℕ) → any_passes first 0 rows ≡ false
unfolding any_passes meets
passes_no_second first rows = any_ext 64 _ _ (λ x _. ap (λ (b : Bool). bit first x && b) (simp bit-zero (any_none 64)) ∙ and-false (bit first x)) ∙ any_none 64

-- a node of the first set passes, or another does
pub passes-more : (first second : ℕ) (rows : List ℕ) (y : ℕ) → y < 64 → So (bit first y)
    → any_passes first second rows ≡ meets second (get_or rows y 0) || any_passes (bit_xor first (2 ^ y)) second rows
unfolding any_passes
passes-more first second rows y l t = test_eq _ _ to from
  where
    to : So (any 64 (λ x. bit first x && meets second (get_or rows x 0)))
        → So (meets second (get_or rows y 0) || any 64 (λ x. bit (bit_xor first (2 ^ y)) x && meets second (get_or rows x 0)))
    to h = let (x, m, (b, e)) = simp facts at h in go x m b e (eqb y x) refl
      where
        go : (x : ℕ) → x < 64 → So (bit first x) → So (meets second (get_or rows x 0)) → (b : Bool) → eqb y x ≡ b
            → So (meets second (get_or rows y 0) || any 64 (λ x. bit (bit_xor first (2 ^ y)) x && meets second (get_or rows x 0)))
        go x m b e true d = simp or_iff (inl (rw (eqb-true y x d) e))
        go x m b e false d = simp or_iff (inr (simp facts (x, m, (bit_without first y x t ∙ rw (d, b), e))))

    from : So (meets second (get_or rows y 0) || any 64 (λ x. bit (bit_xor first (2 ^ y)) x && meets second (get_or rows x 0)))
        → So (any 64 (λ x. bit first x && meets second (get_or rows x 0)))
    from h =
        elim (simp or_iff at h) [
          | inl u ↦ simp facts (y, l, (t, u))
          | inr u ↦ let (x, m, (b, e)) = simp facts at u in simp facts (x, m, (((and_iff _ _).0 (sym (bit_without first y x t) ∙ b)).0, e))
        ]

meets_word : (n : ℕ) (f h : ℕ → Bool) → n ≤ 64 → meets (word_of n f) (word_of n h) ≡ any n (λ z. f z && h z)
unfolding meets
meets_word n f h l =
    any_word n 64 f (bit (word_of n h)) l ∙ any_ext n _ _ (λ z m. ap (λ (b : Bool). f z && b) (bit-word_of-lt n h z m))

pub any-passes_is : (n : ℕ) (f h : ℕ → Bool) (r : ℕ → ℕ → Bool) (rows : List ℕ) → n ≤ 64 → Rows n r rows
    → any_passes (word_of n f) (word_of n h) rows ≡ any n (λ y. f y && any n (λ z. h z && r y z))
unfolding any_passes
any-passes_is n f h r rows l d =
    any_word n 64 f (λ y. meets (word_of n h) (get_or rows y 0)) l
    ∙ any_ext n _ _
    (λ y m. ap (λ (b : Bool). f y && b) (ap (meets (word_of n h)) (d.row y m) ∙ meets_word n h (r y) l))

-- ---- the links of a graph, held in three lists in any order
module _ (g : Graph) (count : ℕ) (fs ls ts : List ℕ) (inside : Inside g.size (edges count fs ls ts))
    (links : (x a y : ℕ) → has (edges count fs ls ts) x a y ≡ linked g x a y) (a : ℕ) (p : ℕ → Bool) where
  -- the nodes that a link with the label a leads from to a node with p
  pub preimage_is : image (edges count ts ls fs) a (word_of g.size p) 0 ≡ word_of g.size (λ x. any g.size (λ y. linked g x a y && p y))
  preimage_is =
      rw (edges-turned count fs ls ts)
      (simp (has-turned, links) at (image_word g.size (turned (edges count fs ls ts)) (inside_turned g.size _ inside) a p))

  -- the rows of what the nodes with p, that a link with the label a leads to, have in `later`
  pub gather_is : (q : ℕ → ℕ → Bool) (later : List ℕ) → Rows g.size q later → (size : ℕ) → g.size ≤ size
      → Rows g.size (λ x z. any g.size (λ y. linked g x a y && (p y && q y z))) (gather (edges count fs ls ts) a (word_of g.size p) later (empty_rows size))
  gather_is q later d size h = simp links at (gather_word g.size (edges count fs ls ts) inside a p q later d size h)
