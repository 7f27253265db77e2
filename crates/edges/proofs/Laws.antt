-- What each turn and each way out of the functions shows of the definitions of `specs/`. The numbers that the code computed are variables
-- here, with what is known of them, so that `search` finds them in a need's record.
use mathlib.Core.Bool.{Bool, true, false, So, cond, not, ◌&&◌, ◌||◌}
use mathlib.Core.Path.{◌≡◌, refl, sym, ap, ap₂, ◌∙◌}
use mathlib.Core.List.{List, [], ◌∷◌}
use Prim.Native.Nat.{ℕ, zero, suc, ◌+◌, ◌-◌, ◌*◌, ◌/◌, ◌%◌, ◌^◌, ◌≤◌, ◌<◌}
use native.Mathlib.Nat.{add-zero, mod-lt, mod-eq_of_lt, one-mul, zero-mul}
use native.Mathlib.Omega.{arith}
use borrow.Author.Tests.{eq-eqb, ne_eqb, eqb-true, not-false}
use lib.Bits.{bit_and, bit_or, bit_xor, and_mask, or_zero_r, or_add_and, and_le_l, and_le_r}
use lib.Dec.{eqb, lit<}
use lib.ListN.{length, get_or, set, length-set, length-replicate}
use lib.Pow.{pow-lt}
use Rattle.theory.specs.Search.{list}
use Rattle.theory.proofs.TestLaws.{list_ext}
use Rattle.theory.specs.Graph.{Link}
use Rattle.words.specs.Words.{bit}
use Rattle.edges.specs.Edges.{edge_at, edges, Held, image, gather, Gathered, empty_rows, meets, any_passes}
use Rattle.edges.specs.Groups.{group_of, total, start_for, until_for, Grouped, GroupWith}
use Rattle.edges.specs.declared.Group.{Group}
use Rattle.edges.specs.Laws.{empty_at, row-set, meets-zero, passes-more, passes_none}

-- ---- one bit moved
pub moved_is : (w i j : ℕ) → j < 64 → bit_and (w / 2 ^ i) 1 * 2 ^ j % 2 ^ 64 ≡ cond (bit w i) (2 ^ j) 0
unfolding bit
moved_is w i j l = rw (and_mask (w / 2 ^ i) 1) (go (w / 2 ^ i % 2) (mod-lt (w / 2 ^ i) (lit< tt)))
  where
    go : (x : ℕ) → x < 2 → x * 2 ^ j % 2 ^ 64 ≡ cond (eqb x 1) (2 ^ j) 0
    go zero h = rw zero-mul
    go (suc zero) h = rw one-mul (mod-eq_of_lt (pow-lt l))
    go (suc (suc x)) h = absurd (omega arith)

-- ---- a link's node
module _ (count : ℕ) (fs ts : List ℕ) (d : Held count fs ts) (k until : ℕ) (h : k < until) (m : until ≤ count) where
  from_below : get_or fs k 0 < 64
  from_below = d.from_low k (omega arith)

-- ---- the links that a loop has still to visit
unfoldable pub rest : ℕ → List ℕ → List ℕ → List ℕ → ℕ → List Link
rest count fs ls ts k = list (count - k) (λ i. edge_at fs ls ts (k + i))

module _ (count : ℕ) (fs ls ts : List ℕ) where
  rest_all : rest count fs ls ts 0 ≡ edges count fs ls ts
  unfolding rest
  rest_all =
      let z : count - 0 ≡ count = omega arith in
      rw z (list_ext count _ _ (λ i l. let e : 0 + i ≡ i = omega arith in rw e))

  module _ (k : ℕ) where
    rest_none : count ≤ k → rest count fs ls ts k ≡ []
    unfolding rest list
    rest_none h = let z : count - k ≡ 0 = omega arith in rw z

    rest_more : k < count → rest count fs ls ts k ≡ edge_at fs ls ts k ∷ rest count fs ls ts (k + 1)
    unfolding rest list
    rest_more h =
        let z : count - k ≡ suc (count - (k + 1)) = omega arith in
        let e : k + 0 ≡ k = omega arith in
        rw (z, e) (ap₂ ◌∷◌ refl (list_ext (count - (k + 1)) _ _ (λ i l. let d : k + suc i ≡ k + 1 + i = omega arith in rw d)))

  -- n links from link k on, with other labels than a, change nothing for what passes over such a link
  passed_over : {A : Type 0} (a : ℕ) (f : List Link → A) → ((k : Link) (ks : List Link) → (k.label ≡ a → ⊥) → f (k ∷ ks) ≡ f ks) → (n k : ℕ)
      → k + n ≤ count → ((i : ℕ) → k ≤ i → i < k + n → get_or ls i 0 ≡ a → ⊥) → f (rest count fs ls ts k) ≡ f (rest count fs ls ts (k + n))
  passed_over a f over zero k h other = rw (add-zero k)
  passed_over a f over (suc n) k h other =
      ap f (rest_more k (omega arith)) ∙ over (edge_at fs ls ts k) _ (other k (omega arith) (omega arith))
      ∙ passed_over a f over n (k + 1) (omega arith) (λ i u v. other i (omega arith) (omega arith))
      ∙ ap (λ j. f (rest count fs ls ts j)) (omega arith)

  module _ (a w : ℕ) where
    -- ---- the image of a set
    module _ (out k : ℕ) (inv : image (rest count fs ls ts k) a w out ≡ image (edges count fs ls ts) a w 0) where
      module _ (until : ℕ) (h : k < until) (m : until ≤ count) where
        image-turn : (b : Bool) → eqb (get_or ls k 0) a ≡ b
            → image (rest count fs ls ts (k + 1)) a w (cond (b && bit w (get_or fs k 0)) (bit_or out (2 ^ get_or ts k 0)) out) ≡ image (edges count fs ls ts) a w 0
        unfolding image
        image-turn b e = rw (← e) (rw (rest_more k (omega arith)) at inv)

        pub image-next : (one next : ℕ) → one ≡ cond (bit w (get_or fs k 0)) (2 ^ get_or ts k 0) 0 → get_or ls k 0 ≡ a → next ≡ bit_or out one
            → image (rest count fs ls ts (k + 1)) a w next ≡ image (edges count fs ls ts) a w 0
        image-next one next d e u =
            rw (u, d, joined (bit w (get_or fs k 0))) (image-turn true (eq-eqb (get_or ls k 0) a e))
          where
            joined : (b : Bool) → bit_or out (cond b (2 ^ get_or ts k 0) 0) ≡ cond b (bit_or out (2 ^ get_or ts k 0)) out
            joined true = refl
            joined false = or_zero_r out

        pub image_skip : (next : ℕ) → (get_or ls k 0 ≡ a → ⊥) → next ≡ out → image (rest count fs ls ts (k + 1)) a w next ≡ image (edges count fs ls ts) a w 0
        image_skip next f u = rw u (image-turn false (ne_eqb (get_or ls k 0) a f))

    -- ---- rows of sets
    module _ (later rows₀ : List ℕ) where
      module _ (rows : List ℕ) (k : ℕ) (inv : gather (rest count fs ls ts k) a w later rows ≡ gather (edges count fs ls ts) a w later rows₀) where
        module _ (until : ℕ) (h : k < until) (m : until ≤ count) where
          gather-turn : (b : Bool) → (eqb (get_or ls k 0) a && bit w (get_or ts k 0)) ≡ b
              → gather (rest count fs ls ts (k + 1)) a w later
              (cond b (set rows (get_or fs k 0) (bit_or (get_or rows (get_or fs k 0) 0) (get_or later (get_or ts k 0) 0))) rows)
              ≡ gather (edges count fs ls ts) a w later rows₀
          unfolding gather
          gather-turn b e = rw (← e) (rw (rest_more k (omega arith)) at inv)

          module _ (next : List ℕ) where
            pub gather-other : (get_or ls k 0 ≡ a → ⊥) → next ≡ rows
                → gather (rest count fs ls ts (k + 1)) a w later next ≡ gather (edges count fs ls ts) a w later rows₀
            gather-other f u = rw u (gather-turn false (rw (ne_eqb (get_or ls k 0) a f)))

            module _ (e : get_or ls k 0 ≡ a) (t : Bool) (d : t ≡ bit w (get_or ts k 0)) where
              pub gather-next : So t → next ≡ set rows (get_or fs k 0) (bit_or (get_or rows (get_or fs k 0) 0) (get_or later (get_or ts k 0) 0))
                  → gather (rest count fs ls ts (k + 1)) a w later next ≡ gather (edges count fs ls ts) a w later rows₀
              gather-next v u = rw u (gather-turn true (rw (eq-eqb (get_or ls k 0) a e, ← d) v))

              pub gather_outside : t ≡ false → next ≡ rows
                  → gather (rest count fs ls ts (k + 1)) a w later next ≡ gather (edges count fs ls ts) a w later rows₀
              gather_outside v u = rw u (gather-turn false (rw (eq-eqb (get_or ls k 0) a e, ← d) v))

-- ---- rows and the union of all that was put into them
pub record Within (all : ℕ) (rows : List ℕ) : Type 0 where
  pub long : length rows ≡ 64
  pub none : all ≡ 0 → (x : ℕ) → get_or rows x 0 ≡ 0

pub within_start : Within 0 (empty_rows 64)
unfolding empty_rows
within_start = record { long = length-replicate {A = ℕ} 64 0; none = λ _. empty_at 64 }

module _ (all : ℕ) (rows : List ℕ) (d : Within all rows) (sum : ℕ) (next : List ℕ) where
  put : (i row : ℕ) → i < 64 → sum ≡ bit_or all row → Within sum (set rows i row)
  put i row l e = record { long = length-set rows i _ ∙ d.long; none = none }
    where
      either : (b : Bool) (n : ℕ) → cond b n n ≡ n
      either true n = refl
      either false n = refl

      none : sum ≡ 0 → (x : ℕ) → get_or (set rows i row) x 0 ≡ 0
      none z x =
          let o = sym e ∙ z in
          let both = or_add_and all row in
          let n : all ≡ 0 = omega (arith, and_le_l all row, and_le_r all row) in
          let m : row ≡ 0 = omega (arith, and_le_l all row, and_le_r all row) in
          row-set rows i _ x (omega (arith, d.long)) ∙ rw (m, d.none n x) (either (eqb i x) 0)

  -- by a link more
  pub within_more : (count : ℕ) (fs ts : List ℕ) → Held count fs ts → (k until : ℕ) → k < until → until ≤ count → (row : ℕ) → sum ≡ bit_or all row
      → next ≡ set rows (get_or fs k 0) row → Within sum next
  within_more count fs ts o k until h m row e f = rw f (put (get_or fs k 0) row (from_below count fs ts o k until h m) e)

  pub within_same : sum ≡ all → next ≡ rows → Within sum next
  within_same e f = rw (e, f) d

-- ---- the links among which those of a label are, of all links
module _ (starts : List ℕ) (a : ℕ) (r : Group) where
  pub all_found : get_or starts 65 0 ≡ 0 → r.start ≡ 0 → r.until ≡ get_or starts 64 0 → GroupWith starts a r
  unfolding start_for until_for
  all_found z e f = let t = eq-eqb (get_or starts 65 0) 0 z in record { start = rw t e; until = rw t f }

  pub group_found : (get_or starts 65 0 ≡ 0 → ⊥) → (g : ℕ) → g ≡ group_of a → r.start ≡ get_or starts g 0 → r.until ≡ get_or starts (g + 1) 0 → GroupWith starts a r
  unfolding start_for until_for
  group_found z g d e f = let t = ne_eqb (get_or starts 65 0) 0 z in record { start = rw (t, ← d) e; until = rw (t, ← d) f }

module _ (starts fs ls ts : List ℕ) (d : Grouped starts ls) (a : ℕ) (group : Group) (e : GroupWith starts a group) where
  -- the group starts among the links
  pub start_within : group.start ≤ total starts
  start_within = omega (arith, e.start, d.start_within a)

  -- and ends among them
  pub until_within : group.until ≤ total starts
  until_within = omega (arith, e.until, d.until_within a)

  module _ {A : Type 0} (f : List Link → A) (over : (k : Link) (ks : List Link) → (k.label ≡ a → ⊥) → f (k ∷ ks) ≡ f ks) where
    -- no link with the label a is before its group
    none_before : f (rest (total starts) fs ls ts group.start) ≡ f (edges (total starts) fs ls ts)
    none_before =
        sym (ap f (sym (rest_all (total starts) fs ls ts)) ∙ passed_over (total starts) fs ls ts a f over group.start 0 (omega (arith, start_within))
        (λ i _ l q. let o = rw q at (d.onward i (omega (arith, start_within))) in omega (arith, e.start))
        ∙ ap (λ j. f (rest (total starts) fs ls ts j)) (omega arith))

    -- nor behind it
    none_behind : (k : ℕ) → group.until ≤ k → k ≤ total starts → f (rest (total starts) fs ls ts k) ≡ f []
    none_behind k h m =
        passed_over (total starts) fs ls ts a f over (total starts - k) k (omega arith)
        (λ i b l q. let o = rw q at (d.before i (omega arith)) in omega (arith, e.until))
        ∙ ap f (rest_none (total starts) fs ls ts _ (omega arith))

  module _ (w : ℕ) where
    image-over : (out : ℕ) (k : Link) (ks : List Link) → (k.label ≡ a → ⊥) → image (k ∷ ks) a w out ≡ image ks a w out
    unfolding image
    image-over out k ks f = rw (ne_eqb k.label a f)

    pub image_start : image (rest (total starts) fs ls ts group.start) a w 0 ≡ image (edges (total starts) fs ls ts) a w 0
    image_start = none_before (λ ks. image ks a w 0) (image-over 0)

    pub image-end : (out k : ℕ) → group.until ≤ k → k ≤ total starts
        → image (rest (total starts) fs ls ts k) a w out ≡ image (edges (total starts) fs ls ts) a w 0
        → out ≡ image (edges (total starts) fs ls ts) a w 0
    unfolding image
    image-end out k h m inv = sym (none_behind (λ ks. image ks a w out) (image-over out) k h m) ∙ inv

    module _ (later : List ℕ) where
      gather-over : (rows : List ℕ) (k : Link) (ks : List Link) → (k.label ≡ a → ⊥) → gather (k ∷ ks) a w later rows ≡ gather ks a w later rows
      unfolding gather
      gather-over rows k ks f = rw (ne_eqb k.label a f)

      pub gather_start : (rows : List ℕ) → gather (rest (total starts) fs ls ts group.start) a w later rows ≡ gather (edges (total starts) fs ls ts) a w later rows
      gather_start rows = none_before (λ ks. gather ks a w later rows) (gather-over rows)

      pub gather-end : (rows : List ℕ) (k : ℕ) → group.until ≤ k → k ≤ total starts
          → gather (rest (total starts) fs ls ts k) a w later rows ≡ gather (edges (total starts) fs ls ts) a w later (empty_rows 64)
          → (all : ℕ) → Within all rows → (r : Bool) → r ≡ not (eqb all 0) → Gathered (edges (total starts) fs ls ts) a w later r rows
      unfolding gather
      gather-end rows k h m inv all d r e = record {
        is = sym (none_behind (λ ks. gather ks a w later rows) (gather-over rows) k h m) ∙ inv;
        none = λ f. d.none (eqb-true all 0 (not-false (eqb all 0) (sym e ∙ f)));
      }

-- ---- two sets and rows
module _ (first second : ℕ) (rows : List ℕ) (left : ℕ) (inv : any_passes left second rows ≡ any_passes first second rows) where
  pub passes-end : left ≡ 0 → false ≡ any_passes first second rows
  passes-end z = sym (passes_none second rows) ∙ rw z at inv

  module _ (h : second < 2 ^ 64) (y m : ℕ) (l : y < 64) (there : bit left y ≡ true) (d : m ≡ bit_and second (get_or rows y 0)) where
    turn : (b : Bool) → meets second (get_or rows y 0) ≡ b → (b || any_passes (bit_xor left (2 ^ y)) second rows) ≡ any_passes first second rows
    turn b e = rw e at (sym (passes-more left second rows y l there) ∙ inv)

    pub passes_stop : (m ≡ 0 → ⊥) → true ≡ any_passes first second rows
    passes_stop f = turn true (go (meets second (get_or rows y 0)) refl)
      where
        go : (b : Bool) → meets second (get_or rows y 0) ≡ b → meets second (get_or rows y 0) ≡ true
        go true e = e
        go false e = absurd (f (d ∙ (meets-zero second (get_or rows y 0) h).1 e))

    pub passes-next : m ≡ 0 → (next : ℕ) → next ≡ bit_xor left (2 ^ y) → any_passes next second rows ≡ any_passes first second rows
    passes-next z next e = rw e (turn false ((meets-zero second (get_or rows y 0) h).0 (sym d ∙ z)))
