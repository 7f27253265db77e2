-- What each way out of Truth and Claim shows of their answers and of the words.
use mathlib.Core.Bool.{Bool, true, false, cond, not, ◌&&◌, ◌||◌, or-true, false≢true}
use mathlib.Core.Path.{◌≡◌, refl, sym, ap, ◌∙◌}
use mathlib.Core.List.{List}
use Prim.Native.Nat.{ℕ, ◌+◌, ◌-◌, ◌^◌, ◌≤◌, ◌<◌, min}
use native.Mathlib.Omega.{arith}
use borrow.Author.Tests.{lt-ltb, le-ltb, ltb-true, ltb-false, lt-leb, le-leb, leb-true, leb-false, eq-eqb, ne_eqb, eqb-true, not-false}
use lib.Dec.{eqb, ltb, leb}
use lib.ListN.{length, get_or}
use lib.Pow.{pow_pos}
use mir.Val.{bool_byte}
use Rattle.std.specs.Prelude.{Result, Ok, Err, IfOk}
use Rattle.std.specs.Borrow.{Bor}
use Rattle.std.proofs.lemmas.Result.{IfOk-at_ok}
use Rattle.theory.specs.Graph.{Comparison, same, differ}
use Rattle.theory.specs.Meaning.{holds}
use Rattle.words.specs.Words.{bit, IsMinus}
use Rattle.words.specs.Laws.{bit-word_of-lt, word_of_is, full_word_of}
use Rattle.outcome.specs.Outcome.{code, accepted}
use Rattle.outcome.specs.Refused.{named, of_part}
use Rattle.outcome.specs.declared.Refusal.TheVariants as says
use Rattle.outcome.specs.declared.Part.TheVariants as part
use Rattle.outcome.specs.declared.Refused.{Refused}
use Rattle.book.specs.Book.{cells_of, book_refusal}
use Rattle.book.specs.BookGraph.{hides, hides_beyond, seen_of}
use Rattle.book.specs.AcceptedLaws.{book_sizes}
use Rattle.book.specs.SeenLaws.{seen_graph}
use Rattle.book.specs.declared.Hidden.{Hidden}
use Rattle.sheet.specs.Sheet.{count_of, question_of, sheet_refusal}
use Rattle.sheet.proofs.PassedLaws.{accepted_head}
use Rattle.edges.specs.Edges.{Rows}
use Rattle.edges.specs.Groups.{total}
use Rattle.edges.specs.BookEdges.{BothRows}
use Rattle.edges.specs.BookLaws.{passing-rows}
use Rattle.edge_groups.specs.Groups.{LoadedInGroups}
use Rattle.edge_groups.specs.Laws.{inside_same}
use Rattle.sheet.specs.Known.{EntriesFit}
use Rattle.sheet.specs.declared.accepted.Sheet.{Sheet}
use Rattle.evaluate.specs.QuestionWord.{question_word}
use Rattle.evaluate.specs.Evaluation.{tables, rows_for, evaluated, TablesOf}
use Rattle.evaluate.proofs.EvaluatedLaws.{words_evaluated}
use Rattle.evaluate.specs.WritingLaws.{over-at, over-over}
use Rattle.truth.specs.Truth.{first_words, truth_words, truth_answer, left_by, parts, claim_answer, claim_outcome, left_by_claim, Told, IsTruth, IsClaim, IsClaimCode}
use Rattle.truth.specs.SeenCells.{seen_word}

-- ---- the words of a book
-- the cells that are not hidden
pub seen-word : (b : List ℕ) (h n full r : ℕ) → n ≡ cells_of b → full ≡ 2 ^ n - 1 → IsMinus full h r → r ≡ seen_word h b
unfolding seen_word
seen-word b h n full r d e m =
    let p = pow_pos n in
    rw (← d)
    (word_of_is n r (λ x. not (hides h x)) (omega (arith, m.most))
    (λ x l. m.bits x ∙ ap (λ (y : Bool). y && not (bit h x)) (ap (λ w. bit w x) (e ∙ full_word_of n) ∙ bit-word_of-lt n (λ i. true) x l)))

module _ (b : List ℕ) (h : ℕ) (starts fs ls ts : List ℕ) (o : LoadedInGroups h b starts fs ls ts) where
  module _ (every : ℕ) (e : every ≡ seen_word h b) (sames differs : List ℕ) (f : BothRows h b sames differs) (r : book_refusal b ≡ 0) where
    tables-of : TablesOf (seen_of h b) (tables every (total starts) fs ls ts sames differs)
    unfolding seen_word
    tables-of =
        record {
          formed = seen_graph h b r;
          few = (book_sizes b r).few;
          every = e;
          inside = inside_same (cells_of b) _ _ o.links (seen_graph h b r).inside;
          links = o.links;
          rows = passes;
        }
      where
        passes : (c : Comparison) → Rows (seen_of h b).size ((seen_of h b).ends c) (rows_for (tables every (total starts) fs ls ts sames differs) c)
        passes same = rw f.first (passing-rows h b same r)
        passes differ = rw f.second (passing-rows h b differ r)

    pub words_written : (s ws ws' : List ℕ) (upto : ℕ) → EntriesFit s upto (length ws) → ws' ≡ evaluated (tables every (total starts) fs ls ts sames differs) s upto ws
        → ws' ≡ first_words b h s upto ws
    unfolding first_words
    words_written s ws ws' upto m i = i ∙ words_evaluated (seen_of h b) s m.good tables-of ws upto m.entries m.places

-- ---- Truth
module _ (b : List ℕ) (h : ℕ) (s ws : List ℕ) where
  truth_told : (a : Result (Unit {0}) Refused) (ws' : List ℕ) → truth_answer b h s (length ws) ≡ a → ws' ≡ left_by b h s ws a
      → IsTruth b h s ws a ws'
  truth_told a ws' d e = record { answer = sym d; words = e ∙ ap (left_by b h s ws) (sym d) }

  -- a refusal leaves the words
  truth_refused : (f g : Refused) → f ≡ g → truth_answer b h s (length ws) ≡ Err g → IsTruth b h s ws (Err f) ws
  unfolding left_by
  truth_refused f g e d = truth_told (Err f) ws (d ∙ ap Err (sym e)) refl

  pub truth_book : (f : Refused) → f ≡ of_part part.LeftBook (named (book_refusal b)) → (book_refusal b ≡ 0 → ⊥) → IsTruth b h s ws (Err f) ws
  unfolding truth_answer
  truth_book f e z = truth_refused f _ e (rw (ne_eqb (book_refusal b) 0 z))

  module _ (p : book_refusal b ≡ 0) (o : Bool) (g : o ≡ hides_beyond h b) where
    pub truth_hidden : (f : Refused) → f ≡ of_part part.LeftBook says.HiddenBeyond → o ≡ true → IsTruth b h s ws (Err f) ws
    unfolding truth_answer
    truth_hidden f e t = truth_refused f _ e (rw (eq-eqb (book_refusal b) 0 p, ← g, t))

    module _ (u : o ≡ false) where
      pub truth_sheet : (f : Refused) → f ≡ of_part part.Sheet (named (sheet_refusal s)) → (sheet_refusal s ≡ 0 → ⊥) → IsTruth b h s ws (Err f) ws
      unfolding truth_answer
      truth_sheet f e z = truth_refused f _ e (rw (eq-eqb (book_refusal b) 0 p, ← g, u, ne_eqb (sheet_refusal s) 0 z))

      module _ (w : sheet_refusal s ≡ 0) (q : ℕ) (c : q ≡ count_of s) where
        judged : (x : Bool) → ltb (length ws) q ≡ x → truth_answer b h s (length ws) ≡ cond x (Err (of_part part.Call says.FewWords)) (Ok tt)
        unfolding truth_answer
        judged x l = rw (eq-eqb (book_refusal b) 0 p, ← g, u, eq-eqb (sheet_refusal s) 0 w, ← c, l)

        pub truth_few : (f : Refused) → f ≡ of_part part.Call says.FewWords → length ws < q → IsTruth b h s ws (Err f) ws
        truth_few f e l = truth_refused f _ e (judged true (lt-ltb (length ws) q l))

        pub truth_done : q ≤ length ws → (ws' : List ℕ) → ws' ≡ first_words b h s q ws → IsTruth b h s ws (Ok tt) ws'
        unfolding left_by
        truth_done l ws' i = truth_told (Ok tt) ws' (judged false (le-ltb (length ws) q l)) (i ∙ ap (λ k. first_words b h s k ws) c)

-- a sheet with its proof is of the bytes that were lent to its check
pub sheet_now : {E : Type 0} {r : Result Sheet E} {b : Sheet} (bytes : Bor (List ℕ)) → r ≡ Ok b → IfOk r (λ b. b.bytes ≡ bytes) → b.bytes.now ≡ bytes.now
sheet_now bytes e h = ap (λ x. x.now) (IfOk-at_ok (λ b. b.bytes ≡ bytes) e h)

-- the entries of an accepted sheet, with as many words
pub sheet_room : (s : List ℕ) (q m : ℕ) → sheet_refusal s ≡ 0 → q ≡ count_of s → q ≤ m → EntriesFit s q m
sheet_room s q m w c l = record { good = w; entries = omega arith; places = l }

-- ---- Claim
pub cell_low : (b : List ℕ) (i : ℕ) → book_refusal b ≡ 0 → i < cells_of b → i < 64
cell_low b i r h = let f = (book_sizes b r).few in omega arith

-- a question is true at a cell, and the cell is not hidden
abbrev seen_true : List ℕ → ℕ → List ℕ → ℕ → ℕ → Bool
seen_true b h s k i = not (hides h i) && holds (seen_of h b) (question_of s k) i

-- a bit of a word that is written
pub true_told : (b : List ℕ) (h : ℕ) (s ws ws' : List ℕ) (n k i : ℕ) (x : Bool) → k < n → i < cells_of b → ws' ≡ first_words b h s n ws → x ≡ bit (get_or ws' k 0) i
    → Told (seen_true b h s k i) (first_words b h s n ws) x ws'
unfolding first_words
true_told b h s ws ws' n k i x m l d e =
    record {
      answer =
          e ∙ ap (λ us. bit (get_or us k 0) i) d ∙ ap (λ w. bit w i) (over-at n (question_word (seen_of h b) s) ws k m)
          ∙ bit-word_of-lt (cells_of b) (λ y. seen_true b h s k y) i l;
      words = d;
    }

module _ (l r : List ℕ) (h : Hidden) (s ws : List ℕ) (q k : ℕ) (room : EntriesFit s q (length ws)) (all : q ≡ count_of s) (entry : k < q) where
  -- the words up to the entry have room, and stay as many
  pub room_left : EntriesFit s (k + 1) (length ws)
  room_left =
      let n = room.entries in
      let m = room.places in
      record { good = room.good; entries = omega arith; places = omega arith }

  module _ (i j : ℕ) (ws₁ : List ℕ) (here : Bool) (x : Told (seen_true l h.left s k i) (first_words l h.left s (k + 1) ws) here ws₁) where
    module _ (ws₂ : List ℕ) (there : Bool) (y : Told (seen_true r h.right s k j) (first_words r h.right s q ws₁) there ws₂) where
      words_right : ws₂ ≡ truth_words r h.right s ws
      unfolding first_words
      words_right =
          y.words ∙ ap (first_words r h.right s q) x.words ∙ over-over q (k + 1) _ _ ws (omega arith) room_left.places
          ∙ ap (λ n. first_words r h.right s n ws) all

      module _ (w : Bool) (d : w ≡ hides h.right j) where
        asks : parts l r h s k i j ≡ not w && (here && not there)
        unfolding parts
        asks = rw (x.answer, y.answer, d) (both (hides h.left i) (hides h.right j) _ _)
          where
            both : (a b c d : Bool) → ((not a && not b) && (c && not d)) ≡ (not b && ((not a && c) && not (not b && d)))
            both true true c d = refl
            both true false c d = refl
            both false true c d = refl
            both false false c d = refl

        pub asked-hidden : w ≡ true → Told (parts l r h s k i j) (truth_words r h.right s ws) false ws₂
        asked-hidden t = record { answer = sym (asks ∙ rw t); words = words_right }

        module _ (n : w ≡ false) where
          pub asked_here : here ≡ true → Told (parts l r h s k i j) (truth_words r h.right s ws) (not there) ws₂
          asked_here t = record { answer = sym (asks ∙ rw (n, t)); words = words_right }

          pub asked-not : here ≡ false → Told (parts l r h s k i j) (truth_words r h.right s ws) false ws₂
          asked-not t = record { answer = sym (asks ∙ rw (n, t)); words = words_right }

module _ (l r : List ℕ) (h : Hidden) (s ws : List ℕ) (k i j : ℕ) where
  claim_told : (a : Result Bool Refused) (ws' : List ℕ) → claim_answer l r h s k i j (length ws) ≡ a → ws' ≡ left_by_claim r h.right s ws a
      → IsClaim l r h s k i j ws a ws'
  claim_told a ws' d e = record { answer = sym d; words = e ∙ ap (left_by_claim r h.right s ws) (sym d) }

  -- a refusal leaves the words
  claim_refused : (f g : Refused) → f ≡ g → claim_answer l r h s k i j (length ws) ≡ Err g → IsClaim l r h s k i j ws (Err f) ws
  unfolding left_by_claim
  claim_refused f g e d = claim_told (Err f) ws (d ∙ ap Err (sym e)) refl

  pub claim_left : (f : Refused) → f ≡ of_part part.LeftBook (named (book_refusal l)) → (book_refusal l ≡ 0 → ⊥) → IsClaim l r h s k i j ws (Err f) ws
  unfolding claim_answer
  claim_left f e z = claim_refused f _ e (rw (ne_eqb (book_refusal l) 0 z))

  module _ (p : book_refusal l ≡ 0) where
    pub claim_right : (f : Refused) → f ≡ of_part part.RightBook (named (book_refusal r)) → (book_refusal r ≡ 0 → ⊥) → IsClaim l r h s k i j ws (Err f) ws
    unfolding claim_answer
    claim_right f e z = claim_refused f _ e (rw (eq-eqb (book_refusal l) 0 p, ne_eqb (book_refusal r) 0 z))

    module _ (p' : book_refusal r ≡ 0) (a : Bool) (d : a ≡ hides_beyond h.left l) where
      pub claim_left_hidden : (f : Refused) → f ≡ of_part part.LeftBook says.HiddenBeyond → a ≡ true → IsClaim l r h s k i j ws (Err f) ws
      unfolding claim_answer
      claim_left_hidden f e t = claim_refused f _ e (rw (eq-eqb (book_refusal l) 0 p, eq-eqb (book_refusal r) 0 p', ← d, t))

      module _ (u : a ≡ false) (b : Bool) (g : b ≡ hides_beyond h.right r) where
        pub claim_right_hidden : (f : Refused) → f ≡ of_part part.RightBook says.HiddenBeyond → b ≡ true → IsClaim l r h s k i j ws (Err f) ws
        unfolding claim_answer
        claim_right_hidden f e t = claim_refused f _ e (rw (eq-eqb (book_refusal l) 0 p, eq-eqb (book_refusal r) 0 p', ← d, u, ← g, t))

        module _ (v : b ≡ false) where
          pub claim_sheet : (f : Refused) → f ≡ of_part part.Sheet (named (sheet_refusal s)) → (sheet_refusal s ≡ 0 → ⊥) → IsClaim l r h s k i j ws (Err f) ws
          unfolding claim_answer
          claim_sheet f e z =
              claim_refused f _ e (rw (eq-eqb (book_refusal l) 0 p, eq-eqb (book_refusal r) 0 p', ← d, u, ← g, v, ne_eqb (sheet_refusal s) 0 z))

          module _ (w : sheet_refusal s ≡ 0) (q : ℕ) (c : q ≡ count_of s) where
            -- what is left to judge
            judged_claim : claim_answer l r h s k i j (length ws)
                ≡ cond (ltb (length ws) q) (Err (of_part part.Call says.FewWords))
                (cond (leb q k) (Err (of_part part.Call says.NoEntry))
                (cond (leb (cells_of l) i || leb (cells_of r) j) (Err (of_part part.Call says.NoPlace))
                (Ok (parts l r h s k i j))))
            unfolding claim_answer
            judged_claim = rw (eq-eqb (book_refusal l) 0 p, eq-eqb (book_refusal r) 0 p', ← d, u, ← g, v, eq-eqb (sheet_refusal s) 0 w, c)

            pub claim_few : (f : Refused) → f ≡ of_part part.Call says.FewWords → length ws < q → IsClaim l r h s k i j ws (Err f) ws
            claim_few f e m = claim_refused f _ e (judged_claim ∙ rw (lt-ltb (length ws) q m))

            module _ (m : q ≤ length ws) where
              pub claim_entry : (f : Refused) → f ≡ of_part part.Call says.NoEntry → q ≤ k → IsClaim l r h s k i j ws (Err f) ws
              claim_entry f e n = claim_refused f _ e (judged_claim ∙ rw (le-ltb (length ws) q m, le-leb q k n))

              module _ (n : k < q) (x : Bool) (o : x ≡ ltb i (cells_of l)) where
                judged_cells : claim_answer l r h s k i j (length ws)
                    ≡ cond (leb (cells_of l) i || leb (cells_of r) j) (Err (of_part part.Call says.NoPlace)) (Ok (parts l r h s k i j))
                judged_cells = judged_claim ∙ rw (le-ltb (length ws) q m, lt-leb q k n)

                pub claim_left_cell : (f : Refused) → f ≡ of_part part.Call says.NoPlace → x ≡ false → IsClaim l r h s k i j ws (Err f) ws
                claim_left_cell f e t = claim_refused f _ e (judged_cells ∙ rw (le-leb (cells_of l) i (ltb-false i _ (sym o ∙ t))))

                module _ (t : x ≡ true) (y : Bool) (o' : y ≡ ltb j (cells_of r)) where
                  pub claim_right_cell : (f : Refused) → f ≡ of_part part.Call says.NoPlace → y ≡ false → IsClaim l r h s k i j ws (Err f) ws
                  claim_right_cell f e t' =
                      claim_refused f _ e (judged_cells ∙ rw (le-leb (cells_of r) j (ltb-false j _ (sym o' ∙ t')), or-true))

                  pub claim_done : y ≡ true → (b : Bool) (ws' : List ℕ) → Told (parts l r h s k i j) (truth_words r h.right s ws) b ws'
                      → IsClaim l r h s k i j ws (Ok b) ws'
                  unfolding left_by_claim
                  claim_done t' b ws' told =
                      claim_told (Ok b) ws'
                      (judged_cells
                      ∙ rw (lt-leb (cells_of l) i (ltb-true i _ (sym o ∙ t)), lt-leb (cells_of r) j (ltb-true j _ (sym o' ∙ t')), told.answer))
                      told.words

-- a cell that a book has
pub has_in : (i n : ℕ) (x : Bool) → x ≡ ltb i n → x ≡ true → i < n
has_in i n x o t = ltb-true i n (sym o ∙ t)

-- ---- numbers that are too large
-- what follows a test that fails
cond_ext : {A : Type 0} (b : Bool) (x y z : A) → (b ≡ false → y ≡ z) → cond b x y ≡ cond b x z
cond_ext true x y z f = refl
cond_ext false x y z f = f refl

-- a number cut to `top` is below n where the number is
leb_min : (n x top : ℕ) → n ≤ top → leb n (min x top) ≡ leb n x
leb_min n x top h = go (leb n x) refl
  where
    go : (b : Bool) → leb n x ≡ b → leb n (min x top) ≡ b
    go true e = let g = leb-true n x e in le-leb n (min x top) (omega arith)
    go false e = let g = leb-false n x e in lt-leb n (min x top) (omega arith)

min-below : (n x top : ℕ) → n ≤ top → leb n x ≡ false → min x top ≡ x
min-below n x top h e = let g = leb-false n x e in omega arith

claim_cut : (l r : List ℕ) (h : Hidden) (s : List ℕ) (k i j m : ℕ) → claim_answer l r h s (min k 65535) (min i 255) (min j 255) m ≡ claim_answer l r h s k i j m
unfolding claim_answer
claim_cut l r h s k i j m =
    cond_ext (not (eqb (book_refusal l) 0)) _ _ _
    (λ u. cond_ext (not (eqb (book_refusal r) 0)) _ _ _
    (λ v. cond_ext (hides_beyond h.left l) _ _ _
    (λ _. cond_ext (hides_beyond h.right r) _ _ _
    (λ _. cond_ext (not (eqb (sheet_refusal s) 0)) _ _ _
    (λ w.
    let a : count_of s ≤ 65535 = let most = (accepted_head s (none (sheet_refusal s) w)).most in omega arith in
    let b : cells_of l ≤ 255 = let few = (book_sizes l (none (book_refusal l) u)).few in omega arith in
    let d : cells_of r ≤ 255 = let few = (book_sizes r (none (book_refusal r) v)).few in omega arith in
    cond_ext (ltb m (count_of s)) _ _ _
    (λ _. rw (leb_min (count_of s) k 65535 a, leb_min (cells_of l) i 255 b, leb_min (cells_of r) j 255 d)
    (cond_ext (leb (count_of s) k) _ _ _
    (λ e. cond_ext (leb (cells_of l) i || leb (cells_of r) j) _ _ _
    (λ f. let (x, y) = or_fails (leb (cells_of l) i) (leb (cells_of r) j) f in
    rw (min-below (count_of s) k 65535 a e, min-below (cells_of l) i 255 b x, min-below (cells_of r) j 255 d y))))))))))
  where
    none : (n : ℕ) → not (eqb n 0) ≡ false → n ≡ 0
    none n e = eqb-true n 0 (not-false (eqb n 0) e)

    or_fails : (x y : Bool) → (x || y) ≡ false → (x ≡ false) × (y ≡ false)
    or_fails true y e = absurd (false≢true (sym e))
    or_fails false y e = (refl, e)

pub claim_coded : (l r : List ℕ) (h : Hidden) (s ws ws' : List ℕ) (k i j k' i' j' v : ℕ) (a : Result Bool Refused) → k' ≡ min k 65535 → i' ≡ min i 255
    → j' ≡ min j 255 → IsClaim l r h s k' i' j' ws a ws' → v ≡ code (claim_outcome a)
    → IsClaimCode l r h s k i j ws v ws'
claim_coded l r h s ws ws' k i j k' i' j' v a x y z t e =
    let cut : claim_answer l r h s k' i' j' (length ws) ≡ claim_answer l r h s k i j (length ws) = rw (x, y, z) (claim_cut l r h s k i j (length ws)) in
    record {
      answer = e ∙ ap (λ b. code (claim_outcome b)) (t.answer ∙ cut);
      words = t.words ∙ ap (left_by_claim r h.right s ws) cut;
    }

-- an answer that is given, with its first value as a byte
pub claim_accepted : (b : Bool) → code (accepted (bool_byte b) 0) ≡ code (claim_outcome (Ok b))
claim_accepted true = refl
claim_accepted false = refl
