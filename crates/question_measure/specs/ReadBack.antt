-- Reading a question's text back (02, request 2026-01). `ReadBackLaws` says that what is read is the question that was written, so a text tells its
-- question. Of bytes that are no question's text nothing is said.
use Rattle.std.specs.Prelude.{cond, ◌||◌, List, [], ◌∷◌, ℕ, zero, suc, ◌+◌, ◌-◌, ◌*◌, eqb, ltb, length, get_or, drop}
use Rattle.theory.specs.Graph.{same, differ}
use Rattle.theory.specs.Expression.{PathExpr, NodeExpr, stay, step, test, seq, neg, conj, disj, exists, compare, always}

-- The first byte.
abbrev pub byte : List ℕ → ℕ
byte bs = get_or bs 0 0

-- A number in base ten whose digits so far are those of n, and what follows it.
unfoldable pub read_number : ℕ → List ℕ → ℕ × List ℕ
read_number n [] = (n, [])
read_number n (b ∷ bs) = cond (ltb b 48 || ltb 57 b) (n, b ∷ bs) (read_number (n * 10 + (b - 48)) bs)

-- The steps of a way, at most `most`, each `/label[p]`, where `question` reads a question and what follows it.
unfoldable pub read_steps : (List ℕ → NodeExpr × List ℕ) → ℕ → List ℕ → PathExpr × List ℕ
read_steps question zero bs = (stay, bs)
read_steps question (suc most) bs =
    let label = read_number 0 (drop 1 bs) in
    let tested = question (drop 1 label.1) in
    let others = read_steps question most (drop 1 tested.1) in
    cond (eqb (byte bs) 47) (seq (step label.0) (seq (test tested.0) others.0), others.1) (stay, bs)

-- A way: `.`, or its steps.
unfoldable pub read_way : (List ℕ → NodeExpr × List ℕ) → ℕ → List ℕ → PathExpr × List ℕ
read_way question most bs = cond (eqb (byte bs) 46) (stay, drop 1 bs) (read_steps question most bs)

-- A question, at most `most` references deep and with at most as many steps in a way: `!(p)`, `(p&q)`, `(p|q)`, `<w>`, `<w=v>` or `<w!=v>`.
unfoldable pub read_question : ℕ → List ℕ → NodeExpr × List ℕ
read_question zero bs = (always, bs)
read_question (suc most) bs =
    let part = read_question most (drop 2 bs) in
    let first = read_question most (drop 1 bs) in
    let second = read_question most (drop 1 first.1) in
    let way = read_way (read_question most) most (drop 1 bs) in
    let equal = read_way (read_question most) most (drop 1 way.1) in
    let unequal = read_way (read_question most) most (drop 2 way.1) in
    cond (eqb (byte bs) 33) (neg part.0, drop 1 part.1)
    (cond (eqb (byte bs) 40) (cond (eqb (byte first.1) 38) (conj first.0 second.0) (disj first.0 second.0), drop 1 second.1)
    (cond (eqb (byte way.1) 62) (exists way.0, drop 1 way.1)
    (cond (eqb (byte way.1) 61) (compare same way.0 equal.0, drop 1 equal.1)
    (compare differ way.0 unequal.0, drop 1 unequal.1))))

-- The question of a text.
abbrev pub read_back_lem : List ℕ → NodeExpr
read_back_lem bs = (read_question (length bs) bs).0
