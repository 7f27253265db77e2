-- The entries of a sheet as data, and the node expressions that they spell (01, "Sheet bytes").
use Rattle.std.specs.Prelude.{cond, List, [], ◌∷◌, ◌++◌, ◌≡◌, ℕ, suc, ◌<◌, ◌≤◌, eqb, length, get_or}
use Rattle.theory.specs.Graph.{Comparison, same, differ}
use Rattle.theory.specs.Expression.{PathExpr, NodeExpr, stay, step, test, seq, neg, conj, disj, exists, compare, always}
use Rattle.sheet.specs.declared.kinds.Kind.{Kind}
use Rattle.sheet.specs.declared.kinds.Kind.TheVariants as says

-- "A step is a label" ("byte" in version 1) "and the number of a test at the cell reached."
pub record Step : Type 0 where
  pub label : ℕ
  pub test : ℕ

-- "True, nothing; not, one number; and, two; or, two; way, steps; same and differ, the first way's steps, the second's."
pub data Entry : Type 0 where
  truth : Entry
  negation : ℕ → Entry
  conjunction disjunction : ℕ → ℕ → Entry
  way : List Step → Entry
  comparison : Comparison → List Step → List Step → Entry

-- The entry of a kind: "kind 0 true, nothing; 1 not, one number; 2 and, two; 3 or, two; 4 way, k steps;
-- 5 same and 6 differ, the first way's steps, the second's". What the kind does not have is not looked at.
unfoldable pub entry_with : ℕ → ℕ → ℕ → List Step → List Step → Entry
entry_with kind i j s s' =
    cond (eqb kind 1) (negation i)
    (cond (eqb kind 2) (conjunction i j)
    (cond (eqb kind 3) (disjunction i j)
    (cond (eqb kind 4) (way s)
    (cond (eqb kind 5) (comparison same s s')
    (cond (eqb kind 6) (comparison differ s s')
    truth)))))

-- The number of a kind.
abbrev pub kind_number : Kind → ℕ
kind_number says.True = 0
kind_number says.Not = 1
kind_number says.And = 2
kind_number says.Or = 3
kind_number says.Way = 4
kind_number says.Same = 5
kind_number says.Differ = 6

-- The kind of a comparison.
abbrev pub comparison_kind : Comparison → ℕ
comparison_kind same = 5
comparison_kind differ = 6

-- The kind of an entry.
unfoldable pub kind_of : Entry → ℕ
kind_of truth = 0
kind_of (negation i) = 1
kind_of (conjunction i j) = 2
kind_of (disjunction i j) = 3
kind_of (way s) = 4
kind_of (comparison t s s') = comparison_kind t

-- The steps of its first way; none where it has no way.
unfoldable pub first_way_lem : Entry → List Step
first_way_lem truth = []
first_way_lem (negation i) = []
first_way_lem (conjunction i j) = []
first_way_lem (disjunction i j) = []
first_way_lem (way s) = s
first_way_lem (comparison t s s') = s

-- The steps of its second way.
unfoldable pub second_way : Entry → List Step
second_way truth = []
second_way (negation i) = []
second_way (conjunction i j) = []
second_way (disjunction i j) = []
second_way (way s) = []
second_way (comparison t s s') = s'

-- Step i of a way.
abbrev pub step_in : List Step → ℕ → Step
step_in ss i = get_or ss i (record { label = 0; test = 0 })

-- The expression that a number names among qs; past their end, always true.
abbrev pub named : List NodeExpr → ℕ → NodeExpr
named qs i = get_or qs i always

-- The path expression of a way's steps, every number in it read as one of qs: each step is taken, then its test is made.
unfoldable pub spell_way : List NodeExpr → List Step → PathExpr
spell_way qs [] = stay
spell_way qs (s ∷ ss) = seq (step s.label) (seq (test (named qs s.test)) (spell_way qs ss))

-- "An entry's question is the one it spells when every number in it is read as the question of the entry named."
unfoldable pub spell : List NodeExpr → Entry → NodeExpr
spell qs truth = always
spell qs (negation i) = neg (named qs i)
spell qs (conjunction i j) = conj (named qs i) (named qs j)
spell qs (disjunction i j) = disj (named qs i) (named qs j)
spell qs (way s) = exists (spell_way qs s)
spell qs (comparison t s s') = compare t (spell_way qs s) (spell_way qs s')

-- The expressions qs of the entries before, and after them those of es.
unfoldable pub extend : List NodeExpr → List Entry → List NodeExpr
extend qs [] = qs
extend qs (e ∷ es) = extend (qs ++ (spell qs e ∷ [])) es

-- The expressions of entries that are numbered from 0.
unfoldable pub expressions : List Entry → List NodeExpr
expressions es = extend [] es

-- The expression of entry i.
abbrev pub expression : List Entry → ℕ → NodeExpr
expression es i = named (expressions es) i

-- The numbers in a way's steps.
unfoldable pub tests : List Step → List ℕ
tests [] = []
tests (s ∷ ss) = s.test ∷ tests ss

-- The numbers in an entry, in their order.
unfoldable pub numbers : Entry → List ℕ
numbers truth = []
numbers (negation i) = i ∷ []
numbers (conjunction i j) = i ∷ j ∷ []
numbers (disjunction i j) = i ∷ j ∷ []
numbers (way s) = tests s
numbers (comparison t s s') = tests s ++ tests s'

-- The most steps of kind 4 in a sheet of version v.
abbrev pub most_steps : ℕ → ℕ
most_steps v = 60

-- "k is at most 60 in kind 4, at most c in kinds 5 and 6", in version v.
unfoldable pub Short : ℕ → ℕ → Entry → Type 0
Short v c truth = Unit {0}
Short v c (negation i) = Unit {0}
Short v c (conjunction i j) = Unit {0}
Short v c (disjunction i j) = Unit {0}
Short v c (way s) = length s ≤ most_steps v
Short v c (comparison t s s') = (length s ≤ c) × (length s' ≤ c)

-- Every number is below n.
unfoldable pub Below : ℕ → List ℕ → Type 0
Below n [] = Unit {0}
Below n (i ∷ is) = (i < n) × Below n is

-- The entry may stand as number n of a sheet of version v for the bound c: "entry 0 is kind 0"; its step counts; each number in it "names an earlier entry".
pub record WellFormedEntry (v c n : ℕ) (e : Entry) : Type 0 where
  pub first : n ≡ 0 → e ≡ truth
  pub short : Short v c e
  pub earlier : Below n (numbers e)

-- The entries may stand from number n on.
unfoldable pub WellFormedFrom : ℕ → ℕ → ℕ → List Entry → Type 0
WellFormedFrom v c n [] = Unit {0}
WellFormedFrom v c n (e ∷ es) = WellFormedEntry v c n e × WellFormedFrom v c (suc n) es

-- The entries of a sheet of version v for the bound c, numbered from 0.
pub record WellFormed (v c : ℕ) (es : List Entry) : Type 0 where
  pub each : WellFormedFrom v c 0 es
