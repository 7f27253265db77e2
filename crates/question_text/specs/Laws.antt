-- Laws of the answers: what an answered length says, and the number that tells it.
use Rattle.std.specs.Prelude.{Bool, true, false, cond, List, ◌≡◌, refl, ℕ, ◌*◌, ◌^◌, ◌≤◌, ◌<◌, eqb, ltb, length, Ok, Err}
use Rattle.std.proofs.Common.{arith, eqb-true, ltb-true, ltb-false}
use Rattle.outcome.specs.Outcome.{code}
use Rattle.outcome.specs.Refused.{named, of_part}
use Rattle.outcome.specs.declared.Refusal.TheVariants as says
use Rattle.outcome.specs.declared.Part.TheVariants as part
use Rattle.theory.specs.Expression.{NodeExpr}
use Rattle.sheet.specs.Sheet.{count_of, question_of, sheet_refusal}
use Rattle.question_measure.specs.Text.{text_length, chain, most_chain, most_length}
use Rattle.question_text.specs.Answer.{Answer, refused, text_of, question_answer, length_answer, text_outcome}

-- The length n of the text of entry k is answered.
pub record Told (s : List ℕ) (k n : ℕ) : Type 0 where
  pub good : sheet_refusal s ≡ 0
  pub there : k < count_of s
  pub chained : chain (question_of s k) ≤ most_chain
  pub exact : n ≡ length (text_of s k)
  pub short : n ≤ most_length

-- the length operation's answer is the length of the text, and only an accepted sheet's entry whose chain and text are short enough has one
pub length_told : (s : List ℕ) (k n : ℕ) → ◌≡◌ {A = Answer} (Ok n) (length_answer s k) → Told s k n
unfolding length_answer question_answer
length_told s k n h = go (eqb (sheet_refusal s) 0) refl (ltb k (count_of s)) refl (ltb most_chain (chain q)) refl (ltb most_length (text_length q)) refl h
  where
    q : NodeExpr
    q = question_of s k

    go : (a : Bool) → eqb (sheet_refusal s) 0 ≡ a → (b : Bool) → ltb k (count_of s) ≡ b → (c : Bool) → ltb most_chain (chain q) ≡ c → (d : Bool) → ltb most_length (text_length q) ≡ d
        → ◌≡◌ {A = Answer} (Ok n) (cond a (cond b (cond c (refused says.LongChain) (cond d (refused says.LongText) (Ok (text_length q)))) (refused says.NoEntry)) (Err (of_part part.Sheet (named (sheet_refusal s))))) → Told s k n
    go false ea b eb c ec d ed h = let z : ◌≡◌ {A = ℕ} 0 1 = cc in absurd (omega arith)
    go true ea false eb c ec d ed h = let z : ◌≡◌ {A = ℕ} 0 1 = cc in absurd (omega arith)
    go true ea true eb true ec d ed h = let z : ◌≡◌ {A = ℕ} 0 1 = cc in absurd (omega arith)
    go true ea true eb false ec true ed h = let z : ◌≡◌ {A = ℕ} 0 1 = cc in absurd (omega arith)
    go true ea true eb false ec false ed h =
        let e : n ≡ text_length q = cc in
        record {
          good = eqb-true (sheet_refusal s) 0 ea;
          there = ltb-true k (count_of s) eb;
          chained = ltb-false most_chain (chain q) ec;
          exact = e;
          short = omega (arith, ltb-false most_length (text_length q) ed);
        }

-- the number of a length
pub length_number : (n : ℕ) → code (text_outcome (Ok n)) ≡ 2 ^ 16 * n
unfolding code
length_number n = omega arith
