-- `question_text::put_text` meets its contract.
use native.Mathlib.Omega.{arith}
use Rattle.std.proofs.Common.{List, ℕ, ◌≡◌, ◌+◌, ◌<◌, sym, length, take, length-take-le, replicate}
use Rattle.std.proofs.lemmas.List.{length-replicate}
use Rattle.sheet.proofs.KnownLaws.{entry_few}
use Rattle.question_text.proofs.Operations.{text_put}
use Rattle.question_text.proofs.put_text.Goals as goal

pub overflow_add-all : goal.overflow_add-all
overflow_add-all c = omega (arith, entry_few _ c.args.sheet.accepted _ c.requires.0)

pub slice_bounds-all-end : goal.slice_bounds-all-end
slice_bounds-all-end c = omega (arith, entry_few _ c.args.sheet.accepted _ c.requires.0)

-- the places for all entries, and for the first k + 1
abbrev places : List ℕ
places = replicate 16385 0

listed : (k : ℕ) → k < 16385 → length (take (k + 1) places) ≡ k + 1
listed k h = length-take-le (k + 1) places (omega (arith, length-replicate {A = ℕ} 16385 0))

pub slice_bounds-starts-end : goal.slice_bounds-starts-end
slice_bounds-starts-end c = sym (listed _ (entry_few _ c.args.sheet.accepted _ c.requires.0))

pub put_question-requires : goal.put_question-requires
put_question-requires c =
    let e : length c.list_starts.new.starts ≡ length (take (c.args.k + 1) places) = c.list_starts.auto.starts in
    (omega (arith, listed _ (entry_few _ c.args.sheet.accepted _ c.requires.0)), omega (arith, c.requires.1))

pub returns : goal.returns
returns c = search text_put
