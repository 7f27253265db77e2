use mathlib.Core.Path.{◌≡◌}
use Prim.Native.Nat.{◌<◌, ◌^◌}
use lib.ListN.{drop}
use Rattle.sheet.specs.Reading.{steps_of}
use Rattle.edges.specs.LinkTables.{backward}
use Rattle.evaluate.specs.Evaluation.{way_word}
use Rattle.evaluate.proofs.way_word.Given as goal

abbrev pub invariant-loop-i : goal.invariant-loop-i
invariant-loop-i l = (l.out ≡ way_word l.every (backward l.links) l.known (drop l.i (steps_of l.sheet l.way))) × (l.out < 2 ^ 64)
