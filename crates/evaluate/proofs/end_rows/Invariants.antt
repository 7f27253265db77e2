use mathlib.Core.Path.{◌≡◌}
use lib.ListN.{drop}
use Rattle.sheet.specs.Reading.{steps_of}
use Rattle.edges.specs.LinkTables.{forward}
use Rattle.evaluate.specs.Evaluation.{end_rows}
use Rattle.evaluate.proofs.end_rows.Given as goal

abbrev pub invariant-loop-i : goal.invariant-loop-i
invariant-loop-i l = l.rows ≡ end_rows (forward l.links) l.known (drop l.i (steps_of l.sheet l.way))
