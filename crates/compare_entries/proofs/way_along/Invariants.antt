use Rattle.compare_entries.specs.Growing.{side_of}
use Rattle.compare_entries.proofs.Parting.{Filled}
use Rattle.compare_entries.proofs.way_along.Given as goal

abbrev pub invariant-loop-i : goal.invariant-loop-i
invariant-loop-i l = Filled l.labels l.to (side_of l.base l.numbers) l.path.links l.steps l.i
