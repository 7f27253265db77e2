-- Pairs that a round need not look at.
use Rattle.std.specs.Prelude.{not, ◌&&◌}
use Rattle.theory.specs.Bisimulation.{Relation}
use Rattle.words.specs.Words.{bit}
use Rattle.compare_round.specs.declared.Live.{Live}

-- Not both of its cells are among those that are to be looked at.
unfoldable pub idle_in : Live → Relation
idle_in live i j = not (bit live.left i && bit live.right j)
