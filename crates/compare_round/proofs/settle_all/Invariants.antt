use Rattle.compare_entries.specs.Parting.{lists}
use Rattle.compare_pair.specs.Settling.{chart_of, basis_with}
use Rattle.compare_round.specs.Idle.{idle_in}
use Rattle.compare_round.proofs.Exits.{InMap}
use Rattle.compare_round.proofs.settle_all.Given as goal

abbrev pub invariant-loop-row : goal.invariant-loop-row
invariant-loop-row l =
    InMap (basis_with (idle_in l.live) (chart_of l.a) (chart_of l.b) l.sizes l.rows l.columns) l.row (lists l.initial.room l.initial.p l.initial.map l.old l.initial.new) (lists l.room l.p l.map l.old l.new)
