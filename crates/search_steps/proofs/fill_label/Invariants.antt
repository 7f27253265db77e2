use Rattle.search_steps.proofs.Exits.{Stretching}
use Rattle.search_steps.proofs.fill_label.Given as goal

abbrev pub invariant-loop-e : goal.invariant-loop-e
invariant-loop-e l = Stretching l.z l.ea l.eb l.wide l.rows l.table.lefts l.table.rights l.n l.from l.initial.out.lefts l.initial.out.rights l.base l.count l.out.lefts l.out.rights l.total l.e
