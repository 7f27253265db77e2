use mathlib.Core.Path.{◌≡◌}
use Rattle.search_tables.specs.Tips.{Narrowed}
use Rattle.search_tables.proofs.narrow.Given as goal

abbrev pub invariant-loop-e : goal.invariant-loop-e
invariant-loop-e l = record {
  narrowed : Narrowed l.initial.table.lefts l.initial.table.rights l.base l.n l.cells l.w l.table.lefts;
  rights : l.table.rights ≡ l.initial.table.rights;
}
