-- `search_tables::narrow` meets its contract. The invariant: what was taken out has a set wider than w and is of the cells.
use Rattle.search_tables.proofs.Exits.{narrowed_next}
use Rattle.search_tables.proofs.narrow.Goals as goal
use Rattle.search_tables.proofs.narrow.Goals.{then-set-w+then-inside, else-set-w}

pub loop-e-preserved : goal.loop-e-preserved
loop-e-preserved c =
    let i = c.loop-e.invariant in
    let q = i.rights in
    elim c.if-set-w.branch [
      | then-set-w+then-inside w ↦
          rw w.table-is (record {
            narrowed = narrowed_next _ _ _ _ _ _ _ _ _ _ i.narrowed c.loop-e.auto.e c.loop-e-test.true (rw q at w.if-set-w.true) (rw q at w.inside.ensures) w.if-inside.true w.minus.ensures;
            rights = q;
          })
      | else-set-w w ↦ rw w.table-is i
    ]
