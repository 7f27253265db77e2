-- `compare_lists::read` meets its contract.
use mathlib.Core.Path.{refl}
use Rattle.edges.specs.Edges.{empty_rows}
use Rattle.compare_lists.proofs.Exits.{read_ordered, read_whole}
use Rattle.compare_lists.proofs.read.Goals as goal

pub passing-requires : goal.passing-requires
unfolding empty_rows
passing-requires c = (refl, refl)

pub invariant_of-side : goal.invariant_of-side
invariant_of-side c = record { ordered = read_ordered _ _ _ _ _ _ _ c.args.book.accepted c.fill-count.ensures c.starts-side.ensures }

pub returns : goal.returns
returns c =
    record {
      count = c.fill-count.result;
      from = c.fill-count.new.from;
      read = read_whole _ _ _ _ _ _ _ c.args.book.accepted c.fill-count.ensures c.starts-side.ensures _ _ _ c.passing.ensures c.paired-side.ensures;
    }
