-- The tables that the evaluation is given.
use Rattle.std.specs.Prelude.{ℕ}
use Rattle.edges.specs.Groups.{total}
use Rattle.edges.specs.declared.links.Links.{Links}
use Rattle.edges.specs.declared.Rows.{Rows}
use Rattle.evaluate.specs.Evaluation.{Tables, tables}

-- Those of the nodes `every`, the links and the rows of both comparisons.
abbrev pub tables_of : ℕ → Links → Rows → Tables
tables_of every links rows = tables every (total links.starts) links.from links.labels links.to rows.same rows.differ
