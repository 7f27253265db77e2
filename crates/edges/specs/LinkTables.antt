-- The links that loaded lists hold.
use Rattle.std.specs.Prelude.{List}
use Rattle.theory.specs.Graph.{Link}
use Rattle.edges.specs.Edges.{edges}
use Rattle.edges.specs.Groups.{total}
use Rattle.edges.specs.declared.links.Links.{Links}

-- The links.
abbrev pub forward : Links → List Link
forward l = edges (total l.starts) l.from l.labels l.to

-- The links walked backwards.
abbrev pub backward : Links → List Link
backward l = edges (total l.starts) l.to l.labels l.from
