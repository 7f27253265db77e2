-- A side's lists as the search's definitions take them, and the half of a table that a number of 0 or 1 said.
use Rattle.std.specs.Prelude.{ℕ, ◌<◌}
use Rattle.std.proofs.Common.{arith}
use Rattle.search_links.specs.declared.side.Side.{Side}
use Rattle.search_links.specs.declared.Half.{Half}
use Rattle.search_links.specs.declared.Half.TheVariants as rows
use Rattle.search_links.specs.Hops.{View, view_of}

-- The view of a side's lists.
abbrev pub view : Side → View
view s = view_of s.starts s.labels s.to

-- The number of a half of a table of 128 rows: 0 the rows from 0 on, 1 those from 64 on.
abbrev pub half : Half → ℕ
half rows.Low = 0
half rows.High = 1

pub half_small : (t : Half) → half t < 2
half_small rows.Low = omega arith
half_small rows.High = omega arith
