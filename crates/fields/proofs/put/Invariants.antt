use Rattle.std.specs.Prelude.{◌≡◌, ◌-◌, ◌/◌, ◌^◌}
use Rattle.fields.specs.Fields.{with_field}
use Rattle.fields.proofs.put.Given as goal

-- the first i bytes of the field are written
abbrev pub invariant-loop-i : goal.invariant-loop-i
invariant-loop-i g l = l.s ≡ with_field l.i l.initial.s l.at (l.v / 256 ^ (g.row.N - l.i))
