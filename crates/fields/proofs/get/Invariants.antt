use Rattle.std.specs.Prelude.{◌≡◌, ◌^◌, ◌<◌}
use Rattle.fields.specs.Fields.{field}
use Rattle.fields.proofs.get.Given as goal

-- the bytes so far, as a field
abbrev pub invariant-loop-i : goal.invariant-loop-i
invariant-loop-i g l = record {
  read : l.v ≡ field l.i l.s l.at;
  small : l.v < 256 ^ l.i;
}
