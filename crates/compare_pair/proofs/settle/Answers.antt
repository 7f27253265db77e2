-- `compare_pair::settle` meets its contract.
use Rattle.compare_pair.proofs.Exits.{ahead_fits, ahead_goes, left_goes, covered_goes, back_fits, back_goes, stays_goes}
use Rattle.compare_pair.proofs.settle.Goals as goal

pub part-requires : goal.part-requires
part-requires c = let p = c.requires in ahead_fits p.1 p.0 _ c.reason_for.ensures _ c.in-Some.is

pub returns-then-both : goal.returns-then-both
returns-then-both c = let p = c.requires in ahead_goes p.1 p.0 _ c.reason_for.ensures _ c.in-Some.is c.if-both.true _ c.part.ensures

pub part_left-requires : goal.part_left-requires
part_left-requires c = let p = c.requires in ahead_fits p.1 p.0 _ c.reason_for.ensures _ c.in-Some.is

pub returns-in-Some : goal.returns-in-Some
returns-in-Some c = let p = c.requires in left_goes p.1 p.0 _ c.reason_for.ensures _ c.in-Some.is c.if-both.false _ c.part_left.ensures

pub returns-then-not-both : goal.returns-then-not-both
returns-then-not-both c = let p = c.requires in covered_goes p.1 p.0 _ c.reason_for.ensures c.in_default.is c.if-not-both.true

pub part-requires-in-Some-reason_for : goal.part-requires-in-Some-reason_for
part-requires-in-Some-reason_for c = let p = c.requires in back_fits p.1 p.0 _ c.reason_for.ensures c.in_default.is _ c.reason_for-2.ensures _ c.in-Some-reason_for.is

pub returns-in-Some-reason_for : goal.returns-in-Some-reason_for
returns-in-Some-reason_for c = let p = c.requires in back_goes p.1 p.0 _ c.reason_for.ensures c.in_default.is _ c.reason_for-2.ensures _ c.in-Some-reason_for.is c.if-not-both.false _ c.part-in-Some-reason_for.ensures

pub returns-in-None : goal.returns-in-None
returns-in-None c = let p = c.requires in stays_goes p.1 p.0 _ c.reason_for.ensures c.in_default.is _ c.reason_for-2.ensures c.in-None.is
