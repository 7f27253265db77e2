-- `compare_round::settle_row` meets its contract. The invariant: the round stands before the column, and the twin is one.
use mathlib.Core.Path.{refl}
use native.Mathlib.Omega.{arith}
use Rattle.compare_pair.proofs.Laws.{stands_unknowing, goes_knowing}
use Rattle.compare_round.proofs.Exits.{row_begun, row_stands, row_done, row_small, width_small, inside, inside_next, undecided, next_stays, next_parted, row_next, goes_to}
use Rattle.compare_round.proofs.settle_row.Goals.{then-still+then-not-stays, then-still+else-not-stays, else-still}
use Rattle.compare_round.proofs.settle_row.Goals as goal

pub loop-column-init : goal.loop-column-init
loop-column-init c = search row_begun

pub bounds-map-place : goal.bounds-map-place
bounds-map-place c = inside c.loop-column.invariant c.loop-column-test.true

pub stays-requires : goal.stays-requires
stays-requires c =
    let inv = c.loop-column.invariant in
    let h = c.loop-column-test.true in
    (inside inv h, row_small inv, omega (arith, width_small inv, h), inv.shares.before)

pub settle-p-requires : goal.settle-p-requires
settle-p-requires c =
    let inv = c.loop-column.invariant in
    let h = c.loop-column-test.true in
    (stands_unknowing (row_stands inv), undecided inv h _ refl refl refl c.if-still.true)

pub twin_of-twin-requires : goal.twin_of-twin-requires
twin_of-twin-requires c =
    let inv = c.loop-column.invariant in
    let h = c.loop-column-test.true in
    let u = inside inv h in
    elim c.if-still.branch [
      | then-still+then-not-stays w ↦ rw w.map-is (inside_next inv h (goes_knowing w.settle-p.ensures))
      | then-still+else-not-stays w ↦ rw w.map-is u
      | else-still w ↦ rw w.map-is u
    ]

pub loop-column-preserved : goal.loop-column-preserved
loop-column-preserved c =
    let inv = c.loop-column.invariant in
    let h = c.loop-column-test.true in
    row_next inv h (elim c.if-still.branch [
      | then-still+then-not-stays w ↦ goes_to (goes_knowing w.settle-p.ensures) w.room-is w.map-is w.new-is w.p-is
      | then-still+else-not-stays w ↦ goes_to (next_stays inv h w.stays.ensures w.if-not-stays.false) w.room-is w.map-is w.new-is w.p-is
      | else-still w ↦ goes_to (next_parted inv h w.if-still.false) w.room-is w.map-is w.new-is w.p-is
    ]) _ c.twin_of-twin.ensures

pub returns : goal.returns
returns c = search row_done
