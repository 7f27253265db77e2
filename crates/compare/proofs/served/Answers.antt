-- `compare::served` meets its contract.
use Rattle.compare.proofs.Exits.{sheet_narrow, count-narrow, all_served}
use Rattle.compare.proofs.served.Goals as goal

pub overflow_cast-at : goal.overflow_cast-at
overflow_cast-at c = record { fits = sheet_narrow c.args.left.accepted c.args.right.accepted c.requires.0 c.fill-pen.ensures }

pub overflow_cast-result : goal.overflow_cast-result
overflow_cast-result c = record { fits = sheet_narrow c.args.left.accepted c.args.right.accepted c.requires.0 c.fill-pen.ensures }

pub overflow_cast-result-2 : goal.overflow_cast-result-2
overflow_cast-result-2 c = record { fits = count-narrow c.args.left.accepted c.args.right.accepted c.requires.0 c.fill-pen.ensures _ c.zeros-count.ensures }

pub returns : goal.returns
returns c = all_served c.args.left.accepted c.args.right.accepted c.requires.0 c.fill-pen.ensures c.put_header.ensures c.requires.1 c.clear_bytes.ensures c.zeros-count.ensures
