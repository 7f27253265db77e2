-- `sheet_writer::put_step` meets its contract: its label, then its number.
use native.Mathlib.Omega.{arith}
use Rattle.sheet_writer.proofs.Laws.{step-written}
use Rattle.sheet_writer.proofs.put_step.Goals as goal

pub returns : goal.returns
returns c = record { bytes = search step-written; end = omega arith }
