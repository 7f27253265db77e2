-- `sheet_writer::put_comparison` meets its contract: its head and step counts, then its steps.
use Rattle.sheet.proofs.KindLaws.{kind_number-most}
use Rattle.sheet_writer.proofs.Laws.{ways-kept, comparison-written}
use Rattle.sheet_writer.proofs.put_comparison.Goals as goal

pub put_ways-requires : goal.put_ways-requires
put_ways-requires c = search ways-kept

pub returns : goal.returns
returns c = search (comparison-written, kind_number-most)
