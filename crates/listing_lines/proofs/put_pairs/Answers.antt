-- `listing_lines::put_pairs` meets its contract.
use Rattle.listing_lines.proofs.Exits.{matched_few, pairs-written}
use Rattle.listing_lines.proofs.put_pairs.Goals as goal

pub overflow_sub-n : goal.overflow_sub-n
overflow_sub-n c =
    let a = c.args in
    matched_few a.map.now a.n a.m c.put_rows-rows.ensures

pub returns : goal.returns
returns c = search pairs-written
