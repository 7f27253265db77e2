-- `compare_entries::put_reason` meets its contract.
use borrow.Author.Rules.{rules}
use Rattle.compare_entries.proofs.Parting.{first-numbered, way_short, way_fits, put_link, second_numbered, pair_kind, ways_fit, put_pair}
use Rattle.compare_entries.proofs.put_reason.Goals as goal

pub way_along-first-requires : goal.way_along-first-requires
way_along-first-requires c = (search first-numbered, search rules)

pub put_way-requires : goal.put_way-requires
put_way-requires c = (search way_short, search way_fits)

pub returns-in-Way : goal.returns-in-Way
returns-in-Way c = search put_link

pub way_along-second-requires : goal.way_along-second-requires
way_along-second-requires c = (search second_numbered, search rules)

pub put_comparison-requires : goal.put_comparison-requires
put_comparison-requires c = (search pair_kind, search ways_fit)

pub returns-in_default : goal.returns-in_default
returns-in_default c = search put_pair
