-- `compare_map::zeros` meets its contract.
use mathlib.Core.Path.{◌≡◌, sym, ◌∙◌}
use borrow.Author.Rules.{rules}
use lib.Dec.{eqb}
use Rattle.std.specs.List.{count_by}
use Rattle.compare_map.proofs.Exits.{zeros_counted}
use Rattle.compare_map.proofs.zeros.Goals as goal

pub returns : goal.returns
returns c = let k : c.count.result ≡ count_by (λ v. eqb v 0) c.args.map.now = search rules in k ∙ sym (zeros_counted _)
