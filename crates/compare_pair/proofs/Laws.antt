-- A round, taken on step by step.
use Rattle.std.specs.Prelude.{List, ℕ}
use Rattle.theory.specs.Bisimulation.{Relation}
use Rattle.theory.proofs.TestLaws.{never}
use Rattle.compare_laws.specs.Setting.{Setting}
use Rattle.compare_entries.specs.Parting.{Lists}
use Rattle.compare_entries.specs.GrowingLaws.{onward_none, onward-more}
use Rattle.compare_pair.specs.declared.Sizes.{Sizes}
use Rattle.compare_pair.specs.Settling.{Chart, Basis, basis_with, basis, Round, Stands, Goes}

-- nothing done
pub goes_none : (by : Basis) (p : ℕ) (x : Lists) → Goes by p p x x
goes_none by p x = record { next = λ s k r t. t; onward = onward_none x.room x.pen.at }

-- one after the other
pub goes_more : {by : Basis} {p q o : ℕ} {x x' x'' : Lists} → Goes by p q x x' → Goes by q o x' x'' → Goes by p o x x''
goes_more f g = record { next = λ s k r t. g.next s k r (f.next s k r t); onward = onward-more f.onward g.onward }

-- and it stands there
pub goes_stands : {by : Basis} {p q : ℕ} {x x' : Lists} → Stands by p x → Goes by p q x x' → Stands by q x'
goes_stands st f =
    record { setting = st.setting; before = st.before; round = st.round; standing = f.next st.setting st.before st.round st.standing }

-- ---- a step that does not know which pairs stay, in a round where it is known

module _ {idle : Relation} {l r : Chart} {z : Sizes} {rows columns : List ℕ} where
  unknowing : {s : Setting} {k : ℕ} → Round s k (basis_with idle l r z rows columns) → Round s k (basis l r z rows columns)
  unknowing g = record { ground = g.ground; ahead = g.ahead; back = g.back; idle = λ a b o u e. never e }

  pub stands_unknowing : {p : ℕ} {x : Lists} → Stands (basis_with idle l r z rows columns) p x → Stands (basis l r z rows columns) p x
  stands_unknowing st = record { setting = st.setting; before = st.before; round = unknowing st.round; standing = st.standing }

  pub goes_knowing : {p q : ℕ} {x x' : Lists} → Goes (basis l r z rows columns) p q x x' → Goes (basis_with idle l r z rows columns) p q x x'
  goes_knowing f = record { next = λ s k g t. f.next s k (unknowing g) t; onward = f.onward }
