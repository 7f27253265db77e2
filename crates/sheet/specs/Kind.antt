-- The kind of an entry that a byte of a sheet gives.
use Rattle.std.specs.Prelude.{◌≡◌, ℕ, ◌<◌, Result, MatchResult}
use Rattle.outcome.specs.declared.Refusal.{Refusal}
use Rattle.outcome.specs.declared.Refusal.TheVariants.{OtherKind}
use Rattle.sheet.specs.Entry.{kind_number}
use Rattle.sheet.specs.Sheet.{most_kind}
use Rattle.sheet.specs.declared.kinds.Kind.{Kind}

-- The kind of that number, or "10: kind above 6".
abbrev pub Decodes : ℕ → Result Kind Refusal → Type 0
Decodes number r = MatchResult r (λ kind. kind_number kind ≡ number) (λ e. (e ≡ OtherKind) × (most_kind < number))
