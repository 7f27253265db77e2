-- Of an outcome that fits, each of the four numbers is found in the one: what the macros of include/cuhnavel.h take out of an answer. In C, `n & 0xff`
-- is n % 2^8, `n & 0xffffff` is n % 2^24, and `n >> k` is n / 2^k.
use Rattle.std.specs.Prelude.{◌≡◌, ℕ, ◌+◌, ◌*◌, ◌/◌, ◌%◌, ◌^◌, ◌<◌}
use Rattle.std.proofs.Common.{arith}
use Rattle.outcome.specs.Outcome.{Outcome, accepted, refused, code, Fits}
use Rattle.outcome.specs.Refused.{number, part_number, declined}
use Rattle.outcome.specs.declared.Refusal.{Refusal}
use Rattle.outcome.specs.declared.Refusal.TheVariants as says
use Rattle.outcome.specs.declared.Part.{Part}
use Rattle.outcome.specs.declared.Part.TheVariants as part
use Rattle.outcome.specs.declared.Refused.{Refused}

module _ (o : Outcome) (f : Fits o) where
  -- the number has 64 bits
  pub code_bits : code o < 2 ^ 64
  unfolding code
  code_bits = omega (arith, f.refusal, f.part, f.first, f.second)

  -- CUHNAVEL_REFUSAL
  pub code_refusal : code o % 2 ^ 8 ≡ o.refusal
  unfolding code
  code_refusal = omega (arith, f.refusal)

  -- CUHNAVEL_PART
  pub code-part : code o / 2 ^ 8 % 2 ^ 8 ≡ o.part
  unfolding code
  code-part = omega (arith, f.refusal, f.part)

  -- CUHNAVEL_FIRST
  pub code-first : code o / 2 ^ 16 % 2 ^ 24 ≡ o.first
  unfolding code
  code-first = omega (arith, f.refusal, f.part, f.first)

  -- CUHNAVEL_SECOND
  pub code_second : code o / 2 ^ 40 ≡ o.second
  unfolding code
  code_second = omega (arith, f.refusal, f.part, f.first)

  -- CUHNAVEL_LENGTH, before it is cut to 32 bits
  pub code_values : code o / 2 ^ 16 ≡ o.first + 2 ^ 24 * o.second
  unfolding code
  code_values = omega (arith, f.refusal, f.part)

-- ---- what fits
pub accepted_fits : (first second : ℕ) → first < 2 ^ 24 → second < 2 ^ 24 → Fits (accepted first second)
accepted_fits first second a b = record { refusal = omega arith; part = omega arith; first = a; second = b }

pub refused_fits : (part number : ℕ) → part < 2 ^ 8 → number < 2 ^ 8 → Fits (refused part number)
refused_fits part number a b = record { refusal = b; part = a; first = omega arith; second = omega arith }

number_fits : (r : Refusal) → number r < 2 ^ 8
number_fits says.FewBytes = omega arith
number_fits says.OtherLength = omega arith
number_fits says.OtherVersion = omega arith
number_fits says.BookCounts = omega arith
number_fits says.OtherSize = omega arith
number_fits says.LinkCell = omega arith
number_fits says.LinkOrder = omega arith
number_fits says.SheetCounts = omega arith
number_fits says.EntryBytes = omega arith
number_fits says.OtherKind = omega arith
number_fits says.ManySteps = omega arith
number_fits says.NotEarlier = omega arith
number_fits says.FirstEntry = omega arith
number_fits says.BodyBytes = omega arith
number_fits says.BoundAbove = omega arith
number_fits says.MapLength = omega arith
number_fits says.FewRoom = omega arith
number_fits says.FewScratch = omega arith
number_fits says.FewWords = omega arith
number_fits says.NoEntry = omega arith
number_fits says.NoPlace = omega arith
number_fits says.RowLength = omega arith
number_fits says.LongChain = omega arith
number_fits says.LongText = omega arith
number_fits says.TextRoom = omega arith
number_fits says.HiddenBeyond = omega arith

part_fits : (p : Part) → part_number p < 2 ^ 8
part_fits part.Call = omega arith
part_fits part.LeftBook = omega arith
part_fits part.RightBook = omega arith
part_fits part.Sheet = omega arith

-- each refusal does
pub declined_fits : (r : Refused) → Fits (declined r)
declined_fits r = refused_fits _ _ (part_fits r.part) (number_fits r.refusal)
