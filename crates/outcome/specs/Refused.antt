-- The numbers of refusals (01, "The operations and when they decline", and 02), and results that have one.
use Rattle.std.specs.Prelude.{cond, ℕ, eqb, Result, Ok, Err}
use Rattle.outcome.specs.Outcome.{Outcome, refused, of_call, of_left_book, of_right_book, of_sheet}
use Rattle.outcome.specs.declared.Refusal.{Refusal}
use Rattle.outcome.specs.declared.Refusal.TheVariants as says
use Rattle.outcome.specs.declared.Part.{Part}
use Rattle.outcome.specs.declared.Part.TheVariants as part
use Rattle.outcome.specs.declared.Refused.{Refused}

-- "A refusal is a number": this one.
abbrev pub number : Refusal → ℕ
number says.FewBytes = 1
number says.OtherLength = 2
number says.OtherVersion = 3
number says.BookCounts = 4
number says.OtherSize = 5
number says.LinkCell = 6
number says.LinkOrder = 7
number says.SheetCounts = 8
number says.EntryBytes = 9
number says.OtherKind = 10
number says.ManySteps = 11
number says.NotEarlier = 12
number says.FirstEntry = 13
number says.BodyBytes = 14
number says.BoundAbove = 20
number says.MapLength = 21
number says.FewRoom = 22
number says.FewScratch = 23
number says.FewWords = 24
number says.NoEntry = 25
number says.NoPlace = 26
number says.RowLength = 27
number says.LongChain = 28
number says.LongText = 29
number says.TextRoom = 30
number says.HiddenBeyond = 31

-- The refusal of a number. (One that is no refusal's gives the last: `number-named` says of which numbers it is the refusal.)
unfoldable pub named : ℕ → Refusal
named n =
    cond (eqb n 1) says.FewBytes
    (cond (eqb n 2) says.OtherLength
    (cond (eqb n 3) says.OtherVersion
    (cond (eqb n 4) says.BookCounts
    (cond (eqb n 5) says.OtherSize
    (cond (eqb n 6) says.LinkCell
    (cond (eqb n 7) says.LinkOrder
    (cond (eqb n 8) says.SheetCounts
    (cond (eqb n 9) says.EntryBytes
    (cond (eqb n 10) says.OtherKind
    (cond (eqb n 11) says.ManySteps
    (cond (eqb n 12) says.NotEarlier
    (cond (eqb n 13) says.FirstEntry
    (cond (eqb n 14) says.BodyBytes
    (cond (eqb n 20) says.BoundAbove
    (cond (eqb n 21) says.MapLength
    (cond (eqb n 22) says.FewRoom
    (cond (eqb n 23) says.FewScratch
    (cond (eqb n 24) says.FewWords
    (cond (eqb n 25) says.NoEntry
    (cond (eqb n 26) says.NoPlace
    (cond (eqb n 27) says.RowLength
    (cond (eqb n 28) says.LongChain
    (cond (eqb n 29) says.LongText
    (cond (eqb n 30) says.TextRoom says.HiddenBeyond))))))))))))))))))))))))

-- The part that a refusal speaks of, as a number.
abbrev pub part_number : Part → ℕ
part_number part.Call = of_call
part_number part.LeftBook = of_left_book
part_number part.RightBook = of_right_book
part_number part.Sheet = of_sheet

-- A refusal of a part.
abbrev pub of_part : Part → Refusal → Refused
of_part p r = record { part = p; refusal = r }

-- What a refusal is as an outcome.
abbrev pub declined : Refused → Outcome
declined r = refused (part_number r.part) (number r.refusal)

-- The number of the refusal in a result, 0 where there is none.
abbrev pub refusal_in : {A : Type 0} → Result A Refusal → ℕ
refusal_in (Ok _) = 0
refusal_in (Err r) = number r

-- The result that has the refusal of this number, and is a where the number is 0.
unfoldable pub judged : {A : Type 0} → ℕ → A → Result A Refusal
judged n a = cond (eqb n 0) (Ok a) (Err (named n))
