-- Laws of Pair: what each answer shows of the map and the sheet, and where the entry of a question starts.
use Rattle.std.specs.Prelude.{Bool, cond, List, ◌⊎◌, ◌≡◌, ℕ, zero, suc, ◌+◌, ◌*◌, ◌^◌, ◌≤◌, ◌<◌, length, Result, Ok, Err}
use Rattle.std.proofs.Math.Bool.{true, false}
use Rattle.std.proofs.Math.Logic.{inl, inr}
use Rattle.std.proofs.Math.Path.{refl}
use Rattle.std.proofs.Common.{arith}
use borrow.Author.Tests.{lt-ltb, ltb-true, ltb-false, eq-eqb, eqb-true, eqb-false}
use Rattle.std.proofs.Math.Dec.{eqb, ltb}
use Rattle.std.proofs.Math.ListN.{get_or}
use Rattle.fields.specs.Fields.{Bytes}
use Rattle.sheet.specs.Entry.{truth}
use Rattle.sheet.proofs.PassedLaws.{accepted_head}
use Rattle.sheet.specs.Sheet.{hidden_place, count_of, head_size, next_at, start_from, entries_of, entry_at, entry_start, sheet_refusal}
use Rattle.sheet.proofs.AcceptedLaws.{accepted_standing, entries_of-at}
use Rattle.sheet.specs.declared.Question.{Question}
use Rattle.answers.specs.Pair.{place_of, question_answer, place_answer, pair_answer}
use Rattle.outcome.specs.Refused.{number, named, of_part}
use Rattle.outcome.specs.declared.Part.{Part}
use Rattle.outcome.specs.declared.Part.TheVariants as part
use Rattle.outcome.specs.declared.Refusal.{Refusal}
use Rattle.outcome.specs.declared.Refusal.TheVariants.{NoEntry, NoPlace}
use Rattle.outcome.specs.declared.Refused.{Refused}
use Rattle.sheet.proofs.OutcomeLaws.{sheet_refusal-named}
use Rattle.answers.specs.declared.Said.{Said}
use Rattle.answers.specs.declared.Said.TheVariants.{Matched, Hidden, Parted}
use Rattle.answers.specs.declared.Place.TheVariants as says

-- ---- where an entry starts
-- an entry takes at most 256 bytes
start_le : (s : List ℕ) → Bytes s → (at k : ℕ) → start_from s at k ≤ at + 256 * k
unfolding start_from
start_le s b at zero = omega arith
start_le s b at (suc k) = omega (arith, start_le s b (next_at s at) k, b.each at)

pub entry_start-le : (s : List ℕ) → Bytes s → (k : ℕ) → entry_start s k ≤ head_size + 256 * k
entry_start-le s b = start_le s b head_size

-- ---- what an answer shows
-- The sheet is accepted, and the place is in the map.
pub record Given (map : List ℕ) (place : ℕ) (s : List ℕ) : Type 0 where
  pub good : sheet_refusal s ≡ 0
  pub inside : place < length map

-- Then the answer is what the place says.
pub pair_given : (map : List ℕ) (place : ℕ) (s : List ℕ) → Given map place s → pair_answer map place s ≡ place_answer s (place_of (get_or map place 0))
unfolding pair_answer
pair_given map place s g = simp (eq-eqb (sheet_refusal s) 0 g.good, lt-ltb place (length map) g.inside)

-- The place names entry k of the sheet; the byte is the first of that entry, and the entry lies in the sheet.
pub record Fetched (map : List ℕ) (place : ℕ) (s : List ℕ) (k start : ℕ) : Type 0 where
  pub given : Given map place s
  pub named : k ≡ get_or map place 0
  pub parted : k ≡ 0 → ⊥
  pub below : k < count_of s
  pub starts : start ≡ entry_start s k
  pub entry : get_or (entries_of s) k truth ≡ entry_at s start
  pub whole : start + get_or s start 0 < length s

-- What is said shows of the map and the sheet.
unfoldable pub Tells : List ℕ → ℕ → List ℕ → Said → Type 0
Tells map place s Matched = Given map place s × (get_or map place 0 ≡ 0)
Tells map place s Hidden = Given map place s × (get_or map place 0 ≡ hidden_place)
Tells map place s (Parted question start) = Fetched map place s question.0 start

-- What a refusal shows, by the part that it speaks of: the sheet's own, or one of the call.
unfoldable pub Declines : List ℕ → ℕ → List ℕ → Part → Refusal → Type 0
Declines map place s part.Sheet r = (number r ≡ sheet_refusal s) × (sheet_refusal s ≡ 0 → ⊥)
Declines map place s part.Call r =
    (sheet_refusal s ≡ 0) × (((r ≡ NoPlace) × (length map ≤ place)) ⊎ ((r ≡ NoEntry) × (place < length map) × (count_of s ≤ get_or map place 0)))
Declines map place s part.LeftBook r = ⊥
Declines map place s part.RightBook r = ⊥

-- What each answer shows of the map and the sheet.
unfoldable pub Shows : List ℕ → ℕ → List ℕ → Result Said Refused → Type 0
Shows map place s (Ok said) = Tells map place s said
Shows map place s (Err r) = Declines map place s r.part r.refusal

module _ (map : List ℕ) (place : ℕ) (s : List ℕ) where
  module _ (g : Given map place s) where
    fetched : (n : ℕ) → n ≡ get_or map place 0 → (n ≡ 0 → ⊥) → n < count_of s → Fetched map place s n (entry_start s n)
    fetched n d f l =
        record {
          given = g;
          named = d;
          parted = f;
          below = l;
          starts = refl;
          entry = entries_of-at s n l;
          whole = (accepted_standing s g.good n l).inside;
        }

    question_shows : (question : Question) → question.0 ≡ get_or map place 0 → (question.0 ≡ 0 → ⊥) → Shows map place s (question_answer s question)
    unfolding Shows Tells Declines question_answer
    question_shows question d f = go (ltb question.0 (count_of s)) refl
      where
        go : (b : Bool) → ltb question.0 (count_of s) ≡ b → Shows map place s (cond b (Ok (Parted question (entry_start s question.0))) (Err (of_part part.Call NoEntry)))
        go true e = fetched question.0 d f (ltb-true _ _ e)
        go false e = (g.good, inr (refl, g.inside, rw (← d) (ltb-false _ _ e)))

    place_shows : Shows map place s (place_answer s (place_of (get_or map place 0)))
    unfolding Shows Tells place_answer place_of
    place_shows = go (eqb (get_or map place 0) 0) refl (eqb (get_or map place 0) hidden_place) refl
      where
        go : (b : Bool) → eqb (get_or map place 0) 0 ≡ b → (c : Bool) → eqb (get_or map place 0) hidden_place ≡ c
            → Shows map place s (place_answer s (cond b says.Matched (cond c says.Hidden (says.Parted (record { 0 = get_or map place 0 })))))
        go true e c f = (g, eqb-true _ _ e)
        go false e true f = (g, eqb-true _ _ f)
        go false e false f = question_shows (record { 0 = get_or map place 0 }) refl (eqb-false _ _ e)

  pub pair_shows : Shows map place s (pair_answer map place s)
  unfolding Shows Declines pair_answer
  pair_shows = go (eqb (sheet_refusal s) 0) refl (ltb place (length map)) refl
    where
      go : (a : Bool) → eqb (sheet_refusal s) 0 ≡ a → (b : Bool) → ltb place (length map) ≡ b
          → Shows map place s (cond a (cond b (place_answer s (place_of (get_or map place 0))) (Err (of_part part.Call NoPlace))) (Err (of_part part.Sheet (named (sheet_refusal s)))))
      go true e true f = place_shows (record { good = eqb-true _ _ e; inside = ltb-true _ _ f })
      go true e false f = (eqb-true _ _ e, inl (refl, ltb-false _ _ f))
      go false e b f = (sheet_refusal-named s (eqb-false _ _ e), eqb-false _ _ e)

-- A pair that is parted.
pub pair_fetched : (map : List ℕ) (place : ℕ) (s : List ℕ) (question : Question) (start : ℕ)
    → pair_answer map place s ≡ Ok (Parted question start) → Fetched map place s question.0 start
unfolding Shows Tells
pair_fetched map place s question start e = rw e at (pair_shows map place s)

-- The number and the byte are small enough to be told.
pub fetched_small : {map : List ℕ} {place : ℕ} {s : List ℕ} {k start : ℕ} → Bytes s → Fetched map place s k start → (k < 2 ^ 24) × (start < 2 ^ 24)
fetched_small {map} {place} {s} {k} {start} b f =
    let m = (accepted_head s f.given.good).most in
    (omega (arith, f.below), omega (arith, f.below, f.starts, entry_start-le s b k))
