-- Laws of runs of bytes: one behind another, and the room that is left for the rest.
use Rattle.std.specs.Prelude.{List, [], ◌++◌, ◌≡◌, refl, ℕ, ◌+◌, ◌≤◌, length, take, drop}
use Rattle.std.proofs.Common.{sym, ap, ◌∙◌, arith, length-append, length-take-le, take_at}
use Rattle.std.proofs.lemmas.List.Edits.{sets-eq}
use Rattle.std.proofs.Math.Seq.{length-sets}
use Rattle.fields.specs.Runs.{PutBytes}
use Rattle.fields.specs.Laws.{sets_append}

-- nothing was put
pub put_none : (room : List ℕ) (at : ℕ) → PutBytes room at [] room at
put_none room at = record { left = refl; end = omega arith }

-- the same run by another name
pub put_as : {room exit : List ℕ} {at next : ℕ} {us vs : List ℕ} → us ≡ vs → PutBytes room at us exit next → PutBytes room at vs exit next
put_as e p = rw (← e) p

-- one run behind another
pub put_after : {room mid exit : List ℕ} {at to next : ℕ} {us vs : List ℕ} → PutBytes room at us mid to → PutBytes mid to vs exit next → PutBytes room at (us ++ vs) exit next
put_after {room} {mid} {exit} {at} {to} {next} {us} {vs} p q =
    record { left = rw (q.left, p.left, p.end) (sym (sets_append us vs room at)); end = omega (arith, p.end, q.end, length-append us vs) }

-- the room is as long as it was
pub put_length : {room exit : List ℕ} {at next : ℕ} {bs : List ℕ} → PutBytes room at bs exit next → length exit ≡ length room
put_length {room} {exit} {at} {next} {bs} p = ap length p.left ∙ length-sets room at bs

-- ---- room for a first piece, and for the rest behind it

pub piece_fits : (room : List ℕ) (at : ℕ) (bytes us vs : List ℕ) → bytes ≡ us ++ vs → at + length bytes ≤ length room → at + length us ≤ length room
piece_fits room at bytes us vs e h = omega (arith, ap length e, length-append us vs)

pub rest_fits : {room mid : List ℕ} {at to : ℕ} (bytes us vs : List ℕ) → bytes ≡ us ++ vs → at + length bytes ≤ length room → PutBytes room at us mid to
    → to + length vs ≤ length mid
rest_fits bytes us vs e h p = omega (arith, ap length e, length-append us vs, p.end, put_length p)

-- ---- what the room starts with

-- up to the run's end: what stood before it, and the run
pub put_front : {room exit : List ℕ} {at next : ℕ} {bs : List ℕ} → at + length bs ≤ length room → PutBytes room at bs exit next → take next exit ≡ take at room ++ bs
put_front {room} {exit} {at} {next} {bs} h p =
    let n : length (take at room ++ bs) ≡ next = omega (arith, length-append (take at room) bs, length-take-le at room (omega arith), p.end) in
    ap (take next) (p.left ∙ sets-eq bs room at h) ∙ take_at (take at room ++ bs) (drop (at + length bs) room) next n
