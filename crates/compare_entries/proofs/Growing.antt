-- What each way out of the functions shows of the definitions of `specs/`. The numbers that the code computed are variables here, with what
-- is known of them, so that `search` finds them in a need's record.
use mathlib.Core.List.{List}
use mathlib.Core.Path.{◌≡◌, refl, sym, ap, ap₂, ◌∙◌}
use Prim.Native.Nat.{ℕ, zero, suc, ◌+◌}
use native.Mathlib.Omega.{arith}
use lib.ListN.{length, get_or, set, length-set}
use lib.Seq.{get_or-set_other}
use Rattle.sheet.specs.Entry.{Entry, conjunction}
use Rattle.sheet.specs.WrittenLaws.{size_of}
use Rattle.sheet_writer.specs.Writing.{PutPlain}
use Rattle.compare_laws.specs.Comparison.{conjoined, conjoint}
use Rattle.compare_entries.specs.Growing.{Penned, Roomy, side_of, Conjoins, NameFits, Names}
use Rattle.compare_entries.specs.GrowingLaws.{extends_none, extends_one, extends_more, side_at, left_at, left_set, right_set, left_kept, right_kept}
use Rattle.compare_entries.specs.declared.Pen.{Pen}

-- ---- what describes a cell
module _ (room : List ℕ) (pen : Pen) (numbers : List ℕ) (x d : ℕ) where
  -- always true did
  pub conjoins_alone : get_or numbers x 0 ≡ 0 → Conjoins room room pen pen numbers (set numbers x d) x d
  unfolding conjoined conjoint
  conjoins_alone e =
      record {
        written = rw e (extends_none room pen 6 1);
        named = λ es p. rw e;
        wide = length-set numbers x d;
      }

  -- another entry did
  pub conjoins_both : (room' : List ℕ) (end : ℕ) → Roomy room pen 6 1 → (get_or numbers x 0 ≡ 0 → ⊥)
      → PutPlain room pen.at (conjunction (get_or numbers x 0) d) room' end
      → Conjoins room room' pen (record { at = end; next = pen.next + 1; version = pen.version }) numbers (set numbers x pen.next) x d
  unfolding conjoined conjoint size_of
  conjoins_both room' end r f w = go (get_or numbers x 0) refl f w
    where
      go : (old : ℕ) → get_or numbers x 0 ≡ old → (old ≡ 0 → ⊥) → PutPlain room pen.at (conjunction old d) room' end
          → Conjoins room room' pen (record { at = end; next = pen.next + 1; version = pen.version }) numbers (set numbers x pen.next) x d
      go zero e f w = absurd (f refl)
      go (suc i) e f w =
          record {
            written = rw e (extends_one room room' pen 6 end (conjunction (suc i) d) r (omega arith) (w.any pen.version));
            named = λ es p. rw (e, p.number);
            wide = length-set numbers x pen.next;
          }

-- ---- a pair
module _ (room : List ℕ) (pen : Pen) (map : List ℕ) (place : ℕ) (new : List ℕ) (a b : ℕ) (fits : NameFits room pen map place new a b) where
  module _ (room' : List ℕ) (pen' : Pen) (mid : List ℕ) (i : ℕ) (first : Conjoins room room' pen pen' new mid a i) where
    -- there is room for the second as well
    pub second_roomy : Roomy room' pen' 6 1
    second_roomy =
        let e = first.written in
        record {
          inside = omega (arith, e.bytes_most, e.onward.size, fits.roomy.inside);
          few = omega (arith, e.entries_most, fits.roomy.few);
        }

    pub second_wide : length mid ≡ 128
    second_wide = first.wide ∙ fits.wide

    pub names_both : (room'' : List ℕ) (pen'' : Pen) (new' : List ℕ) (j : ℕ) → Conjoins room' room'' pen' pen'' mid new' (64 + b) j
        → Names room room'' pen pen'' map (set map place i) place new new' a b i j
    names_both room'' pen'' new' j second =
        record {
          written = record {
            grown = λ es p. rw (left_at new a fits.left_cell, side_at 64 new b fits.right_cell, ← still es p)
                (second.written.grown (conjoined es (get_or new a 0) i) (first.written.grown es p));
            onward = (extends_more first.written second.written).onward;
            bytes_most = (extends_more first.written second.written).bytes_most;
            entries_most = (extends_more first.written second.written).entries_most;
            version = (extends_more first.written second.written).version;
          };
          marked = refl;
          left = λ es p.
              ap (side_of 0) (second.named _ (first.written.grown es p)) ∙ left_kept mid b _ fits.right_cell
              ∙ ap (side_of 0) (first.named es p) ∙ left_set new a fits.left_cell _
              ∙ ap (λ v. set (side_of 0 new) a (conjoint es v i)) (sym (left_at new a fits.left_cell));
          right = λ es p.
              ap (side_of 64) (second.named _ (first.written.grown es p)) ∙ right_set mid b fits.right_cell _
              ∙ ap₂ (λ xs v. set xs b (conjoint (conjoined es (get_or new a 0) i) v j)) (ap (side_of 64) (first.named es p) ∙ right_kept new a _ fits.left_cell)
              (still es p ∙ sym (side_at 64 new b fits.right_cell))
              ∙ ap (λ v. set (side_of 64 new) b (conjoint (conjoined es v i) (get_or (side_of 64 new) b 0) j)) (sym (left_at new a fits.left_cell));
          wide = second.wide ∙ first.wide;
        }
      where
        -- the right cell's number is not changed by the first
        still : (es : List Entry) → Penned room es pen → get_or mid (64 + b) 0 ≡ get_or new (64 + b) 0
        still es p = rw (first.named es p) (get_or-set_other new a (64 + b) _ 0 (λ e. omega (arith, fits.left_cell)))
