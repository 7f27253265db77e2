-- A sheet that grows: one entry more, and one growth after another. And the two sides of a list of numbers.
use Rattle.std.specs.Prelude.{List, [], ◌∷◌, ◌++◌, ◌≡◌, refl, ℕ, ◌+◌, ◌≤◌, ◌<◌, length, get_or, set, take, drop}
use Rattle.std.proofs.Common.{ap, ◌∙◌, arith, le_refl, length-append, drop-set-lt, get_or-take, get_or-drop}
use Rattle.std.proofs.Math.Seq.{length-sets, take-set-lt}
use Rattle.std.proofs.lemmas.List.{take-set-le, drop-set-add}
use Rattle.sheet.specs.Entry.{Entry}
use Rattle.sheet.specs.Encoding.{encode_entry}
use Rattle.sheet.specs.WrittenLaws.{size_of, length-encode_entry}
use Rattle.sheet_writer.specs.Writing.{PutEntry}
use Rattle.sheet_writer.specs.WritingLaws.{entry_end, drop_sets, holding_next}
use Rattle.compare_entries.specs.Growing.{Roomy, Onward, Extends, side_of}
use Rattle.compare_entries.specs.declared.Pen.{Pen}

-- ---- what is written, one behind the other

pub onward_none : (room : List ℕ) (at : ℕ) → Onward room room at at
onward_none room at = record { size = refl; kept = λ n h. refl; further = le_refl _ }

pub onward-more : {room room' room'' : List ℕ} {at at' at'' : ℕ} → Onward room room' at at' → Onward room' room'' at' at'' → Onward room room'' at at''
onward-more x y =
    record {
      size = y.size ∙ x.size;
      kept = λ n h. y.kept n h ∙ x.kept n (omega (arith, y.further));
      further = omega (arith, x.further, y.further);
    }

-- nothing written
pub extends_none : (room : List ℕ) (pen : Pen) (bytes entries : ℕ) → Extends room room pen pen bytes entries (λ es. es)
extends_none room pen bytes entries =
    record { grown = λ es p. p; onward = onward_none room pen.at; bytes_most = omega arith; entries_most = omega arith; version = refl }

-- one entry written
pub extends_one : (room room' : List ℕ) (pen : Pen) (bytes at : ℕ) (e : Entry) → Roomy room pen bytes 1 → size_of pen.version e ≤ bytes → PutEntry pen.version room pen.at e room' at
    → Extends room room' pen (record { at = at; next = pen.next + 1; version = pen.version }) bytes 1 (λ es. es ++ (e ∷ []))
extends_one room room' pen bytes at e r h w =
    record {
      grown = λ es p. record {
        held = holding_next p.held e w fits;
        number = omega (arith, p.number, length-append es (e ∷ []));
      };
      onward = record {
        size = ap length w.left ∙ length-sets room pen.at (encode_entry pen.version e);
        kept = λ n k. rw w.left (drop_sets room pen.at (encode_entry pen.version e) sized n (omega (arith, w.end)));
        further = omega (arith, entry_end pen.version e w);
      };
      bytes_most = omega (arith, entry_end pen.version e w);
      entries_most = le_refl _;
      version = refl;
    }
  where
    fits : pen.at + size_of pen.version e ≤ length room
    fits = omega (arith, r.inside)

    sized : pen.at + length (encode_entry pen.version e) ≤ length room
    sized = omega (arith, length-encode_entry pen.version e)

-- one growth after another
pub extends_more : {room room' room'' : List ℕ} {pen pen' pen'' : Pen} {b b' k k' : ℕ} {f g : List Entry → List Entry} → Extends room room' pen pen' b k f
    → Extends room' room'' pen' pen'' b' k' g → Extends room room'' pen pen'' (b + b') (k + k') (λ es. g (f es))
extends_more {f = f} x y =
    record {
      grown = λ es p. y.grown (f es) (x.grown es p);
      onward = onward-more x.onward y.onward;
      bytes_most = omega (arith, x.bytes_most, y.bytes_most);
      entries_most = omega (arith, x.entries_most, y.entries_most);
      version = y.version ∙ x.version;
    }

-- ---- the two sides of a list of numbers

pub side_at : (base : ℕ) (xs : List ℕ) (x : ℕ) → x < 64 → get_or (side_of base xs) x 0 ≡ get_or xs (base + x) 0
side_at base xs x h = get_or-take 64 (drop base xs) x 0 h ∙ get_or-drop base xs x 0

module _ (xs : List ℕ) (x : ℕ) (h : x < 64) where
  pub left_at : get_or (side_of 0 xs) x 0 ≡ get_or xs x 0
  left_at = get_or-take 64 xs x 0 h

  pub left_set : (v : ℕ) → side_of 0 (set xs x v) ≡ set (side_of 0 xs) x v
  left_set v = take-set-lt 64 xs x v h

  pub right_set : (v : ℕ) → side_of 64 (set xs (64 + x) v) ≡ set (side_of 64 xs) x v
  right_set v = ap (take 64) (drop-set-add 64 xs x v) ∙ take-set-lt 64 (drop 64 xs) x v h

module _ (xs : List ℕ) (x v : ℕ) (h : x < 64) where
  -- a number of the other side
  pub left_kept : side_of 0 (set xs (64 + x) v) ≡ side_of 0 xs
  left_kept = take-set-le 64 xs (64 + x) v (omega arith)

  pub right_kept : side_of 64 (set xs x v) ≡ side_of 64 xs
  right_kept = ap (take 64) (drop-set-lt 64 xs x v h)
