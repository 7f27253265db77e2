-- The laws of writing a sheet: a run of bytes, one entry more, and the header last; the room then starts with the sheet of the entries written.
use mathlib.Core.List.{List, [], ◌∷◌, ◌++◌, append_assoc}
use Rattle.std.specs.Prelude.{◌≡◌, refl, ℕ, ◌+◌, ◌-◌, ◌≤◌}
use Rattle.std.proofs.Common.{sym, ap, ◌∙◌, arith, length-append, length-drop, length-take-le, take_at, drop_at, take-add, drop-drop}
use Rattle.std.proofs.Math.Path.{ap₂}
use Rattle.std.proofs.Math.ListN.{length, take, drop}
use Rattle.std.proofs.lemmas.List.Edits.{sets, sets-eq}
use Rattle.std.proofs.Math.Seq.{length-sets, take-append-add, drop-append-add}
use Rattle.std.proofs.lemmas.List.{drop-append-le}
use Rattle.sheet.specs.Entry.{Entry}
use Rattle.sheet.specs.Sheet.{head_size}
use Rattle.sheet.specs.Encoding.{encode_entry, encode, header, sheet_bytes}
use Rattle.sheet.specs.WrittenLaws.{size_of, length-encode_entry, encode_snoc, length-header}
use Rattle.sheet_writer.specs.Writing.{PutEntry, Holding}

-- an entry's bytes, by its size
module _ {room exit : List ℕ} {at next : ℕ} (v : ℕ) (e : Entry) where
  pub put_entry : exit ≡ sets room at (encode_entry v e) → next ≡ at + size_of v e → PutEntry v room at e exit next
  put_entry p q = record { left = p; end = rw (length-encode_entry v e) q }

  pub entry_end : PutEntry v room at e exit next → next ≡ at + size_of v e
  entry_end w = rw (length-encode_entry v e) at w.end

-- ---- a run of bytes written

module _ {A : Type 0} where
  take-drop : (n m : ℕ) (l : List A) → n ≤ length l → drop n (take (n + m) l) ≡ take m (drop n l)
  take-drop n m l h = rw (take-add n m l) (drop_at (take n l) (take m (drop n l)) n (length-take-le n l h))

  module _ (l : List A) (at : ℕ) (vs : List A) (h : at + length vs ≤ length l) where
    parts : sets l at vs ≡ take at l ++ (vs ++ drop (at + length vs) l)
    parts = sets-eq vs l at h ∙ append_assoc (take at l) vs (drop (at + length vs) l)

    front : length (take at l) ≡ at
    front = length-take-le at l (omega arith)

    -- what is before it stays
    pub take_sets : take at (sets l at vs) ≡ take at l
    take_sets = rw parts (take_at (take at l) (vs ++ drop (at + length vs) l) at front)

    -- what is after it stays
    pub drop_sets : (n : ℕ) → at + length vs ≤ n → drop n (sets l at vs) ≡ drop n l
    drop_sets n k =
        rw parts
        (ap (λ n. drop n (take at l ++ (vs ++ drop (at + length vs) l))) (let e : n ≡ length (take at l) + (length vs + (n - (at + length vs))) = omega (arith, front) in e)
        ∙ drop-append-add (take at l) (vs ++ drop (at + length vs) l) (length vs + (n - (at + length vs)))
        ∙ drop-append-add vs (drop (at + length vs) l) (n - (at + length vs)) ∙ drop-drop (n - (at + length vs)) (at + length vs) l
        ∙ ap (λ m. drop m l) (let e : at + length vs + (n - (at + length vs)) ≡ n = omega arith in e))

    -- from byte n on, what stood there and the run
    pub take-drop_sets : (n m : ℕ) → n + m ≡ at → take (m + length vs) (drop n (sets l at vs)) ≡ take m (drop n l) ++ vs
    take-drop_sets n m e =
        let t : drop n (take at l) ≡ take m (drop n l) = rw (← e) (take-drop n m l (omega arith)) in
        let k : length (drop n (take at l)) ≡ m = omega (arith, length-drop n (take at l), front) in
        rw parts
        (ap (take (m + length vs)) (drop-append-le n (take at l) (vs ++ drop (at + length vs) l) (omega (arith, front)))
        ∙ ap (λ m. take (m + length vs) (drop n (take at l) ++ (vs ++ drop (at + length vs) l))) (sym k)
        ∙ take-append-add (drop n (take at l)) (vs ++ drop (at + length vs) l) (length vs)
        ∙ ap₂ ◌++◌ t (take_at vs (drop (at + length vs) l) (length vs) refl))

-- ---- the room, entry by entry

-- no entry yet
pub holding_none : (v : ℕ) (room : List ℕ) → head_size ≤ length room → Holding v room [] head_size
unfolding encode
holding_none v room h = record { place = refl; inside = h; bytes = refl }

module _ {v : ℕ} {room : List ℕ} {es : List Entry} {at : ℕ} (h : Holding v room es at) where
  module _ (e : Entry) {exit : List ℕ} {next : ℕ} (w : PutEntry v room at e exit next) (fits : at + size_of v e ≤ length room) where
    sized : at + length (encode_entry v e) ≤ length room
    sized = omega (arith, length-encode_entry v e)

    -- one entry more
    pub holding_next : Holding v exit (es ++ (e ∷ [])) next
    holding_next =
        record {
          place = omega (arith, w.end, h.place, ap length (encode_snoc v es e), length-append (encode v es) (encode_entry v e));
          inside = omega (arith, entry_end v e w, ap length w.left, length-sets room at (encode_entry v e));
          bytes =
              rw (encode_snoc v es e, length-append (encode v es) (encode_entry v e), w.left)
              (take-drop_sets room at (encode_entry v e) sized head_size (length (encode v es)) (sym h.place) ∙ ap (λ l. l ++ encode_entry v e) h.bytes);
        }

    -- the bytes after it stay
    pub kept-after : (n : ℕ) → next ≤ n → drop n exit ≡ drop n room
    kept-after n k = rw w.left (drop_sets room at (encode_entry v e) sized n (omega (arith, w.end)))

  -- the header last: the room starts with the sheet, and the bytes after it stay
  module _ (c : ℕ) {exit : List ℕ} (w : exit ≡ sets room 0 (header v at c (length es))) where
    headed : exit ≡ header v at c (length es) ++ drop head_size room
    headed =
        let H = header v at c (length es) in
        w ∙ sets-eq H room 0 (omega (arith, h.place, h.inside, length-header v at c (length es)))
        ∙ ap (λ n. H ++ drop n room) (let e : 0 + length H ≡ head_size = omega (arith, length-header v at c (length es)) in e)

    pub holding_sheet : take at exit ≡ sheet_bytes v c es
    unfolding sheet_bytes
    holding_sheet =
        let H = header v at c (length es) in
        rw headed
        (ap (λ n. take n (H ++ drop head_size room)) (let e : at ≡ length H + length (encode v es) = omega (arith, h.place, length-header v at c (length es)) in e)
        ∙ take-append-add H (drop head_size room) (length (encode v es)) ∙ ap₂ ◌++◌ (ap (λ n. header v n c (length es)) h.place) h.bytes)

    pub sheet_kept-after : (n : ℕ) → head_size ≤ n → drop n exit ≡ drop n room
    sheet_kept-after n k =
        let H = header v at c (length es) in
        rw headed
        (ap (λ n. drop n (H ++ drop head_size room)) (let e : n ≡ length H + (n - head_size) = omega (arith, length-header v at c (length es)) in e)
        ∙ drop-append-add H (drop head_size room) (n - head_size) ∙ drop-drop (n - head_size) head_size room
        ∙ ap (λ m. drop m room) (let e : head_size + (n - head_size) ≡ n = omega arith in e))
