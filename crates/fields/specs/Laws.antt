-- The laws of fields, over the width: parts and bounds, where a field lies in a list, the bytes of a number, and what a written field leaves.
use Rattle.std.specs.Prelude.{◌≡◌, refl, ◌⊎◌, List, [], ◌∷◌, ◌++◌, ℕ, zero, suc, ◌+◌, ◌*◌, ◌/◌, ◌%◌, ◌^◌, ◌≤◌, ◌<◌, length, get_or, take, drop, set}
use Rattle.std.proofs.Common.{sym, ap, ap₂, ◌∙◌, inl, inr, ⊎_elim, append_assoc, suc-le-suc, add-zero, add-suc, zero-add, suc-add, add_assoc, mul_assoc, add-mul, mod-lt, mod-eq_of_lt, add_comm, add-one, arith, lit<, length-set, pow-add, get_or-append-add, get_or-take, get_or-drop, get_or-set_other, drop-set-lt, drop-cons, length-take-le}
use Rattle.std.proofs.Math.Nat.{one-le-pow, mul-add-div_right, mul-add-mod_self_right, div-div-eq-div-mul, pow-succ', mod-one}
use Rattle.std.proofs.Math.Arith.{digits_lt, digits_div, mod-mul}
use Rattle.std.proofs.Math.ListN.{get_or-append}
use Rattle.std.proofs.lemmas.List.Edits.{sets, sets-eq}
use Rattle.std.proofs.lemmas.List.{take-set-le}
use Rattle.fields.specs.Fields.{field, bytes_of, with_field, Bytes}

-- ---- where a field lies
-- a field depends on its own bytes only
pub field_ext : (w : ℕ) (s t : List ℕ) (at to : ℕ) → ((i : ℕ) → i < w → get_or s (at + i) 0 ≡ get_or t (to + i) 0) → field w s at ≡ field w t to
unfolding field
field_ext zero s t at to f = refl
field_ext (suc w) s t at to f =
    ap₂ (λ (x y : ℕ). x * 256 ^ w + y) (simp add-zero at (f 0 (omega arith)))
    (field_ext w s t (at + 1) (to + 1) (λ i l. simp (add-one, suc-add) (simp add-suc at (f (suc i) (suc-le-suc l)))))

pub field-append_left : (w : ℕ) (s t : List ℕ) (at : ℕ) → at + w ≤ length s → field w (s ++ t) at ≡ field w s at
field-append_left w s t at h = field_ext w (s ++ t) s at at (λ i l. get_or-append s t 0 (at + i) (omega arith))

pub field-append_right : (w : ℕ) (s t : List ℕ) (at : ℕ) → field w (s ++ t) (length s + at) ≡ field w t at
field-append_right w s t at = field_ext w (s ++ t) t (length s + at) at (λ i l. simp add_assoc (get_or-append-add s t (at + i) 0))

pub field-drop : (w n : ℕ) (s : List ℕ) (at : ℕ) → field w (drop n s) at ≡ field w s (n + at)
field-drop w n s at = field_ext w (drop n s) s at (n + at) (λ i l. get_or-drop n s (at + i) 0 ∙ simp add_assoc)

pub field-take : (w n : ℕ) (s : List ℕ) (at : ℕ) → at + w ≤ n → field w (take n s) at ≡ field w s at
field-take w n s at h = field_ext w (take n s) s at at (λ i l. get_or-take n s (at + i) 0 (omega arith))

-- the field of one byte is the byte
pub byte : (s : List ℕ) (at : ℕ) → get_or s at 0 ≡ field 1 s at
unfolding field
byte s at = omega arith

-- ---- two fields side by side are one
pub field-add : (v w : ℕ) (s : List ℕ) (at : ℕ) → field (v + w) s at ≡ field v s at * 256 ^ w + field w s (at + v)
unfolding field
field-add zero w s at = rw (zero-add w, add-zero at) (omega arith)
field-add (suc v) w s at =
    ap (λ (k : ℕ). field k s at) (suc-add v w)
    ∙ ap₂ (λ (x y : ℕ). get_or s at 0 * x + y) (pow-add 256 v w) (field-add v w s (at + 1))
    ∙ regroup (get_or s at 0) (256 ^ v) (256 ^ w) (field v s (at + 1)) (field w s (at + 1 + v))
    ∙ ap (λ (k : ℕ). (get_or s at 0 * 256 ^ v + field v s (at + 1)) * 256 ^ w + field w s k) (omega arith)
  where
    regroup : (b x y p q : ℕ) → b * (x * y) + (p * y + q) ≡ (b * x + p) * y + q
    regroup b x y p q = rw (add-mul, mul_assoc) (omega arith)

-- the number of both, from the number of each
pub field_join : (v w : ℕ) (s : List ℕ) (at x y : ℕ) → x ≡ field v s at → y ≡ field w s (at + v) → x * 256 ^ w + y ≡ field (v + w) s at
field_join v w s at x y p q = ap₂ (λ (a b : ℕ). a * 256 ^ w + b) p q ∙ sym (field-add v w s at)

-- ---- bounds
pub field_lt : (w : ℕ) (s : List ℕ) (at : ℕ) → Bytes s → field w s at < 256 ^ w
unfolding field
field_lt zero s at b = lit< tt
field_lt (suc w) s at b = rw (pow-succ' 256 w) (digits_lt (b.each at) (field_lt w s (at + 1) b))

-- ---- the bytes of a number
pub length-bytes_of : (w v : ℕ) → length (bytes_of w v) ≡ w
unfolding bytes_of
length-bytes_of zero v = refl
length-bytes_of (suc w) v = ap suc (length-bytes_of w v)

byte-lt : (w v i : ℕ) → get_or (bytes_of w v) i 0 < 256
unfolding bytes_of
byte-lt zero v i = lit< tt
byte-lt (suc w) v zero = mod-lt (v / 256 ^ w) (lit< tt)
byte-lt (suc w) v (suc i) = byte-lt w v i

pub bytes_of_bytes : (w v : ℕ) → Bytes (bytes_of w v)
bytes_of_bytes w v = record { each = byte-lt w v }

weight_pos : (w : ℕ) → 0 < 256 ^ w
weight_pos w = one-le-pow w 256 (lit< tt)

-- the last w bytes are those of the remainder
pub field-bytes_of : (w v : ℕ) → field w (bytes_of w v) 0 ≡ v % 256 ^ w
unfolding field bytes_of
field-bytes_of zero v = sym (mod-one v)
field-bytes_of (suc w) v =
    let b = v / 256 ^ w % 256 in
    ap (λ (x : ℕ). b * 256 ^ w + x) (field-append_right w (b ∷ []) (bytes_of w v) 0 ∙ field-bytes_of w v)
    ∙ sym (rw (pow-succ' 256 w) (mod-mul v (lit< tt) (weight_pos w)))

-- a number whose bytes stand in front is read back
pub field-bytes_of-append : (w v : ℕ) (rest : List ℕ) → v < 256 ^ w → field w (bytes_of w v ++ rest) 0 ≡ v
field-bytes_of-append w v rest h =
    field-append_left w (bytes_of w v) rest 0 (omega (arith, length-bytes_of w v)) ∙ field-bytes_of w v ∙ mod-eq_of_lt h

-- what stands above the last w bytes does not show in them
pub bytes_of_above : (w k v : ℕ) → bytes_of w (k * 256 ^ w + v) ≡ bytes_of w v
unfolding bytes_of
bytes_of_above zero k v = refl
bytes_of_above (suc w) k v =
    rw (pow-succ' 256 w, ← mul_assoc)
    (ap₂ ◌∷◌ (ap (λ (x : ℕ). x % 256) (mul-add-div_right (weight_pos w) (k * 256) v) ∙ mul-add-mod_self_right k 256 (v / 256 ^ w)) (bytes_of_above w (k * 256) v))

-- the bytes of two numbers side by side are those of one
pub bytes_of_join : (v w x y : ℕ) → y < 256 ^ w → bytes_of (v + w) (x * 256 ^ w + y) ≡ bytes_of v x ++ bytes_of w y
unfolding bytes_of
bytes_of_join zero w x y h = rw (zero-add w) (bytes_of_above w x y)
bytes_of_join (suc v) w x y h = rw (suc-add v w) (ap₂ ◌∷◌ (ap (λ (n : ℕ). n % 256) upper) (bytes_of_join v w x y h))
  where
    upper : (x * 256 ^ w + y) / 256 ^ (v + w) ≡ x / 256 ^ v
    upper = rw (add_comm v w, pow-add 256 w v, ← div-div-eq-div-mul) (ap (λ (n : ℕ). n / 256 ^ v) (digits_div x h))

-- the bytes of a field are what stands there
pub bytes_of-field : (w : ℕ) (s : List ℕ) (at : ℕ) → Bytes s → at + w ≤ length s → bytes_of w (field w s at) ≡ take w (drop at s)
unfolding field bytes_of
bytes_of-field zero s at b h = refl
bytes_of-field (suc w) s at b h =
    ap₂ ◌∷◌ (ap (λ (n : ℕ). n % 256) (digits_div (get_or s at 0) (field_lt w s (at + 1) b)) ∙ mod-eq_of_lt (b.each at))
    (bytes_of_above w (get_or s at 0) (field w s (at + 1)) ∙ bytes_of-field w s (at + 1) b (omega arith) ∙ rw add-one)
    ∙ sym (ap (take (suc w)) (drop-cons s at 0 (omega arith)))

-- ---- a field written
-- what no store of the field changes, the field leaves
sets_keep : {A : Type 0} (F : List ℕ → A) (vs l : List ℕ) (at : ℕ)
    → ((l : List ℕ) (k a : ℕ) → at ≤ k → k < at + length vs → F (set l k a) ≡ F l) → F (sets l at vs) ≡ F l
sets_keep F [] l at f = refl
sets_keep F (a ∷ vs) l at f = sets_keep F vs (set l at a) (suc at) (λ l k a p q. f l k a (omega arith) (omega arith)) ∙ f l at a (omega arith) (omega arith)

pub with_field_keep : {A : Type 0} (F : List ℕ → A) (w : ℕ) (s : List ℕ) (at v : ℕ)
    → ((l : List ℕ) (k a : ℕ) → at ≤ k → k < at + w → F (set l k a) ≡ F l) → F (with_field w s at v) ≡ F s
unfolding with_field
with_field_keep F w s at v f = sets_keep F (bytes_of w v) s at (λ l k a p q. f l k a p (rw length-bytes_of at q))

pub length-with_field : (w : ℕ) (s : List ℕ) (at v : ℕ) → length (with_field w s at v) ≡ length s
length-with_field w s at v = with_field_keep length w s at v (λ l k a p q. length-set l k a)

pub take-with_field : (w : ℕ) (s : List ℕ) (at v n : ℕ) → n ≤ at → take n (with_field w s at v) ≡ take n s
take-with_field w s at v n h = with_field_keep (take n) w s at v (λ l k a p q. take-set-le n l k a (omega arith))

pub drop-with_field : (w : ℕ) (s : List ℕ) (at v n : ℕ) → at + w ≤ n → drop n (with_field w s at v) ≡ drop n s
drop-with_field w s at v n h = with_field_keep (drop n) w s at v (λ l k a p q. drop-set-lt n l k a (omega arith))

-- a byte elsewhere
pub byte_elsewhere : (w : ℕ) (s : List ℕ) (at v i : ℕ) → (i < at) ⊎ (at + w ≤ i) → get_or (with_field w s at v) i 0 ≡ get_or s i 0
byte_elsewhere w s at v i h =
    with_field_keep (λ l. get_or l i 0) w s at v (λ l k a p q. get_or-set_other l k i a 0 (λ e. ⊎_elim (λ x. omega arith) (λ x. omega arith) h))

-- a field elsewhere
pub field_elsewhere : (w : ℕ) (s : List ℕ) (at v u to : ℕ) → (to + u ≤ at) ⊎ (at + w ≤ to) → field u (with_field w s at v) to ≡ field u s to
field_elsewhere w s at v u to h =
    field_ext u (with_field w s at v) s to to (λ i l. byte_elsewhere w s at v (to + i) (⊎_elim (λ x. inl (omega arith)) (λ x. inr (omega arith)) h))

-- the list as it was, with the bytes of v in its middle
pub with_field_is : (w : ℕ) (s : List ℕ) (at v : ℕ) → at + w ≤ length s → with_field w s at v ≡ take at s ++ bytes_of w v ++ drop (at + w) s
unfolding with_field
with_field_is w s at v h =
    sets-eq (bytes_of w v) s at (rw (length-bytes_of w v) h) ∙ rw (length-bytes_of w v)

-- a field written is read back
pub field-with_field : (w : ℕ) (s : List ℕ) (at v : ℕ) → at + w ≤ length s → v < 256 ^ w → field w (with_field w s at v) at ≡ v
field-with_field w s at v h l =
    let e : length (take at s) ≡ at = length-take-le at s (omega arith) in
    ap (λ (t : List ℕ). field w t at) (with_field_is w s at v h ∙ append_assoc (take at s) (bytes_of w v) (drop (at + w) s))
    ∙ ap (field w (take at s ++ (bytes_of w v ++ drop (at + w) s))) (sym (add-zero (length (take at s)) ∙ e))
    ∙ field-append_right w (take at s) (bytes_of w v ++ drop (at + w) s) 0
    ∙ field-bytes_of-append w v (drop (at + w) s) l

-- bytes stay bytes
set-lt : (l : List ℕ) (i a j : ℕ) → ((j : ℕ) → get_or l j 0 < 256) → a < 256 → get_or (set l i a) j 0 < 256
set-lt [] i a j f h = f j
set-lt (x ∷ xs) zero a zero f h = h
set-lt (x ∷ xs) zero a (suc j) f h = f (suc j)
set-lt (x ∷ xs) (suc i) a zero f h = f 0
set-lt (x ∷ xs) (suc i) a (suc j) f h = set-lt xs i a j (λ j. f (suc j)) h

sets_bytes : (vs l : List ℕ) (at : ℕ) → Bytes l → Bytes vs → Bytes (sets l at vs)
sets_bytes [] l at b c = b
sets_bytes (a ∷ vs) l at b c =
    sets_bytes vs (set l at a) (suc at) (record { each = λ j. set-lt l at a j b.each (c.each 0) }) (record { each = λ j. c.each (suc j) })

pub with_field_bytes : (w : ℕ) (s : List ℕ) (at v : ℕ) → Bytes s → Bytes (with_field w s at v)
unfolding with_field
with_field_bytes w s at v b = sets_bytes (bytes_of w v) s at b (bytes_of_bytes w v)

-- two runs of numbers set side by side are one
pub sets_append : (us vs l : List ℕ) (at : ℕ) → sets l at (us ++ vs) ≡ sets (sets l at us) (at + length us) vs
sets_append [] vs l at = rw add-zero
sets_append (a ∷ us) vs l at = sets_append us vs (set l at a) (suc at) ∙ ap (λ (k : ℕ). sets (sets (set l at a) (suc at) us) k vs) (omega arith)

-- two fields written side by side are one
pub with_field_join : (v w : ℕ) (s : List ℕ) (at x y : ℕ) {mid end : List ℕ} → y < 256 ^ w → mid ≡ with_field v s at x → end ≡ with_field w mid (at + v) y
    → end ≡ with_field (v + w) s at (x * 256 ^ w + y)
unfolding with_field
with_field_join v w s at x y {mid} {end} h p q =
    q ∙ ap (λ (l : List ℕ). sets l (at + v) (bytes_of w y)) p
    ∙ ap (λ (k : ℕ). sets (sets s at (bytes_of v x)) (at + k) (bytes_of w y)) (sym (length-bytes_of v x))
    ∙ sym (sets_append (bytes_of v x) (bytes_of w y) s at)
    ∙ ap (sets s at) (sym (bytes_of_join v w x y h))
