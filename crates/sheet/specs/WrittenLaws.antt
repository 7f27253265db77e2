-- What is written is what is read: the sheet of well-formed entries is accepted, with its bound and as many entries, and its entries are those.
use Rattle.std.specs.Prelude.{false, ◌||◌, ◌≡◌, ltb, leb, Ok}
use Rattle.std.proofs.Math.Bool.{cond}
use mathlib.Core.List.{List, [], ◌∷◌, ◌++◌, append_assoc, append-nil}
use Rattle.std.proofs.Math.Path.{refl, sym, ap, ap₂}
use Rattle.std.proofs.Common.{◌∙◌, mul-le-mul_left, add-one, get_or-append-add}
use Prim.Native.Nat.{ℕ, zero, suc, ◌+◌, ◌-◌, ◌*◌, ◌^◌, ◌≤◌, ◌<◌}
use Rattle.std.proofs.Math.Nat.{mul-le-mul}
use native.Mathlib.Omega.{arith}
use borrow.Author.Tests.{lt-ltb, le-ltb, le-leb, lt-leb, eq-eqb, ne_eqb, leb-true}
use Rattle.std.proofs.Math.ListN.{length, get_or, length-append}
use Rattle.fields.specs.Fields.{field, bytes_of}
use Rattle.fields.specs.Label.{label_width}
use Rattle.fields.specs.LabelLaws.{label-width}
use Rattle.fields.specs.Laws.{field-append_right, field-bytes_of-append, length-bytes_of}
use Rattle.theory.specs.Graph.{Comparison, same, differ}
use Rattle.theory.proofs.TestLaws.{test_eq}
use Rattle.sheet.specs.Entry.{Step, Entry, entry_with, kind_of, truth, negation, conjunction, disjunction, way, comparison, expression, tests, numbers, Short, Below, WellFormedEntry, WellFormedFrom, WellFormed, most_steps}
use Rattle.sheet.specs.ExpressionLaws.{below-append, well_formed_snoc}
use Rattle.outcome.specs.Refusals.{first_of}
use Rattle.sheet.specs.Sheet.{bound_of, count_of, length_of, version_of, head_size, most_version, most_bound, most_entries, most_kind, number_width, step_width, number_at, steps_at, entry_of, entry_in, next_at, entries_at, entries_of, question_of, head_refusal, step_counts, too_large, required, numbers_refusal, body_refusal, kind_refusal, entry_refusal, entries_refusal, sheet_refusal, heading, sheet_answer}
use Rattle.sheet.specs.Encoding.{encode_steps, body_of, encode_entry, encode, header, sheet_bytes, step_labels, labels, Labelled}
use Rattle.outcome.specs.RefusalLaws.{judged-ok}

module _ (v : ℕ) where
  -- ---- sizes

  pub length-encode_steps : (ss : List Step) → length (encode_steps v ss) ≡ step_width v * length ss
  unfolding encode_steps bytes_of
  length-encode_steps [] = omega arith
  length-encode_steps (s ∷ ss) =
      let N = bytes_of number_width s.test ++ encode_steps v ss in
      omega (arith, length-append (bytes_of (label_width v) s.label) N, length-bytes_of (label_width v) s.label, length-encode_steps ss)

  -- The bytes of an entry.
  unfoldable pub size_of : Entry → ℕ
  size_of truth = 2
  size_of (negation i) = 2 + number_width
  size_of (conjunction i j) = 2 + 2 * number_width
  size_of (disjunction i j) = 2 + 2 * number_width
  size_of (way s) = 3 + step_width v * length s
  size_of (comparison t s s') = 4 + step_width v * (length s + length s')

  pub length-encode_entry : (e : Entry) → length (encode_entry v e) ≡ size_of e
  unfolding encode_entry body_of size_of bytes_of
  length-encode_entry truth = refl
  length-encode_entry (negation i) = refl
  length-encode_entry (conjunction i j) = refl
  length-encode_entry (disjunction i j) = refl
  length-encode_entry (way s) = omega (arith, length-encode_steps s)
  length-encode_entry (comparison t s s') =
      omega (arith, length-encode_steps s, length-encode_steps s', length-append (encode_steps v s) (encode_steps v s'))

  -- one entry more: its bytes follow
  pub encode-append : (es fs : List Entry) → encode v (es ++ fs) ≡ encode v es ++ encode v fs
  unfolding encode
  encode-append [] fs = refl
  encode-append (e ∷ es) fs = ap (λ l. encode_entry v e ++ l) (encode-append es fs) ∙ sym (append_assoc (encode_entry v e) (encode v es) (encode v fs))

  pub encode_snoc : (es : List Entry) (e : Entry) → encode v (es ++ (e ∷ [])) ≡ encode v es ++ encode_entry v e
  unfolding encode
  encode_snoc es e = encode-append es (e ∷ []) ∙ ap (λ l. encode v es ++ l) (append-nil (encode_entry v e))

  -- ---- what is read behind p in p ++ t is what is read in t

  leb_same : (a b a' b' : ℕ) → (a ≤ b → a' ≤ b') → (a' ≤ b' → a ≤ b) → leb a b ≡ leb a' b'
  leb_same a b a' b' f g = test_eq (leb a b) (leb a' b') (λ h. le-leb a' b' (f (leb-true a b h))) (λ h. le-leb a b (g (leb-true a' b' h)))

  module _ (p t : List ℕ) where
    byte-behind : (from at : ℕ) → from ≡ length p + at → get_or (p ++ t) from 0 ≡ get_or t at 0
    byte-behind from at e = rw e (get_or-append-add p t at 0)

    field-behind : (w from at : ℕ) → from ≡ length p + at → field w (p ++ t) from ≡ field w t at
    field-behind w from at e = rw e (field-append_right w p t at)

    steps-behind : (from at k : ℕ) → from ≡ length p + at → steps_at v (p ++ t) from k ≡ steps_at v t at k
    unfolding steps_at
    steps-behind from at zero e = refl
    steps-behind from at (suc k) e =
        ap₂ ◌∷◌ (ap₂ (λ a i. record { label = a; test = i }) (field-behind (label_width v) from at e) (field-behind number_width (from + label_width v) (at + label_width v) (omega arith)))
        (steps-behind (from + step_width v) (at + step_width v) k (omega arith))

    entry_behind : (kind from at : ℕ) → from ≡ length p + at → entry_of v kind (p ++ t) from ≡ entry_of v kind t at
    unfolding entry_of
    entry_behind kind from at e =
        rw (
          field-behind 2 from at e,
          field-behind 2 (from + 2) (at + 2) (omega arith),
          byte-behind from at e,
          byte-behind (from + 1) (at + 1) (omega arith),
          steps-behind (from + step_counts kind) (at + step_counts kind) (get_or t at 0) (omega arith),
          steps-behind (from + step_counts kind + step_width v * get_or t at 0) (at + step_counts kind + step_width v * get_or t at 0) (get_or t (at + 1) 0) (omega arith),
        )

    body_behind : (c n kind from at size : ℕ) → from ≡ length p + at → body_refusal v (p ++ t) c n kind from size ≡ body_refusal v t c n kind at size
    unfolding body_refusal too_large required
    body_behind c n kind from at size e =
        rw (byte-behind from at e, byte-behind (from + 1) (at + 1) (omega arith), entry_behind kind from at e)

    within : (from at : ℕ) → from ≡ length p + at → leb (length (p ++ t)) from ≡ leb (length t) at
    within from at e = leb_same (length (p ++ t)) from (length t) at (λ h. omega (arith, length-append p t)) (λ h. omega (arith, length-append p t))

    over : (from at : ℕ) → from ≡ length p + at → ltb from (length (p ++ t)) ≡ ltb at (length t)
    over from at e = leb_same (suc from) (length (p ++ t)) (suc at) (length t) (λ h. omega (arith, length-append p t)) (λ h. omega (arith, length-append p t))

    refusal_behind : (c n from at : ℕ) → from ≡ length p + at → entry_refusal v (p ++ t) c n from ≡ entry_refusal v t c n at
    unfolding entry_refusal
    refusal_behind c n from at e =
        rw (
          byte-behind from at e,
          byte-behind (from + 1) (at + 1) (omega arith),
          within from at e,
          within (from + get_or t at 0) (at + get_or t at 0) (omega arith),
          body_behind c n (get_or t (at + 1) 0) (from + 2) (at + 2) (get_or t at 0 - 1) (omega arith),
        )

    next-behind : (from at : ℕ) → from ≡ length p + at → next_at (p ++ t) from ≡ length p + next_at t at
    next-behind from at e = omega (arith, byte-behind from at e)

    entries-behind : (c n from at q : ℕ) → from ≡ length p + at → entries_refusal v (p ++ t) c n from q ≡ entries_refusal v t c n at q
    unfolding entries_refusal
    entries-behind c n from at zero e = ap (λ b. cond b 9 0) (over from at e)
    entries-behind c n from at (suc q) e =
        ap₂ first_of (refusal_behind c n from at e) (entries-behind c (n + 1) (next_at (p ++ t) from) (next_at t at) q (next-behind from at e))

    list-behind : (from at q : ℕ) → from ≡ length p + at → entries_at v (p ++ t) from q ≡ entries_at v t at q
    unfolding entries_at
    list-behind from at zero e = refl
    list-behind from at (suc q) e =
        ap₂ ◌∷◌ (rw (byte-behind (from + 1) (at + 1) (omega arith)) (entry_behind (get_or t (at + 1) 0) (from + 2) (at + 2) (omega arith)))
        (list-behind (next_at (p ++ t) from) (next_at t at) q (next-behind from at e))

  -- ---- an entry is read back

  module _ (n : ℕ) (room : n ≤ 256 ^ number_width) where
    number_back : (i : ℕ) (rest : List ℕ) → i < n → number_at (bytes_of number_width i ++ rest) 0 ≡ i
    number_back i rest h = field-bytes_of-append number_width i rest (omega arith)

    steps_back : (ss : List Step) (rest : List ℕ) → Below n (tests ss) → Below (256 ^ label_width v) (step_labels ss)
        → steps_at v (encode_steps v ss ++ rest) 0 (length ss) ≡ ss
    unfolding steps_at encode_steps Below tests step_labels
    steps_back [] rest h k = refl
    steps_back (s ∷ ss) rest h k =
        let L = bytes_of (label_width v) s.label in
        let N = bytes_of number_width s.test in
        let E = encode_steps v ss in
        let assoc : (L ++ (N ++ E)) ++ rest ≡ L ++ (N ++ (E ++ rest)) = append_assoc L (N ++ E) rest ∙ ap (λ l. L ++ l) (append_assoc N E rest) in
        let l = length-bytes_of (label_width v) s.label in
        let m = length-bytes_of number_width s.test in
        ap (λ b. steps_at v b 0 (suc (length ss))) assoc
        ∙ (ap₂ ◌∷◌
        (ap₂ (λ a i. record { label = a; test = i }) (field-bytes_of-append (label_width v) s.label (N ++ (E ++ rest)) k.0)
        (field-behind L (N ++ (E ++ rest)) number_width (0 + label_width v) 0 (omega arith) ∙ number_back s.test (E ++ rest) h.0))
        (steps-behind L (N ++ (E ++ rest)) (0 + step_width v) number_width (length ss) (omega arith) ∙ steps-behind N (E ++ rest) number_width 0 (length ss) (omega arith) ∙ steps_back ss rest h.1 k.1))

    two_back : (f : ℕ → ℕ → Entry) (i j : ℕ) (rest : List ℕ) → i < n → j < n
        → f (number_at ((bytes_of number_width i ++ bytes_of number_width j) ++ rest) 0) (number_at ((bytes_of number_width i ++ bytes_of number_width j) ++ rest) 2) ≡ f i j
    two_back f i j rest h k =
        let A = bytes_of number_width i in
        let B = bytes_of number_width j in
        let l = length-bytes_of number_width i in
        rw (append_assoc A B rest)
        (ap₂ f (number_back i (B ++ rest) h) (field-behind A (B ++ rest) number_width 2 0 (omega arith) ∙ number_back j rest k))

    -- the body of a comparison, and what follows it
    two : List Step → List Step → List ℕ → List ℕ
    two s s' rest = length s ∷ length s' ∷ ((encode_steps v s ++ encode_steps v s') ++ rest)

    ways_back : (t : Comparison) (s s' : List Step) (rest : List ℕ) → Below n (tests s ++ tests s') → Below (256 ^ label_width v) (step_labels s ++ step_labels s')
        → comparison t (steps_at v (two s s' rest) 2 (length s)) (steps_at v (two s s' rest) (2 + step_width v * length s) (length s')) ≡ comparison t s s'
    unfolding two
    ways_back t s s' rest h k =
        let E = encode_steps v s in
        let E' = encode_steps v s' in
        let p = length s ∷ length s' ∷ [] in
        let (h₁, h₂) = below-append n (tests s) (tests s') h in
        let (k₁, k₂) = below-append (256 ^ label_width v) (step_labels s) (step_labels s') k in
        let l = length-encode_steps s in
        rw (append_assoc E E' rest)
        (ap₂ (comparison t)
        (steps-behind p (E ++ (E' ++ rest)) 2 0 (length s) (omega arith) ∙ steps_back s (E' ++ rest) h₁ k₁)
        (steps-behind p (E ++ (E' ++ rest)) (2 + step_width v * length s) (step_width v * length s) (length s') (omega arith)
        ∙ steps-behind E (E' ++ rest) (step_width v * length s) 0 (length s') (omega arith) ∙ steps_back s' rest h₂ k₂))

    entry_back : (e : Entry) (rest : List ℕ) → Below n (numbers e) → Below (256 ^ label_width v) (labels e) → entry_of v (kind_of e) (body_of v e ++ rest) 0 ≡ e
    unfolding two entry_of entry_with step_counts kind_of body_of numbers labels Below
    entry_back truth rest h k = refl
    entry_back (negation i) rest h k = ap negation (number_back i rest h.0)
    entry_back (conjunction i j) rest h k = two_back conjunction i j rest h.0 h.1.0
    entry_back (disjunction i j) rest h k = two_back disjunction i j rest h.0 h.1.0
    entry_back (way s) rest h k =
        ap way (steps-behind (length s ∷ []) (encode_steps v s ++ rest) 1 0 (length s) (omega arith) ∙ steps_back s rest h k)
    entry_back (comparison same s s') rest h k = ways_back same s s' rest h k
    entry_back (comparison differ s s') rest h k = ways_back differ s s' rest h k

  -- ---- an entry that is well-formed is not refused

  numbers_good : (n : ℕ) (is : List ℕ) → Below n is → numbers_refusal n is ≡ 0
  unfolding numbers_refusal Below
  numbers_good n [] h = refl
  numbers_good n (i ∷ is) h = rw (lt-ltb i n h.0) (numbers_good n is h.1)

  kind_known : (e : Entry) → ltb (most_kind) (kind_of e) ≡ false
  unfolding kind_of
  kind_known truth = refl
  kind_known (negation i) = refl
  kind_known (conjunction i j) = refl
  kind_known (disjunction i j) = refl
  kind_known (way s) = refl
  kind_known (comparison same s s') = refl
  kind_known (comparison differ s s') = refl

  kind_good : (n : ℕ) (e : Entry) → (n ≡ 0 → e ≡ truth) → kind_refusal n (kind_of e) ≡ 0
  unfolding kind_refusal kind_of
  kind_good zero e f = rw (f refl)
  kind_good (suc n) e f = rw (kind_known e, ne_eqb (suc n) 0 (λ q. omega arith))

  counted : (e : Entry) → ltb (length (body_of v e)) (step_counts (kind_of e)) ≡ false
  unfolding kind_of step_counts body_of
  counted truth = refl
  counted (negation i) = le-ltb (length (body_of v (negation i))) 0 (omega arith)
  counted (conjunction i j) = le-ltb (length (body_of v (conjunction i j))) 0 (omega arith)
  counted (disjunction i j) = le-ltb (length (body_of v (disjunction i j))) 0 (omega arith)
  counted (way s) = le-ltb (length (body_of v (way s))) 1 (omega arith)
  counted (comparison same s s') = le-ltb (length (body_of v (comparison same s s'))) 2 (omega arith)
  counted (comparison differ s s') = le-ltb (length (body_of v (comparison differ s s'))) 2 (omega arith)

  or_fails : (c a b : ℕ) → a ≤ c → b ≤ c → (ltb c a || ltb c b) ≡ false
  or_fails c a b p q = rw (le-ltb c a p, le-ltb c b q)

  not_large : (c : ℕ) (e : Entry) (rest : List ℕ) → Short v c e → too_large v c (kind_of e) (body_of v e ++ rest) 0 ≡ false
  unfolding kind_of too_large body_of Short
  not_large c truth rest f = refl
  not_large c (negation i) rest f = refl
  not_large c (conjunction i j) rest f = refl
  not_large c (disjunction i j) rest f = refl
  not_large c (way s) rest f = le-ltb (most_steps v) (length s) f
  not_large c (comparison same s s') rest f = or_fails c (length s) (length s') f.0 f.1
  not_large c (comparison differ s s') rest f = or_fails c (length s) (length s') f.0 f.1

  exact : (e : Entry) (rest : List ℕ) → length (body_of v e) ≡ required v (kind_of e) (body_of v e ++ rest) 0
  unfolding kind_of required body_of bytes_of
  exact truth rest = refl
  exact (negation i) rest = refl
  exact (conjunction i j) rest = refl
  exact (disjunction i j) rest = refl
  exact (way s) rest = omega (arith, length-encode_steps s)
  exact (comparison same s s') rest = omega (arith, length-encode_steps s, length-encode_steps s', length-append (encode_steps v s) (encode_steps v s'))
  exact (comparison differ s s') rest = omega (arith, length-encode_steps s, length-encode_steps s', length-append (encode_steps v s) (encode_steps v s'))

  module _ (c n : ℕ) (room : n ≤ 256 ^ number_width) (e : Entry) (rest : List ℕ) (w : WellFormedEntry v c n e) (l : Below (256 ^ label_width v) (labels e)) where
    body_good : body_refusal v (body_of v e ++ rest) c n (kind_of e) 0 (length (body_of v e)) ≡ 0
    unfolding body_refusal
    body_good =
        rw (
          counted e,
          not_large c e rest w.short,
          ← exact e rest,
          eq-eqb (length (body_of v e)) (length (body_of v e)) refl,
          entry_back n room e rest w.earlier l,
          numbers_good n (numbers e) w.earlier,
        )

    entry_good : entry_refusal v (encode_entry v e ++ rest) c n 0 ≡ 0
    unfolding entry_refusal encode_entry
    entry_good =
        let a = length-append (body_of v e) rest in
        let k = suc (length (body_of v e)) in
        let s = k ∷ kind_of e ∷ (body_of v e ++ rest) in
        rw (
          lt-leb (length s) 0 (omega arith),
          ne_eqb k 0 (λ q. omega arith),
          lt-leb (length s) (0 + k) (omega arith),
          kind_good n e w.first,
          (let q : k - 1 ≡ length (body_of v e) = omega arith in q),
          body_behind (k ∷ kind_of e ∷ []) (body_of v e ++ rest) c n (kind_of e) 2 0 (length (body_of v e)) (omega arith),
          body_good,
        )

    pub entry_read : entry_in v (encode_entry v e ++ rest) 0 ≡ e
    unfolding encode_entry
    entry_read =
        entry_behind (suc (length (body_of v e)) ∷ kind_of e ∷ []) (body_of v e ++ rest) (kind_of e) 2 0 (omega arith) ∙ entry_back n room e rest w.earlier l

  -- the next entry starts behind it
  next_start : (e : Entry) (rest : List ℕ) → next_at (encode_entry v e ++ rest) 0 ≡ length (encode_entry v e) + 0
  unfolding encode_entry
  next_start e rest = omega arith

  module _ (c : ℕ) where
    entries_good : (n : ℕ) (es : List Entry) → n + length es ≤ 256 ^ number_width → WellFormedFrom v c n es → Labelled v es → entries_refusal v (encode v es) c n 0 (length es) ≡ 0
    unfolding entries_refusal encode WellFormedFrom Labelled
    entries_good n [] h w l = refl
    entries_good n (e ∷ es) h w l =
        rw (entry_good c n (omega arith) e (encode v es) w.0 l.0)
        (entries-behind (encode_entry v e) (encode v es) c (n + 1) (next_at (encode_entry v e ++ encode v es) 0) 0 (length es) (next_start e (encode v es))
        ∙ entries_good (n + 1) es (omega arith) (rw (add-one n) w.1) l.1)

    entries_read : (n : ℕ) (es : List Entry) → n + length es ≤ 256 ^ number_width → WellFormedFrom v c n es → Labelled v es → entries_at v (encode v es) 0 (length es) ≡ es
    unfolding entries_at encode WellFormedFrom Labelled
    entries_read n [] h w l = refl
    entries_read n (e ∷ es) h w l =
        ap₂ ◌∷◌ (entry_read c n (omega arith) e (encode v es) w.0 l.0)
        (list-behind (encode_entry v e) (encode v es) (next_at (encode_entry v e ++ encode v es) 0) 0 (length es) (next_start e (encode v es))
        ∙ entries_read (suc n) es (omega arith) w.1 l.1)

-- ---- the sheet

-- Entries that a sheet of version v for the bound c can hold.
pub record Writable (v c : ℕ) (es : List Entry) : Type 0 where
  pub version : (1 ≤ v) × (v ≤ most_version)
  pub bounded : c ≤ most_bound
  pub some : 1 ≤ length es
  pub few : length es ≤ most_entries
  pub formed : WellFormed v c es
  pub labelled : Labelled v es

pub labelled_snoc : (v : ℕ) (es : List Entry) (e : Entry) → Labelled v es → Below (256 ^ label_width v) (labels e) → Labelled v (es ++ (e ∷ []))
unfolding Labelled
labelled_snoc v [] e h l = (l, tt)
labelled_snoc v (x ∷ es) e h l = (h.0, labelled_snoc v es e h.1 l)

-- an entry more that may stand at the end
pub writable_snoc : {v c : ℕ} {es : List Entry} → Writable v c es → (e : Entry) → WellFormedEntry v c (length es) e → Below (256 ^ label_width v) (labels e)
    → length es < most_entries → Writable v c (es ++ (e ∷ []))
writable_snoc {v} {c} {es} w e f l h =
    let n = length-append es (e ∷ []) in
    record {
      version = w.version;
      bounded = w.bounded;
      some = omega arith;
      few = omega arith;
      formed = well_formed_snoc w.formed e f;
      labelled = labelled_snoc v es e w.labelled l;
    }

pub length-header : (v l c q : ℕ) → length (header v l c q) ≡ head_size
unfolding header bytes_of
length-header v l c q = refl

-- what the header's fields hold, whatever follows it
module _ (v l c q : ℕ) (rest : List ℕ) where
  tail : List ℕ
  tail = v ∷ c ∷ (bytes_of 2 q ++ rest)

  parts : header v l c q ++ rest ≡ bytes_of 4 l ++ tail
  unfolding header tail
  parts = append_assoc (bytes_of 4 l) (v ∷ c ∷ bytes_of 2 q) rest

  pub header-length : l < 256 ^ 4 → length_of (header v l c q ++ rest) ≡ l
  header-length h = rw parts (field-bytes_of-append 4 l tail h)

  pub header_version : version_of (header v l c q ++ rest) ≡ v
  unfolding tail
  header_version = rw parts (byte-behind v (bytes_of 4 l) tail 4 0 (omega (arith, length-bytes_of 4 l)))

  pub header_bound : bound_of (header v l c q ++ rest) ≡ c
  unfolding tail
  header_bound = rw parts (byte-behind v (bytes_of 4 l) tail 5 1 (omega (arith, length-bytes_of 4 l)))

  pub header-count : q < 256 ^ 2 → count_of (header v l c q ++ rest) ≡ q
  unfolding tail
  header-count h =
      rw parts
      (field-behind v (bytes_of 4 l) tail 2 6 2 (omega (arith, length-bytes_of 4 l))
      ∙ field-behind v (v ∷ c ∷ []) (bytes_of 2 q ++ rest) 2 2 0 (omega arith) ∙ field-bytes_of-append 2 q rest h)

-- The most bytes of an entry: a way of as many steps as may be.
abbrev most_size : ℕ → ℕ
most_size v = 3 + step_width v * most_steps v

size_most : (v c : ℕ) (e : Entry) → c ≤ most_bound → Short v c e → size_of v e ≤ most_size v
unfolding size_of Short
size_most v c truth h k = omega arith
size_most v c (negation i) h k = omega arith
size_most v c (conjunction i j) h k = omega arith
size_most v c (disjunction i j) h k = omega arith
size_most v c (way s) h k = omega (arith, mul-le-mul_left (step_width v) k)
size_most v c (comparison t s s') h k = let f : length s + length s' ≤ 8 = omega arith in omega (arith, mul-le-mul_left (step_width v) f)

length_most : (v c n : ℕ) (es : List Entry) → c ≤ most_bound → WellFormedFrom v c n es → length (encode v es) ≤ most_size v * length es
unfolding encode WellFormedFrom
length_most v c n [] h w = omega arith
length_most v c n (e ∷ es) h w =
    omega (arith, length-append (encode_entry v e) (encode v es), length-encode_entry v e, size_most v c e h w.0.short, length_most v c (suc n) es h w.1)

module _ {v c : ℕ} {es : List Entry} (w : Writable v c es) where
  l : ℕ
  l = head_size + length (encode v es)

  small : l < 256 ^ 4
  unfolding l
  small =
      let m = length_most v c 0 es w.bounded w.formed.each in
      let f = w.few in
      omega (arith, mul-le-mul (label-width v).most f)

  few : length es < 256 ^ 2
  few = let f = w.few in omega arith

  pub written-length : length (sheet_bytes v c es) ≡ head_size + length (encode v es)
  unfolding sheet_bytes
  written-length = omega (arith, length-append (header v (head_size + length (encode v es)) c (length es)) (encode v es), length-header v (head_size + length (encode v es)) c (length es))

  pub written_bound : bound_of (sheet_bytes v c es) ≡ c
  unfolding sheet_bytes
  written_bound = header_bound v (head_size + length (encode v es)) c (length es) (encode v es)

  pub written_count : count_of (sheet_bytes v c es) ≡ length es
  unfolding sheet_bytes
  written_count = header-count v (head_size + length (encode v es)) c (length es) (encode v es) few

  pub written_version : version_of (sheet_bytes v c es) ≡ v
  unfolding sheet_bytes
  written_version = header_version v (head_size + length (encode v es)) c (length es) (encode v es)

  head_good : head_refusal (sheet_bytes v c es) ≡ 0
  unfolding head_refusal sheet_bytes l
  head_good =
      let s = sheet_bytes v c es in
      let (p, m) = w.version in
      let b = w.bounded in
      let o = w.some in
      let f = w.few in
      rw (
        le-ltb (length s) head_size (omega (arith, written-length)),
        eq-eqb (length_of s) (length s) (header-length v l c (length es) (encode v es) small ∙ sym written-length),
        ne_eqb (version_of s) 0 (λ z. omega (arith, written_version)),
        le-ltb most_version (version_of s) (omega (arith, written_version)),
        le-ltb most_bound (bound_of s) (omega (arith, written_bound)),
        ne_eqb (count_of s) 0 (λ z. omega (arith, written_count)),
        le-ltb most_entries (count_of s) (omega (arith, written_count)),
      )

  behind : head_size ≡ length (header v l c (length es)) + 0
  behind = omega (arith, length-header v l c (length es))

  -- the sheet is accepted
  pub written_good : sheet_refusal (sheet_bytes v c es) ≡ 0
  unfolding sheet_refusal l sheet_bytes
  written_good =
      rw (head_good, written_version, written_bound, written_count)
      (entries-behind v (header v l c (length es)) (encode v es) c 0 head_size 0 (length es) behind
      ∙ entries_good v c 0 es (let f = w.few in omega arith) w.formed.each w.labelled)

  -- with its bound and as many entries
  pub written_answer : sheet_answer (sheet_bytes v c es) ≡ Ok (heading (length es) c)
  unfolding sheet_answer
  written_answer = rw (written_count, written_bound) (judged-ok (sheet_refusal (sheet_bytes v c es)) (heading (length es) c) written_good)

  -- and its entries are those
  pub written-entries : entries_of (sheet_bytes v c es) ≡ es
  unfolding sheet_bytes l
  written-entries =
      rw (written_version, written_count)
      (list-behind v (header v l c (length es)) (encode v es) head_size 0 (length es) behind
      ∙ entries_read v c 0 es (let f = w.few in omega arith) w.formed.each w.labelled)

  pub written_question : (k : ℕ) → question_of (sheet_bytes v c es) k ≡ expression es k
  written_question k = ap (λ es. expression es k) written-entries
