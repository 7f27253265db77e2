-- What the step for a parted pair writes is as the invariant asks.
use Rattle.std.proofs.Math.Bool.{So}
use Rattle.std.proofs.lemmas.Bool.{false≢true}
use Rattle.std.specs.Prelude.{List, [], ◌∷◌, ◌++◌, ◌≢◌, ◌≡◌, get_or, set}
use Rattle.std.proofs.Common.{inl, inr, ⊎_elim, sym, ap, ◌∙◌, arith, le_refl}
use Rattle.std.proofs.Math.Path.{refl, subst}
use Prim.Native.Nat.{ℕ, zero, suc, ◌+◌, ◌*◌, ◌<◌, ◌≤◌}
use Rattle.std.proofs.Math.ListN.{length}
use Rattle.theory.specs.Graph.{Graph, Node, WellFormed}
use Rattle.theory.specs.Expression.{NodeExpr, neg, conj, always}
use Rattle.theory.specs.Bisimulation.{Relation, flip, Sides, one_sided, two_sided}
use Rattle.theory.proofs.ClauseLaws.{apart}
use Rattle.theory.proofs.GreatestLaws.{after_inside}
use Rattle.theory.specs.Parting.{Parts, Describes, Reason, Fails}
use Rattle.theory.proofs.PartingLaws.{parting, part_back}
use Rattle.theory.proofs.DescribingLaws.{always_holds, parts_describes, conj_describes}
use Rattle.sheet.specs.Entry.{Entry, negation, conjunction, spell, expressions, expression}
use Rattle.sheet.specs.ExpressionLaws.{expression_front, expression_last}
use Rattle.sheet.specs.Sheet.{most_bound}
use Rattle.sheet.specs.Encoding.{encode}
use Rattle.sheet.specs.WrittenLaws.{size_of}
use Rattle.compare_laws.specs.Places.{unparted}
use Rattle.compare_laws.proofs.PlaceLaws.{eq-or-ne, place_row, place_column, placed-other}
use Rattle.compare_laws.specs.Setting.{Setting, swapped, relation_after}
use Rattle.compare_laws.specs.Entries.{Sheet, Fit, Grows, Narrow}
use Rattle.compare_laws.proofs.EntryLaws.{grows_refl, grows_append, grows_trans, sheet_snoc, expression-zero, length_snoc, length-encode_snoc, fit_negation, fit_conjunction, spell-reason_entry, size_reason_entry, fit_reason_entry}
use Rattle.compare_laws.specs.Room.{reason_bytes}
use Rattle.compare_laws.specs.Comparison.{State, ahead, back, with_denial, conjoined, conjoint, name_left, describe_right, write, part, parted_by, verdict, obey, settle, reason_entry}
use Rattle.compare_laws.specs.Refining.{Comparable, PartsPair, DescribesNode, DescribedBy, Redescribed, Refined}
use Rattle.compare_laws.proofs.StepLaws.{describes_more, described_more, redescribed_more, written_refined}

-- ---- "i and j"

-- "i and j" is written, and describes x.
record Conjoined (s : Setting) (d : ℕ) (z : Relation) (x : ℕ) (es : List Entry) (i j : ℕ) : Type 0 where
  sheet : Sheet s.version s.bound (conjoined es i j)
  grows : Grows es (conjoined es i j)
  few : length (conjoined es i j) ≤ length es + 1
  room : length (encode s.version (conjoined es i j)) ≤ length (encode s.version es) + 6
  here : (xs : List ℕ) → Redescribed s d z (conjoined es i j) xs (set xs x (conjoint es i j)) x

module _ {s : Sides} {l r : Graph} {c d x b : ℕ} {z : Relation} (z' : Relation) (less : (y : ℕ) → Node r y → y ≢ b → So (z x y) → So (z' x y)) where
  -- besides what describes x for a relation, what parts x from b describes it without b
  conj_narrower : {q p : NodeExpr} → Describes s l r c d z x (Node r) q → Parts s l r c d x b p → Describes s l r c d z' x (Node r) (conj q p)
  conj_narrower t p =
      conj_describes {A = λ y. Node r y × (y ≢ b)} {B = λ y. y ≡ b} (λ y u. ⊎_elim inr (λ e. inl (u, e)) (eq-or-ne y b))
      (describes_more (le_refl d) refl (λ y u. (u.0, less y u.0 u.1)) t) (parts_describes z' (λ y e. e) p)

  -- and alone, where always true describes x
  parts_narrower : {p : NodeExpr} → Describes s l r c d z x (Node r) always → Parts s l r c d x b p → Describes s l r c d z' x (Node r) p
  parts_narrower t p =
      record {
        within = p.tells.within;
        spoken = p.tells.spoken;
        shallow = p.shallow;
        own = p.tells.left;
        only = λ y u e. less y u (λ v. false≢true (sym p.tells.right ∙ (rw v at e))) (t.only y u (always_holds r y u.below));
      }

module _ {s : Setting} {d x b : ℕ} {z : Relation} (z' : Relation) (less : (y : ℕ) → Node s.right y → y ≢ b → So (z x y) → So (z' x y)) where
  conjoined_describes : {es : List Entry} (i j : ℕ) → Sheet s.version s.bound es → i < length es → j < length es
      → DescribesNode s d z x (Node s.right) (expression es i) → PartsPair s d x b (expression es j) → Conjoined s d z' x es i j
  unfolding conjoined conjoint spell size_of
  conjoined_describes {es} zero j w h h' t p =
      record {
        sheet = w;
        grows = grows_refl es;
        few = omega arith;
        room = omega arith;
        here = λ xs. record { entry = j; is = refl; number = h'; describes = parts_narrower z' less (rw (expression-zero w) at t) p };
      }
  conjoined_describes {es} (suc i) j w h h' t p =
      let e = conjunction (suc i) j in
      record {
        sheet = sheet_snoc w e (fit_conjunction h h');
        grows = grows_append es (e ∷ []);
        few = omega (arith, length_snoc es e);
        room = omega (arith, length-encode_snoc s.version es e);
        here = λ xs. record {
          entry = length es;
          is = refl;
          number = omega (arith, length_snoc es e);
          describes = rw (expression_last es e) (conj_narrower z' less t p);
        };
      }

-- ---- an entry and its denial

-- They are written.
record Denied (v c : ℕ) (es : List Entry) (e : Entry) : Type 0 where
  sheet : Sheet v c (with_denial es e)
  grows : Grows es (with_denial es e)
  many : length (with_denial es e) ≡ length es + 2
  room : length (encode v (with_denial es e)) ≡ length (encode v es) + (size_of v e + 4)
  first : expression (with_denial es e) (length es) ≡ spell (expressions es) e
  second : expression (with_denial es e) (suc (length es)) ≡ neg (spell (expressions es) e)

with_denial_denied : {v c : ℕ} {es : List Entry} (e : Entry) → Sheet v c es → Fit v c (length es) e → Denied v c es e
unfolding with_denial spell size_of
with_denial_denied {v} {c} {es} e w f =
    let es' = es ++ (e ∷ []) in
    let d = negation (length es) in
    let n = length_snoc es e in
    record {
      sheet = sheet_snoc (sheet_snoc w e f) d (fit_negation (omega arith));
      grows = grows_trans (grows_append es (e ∷ [])) (grows_append es' (d ∷ []));
      many = omega (arith, length_snoc es' d);
      room = omega (arith, length-encode_snoc v es' d, length-encode_snoc v es e);
      first = expression_front es' (d ∷ []) (length es) (omega arith) ∙ expression_last es e;
      second = rw (← n) (rw (expression_last es' d) (ap neg (expression_last es e)));
    }

-- The entry may stand after es, is not too long, and parts a from b.
record Puts (s : Setting) (d a b : ℕ) (es : List Entry) (e : Entry) : Type 0 where
  fit : Fit s.version s.bound (length es) e
  size : size_of s.version e ≤ reason_bytes s.version
  parts : PartsPair s d a b (spell (expressions es) e)

-- So does the entry that puts a reason.
reason_entry_puts : {s : Setting} {k a b : ℕ} {z : Relation} {es : List Entry} {xs : List ℕ} → WellFormed s.left → WellFormed s.right
    → Narrow s.version s.left → s.bound ≤ most_bound → a < s.left.size → Sheet s.version s.bound es → DescribedBy s k z es xs → (why : Reason) → Fails s.left s.right s.bound z a b why
    → Puts s (suc k) a b es (reason_entry xs why)
reason_entry_puts {s} {k} {a} {b} {z} {es} {xs} w w' narrow small o sheet t why f =
    record {
      fit = fit_reason_entry w narrow (length es) xs sheet.some t.earlier s.right s.bound z a b why f;
      size = size_reason_entry xs s.version s.left s.right s.bound z a b why small f;
      parts = rw spell-reason_entry (parting w w' t.describes why a b o f);
    }

-- ---- the step

module _ {s : Setting} {k a b : ℕ} {now : State} (g : Comparable s) (inv : Refined s k (a * s.right.size + b) now) (o : a < s.left.size)
    (u : b < s.right.size) (e : So (relation_after s k a b)) where
  -- the pair is one of nodes
  ends : Node s.left a × Node s.right b
  ends = after_inside s.sides s.bound g.formed.0 g.formed.1 k a b e

  -- the entry i of es, behind those that there were, parts a from b
  module _ {es : List Entry} (sheet : Sheet s.version s.bound es) (grows : Grows now.entries es) (i : ℕ) (h : i < length es)
      (p : PartsPair s (suc k) a b (expression es i)) where
    z' : Relation
    z' = unparted s.right.size (set now.map (a * s.right.size + b) i)

    still : (x y : ℕ) → x * s.right.size + y ≢ a * s.right.size + b → So (unparted s.right.size now.map x y) → So (z' x y)
    unfolding z'
    still x y q v = rw (placed-other s.right.size now.map a b i x y q) v

    left : DescribedBy s (suc k) (unparted s.right.size now.map) es now.new_left
    left = described_more (le_refl _) grows (λ x y _ _ h. h) inv.new_left

    -- added to what describes a
    jl : Conjoined s (suc k) z' a es (get_or now.new_left a 0) i
    jl =
        conjoined_describes z' (λ y v q. still a y (λ w. q (place_column _ a y a b v.below u w))) _ i sheet (left.earlier a o) h (left.describes a ends.0) p

    -- and j, which parts b from a, to what describes b
    module _ (both : s.sides ≡ two_sided) (j : ℕ) (h' : j < length es) (p' : PartsPair (swapped s) (suc k) b a (expression es j)) where
      es' : List Entry
      es' = conjoined es (get_or now.new_left a 0) i

      right : DescribedBy (swapped s) (suc k) (flip (unparted s.right.size now.map)) es' now.new_right
      unfolding es'
      right = described_more (le_refl _) (grows_trans grows jl.grows) (λ x y _ _ h. h) (inv.new_right both)

      jr : Conjoined (swapped s) (suc k) (flip z') b es' (get_or now.new_right b 0) j
      unfolding es'
      jr =
          conjoined_describes (flip z') (λ x v q. still x b (λ w. q (place_row _ x b a b u u w))) _ j jl.sheet (right.earlier b u)
          (omega (arith, jl.grows.longer)) (right.describes b ends.1) (rw (jl.grows.same j h') p')

  -- one-sided: an entry that parts a from b
  write-one : s.sides ≡ one_sided → (d : Entry) (j : ℕ) → Puts s (suc k) a b now.entries d
      → settle s (relation_after s k) a b now ≡ write one_sided s.right.size a b d (length now.entries) j now
      → Refined s k (suc (a * s.right.size + b)) (write one_sided s.right.size a b d (length now.entries) j now)
  unfolding write name_left z'
  write-one one d j t q =
      let es = now.entries in
      let n = length_snoc es d in
      let x = jl (sheet_snoc inv.sheet d t.fit) (grows_append es (d ∷ [])) (length es) (omega arith) (rw (expression_last es d) t.parts) in
      written_refined g inv o u {i = length es} e (record {
        sheet = x.sheet;
        grows = grows_trans (grows_append es (d ∷ [])) x.grows;
        few = omega (arith, x.few);
        room = omega (arith, x.room, length-encode_snoc s.version es d, t.size);
        map = refl;
        fresh = omega arith;
        number = omega (arith, x.grows.longer);
        parts = rw (x.grows.same (length es) (omega arith), expression_last es d) t.parts;
        old_left = refl;
        old_right = refl;
        new_left = x.here now.new_left;
        new_right = λ both. apart one both;
      }) q

  -- two-sided: an entry and its denial, of which i parts a from b and j parts b from a
  write_both : s.sides ≡ two_sided → (d : Entry) (i j : ℕ) → Denied s.version s.bound now.entries d → size_of s.version d ≤ reason_bytes s.version
      → length now.entries ≤ i → i < length now.entries + 2 → j < length now.entries + 2
      → PartsPair s (suc k) a b (expression (with_denial now.entries d) i)
      → PartsPair (swapped s) (suc k) b a (expression (with_denial now.entries d) j)
      → settle s (relation_after s k) a b now ≡ write two_sided s.right.size a b d i j now
      → Refined s k (suc (a * s.right.size + b)) (write two_sided s.right.size a b d i j now)
  unfolding write name_left describe_right z' es'
  write_both both d i j t size fresh h h' p p' q =
      let x = jl t.sheet t.grows i (omega (arith, t.many)) p in
      let y = jr t.sheet t.grows i (omega (arith, t.many)) p both j (omega (arith, t.many)) p' in
      written_refined g inv o u {i = i} e (record {
        sheet = y.sheet;
        grows = grows_trans t.grows (grows_trans x.grows y.grows);
        few = omega (arith, x.few, y.few, t.many);
        room = omega (arith, x.room, y.room, t.room);
        map = refl;
        fresh = fresh;
        number = omega (arith, x.grows.longer, y.grows.longer, t.many);
        parts = rw ((grows_trans x.grows y.grows).same i (omega (arith, t.many))) p;
        old_left = refl;
        old_right = refl;
        new_left = redescribed_more y.grows (x.here now.new_left);
        new_right = λ _. y.here now.new_right;
      }) q

  -- the step for a pair that is parted keeps the invariant: by a reason from the left,
  pub ahead_refined : (why : Reason) → Fails s.left s.right s.bound (relation_after s k) a b why
      → verdict s (relation_after s k) a b ≡ parted_by (ahead why)
      → Refined s k (suc (a * s.right.size + b)) (part s.sides s.right.size a b (ahead why) now)
  unfolding part settle obey
  ahead_refined why f v = by s.sides refl
    where
      t : Puts s (suc k) a b now.entries (reason_entry now.old_left why)
      t = reason_entry_puts g.formed.0 g.formed.1 g.narrow.0 g.bound o inv.sheet inv.old_left why f

      by : (x : Sides) → s.sides ≡ x → Refined s k (suc (a * s.right.size + b)) (part x s.right.size a b (ahead why) now)
      by one_sided one = write-one one _ _ t (rw (e, v, one))
      by two_sided both =
          let n = length now.entries in
          let d = with_denial_denied (reason_entry now.old_left why) inv.sheet t.fit in
          write_both both _ n (suc n) d t.size (omega arith) (omega arith) (omega arith) (rw d.first t.parts) (rw d.second (part_back both t.parts))
          (rw (e, v, both))

  -- and two-sided by one from the right
  pub back_refined : s.sides ≡ two_sided → (why : Reason) → Fails s.right s.left s.bound (flip (relation_after s k)) b a why
      → verdict s (relation_after s k) a b ≡ parted_by (back why)
      → Refined s k (suc (a * s.right.size + b)) (part s.sides s.right.size a b (back why) now)
  unfolding part settle obey
  back_refined both why f v =
      let n = length now.entries in
      let t = reason_entry_puts {s = swapped s} g.formed.1 g.formed.0 g.narrow.1 g.bound u inv.sheet (inv.old_right both) why f in
      let d = with_denial_denied (reason_entry now.old_right why) inv.sheet t.fit in
      subst (λ x. Refined s k (suc (a * s.right.size + b)) (part x s.right.size a b (back why) now)) (sym both)
      (write_both both _ (suc n) n d t.size (omega arith) (omega arith) (omega arith) (rw d.second (part_back both t.parts)) (rw d.first t.parts)
      (rw (e, v, both)))
