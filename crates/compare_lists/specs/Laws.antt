-- Two accepted books can be compared: what the definition of the comparison asks of their graphs.
use Rattle.std.specs.Prelude.{Bool, true, false, cond, ◌||◌, List, ◌≡◌, refl, ℕ, ◌^◌, ◌≤◌, ◌<◌}
use Rattle.std.proofs.lemmas.Bool.{false≢true}
use Rattle.std.proofs.Common.{arith, eq-eqb}
use Rattle.std.proofs.Math.Dec.{eqb}
use Rattle.fields.specs.Fields.{Bytes}
use Rattle.fields.specs.Label.{label_width}
use Rattle.fields.specs.LabelLaws.{label-width}
use Rattle.theory.specs.Bisimulation.{Sides}
use Rattle.book.specs.declared.Hidden.{Hidden}
use Rattle.book.specs.Book.{version_of, book_refusal}
use Rattle.book.specs.BookGraph.{seen_of}
use Rattle.book.specs.AcceptedLaws.{book_sizes}
use Rattle.book.specs.PassesLaws.{passes_symmetric}
use Rattle.book.specs.SeenLaws.{seen_graph, seen_label}
use Rattle.sheet.specs.Sheet.{most_version, most_bound}
use Rattle.compare_laws.specs.Entries.{Narrow}
use Rattle.compare_laws.specs.Refining.{Comparable}
use Rattle.compare_lists.specs.BookSetting.{sheet_version, setting_of}

-- ---- the version of the sheet

or_true : (b : Bool) → (b || true) ≡ true
or_true true = refl
or_true false = refl

-- one of the versions that there are
known : (b : Bool) → (1 ≤ cond b 2 1) × (cond b 2 1 ≤ most_version)
known true = (omega arith, omega arith)
known false = (omega arith, omega arith)

-- which has room for the labels of version v, where v is not above it
room_for : (v a : ℕ) → 1 ≤ v → v ≤ 2 → (b : Bool) → (v ≡ 2 → b ≡ true) → a < 256 ^ label_width v → a < 256 ^ label_width (cond b 2 1)
unfolding label_width
room_for v a p q true f h = (label-width v).fits a h
room_for v a p q false f h =
    let n : v ≡ 2 → ⊥ = λ e. false≢true (f e) in
    let e : v ≡ 1 = omega arith in
    rw e at h

module _ (l r : List ℕ) where
  pub sheet_known : (1 ≤ sheet_version l r) × (sheet_version l r ≤ most_version)
  unfolding sheet_version
  sheet_known = known (eqb (version_of l) 2 || eqb (version_of r) 2)

  sheet_left : book_refusal l ≡ 0 → (a : ℕ) → a < 256 ^ label_width (version_of l) → a < 256 ^ label_width (sheet_version l r)
  unfolding sheet_version
  sheet_left e a =
      let h = book_sizes l e in
      room_for (version_of l) a h.version h.latest (eqb (version_of l) 2 || eqb (version_of r) 2) (λ d. rw (eq-eqb (version_of l) 2 d))

  sheet_right : book_refusal r ≡ 0 → (a : ℕ) → a < 256 ^ label_width (version_of r) → a < 256 ^ label_width (sheet_version l r)
  unfolding sheet_version
  sheet_right e a =
      let h = book_sizes r e in
      room_for (version_of r) a h.version h.latest (eqb (version_of l) 2 || eqb (version_of r) 2) (λ d. rw (eq-eqb (version_of r) 2 d) (or_true (eqb (version_of l) 2)))

-- the labels of a book have room in a sheet that has room for the labels of its version
narrow : (h : ℕ) (s : List ℕ) (v : ℕ) → Bytes s → ((a : ℕ) → a < 256 ^ label_width (version_of s) → a < 256 ^ label_width v) → Narrow v (seen_of h s)
narrow h s v b f = record { label = λ x a y e. f a (seen_label h s b x a y e) }

pub books_comparable : (x : Sides) (l r : List ℕ) (c : ℕ) (hidden : Hidden) → Bytes l → Bytes r → book_refusal l ≡ 0 → book_refusal r ≡ 0 → c ≤ most_bound → Comparable (setting_of x l r c hidden)
books_comparable x l r c hidden bl br el er h =
    record {
      formed = (seen_graph hidden.left l el, seen_graph hidden.right r er);
      symmetric = (λ t x y. passes_symmetric t _ _, λ t x y. passes_symmetric t _ _);
      narrow = (narrow hidden.left l _ bl (sheet_left l r el), narrow hidden.right r _ br (sheet_right l r er));
      version = sheet_known l r;
      some = ((book_sizes l el).some, (book_sizes r er).some);
      small = ((book_sizes l el).few, (book_sizes r er).few);
      bound = h;
    }
