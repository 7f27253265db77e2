-- What a caller that has an answer of the search cites.
use Rattle.std.specs.Prelude.{cond, ◌≡◌, refl, eqb, length, get_or, Option, Some}
use mathlib.Core.List.{List, [], ◌∷◌}
use Rattle.std.proofs.Common.{sym, ap, ap₂, ⊎_elim, eq-or-lt_of_le, not-suc-le-zero, le_of_suc-le-suc, arith}
use Prim.Native.Nat.{ℕ, zero, suc, ◌^◌, ◌≤◌, ◌<◌}
use Rattle.theory.specs.Graph.{Graph, same, differ}
use Rattle.theory.specs.Path.{Hop, Path, Walk}
use Rattle.theory.specs.Bisimulation.{Relation}
use Rattle.theory.specs.Parting.{by_link, by_paths, Fails}
use Rattle.fields.specs.Label.{label_width}
use Rattle.sheet.specs.Entry.{kind_number}
use Rattle.search_links.specs.Hops.{View, view_of, hop_at}
use Rattle.search_steps.specs.Paths.{path_of}
use Rattle.search.specs.Reasons.{Posed, path_in, reason_of, Numbered, Answered}
use Rattle.search.specs.Laws.{answer_fails, reason_link, reason_same, reason_differ, steps-length, steps-at}
use Rattle.search_pairs.specs.declared.Route.{Route}
use Rattle.search.specs.declared.Reason.{Reason}
use Rattle.compare_laws.specs.Entries.{Narrow}
use Rattle.compare_entries.specs.Parting.{listed, Passable, Puttable}

-- ---- the starts of the links do not matter to a path
path_lists : (starts labels to w : List ℕ) → path_of (view_of starts labels to) w ≡ path_of (view_of [] labels to) w
unfolding path_of
path_lists starts labels to [] = refl
path_lists starts labels to (k ∷ w) = ap (λ p. hop_at (view_of [] labels to) k ∷ p) (path_lists starts labels to w)

pub listed_is : (starts labels to : List ℕ) (why : Reason) → reason_of (view_of starts labels to) why ≡ listed labels to why
unfolding reason_of
listed_is starts labels to why =
    ap₂ (λ p q.
    cond (eqb (kind_number why.kind) 4) (by_link (hop_at (view_of [] labels to) (get_or why.first.links 0 0)))
    (by_paths (cond (eqb (kind_number why.kind) 5) same differ) p q))
    (path_lists starts labels to _) (path_lists starts labels to _)

-- ---- an answer of the search can be put
module _ {version : ℕ} {l : Graph} (narrow : Narrow version l) where
  walk_narrow : (p : Path) (x : ℕ) → Walk l x p → (i : ℕ) (h : Hop) → i < length p → (get_or p i h).label < 256 ^ label_width version
  unfolding Walk
  walk_narrow [] x k i h o = absurd (not-suc-le-zero o)
  walk_narrow (g ∷ p) x (e, k) zero h o = narrow.label x g.label g.to e
  walk_narrow (g ∷ p) x (e, k) (suc i) h o = walk_narrow p g.to k i h (le_of_suc-le-suc o)

  module _ (v : View) (c : ℕ) (w : Route) (n : Numbered v.to c w) (small : c ≤ 4) where
    numbered_passable : ((i : ℕ) → i < w.len → get_or v.labels (get_or w.links i 0) 0 < 256 ^ label_width version) → Passable version v.labels v.to w
    numbered_passable f =
        record { numbered = record { short = omega (arith, n.short); links = n.links; below = n.below; low = n.low }; narrow = f }

    walk_passable : (x : ℕ) → Walk l x (path_in v w) → Passable version v.labels v.to w
    walk_passable x k =
        numbered_passable
        (λ i o.
        let h = hop_at v 0 in
        rw (steps-at v v.to c w n small i o h) at (walk_narrow (path_in v w) x k i h (omega (arith, steps-length v v.to c w n small))))

  module _ {r : Graph} {z : Relation} (v u : View) (rows ea eb : List ℕ) (a b c : ℕ) (o : Option Reason) (w : Answered v u rows ea eb a b c o)
      (d : Posed l r z v u rows ea eb a b) (small : c ≤ 4) (s : Reason) (n : o ≡ Some s) where
    fails : Fails l r c z a b (reason_of v s)
    fails = answer_fails l r z v u rows ea eb a b c o w d s n

    link_passable : kind_number s.kind ≡ 4 → Passable version v.labels v.to s.first
    link_passable e =
        let f = rw (reason_link v s e) at fails in
        let (t, o, _) = w.one s n e in
        numbered_passable v 1 s.first t (omega arith)
        (λ i m. let j : i ≡ 0 = omega arith in rw j (narrow.label a _ _ f.there))

    paths_passable : 5 ≤ kind_number s.kind → Passable version v.labels v.to s.first × Passable version v.labels v.to s.second
    paths_passable h =
        let (t, t') = w.two s n h in
        ⊎_elim
        (λ e. let f = rw (reason_differ v s e) at fails in (walk_passable v c s.first t small a f.walk, walk_passable v c s.second t' small a f.walk'))
        (λ k.
        let e : kind_number s.kind ≡ 5 = omega arith in
        let f = rw (reason_same v s e) at fails in (walk_passable v c s.first t small a f.walk, walk_passable v c s.second t' small a f.walk'))
        (eq-or-lt_of_le (w.known s n).1)

    pub answer_puttable : Puttable version v.labels v.to s
    answer_puttable =
        record {
          known = w.known s n;
          first = ⊎_elim (λ e. link_passable (sym e)) (λ h. (paths_passable h).0) (eq-or-lt_of_le (w.known s n).0);
          one = λ e. (w.one s n e).1;
          two = λ h. (paths_passable h).1;
        }
