-- What the search answers is what the theory chooses.
use mathlib.Core.Bool.{Bool, true, false, So, cond, not, ◌&&◌, false≢true}
use mathlib.Core.Path.{◌≡◌, refl, sym, ap, ap₂, ◌∙◌}
use mathlib.Core.Logic.{◌⊎◌, inl, inr, ⊎_elim}
use mathlib.Core.List.{List, [], ◌∷◌}
use Rattle.std.specs.Prelude.{Some, None}
use Prim.Native.Nat.{ℕ, suc, ◌+◌, ◌-◌, ◌/◌, ◌^◌, ◌≤◌, ◌<◌}
use native.Mathlib.Omega.{arith}
use borrow.Author.Tests.{eq-eqb, ne_eqb}
use lib.Dec.{eqb}
use lib.ListN.{length, get_or}
use lib.Pow.{pow-lt}
use lib.Seq.{get_or-take, length-take-le}
use Rattle.theory.specs.Search.{any}
use Rattle.theory.proofs.TestLaws.{any_iff, and_iff, facts}
use Rattle.theory.specs.Graph.{Comparison, same, differ, comparisons, Graph, linked}
use Rattle.theory.specs.Path.{Hop, Path, Walk, end, out}
use Rattle.theory.proofs.WalkLaws.{linked_inside, out_iff}
use Rattle.theory.specs.Bisimulation.{Relation}
use Rattle.theory.specs.Rounds.{follow, met}
use Rattle.theory.specs.Parting.{by_link, by_paths, LinkFails}
use Rattle.theory.specs.Choosing.{Choice, none, some, or_else, when, first_in, link_choice, pair_choice, lengths_choice, total_choice, paths_choice, chosen}
use Rattle.theory.proofs.ChoosingLaws.{first_none, list-first, list_none}
use Rattle.words.specs.Words.{bit}
use Rattle.words.specs.Laws.{bit-zero}
use Rattle.search_links.specs.Hops.{View, start_of, to_of, hop_at, Opened}
use Rattle.search_steps.specs.Paths.{Leaves, Trail, path_of, ends_over}
use Rattle.search_steps.specs.Laws.{leaves_below, leaves_low, trail_links}
use Rattle.search_pairs.specs.declared.Route.{Route}
use Rattle.search_pairs.specs.Pairs.{kind_of, alone, failure, links_in, Shaped, Couple, Clear, Shown}
use Rattle.search_pairs.specs.Laws.{test_off, some_node, kind_some}
use Rattle.sheet.specs.Entry.{kind_number}
use Rattle.search.specs.declared.Reason.{Reason}
use Rattle.search.specs.Lengths.{Most, Sooner, Finding, Unanswered, Single}
use Rattle.search.specs.Reasons.{number_of, Posed, reason_of, choice_of, Numbered, Answered}
use Rattle.search.specs.BridgeLaws.{leaves_linked, linked_leaves, trail_walk, relation_of, ends_from, over-lt, met_ext, alone_is}
use Rattle.search.proofs.Firsts.{hops_first, trails_none, trails_first}

module _ (v : View) (o : Opened v.starts v.to) (x : ℕ) (l : x < 64) where
  numbered_of : (c d : ℕ) (w : Route) → Shaped d w → Trail v x (links_in w) → d ≤ c → c ≤ 4 → Numbered v.to c w
  numbered_of c d w h t m n = record {
    short = omega (arith, h.long);
    links = h.room;
    below = λ i b. rw get_or-take at (each i b).0;
    low = λ i b. rw get_or-take at (each i b).1;
  }
    where
      each : (i : ℕ) → i < w.len → (get_or (links_in w) i 0 < 512) × (to_of v (get_or (links_in w) i 0) < 64)
      each i b = trail_links v o x (links_in w) l t i (omega (arith, length-take-le w.len w.links (omega (arith, h.long, h.room))))

-- what is chosen by a kind
unfoldable by_kind : ℕ → Path → Path → Choice
by_kind k p q = cond (eqb k 0) none (some (by_paths (cond (eqb k 5) same differ) p q))

by-kind : (m n : Bool) (p q : Path) → or_else (when m (by_paths same p q)) (or_else (when n (by_paths differ p q)) none) ≡ by_kind (kind_of m n) p q
unfolding by_kind kind_of or_else when
by-kind true n p q = refl
by-kind false true p q = refl
by-kind false false p q = refl

by_none : (k : ℕ) (p q : Path) → k ≡ 0 → by_kind k p q ≡ none
unfolding by_kind
by_none k p q e = rw (eq-eqb k 0 e)

-- ---- graphs and a relation that the lists show
module _ (l r : Graph) (z : Relation) (v u : View) (rows ea eb : List ℕ) (a b : ℕ) (d : Posed l r z v u rows ea eb a b) where
  at_left : a < 64
  at_left = omega (arith, d.left.small, d.here)

  at_right : b < 64
  at_right = omega (arith, d.right.small, d.there)

  met-rows : (t : Comparison) (p q : Path) → Walk l a p → Walk l a q → met r (relation_of rows) b t p q ≡ met r z b t p q
  met-rows t p q = met_ext l r (relation_of rows) z d.related ea v d.left t p q a b

  alone_at : (t : Comparison) (p q : List ℕ) → Walk l a (path_of v p) → Walk l a (path_of v q)
      → alone v u rows ea eb a b (number_of t) p q ≡ l.ends t (end a (path_of v p)) (end a (path_of v q)) && not (met r z b t (path_of v p) (path_of v q))
  alone_at t p q wp wq =
      alone_is v u l r rows ea eb d.left d.right t a b d.here d.there p q wp wq
      ∙ ap (λ (m : Bool). l.ends t (end a (path_of v p)) (end a (path_of v q)) && not m) (met-rows t (path_of v p) (path_of v q) wp wq)

  -- two paths are chosen by the kind by which they fail
  pair_is : (p q : List ℕ) → Trail v a p → Trail v a q
      → pair_choice l r z a b (path_of v p) (path_of v q) ≡ by_kind (failure v u rows ea eb a b p q) (path_of v p) (path_of v q)
  unfolding pair_choice first_in comparisons failure
  pair_is p q tp tq =
      let wp = trail_walk v l ea d.left a p at_left tp in
      let wq = trail_walk v l ea d.left a q at_left tq in
      ap₂ (λ (m n : Bool). or_else (when m (by_paths same (path_of v p) (path_of v q))) (or_else (when n (by_paths differ (path_of v p) (path_of v q))) none))
      (sym (alone_at same p q wp wq)) (sym (alone_at differ p q wp wq))
      ∙ by-kind _ _ (path_of v p) (path_of v q)

  pair_clear : (p q : List ℕ) → Trail v a p → Trail v a q → failure v u rows ea eb a b p q ≡ 0 → pair_choice l r z a b (path_of v p) (path_of v q) ≡ none
  pair_clear p q tp tq e = pair_is p q tp tq ∙ by_none _ _ _ e

  -- ---- two paths of two lengths
  clear_none : (i j : ℕ) → Clear v u rows ea eb a b i j → lengths_choice l r z a b i j ≡ none
  unfolding lengths_choice
  clear_none i j h =
      trails_none v l ea d.left i a at_left _
      (λ p tp lp. trails_none v l ea d.left j a at_left _ (λ q tq lq. pair_clear p q tp tq (h.each p q tp lp tq lq)))

  module _ (w : Couple) (n : w.kind ≡ 0 → ⊥) where
    -- the reason that two paths are
    abbrev because : Choice
    because = by_kind w.kind (path_of v (links_in w.first)) (path_of v (links_in w.second))

    because_is : because ≡ some (by_paths (cond (eqb w.kind 5) same differ) (path_of v (links_in w.first)) (path_of v (links_in w.second)))
    unfolding by_kind
    because_is = rw (ne_eqb w.kind 0 n)

    shown_some : (i j : ℕ) → i ≤ 4 → j ≤ 4 → Shown v u rows ea eb a b i j w → lengths_choice l r z a b i j ≡ because
    unfolding lengths_choice
    shown_some i j bi bj h =
        let (sp, tp) = h.first in
        let (sq, tq) = h.second in
        let li = long i w.first bi sp in
        let lj = long j w.second bj sq in
        rw (← li, ← lj)
        (trails_first v l ea d.left (links_in w.first) a at_left tp _ _
        (trails_first v l ea d.left (links_in w.second) a at_left tq _ _ (pair_is _ _ tp tq ∙ rw (← h.fails) because_is)
        (λ q t e m. pair_clear (links_in w.first) q tp t (h.next q t (e ∙ lj) m)))
        (λ p t e m. trails_none v l ea d.left _ a at_left _ (λ q t' e'. pair_clear p q t t' (h.sooner p q t (e ∙ li) m t' (e' ∙ lj))))
        ∙ sym because_is)
      where
        long : (k : ℕ) (s : Route) → k ≤ 4 → Shaped k s → length (links_in s) ≡ k
        long k s m h = length-take-le s.len s.links (omega (arith, h.long, h.room)) ∙ h.long

  -- ---- two paths of at most c links
  module _ (c : ℕ) where
    -- two lengths that are looked at for a total
    looked : (s n : ℕ) → n < suc (s / 2) - (s - c) → s ≤ c + c → Most c (s - c + n) (s - (s - c + n)) × (s - c + n + (s - (s - c + n)) ≡ s)
    looked s n m b = (record { order = omega arith; most = omega arith }, omega arith)

    total-clear : (s : ℕ) → s ≤ c + c → ((i j : ℕ) → Most c i j → i + j ≡ s → Clear v u rows ea eb a b i j) → total_choice l r c z a b s ≡ none
    unfolding total_choice
    total-clear s b h =
        (list_none _ (suc (s / 2) - (s - c)) (λ i. s - c + i)).1
        (λ n m. let (o, e) = looked s n m b in clear_none (s - c + n) (s - (s - c + n)) (h _ _ o e))

    paths-clear : ((i j : ℕ) → Most c i j → Clear v u rows ea eb a b i j) → paths_choice l r c z a b ≡ none
    unfolding paths_choice
    paths-clear h = (list_none _ (suc (c + c)) (λ s. s)).1 (λ s m. total-clear s (omega arith) (λ i j o _. h i j o))

    paths_found : (w : Couple) (n : w.kind ≡ 0 → ⊥) (i j : ℕ) → c ≤ 4 → Most c i j → Shown v u rows ea eb a b i j w
        → ((k m : ℕ) → Most c k m → Sooner k m i j → Clear v u rows ea eb a b k m) → paths_choice l r c z a b ≡ because w n
    unfolding paths_choice total_choice
    paths_found w n i j small o h before =
        list-first _ (suc (c + c)) (λ s. s) (i + j) _ (omega (arith, o.order, o.most))
        (λ s m. total-clear s (omega (arith, o.order, o.most)) (λ k p q e. before k p q (inl (omega arith))))
        (list-first _ (suc ((i + j) / 2) - (i + j - c)) (λ k. i + j - c + k) (i - (i + j - c)) _ (omega (arith, o.order, o.most))
        (λ k m.
        let (q, e) = looked (i + j) k (omega (arith, o.order, o.most)) (omega (arith, o.order, o.most)) in
        clear_none _ _ (before _ _ q (inr (e, omega arith))))
        (rw (di, dj) (shown_some w n i j (omega (arith, o.order, o.most)) (omega (arith, o.most)) h ∙ because_is w n)))
        ∙ sym (because_is w n)
      where
        di : i + j - c + (i - (i + j - c)) ≡ i
        di = omega (arith, o.order, o.most)

        dj : i + j - i ≡ j
        dj = omega arith

  -- ---- one link
  link_fails : (k : ℕ) → Unanswered v u rows a b k → LinkFails l r z a b (hop_at v k)
  unfolding path_of follow ends_over
  link_fails k n =
      let e = leaves_linked v l ea d.left a k at_left n.leaves in
      record {
        there = e;
        missing = test_off _ (λ h.
            let (y, ly, (i, j)) = simp (any_iff, and_iff) at h in
            let small : y < 64 = omega (arith, d.right.small) in
            let near = linked_inside d.left.formed a (hop_at v k).label (hop_at v k).to e in
            let f : So (follow r (relation_of rows) (path_of v (k ∷ [])) b y) = simp facts (y, ly, ((i, d.related _ y near ly ∙ j), refl)) in
            false≢true (sym (bit-zero y) ∙ ap (λ (x : ℕ). bit x y) (sym n.none) ∙ (ends_from v u r eb d.right rows b at_right (k ∷ []) y small).1 f));
      }

  link_answers : (k : ℕ) → Leaves v a k → (Unanswered v u rows a b k → ⊥) → So (any r.size (λ b'. linked r b (hop_at v k).label b' && z (hop_at v k).to b'))
  unfolding path_of follow ends_over
  link_answers k o n =
      let e = leaves_linked v l ea d.left a k at_left o in
      let (i, li, f) = some_node (ends_over v u rows (2 ^ b) (k ∷ [])) (over-lt v u rows (k ∷ []) (2 ^ b) (pow-lt at_right)) (λ s. n (record { leaves = o; none = s })) in
      let (i', li', ((t, j), _)) = simp (any_iff, and_iff) at ((ends_from v u r eb d.right rows b at_right (k ∷ []) i li).0 f) in
      simp (any_iff, and_iff) (i', li', (t, sym (d.related _ i' (linked_inside d.left.formed a _ _ e) li') ∙ j))

  links_none : ((k : ℕ) → Unanswered v u rows a b k → ⊥) → link_choice l r z a b ≡ none
  unfolding link_choice when
  links_none n =
      (first_none _ (out l.links a)).1
      (λ h m.
      let (k, o, q) = linked_leaves v l ea d.left a h.label h.to at_left ((out_iff l.links a h).0 m) in
      ap (λ (h : Hop). when (not (any r.size (λ b'. linked r b h.label b' && z h.to b'))) (by_link h)) q
      ∙ ap (λ (e : Bool). when (not e) (by_link (hop_at v k))) (link_answers k o (n k)))

  links_first : (k : ℕ) → Unanswered v u rows a b k → ((j : ℕ) → j < k → Unanswered v u rows a b j → ⊥) → link_choice l r z a b ≡ some (by_link (hop_at v k))
  unfolding link_choice when
  links_first k n before =
      rw (d.left.hops a at_left)
      (hops_first v _ (by_link (hop_at v k)) (start_of v a) _ k n.leaves.from (omega (arith, n.leaves.until))
      (λ j m i.
      let o : Leaves v a j = record { from = m; until = omega (arith, n.leaves.until) } in
      ap (λ (e : Bool). when (not e) (by_link (hop_at v j))) (link_answers j o (before j i)))
      (ap (λ (e : Bool). when (not e) (by_link (hop_at v k))) (link_fails k n).missing))

-- ---- the two searches, one after the other
module _ (v u : View) (rows ea eb : List ℕ) (a b c : ℕ) (o : Opened v.starts v.to) (low : a < 64) where
  -- the reason that there is answers, if its numbers lie so and it is what the theory chooses
  answered_by : (s : Reason) → (4 ≤ kind_number s.kind) × (kind_number s.kind ≤ 6)
      → (kind_number s.kind ≡ 4 → Numbered v.to 1 s.first × (s.first.len ≡ 1) × (s.second.len ≡ 0))
      → (5 ≤ kind_number s.kind → Numbered v.to c s.first × Numbered v.to c s.second)
      → ((l r : Graph) (z : Relation) → Posed l r z v u rows ea eb a b → some (reason_of v s) ≡ chosen l r c z a b)
      → Answered v u rows ea eb a b c (Some s)
  unfolding choice_of
  answered_by s k m n i = record {
    known = λ s' e. let d : s ≡ s' = cc in rw (← d) k;
    one = λ s' e. let d : s ≡ s' = cc in rw (← d) m;
    two = λ s' e. let d : s ≡ s' = cc in rw (← d) n;
    is = i;
  }

  pub why_link : (n : ℕ) → Single v u rows a b (Some n) → (s : Reason) → kind_number s.kind ≡ 4
      → s.first ≡ record { len = 1; links = n ∷ 0 ∷ 0 ∷ 0 ∷ [] } → s.second.len ≡ 0 → Answered v u rows ea eb a b c (Some s)
  unfolding reason_of chosen or_else
  why_link n l s k e f =
      answered_by s (omega arith, omega arith)
      (λ _. (
        rw e (record {
          short = omega arith;
          links = refl;
          below = λ i m. let z : i ≡ 0 = omega arith in rw z (omega (arith, leaves_below v o a n low here.leaves, o.few));
          low = λ i m. let z : i ≡ 0 = omega arith in rw z (leaves_low v o a n low here.leaves);
        }),
        ap (λ (w : Route). w.len) e,
        f,
      ))
      (λ h. absurd (omega arith))
      (λ g h z d. rw (k, e) (sym (ap (λ (x : Choice). or_else x (paths_choice g h c z a b)) (links_first g h z v u rows ea eb a b d n here (l.before n refl)))))
    where
      here : Unanswered v u rows a b n
      here = l.found n refl

  module _ (l : Single v u rows a b None) (small : c ≤ 4) (r : Couple) (f : Finding v u rows ea eb a b (Most c) r) where
    unlinked : (g h : Graph) (z : Relation) → Posed g h z v u rows ea eb a b → chosen g h c z a b ≡ paths_choice g h c z a b
    unfolding chosen or_else
    unlinked g h z d =
        ap (λ (x : Choice). or_else x (paths_choice g h c z a b)) (links_none g h z v u rows ea eb a b d (l.none refl))

    pub why_none : r.kind ≡ 0 → Answered v u rows ea eb a b c None
    unfolding choice_of
    why_none e = record {
      known = λ s q. cc;
      one = λ s q. cc;
      two = λ s q. cc;
      is = λ g h z d. sym (unlinked g h z d ∙ paths-clear g h z v u rows ea eb a b d c (f.none e));
    }

    module _ (n : r.kind ≡ 0 → ⊥) (s : Reason) (k : kind_number s.kind ≡ r.kind) (e : s.first ≡ r.first) (e' : s.second ≡ r.second) where
      -- the kind of two paths
      kinds : {i j : ℕ} → Shown v u rows ea eb a b i j r → (r.kind ≡ 5) ⊎ (r.kind ≡ 6)
      unfolding failure
      kinds w = ⊎_elim (λ (h, _). inl (w.fails ∙ h)) (λ (h, _, _). inr (w.fails ∙ h)) (kind_some _ _ (λ z. n (w.fails ∙ z)))

      pub why_two : Answered v u rows ea eb a b c (Some s)
      unfolding reason_of by_kind
      why_two =
          let (i, j, m, w, before) = f.found n in
          let five_or_six : (5 ≤ r.kind) × (r.kind ≤ 6) = ⊎_elim (λ five. (omega arith, omega arith)) (λ six. (omega arith, omega arith)) (kinds w) in
          let four : r.kind ≡ 4 → ⊥ = λ y. omega arith in
          answered_by s (omega arith, omega arith)
          (λ h. absurd (omega arith))
          (λ h. rw (e, e') (
            numbered_of v o a low c i r.first w.first.0 w.first.1 (omega (arith, m.order, m.most)) small,
            numbered_of v o a low c j r.second w.second.0 w.second.1 m.most small,
          ))
          (λ g h z d.
          let this : some (reason_of v s) ≡ because g h z v u rows ea eb a b d r n = rw (k, e, e', ne_eqb r.kind 4 four, ne_eqb r.kind 0 n) refl in
          this ∙ sym (unlinked g h z d ∙ paths_found g h z v u rows ea eb a b d c r n i j small m w before))
