-- The tips of all paths of so many links from those of a table, gathered into another: what each turn and each way out shows.
use mathlib.Core.Bool.{Bool, true, false, not}
use mathlib.Core.Path.{◌≡◌, refl, sym, ◌∙◌}
use mathlib.Core.Logic.{◌⊎◌, inl, inr, ⊎_elim}
use mathlib.Core.List.{List, [], ◌∷◌}
use Prim.Native.Nat.{ℕ, ◌-◌, ◌≤◌}
use native.Mathlib.Nat.{pos_of_ne-zero}
use native.Mathlib.Omega.{arith}
use borrow.Author.Tests.{eqb-true}
use lib.Dec.{eqb}
use Rattle.std.proofs.lemmas.Bool.{not-false}
use lib.ListN.{length, get_or}
use Rattle.theory.proofs.TestLaws.{never, le-or-lt}
use Rattle.words.specs.Words.{Inside}
use Rattle.search_links.specs.Hops.{View, label_of, to_of}
use Rattle.search_links.specs.Sets.{row_at, seen_as}
use Rattle.search_tables.specs.declared.Grown.{Grown}
use Rattle.search_tables.specs.Tips.{Has, Covered, TableRoom, Untouched}
use Rattle.search_tables.specs.Laws.{covered_by_has, covered_wider, covered_trans, untouched_refl, untouched_trans}
use Rattle.search_steps.specs.declared.Part.{Part}
use Rattle.search_steps.specs.Paths.{Trail, end_of, step_word, ends_over}
use Rattle.search_steps.specs.Tables.{Moves, slot, last_place, Passed, Filled}
use Rattle.search_steps.specs.Laws.{spread_inside, over_inside, part_sound, part_whole}
use Rattle.search_levels.specs.Depths.{HasFrom, Came, Gathered}

-- of a set inside of another, what comparisons see is inside of what they see of the other
pub seen_inside : (eb : List ℕ) (wide : Bool) (w w' : ℕ) → Inside w w' → Inside (seen_as eb wide w) (seen_as eb wide w')
unfolding seen_as
seen_inside eb true w w' i = spread_inside (row_at eb 0) w w' i
seen_inside eb false w w' i = i

module _ (v u : View) (z ea eb : List ℕ) (wide : Bool) (l r : List ℕ) (first m : ℕ) (ls rs : List ℕ) (base n : ℕ) where
  -- ---- one link
  pub gathered_last : (more : ℕ) → more ≡ 1 → (ls' rs' : List ℕ) (p : Part) → Filled v u z ea eb wide l r first m 0 ls rs base n ls' rs' p
      → (g : Grown) → g.count ≡ p.count → g.full ≡ not (eqb p.next last_place) → Gathered v u z ea eb wide l r first m more ls rs base n ls' rs' g
  unfolding Trail end_of ends_over
  gathered_last more dm ls' rs' p f g dc df = rw (dm, dc) (record {
    room = f.room;
    low = f.low;
    least = f.least;
    sound = λ a o h. ⊎_elim inl (λ (y, w, b, s, e). inr (record {
      cell = b.cell;
      word = b.word;
      path = b.link ∷ [];
      has = b.has;
      trail = (b.leads.leaves, tt);
      long = refl;
      end = rw b.leads.to s;
      seen = rw (b.leads.to, b.leads.word) e;
    })) (f.sound a o h);
    kept = f.kept;
    whole = λ t. go (eqb-true p.next last_place (not-false _ (sym df ∙ t)));
  })
    where
      go : p.next ≡ last_place → (a o : ℕ) (s : List ℕ) → HasFrom l r first m a o → Trail v a s → length s ≡ 1
          → Covered ls' rs' p.count (end_of v a s) (seen_as eb wide (ends_over v u z o s))
      go q a o [] h t e = absurd (omega arith)
      go q a o (k ∷ i ∷ s) h t e = absurd (omega arith)
      go q a o (k ∷ []) h (t, _) e =
          let w : Moves v l first m h.has.class a k =
          record { least = h.least; class = h.has.below; cell = h.has.cell; inside = h.has.inside; leaves = t } in
          rw (← h.has.word) (f.whole h.has.class a k w (omega arith) (inr q))

  -- ---- the parts one link further: the table covers the tips by the classes and labels passed, of the links that are left
  pub record Gathering (more at : ℕ) (ls' rs' : List ℕ) (n' : ℕ) : Type 0 where
    pub room : TableRoom ls' rs' n'
    pub low : Untouched base ls rs ls' rs'
    pub least : base ≤ n'
    pub sound : (a o : ℕ) → Has ls' rs' n' a o → Has ls rs n a o ⊎ Came v u z ea eb wide l r m more a o
    pub kept : (a o : ℕ) → Has ls rs n a o → Covered ls' rs' n' a o
    pub below : (e x k : ℕ) (s : List ℕ) → Moves v l first m e x k → Passed (slot e (label_of v k)) at → Trail v (to_of v k) s → length s ≡ more - 1
        → Covered ls' rs' n' (end_of v (to_of v k) s) (seen_as eb wide (ends_over v u z (step_word u z (get_or r e 0) (label_of v k) (to_of v k)) s))

  pub gathering_start : TableRoom ls rs n → base ≤ n → (more : ℕ) → Gathering more 0 ls rs n
  gathering_start h b more = record {
    room = h;
    low = untouched_refl base ls rs;
    least = b;
    sound = λ a o g. inl g;
    kept = covered_by_has ls rs n;
    below = λ e x k s w b. absurd (⊎_elim (λ i. omega arith) (λ i. omega arith) b);
  }

  module _ (more at : ℕ) (pos : more ≡ 0 → ⊥) (ls' rs' : List ℕ) (n' : ℕ) (h : Gathering more at ls' rs' n') where
    module _ (pl₀ pr₀ pl pr : List ℕ) (p : Part) (f : Filled v u z ea eb false l r first m at pl₀ pr₀ 0 0 pl pr p) (ls'' rs'' : List ℕ) (g : Grown)
        (q : Gathered v u z ea eb wide pl pr 0 p.count (more - 1) ls' rs' base n' ls'' rs'' g) where
      further : {a o : ℕ} → Covered ls' rs' n' a o → Covered ls'' rs'' g.count a o
      further = covered_trans ls' rs' n' ls'' rs'' g.count q.kept _ _

      on_low : Untouched base ls rs ls'' rs''
      on_low = untouched_trans base ls rs ls' rs' h.low ls'' rs'' q.low

      on_sound : (a o : ℕ) → Has ls'' rs'' g.count a o → Has ls rs n a o ⊎ Came v u z ea eb wide l r m more a o
      unfolding Trail end_of ends_over
      on_sound a o k = ⊎_elim (h.sound a o) (λ c. inr (longer c)) (q.sound a o k)
        where
          longer : Came v u z ea eb wide pl pr p.count (more - 1) a o → Came v u z ea eb wide l r m more a o
          longer c =
              let b = part_sound v u z ea eb l r first m at pl₀ pr₀ pl pr p f c.cell c.word c.has in
              record {
                cell = b.cell;
                word = b.word;
                path = b.link ∷ c.path;
                has = b.has;
                trail = (b.leads.leaves, rw b.leads.to c.trail);
                long = omega (arith, c.long, pos_of_ne-zero pos);
                end = rw b.leads.to c.end;
                seen = rw (b.leads.to, b.leads.word) c.seen;
              }

      pub gathering_next : g.full ≡ false → Gathering more p.next ls'' rs'' g.count
      gathering_next t = record {
        room = q.room;
        low = on_low;
        least = q.least;
        sound = on_sound;
        kept = λ a o k. further (h.kept a o k);
        below = λ e x k s w b tr len. ⊎_elim
            (λ c.
            let a = part_whole v u z ea eb l r first m at pl₀ pr₀ pl pr p f e x k w c b in
            covered_wider _ _ _ _ _ _ (q.whole t _ _ s (record { has = a.has; least = omega arith }) tr len) (seen_inside eb wide _ _ (over_inside v u z s _ _ a.inside)))
            (λ c. further (h.below e x k s w (inl c) tr len))
            (le-or-lt at (slot e (label_of v k)));
      }

      pub gathering_full : g.full ≡ true → Gathered v u z ea eb wide l r first m more ls rs base n ls'' rs'' g
      gathering_full t = record {
        room = q.room;
        low = on_low;
        least = q.least;
        sound = on_sound;
        kept = λ a o k. further (h.kept a o k);
        whole = λ e. never (sym e ∙ t);
      }

    pub gathering_end : last_place ≤ at → at ≤ last_place → (g : Grown) → g.count ≡ n' → Gathered v u z ea eb wide l r first m more ls rs base n ls' rs' g
    unfolding Trail end_of ends_over
    gathering_end b few g dc = rw dc (record { room = h.room; low = h.low; least = h.least; sound = h.sound; kept = h.kept; whole = λ _. go })
      where
        go : (a o : ℕ) (s : List ℕ) → HasFrom l r first m a o → Trail v a s → length s ≡ more → Covered ls' rs' n' (end_of v a s) (seen_as eb wide (ends_over v u z o s))
        go a o [] k t e = absurd (pos (sym e))
        go a o (j ∷ s) k (t, q) e =
            let w : Moves v l first m k.has.class a j =
            record { least = k.least; class = k.has.below; cell = k.has.cell; inside = k.has.inside; leaves = t } in
            rw (← k.has.word) (h.below k.has.class a j s w (inr (omega arith)) q (omega arith))
