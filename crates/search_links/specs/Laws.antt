-- Where the lists lead, and what the words have in them, for callers.
use Rattle.std.proofs.Math.Bool.{So}
use Rattle.std.specs.Prelude.{◌&&◌, ◌≡◌, ◌↔◌, ℕ, zero, suc, ◌+◌, ◌^◌, ◌≤◌, ◌<◌, eqb, get_or}
use Rattle.std.proofs.Common.{sym, ◌∙◌, inl, inr, arith, ltb-true}
use mathlib.Core.List.Memᴰ
use mathlib.Core.List.{List, [], ◌∷◌, Memᴰ}
use Rattle.theory.specs.Search.{any}
use Rattle.theory.proofs.TestLaws.{never, and_iff, or_iff, eqb_iff, sum_iff, cons_iff, test_eq}
use Rattle.theory.specs.Graph.{Graph, linked}
use Rattle.theory.specs.Path.{Hop, hop, out}
use Rattle.theory.proofs.WalkLaws.{out_iff}
use Rattle.words.specs.Words.{bit}
use Rattle.words.specs.Laws.{bit-word_of, bit-word_of-lt, word_of-lt}
use Rattle.search_links.specs.Hops.{View, to_of, hops_from, hops_of, Opened}
use Rattle.search_links.specs.Sets.{among, reached, meets, leads_to, spread}

-- ---- the lists
-- the links out of a node begin and end where lists of 512 have room
pub start_few : (starts to : List ℕ) (x k : ℕ) → Opened starts to → x < 64 → k ≡ get_or starts x 0 → k ≤ 512
start_few starts to x k o l d = omega (arith, o.few, o.within x (omega arith))

pub until_few : (starts to : List ℕ) (x e : ℕ) → Opened starts to → x < 64 → e ≡ get_or starts (x + 1) 0 → e ≤ 512
until_few starts to x e o l d = omega (arith, o.few, o.within (x + 1) (omega arith))

-- and each leads to a node that a word has room for
pub link_low : (starts to : List ℕ) (x k e y : ℕ) → Opened starts to → x < 64 → e ≡ get_or starts (x + 1) 0 → y ≡ get_or to k 0 → k < e → y < 64
link_low starts to x k e y o l d dy m = rw dy (o.low k (omega (arith, o.within (x + 1) (omega arith))))

-- ---- the sets
hop_iff : (h : Hop) (a y : ℕ) → So (eqb h.label a && eqb h.to y) ↔ (hop a y ≡ h)
hop_iff h a y = simp (and_iff, eqb_iff) (λ (p, q). rw (← p, ← q), λ e. ((cc), (cc)))

-- the hops that are found are those of the list
pub among_iff : (hs : List Hop) (a y : ℕ) → So (among hs a y) ↔ Memᴰ (hop a y) hs
unfolding among
among_iff [] a y = (never, λ m. absurd (Memᴰ.not-nil m))
among_iff (h ∷ hs) a y = simp (or_iff, sum_iff, hop_iff, among_iff hs, cons_iff) (λ m. m, λ m. m)

-- and the links of a graph, where they are its hops
pub linked-among : (g : Graph) (hs : List Hop) (x a y : ℕ) → out g.links x ≡ hs → linked g x a y ≡ among hs a y
linked-among g hs x a y e =
    test_eq _ _
    (λ t. (among_iff hs a y).1 (rw e at ((out_iff g.links x (hop a y)).1 t)))
    (λ t. (out_iff g.links x (hop a y)).0 (rw e ((among_iff hs a y).0 t)))

-- a hop to a node of w is a link that leads to one
meets-hop : (v : View) (w k n : ℕ) (h : Hop) → Memᴰ h (hops_from v k n) → So (bit w h.to) → So (meets v.to w k n)
unfolding hops_from meets
meets-hop v w k zero h m b = absurd (Memᴰ.not-nil m)
meets-hop v w k (suc n) h m b =
    elim (simp cons_iff at m) [
      | inl e ↦ simp or_iff (inl (let d : h.to ≡ to_of v k = cc in rw d at b))
      | inr m ↦ simp or_iff (inr (meets-hop v w (suc k) n h m b))
    ]

-- and so is a link of a graph, where they are its hops
pub linked_leads : (g : Graph) (v : View) (w x : ℕ) (h : Hop) → out g.links x ≡ hops_of v x → So (linked g x h.label h.to) → So (bit w h.to)
    → So (leads_to v.starts v.to w x)
linked_leads g v w x h e t = meets-hop v w _ _ h (rw e at ((out_iff g.links x h).1 t))

pub bit-reached : (hs : List Hop) (a y : ℕ) → y < 64 → bit (reached hs a) y ≡ among hs a y
unfolding reached
bit-reached hs a y l = bit-word_of-lt 64 (among hs a) y l

pub bit-spread : (row : ℕ → ℕ) (w y : ℕ) → y < 64 → bit (spread row w) y ≡ any 64 (λ x. bit w x && bit (row x) y)
unfolding spread
bit-spread row w y l = bit-word_of-lt 64 (λ y. any 64 (λ x. bit w x && bit (row x) y)) y l

pub spread_low : (row : ℕ → ℕ) (w y : ℕ) → So (bit (spread row w) y) → y < 64
unfolding spread
spread_low row w y t = ltb-true y 64 ((and_iff _ _).0 (sym (bit-word_of 64 (λ y. any 64 (λ x. bit w x && bit (row x) y)) y) ∙ t)).0

pub spread-lt : (row : ℕ → ℕ) (w : ℕ) → spread row w < 2 ^ 64
unfolding spread
spread-lt row w = word_of-lt 64 (λ y. any 64 (λ x. bit w x && bit (row x) y))
