-- What each turn and each way out of the functions shows of the definitions of `specs/`. The numbers that the code computed are variables here, with what
-- is known of them, so that `search` finds them in a need's record.
use mathlib.Core.Bool.{Bool, false, So, not}
use mathlib.Core.List.{List}
use mathlib.Core.Logic.{◌≢◌}
use mathlib.Core.Path.{◌≡◌, refl, sym, ap, ◌∙◌}
use Prim.Native.Nat.{ℕ, zero, suc, ◌+◌, ◌^◌, ◌≤◌}
use native.Mathlib.Numerals.{add-one}
use native.Mathlib.Omega.{arith}
use borrow.Author.Tests.{eq-eqb, ne_eqb}
use lib.Bits.{bit_or}
use lib.Dec.{eqb}
use lib.ListN.{get_or}
use Rattle.words.specs.Words.{word_of}
use Rattle.words.specs.Laws.{word-in, word_out}
use Rattle.search_links.specs.Sets.{leads_to}
use Rattle.compare_near.specs.Near.{changed, behind, near_to, reach_of_lem}

-- ---- the rows that changed
module _ (before after : List ℕ) where
  pub changed_none : 0 ≡ changed before after 0
  unfolding changed word_of
  changed_none = refl

  module _ (i out next : ℕ) (inv : out ≡ changed before after i) where
    pub changed_in : get_or before i 0 ≢ get_or after i 0 → (joined : ℕ) → joined ≡ bit_or out (2 ^ i) → next ≡ joined → next ≡ changed before after (i + 1)
    unfolding changed
    changed_in f = word-in (λ i. not (eqb (get_or before i 0) (get_or after i 0))) i out next inv (ap not (ne_eqb _ _ f))

    pub changed-out : get_or before i 0 ≡ get_or after i 0 → next ≡ out → next ≡ changed before after (i + 1)
    unfolding changed
    changed-out e = word_out (λ i. not (eqb (get_or before i 0) (get_or after i 0))) i out next inv (ap not (eq-eqb _ _ e))

  pub changed_all : (n i out : ℕ) → out ≡ changed before after i → i ≤ n → n ≤ i → out ≡ changed before after n
  changed_all n i out inv h l = let e : i ≡ n = omega arith in rw e at inv

-- ---- the nodes with a link into a set
module _ (starts to : List ℕ) (w : ℕ) where
  pub behind_none : 0 ≡ behind starts to 0 w
  unfolding behind word_of
  behind_none = refl

  module _ (x out next : ℕ) (inv : out ≡ behind starts to x w) (b : Bool) (d : b ≡ leads_to starts to w x) where
    pub behind_in : So b → (joined : ℕ) → joined ≡ bit_or out (2 ^ x) → next ≡ joined → next ≡ behind starts to (x + 1) w
    unfolding behind
    behind_in e = word-in (leads_to starts to w) x out next inv (sym d ∙ e)

    pub behind-out : b ≡ false → next ≡ out → next ≡ behind starts to (x + 1) w
    unfolding behind
    behind-out e = word_out (leads_to starts to w) x out next inv (sym d ∙ e)

  pub behind_all : (n x out : ℕ) → out ≡ behind starts to x w → x ≤ n → n ≤ x → out ≡ behind starts to n w
  behind_all n x out inv h l = let e : x ≡ n = omega arith in rw e at inv

-- ---- the nodes near a set
module _ (starts to : List ℕ) (n w : ℕ) where
  pub near_none : w ≡ near_to starts to n w 0
  unfolding near_to
  near_none = refl

  pub near_more : (k out more next : ℕ) → out ≡ near_to starts to n w k → more ≡ behind starts to n out → next ≡ bit_or out more → next ≡ near_to starts to n w (k + 1)
  unfolding near_to
  near_more k out more next inv d e = rw (add-one k, e, d, inv)

  pub near_all : (d k out : ℕ) → out ≡ near_to starts to n w k → k ≤ d → d ≤ k → out ≡ near_to starts to n w d
  near_all d k out inv h l = let e : k ≡ d = omega arith in rw e at inv

  -- as many links as the clauses for a bound go
  module _ (c out v : ℕ) (e : v ≡ w) where
    pub near_one : c ≡ 0 → out ≡ near_to starts to n v 1 → out ≡ near_to starts to n w (reach_of_lem c)
    unfolding reach_of_lem
    near_one z d = rw (← e, z) d

    pub near_bound : c ≢ 0 → out ≡ near_to starts to n v c → out ≡ near_to starts to n w (reach_of_lem c)
    unfolding reach_of_lem
    near_bound f d = rw (← e) (d ∙ ap (near_to starts to n v) (same c f))
      where
        same : (c : ℕ) → c ≢ 0 → c ≡ reach_of_lem c
        same zero f = absurd (f refl)
        same (suc c) f = refl
