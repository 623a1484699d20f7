-- Captures that agree on what is referred to: the same way derives the same part from either, and they agree behind it.
-- And what a derivation leaves as it was: groups that don't stand in its tree. By induction on the tree.
-- The hard one is `alike`: each setting of a group is the same in both, and each reference reads what is the same.
use Rattle.std.proofs.Common.{◌≡◌, ◌≢◌, ℕ, zero, suc, ◌==◌, false, Some, List, refl, sym, ap, ◌∙◌, subst, inl, inr, true≢false, eq-eqb}
use Rattle.std.proofs.lemmas.Bool.{cases_eq}
use Rattle.ere_tree.proofs.FreeLemmas.{no_left, no_right}
use Rattle.std.proofs.lemmas.Option.{none-some}
use Rattle.std.specs.FinMap.{get, insert}
use Rattle.ere_captures.proofs.KeepLemmas.{get_set, get_other}
use Rattle.std.specs.List.{Contains}
use Rattle.ere_refs.specs.Lists.{TellsAll}
use Rattle.ere_refs.specs.Refers.{Agree, Refers, OneRefers}
use Rattle.ere_refs.specs.Sets.{sets, any_sets}
use Rattle.ere_tree.proofs.CapturesLemmas.{some_same}
use Rattle.ere_tree.specs.Captures.{Captures}
use Rattle.ere_tree.specs.Derivation.{Way, Ways, leaf, parts, members, chosen, inside, done, next, Derives, DerivesAll, DerivesEach, tree_at}
use Rattle.ere_tree.specs.Tree.{Tree, Trees, empty, plain, set, line_start, line_end, cat, alt, repeat, group, back, none, then}

-- a group that is set in both to the same
pub insert_agrees : (P : ℕ → Type 0) (c b : Captures) (number : ℕ) (p : ℕ × ℕ) → Agree P c b
    → Agree P (insert c number p) (insert b number p)
insert_agrees P c b number p same n passes = elim (cases_eq n number) [
  | inl own ↦
      ap (get (insert c number p)) own ∙ get_set c number p ∙ sym (get_set b number p)
      ∙ ap (get (insert b number p)) (sym own)
  | inr other ↦ get_other c number p n other ∙ same n passes ∙ sym (get_other b number p n other)
]

-- the same way from captures that agree
abbrev pub IsAlike : List ℕ → (ℕ → Type 0) → Tree → Type 0
IsAlike s P t =
    (w : Way) (i j : ℕ) (c d b : Captures) → Agree P c b → Derives s t w i j c d
    → (e : Captures) × Derives s t w i j b e × Agree P d e

pub each_alike : (s : List ℕ) (P : ℕ → Type 0) (t : Tree) → IsAlike s P t → (least : ℕ) (ws : Ways) (i j : ℕ)
    (c d b : Captures) → Agree P c b → DerivesEach s t least ws i j c d
    → (e : Captures) × DerivesEach s t least ws i j b e × Agree P d e
each_alike s P t f least done i j c d b same h = (b, (h.0, h.1, refl), subst (λ x. Agree P x b) (sym h.2) same)
each_alike s P t f zero (next k w ws) i j c d b same h =
    let one = f w i k c h.0 b same h.1 in
    let rest = each_alike s P t f zero ws k j h.0 d one.0 one.2 h.3 in
    (rest.0, (one.0, one.1, h.2, rest.1), rest.2)
each_alike s P t f (suc least) (next k w ws) i j c d b same h =
    let one = f w i k c h.0 b same h.1 in
    let rest = each_alike s P t f least ws k j h.0 d one.0 one.2 h.2 in
    (rest.0, (one.0, one.1, rest.1), rest.2)

mutual
  pub alike : (s : List ℕ) (P : ℕ → Type 0) (t : Tree) → ((n : ℕ) → Refers t n → P n) → IsAlike s P t
  alike s P empty r leaf i j c d b same h = (b, (h.0, h.1, refl), subst (λ x. Agree P x b) (sym h.2) same)
  alike s P (plain bytes) r leaf i j c d b same h = (b, (h.0, h.1, refl), subst (λ x. Agree P x b) (sym h.2) same)
  alike s P (set bytes) r leaf i j c d b same h = (b, (h.0, h.1, h.2, refl), subst (λ x. Agree P x b) (sym h.3) same)
  alike s P line_start r leaf i j c d b same h = (b, (h.0, h.1, refl), subst (λ x. Agree P x b) (sym h.2) same)
  alike s P line_end r leaf i j c d b same h = (b, (h.0, h.1, refl), subst (λ x. Agree P x b) (sym h.2) same)
  alike s P (cat ts) r (parts ws) i j c d b same h = all_alike s P ts r ws i j c d b same h
  alike s P (alt ts) r (chosen n w) i j c d b same h =
      let one = one_alike s P ts r n h.0 h.1 w i j c d b same h.2 in
      (one.0, (h.0, h.1, one.1), one.2)
  alike s P (repeat t least most) r (members ws) i j c d b same h =
      let one = each_alike s P t (alike s P t r) least ws i j c d b same h.1 in
      (one.0, (h.0, one.1), one.2)
  alike s P (group number t) r (inside w) i j c d b same h =
      let one = alike s P t r w i j c h.0 b same h.1 in (
        insert one.0 number (i, j),
        (one.0, one.1, refl),
        subst (λ x. Agree P x (insert one.0 number (i, j))) (sym h.2)
            (insert_agrees P h.0 one.0 number (i, j) one.2),
      )
  alike s P (back number fold) r leaf i j c d b same h =
      (b, (h.0, sym (same number (r number refl)) ∙ h.1, h.2, h.3, refl), subst (λ x. Agree P x b) (sym h.4) same)
  alike s P t r w i j c d b same h = absurd h

  pub all_alike : (s : List ℕ) (P : ℕ → Type 0) (ts : Trees) → ((n : ℕ) → OneRefers ts n → P n) → (ws : Ways) (i j : ℕ)
      (c d b : Captures) → Agree P c b → DerivesAll s ts ws i j c d
      → (e : Captures) × DerivesAll s ts ws i j b e × Agree P d e
  all_alike s P none r done i j c d b same h = (b, (h.0, h.1, refl), subst (λ x. Agree P x b) (sym h.2) same)
  all_alike s P (then t ts) r (next k w ws) i j c d b same h =
      let one = alike s P t (λ n x. r n (inl x)) w i k c h.0 b same h.1 in
      let rest = all_alike s P ts (λ n x. r n (inr x)) ws k j h.0 d one.0 one.2 h.2 in
      (rest.0, (one.0, one.1, rest.1), rest.2)
  all_alike s P ts r ws i j c d b same h = absurd h

  one_alike : (s : List ℕ) (P : ℕ → Type 0) (ts : Trees) → ((n : ℕ) → OneRefers ts n → P n) → (n : ℕ) (t : Tree)
      → tree_at ts n ≡ Some t → IsAlike s P t
  one_alike s P none r n t at w i j c d b same h = absurd (none-some t at)
  one_alike s P (then u ts) r zero t at w i j c d b same h =
      let is : u ≡ t = some_same u t at in
      let one = alike s P u (λ n x. r n (inl x)) w i j c d b same (subst (λ x. Derives s x w i j c d) (sym is) h) in
      (one.0, subst (λ x. Derives s x w i j b one.0) is one.1, one.2)
  one_alike s P (then u ts) r (suc n) t at w i j c d b same h =
      one_alike s P ts (λ m x. r m (inr x)) n t at w i j c d b same h

-- WHAT STAYS AS IT WAS

unset_at : (ts : Trees) (k : ℕ) (t : Tree) (n : ℕ) → tree_at ts k ≡ Some t → any_sets ts n ≡ false → sets t n ≡ false
unset_at none k t n at unset = absurd (none-some t at)
unset_at (then u ts) zero t n at unset =
    ap (λ x. sets x n) (sym (some_same u t at)) ∙ no_left (sets u n) (any_sets ts n) unset
unset_at (then u ts) (suc k) t n at unset = unset_at ts k t n at (no_right (sets u n) (any_sets ts n) unset)

mutual
  pub stays : (s : List ℕ) (t : Tree) (w : Way) (i j : ℕ) (c d : Captures) → Derives s t w i j c d → (n : ℕ)
      → sets t n ≡ false → get d n ≡ get c n
  stays s empty leaf i j c d h n unset = ap (λ x. get x n) h.2
  stays s (plain bytes) leaf i j c d h n unset = ap (λ x. get x n) h.2
  stays s (set bytes) leaf i j c d h n unset = ap (λ x. get x n) h.3
  stays s line_start leaf i j c d h n unset = ap (λ x. get x n) h.2
  stays s line_end leaf i j c d h n unset = ap (λ x. get x n) h.2
  stays s (cat ts) (parts ws) i j c d h n unset = all_stay s ts ws i j c d h n unset
  stays s (alt ts) (chosen k w) i j c d h n unset = stays s h.0 w i j c d h.2 n (unset_at ts k h.0 n h.1 unset)
  stays s (repeat t least most) (members ws) i j c d h n unset = each_stays s t least ws i j c d h.1 n unset
  stays s (group number t) (inside w) i j c d h n unset =
      let other : n ≢ number =
      λ e. true≢false (sym (eq-eqb number n (sym e)) ∙ no_left (number == n) (sets t n) unset) in
      ap (λ x. get x n) h.2 ∙ get_other h.0 number (i, j) n other
      ∙ stays s t w i j c h.0 h.1 n (no_right (number == n) (sets t n) unset)
  stays s (back number fold) leaf i j c d h n unset = ap (λ x. get x n) h.4
  stays s t w i j c d h n unset = absurd h

  all_stay : (s : List ℕ) (ts : Trees) (ws : Ways) (i j : ℕ) (c d : Captures) → DerivesAll s ts ws i j c d → (n : ℕ)
      → any_sets ts n ≡ false → get d n ≡ get c n
  all_stay s none done i j c d h n unset = ap (λ x. get x n) h.2
  all_stay s (then t ts) (next k w ws) i j c d h n unset =
      all_stay s ts ws k j h.0 d h.2 n (no_right (sets t n) (any_sets ts n) unset)
      ∙ stays s t w i k c h.0 h.1 n (no_left (sets t n) (any_sets ts n) unset)
  all_stay s ts ws i j c d h n unset = absurd h

  each_stays : (s : List ℕ) (t : Tree) (least : ℕ) (ws : Ways) (i j : ℕ) (c d : Captures)
      → DerivesEach s t least ws i j c d → (n : ℕ) → sets t n ≡ false → get d n ≡ get c n
  each_stays s t least done i j c d h n unset = ap (λ x. get x n) h.2
  each_stays s t zero (next k w ws) i j c d h n unset =
      each_stays s t zero ws k j h.0 d h.3 n unset ∙ stays s t w i k c h.0 h.1 n unset
  each_stays s t (suc least) (next k w ws) i j c d h n unset =
      each_stays s t least ws k j h.0 d h.2 n unset ∙ stays s t w i k c h.0 h.1 n unset

pub both_stay : (s : List ℕ) (t : Tree) (w v : Way) (i j : ℕ) (c d e : Captures) → Derives s t w i j c d
    → Derives s t v i j c e → (n : ℕ) → sets t n ≡ false → get d n ≡ get e n
both_stay s t w v i j c d e h g n unset = stays s t w i j c d h n unset ∙ sym (stays s t v i j c e g n unset)

-- a group's inside tells, and so does the group
pub tells_group : (n : ℕ) (t : Tree) (live : List ℕ) → TellsAll t live → TellsAll (group n t) live
tells_group n t live tells s (inside w) (inside v) i j c d e h g = λ m has.
    ap (λ x. get x m) h.2
    ∙ insert_agrees (Contains live) h.0 g.0 n (i, j) (tells s w v i j c h.0 g.0 h.1 g.1) m has
    ∙ sym (ap (λ x. get x m) g.2)
tells_group n t live tells s (inside w) leaf i j c d e h g = absurd g
tells_group n t live tells s (inside w) (parts vs) i j c d e h g = absurd g
tells_group n t live tells s (inside w) (members vs) i j c d e h g = absurd g
tells_group n t live tells s (inside w) (chosen k v) i j c d e h g = absurd g
tells_group n t live tells s leaf v i j c d e h g = absurd h
tells_group n t live tells s (parts ws) v i j c d e h g = absurd h
tells_group n t live tells s (members ws) v i j c d e h g = absurd h
tells_group n t live tells s (chosen k w) v i j c d e h g = absurd h
