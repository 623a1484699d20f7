-- Preference is an order on the derivations of one tree, from one start and with the same captures.
-- Ends and indices are compared first; behind equal ones derivations go on from one place with the same captures,
-- since a way tells its end. `same_way` (none preferred: one way) and `within_leads_on` are the hard ones.
use Rattle.std.proofs.Common.{◌≡◌, ℕ, List, ◌≤◌, zero, suc, refl, sym, ap, ◌∙◌, subst, inl, inr, arith}
use Rattle.std.specs.Cmp.{then_flip, alike_right}
use Rattle.std.proofs.lemmas.Cmp.{nat_cmp_total}
use Rattle.std.specs.FinMap.{nat_cmp-IsAntisymmetric}
use Rattle.std.specs.Ordering.{nat_cmp, ordering_then, ordering_reverse}
use Rattle.std.specs.declared.cmp.Ordering.{Ordering}
use Rattle.std.specs.declared.cmp.Ordering.TheVariants.{Less, Equal, Greater}
use Rattle.ere_tree.specs.Tree.{Tree, Trees, empty, plain, set, line_start, line_end, cat, alt, repeat, group, back, none, then}
use Rattle.ere_tree.specs.Captures.{Captures}
use Rattle.ere_tree.specs.Derivation.{Way, Ways, leaf, parts, members, chosen, inside, done, next, Derives, DerivesAll, DerivesEach, tree_at, count_of}
use Rattle.ere_tree.specs.Preference.{within, in_order, preference, IsPreferred, ExactlyOne, OneIsPreferred, PreferenceLeadsOn, OneWayOneEnd}
use Rattle.ere_tree.proofs.DerivationLemmas.{each_is_part, one_end}
use Rattle.ere_tree.proofs.CapturesLemmas.{some_same}

-- the answers of a comparison differ
rank : Ordering → ℕ
rank Less = 0
rank Equal = 1
rank Greater = 2

less_not_equal : Less ≡ Equal → ⊥
unfolding rank
less_not_equal e = let p : rank Less ≡ rank Equal = ap rank e in omega arith

greater_not_equal : Greater ≡ Equal → ⊥
unfolding rank
greater_not_equal e = let p : rank Greater ≡ rank Equal = ap rank e in omega arith

pub greater_not_less : Greater ≡ Less → ⊥
unfolding rank
greater_not_less e = let p : rank Greater ≡ rank Less = ap rank e in omega arith

-- swapping the sides reverses preference
mutual
  pub within_back : (w v : Way) → within v w ≡ ordering_reverse (within w v)
  within_back (parts ws) (parts vs) = in_order_back ws vs
  within_back (members ws) (members vs) = in_order_back ws vs
  within_back (chosen m w) (chosen n v) =
      (λ x. ordering_then (nat_cmp_total.antisymm n m x) (within_back w v x)) ∙ then_flip (nat_cmp m n) (within w v)
  within_back (inside w) (inside v) = within_back w v
  within_back leaf leaf = refl
  within_back leaf v = refl
  within_back (parts ws) v = refl
  within_back (members ws) v = refl
  within_back (chosen m w) v = refl
  within_back (inside w) v = refl

  pub in_order_back : (ws vs : Ways) → in_order vs ws ≡ ordering_reverse (in_order ws vs)
  in_order_back (next j w ws) (next k v vs) =
      let first : ordering_then (nat_cmp j k) (within v w)
      ≡ ordering_reverse (ordering_then (nat_cmp k j) (within w v)) =
      (λ x. ordering_then (nat_cmp_total.antisymm j k x) (within_back w v x)) ∙ then_flip (nat_cmp k j) (within w v) in
      (λ x. ordering_then (first x) (in_order_back ws vs x)) ∙ then_flip _ (in_order ws vs)
  in_order_back (next j w ws) done = refl
  in_order_back done done = refl
  in_order_back done (next k v vs) = refl

pub preference_back : (w : Way) (j : ℕ) (v : Way) (k : ℕ) → preference v k w j ≡ ordering_reverse (preference w j v k)
preference_back w j v k =
    (λ x. ordering_then (nat_cmp_total.antisymm j k x) (within_back w v x)) ∙ then_flip (nat_cmp k j) (within w v)

-- a comparison in two steps is `Equal` only where both are
then_equal : (a b : Ordering) → ordering_then a b ≡ Equal → (a ≡ Equal) × (b ≡ Equal)
then_equal Less b e = absurd (less_not_equal e)
then_equal Equal b e = (refl, e)
then_equal Greater b e = absurd (greater_not_equal e)

-- where ways with one end can be told to be one, so can derivations of which neither is preferred, with their ends
-- and captures
pub one_head : (s : List ℕ) (t : Tree) (w v : Way) (i j k : ℕ) (c d e : Captures)
    → ((n : ℕ) (a b : Captures) → Derives s t w i n c a → Derives s t v i n c b → within w v ≡ Equal → w ≡ v)
    → Derives s t w i j c d → Derives s t v i k c e → preference w j v k ≡ Equal → (w ≡ v) × (k ≡ j) × (e ≡ d)
one_head s t w v i j k c d e same h g x =
    let both = then_equal (nat_cmp k j) (within w v) x in
    let ends : k ≡ j = nat_cmp-IsAntisymmetric k j both.0 in
    let moved : Derives s t v i j c e = subst (λ n. Derives s t v i n c e) ends g in
    let way : w ≡ v = same j d e h moved both.1 in
    (way, ends, (one_end s t w i j j c e d (subst (λ u. Derives s t u i j c e) (sym way) moved) h).1)

-- two derivations with one end, of which neither is preferred, have one way
mutual
  pub same_way : (s : List ℕ) (t : Tree) (w v : Way) (i j : ℕ) (c d e : Captures)
      → Derives s t w i j c d → Derives s t v i j c e → within w v ≡ Equal → w ≡ v
  same_way s empty leaf leaf i j c d e h g x = refl
  same_way s empty leaf v i j c d e h g x = absurd g
  same_way s (plain bytes) leaf leaf i j c d e h g x = refl
  same_way s (plain bytes) leaf v i j c d e h g x = absurd g
  same_way s (set bytes) leaf leaf i j c d e h g x = refl
  same_way s (set bytes) leaf v i j c d e h g x = absurd g
  same_way s line_start leaf leaf i j c d e h g x = refl
  same_way s line_start leaf v i j c d e h g x = absurd g
  same_way s line_end leaf leaf i j c d e h g x = refl
  same_way s line_end leaf v i j c d e h g x = absurd g
  same_way s (back number fold) leaf leaf i j c d e h g x = refl
  same_way s (back number fold) leaf v i j c d e h g x = absurd g
  same_way s (cat all) (parts ws) (parts vs) i j c d e h g x = ap parts (all_same s all ws vs i j c d e h g x)
  same_way s (cat all) (parts ws) v i j c d e h g x = absurd g
  same_way s (alt all) (chosen m w) (chosen n v) i j c d e h g x =
      let both = then_equal (nat_cmp m n) (within w v) x in
      let index : m ≡ n = nat_cmp-IsAntisymmetric m n both.0 in
      let tree : h.0 ≡ g.0 = some_same h.0 g.0 (sym h.1 ∙ ap (tree_at all) index ∙ g.1) in
      let way : w ≡ v =
      same_way s g.0 w v i j c d e (subst (λ one. Derives s one w i j c d) tree h.2) g.2 both.1 in
      λ y. chosen (index y) (way y)
  same_way s (alt all) (chosen m w) v i j c d e h g x = absurd g
  same_way s (repeat inner least most) (members ws) (members vs) i j c d e h g x =
      ap members (each_same s inner least ws vs i j c d e h.0.0 g.0.0 h.1 g.1 x)
  same_way s (repeat inner least most) (members ws) v i j c d e h g x = absurd g
  same_way s (group number inner) (inside w) (inside v) i j c d e h g x =
      ap inside (same_way s inner w v i j c h.0 g.0 h.1 g.1 x)
  same_way s (group number inner) (inside w) v i j c d e h g x = absurd g
  same_way s t w v i j c d e h g x = absurd h

  pub all_same : (s : List ℕ) (ts : Trees) (ws vs : Ways) (i j : ℕ) (c d e : Captures)
      → DerivesAll s ts ws i j c d → DerivesAll s ts vs i j c e → in_order ws vs ≡ Equal → ws ≡ vs
  all_same s none done done i j c d e h g x = refl
  all_same s none done vs i j c d e h g x = absurd g
  all_same s (then t ts) (next k w ws) (next m v vs) i j c d e h g x =
      let both = then_equal (preference w k v m) (in_order ws vs) x in
      let head = one_head s t w v i k m c h.0 g.0 (λ n a b. same_way s t w v i n c a b) h.1 g.1 both.0 in
      let rest : DerivesAll s ts vs k j h.0 e = subst (λ f. DerivesAll s ts vs k j f e) head.2
      (subst (λ n. DerivesAll s ts vs n j g.0 e) head.1 g.2) in
      let ways : ws ≡ vs = all_same s ts ws vs k j h.0 d e h.2 rest both.1 in
      λ y. next (sym head.1 y) (head.0 y) (ways y)
  all_same s (then t ts) (next k w ws) vs i j c d e h g x = absurd g
  all_same s ts ws vs i j c d e h g x = absurd h

  -- no row of members begins another with the same end, since what would stand behind it isn't empty
  pub each_same : (s : List ℕ) (t : Tree) (least : ℕ) (ws vs : Ways) (i j : ℕ) (c d e : Captures)
      → least ≤ count_of ws → least ≤ count_of vs
      → DerivesEach s t least ws i j c d → DerivesEach s t least vs i j c e → in_order ws vs ≡ Equal → ws ≡ vs
  each_same s t least done done i j c d e a b h g x = refl
  each_same s t zero done (next k v vs) i j c d e a b h g x =
      absurd (omega (arith, (each_is_part s t zero vs k j g.0 e g.3).0))
  each_same s t (suc least) done (next k v vs) i j c d e a b h g x = absurd (omega arith)
  each_same s t zero (next k w ws) done i j c d e a b h g x =
      absurd (omega (arith, (each_is_part s t zero ws k j h.0 d h.3).0))
  each_same s t (suc least) (next k w ws) done i j c d e a b h g x = absurd (omega arith)
  each_same s t zero (next k w ws) (next m v vs) i j c d e a b h g x =
      let both = then_equal (preference w k v m) (in_order ws vs) x in
      let head = one_head s t w v i k m c h.0 g.0 (λ n a b. same_way s t w v i n c a b) h.1 g.1 both.0 in
      let rest : DerivesEach s t zero vs k j h.0 e = subst (λ f. DerivesEach s t zero vs k j f e) head.2
      (subst (λ n. DerivesEach s t zero vs n j g.0 e) head.1 g.3) in
      let ways : ws ≡ vs = each_same s t zero ws vs k j h.0 d e (omega arith) (omega arith) h.3 rest both.1 in
      λ y. next (sym head.1 y) (head.0 y) (ways y)
  each_same s t (suc least) (next k w ws) (next m v vs) i j c d e a b h g x =
      let both = then_equal (preference w k v m) (in_order ws vs) x in
      let head = one_head s t w v i k m c h.0 g.0 (λ n a b. same_way s t w v i n c a b) h.1 g.1 both.0 in
      let rest : DerivesEach s t least vs k j h.0 e = subst (λ f. DerivesEach s t least vs k j f e) head.2
      (subst (λ n. DerivesEach s t least vs n j g.0 e) head.1 g.2) in
      let ways : ws ≡ vs = each_same s t least ws vs k j h.0 d e (omega arith) (omega arith) h.2 rest both.1 in
      λ y. next (sym head.1 y) (head.0 y) (ways y)

-- PREFERENCE LEADS ON: what is preferred to what is preferred is preferred.

-- a comparison in two steps leads on where its steps do
lead_on : (a b c p q r : Ordering)
    → (a ≡ Less → b ≡ Less → c ≡ Less) → (a ≡ Less → b ≡ Equal → c ≡ Less) → (a ≡ Equal → b ≡ Less → c ≡ Less)
    → (a ≡ Equal → b ≡ Equal → (c ≡ Equal) × (p ≡ Less → q ≡ Less → r ≡ Less))
    → ordering_then a p ≡ Less → ordering_then b q ≡ Less → ordering_then c r ≡ Less
lead_on Less Less c p q r f g h k x y = ap (λ o. ordering_then o r) (f refl refl)
lead_on Less Equal c p q r f g h k x y = ap (λ o. ordering_then o r) (g refl refl)
lead_on Less Greater c p q r f g h k x y = absurd (greater_not_less y)
lead_on Equal Less c p q r f g h k x y = ap (λ o. ordering_then o r) (h refl refl)
lead_on Equal Equal c p q r f g h k x y =
    let both = k refl refl in ap (λ o. ordering_then o r) both.0 ∙ both.1 x y
lead_on Equal Greater c p q r f g h k x y = absurd (greater_not_less y)
lead_on Greater b c p q r f g h k x y = absurd (greater_not_less x)

-- numbers first, then what is left where they are equal
numbers_lead_on : (l m n : ℕ) (p q r : Ordering) → (l ≡ m → m ≡ n → p ≡ Less → q ≡ Less → r ≡ Less)
    → ordering_then (nat_cmp l m) p ≡ Less → ordering_then (nat_cmp m n) q ≡ Less → ordering_then (nat_cmp l n) r ≡ Less
numbers_lead_on l m n p q r f =
    lead_on (nat_cmp l m) (nat_cmp m n) (nat_cmp l n) p q r
    (nat_cmp_total.trans l m n)
    (λ x y. sym (alike_right nat_cmp_total m n l y) ∙ x)
    (λ x y. nat_cmp_total.congr l m n x ∙ y)
    (λ x y. (nat_cmp_total.congr l m n x ∙ y, f (nat_cmp-IsAntisymmetric l m x) (nat_cmp-IsAntisymmetric m n y)))

-- the greater end first
ends_lead_on : (u w v : Way) (j k m : ℕ)
    → (j ≡ k → k ≡ m → within u w ≡ Less → within w v ≡ Less → within u v ≡ Less)
    → preference u j w k ≡ Less → preference w k v m ≡ Less → preference u j v m ≡ Less
ends_lead_on u w v j k m f =
    lead_on (nat_cmp k j) (nat_cmp m k) (nat_cmp m j) (within u w) (within w v) (within u v)
    (λ x y. nat_cmp_total.trans m k j y x)
    (λ x y. nat_cmp_total.congr m k j y ∙ x)
    (λ x y. sym (alike_right nat_cmp_total k j m x) ∙ y)
    (λ x y. (
      nat_cmp_total.congr m k j y ∙ x,
      f (sym (nat_cmp-IsAntisymmetric k j x))
          (sym (nat_cmp-IsAntisymmetric m k y)),
    ))

equal_not_less : {A : Type 0} → Equal ≡ Less → A
equal_not_less e = absurd (less_not_equal (sym e))

-- first ways lead on where those with one end do
heads_lead_on : (s : List ℕ) (t : Tree) (u w v : Way) (i j k m : ℕ) (c d e f : Captures)
    → ((n : ℕ) (x y z : Captures) → Derives s t u i n c x → Derives s t w i n c y → Derives s t v i n c z
    → within u w ≡ Less → within w v ≡ Less → within u v ≡ Less)
    → Derives s t u i j c d → Derives s t w i k c e → Derives s t v i m c f
    → preference u j w k ≡ Less → preference w k v m ≡ Less → preference u j v m ≡ Less
heads_lead_on s t u w v i j k m c d e f leads h g q =
    ends_lead_on u w v j k m (λ p r. leads j d e f h
    (subst (λ n. Derives s t w i n c e) (sym p) g)
    (subst (λ n. Derives s t v i n c f) (sym (p ∙ r)) q))

-- rows lead on where their first ways do, and behind equal first ways the rows that are left
rows_lead_on : (s : List ℕ) (t : Tree) (u w v : Way) (us ws vs : Ways) (i j k m : ℕ) (c d e f : Captures)
    → ((n : ℕ) (x y z : Captures) → Derives s t u i n c x → Derives s t w i n c y → Derives s t v i n c z
    → within u w ≡ Less → within w v ≡ Less → within u v ≡ Less)
    → Derives s t u i j c d → Derives s t w i k c e → Derives s t v i m c f
    → (k ≡ j → e ≡ d → m ≡ j → f ≡ d → in_order us ws ≡ Less → in_order ws vs ≡ Less → in_order us vs ≡ Less)
    → in_order (next j u us) (next k w ws) ≡ Less → in_order (next k w ws) (next m v vs) ≡ Less
    → in_order (next j u us) (next m v vs) ≡ Less
rows_lead_on s t u w v us ws vs i j k m c d e f leads h g q rest =
    let first : preference u j w k ≡ Equal → (u ≡ w) × (k ≡ j) × (e ≡ d) =
    one_head s t u w i j k c d e (λ n a b. same_way s t u w i n c a b) h g in
    let second : preference w k v m ≡ Equal → (w ≡ v) × (m ≡ k) × (f ≡ e) =
    one_head s t w v i k m c e f (λ n a b. same_way s t w v i n c a b) g q in
    lead_on (preference u j w k) (preference w k v m) (preference u j v m) (in_order us ws) (in_order ws vs)
    (in_order us vs)
    (heads_lead_on s t u w v i j k m c d e f leads h g q)
    (λ x y. let both = second y in (λ n. preference u j (sym both.0 n) (both.1 n)) ∙ x)
    (λ x y. let both = first x in (λ n. preference (both.0 n) (sym both.1 n) v m) ∙ y)
    (λ x y. let a = first x in let b = second y in
    ((λ n. preference (a.0 n) (sym a.1 n) v m) ∙ y, rest a.1 a.2 (b.1 ∙ a.1) (b.2 ∙ a.2)))

mutual
  pub within_leads_on : (s : List ℕ) (t : Tree) (u w v : Way) (i j : ℕ) (c d e f : Captures)
      → Derives s t u i j c d → Derives s t w i j c e → Derives s t v i j c f
      → within u w ≡ Less → within w v ≡ Less → within u v ≡ Less
  within_leads_on s empty leaf w v i j c d e f h g q x y = equal_not_less x
  within_leads_on s (plain bytes) leaf w v i j c d e f h g q x y = equal_not_less x
  within_leads_on s (set bytes) leaf w v i j c d e f h g q x y = equal_not_less x
  within_leads_on s line_start leaf w v i j c d e f h g q x y = equal_not_less x
  within_leads_on s line_end leaf w v i j c d e f h g q x y = equal_not_less x
  within_leads_on s (back number fold) leaf w v i j c d e f h g q x y = equal_not_less x
  within_leads_on s (cat all) (parts us) (parts ws) (parts vs) i j c d e f h g q x y =
      all_lead_on s all us ws vs i j c d e f h g q x y
  within_leads_on s (cat all) (parts us) (parts ws) v i j c d e f h g q x y = absurd q
  within_leads_on s (cat all) (parts us) w v i j c d e f h g q x y = absurd g
  within_leads_on s (alt all) (chosen l u) (chosen m w) (chosen n v) i j c d e f h g q x y =
      numbers_lead_on l m n (within u w) (within w v) (within u v)
      (λ a b. within_leads_on s h.0 u w v i j c d e f h.2
      (subst (λ one. Derives s one w i j c e) (some_same g.0 h.0 (sym g.1 ∙ ap (tree_at all) (sym a) ∙ h.1)) g.2)
      (subst (λ one. Derives s one v i j c f) (some_same q.0 h.0 (sym q.1 ∙ ap (tree_at all) (sym (a ∙ b)) ∙ h.1)) q.2))
      x y
  within_leads_on s (alt all) (chosen l u) (chosen m w) v i j c d e f h g q x y = absurd q
  within_leads_on s (alt all) (chosen l u) w v i j c d e f h g q x y = absurd g
  within_leads_on s (repeat inner least most) (members us) (members ws) (members vs) i j c d e f h g q x y =
      each_lead_on s inner least us ws vs i j c d e f h.1 g.1 q.1 x y
  within_leads_on s (repeat inner least most) (members us) (members ws) v i j c d e f h g q x y = absurd q
  within_leads_on s (repeat inner least most) (members us) w v i j c d e f h g q x y = absurd g
  within_leads_on s (group number inner) (inside u) (inside w) (inside v) i j c d e f h g q x y =
      within_leads_on s inner u w v i j c h.0 g.0 q.0 h.1 g.1 q.1 x y
  within_leads_on s (group number inner) (inside u) (inside w) v i j c d e f h g q x y = absurd q
  within_leads_on s (group number inner) (inside u) w v i j c d e f h g q x y = absurd g
  within_leads_on s t u w v i j c d e f h g q x y = absurd h

  pub all_lead_on : (s : List ℕ) (ts : Trees) (us ws vs : Ways) (i j : ℕ) (c d e f : Captures)
      → DerivesAll s ts us i j c d → DerivesAll s ts ws i j c e → DerivesAll s ts vs i j c f
      → in_order us ws ≡ Less → in_order ws vs ≡ Less → in_order us vs ≡ Less
  all_lead_on s (then t ts) (next k u us) (next l w ws) (next m v vs) i j c d e f h g q x y =
      rows_lead_on s t u w v us ws vs i k l m c h.0 g.0 q.0
      (λ n a b o. within_leads_on s t u w v i n c a b o) h.1 g.1 q.1
      (λ a b o p. all_lead_on s ts us ws vs k j h.0 d e f h.2
      (subst (λ r. DerivesAll s ts ws k j r e) b (subst (λ n. DerivesAll s ts ws n j g.0 e) a g.2))
      (subst (λ r. DerivesAll s ts vs k j r f) p (subst (λ n. DerivesAll s ts vs n j q.0 f) o q.2)))
      x y
  all_lead_on s (then t ts) (next k u us) (next l w ws) vs i j c d e f h g q x y = absurd q
  all_lead_on s (then t ts) (next k u us) ws vs i j c d e f h g q x y = absurd g
  all_lead_on s none done ws vs i j c d e f h g q x y = equal_not_less x
  all_lead_on s ts us ws vs i j c d e f h g q x y = absurd h

  pub each_lead_on : (s : List ℕ) (t : Tree) (least : ℕ) (us ws vs : Ways) (i j : ℕ) (c d e f : Captures)
      → DerivesEach s t least us i j c d → DerivesEach s t least ws i j c e → DerivesEach s t least vs i j c f
      → in_order us ws ≡ Less → in_order ws vs ≡ Less → in_order us vs ≡ Less
  each_lead_on s t least done ws vs i j c d e f h g q x y = equal_not_less x
  each_lead_on s t least (next k u us) done vs i j c d e f h g q x y = equal_not_less x
  each_lead_on s t least (next k u us) (next l w ws) done i j c d e f h g q x y = equal_not_less y
  each_lead_on s t zero (next k u us) (next l w ws) (next m v vs) i j c d e f h g q x y =
      rows_lead_on s t u w v us ws vs i k l m c h.0 g.0 q.0
      (λ n a b o. within_leads_on s t u w v i n c a b o) h.1 g.1 q.1
      (λ a b o p. each_lead_on s t zero us ws vs k j h.0 d e f h.3
      (subst (λ r. DerivesEach s t zero ws k j r e) b (subst (λ n. DerivesEach s t zero ws n j g.0 e) a g.3))
      (subst (λ r. DerivesEach s t zero vs k j r f) p (subst (λ n. DerivesEach s t zero vs n j q.0 f) o q.3)))
      x y
  each_lead_on s t (suc least) (next k u us) (next l w ws) (next m v vs) i j c d e f h g q x y =
      rows_lead_on s t u w v us ws vs i k l m c h.0 g.0 q.0
      (λ n a b o. within_leads_on s t u w v i n c a b o) h.1 g.1 q.1
      (λ a b o p. each_lead_on s t least us ws vs k j h.0 d e f h.2
      (subst (λ r. DerivesEach s t least ws k j r e) b (subst (λ n. DerivesEach s t least ws n j g.0 e) a g.2))
      (subst (λ r. DerivesEach s t least vs k j r f) p (subst (λ n. DerivesEach s t least vs n j q.0 f) o q.2)))
      x y

-- THE LAWS

pub one_way_one_end : OneWayOneEnd
one_way_one_end s t w i j k c d e = one_end s t w i j k c d e

-- a comparison that isn't `Equal` prefers one side
one_side : (w : Way) (j : ℕ) (v : Way) (k : ℕ) (o : Ordering) → preference w j v k ≡ o → (o ≡ Equal → ⊥)
    → ExactlyOne (IsPreferred w j v k) (IsPreferred v k w j)
one_side w j v k Less e f =
    (inl e, λ a b. absurd (greater_not_less (sym (preference_back w j v k ∙ ap ordering_reverse e) ∙ b)))
one_side w j v k Equal e f = absurd (f refl)
one_side w j v k Greater e f =
    (inr (preference_back w j v k ∙ ap ordering_reverse e), λ a b. absurd (greater_not_less (sym e ∙ a)))

pub one_is_preferred : OneIsPreferred
one_is_preferred s t w v i j k c d e h g differ =
    one_side w j v k (preference w j v k) refl
    (λ x. differ (one_head s t w v i j k c d e (λ n a b. same_way s t w v i n c a b) h g x).0)

pub preference_leads_on : PreferenceLeadsOn
preference_leads_on s t u w v i j k m c d e f h g q =
    heads_lead_on s t u w v i j k m c d e f (λ n a b o. within_leads_on s t u w v i n c a b o) h g q

pub ruleset laws = (one_is_preferred, preference_leads_on, one_way_one_end)
