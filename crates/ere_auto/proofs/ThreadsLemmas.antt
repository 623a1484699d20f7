-- Lists of threads beside the marks of their nodes, and lists that grow by threads of one origin.
-- A mark is set where a thread has the node: a thread and its mark come together, so the two agree at each length.
-- The hard one is `grown_on`, that a list which grew twice has grown.
use Rattle.std.proofs.Common.{◌≡◌, ℕ, ◌<◌, ◌==◌, ◌||◌, Bool, true, false, List, [], ◌∷◌, ◌++◌, zero, suc, length, replicate, refl, sym, ap, ◌∙◌, subst, inl, inr, arith, slice_index_or, eq-eqb, ne_eqb, true≢false}
use Rattle.std.proofs.Math.ListN.{set}
use Rattle.std.proofs.lemmas.List.{get_or-set_same, get_or-set_other, get_or-replicate, get_or_past, length-replicate}
use Rattle.std.proofs.lemmas.Bool.{cases_lt, cases_eq}
use Rattle.ere_auto.specs.Marks.{members}
use Rattle.ere_auto.specs.Closure.{node_in, has_node, HasNode}
use Rattle.ere_auto.specs.Threads.{Adds, Grown}
use Rattle.ere_auto.specs.declared.thread.Thread.{Thread}
use Rattle.ere_auto.proofs.ListLemmas.{length_more, node_old, origin_old, node_new, origin_new, old_or_new}

pub none_marked : (n q : ℕ) → slice_index_or (replicate n false) q false ≡ false
none_marked n q =
    elim (cases_lt q n) [
      | inl inside ↦ get_or-replicate n q false false inside
      | inr past ↦ get_or_past (replicate n false) q false (omega (arith, past, length-replicate {A = Bool} n false))
    ]

pub members_none : (n : ℕ) → members (replicate n false) ≡ 0
unfolding members
members_none zero = refl
members_none (suc n) = members_none n

or_false : (a : Bool) → (a || false) ≡ a
or_false true = refl
or_false false = refl

or_assoc : (a b c : Bool) → (a || (b || c)) ≡ ((a || b) || c)
or_assoc true b c = refl
or_assoc false b c = refl

or_true : (a : Bool) → (a || true) ≡ true
or_true true = refl
or_true false = refl

pub has_node_more : (K : List Thread) (t : Thread) (q : ℕ) → has_node (K ++ t ∷ []) q ≡ (has_node K q || t.node == q)
has_node_more [] t q = or_false (t.node == q)
has_node_more (k ∷ K) t q =
    ap (λ b. k.node == q || b) (has_node_more K t q) ∙ or_assoc (k.node == q) (has_node K q) (t.node == q)

-- the marks stay those of the list
pub listed_more : (K : List Thread) (t : Thread) (marks : List Bool) → t.node < length marks
    → ((q : ℕ) → slice_index_or marks q false ≡ has_node K q)
    → (q : ℕ) → slice_index_or (set marks t.node true) q false ≡ has_node (K ++ t ∷ []) q
listed_more K t marks l h q =
    elim (cases_eq q t.node) [
      | inl same ↦
          ap (λ x. slice_index_or (set marks t.node true) x false) same ∙ get_or-set_same marks t.node true false l
          ∙ sym (has_node_more K t q ∙ ap (λ b. has_node K q || b) (eq-eqb t.node q (sym same)) ∙ or_true (has_node K q))
      | inr other ↦
          get_or-set_other marks t.node q true false other ∙ h q
          ∙ sym (has_node_more K t q ∙ ap (λ b. has_node K q || b) (ne_eqb t.node q (λ e. other (sym e))) ∙ or_false (has_node K q))
    ]

pub has_node_is : (K : List Thread) (q : ℕ) → has_node K q ≡ true → HasNode K q
has_node_is [] q h = absurd (true≢false (sym h))
has_node_is (t ∷ K) q h =
    elim (cases_eq t.node q) [
      | inl same ↦ record { index = 0; inside = omega arith; is = same }
      | inr other ↦
          let rest = has_node_is K q (ap (λ b. b || has_node K q) (sym (ne_eqb t.node q other)) ∙ h) in
          record { index = suc rest.index; inside = omega (arith, rest.inside); is = rest.is }
    ]

pub within_more : (K : List Thread) (t : Thread) (n : ℕ) → t.node < n → ((x : ℕ) → x < length K → node_in K x < n)
    → (x : ℕ) → x < length (K ++ t ∷ []) → node_in (K ++ t ∷ []) x < n
within_more K t n l h x b =
    elim (old_or_new K t x b) [
      | inl old ↦ omega (arith, h x old, node_old K t x old)
      | inr new ↦ omega (arith, l, node_new K t x new)
    ]

-- LISTS THAT GROW

pub grown_none : (K : List Thread) (origin : ℕ) (P : ℕ → Type 0) → Grown K K origin P
grown_none K origin P = record {
  longer = omega arith;
  nodes = λ x l. refl;
  origins = λ x l. refl;
  from = λ x l b. absurd (omega (arith, l, b));
  such = λ x l b. absurd (omega (arith, l, b));
}

pub grown_one : (K L : List Thread) (node origin : ℕ) (P : ℕ → Type 0) → P node → Adds K L node origin
    → Grown K L origin P
grown_one K L node origin P p (inl had) = subst (λ M. Grown K M origin P) (sym had.0) (grown_none K origin P)
grown_one K L node origin P p (inr added) =
    let t : Thread = record { node = node; origin = origin } in
    subst (λ M. Grown K M origin P) (sym added) (record {
      longer = omega (arith, length_more K t);
      nodes = λ x l. node_old K t x l;
      origins = λ x l. origin_old K t x l;
      from = λ x l b. origin_new K t x (omega (arith, l, b, length_more K t));
      such = λ x l b. subst P (sym (node_new K t x (omega (arith, l, b, length_more K t)))) p;
    })

pub grown_on : (K L M : List Thread) (origin : ℕ) (P : ℕ → Type 0) → Grown K L origin P → Grown L M origin P
    → Grown K M origin P
grown_on K L M origin P g h = record {
  longer = omega (arith, g.longer, h.longer);
  nodes = λ x l. h.nodes x (omega (arith, l, g.longer)) ∙ g.nodes x l;
  origins = λ x l. h.origins x (omega (arith, l, g.longer)) ∙ g.origins x l;
  from = λ x l b. elim (cases_lt x (length L)) [
    | inl before ↦ h.origins x before ∙ g.from x l before
    | inr behind ↦ h.from x behind b
  ];
  such = λ x l b. elim (cases_lt x (length L)) [
    | inl before ↦ subst P (sym (h.nodes x before)) (g.such x l before)
    | inr behind ↦ h.such x behind b
  ];
}

pub added_has : (K L : List Thread) (node origin : ℕ) → Adds K L node origin → HasNode L node
added_has K L node origin (inl had) = subst (λ M. HasNode M node) (sym had.0) had.1
added_has K L node origin (inr added) =
    let t : Thread = record { node = node; origin = origin } in
    subst (λ M. HasNode M node) (sym added) (record {
      index = length K;
      inside = omega (arith, length_more K t);
      is = node_new K t (length K) refl;
    })

pub grown_has : (K L : List Thread) (origin q : ℕ) (P : ℕ → Type 0) → Grown K L origin P → HasNode K q → HasNode L q
grown_has K L origin q P g h = record {
  index = h.index;
  inside = omega (arith, h.inside, g.longer);
  is = g.nodes h.index h.inside ∙ h.is;
}
