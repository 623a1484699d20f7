-- Making a closure: a seed more, and what one reached node goes on to.
-- The list is its own queue: those before `next` have been followed, and those from `next` on are of the last seed.
-- The hard one is `closing_step`, a node that is followed and what it adds.
use Rattle.std.proofs.Common.{◌≡◌, ℕ, ◌+◌, ◌<◌, ◌≤◌, ◌⊎◌, Bool, List, [], zero, suc, length, refl, sym, ap, ◌∙◌, subst, inl, inr, arith}
use Rattle.std.proofs.lemmas.Bool.{cases_lt}
use Rattle.ere_table.specs.Node.{Node}
use Rattle.ere_auto.specs.Closure.{Skips, SkipPath, Reaches, node_in, origin_in, HasNode, HasBy, Rises, Closed}
use Rattle.ere_auto.specs.Closing.{Closing}
use Rattle.ere_auto.specs.Threads.{Adds, Grown}
use Rattle.ere_auto.specs.declared.thread.Thread.{Thread}
use Rattle.ere_auto.proofs.ThreadsLemmas.{grown_one, added_has}

pub closing_none : (starts ends : Bool) (T : ℕ → Node) (seeds : List Thread) → Closing starts ends T seeds [] 0 0
closing_none starts ends T seeds = record {
  within = omega arith;
  from = λ x l. absurd (omega (arith, l));
  sound = λ x l. absurd (omega (arith, l));
  seeded = λ x l. absurd (omega (arith, l));
  closed = λ x p l h. absurd (omega (arith, l));
  rises = record { rising = λ x y u v. absurd (omega (arith, v)) };
  last = λ x l b. absurd (omega (arith, b));
}

-- what a longer list keeps of the shorter one
grown_by : (K L : List Thread) (origin : ℕ) (P : ℕ → Type 0) → Grown K L origin P → (q b : ℕ) → HasBy (λ k. k) K q b
    → HasBy (λ k. k) L q b
grown_by K L origin P g q b h = record {
  index = h.index;
  inside = omega (arith, h.inside, g.longer);
  is = g.nodes h.index h.inside ∙ h.is;
  by = omega (arith, h.by, g.origins h.index h.inside);
}

grown_rises : (K L : List Thread) (origin : ℕ) (P : ℕ → Type 0) → Grown K L origin P → Rises (λ k. k) K
    → ((x : ℕ) → x < length K → origin_in K x ≤ origin) → Rises (λ k. k) L
grown_rises K L origin P g r below = record {
  rising = λ x y u v. elim (cases_lt y (length K)) [
    | inl old ↦
        let both = r.rising x y u old in
        omega (arith, both, g.origins x (omega (arith, u, old)), g.origins y old)
    | inr new ↦ elim (cases_lt x (length K)) [
      | inl before ↦ omega (arith, below x before, g.origins x before, g.from y new v)
      | inr behind ↦ omega (arith, g.from x behind (omega (arith, u, v)), g.from y new v)
    ]
  ];
}

-- what lies behind the old list is of the last origin
grown_last : (K L : List Thread) (origin : ℕ) (P : ℕ → Type 0) → Grown K L origin P → (x : ℕ) → x < length L
    → (origin_in L x ≡ origin) ⊎ ((x < length K) × (origin_in L x ≡ origin_in K x) × (node_in L x ≡ node_in K x))
grown_last K L origin P g x l =
    elim (cases_lt x (length K)) [
      | inl old ↦ inr (old, g.origins x old, g.nodes x old)
      | inr new ↦ inl (g.from x new l)
    ]

-- a node of the longer list is there by the last origin
closing_has : (K L : List Thread) (origin q count : ℕ) (P : ℕ → Type 0) → Grown K L origin P
    → ((x : ℕ) → x < length K → origin_in K x < count) → count ≤ origin + 1 → HasNode L q → HasBy (λ k. k) L q origin
closing_has K L origin q count P g below small h = record {
  index = h.index;
  inside = h.inside;
  is = h.is;
  by = elim (grown_last K L origin P g h.index h.inside) [
    | inl last ↦ omega (arith, last)
    | inr old ↦ omega (arith, old.1, below h.index old.0, small)
  ];
}

skips_more : (starts ends : Bool) (T : ℕ → Node) (l q r p : ℕ) → SkipPath starts ends T l q r
    → Skips starts ends (T r) p → Reaches starts ends T q p
skips_more starts ends T zero q r p h s = (1, (p, subst (λ x. Skips starts ends (T x) p) h s, refl))
skips_more starts ends T (suc l) q r p h s =
    let rest = skips_more starts ends T l h.0 r p h.2 s in (suc rest.0, (h.0, h.1, rest.1))

pub closing_seed : (starts ends : Bool) (T : ℕ → Node) (seeds K L : List Thread) (count next : ℕ)
    → Closing starts ends T seeds K count next → next ≡ length K → Adds K L (node_in seeds count) count
    → Closing starts ends T seeds L (count + 1) next
closing_seed starts ends T seeds K L count next c all adds =
    let g = grown_one K L (node_in seeds count) count (λ q. q ≡ node_in seeds count) refl adds in
    let has = added_has K L (node_in seeds count) count adds in
    record {
      within = omega (arith, all, g.longer);
      from = λ x l. elim (grown_last K L count (λ q. q ≡ node_in seeds count) g x l) [
        | inl last ↦ omega (arith, last)
        | inr old ↦ omega (arith, old.1, c.from x old.0)
      ];
      sound = λ x l. elim (cases_lt x (length K)) [
        | inl old ↦
            subst (λ q. Reaches starts ends T q (node_in L x)) (ap (node_in seeds) (sym (g.origins x old)))
            (subst (λ q. Reaches starts ends T (node_in seeds (origin_in K x)) q) (sym (g.nodes x old)) (c.sound x old))
        | inr new ↦ (0, g.such x new l ∙ ap (node_in seeds) (sym (g.from x new l)))
      ];
      seeded = λ x l. elim (cases_lt x count) [
        | inl before ↦ grown_by K L count (λ q. q ≡ node_in seeds count) g (node_in seeds x) x (c.seeded x before)
        | inr behind ↦
            let same : count ≡ x = omega (arith, l, behind) in
            subst (λ n. HasBy (λ k. k) L (node_in seeds n) n) same
            (closing_has K L count (node_in seeds count) count (λ q. q ≡ node_in seeds count) g c.from (omega arith) has)
      ];
      closed = λ x p l h.
          let inside : x < length K = omega (arith, l, all) in
          subst (HasBy (λ k. k) L p) (sym (g.origins x inside))
          (grown_by K L count (λ q. q ≡ node_in seeds count) g p (origin_in K x)
          (c.closed x p l (subst (λ q. Skips starts ends (T q) p) (g.nodes x inside) h)));
      rises =
          grown_rises K L count (λ q. q ≡ node_in seeds count) g c.rises
          (λ x l. omega (arith, c.from x l));
      last = λ x l b. omega (arith, g.from x (omega (arith, l, all)) b);
    }

pub closing_step : (starts ends : Bool) (T : ℕ → Node) (seeds K L : List Thread) (origin next : ℕ)
    → Closing starts ends T seeds K (origin + 1) next → next < length K
    → Grown K L origin (Skips starts ends (T (node_in K next)))
    → ((q : ℕ) → Skips starts ends (T (node_in K next)) q → HasNode L q)
    → Closing starts ends T seeds L (origin + 1) (next + 1)
closing_step starts ends T seeds K L origin next c inside g all =
    let P = Skips starts ends (T (node_in K next)) in
    let own : origin_in K next ≡ origin = omega (arith, c.last next (omega arith) inside) in
    record {
      within = omega (arith, inside, g.longer);
      from = λ x l. elim (grown_last K L origin P g x l) [
        | inl last ↦ omega (arith, last)
        | inr old ↦ omega (arith, old.1, c.from x old.0)
      ];
      sound = λ x l. elim (cases_lt x (length K)) [
        | inl old ↦
            subst (λ q. Reaches starts ends T q (node_in L x)) (ap (node_in seeds) (sym (g.origins x old)))
            (subst (λ q. Reaches starts ends T (node_in seeds (origin_in K x)) q) (sym (g.nodes x old)) (c.sound x old))
        | inr new ↦
            let to = c.sound next inside in
            subst (λ n. Reaches starts ends T (node_in seeds n) (node_in L x)) (own ∙ sym (g.from x new l))
            (skips_more starts ends T to.0 (node_in seeds (origin_in K next)) (node_in K next) (node_in L x) to.1
            (g.such x new l))
      ];
      seeded = λ x l. grown_by K L origin P g (node_in seeds x) x (c.seeded x l);
      closed = λ x p l h. elim (cases_lt x next) [
        | inl before ↦
            let old : x < length K = omega (arith, before, inside) in
            subst (HasBy (λ k. k) L p) (sym (g.origins x old))
            (grown_by K L origin P g p (origin_in K x)
            (c.closed x p before (subst (λ q. Skips starts ends (T q) p) (g.nodes x old) h)))
        | inr behind ↦
            let same : next ≡ x = omega (arith, behind, l) in
            let old : x < length K = omega (arith, same, inside) in
            let has = all p (subst (λ q. Skips starts ends (T q) p) (g.nodes x old ∙ ap (node_in K) (sym same)) h) in
            subst (HasBy (λ k. k) L p) (sym (g.origins x old ∙ ap (origin_in K) (sym same) ∙ own))
            (closing_has K L origin p (origin + 1) P g c.from (omega arith) has)
      ];
      rises = grown_rises K L origin P g c.rises (λ x l. omega (arith, c.from x l));
      last = λ x l b. elim (cases_lt x (length K)) [
        | inl old ↦ omega (arith, g.origins x old, c.last x (omega (arith, l)) old)
        | inr new ↦ omega (arith, g.from x new b)
      ];
    }

pub closing_done : (starts ends : Bool) (T : ℕ → Node) (seeds K : List Thread) (count next : ℕ)
    → Closing starts ends T seeds K count next → count ≡ length seeds → next ≡ length K
    → Closed starts ends T seeds K
closing_done starts ends T seeds K count next c all ends_here = record {
  from = λ x l. omega (arith, c.from x l, all);
  sound = c.sound;
  seeded = λ x l. c.seeded x (omega (arith, l, all));
  closed = λ x p l h. c.closed x p (omega (arith, l, ends_here)) h;
  rises = c.rises;
}
