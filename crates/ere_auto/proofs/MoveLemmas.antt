-- The next byte: what is reached behind it, and the stop that is met first, with one reached node more.
-- The node takes nothing, or leads where an earlier one led (whose origin is no later), or leads to a new node.
-- The hard one is `moved_more`, a new node: each reached one has one before it, and each one before is led on.
use Rattle.std.proofs.Common.{◌≡◌, ℕ, ◌+◌, ◌<◌, if◌then◌else◌, Option, Some, None, List, [], ◌∷◌, ◌++◌, length, refl, sym, ap, ◌∙◌, subst, inl, inr, arith, eq-eqb, ne_eqb}
use Rattle.std.proofs.lemmas.Bool.{cases_lt, cases_eq}
use Rattle.ere_tree.proofs.CapturesLemmas.{some_same}
use Rattle.ere_table.specs.Node.{Node}
use Rattle.ere_auto.specs.Closure.{Takes, node_in, origin_in, HasNode, MetFirst, CutAt}
use Rattle.ere_auto.specs.Moved.{Comes, Moved, Differs, Agrees, met_behind}
use Rattle.ere_auto.specs.Threads.{Took}
use Rattle.ere_auto.specs.declared.thread.Thread.{Thread}
use Rattle.ere_auto.proofs.ListLemmas.{length_more, node_old, origin_old, node_new, origin_new, old_or_new, rises_more}

pub moved_none : (T : ℕ → Node) (seeds K : List Thread) (next : Option ℕ) → Moved T seeds K [] next 0
moved_none T seeds K next = record {
  within = omega arith;
  sound = λ x l. absurd (omega (arith, l));
  complete = λ x b q l e t. absurd (omega (arith, l));
  rises = λ σ r. record { rising = λ x y u v. absurd (omega (arith, v)) };
}

comes_later : (T : ℕ → Node) (seeds K new : List Thread) (next : Option ℕ) (used x : ℕ)
    → Comes T seeds K new next used x → Comes T seeds K new next (used + 1) x
comes_later T seeds K new next used x c = record {
  before = c.before;
  inside = omega (arith, c.inside);
  origin = c.origin;
  byte = c.byte;
  shown = c.shown;
  takes = c.takes;
}

-- a node that takes nothing
moved_past : (T : ℕ → Node) (seeds K new : List Thread) (next : Option ℕ) (used : ℕ) → Moved T seeds K new next used
    → used < length K → ((b q : ℕ) → next ≡ Some b → Takes (T (node_in K used)) b q → ⊥)
    → Moved T seeds K new next (used + 1)
moved_past T seeds K new next used m l none = record {
  within = omega (arith, l);
  sound = λ x h. comes_later T seeds K new next used x (m.sound x h);
  complete = λ x b q h e t. elim (cases_lt x used) [
    | inl before ↦ m.complete x b q before e t
    | inr behind ↦
        let same : x ≡ used = omega (arith, h, behind) in
        absurd (none b q e (subst (λ y. Takes (T (node_in K y)) b q) same t))
  ];
  rises = m.rises;
}

-- a node to which one went before
moved_again : (T : ℕ → Node) (seeds K new : List Thread) (next : Option ℕ) (used b q : ℕ) → Moved T seeds K new next used
    → used < length K → next ≡ Some b → ((r : ℕ) → Takes (T (node_in K used)) b r → r ≡ q) → HasNode new q
    → Moved T seeds K new next (used + 1)
moved_again T seeds K new next used b q m l shown one has = record {
  within = omega (arith, l);
  sound = λ x h. comes_later T seeds K new next used x (m.sound x h);
  complete = λ x c r h e t. elim (cases_lt x used) [
    | inl before ↦ m.complete x c r before e t
    | inr behind ↦
        let same : x ≡ used = omega (arith, h, behind) in
        let byte : c ≡ b = some_same c b (sym e ∙ shown) in
        let to = one r (subst (λ y. Takes (T (node_in K y)) b r) same (subst (λ d. Takes (T (node_in K x)) d r) byte t)) in
        let comes = m.sound has.index has.inside in
        record {
          index = has.index;
          inside = has.inside;
          is = has.is ∙ sym to;
          before = comes.before;
          first = omega (arith, comes.inside, behind);
          origin = comes.origin;
        }
  ];
  rises = m.rises;
}

-- a node to which none went before
moved_more : (T : ℕ → Node) (seeds K new : List Thread) (next : Option ℕ) (used b q origin : ℕ)
    → Moved T seeds K new next used → used < length K → origin ≡ origin_in seeds (origin_in K used) → next ≡ Some b
    → Takes (T (node_in K used)) b q → ((r : ℕ) → Takes (T (node_in K used)) b r → r ≡ q)
    → Moved T seeds K (new ++ record { node = q; origin = origin } ∷ []) next (used + 1)
moved_more T seeds K new next used b q origin m l own shown takes one =
    let t : Thread = record { node = q; origin = origin } in
    let L = new ++ t ∷ [] in
    record {
      within = omega (arith, l);
      sound = λ x h. elim (old_or_new new t x h) [
        | inl old ↦
            let comes = m.sound x old in
            record {
              before = comes.before;
              inside = omega (arith, comes.inside);
              origin = origin_old new t x old ∙ comes.origin;
              byte = comes.byte;
              shown = comes.shown;
              takes =
                  subst (Takes (T (node_in K comes.before)) comes.byte) (sym (node_old new t x old)) comes.takes;
            }
        | inr last ↦ record {
          before = used;
          inside = omega arith;
          origin = origin_new new t x last ∙ own;
          byte = b;
          shown = shown;
          takes = subst (Takes (T (node_in K used)) b) (sym (node_new new t x last)) takes;
        }
      ];
      complete = λ x c r h e g. elim (cases_lt x used) [
        | inl before ↦
            let goes = m.complete x c r before e g in
            record {
              index = goes.index;
              inside = omega (arith, goes.inside, length_more new t);
              is = node_old new t goes.index goes.inside ∙ goes.is;
              before = goes.before;
              first = goes.first;
              origin = origin_old new t goes.index goes.inside ∙ goes.origin;
            }
        | inr behind ↦
            let same : x ≡ used = omega (arith, h, behind) in
            let byte : c ≡ b = some_same c b (sym e ∙ shown) in
            let to = one r (subst (λ y. Takes (T (node_in K y)) b r) same (subst (λ d. Takes (T (node_in K x)) d r) byte g)) in
            record {
              index = length new;
              inside = omega (arith, length_more new t);
              is = node_new new t (length new) refl ∙ sym to;
              before = used;
              first = omega (arith, same);
              origin = origin_new new t (length new) refl ∙ own;
            }
      ];
      rises = λ σ r. rises_more σ new t (m.rises σ r) (λ x h.
          let comes = m.sound x h in
          omega (arith, ap σ comes.origin, ap σ own, r.rising comes.before used (omega (arith, comes.inside)) l));
    }

pub moved_step : (T : ℕ → Node) (seeds K new L : List Thread) (next : Option ℕ) (used origin : ℕ)
    → Moved T seeds K new next used → used < length K → origin ≡ origin_in seeds (origin_in K used)
    → Took (T (node_in K used)) next new L origin → Moved T seeds K L next (used + 1)
moved_step T seeds K new L next used origin m l own (inl none) =
    subst (λ x. Moved T seeds K x next (used + 1)) (sym none.0) (moved_past T seeds K new next used m l none.1)
moved_step T seeds K new L next used origin m l own (inr took) =
    elim took.5 [
      | inl had ↦
          subst (λ x. Moved T seeds K x next (used + 1)) (sym had.0)
          (moved_again T seeds K new next used took.0 took.1 m l took.2 took.4 had.1)
      | inr added ↦
          subst (λ x. Moved T seeds K x next (used + 1)) (sym added)
          (moved_more T seeds K new next used took.0 took.1 origin m l own took.2 took.3 took.4)
    ]

-- THE STOP

met_past : (seeds K : List Thread) (used : ℕ) (met : Option ℕ) → MetFirst seeds K used met
    → Agrees met (origin_in seeds (origin_in K used)) → (node_in K used ≡ 0 → ⊥) → MetFirst seeds K (used + 1) met
met_past seeds K used None h a n = λ x l e.
    elim (cases_lt x used) [
      | inl before ↦ h x before e
      | inr behind ↦ let same : x ≡ used = omega (arith, l, behind) in n (sym (ap (node_in K) same) ∙ e)
    ]
met_past seeds K used (Some m) h a n = record {
  first = h.first;
  inside = omega (arith, h.inside);
  stops = h.stops;
  is = h.is;
  none = h.none;
  one = λ x u l. elim (cases_lt x used) [
    | inl before ↦ h.one x u before
    | inr behind ↦
        let same : x ≡ used = omega (arith, l, behind) in ap (λ y. origin_in seeds (origin_in K y)) same ∙ sym a
  ];
}

met_here : (seeds K : List Thread) (used : ℕ) (met : Option ℕ) → MetFirst seeds K used met
    → Agrees met (origin_in seeds (origin_in K used)) → node_in K used ≡ 0
    → MetFirst seeds K (used + 1) (Some (origin_in seeds (origin_in K used)))
met_here seeds K used None h a z = record {
  first = used;
  inside = omega arith;
  stops = z;
  is = refl;
  none = h;
  one = λ x u l.
      let same : x ≡ used = omega (arith, u, l) in ap (λ y. origin_in seeds (origin_in K y)) same;
}
met_here seeds K used (Some m) h a z = record {
  first = h.first;
  inside = omega (arith, h.inside);
  stops = h.stops;
  is = h.is ∙ a;
  none = h.none;
  one = λ x u l. elim (cases_lt x used) [
    | inl before ↦ h.one x u before ∙ a
    | inr behind ↦
        let same : x ≡ used = omega (arith, l, behind) in ap (λ y. origin_in seeds (origin_in K y)) same
  ];
}

pub met_step : (seeds K : List Thread) (used origin node : ℕ) (met : Option ℕ) → MetFirst seeds K used met
    → node ≡ node_in K used → origin ≡ origin_in seeds (origin_in K used) → Agrees met origin
    → MetFirst seeds K (used + 1) (met_behind met node origin)
met_step seeds K used origin node met h n o a =
    let agrees = subst (Agrees met) o a in
    elim (cases_eq node 0) [
      | inl stop ↦
          subst (MetFirst seeds K (used + 1))
          (sym (ap (λ b. if b then Some origin else met) (eq-eqb node 0 stop) ∙ ap Some o))
          (met_here seeds K used met h agrees (sym n ∙ stop))
      | inr other ↦
          subst (MetFirst seeds K (used + 1)) (sym (ap (λ b. if b then Some origin else met) (ne_eqb node 0 other)))
          (met_past seeds K used met h agrees (λ z. other (n ∙ z)))
    ]

pub cut_here : (seeds K : List Thread) (used origin : ℕ) (met : Option ℕ) → Differs met origin
    → origin ≡ origin_in seeds (origin_in K used) → CutAt seeds K used met
cut_here seeds K used origin None d o = absurd d
cut_here seeds K used origin (Some m) d o = λ l e. d (sym e ∙ sym o)

pub cut_end : (seeds K : List Thread) (used : ℕ) (met : Option ℕ) → used ≡ length K → CutAt seeds K used met
cut_end seeds K used None e = e
cut_end seeds K used (Some m) e = λ l o. omega (arith, l, e)

pub moved_within : (T : ℕ → Node) (seeds K new : List Thread) (next : Option ℕ) (used bound : ℕ)
    → Moved T seeds K new next used → ((x : ℕ) → x < length K → origin_in K x < length seeds)
    → ((x : ℕ) → x < length seeds → origin_in seeds x < bound) → (x : ℕ) → x < length new → origin_in new x < bound
moved_within T seeds K new next used bound m from within x l =
    let comes = m.sound x l in
    omega (arith, comes.origin, within (origin_in K comes.before) (from comes.before (omega (arith, comes.inside, m.within))))
