-- A repeat, taken apart into the members that it must have, which may be empty, and those behind them, none of which is.
-- Before the first member stands what is read before the whole; behind each what the next one reads and what is read at last.
-- The hard one is `least_end`, which puts the two parts together and drops what isn't read behind the repeat.
use Rattle.std.proofs.Common.{◌≡◌, ℕ, zero, suc, ◌+◌, ◌-◌, ◌≤◌, Bool, true, false, ◌&&◌, nat_lt, Option, Some, None, List, refl, sym, subst, inl, inr, arith, add-one}
use Rattle.std.specs.FinMap.{get}
use Rattle.std.specs.List.{Contains}
use Rattle.ere_tree.proofs.DerivationLemmas.{is_part, each_is_part, each_count}
use Rattle.ere_tree.proofs.PartsLemmas.{repeat_out}
use Rattle.ere_tree.specs.Captures.{Captures}
use Rattle.ere_tree.specs.Derivation.{Ways, members, done, next, CanRepeat, DerivesEach, count_of}
use Rattle.ere_tree.specs.Tree.{Tree, repeat}
use Rattle.ere_reach.specs.declared.held.Held.{Held}
use Rattle.ere_reach.specs.declared.rows.Rows.{Rows}
use Rattle.ere_reach.specs.declared.site.Site.{Site}
use Rattle.ere_reach.specs.Held.{Covers, IsKept, Tells}
use Rattle.ere_reach.specs.Leads.{Step, Does, DoesUpTo, Leads, LeadsOver, KeepsRows, MayHave}
use Rattle.ere_reach.specs.Live.{HasRead, reads, surely_sets}
use Rattle.ere_reach.specs.Refers.{HasMore, Refers}
use Rattle.ere_reach.specs.Rows.{AreInside, HasState}
use Rattle.ere_reach.proofs.LeadsLemmas.{Both, covers_fewer, leads_then, sound_as}
use Rattle.ere_reach.proofs.MembersLemmas.{Chain, stay}

-- SO MANY MEMBERS

-- the members that must be there, and those behind them
chain_of : (s : List ℕ) (t : Tree) (n : ℕ) (ws : Ways) (k total p m q : ℕ) (c e d : Captures) → total ≡ k + n
    → n ≤ count_of ws → Chain (Does s t) k p m c e → DerivesEach s t n ws m q e d
    → (l : ℕ) × (f : Captures) × Chain (Does s t) total p l c f × (vs : Ways) × (count_of ws ≡ n + count_of vs)
    × DerivesEach s t zero vs l q f d
chain_of s t zero ws k total p m q c e d same enough chain h =
    let here : k ≡ total = omega (arith, same) in
    (m, e, subst (λ n. Chain (Does s t) n p m c e) here chain, ws, omega arith, h)
chain_of s t (suc n) done k total p m q c e d same enough chain h = absurd (omega (arith, enough))
chain_of s t (suc n) (next l w ws) k total p m q c e d same enough chain h =
    let all = chain_of s t n ws (suc k) total p l q c h.0 d (omega (arith, same)) (omega (arith, enough))
    (m, e, chain, (w, h.1)) h.2 in
    (all.0, all.1, all.2, all.3, omega (arith, all.4), all.5)

each_from : (s : List ℕ) (t : Tree) (n b total : ℕ) (vs : Ways) (p m q : ℕ) (c e d : Captures) → total ≡ n + b
    → Chain (Does s t) n p m c e → DerivesEach s t b vs m q e d
    → (ws : Ways) × (count_of ws ≡ n + count_of vs) × DerivesEach s t total ws p q c d
each_from s t zero b total vs p m q c e d same (here, kept) h =
    let all : b ≡ total = omega (arith, same) in
    let first = subst (λ x. DerivesEach s t b vs p q x d) kept (subst (λ r. DerivesEach s t b vs r q e d) here h) in
    (vs, omega arith, subst (λ n. DerivesEach s t n vs p q c d) all first)
each_from s t (suc n) b total vs p m q c e d same (k, f, init, (w, one)) h =
    let all = each_from s t n (suc b) total (next m w vs) p k q c f d (omega (arith, same)) init (e, one, h) in
    (all.0, omega (arith, all.1), all.2)

-- THE WHOLE, APART

can_have : (least : ℕ) (most : Option ℕ) (width more count : ℕ) → MayHave least most width (Some more) → least ≤ count
    → count ≤ least + more → CanRepeat least most count
can_have least None width more count may low high = (low, tt)
can_have least (Some most) width more count may low high = (low, omega (arith, may, high))

few_more : (least : ℕ) (most : Option ℕ) (width more all count : ℕ) → MayHave least most width (Some more)
    → CanRepeat least most all → all ≡ least + count → count ≤ width → count ≤ more
few_more least None width more all count may can is fits = omega (arith, may, fits)
few_more least (Some most) width more all count may can is fits = omega (arith, may, can.1, is)

abbrev pub Split : List ℕ → Tree → ℕ → ℕ → Step
Split s t least more = Both (Chain (Does s t) least) (DoesUpTo s t more)

repeat_of : (s : List ℕ) (t : Tree) (least : ℕ) (most : Option ℕ) (width more p q : ℕ) (c d : Captures)
    → MayHave least most width (Some more) → Split s t least more p q c d → Does s (repeat t least most) p q c d
repeat_of s t least most width more p q c d may (m, e, chain, (vs, few, h)) =
    let all = each_from s t least zero least vs p m q c e d (omega arith) chain h in
    let can = can_have least most width more (count_of all.0) may (omega (arith, all.1)) (omega (arith, all.1, few)) in
    (members all.0, (can, all.2))

repeat_apart : (s : List ℕ) (t : Tree) (least : ℕ) (most : Option ℕ) (low high more p q : ℕ) (c d : Captures)
    → MayHave least most (high - low) (Some more) → low ≤ p → q ≤ high → Does s (repeat t least most) p q c d
    → Split s t least more p q c d
repeat_apart s t least most low high more p q c d may inside within (w, h) =
    let all = repeat_out s t least most w p q c d h in
    let apart = chain_of s t least all.0 zero least p p q c c d (omega arith) all.1.0 (refl, refl) all.2 in
    let count = each_count s t least all.0 p q c d all.2 in
    let few = few_more least most (high - low) more (count_of all.0) (count_of apart.3) may all.1 apart.4
    (omega (arith, count, apart.4, inside, within)) in
    (apart.0, apart.1, apart.2, (apart.3, few, apart.5))

-- THE MEMBERS THAT MUST BE THERE

-- what is read before the first member, and behind each
abbrev pub read_at : List ℕ → List ℕ → ℕ → List ℕ
read_at before between zero = before
read_at before between (suc k) = between

and_right : (a b : Bool) → b ≡ false → (a && b) ≡ false
and_right true b e = e
and_right false b e = refl

read_between : (t : Tree) (live between : List ℕ) → HasMore (Refers t) live between → HasRead (reads t) between between
read_between t live between more n (inl refers) = (more n).1 (inr refers)
read_between t live between more n (inr (is, not)) = is

pub least_read : (t : Tree) (live between slice : List ℕ) → slice ≡ between → HasMore (Refers t) live between
    → HasRead (reads t) slice slice
least_read t live between slice same more =
    subst (λ (xs : List ℕ). HasRead (reads t) xs xs) (sym same) (read_between t live between more)

module _ (t : Tree) (most : Option ℕ) (live between before : List ℕ) (more : HasMore (Refers t) live between) where
  read_next : (least : ℕ) → HasRead (reads (repeat t least most)) live before → (k : ℕ)
      → HasRead (reads t) between (read_at before between k)
  read_next least has zero n (inl refers) = has n (inl refers)
  read_next least has zero n (inr (is, not)) = elim ((more n).0 is) [
    | inl behind ↦ has n (inr (behind, and_right (nat_lt 0 least) (surely_sets t n) not))
    | inr refers ↦ has n (inl refers)
  ]
  read_next least has (suc k) n reads = read_between t live between more n reads

  -- what is read behind the last member that must be there
  read_last : (least : ℕ) → HasRead (reads (repeat t least most)) live before → (n : ℕ) → Contains between n
      → Contains (read_at before between least) n
  read_last zero has n is = elim ((more n).0 is) [
    | inl behind ↦ has n (inr (behind, refl))
    | inr refers ↦ has n (inl refers)
  ]
  read_last (suc least) has n is = is

-- THE LOOP

-- after so many members that must be there
pub record Least (site : Site) (t : Tree) (least : ℕ) (most : Option ℕ) (live between : List ℕ) (count : ℕ)
    (from now : Rows) : Type 0 where
  pub inside : AreInside site.low site.high now
  pub rest : (before : List ℕ) → HasRead (reads (repeat t least most)) live before
      → Leads site (Chain (Does site.text.now t) count) before (read_at before between count) from now

-- rows with other lists that tell as much
leads_on : (site : Site) (D : Step) (before behind other : List ℕ) (from found rows : Rows)
    → ((h : List Held) (q : ℕ) → HasState rows h q → (g : List Held) × HasState found g q
    × ((d : Captures) → Covers site.text.now site.high behind g q d → Covers site.text.now site.high other h q d))
    → ((g : List Held) (q : ℕ) → HasState found g q → (h : List Held) × HasState rows h q
    × ((d : Captures) → Covers site.text.now site.high behind g q d → Covers site.text.now site.high other h q d))
    → Leads site D before behind from found → Leads site D before other from rows
leads_on site D before behind other from found rows back on leads = record {
  sound = λ h q is.
      let k = back h q is in
      let one = leads.sound k.0 q k.1 in (
        one.0,
        one.1,
        one.2,
        λ c covers. let step = one.3 c covers in (step.0, step.1, k.2 step.0 step.2),
      );
  complete = λ g p c q d is covers step low.
      let one = leads.complete g p c q d is covers step low in
      let k = on one.0 q one.1 in
      (k.0, k.1, k.2 d one.2);
  inside = λ h q is. let k = back h q is in leads.inside k.0 q k.1;
}

module _ (site : Site) (t : Tree) (least : ℕ) (most : Option ℕ) (live between : List ℕ) (from : Rows) where
  pub least_none : AreInside site.low site.high from → Least site t least most live between 0 from from
  least_none inside = record {
    inside = inside;
    rest = λ before has. record {
      sound = λ h q is. (h, q, is, λ c covers. (c, (refl, refl), covers));
      complete = λ g p c q d is covers step low. stay site before from g p q c d is covers step;
      inside = inside;
    };
  }

  pub least_step : (slice : List ℕ) (k : ℕ) (now later : Rows) → slice ≡ between → HasMore (Refers t) live between
      → LeadsOver site t slice now later → Least site t least most live between k from now
      → Least site t least most live between (k + 1) from later
  least_step slice k now later same more leads known =
      subst (λ n. Least site t least most live between n from later) (sym (add-one k)) (record {
        inside = (leads slice (least_read t live between slice same more)).inside;
        rest = λ before has.
            leads_then site (Chain (Does site.text.now t) k) (Does site.text.now t) before (read_at before between k)
            between from now later (λ p q c d (w, h). (is_part site.text.now t w p q c d h).0) (known.rest before has)
            (subst (λ (xs : List ℕ). LeadsOver site t xs now later) same leads (read_at before between k)
            (read_next t most live between before more least has k));
      })

  pub least_end : (more width : ℕ) (slice : List ℕ) (count : ℕ) (now all found : Rows)
      → MayHave least most width (Some more) → width ≡ site.high - site.low → AreInside site.low site.high from
      → slice ≡ between → HasMore (Refers t) live between → Least site t least most live between count from now
      → count ≡ least → Leads site (DoesUpTo site.text.now t more) slice slice now all
      → KeepsRows site live all found → LeadsOver site (repeat t least most) live from found
  least_end more width slice count now all found may wide inside same read known over rest kept = λ before has.
      let s = site.text.now in
      let at = read_at before between least in
      let begun : Leads site (Chain (Does s t) least) before at from now =
      (subst (λ n. Least site t least most live between n from now) over known).rest before has in
      let fewer : (h : List Held) (q : ℕ) (d : Captures) → Covers s site.high at h q d
      → Covers s site.high between h q d =
      λ h q d. covers_fewer s site.high at between h q d (read_last t most live between before read least has) in
      let told : (g h : List Held) (q : ℕ) (d : Captures) → IsKept live g h → Covers s site.high between g q d
      → Covers s site.high live h q d =
      λ g h q d keeps covers n is.
      subst (λ o. Tells s site.high q o (get d n)) (sym (keeps n is)) (covers n ((read n).1 (inl is))) in
      let whole = leads_on site (Split s t least more) before between live from all found
      (λ h q is. let k = kept.0 h q is in (k.0, k.1, λ d. told k.0 h q d k.2))
      (λ g q is. let k = kept.1 g q is in (k.0, k.1, λ d. told g k.0 q d k.2))
      (leads_then site (Chain (Does s t) least) (DoesUpTo s t more) before between between from now all
      (λ p q c d (ws, few, h). (each_is_part s t zero ws p q c d h).0)
      (leads_on site (Chain (Does s t) least) before at between from now now (λ h q is. (h, is, fewer h q))
      (λ h q is. (h, is, fewer h q)) begun)
      (subst (λ (xs : List ℕ). Leads site (DoesUpTo s t more) xs xs now all) same rest)) in
      record {
        sound = sound_as site (Split s t least more) (Does s (repeat t least most)) before live from found
            (λ p q c d. repeat_of s t least most width more p q c d may) whole.sound;
        complete = λ g p c q d is covers step low.
            whole.complete g p c q d is covers
            (repeat_apart s t least most site.low site.high more p q c d
            (subst (λ n. MayHave least most n (Some more)) wide may) (inside g p is).0 low step) low;
        inside = whole.inside;
      }
