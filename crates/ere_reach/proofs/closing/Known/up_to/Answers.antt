use Rattle.std.proofs.Common.{ℕ, ◌+◌, ◌-◌, ◌≤◌, List, length, map, take, drop, true, sym, ap, ◌∙◌, subst, arith}
use Rattle.std.proofs.lemmas.List.{take-map, take-take}
use Rattle.std.specs.Char.{to_ascii_lowercase}
use Rattle.ere_tree.specs.Derivation.{IsSameText, part}
use Rattle.ere_reach.proofs.ReferLemmas.{same_width}
use Rattle.ere_reach.specs.Leads.{FitsKnown, StandsNotBefore}
use Rattle.ere_reach.specs.declared.site.Site.{Site}
use Rattle.ere_reach.proofs.closing.Known.up_to.Goals as goal
use Rattle.ere_reach.proofs.closing.Known.up_to.Goals.{then-to-self, else-to-self}

-- where a text stands, one that is shorter stands too
shorter : (s : List ℕ) (i j from to n : ℕ) → n ≤ j - i → n ≤ to - from
    → IsSameText true (part s i j) (part s from to) → IsSameText true (take n (drop i s)) (take n (drop from s))
shorter s i j from to n one other same =
    let lower = map to_ascii_lowercase in
    ap lower (sym (take-take n (j - i) (drop i s) one)) ∙ sym (take-map to_ascii_lowercase n (part s i j)) ∙ ap (take n) same
    ∙ take-map to_ascii_lowercase n (part s from to) ∙ ap lower (take-take n (to - from) (drop from s) other)

-- so one that is longer stands nowhere before either
longer : (site : Site) (from end next to : ℕ) → end ≤ to → from ≤ to → to ≤ length site.text.now
    → StandsNotBefore site from end next → StandsNotBefore site from to next
longer site from end next to more on inside before i j past low fits lies same =
    let s = site.text.now in
    let long = same_width true s i j from to lies (on, inside) same in
    before i (i + (end - from)) (omega arith) low (omega (arith, long)) (omega arith, omega (arith, long, lies.1))
    (subst (λ n. IsSameText true (take n (drop i s)) (take (end - from) (drop from s)))
    (omega arith) (shorter s i j from to (end - from) (omega (arith, long)) (omega arith) same))

pub returns-clause-known : goal.returns-clause-known
returns-clause-known c = λ i j past low fits lies same.
    let a = c.args in
    let known = c.if-to-self.known in
    let told : (known.to ≤ a.to) × FitsKnown a.site a.from known =
    elim c.if-to-self.branch [
      | then-to-self w ↦
          rw w.known-is (omega (arith, w.new-known.ensures.to, c.requires.order), w.new-known.ensures.fits)
      | else-to-self w ↦ rw w.known-is (omega (arith, w.if-to-self.false), c.requires.known)
    ] in
    longer a.site a.from known.to known.next a.to told.0 c.requires.order
    (omega (arith, c.requires.inside, c.requires.fits)) told.1 i j past (omega (arith, low, past)) fits lies same
