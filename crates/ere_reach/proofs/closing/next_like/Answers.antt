use Rattle.std.proofs.Common.{◌≡◌, ◌+◌, ◌-◌, map, take, drop, sym, ◌∙◌, subst, arith, inl, inr, true, true≢false}
use Rattle.std.specs.Char.{to_ascii_lowercase}
use Rattle.std.proofs.lemmas.Bool.{cases_lt}
use Rattle.ere_tree.specs.Derivation.{part}
use Rattle.ere_reach.proofs.ReferLemmas.{same_width}
use Rattle.ere_reach.proofs.closing.next_like.Goals as goal

pub returns-then-count-site-clause-none : goal.returns-then-count-site-clause-none
returns-then-count-site-clause-none c = λ e i j on fits lies same.
    let a = c.args in
    let long = same_width true a.site.text.now i j a.from a.to lies
    (c.requires.order, omega (arith, c.requires.inside, c.requires.fits)) same in
    elim (cases_lt i c.loop-place.place) [
      | inl low ↦ c.loop-place.invariant i j on low fits lies same
      | inr past ↦ absurd (omega (arith, long, lies.0))
    ]

pub loop-place-preserved : goal.loop-place-preserved
loop-place-preserved c = λ i j on low fits lies same.
    let a = c.args in
    let s = a.site.text.now in
    let place = c.loop-place.place in
    let long = same_width true s i j a.from a.to lies
    (c.requires.order, omega (arith, c.requires.inside, c.requires.fits)) same in
    elim (cases_lt i place) [
      | inl before ↦ c.loop-place.invariant i j on before fits lies same
      | inr past ↦
          true≢false (sym (c.is_like.ensures.1
          (subst (λ k. map to_ascii_lowercase (take ((place + (a.to - a.from)) - place) (drop k s))
          ≡ map to_ascii_lowercase (part s a.from a.to)) (omega (arith, low, past))
          (subst (λ n. map to_ascii_lowercase (take n (drop i s)) ≡ map to_ascii_lowercase (part s a.from a.to))
          (omega (arith, long)) same))) ∙ c.if-is_like.false)
    ]

pub returns-clause-none : goal.returns-clause-none
returns-clause-none c = λ e i j on fits lies. c.loop-place.invariant i j on (omega (arith, lies.0)) fits lies
