use Rattle.std.proofs.Common.{ℕ, List, sym, subst, inl, inr, arith, take_all}
use Rattle.std.specs.List.{Contains}
use Rattle.ere_places.proofs.ListLemmas.{taken}
use Rattle.ere_refs.proofs.ends.last_of.Goals as goal

pub loop-place-preserved : goal.loop-place-preserved
loop-place-preserved c = λ q has. elim ((taken c.args.places.now c.loop-place.place-index c.loop-place-test.true q).0 has) [
  | inl before ↦ let low = c.loop-place.invariant q before in omega (arith, low, c.max-last.ensures)
  | inr is ↦ omega (arith, is, c.max-last.ensures)
]

pub returns : goal.returns
returns c = λ q has.
    c.loop-place.invariant q
    (subst (λ (xs : List ℕ). Contains xs q)
    (sym (take_all c.loop-place.place-index c.args.places.now (omega (arith, c.loop-place-test.false)))) has)
