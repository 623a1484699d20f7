use Rattle.std.proofs.Common.{◌≡◌, ◌<◌, ◌-◌, None, get_or, refl, sym, ◌∙◌, subst, arith}
use Rattle.std.specs.FinMap.{get}
use Rattle.ere_captures.proofs.GreatestLemmas.{only_one}
use Rattle.ere_refs.proofs.HeldLemmas.{at_held, same_held}
use Rattle.ere_refs.proofs.live.agree_on.Goals as goal

pub returns : goal.returns
returns c = λ same start d e one other n has.
    let number = c.args.number in
    let is : n ≡ number = only_one number n has in
    let some : 0 < number = omega (arith, c.if-index-eq0.false) in
    let left = at_held start d number c.args.one.now None (get_or c.args.one.now (number - 1) None) some c.if-index-one.false
    one refl in
    let right = at_held start e number c.args.other.now None (get_or c.args.other.now (number - 1) None) some
    c.if-index-other.false other refl in
    subst (λ k. get d k ≡ get e k) (sym is) (same_held start d e number (left ∙ c.is_same.ensures same ∙ sym right))
