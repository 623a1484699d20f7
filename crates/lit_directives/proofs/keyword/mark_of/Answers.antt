use Rattle.std.proofs.Common.{◌≡◌, None, drop, length, length-drop, sym, ap, ◌∙◌, arith}
use Rattle.lit_directives.specs.Keyword.{mark_at}
use Rattle.lit_directives.proofs.KeywordLemmas.{behind_next, least_here, marked_here, marked_later, marked_never, none_so_far, rest_of}
use Rattle.lit_directives.proofs.keyword.mark_of.Goals as goal

pub returns-in-Some : goal.returns-in-Some
returns-in-Some c =
    let line = c.args.line.now in
    let at = c.loop-at.at in
    let behind = c.loop-at.behind_word in
    let here = ap (mark_at behind at) (sym (rest_of line at)) ∙ sym c.mark_at.ensures.value ∙ c.in-Some.is in
    let fits = ap length (rest_of line at) ∙ length-drop at line in
    record {
      least = least_here line behind at c.loop-at-test.true c.loop-at.invariant.behind c.loop-at.invariant.none
          c.in-Some.mark here;
      value = sym (marked_here behind line at c.in-Some.mark c.loop-at-test.true here) ∙ c.loop-at.invariant.same;
      within = omega (arith, c.in-Some.ensures.within.0, c.in-Some.ensures.within.1, fits);
    }

pub loop-at-preserved : goal.loop-at-preserved
loop-at-preserved c =
    let line = c.args.line.now in
    let at = c.loop-at.at in
    let behind = c.loop-at.behind_word in
    let none : mark_at behind at (drop at line) ≡ None =
    ap (mark_at behind at) (sym (rest_of line at)) ∙ sym c.mark_at.ensures.value ∙ c.in-None.is in
    record {
      behind = c.is_word-behind_word.ensures ∙ behind_next line at;
      none = none_so_far line behind at c.loop-at-test.true c.loop-at.invariant.behind c.loop-at.invariant.none none;
      same = rw c.is_word-behind_word.ensures
          (sym (marked_later behind line at c.loop-at-test.true none) ∙ c.loop-at.invariant.same);
    }

pub returns-clause-value : goal.returns-clause-value
returns-clause-value c =
    sym (marked_never c.loop-at.behind_word c.args.line.now c.loop-at.at c.loop-at-test.false) ∙ c.loop-at.invariant.same

pub returns-clause-least : goal.returns-clause-least
returns-clause-least c = λ at keyword below. c.loop-at.invariant.none at keyword (omega (arith, below, c.loop-at-test.false))
