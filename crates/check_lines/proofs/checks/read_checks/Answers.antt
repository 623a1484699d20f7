use Rattle.std.proofs.Common.{◌≡◌, ℕ, Bool, List, Result, Ok, Err, MatchResult, length, inr, subst, sym}
use Rattle.check_lines.specs.Checks.{AreDirectives, Completes, IsDueRefusal, complete}
use Rattle.check_lines.specs.declared.directive.Directive.{Directive}
use Rattle.check_lines.specs.declared.fault.CheckFail.{CheckFail}
use Rattle.check_lines.specs.declared.fault.CheckFail.TheVariants.{Bad, NoMemory}
use Rattle.check_lines.proofs.checks.read_checks.Goals as goal

-- what lines hold is all, or is refused because of it
completed : (checks comments : List (List ℕ)) (allow keep may_lack : Bool) (text : List ℕ) (directives : List Directive)
    (result : Result (List Directive) CheckFail) → AreDirectives checks comments keep text directives
    → Completes (complete allow may_lack (length checks) directives) directives result
    → MatchResult result (AreDirectives checks comments keep text) (IsDueRefusal checks comments allow keep may_lack text)
completed checks comments allow keep may_lack text directives (Ok same) are value =
    subst (AreDirectives checks comments keep text) (sym value.0) are
completed checks comments allow keep may_lack text directives (Err (Bad fault)) are value = inr (directives, are, value)
completed checks comments allow keep may_lack text directives (Err NoMemory) are value = tt

pub returns-clause-by_lines : goal.returns-clause-by_lines
returns-clause-by_lines c =
    let rules = c.args.rules.now in
    let text = c.args.text.now in
    let held = c.in_ok-directives.directives in
    completed rules.checks.now rules.comments.now rules.allow_unused rules.keep_blanks rules.may_lack text held
    c.complete.result
    (subst (λ checks. AreDirectives checks rules.comments.now rules.keep_blanks text held) c.in_ok-new.ensures
    (subst (λ comments. AreDirectives c.in_ok-new.field-0.prefixes.now comments rules.keep_blanks text held)
    c.in_ok-new-2.ensures c.in_ok-directives.ensures.by_lines))
    c.complete.ensures.value
