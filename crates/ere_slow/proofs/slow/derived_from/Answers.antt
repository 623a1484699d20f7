use Rattle.std.proofs.Common.{◌≡◌, sym, ap, ◌∙◌, subst}
use Rattle.std.specs.FinMap.{empty}
use Rattle.ere_tree.specs.View.{view}
use Rattle.ere_slow.proofs.SlowLemmas.{none_derives, none_before, here_or_none}
use Rattle.ere_slow.proofs.slow.derived_from.Goals as goal

pub returns-then-not-may_begin : goal.returns-then-not-may_begin
returns-then-not-may_begin c =
    none_before c.args.slice.now (view c.args.ere.now) c.args.start c.requires
    (λ k v d shows. c.may_begin.ensures c.if-not-may_begin.true v k empty d shows)

pub returns : goal.returns
returns c =
    here_or_none c.args.slice.now (view c.args.ere.now) c.args.start c.in_ok-derivations.field-0.items
    c.most_preferred.result c.requires c.in_ok-derivations.ensures.sound c.in_ok-derivations.ensures.complete
    c.most_preferred.ensures
