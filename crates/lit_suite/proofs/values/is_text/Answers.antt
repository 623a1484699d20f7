use Rattle.std.proofs.Common.{not, ap, rules, tests}
use Rattle.std.proofs.lemmas.Iterator.{YieldsList-from_slice}
use Rattle.std.proofs.lemmas.Iterator.Search.{any_from_yields_List}
use Rattle.lit_suite.specs.Values.{is_break}
use Rattle.lit_suite.proofs.values.is_text.Goals as goal

pub returns : goal.returns
returns c =
    ap not (any_from_yields_List is_break _ _ _ c.any.ensures.ran (YieldsList-from_slice c.args.bytes.now (cc))
    (λ x b q k. search (rules, tests)))
