use Rattle.std.proofs.Common.{sym, rules, tests, ◌∙◌}
use Rattle.std.proofs.lemmas.Iterator.{YieldsList-from_slice}
use Rattle.std.proofs.lemmas.Iterator.Search.{any_from_yields_List}
use Rattle.std.specs.Str.{bytes_eq}
use Rattle.lit_suite.proofs.KeyLemmas.{any_of_map}
use Rattle.lit_suite.proofs.tables.is_key_of.Goals as goal

pub returns : goal.returns
returns c =
    any_from_yields_List (λ one. bytes_eq one.now c.args.key.now) _ _ _ c.any.ensures.ran
    (YieldsList-from_slice c.args.keys.now (cc)) (λ x b q k. search (rules, tests))
    ∙ sym (any_of_map (λ one. bytes_eq one c.args.key.now) (λ one. one.now) c.args.keys.now)
