use Rattle.std.proofs.Common.{◌∷◌, map, arith}
use Rattle.std.proofs.lemmas.Bool.Decides.{nat_tests}
use Rattle.std.proofs.lemmas.Option.{IfSome_then}
use Rattle.ere_tree.specs.View.{view}
use Rattle.ere_captures.proofs.EndsLemmas.{last_end, only_is_greatest}
use Rattle.ere_captures.proofs.WalkLemmas.{all_is_part}
use Rattle.ere_captures.proofs.ends.told_end.Goals as goal

pub only_end-requires : goal.only_end-requires
only_end-requires c =
    let lies = all_is_part c.args.text.now (view c.args.first.now ∷ map view c.args.others.now) c.args.from c.args.to
    c.requires.span in omega (arith, lies.0, lies.1)

pub returns-then-is_empty : goal.returns-then-is_empty
returns-then-is_empty c =
    last_end c.args.text.now (view c.args.first.now) c.args.others.now c.args.from c.args.to
    (grind (arith, nat_tests, c.is_empty.ensures, c.if-is_empty.true)) c.requires.span

pub returns-else-is_empty : goal.returns-else-is_empty
returns-else-is_empty c =
    IfSome_then c.only_end.result c.only_end.ensures (λ end. only_is_greatest c.args.text.now (view c.args.first.now)
    (map view c.args.others.now) c.args.from c.args.to end c.requires.no_refs c.requires.span)
