use Rattle.std.proofs.Common.{map, arith}
use Rattle.ere_tree.specs.Tree.{cat, trees_of}
use Rattle.ere_tree.specs.View.{view}
use Rattle.pattern_hits.proofs.PlainLemmas.{all_parts, one_part}
use Rattle.pattern_hits.proofs.plain.all_text.Goals as goal

pub loop-part-preserved : goal.loop-part-preserved
loop-part-preserved c =
    one_part c.args.parts.now c.loop-part.part-index c.part-item.result c.in-Some.run'.now c.loop-part.text
    c.append.new.self (cat (trees_of (map view c.args.parts.now))) c.loop-part-test.true c.part-item.is
    c.in-Some.ensures c.in_ok-append.ensures.ok c.loop-part.invariant

pub returns : goal.returns
returns c =
    all_parts c.args.parts.now c.loop-part.part-index c.loop-part.text (cat (trees_of (map view c.args.parts.now)))
    (omega (arith, c.loop-part-test.false)) c.loop-part.invariant
