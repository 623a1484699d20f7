use Rattle.std.proofs.Common.{◌+◌, length, refl, sym, subst}
use Rattle.ere_tree.specs.Hit.{TellsHit}
use Rattle.pattern_hits.proofs.PlainLemmas.{found_none, found_some}
use Rattle.pattern_hits.proofs.plain.find_text.Goals as goal

pub returns-in-Some : goal.returns-in-Some
returns-in-Some c = λ t is.
    let from = c.args.from in
    let i = c.in-Some.found in
    let count = length c.args.needle.now in
    subst (λ groups. TellsHit c.args.text.now t from (record { from = from + i; to = from + i + count; groups = groups }))
    (sym c.new.ensures)
    (found_some c.args.text.now c.args.needle.now c.split_at.result.1.now from (length c.split_at.result.1.now) i t
    c.split_at.ensures.back refl c.in-Some.ensures.1 c.in-Some.ensures.2 is)

pub returns-in-None : goal.returns-in-None
returns-in-None c = λ t is.
    found_none c.args.text.now c.args.needle.now c.split_at.result.1.now c.args.from (length c.split_at.result.1.now) t
    c.split_at.ensures.back refl c.in-None.ensures is
