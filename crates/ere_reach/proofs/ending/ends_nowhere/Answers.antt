use Rattle.std.proofs.Common.{sym, ◌∙◌, arith}
use Rattle.std.proofs.lemmas.List.{nil_from_length}
use Rattle.ere_tree.specs.View.{view}
use Rattle.ere_reach.proofs.EndingLemmas.{nowhere_told}
use Rattle.ere_reach.proofs.ending.ends_nowhere.Goals as goal

pub returns : goal.returns
returns c = λ none.
    nowhere_told (record { alloc = c.args.alloc; text = c.args.text; low = c.args.span.from; high = c.args.span.to })
    (view c.args.ere.now) c.in_ok-found.found c.args.places.now c.in_ok-found.ensures
    (nil_from_length c.in_ok-found.found.rows.items (sym c.len-2.ensures ∙ grind (arith, none)))
