use Rattle.std.proofs.Common.{sym, ◌∙◌}
use Rattle.tt_outside.proofs.ListingLemmas.{first_part_found, first_part_none}
use Rattle.tt_outside.proofs.listing.first_part.Goals as goal

pub returns-in-Some : goal.returns-in-Some
returns-in-Some c = sym (first_part_found c.args.path.now c.in-Some.at (sym c.slash_in.ensures ∙ c.in-Some.is))

pub returns-in-None : goal.returns-in-None
returns-in-None c = sym (first_part_none c.args.path.now (sym c.slash_in.ensures ∙ c.in-None.is))
