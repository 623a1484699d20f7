use Rattle.std.proofs.Common.{◌≡◌, length, ◌∙◌, rules}
use Rattle.memchr.specs.Find.{places}
use Rattle.memchr.proofs.lemmas.CallerLemmas.{length-places}
use Rattle.tt_base.specs.Place.{is_newline}
use Rattle.check_group.proofs.lines.newline_count.Goals as goal

pub returns : goal.returns
returns c =
    let counted : c.count.result ≡ length (places is_newline c.args.text.now) = search rules in
    counted ∙ length-places is_newline c.args.text.now
