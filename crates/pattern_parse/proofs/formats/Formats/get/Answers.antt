use Rattle.std.proofs.Common.{sym, ap, ◌∙◌}
use Rattle.std.specs.FinMap as map
use Rattle.std.specs.Option.{option_flatten}
use Rattle.pattern_parse.proofs.FormatsLemmas.{format_under}
use Rattle.pattern_parse.proofs.formats.Formats.get.Goals as goal

pub returns : goal.returns
returns c =
    c.flatten.ensures ∙ ap option_flatten (c.copied.ensures ∙ c.get.ensures.value)
    ∙ sym (format_under c.self.inside.held.entries c.args.name.now)
    ∙ ap (λ m. map.get m c.args.name.now) c.self.view_is
