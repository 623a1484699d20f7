use Rattle.std.proofs.Common.{ap, sym, ◌∙◌}
use Rattle.ere_tree.specs.View.{view}
use Rattle.pattern_scan.proofs.SeekLemmas.{span_sought, spanned}
use Rattle.pattern_scan.proofs.ready.seek_span.Goals as goal

pub returns-in-Some-clause-value : goal.returns-in-Some-clause-value
returns-in-Some-clause-value g c = λ fold.
    c.found_part.ensures ∙ sym (ap spanned c.in-Some.is)
    ∙ span_sought fold c.args.text.now c.args.from (view c.args.ere.now) c.in_ok-span.field-0 c.in_ok-span.ensures.span

pub returns-in-None-clause-value : goal.returns-in-None-clause-value
returns-in-None-clause-value g c = λ fold.
    sym (ap spanned c.in-None.is)
    ∙ span_sought fold c.args.text.now c.args.from (view c.args.ere.now) c.in_ok-span.field-0 c.in_ok-span.ensures.span
