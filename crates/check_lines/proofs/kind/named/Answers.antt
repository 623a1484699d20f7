use Rattle.std.proofs.Common.{◌≡◌, ◌∙◌, false, get_or, ap, sym}
use Rattle.tt_base.specs.Occurrence.{begins_with}
use Rattle.check_lines.specs.Kind.{suffix_of, suffixed}
use Rattle.check_lines.specs.declared.kind.Kind.{Kind}
use Rattle.check_lines.specs.declared.kind.Kind.TheVariants.{Plain}
use Rattle.check_lines.proofs.KindLemmas.{find_more}
use Rattle.check_lines.proofs.kind.named.Goals as goal

pub loop-kind-preserved : goal.loop-kind-preserved
loop-kind-preserved c =
    let text = c.args.text.now in
    let k = c.loop-kind.kind-index in
    let no : begins_with text (suffix_of (get_or suffixed k Plain)) ≡ false =
    ap (begins_with text) (sym c.row_of.ensures.suffix) ∙ sym c.starts_with.ensures.value ∙ c.if-starts_with.false in
    find_more (λ (kind : Kind). begins_with text (suffix_of kind)) suffixed k Plain c.loop-kind-test.true no ∙ c.loop-kind.invariant
