use Rattle.std.proofs.Common.{[], ◌∷◌, ◌++◌, codes, map, sym, ap, ◌∙◌}
use Rattle.std.specs.List.{slice_split}
use Rattle.tt_base.specs.Place.{is_newline}
use Rattle.quote_laws.specs.Quote.{body_of}
use Rattle.make_checks.proofs.DirectiveLemmas.{first_left, further_left}
use Rattle.file_laws.specs.Made.{next_of}
use Rattle.make_checks.specs.Directives.{directive_text, directives_left, last_not}
use Rattle.make_checks.specs.Made.{lines_behind}
use Rattle.make_checks.proofs.directives.parted.Goals as goal

pub returns-in-First : goal.returns-in-First
returns-in-First c =
    let line = c.first_line.result.0.now in
    ap directives_left c.in-First.is
    ∙ first_left (slice_split is_newline c.in-First.lines.now) (lines_behind c.first_line.result.1) line c.first_line.ensures.split
    ∙ ap (λ l. (codes "CHECK: " ++ body_of line) ∷ l) (sym c.behind.ensures)

pub returns-in-Further : goal.returns-in-Further
returns-in-Further c =
    let line = c.first_line-in-Further.result.0.now in
    let rest = lines_behind c.first_line-in-Further.result.1 in
    ap directives_left c.in-Further.is
    ∙ further_left (slice_split is_newline c.in-Further.lines.now) rest line c.first_line-in-Further.ensures.split
    ∙ ap (λ l. l ∷ (map next_of rest ++ last_not ∷ [])) (sym c.next_of.ensures)
    ∙ ap (λ l. directive_text c.next_of.result ∷ l) (sym c.behind-in-Further.ensures)
