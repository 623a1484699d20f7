use Rattle.std.proofs.Common.{length, map, ap, ◌∙◌}
use Rattle.std.specs.List.{slice_split}
use Rattle.tt_base.specs.Place.{is_newline}
use Rattle.input_dump.proofs.BeginLemmas.{begun}
use Rattle.input_dump.specs.Dump.{counted, mark_line, width_of}
use Rattle.input_dump.specs.declared.subject.Subject.{Subject}
use Rattle.input_dump.proofs.rows.Rows.new.Goals as goal

pub invariant_of-result : goal.invariant_of-result
invariant_of-result c =
    let text = c.args.text.now in
    let s : Subject =
    record { text = c.args.text; shown = c.args.shown.now; order = c.in-Ok.order; lines = c.in-Ok-lines_of.lines.all; marked = c.ends_marked-marked.result; width = c.in_ok-width.width } in
    let new = begun s c.args.marks.now (record {
      short = c.requires.short;
      order = c.in-Ok.ensures.exact;
      within = c.in-Ok.ensures.within;
      ascending = c.in-Ok.ensures.ascending;
      lines = c.in-Ok-lines_of.ensures.exact ∙ ap (map (λ mark. mark_line text mark.now)) c.as_slice.ensures.value;
      marked = c.ends_marked-marked.ensures;
      width = c.in_ok-width.ensures.exact ∙ ap width_of (c.line_count-count.ensures.exact
          ∙ ap (λ m. length (counted m (slice_split is_newline text))) c.ends_marked-marked.ensures);
      narrow = c.in_ok-width.ensures.small;
    }) in
    (new.subject, new.follows)

pub returns : goal.returns
returns c =
    let text = c.args.text.now in
    let s : Subject =
    record { text = c.args.text; shown = c.args.shown.now; order = c.in-Ok.order; lines = c.in-Ok-lines_of.lines.all; marked = c.ends_marked-marked.result; width = c.in_ok-width.width } in
    let new = begun s c.args.marks.now (record {
      short = c.requires.short;
      order = c.in-Ok.ensures.exact;
      within = c.in-Ok.ensures.within;
      ascending = c.in-Ok.ensures.ascending;
      lines = c.in-Ok-lines_of.ensures.exact ∙ ap (map (λ mark. mark_line text mark.now)) c.as_slice.ensures.value;
      marked = c.ends_marked-marked.ensures;
      width = c.in_ok-width.ensures.exact ∙ ap width_of (c.line_count-count.ensures.exact
          ∙ ap (λ m. length (counted m (slice_split is_newline text))) c.ends_marked-marked.ensures);
      narrow = c.in_ok-width.ensures.small;
    }) in
    new.exact
