use Rattle.std.proofs.Common.{◌||◌, ◌∙◌, ◌∷◌, ap, is_some, sym}
use Rattle.std.specs.Str.{bytes_eq}
use Rattle.json_report.specs.Changes.{both_at}
use Rattle.json_report.proofs.ReportLemmas.{at_place, seen_more, twice_more}
use Rattle.json_report.proofs.reading.twice.Goals as goal

pub loop-place-preserved : goal.loop-place-preserved
loop-place-preserved c =
    let (paths, seen, rest) = c.loop-place.invariant in
    let line = c.index-lines-place.result in (
      line.path ∷ paths,
      (λ path. ap (λ known. is_some (both_at known path)) c.in_ok-put_old.ensures.put
          ∙ seen_more c.loop-place.paths line.path path _ ∙ ap (λ b. bytes_eq path line.path || b) (seen path)),
      sym (twice_more c.loop-place.place paths line _ _ (at_place c.args.lines.now c.loop-place.place line c.loop-place-test.true c.index-lines-place.is)
          (sym (seen line.path) ∙ ap is_some (sym c.in_ok-put_old.ensures.had) ∙ sym c.is_some.ensures ∙ c.if-is_some.false)) ∙ rest,
    )
