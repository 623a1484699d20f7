use Rattle.std.proofs.Common.{refl, arith, [], ◌≡◌, ◌+◌, ◌++◌, ◌∙◌, length, drop, get_or, ap, sym, subst, length-append, true, false}
use Rattle.std.specs.Io.KnownBytes.{Appends}
use Rattle.tt_outside.specs.Faults.{Rose}
use Rattle.std.proofs.lemmas.List.{drop_all, append-nil}
use Rattle.tt_run.specs.Parts.{joined}
use Rattle.tt_run.proofs.PartsLemmas.{appends_nothing, joined_from, length_parts, part_stopped, part_written, past_room}
use Rattle.tt_run.proofs.parts.write_parts.Goals as goal

pub loop-part-init : goal.loop-part-init
loop-part-init g c = ([], refl, appends_nothing _, refl, λ fits. omega arith)

pub loop-part-preserved : goal.loop-part-preserved
loop-part-preserved g c =
    let kept = c.loop-part.invariant in
    let parts = c.args.parts.now in
    let part = (get_or parts c.loop-part.part-index (record { ref_ptr = (0, 0); now = [] })).now in
    let rest = joined (drop (c.loop-part.part-index + 1) parts) in
    let whole : kept.0 ++ (part ++ rest) ≡ joined parts =
    ap (λ rest. kept.0 ++ rest) (sym (joined_from parts c.loop-part.part-index (record { ref_ptr = (0, 0); now = [] }) c.loop-part-test.true))
    ∙ kept.1 in
    let next = part_written _ _ _ kept.0 part rest (joined parts) whole kept.2 c.in-Ok.ensures.ok in
    let sizes = length_parts kept.0 part rest (joined parts) whole in (
      kept.0 ++ part,
      next.0,
      next.1,
      c.in-Ok.ensures.cause.calm ∙ kept.3,
      λ fits. let before = kept.4 fits in
          let now = c.in-Ok.ensures.roomy (omega (arith, sizes, before, fits)) in
          omega (arith, before, now.1, length-append kept.0 part),
    )

pub returns-in-Err-clause-stopped : goal.returns-in-Err-clause-stopped
returns-in-Err-clause-stopped g c =
    let kept = c.loop-part.invariant in
    let parts = c.args.parts.now in
    let part = (get_or parts c.loop-part.part-index (record { ref_ptr = (0, 0); now = [] })).now in
    let rest = joined (drop (c.loop-part.part-index + 1) parts) in
    let whole : kept.0 ++ (part ++ rest) ≡ joined parts =
    ap (λ rest. kept.0 ++ rest) (sym (joined_from parts c.loop-part.part-index (record { ref_ptr = (0, 0); now = [] }) c.loop-part-test.true))
    ∙ kept.1 in
    let sizes = length_parts kept.0 part rest (joined parts) whole in (
      part_stopped _ _ _ kept.0 part rest (joined parts) whole kept.2 c.in-Err.ensures.err,
      subst (λ before. Rose before (g.E.Sink.faults c.write_all.new.sink)) kept.3 c.in-Err.ensures.cause.failed,
      past_room (g.E.Sink.room c.args.err.now) (length (joined parts))
          (λ fits. let before = kept.4 fits in
          let failed : false ≡ true = (c.in-Err.ensures.roomy (omega (arith, sizes, before, fits))).0 in cc),
    )

pub returns-clause-taken : goal.returns-clause-taken
returns-clause-taken g c =
    let kept = c.loop-part.invariant in
    let over = drop_all c.loop-part.part-index c.args.parts.now c.loop-part-test.false in
    let done : kept.0 ≡ joined c.args.parts.now =
    sym (append-nil kept.0) ∙ ap (λ rest. kept.0 ++ joined rest) (sym over) ∙ kept.1 in
    (subst (Appends (g.E.Sink.held c.args.err.now) (g.E.Sink.held c.loop-part.err)) done kept.2, kept.3)
