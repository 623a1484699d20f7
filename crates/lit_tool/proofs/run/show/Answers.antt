use Rattle.std.proofs.Common.{refl}
use Rattle.lit_words.specs.Asked.{wanted}
use Rattle.tt_run.specs.Run.{stream_of}
use Rattle.lit_tool.specs.Run.{tree}
use Rattle.lit_tool.proofs.NameLemmas.{shows_names, shows_stop}
use Rattle.lit_tool.proofs.run.show.Goals as goal

pub returns-in-Ok-Ok-clause-shows : goal.returns-in-Ok-Ok-clause-shows
returns-in-Ok-Ok-clause-shows g c =
    shows_names (tree g.T.Tree c.args.from.now c.names_from.new.from)
    (wanted c.args.asked.now) _ c.in-Ok-Ok.names c.write_names.result
    (stream_of g.O.Sink c.args.out.now c.write_names.new.out)
    (stream_of g.E.Sink c.args.err.now c.write_names.new.err) c.in-Ok-Ok.field-0-is
    c.in-Ok-Ok.ensures.value (rw c.as_slice.ensures at c.write_names.ensures)

pub returns-in-Ok-Err-clause-shows : goal.returns-in-Ok-Err-clause-shows
returns-in-Ok-Err-clause-shows g c =
    shows_stop (tree g.T.Tree c.args.from.now c.names_from.new.from)
    (wanted c.args.asked.now) _ c.in-Ok-Err.stop c.refuse.result
    (stream_of g.O.Sink c.args.out.now c.args.out.now)
    (stream_of g.E.Sink c.args.err.now c.refuse.new.err) c.in-Ok-Err.field-0-is
    c.in-Ok-Err.ensures.value (refl, refl) c.refuse.ensures
