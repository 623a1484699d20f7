use Rattle.std.proofs.Common.{inl, inr, subst}
use Rattle.tt_run.specs.Frame.{cannot_write}
use Rattle.tt_run.specs.Run.{Written, stream_of}
use Rattle.filecheck_messages.proofs.telling.Telling.write.Goals as goal

pub returns-clause-written : goal.returns-clause-written
returns-clause-written g c =
    let out = stream_of g.O.Sink c.args.out.now c.write_text.new.sink in
    let err = stream_of g.E.Sink c.args.err.now c.write_told.new.err in
    subst (λ answer. Written (cannot_write c.args.frame.name.now) answer c.write_told.result out err) c.self.view_is
    (inl (c.in-Ok.ensures.ends, c.write_told.ensures.answered))

pub returns-in-Err-clause-written : goal.returns-in-Err-clause-written
returns-in-Err-clause-written g c =
    let out = stream_of g.O.Sink c.args.out.now c.write_text.new.sink in
    let err = stream_of g.E.Sink c.args.err.now c.cannot_write.new.err in
    subst (λ answer. Written (cannot_write c.args.frame.name.now) answer c.cannot_write.result out err) c.self.view_is
    (inr (c.cannot_write.ensures.status, c.in-Err.ensures.ends, c.cannot_write.ensures.told))
