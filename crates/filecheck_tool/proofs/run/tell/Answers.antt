use Rattle.std.proofs.Common.{codes, subst}
use Rattle.tt_run.specs.Frame.{cannot_write}
use Rattle.tt_run.specs.Run.{Written, stream_of}
use Rattle.filecheck_tool.proofs.run.tell.Goals as goal

pub returns-in-Ok-clause-written : goal.returns-in-Ok-clause-written
returns-in-Ok-clause-written g c told =
    let out = stream_of g.O.Sink c.args.out.now c.write.new.out in
    let err = stream_of g.E.Sink c.args.err.now c.write.new.err in
    subst (λ answer. Written (cannot_write (codes "filecheck")) answer c.write.result out err) c.in-Ok.ensures.value c.write.ensures.written
