use Rattle.std.proofs.lemmas.Result.{on_ok_weaker}
use Rattle.ere_reach.proofs.FrameLemmas.{framed_itself}
use Rattle.ere_reach.proofs.reach.put_framed.Goals as goal

pub returns-then-is_empty : goal.returns-then-is_empty
returns-then-is_empty c =
    let f = c.args.frame in
    let inside = c.args.inside.now in
    on_ok_weaker c.put_closed.result (λ puts. (
      inside,
      framed_itself f.own.now f.others.now f.held.now inside (c.is_empty.ensures c.if-is_empty.true),
      puts,
    )) c.put_closed.ensures
