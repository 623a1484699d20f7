use Rattle.std.proofs.Common.{arith}
use Rattle.quote_laws.specs.Quote.{body_of, quote}
use Rattle.make_checks.proofs.DirectiveLemmas.{room_left}
use Rattle.make_checks.proofs.QuoteLemmas.{body_length}
use Rattle.make_checks.proofs.room.room_behind_body.Goals as goal

pub returns : goal.returns
returns c =
    let line = c.args.line.now in
    room_left (body_of line) (quote line) c.args.room c.in_ok-behind.behind c.room_behind_quoted.result
    (omega (arith, body_length line, c.in_ok-behind.ensures.0, c.in_ok-behind.ensures.1)) c.room_behind_quoted.ensures
