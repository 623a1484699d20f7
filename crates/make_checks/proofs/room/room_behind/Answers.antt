use Rattle.std.proofs.Common.{length, ap, arith, length-append}
use Rattle.std.specs.List.{flat_map}
use Rattle.file_laws.specs.Made.{made_line}
use Rattle.make_checks.specs.Directives.{directive_text, text_left}
use Rattle.make_checks.proofs.room.room_behind.Goals as goal

pub loop-directive-preserved : goal.loop-directive-preserved
loop-directive-preserved c =
    let lead = c.args.lead.now in
    let line = made_line lead (directive_text c.in-Some.directive) in
    omega (
      arith,
      c.loop-directive.invariant,
      ap (λ t. length (flat_map (made_line lead) t)) c.in-Some.ensures,
      length-append line (text_left lead c.in-Some.later),
      c.in-Some-room_behind_line.ensures.0,
      c.in-Some-room_behind_line.ensures.1,
    )

pub returns-in-None : goal.returns-in-None
returns-in-None c fits =
    let lead = c.args.lead.now in
    let line = made_line lead (directive_text c.in-Some.directive) in
    omega (
      arith,
      fits,
      c.loop-directive.invariant,
      ap (λ t. length (flat_map (made_line lead) t)) c.in-Some.ensures,
      length-append line (text_left lead c.in-Some.later),
      c.in-None.ensures,
    )
