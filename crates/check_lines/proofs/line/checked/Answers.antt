use Rattle.std.proofs.Common.{◌≤◌, ◌+◌, ◌^◌, ap, arith, length, length-drop, Ok, Some}
use Rattle.check_lines.proofs.CanonLemmas.{rest_of}
use Rattle.check_lines.proofs.LineLemmas.{lies_later, mistake_within}
use Rattle.check_lines.proofs.line.checked.Goals as goal

pub unless_mistaken-requires : goal.unless_mistaken-requires
unless_mistaken-requires c =
    mistake_within c.mistake.result c.args.place.start (length c.args.line.now) (2 ^ 30) c.requires.fits
    (c.mistake.ensures.lies (length c.args.line.now) (omega (arith, c.requires.ordered, c.requires.within)) c.requires.within
    c.body_start-from.ensures.within)

pub returns-clause-lies : goal.returns-clause-lies
returns-clause-lies c =
    let line = c.args.line.now in
    let start = c.args.place.start in
    let from = c.body_start-from.result in
    let count = c.body_length-count.result in
    let within : start + from + count ≤ start + length line =
    omega (
      arith,
      c.body_length-count.ensures.within,
      ap length (rest_of line from),
      length-drop from line,
      c.body_start-from.ensures.within,
    ) in
    c.unless_mistaken.ensures.lies (start + length line)
    (lies_later c.args.place.number start (start + from + count) (start + length line) (Ok (Some c.directive-one.result)) within
    c.directive-one.ensures.lies)
    (mistake_within c.mistake.result start (length line) (start + length line) (omega arith)
    (c.mistake.ensures.lies (length line) (omega (arith, c.requires.ordered, c.requires.within)) c.requires.within
    c.body_start-from.ensures.within))
