-- What stands on a line, and what a directive's mistake has to do with it.
use Rattle.std.proofs.Common.{ℕ, ◌+◌, ◌≤◌, Option, None, Some, Result, Ok, Err, arith}
use Rattle.std.specs.Prelude.{IfSome}
use Rattle.tt_base.specs.declared.place.Place.{Place}
use Rattle.check_lines.specs.Line.{IsOnLine, LiesOnLine}
use Rattle.check_lines.specs.declared.directive.Directive.{Directive}
use Rattle.check_lines.specs.declared.fault.CheckFault.{CheckFault}
use Rattle.check_lines.specs.declared.fault.LineFault.{LineFault}

on_later : (number start end most at : ℕ) (place : Place) → end ≤ most → IsOnLine number start end at place
    → IsOnLine number start most at place
on_later number start end most at place more on =
    record { line = on.line; col = on.col; low = on.low; high = omega (arith, on.high, more) }

-- what stands on the front of a line stands on it
pub lies_later : (number start end most : ℕ) (reading : Result (Option Directive) CheckFault) → end ≤ most
    → LiesOnLine number start end reading → LiesOnLine number start most reading
lies_later number start end most (Ok None) more lies = tt
lies_later number start end most (Ok (Some one)) more lies = (
  on_later number start end most one.at _ more lies.0,
  on_later number start end most one.body.from _ more lies.1,
  omega (arith, lies.2, more),
)
lies_later number start end most (Err fault) more lies = on_later number start end most fault.at fault.place more lies

-- an offset of the line is one of the text
pub mistake_within : (mistake : Option (ℕ × LineFault)) (start length most : ℕ) → start + length ≤ most
    → IfSome mistake (λ mistake. mistake.0 ≤ length) → IfSome mistake (λ mistake. start + mistake.0 ≤ most)
mistake_within None start length most fits within = tt
mistake_within (Some mistake) start length most fits within = omega (arith, fits, within)
