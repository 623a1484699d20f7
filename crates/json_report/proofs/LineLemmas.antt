-- What was read of some entries, and of those that are left, is what is read of all.
use Rattle.std.proofs.Common.{◌≡◌, List, [], ◌∷◌, ◌++◌, Result, Ok, Err, refl, ap, append_assoc, append-nil}
use Rattle.json_report.specs.Reading.{before}
use Rattle.json_report.specs.declared.line.Line.{Line}
use Rattle.json_report.specs.declared.line.ReportFault.{ReportFault}

-- what was read, before what is read of the rest
abbrev pub with_front : List Line → Result (List Line) ReportFault → Result (List Line) ReportFault
with_front read (Ok more) = Ok (read ++ more)
with_front read (Err fault) = Err fault

pub front_none : (rest : Result (List Line) ReportFault) → with_front [] rest ≡ rest
front_none (Ok more) = refl
front_none (Err fault) = refl

pub front_more : (read : List Line) (line : Line) (rest : Result (List Line) ReportFault)
    → with_front (read ++ line ∷ []) rest ≡ with_front read (before line rest)
front_more read line (Ok more) = ap Ok (append_assoc read (line ∷ []) more)
front_more read line (Err fault) = refl

pub front_all : (read : List Line) → with_front read (Ok []) ≡ Ok read
front_all read = ap Ok (append-nil read)
