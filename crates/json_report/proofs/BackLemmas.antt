-- The text of a report's value, with a newline, is read as its tests, where their paths differ.
use Rattle.std.proofs.Common.{◌≡◌, ℕ, ◌-◌, ◌==◌, ◌++◌, true, List, [], ◌∷◌, length, None, Some, Ok, refl, ◌∙◌, arith}
use Rattle.std.proofs.lemmas.Bool.Decides.{Decides-eqb}
use Rattle.std.proofs.lemmas.List.{length-append, take_at}
use Rattle.std.proofs.lemmas.Slice.Eq.{ends_is}
use Rattle.std.specs.List.{ends_with}
use Rattle.std.specs.Str.{IsUtf8}
use Rattle.serde_json.specs.Read.{read}
use Rattle.json_report.specs.Reading.{report_in, twice_from, unended}
use Rattle.json_report.specs.Report.{report_data}
use Rattle.json_report.specs.declared.line.Line.{Line}
use Rattle.json_report.proofs.ReportLemmas.{a_value}
use Rattle.json_report.proofs.WholeLemmas.{reports_are_read}

-- one newline is taken away
one_newline : (text : List ℕ) → unended (text ++ 10 ∷ []) ≡ text
one_newline text =
    let ends : ends_with ◌==◌ (text ++ 10 ∷ []) (10 ∷ []) ≡ true = (ends_is Decides-eqb (text ++ 10 ∷ []) (10 ∷ []) _ refl).1 text refl in
    rw ends (take_at text (10 ∷ []) (length (text ++ 10 ∷ []) - 1) (omega (arith, length-append text (10 ∷ []))))

pub reads_back : (text : List ℕ) (lines : List Line) → IsUtf8 text → read text ≡ Some (report_data lines)
    → twice_from 0 [] lines ≡ None → report_in (text ++ 10 ∷ []) ≡ Ok lines
reads_back text lines utf8 is differ =
    let same = one_newline text in
    a_value (text ++ 10 ∷ []) (report_data lines) (rw same utf8) (rw same is) ∙ reports_are_read lines differ
