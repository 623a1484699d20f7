-- Bytes that are no text or no JSON are refused at once, and a value is read as its keys say; which paths were seen.
-- By cases of whether the bytes are text; paths that were seen stand in an ordered map, one more of which is seen where it was put or stood
-- before (`seen_more`).
use Rattle.std.proofs.Common.{◌≡◌, ℕ, suc, ◌+◌, ◌<◌, add-one, drop, drop-cons, get_or, length, Bool, true, false, ◌||◌, cond, if◌then◌else◌, is_some, List, ◌∷◌, Option, None, Some, Err, ap, refl, sym, ◌∙◌}
use Rattle.std.proofs.lemmas.Str.{IsUtf8-from_is_utf8, is_utf8-from_IsUtf8}
use Rattle.std.proofs.lemmas.Map.Text.{is_eq-slice_cmp}
use Rattle.std.specs.BTreeMap.{is_at}
use Rattle.std.specs.List.{list_any}
use Rattle.std.specs.Str.{IsUtf8, bytes_eq, is_utf8}
use Rattle.num_base.specs.Names.{name_cmp}
use Rattle.serde_json.specs.Data.{Data}
use Rattle.serde_json.specs.Read.{read}
use Rattle.json_report.specs.Changes.{Known, both_at, with_both}
use Rattle.json_report.specs.Reading.{data_report, report_in, report_of, twice_from, unended}
use Rattle.json_report.specs.declared.line.Line.{Line}
use Rattle.json_report.specs.declared.line.ReportFault.TheVariants.{NotJson}
use Rattle.json_report.specs.declared.results.Both.{Both}
use Rattle.json_report.proofs.PathLemmas.{lookup_more}

pub a_value : (bytes : List ℕ) (report : Data) → IsUtf8 (unended bytes) → read (unended bytes) ≡ Some report
    → report_in bytes ≡ report_of report
a_value bytes report text is = rw (is_utf8-from_IsUtf8 (unended bytes) text, is)

no_value_by : (bytes : List ℕ) (text : Bool) → is_utf8 (unended bytes) ≡ text
    → (IsUtf8 (unended bytes) → read (unended bytes) ≡ None)
    → data_report (if text then read (unended bytes) else None) ≡ Err NotJson
no_value_by bytes true is none = ap data_report (none (IsUtf8-from_is_utf8 (unended bytes) is))
no_value_by bytes false is none = refl

pub no_value : (bytes : List ℕ) → (IsUtf8 (unended bytes) → read (unended bytes) ≡ None)
    → report_in bytes ≡ Err NotJson
no_value bytes none = no_value_by bytes (is_utf8 (unended bytes)) refl none

-- ---- paths that were seen

found : {A : Type 0} (b : Bool) (x : A) (rest : Option A) → is_some (cond b (Some x) rest) ≡ (b || is_some rest)
found true x rest = refl
found false x rest = refl

pub seen_more : (known : Known) (path one : List ℕ) (both : Both)
    → is_some (both_at (with_both known path both) one) ≡ (bytes_eq one path || is_some (both_at known one))
seen_more known path one both =
    ap is_some (lookup_more known path one both) ∙ found (is_at (name_cmp one) path) both (both_at known one)
    ∙ ap (λ b. b || is_some (both_at known one)) (is_eq-slice_cmp one path)

pub twice_more : (place : ℕ) (paths : List (List ℕ)) (line : Line) (rest more : List Line) → rest ≡ line ∷ more
    → list_any (bytes_eq line.path) paths ≡ false
    → twice_from place paths rest ≡ twice_from (place + 1) (line.path ∷ paths) more
twice_more place paths line rest more is fresh = rw (is, fresh) refl

pub at_place : (lines : List Line) (k : ℕ) (line : Line) → k < length lines → line ≡ get_or lines k line
    → drop k lines ≡ line ∷ drop (k + 1) lines
at_place lines k line inside is =
    drop-cons lines k line inside ∙ ap (λ x. x ∷ drop (suc k) lines) (sym is) ∙ ap (λ n. line ∷ drop n lines) (sym (add-one k))
