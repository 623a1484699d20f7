-- A made check file is read as what asks for the lines of its output.
-- Shown: it is lines, its canonical form is theirs, and they are read one by one. The hard one is `canon_lines`, by which a text is in canonical
-- form what its lines are; what is left joins what is known of a lead, of directives and of what is kept.
use Rattle.std.proofs.Common.{◌≡◌, codes, ℕ, Bool, true, false, ◌&&◌, if◌then◌else◌, List, [], ◌∷◌, ◌++◌, map, length, get_or, Ok, Err, refl, sym, ap, ◌∙◌, arith, append_assoc}
use Rattle.std.proofs.lemmas.Bool.{or_parts}
use Rattle.std.proofs.lemmas.Bool.Decides.{nat_tests}
use Rattle.std.proofs.lemmas.List.{map-append}
use Rattle.std.proofs.lemmas.List.Concat.{flat_map-append}
use Rattle.std.specs.List.{flat_map, list_any, slice_split}
use Rattle.check_lines.specs.Canonical.{canon, is_blank, is_kept, shown}
use Rattle.check_lines.specs.Checks.{complete, completed, read_lines_from, whole_fault}
use Rattle.check_lines.specs.Decision.{is_word}
use Rattle.check_lines.specs.declared.directive.Directive.{Directive}
use Rattle.check_lines.specs.declared.fault.CheckKind.TheVariants.{NoChecks}
use Rattle.file_laws.proofs.BodyLemmas.{some_bytes}
use Rattle.file_laws.proofs.KeptLemmas.{IsKept, kept_is}
use Rattle.file_laws.proofs.PlainLemmas.{ArePlain, IsPlain, good_plain, plain_both, plain_byte, plain_canon, plain_more, split_lines}
use Rattle.file_laws.proofs.ReadLemmas.{AreReadFrom, lines_read}
use Rattle.file_laws.proofs.SpelledLemmas.{AreSettled, AreSound, asks_sound, lines_settled, spelled, spelled_form, spelled_plain}
use Rattle.file_laws.specs.Asks.{AreOf, Ask, IsReadAs, MadeFilesAreRead, asks_of, end, first, next_ask, start}
use Rattle.file_laws.specs.Kept.{kept, with_newline}
use Rattle.file_laws.specs.Lead.{is_bad, is_barred}
use Rattle.file_laws.specs.Made.{canonical_lines, directives_of, made_line, made_text, next_of}
use Rattle.lead_laws.proofs.FormLemmas.{canon_is_by_lines, canon_is_settled, shown_by}
use Rattle.lead_laws.specs.Canon.{form_of}
use Rattle.lead_laws.specs.Marks.{IsLead, checks, comments}
use Rattle.line_laws.proofs.LinesLemmas.{good_lines}
use Rattle.tt_base.specs.Place.{is_newline}

-- ---- the lead

shown_barred : (b : ℕ) (blank : Bool) → is_blank b ≡ blank → is_word b ≡ false → is_word (shown false b) ≡ false
shown_barred b true e off = ap is_word (shown_by b true e)
shown_barred b false e off = ap is_word (shown_by b false e) ∙ off

no_word : (b : ℕ) → is_barred b ≡ false → is_word b ≡ false
no_word b free = grind (arith, nat_tests, free)

no_newline : (b : ℕ) → is_barred b ≡ false → is_newline b ≡ false
no_newline b free = grind (arith, nat_tests, free)

lead_by : (b : ℕ) (lead : List ℕ) (kept : Bool) → is_word b ≡ false → IsLead (canon false lead)
    → IsLead (if kept then shown false b ∷ canon false lead else canon false lead)
lead_by b lead true off is = (shown_barred b (is_blank b) refl off, is)
lead_by b lead false off is = is

lead_is : (lead : List ℕ) → is_bad lead ≡ false → IsLead (canon false lead)
unfolding canon
lead_is [] good = tt
lead_is (b ∷ lead) good =
    let parts = or_parts (is_barred b) (list_any is_barred lead) good in
    lead_by b lead (is_kept false b (get_or lead 0 0)) (no_word b parts.0) (lead_is lead parts.1)

lead_plain : (lead : List ℕ) → is_bad lead ≡ false → IsPlain lead
lead_plain [] good = refl
lead_plain (b ∷ lead) good =
    let parts = or_parts (is_barred b) (list_any is_barred lead) good in plain_byte b lead (no_newline b parts.0) (lead_plain lead parts.1)

-- ---- the lines of the file

nexts_are : (lines : List (List ℕ)) → map next_of lines ++ codes "CHECK-NOT: {{.}}" ∷ [] ≡ map spelled (map next_ask lines ++ end ∷ [])
nexts_are [] = refl
nexts_are ([] ∷ lines) = ap (λ l. next_of [] ∷ l) (nexts_are lines)
nexts_are ((b ∷ line) ∷ lines) = ap (λ l. next_of (b ∷ line) ∷ l) (nexts_are lines)

directives_are : (lines : List (List ℕ)) → directives_of lines ≡ map spelled (asks_of lines)
directives_are [] = refl
directives_are (line ∷ lines) = ap (λ l. spelled start ∷ spelled (first line) ∷ l) (nexts_are lines)

abbrev line_in : List ℕ → Ask → List ℕ
line_in lead ask = lead ++ spelled ask

made_lines : (lead : List ℕ) (asks : List Ask) → flat_map (made_line lead) (map spelled asks) ≡ flat_map with_newline (map (line_in lead) asks)
made_lines lead [] = refl
made_lines lead (ask ∷ asks) = ap (λ l. with_newline (line_in lead ask) ++ l) (made_lines lead asks)

file_lines : (old lead : List ℕ) (lines : List (List ℕ)) (are : IsKept (kept old))
    → kept old ++ made_text lead lines ≡ flat_map with_newline (are.lines ++ map (line_in lead) (asks_of lines))
file_lines old lead lines are =
    ap (λ l. l ++ made_text lead lines) are.is
    ∙ ap (λ l. flat_map with_newline are.lines ++ l) (ap (flat_map (made_line lead)) (directives_are lines) ∙ made_lines lead (asks_of lines))
    ∙ sym (flat_map-append with_newline are.lines (map (line_in lead) (asks_of lines)))

-- ---- their canonical forms

canon_lines : (lines : List (List ℕ)) → canon false (flat_map with_newline lines) ≡ flat_map with_newline (map form_of lines)
unfolding canon
canon_lines [] = refl
canon_lines (line ∷ lines) =
    let rest = flat_map with_newline lines in
    ap (canon false) (append_assoc line (10 ∷ []) rest) ∙ canon_is_by_lines line rest
    ∙ ap (λ l. form_of line ++ 10 ∷ l) (canon_lines lines)
    ∙ sym (append_assoc (form_of line) (10 ∷ []) (flat_map with_newline (map form_of lines)))

forms_are : (lead : List ℕ) (asks : List Ask) → AreSound asks → map form_of (map (line_in lead) asks) ≡ map (line_in (canon false lead)) asks
forms_are lead [] sound = refl
forms_are lead (ask ∷ asks) sound =
    ap (λ l. l ∷ map form_of (map (line_in lead) asks)) (spelled_form lead ask sound.0)
    ∙ ap (λ l. line_in (canon false lead) ask ∷ l) (forms_are lead asks sound.1)

lines_plain : (lead : List ℕ) (asks : List Ask) → IsPlain lead → AreSound asks → ArePlain (map (line_in lead) asks)
lines_plain lead [] plain sound = tt
lines_plain lead (ask ∷ asks) plain sound =
    (plain_both lead (spelled ask) plain (spelled_plain ask sound.0), lines_plain lead asks plain sound.1)

-- ---- the whole

all_complete : (text : List ℕ) (lines : List (List ℕ)) (directives : List Directive) → AreOf text (asks_of lines) directives
    → complete false false 1 directives ≡ Ok directives
all_complete text lines (one ∷ directives) are =
    ap (λ k. if k && true then Err (whole_fault NoChecks) else Ok (one ∷ directives)) (some_bytes (length directives))
all_complete text [] [] are = absurd are
all_complete text (line ∷ lines) [] are = absurd are

-- a text of lines that are read is read as a check file
read_as : (file : List ℕ) (lines all : List (List ℕ)) → slice_split is_newline (canon false file) ≡ all
    → AreReadFrom (canon false file) false 1 0 all (asks_of lines) → IsReadAs file (asks_of lines)
read_as file lines all split rest = record {
  directives = rest.directives;
  read = ap (λ l. completed false false 1 (read_lines_from checks comments false false 1 0 l)) split
      ∙ ap (completed false false 1) rest.read ∙ all_complete (canon false file) lines rest.directives rest.are;
  are = rest.are;
}

file_read : (old lead : List ℕ) (lines : List (List ℕ)) → is_bad lead ≡ false → ArePlain lines → AreSettled lines
    → IsReadAs (kept old ++ made_text lead lines) (asks_of lines)
file_read old lead lines good plain settled =
    let file : List ℕ = kept old ++ made_text lead lines in
    let form : List ℕ = canon false lead in
    let asks : List Ask = asks_of lines in
    let are : IsKept (kept old) = kept_is old in
    let forms : List (List ℕ) = map form_of are.lines ++ map (line_in form) asks in
    let sound : AreSound asks = asks_sound lines plain settled in
    let whole : canon false file ≡ flat_map with_newline forms =
    ap (canon false) (file_lines old lead lines are) ∙ canon_lines (are.lines ++ map (line_in lead) asks)
    ∙ ap (flat_map with_newline) (map-append form_of are.lines (map (line_in lead) asks) ∙ ap (λ l. map form_of are.lines ++ l) (forms_are lead asks sound)) in
    let no_newlines : ArePlain forms =
    plain_more (map form_of are.lines) (map (line_in form) asks) are.plain (lines_plain form asks (plain_canon lead (lead_plain lead good)) sound) in
    read_as file lines (forms ++ [] ∷ []) (ap (slice_split is_newline) whole ∙ split_lines forms no_newlines)
    (lines_read (canon false file) form (lead_is lead good) (map form_of are.lines) lines are.free whole)

pub made_files_are_read : MadeFilesAreRead
made_files_are_read old output lead good =
    file_read old lead (canonical_lines output) good (good_plain (canonical_lines output) (good_lines (canon false output)))
    (lines_settled (canon false output) (canon_is_settled output))
