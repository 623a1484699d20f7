-- The check file that an output makes stands for it.
-- Shown: it is read, no body of it is refused, and what its bodies compile to are made directives, which have no fault exactly in the texts with the
-- lines of the output. What is left to show here is that no line is too long, and that there is no directive behind those of lines.
use Rattle.std.proofs.Common.{◌≡◌, ◌↔◌, ℕ, suc, ◌+◌, ◌<◌, Bool, true, false, if◌then◌else◌, List, [], ◌∷◌, ◌++◌, map, length, get_or, Some, None, Ok, Err, refl, sym, ap, ◌∙◌, subst, arith, append-nil, length-append}
use Rattle.std.proofs.lemmas.List.{length-map}
use Rattle.std.proofs.lemmas.Option.{none-some}
use Rattle.std.specs.FinMap.{empty, get}
use Rattle.std.specs.List.{position_from}
use Rattle.check_group.specs.declared.directive.Check.{Check}
use Rattle.check_lines.specs.Canonical.{canon, is_blank, is_kept, shown}
use Rattle.check_lines.specs.declared.directive.Directive.{Directive}
use Rattle.check_program.specs.Compiled.{AreChecks, Body, Formats, IsProgram, IsRead, IsRefused, body_of, formats_behind, rules_of}
use Rattle.check_program.specs.declared.program.CompileOpts.{CompileOpts}
use Rattle.check_program.specs.declared.program.Program.{Program}
use Rattle.check_scan.specs.Verdict.{scan}
use Rattle.exact_laws.proofs.CompileLemmas.{AreShort, body_read, compiled_made, pieces_for}
use Rattle.exact_laws.specs.Exact.{MadeFilesAreExact, TellsLines, bodies_in, default_opts}
use Rattle.file_laws.proofs.FileLemmas.{made_files_are_read}
use Rattle.file_laws.specs.Asks.{AreOf, Ask, IsReadAs, asks_of, end, next_ask}
use Rattle.file_laws.specs.Made.{canonical_lines, is_too_long, made_file}
use Rattle.lead_laws.proofs.FormLemmas.{shown_by}
use Rattle.line_laws.specs.Left.{AreBytes}
use Rattle.made_laws.proofs.MadeLemmas.{made_checks_tell_lines}
use Rattle.pattern_parse.proofs.PieceLemmas.{pieces_are_one}
use Rattle.pattern_parse.specs.Item.{Item}
use Rattle.pattern_parse.specs.declared.fault.PatFault.{PatFault}

-- ---- no line is too long

abbrev AreFit : List (List ℕ) → Type 0
AreFit [] = Unit {0}
AreFit (line ∷ lines) = (is_too_long line ≡ false) × AreFit lines

fit_by : (line : List ℕ) (lines : List (List ℕ)) (number : ℕ) (long : Bool) → is_too_long line ≡ long
    → (if long then Some number else position_from is_too_long (number + 1) lines) ≡ None
    → (is_too_long line ≡ false) × (position_from is_too_long (number + 1) lines ≡ None)
fit_by line lines number true e none = absurd (none-some number (sym none))
fit_by line lines number false e none = (e, none)

lines_fit : (lines : List (List ℕ)) (number : ℕ) → position_from is_too_long number lines ≡ None → AreFit lines
lines_fit [] number none = tt
lines_fit (line ∷ lines) number none =
    let parts = fit_by line lines number (is_too_long line) refl none in (parts.0, lines_fit lines (number + 1) parts.1)

nexts_short : (lines : List (List ℕ)) → AreFit lines → AreShort (map next_ask lines ++ end ∷ [])
nexts_short [] fit = (refl, tt)
nexts_short ([] ∷ lines) fit = (refl, nexts_short lines fit.1)
nexts_short ((b ∷ line) ∷ lines) fit = (fit.0, nexts_short lines fit.1)

asks_short : (lines : List (List ℕ)) → AreFit lines → AreShort (asks_of lines)
asks_short [] fit = (refl, tt)
asks_short (line ∷ lines) fit = (refl, (fit.0, nexts_short lines fit.1))

-- ---- no body is refused

-- each of these bodies is read, whatever formats are known
abbrev AreRead : List Body → Type 0
AreRead [] = Unit {0}
AreRead (body ∷ bodies) = ((known : Formats) → (items : List Item) × IsRead default_opts known body (Ok items)) × AreRead bodies

all_read : (text : List ℕ) (asks : List Ask) (directives : List Directive) → AreOf text asks directives → AreShort asks
    → AreRead (map (body_of text) directives)
all_read text [] [] of short = tt
all_read text [] (one ∷ directives) of short = absurd of
all_read text (ask ∷ asks) [] of short = absurd of
all_read text (ask ∷ asks) (one ∷ directives) of short =
    (λ known. (pieces_for ask, body_read text ask one of.0 short.0 known), all_read text asks directives of.1 short.1)

one_read : (front : List Body) (body : Body) (rest : List Body) → AreRead (front ++ body ∷ rest)
    → (known : Formats) → (items : List Item) × IsRead default_opts known body (Ok items)
one_read [] body rest are = are.0
one_read (first ∷ front) body rest are = one_read front body rest are.1

not_both : (known : Formats) (body : Body) (items : List Item) (fault : PatFault) → IsRead default_opts known body (Ok items)
    → IsRead default_opts known body (Err fault) → ⊥
not_both known body items fault one two =
    let same = pieces_are_one body.bytes (rules_of default_opts body) (get known) (Ok items) (Err fault) one two in cc

none_refused : (bodies : List Body) (number : ℕ) (fault : PatFault) (later : Formats) → AreRead bodies
    → IsRefused default_opts 0 empty bodies number fault later → ⊥
none_refused bodies number fault later are is =
    let read = one_read is.front is.body is.rest (subst AreRead (sym is.parts) are) later in
    not_both later is.body read.0 fault read.1 is.refused

-- ---- no directive stands behind those of lines

as_many : (opts : CompileOpts) (number : ℕ) (old later : Formats) (bodies : List Body) (checks : List Check)
    → AreChecks opts number old bodies checks later → length bodies ≡ length checks
as_many opts number old later [] [] are = refl
as_many opts number old later [] (check ∷ checks) are = absurd are
as_many opts number old later (body ∷ bodies) [] are = absurd are
as_many opts number old later (body ∷ bodies) (check ∷ checks) are =
    ap suc (as_many opts (number + 1) (formats_behind old check) later bodies checks are.1)

none_left : (checks : List Check) → length checks ≡ 0 → checks ≡ []
none_left [] none = refl
none_left (check ∷ checks) none = absurd (omega (arith, none))

-- ---- bytes

shown_byte : (b : ℕ) (blank : Bool) → is_blank b ≡ blank → b < 256 → shown false b < 256
shown_byte b true e low = subst (λ x. x < 256) (sym (shown_by b true e)) (omega arith)
shown_byte b false e low = subst (λ x. x < 256) (sym (shown_by b false e)) low

bytes_by : (b : ℕ) (text : List ℕ) (kept : Bool) → b < 256 → AreBytes (canon false text)
    → AreBytes (if kept then shown false b ∷ canon false text else canon false text)
bytes_by b text true low are = (shown_byte b (is_blank b) refl low, are)
bytes_by b text false low are = are

canon_bytes : (text : List ℕ) → AreBytes text → AreBytes (canon false text)
unfolding canon
canon_bytes [] are = tt
canon_bytes (b ∷ text) are = bytes_by b text (is_kept false b (get_or text 0 0)) are.0 (canon_bytes text are.1)

-- ---- the whole

tells : (output file : List ℕ) (directives : List Directive) (program : Program) (later : Formats)
    → AreOf (canon false file) (asks_of (canonical_lines output)) directives → AreShort (asks_of (canonical_lines output))
    → IsProgram default_opts (length directives) empty (bodies_in file directives) program later → TellsLines output program
tells output file directives program later of short is other vars bytes =
    let bodies : List Body = map (body_of (canon false file)) directives in
    let are : AreChecks default_opts 0 empty bodies (program.checks ++ program.always) later =
    subst (λ l. AreChecks default_opts 0 empty l (program.checks ++ program.always) later) (append-nil bodies) is.compiled in
    let many : length bodies ≡ length (program.checks ++ program.always) =
    as_many default_opts 0 empty later bodies (program.checks ++ program.always) are in
    let none : program.always ≡ [] = none_left program.always
    (omega (arith, many, length-append program.checks program.always, is.lines, length-map directives (body_of (canon false file)))) in
    let alone : AreChecks default_opts 0 empty bodies program.checks later =
    subst (λ l. AreChecks default_opts 0 empty bodies l later) (ap (λ l. program.checks ++ l) none ∙ append-nil program.checks) are in
    subst (λ l. ((scan program.checks l false (canon false other) vars).faults ≡ []) ↔ (canonical_lines other ≡ canonical_lines output)) (sym none)
    (made_checks_tell_lines (canon false output) (canon false other) program.checks vars
    (compiled_made (canon false file) (canonical_lines output) directives empty later program.checks of short alone) (canon_bytes other bytes))

pub made_files_are_exact : MadeFilesAreExact
made_files_are_exact old output lead good fit =
    let file : List ℕ = made_file old output lead in
    let lines : List (List ℕ) = canonical_lines output in
    let is : IsReadAs file (asks_of lines) = made_files_are_read old output lead good in
    let short : AreShort (asks_of lines) = asks_short lines (lines_fit lines 1 fit) in
    let bodies : List Body = map (body_of (canon false file)) is.directives in
    record {
      directives = is.directives;
      read = is.read;
      accepted = λ number fault later refused. none_refused (bodies_in file is.directives) number fault later
          (subst AreRead (sym (append-nil bodies)) (all_read (canon false file) (asks_of lines) is.directives is.are short)) refused;
      exact = λ program later compiled. tells output file is.directives program later is.are short compiled;
    }
