-- Shown: words and readings come to one answer, of which what isn't asked for is free, and with room it is written whole.
-- Idea: bodies come to directives that scanning sees in one way, or to one refusal; the verdict hangs on what is seen, and so do the
-- names with which the variables begin. The hard one is `found_one`.
use Rattle.std.proofs.Common.{◌≡◌, ℕ, ◌&&◌, List, [], ◌∷◌, ◌++◌, length, map, Option, Some, Result, Ok, Err, refl, sym, ◌∙◌, ap, subst, arith, inl, inr}
use Rattle.std.specs.FinMap.{empty}
use Rattle.std.specs.List.{flat_map}
use Rattle.pattern_instance.specs.Missing.{each_once}
use Rattle.pattern_vars.specs.declared.binding.Binding.{Binding}
use Rattle.check_group.specs.declared.directive.Check.{Check}
use Rattle.check_group.specs.declared.fault.Fault.{Fault}
use Rattle.check_lines.specs.Canonical.{canon}
use Rattle.check_lines.specs.Checks.{read_checks}
use Rattle.check_lines.specs.declared.directive.Directive.{Directive}
use Rattle.check_lines.specs.declared.fault.CheckFault.{CheckFault}
use Rattle.check_scan.specs.Block.{End}
use Rattle.check_scan.specs.Verdict.{scan}
use Rattle.check_program.specs.Compiled.{Formats, IsProgram as HasPatterns}
use Rattle.check_program.specs.Names.{names_all, names_in, names_once}
use Rattle.check_program.specs.declared.program.Program.{Program as Patterns}
use Rattle.compile_laws.proofs.LawLemmas.{checks_are_one, not_both, refusal_is_one}
use Rattle.compile_laws.specs.Laws.{Seen, seen}
use Rattle.define_words.specs.Defined.{defined_by}
use Rattle.define_words.specs.Start.{start}
use Rattle.scan_laws.proofs.SeenLemmas.{verdict_is_of_seen}
use Rattle.tt_run.specs.declared.reading.Reading.{Reading}
use Rattle.tt_run.specs.declared.reading.Reading.TheVariants.{Whole}
use Rattle.filecheck_words.specs.declared.job.Job.TheVariants as jobs
use Rattle.generator.specs.Generated.{checks_text}
use Rattle.filecheck_messages.specs.Answer.{answer_to}
use Rattle.filecheck_messages.specs.Refusal.{◌>>=◌, LeadsTo, accepted}
use Rattle.filecheck_messages.specs.declared.refusal.Refusal.{Refusal}
use Rattle.filecheck_messages.specs.declared.refusal.Stop.{Stop}
use Rattle.filecheck_messages.specs.declared.refusal.Stop.TheVariants.{Refused, NotReadable}
use Rattle.filecheck_messages.specs.declared.report.Report.{Report}
use Rattle.filecheck_tool.specs.Answer.{IsChecking, found_by, input_given}
use Rattle.filecheck_tool.specs.CheckFile.{check_file_of, check_file_read, whole, with_directives}
use Rattle.filecheck_tool.specs.Program.{ArePatterns, IsCompiledTo, IsDefinedWith, IsProgram, bad_body, bodies, fresh_of, opts_of, program_of}
use Rattle.filecheck_tool.specs.Start.{start_made, start_with}
use Rattle.filecheck_tool.specs.Verdict.{filled, input_name, report_of, verdict_read}
use Rattle.filecheck_tool.specs.declared.check_file.CheckFile.{CheckFile}
use Rattle.filecheck_tool.specs.declared.plan.InputPlan.{InputPlan}
use Rattle.filecheck_tool.specs.declared.plan.InputPlan.TheVariants as plans
use Rattle.filecheck_tool.specs.declared.program.AcceptedFile.{AcceptedFile}
use Rattle.filecheck_tool.specs.declared.start.Start.{Start}
use Rattle.answer_laws.specs.Answers.{AnswerIsOne, RoomLeavesOne, UnaskedIsFree}

-- ---- what is seen of two lists that are one behind the other

heads_seen : (cs ds es fs : List Check) → length cs ≡ length ds → map seen (cs ++ es) ≡ map seen (ds ++ fs)
    → (map seen cs ≡ map seen ds) × (map seen es ≡ map seen fs)
heads_seen [] [] es fs long is = (refl, is)
heads_seen [] (d ∷ ds) es fs long is = absurd (omega (arith, long))
heads_seen (c ∷ cs) [] es fs long is = absurd (omega (arith, long))
heads_seen (c ∷ cs) (d ∷ ds) es fs long is =
    let first : seen c ≡ seen d = cc in
    let others : map seen (cs ++ es) ≡ map seen (ds ++ fs) = cc in
    let rest = heads_seen cs ds es fs (omega (arith, long)) others in
    (λ i. first i ∷ rest.0 i, rest.1)

-- the names of directives are those of what is seen of them
abbrev names_by : List Seen → List (List ℕ)
names_by all = flat_map (λ (s : Seen). names_in s.pieces) all

names_seen : (checks : List Check) → names_all checks ≡ names_by (map seen checks)
names_seen [] = refl
names_seen (check ∷ checks) = ap (λ names. names_in (seen check).pieces ++ names) (names_seen checks)

names_one : (checks others : List Check) → map seen checks ≡ map seen others → names_once checks ≡ names_once others
names_one checks others is =
    ap (each_once empty) (names_seen checks ∙ ap names_by is ∙ sym (names_seen others))

-- ---- programs

-- what is told of the input by a check file, and by the faults of its directives in a canonical text
abbrev told_with : CheckFile → (List ℕ → List Fault) → Reading → Result Report Stop
told_with file faults read =
    whole (input_name file.asked.input) read >>= (λ bytes.
    accepted (filled file.asked.allow_empty (input_name file.asked.input) bytes) >>= (λ input.
    Ok (report_of file.made file (length input) (canon file.asked.strict input) (faults (canon file.asked.strict input)))))

abbrev faults_of : AcceptedFile → List ℕ → List Fault
faults_of program input = (scan program.checks program.always program.file.asked.var_scope input program.vars).faults

-- what is told by a program, or by the refusal in its place
abbrev verdict_by : Result AcceptedFile Stop → Reading → Result Report Stop
verdict_by (Ok program) read = verdict_read program (input_given program.file.made read)
verdict_by (Err stop) read = Err stop

told_so : (program : AcceptedFile) (read : Reading) → verdict_read program read ≡ told_with program.file (faults_of program) read
told_so program read = refl

module _ (file : CheckFile) (known : Formats) where
  -- patterns that a check file comes to have one verdict
  patterns_one : (one other : Patterns) (later last : Formats) (fresh : List Binding) (read : Reading)
      → HasPatterns (opts_of file.asked) (length file.directives) known (bodies file) one later
      → HasPatterns (opts_of file.asked) (length file.directives) known (bodies file) other last
      → verdict_read (program_of file one fresh) read ≡ verdict_read (program_of file other fresh) read
  patterns_one one other later last fresh read is again =
      let same = checks_are_one (opts_of file.asked) 0 known (bodies file) (one.checks ++ one.always)
      (other.checks ++ other.always) later last is.compiled again.compiled in
      let heads = heads_seen one.checks other.checks one.always other.always (is.lines ∙ sym again.lines) same.0 in
      let names : one.names ≡ other.names = is.names
      ∙ names_one (one.checks ++ one.always) (other.checks ++ other.always) same.0 ∙ sym again.names in
      let faults : (input : List ℕ)
      → faults_of (program_of file one fresh) input ≡ faults_of (program_of file other fresh) input =
      λ input. ap (λ names. (scan one.checks one.always file.asked.var_scope input (start names fresh)).faults) names
      ∙ ap (λ (end : End). end.faults) (verdict_is_of_seen one.checks other.checks one.always other.always
      file.asked.var_scope input (start other.names fresh) heads.0 heads.1) in
      told_so (program_of file one fresh) read
      ∙ ap (λ all. told_with file all read) (λ i input. faults input i)
      ∙ sym (told_so (program_of file other fresh) read)

  -- what definitions lead to behind them
  defined_one : (one other : Patterns) (later last : Formats) (fresh : Result (List Binding) Refusal)
      (end more : Result AcceptedFile Stop) (read : Reading)
      → HasPatterns (opts_of file.asked) (length file.directives) known (bodies file) one later
      → HasPatterns (opts_of file.asked) (length file.directives) known (bodies file) other last
      → IsDefinedWith file one fresh end → IsDefinedWith file other fresh more
      → verdict_by end read ≡ verdict_by more read
  defined_one one other later last (Ok fresh) end more read is again ends mores =
      ap (λ p. verdict_by p read) ends ∙ patterns_one one other later last fresh (input_given file.made read) is again
      ∙ sym (ap (λ p. verdict_by p read) mores)
  defined_one one other later last (Err refusal) end more read is again ends mores =
      ap (λ p. verdict_by p read) (ends ∙ sym mores)

  -- and what the patterns lead to, or their refusal
  compiled_one : (one other : Result Patterns Stop) (fresh : Result (List Binding) Refusal)
      (end more : Result AcceptedFile Stop) (read : Reading) → ArePatterns file known one → ArePatterns file known other
      → LeadsTo one (λ p. IsDefinedWith file p fresh) end → LeadsTo other (λ p. IsDefinedWith file p fresh) more
      → verdict_by end read ≡ verdict_by more read
  compiled_one (Ok one) (Ok other) fresh end more read is again ends mores =
      defined_one one other is.0 again.0 fresh end more read is.1 again.1 ends mores
  compiled_one (Ok one) (Err (Refused refusal)) fresh end more read is (number, fault, later, refused, same) ends mores =
      absurd (not_both (opts_of file.asked) 0 known (bodies file) (one.checks ++ one.always) number fault is.0 later
      is.1.compiled refused)
  compiled_one (Err (Refused refusal)) (Ok other) fresh end more read (number, fault, later, refused, same) is ends mores =
      absurd (not_both (opts_of file.asked) 0 known (bodies file) (other.checks ++ other.always) number fault is.0 later
      is.1.compiled refused)
  compiled_one (Err (Refused refusal)) (Err (Refused another)) fresh end more read (number, fault, later, refused, same)
      (index, why, last, denied, alike) ends mores =
      let one = refusal_is_one (opts_of file.asked) 0 known (bodies file) number index fault why later last refused
      denied in
      let equal : refusal ≡ another = same ∙ (λ i. bad_body file (one.0 i) (one.1 i)) ∙ sym alike in
      ap (λ p. verdict_by p read) (ends ∙ ap (λ r. Err (Refused r)) equal ∙ sym mores)
  compiled_one (Err (NotReadable name)) other fresh end more read is again ends mores = absurd is
  compiled_one (Ok one) (Err (NotReadable name)) fresh end more read is again ends mores = absurd again
  compiled_one (Err (Refused refusal)) (Err (NotReadable name)) fresh end more read is again ends mores = absurd again

file_one : (file : CheckFile) (end more : Result AcceptedFile Stop) (read : Reading) → IsCompiledTo file end
    → IsCompiledTo file more → verdict_by end read ≡ verdict_by more read
file_one file end more read (one, is, ends) (other, again, mores) =
    compiled_one file (defined_by file.asked.defines).known one other (fresh_of (defined_by file.asked.defines).fresh)
    end more read is again ends mores

found_one : (step : Result CheckFile Stop) (end more : Result AcceptedFile Stop) (read : Reading)
    → LeadsTo step IsCompiledTo end → LeadsTo step IsCompiledTo more → verdict_by end read ≡ verdict_by more read
found_one (Ok file) end more read ends mores = file_one file end more read ends mores
found_one (Err stop) end more read ends mores = ap (λ p. verdict_by p read) (ends ∙ sym mores)

-- ---- answers

-- two plans to check that words and a reading come to
checked_one : (start : Start) (file read : Reading) (plan more : Result InputPlan Stop) → IsChecking start file plan
    → IsChecking start file more → found_by plan read ≡ found_by more read
checked_one start file read (Ok (plans.Check one)) (Ok (plans.Check other)) is again =
    found_one (check_file_read start file) (Ok one) (Ok other) read is again
checked_one start file read (Ok (plans.Check one)) (Err stop) is again =
    found_one (check_file_read start file) (Ok one) (Err stop) read is again
checked_one start file read (Err stop) (Ok (plans.Check other)) is again =
    found_one (check_file_read start file) (Err stop) (Ok other) read is again
checked_one start file read (Err stop) (Err halt) is again =
    found_one (check_file_read start file) (Err stop) (Err halt) read is again
checked_one start file read (Ok (plans.Make making old)) more is again = absurd is
checked_one start file read (Ok (plans.Check one)) (Ok (plans.Make making old)) is again = absurd again
checked_one start file read (Err stop) (Ok (plans.Make making old)) is again = absurd again

pub answer_is_one : AnswerIsOne
answer_is_one (Ok (jobs.Check asked)) file read one other (plan, (is, told)) (more, (again, other_told)) =
    told ∙ ap answer_to (checked_one (start_with asked) file read plan more is again) ∙ sym other_told
answer_is_one (Ok (jobs.Generate count)) file read one other (plan, (is, told)) (more, (again, other_told)) =
    told ∙ ap answer_to (checked_one (start_made count) (Whole (checks_text count)) read plan more is again) ∙ sym other_told
answer_is_one (Ok (jobs.Make making)) file read one other (plan, (is, told)) (more, (again, other_told)) =
    told ∙ ap (λ p. answer_to (found_by p read)) (is ∙ sym again) ∙ sym other_told
answer_is_one (Err fault) file read one other (plan, (is, told)) (more, (again, other_told)) =
    told ∙ ap (λ p. answer_to (found_by p read)) (is ∙ sym again) ∙ sym other_told

-- ---- what isn't asked for

-- a program says whether its texts are made
abbrev IsMade : Option ℕ → Result AcceptedFile Stop → Type 0
IsMade made (Ok program) = program.file.made ≡ made
IsMade made (Err stop) = Unit {0}

made_defined : (file : CheckFile) (patterns : Patterns) (fresh : Result (List Binding) Refusal) (end : Result AcceptedFile Stop)
    → IsDefinedWith file patterns fresh end → IsMade file.made end
made_defined file patterns (Ok fresh) end is = subst (IsMade file.made) (sym is) refl
made_defined file patterns (Err refusal) end is = subst (IsMade file.made) (sym is) tt

made_led : (file : CheckFile) (patterns : Result Patterns Stop) (fresh : Result (List Binding) Refusal) (end : Result AcceptedFile Stop)
    → LeadsTo patterns (λ p. IsDefinedWith file p fresh) end → IsMade file.made end
made_led file (Ok patterns) fresh end is = made_defined file patterns fresh end is
made_led file (Err stop) fresh end is = subst (IsMade file.made) (sym is) tt

made_compiled : (file : CheckFile) (end : Result AcceptedFile Stop) → IsCompiledTo file end → IsMade file.made end
made_compiled file end (patterns, are, leads) =
    made_led file patterns (fresh_of (defined_by file.asked.defines).fresh) end leads

made_of_lines : (start : Start) (text : List ℕ) (lines : Result (List Directive) CheckFault) (end : Result AcceptedFile Stop)
    → LeadsTo (accepted (check_file_of start text lines)) IsCompiledTo end → IsMade start.made end
made_of_lines start text (Ok directives) end is = made_compiled (with_directives start text directives) end is
made_of_lines start text (Err fault) end is = subst (IsMade start.made) (sym is) tt

made_read : (start : Start) (bytes : List ℕ) (end : Result AcceptedFile Stop) → IsProgram start (Whole bytes) end → IsMade start.made end
made_read start bytes end =
    let asked = start.asked in
    let text = canon asked.strict bytes in
    made_of_lines start text
    (read_checks asked.prefixes.checks asked.prefixes.comments asked.allow_unused (asked.strict && asked.full_lines) asked.may_lack text)
    end

-- where the texts are made, what is found is the same whatever was read
found_of_made : (count : ℕ) (program : Result AcceptedFile Stop) (read another : Reading) → IsMade (Some count) program
    → verdict_by program read ≡ verdict_by program another
found_of_made count (Ok program) read another made =
    ap (verdict_read program) (ap (λ m. input_given m read) made ∙ sym (ap (λ m. input_given m another) made))
found_of_made count (Err stop) read another made = refl

planned_made : (count : ℕ) (plan : Result InputPlan Stop) (read another : Reading)
    → IsChecking (start_made count) (Whole (checks_text count)) plan → found_by plan read ≡ found_by plan another
planned_made count (Ok (plans.Check program)) read another is =
    found_of_made count (Ok program) read another (made_read (start_made count) (checks_text count) (Ok program) is)
planned_made count (Ok (plans.Make making old)) read another is = absurd is
planned_made count (Err stop) read another is = refl

pub unasked_is_free : UnaskedIsFree
unasked_is_free = record {
  refused = λ fault file read other another answer is.
      (is.0, (is.1.0, is.1.1 ∙ ap answer_to (ap (λ p. found_by p read) is.1.0 ∙ sym (ap (λ p. found_by p another) is.1.0))));
  made = λ count file read other another answer is.
      (is.0, (is.1.0, is.1.1 ∙ ap answer_to (planned_made count is.0 read another is.1.0)));
}

pub room_leaves_one : RoomLeavesOne
room_leaves_one fault answer status out err (inl (taken, inl (same, told))) fits also = (same, taken, told)
room_leaves_one fault answer status out err (inl (taken, inr (three, stopped))) fits also =
    absurd (omega (arith, stopped.2, also))
room_leaves_one fault answer status out err (inr (three, stopped, told)) fits also =
    absurd (omega (arith, stopped.2, fits))
