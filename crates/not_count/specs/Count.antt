-- What `count` says and answers. After the tool of that name in LLVM's tree, which compares the lines of its input with a
-- number. Own rule: the texts and the statuses 2 and 3.
use Rattle.std.specs.Prelude.{◌≡◌, ⊤, ℕ, ◌^◌, ◌==◌, if◌then◌else◌, List, [], ◌∷◌, ◌++◌, codes, decimal, slice_index_or, Result, Ok, Err}
use Rattle.std.specs.List.{concat}
use Rattle.opt_words.specs.Fault.{text_before, text_behind, word_of}
use Rattle.opt_words.specs.declared.fault.WordFault.{WordFault}
use Rattle.tt_run.specs.Frame.{error_text, newline}
use Rattle.tt_run.specs.Run.{Answered, Source, SourceRests, Stream}
use Rattle.not_count.specs.Asked.{IsTold, asked}
use Rattle.not_count.specs.Lines.{IsCounted}
use Rattle.not_count.specs.declared.asked.CountRefusal.{CountRefusal}
use Rattle.not_count.specs.declared.asked.CountRefusal.TheVariants.{FaultyWord, NotOneNumber}
use Rattle.not_count.specs.declared.count.Outcome.{Outcome}
use Rattle.not_count.specs.declared.count.Outcome.TheVariants.{Refused, Compared}
use Rattle.not_count.specs.declared.lines.Counted.{Counted}
use Rattle.not_count.specs.declared.lines.Counted.TheVariants.{Lines, TooLong, Failed}

-- ---- what a run comes to

-- the words are refused and the input is left alone, or its lines are counted up to a limit
abbrev pub OutcomeFrom : Source → ℕ → Result ℕ CountRefusal → Outcome → Type 0
OutcomeFrom input limit (Ok wanted) outcome =
    (counted : Counted) × IsCounted input limit counted × (outcome ≡ Compared wanted counted)
OutcomeFrom input limit (Err refusal) outcome = SourceRests input × (outcome ≡ Refused refusal)

-- the same of the words themselves, within the limit of the tool
abbrev pub OutcomeOf : List (List ℕ) → Source → Outcome → Type 0
OutcomeOf words input outcome = OutcomeFrom input (2 ^ 40) (asked words) outcome

-- a faulty word is one of so many words
abbrev pub IsToldOf : ℕ → Outcome → Type 0
IsToldOf count (Refused refusal) = IsTold count refusal
IsToldOf count (Compared wanted counted) = ⊤

-- ---- what is told of it, and the status

abbrev pub faulty_word_text : List ℕ → WordFault → List ℕ
faulty_word_text word fault = concat (codes "count: error: " ∷ text_before fault ∷ word ∷ text_behind fault ∷ newline ∷ [])

abbrev pub refusal_text : List (List ℕ) → CountRefusal → List ℕ
refusal_text words (FaultyWord fault) = faulty_word_text (slice_index_or words (word_of fault) []) fault
refusal_text words NotOneNumber = error_text (codes "count") (codes "one number is needed")

abbrev pub expected_text : ℕ → ℕ → List ℕ
expected_text wanted lines =
    concat (codes "Expected " ∷ decimal wanted ∷ codes " lines, got " ∷ decimal lines ∷ (codes "." ++ newline) ∷ [])

abbrev pub lines_text : ℕ → ℕ → List ℕ
lines_text wanted lines = if lines == wanted then [] else expected_text wanted lines

abbrev pub compared_text : ℕ → Counted → List ℕ
compared_text wanted (Lines lines) = lines_text wanted lines
compared_text wanted TooLong = error_text (codes "count") (codes "input too long")
compared_text wanted Failed = error_text (codes "count") (codes "cannot read '<stdin>'")

abbrev pub text_of : List (List ℕ) → Outcome → List ℕ
text_of words (Refused refusal) = refusal_text words refusal
text_of words (Compared wanted counted) = compared_text wanted counted

abbrev pub lines_status : ℕ → ℕ → ℕ
lines_status wanted lines = if lines == wanted then 0 else 1

abbrev pub compared_status : ℕ → Counted → ℕ
compared_status wanted (Lines lines) = lines_status wanted lines
compared_status wanted TooLong = 2
compared_status wanted Failed = 3

abbrev pub status_of : Outcome → ℕ
status_of (Refused refusal) = 2
status_of (Compared wanted counted) = compared_status wanted counted

-- ---- that each is told, with its status

abbrev pub FaultTold : List ℕ → WordFault → ℕ → Stream → Type 0
FaultTold word fault result err = Answered (faulty_word_text word fault) 2 result err

abbrev pub RefusalTold : List (List ℕ) → CountRefusal → ℕ → Stream → Type 0
RefusalTold words refusal result err = Answered (refusal_text words refusal) 2 result err

abbrev pub ExpectedTold : ℕ → ℕ → ℕ → Stream → Type 0
ExpectedTold wanted lines result err = Answered (expected_text wanted lines) 1 result err

abbrev pub LinesTold : ℕ → ℕ → ℕ → Stream → Type 0
LinesTold wanted lines result err = Answered (lines_text wanted lines) (lines_status wanted lines) result err

abbrev pub ComparedTold : ℕ → Counted → ℕ → Stream → Type 0
ComparedTold wanted counted result err = Answered (compared_text wanted counted) (compared_status wanted counted) result err

abbrev pub OutcomeTold : List (List ℕ) → Outcome → ℕ → Stream → Type 0
OutcomeTold words outcome result err = Answered (text_of words outcome) (status_of outcome) result err

-- ---- a run

-- what words and an input come to is told, and gives the status
abbrev pub Counts : List (List ℕ) → Source → ℕ → Stream → Type 0
Counts words input result err =
    (outcome : Outcome) × OutcomeOf words input outcome × OutcomeTold words outcome result err
