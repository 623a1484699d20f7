-- The prefixes that a check file is read by.
-- After LLVM Command Guide, FileCheck: --check-prefix, --check-prefixes and --comment-prefixes take the place of CHECK, and of
-- COM and RUN; the last two are lists with commas between. Own rules: how a prefix is spelled, that no two that hold are
-- equal, and that the first of the words that is refused is told.
use Rattle.std.specs.Prelude.{ℕ, Bool, true, false, ◌==◌, ◌&&◌, not, nat_le, nat_lt, if◌then◌else◌, List, [], ◌∷◌, ◌++◌, codes, Option, Some, None, Result, Ok}
use Rattle.std.specs.List.{flat_map, list_all, list_any, slice_split}
use Rattle.std.specs.Option.{option_or}
use Rattle.std.specs.Str.{bytes_eq}
use Rattle.check_lines.specs.Class.{is_letter}
use Rattle.check_lines.specs.Decision.{is_word}
use Rattle.opt_words.specs.Step.{value_of}
use Rattle.opt_words.specs.declared.step.Given.{Given}
use Rattle.filecheck_words.specs.Fault.{unless}
use Rattle.filecheck_words.specs.declared.prefixes.ChosenPrefixes.{ChosenPrefixes}
use Rattle.filecheck_words.specs.declared.fault.WordsFault.{WordsFault}
use Rattle.filecheck_words.specs.declared.fault.WordsFault.TheVariants.{BadPrefix, PrefixTwice}

-- a prefix is a letter, and then letters, digits, `-` and `_`
abbrev pub is_prefix : List ℕ → Bool
is_prefix [] = false
is_prefix (byte ∷ rest) = is_letter byte && list_all is_word rest

-- ---- what the words spell

abbrev pub is_comma : ℕ → Bool
is_comma byte = byte == 44

-- the prefixes that a value spells, by the row of its option: it is one, or has one on each side of a comma
abbrev pub spelled_by : ℕ → List ℕ → List (List ℕ)
spelled_by row value = if row == 0 then value ∷ [] else slice_split is_comma value

-- the same of the rows from one up to another
abbrev pub spelled_at : ℕ → ℕ → List (List ℕ) → Given → List (List ℕ)
spelled_at from to words given =
    if nat_le from given.row && nat_lt given.row to then spelled_by given.row (value_of words given) else []

-- the prefixes that the options of these rows spell, in the order of the words
abbrev pub spelled : ℕ → ℕ → List (List ℕ) → List Given → List (List ℕ)
spelled from to words all = flat_map (spelled_at from to words) all

-- ---- where none is asked for

abbrev pub check_names : List (List ℕ)
check_names = codes "CHECK" ∷ []

abbrev pub comment_names : List (List ℕ)
comment_names = codes "COM" ∷ codes "RUN" ∷ []

-- prefixes, or others where there are none
abbrev pub or_else : List (List ℕ) → List (List ℕ) → List (List ℕ)
or_else [] names = names
or_else (prefix ∷ later) names = prefix ∷ later

-- the names that hold beside those that are spelled
abbrev pub names_beside : Bool → Bool → List (List ℕ)
names_beside has_checks has_comments =
    (if has_checks then [] else check_names) ++ (if has_comments then [] else comment_names)

abbrev pub is_some : List (List ℕ) → Bool
is_some [] = false
is_some (prefix ∷ later) = true

-- ---- what is refused

-- what is wrong with a prefix behind others
abbrev pub prefix_fault : List (List ℕ) → List ℕ → Option WordsFault
prefix_fault before prefix =
    if not (is_prefix prefix) then Some (BadPrefix prefix)
    else if list_any (λ one. bytes_eq one prefix) before then Some (PrefixTwice prefix)
    else None

-- what is wrong with the first that has a fault
unfoldable pub first_fault : List (List ℕ) → List (List ℕ) → Option WordsFault
first_fault before [] = None
first_fault before (prefix ∷ later) = option_or (prefix_fault before prefix) (first_fault (before ++ prefix ∷ []) later)

-- the prefixes that hold, by those that the words spell for directives, for comments, and for both in the order of the words
abbrev pub held_by : List (List ℕ) → List (List ℕ) → List (List ℕ) → Result ChosenPrefixes WordsFault
held_by checks comments order =
    unless (first_fault (names_beside (is_some checks) (is_some comments)) order)
    (Ok (record { checks = or_else checks check_names; comments = or_else comments comment_names }))

abbrev pub held_prefixes : List (List ℕ) → List Given → Result ChosenPrefixes WordsFault
held_prefixes words all = held_by (spelled 0 2 words all) (spelled 2 3 words all) (spelled 0 3 words all)
