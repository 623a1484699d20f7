-- The step from one word to the next, and what it takes.
-- After LLVM Command Guide: a value stands behind `=` or is the next word, and `--` ends the options. Own rule: which
-- fault is told; that a word which is a value isn't looked at as an option.
use Rattle.std.specs.Prelude.{◌≡◌, ◌⊎◌, ◌<◌, ◌≤◌, IfSome, slice_index_or, ℕ, Bool, true, false, ◌+◌, ◌||◌, not, if◌then◌else◌, List, [], ◌∷◌, map, length, drop, slice_get, Option, Some, None, Result, Ok, Err, String, string_bytes, codes}
use Rattle.std.specs.declared.alloc.Global.{Global}
use Rattle.std.specs.Str.{bytes_eq}
use Rattle.opt_words.specs.Number.{is_number}
use Rattle.opt_words.specs.Word.{is_option, meant, own_value}
use Rattle.opt_words.specs.declared.fault.WordFault.{WordFault}
use Rattle.opt_words.specs.declared.fault.WordFault.TheVariants.{Unknown, MissingValue, UnwantedValue, BadNumber}
use Rattle.opt_words.specs.declared.row.Row.{Row}
use Rattle.opt_words.specs.declared.row.Form.{Form}
use Rattle.opt_words.specs.declared.row.Form.TheVariants.{Flag, Switch, Once, Many, Glued, Number}
use Rattle.opt_words.specs.declared.step.Given.{Given}
use Rattle.opt_words.specs.declared.step.Step.{Step}
use Rattle.opt_words.specs.declared.table.Table.{Table}

-- the bytes of the words
abbrev pub texts : List (String Global) → List (List ℕ)
texts words = map string_bytes words

-- a step that takes a row's value, which stands in a word from an offset on, and the word that it comes to
abbrev pub takes : ℕ → ℕ → ℕ → ℕ → Bool → Step
takes row word at next only_plain =
    record { given = Some (record { row = row; word = word; at = at }); next = next; only_plain = only_plain }

-- an option at a word takes its own value from an offset on, or else the next word
abbrev pub valued : ℕ → ℕ → Option ℕ → Option (List ℕ) → Result Step WordFault
valued row at (Some own) next = Ok (takes row at own (at + 1) false)
valued row at None (Some value) = Ok (takes row (at + 1) 0 (at + 2) false)
valued row at None None = Err (MissingValue at)

-- a value is one of the texts that it may be, or else it is this fault
abbrev pub wants : Bool → WordFault → Result Step WordFault → Result Step WordFault
wants true fault step = step
wants false fault step = Err fault

-- the value of an option: the rest of its word, or else the next word, or else nothing
abbrev pub value_text : List ℕ → Option ℕ → Option (List ℕ) → List ℕ
value_text word (Some own) next = drop own word
value_text word None (Some value) = value
value_text word None None = []

-- whether a switch takes this value
abbrev pub is_truth : List ℕ → Bool
is_truth value = bytes_eq value (codes "true") || bytes_eq value (codes "false")

-- a number's value is tested where there is one
abbrev pub numbered : ℕ → ℕ → Result Step WordFault → List ℕ → ℕ → Result Step WordFault
numbered least most (Ok step) value at = wants (is_number least most value) (BadNumber at) (Ok step)
numbered least most (Err fault) value at = Err fault

-- an option of a form, whose own value begins at an offset if it has one
abbrev pub formed : Form → ℕ → ℕ → List ℕ → Option ℕ → Option (List ℕ) → Result Step WordFault
formed Flag row at word None next = Ok (takes row at (length word) (at + 1) false)
formed Flag row at word (Some own) next = Err (UnwantedValue at)
formed Switch row at word None next = Ok (takes row at (length word) (at + 1) false)
formed Switch row at word (Some own) next =
    wants (is_truth (drop own word)) (UnwantedValue at) (Ok (takes row at own (at + 1) false))
formed Once row at word own next = valued row at own next
formed Many row at word own next = valued row at own next
formed Glued row at word own next = valued row at own next
formed (Number least most) row at word own next =
    numbered least most (valued row at own next) (value_text word own next) at

-- an option that means a row
abbrev pub option_of : Option Row → ℕ → ℕ → List ℕ → Option (List ℕ) → Result Step WordFault
option_of (Some one) row at word next = formed one.form row at word (own_value one word) next
option_of None row at word next = Err (Unknown at)

abbrev pub option_step : List Row → Option ℕ → ℕ → List ℕ → Option (List ℕ) → Result Step WordFault
option_step rows (Some row) at word next = option_of (slice_get rows row) row at word next
option_step rows None at word next = Err (Unknown at)

-- an option at a word, with the next word
abbrev pub option_at : List Row → ℕ → List ℕ → Option (List ℕ) → Result Step WordFault
option_at rows at word next = option_step rows (meant rows word) at word next

-- the first of the words that are left
abbrev pub next_word : List (String Global) → Option (List ℕ)
next_word rest = slice_get (texts rest) 0

-- the step at a word, with the next word
abbrev pub step_at : List Row → Bool → ℕ → Bool → List ℕ → Option (List ℕ) → Result Step WordFault
step_at rows stop_at_plain at only_plain word next =
    if only_plain then Ok (takes (length rows) at 0 (at + 1) true)
    else if not (is_option word) then Ok (takes (length rows) at 0 (at + 1) stop_at_plain)
    else if bytes_eq word (codes "--") then Ok (record { given = None; next = at + 1; only_plain = true })
    else option_at rows at word next

-- a step, where there was a word for it
abbrev pub stepped : Result Step WordFault → Result (Option Step) WordFault
stepped (Ok step) = Ok (Some step)
stepped (Err fault) = Err fault

-- the step at the first of the words that are left
abbrev pub step : List Row → Bool → ℕ → Bool → List (List ℕ) → Result (Option Step) WordFault
step rows stop_at_plain at only_plain [] = Ok None
step rows stop_at_plain at only_plain (word ∷ rest) =
    stepped (step_at rows stop_at_plain at only_plain word (slice_get rest 0))

-- by a table: the step at a word, and at the first of the words from an index on
abbrev pub step_of : {n : ℕ} → Table n → ℕ → Bool → List ℕ → Option (List ℕ) → Result Step WordFault
step_of table at only_plain word next = step_at table.rows table.stop_at_plain at only_plain word next

abbrev pub step_from : {n : ℕ} → Table n → ℕ → Bool → List (List ℕ) → Result (Option Step) WordFault
step_from table at only_plain words = step table.rows table.stop_at_plain at only_plain (drop at words)

-- what is given stands in these words
abbrev pub Stands : List (List ℕ) → Given → Type 0
Stands words given = (given.word < length words) × (given.at ≤ length (slice_index_or words given.word []))

-- its bytes
abbrev pub value_of : List (List ℕ) → Given → List ℕ
value_of words given = drop given.at (slice_index_or words given.word [])

-- where a step from a word leads, with so many words behind that word: to the next word or the one behind it, or the
-- words' end; its value stands in the word, from an offset on, or is the next word
pub record Leads (rows at : ℕ) (word : List ℕ) (count : ℕ) (step : Step) : Type 0 where
  pub onward : at < step.next
  pub short : step.next ≤ at + 2
  pub within : step.next ≤ at + 1 + count
  pub row : IfSome step.given (λ given. given.row ≤ rows)
  pub stands : IfSome step.given (λ given.
      ((given.word ≡ at) × (given.at ≤ length word)) ⊎ ((given.word ≡ at + 1) × (given.at ≡ 0) × (0 < count)))

-- where a step from an index leads, said of the words: what it takes stands in them
pub record StepsOn (rows from : ℕ) (words : List (List ℕ)) (step : Step) : Type 0 where
  pub onward : from < step.next
  pub short : step.next ≤ from + 2
  pub within : step.next ≤ length words
  pub row : IfSome step.given (λ given. given.row ≤ rows)
  pub stands : IfSome step.given (Stands words)
