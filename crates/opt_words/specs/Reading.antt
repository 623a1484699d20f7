-- The reading of all words: what they give, and the settings that come of it.
-- After LLVM Command Guide: the last one of an option that is given again counts. Own rule: which options are given once.
use Rattle.std.specs.Prelude.{◌≡◌, ◌<◌, All, ℕ, Bool, true, false, ◌+◌, ◌==◌, ◌&&◌, nat_lt, if◌then◌else◌, List, [], ◌∷◌, ◌++◌, length, slice_get, slice_index, slice_index_or, count_by, Option, Some, None, IfSome, Result, Ok, Err}
use Rattle.opt_words.specs.Step.{Stands, step_at}
use Rattle.opt_words.specs.declared.fault.WordFault.{WordFault}
use Rattle.opt_words.specs.declared.fault.WordFault.TheVariants.{TwiceGiven}
use Rattle.opt_words.specs.declared.row.Row.{Row}
use Rattle.opt_words.specs.declared.row.Form.{Form}
use Rattle.opt_words.specs.declared.row.Form.TheVariants.{Once, Number}
use Rattle.opt_words.specs.declared.step.Given.{Given}
use Rattle.opt_words.specs.declared.settings.Settings.{Settings}
use Rattle.opt_words.specs.declared.table.Table.{Table}

-- whether an option may be given once
abbrev pub is_once : Form → Bool
is_once Once = true
is_once (Number least most) = true
is_once form = false

abbrev pub is_once_row : Option Row → Bool
is_once_row (Some row) = is_once row.form
is_once_row None = false

-- how often a row is given
abbrev pub times : ℕ → List Given → ℕ
times row givens = count_by (λ given. given.row == row) givens

-- what a row is given last
abbrev pub last_behind : Option Given → ℕ → List Given → Option Given
last_behind last row [] = last
last_behind last row (given ∷ rest) = last_behind (if given.row == row then Some given else last) row rest

abbrev pub last : ℕ → List Given → Option Given
last row givens = last_behind None row givens

-- what a row is given first
abbrev pub first : ℕ → List Given → Option Given
first row [] = None
first row (given ∷ rest) = if given.row == row then Some given else first row rest

-- whether it is the second of a row that may be given once
abbrev pub is_twice : List Row → List Given → Given → Bool
is_twice rows before given = is_once_row (slice_get rows given.row) && nat_lt 0 (times given.row before)

-- what was given before, and what a step takes behind it
abbrev pub behind : List Given → Option Given → List Given
behind before None = before
behind before (Some given) = before ++ given ∷ []

-- the same, where it isn't one too many
abbrev pub joined : List Row → ℕ → List Given → Option Given → Result (List Given) WordFault
joined rows at before None = Ok before
joined rows at before (Some given) =
    if is_twice rows before given then Err (TwiceGiven at) else Ok (behind before (Some given))

abbrev pub and_then : {A B E : Type 0} → Result A E → (A → Result B E) → Result B E
and_then (Ok value) next = next value
and_then (Err fault) next = Err fault

-- what the words give in order, or the fault of the first that has one; a word that is the value of the one before it
-- is passed over
unfoldable pub givens_from : List Row → Bool → ℕ → Bool → Bool → List Given → List (List ℕ) → Result (List Given) WordFault
givens_from rows stop_at_plain at only_plain is_value before [] = Ok before
givens_from rows stop_at_plain at only_plain true before (word ∷ rest) =
    givens_from rows stop_at_plain (at + 1) only_plain false before rest
givens_from rows stop_at_plain at only_plain false before (word ∷ rest) =
    and_then (step_at rows stop_at_plain at only_plain word (slice_get rest 0))
    (λ step. and_then (joined rows at before step.given)
    (λ givens. givens_from rows stop_at_plain (at + 1) step.only_plain (nat_lt (at + 1) step.next) givens rest))

abbrev pub givens : List Row → Bool → List (List ℕ) → Result (List Given) WordFault
givens rows stop_at_plain words = givens_from rows stop_at_plain 0 false false [] words

-- what words give by a table
abbrev pub givens_by : {n : ℕ} → Table n → List (List ℕ) → Result (List Given) WordFault
givens_by table words = givens table.rows table.stop_at_plain words

-- where the words have no fault, this is all that they give
abbrev pub AreAll : Result (List Given) WordFault → List Given → Type 0
AreAll wanted all = (due : List Given) → wanted ≡ Ok due → all ≡ due

-- the settings that come of what is given: for each row how often and what last, and how many words are plain and
-- which first
pub record IsTally (n : ℕ) (givens : List Given) (settings : Settings n) : Type 0 where
  pub rows : (length settings.times ≡ n) × (length settings.last ≡ n)
  pub counted : (row : ℕ) → row < n → slice_index settings.times row ≡ times row givens
  pub latest : (row : ℕ) → row < n → slice_index_or settings.last row None ≡ last row givens
  pub others : settings.plain ≡ times n givens
  pub foremost : settings.first_plain ≡ first n givens

-- all that is given last, and the first plain word, stand in these words
abbrev pub AllStand : (n : ℕ) → List (List ℕ) → Settings n → Type 0
AllStand n words settings =
    ((row : ℕ) → row < n → IfSome (slice_index_or settings.last row None) (Stands words))
    × IfSome settings.first_plain (Stands words)

-- this holds of whatever was given before, where these settings come of it
abbrev pub OfGivens : (n : ℕ) → Settings n → (List Given → Type 0) → Type 0
OfGivens n settings holds = (before : List Given) → IsTally n before settings → holds before

-- what a step takes is counted behind all that was given before
abbrev pub IsCounted : (n : ℕ) → Option Given → Settings n → Settings n → Type 0
IsCounted n given old new = OfGivens n old (λ before. IsTally n (behind before given) new)

-- the same, where it isn't one too many; or it is, and this is the fault
abbrev pub IsJoined : (n : ℕ) → List Row → ℕ → Option Given → Settings n → Settings n → Type 0
IsJoined n rows at given old new =
    OfGivens n old (λ before. (joined rows at before given ≡ Ok (behind before given)) × IsTally n (behind before given) new)

abbrev pub IsRefused : (n : ℕ) → List Row → ℕ → Option Given → Settings n → WordFault → Type 0
IsRefused n rows at given settings fault = OfGivens n settings (λ before. joined rows at before given ≡ Err fault)

-- where what a step takes stands in some words, all that is given last still stands there
abbrev pub StillStand : (n : ℕ) → Option Given → Settings n → Settings n → Type 0
StillStand n given old new =
    (words : List (List ℕ)) → IfSome given (Stands words) → AllStand n words old → AllStand n words new

-- or all that is given does
abbrev pub GivensStand : Option Given → List Given → List Given → Type 0
GivensStand given old new =
    (words : List (List ℕ)) → IfSome given (Stands words) → All (Stands words) old → All (Stands words) new

-- a reading of the words: the settings that come of what they give, or the first fault
abbrev pub Reads : (n : ℕ) → Result (List Given) WordFault → Result (Settings n) WordFault → Type 0
Reads n (Ok givens) (Ok settings) = IsTally n givens settings
Reads n (Err fault) (Err told) = told ≡ fault
Reads n wanted told = ⊥
