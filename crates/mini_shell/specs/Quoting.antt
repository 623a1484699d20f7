-- How a word is written, apart from any way of reading it.
--   word = part { part }      part = byte | "\" byte | "'" bytes "'" | '"' { byte | "\" byte } '"'
-- After POSIX.1 XCU 2.2, 'Quoting'. Own rules: in double quotes a backslash hides a `"` or a `\` alone, and is a byte of
-- its own before another; a glob and a backquote are no bytes of a word.
use Rattle.std.specs.Prelude.{◌≡◌, ℕ, ◌+◌, ◌==◌, ◌||◌, ◌&&◌, not, Bool, true, false, if◌then◌else◌, List, [], ◌∷◌, ◌++◌, length, Ok}
use Rattle.std.specs.List.{list_any}
use Rattle.mini_shell.specs.Class.{ends_word, has}
use Rattle.mini_shell.specs.Word.{word_at}
use Rattle.mini_shell.specs.declared.class.Class.TheVariants.{Glob}
use Rattle.mini_shell.specs.declared.word.Word.{Word}

-- what stands in double quotes
pub data Kept : Type 0 where
  itself : ℕ → Kept
  slashed : ℕ → Kept

pub data Part : Type 0 where
  bare : ℕ → Part
  hidden : ℕ → Part
  single : List ℕ → Part
  double : List Kept → Part

-- their bytes, and those behind them
abbrev pub kept_written : List Kept → List ℕ → List ℕ
kept_written [] rest = rest
kept_written (itself b ∷ keeps) rest = b ∷ kept_written keeps rest
kept_written (slashed b ∷ keeps) rest = 92 ∷ b ∷ kept_written keeps rest

abbrev pub written : List Part → List ℕ → List ℕ
written [] rest = rest
written (bare b ∷ parts) rest = b ∷ written parts rest
written (hidden b ∷ parts) rest = 92 ∷ b ∷ written parts rest
written (single bytes ∷ parts) rest = 39 ∷ bytes ++ 39 ∷ written parts rest
written (double keeps ∷ parts) rest = 34 ∷ kept_written keeps (34 ∷ written parts rest)

-- what they mean
abbrev pub kept_value : List Kept → List ℕ
kept_value [] = []
kept_value (itself b ∷ keeps) = b ∷ kept_value keeps
kept_value (slashed b ∷ keeps) = if b == 34 || b == 92 then b ∷ kept_value keeps else 92 ∷ b ∷ kept_value keeps

abbrev pub value_of : List Part → List ℕ
value_of [] = []
value_of (bare b ∷ parts) = b ∷ value_of parts
value_of (hidden b ∷ parts) = b ∷ value_of parts
value_of (single bytes ∷ parts) = bytes ++ value_of parts
value_of (double keeps ∷ parts) = kept_value keeps ++ value_of parts

-- whether a byte stands for itself where nothing quotes it
abbrev pub is_bare : ℕ → Bool
is_bare b = not (ends_word b) && not (b == 92) && not (b == 39) && not (b == 34) && not (has Glob b) && not (b == 96)

-- no quote ends where it isn't to, and what isn't quoted stands for itself
abbrev pub AreKept : List Kept → Type 0
AreKept [] = Unit {0}
AreKept (itself b ∷ keeps) = ((b == 34) ≡ false) × ((b == 92) ≡ false) × AreKept keeps
AreKept (slashed b ∷ keeps) = AreKept keeps

abbrev pub AreParts : List Part → Type 0
AreParts [] = Unit {0}
AreParts (bare b ∷ parts) = (is_bare b ≡ true) × AreParts parts
AreParts (hidden b ∷ parts) = AreParts parts
AreParts (single bytes ∷ parts) = (list_any (λ b. b == 39) bytes ≡ false) × AreParts parts
AreParts (double keeps ∷ parts) = AreKept keeps × AreParts parts

-- whether a word may end in front of these bytes
abbrev pub is_end : List ℕ → Bool
is_end [] = true
is_end (b ∷ rest) = ends_word b

-- A text is a word of this value and what stands behind it.
abbrev pub IsWordOf : List ℕ → List ℕ → List ℕ → Type 0
IsWordOf text value rest =
    (parts : List Part) × AreParts parts × (text ≡ written parts rest) × (value ≡ value_of parts) × (is_end rest ≡ true)

-- Law: a word is read at the front of a text exactly where one is written there, and up to its end.
pub record WordsAreRead : Type 0 where
  pub read : (at end : ℕ) (text value rest : List ℕ) → IsWordOf text value rest → end + length rest ≡ at + length text
      → word_at at text ≡ Ok (record { value = value; end = end })
  pub said : (at : ℕ) (text : List ℕ) (word : Word) → word_at at text ≡ Ok word
      → (rest : List ℕ) × IsWordOf text word.value rest × (word.end + length rest ≡ at + length text)
