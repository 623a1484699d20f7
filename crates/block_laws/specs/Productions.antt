-- The productions of a numeric block, apart from any way of reading it:
--   num = [ "%" fmt "," ] [ name ":" ] [ "==" ] [ expr ]      fmt = [ "#" ] [ "." digits ] ( "u" | "d" | "x" | "X" )
--   name = [ "$" ] letter { letter | digit }
-- Blanks may stand between the parts, but not inside fmt and name. Each part says what stands behind it.
-- After LLVM Command Guide, FileCheck, 'FileCheck Numeric Substitution Blocks'. Own rules: digits from 1 to 100; `#` with
-- hex digits alone; `==` wants an expression.
use Rattle.std.specs.Prelude.{◌≡◌, ℕ, ◌≤◌, Bool, true, false, ◌&&◌, ◌==◌, if◌then◌else◌, IsTrue, IsFalse, List, [], ◌∷◌, ◌++◌, Option, Some, None, Ok}
use Rattle.std.specs.List.{list_all}
use Rattle.std.specs.Str.Parse.{digits_value}
use Rattle.ere_tree.specs.Class.{is_blank, is_digit}
use Rattle.num_base.specs.Term.{Term}
use Rattle.num_base.specs.declared.format.Format.{Format}
use Rattle.num_base.specs.declared.format.FormatKind.{FormatKind}
use Rattle.num_base.specs.declared.format.FormatKind.TheVariants.{Unsigned, Signed, LowerHex, UpperHex}
use Rattle.num_exprs.specs.Block.{Num, block_of, reading}
use Rattle.num_exprs.specs.Name.{begins_name, is_in_name}
use Rattle.num_exprs.specs.Productions.{IsExpr}
use Rattle.num_exprs.specs.declared.head.TheConstants.{MAX_DIGITS}

-- the text begins with blanks or none, and this is behind them
abbrev pub Blanks : List ℕ → List ℕ → Type 0
Blanks text rest = (blanks : List ℕ) × IsTrue (list_all is_blank blanks) × (text ≡ blanks ++ rest)

-- FORMATS

abbrev pub letter_of : FormatKind → ℕ
letter_of Unsigned = 117
letter_of Signed = 100
letter_of LowerHex = 120
letter_of UpperHex = 88

abbrev pub is_hex : FormatKind → Bool
is_hex Unsigned = false
is_hex Signed = false
is_hex LowerHex = true
is_hex UpperHex = true

abbrev pub sharp : Bool → List ℕ
sharp alternate = if alternate then 35 ∷ [] else []

-- nothing, or a dot and digits with a value from 1 to 100
abbrev pub ArePlaces : List ℕ → ℕ → Type 0
ArePlaces [] n = n ≡ 0
ArePlaces (dot ∷ digits) n =
    (dot ≡ 46) × IsTrue (list_all is_digit digits) × (n ≡ digits_value 10 digits) × (1 ≤ n) × (n ≤ MAX_DIGITS)

-- the text begins with a format, and this is behind it
abbrev pub IsFmt : List ℕ → Format → List ℕ → Type 0
IsFmt text format rest =
    (places : List ℕ) × ArePlaces places format.digits × (IsTrue format.alternate → IsTrue (is_hex format.kind))
    × (text ≡ sharp format.alternate ++ (places ++ letter_of format.kind ∷ rest))

abbrev pub FormatPart : List ℕ → Option Format → List ℕ → Type 0
FormatPart text None rest = rest ≡ text
FormatPart text (Some format) rest =
    (a : List ℕ) × (b : List ℕ) × (c : List ℕ)
    × Blanks text (37 ∷ a) × Blanks a b × IsFmt b format c × Blanks c (44 ∷ rest)

-- NAMES

abbrev pub is_word : List ℕ → Bool
is_word [] = false
is_word (b ∷ bytes) = begins_name b && list_all is_in_name bytes

abbrev pub is_name : List ℕ → Bool
is_name [] = false
is_name (b ∷ bytes) = if b == 36 then is_word bytes else is_word (b ∷ bytes)

abbrev pub NamePart : List ℕ → Option (List ℕ) → List ℕ → Type 0
NamePart text None rest = rest ≡ text
NamePart text (Some name) rest =
    (a : List ℕ) × IsTrue (is_name name) × Blanks text (name ++ a) × Blanks a (58 ∷ rest)

-- EXPRESSIONS

abbrev pub EqualsPart : List ℕ → Bool → List ℕ → Type 0
EqualsPart text false rest = rest ≡ text
EqualsPart text true rest = Blanks text (61 ∷ 61 ∷ rest)

abbrev pub ExprPart : List ℕ → Bool → Option Term → Type 0
ExprPart text equals None = IsFalse equals × IsTrue (list_all is_blank text)
ExprPart text equals (Some t) = IsExpr text t

-- the text is a numeric block, and says this
pub record IsNum (text : List ℕ) (num : Num) : Type 0 where
  pub behind_format : List ℕ
  pub behind_name : List ℕ
  pub behind_equals : List ℕ
  pub equals : Bool
  pub format : FormatPart text num.format behind_format
  pub name : NamePart behind_format num.defines behind_name
  pub equality : EqualsPart behind_name equals behind_equals
  pub expr : ExprPart behind_equals equals num.expr

-- Law: what is read of a text is what it says as a block, and each block is read.
pub record BlockIsGrammar : Type 0 where
  pub sound : (text : List ℕ) (num : Num) → block_of (reading text) ≡ Ok num → IsNum text num
  pub complete : (text : List ℕ) (num : Num) → IsNum text num → block_of (reading text) ≡ Ok num
