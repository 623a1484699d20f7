-- How a body is cut into plain text, regular expressions and blocks, apart from any way of reading it.
--   body = { text | "{{" bytes "}}" | "[[" inside "]]" }      inside = { byte | "\" byte | "[" inside "]" }
-- After LLVM Command Guide, FileCheck, 'FileCheck Regex Matching Syntax' and 'FileCheck String Substitution Blocks'.
-- Own rules: a regular expression ends at its first `}}`; inside a block brackets pair, and a backslash hides the byte
-- behind it; of several `[` the last two begin the block.
use Rattle.std.specs.Prelude.{◌≡◌, ◌≢◌, ℕ, Bool, false, ◌&&◌, ◌==◌, not, if◌then◌else◌, List, [], ◌∷◌, IsTrue, IsFalse, drop}
use Rattle.pattern_parse.specs.declared.cutting.Front.{Front}
use Rattle.pattern_parse.specs.declared.cutting.Front.TheVariants.{End, Regex, Block, Text}

-- what stands inside a block
pub data Inside : Type 0 where
  nothing : Inside
  plain : ℕ → Inside → Inside
  escaped : ℕ → Inside → Inside
  bracket : Inside → Inside → Inside

-- its bytes, and those behind it
abbrev pub written : Inside → List ℕ → List ℕ
written nothing rest = rest
written (plain b i) rest = b ∷ written i rest
written (escaped b i) rest = 92 ∷ b ∷ written i rest
written (bracket i j) rest = 91 ∷ written i (93 ∷ written j rest)

abbrev pub is_plain : ℕ → Bool
is_plain b = not (b == 91) && not (b == 92) && not (b == 93)

-- the plain bytes are no brackets and no backslashes
abbrev pub IsSound : Inside → Type 0
IsSound nothing = Unit {0}
IsSound (plain b i) = IsTrue (is_plain b) × IsSound i
IsSound (escaped b i) = IsSound i
IsSound (bracket i j) = IsSound i × IsSound j

pub data Raw : Type 0 where
  text : List ℕ → Raw
  regex : List ℕ → Raw
  block : List ℕ → Raw

-- how a body ends
pub data Ending : Type 0 where
  over : Ending
  no_regex_end : Ending
  no_block_end : Ending

-- whether two of a byte stand at the front
abbrev pub starts_twice : ℕ → List ℕ → Bool
starts_twice b [] = false
starts_twice b (x ∷ []) = false
starts_twice b (x ∷ y ∷ rest) = (x == b) && (y == b)

-- what begins at the front of a body
abbrev pub front_at : List ℕ → Front
front_at [] = End
front_at (b ∷ rest) =
    if starts_twice 123 (b ∷ rest) then Regex
    else if starts_twice 91 (b ∷ rest) && not (starts_twice 91 rest) then Block
    else Text

-- these bytes are plain text, and this behind them isn't
abbrev pub IsRun : List ℕ → List ℕ → List ℕ → Type 0
IsRun [] body rest = (rest ≡ body) × (front_at body ≢ Text)
IsRun (b ∷ bs) body rest = (front_at body ≡ Text) × (more : List ℕ) × (body ≡ b ∷ more) × IsRun bs more rest

-- these bytes stand before the first `}}`, and this behind it
abbrev pub IsUpToEnd : List ℕ → List ℕ → List ℕ → Type 0
IsUpToEnd [] body rest = body ≡ 125 ∷ 125 ∷ rest
IsUpToEnd (b ∷ bs) body rest =
    (more : List ℕ) × (body ≡ b ∷ more) × IsFalse (starts_twice 125 body) × IsUpToEnd bs more rest

-- these bytes stand inside the block, and this behind its `]]`
abbrev pub IsBlock : List ℕ → List ℕ → List ℕ → Type 0
IsBlock bs body rest =
    (i : Inside) × IsSound i × (bs ≡ written i []) × (body ≡ written i (93 ∷ 93 ∷ rest))

-- the body is cut into these pieces, and ends so
abbrev pub IsCut : List ℕ → List Raw → Ending → Type 0
IsCut body [] over = front_at body ≡ End
IsCut body [] no_regex_end =
    (front_at body ≡ Regex) × ((bs rest : List ℕ) → IsUpToEnd bs (drop 2 body) rest → ⊥)
IsCut body [] no_block_end =
    (front_at body ≡ Block) × ((bs rest : List ℕ) → IsBlock bs (drop 2 body) rest → ⊥)
IsCut body (text bs ∷ raws) ending =
    (front_at body ≡ Text) × (rest : List ℕ) × IsRun bs body rest × IsCut rest raws ending
IsCut body (regex bs ∷ raws) ending =
    (front_at body ≡ Regex) × (rest : List ℕ) × IsUpToEnd bs (drop 2 body) rest × IsCut rest raws ending
IsCut body (block bs ∷ raws) ending =
    (front_at body ≡ Block) × (rest : List ℕ) × IsBlock bs (drop 2 body) rest × IsCut rest raws ending

-- Law: a body is cut in at most one way.
abbrev pub CutIsOne : Type 0
CutIsOne =
    (body : List ℕ) (raws others : List Raw) (ending other : Ending)
    → IsCut body raws ending → IsCut body others other → (raws ≡ others) × (ending ≡ other)
