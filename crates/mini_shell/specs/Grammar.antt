-- What a shell line is, apart from any way of reading it.
--   line = pipe { ("&&" | "||" | ";") pipe } [ ";" ]
--   pipe = [ "!" ] command { "|" command }
--   command = word { word | redirection }
-- After LLVM Testing Infrastructure Guide; POSIX.1 XCU 2.9 has lists, pipes and commands, and 2.7 redirections. Own
-- rules: no stream is redirected twice, some commands are left out, and a `cd` is a pipe of its own.
use Rattle.std.specs.Prelude.{◌≡◌, ℕ, Bool, true, false, List, [], ◌∷◌, ◌++◌, ◌⊎◌, Result, Ok, Err, drop}
use Rattle.std.specs.Bool.{MatchBool}
use Rattle.std.specs.List.{list_any}
use Rattle.mini_shell.specs.Reading.{IsReading, is_alone, is_cd, is_left_out, is_stream, is_twice}
use Rattle.mini_shell.specs.Token.{next_at}
use Rattle.mini_shell.specs.declared.fault.ShellFail.{ShellFail}
use Rattle.mini_shell.specs.declared.fault.ShellFail.TheVariants.{Bad, NoMemory}
use Rattle.mini_shell.specs.declared.line.Command.{Command}
use Rattle.mini_shell.specs.declared.line.Join.TheVariants.{First, Then}
use Rattle.mini_shell.specs.declared.line.Line.{Line}
use Rattle.mini_shell.specs.declared.line.Pipe.{Pipe}
use Rattle.mini_shell.specs.declared.line.Redir.{Redir}
use Rattle.mini_shell.specs.declared.line.RedirForm.{RedirForm}
use Rattle.mini_shell.specs.declared.token.Next.TheVariants.{Found, Over}
use Rattle.mini_shell.specs.declared.token.Token.{Token}
use Rattle.mini_shell.specs.declared.token.TokenKind.{TokenKind}
use Rattle.mini_shell.specs.declared.token.TokenKind.TheVariants.{Word, Pipes, Joins, Redirects}

-- the words and operators of a text from an offset on are these, and the text ends behind them
abbrev pub AreTokens : List ℕ → ℕ → List Token → ℕ → Type 0
AreTokens text at [] end = next_at at (drop at text) ≡ Ok (Over end)
AreTokens text at (token ∷ tokens) end =
    (next : ℕ) × (next_at at (drop at text) ≡ Ok (Found token next)) × AreTokens text next tokens end

-- what stands in a command behind its first word
pub data Arg : Type 0 where
  plain : List ℕ → Arg
  moved : RedirForm → List ℕ → Arg

abbrev pub words_of : List Arg → List (List ℕ)
words_of [] = []
words_of (plain value ∷ args) = value ∷ words_of args
words_of (moved form target ∷ args) = words_of args

abbrev pub redirs_of : List Arg → List Redir
redirs_of [] = []
redirs_of (plain value ∷ args) = redirs_of args
redirs_of (moved form target ∷ args) = record { form = form; target = target } ∷ redirs_of args

-- one token of a kind, and others behind it
abbrev pub IsToken : TokenKind → List Token → List Token → Type 0
IsToken kind tokens rest = (at : ℕ) × (tokens ≡ record { at = at; kind = kind } ∷ rest)

abbrev pub IsWord : List ℕ → List Token → List Token → Type 0
IsWord value tokens rest = (is_bang : Bool) × IsToken (Word value is_bang) tokens rest

-- a word, or a redirection and the word of its file
abbrev pub IsArg : Arg → List Token → List Token → Type 0
IsArg (plain value) tokens rest = IsWord value tokens rest
IsArg (moved form target) tokens rest =
    MatchBool (is_stream form)
    ((target ≡ []) × IsToken (Redirects form) tokens rest)
    ((behind : List Token) × IsToken (Redirects form) tokens behind × IsWord target behind rest)

abbrev pub AreArgs : List Arg → List Token → List Token → Type 0
AreArgs [] tokens rest = tokens ≡ rest
AreArgs (arg ∷ args) tokens rest = (behind : List Token) × IsArg arg tokens behind × AreArgs args behind rest

-- none of these redirections moves a stream that one before it moves
abbrev pub AreOnce : List Redir → List Redir → Type 0
AreOnce before [] = Unit {0}
AreOnce before (redir ∷ redirs) = (is_twice redir.form before ≡ false) × AreOnce (before ++ redir ∷ []) redirs

-- a word, and others and redirections
abbrev pub IsCommand : Command → List Token → List Token → Type 0
IsCommand command tokens rest =
    (name : List ℕ) × (args : List Arg) × (behind : List Token)
    × IsWord name tokens behind × AreArgs args behind rest
    × (command ≡ record { words = name ∷ words_of args; redirs = redirs_of args })
    × (is_left_out name ≡ false) × AreOnce [] (redirs_of args)

-- commands, each behind a `|`
abbrev pub ArePiped : List Command → List Token → List Token → Type 0
ArePiped [] tokens rest = tokens ≡ rest
ArePiped (command ∷ commands) tokens rest =
    (middle : List Token) × (behind : List Token)
    × IsToken Pipes tokens middle × IsCommand command middle behind × ArePiped commands behind rest

-- a command, and others behind a `|`
abbrev pub AreCommands : List Command → List Token → List Token → Type 0
AreCommands [] tokens rest = ⊥
AreCommands (command ∷ commands) tokens rest =
    (behind : List Token) × IsCommand command tokens behind × ArePiped commands behind rest

abbrev pub is_bang : TokenKind → Bool
is_bang (Word value alone) = alone
is_bang kind = false

abbrev pub begins_bang : List Token → Bool
begins_bang [] = false
begins_bang (token ∷ tokens) = is_bang token.kind

-- a `!` where there is one
abbrev pub IsInverted : Bool → List Token → List Token → Type 0
IsInverted true tokens rest = (token : Token) × (tokens ≡ token ∷ rest) × (is_bang token.kind ≡ true)
IsInverted false tokens rest = (tokens ≡ rest) × (begins_bang tokens ≡ false)

abbrev pub begins_cd : List (List ℕ) → Bool
begins_cd [] = false
begins_cd (word ∷ words) = is_cd word

abbrev pub calls_cd : Command → Bool
calls_cd command = begins_cd command.words

-- a pipe, in which a `cd` is alone
abbrev pub IsPipe : Pipe → List Token → List Token → Type 0
IsPipe pipe tokens rest =
    (behind : List Token) × IsInverted pipe.inverted tokens behind × AreCommands pipe.commands behind rest
    × (list_any calls_cd pipe.commands ≡ true → is_alone pipe.commands ≡ true)

-- pipes, each behind what joins it to the one before, and at the end a `;` or nothing
abbrev pub AreJoined : List Pipe → List Token → Type 0
AreJoined [] tokens = (tokens ≡ []) ⊎ IsToken (Joins Then) tokens []
AreJoined (pipe ∷ pipes) tokens =
    (middle : List Token) × (behind : List Token)
    × IsToken (Joins pipe.join) tokens middle × IsPipe pipe middle behind × AreJoined pipes behind

-- a pipe, and others that are joined to it
abbrev pub ArePipes : List Pipe → List Token → Type 0
ArePipes [] tokens = ⊥
ArePipes (pipe ∷ pipes) tokens =
    (behind : List Token) × (pipe.join ≡ First) × IsPipe pipe tokens behind × AreJoined pipes behind

-- A text is this line.
abbrev pub IsLine : List ℕ → Line → Type 0
IsLine text line =
    (tokens : List Token) × (end : ℕ) × AreTokens text 0 tokens end × ArePipes line.pipes tokens

-- what was answered is the line that a text is, or the text is none, or memory ran out
abbrev pub Parses : List ℕ → Result Line ShellFail → Type 0
Parses text (Ok line) = IsLine text line
Parses text (Err (Bad fault)) = (line : Line) → IsLine text line → ⊥
Parses text (Err NoMemory) = Unit {0}

-- Law: a text is read as a line where it is that line, and at most one.
pub record LinesAreRead : Type 0 where
  pub read : (text : List ℕ) (line : Line) → IsLine text line → IsReading text (Ok line)
  pub said : (text : List ℕ) (line : Line) → IsReading text (Ok line) → IsLine text line
  pub one : (text : List ℕ) (line other : Line) → IsLine text line → IsLine text other → line ≡ other
