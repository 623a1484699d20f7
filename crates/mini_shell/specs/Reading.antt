-- The line that words and operators make, or the first refusal.
-- After LLVM Testing Infrastructure Guide; POSIX.1 XCU 2.9 has lists, pipes and commands. Own rules: what is refused, and
-- that a `cd` that doesn't stand alone counts only where nothing else is refused.
use Rattle.std.specs.Prelude.{codes, ◌≡◌, ℕ, ◌==◌, ◌&&◌, ◌||◌, Bool, true, false, if◌then◌else◌, List, [], ◌∷◌, ◌++◌, length, drop, Option, Some, None, Result, Ok, Err}
use Rattle.std.specs.List.{list_any}
use Rattle.std.specs.Option.{option_or}
use Rattle.std.specs.Str.{bytes_eq}
use Rattle.mini_shell.specs.Fault.{refused}
use Rattle.mini_shell.specs.Token.{next_at}
use Rattle.mini_shell.specs.declared.token.Next.{Next}
use Rattle.mini_shell.specs.declared.token.Next.TheVariants.{Found, Over}
use Rattle.mini_shell.specs.declared.fault.ShellFail.{ShellFail}
use Rattle.mini_shell.specs.declared.fault.ShellFail.TheVariants.{Bad, NoMemory}
use Rattle.mini_shell.specs.declared.fault.ShellFault.{ShellFault}
use Rattle.mini_shell.specs.declared.fault.ShellKind.TheVariants.{BadCd, LeftOut, NoCommand, NoTarget, TwiceRedirected}
use Rattle.mini_shell.specs.declared.line.Command.{Command}
use Rattle.mini_shell.specs.declared.line.Join.{Join}
use Rattle.mini_shell.specs.declared.line.Join.TheVariants.{First, Then}
use Rattle.mini_shell.specs.declared.line.Line.{Line}
use Rattle.mini_shell.specs.declared.line.Pipe.{Pipe}
use Rattle.mini_shell.specs.declared.line.Redir.{Redir}
use Rattle.mini_shell.specs.declared.line.RedirForm.{RedirForm}
use Rattle.mini_shell.specs.declared.line.RedirForm.TheVariants as form
use Rattle.mini_shell.specs.declared.reader.Reader.{Reader}
use Rattle.mini_shell.specs.declared.reader.Wants.{Wants}
use Rattle.mini_shell.specs.declared.reader.Wants.TheVariants as wants
use Rattle.mini_shell.specs.declared.token.Token.{Token}
use Rattle.mini_shell.specs.declared.token.TokenKind.{TokenKind}
use Rattle.mini_shell.specs.declared.token.TokenKind.TheVariants.{Word, Pipes, Joins, Redirects}

-- whether a command isn't in this shell
abbrev pub is_left_out : List ℕ → Bool
is_left_out word =
    bytes_eq word (codes "export") || bytes_eq word (codes "pushd") || bytes_eq word (codes "popd")
    || bytes_eq word (codes "ulimit") || bytes_eq word (codes "umask")

abbrev pub is_cd : List ℕ → Bool
is_cd word = bytes_eq word (codes "cd")

-- which streams a redirection moves
abbrev pub moves_input : RedirForm → Bool
moves_input form.Input = true
moves_input form = false

abbrev pub moves_output : RedirForm → Bool
moves_output form.Out = true
moves_output form.OutAppend = true
moves_output form.Both = true
moves_output form.OutToErr = true
moves_output form = false

abbrev pub moves_errors : RedirForm → Bool
moves_errors form.Err = true
moves_errors form.ErrAppend = true
moves_errors form.Both = true
moves_errors form.ErrToOut = true
moves_errors form = false

-- whether two redirections move the same stream
abbrev pub meet : RedirForm → RedirForm → Bool
meet one other =
    (moves_input one && moves_input other) || (moves_output one && moves_output other)
    || (moves_errors one && moves_errors other)

-- whether a redirection moves a stream that one of these moves
abbrev pub is_twice : RedirForm → List Redir → Bool
is_twice form redirs = list_any (λ redir. meet form redir.form) redirs

-- whether a stream is sent to the other one, so that no word is wanted
abbrev pub is_stream : RedirForm → Bool
is_stream form.ErrToOut = true
is_stream form.OutToErr = true
is_stream form = false

-- whether a pipe is one command with one word behind its first, and no redirection
abbrev pub is_alone : List Command → Bool
is_alone (command ∷ []) = length command.words == 2 && length command.redirs == 0
is_alone commands = false

abbrev pub no_command : Command
no_command = record { words = []; redirs = [] }

abbrev pub no_pipe : Join → Pipe
no_pipe join = record { join = join; inverted = false; commands = [] }

-- a pipe with a command more
abbrev pub with_command : Pipe → Command → Pipe
with_command pipe command =
    record { join = pipe.join; inverted = pipe.inverted; commands = pipe.commands ++ command ∷ [] }

-- the pipe at hand with its last command
abbrev pub whole_pipe : Reader → Pipe
whole_pipe r = with_command r.pipe r.command

-- the first `cd` that doesn't stand alone: one before, or the first one of a pipe of these commands
abbrev pub bad_cd : Option ℕ → Option ℕ → List Command → Option ℕ
bad_cd before cd commands = option_or before (if is_alone commands then None else cd)

abbrev pub bad_cd_of : Reader → Option ℕ
bad_cd_of r = bad_cd r.bad_cd r.cd (whole_pipe r).commands

-- a command that begins with this word
abbrev pub begun : ℕ → List ℕ → Reader → Result Reader ShellFault
begun at word r =
    if is_left_out word then refused LeftOut at
    else Ok (record {
      pipes = r.pipes;
      pipe = r.pipe;
      command = record { words = word ∷ []; redirs = [] };
      wants = wants.More;
      cd = if is_cd word then option_or r.cd (Some at) else r.cd;
      bad_cd = r.bad_cd;
    })

-- a command with a redirection more
abbrev pub redirected : RedirForm → List ℕ → Reader → Reader
redirected form target r = record {
  pipes = r.pipes;
  pipe = r.pipe;
  command = record {
    words = r.command.words;
    redirs = r.command.redirs ++ record { form = form; target = target } ∷ [];
  };
  wants = wants.More;
  cd = r.cd;
  bad_cd = r.bad_cd;
}

-- the same reader, waiting for something else
abbrev pub waiting : Wants → Reader → Reader
waiting wants r = record {
  pipes = r.pipes;
  pipe = r.pipe;
  command = r.command;
  wants = wants;
  cd = r.cd;
  bad_cd = r.bad_cd;
}

-- a token where a pipe begins
abbrev pub at_start : ℕ → TokenKind → Reader → Result Reader ShellFault
at_start at (Word value is_bang) r =
    if is_bang then Ok (record {
      pipes = r.pipes;
      pipe = record { join = r.pipe.join; inverted = true; commands = r.pipe.commands };
      command = r.command;
      wants = wants.First;
      cd = r.cd;
      bad_cd = r.bad_cd;
    })
    else begun at value r
at_start at kind r = refused NoCommand at

-- a token where a command begins
abbrev pub at_first : ℕ → TokenKind → Reader → Result Reader ShellFault
at_first at (Word value is_bang) r = begun at value r
at_first at kind r = refused NoCommand at

-- a command with a word more
abbrev pub worded : List ℕ → Reader → Reader
worded word r = record {
  pipes = r.pipes;
  pipe = r.pipe;
  command = record { words = r.command.words ++ word ∷ []; redirs = r.command.redirs };
  wants = wants.More;
  cd = r.cd;
  bad_cd = r.bad_cd;
}

-- a command that a `|` ends
abbrev pub piped : Reader → Reader
piped r = record {
  pipes = r.pipes;
  pipe = whole_pipe r;
  command = no_command;
  wants = wants.First;
  cd = r.cd;
  bad_cd = r.bad_cd;
}

-- a pipe that ends where another one is joined to it
abbrev pub joined : Join → Reader → Reader
joined join r = record {
  pipes = r.pipes ++ whole_pipe r ∷ [];
  pipe = no_pipe join;
  command = no_command;
  wants = wants.Start;
  cd = None;
  bad_cd = bad_cd_of r;
}

-- a redirection behind a command's first word
abbrev pub redirects : ℕ → RedirForm → Reader → Result Reader ShellFault
redirects at form r =
    if is_twice form r.command.redirs then refused TwiceRedirected at
    else if is_stream form then Ok (redirected form [] r)
    else Ok (waiting (wants.Target form) r)

-- a token in a command, behind its first word
abbrev pub at_more : ℕ → TokenKind → Reader → Result Reader ShellFault
at_more at (Word value is_bang) r = Ok (worded value r)
at_more at Pipes r = Ok (piped r)
at_more at (Joins join) r = Ok (joined join r)
at_more at (Redirects form) r = redirects at form r

-- a token behind a redirection
abbrev pub at_target : RedirForm → ℕ → TokenKind → Reader → Result Reader ShellFault
at_target form at (Word value is_bang) r = Ok (redirected form value r)
at_target form at kind r = refused NoTarget at

-- a token more
abbrev pub step_in : Wants → ℕ → TokenKind → Reader → Result Reader ShellFault
step_in wants.Start at kind r = at_start at kind r
step_in wants.First at kind r = at_first at kind r
step_in wants.More at kind r = at_more at kind r
step_in (wants.Target form) at kind r = at_target form at kind r

abbrev pub step : Reader → Token → Result Reader ShellFault
step r token = step_in r.wants token.at token.kind r

-- the line of these pipes, unless a `cd` is refused
abbrev pub made : Option ℕ → List Pipe → Result Line ShellFault
made None pipes = Ok (record { pipes = pipes })
made (Some at) pipes = refused BadCd at

abbrev pub is_then : Join → Bool
is_then Then = true
is_then join = false

-- the line that ends behind a command
abbrev pub closed : Reader → Result Line ShellFault
closed r = made (bad_cd_of r) (r.pipes ++ whole_pipe r ∷ [])

-- the line that ends at an offset
abbrev pub ended_in : Wants → ℕ → Reader → Result Line ShellFault
ended_in wants.Start at r = if is_then r.pipe.join then made r.bad_cd r.pipes else refused NoCommand at
ended_in wants.First at r = refused NoCommand at
ended_in wants.More at r = closed r
ended_in (wants.Target form) at r = refused NoTarget at

abbrev pub ended : Reader → ℕ → Result Line ShellFault
ended r at = ended_in r.wants at r

-- nothing of a line
abbrev pub none_of_it : Reader
none_of_it = record {
  pipes = [];
  pipe = no_pipe First;
  command = no_command;
  wants = wants.Start;
  cd = None;
  bad_cd = None;
}

-- what a step refuses
abbrev pub refusal : Result Reader ShellFault → Option (Result Line ShellFault)
refusal (Ok next) = None
refusal (Err fault) = Some (Err fault)

-- what is told of a line where this comes next, unless it is a token that is taken
abbrev pub told_at : Reader → Result Next ShellFault → Option (Result Line ShellFault)
told_at r (Ok (Over end)) = Some (ended r end)
told_at r (Ok (Found token end)) = refusal (step r token)
told_at r (Err fault) = Some (Err fault)

-- these tokens of a text from an offset on are taken one after the other, and this is told of what comes behind them
abbrev pub IsReadFrom : List ℕ → ℕ → Reader → List Token → Result Line ShellFault → Type 0
IsReadFrom text at r [] told = told_at r (next_at at (drop at text)) ≡ Some told
IsReadFrom text at r (token ∷ tokens) told =
    (end : ℕ) × (next : Reader) × (next_at at (drop at text) ≡ Ok (Found token end)) × (step r token ≡ Ok next)
    × IsReadFrom text end next tokens told

-- A text is read as this line, or has this first refusal.
abbrev pub IsReading : List ℕ → Result Line ShellFault → Type 0
IsReading text told = (tokens : List Token) × IsReadFrom text 0 none_of_it tokens told

-- what was answered is the reading of a text, or memory ran out
abbrev pub Reads : List ℕ → Result Line ShellFail → Type 0
Reads text (Ok line) = IsReading text (Ok line)
Reads text (Err (Bad fault)) = IsReading text (Err fault)
Reads text (Err NoMemory) = Unit {0}

-- Law: a text is read in at most one way.
abbrev pub ReadingIsOne : Type 0
ReadingIsOne = (text : List ℕ) (told other : Result Line ShellFault) → IsReading text told → IsReading text other → told ≡ other
