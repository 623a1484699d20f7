-- A line of the grammar is taken token by token, and what is taken is read. Each production leads the reader from one
-- place to the next: behind a command's words, behind a pipe, at the end. The hard one is `takes_piped`, the commands
-- of a pipe, with what is kept of a `cd` among them.
use Rattle.std.proofs.Common.{◌≡◌, ◌∙◌, ℕ, Bool, true, false, cond, List, [], ◌∷◌, ◌++◌, inl, inr, Option, Some, None, Result, Ok, Err, refl, sym, ap, append_assoc, append-nil}
use Rattle.std.specs.Bool.{MatchBool}
use Rattle.std.specs.List.{list_any}
use Rattle.std.specs.Option.{option_or}
use Rattle.mini_shell.proofs.ClassLemmas.{none_of}
use Rattle.mini_shell.specs.Grammar.{Arg, plain, moved, words_of, redirs_of, IsToken, IsWord, IsArg, AreArgs, AreOnce, AreTokens, IsCommand, ArePiped, AreCommands, is_bang, begins_bang, IsInverted, calls_cd, AreJoined, ArePipes, IsLine}
use Rattle.mini_shell.specs.Reading.{IsReadFrom, IsReading, bad_cd, ended, is_alone, is_cd, is_stream, is_twice, made, no_command, no_pipe, none_of_it, step, told_at, with_command}
use Rattle.mini_shell.specs.declared.fault.ShellFault.{ShellFault}
use Rattle.mini_shell.specs.declared.line.Command.{Command}
use Rattle.mini_shell.specs.declared.line.Join.{Join}
use Rattle.mini_shell.specs.declared.line.Line.{Line}
use Rattle.mini_shell.specs.declared.line.Pipe.{Pipe}
use Rattle.mini_shell.specs.declared.line.Redir.{Redir}
use Rattle.mini_shell.specs.declared.line.RedirForm.{RedirForm}
use Rattle.mini_shell.specs.declared.reader.Reader.{Reader}
use Rattle.mini_shell.specs.declared.reader.Wants.{Wants}
use Rattle.mini_shell.specs.declared.reader.Wants.TheVariants as wants
use Rattle.mini_shell.specs.declared.token.Token.{Token}
use Rattle.mini_shell.specs.declared.token.TokenKind.{TokenKind}
use Rattle.mini_shell.specs.declared.token.TokenKind.TheVariants.{Word, Pipes, Joins, Redirects}

-- ---- tokens one after the other

abbrev pub on_step : Result Reader ShellFault → (Reader → Result Line ShellFault) → Result Line ShellFault
on_step (Ok next) go = go next
on_step (Err fault) go = Err fault

-- what a reader tells of these tokens, where the line ends behind them
abbrev pub told_of : Reader → List Token → ℕ → Result Line ShellFault
told_of r [] end = ended r end
told_of r (token ∷ tokens) end = on_step (step r token) (λ next. told_of next tokens end)

-- ---- places of a reader

-- behind the first word of a command
abbrev pub more : List Pipe → Pipe → List (List ℕ) → List Redir → Option ℕ → Option ℕ → Reader
more pipes pipe words redirs cd bad = record {
  pipes = pipes;
  pipe = pipe;
  command = record { words = words; redirs = redirs };
  wants = wants.More;
  cd = cd;
  bad_cd = bad;
}

-- in front of it
abbrev pub first : Wants → List Pipe → Pipe → Option ℕ → Option ℕ → Reader
first wants pipes pipe cd bad = record {
  pipes = pipes;
  pipe = pipe;
  command = no_command;
  wants = wants;
  cd = cd;
  bad_cd = bad;
}

-- ---- what stands in a command

module _ (pipes : List Pipe) (pipe : Pipe) (cd bad : Option ℕ) (end : ℕ) where
  -- a redirection is taken
  takes_redir : (form : RedirForm) (target : List ℕ) (words : List (List ℕ)) (redirs : List Redir)
      (tokens rest : List Token) → is_twice form redirs ≡ false → IsArg (moved form target) tokens rest
      → told_of (more pipes pipe words redirs cd bad) tokens end
      ≡ told_of (more pipes pipe words (redirs ++ record { form = form; target = target } ∷ []) cd bad) rest end
  takes_redir form target words redirs tokens rest once is = by_test (is_stream form) refl is
    where
      by_test : (test : Bool) → is_stream form ≡ test
          → MatchBool test ((target ≡ []) × IsToken (Redirects form) tokens rest)
          ((behind : List Token) × IsToken (Redirects form) tokens behind × IsWord target behind rest)
          → told_of (more pipes pipe words redirs cd bad) tokens end
          ≡ told_of (more pipes pipe words (redirs ++ record { form = form; target = target } ∷ []) cd bad) rest end
      by_test true stream (none, (at, shape)) = rw (shape, once, stream, none) refl
      by_test false file (behind, (at, shape), (bang, (later, next))) = rw (shape, once, file, next) refl

  pub takes_args : (args : List Arg) (words : List (List ℕ)) (redirs : List Redir) (tokens rest : List Token)
      → AreArgs args tokens rest → AreOnce redirs (redirs_of args)
      → told_of (more pipes pipe words redirs cd bad) tokens end
      ≡ told_of (more pipes pipe (words ++ words_of args) (redirs ++ redirs_of args) cd bad) rest end
  takes_args [] words redirs tokens rest is once =
      ap (λ ts. told_of (more pipes pipe words redirs cd bad) ts end) is
      ∙ ap (λ ws. told_of (more pipes pipe ws redirs cd bad) rest end) (sym (append-nil words))
      ∙ ap (λ rs. told_of (more pipes pipe (words ++ []) rs cd bad) rest end) (sym (append-nil redirs))
  takes_args (plain value ∷ args) words redirs tokens rest (behind, (bang, (at, is)), others) once =
      ap (λ ts. told_of (more pipes pipe words redirs cd bad) ts end) is
      ∙ takes_args args (words ++ value ∷ []) redirs behind rest others once
      ∙ ap (λ ws. told_of (more pipes pipe ws (redirs ++ redirs_of args) cd bad) rest end)
      (append_assoc words (value ∷ []) (words_of args))
  takes_args (moved form target ∷ args) words redirs tokens rest (behind, is, others) (once, others_once) =
      takes_redir form target words redirs tokens behind once is
      ∙ takes_args args words (redirs ++ record { form = form; target = target } ∷ []) behind rest others others_once
      ∙ ap (λ rs. told_of (more pipes pipe (words ++ words_of args) rs cd bad) rest end)
      (append_assoc redirs (record { form = form; target = target } ∷ []) (redirs_of args))

-- ---- commands of a pipe

-- a `cd` that is kept where a command is one
abbrev pub kept_cd : List ℕ → ℕ → Option ℕ → Option ℕ
kept_cd name at cd = cond (is_cd name) (option_or cd (Some at)) cd

module _ (pipes : List Pipe) (bad : Option ℕ) (end : ℕ) where
  pub takes_command : (pipe : Pipe) (cd : Option ℕ) (command : Command) (tokens rest : List Token)
      → IsCommand command tokens rest
      → (kept : Option ℕ)
      × (told_of (first wants.First pipes pipe cd bad) tokens end
      ≡ told_of (more pipes pipe command.words command.redirs kept bad) rest end)
      × (calls_cd command ≡ false → kept ≡ cd)
  takes_command pipe cd command tokens rest (name, args, behind, (bang, (at, shape)), others, whole, here, once) = (
    kept_cd name at cd,
    ap (λ ts. told_of (first wants.First pipes pipe cd bad) ts end) shape
        ∙ rw here refl
        ∙ takes_args pipes pipe (kept_cd name at cd) bad end args (name ∷ []) [] behind rest others once
        ∙ ap (λ c. told_of (more pipes pipe c.words c.redirs (kept_cd name at cd) bad) rest end) (sym whole),
    λ none. ap (λ b. cond b (option_or cd (Some at)) cd) (ap calls_cd (sym whole) ∙ none),
  )

  pub takes_piped : (commands : List Command) (pipe : Pipe) (command : Command) (cd : Option ℕ)
      (tokens rest : List Token) → ArePiped commands tokens rest
      → (last : Pipe) × (call : Command) × (kept : Option ℕ)
      × (told_of (more pipes pipe command.words command.redirs cd bad) tokens end
      ≡ told_of (more pipes last call.words call.redirs kept bad) rest end)
      × (with_command last call ≡ record {
        join = pipe.join;
        inverted = pipe.inverted;
        commands = pipe.commands ++ command ∷ commands;
      })
      × (list_any calls_cd commands ≡ false → kept ≡ cd)
  takes_piped [] pipe command cd tokens rest is = (
    pipe,
    command,
    cd,
    ap (λ ts. told_of (more pipes pipe command.words command.redirs cd bad) ts end) is,
    refl,
    λ _. refl,
  )
  takes_piped (next ∷ commands) pipe command cd tokens rest (middle, behind, (at, shape), is, others) =
      let one = takes_command (with_command pipe command) cd next middle behind is in
      let all = takes_piped commands (with_command pipe command) next one.0 behind rest others in (
        all.0,
        all.1,
        all.2,
        ap (λ ts. told_of (more pipes pipe command.words command.redirs cd bad) ts end) shape ∙ one.1 ∙ all.3,
        all.4
            ∙ ap (λ cs. record { join = pipe.join; inverted = pipe.inverted; commands = cs }) (append_assoc pipe.commands (command ∷ []) (next ∷ commands)),
        λ none.
            let parts = none_of (calls_cd next) (list_any calls_cd commands) none in
            all.5 parts.1 ∙ one.2 parts.0,
      )

-- ---- pipes of a line

-- a pipe without commands
abbrev pub opened : Join → Bool → Pipe
opened join inverted = record { join = join; inverted = inverted; commands = [] }

takes_bang : (pipes : List Pipe) (join : Join) (end at : ℕ) (kind : TokenKind) (rest : List Token)
    → is_bang kind ≡ true
    → told_of (first wants.Start pipes (no_pipe join) None None) (record { at = at; kind = kind } ∷ rest) end
    ≡ told_of (first wants.First pipes (opened join true) None None) rest end
takes_bang pipes join end at (Word value alone) rest is = rw is refl
takes_bang pipes join end at Pipes rest is = cc
takes_bang pipes join end at (Joins other) rest is = cc
takes_bang pipes join end at (Redirects form) rest is = cc

takes_inverted : (pipes : List Pipe) (join : Join) (end : ℕ) (inverted : Bool) (command : Command)
    (tokens behind rest : List Token) → IsInverted inverted tokens behind → IsCommand command behind rest
    → told_of (first wants.Start pipes (no_pipe join) None None) tokens end
    ≡ told_of (first wants.First pipes (opened join inverted) None None) behind end
takes_inverted pipes join end true command tokens behind rest (token, is, bang) is_command =
    ap (λ ts. told_of (first wants.Start pipes (no_pipe join) None None) ts end) is
    ∙ takes_bang pipes join end token.at token.kind behind bang
takes_inverted pipes join end false command tokens behind rest (is, plain_word)
    (name, args, others, (alone, (at, shape)), more_args, whole, here, once) =
    let bare : alone ≡ false = ap begins_bang (sym shape) ∙ ap begins_bang (sym is) ∙ plain_word in
    ap (λ ts. told_of (first wants.Start pipes (no_pipe join) None None) ts end) (is ∙ shape)
    ∙ rw bare refl
    ∙ ap (λ ts. told_of (first wants.First pipes (opened join false) None None) ts end) (sym shape)

cond_same : (test : Bool) (one : Option ℕ) → cond test one one ≡ one
cond_same true one = refl
cond_same false one = refl

takes_pipe : (pipes : List Pipe) (end : ℕ) (join : Join) (inverted : Bool) (commands : List Command)
    (tokens behind rest : List Token) → IsInverted inverted tokens behind → AreCommands commands behind rest
    → (list_any calls_cd commands ≡ true → is_alone commands ≡ true)
    → (last : Pipe) × (call : Command) × (kept : Option ℕ)
    × (told_of (first wants.Start pipes (no_pipe join) None None) tokens end
    ≡ told_of (more pipes last call.words call.redirs kept None) rest end)
    × (with_command last call ≡ record { join = join; inverted = inverted; commands = commands })
    × (bad_cd None kept commands ≡ None)
takes_pipe pipes end join inverted [] tokens behind rest opens is alone = absurd is
takes_pipe pipes end join inverted (command ∷ commands) tokens behind rest opens (middle, is, others) alone =
    let one = takes_command pipes None end (opened join inverted) None command behind middle is in
    let all = takes_piped pipes None end commands (opened join inverted) command one.0 middle rest others in (
      all.0,
      all.1,
      all.2,
      takes_inverted pipes join end inverted command tokens behind middle opens is ∙ one.1 ∙ all.3,
      all.4,
      by_test (list_any calls_cd (command ∷ commands)) refl all.2 (λ none.
          let parts = none_of (calls_cd command) (list_any calls_cd commands) none in
          all.5 parts.1 ∙ one.2 parts.0),
    )
  where
    by_test : (test : Bool) → list_any calls_cd (command ∷ commands) ≡ test → (kept : Option ℕ)
        → (list_any calls_cd (command ∷ commands) ≡ false → kept ≡ None)
        → bad_cd None kept (command ∷ commands) ≡ None
    by_test true calls kept none = ap (λ b. cond b None kept) (alone calls)
    by_test false calls kept none =
        ap (λ o. cond (is_alone (command ∷ commands)) None o) (none calls)
        ∙ cond_same (is_alone (command ∷ commands)) None

-- a line that ends behind a pipe, and one that goes on
takes_joined : (all : List Pipe) (end : ℕ) (pipes : List Pipe) (last pipe : Pipe) (call : Command) (kept : Option ℕ)
    (tokens : List Token) → AreJoined all tokens → with_command last call ≡ pipe
    → bad_cd None kept pipe.commands ≡ None
    → told_of (more pipes last call.words call.redirs kept None) tokens end
    ≡ Ok (record { pipes = pipes ++ pipe ∷ all })
takes_joined [] end pipes last pipe call kept tokens (inl none) whole good =
    ap (λ ts. told_of (more pipes last call.words call.redirs kept None) ts end) none
    ∙ ap (λ w. made (bad_cd None kept w.commands) (pipes ++ w ∷ [])) whole
    ∙ ap (λ b. made b (pipes ++ pipe ∷ [])) good
takes_joined [] end pipes last pipe call kept tokens (inr (at, shape)) whole good =
    ap (λ ts. told_of (more pipes last call.words call.redirs kept None) ts end) shape
    ∙ ap (λ w. made (bad_cd None kept w.commands) (pipes ++ w ∷ [])) whole
    ∙ ap (λ b. made b (pipes ++ pipe ∷ [])) good
takes_joined (next ∷ all) end pipes last pipe call kept tokens
    (middle, behind, (at, shape), (opens, inverted, commands, alone), others) whole good =
    let one = takes_pipe (pipes ++ pipe ∷ []) end next.join next.inverted next.commands middle opens behind inverted
    commands alone in
    ap (λ ts. told_of (more pipes last call.words call.redirs kept None) ts end) shape
    ∙ ap (λ w. told_of (first wants.Start (pipes ++ w ∷ []) (no_pipe next.join) None (bad_cd None kept w.commands)) middle end)
    whole
    ∙ ap (λ b. told_of (first wants.Start (pipes ++ pipe ∷ []) (no_pipe next.join) None b) middle end) good
    ∙ one.3
    ∙ takes_joined all end (pipes ++ pipe ∷ []) one.0 next one.1 one.2 behind others one.4 one.5
    ∙ ap (λ ps. Ok (record { pipes = ps })) (append_assoc pipes (pipe ∷ []) (next ∷ all))

takes_line : (pipes : List Pipe) (end : ℕ) (tokens : List Token) → ArePipes pipes tokens
    → told_of none_of_it tokens end ≡ Ok (record { pipes = pipes })
takes_line [] end tokens is = absurd is
takes_line (pipe ∷ pipes) end tokens (behind, foremost, (opens, inverted, commands, alone), others) =
    let one = takes_pipe [] end pipe.join pipe.inverted pipe.commands tokens opens behind inverted commands alone in
    ap (λ j. told_of (first wants.Start [] (no_pipe j) None None) tokens end) (sym foremost)
    ∙ one.3
    ∙ takes_joined pipes end [] one.0 pipe one.1 one.2 behind others one.4 one.5

-- ---- what is told of the tokens of a text is read

pub are_read : (text : List ℕ) (at : ℕ) (r : Reader) (tokens : List Token) (end : ℕ) (line : Line)
    → AreTokens text at tokens end → told_of r tokens end ≡ Ok line → IsReadFrom text at r tokens (Ok line)
are_read text at r [] end line is told = ap (told_at r) is ∙ ap Some told
are_read text at r (token ∷ tokens) end line (behind, is, others) told =
    by_step (step r token) refl told (λ next. are_read text behind next tokens end line others)
  where
    by_step : (stepped : Result Reader ShellFault) → step r token ≡ stepped
        → on_step stepped (λ next. told_of next tokens end) ≡ Ok line
        → ((next : Reader) → told_of next tokens end ≡ Ok line → IsReadFrom text behind next tokens (Ok line))
        → IsReadFrom text at r (token ∷ tokens) (Ok line)
    by_step (Ok next) takes told go = (behind, next, is, takes, go next told)
    by_step (Err fault) takes told go = cc

pub line_read : (text : List ℕ) (line : Line) → IsLine text line → IsReading text (Ok line)
line_read text line (tokens, end, is, pipes) =
    (tokens, are_read text 0 none_of_it tokens end line is (takes_line line.pipes end tokens pipes))
