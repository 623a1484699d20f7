-- What is taken token by token is a line of the grammar. From a place behind a command's first word, the rest of its
-- tokens are arguments, commands of the same pipe and further pipes; a place in front of a pipe leads to such a one.
-- The hard one is `starts`, at a pipe's first tokens, with what is known of a `cd` in it.
use Rattle.std.proofs.Common.{◌≡◌, ◌∙◌, ℕ, Bool, true, false, cond, List, [], ◌∷◌, ◌++◌, ◌⊎◌, inl, inr, ◌||◌, Option, Some, None, Result, Ok, Err, drop, refl, sym, ap, subst, append_assoc, append-nil}
use Rattle.std.specs.Bool.{MatchBool}
use Rattle.std.specs.List.{list_any}
use Rattle.std.specs.Option.{option_or}
use Rattle.mini_shell.proofs.UniqueLemmas.{reading_is_one}
use Rattle.mini_shell.proofs.LineLemmas.{first, kept_cd, line_read, more, on_step, opened, told_of}
use Rattle.mini_shell.specs.Grammar.{Arg, plain, moved, words_of, redirs_of, IsToken, IsWord, IsArg, AreArgs, AreOnce, AreTokens, ArePiped, IsInverted, calls_cd, IsPipe, AreJoined, ArePipes, IsLine, Parses}
use Rattle.mini_shell.specs.Fault.{refused}
use Rattle.mini_shell.specs.Reading.{IsReadFrom, IsReading, Reads, bad_cd, is_alone, is_cd, is_left_out, is_stream, is_twice, made, no_pipe, none_of_it, refusal, step, told_at, waiting}
use Rattle.mini_shell.specs.Token.{next_at}
use Rattle.mini_shell.specs.declared.fault.ShellFail.{ShellFail}
use Rattle.mini_shell.specs.declared.fault.ShellFail.TheVariants.{Bad, NoMemory}
use Rattle.mini_shell.specs.declared.fault.ShellFault.{ShellFault}
use Rattle.mini_shell.specs.declared.fault.ShellKind.TheVariants.{LeftOut, TwiceRedirected}
use Rattle.mini_shell.specs.declared.line.Command.{Command}
use Rattle.mini_shell.specs.declared.line.Join.{Join}
use Rattle.mini_shell.specs.declared.line.Join.TheVariants.{First, And, Or, Then}
use Rattle.mini_shell.specs.declared.line.Line.{Line}
use Rattle.mini_shell.specs.declared.line.Pipe.{Pipe}
use Rattle.mini_shell.specs.declared.line.Redir.{Redir}
use Rattle.mini_shell.specs.declared.line.RedirForm.{RedirForm}
use Rattle.mini_shell.specs.declared.reader.Reader.{Reader}
use Rattle.mini_shell.specs.declared.reader.Wants.TheVariants as wants
use Rattle.mini_shell.specs.declared.token.Next.{Next}
use Rattle.mini_shell.specs.declared.token.Next.TheVariants.{Found, Over}
use Rattle.mini_shell.specs.declared.token.Token.{Token}
use Rattle.mini_shell.specs.declared.token.TokenKind.{TokenKind}
use Rattle.mini_shell.specs.declared.token.TokenKind.TheVariants.{Word, Pipes, Joins, Redirects}

-- ---- what is read is told of tokens

no_refusal : (stepped : Result Reader ShellFault) (line : Line) → refusal stepped ≡ Some (Ok line) → ⊥
no_refusal (Ok next) line is = cc
no_refusal (Err fault) line is = cc

pub told_all : (text : List ℕ) (at : ℕ) (r : Reader) (tokens : List Token) (line : Line)
    → IsReadFrom text at r tokens (Ok line)
    → (end : ℕ) × AreTokens text at tokens end × (told_of r tokens end ≡ Ok line)
told_all text at r [] line told = by_next (next_at at (drop at text)) refl told
  where
    by_next : (next : Result Next ShellFault) → next_at at (drop at text) ≡ next → told_at r next ≡ Some (Ok line)
        → (end : ℕ) × AreTokens text at [] end × (told_of r [] end ≡ Ok line)
    by_next (Ok (Over end)) is says = (end, is, cc)
    by_next (Ok (Found token end)) is says = absurd (no_refusal (step r token) line says)
    by_next (Err fault) is says = cc
told_all text at r (token ∷ tokens) line (behind, next, is, takes, others) =
    let rest = told_all text behind next tokens line others in
    (rest.0, (behind, is, rest.1), ap (λ s. on_step s (λ n. told_of n tokens rest.0)) takes ∙ rest.2)

-- ---- what a line without a refusal says

made_none : (bad : Option ℕ) (pipes : List Pipe) (line : Line) → made bad pipes ≡ Ok line
    → (bad ≡ None) × (line ≡ record { pipes = pipes })
made_none None pipes line is = (refl, cc)
made_none (Some at) pipes line is = cc

bad_none : (bad cd : Option ℕ) (commands : List Command) → bad_cd bad cd commands ≡ None
    → (bad ≡ None) × ((cd ≡ None) ⊎ (is_alone commands ≡ true))
bad_none (Some at) cd commands is = cc
bad_none None cd commands is = (refl, by_test (is_alone commands) refl is)
  where
    by_test : (test : Bool) → is_alone commands ≡ test → cond test None cd ≡ None
        → (cd ≡ None) ⊎ (is_alone commands ≡ true)
    by_test true alone none = inr alone
    by_test false alone none = inl none

kept_none : (name : List ℕ) (at : ℕ) (cd : Option ℕ) → kept_cd name at cd ≡ None → (is_cd name ≡ false) × (cd ≡ None)
kept_none name at cd is = by_test (is_cd name) refl cd is
  where
    by_test : (test : Bool) → is_cd name ≡ test → (cd : Option ℕ) → cond test (option_or cd (Some at)) cd ≡ None
        → (is_cd name ≡ false) × (cd ≡ None)
    by_test true here None none = cc
    by_test true here (Some before) none = cc
    by_test false here cd none = (here, none)

-- ---- the rest of a line behind a command's first word

-- a line of these pipes, of one with a command of these words and redirections and others behind it, and of the rest
abbrev pub Whole : List Pipe → Pipe → List (List ℕ) → List Redir → List Command → List Pipe → Line → Type 0
Whole pipes pipe words redirs commands all line = line ≡ record {
  pipes = pipes ++ record {
    join = pipe.join;
    inverted = pipe.inverted;
    commands = pipe.commands ++ record { words = words; redirs = redirs } ∷ commands;
  } ∷ all;
}

-- no `cd` stands before these commands or in them, or the pipe is one command alone
abbrev pub Alone : Pipe → Option ℕ → List (List ℕ) → List Redir → List Command → Type 0
Alone pipe cd words redirs commands =
    ((cd ≡ None) × (list_any calls_cd commands ≡ false))
    ⊎ (is_alone (pipe.commands ++ record { words = words; redirs = redirs } ∷ commands) ≡ true)

pub record Rest (pipes : List Pipe) (pipe : Pipe) (words : List (List ℕ)) (redirs : List Redir) (cd bad : Option ℕ)
    (tokens : List Token) (line : Line) : Type 0 where
  pub args : List Arg
  pub commands : List Command
  pub all : List Pipe
  pub middle : List Token
  pub behind : List Token
  pub are_args : AreArgs args tokens middle
  pub once : AreOnce redirs (redirs_of args)
  pub piped : ArePiped commands middle behind
  pub joined : AreJoined all behind
  pub whole : Whole pipes pipe (words ++ words_of args) (redirs ++ redirs_of args) commands all line
  pub good : bad ≡ None
  pub alone : Alone pipe cd (words ++ words_of args) (redirs ++ redirs_of args) commands

abbrev pub Said : ℕ → List Token → Type 0
Said end tokens =
    (pipes : List Pipe) (pipe : Pipe) (words : List (List ℕ)) (redirs : List Redir) (cd bad : Option ℕ) (line : Line)
    → told_of (more pipes pipe words redirs cd bad) tokens end ≡ Ok line
    → Rest pipes pipe words redirs cd bad tokens line

-- a word more
said_word : (end at : ℕ) (value : List ℕ) (bang : Bool) (tokens : List Token) → Said end tokens
    → Said end (record { at = at; kind = Word value bang } ∷ tokens)
said_word end at value bang tokens said pipes pipe words redirs cd bad line told =
    let rest = said pipes pipe (words ++ value ∷ []) redirs cd bad line told in
    let same : ((words ++ value ∷ []) ++ words_of rest.args) ≡ (words ++ value ∷ words_of rest.args) =
    append_assoc words (value ∷ []) (words_of rest.args) in
    record {
      args = plain value ∷ rest.args;
      commands = rest.commands;
      all = rest.all;
      middle = rest.middle;
      behind = rest.behind;
      are_args = (tokens, (bang, (at, refl)), rest.are_args);
      once = rest.once;
      piped = rest.piped;
      joined = rest.joined;
      whole = subst (λ ws. Whole pipes pipe ws (redirs ++ redirs_of rest.args) rest.commands rest.all line) same rest.whole;
      good = rest.good;
      alone = subst (λ ws. Alone pipe cd ws (redirs ++ redirs_of rest.args) rest.commands) same rest.alone;
    }

-- a redirection more
said_redir : (end : ℕ) (form : RedirForm) (target : List ℕ) (tokens behind : List Token) → Said end behind
    → IsArg (moved form target) tokens behind → (pipes : List Pipe) (pipe : Pipe) (words : List (List ℕ))
    (redirs : List Redir) (cd bad : Option ℕ) (line : Line) → is_twice form redirs ≡ false
    → told_of (more pipes pipe words (redirs ++ record { form = form; target = target } ∷ []) cd bad) behind end ≡ Ok line
    → Rest pipes pipe words redirs cd bad tokens line
said_redir end form target tokens behind said is pipes pipe words redirs cd bad line here told =
    let one : Redir = record { form = form; target = target } in
    let rest = said pipes pipe words (redirs ++ one ∷ []) cd bad line told in
    let same : ((redirs ++ one ∷ []) ++ redirs_of rest.args) ≡ (redirs ++ one ∷ redirs_of rest.args) =
    append_assoc redirs (one ∷ []) (redirs_of rest.args) in
    record {
      args = moved form target ∷ rest.args;
      commands = rest.commands;
      all = rest.all;
      middle = rest.middle;
      behind = rest.behind;
      are_args = (behind, is, rest.are_args);
      once = (here, rest.once);
      piped = rest.piped;
      joined = rest.joined;
      whole = subst (λ rs. Whole pipes pipe (words ++ words_of rest.args) rs rest.commands rest.all line) same rest.whole;
      good = rest.good;
      alone = subst (λ rs. Alone pipe cd (words ++ words_of rest.args) rs rest.commands) same rest.alone;
    }

-- the command ends here
said_stop : (pipes : List Pipe) (pipe : Pipe) (words : List (List ℕ)) (redirs : List Redir) (cd bad : Option ℕ)
    (tokens behind : List Token) (line : Line) (commands : List Command) (all : List Pipe)
    → ArePiped commands tokens behind → AreJoined all behind → Whole pipes pipe words redirs commands all line
    → bad ≡ None → Alone pipe cd words redirs commands → Rest pipes pipe words redirs cd bad tokens line
said_stop pipes pipe words redirs cd bad tokens behind line commands all piped joined whole good alone = record {
  args = [];
  commands = commands;
  all = all;
  middle = tokens;
  behind = behind;
  are_args = refl;
  once = tt;
  piped = piped;
  joined = joined;
  whole = subst (λ ws. Whole pipes pipe ws (redirs ++ []) commands all line) (sym (append-nil words))
      (subst (λ rs. Whole pipes pipe words rs commands all line) (sym (append-nil redirs)) whole);
  good = good;
  alone = subst (λ ws. Alone pipe cd ws (redirs ++ []) commands) (sym (append-nil words))
      (subst (λ rs. Alone pipe cd words rs commands) (sym (append-nil redirs)) alone);
}

-- no command stands before, or it is alone
alone_here : (pipe : Pipe) (cd : Option ℕ) (words : List (List ℕ)) (redirs : List Redir)
    → (cd ≡ None) ⊎ (is_alone (pipe.commands ++ record { words = words; redirs = redirs } ∷ []) ≡ true)
    → Alone pipe cd words redirs []
alone_here pipe cd words redirs (inl none) = inl (none, refl)
alone_here pipe cd words redirs (inr alone) = inr alone

-- the line's end, behind a `;` or without it
said_end : (end : ℕ) (tokens : List Token) (pipes : List Pipe) (pipe : Pipe) (words : List (List ℕ)) (redirs : List Redir)
    (cd bad : Option ℕ) (line : Line) → AreJoined [] tokens
    → told_of (more pipes pipe words redirs cd bad) [] end ≡ Ok line → Rest pipes pipe words redirs cd bad tokens line
said_end end tokens pipes pipe words redirs cd bad line joined told =
    let call : Command = record { words = words; redirs = redirs } in
    let last : Pipe = record { join = pipe.join; inverted = pipe.inverted; commands = pipe.commands ++ call ∷ [] } in
    let ends = made_none (bad_cd bad cd (pipe.commands ++ call ∷ [])) (pipes ++ last ∷ []) line told in
    let none = bad_none bad cd (pipe.commands ++ call ∷ []) ends.0 in
    said_stop pipes pipe words redirs cd bad tokens tokens line [] [] refl joined ends.1 none.0
    (alone_here pipe cd words redirs none.1)

-- ---- a command's first word

named : (pipes : List Pipe) (pipe : Pipe) (cd bad : Option ℕ) (end at : ℕ) (name : List ℕ) (bang : Bool)
    (tokens : List Token) (line : Line)
    → told_of (first wants.First pipes pipe cd bad) (record { at = at; kind = Word name bang } ∷ tokens) end ≡ Ok line
    → (is_left_out name ≡ false)
    × (told_of (more pipes pipe (name ∷ []) [] (kept_cd name at cd) bad) tokens end ≡ Ok line)
named pipes pipe cd bad end at name bang tokens line told = by_test (is_left_out name) refl told
  where
    by_test : (test : Bool) → is_left_out name ≡ test
        → on_step (cond test (refused LeftOut at) (Ok (more pipes pipe (name ∷ []) [] (kept_cd name at cd) bad)))
        (λ next. told_of next tokens end) ≡ Ok line
        → (is_left_out name ≡ false)
        × (told_of (more pipes pipe (name ∷ []) [] (kept_cd name at cd) bad) tokens end ≡ Ok line)
    by_test true here told = cc
    by_test false here told = (here, told)

-- a `|` and a word
said_piped : (end at behind_at : ℕ) (name : List ℕ) (bang : Bool) (tokens : List Token) → Said end tokens
    → Said end (record { at = at; kind = Pipes } ∷ record { at = behind_at; kind = Word name bang } ∷ tokens)
said_piped end at behind_at name bang tokens said pipes pipe words redirs cd bad line told =
    let call : Command = record { words = words; redirs = redirs } in
    let before : Pipe = record { join = pipe.join; inverted = pipe.inverted; commands = pipe.commands ++ call ∷ [] } in
    let goes = named pipes before cd bad end behind_at name bang tokens line told in
    let rest = said pipes before (name ∷ []) [] (kept_cd name behind_at cd) bad line goes.1 in
    let next : Command = record { words = name ∷ words_of rest.args; redirs = redirs_of rest.args } in
    let same : ((pipe.commands ++ call ∷ []) ++ next ∷ rest.commands) ≡ (pipe.commands ++ call ∷ next ∷ rest.commands) =
    append_assoc pipe.commands (call ∷ []) (next ∷ rest.commands) in
    said_stop pipes pipe words redirs cd bad _ rest.behind line (next ∷ rest.commands) rest.all (
      record { at = behind_at; kind = Word name bang } ∷ tokens,
      rest.middle,
      (at, refl),
      (name, rest.args, tokens, (bang, (behind_at, refl)), rest.are_args, refl, goes.0, rest.once),
      rest.piped,
    )
    rest.joined
    (subst (λ cs. line ≡ record {
      pipes = pipes ++ record { join = pipe.join; inverted = pipe.inverted; commands = cs } ∷ rest.all;
    }) same rest.whole)
    rest.good
    (elim rest.alone [
      | inl none ↦
          let kept = kept_none name behind_at cd none.0 in
          inl (kept.1, ap (λ b. b || list_any calls_cd rest.commands) kept.0 ∙ none.1)
      | inr alone ↦ inr (subst (λ cs. is_alone cs ≡ true) same alone)
    ])

-- ---- a pipe and those behind it

pub record Starts (pipes : List Pipe) (join : Join) (bad : Option ℕ) (tokens : List Token) (line : Line) : Type 0 where
  pub pipe : Pipe
  pub all : List Pipe
  pub behind : List Token
  pub joins : pipe.join ≡ join
  pub is_pipe : IsPipe pipe tokens behind
  pub joined : AreJoined all behind
  pub whole : line ≡ record { pipes = pipes ++ pipe ∷ all }
  pub good : bad ≡ None

starts_named : (end at : ℕ) (name : List ℕ) (bang : Bool) (tokens : List Token) → Said end tokens
    → (pipes : List Pipe) (join : Join) (inverted : Bool) (bad : Option ℕ) (before : List Token) (line : Line)
    → IsInverted inverted before (record { at = at; kind = Word name bang } ∷ tokens)
    → told_of (first wants.First pipes (opened join inverted) None bad)
    (record { at = at; kind = Word name bang } ∷ tokens) end ≡ Ok line
    → Starts pipes join bad before line
starts_named end at name bang tokens said pipes join inverted bad before line opens told =
    let goes = named pipes (opened join inverted) None bad end at name bang tokens line told in
    let rest = said pipes (opened join inverted) (name ∷ []) [] (kept_cd name at None) bad line goes.1 in
    let next : Command = record { words = name ∷ words_of rest.args; redirs = redirs_of rest.args } in
    record {
      pipe = record { join = join; inverted = inverted; commands = next ∷ rest.commands };
      all = rest.all;
      behind = rest.behind;
      joins = refl;
      is_pipe = (
        record { at = at; kind = Word name bang } ∷ tokens,
        opens,
        (rest.middle, (name, rest.args, tokens, (bang, (at, refl)), rest.are_args, refl, goes.0, rest.once), rest.piped),
        λ calls. elim rest.alone [
          | inl none ↦
              let kept = kept_none name at None none.0 in
              let never : (is_cd name || list_any calls_cd rest.commands) ≡ false =
              ap (λ b. b || list_any calls_cd rest.commands) kept.0 ∙ none.1 in
              cc
          | inr alone ↦ alone
        ],
      );
      joined = rest.joined;
      whole = rest.whole;
      good = rest.good;
    }

-- what is said of the tokens behind each one
abbrev pub Tails : ℕ → List Token → Type 0
Tails end [] = Unit {0}
Tails end (token ∷ tokens) = Said end tokens × Tails end tokens

-- behind a `!` or none
starts_first : (end : ℕ) (tokens : List Token) → Tails end tokens → (pipes : List Pipe) (join : Join) (inverted : Bool)
    (bad : Option ℕ) (before : List Token) (line : Line) → IsInverted inverted before tokens
    → told_of (first wants.First pipes (opened join inverted) None bad) tokens end ≡ Ok line
    → Starts pipes join bad before line
starts_first end [] tails pipes join inverted bad before line opens told = cc
starts_first end (token ∷ tokens) tails pipes join inverted bad before line opens told =
    by_kind token.at token.kind opens told
  where
    by_kind : (at : ℕ) (kind : TokenKind) → IsInverted inverted before (record { at = at; kind = kind } ∷ tokens)
        → told_of (first wants.First pipes (opened join inverted) None bad)
        (record { at = at; kind = kind } ∷ tokens) end ≡ Ok line
        → Starts pipes join bad before line
    by_kind at (Word name bang) opens told =
        starts_named end at name bang tokens tails.0 pipes join inverted bad before line opens told
    by_kind at Pipes opens told = cc
    by_kind at (Joins other) opens told = cc
    by_kind at (Redirects form) opens told = cc

-- at a pipe's first token
starts : (end at : ℕ) (kind : TokenKind) (tokens : List Token) → Said end tokens → Tails end tokens
    → (pipes : List Pipe) (join : Join) (bad : Option ℕ) (line : Line)
    → told_of (first wants.Start pipes (no_pipe join) None bad) (record { at = at; kind = kind } ∷ tokens) end ≡ Ok line
    → Starts pipes join bad (record { at = at; kind = kind } ∷ tokens) line
starts end at (Word name true) tokens said tails pipes join bad line told =
    starts_first end tokens tails pipes join true bad (record { at = at; kind = Word name true } ∷ tokens) line
    (record { at = at; kind = Word name true }, refl, refl) told
starts end at (Word name false) tokens said tails pipes join bad line told =
    starts_named end at name false tokens said pipes join false bad (record { at = at; kind = Word name false } ∷ tokens) line
    (refl, refl) told
starts end at Pipes tokens said tails pipes join bad line told = cc
starts end at (Joins other) tokens said tails pipes join bad line told = cc
starts end at (Redirects form) tokens said tails pipes join bad line told = cc

-- what joins the next pipe, or a `;` at the end
said_joins : (end at : ℕ) (join : Join) (tokens : List Token) → Tails end tokens
    → Said end (record { at = at; kind = Joins join } ∷ tokens)
said_joins end at Then [] tails pipes pipe words redirs cd bad line told =
    said_end end (record { at = at; kind = Joins Then } ∷ []) pipes pipe words redirs cd bad line (inr (at, refl)) told
said_joins end at First [] tails pipes pipe words redirs cd bad line told = cc
said_joins end at And [] tails pipes pipe words redirs cd bad line told = cc
said_joins end at Or [] tails pipes pipe words redirs cd bad line told = cc
said_joins end at join (token ∷ tokens) tails pipes pipe words redirs cd bad line told =
    let call : Command = record { words = words; redirs = redirs } in
    let last : Pipe = record { join = pipe.join; inverted = pipe.inverted; commands = pipe.commands ++ call ∷ [] } in
    let next = starts end token.at token.kind tokens tails.0 tails.1 (pipes ++ last ∷ []) join
    (bad_cd bad cd (pipe.commands ++ call ∷ [])) line told in
    let none = bad_none bad cd (pipe.commands ++ call ∷ []) next.good in
    said_stop pipes pipe words redirs cd bad _ _ line [] (next.pipe ∷ next.all) refl (
      token ∷ tokens,
      next.behind,
      (at, ap (λ j. record { at = at; kind = Joins j } ∷ token ∷ tokens) (sym next.joins)),
      next.is_pipe,
      next.joined,
    )
    (next.whole ∙ ap (λ ps. record { pipes = ps }) (append_assoc pipes (last ∷ []) (next.pipe ∷ next.all)))
    none.0
    (alone_here pipe cd words redirs none.1)

-- the word of a redirection
said_target : (end at : ℕ) (form : RedirForm) (tokens : List Token) → Tails end tokens
    → (pipes : List Pipe) (pipe : Pipe) (words : List (List ℕ)) (redirs : List Redir) (cd bad : Option ℕ) (line : Line)
    → is_twice form redirs ≡ false → is_stream form ≡ false
    → told_of (waiting (wants.Target form) (more pipes pipe words redirs cd bad)) tokens end ≡ Ok line
    → Rest pipes pipe words redirs cd bad (record { at = at; kind = Redirects form } ∷ tokens) line
said_target end at form [] tails pipes pipe words redirs cd bad line here file told = cc
said_target end at form (token ∷ tokens) tails pipes pipe words redirs cd bad line here file told =
    by_kind token.at token.kind told
  where
    by_kind : (at2 : ℕ) (kind : TokenKind)
        → told_of (waiting (wants.Target form) (more pipes pipe words redirs cd bad))
        (record { at = at2; kind = kind } ∷ tokens) end ≡ Ok line
        → Rest pipes pipe words redirs cd bad
        (record { at = at; kind = Redirects form } ∷ record { at = at2; kind = kind } ∷ tokens) line
    by_kind at2 (Word value bang) told =
        said_redir end form value _ tokens tails.0
        (subst (λ b. MatchBool b
        ((value ≡ [])
        × IsToken (Redirects form)
        (record { at = at; kind = Redirects form } ∷ record { at = at2; kind = Word value bang } ∷ tokens) tokens)
        ((behind : List Token)
        × IsToken (Redirects form)
        (record { at = at; kind = Redirects form } ∷ record { at = at2; kind = Word value bang } ∷ tokens) behind
        × IsWord value behind tokens)) (sym file)
        (record { at = at2; kind = Word value bang } ∷ tokens, (at, refl), (bang, (at2, refl))))
        pipes pipe words redirs cd bad line here told
    by_kind at2 Pipes told = cc
    by_kind at2 (Joins other) told = cc
    by_kind at2 (Redirects other) told = cc

-- a redirection
said_redirects : (end at : ℕ) (form : RedirForm) (tokens : List Token) → Said end tokens → Tails end tokens
    → Said end (record { at = at; kind = Redirects form } ∷ tokens)
said_redirects end at form tokens said tails pipes pipe words redirs cd bad line told =
    by_test (is_twice form redirs) refl (is_stream form) refl told
  where
    by_test : (twice : Bool) → is_twice form redirs ≡ twice → (stream : Bool) → is_stream form ≡ stream
        → on_step (cond twice (refused TwiceRedirected at)
        (cond stream (Ok (more pipes pipe words (redirs ++ record { form = form; target = [] } ∷ []) cd bad))
        (Ok (waiting (wants.Target form) (more pipes pipe words redirs cd bad))))) (λ next. told_of next tokens end) ≡ Ok line
        → Rest pipes pipe words redirs cd bad (record { at = at; kind = Redirects form } ∷ tokens) line
    by_test true here stream is told = cc
    by_test false here true is told =
        let none : List ℕ = [] in
        said_redir end form [] _ tokens said
        (subst (λ b. MatchBool b
        ((none ≡ []) × IsToken (Redirects form) (record { at = at; kind = Redirects form } ∷ tokens) tokens)
        ((behind : List Token)
        × IsToken (Redirects form) (record { at = at; kind = Redirects form } ∷ tokens) behind
        × IsWord none behind tokens)) (sym is) (refl, (at, refl)))
        pipes pipe words redirs cd bad line here told
    by_test false here false is told = said_target end at form tokens tails pipes pipe words redirs cd bad line here is told

-- what is said of a `|` and the tokens behind it
said_pipes : (end at : ℕ) (tokens : List Token) → Tails end tokens → Said end (record { at = at; kind = Pipes } ∷ tokens)
said_pipes end at [] tails = λ pipes pipe words redirs cd bad line told. cc
said_pipes end at (token ∷ tokens) tails = by_kind token.at token.kind
  where
    by_kind : (at2 : ℕ) (kind : TokenKind)
        → Said end (record { at = at; kind = Pipes } ∷ record { at = at2; kind = kind } ∷ tokens)
    by_kind at2 (Word name bang) = said_piped end at at2 name bang tokens tails.0
    by_kind at2 Pipes = λ pipes pipe words redirs cd bad line told. cc
    by_kind at2 (Joins other) = λ pipes pipe words redirs cd bad line told. cc
    by_kind at2 (Redirects form) = λ pipes pipe words redirs cd bad line told. cc

said_kind : (end at : ℕ) (kind : TokenKind) (tokens : List Token) → Said end tokens → Tails end tokens
    → Said end (record { at = at; kind = kind } ∷ tokens)
said_kind end at (Word value bang) tokens said tails = said_word end at value bang tokens said
said_kind end at Pipes tokens said tails = said_pipes end at tokens tails
said_kind end at (Joins join) tokens said tails = said_joins end at join tokens tails
said_kind end at (Redirects form) tokens said tails = said_redirects end at form tokens said tails

said_all : (end : ℕ) (tokens : List Token) → Said end tokens × Tails end tokens
said_all end [] = (
  λ pipes pipe words redirs cd bad line told. said_end end [] pipes pipe words redirs cd bad line (inl refl) told,
  tt,
)
said_all end (token ∷ tokens) =
    let rest = said_all end tokens in
    (said_kind end token.at token.kind tokens rest.0 rest.1, rest)

-- ---- the line

line_told : (end : ℕ) (tokens : List Token) (line : Line) → told_of none_of_it tokens end ≡ Ok line
    → ArePipes line.pipes tokens
line_told end [] line told = cc
line_told end (token ∷ tokens) line told =
    let rest = said_all end tokens in
    let all = starts end token.at token.kind tokens rest.0 rest.1 [] First None line told in
    subst (λ l. ArePipes l.pipes (token ∷ tokens)) (sym all.whole) (all.behind, all.joins, all.is_pipe, all.joined)

pub line_said : (text : List ℕ) (line : Line) → IsReading text (Ok line) → IsLine text line
line_said text line (tokens, read) =
    let all = told_all text 0 none_of_it tokens line read in
    (tokens, all.0, all.1, line_told all.0 tokens line all.2)

-- what is read is what the text is
pub read_parses : (text : List ℕ) (answer : Result Line ShellFail) → Reads text answer → Parses text answer
read_parses text (Ok line) read = line_said text line read
read_parses text (Err (Bad fault)) read =
    λ line is.
    let same : Ok line ≡ Err fault = reading_is_one text (Ok line) (Err fault) (line_read text line is) read in
    cc
read_parses text (Err NoMemory) read = tt
