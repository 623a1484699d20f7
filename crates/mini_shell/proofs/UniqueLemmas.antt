-- A text is read in one way: what comes next at an offset is one thing, and so is the reader behind it.
use Rattle.std.proofs.Common.{◌≡◌, ◌∙◌, ℕ, List, [], ◌∷◌, Some, None, Result, Ok, drop, sym, ap, subst}
use Rattle.mini_shell.specs.Reading.{IsReadFrom, ReadingIsOne, refusal, none_of_it, step, told_at}
use Rattle.mini_shell.specs.Token.{next_at}
use Rattle.mini_shell.specs.declared.fault.ShellFault.{ShellFault}
use Rattle.mini_shell.specs.declared.line.Line.{Line}
use Rattle.mini_shell.specs.declared.reader.Reader.{Reader}
use Rattle.mini_shell.specs.declared.token.Next.TheVariants.{Found}
use Rattle.mini_shell.specs.declared.token.Token.{Token}

-- a token that is taken tells nothing
taken_untold : (text : List ℕ) (at end : ℕ) (r next : Reader) (token : Token) (told : Result Line ShellFault)
    → next_at at (drop at text) ≡ Ok (Found token end) → step r token ≡ Ok next
    → told_at r (next_at at (drop at text)) ≡ Some told → ⊥
taken_untold text at end r next token told is takes says =
    let none : told_at r (next_at at (drop at text)) ≡ None = ap (told_at r) is ∙ ap refusal takes in
    cc

pub one_told : (text : List ℕ) (at : ℕ) (r : Reader) (tokens others : List Token) (told other : Result Line ShellFault)
    → IsReadFrom text at r tokens told → IsReadFrom text at r others other → told ≡ other
one_told text at r [] [] told other a b = let same : Some told ≡ Some other = sym a ∙ b in cc
one_told text at r [] (t ∷ others) told other a (end, next, is, takes, b) =
    absurd (taken_untold text at end r next t told is takes a)
one_told text at r (t ∷ tokens) [] told other (end, next, is, takes, a) b =
    absurd (taken_untold text at end r next t other is takes b)
one_told text at r (t ∷ tokens) (u ∷ others) told other (end, next, is, takes, a) (end2, next2, is2, takes2, b) =
    let ends : end2 ≡ end = cc in
    let same : u ≡ t = cc in
    let again : step r t ≡ Ok next2 = sym (ap (step r) same) ∙ takes2 in
    let nexts : next2 ≡ next = cc in
    one_told text end next tokens others told other a
    (subst (λ n. IsReadFrom text n next others other) ends
    (subst (λ n. IsReadFrom text end2 n others other) nexts b))

pub reading_is_one : ReadingIsOne
reading_is_one text told other (tokens, a) (others, b) = one_told text 0 none_of_it tokens others told other a b
