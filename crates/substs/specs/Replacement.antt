-- What stands in a text for a name.
-- After LLVM Testing Infrastructure Guide, 'Substitutions': `%(line+n)` and `%(line-n)` count from the line at hand.
-- Own rule: n has at most nine digits, and a form with more stays as it is.
use Rattle.std.specs.Prelude.{codes, ℕ, zero, suc, ℤ, pos, ◌+ℤ◌, ◌-ℤ◌, ◌+◌, ◌-◌, Bool, if◌then◌else◌, List, [], ◌∷◌, ◌++◌, length, min, take, drop, Option, Some, None}
use Rattle.std.specs.Fmt.{signed_decimal}
use Rattle.std.specs.Option.{option_and_then, option_map}
use Rattle.opt_words.specs.Number.{decimal}
use Rattle.tt_base.specs.Occurrence.{begins_with, first_in}

-- what a rule finds at the front of a text: how many bytes, and what stands for them
abbrev pub Rule : Type 0
Rule = List ℕ → Option (ℕ × List ℕ)

-- a name has a value
abbrev pub name_rule : List ℕ → List ℕ → Rule
name_rule name value text = if begins_with text name then Some (length name, value) else None

-- the number in front of a `)` behind at most nine digits, and how many it has
abbrev pub closed_number : List ℕ → Option (ℕ × ℕ)
closed_number text =
    option_and_then (λ count. option_map (λ n. (count, n)) (decimal (take count text)))
    (first_in text (codes ")") 0 (min 10 (length text)))

-- the form that begins so has a number that is reckoned from its own
abbrev pub form_rule : List ℕ → (ℕ → ℤ) → Rule
form_rule front reckoned text =
    if begins_with text front
    then option_map (λ found. (length front + found.0 + 1, signed_decimal (reckoned found.1)))
    (closed_number (drop (length front) text))
    else None

-- the number of the line so many lines ahead or behind
abbrev pub reckoned : Bool → ℕ → ℕ → ℤ
reckoned ahead line number = if ahead then pos line +ℤ pos number else pos line -ℤ pos number

-- what stands for a byte and those behind it, by what the rule finds there
abbrev pub put_for : Option (ℕ × List ℕ) → ℕ → (ℕ → List ℕ) → List ℕ
put_for None byte behind = byte ∷ behind 0
put_for (Some found) byte behind = found.1 ++ behind (found.0 - 1)

-- the text in which all that the rule finds, from the left, is replaced; so many bytes belong to what was found before
unfoldable pub replaced_behind : Rule → ℕ → List ℕ → List ℕ
replaced_behind rule skip [] = []
replaced_behind rule (suc skip) (byte ∷ rest) = replaced_behind rule skip rest
replaced_behind rule zero (byte ∷ rest) = put_for (rule (byte ∷ rest)) byte (λ skip. replaced_behind rule skip rest)

abbrev pub replaced : Rule → List ℕ → List ℕ
replaced rule text = replaced_behind rule 0 text
