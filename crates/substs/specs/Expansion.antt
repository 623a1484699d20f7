-- What a line becomes. After LLVM Testing Infrastructure Guide, 'Substitutions'. Own rules: the order of the
-- replacements, that `%%` cuts the line before any of them, and the limit.
use Rattle.std.specs.Prelude.{All, true, false, codes, ◌≡◌, ℕ, ◌<◌, ◌≤◌, ◌^◌, nat_le, if◌then◌else◌, List, [], ◌∷◌, ◌++◌, length, take, drop, map, decimal, Option, Some, None, Result, Ok, Err}
use Rattle.std.specs.Option.{option_map, option_and_then}
use Rattle.tt_base.specs.Occurrence.{begins_with}
use Rattle.tt_outside.specs.declared.request.Pair.{Pair}
use Rattle.substs.specs.Replacement.{Rule, name_rule, form_rule, reckoned, replaced}
use Rattle.substs.specs.declared.fail.ExpandFail.{ExpandFail}
use Rattle.substs.specs.declared.fail.ExpandFail.TheVariants.{TooLong, NoMemory}

-- a text that isn't too long
abbrev pub within : List ℕ → Option (List ℕ)
within text = if nat_le (length text) (2 ^ 20) then Some text else None

-- the text in which a rule has replaced what it finds, where neither is too long
abbrev pub staged : Rule → Option (List ℕ) → Option (List ℕ)
staged rule text = option_and_then (λ short. within (replaced rule short)) text

-- the text in which one rule after the other has replaced what it finds, where no stage is too long
unfoldable pub after_all : List Rule → Option (List ℕ) → Option (List ℕ)
after_all [] text = text
after_all (rule ∷ rules) text = after_all rules (staged rule text)

-- The parts of a line, which is cut at each `%%` from the left: the first one, and those behind it.
unfoldable pub parts : List ℕ → List ℕ × List (List ℕ)
parts [] = ([], [])
parts (a ∷ []) = (a ∷ [], [])
parts (a ∷ b ∷ rest) =
    if begins_with (a ∷ b ∷ rest) (codes "%%") then ([], (parts rest).0 ∷ (parts rest).1)
    else (a ∷ (parts (b ∷ rest)).0, (parts (b ∷ rest)).1)

-- parts that are expanded, joined by `%`
abbrev pub joined : List Rule → List ℕ → List (List ℕ) → Option (List ℕ)
joined rules first [] = after_all rules (within first)
joined rules first (next ∷ more) =
    option_and_then (λ front. option_map (λ behind. front ++ codes "%" ++ behind) (joined rules next more))
    (after_all rules (within first))

-- the names of some pairs have their values
abbrev pub name_rules : List Pair → List Rule
name_rules pairs = map (λ pair. name_rule pair.name pair.value) pairs

-- the number of the line, and of those behind it and before it
abbrev pub line_rules : ℕ → List Rule
line_rules n =
    name_rule (codes "%(line)") (decimal n) ∷ form_rule (codes "%(line+") (reckoned true n)
    ∷ form_rule (codes "%(line-") (reckoned false n) ∷ []

-- the rules in their order: so many pairs, the forms of the line's number, the other pairs
abbrev pub rules_of : List Pair → ℕ → ℕ → List Rule
rules_of pairs first n = name_rules (take first pairs) ++ line_rules n ++ name_rules (drop first pairs)

-- no name is empty
abbrev pub AreNamed : List Pair → Type 0
AreNamed pairs = All (λ pair. 0 < length pair.name) pairs

-- what a line becomes, where neither it nor a stage of one of its parts is too long
abbrev pub expansion : List Pair → ℕ → ℕ → List ℕ → Option (List ℕ)
expansion pairs first n line =
    option_and_then within (joined (rules_of pairs first n) (parts line).0 (parts line).1)

-- what was made is this text, or there is none where it would be too long
abbrev pub Makes : Result (List ℕ) ExpandFail → Option (List ℕ) → Type 0
Makes (Ok made) due = (due ≡ Some made) × (length made ≤ 2 ^ 20)
Makes (Err TooLong) due = due ≡ None
Makes (Err NoMemory) due = Unit {0}

-- bytes stand behind those of a line, or the line would be too long, or it is as it was
abbrev pub Adds : List ℕ → List ℕ → List ℕ → Result (Unit {0}) ExpandFail → Type 0
Adds old bytes new (Ok done) = (new ≡ old ++ bytes) × (length new ≤ 2 ^ 20)
Adds old bytes new (Err TooLong) = 2 ^ 20 < length (old ++ bytes)
Adds old bytes new (Err NoMemory) = Unit {0}
