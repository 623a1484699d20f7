-- The RUN lines of a script, said of its RUN directives as a whole.
-- After LLVM Command Guide, lit, and LLVM Testing Infrastructure Guide: a RUN line that ends in `\` goes on in the next. Own
-- rules: blanks at the end of a part don't count, nor those at the front of a first one, and a line's number is that of its
-- first part.
use Rattle.std.specs.Prelude.{◌≡◌, ℕ, ◌-◌, true, false, List, [], ◌∷◌, ◌++◌, length, map, take, if◌then◌else◌}
use Rattle.lit_directives.specs.Line.{front_kept, trimmed}
use Rattle.lit_directives.specs.Lists.{is_kind}
use Rattle.lit_directives.specs.Script.{Directive, goes_on}
use Rattle.lit_directives.specs.declared.keyword.Kind.TheVariants.{Run}
use Rattle.lit_directives.specs.declared.script.RunLine.{RunLine}

-- a part of a RUN line: its number, and what stands behind its keyword
abbrev pub Part : Type 0
Part = ℕ × List ℕ

-- the parts in directives, in order
unfoldable pub parts : List Directive → List Part
parts [] = []
parts (one ∷ more) = if is_kind Run one.kind then (one.line, one.rest) ∷ parts more else parts more

-- texts of which each but the last ends in `\` are joined to one, without these `\`
unfoldable pub Joins : List (List ℕ) → List ℕ → Type 0
Joins [] whole = ⊥
Joins (last ∷ []) whole = (goes_on last ≡ false) × (whole ≡ last)
Joins (text ∷ next ∷ more) whole =
    (goes_on text ≡ true) × (rest : List ℕ) × Joins (next ∷ more) rest × (whole ≡ take (length text - 1) text ++ rest)

-- the texts of later parts
abbrev pub kept : List Part → List (List ℕ)
kept = map (λ part. front_kept part.1)

-- parts are those of one RUN line
abbrev pub IsRun : List Part → RunLine → Type 0
IsRun [] run = ⊥
IsRun (first ∷ others) run = (run.line ≡ first.0) × Joins (trimmed first.1 ∷ kept others) run.text

-- parts are those of RUN lines, one line's behind the other's
unfoldable pub AreRuns : List Part → List RunLine → Type 0
AreRuns all [] = all ≡ []
AreRuns all (run ∷ more) =
    (here : List Part) × (later : List Part) × (all ≡ here ++ later) × IsRun here run × AreRuns later more
