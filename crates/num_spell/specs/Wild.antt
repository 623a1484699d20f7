-- The expression of all that a format spells: `[0-9]+`, or with `.p` `([1-9][0-9]*)?[0-9]{p}`, with the digits of the
-- kind, behind `0x` where the format is alternate and behind `-?` where the kind is signed.
-- After LLVM Command Guide, FileCheck, 'FileCheck Numeric Substitution Blocks'. Own rule: which expression it is.
use Rattle.std.specs.Prelude.{ℕ, zero, suc, Bool, ◌&&◌, ◌==◌, not, codes, ℤ, List, [], ◌∷◌, ◌++◌, Some, None, length, if◌then◌else◌}
use Rattle.ere_tree.specs.Derivation.{Spans}
use Rattle.ere_tree.specs.Grammar.{branch_of}
use Rattle.ere_tree.specs.Tree.{Tree, plain, set, cat, repeat, group, trees_of, bytes_passing}
use Rattle.num_base.specs.declared.format.Format.{Format}
use Rattle.num_base.specs.declared.format.FormatKind.{FormatKind}
use Rattle.num_spell.specs.Digits.{is_digit_of}
use Rattle.num_spell.specs.Spelling.{Spells, is_signed}

-- whether a byte is a digit of the kind other than zero
abbrev pub is_leading_of : FormatKind → ℕ → Bool
is_leading_of kind b = is_digit_of kind b && not (b == 48)

abbrev pub digit_set : FormatKind → List ℕ
digit_set kind = bytes_passing (is_digit_of kind)

abbrev pub leading_set : FormatKind → List ℕ
leading_set kind = bytes_passing (is_leading_of kind)

-- digits in front of those that a format asks for: the first isn't zero
abbrev pub more_digits : FormatKind → Tree
more_digits kind =
    group 1 (cat (trees_of (set (leading_set kind) ∷ repeat (set (digit_set kind)) 0 None ∷ [])))

-- the parts of the expression
abbrev pub digit_parts : FormatKind → ℕ → List Tree
digit_parts kind zero = repeat (set (digit_set kind)) 1 None ∷ []
digit_parts kind (suc p) =
    repeat (more_digits kind) 0 (Some 1) ∷ repeat (set (digit_set kind)) (suc p) (Some (suc p)) ∷ []

abbrev pub lead_parts : Bool → List Tree
lead_parts alternate = if alternate then plain (codes "0x") ∷ [] else []

abbrev pub sign_parts : FormatKind → List Tree
sign_parts kind = if is_signed kind then repeat (plain (45 ∷ [])) 0 (Some 1) ∷ [] else []

abbrev pub wild_parts : Format → List Tree
wild_parts format =
    sign_parts format.kind ++ (lead_parts format.alternate ++ digit_parts format.kind format.digits)

-- the expression
abbrev pub wild : Format → Tree
wild format = branch_of (wild_parts format)

-- a tree matches as a whole just the texts that spell some number in a format
pub record MatchesSpelled (format : Format) (tree : Tree) : Type 0 where
  pub only : (text : List ℕ) → Spans text tree 0 (length text) → (v : ℤ) × Spells format text v
  pub each : (text : List ℕ) (v : ℤ) → Spells format text v → Spans text tree 0 (length text)
