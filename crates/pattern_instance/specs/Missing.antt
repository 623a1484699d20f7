-- The names that a pattern uses and that have no value. After LLVM Command Guide, FileCheck, 'FileCheck String Substitution
-- Blocks' and 'FileCheck Numeric Substitution Blocks'. Own rule: each is told once, in order of first use; a text that is
-- defined before has one.
use Rattle.std.specs.Prelude.{ℕ, ℤ, Bool, true, false, ◌||◌, is_some, if◌then◌else◌, Option, Some, None, List, [], ◌∷◌}
use Rattle.std.specs.FinMap.{FinMap, empty, get, insert}
use Rattle.num_base.specs.Names.{name_cmp}
use Rattle.num_base.specs.Term.{Term, literal, line, name, binary}
use Rattle.pattern_parse.specs.Item.{Item, plain, regex, define, recall, number}
use Rattle.pattern_instance.specs.Known.{Known}

-- a set of names: those under which there is a number
abbrev pub Names : Type 0
Names = FinMap name_cmp ℕ

abbrev pub holds : Names → List ℕ → Bool
holds names one = is_some (get names one)

abbrev pub with_name : List ℕ → Names → Names
with_name one names = insert names one 0

-- the names of an expression that have no number, in order, in front of others
abbrev pub lacking : (List ℕ → Option ℤ) → Term → List (List ℕ) → List (List ℕ)
lacking numbers (literal z) others = others
lacking numbers line others = others
lacking numbers (name one) others = if is_some (numbers one) then others else one ∷ others
lacking numbers (binary op left right) others = lacking numbers left (lacking numbers right others)

abbrev pub lacking_in : (List ℕ → Option ℤ) → Option Term → List (List ℕ) → List (List ℕ)
lacking_in numbers None others = others
lacking_in numbers (Some t) others = lacking numbers t others

-- the names of pieces that have no value, where these texts are defined before them
abbrev pub unknown : Known → Names → List Item → List (List ℕ)
unknown known defined [] = []
unknown known defined (plain bytes ∷ items) = unknown known defined items
unknown known defined (regex tree ∷ items) = unknown known defined items
unknown known defined (define one tree ∷ items) = unknown known (with_name one defined) items
unknown known defined (recall one ∷ items) =
    if holds defined one || is_some (known.text one) then unknown known defined items
    else one ∷ unknown known defined items
unknown known defined (number num format ∷ items) =
    lacking_in known.number num.expr (unknown known defined items)

-- whether one of the pieces uses names
abbrev pub uses_names : List Item → Bool
uses_names [] = false
uses_names (plain bytes ∷ items) = uses_names items
uses_names (regex tree ∷ items) = uses_names items
uses_names (define one tree ∷ items) = uses_names items
uses_names (recall one ∷ items) = true
uses_names (number num format ∷ items) = is_some num.expr || uses_names items

-- each name once, where these were told before
abbrev pub each_once : Names → List (List ℕ) → List (List ℕ)
each_once told [] = []
each_once told (one ∷ names) =
    if holds told one then each_once told names else one ∷ each_once (with_name one told) names

-- the names without a value, each once
abbrev pub missing : Known → List Item → List (List ℕ)
missing known items = each_once empty (unknown known empty items)
