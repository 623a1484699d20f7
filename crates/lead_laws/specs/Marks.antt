-- Lines of check files that begin with a lead, as a comment of some language.
-- Own rule: a lead holds no letter, digit, `-` or `_`, so no prefix begins in it and none is behind a word.
use Rattle.std.specs.Prelude.{◌≡◌, codes, ℕ, false, List, [], ◌∷◌, ◌++◌, length, Some}
use Rattle.check_lines.specs.Decision.{decide, is_word}
use Rattle.check_lines.specs.declared.decision.LineMark.{LineMark}
use Rattle.check_lines.specs.declared.decision.LineMark.TheVariants.{Check}
use Rattle.check_lines.specs.declared.suffix.Spelling.TheVariants.{Good}
use Rattle.check_lines.specs.declared.kind.Kind.{Kind}
use Rattle.check_lines.specs.declared.kind.Kind.TheVariants.{Plain, Next, Empty, Not}

abbrev pub checks : List (List ℕ)
checks = codes "CHECK" ∷ []

abbrev pub comments : List (List ℕ)
comments = codes "COM" ∷ codes "RUN" ∷ []

-- bytes of which none belongs to a word
abbrev pub IsLead : List ℕ → Type 0
IsLead [] = Unit {0}
IsLead (b ∷ lead) = (is_word b ≡ false) × IsLead lead

-- a directive of a kind, behind the default prefix
abbrev pub mark_of_kind : Kind → ℕ → LineMark
mark_of_kind kind count = Check (record { index = 0; length = 5 }) (Good (record { kind = kind; literal = false; count = count }))

-- what decides a line behind a lead
abbrev pub DecidesBehind : List ℕ → List ℕ → Kind → ℕ → Type 0
DecidesBehind lead directive kind count = (body : List ℕ) →
    decide checks comments (lead ++ (directive ++ body)) ≡ Some (record { at = length lead; mark = mark_of_kind kind count })

pub record LeadsDecide (lead : List ℕ) : Type 0 where
  pub plain : DecidesBehind lead (codes "CHECK: ") Plain 1
  pub next : DecidesBehind lead (codes "CHECK-NEXT: ") Next 6
  pub empty : DecidesBehind lead (codes "CHECK-EMPTY:") Empty 7
  pub negative : DecidesBehind lead (codes "CHECK-NOT: ") Not 5

abbrev pub LeadsDecideNothing : Type 0
LeadsDecideNothing = (lead : List ℕ) → IsLead lead → LeadsDecide lead
