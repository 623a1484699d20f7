-- What one positive directive that is no DAG does at a place; the text ends where the block does.
-- After LLVM Command Guide, FileCheck: CHECK, CHECK-NEXT, CHECK-SAME, CHECK-EMPTY, CHECK-COUNT and CHECK-LABEL. Own rules: a
-- match on the wrong line binds nothing, and a COUNT's matches bind one by one.
use Rattle.std.specs.Prelude.{ℕ, zero, suc, ◌+◌, ◌==◌, if◌then◌else◌, List, [], Result, Ok}
use Rattle.pattern_scan.specs.declared.seeking.Context.{Context}
use Rattle.pattern_vars.specs.Vars.{bound_all}
use Rattle.check_group.specs.Changes.{Variables}
use Rattle.check_group.specs.Lines.{behind_newline, empty_line, on_next_line, on_same_line}
use Rattle.check_group.specs.Matches.{Came, behind, if_met, looked}
use Rattle.check_group.specs.declared.answer.Met.{Met}
use Rattle.check_group.specs.declared.directive.Check.{Check}
use Rattle.pattern_parse.specs.declared.demand.LineRule.{LineRule}
use Rattle.pattern_parse.specs.declared.demand.LineRule.TheVariants.{Any, Next, Same, Empty}
use Rattle.check_group.specs.declared.fault.FaultKind.{FaultKind}

-- the first match of a directive behind an offset, on the line of a rule; `done` matches of it are done
abbrev pub met : List ℕ → Variables → Check → ℕ → ℕ → LineRule → Result Met FaultKind
met text vars check done at Any = looked text vars check done at
met text vars check done at Next = on_next_line text at (looked text vars check done at)
met text vars check done at Same = on_same_line text at (looked text vars check done at)
met text vars check done at Empty = on_next_line text at (behind_newline at (empty_line text at))

-- the same on the line of the directive's own rule, where a search sees the text and the variables
abbrev pub met_in : Context → Check → ℕ → ℕ → Result Met FaultKind
met_in context check done at = met context.text.now context.vars.now check done at check.demand.rule

-- where the first match of a directive began: the one at hand, if none was done before
abbrev pub began_at : ℕ → ℕ → ℕ → ℕ
began_at done at first = if done == 0 then at else first

-- the matches that are left of a directive behind `done` of them, each from the end of the one before; `first` is where the
-- first one began
unfoldable pub counted : List ℕ → Check → ℕ → ℕ → Variables → ℕ → ℕ → Came
counted text check zero done vars first at = record { outcome = Ok (record { from = first; to = at }); changes = [] }
counted text check (suc left) done vars first at =
    if_met check (met text vars check done at check.demand.rule)
    (λ m. behind m.fresh
    (counted text check left (done + 1) (bound_all vars m.fresh) (began_at done m.span.from first) m.span.to))

-- what a directive comes to at a place
abbrev pub came : List ℕ → Variables → ℕ → Check → Came
came text vars place check = counted text check check.demand.times 0 vars place place

-- the same, of the variables at its start
abbrev pub alone_at : List ℕ → ℕ → Check → Variables → Came
alone_at text place check vars = came text vars place check
