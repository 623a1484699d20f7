-- What is the same of all directives with a role or a line rule.
-- After LLVM Command Guide, FileCheck: CHECK-NOT, CHECK-DAG, CHECK-LABEL, CHECK-NEXT, CHECK-SAME and CHECK-EMPTY.
use Rattle.std.specs.Prelude.{Bool, true, false}
use Rattle.pattern_parse.specs.declared.demand.LineRule.{LineRule}
use Rattle.pattern_parse.specs.declared.demand.LineRule.TheVariants.{Any, Empty}
use Rattle.pattern_parse.specs.declared.demand.Role.{Role}
use Rattle.pattern_parse.specs.declared.demand.Role.TheVariants.{Excluded, Unordered, Label}

-- it may not be met, as a NOT
abbrev pub is_excluded : Role → Bool
is_excluded Excluded = true
is_excluded role = false

-- it is met in any order, as a DAG
abbrev pub is_unordered : Role → Bool
is_unordered Unordered = true
is_unordered role = false

-- it ends a block
abbrev pub is_label : Role → Bool
is_label Label = true
is_label role = false

-- it asks for a line, and so for a match before it
abbrev pub asks_line : LineRule → Bool
asks_line Any = false
asks_line rule = true

-- it takes no body
abbrev pub takes_none : LineRule → Bool
takes_none Empty = true
takes_none rule = false
