-- The kinds of directives: how each is spelled, and what it asks for.
-- After LLVM Command Guide, FileCheck: CHECK, CHECK-NEXT, CHECK-SAME, CHECK-EMPTY, CHECK-NOT, CHECK-DAG, CHECK-LABEL and
-- CHECK-COUNT. Own rules: which kinds a NOT can't be combined with, and which count as an earlier match.
use Rattle.std.specs.Prelude.{ℕ, Bool, true, false, ◌&&◌, ◌||◌, not, List, [], ◌∷◌, codes, Option}
use Rattle.std.specs.List.{find}
use Rattle.tt_base.specs.Occurrence.{begins_with}
use Rattle.pattern_parse.specs.Demand.{asks_line, is_excluded, is_unordered}
use Rattle.pattern_parse.specs.declared.demand.Demand.{Demand}
use Rattle.pattern_parse.specs.declared.demand.LineRule.{LineRule}
use Rattle.pattern_parse.specs.declared.demand.LineRule.TheVariants as line
use Rattle.pattern_parse.specs.declared.demand.Role.{Role}
use Rattle.pattern_parse.specs.declared.demand.Role.TheVariants as role
use Rattle.check_lines.specs.declared.kind.Kind.{Kind}
use Rattle.check_lines.specs.declared.kind.Kind.TheVariants.{Plain, Next, Same, Empty, Not, Dag, Label, Count}

-- what differs between kinds: what stands behind a prefix, what is asked for, and whether the matches found are counted
pub record KindRow : Type 0 where
  pub suffix : List ℕ
  pub demand : Demand
  pub counted : Bool

-- one match
abbrev pub once : List ℕ → Role → LineRule → KindRow
once suffix role rule = record {
  suffix = suffix;
  demand = record { role = role; rule = rule; times = 1 };
  counted = false;
}

abbrev pub row_of : Kind → KindRow
row_of Plain = once [] role.Sought line.Any
row_of Next = once (codes "-NEXT") role.Sought line.Next
row_of Same = once (codes "-SAME") role.Sought line.Same
row_of Empty = once (codes "-EMPTY") role.Sought line.Empty
row_of Not = once (codes "-NOT") role.Excluded line.Any
row_of Dag = once (codes "-DAG") role.Unordered line.Any
row_of Label = once (codes "-LABEL") role.Label line.Any
row_of (Count n) = record {
  suffix = codes "-COUNT";
  demand = record { role = role.Sought; rule = line.Any; times = n };
  counted = true;
}

-- the kinds that a suffix alone names
abbrev pub suffixed : List Kind
suffixed = Next ∷ Dag ∷ Not ∷ Same ∷ Empty ∷ Label ∷ []

-- ---- what follows

abbrev pub suffix_of : Kind → List ℕ
suffix_of kind = (row_of kind).suffix

abbrev pub demand_of : Kind → Demand
demand_of kind = (row_of kind).demand

-- the kind whose suffix begins a text, if one does
abbrev pub named : List ℕ → Option Kind
named text = find (λ kind. begins_with text (suffix_of kind)) suffixed

-- it is a NOT
abbrev pub is_not : Kind → Bool
is_not kind = is_excluded (demand_of kind).role

-- whether a NOT can't be combined with it: one that asks for a line, or a DAG
abbrev pub is_other : Kind → Bool
is_other kind = asks_line (demand_of kind).rule || is_unordered (demand_of kind).role

-- whether it counts as an earlier match: each but NOT and DAG
abbrev pub is_earlier : Kind → Bool
is_earlier kind = not (is_excluded (demand_of kind).role) && not (is_unordered (demand_of kind).role)
