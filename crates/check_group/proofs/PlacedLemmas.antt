-- Ranges in order, and a range put among them.
use Rattle.std.proofs.Common.{ℕ, ◌≤◌, Bool, true, false, cond, List, [], ◌∷◌, All}
use Rattle.std.specs.List.{AllByRecursion}
use Rattle.std.proofs.lemmas.List.Elements.{recursion_from_All, All-from_recursion}
use Rattle.tt_base.specs.declared.place.Span.{Span}
use Rattle.check_group.specs.Group.{EndsBy, is_lower, placed_among}

-- ---- where ranges end

ends_cond : (to : ℕ) (m range : Span) (ranges rest : List Span) (test : Bool) → m.to ≤ to → range.to ≤ to → AllByRecursion (EndsBy to) ranges → AllByRecursion (EndsBy to) rest
    → AllByRecursion (EndsBy to) (cond test (range ∷ rest) (m ∷ range ∷ ranges))
ends_cond to m range ranges rest true low first others behind = (first, behind)
ends_cond to m range ranges rest false low first others behind = (low, (first, others))

pub ends_each : (to : ℕ) (m : Span) (ranges : List Span) → m.to ≤ to → AllByRecursion (EndsBy to) ranges → AllByRecursion (EndsBy to) (placed_among m ranges)
unfolding placed_among
ends_each to m [] low each = (low, tt)
ends_each to m (range ∷ ranges) low each =
    ends_cond to m range ranges (placed_among m ranges) (is_lower range m) low each.0 each.1 (ends_each to m ranges low each.1)

pub ends_placed : (to : ℕ) (m : Span) (ranges : List Span) → m.to ≤ to → All (EndsBy to) ranges → All (EndsBy to) (placed_among m ranges)
ends_placed to m ranges low each =
    All-from_recursion (EndsBy to) (placed_among m ranges) (ends_each to m ranges low (recursion_from_All (EndsBy to) ranges each))
