-- Where a token may stand in an expression, and what is wrong where it may not. After POSIX.1 XBD 9.5.3. Own
-- rules: a reference names a group that is closed before it; groups are nested at most 250 deep; `()` is a
-- group of the empty expression, and no other alternative is empty.
use Rattle.std.specs.Prelude.{ℕ, ◌+◌, Bool, true, false, Option, Some, None, List, [], ◌∷◌, length, ◌==◌, ◌&&◌, ◌||◌, not, nat_lt, nat_le, if◌then◌else◌}
use Rattle.std.specs.List.{list_any}
use Rattle.ere_tree.specs.Token.{Token, byte, one_of, same_as, item, line_start, line_end, bar, open_group, close_group}
use Rattle.ere_tree.specs.declared.fault.EreFault.{EreFault}
use Rattle.ere_tree.specs.declared.fault.EreKind.{EreKind}
use Rattle.ere_tree.specs.declared.fault.EreKind.TheVariants.{EmptyAlternative, UnclosedGroup, StrayClose, BadReference, TooDeep}
use Rattle.ere_tree.specs.declared.level.Last.{Last}
use Rattle.ere_tree.specs.declared.level.Last.TheVariants.{Nothing, Bar, Part}

-- A level: the whole text, or the group of this number, whose `(` stands at this offset. The whole has number
-- 0.
pub record Open : Type 0 where
  pub at : ℕ
  pub number : ℕ

-- A place in a text: how many groups began before it, the level that it is in, the levels round that one,
-- innermost first, and what stands directly before it in its level.
pub record Place : Type 0 where
  pub groups : ℕ
  pub inner : Open
  pub outer : List Open
  pub last : Last

-- whether a place is in the group of this number
abbrev pub is_open : Place → ℕ → Bool
is_open place number =
    (place.inner.number == number) || list_any (λ level. level.number == number) place.outer

-- whether the group of this number is closed before a place
abbrev pub is_closed : Place → ℕ → Bool
is_closed place number = nat_le number place.groups && not (is_open place number)

-- whether a branch may end here, and whether one may end at a `|`
abbrev pub after_bar : Last → Bool
after_bar Bar = true
after_bar last = false

abbrev pub after_part : Last → Bool
after_part Part = true
after_part last = false

-- why a token is refused at a place
abbrev pub refusal : Place → Token → Option EreKind
refusal place (item (byte b) bound) = None
refusal place (item (one_of negated bytes) bound) = None
refusal place (item (same_as number) bound) = if is_closed place number then None else Some BadReference
refusal place line_start = None
refusal place line_end = None
refusal place bar = if after_part place.last then None else Some EmptyAlternative
refusal place open_group = if nat_lt (length place.outer) 250 then None else Some TooDeep
refusal place (close_group bound) =
    if nat_lt 0 (length place.outer) then (if after_bar place.last then Some EmptyAlternative else None)
    else Some StrayClose

-- why the text may not end at a place, which has this offset
abbrev pub refusal_at_end : Place → ℕ → Option EreFault
refusal_at_end place at =
    if nat_lt 0 (length place.outer) then Some (record { at = place.inner.at; kind = UnclosedGroup })
    else if after_bar place.last then Some (record { at = at; kind = EmptyAlternative })
    else None

-- the place where the text begins
abbrev pub beginning : Place
beginning = record { groups = 0; inner = record { at = 0; number = 0 }; outer = []; last = Nothing }

-- the place behind a token that stands at an offset
abbrev pub behind : Place → ℕ → Token → Place
behind place at (item atom bound) = record place { last = Part }
behind place at line_start = record place { last = Part }
behind place at line_end = record place { last = Part }
behind place at bar = record place { last = Bar }
behind place at open_group = record {
  groups = place.groups + 1;
  inner = record { at = at; number = place.groups + 1 };
  outer = place.inner ∷ place.outer;
  last = Nothing;
}
behind place at (close_group bound) = elim (place.outer) [
  | [] ↦ place
  | level ∷ levels ↦ record { groups = place.groups; inner = level; outer = levels; last = Part }
]
