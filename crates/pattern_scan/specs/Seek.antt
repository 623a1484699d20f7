-- Seeking a pattern: the hit of its instance in a slice, and what the hit gives. After LLVM Command Guide, FileCheck.
use Rattle.std.specs.Prelude.{◌≡◌, ℕ, ◌-◌, ◌≤◌, Bool, true, false, Option, Some, None, List, [], ◌∷◌, length, Result, Ok, Err, IfOk}
use Rattle.std.specs.FinMap.{FinMap}
use Rattle.std.specs.List.{cons_option}
use Rattle.ere_hit.specs.Value.{hit_in}
use Rattle.ere_match.specs.Shown.{ShownForHit}
use Rattle.ere_tree.specs.Shape.{has_refs}
use Rattle.ere_tree.specs.declared.hit.Hit.{Hit}
use Rattle.num_base.specs.Names.{name_cmp}
use Rattle.num_base.specs.declared.evaluation.EvalFault.{EvalFault}
use Rattle.num_base.specs.declared.evaluation.EvalFault.TheVariants as fault
use Rattle.pattern_hits.specs.Bound.{all_bound}
use Rattle.pattern_instance.specs.Instance.{Instance, undefined, faulty, made}
use Rattle.pattern_instance.specs.Views.{instance_by}
use Rattle.pattern_instance.specs.declared.gift.Gift.{Gift}
use Rattle.pattern_parse.specs.Item.{Item, plain, regex, define, recall, number}
use Rattle.pattern_parse.specs.PieceView.{items_view}
use Rattle.pattern_parse.specs.declared.pattern.Frame.TheVariants.{Open}
use Rattle.pattern_parse.specs.declared.pattern.Pattern.{Pattern}
use Rattle.pattern_scan.specs.declared.seeking.Context.{Context}
use Rattle.pattern_scan.specs.declared.sought.Sought.{Sought}
use Rattle.pattern_scan.specs.declared.sought.Sought.TheVariants.{Found, Absent, UndefinedNames, Range, ZeroDivisor, Unreadable}
use Rattle.pattern_vars.specs.Vars.{HavePlaces, have_places}
use Rattle.pattern_vars.specs.declared.binding.Binding.{Binding}
use Rattle.pattern_vars.specs.declared.vars.Held.{Held}
use Rattle.tt_base.specs.Place.{span_of}
use Rattle.tt_base.specs.declared.place.Span.{Span}

-- the answer of a match, with what it binds or the number that can't be read
abbrev pub answered : Hit → Result (List Binding) Span → Sought
answered hit (Ok fresh) = Found (span_of hit.from (hit.to - hit.from)) fresh
answered hit (Err span) = Unreadable span

-- the answer of a hit in a text, or of none
abbrev pub answer_of : Bool → List ℕ → List Gift → Option Hit → Sought
answer_of fold text gifts None = Absent
answer_of fold text gifts (Some hit) = answered hit (all_bound fold text hit.groups gifts)

-- the answer of a fault (names without a value are told before)
abbrev pub refusal_of : EvalFault → Sought
refusal_of fault.Undefined = UndefinedNames []
refusal_of fault.Range = Range
refusal_of fault.ZeroDivisor = ZeroDivisor

-- what an instance answers in the slice of a text that begins at an offset: that of its hit there
abbrev pub sought_of : Bool → List ℕ → ℕ → Instance → Sought
sought_of fold text from (undefined names) = UndefinedNames names
sought_of fold text from (faulty fault) = refusal_of fault
sought_of fold text from (made t gifts) = answer_of fold text gifts (hit_in text t from)

-- what the pattern of a directive of a line answers, with variables, in the slice of a text that begins at an offset
abbrev pub sought : Pattern → FinMap name_cmp Held → List ℕ → ℕ → ℕ → Sought
sought pattern vars text from line =
    sought_of pattern.fold text from (instance_by vars line pattern)

-- the same where a search sees the text and the variables
abbrev pub sought_in : Context → Pattern → ℕ → ℕ → Sought
sought_in context pattern from line = sought pattern context.vars.now context.text.now from line

-- what is found lies between two offsets, and a number that can't be read ends before the second
abbrev pub IsWithin : ℕ → ℕ → Sought → Type 0
IsWithin from to (Found span fresh) = (from ≤ span.from) × (span.to ≤ to)
IsWithin from to (Unreadable span) = span.to ≤ to
IsWithin from to answer = Unit {0}

-- the names that pieces define, in front of others
abbrev pub named_by : Item → List (List ℕ) → List (List ℕ)
named_by (plain bytes) names = names
named_by (regex t) names = names
named_by (define name t) names = name ∷ names
named_by (recall name) names = names
named_by (number num format) names = cons_option num.defines names

abbrev pub names_in : List Item → List (List ℕ)
names_in [] = []
names_in (one ∷ items) = named_by one (names_in items)

-- the names that a pattern defines
abbrev pub names_of : Pattern → List (List ℕ)
names_of pattern = names_in (items_view pattern.pieces)

-- each name that a match gives something has a place
abbrev pub ArePlaced : FinMap name_cmp Held → Sought → Type 0
ArePlaced vars (Found span fresh) = have_places vars fresh ≡ true
ArePlaced vars answer = Unit {0}

-- where the names that a pattern defines have places, those that it gives something do
abbrev pub KeepsPlaces : {E : Type 0} → Context → Pattern → Result Sought E → Type 0
KeepsPlaces context pattern result =
    HavePlaces context.vars.now (names_of pattern) → IfOk result (ArePlaced context.vars.now)

-- whether one of the pieces is a regular expression or defines a text by one
abbrev pub is_expressed : List Item → Bool
is_expressed [] = false
is_expressed (plain bytes ∷ items) = is_expressed items
is_expressed (regex t ∷ items) = true
is_expressed (define name t ∷ items) = true
is_expressed (recall name ∷ items) = is_expressed items
is_expressed (number num format ∷ items) = is_expressed items

-- Where a pattern is expressed by a regular expression, and its instance has no reference, so many bytes and ends of the
-- slice were shown to an automaton as its hit takes.
abbrev pub IsShown : Bool → List ℕ → ℕ → Instance → ℕ → Type 0
IsShown expressed text from (undefined names) shown = Unit {0}
IsShown expressed text from (faulty fault) shown = Unit {0}
IsShown expressed text from (made t gifts) shown =
    expressed ≡ true → has_refs t ≡ false → ShownForHit (length text - from) from (hit_in text t from) shown

-- the same of the pattern of a directive of a line, with variables
abbrev pub IsShownFor : Pattern → FinMap name_cmp Held → ℕ → List ℕ → ℕ → ℕ → Type 0
IsShownFor pattern vars line text from shown =
    IsShown (is_expressed (items_view pattern.pieces)) text from (instance_by vars line pattern) shown

-- the same where a search sees the text and the variables
abbrev pub IsShownIn : Context → Pattern → ℕ → ℕ → ℕ → Type 0
IsShownIn context pattern line from shown = IsShownFor pattern context.vars.now line context.text.now from shown

-- a pattern is one piece of plain text, as it stands
pub record IsPlain (pattern : Pattern) (text : List ℕ) : Type 0 where
  pub fold : pattern.fold ≡ false
  pub frame : pattern.frame ≡ Open
  pub pieces : items_view pattern.pieces ≡ plain text ∷ []
