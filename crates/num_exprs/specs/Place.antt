-- Places in an expression that is being read, and what is read from a place on.
-- Own rule: at most 250 operators, ops and opening parentheses; the next one can't be read on.
use Rattle.std.specs.Prelude.{ℕ, ◌-◌, Bool, true, false, Option, Some, None, List, [], ◌∷◌, ◌++◌, Result, Ok, Err, nat_le, if◌then◌else◌}
use Rattle.num_base.specs.Term.{Term, name, binary}
use Rattle.num_base.specs.declared.expr.Op.{Op}
use Rattle.num_exprs.specs.Token.{Token, value, operator, named, open_paren, close_paren, comma, Tokens, ends, stops, next}
use Rattle.num_exprs.specs.declared.block.PlacedName.{PlacedName}

-- what is open round a place: a left side and its operator; a `(`; an op before its comma; an op behind it, with the
-- expression before it
pub data Frame (V : Type 0) : Type 0 where
  behind : V → Op → Frame V
  paren : Frame V
  first : Op → Frame V
  second : Op → V → Frame V

-- a place, with what is open round it, innermost first: an operand is wanted; the `(` of an op is wanted; an
-- expression is there
pub data Place (V : Type 0) : Type 0 where
  wants : List (Frame V) → Place V
  called : Op → List (Frame V) → Place V
  has : List (Frame V) → V → Place V

-- the place behind an operand
abbrev pub taken : List (Frame Term) → Term → Place Term
taken (behind s op ∷ fs) t = has fs (binary op s t)
taken fs t = has fs t

-- the place behind a token, unless it can't be read on
abbrev pub step : Place Term → Token → Option (Place Term)
step (wants fs) (value t) = Some (taken fs t)
step (wants fs) open_paren = Some (wants (paren ∷ fs))
step (wants fs) (named op) = Some (called op fs)
step (called op fs) open_paren = Some (wants (first op ∷ fs))
step (has fs t) (operator op) = Some (wants (behind t op ∷ fs))
step (has (paren ∷ fs) t) close_paren = Some (taken fs t)
step (has (first op ∷ fs) t) comma = Some (wants (second op t ∷ fs))
step (has (second op s ∷ fs) t) close_paren = Some (taken fs (binary op s t))
step place token = None

-- what counts against the limit
abbrev pub weight : Token → ℕ
weight (value t) = 0
weight (operator op) = 1
weight (named op) = 1
weight open_paren = 1
weight close_paren = 0
weight comma = 0

-- the place behind a token, where so many more may count
abbrev pub step_within : ℕ → Place Term → Token → Option (Place Term)
step_within left place token = if nat_le (weight token) left then step place token else None

-- what was read of an expression: the names that it uses, with their offsets, and its value, or the offset of the
-- first byte that can't be read on
pub record Found : Type 0 where
  pub uses : List PlacedName
  pub outcome : Result Term ℕ

abbrev pub failed : ℕ → Found
failed at = record { uses = []; outcome = Err at }

-- the expression at its end, unless it isn't over
abbrev pub whole : Place Term → Option Term
whole (has [] t) = Some t
whole place = None

abbrev pub over : ℕ → Option Term → Found
over at (Some t) = record { uses = []; outcome = Ok t }
over at None = failed at

-- the name that a token uses
abbrev pub name_of : Token → Option (List ℕ)
name_of (value (name bytes)) = Some bytes
name_of token = None

-- the names that a token at an offset uses
abbrev pub uses_from : ℕ → Option (List ℕ) → List PlacedName
uses_from at None = []
uses_from at (Some bytes) = record { at = at; name = bytes } ∷ []

abbrev pub uses_of : ℕ → Token → List PlacedName
uses_of at token = uses_from at (name_of token)

-- what was found, behind names that were used before
abbrev pub using : List PlacedName → Found → Found
using names found = record found { uses = names ++ found.uses }

abbrev pub on_place : ℕ → Option (Place Term) → (Place Term → Found) → Found
on_place at None go = failed at
on_place at (Some place) go = go place

-- what is read from a place on, where so many more tokens may count
abbrev pub reading_from : ℕ → Place Term → Tokens → Found
reading_from left place (ends at) = over at (whole place)
reading_from left place (stops at) = failed at
reading_from left place (next at token more) =
    on_place at (step_within left place token) (λ there.
    using (uses_of at token) (reading_from (left - weight token) there more))

-- whether an operand is wanted at a place
abbrev pub is_wanted : Place Term → Bool
is_wanted (wants fs) = true
is_wanted (called op fs) = false
is_wanted (has fs t) = false
