-- Places in a list of expressions that is being read, and what is read from a place on.
-- After LLVM Testing Infrastructure Guide, 'Constraining test execution': `!` binds most, then `&&`, then `||`, and commas
-- part a list. Own rules: operators of one level count from the left, an empty item counts for nothing, a `*` is an item
-- alone, and one expression has at most 250 operators and opening parentheses.
use Rattle.std.specs.Prelude.{◌≡◌, ℕ, ◌-◌, drop, Bool, true, false, Option, Some, None, List, [], ◌∷◌, ◌++◌, nat_le, if◌then◌else◌}
use Rattle.std.specs.Option.{option_map, option_and_then}
use Rattle.bool_exprs.specs.Expr.{Expr, constant, negation}
use Rattle.bool_exprs.specs.Expr as expr
use Rattle.bool_exprs.specs.Token.{Token, operand, bang, both, either, open_paren, close_paren, comma, star, Tokens, ends, stops, next, tokens_from}
use Rattle.bool_exprs.specs.declared.reader.TheConstants.{MAX_WEIGHT}

-- what is open round a place: a `!`; a left side and its `&&`; a left side and its `||`; a `(`
pub data Frame (V : Type 0) : Type 0 where
  denied : Frame V
  and_behind : V → Frame V
  or_behind : V → Frame V
  paren : Frame V

-- a place in an item, with what is open round it, innermost first: an operand is wanted; an expression is there; behind
-- the `*` of an item
pub data Place (V : Type 0) : Type 0 where
  wants : List (Frame V) → Place V
  has : List (Frame V) → V → Place V
  starred : Place V

-- the place behind an operand
abbrev pub taken : List (Frame Expr) → Expr → Place Expr
taken (denied ∷ fs) e = taken fs (negation e)
taken (and_behind s ∷ fs) e = has fs (expr.both s e)
taken fs e = has fs e

-- an expression behind which no `&&` stands, with what is open round it
abbrev pub summed : List (Frame Expr) → Expr → List (Frame Expr) × Expr
summed (or_behind s ∷ fs) e = (fs, expr.either s e)
summed fs e = (fs, e)

-- the place behind a `)`, unless it closes nothing
abbrev pub closed : List (Frame Expr) × Expr → Option (Place Expr)
closed (paren ∷ fs, e) = Some (taken fs e)
closed (fs, e) = None

-- the place behind an `||`
abbrev pub or_open : List (Frame Expr) × Expr → Place Expr
or_open (fs, e) = wants (or_behind e ∷ fs)

-- the place behind a `*`, which begins an item
abbrev pub star_at : List (Frame Expr) → Option (Place Expr)
star_at [] = Some starred
star_at (f ∷ fs) = None

-- the place behind a token of an item, unless it can't be read on
abbrev pub step : Place Expr → Token → Option (Place Expr)
step (wants fs) (operand e) = Some (taken fs e)
step (wants fs) bang = Some (wants (denied ∷ fs))
step (wants fs) open_paren = Some (wants (paren ∷ fs))
step (wants fs) star = star_at fs
step (has fs e) both = Some (wants (and_behind e ∷ fs))
step (has fs e) either = Some (or_open (summed fs e))
step (has fs e) close_paren = closed (summed fs e)
step place token = None

-- what counts against the limit
abbrev pub weight : Token → ℕ
weight (operand e) = 0
weight bang = 1
weight both = 1
weight either = 1
weight open_paren = 1
weight close_paren = 0
weight comma = 0
weight star = 0

abbrev pub is_comma : Token → Bool
is_comma comma = true
is_comma token = false

-- the expression where nothing is open
abbrev pub alone : List (Frame Expr) × Expr → Option (List Expr)
alone ([], e) = Some (e ∷ [])
alone (f ∷ fs, e) = None

-- what an item that ends at a place adds to the list, unless it isn't over
abbrev pub item : Place Expr → Option (List Expr)
item (wants []) = Some []
item (wants (f ∷ fs)) = None
item (has fs e) = alone (summed fs e)
item starred = Some (constant true ∷ [])

-- what was read of a list: the items before the place, how many more tokens may count, and the place in an item
pub record State : Type 0 where
  pub list : List Expr
  pub left : ℕ
  pub place : Place Expr

-- where an item begins, behind these
abbrev pub beginning : List Expr → State
beginning list = record { list = list; left = MAX_WEIGHT; place = wants [] }

-- the list where an item ends at a place, unless it isn't over
abbrev pub finished : List Expr → Place Expr → Option (List Expr)
finished list place = option_map (λ these. list ++ these) (item place)

-- what was read behind a token of an item, unless it can't be read on
abbrev pub within_item : State → Token → Option State
within_item s t =
    if nat_le (weight t) s.left
    then option_map (λ there. record { list = s.list; left = s.left - weight t; place = there }) (step s.place t)
    else None

-- what was read behind a token, unless it can't be read on
abbrev pub after : State → Token → Option State
after s t = if is_comma t then option_map beginning (finished s.list s.place) else within_item s t

-- the list of a text of which so much was read and these tokens are left
abbrev pub reading_from : State → Tokens → Option (List Expr)
reading_from s ends = finished s.list s.place
reading_from s stops = None
reading_from s (next t more) = option_and_then (λ there. reading_from there more) (after s t)

-- the list of a text of which so much was read and this is left
abbrev pub list_from : Bool → State → List ℕ → Option (List Expr)
list_from xfail s text = reading_from s (tokens_from xfail 0 text)

-- the expressions of a text, in an XFAIL list or another, unless it is no list
abbrev pub exprs_in : Bool → List ℕ → Option (List Expr)
exprs_in xfail text = list_from xfail (beginning []) text

-- a turn of a reader left the list of the text as it is, or found that it is none
abbrev pub IsTurn : Bool → State → List ℕ → Option (State × ℕ) → Type 0
IsTurn xfail s text None = list_from xfail s text ≡ None
IsTurn xfail s text (Some there) = list_from xfail there.0 (drop there.1 text) ≡ list_from xfail s text
