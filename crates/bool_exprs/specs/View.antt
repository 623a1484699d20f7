-- The definitions' values that the code's values stand for.
use Rattle.std.specs.Prelude.{◌≡◌, ℕ, ◌<◌, ◌≤◌, List, Option, map, reverse}
use Rattle.std.specs.Option.{option_map}
use Rattle.ere_tree.specs.View.{view}
use Rattle.bool_exprs.specs.Expr.{Expr, expr_of}
use Rattle.bool_exprs.specs.Piece.{Piece, bytes, regex, Front, none, refused, piece}
use Rattle.bool_exprs.specs.Token.{Token, operand, bang, both, either, open_paren, close_paren, comma, star}
use Rattle.bool_exprs.specs.Place.{Frame, denied, and_behind, or_behind, paren, Place, wants, has, starred, State, step}
use Rattle.bool_exprs.specs.declared.expr.BoolExpr.{BoolExpr}
use Rattle.bool_exprs.specs.declared.piece.Piece as pieces
use Rattle.bool_exprs.specs.declared.piece.Piece.TheVariants as code
use Rattle.bool_exprs.specs.declared.piece.Front as fronts
use Rattle.bool_exprs.specs.declared.piece.Front.TheVariants as begin
use Rattle.bool_exprs.specs.declared.token.Token as tokens
use Rattle.bool_exprs.specs.declared.token.Token.TheVariants as token
use Rattle.bool_exprs.specs.declared.place.Frame as frames
use Rattle.bool_exprs.specs.declared.place.Frame.TheVariants as frame
use Rattle.bool_exprs.specs.declared.place.Last.TheVariants as last
use Rattle.bool_exprs.specs.declared.place.Place as places
use Rattle.bool_exprs.specs.declared.place.Last as lasts
use Rattle.bool_exprs.specs.declared.place.Opened as opens
use Rattle.bool_exprs.specs.declared.reader.Reader as readers

abbrev pub piece_view : pieces.Piece → Piece
piece_view (code.Bytes word) = bytes word
piece_view (code.Regex ere) = regex (view ere)

-- pieces that were found and how many bytes they have
abbrev pub pieces_view : List pieces.Piece × ℕ → List Piece × ℕ
pieces_view found = (map piece_view found.0, found.1)

-- what begins a text
abbrev pub front_view : fronts.Front → Front
front_view begin.Nothing = none
front_view begin.Refused = refused
front_view (begin.Begins one count) = piece (piece_view one) count

-- a piece has some bytes, and no more than these
abbrev pub FrontWithin : ℕ → fronts.Front → Type 0
FrontWithin bound begin.Nothing = Unit {0}
FrontWithin bound begin.Refused = Unit {0}
FrontWithin bound (begin.Begins one count) = (0 < count) × (count ≤ bound)

abbrev pub token_view : tokens.Token → Token
token_view (token.Operand expr) = operand (expr_of expr)
token_view token.Bang = bang
token_view token.Both = both
token_view token.Either = either
token_view token.OpenParen = open_paren
token_view token.CloseParen = close_paren
token_view token.Comma = comma
token_view token.Star = star

-- a token that was found and its length
abbrev pub found_view : tokens.Token × ℕ → Token × ℕ
found_view found = (token_view found.0, found.1)

-- this token was found, or none
abbrev pub FindsToken : Option (Token × ℕ) → Option (tokens.Token × ℕ) → Type 0
FindsToken there found = option_map found_view found ≡ there

abbrev pub frame_view : frames.Frame → Frame Expr
frame_view frame.Denied = denied
frame_view (frame.And left) = and_behind (expr_of left)
frame_view (frame.Or left) = or_behind (expr_of left)
frame_view frame.Paren = paren

-- the frames, innermost last in the code
abbrev pub frames_view : List frames.Frame → List (Frame Expr)
frames_view held = reverse (map frame_view held)

abbrev pub at_last : List (Frame Expr) → lasts.Last → Place Expr
at_last fs last.Wanted = wants fs
at_last fs (last.Read expr) = has fs (expr_of expr)
at_last fs last.Starred = starred

abbrev pub place_view : places.Place → Place Expr
place_view place = at_last (frames_view place.frames.items) place.last

-- the value is this place
abbrev pub IsPlace : Place Expr → places.Place → Type 0
IsPlace there place = place_view place ≡ there

-- the value is the place behind a token, or none where it can't be read on
abbrev pub StepsTo : Place Expr → tokens.Token → Option places.Place → Type 0
StepsTo from token found = option_map place_view found ≡ step from (token_view token)

-- the expressions of a list
abbrev pub exprs_of : List BoolExpr → List Expr
exprs_of = map expr_of

-- an expression with what is open round it
abbrev pub opened_view : opens.Opened → List (Frame Expr) × Expr
opened_view found = (frames_view found.frames.items, expr_of found.expr)

-- the value is this expression, with this open round it
abbrev pub IsOpened : List (Frame Expr) × Expr → opens.Opened → Type 0
IsOpened there found = opened_view found ≡ there

-- what was read of a list
abbrev pub reader_view : readers.Reader → State
reader_view reader =
    record { list = exprs_of reader.list; left = reader.left; place = place_view reader.place }

-- a reader behind so many bytes
abbrev pub turn_view : readers.Reader × ℕ → State × ℕ
turn_view next = (reader_view next.0, next.1)
