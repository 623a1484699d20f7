-- The definitions' values that the code's values stand for.
use Rattle.std.specs.Prelude.{◌≡◌, ℕ, List, map, reverse, Option, Result, Ok, Err, IfOk}
use Rattle.std.specs.Option.{option_map}
use Rattle.num_base.specs.Term.{Term, term_of}
use Rattle.num_exprs.specs.Token.{Token, value, operator, named, open_paren, close_paren, comma}
use Rattle.num_exprs.specs.Place.{Found, Frame, behind, paren, first, second, Place, wants, called, has}
use Rattle.num_exprs.specs.Block.{Reading, Num}
use Rattle.num_exprs.specs.declared.block.NumBlock as nums
use Rattle.num_exprs.specs.declared.fault.NumFail.{NumFail}
use Rattle.num_exprs.specs.declared.fault.NumFail.TheVariants.{Bad, NoMemory}
use Rattle.num_exprs.specs.declared.token.Token as tokens
use Rattle.num_exprs.specs.declared.token.Token.TheVariants as token
use Rattle.num_exprs.specs.declared.place.Frame as frames
use Rattle.num_exprs.specs.declared.place.Frame.TheVariants as frame
use Rattle.num_exprs.specs.declared.place.Last.TheVariants as last
use Rattle.num_exprs.specs.declared.place.Place as places
use Rattle.num_exprs.specs.declared.place.Last as lasts
use Rattle.num_exprs.specs.declared.block.BlockReading as blocks
use Rattle.num_exprs.specs.declared.reader.ExprReading as readers
use Rattle.num_base.specs.declared.expr.Expr.{Expr}
use Rattle.num_exprs.specs.declared.fault.NumFault.{NumFault}

abbrev pub token_view : tokens.Token → Token
token_view (token.Value expr) = value (term_of expr)
token_view (token.Operator op) = operator op
token_view (token.Named op) = named op
token_view token.OpenParen = open_paren
token_view token.CloseParen = close_paren
token_view token.Comma = comma

abbrev pub frame_view : frames.Frame → Frame Term
frame_view (frame.Behind left op) = behind (term_of left) op
frame_view frame.Paren = paren
frame_view (frame.First op) = first op
frame_view (frame.Second op left) = second op (term_of left)

-- a token that was found and its length, or the offset of the byte that can't be read on
abbrev pub found_view : Result (tokens.Token × ℕ) ℕ → Result (Token × ℕ) ℕ
found_view (Ok found) = Ok (token_view found.0, found.1)
found_view (Err at) = Err at

-- the frames, innermost last in the code
abbrev pub frames_view : List frames.Frame → List (Frame Term)
frames_view held = reverse (map frame_view held)

abbrev pub at_last : List (Frame Term) → lasts.Last → Place Term
at_last fs last.Wanted = wants fs
at_last fs (last.Called op) = called op fs
at_last fs (last.Read expr) = has fs (term_of expr)

abbrev pub place_view : places.Place → Place Term
place_view place = at_last (frames_view place.frames.items) place.last

-- a place was come to, unless memory ran out
abbrev pub ComesTo : {E : Type 0} → Result places.Place E → Place Term → Type 0
ComesTo result due = IfOk result (λ place. place_view place ≡ due)

-- or none was, where it can't be read on
abbrev pub MayComeTo : {E : Type 0} → Result (Option places.Place) E → Option (Place Term) → Type 0
MayComeTo result due = IfOk result (λ found. option_map place_view found ≡ due)

-- what was found of an expression
abbrev pub term_outcome : Result Expr ℕ → Result Term ℕ
term_outcome (Ok expr) = Ok (term_of expr)
term_outcome (Err at) = Err at

abbrev pub found_of : readers.ExprReading → Found
found_of read = record { uses = read.uses; outcome = term_outcome read.outcome }

-- what was read of an expression, or its fault
abbrev pub outcome_view : Result (Option Expr) NumFault → Result (Option Term) NumFault
outcome_view (Ok expr) = Ok (option_map term_of expr)
outcome_view (Err fault) = Err fault

-- what was read of a block
abbrev pub reading_view : blocks.BlockReading → Reading
reading_view read = record {
  format = read.format;
  defines = read.defines;
  uses = read.uses;
  expr = outcome_view read.expr;
}

-- the block that a value stands for
abbrev pub num_view : nums.NumBlock → Num
num_view block =
    record { format = block.format; defines = block.defines; expr = option_map term_of block.expr }

-- what a parser answered is what the bytes are read as, unless memory ran out
abbrev pub IsRead : Result nums.NumBlock NumFail → Result Num NumFault → Type 0
IsRead (Ok block) read = read ≡ Ok (num_view block)
IsRead (Err NoMemory) read = Unit {0}
IsRead (Err (Bad at kind)) read = read ≡ Err (record { at = at; kind = kind })
