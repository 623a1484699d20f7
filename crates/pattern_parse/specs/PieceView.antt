-- The definitions' values that the code's values stand for.
use Rattle.std.specs.FinMap.{FinMap}
use Rattle.num_base.specs.Names.{name_cmp}
use Rattle.num_base.specs.declared.format.Format.{Format}
use Rattle.std.specs.Prelude.{◌≡◌, ℤ, List, map, Option, Result, Ok, Err, IfOk}
use Rattle.ere_tree.specs.View.{view}
use Rattle.num_exprs.specs.View.{num_view}
use Rattle.pattern_parse.specs.Block.{Said}
use Rattle.pattern_parse.specs.Item.{Item, plain, regex, define, recall, number}
use Rattle.pattern_parse.specs.declared.fault.PatFault.{PatFault}
use Rattle.pattern_parse.specs.declared.fault.PatFail.{PatFail}
use Rattle.pattern_parse.specs.declared.fault.PatFail.TheVariants.{Bad, NoMemory}
use Rattle.pattern_parse.specs.declared.pattern.Piece as pieces
use Rattle.pattern_parse.specs.declared.pattern.Piece.TheVariants as piece
use Rattle.pattern_parse.specs.declared.pattern.Pattern as patterns
use Rattle.pattern_parse.specs.declared.said.Said as held

-- a piece
abbrev pub item_view : pieces.Piece → Item
item_view (piece.Plain bytes) = plain bytes
item_view (piece.Regex ere) = regex (view ere)
item_view (piece.Define name ere) = define name (view ere)
item_view (piece.Recall name) = recall name
item_view (piece.Num block format) = number (num_view block) format

abbrev pub items_view : List pieces.Piece → List Item
items_view all = map item_view all

abbrev pub said_view : held.Said → Said
said_view said = record { texts = said.texts; references = said.references; defined = said.defined; used = said.used }

-- what was read of a block, with what is said behind it: nothing is told of that behind a refusal
abbrev pub ReadsAs : Result pieces.Piece PatFault → held.Said → Result (Item × Said) PatFault → Type 0
ReadsAs (Ok one) said read = read ≡ Ok (item_view one, said_view said)
ReadsAs (Err fault) said read = read ≡ Err fault

-- the same of a reader that may want for memory, which is told apart
abbrev pub Reads : {E : Type 0} → Result (Result pieces.Piece PatFault) E → held.Said → Result (Item × Said) PatFault → Type 0
Reads result said due = IfOk result (λ read. ReadsAs read said due)

-- what was read of the numbers that a block uses, with those that are used behind it
abbrev pub SeenAs : Result (Option Format) PatFault → FinMap name_cmp ℤ
    → Result (Option Format × FinMap name_cmp ℤ) PatFault → Type 0
SeenAs (Ok seen) used read = read ≡ Ok (seen, used)
SeenAs (Err fault) used read = read ≡ Err fault

abbrev pub Sees : {E : Type 0} → Result (Result (Option Format) PatFault) E → FinMap name_cmp ℤ
    → Result (Option Format × FinMap name_cmp ℤ) PatFault → Type 0
Sees result used due = IfOk result (λ read. SeenAs read used due)

-- pieces, or a refusal
abbrev pub told_view : Result (List pieces.Piece) PatFault → Result (List Item) PatFault
told_view (Ok all) = Ok (items_view all)
told_view (Err fault) = Err fault

abbrev pub TellsAll : {E : Type 0} → Result (Result (List pieces.Piece) PatFault) E → Result (List Item) PatFault → Type 0
TellsAll result due = IfOk result (λ told. told_view told ≡ due)

-- what was read of a piece that says nothing of texts and numbers
abbrev pub OneAs : Result pieces.Piece PatFault → Result Item PatFault → Type 0
OneAs (Ok one) read = read ≡ Ok (item_view one)
OneAs (Err fault) read = read ≡ Err fault

abbrev pub ReadsOne : {E : Type 0} → Result (Result pieces.Piece PatFault) E → Result Item PatFault → Type 0
ReadsOne result due = IfOk result (λ read. OneAs read due)

-- what a parser told is so, unless memory ran out
abbrev pub Tells : (Result (List Item) PatFault → Type 0) → Result patterns.Pattern PatFail → Type 0
Tells Is (Ok pattern) = Is (Ok (items_view pattern.pieces))
Tells Is (Err NoMemory) = Unit {0}
Tells Is (Err (Bad fault)) = Is (Err fault)
