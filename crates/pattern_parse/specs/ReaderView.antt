-- What is read by a reader: by its formats, its case and whether the body is that of a label.
-- Own form, so that each clause names the reader alone.
use Rattle.std.specs.FinMap.{get}
use Rattle.std.specs.Prelude.{ℕ, List, Result}
use Rattle.pattern_parse.specs.Block.{Said, block_read}
use Rattle.pattern_parse.specs.Cut.{Ending, Raw}
use Rattle.pattern_parse.specs.Item.{Item}
use Rattle.pattern_parse.specs.PieceView.{said_view}
use Rattle.pattern_parse.specs.Pieces.{items_from, nothing_said, raw_read}
use Rattle.pattern_parse.specs.declared.block.Reader.{Reader}
use Rattle.pattern_parse.specs.declared.fault.PatFault.{PatFault}
use Rattle.pattern_parse.specs.declared.said.Said as held

-- a block at an offset, where the pieces before it said so much
abbrev pub block_by : Reader → held.Said → ℕ → List ℕ → Result (Item × Said) PatFault
block_by reader said at bytes = block_read reader.fold (get reader.known.now) (said_view said) at bytes

-- a piece at an offset
abbrev pub raw_by : Reader → held.Said → ℕ → Raw → Result (Item × Said) PatFault
raw_by reader said at raw = raw_read reader.fold (get reader.known.now) reader.label (said_view said) at raw

-- the pieces of a body
abbrev pub items_by : Reader → List Raw → Ending → Result (List Item) PatFault
items_by reader raws ending = items_from reader.fold (get reader.known.now) reader.label nothing_said 0 raws ending
