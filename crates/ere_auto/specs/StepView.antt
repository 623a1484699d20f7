-- What a step of a value of the type `NodeTable` promises.
use Rattle.std.specs.Prelude.{List}
use Rattle.ere_table.specs.Node.{node_at}
use Rattle.ere_table.specs.declared.table.NodeTable.{NodeTable}
use Rattle.ere_auto.specs.Step.{IsStep}
use Rattle.ere_auto.specs.declared.step.Around.{Around}
use Rattle.ere_auto.specs.declared.step.Note.{Note}
use Rattle.ere_auto.specs.declared.thread.Thread.{Thread}

-- the table makes the second list of the first, at a place with this around it, and the note tells the rest
abbrev pub IsStepOf : NodeTable → List Thread → List Thread → Around → Note → Type 0
IsStepOf table K L around note =
    IsStep (node_at table.nodes.items) table.entry K L around.line around.searching around.next note.begun note.met
