use Rattle.filecheck_tool.specs.Program.{joined}
use Rattle.filecheck_tool.proofs.NumberLemmas.{compiled_of}
use Rattle.filecheck_tool.proofs.ProgramLemmas.{patterns_lead}
use Rattle.filecheck_tool.proofs.program.parts_with.Goals as goal

pub returns-clause-value : goal.returns-clause-value
returns-clause-value c =
    patterns_lead c.args.file.now c.args.values c.in_ok-patterns.patterns (joined c.args.file.now c.begun.result)
    c.in_ok-patterns.ensures.value (c.begun.ensures.value c.args.file.now)

pub returns-clause-ready : goal.returns-clause-ready
returns-clause-ready c =
    c.begun.ensures.ready c.args.file.now
    (compiled_of c.args.file.now c.args.values.known c.in_ok-patterns.patterns c.in_ok-patterns.ensures.value
    c.in_ok-patterns.ensures.scannable)
