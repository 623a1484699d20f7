-- What the code says of a line.
use Rattle.lit_directives.specs.Line.{Said, nothing, stop, directive}
use Rattle.lit_directives.specs.declared.line.Said as lines
use Rattle.lit_directives.specs.declared.line.Said.TheVariants as code

abbrev pub said_view : lines.Said → Said
said_view code.Nothing = nothing
said_view code.Stop = stop
said_view (code.Directive kind rest) = directive kind rest.now
