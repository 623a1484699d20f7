use Rattle.std.proofs.Common.{◌≡◌, ◌++◌, drop, map}
use Rattle.lit_dirs.specs.Tests.{tool_of}
use Rattle.lit_dirs.proofs.additions.tools_of.Given as goal

abbrev pub invariant-loop-tool : goal.invariant-loop-tool
invariant-loop-tool l = l.made ++ map (tool_of l.root) (drop l.tool-index l.tools) ≡ map (tool_of l.root) l.tools
