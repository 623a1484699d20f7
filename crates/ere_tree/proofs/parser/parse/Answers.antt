use Rattle.ere_tree.proofs.ParseLemmas.{read_in_grammar, grammar_is_read}
use Rattle.ere_tree.proofs.parser.parse.Goals as goal

pub returns-clause-found : goal.returns-clause-found
returns-clause-found c = read_in_grammar c.read_text.result c.args.fold c.args.bytes.now c.read_text.ensures

pub returns-clause-only : goal.returns-clause-only
returns-clause-only c = grammar_is_read c.read_text.result c.args.fold c.args.bytes.now c.read_text.ensures
