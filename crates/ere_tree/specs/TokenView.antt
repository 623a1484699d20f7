-- The token that a value of the type `Token` stands for.
use Rattle.std.specs.Prelude.{ℕ, Result, Ok, Err}
use Rattle.ere_tree.specs.View.{members_of}
use Rattle.ere_tree.specs.Token.{Atom, Token, byte, one_of, same_as, item, line_start, line_end, bar, open_group, close_group}
use Rattle.ere_tree.specs.declared.token.Atom as atoms
use Rattle.ere_tree.specs.declared.token.Atom.TheVariants as atom
use Rattle.ere_tree.specs.declared.token.Token as tokens
use Rattle.ere_tree.specs.declared.token.Token.TheVariants as token
use Rattle.ere_tree.specs.declared.fault.EreFault.{EreFault}

abbrev pub atom_view : atoms.Atom → Atom
atom_view (atom.Byte b) = byte b
atom_view (atom.OneOf one) = one_of one.negated (members_of one.members.bits)
atom_view (atom.SameAs number) = same_as number

abbrev pub token_view : tokens.Token → Token
token_view (token.Item one bound) = item (atom_view one) bound
token_view token.LineStart = line_start
token_view token.LineEnd = line_end
token_view token.Bar = bar
token_view token.OpenGroup = open_group
token_view (token.CloseGroup bound) = close_group bound

-- a token that was found, as it is told
abbrev pub as_token : Result (tokens.Token × ℕ) EreFault → Result (Token × ℕ) EreFault
as_token (Ok found) = Ok (token_view found.0, found.1)
as_token (Err refused) = Err refused
