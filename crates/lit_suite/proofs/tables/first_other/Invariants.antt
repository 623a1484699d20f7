use Rattle.std.proofs.Common.{◌≡◌, map}
use Rattle.toml.specs.View.{members_view, table_view}
use Rattle.lit_suite.specs.Parts.{first_other, is_key_of}
use Rattle.lit_suite.proofs.tables.first_other.Given as goal

abbrev pub invariant-loop-key : goal.invariant-loop-key
invariant-loop-key l =
    first_other (is_key_of (map (λ one. one.now) l.keys)) (members_view l.key-iterator)
    ≡ first_other (is_key_of (map (λ one. one.now) l.keys)) (table_view l.table)
