use Rattle.std.proofs.Common.{◌&&◌, ◌==◌, get_or, sym, ◌∙◌, arith}
use Rattle.std.proofs.lemmas.Bool.{lt-ltb}
use Rattle.std.specs.List.{list_any}
use Rattle.ere_tree.specs.View.{members_of}
use Rattle.ere_tree.proofs.CaseLemmas.{is_among-bytes_passing}
use Rattle.ere_tree.specs.View.{has_bit}
use Rattle.ere_slow.proofs.slow.is_in_set_at.Goals as goal

pub returns-then-at-text : goal.returns-then-at-text
returns-then-at-text c =
    c.has.ensures.exact
    ∙ sym (is_among-bytes_passing (has_bit c.args.set.now.bits) (get_or c.args.text.now c.args.at 0)
    (omega (arith, c.type_inv.text c.args.at)))
    ∙ (λ k. sym (lt-ltb _ _ c.if-at-text.true) k && list_any (λ b. b == get_or c.args.text.now c.args.at 0)
    (members_of c.args.set.now.bits))
