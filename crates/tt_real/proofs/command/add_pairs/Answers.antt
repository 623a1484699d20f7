use Rattle.std.proofs.Common.{◌+◌, ◌∷◌, sym, ap, ◌∙◌, drop}
use Rattle.std.proofs.lemmas.List.{drop_more}
use Rattle.std.specs.Process.{command_var}
use Rattle.tt_real.specs.Command.{said_by}
use Rattle.tt_real.proofs.CommandLemmas.{said_next}
use Rattle.tt_real.proofs.command.add_pairs.Goals as goal

pub loop-pair-preserved : goal.loop-pair-preserved
loop-pair-preserved c =
    let i = c.loop-pair.pair-index in
    let pairs = c.args.env.now in
    let pair = c.pair-item.result in
    let old = c.loop-pair.command in
    let set = c.in_ok-add_pair.ensures in
    let kept = c.loop-pair.invariant in
    record {
      vars = λ name.
          said_next (command_var old) (command_var c.add_pair.new.command) pair (drop (i + 1) pairs) name set.set set.others
          ∙ ap (λ rest. said_by rest name (command_var old name))
          (ap (λ x. x ∷ drop (i + 1) pairs) c.pair-item.is ∙ sym (drop_more pairs i pair c.loop-pair-test.true))
          ∙ kept.vars name;
      call = (set.call.0 ∙ kept.call.0, set.call.1 ∙ kept.call.1);
      clears = set.clears ∙ kept.clears;
    }
