use Rattle.std.proofs.Common.{sym, subst, Result}
use Rattle.lit_directives.specs.Script.{IsScript, State, ended}
use Rattle.lit_directives.specs.declared.fault.ScriptFault.{ScriptFault}
use Rattle.lit_directives.proofs.JoinLemmas.{answer_joins}
use Rattle.lit_directives.proofs.ListLemmas.{answer_adds_up, answer_is_free}
use Rattle.lit_directives.proofs.script.read_script.Goals as goal

pub returns-in-Ok : goal.returns-in-Ok
returns-in-Ok c =
    let exact =
    subst (λ (r : Result State ScriptFault). IsScript c.finished.result (ended r)) (sym c.in-Ok.ensures) c.finished.ensures in
    record {
      exact = exact;
      runs = answer_joins c.args.bytes.now c.finished.result exact;
      lists = answer_adds_up c.args.bytes.now c.finished.result exact;
      no_refs = answer_is_free c.args.bytes.now c.finished.result exact;
    }
