use Rattle.std.proofs.Common.{◌∙◌, ◌++◌, [], ◌∷◌, All, length, append_assoc, ap, subst, sym}
use Rattle.std.proofs.lemmas.List.Elements.{All-tail}
use Rattle.std.specs.Vec.Iter.{into_iter_items}
use Rattle.check_group.specs.Lies.{FaultLies}
use Rattle.filecheck_tool.specs.CheckFile.{IsNumber}
use Rattle.filecheck_tool.specs.Verdict.{findings_of}
use Rattle.filecheck_tool.proofs.verdict.findings_of.Goals as goal

pub loop-fault-preserved : goal.loop-fault-preserved
loop-fault-preserved c =
    let file = c.args.file.now in
    let input = c.args.input.now in
    let found = c.loop-fault.findings in
    let rest = into_iter_items c.next.new.self in
    let lies = FaultLies (IsNumber file) (length input) in
    let next = c.in-Some.ensures.steps.0 in
    record {
      lie = All-tail lies c.in-Some.fault rest (subst (All lies) next c.loop-fault.invariant.lie);
      told = ap (λ l. l ++ findings_of file input rest) c.in_ok-push.ensures.ok
          ∙ append_assoc found (c.in_ok-finding_of.field-0 ∷ []) (findings_of file input rest)
          ∙ ap (λ one. found ++ one ∷ findings_of file input rest) c.in_ok-finding_of.ensures
          ∙ ap (λ l. found ++ findings_of file input l) (sym next) ∙ c.loop-fault.invariant.told;
    }
