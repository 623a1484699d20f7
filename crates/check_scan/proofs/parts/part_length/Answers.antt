use Rattle.std.proofs.Common.{rules, take, drop, arith}
use Rattle.std.proofs.lemmas.List.{length-take, take-append-drop}
use Rattle.check_scan.specs.Parts.{IsDag}
use Rattle.check_scan.proofs.PartLemmas.{part_alone, part_dags}
use Rattle.check_scan.proofs.parts.part_length.Goals as goal

pub returns-then-is_dag-clause-some : goal.returns-then-is_dag-clause-some
returns-then-is_dag-clause-some c =
    let checks = c.args.checks.now in
    let n = c.dag_count.result in
    let dag : IsDag c.in-Some.check.now = search (rules, c.if-is_dag.ensures) in
    let run = part_dags checks (take n checks) (drop n checks) c.in-Some.field-0-1.now c.in-Some.check.now (take-append-drop n checks)
    c.in-Some.ensures.cases.0 dag c.dag_count.ensures.dags c.dag_count.ensures.rest in
    omega (arith, run.0, length-take n checks)

pub returns-then-is_dag-clause-part : goal.returns-then-is_dag-clause-part
returns-then-is_dag-clause-part c =
    let checks = c.args.checks.now in
    let n = c.dag_count.result in
    let dag : IsDag c.in-Some.check.now = search (rules, c.if-is_dag.ensures) in
    (part_dags checks (take n checks) (drop n checks) c.in-Some.field-0-1.now c.in-Some.check.now (take-append-drop n checks)
    c.in-Some.ensures.cases.0 dag c.dag_count.ensures.dags c.dag_count.ensures.rest).1

pub returns-else-is_dag-clause-part : goal.returns-else-is_dag-clause-part
returns-else-is_dag-clause-part c =
    let other : IsDag c.in-Some.check.now → ⊥ = search (rules, c.if-is_dag.ensures) in
    part_alone c.args.checks.now c.in-Some.field-0-1.now c.in-Some.check.now c.in-Some.ensures.cases.0 other c.requires
