use Rattle.std.proofs.Common.{◌≡◌, ◌≤◌, ◌+◌, ◌-◌, ap, arith, drop, length, length-drop, rules, subst, take}
use Rattle.check_lines.specs.Suffix.{LiesWithin}
use Rattle.check_lines.proofs.CanonLemmas.{rest_of}
use Rattle.check_lines.proofs.suffix.named_suffix.Goals as goal

pub returns-in-Some-clause-lies : goal.returns-in-Some-clause-lies
returns-in-Some-clause-lies c =
    let text = c.args.text.now in
    let count = length c.row_of.result.suffix.now in
    let within : count ≤ length text = search rules in
    let long : count + length (take (length text - count) (drop count text)) ≡ length text =
    omega (arith, ap length (rest_of text count), length-drop count text, within) in
    c.closed_or_combined.ensures.lies (length text)
    (subst (λ n. LiesWithin n c.closed-in-Some.result) long c.closed-in-Some.ensures.lies)
