use Rattle.std.proofs.Common.{◌≡◌, Some}
use Rattle.tt_outside.proofs.ListingLemmas.{Lists-listed}
use Rattle.tt_outside.specs.TreeMap.{kind_at}
use Rattle.tt_outside.specs.declared.tree.ItemKind.TheVariants.{Dir}
use Rattle.tt_outside.proofs.mem_tree.list_dir.Goals as goal

pub returns-in-Ok-clause-gives : goal.returns-in-Ok-clause-gives
returns-in-Ok-clause-gives c =
    let here : kind_at c.args.nodes.now c.args.dir.now ≡ Some Dir = cc (c.in-Ok-Some-Dir.ensures) in
    rw c.in-Ok.ensures (Lists-listed c.args.nodes.now c.args.dir.now here)
