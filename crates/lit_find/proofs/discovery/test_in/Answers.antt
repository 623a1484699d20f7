use Rattle.lit_find.proofs.Names.{◌≡◌}
use Rattle.lit_find.proofs.FileLemmas.{test_made}
use Rattle.lit_find.proofs.discovery.test_in.Goals as goal

pub returns : goal.returns
returns c =
    let its = c.get-root.ensures in
    let view = c.suite.view_is in
    let same : c.get-root.result.now ≡ c.args.file.suite = cc in
    test_made c.args.file c.get-root.result.now c.as_slice-dir.result.now c.test_of.result c.requires same c.as_slice-dir.ensures
    c.test_of.ensures
