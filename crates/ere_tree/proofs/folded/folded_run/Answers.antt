use Rattle.std.proofs.Common.{◌≡◌, true, length, sym, ◌∙◌, true≢false, arith}
use Rattle.std.proofs.lemmas.Bool.Decides.{nat_tests}
use Rattle.std.proofs.lemmas.Result.{IfOk-weaker}
use Rattle.ere_tree.specs.Folded.{folded_run}
use Rattle.ere_tree.specs.Levels.{level_view, tree_of}
use Rattle.ere_tree.specs.View.{view}
use Rattle.ere_tree.proofs.FoldedLemmas.{run_more, run_over}
use Rattle.ere_tree.proofs.folded.folded_run.Goals as goal

pub loop-byte-preserved : goal.loop-byte-preserved
loop-byte-preserved c = run_more c.args.bytes.now c.loop-byte.byte-index (level_view c.loop-byte.level)
    (level_view c.add_byte.new.self) c.loop-byte-test.true c.in_ok-add_byte.ensures c.loop-byte.invariant

pub returns : goal.returns
returns c =
    let bytes = c.args.bytes.now in
    let some : length bytes ≡ 0 → ⊥ = λ none. let empty : c.is_empty.result ≡ true = grind (arith, nat_tests) in
    true≢false (sym empty ∙ c.if-is_empty.false) in
    IfOk-weaker c.finish.result (λ ere. view ere ≡ tree_of (level_view c.loop-byte.level))
    (λ made. view made ≡ folded_run bytes)
    (λ ere is. is ∙ run_over bytes c.loop-byte.byte-index (level_view c.loop-byte.level) c.loop-byte-test.false some
    c.loop-byte.invariant)
    c.finish.ensures
