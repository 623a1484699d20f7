use Rattle.std.proofs.Common.{length, ◌-◌, ◌≡◌, ◌≤◌, ◌+◌, [], drop, true}
use Rattle.num_exprs.specs.Place.{reading_from, wants}
use Rattle.num_exprs.specs.Token.{tokens_from}
use Rattle.num_exprs.specs.View.{place_view}
use Rattle.num_exprs.proofs.ReaderLemmas.{said}
use Rattle.num_exprs.proofs.reader.read_expr.Given as goal

abbrev pub invariant-loop-done : goal.invariant-loop-done
invariant-loop-done l = record {
  within : l.done ≤ length l.text;
  rest : said l.uses l.left (place_view l.place) (l.at + l.done) (drop l.done l.text)
      ≡ reading_from 250 (wants []) (tokens_from true l.at 0 l.text);
}

abbrev pub decreases-loop-done : goal.decreases-loop-done
decreases-loop-done l = length l.text - l.done
