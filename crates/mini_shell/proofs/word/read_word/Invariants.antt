use Rattle.std.proofs.Common.{length, ◌-◌, ◌≡◌, ◌≤◌, drop}
use Rattle.mini_shell.specs.Word.{word_at, word_from}
use Rattle.mini_shell.specs.declared.word.Quoting.TheVariants.{Bare}
use Rattle.mini_shell.proofs.word.read_word.Given as goal

abbrev pub invariant-loop-at : goal.invariant-loop-at
invariant-loop-at l = record {
  onward : l.from ≤ l.at;
  within : l.at ≤ length l.text;
  started : l.at ≡ l.from → l.word.quoting ≡ Bare;
  rest : word_from l.word l.at (drop l.at l.text) ≡ word_at l.from (drop l.from l.text);
}

abbrev pub decreases-loop-at : goal.decreases-loop-at
decreases-loop-at l = length l.text - l.at
