use Rattle.std.proofs.Common.{Ok}
use Rattle.mini_shell.proofs.LineLemmas.{line_read}
use Rattle.mini_shell.proofs.SentenceLemmas.{line_said}
use Rattle.mini_shell.proofs.UniqueLemmas.{reading_is_one}
use Rattle.mini_shell.proofs.laws.law_of_lines.Goals as goal

pub returns : goal.returns
returns c = record {
  read = line_read;
  said = line_said;
  one = λ text line other a b.
      let same = reading_is_one text (Ok line) (Ok other) (line_read text line a) (line_read text other b) in
      cc;
}
