use Rattle.std.proofs.Common.{◌≡◌, arith}
use Rattle.opt_words.proofs.ReadingLemmas.{tally_row, tally_plain}
use Rattle.opt_words.proofs.settings.Settings.add.Goals as goal

pub returns-then-given-clause-tally : goal.returns-then-given-clause-tally
returns-then-given-clause-tally g c = λ givens tally. tally_row g.row.N givens c.args.self.now c.args.given tally c.if-given.true

pub returns-else-given-clause-tally : goal.returns-else-given-clause-tally
returns-else-given-clause-tally g c = λ givens tally.
    let is : c.args.given.row ≡ g.row.N = omega arith in
    tally_plain g.row.N givens c.args.self.now c.args.given c.or-self.result tally is c.or-self.ensures
