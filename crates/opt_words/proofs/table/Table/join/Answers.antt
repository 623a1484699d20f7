use Rattle.std.proofs.Common.{◌≡◌, ◌∙◌, sym, subst}
use Rattle.std.specs.Prelude.{Ok, Err}
use Rattle.opt_words.specs.Reading.{IsTally, behind, joined}
use Rattle.opt_words.specs.declared.fault.WordFault.TheVariants.{TwiceGiven}
use Rattle.opt_words.proofs.StepLemmas.{joins_once, joins_twice}
use Rattle.opt_words.proofs.table.Table.join.Goals as goal

pub returns-then-is_twice-clause-err : goal.returns-then-is_twice-clause-err
returns-then-is_twice-clause-err g c = λ before tally.
    subst (λ one. joined c.args.self.now.rows c.args.at before one ≡ Err (TwiceGiven c.args.at)) (sym c.in-Some.is)
    (joins_twice c.args.self.now.rows c.args.at before c.in-Some.given (sym (c.is_twice.ensures before tally) ∙ c.if-is_twice.true))

pub returns-else-is_twice-clause-ok : goal.returns-else-is_twice-clause-ok
returns-else-is_twice-clause-ok g c = λ before tally.
    subst (λ one. (joined c.args.self.now.rows c.args.at before one ≡ Ok (behind before one))
    × IsTally g.row.N (behind before one) c.add.new.self) (sym c.in-Some.is)
    (joins_once c.args.self.now.rows c.args.at before c.in-Some.given (sym (c.is_twice.ensures before tally) ∙ c.if-is_twice.false), c.add.ensures.tally before tally)
