use Rattle.std.proofs.Common.{◌==◌, ◌∙◌, ap, sym, drop}
use Rattle.std.specs.List.{before_first}
use Rattle.opt_words.proofs.WordLemmas.{before_index, before_none}
use Rattle.opt_words.proofs.word.name_in.Goals as goal

pub returns-in-Some : goal.returns-in-Some
returns-in-Some c =
    c.split_at-in-Some.ensures.front
    ∙ before_index (λ byte. byte == 61) c.split_at.result.1.now c.in-Some.at (sym c.sign_at.ensures.value ∙ c.in-Some.is)
    ∙ ap (before_first (λ byte. byte == 61)) (c.split_at.ensures.back ∙ ap (λ n. drop n c.args.word.now) c.dashes.ensures)

pub returns-in-None : goal.returns-in-None
returns-in-None c =
    before_none (λ byte. byte == 61) c.split_at.result.1.now 0 (sym c.sign_at.ensures.value ∙ c.in-None.is)
    ∙ ap (before_first (λ byte. byte == 61)) (c.split_at.ensures.back ∙ ap (λ n. drop n c.args.word.now) c.dashes.ensures)
