use Rattle.std.proofs.Common.{◌≡◌, ◌-◌, ◌∙◌, ap, drop, length, take}
use Rattle.std.proofs.lemmas.List.{take_rest}
use Rattle.opt_words.specs.Step.{texts}
use Rattle.inner_answers.specs.Below.{core_asks}
use Rattle.inner_answers.proofs.KeptLemmas.{asked_as}
use Rattle.inner_answers.proofs.inside.Inside.asked.Goals as goal

pub returns : goal.returns
returns c =
    let kept = c.args.self.now in
    let words = c.as_slice.result.now in
    let cut : take (length words - kept.peeling.core) (drop kept.peeling.core words) ≡ drop kept.peeling.core kept.words =
    take_rest words kept.peeling.core ∙ ap (drop kept.peeling.core) c.as_slice.ensures in
    c.in_ok-requests.ensures
    ∙ (λ i. core_asks (texts (cut i)) (c.as_slice-dir.ensures i) (c.as_slice-env.ensures i) c.in-Spawn.input c.in-Spawn.limit)
    ∙ asked_as c.in-Spawn.words c.in-Spawn.dir c.in-Spawn.env c.in-Spawn.input c.in-Spawn.limit c.args.request.now c.in-Spawn.is kept
    c.requires
