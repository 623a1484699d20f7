use Rattle.std.proofs.Common.{◌≡◌, ◌++◌, IfOk, codes, subst}
use Rattle.lit_paths.specs.Paths.{inner_text_of, slashed}
use Rattle.lit_dirs.proofs.MadeLemmas.{below_text}
use Rattle.lit_dirs.proofs.making.name_of.Goals as goal

pub returns : goal.returns
returns c = λ below is some.
    let inner : c.inner_text-inner.result.now ≡ inner_text_of below = c.inner_text-inner.ensures below
    (c.behind_path.ensures (slashed below) (below_text c.args.root.now below c.args.path.now is some)) in
    subst (λ text. IfOk c.full_name.result (λ name. name ≡ text)) (λ i. c.as_slice.ensures i ++ codes " :: " ++ inner i)
    c.full_name.ensures
