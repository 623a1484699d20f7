use Rattle.lit_find.proofs.Names.{◌≡◌, ◌++◌, ◌∷◌, [], ap, ◌∙◌, append-nil, text_of}
use Rattle.std.proofs.lemmas.Result.{IfOk-weaker}
use Rattle.lit_find.proofs.PathLemmas.{name_text}
use Rattle.lit_find.proofs.sorting.text_in.Goals as goal

pub returns : goal.returns
returns c = λ dir is.
    let front = c.args.front.now in
    let name = c.as_slice.result.now in
    IfOk-weaker c.chained.result (λ text. text ≡ front ++ (name ++ []))
    (λ text. text ≡ text_of (dir ++ c.args.item.now.name ∷ []))
    (λ text same. same ∙ ap (λ xs. front ++ xs) (append-nil name ∙ c.as_slice.ensures)
    ∙ name_text dir front c.args.item.now.name is) c.chained.ensures
