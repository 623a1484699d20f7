use Rattle.lit_find.proofs.Names.{◌≡◌, List, [], ◌∷◌, map, refl, ap, ◌∙◌, test_in, TestFile}
use Rattle.std.proofs.lemmas.Result.{IfOk-weaker}
use Rattle.lit_find.proofs.discovery.Discovery.names.Goals as goal

names_of : (files : List TestFile) → map (λ file. (test_in file).name) files ≡ map (λ test. test.name) (map test_in files)
names_of [] = refl
names_of (file ∷ files) = ap (λ names. (test_in file).name ∷ names) (names_of files)

pub returns : goal.returns
returns c =
    IfOk-weaker c.names_in.result (λ names. names ≡ map (λ file. (test_in file).name) c.as_slice.result.now)
    (λ names. names ≡ map (λ test. test.name) c.args.self.now)
    (λ names is. is ∙ ap (map (λ file. (test_in file).name)) c.as_slice.ensures.value
    ∙ names_of c.self.inside.files.items ∙ ap (map (λ test. test.name)) c.self.view_is) c.names_in.ensures
