use Rattle.std.proofs.Common.{◌∙◌, ◌∷◌, ◌++◌, [], sym, ap}
use Rattle.lit_paths.specs.Paths.{text_of}
use Rattle.lit_dirs.proofs.LookLemmas.{python_refuses, no_suite_is_there, suite_is_read, suite_is_refused}
use Rattle.lit_dirs.proofs.looking.look_in.Goals as goal

pub returns-in-Some-clause-gives : goal.returns-in-Some-clause-gives
returns-in-Some-clause-gives g c =
    python_refuses (g.T.Tree.nodes c.args.tree.now) c.args.dir.now c.args.items.now c.in-Some.name.now c.in_ok-path.path
    c.requires (sym c.in-Some.ensures)
    (c.in_ok-path.ensures ∙ ap (λ name. text_of (c.args.dir.now ++ name ∷ [])) c.as_bytes.ensures.value)

pub returns-then-not-has_suite_file-clause-gives : goal.returns-then-not-has_suite_file-clause-gives
returns-then-not-has_suite_file-clause-gives g c =
    no_suite_is_there (g.T.Tree.nodes c.args.tree.now) c.args.dir.now c.args.items.now c.requires
    (sym c.in_default.ensures) (sym c.has_suite_file.ensures ∙ c.if-not-has_suite_file.true)

pub returns-in-Ok-clause-gives : goal.returns-in-Ok-clause-gives
returns-in-Ok-clause-gives g c =
    suite_is_read (g.T.Tree.nodes c.args.tree.now) c.args.dir.now c.args.items.now c.in-Ok.suite c.requires (sym c.in_default.ensures) c.in-Ok.ensures.gives

pub returns-in-Err-clause-gives : goal.returns-in-Err-clause-gives
returns-in-Err-clause-gives g c =
    suite_is_refused (g.T.Tree.nodes c.args.tree.now) c.args.dir.now c.args.items.now c.in-Err.fault c.requires (sym c.in_default.ensures) (sym c.has_suite_file.ensures ∙ c.if-not-has_suite_file.false)
    c.in-Err.ensures.gives
