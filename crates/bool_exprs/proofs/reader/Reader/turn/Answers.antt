use Rattle.std.proofs.Common.{◌≡◌, ℕ, ◌<◌, ◌≤◌, length, sym, ap, ◌∙◌}
use Rattle.std.specs.Option.{option_map}
use Rattle.bool_exprs.specs.Place.{after}
use Rattle.bool_exprs.specs.Token.{Token}
use Rattle.bool_exprs.specs.View.{found_view, reader_view, token_view}
use Rattle.bool_exprs.proofs.ReaderLemmas.{list_blank, list_next, list_stop, list_denied}
use Rattle.bool_exprs.proofs.reader.Reader.turn.Goals as goal

pub returns-then-begins_blank-clause-exact : goal.returns-then-begins_blank-clause-exact
returns-then-begins_blank-clause-exact c =
    list_blank c.args.xfail (reader_view c.args.self) c.args.rest.now (sym c.if-begins_blank.ensures.exact)

pub returns-in-None-clause-exact : goal.returns-in-None-clause-exact
returns-in-None-clause-exact c =
    list_stop c.args.xfail (reader_view c.args.self) c.args.rest.now (sym c.if-begins_blank.ensures.exact)
    (sym c.in_ok-token_at.ensures.exact ∙ ap (option_map found_view) c.in-None.is) c.requires

pub returns-in-None-2-clause-exact : goal.returns-in-None-2-clause-exact
returns-in-None-2-clause-exact c =
    let found : Token × ℕ = (token_view c.in-Some.token, c.in-Some.count) in
    let some : 0 < c.in-Some.count = rw c.in-Some.is at c.in_ok-token_at.ensures.some in
    let fits : c.in-Some.count ≤ length c.args.rest.now = rw c.in-Some.is at c.in_ok-token_at.ensures.within in
    let goes : option_map reader_view c.in_ok-after-in-Some.field-0 ≡ after (reader_view c.args.self) found.0 =
    c.in_ok-after-in-Some.ensures in
    list_denied c.args.xfail (reader_view c.args.self) c.args.rest.now found (sym c.if-begins_blank.ensures.exact)
    (sym c.in_ok-token_at.ensures.exact ∙ ap (option_map found_view) c.in-Some.is) c.requires some fits
    (sym goes ∙ ap (option_map reader_view) c.in-None-2.is)

pub returns-in-Some-2-clause-exact : goal.returns-in-Some-2-clause-exact
returns-in-Some-2-clause-exact c =
    let found : Token × ℕ = (token_view c.in-Some.token, c.in-Some.count) in
    let some : 0 < c.in-Some.count = rw c.in-Some.is at c.in_ok-token_at.ensures.some in
    let fits : c.in-Some.count ≤ length c.args.rest.now = rw c.in-Some.is at c.in_ok-token_at.ensures.within in
    let goes : option_map reader_view c.in_ok-after-in-Some.field-0 ≡ after (reader_view c.args.self) found.0 =
    c.in_ok-after-in-Some.ensures in
    list_next c.args.xfail (reader_view c.args.self) (reader_view c.in-Some-2.next) c.args.rest.now found
    (sym c.if-begins_blank.ensures.exact)
    (sym c.in_ok-token_at.ensures.exact ∙ ap (option_map found_view) c.in-Some.is) c.requires some fits
    (sym goes ∙ ap (option_map reader_view) c.in-Some-2.is)
