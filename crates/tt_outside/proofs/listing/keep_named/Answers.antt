use Rattle.std.proofs.Common.{rules, ◌≡◌, ◌∙◌, ap, map, filter}
use Rattle.std.proofs.lemmas.Fn.{filter_same}
use Rattle.tt_outside.specs.TreeMap.{is_named}
use Rattle.tt_outside.proofs.listing.keep_named.Goals as goal

pub returns : goal.returns
returns c =
    let kept : c.retain.new.self.items ≡ filter (is_named (map (λ name. name.now) c.args.names.now)) c.into_vec-items.result.items =
    filter_same _ _ _ (λ x b f' k. search rules) _ _ c.retain.ensures.filtered in
    c.from_vec.ensures ∙ kept ∙ ap (filter (is_named (map (λ name. name.now) c.args.names.now))) c.into_vec-items.ensures
