use Rattle.lit_find.proofs.Names.{List, map, ap, sym, subst, Parts, IsFirst, IsInside, place_of_entry, Place}
use Rattle.std.proofs.lemmas.List.Elements.{All-rest, All-same}
use Rattle.lit_find.proofs.KeyLemmas.{first_of}
use Rattle.lit_find.proofs.pending.Pending.pop.Goals as goal

pub invariant_of-self : goal.invariant_of-self
invariant_of-self c =
    All-same IsInside (map place_of_entry c.pop_first.new.self.entries) (map place_of_entry c.self.inside.held.entries)
    (ap (map place_of_entry) c.in_default.ensures.unchanged) c.self.invariant

pub invariant_of-self-in_err-path : goal.invariant_of-self-in_err-path
invariant_of-self-in_err-path c =
    All-rest IsInside (place_of_entry (c.in-Some.key, c.in-Some.suite)) (map place_of_entry c.pop_first.new.self.entries)
    (map place_of_entry c.self.inside.held.entries) (ap (map place_of_entry) c.in-Some.ensures.removal) c.self.invariant

pub invariant_of-self-2 : goal.invariant_of-self-2
invariant_of-self-2 c =
    All-rest IsInside (place_of_entry (c.in-Some.key, c.in-Some.suite)) (map place_of_entry c.pop_first.new.self.entries)
    (map place_of_entry c.self.inside.held.entries) (ap (map place_of_entry) c.in-Some.ensures.removal) c.self.invariant

pub returns : goal.returns
returns c =
    let new = map place_of_entry c.pop_first.new.self.entries in
    let first = first_of c.self.inside.held.entries c.pop_first.new.self.entries c.in-Some.key c.in-Some.suite
    c.in-Some.ensures.removal c.in-Some.ensures.all_above c.self.invariant in
    subst (λ (path : Parts). IsFirst c.args.self.now new (record { path = path; suite = c.in-Some.suite }))
    (sym c.in_ok-path.ensures)
    (subst (λ (old : List Place). IsFirst old new (place_of_entry (c.in-Some.key, c.in-Some.suite))) c.self.view_is first)
