use Rattle.std.proofs.Common.{◌≡◌, List, [], ◌∷◌, ◌++◌, ◌-◌, ◌+◌, true, length, map, refl, sym, ap, ◌∙◌, append_assoc, append-nil, false, subst, IfOk, arith}
use Rattle.std.proofs.lemmas.Bool.Decides.{nat_tests}
use Rattle.std.proofs.lemmas.List.{map-append}
use Rattle.ere_tree.specs.View.{view}
use Rattle.ere_tree.specs.Tree.{repeat}
use Rattle.ere_tree.proofs.ViewLemmas.{view_Repeat}
use Rattle.ere_slow.specs.Listing.{all_ways, all_at, required, at_most, go_on, begun_of, found_of}
use Rattle.ere_slow.proofs.ListingLemmas.{required_more, at_most_more, none_further}
use Rattle.ere_slow.proofs.slow.+ways.Goals as goal

pub rows_of_members-loop-preserved : goal.rows_of_members-loop-preserved
rows_of_members-loop-preserved t c =
    let more = all_ways c.args.origin.now.text.now (view c.args.inner.now) in
    ap (required more (c.args.least - (c.loop.counter + 1)))
    (c.in_ok-rows-2.ensures ∙ ap (λ rows. go_on true more (map begun_of rows)) c.as_slice.ensures.value)
    ∙ sym (required_more more c.args.least c.loop.counter (map begun_of c.loop.rows.items) c.loop-test.true)
    ∙ c.loop.invariant

pub rows_of_members-loop-2-preserved : goal.rows_of_members-loop-2-preserved
rows_of_members-loop-2-preserved t c =
    let more = all_ways c.args.origin.now.text.now (view c.args.inner.now) in
    let left = c.args.more - (c.loop-2.counter + 1) in
    let before = map begun_of c.loop-2.rows.items in
    let longer : map begun_of c.in_ok-longer.longer.items ≡ go_on false more before =
    c.in_ok-longer.ensures ∙ ap (λ rows. go_on false more (map begun_of rows)) c.as_slice-in-loop-2.ensures.value in
    let all : map begun_of c.append.new.self.items ≡ map begun_of c.loop-2.all.items ++ before =
    ap (map begun_of) c.in_ok-append.ensures.items ∙ map-append begun_of c.loop-2.all.items c.loop-2.rows.items in
    (λ n. all n ++ at_most more left (longer n))
    ∙ append_assoc (map begun_of c.loop-2.all.items) before (at_most more left (go_on false more before))
    ∙ ap (λ rest. map begun_of c.loop-2.all.items ++ rest)
    (sym (at_most_more more c.args.more c.loop-2.counter before c.loop-2-test.true))
    ∙ c.loop-2.invariant

nothing : {A : Type 0} (xs : List A) → length xs ≡ 0 → xs ≡ []
nothing [] none = refl
nothing (x ∷ xs) none = absurd (omega (arith, none))

pub rows_of_members-returns-then-is_empty : goal.rows_of_members-returns-then-is_empty
rows_of_members-returns-then-is_empty t c =
    let more = all_ways c.args.origin.now.text.now (view c.args.inner.now) in
    let left = c.args.more - c.loop-2.counter in
    let all = map begun_of c.loop-2.all.items in
    let empty : length c.loop-2.rows.items ≡ 0 =
    grind (arith, nat_tests, c.is_empty.ensures, c.if-is_empty.true, c.loop-2.rows.ok) in
    let none : at_most more left (map begun_of c.loop-2.rows.items) ≡ [] =
    ap (λ rows. at_most more left (map begun_of rows)) (nothing c.loop-2.rows.items empty) ∙ none_further more left in
    sym (append-nil all) ∙ ap (λ rest. all ++ rest) (sym none) ∙ c.loop-2.invariant

pub ways_of-returns-in-Repeat : goal.ways_of-returns-in-Repeat
ways_of-returns-in-Repeat t c =
    let tree : repeat (view c.deref.result.now) c.in-Repeat.least c.in-Repeat.most ≡ view c.args.ere.now =
    ap (λ inner. repeat (view inner) c.in-Repeat.least c.in-Repeat.most) c.deref.ensures
    ∙ sym (ap view c.in-Repeat.is ∙ view_Repeat c.in-Repeat.inner c.in-Repeat.least c.in-Repeat.most) in
    subst (λ tree. IfOk c.ways_of_repeat.result (λ found. map found_of found.items
    ≡ all_at c.args.origin.now tree)) tree c.ways_of_repeat.ensures
