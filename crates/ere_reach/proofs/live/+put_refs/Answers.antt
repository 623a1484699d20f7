-- The numbers that an expression refers to are added to a list, and no others.
-- By the kind of the expression; the loop over parts says which numbers are still to come.
-- The hard part is to say the tree of each kind: equations of `view`.
use Rattle.std.proofs.Common.{◌≡◌, ◌↔◌, ◌⊎◌, ◌+◌, List, ◌∷◌, OnOk, drop, map, sym, ap, ◌∙◌, subst}
use Rattle.std.specs.List.{Contains}
use Rattle.std.proofs.lemmas.List.{drop_all, drop_more}
use Rattle.ere_places.proofs.TreesLemmas.{trees_in_map}
use Rattle.ere_tree.proofs.ViewLemmas.{view_Cat, view_Alt, view_Repeat, view_Group, view_Ref}
use Rattle.ere_tree.specs.Tree.{Tree, cat, alt, repeat, group, back, trees_of}
use Rattle.ere_tree.specs.View.{view}
use Rattle.ere_tree.specs.declared.ere.Ere.{Ere}
use Rattle.ere_reach.proofs.LiveLemmas.{nothing_left, passed}
use Rattle.ere_reach.specs.Refers.{HasMore, OneRefers, Refers}
use Rattle.ere_reach.proofs.live.+put_refs.Goals as goal

pub put_all_refs-loop-one-preserved : goal.put_all_refs-loop-one-preserved
put_all_refs-loop-one-preserved t c = λ n.
    let all = c.args.all.now in
    let i = c.loop-one.one-index in
    let one = c.one-item.result in
    let left : drop i all ≡ one ∷ drop (i + 1) all =
    drop_more all i one c.loop-one-test.true ∙ ap (λ (e : Ere). e ∷ drop (i + 1) all) (sym c.one-item.is) in
    passed (Contains c.loop-one.numbers.items n) (Contains c.put_refs.new.numbers.items n) (Refers (view one) n)
    (OneRefers (trees_of (map view (drop (i + 1) all))) n)
    (Contains c.args.numbers.now.items n ⊎ OneRefers (trees_of (map view all)) n)
    (subst (λ (es : List Ere). (Contains c.loop-one.numbers.items n ⊎ OneRefers (trees_of (map view es)) n)
    ↔ (Contains c.args.numbers.now.items n ⊎ OneRefers (trees_of (map view all)) n)) left (c.loop-one.invariant n))
    (c.in_ok-put_refs.ensures n)

pub put_all_refs-returns : goal.put_all_refs-returns
put_all_refs-returns t c = λ n.
    let all = c.args.all.now in
    let asked = Contains c.args.numbers.now.items n ⊎ OneRefers (trees_of (map view all)) n in
    nothing_left (Contains c.loop-one.numbers.items n) asked
    (subst (λ (es : List Ere). (Contains c.loop-one.numbers.items n ⊎ OneRefers (trees_of (map view es)) n) ↔ asked)
    (drop_all c.loop-one.one-index all c.loop-one-test.false) (c.loop-one.invariant n))

pub put_refs-returns-in-Cat : goal.put_refs-returns-in-Cat
put_refs-returns-in-Cat t c =
    let tree : cat (trees_of (map view c.as_slice.result.now)) ≡ view c.args.ere.now =
    ap (λ (es : List Ere). cat (trees_of (map view es))) c.as_slice.ensures
    ∙ sym (ap view c.in-Cat.is ∙ view_Cat c.in-Cat.parts ∙ ap cat (trees_in_map c.in-Cat.parts)) in
    subst (λ (u : Tree). OnOk c.put_all_refs.result
    (HasMore (Refers u) c.args.numbers.now.items c.put_all_refs.new.numbers.items)) tree c.put_all_refs.ensures

pub put_refs-returns-in-Alt : goal.put_refs-returns-in-Alt
put_refs-returns-in-Alt t c =
    let tree : alt (trees_of (map view c.as_slice-in-Alt.result.now)) ≡ view c.args.ere.now =
    ap (λ (es : List Ere). alt (trees_of (map view es))) c.as_slice-in-Alt.ensures
    ∙ sym (ap view c.in-Alt.is ∙ view_Alt c.in-Alt.choices ∙ ap alt (trees_in_map c.in-Alt.choices)) in
    subst (λ (u : Tree). OnOk c.put_all_refs-in-Alt.result
    (HasMore (Refers u) c.args.numbers.now.items c.put_all_refs-in-Alt.new.numbers.items)) tree
    c.put_all_refs-in-Alt.ensures

pub put_refs-returns-in-Repeat : goal.put_refs-returns-in-Repeat
put_refs-returns-in-Repeat t c =
    let tree : repeat (view c.deref.result.now) c.in-Repeat.least c.in-Repeat.most ≡ view c.args.ere.now =
    ap (λ e. repeat (view e) c.in-Repeat.least c.in-Repeat.most) c.deref.ensures
    ∙ sym (ap view c.in-Repeat.is ∙ view_Repeat c.in-Repeat.inner c.in-Repeat.least c.in-Repeat.most) in
    subst (λ (u : Tree). OnOk c.put_refs.result
    (HasMore (Refers u) c.args.numbers.now.items c.put_refs.new.numbers.items)) tree c.put_refs.ensures

pub put_refs-returns-in-Group : goal.put_refs-returns-in-Group
put_refs-returns-in-Group t c =
    let tree : group c.in-Group.number (view c.deref-in-Group.result.now) ≡ view c.args.ere.now =
    ap (λ e. group c.in-Group.number (view e)) c.deref-in-Group.ensures
    ∙ sym (ap view c.in-Group.is ∙ view_Group c.in-Group.number c.in-Group.inner) in
    subst (λ (u : Tree). OnOk c.put_refs-in-Group.result
    (HasMore (Refers u) c.args.numbers.now.items c.put_refs-in-Group.new.numbers.items)) tree
    c.put_refs-in-Group.ensures

pub put_refs-returns-in-Ref : goal.put_refs-returns-in-Ref
put_refs-returns-in-Ref t c =
    let tree : back c.in-Ref.number c.in-Ref.fold ≡ view c.args.ere.now =
    sym (ap view c.in-Ref.is ∙ view_Ref c.in-Ref.number c.in-Ref.fold) in
    subst (λ (u : Tree). OnOk c.put_number.result
    (HasMore (Refers u) c.args.numbers.now.items c.put_number.new.numbers.items)) tree c.put_number.ensures
