use Rattle.std.proofs.Common.{◌≡◌, ◌↔◌, ℕ, ◌≤◌, Bool, Some, IsTrue, length, ap, sym, ◌∙◌, subst, refl, arith}
use Rattle.ere_tree.proofs.ViewLemmas.{view_Empty, view_Plain, view_Set, view_LineStart, view_LineEnd}
use Rattle.ere_tree.specs.Tree.{Tree, plain, line_start, line_end}
use Rattle.ere_tree.specs.View.{view}
use Rattle.ere_places.specs.Places.{LeadsInside}
use Rattle.ere_places.proofs.LeafLemmas.{gives_some, empty_still, start_still, end_still, both_ways}
use Rattle.ere_places.proofs.leaf.past_leaf.Goals as goal

pub returns-in-Empty : goal.returns-in-Empty
returns-in-Empty c =
    let s = c.args.text.now in
    let p = c.args.place in
    let still = empty_still s c.args.window p c.requires.inside in
    let here : p ≤ length s = omega (arith, c.requires.inside.1, c.requires.window) in
    subst (λ (t : Tree). (q : ℕ) → (Some p ≡ Some q) ↔ LeadsInside s t c.args.window p q)
    (sym (ap view c.in-Empty.is ∙ view_Empty))
    (gives_some _ p ((still p).1 (refl, here)) (λ q r. ((still q).0 r).0))

pub returns-in-Plain : goal.returns-in-Plain
returns-in-Plain c =
    subst (λ (t : Tree). (q : ℕ) → (c.past_bytes.result ≡ Some q)
    ↔ LeadsInside c.args.text.now t c.args.window c.args.place q)
    (ap plain c.as_slice.ensures ∙ sym (ap view c.in-Plain.is ∙ view_Plain c.in-Plain.run'))
    c.past_bytes.ensures

pub returns-in-Set : goal.returns-in-Set
returns-in-Set c =
    subst (λ (t : Tree). (q : ℕ) → (c.past_set.result ≡ Some q)
    ↔ LeadsInside c.args.text.now t c.args.window c.args.place q)
    (sym (ap view c.in-Set.is ∙ view_Set c.in-Set.set)) c.past_set.ensures

pub returns-in-LineStart : goal.returns-in-LineStart
returns-in-LineStart c =
    subst (λ (t : Tree). (q : ℕ) → (c.stay.result ≡ Some q)
    ↔ LeadsInside c.args.text.now t c.args.window c.args.place q)
    (sym (ap view c.in-LineStart.is ∙ view_LineStart))
    (λ q. both_ways (c.stay.ensures q)
    (subst (λ (v : Bool). LeadsInside c.args.text.now line_start c.args.window c.args.place q
    ↔ ((q ≡ c.args.place) × IsTrue v)) (sym c.is_line_start.ensures)
    (start_still c.args.text.now c.args.window c.args.place c.requires.inside q)))

pub returns-in-LineEnd : goal.returns-in-LineEnd
returns-in-LineEnd c =
    subst (λ (t : Tree). (q : ℕ) → (c.stay-in-LineEnd.result ≡ Some q)
    ↔ LeadsInside c.args.text.now t c.args.window c.args.place q)
    (sym (ap view c.in-LineEnd.is ∙ view_LineEnd))
    (λ q. both_ways (c.stay-in-LineEnd.ensures q)
    (subst (λ (v : Bool). LeadsInside c.args.text.now line_end c.args.window c.args.place q
    ↔ ((q ≡ c.args.place) × IsTrue v)) (sym c.is_line_end.ensures)
    (end_still c.args.text.now c.args.window c.args.place c.requires.inside q)))
