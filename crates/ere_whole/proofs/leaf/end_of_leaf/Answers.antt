use Rattle.std.proofs.Common.{◌≡◌, ◌↔◌, ℕ, Bool, Some, IsTrue, ap, sym, ◌∙◌, subst, refl}
use Rattle.ere_tree.proofs.ViewLemmas.{view_Empty, view_Plain, view_Set, view_LineStart, view_LineEnd}
use Rattle.ere_tree.specs.Tree.{Tree, empty, plain, line_start, line_end}
use Rattle.ere_tree.specs.Derivation.{Spans}
use Rattle.ere_tree.specs.View.{view}
use Rattle.ere_places.proofs.LeafLemmas.{gives_some, empty_still, start_still, end_still, both_ways}
use Rattle.ere_places.proofs.ReachLemmas.{then_both, turned}
use Rattle.ere_whole.proofs.LeafLemmas.{window_of, inside, led, led_too}
use Rattle.ere_whole.proofs.leaf.end_of_leaf.Goals as goal

pub returns-in-Empty : goal.returns-in-Empty
returns-in-Empty c =
    let s = c.args.text.now in
    let p = c.args.place in
    subst (λ (t : Tree). (q : ℕ) → (Some p ≡ Some q) ↔ Spans s t p q) (sym (ap view c.in-Empty.is ∙ view_Empty))
    (gives_some (Spans s empty p) p ((led_too s empty p p).0 ((empty_still s (window_of s) p (inside s p c.requires.within) p).1 (refl, c.requires.within)))
    (λ q h. ((empty_still s (window_of s) p (inside s p c.requires.within) q).0 (led s empty p q h)).0))

pub returns-in-Plain : goal.returns-in-Plain
returns-in-Plain c =
    subst (λ (t : Tree). (q : ℕ) → (c.end_of_bytes.result ≡ Some q) ↔ Spans c.args.text.now t c.args.place q)
    (ap plain c.as_slice.ensures ∙ sym (ap view c.in-Plain.is ∙ view_Plain c.in-Plain.run'))
    c.end_of_bytes.ensures

pub returns-in-Set : goal.returns-in-Set
returns-in-Set c =
    subst (λ (t : Tree). (q : ℕ) → (c.end_of_set.result ≡ Some q) ↔ Spans c.args.text.now t c.args.place q)
    (sym (ap view c.in-Set.is ∙ view_Set c.in-Set.set)) c.end_of_set.ensures

pub returns-in-LineStart : goal.returns-in-LineStart
returns-in-LineStart c =
    let s = c.args.text.now in
    let p = c.args.place in
    subst (λ (t : Tree). (q : ℕ) → (c.stay.result ≡ Some q) ↔ Spans s t p q)
    (sym (ap view c.in-LineStart.is ∙ view_LineStart))
    (λ q. both_ways (c.stay.ensures q)
    (subst (λ (v : Bool). Spans s line_start p q ↔ ((q ≡ p) × IsTrue v)) (sym c.is_line_start.ensures)
    (then_both (turned (led_too s line_start p q))
    (start_still s (window_of s) p (inside s p c.requires.within) q))))

pub returns-in-LineEnd : goal.returns-in-LineEnd
returns-in-LineEnd c =
    let s = c.args.text.now in
    let p = c.args.place in
    subst (λ (t : Tree). (q : ℕ) → (c.stay-in-LineEnd.result ≡ Some q) ↔ Spans s t p q)
    (sym (ap view c.in-LineEnd.is ∙ view_LineEnd))
    (λ q. both_ways (c.stay-in-LineEnd.ensures q)
    (subst (λ (v : Bool). Spans s line_end p q ↔ ((q ≡ p) × IsTrue v)) (sym c.is_line_end.ensures)
    (then_both (turned (led_too s line_end p q))
    (end_still s (window_of s) p (inside s p c.requires.within) q))))
