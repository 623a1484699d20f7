use Rattle.std.proofs.Common.{◌≡◌, List, map, sym, ap, ◌∙◌, subst}
use Rattle.ere_places.proofs.TreesLemmas.{trees_in_map}
use Rattle.ere_tree.proofs.ViewLemmas.{view_Alt, view_Cat, view_Group, view_Ref, view_Repeat}
use Rattle.ere_tree.specs.Derivation.{parts}
use Rattle.ere_tree.specs.Tree.{Tree, alt, back, cat, group, repeat, trees_of}
use Rattle.ere_tree.specs.View.{view}
use Rattle.ere_tree.specs.declared.ere.Ere.{Ere}
use Rattle.ere_dive.specs.Dive.{Does, DoesTask, LeadsBy}
use Rattle.ere_dive.specs.declared.task.What.TheVariants.{Parts}
use Rattle.ere_dive.proofs.DiveLemmas.{weaker}
use Rattle.ere_dive.proofs.open.open_match.Goals as goal

pub open_parts-requires-clause-leads : goal.open_parts-requires-clause-leads
open_parts-requires-clause-leads c =
    let a = c.args in
    let s = a.site.text.now in
    let tree : cat (trees_of (map view c.as_slice.result.now)) ≡ view a.ere.now =
    ap (λ (xs : List Ere). cat (trees_of (map view xs))) c.as_slice.ensures
    ∙ sym (ap view c.in-Cat.is ∙ view_Cat c.in-Cat.parts ∙ ap cat (trees_in_map c.in-Cat.parts)) in
    weaker a.site (DoesTask s (Parts c.as_slice.result)) (Does s (view a.ere.now)) a.state
    (λ q d e does. subst (λ (t : Tree). Does s t a.state.place q d e) tree (parts does.0, does.1)) c.requires.leads

pub open_choices-requires : goal.open_choices-requires
open_choices-requires c =
    let a = c.args in
    let tree : view a.ere.now ≡ alt (trees_of (map view c.as_slice-in-Alt.result.now)) =
    ap view c.in-Alt.is ∙ view_Alt c.in-Alt.choices ∙ ap alt (trees_in_map c.in-Alt.choices)
    ∙ sym (ap (λ (xs : List Ere). alt (trees_of (map view xs))) c.as_slice-in-Alt.ensures) in
    record { leads = subst (λ (t : Tree). LeadsBy a.site (Does a.site.text.now t) a.state) tree c.requires.leads }

pub open_members-requires-clause-leads : goal.open_members-requires-clause-leads
open_members-requires-clause-leads c =
    let a = c.args in
    let tree : view a.ere.now ≡ repeat (view c.deref.result.now) c.in-Repeat.least c.in-Repeat.most =
    ap view c.in-Repeat.is ∙ view_Repeat c.in-Repeat.inner c.in-Repeat.least c.in-Repeat.most
    ∙ ap (λ (x : Ere). repeat (view x) c.in-Repeat.least c.in-Repeat.most) (sym c.deref.ensures) in
    subst (λ (t : Tree). LeadsBy a.site (Does a.site.text.now t) a.state) tree c.requires.leads

pub open_group-requires : goal.open_group-requires
open_group-requires c =
    let a = c.args in
    let tree : view a.ere.now ≡ group c.in-Group.number (view c.deref-in-Group.result.now) =
    ap view c.in-Group.is ∙ view_Group c.in-Group.number c.in-Group.inner
    ∙ ap (λ (x : Ere). group c.in-Group.number (view x)) (sym c.deref-in-Group.ensures) in
    record { leads = subst (λ (t : Tree). LeadsBy a.site (Does a.site.text.now t) a.state) tree c.requires.leads }

pub open_reference-requires-clause-leads : goal.open_reference-requires-clause-leads
open_reference-requires-clause-leads c =
    let a = c.args in
    let tree : view a.ere.now ≡ back c.in-Ref.number c.in-Ref.fold =
    ap view c.in-Ref.is ∙ view_Ref c.in-Ref.number c.in-Ref.fold in
    subst (λ (t : Tree). LeadsBy a.site (Does a.site.text.now t) a.state) tree c.requires.leads
