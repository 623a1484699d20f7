use Rattle.std.proofs.Common.{◌≡◌, List, ◌∷◌, map, sym, subst, refl, arith}
use Rattle.std.proofs.lemmas.List.{nil_from_length}
use Rattle.ere_tree.specs.Derivation.{Ways, DerivesAll, done}
use Rattle.ere_tree.specs.Tree.{trees_of}
use Rattle.ere_tree.specs.View.{view}
use Rattle.ere_tree.specs.declared.ere.Ere.{Ere}
use Rattle.ere_dive.specs.Dive.{Does, DoesTask}
use Rattle.ere_dive.specs.declared.task.What.TheVariants.{Match, Parts}
use Rattle.ere_dive.proofs.DiveLemmas.{gone_on, part_first, pushed, pushed_last}
use Rattle.ere_dive.proofs.open.open_parts.Goals as goal

pub returns : goal.returns
returns c =
    let a = c.args in
    let s = a.site.text.now in
    let t = view c.in-Some.first.now in
    let ts = trees_of (map view c.in-Some.others.now) in
    let is : a.parts.now ≡ c.in-Some.first.now ∷ c.in-Some.others.now = c.in-Some.ensures.cases.0 in
    pushed_last a.site (Does s t) (Match c.in-Some.first) c.push.new.self c.push-2.new.self c.in_ok-push-2.ensures
    (λ q d e does. does)
    (pushed a.site (Does s t) (DoesTask s (Parts a.parts)) (Parts c.in-Some.others) a.state c.push.new.self
    c.in_ok-push.ensures
    (λ q d e both. subst (λ (all : List Ere). (ws : Ways) × DerivesAll s (trees_of (map view all)) ws a.state.place q d e)
    (sym is) (part_first s t ts a.state.place q d e both)) c.requires.leads)

pub returns-in_default : goal.returns-in_default
returns-in_default c =
    let a = c.args in
    let s = a.site.text.now in
    let empty = nil_from_length a.parts.now c.in_default.ensures.cases in
    gone_on a.site (DoesTask s (Parts a.parts)) a.state a.state refl refl c.requires.leads.inside
    (λ d shows. subst (λ (all : List Ere). (ws : Ways)
    × DerivesAll s (trees_of (map view all)) ws a.state.place a.state.place d d) (sym empty)
    (done, (refl, omega (arith, c.requires.leads.inside, c.requires.fits.1), refl))) c.requires.leads
