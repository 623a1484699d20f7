use Rattle.std.proofs.Common.{◌≡◌, ℕ, List, ◌∷◌, map, sym, subst}
use Rattle.ere_tree.specs.Captures.{Captures}
use Rattle.ere_tree.specs.Tree.{alt, then, trees_of}
use Rattle.ere_tree.specs.View.{view}
use Rattle.ere_tree.specs.declared.ere.Ere.{Ere}
use Rattle.ere_dive.specs.Dive.{Does, DoesTask}
use Rattle.ere_dive.specs.declared.task.What.TheVariants.{Choices, Match}
use Rattle.ere_dive.proofs.DiveLemmas.{choice_first, choice_later, copied, pushed_last}
use Rattle.ere_dive.proofs.open.open_choices.Goals as goal

pub returns : goal.returns
returns c =
    let a = c.args in
    let s = a.site.text.now in
    let D = DoesTask s (Choices a.choices) in
    let t = view c.in-Some.first.now in
    let ts = trees_of (map view c.in-Some.others.now) in
    let is : a.choices.now ≡ c.in-Some.first.now ∷ c.in-Some.others.now = c.in-Some.ensures.cases.0 in
    let back = λ (p q : ℕ) (d e : Captures) (does : Does s (alt (then t ts)) p q d e).
    subst (λ (all : List Ere). Does s (alt (trees_of (map view all))) p q d e) (sym is) does in (
      pushed_last a.site D (Match c.in-Some.first) a.state c.push.new.self c.in_ok-push.ensures
          (λ q d e does. back a.state.place q d e (choice_first s t ts a.state.place q d e does)) c.requires.leads,
      pushed_last a.site D (Choices c.in-Some.others) c.in_ok-other.other c.push-2.new.self c.in_ok-push-2.ensures
          (λ q d e does. back c.in_ok-other.other.place q d e (choice_later s t ts c.in_ok-other.other.place q d e does))
          (copied a.site D a.state c.in_ok-other.other c.in_ok-other.ensures c.requires.leads),
    )
