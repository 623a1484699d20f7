-- Ends are tried from the greatest down; the list before each try is that of no captures.
-- The loop says which ends were passed: those at which the expression without references has no end, or no way of the whole ends.
-- The hard one is `returns-in-Some`, where the length of that list is the number of groups.
use Rattle.std.proofs.Common.{◌≡◌, ℕ, ◌-◌, Option, List, [], true, length, sym, ap, ◌∙◌, subst, arith}
use Rattle.std.specs.FinMap.{empty}
use Rattle.std.specs.List.{Contains}
use Rattle.ere_tree.proofs.CapturesLemmas.{length-caps_of}
use Rattle.ere_tree.proofs.DerivationLemmas.{is_part}
use Rattle.ere_tree.specs.Captures.{caps_of}
use Rattle.ere_tree.specs.View.{view}
use Rattle.ere_tree.specs.declared.hit.Cap.{Cap}
use Rattle.ere_refs.specs.Lists.{IsFirst, ListsOver}
use Rattle.ere_refs.specs.Refers.{refs_fit}
use Rattle.ere_refs.proofs.TryingLemmas.{best_to, no_end, none_from, passed_more}
use Rattle.ere_refs.proofs.trying.try_from.Goals as goal
use Rattle.ere_refs.proofs.trying.try_from.Goals.{then-has+in_ok-take+in_ok-lists+in_default, else-has}

-- the length of a list in which nothing is set, and that it is one
count_is : (none now : List (Option Cap)) (count : ℕ) → now ≡ none → ((start : ℕ) → none ≡ caps_of start empty count)
    → length now ≡ count
count_is none now count same holds = ap length (same ∙ holds 0) ∙ length-caps_of 0 empty count

none_is : (none now : List (Option Cap)) (count start : ℕ) → now ≡ none
    → ((start : ℕ) → none ≡ caps_of start empty count) → now ≡ caps_of start empty (length now)
none_is none now count start same holds =
    same ∙ holds start ∙ ap (caps_of start empty) (sym (count_is none now count same holds))

pub over-requires-clause-room : goal.over-requires-clause-room
over-requires-clause-room c =
    let long = count_is c.in_ok-none.none.items c.as_slice.result.now c.groups.result c.as_slice.ensures.value
    c.in_ok-none.ensures in (
      subst (λ n. refs_fit n (view c.args.ere.now) ≡ true) (sym (long ∙ c.groups.ensures)) c.requires.refs,
      omega (arith, long, c.groups.ensures),
    )

pub returns-in-Some : goal.returns-in-Some
returns-in-Some c =
    let s = c.args.slice.now in
    let t = view c.args.ere.now in
    let span = c.args.span in
    let old = c.as_slice.result.now in
    let held = c.in-Some.held in
    let back = c.loop-back.back in
    let lists = c.in_ok-lists.lists.items in
    let long = count_is c.in_ok-none.none.items old c.groups.result c.as_slice.ensures.value c.in_ok-none.ensures in
    let first = subst (IsFirst lists) c.in-Some.is c.first_of.ensures in
    best_to s t c.args.start span.from span.to back (length old) old held first.0
    (record { to = span.to - back; groups = c.from_vec.result }) (long ∙ c.groups.ensures)
    (none_is c.in_ok-none.none.items old c.groups.result c.args.start c.as_slice.ensures.value c.in_ok-none.ensures)
    c.loop-back.invariant (omega arith)
    (subst (ListsOver s t c.args.start span.from (span.to - back) (length old) (Contains []) old) first.1
    c.in_ok-lists.ensures.0) c.from_vec.ensures

pub loop-back-preserved : goal.loop-back-preserved
loop-back-preserved c =
    let s = c.args.slice.now in
    let t = view c.args.ere.now in
    let span = c.args.span in
    let back = c.loop-back.back in
    passed_more s t span.from span.to back (omega (arith, c.requires.order, c.loop-back-test.true))
    c.loop-back.invariant
    (elim c.if-has.branch [
      | then-has+in_ok-take+in_ok-lists+in_default w ↦
          let old = w.as_slice.result.now in
          let lists = w.in_ok-lists.lists.items in
          let none = subst (IsFirst lists) w.in_default.is w.first_of.ensures in
          none_from s t c.args.start span.from (span.to - back) (length old) old empty
          (none_is c.in_ok-none.none.items old c.groups.result c.args.start w.as_slice.ensures.value c.in_ok-none.ensures)
          (subst (ListsOver s t c.args.start span.from (span.to - back) (length old) (Contains []) old) none
          w.in_ok-lists.ensures.0)
      | else-has w ↦
          no_end s t (view c.args.free.now) span.from span.to (span.to - back) c.in_ok-ends.ends.seen
          (λ i low. omega (arith, c.type_inv.slice i)) c.requires.spans c.in_ok-ends.ensures.are
          (sym c.has.ensures ∙ w.if-has.false) (omega arith)
    ])

pub returns : goal.returns
returns c = λ k v d high shows.
    c.loop-back.invariant k v d
    (omega (
      arith,
      c.requires.order,
      c.loop-back-test.false,
      (is_part c.args.slice.now (view c.args.ere.now) v c.args.span.from k empty d shows).0,
    )) high shows
