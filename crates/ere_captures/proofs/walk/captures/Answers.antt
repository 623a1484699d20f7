-- The list begins with nothing held, the walk sets the captures of a best way, and the list is handed out.
-- The list before the walk is that of no captures, of as many groups as the expression has.
-- The hard one is `returns`, where the lengths of the list before and behind the walk meet.
use Rattle.std.proofs.Common.{◌≡◌, ℕ, ◌+◌, ◌++◌, ◌∷◌, [], None, List, Option, length, take, drop, sym, ap, ◌∙◌, subst, arith}
use Rattle.std.proofs.Math.Seq.{take-append_seam}
use Rattle.std.specs.FinMap.{empty, get-empty}
use Rattle.std.specs.Option.{option_map}
use Rattle.std.specs.Ordering.{nat_cmp}
use Rattle.ere_tree.specs.Captures.{cap_of, caps_of}
use Rattle.ere_tree.specs.Shape.{greatest_group}
use Rattle.ere_tree.specs.View.{view}
use Rattle.ere_tree.specs.declared.hit.Cap.{Cap}
use Rattle.ere_tree.proofs.CapturesLemmas.{caps_of-more, length-caps_of}
use Rattle.ere_captures.proofs.walk.captures.Goals as goal

none_held : (start n : ℕ) → cap_of start empty n ≡ None
none_held start n = ap (option_map (λ part. record { from = start + part.0; to = start + part.1 })) (get-empty nat_cmp n)

pub loop-preserved : goal.loop-preserved
loop-preserved c =
    c.in_ok-push.ensures.items
    ∙ ap (λ (xs : List (Option Cap)). xs ++ None ∷ []) c.loop.invariant
    ∙ ap (λ (one : Option Cap). caps_of c.args.start empty c.loop.counter ++ one ∷ [])
    (sym (none_held c.args.start (c.loop.counter + 1)))
    ∙ sym (caps_of-more c.args.start empty c.loop.counter)

pub walk-requires-clause-room : goal.walk-requires-clause-room
walk-requires-clause-room c =
    let held = c.deref_mut.ensures.value ∙ c.loop.invariant in
    omega (
      arith,
      ap length held,
      length-caps_of c.args.start empty c.loop.counter,
      c.loop-test.false,
      c.groups-end.ensures,
    )

pub returns : goal.returns
returns c =
    let start = c.args.start in
    let t = view c.args.ere.now in
    let was = c.deref_mut.result.now in
    let now = c.walk.new.caps in
    let held : was ≡ caps_of start empty c.loop.counter = c.deref_mut.ensures.value ∙ c.loop.invariant in
    let count : length was ≡ c.loop.counter = ap length held ∙ length-caps_of start empty c.loop.counter in
    let full : length was ≡ greatest_group t =
    omega (arith, count, c.loop-test.false, c.loop.auto.counter-end, c.groups-end.ensures) in
    let best = c.in_ok-walk.ensures empty (subst (λ n. was ≡ caps_of start empty n) (sym count) held) in
    let long : c.loop.caps.len ≡ length now =
    omega (
      arith,
      ap length best.4,
      length-caps_of start best.1 (length was),
      ap length c.deref_mut.ensures.value,
      c.loop.caps.ok,
    ) in
    let is : c.from_vec.result ≡ now =
    c.from_vec.ensures
    ∙ ap (λ n. take n (now ++ drop (length now) c.loop.caps.items)) long
    ∙ take-append_seam now (drop (length now) c.loop.caps.items) in
    record {
      way = best.0;
      captures = best.1;
      shows = best.2;
      best = best.3;
      are = is ∙ best.4 ∙ ap (caps_of start best.1) full;
    }
