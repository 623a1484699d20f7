use Rattle.std.proofs.Common.{◌≡◌, ◌++◌, length, take, drop, sym, ap, ◌∙◌, arith}
use Rattle.std.proofs.Math.Seq.{take-append_seam}
use Rattle.ere_tree.proofs.CapturesLemmas.{length-caps_of}
use Rattle.ere_tree.specs.Captures.{caps_of}
use Rattle.ere_refs.proofs.held.held_behind.Goals as goal

pub returns-clause-best : goal.returns-clause-best
returns-clause-best c = λ d is.
    let start = c.args.part.start in
    let now = c.set_captures.new.caps in
    let held = c.in_ok-held.held in
    let was : c.deref_mut.result.now ≡ c.args.caps.now = c.deref_mut.ensures.value ∙ c.in_ok-held.ensures.items in
    let same = ap length was in
    let b = c.in_ok-set_captures.ensures d (was ∙ is ∙ ap (caps_of start d) (sym same)) in
    let long : held.len ≡ length now =
    omega (
      arith,
      ap length b.4,
      length-caps_of start b.1 (length c.deref_mut.result.now),
      ap length c.deref_mut.ensures.value,
      held.ok,
    ) in (
      b.0,
      b.1,
      b.2,
      b.3,
      ap (λ n. take n (now ++ drop (length now) held.items)) long
          ∙ take-append_seam now (drop (length now) held.items)
          ∙ b.4
          ∙ ap (caps_of start b.1) same,
    )
