use Rattle.std.proofs.Common.{◌≡◌, ◌≤◌, ◌+◌, ◌∙◌, sym, ap, subst, arith}
use Rattle.ere_match.proofs.StartsLemmas.{starts_first, starts_more, starts_past}
use Rattle.ere_match.proofs.line.Line.starts.Goals.{then-has+in_ok-put, else-has}
use Rattle.ere_match.proofs.line.Line.starts.Goals as goal

pub loop-before-init : goal.loop-before-init
loop-before-init c = record {
  starts = λ s t has.
      starts_first s t c.args.place c.args.self.now has c.in_ok-starts.starts c.in_ok-starts.ensures.places
      c.in_ok-starts.ensures.last c.in_ok-starts.ensures.high;
  last = c.in_ok-starts.ensures.last;
  high = c.in_ok-starts.ensures.high;
}

pub loop-before-preserved : goal.loop-before-preserved
loop-before-preserved c =
    let old = c.loop-before.invariant in
    let next = c.loop-before.before + 1 in
    let behind : next ≡ c.loop-before.starts.last + 1 = omega (arith, old.last) in
    let inside : next ≤ c.args.self.now.high = omega (arith, c.loop-before-test.true) in
    elim c.if-has.branch [
      | then-has+in_ok-put w ↦
          rw w.starts-is (record {
            starts = λ s t has.
                starts_more s t c.args.place c.args.self.now has c.loop-before.starts w.put.new.self next (old.starts s t has)
                old.high behind inside w.in_ok-put.ensures.places w.in_ok-put.ensures.last w.put.ensures.high;
            last = w.in_ok-put.ensures.last;
            high = w.put.ensures.high ∙ old.high;
          })
      | else-has w ↦
          rw w.starts-is (record {
            starts = λ s t has.
                starts_past s t c.args.place c.args.self.now has c.loop-before.starts w.pass.new.self next (old.starts s t has)
                behind inside (sym c.has.ensures ∙ w.if-has.false) w.pass.ensures.places w.pass.ensures.last
                w.pass.ensures.high;
            last = w.pass.ensures.last;
            high = w.pass.ensures.high ∙ old.high;
          })
    ]
