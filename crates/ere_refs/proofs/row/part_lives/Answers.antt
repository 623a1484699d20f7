use Rattle.std.proofs.Common.{◌≡◌, ℕ, List, Vec, Global, ◌+◌, length, map, drop, sym, ap, ◌∙◌, subst, inl, inr, arith}
use Rattle.std.proofs.lemmas.List.{drop-map, length_push, length-map}
use Rattle.std.proofs.Math.Seq.{drop-length}
use Rattle.std.specs.List.{Contains}
use Rattle.ere_tree.specs.Tree.{Tree, trees_of}
use Rattle.ere_tree.specs.View.{view}
use Rattle.ere_refs.specs.Live.{reads_all}
use Rattle.ere_refs.proofs.RowLemmas.{pushed_at}
use Rattle.ere_refs.proofs.row.part_lives.Goals as goal

pub loop-stage-preserved : goal.loop-stage-preserved
loop-stage-preserved c =
    let old = c.loop-stage.lives.items in
    let new = c.push.new.self.items in
    let last = c.in_ok-live_from.field-0 in
    let stage = c.loop-stage.stage in
    let Q = Contains c.args.behind.now in
    let long = length_push old last in
    let count = c.loop-stage.invariant.count in
    record {
      count = ap length c.in_ok-push.ensures.items ∙ (let all : length old + 1 ≡ stage + 1 = omega (arith, count) in long ∙ all);
      lives = λ k one low is n read. elim (pushed_at old new last one k c.in_ok-push.ensures.items (omega (arith, low, count)) is) [
        | inl before ↦ c.loop-stage.invariant.lives k one (omega (arith, before.0, count)) before.1 n read
        | inr here ↦
            let at : k ≡ stage = here.0 ∙ count in
            subst (λ (v : Vec ℕ Global). Contains v.items n) (sym here.1)
            (c.in_ok-live_from.ensures n (subst (λ (us : List Tree). reads_all (trees_of us) Q n)
            (ap (λ m. drop m (map view c.args.parts.now)) at ∙ drop-map view stage c.args.parts.now
            ∙ ap (map view) (sym c.split_at.ensures.back)) read))
      ];
    }

pub returns-clause-lives : goal.returns-clause-lives
returns-clause-lives c = λ k one low is n read.
    let old = c.loop-stage.lives.items in
    let last = c.in_ok-from_slice.field-0 in
    let Q = Contains c.args.behind.now in
    let all = length c.args.parts.now in
    let count = c.loop-stage.invariant.count in
    let end : c.loop-stage.stage ≡ all = omega (arith, c.loop-stage-test.false, c.loop-stage.auto.stage-end) in
    elim (pushed_at old c.push-2.new.self.items last one k c.in_ok-push-2.ensures.items (omega (arith, low, count, end)) is) [
      | inl before ↦ c.loop-stage.invariant.lives k one (omega (arith, before.0, count)) before.1 n read
      | inr here ↦
          let at : k ≡ length (map view c.args.parts.now) = here.0 ∙ count ∙ end ∙ sym (length-map c.args.parts.now view) in
          subst (λ (v : Vec ℕ Global). Contains v.items n) (sym here.1)
          (subst (λ (xs : List ℕ). Contains xs n) (sym c.in_ok-from_slice.ensures.items)
          (subst (λ (us : List Tree). reads_all (trees_of us) Q n)
          (ap (λ m. drop m (map view c.args.parts.now)) at ∙ drop-length (map view c.args.parts.now)) read))
    ]

pub returns-clause-count : goal.returns-clause-count
returns-clause-count c =
    let all = length c.args.parts.now in
    let end : c.loop-stage.stage ≡ all = omega (arith, c.loop-stage-test.false, c.loop-stage.auto.stage-end) in
    let count = c.loop-stage.invariant.count in
    let long : length c.loop-stage.lives.items + 1 ≡ all + 1 = omega (arith, count, end) in
    ap length c.in_ok-push-2.ensures.items ∙ length_push c.loop-stage.lives.items c.in_ok-from_slice.field-0 ∙ long
