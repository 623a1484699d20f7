use Rattle.std.proofs.Common.{◌≡◌, ℕ, suc, ◌+◌, ◌<◌, false, List, length, map, get_or, sym, subst, arith}
use Rattle.std.specs.List.{Contains}
use Rattle.ere_captures.proofs.WalkLemmas.{room_at}
use Rattle.ere_refs.proofs.OverLemmas.{nodes_at}
use Rattle.ere_refs.proofs.RowLemmas.{parts_next, refs_at}
use Rattle.ere_refs.specs.Course.{parts_behind}
use Rattle.ere_refs.specs.Machine.{NextFits}
use Rattle.ere_tree.specs.View.{view}
use Rattle.ere_refs.proofs.row.parts_follow.Goals as goal

pub returns-clause-fits : goal.returns-clause-fits
returns-clause-fits c = λ live are s p j at.
    let all = c.args.parts.now in
    let n = c.args.stage in
    let ere = c.index-parts-stage.result in
    let before = c.index-lives-stage.result in
    let behind = c.index-lives-stage-2.result in
    let low : n < length all = omega (arith, c.if-stage-parts.false) in
    let more : suc n ≡ n + 1 = omega arith in
    let Fits = λ (m : ℕ) (one other : List ℕ). NextFits s (parts_behind s (map view all) j) (Contains live) n p j (view ere) false m one
    other in
    let fits = parts_next all live c.args.lives.now are n ere before behind low c.index-parts-stage.is c.index-lives-stage.is
    (subst (λ m. behind ≡ get_or c.args.lives.now m behind) (sym more) c.index-lives-stage-2.is) s p j in
    subst (Fits (n + 1) c.as_slice.result.now) (sym c.as_slice-2.ensures.value)
    (subst (λ xs. Fits (n + 1) xs behind.items) (sym c.as_slice.ensures.value)
    (subst (λ m. Fits m before.items behind.items) more fits))

pub returns-clause-room : goal.returns-clause-room
returns-clause-room c = λ count fit.
    let low : c.args.stage < length c.args.parts.now = omega (arith, c.if-stage-parts.false) in (
      refs_at count c.args.parts.now c.args.stage c.index-parts-stage.result low c.index-parts-stage.is fit.0,
      room_at c.args.parts.now c.args.stage c.index-parts-stage.result count low c.index-parts-stage.is fit.1,
    )

pub returns-clause-small : goal.returns-clause-small
returns-clause-small c =
    nodes_at c.args.parts.now c.args.stage c.index-parts-stage.result (omega (arith, c.if-stage-parts.false)) c.index-parts-stage.is
