use Rattle.std.proofs.Common.{◌≡◌, ◌+◌, ◌≤◌, false, length, subst, arith}
use Rattle.std.proofs.lemmas.List.{take_all}
use Rattle.check_program.proofs.BodyLemmas.{implicit_here, implicit_length}
use Rattle.check_program.proofs.CompileLemmas.{next_fails, next_is, part_way_here}
use Rattle.check_program.specs.Compiled.{AreChecks, Body, implicit_bodies, implicit_body}
use Rattle.check_program.proofs.compiling.of_regions.Goals as goal

pub returns-in_default : goal.returns-in_default
returns-in_default c =
    let a = c.args in
    let l = c.loop-index in
    part_way_here a.opts.now a.lines a.known.now l.known (implicit_bodies 1 a.implicit.now) l.checks l.index l.invariant

pub returns-in-Err : goal.returns-in-Err
returns-in-Err c =
    let a = c.args in
    let l = c.loop-index in
    let body : Body = record { bytes = c.as_slice.result.now; demand = c.row_of.result.demand; literal = false; line = c.line_of.result } in
    let same : body ≡ implicit_body (1 + l.index) c.index-implicit-index.result =
    (λ n. record { bytes = c.as_slice.ensures n; demand = c.row_of.ensures.demand n; literal = false; line = c.line_of.ensures n }) in
    next_fails a.opts.now a.lines a.known.now l.known (implicit_bodies 1 a.implicit.now) l.checks l.index c.in-Some.number
    c.in-Some.ensures.1 body _ (implicit_here l.index 1 a.implicit.now c.index-implicit-index.result body
    c.loop-index-test.true c.index-implicit-index.is same) l.invariant c.in-Err.fail c.add_check.new.checks
    c.add_check.new.known c.in-Err.ensures

pub loop-index-preserved : goal.loop-index-preserved
loop-index-preserved c =
    let a = c.args in
    let l = c.loop-index in
    let body : Body = record { bytes = c.as_slice.result.now; demand = c.row_of.result.demand; literal = false; line = c.line_of.result } in
    let same : body ≡ implicit_body (1 + l.index) c.index-implicit-index.result =
    (λ n. record { bytes = c.as_slice.ensures n; demand = c.row_of.ensures.demand n; literal = false; line = c.line_of.ensures n }) in
    next_is a.opts.now a.lines a.known.now l.known (implicit_bodies 1 a.implicit.now) l.checks l.index c.in-Some.number
    c.in-Some.ensures.1 body _ (implicit_here l.index 1 a.implicit.now c.index-implicit-index.result body
    c.loop-index-test.true c.index-implicit-index.is same) l.invariant c.add_check.new.checks c.add_check.new.known
    c.in-Ok.ensures

pub returns : goal.returns
returns c =
    let a = c.args in
    let l = c.loop-index in
    let past : length (implicit_bodies 1 a.implicit.now) ≤ l.index =
    omega (arith, c.loop-index-test.false, implicit_length 1 a.implicit.now) in
    subst (λ front. AreChecks a.opts.now a.lines a.known.now front l.checks l.known)
    (take_all l.index (implicit_bodies 1 a.implicit.now) past) l.invariant
