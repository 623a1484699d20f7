-- Bodies of lines, and behind them implicit ones: both are compiled, or one of them fails.
use Rattle.std.proofs.Common.{◌≡◌, ◌+◌, ◌++◌, length, map, ◌∙◌, arith}
use Rattle.std.proofs.lemmas.List.{length-map}
use Rattle.check_program.proofs.CompileLemmas.{all_behind, checks_length, fails_behind, fails_whole, part_way_all}
use Rattle.check_program.proofs.ReadyLemmas.{program_scannable}
use Rattle.check_program.specs.Compiled.{bodies_of, body_of, implicit_bodies}
use Rattle.check_program.specs.Names.{names_once}
use Rattle.check_program.proofs.compiling.compile.Goals as goal

pub returns-in-Err-of_regions-clause-compiled : goal.returns-in-Err-of_regions-clause-compiled
returns-in-Err-of_regions-clause-compiled c =
    let a = c.args in
    let bodies = map (body_of a.text.now) a.directives.now in
    let at : length a.directives.now ≡ 0 + length bodies =
    omega (arith, length-map a.directives.now (body_of a.text.now)) in
    fails_whole a.opts.now (length a.directives.now) a.known.now c.of_regions.new.known _ c.in-Err-of_regions.fail
    (fails_behind a.opts.now 0 a.known.now c.of_lines.new.known c.of_regions.new.known bodies
    (implicit_bodies 1 a.implicit.now) c.in-Ok.checks (length a.directives.now) at c.in-Ok.ensures
    c.in-Err-of_regions.fail c.in-Err-of_regions.ensures)

pub returns-in-Ok-names_of-clause-compiled : goal.returns-in-Ok-names_of-clause-compiled
returns-in-Ok-names_of-clause-compiled c =
    let a = c.args in
    let bodies = map (body_of a.text.now) a.directives.now in
    let at : length a.directives.now ≡ 0 + length bodies =
    omega (arith, length-map a.directives.now (body_of a.text.now)) in
    record {
      compiled = all_behind a.opts.now 0 a.known.now c.of_lines.new.known c.of_regions.new.known bodies
          (implicit_bodies 1 a.implicit.now) c.in-Ok.checks (length a.directives.now) at c.in-Ok.ensures
          c.in-Ok-of_regions.always c.in-Ok-of_regions.ensures;
      lines = checks_length a.opts.now 0 a.known.now bodies c.in-Ok.checks c.of_lines.new.known c.in-Ok.ensures
          ∙ length-map a.directives.now (body_of a.text.now);
      names = c.in-Ok-names_of.ensures ∙ (λ n. names_once (c.as_slice.ensures n ++ c.as_slice-2.ensures n));
    }

pub returns-in-Ok-names_of-clause-scannable : goal.returns-in-Ok-names_of-clause-scannable
returns-in-Ok-names_of-clause-scannable c =
    let a = c.args in
    program_scannable a.opts.now (length a.directives.now) a.known.now c.of_regions.new.known
    (bodies_of a.text.now a.directives.now a.implicit.now) _ (returns-in-Ok-names_of-clause-compiled c)

pub returns-in-Err-names_of-clause-compiled : goal.returns-in-Err-names_of-clause-compiled
returns-in-Err-names_of-clause-compiled c =
    let a = c.args in
    let bodies = map (body_of a.text.now) a.directives.now in
    let at : length a.directives.now ≡ 0 + length bodies =
    omega (arith, length-map a.directives.now (body_of a.text.now)) in
    part_way_all a.opts.now 0 a.known.now c.of_regions.new.known (bodies_of a.text.now a.directives.now a.implicit.now) _
    (all_behind a.opts.now 0 a.known.now c.of_lines.new.known c.of_regions.new.known bodies
    (implicit_bodies 1 a.implicit.now) c.in-Ok.checks (length a.directives.now) at c.in-Ok.ensures
    c.in-Ok-of_regions.always c.in-Ok-of_regions.ensures)
