use Rattle.std.proofs.Common.{ap, ◌∙◌, arith}
use Rattle.ere_tree.specs.Captures.{caps_of}
use Rattle.ere_tree.specs.View.{view}
use Rattle.ere_slow.specs.WayView.{captures_of}
use Rattle.ere_slow.proofs.SlowLemmas.{hit_within, hit_fits, hit_told}
use Rattle.ere_slow.proofs.slow.raised.Goals as goal

pub all_caps-requires : goal.all_caps-requires
all_caps-requires c = hit_fits c.args.slice.now (view c.args.ere.now) c.args.from c.args.start c.args.best.now.to
    (captures_of c.args.best.now.captures) c.requires.fits c.requires.hit

pub overflow_add-result : goal.overflow_add-result
overflow_add-result c =
    let lies = hit_within c.args.slice.now (view c.args.ere.now) c.args.start c.args.best.now.to
    (captures_of c.args.best.now.captures) c.requires.hit in
    omega (arith, lies.0, lies.1, c.requires.fits)

pub overflow_add-result-2 : goal.overflow_add-result-2
overflow_add-result-2 c =
    let lies = hit_within c.args.slice.now (view c.args.ere.now) c.args.start c.args.best.now.to
    (captures_of c.args.best.now.captures) c.requires.hit in
    omega (arith, lies.1, c.requires.fits)

pub returns : goal.returns
returns c = λ text same.
    hit_told text c.args.slice.now (view c.args.ere.now) c.args.from c.args.start c.args.best.now.to
    (captures_of c.args.best.now.captures) c.in_ok-groups.groups c.requires.hit
    (c.in_ok-groups.ensures ∙ ap (caps_of c.args.from (captures_of c.args.best.now.captures)) c.groups.ensures) same
