use Rattle.lit_find.proofs.Names.{◌∷◌, ◌++◌, ◌+◌, ◌<◌, [], length, map, take, drop, sym, ap, subst, ◌∙◌, arith, joined, IsCovered}
use Rattle.std.proofs.lemmas.List.{map_more}
use Rattle.lit_look.proofs.TreeLemmas.{leaves_on}
use Rattle.lit_find.proofs.AnswerLemmas.{words_refused}
use Rattle.lit_look.proofs.ListLemmas.{map_cut}
use Rattle.lit_find.proofs.finding.add_words.Goals as goal

pub returns-in-Err-clause-gives : goal.returns-in-Err-clause-gives
returns-in-Err-clause-gives g c = λ nodes told nested is.
    let base = c.args.base.now in
    let i = c.loop-text.text-index in
    let texts = c.args.texts.now in
    let early = map (joined base) (take i texts) in
    let later = map (joined base) (drop (i + 1) texts) in
    let word = c.as_slice-in-loop-text.ensures ∙ c.in_ok-word.ensures.path ∙ ap (joined base) c.as_slice.ensures in
    let within : i < length texts = omega arith in
    let covered = c.loop-text.invariant.covered nodes told nested is in
    words_refused nodes (map (joined base) texts) early later c.as_slice-in-loop-text.result.now c.loop-text.seen
    c.add_word.new.seen c.loop-text.walk c.add_word.new.walk c.in-Err.fault covered
    (map_cut (joined base) texts i c.text-item.result within c.text-item.is ∙ ap (λ one. early ++ one ∷ later) (sym word))
    (c.in-Err.ensures.gives nodes early (c.loop-text.invariant.tree.nodes ∙ told) nested covered)

pub loop-text-preserved : goal.loop-text-preserved
loop-text-preserved g c =
    let base = c.args.base.now in
    let i = c.loop-text.text-index in
    let texts = c.args.texts.now in
    let early = map (joined base) (take i texts) in
    let word = c.as_slice-in-loop-text.ensures ∙ c.in_ok-word.ensures.path ∙ ap (joined base) c.as_slice.ensures in
    let within : i < length texts = omega arith in
    let words = map_more (joined base) texts i c.text-item.result within
    ∙ ap (λ one. early ++ one ∷ []) (ap (joined base) (sym c.text-item.is) ∙ sym word) in
    record {
      tree = leaves_on c.loop-text.invariant.tree c.in-Ok.ensures.tree;
      covered = λ nodes told nested is.
          subst (λ all. IsCovered nodes all c.add_word.new.seen c.add_word.new.walk) (sym words)
          (c.in-Ok.ensures.gives nodes early (c.loop-text.invariant.tree.nodes ∙ told) nested
          (c.loop-text.invariant.covered nodes told nested is));
    }
