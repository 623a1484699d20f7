use Rattle.std.proofs.Common.{◌≡◌, take, true}
use Rattle.std.specs.List.{list_all}
use Rattle.std.specs.Str.{is_utf8}
use Rattle.opt_words.specs.Step.{texts}
use Rattle.inner_answers.proofs.peeling.texts_of.Given as goal

-- the words so far are texts
abbrev pub invariant-loop-word : goal.invariant-loop-word
invariant-loop-word l = record {
  value : texts l.list ≡ take l.word-index l.words;
  whole : list_all is_utf8 (take l.word-index l.words) ≡ true;
}
