use Rattle.std.proofs.Common.{◌≡◌, ◌≢◌, ◌++◌, [], sym, ap, ◌∙◌, codes}
use Rattle.lit_paths.specs.Paths.{cut, dir_of, inner_text_of, slashed}
use Rattle.lit_dirs.specs.Tests.{name_of, temp_of, work_dir_of}
use Rattle.lit_dirs.proofs.MadeLemmas.{below_text, cut_below, file_text, name_whole, same_features, same_substitutions, slashed_append}
use Rattle.lit_dirs.proofs.making.test_of.Goals as goal

pub returns : goal.returns
returns c = λ below is parts some.
    let root = c.args.root.now in
    let suite = c.args.suite.now in
    let inner : c.inner_text-inner.result.now ≡ inner_text_of below = c.inner_text-inner.ensures below
    (c.behind_path.ensures (slashed below) (c.as_slice.ensures ∙ below_text root below c.args.path is some)) in
    let pieces = c.cut_name.ensures (slashed root ++ slashed (dir_of below)) (name_of below)
    (c.as_slice-2.ensures ∙ file_text root below c.args.path is some) (name_whole below parts some) in
    let own : suite.parts ≢ [] → c.in_ok-below.below ≡ below =
    λ have. c.in_ok-below.ensures have ∙ ap cut inner ∙ cut_below below parts some in
    let work_dir = work_dir_of root suite below in
    let work : c.in_ok-work.work ≡ slashed work_dir = c.in_ok-work.ensures below pieces.0 in
    record {
      named = c.in_ok-full_name.ensures
          ∙ (λ i. c.as_slice-3.ensures i ++ codes " :: " ++ inner i);
      file = is;
      source = c.in_ok-whole_text.ensures (root ++ dir_of below)
          (c.in_ok-from_slice.ensures ∙ pieces.0 ∙ sym (slashed_append root (dir_of below)));
      work = c.in_ok-whole_text-2.ensures work_dir work;
      temps = c.in_ok-temp_dir_of.ensures work_dir (c.as_slice-4.ensures ∙ work);
      temporary = c.in_ok-temp_of.ensures work_dir (c.as_slice-5.ensures ∙ work)
          ∙ ap (temp_of work_dir) pieces.1;
      features = same_features suite c.as_slice-6.result.now below c.in_ok-features_of.field-0
          (λ have. c.as_slice-6.ensures ∙ own have) c.in_ok-features_of.ensures;
      substitutions = c.in_ok-substitutions_of.ensures ∙ same_substitutions suite c.as_slice-7.result.now below
          (λ have. c.as_slice-7.ensures ∙ own have);
      tools = c.in_ok-share.ensures ∙ c.requires.tools;
      environment = c.in_ok-share-2.ensures;
    }
