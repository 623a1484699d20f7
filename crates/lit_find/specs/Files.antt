-- The tests of files.
-- Own rule: all of a test is told by the path of its file and its suite.
use Rattle.std.specs.Prelude.{◌≡◌, ◌≢◌, true, codes, [], ◌∷◌, ◌++◌, length, drop, map}
use Rattle.std.specs.List.{list_all}
use Rattle.tt_outside.specs.declared.test_data.Test.{Test}
use Rattle.tt_outside.specs.TreeMap.{is_part}
use Rattle.lit_paths.specs.Paths.{Parts, dir_of, inner_text_of, path_in, text_of}
use Rattle.lit_dirs.specs.Tests.{features_of, name_of, substitutions_of, temp_dir_of, tool_of, work_dir_of}
use Rattle.lit_dirs.proofs.NamedLemmas.{replacements_are_named}
use Rattle.lit_find.specs.declared.place.TestFile.{TestFile}

-- what a path has below the directory of its suite
abbrev pub below_of : TestFile → Parts
below_of file = drop (length file.suite.dir) (path_in file.path)

-- the file lies below the directory of its suite
pub record IsFiled (file : TestFile) : Type 0 where
  pub is : file.path ≡ text_of (file.suite.dir ++ below_of file)
  pub parts : list_all is_part (file.suite.dir ++ below_of file) ≡ true
  pub some : below_of file ≢ []

-- the test of a file
abbrev pub test_in : TestFile → Test
test_in file = record {
  name = file.suite.suite.name ++ codes " :: " ++ inner_text_of (below_of file);
  path = file.path;
  source_dir = text_of (file.suite.dir ++ dir_of (below_of file));
  work_dir = text_of (work_dir_of file.suite.dir file.suite.suite (below_of file));
  temp_dir = text_of (temp_dir_of file.suite.dir file.suite.suite (below_of file));
  temp = text_of (temp_dir_of file.suite.dir file.suite.suite (below_of file)
      ++ (name_of (below_of file) ++ codes ".tmp") ∷ []);
  features = features_of file.suite.suite (below_of file);
  substitutions = substitutions_of file.suite.suite (below_of file);
  tools = map (tool_of file.suite.dir) file.suite.suite.tools;
  environment = file.suite.suite.environment;
  named = replacements_are_named file.suite.suite (below_of file) file.suite.whole;
}
