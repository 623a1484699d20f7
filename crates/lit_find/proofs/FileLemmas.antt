-- The tests of files.
-- Shown: a file in a directory of a suite lies below the suite's root, and its test is right. Idea: a text tells its path.
-- The hard one is `below`.
use Rattle.lit_find.proofs.Names.{◌≡◌, ◌≢◌, true, ℕ, List, [], ◌∷◌, ◌++◌, drop, length, Some, Result, IfOk, refl, sym, ap, ◌∙◌, subst, list_all, is_part, Test, Node, Parts, dir_of, path_in, text_of, LiesIn, nearest, rooted_at, SuiteRoot, IsTest, IsFiled, below_of, test_in, IsRight, TestFile}
use Rattle.std.proofs.Math.Seq.{drop-append_seam}
use Rattle.std.proofs.lemmas.Result.{IfOk-weaker}
use Rattle.tt_base.specs.declared.memory.NoMemory.{NoMemory}
use Rattle.tt_outside.proofs.EqualLemmas.{equal_tests}
use Rattle.lit_dirs.specs.Tests.{IsTestOf}
use Rattle.lit_find.proofs.PathLemmas.{dir_of_push, lies_push, name_behind, parts_push, parts_right, path_in_word}

-- a name in a directory that lies in that of a suite
module _ (root : SuiteRoot) (dir : Parts) (name text : List ℕ) (lies : LiesIn root.dir dir) (named : is_part name ≡ true)
    (is : text ≡ text_of (dir ++ name ∷ [])) where
  abbrev file : TestFile
  file = record { path = text; suite = root }

  below : below_of file ≡ lies.rest ++ name ∷ []
  below =
      let inside = lies_push root.dir dir name lies named in
      ap (drop (length root.dir)) (ap path_in is ∙ path_in_word (dir ++ name ∷ []) inside.parts (name_behind dir name) ∙ inside.is)
      ∙ drop-append_seam root.dir (lies.rest ++ name ∷ [])

  whole : root.dir ++ below_of file ≡ dir ++ name ∷ []
  whole = ap (λ path. root.dir ++ path) below ∙ sym (lies_push root.dir dir name lies named).is

  pub filed : IsFiled file
  filed = record {
    is = is ∙ ap text_of (sym whole);
    parts = ap (list_all is_part) whole ∙ parts_push dir name lies.parts named;
    some = λ none. name_behind lies.rest name (sym below ∙ none);
  }

  pub right_test : (nodes : List Node) (words : List Parts) → nearest nodes dir ≡ Some (rooted_at root)
      → IsTest nodes words (dir ++ name ∷ []) → IsRight nodes words (test_in file)
  right_test nodes words near test = record {
    rooted = rooted_at root;
    below = below_of file;
    parts = filed.parts;
    suite = ap (λ path. nearest nodes (dir_of path)) whole ∙ ap (nearest nodes) (dir_of_push dir name) ∙ near;
    passes = subst (IsTest nodes words) (sym whole) test;
    made = record {
      named = refl;
      file = filed.is;
      source = refl;
      work = refl;
      temps = refl;
      temporary = refl;
      features = refl;
      substitutions = refl;
      tools = refl;
      environment = refl;
    };
  }

-- what is made by the directory and the suite of a file is its test
pub test_made : (file : TestFile) (root : SuiteRoot) (dir : Parts) (made : Result Test NoMemory) → IsFiled file
    → root ≡ file.suite → dir ≡ root.dir
    → ((below : Parts) → file.path ≡ text_of (dir ++ below) → list_all is_part below ≡ true → below ≢ []
    → IfOk made (IsTestOf dir root.suite below)) → IfOk made (λ test. test ≡ test_in file)
test_made file root dir made is same at gives =
    let its : dir ≡ file.suite.dir = at ∙ ap (λ one. one.dir) same in
    IfOk-weaker made (IsTestOf dir root.suite (below_of file)) (λ test. test ≡ test_in file)
    (λ test right.
    let made = subst (λ (path : Parts). IsTestOf path file.suite.suite (below_of file) test) its
    (subst (λ (one : SuiteRoot). IsTestOf dir one.suite (below_of file) test) same right) in
    equal_tests test (test_in file) made.named (made.file ∙ sym is.is) made.source made.work made.temps made.temporary
    made.features made.substitutions made.tools made.environment)
    (gives (below_of file) (is.is ∙ ap (λ path. text_of (path ++ below_of file)) (sym its))
    (parts_right file.suite.dir (below_of file) is.parts) is.some)
