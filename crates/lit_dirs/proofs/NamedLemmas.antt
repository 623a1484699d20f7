-- No replacement of a test has an empty name, since none of its suite has one. So each path has a test.
-- By the suite's invariant, over its own replacements and those of its parts, which are added one by one.
-- `test_there` is the long one: it writes the whole test down that is there.
use Rattle.std.proofs.Common.{◌≡◌, ◌<◌, ℕ, Bool, true, false, cond, List, [], ◌∷◌, ◌++◌, codes, length, map, refl}
use Rattle.std.specs.List.{All, flat_map}
use Rattle.std.proofs.lemmas.List.Elements.{All-nil, All-append, All-head, All-tail}
use Rattle.tt_outside.specs.declared.request.Pair.{Pair}
use Rattle.lit_suite.specs.declared.suite_file.Part.{Part}
use Rattle.lit_suite.specs.declared.suite_file.Suite.{Suite}
use Rattle.lit_suite.specs.Whole.{AreNamed, IsWhole}
use Rattle.tt_outside.specs.declared.test_data.Test.{Test}
use Rattle.lit_paths.specs.Paths.{Parts, dir_of, inner_text_of, text_of}
use Rattle.lit_dirs.specs.Tests.{IsTestOf, features_of, holds_path, name_of, parts_over, substitutions_of, temp_dir_of, tool_of, work_dir_of}

abbrev IsFull : Pair → Type 0
IsFull pair = 0 < length pair.name

abbrev added : List Part → List Pair
added parts = flat_map (λ part. part.substitutions) parts

one_more : (b : Bool) (part : Part) (parts : List Part) → AreNamed part.substitutions → AreNamed (added parts)
    → AreNamed (added (cond b (part ∷ parts) parts))
one_more true part parts h all = All-append IsFull part.substitutions (added parts) h all
one_more false part parts h all = all

parts_are_named : (parts : List Part) (below : Parts) → All (λ part. AreNamed part.substitutions) parts
    → AreNamed (added (parts_over parts below))
parts_are_named [] below h = All-nil IsFull
parts_are_named (part ∷ parts) below h =
    one_more (holds_path below part) part (parts_over parts below)
    (All-head (λ one. AreNamed one.substitutions) part parts h)
    (parts_are_named parts below (All-tail (λ one. AreNamed one.substitutions) part parts h))

pub replacements_are_named : (suite : Suite) (below : Parts) → IsWhole suite → AreNamed (substitutions_of suite below)
replacements_are_named suite below whole =
    All-append IsFull (added (parts_over suite.parts below)) suite.substitutions
    (parts_are_named suite.parts below whole.parts_named) whole.named

-- the test of a path, but with this name
abbrev test_with : (root : Parts) (suite : Suite) (below : Parts) (name : List ℕ) → IsWhole suite → Test
test_with root suite below name whole = record {
  name = name;
  path = text_of (root ++ below);
  source_dir = text_of (root ++ dir_of below);
  work_dir = text_of (work_dir_of root suite below);
  temp_dir = text_of (temp_dir_of root suite below);
  temp = text_of (temp_dir_of root suite below ++ (name_of below ++ codes ".tmp") ∷ []);
  features = features_of suite below;
  substitutions = substitutions_of suite below;
  tools = map (tool_of root) suite.tools;
  environment = suite.environment;
  named = replacements_are_named suite below whole;
}

-- some test has this name, and is that of a path if the name is
pub test_there : (root : Parts) (suite : Suite) (below : Parts) (name : List ℕ) → IsWhole suite
    → (test : Test) × (name ≡ test.name)
    × (name ≡ suite.name ++ codes " :: " ++ inner_text_of below → IsTestOf root suite below test)
test_there root suite below name whole = (
  test_with root suite below name whole,
  refl,
  λ is. record {
    named = is;
    file = refl;
    source = refl;
    work = refl;
    temps = refl;
    temporary = refl;
    features = refl;
    substitutions = refl;
    tools = refl;
    environment = refl;
  },
)
