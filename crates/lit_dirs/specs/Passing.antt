-- Which names a walk passes over, and which files are tests.
-- After LLVM Command Guide, lit, 'TEST DISCOVERY', for suffixes and excludes. Own rule: each name that begins with `.`
-- is passed over, and so is `Output`; a suffix is compared with the whole path.
use Rattle.std.specs.Prelude.{ℕ, Bool, codes, ◌||◌, nat_eq, List}
use Rattle.std.specs.List.{ends_with, list_any}
use Rattle.std.specs.Str.{bytes_eq}
use Rattle.tt_base.specs.Occurrence.{begins_with}
use Rattle.lit_suite.specs.declared.suite_file.Suite.{Suite}

-- a name is passed over in a directory of this suite
abbrev pub is_passed : Suite → List ℕ → Bool
is_passed suite name =
    begins_with name (codes ".")
    || (bytes_eq name (codes "Output") || list_any (λ one. bytes_eq one name) suite.excludes)

-- a path ends in a suffix of this suite
abbrev pub has_suffix : Suite → List ℕ → Bool
has_suffix suite path = list_any (λ suffix. ends_with nat_eq path suffix) suite.suffixes
