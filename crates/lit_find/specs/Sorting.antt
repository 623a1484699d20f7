-- What a directory lists, for a walk.
-- After LLVM Command Guide, lit, 'TEST DISCOVERY'. Own rule: names are passed over by the suite of the directory.
use Rattle.std.specs.Prelude.{Bool, Some, ◌&&◌, if◌then◌else◌, List, [], ◌∷◌, ◌++◌}
use Rattle.std.specs.List.{fold}
use Rattle.tt_outside.specs.declared.tree.Item.{Item}
use Rattle.tt_outside.specs.declared.tree.ItemKind.{ItemKind}
use Rattle.tt_outside.specs.declared.tree.ItemKind.TheVariants.{File, Dir, Other}
use Rattle.tt_outside.specs.TreeMap.{is_part}
use Rattle.lit_look.specs.Suites.{rooted_at}
use Rattle.lit_look.specs.declared.root.SuiteRoot.{SuiteRoot}
use Rattle.lit_paths.specs.Paths.{Parts, text_of}
use Rattle.lit_find.specs.Discovery.{takes}
use Rattle.lit_find.specs.Files.{test_in}
use Rattle.lit_find.specs.Places.{path_order, put}
use Rattle.lit_find.specs.declared.walk.Walk.{Walk}

-- an item is a directory that is walked through, or a test
abbrev pub is_kept : SuiteRoot → Parts → Item → Bool
is_kept root dir item = is_part item.name && takes (Some (rooted_at root)) item.kind dir item.name

-- a walk with one more path: a directory is put among those before it, the test of a file among those found
abbrev pub with_path : SuiteRoot → ItemKind → Parts → Walk → Walk
with_path root Dir path walk = record {
  found = walk.found;
  walked = walk.walked;
  taken = walk.taken;
  pending = put path_order (record { path = path; suite = root }) walk.pending;
}
with_path root File path walk = record {
  found = walk.found ++ test_in (record { path = text_of path; suite = root }) ∷ [];
  walked = walk.walked;
  taken = walk.taken;
  pending = walk.pending;
}
with_path root Other path walk = walk

-- a walk with an item of a directory, and with some
abbrev pub with_item : SuiteRoot → Parts → Walk → Item → Walk
with_item root dir walk item =
    if is_kept root dir item then with_path root item.kind (dir ++ item.name ∷ []) walk else walk

abbrev pub with_items : SuiteRoot → Parts → Walk → List Item → Walk
with_items root dir = fold (with_item root dir)
