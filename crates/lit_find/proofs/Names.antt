-- What the lemmas of this crate speak of.
pub use Rattle.std.proofs.Common.{◌&&◌, ◌++◌, ◌+◌, ◌-◌, ◌<◌, ◌||◌, ◌∙◌, ◌∷◌, ◌≡◌, ◌≢◌, ◌≤◌, ◌⊎◌, [], All, ap, append-nil, append_assoc, arith, Bool, cond, drop, Err, false, IfOk, IfSome, inl, inr, length, length-append, List, map, MatchOption, None, not, Ok, OnErr, OnOk, Option, refl, Result, rules, Some, subst, sym, take, true, true≢false, ℕ}
pub use Rattle.std.specs.Cmp.{eq_by_cmp_equiv, IsTotalOrder}
pub use Rattle.std.specs.Cmp.Lexicographic.{on_texts, slice_cmp}
pub use Rattle.std.specs.List.{Any, Contains, count_by, dedup, find, list_all, list_any}
pub use Rattle.std.specs.Option.{option_map, unwrap_or}
pub use Rattle.std.specs.Ordering.{is_eq, is_lt, match_ordering, nat_cmp, ordering_then}
pub use Rattle.std.specs.Prelude.{Vec, ⊤}
pub use Rattle.std.specs.declared.cmp.Ordering.{Ordering}
pub use Rattle.std.specs.declared.cmp.Ordering.TheVariants.{Equal, Greater, Less}
pub use Rattle.lit_dirs.specs.Looks.{Counts, kind_of}
pub use Rattle.lit_dirs.specs.declared.fault.DiscoverFault.{DiscoverFault}
pub use Rattle.lit_dirs.specs.declared.fault.DiscoverFault.TheVariants.{Missing, NoTests, TooMany}
pub use Rattle.lit_find.specs.Discovery.{IsBelow, IsIn, IsLookedAt, IsTest, IsWalked, IsWay, LooksAt, start_at, start_of, takes}
pub use Rattle.lit_find.specs.Files.{below_of, IsFiled, test_in}
pub use Rattle.lit_find.specs.Found.{AnswersTo, AreTests, Discovers, IsInOrder, IsRight}
pub use Rattle.lit_find.specs.Places.{IsBefore, IsFirst, IsInside, parts_cmp, path_order, place_of_entry, put}
pub use Rattle.lit_find.specs.Refusals.{HasPlace, IsClear, IsDue, IsRefused, IsRefusedDown, RefusesWord, Stands}
pub use Rattle.lit_find.specs.Sorting.{is_kept, with_item, with_items, with_path}
pub use Rattle.lit_find.specs.Walk.{GivesWalk, GivesWord, GivesWords, has_text, HasPath, HasTest, IsAhead, IsCovered, IsDone, IsState, IsThrough, IsWalk, room, same_text, spent, Walked, Walks, was_walked, with_first}
pub use Rattle.lit_find.specs.declared.place.Place.{Place}
pub use Rattle.lit_find.specs.declared.place.TestFile.{TestFile}
pub use Rattle.lit_find.specs.declared.walk.Walk.{Walk}
pub use Rattle.lit_look.specs.Looks.{AreSeenUp, Extends, GivesLook, GivesNearest, IsAbsent, IsNumberOf, RefusesUp}
pub use Rattle.lit_look.specs.Seen.{AreSeen, count_items, Has, IsLook, RefusesNext}
pub use Rattle.lit_look.specs.Suites.{first_suite, LiesIn, looked_up, nearest, or_else, Rooted, rooted, rooted_at}
pub use Rattle.lit_look.specs.Trees.{Leaves, Told}
pub use Rattle.lit_look.specs.declared.root.SuiteRoot.{SuiteRoot}
pub use Rattle.lit_look.specs.declared.seen.Looked.{Looked}
pub use Rattle.lit_paths.specs.Paths.{dir_of, joined, Parts, path_in, slashed, text_of}
pub use Rattle.tt_outside.specs.TreeMap.{are_nested, is_part, kind_at, Lists, names_differ}
pub use Rattle.tt_outside.specs.declared.test_data.Test.{Test}
pub use Rattle.tt_outside.specs.declared.tree.Item.{Item}
pub use Rattle.tt_outside.specs.declared.tree.ItemKind.{ItemKind}
pub use Rattle.tt_outside.specs.declared.tree.ItemKind.TheVariants.{Dir, File, Other}
pub use Rattle.tt_outside.specs.declared.tree.Node.{Node}
