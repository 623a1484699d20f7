-- The names of results are UTF-8, and an object has as many members as its map has entries.
use Rattle.std.proofs.Common.{◌≡◌, suc, List, [], ◌∷◌, length, refl, ap}
use Rattle.std.specs.Prelude.{String, codes}
use Rattle.std.specs.Str.{IsUtf8}
use Rattle.std.specs.declared.alloc.Global.{Global}
use Rattle.serde_json.specs.View.{members_view}
use Rattle.serde_json.specs.declared.value.Value.{Value}
use Rattle.test_outcome.specs.Outcome.{name_of}
use Rattle.test_outcome.specs.declared.outcome.Outcome.{Outcome}
use Rattle.test_outcome.specs.declared.outcome.Outcome.TheVariants.{Pass, Flakypass, Fail, Xfail, Xpass, Unsupported, Unresolved}
use Rattle.json_report.specs.Reading.{count_members}

pub names_are_text : (outcome : Outcome) → IsUtf8 (name_of outcome)
unfolding lib.Utf8.encode
names_are_text Pass = (codes "PASS", (refl, refl))
names_are_text Flakypass = (codes "FLAKYPASS", (refl, refl))
names_are_text Fail = (codes "FAIL", (refl, refl))
names_are_text Xfail = (codes "XFAIL", (refl, refl))
names_are_text Xpass = (codes "XPASS", (refl, refl))
names_are_text Unsupported = (codes "UNSUPPORTED", (refl, refl))
names_are_text Unresolved = (codes "UNRESOLVED", (refl, refl))

pub count_view : (entries : List (String Global × Value)) → count_members (members_view entries) ≡ length entries
count_view [] = refl
count_view (e ∷ more) = ap suc (count_view more)
