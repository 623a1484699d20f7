-- What a run begins with.
-- Own rule: texts that are made are read as if only the check file were named.
use Rattle.std.specs.Prelude.{◌≤◌, ℕ, false, [], codes, Option, Some, None}
use Rattle.filecheck_words.specs.Checking.{HasNames}
use Rattle.filecheck_words.specs.Prefixes.{check_names, comment_names}
use Rattle.filecheck_words.specs.declared.checking.Asked.{Asked}
use Rattle.filecheck_words.specs.declared.checking.Input.TheVariants.{Standard}
use Rattle.filecheck_words.specs.declared.dumping.When.TheVariants.{Never}
use Rattle.filecheck_tool.specs.declared.start.Start.{Start}

-- what is asked of texts that are made
abbrev pub made_asked : Asked
made_asked = record {
  name = codes "<generate>";
  input = Standard;
  prefixes = record { checks = check_names; comments = comment_names };
  strict = false;
  allow_empty = false;
  allow_unused = false;
  full_lines = false;
  fold = false;
  var_scope = false;
  may_lack = false;
  implicit = [];
  defines = [];
  dump = record { when = Never; all = false; context = 5 };
}

-- what begins where a check file is read, and where one is made
abbrev pub start_with : Asked → Start
start_with asked = record { asked = asked; made = None }

abbrev pub start_made : ℕ → Start
start_made count = record { asked = made_asked; made = Some count }

-- the files that are asked for have names, or no more checks are made than there may be
abbrev pub CanBegin : Option ℕ → Asked → Type 0
CanBegin None asked = HasNames asked
CanBegin (Some count) asked = (1 ≤ count) × (count ≤ 20000)

abbrev pub IsStart : Start → Type 0
IsStart start = CanBegin start.made start.asked
