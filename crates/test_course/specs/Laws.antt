-- Laws of entries along a course.
use Rattle.std.specs.Prelude.{◌≡◌, ◌≤◌, ◌+◌, ◌*◌, ℕ, List, length}
use Rattle.tt_outside.specs.Gave.{Gave, IsSteady}
use Rattle.tt_outside.specs.declared.request.Entry.{Entry}
use Rattle.test_course.specs.Bytes.{AreLimited, LIMIT, MAX_KEPT, kept_behind}
use Rattle.test_course.specs.Course.{Course}
use Rattle.test_course.specs.Entries.{AreAsked, AreGiven, Follows}

-- Law: a steady crew gives at most one list of entries along a course.
abbrev pub IsOneList : (S E : Type 0) → Gave → Type 0
IsOneList S E gave = IsSteady gave → (number kept : ℕ) (course : Course S E) (earlier one other : List Entry)
    → AreGiven gave number earlier one → AreGiven gave number earlier other
    → Follows kept course one → Follows kept course other → one ≡ other

-- Law: a test has at most as many entries as it keeps bytes.
abbrev pub HasFewEntries : (S E : Type 0) → Type 0
HasFewEntries S E =
    (course : Course S E) (entries : List Entry) → AreAsked 0 course entries → length entries ≤ MAX_KEPT

-- Law: a test keeps at most 24 MiB, where each file and each stream has at most its limit.
abbrev pub HasFewBytes : (S E : Type 0) → Type 0
HasFewBytes S E = (course : Course S E) (entries : List Entry) → AreAsked 0 course entries → AreLimited entries
    → kept_behind 0 entries ≤ MAX_KEPT + 2 * LIMIT
