-- Entries that are what a course asks, and what was answered.
-- Own rule: a request is asked only while the bytes kept before it and its own are together at most those that a test
-- keeps.
use Rattle.std.specs.Prelude.{◌≡◌, ◌+◌, ◌≤◌, ◌<◌, ℕ, true, List, [], ◌∷◌, ◌++◌}
use Rattle.tt_outside.specs.Fits.{fits}
use Rattle.tt_outside.specs.Gave.{Gave}
use Rattle.tt_outside.specs.declared.request.Entry.{Entry}
use Rattle.tt_outside.specs.declared.request.Request.{Request}
use Rattle.test_course.specs.Bytes.{MAX_KEPT, own_bytes, entry_bytes, kept_behind}
use Rattle.test_course.specs.Course.{Course, over, asks, after, behind}

-- this request is due
abbrev pub IsDue : {S E : Type 0} → Course S E → Request → Type 0
IsDue (over now end) due = ⊥
IsDue (asks now request next) due = due ≡ request

-- nothing more is asked, and it ended so
abbrev pub IsEnd : {S E : Type 0} → Course S E → E → Type 0
IsEnd (over now end) is = is ≡ end
IsEnd (asks now request next) is = ⊥

-- an entry is what a course asks where so many bytes are kept: its request is due and has room, and its reply fits it
abbrev pub IsAsked : {S E : Type 0} → ℕ → Course S E → Entry → Type 0
IsAsked kept course entry =
    IsDue course entry.request × (fits entry.request entry.reply ≡ true) × (kept + own_bytes entry.request ≤ MAX_KEPT)

-- and so are entries, one after the other
abbrev pub AreAsked : {S E : Type 0} → ℕ → Course S E → List Entry → Type 0
AreAsked kept course [] = Unit {0}
AreAsked kept course (entry ∷ entries) =
    IsAsked kept course entry × AreAsked (kept + entry_bytes entry) (after course entry.reply) entries

-- nothing more is asked: the course is over, or what is due has no room
abbrev pub IsOver : {S E : Type 0} → ℕ → Course S E → Type 0
IsOver kept (over now end) = Unit {0}
IsOver kept (asks now request next) = MAX_KEPT < kept + own_bytes request

-- Entries are what a course asks, up to where nothing more is asked.
pub record Follows {S E : Type 0} (kept : ℕ) (course : Course S E) (entries : List Entry) : Type 0 where
  pub asked : AreAsked kept course entries
  pub ends : IsOver (kept_behind kept entries) (behind course entries)

-- each entry was given to the test of this number, behind those before it
abbrev pub AreGiven : Gave → ℕ → List Entry → List Entry → Type 0
AreGiven gave number earlier [] = Unit {0}
AreGiven gave number earlier (entry ∷ entries) =
    gave number earlier entry.request entry.reply × AreGiven gave number (earlier ++ entry ∷ []) entries
