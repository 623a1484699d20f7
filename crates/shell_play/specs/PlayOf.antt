-- What is left of a play, and what is due.
-- Own rule: what is due is what the course asks, or its end.
use Rattle.test_course.specs.Bytes.{IsLimited}
use Rattle.test_course.specs.Course.{over, asks}
use Rattle.test_course.specs.Entries.{IsDue, IsEnd}
use Rattle.shell_play.specs.Play.{PlayCourse}
use Rattle.shell_play.specs.Standing.{stands}
use Rattle.shell_play.specs.declared.play.Due.{Due}
use Rattle.shell_play.specs.declared.play.Due.TheVariants as due
use Rattle.shell_play.specs.declared.play.Play.{Play}

-- what is left of a play
abbrev pub course_of : Play → PlayCourse
course_of play = stands play.test.now play.told.items play.stage

-- this is due
abbrev pub Shows : PlayCourse → Due → Type 0
Shows course (due.Ask request) = IsDue course request
Shows course (due.Over end) = IsEnd course end

-- what is due asks for files and streams within the limit
abbrev pub DueIsLimited : Due → Type 0
DueIsLimited (due.Ask request) = IsLimited request
DueIsLimited (due.Over end) = Unit {0}

-- a request is due
abbrev pub Asks : PlayCourse → Type 0
Asks (over now end) = ⊥
Asks (asks now request next) = Unit {0}
