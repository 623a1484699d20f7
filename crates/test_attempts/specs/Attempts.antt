-- A test's attempts, end to end.
-- After LLVM Command Guide, lit, ALLOW_RETRIES. Own rules: an attempt began where it has an entry, and what is shown is
-- the last one that began.
use Rattle.std.specs.Prelude.{◌+◌, ℕ, zero, suc, []}
use Rattle.test_course.specs.Course.{Course, over, asks, followed}
use Rattle.shell_play.specs.Play.{PlayCourse, Shown}
use Rattle.shell_play.specs.declared.told.PlayEnd.{PlayEnd}
use Rattle.shell_play.specs.declared.told.PlayEnd.TheVariants.{Failed}

-- how many attempts began, and what the last of them shows
pub record Seen : Type 0 where
  pub attempts : ℕ
  pub last : Shown

abbrev pub AttemptsCourse : Type 0
AttemptsCourse = Course Seen PlayEnd

abbrev pub seen : ℕ → Shown → Seen
seen attempts last = record { attempts = attempts; last = last }

-- until its first request is answered an attempt hasn't begun
abbrev pub once_begun : Seen → AttemptsCourse → AttemptsCourse
once_begun before (over now end) = over now end
once_begun before (asks now request next) = asks before request next

-- behind an attempt's end
abbrev pub by_end : (Seen → AttemptsCourse) → ℕ → Shown → PlayEnd → AttemptsCourse
by_end again attempts last (Failed line status) = again (seen attempts last)
by_end again attempts last end = over (seen attempts last) end

-- the last attempt, and attempts of which one that failed is followed by another while some are left
abbrev pub attempts : PlayCourse → ℕ → ℕ → Seen → AttemptsCourse
attempts play zero begun before =
    once_begun before (followed (seen (begun + 1)) (λ last end. over (seen (begun + 1) last) end) play)
attempts play (suc left) begun before =
    once_begun before
    (followed (seen (begun + 1)) (by_end (attempts play left (begun + 1)) (begun + 1)) play)

abbrev pub nothing_seen : Seen
nothing_seen = seen 0 (record { told = []; began = 0 })

-- The attempts of a play that may be played again so often.
abbrev pub attempts_of : PlayCourse → ℕ → AttemptsCourse
attempts_of play retries = attempts play retries 0 nothing_seen
