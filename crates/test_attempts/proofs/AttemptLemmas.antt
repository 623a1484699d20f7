-- Attempts end to end: an attempt's entries are asked along its play, and so along the attempts.
-- An attempt begins with its first entry; one without an entry leaves all as it was, and one that failed is followed by the next.
-- The hard one is `again`, an attempt behind others.
use Rattle.std.proofs.Common.{◌≡◌, ◌≢◌, ◌+◌, ◌≤◌, ◌^◌, ◌⊎◌, inl, inr, ℕ, zero, suc, true, false, List, [], ◌∷◌, ◌++◌, length, append-nil, refl, sym, ap, subst, ◌∙◌, arith}
use Rattle.tt_outside.specs.Gave.{Gave}
use Rattle.tt_outside.specs.declared.request.Entry.{Entry}
use Rattle.tt_outside.specs.declared.request.Request.{Request}
use Rattle.tt_outside.specs.declared.request.Reply.{Reply}
use Rattle.test_course.specs.Bytes.{capped, kept_behind}
use Rattle.test_course.specs.Course.{over, asks, behind, followed, shown}
use Rattle.test_course.specs.Entries.{AreAsked, AreGiven}
use Rattle.test_course.specs.Played.{IsFull, Played}
use Rattle.test_course.proofs.PlayedLemmas.{played_followed, played_trans}
use Rattle.shell_play.specs.Play.{PlayCourse, Shown}
use Rattle.shell_play.specs.declared.told.PlayEnd.{PlayEnd}
use Rattle.shell_play.specs.declared.told.PlayEnd.TheVariants.{Passed, Failed, Unresolved}
use Rattle.test_attempts.specs.Attempts.{AttemptsCourse, Seen, seen, once_begun, by_end, attempts}
use Rattle.test_attempts.specs.Ends.{Ends, is_failed}
use Rattle.test_attempts.specs.declared.attempt.AttemptStop.{AttemptStop}
use Rattle.test_attempts.specs.declared.attempt.AttemptStop.TheVariants.{Ended, TooMuch}

-- behind the end of an attempt, where so many more are left
abbrev pub by_left : PlayCourse → ℕ → ℕ → Shown → PlayEnd → AttemptsCourse
by_left play zero begun last end = over (seen begun last) end
by_left play (suc left) begun last end = by_end (attempts play left begun) begun last end

attempts_are : (play : PlayCourse) (left begun : ℕ) (before : Seen)
    → attempts play left begun before ≡ once_begun before (followed (seen (begun + 1)) (by_left play left (begun + 1)) play)
attempts_are play zero begun before = refl
attempts_are play (suc left) begun before = refl

-- ---- one attempt more

played_begun : (gave : Gave) (number : ℕ) (earlier entries : List Entry) (start : ℕ) (course : AttemptsCourse) (kept : ℕ)
    (rest : AttemptsCourse) (before : Seen) (more : List Entry) → more ≢ [] → entries ≡ earlier ++ more
    → AreAsked start course more → AreGiven gave number earlier more → rest ≡ behind course more
    → kept ≡ capped (kept_behind start more)
    → Played gave number earlier entries start (once_begun before course) kept rest
played_begun gave number earlier entries start course kept rest before [] some whole asked given leads counted =
    absurd (some refl)
played_begun gave number earlier entries start (over s end) kept rest before (x ∷ xs) some whole asked given leads counted =
    absurd asked.0.0
played_begun gave number earlier entries start (asks s r n) kept rest before (x ∷ xs) some whole asked given leads counted =
    record { more = x ∷ xs; whole = whole; asked = asked; given = given; leads = leads; counted = counted }

grown : (entries later more : List Entry) → later ≡ entries ++ more → length later ≢ length entries → more ≢ []
grown entries later more e differ none = differ (rw e (rw none (ap length (append-nil entries))))

-- an attempt that began, behind others
pub again : (gave : Gave) (number : ℕ) (earlier entries later : List Entry) (start : ℕ) (course : AttemptsCourse)
    (kept : ℕ) (play : PlayCourse) (left begun : ℕ) (before : Seen) (after_kept : ℕ) (rest : PlayCourse)
    → Played gave number earlier entries start course kept (attempts play left begun before)
    → Played gave number entries later kept play after_kept rest → length later ≢ length entries
    → Played gave number earlier later start course after_kept
    (followed (seen (begun + 1)) (by_left play left (begun + 1)) rest)
again gave number earlier entries later start course kept play left begun before after_kept rest p q differ =
    let goes : AttemptsCourse = followed (seen (begun + 1)) (by_left play left (begun + 1)) play in
    let left_there : AttemptsCourse = followed (seen (begun + 1)) (by_left play left (begun + 1)) rest in
    let along : Played gave number entries later kept goes after_kept left_there =
    played_followed (seen (begun + 1)) (by_left play left (begun + 1)) gave number entries later kept play after_kept rest q in
    let began : Played gave number entries later kept (once_begun before goes) after_kept left_there =
    played_begun gave number entries later kept goes after_kept left_there before along.more
    (grown entries later along.more along.whole differ) along.whole along.asked along.given along.leads along.counted in
    let up_to : Played gave number earlier entries start course kept (once_begun before goes) =
    subst (λ c. Played gave number earlier entries start course kept c) (attempts_are play left begun before) p in
    played_trans gave number earlier entries later start course kept (once_begun before goes) after_kept left_there up_to
    began

-- an attempt that is the last one
pub last_one : (play rest : PlayCourse) (left begun kept : ℕ) (stop : AttemptStop) → (left ≡ 0) ⊎ (is_failed stop ≡ false)
    → Ends rest stop → IsFull kept rest
    → IsFull kept (followed (seen begun) (by_left play left begun) rest)
    × Ends (followed (seen begun) (by_left play left begun) rest) stop
    × (shown (followed (seen begun) (by_left play left begun) rest) ≡ seen begun (shown rest))
last_one play (over s end) zero begun kept (Ended is) which e f = (tt, e, refl)
last_one play (over s (Failed line status)) (suc left) begun kept (Ended is) which e f =
    absurd (elim which [ inl zeroes ↦ absurd (omega arith) | inr calm ↦ absurd (cc (rw e at calm)) ])
last_one play (over s Passed) (suc left) begun kept (Ended is) which e f = (tt, e, refl)
last_one play (over s Unresolved) (suc left) begun kept (Ended is) which e f = (tt, e, refl)
last_one play (over s end) left begun kept TooMuch which e f = absurd e
last_one play (asks s r n) left begun kept (Ended is) which e f = absurd e
last_one play (asks s r n) left begun kept TooMuch which e f = (f, tt, refl)

-- an attempt that another one follows
another : (play rest : PlayCourse) (left begun : ℕ) (stop : AttemptStop) → is_failed stop ≡ true → Ends rest stop
    → followed (seen begun) (by_left play (suc left) begun) rest ≡ attempts play left begun (seen begun (shown rest))
another play (over s (Failed line status)) left begun (Ended is) failed e = refl
another play (over s Passed) left begun (Ended is) failed e = absurd (cc (rw e at failed))
another play (over s Unresolved) left begun (Ended is) failed e = absurd (cc (rw e at failed))
another play (over s end) left begun TooMuch failed e = absurd e
another play (asks s r n) left begun (Ended is) failed e = absurd e
another play (asks s r n) left begun TooMuch failed e = absurd (cc failed)

-- an attempt that failed, and the next one
pub onward : (gave : Gave) (number : ℕ) (earlier later : List Entry) (start : ℕ) (course : AttemptsCourse)
    (kept : ℕ) (play : PlayCourse) (left fewer begun : ℕ) (rest : PlayCourse) (stop : AttemptStop) → left ≡ suc fewer
    → is_failed stop ≡ true → Ends rest stop
    → Played gave number earlier later start course kept (followed (seen begun) (by_left play left begun) rest)
    → Played gave number earlier later start course kept (attempts play fewer begun (seen begun (shown rest)))
onward gave number earlier later start course kept play left fewer begun rest stop e failed ends p =
    rw (sym (another play rest fewer begun stop failed ends)) (rw e at p)

-- ---- an attempt without an entry

none_more : (entries more : List Entry) → length (entries ++ more) ≡ length entries → more ≡ []
none_more [] [] e = refl
none_more [] (x ∷ xs) e = absurd (omega arith)
none_more (y ∷ ys) more e = none_more ys more (omega arith)

-- it leaves all as it was
pub unmoved : (gave : Gave) (number : ℕ) (entries later : List Entry) (kept : ℕ) (play : PlayCourse) (after_kept : ℕ)
    (rest : PlayCourse) → Played gave number entries later kept play after_kept rest → length later ≡ length entries
    → kept ≤ 2 ^ 25 → (later ≡ entries) × (play ≡ rest) × (after_kept ≡ kept)
unmoved gave number entries later kept play after_kept rest p same most =
    let none : p.more ≡ [] = none_more entries p.more (rw p.whole at same) in
    let kept_there : after_kept ≡ capped kept = p.counted ∙ ap (λ es. capped (kept_behind kept es)) none in (
      p.whole ∙ ap (λ es. entries ++ es) none ∙ append-nil entries,
      sym (p.leads ∙ ap (behind play) none),
      omega (arith, kept_there, most),
    )

-- where the first request of an attempt has no room
pub held : (shows : Shown) (request : Request) (next : Reply → PlayCourse) (left begun kept : ℕ) (before : Seen)
    → IsFull kept (asks shows request next)
    → IsFull kept (attempts (asks shows request next) left begun before)
    × Ends (attempts (asks shows request next) left begun before) TooMuch
    × (shown (attempts (asks shows request next) left begun before) ≡ before)
held shows request next zero begun kept before f = (f, tt, refl)
held shows request next (suc left) begun kept before f = (f, tt, refl)

pub full_as : (kept other : ℕ) (course rest : PlayCourse) → course ≡ rest → other ≡ kept → IsFull other rest → IsFull kept course
full_as kept other course rest is same full = rw is (rw (sym same) full)
