-- What is left of a play that stands somewhere.
-- Own rule: what is left is what the definition says of the lines, pipes and commands that are left.
use Rattle.std.specs.Prelude.{◌≡◌, ◌+◌, ◌-◌, ◌<◌, ◌≤◌, ◌++◌, ℕ, Bool, true, false, List, [], ◌∷◌, length, take, get_or, Option, Some, None, if◌then◌else◌}
use Rattle.tt_outside.specs.declared.request.Request.TheVariants.{ReadFile, MakeDir, WriteFile, Spawn}
use Rattle.tt_outside.specs.declared.request.Request.{Request}
use Rattle.tt_outside.specs.declared.request.Reply.{Reply}
use Rattle.tt_outside.specs.declared.test_data.Test.{Test}
use Rattle.test_course.specs.Bytes.{LIMIT}
use Rattle.test_course.specs.Course.{over, asks, after}
use Rattle.shell_play.specs.Play.{PlayCourse, Onward, Scene, Task, quiet, task_of, is_none_left, by_read, by_spawn, by_write, spawned, streamed, write_files, behind_command, behind_pipe, behind_line, commands, pipes, lines, from_dir}
use Rattle.mini_shell.specs.declared.line.Line.{Line}
use Rattle.mini_shell.specs.declared.line.Pipe.{Pipe}
use Rattle.shell_play.specs.Places.{errors_of, flow_of, is_null, places_of, writes_of}
use Rattle.shell_play.specs.declared.stage.Found.{Found}
use Rattle.shell_play.specs.declared.stage.Found.TheVariants.{Due, Ended}
use Rattle.shell_play.specs.declared.stage.Running.{Running}
use Rattle.shell_play.specs.declared.stage.Stage.{Stage}
use Rattle.shell_play.specs.declared.stage.Stage.TheVariants.{Dir, Command, Over}
use Rattle.shell_play.specs.declared.stage.Wants.{Wants}
use Rattle.shell_play.specs.declared.stage.Wants.TheVariants.{Input, Program, Files}
use Rattle.shell_play.specs.declared.change.Change.{Change}
use Rattle.shell_play.specs.declared.change.Output.{Output}
use Rattle.shell_play.specs.declared.change.Ending.{Ending}
use Rattle.shell_play.specs.declared.change.Poured.{Poured}
use Rattle.shell_play.specs.declared.places.Places.{Places}
use Rattle.shell_play.specs.declared.places.Write.{Write}
use Rattle.shell_play.specs.declared.told.LackNote.{LackNote}
use Rattle.shell_play.specs.declared.told.Told.{Told}

-- pipes that are left of a line, and the lines behind it
abbrev pub in_line : Test → ℕ → List Line → List Pipe → Scene → PlayCourse
in_line test line script left scene = pipes test line (behind_line line (lines test script (line + 1))) left scene

-- the same in a directory and behind a status, whatever was told
abbrev pub in_line_from : Test → ℕ → List Line → List Pipe → List ℕ → ℕ → List Told → PlayCourse
in_line_from test line script left dir status told =
    in_line test line script left (record { told = told; dir = dir; status = status })

-- commands that are left of a pipe, the pipes and the lines behind it
abbrev pub in_pipe : Test → Running → ℕ → List ℕ → List Told → PlayCourse
in_pipe test r failed flow told =
    commands test r.dir r.line (behind_pipe r.inverted r.dir (in_line test r.line r.lines.now r.pipes.now)) r.commands.now
    failed flow told

-- behind the command that runs
abbrev pub onward : Test → Running → List ℕ → Onward
onward test r = behind_command (in_pipe test r) r.failed

abbrev pub task : Test → Running → Task
task test r = task_of test r.dir r.command.now (is_none_left r.commands.now)

-- what is left behind it, where it ended and files of it are left to write
abbrev pub files_by : Test → Running → Ending → List Told → PlayCourse
files_by test r ending before = write_files ending.writes (onward test r ending.flow) before ending.told ending.status

-- where it left these streams
abbrev pub streamed_by : Test → Running → List LackNote → Output → List Told → PlayCourse
streamed_by test r notes output before =
    streamed (task test r) (onward test r) before (record (quiet r.line) { notes = notes }) output.out output.err output.status

-- and behind the replies to the ReadFile of its input, to its Spawn, and to a WriteFile before the files that are left
abbrev pub read_by : Test → Running → List ℕ → Reply → List Told → PlayCourse
read_by test r path reply before = by_read (task test r) path (onward test r) before (quiet r.line) reply

abbrev pub spawned_by : Test → Running → Reply → List Told → PlayCourse
spawned_by test r reply before = by_spawn (task test r) (onward test r) before (quiet r.line) reply

abbrev pub written_by : Test → Running → List ℕ → Ending → Reply → List Told → PlayCourse
written_by test r path ending reply before =
    by_write path (write_files ending.writes (onward test r ending.flow) before) before ending.told ending.status reply

-- those before the last one that was told, and that one
abbrev pub told_before : List Told → List Told
told_before told = take (length told - 1) told

abbrev pub told_last : List Told → Told
told_last told = get_or told (length told - 1) (quiet 0)

-- what is left where a command's request is due
abbrev pub wanted : Test → List Told → Running → Wants → PlayCourse
wanted test told r (Input path) =
    asks (record { told = told; began = r.line + 1 }) (ReadFile path LIMIT)
    (by_read (task test r) path (onward test r) told (quiet r.line))
wanted test told r (Program input false) =
    spawned (task test r) (onward test r) told (quiet r.line) (record { told = told; began = r.line + 1 }) input
wanted test told r (Program input true) =
    spawned (task test r) (onward test r) (told_before told) (quiet r.line)
    (record { told = told; began = r.line + 1 }) input
wanted test told r (Files writes flow status) =
    write_files writes (onward test r flow) (told_before told) (record (told_last told) { line = r.line }) status

-- the first thing that is due of a command
abbrev pub first_wants : Option (List ℕ) → List ℕ → Wants
first_wants None flow = Program flow false
first_wants (Some path) flow = if is_null path then Program [] false else Input path

-- what is left behind some pipes of a line
abbrev pub found : Test → List Told → ℕ → List Line → Found → PlayCourse
found test told line rest (Due r wants) = wanted test told r wants
found test told line rest (Ended status) =
    behind_line line (lines test rest (line + 1)) (record { told = told; dir = []; status = status })

abbrev pub stands : Test → List Told → Stage → PlayCourse
stands test told (Dir script) = from_dir test script.now told
stands test told (Command r wants) = wanted test told r wants
stands test told (Over began end) = over (record { told = told; began = began }) end

-- what is found is what pipes of a line have left in a directory and behind a status, for each test and whatever was told
abbrev pub FoundAs : ℕ → List Line → List Pipe → List ℕ → ℕ → Found → Type 0
FoundAs line rest left dir status next =
    (test : Test) (told : List Told) → found test told line rest next ≡ in_line_from test line rest left dir status told

-- a play stands where a course does, whatever was told
abbrev pub StandsAs : Test → (List Told → PlayCourse) → Stage → Type 0
StandsAs test course stage = (told : List Told) → stands test told stage ≡ course told

-- and where these pipes of a line do
abbrev pub StandsIn : Test → ℕ → List Line → List Pipe → List ℕ → ℕ → Stage → Type 0
StandsIn test line script left dir status = StandsAs test (in_line_from test line script left dir status)

-- behind a change it stands where a course does, whatever was told before the command at hand
abbrev pub ChangesTo : Test → (List Told → PlayCourse) → Change → Type 0
ChangesTo test course change =
    (before : List Told) → stands test (before ++ change.now ∷ []) change.stage ≡ course before

-- where the streams of a command go
abbrev pub places_at : Running → Places
places_at r = places_of r.dir r.command.now.redirs

-- the streams of a command come to their places: into files, to the transcript's errors, and to the flow
abbrev pub IsPoured : Running → Output → Poured → Type 0
IsPoured r output poured =
    (poured.writes ≡ writes_of (places_at r) output.out output.err)
    × (poured.errors ≡ errors_of (places_at r) output.out output.err)
    × (poured.flow ≡ flow_of (places_at r) output.out output.err)

-- how many lines there are, as far as they are numbered
abbrev pub lines_of : Stage → ℕ
lines_of (Dir script) = length script.now
lines_of (Command r wants) = r.line + 1 + length r.lines.now
lines_of (Over began end) = 0

-- how many files are left to be written, and where none is due one more
abbrev pub files_left : Wants → ℕ
files_left (Input path) = 1
files_left (Program input heard) = 1
files_left (Files writes flow status) = length writes

abbrev pub files_of : Stage → ℕ
files_of (Dir script) = 1
files_of (Command r wants) = files_left wants
files_of (Over began end) = 1

-- The lines are few enough for their numbers, and a file is left where one is due.
abbrev pub AreFew : Stage → Type 0
AreFew stage = (lines_of stage ≤ 1000) × (0 < files_of stage)

-- whether a file is due
abbrev pub is_files : Wants → Bool
is_files (Input path) = false
is_files (Program input heard) = false
is_files (Files writes flow status) = true

abbrev pub files_due : Stage → Bool
files_due (Dir script) = false
files_due (Command r wants) = is_files wants
files_due (Over began end) = false

abbrev pub line_of : Stage → ℕ
line_of (Dir script) = 0
line_of (Command r wants) = r.line
line_of (Over began end) = 0

-- the command of which a file is due stands on this line
abbrev pub IsHere : Stage → ℕ → Type 0
IsHere stage line = files_due stage ≡ true → line_of stage ≡ line

abbrev pub FoundFew : Found → Type 0
FoundFew (Due r wants) =
    (r.line + length r.lines.now < 1000) × (0 < files_left wants) × (is_files wants ≡ false)
FoundFew (Ended status) = Unit {0}

-- whether something was told of the command already
abbrev pub is_heard : Wants → Bool
is_heard (Input path) = false
is_heard (Program input heard) = heard
is_heard (Files writes flow status) = true

-- those that were told, where this is told now of the command at hand
abbrev pub told_now : Bool → List Told → Told → List Told
told_now heard told now = if heard then told_before told ++ now ∷ [] else told ++ now ∷ []

-- behind a change of the command at hand it stands where a reply to its request leads
abbrev pub ChangesBy : Test → List Told → Running → Wants → Reply → Change → Type 0
ChangesBy test told r wants reply change =
    stands test (told_now (is_heard wants) told change.now) change.stage ≡ after (wanted test told r wants) reply

-- the request of a command that is due
abbrev pub file_request : List Write → Request
file_request [] = MakeDir []
file_request (write ∷ writes) = WriteFile write.path write.bytes write.append

abbrev pub request_of : Test → Running → Wants → Request
request_of test r (Input path) = ReadFile path LIMIT
request_of test r (Program input heard) = Spawn (task test r).words r.dir test.environment input LIMIT
request_of test r (Files writes flow status) = file_request writes
