-- What the commands of a script's lines ask, in order.
-- After POSIX.1 XCU 2.9 and LLVM Testing Infrastructure Guide. Own rules: the stages of a pipe run one after the other,
-- a pipe's status is its last one that isn't 0, and files are written behind their command.
use Rattle.std.specs.Prelude.{codes, ◌==◌, ◌&&◌, ◌+◌, ℕ, zero, suc, Bool, true, false, if◌then◌else◌, List, [], ◌∷◌, ◌++◌, Option, Some, None}
use Rattle.std.specs.Str.{bytes_eq}
use Rattle.std.specs.List.{find}
use Rattle.tt_outside.specs.declared.request.Finish.{Finish}
use Rattle.tt_outside.specs.declared.request.Finish.TheVariants.{Code, Signal}
use Rattle.tt_outside.specs.declared.request.Pair.{Pair}
use Rattle.tt_outside.specs.declared.request.Request.TheVariants.{ReadFile, MakeDir, WriteFile, Spawn}
use Rattle.tt_outside.specs.declared.request.Reply.{Reply}
use Rattle.tt_outside.specs.declared.request.Reply.TheVariants.{Bytes, Written, Missing, Status}
use Rattle.tt_outside.specs.declared.test_data.Test.{Test}
use Rattle.mini_shell.specs.Reading.{is_cd}
use Rattle.mini_shell.specs.declared.line.Command.{Command}
use Rattle.mini_shell.specs.declared.line.Join.{Join}
use Rattle.mini_shell.specs.declared.line.Join.TheVariants.{First, And, Or, Then}
use Rattle.mini_shell.specs.declared.line.Line.{Line}
use Rattle.mini_shell.specs.declared.line.Pipe.{Pipe}
use Rattle.test_course.specs.Bytes.{LIMIT}
use Rattle.test_course.specs.Course.{Course, over, asks}
use Rattle.shell_play.specs.Places.{joined, is_null, places_of, source_of, flow_of, errors_of, writes_of}
use Rattle.shell_play.specs.declared.places.Places.{Places}
use Rattle.shell_play.specs.declared.places.Write.{Write}
use Rattle.shell_play.specs.declared.told.LackNote.{LackNote}
use Rattle.shell_play.specs.declared.told.LackNote.TheVariants.{NoProgram, NoFile, NoWrite}
use Rattle.shell_play.specs.declared.told.PlayEnd.{PlayEnd}
use Rattle.shell_play.specs.declared.told.PlayEnd.TheVariants.{Passed, Failed, Unresolved}
use Rattle.shell_play.specs.declared.told.Told.{Told}

-- what a play shows: its commands that have a reply, and how many lines began
pub record Shown : Type 0 where
  pub told : List Told
  pub began : ℕ

abbrev pub PlayCourse : Type 0
PlayCourse = Course Shown PlayEnd

-- how a course goes on behind a command, by its status and those that were told
abbrev pub Onward : Type 0
Onward = ℕ → List Told → PlayCourse

-- ---- a command

-- the command at hand has a reply
abbrev pub with_now : List Told → Told → Shown
with_now before now = record { told = before ++ now ∷ []; began = now.line + 1 }

abbrev pub quiet : ℕ → Told
quiet line = record { line = line; notes = []; out = []; err = []; status = None }

abbrev pub noted : Told → LackNote → Told
noted now note = record now { notes = now.notes ++ note ∷ [] }

abbrev pub status_of : Finish → ℕ
status_of (Code code) = code
status_of (Signal signal) = 128 + signal

-- a file that isn't placed makes 1 of 0
abbrev pub lacking : ℕ → ℕ
lacking zero = 1
lacking (suc status) = suc status

-- behind the reply to a WriteFile
abbrev pub by_write : List ℕ → (Told → ℕ → PlayCourse) → List Told → Told → ℕ → Reply → PlayCourse
by_write path next before now status Written = next now status
by_write path next before now status Missing = next (noted now (NoWrite path)) (lacking status)
by_write path next before now status reply = over (with_now before now) Unresolved

-- files are written one after the other, and then the command has its status
abbrev pub write_files : List Write → Onward → List Told → Told → ℕ → PlayCourse
write_files [] next before now status = next status (before ++ record now { status = Some status } ∷ [])
write_files (write ∷ writes) next before now status =
    asks (with_now before now) (WriteFile write.path write.bytes write.append)
    (by_write write.path (write_files writes next before) before now status)

-- What a command is: its words and places, the directory, the test's tools and environment, and whether it is the
-- last of its pipe.
pub record Task : Type 0 where
  pub words : List (List ℕ)
  pub dir : List ℕ
  pub env : List Pair
  pub places : Places
  pub last : Bool

abbrev pub first_word : List (List ℕ) → List ℕ
first_word [] = []
first_word (word ∷ words) = word

-- behind a command that ended: its streams go to their places
abbrev pub streamed : Task → (List ℕ → Onward) → List Told → Told → List ℕ → List ℕ → ℕ → PlayCourse
streamed task next before now out err status =
    write_files (writes_of task.places out err)
    (next (if task.last then [] else flow_of task.places out err)) before
    (record now {
      out = if task.last then flow_of task.places out err else [];
      err = errors_of task.places out err;
    }) status

-- behind the reply to a Spawn
abbrev pub by_spawn : Task → (List ℕ → Onward) → List Told → Told → Reply → PlayCourse
by_spawn task next before now (Status finish out err) = streamed task next before now out err (status_of finish)
by_spawn task next before now Missing =
    streamed task next before (noted now (NoProgram (first_word task.words))) [] [] 127
by_spawn task next before now reply = over (with_now before now) Unresolved

-- a command is started with this input
abbrev pub spawned : Task → (List ℕ → Onward) → List Told → Told → Shown → List ℕ → PlayCourse
spawned task next before now shows input =
    asks shows (Spawn task.words task.dir task.env input LIMIT) (by_spawn task next before now)

-- behind the reply to the ReadFile of its input
abbrev pub by_read : Task → List ℕ → (List ℕ → Onward) → List Told → Told → Reply → PlayCourse
by_read task path next before now (Bytes input) = spawned task next before now (with_now before now) input
by_read task path next before now Missing = streamed task next before (noted now (NoFile path)) [] [] 1
by_read task path next before now reply = over (with_now before now) Unresolved

-- a command with its input: the redirected one, or what the command before it wrote
abbrev pub with_source : Task → Option (List ℕ) → (List ℕ → Onward) → ℕ → List ℕ → List Told → PlayCourse
with_source task None next line flow before =
    spawned task next before (quiet line) (record { told = before; began = line + 1 }) flow
with_source task (Some path) next line flow before =
    if is_null path
    then spawned task next before (quiet line) (record { told = before; began = line + 1 }) []
    else asks (record { told = before; began = line + 1 }) (ReadFile path LIMIT) (by_read task path next before (quiet line))

-- ---- tools

abbrev pub is_name : List ℕ → Pair → Bool
is_name word tool = bytes_eq tool.name word

abbrev pub value_or : List ℕ → Option Pair → List ℕ
value_or word None = word
value_or word (Some tool) = tool.value

-- a command's words, of which the first is a tool's name, and behind `not` or `not --crash` the next
abbrev pub tooled : List Pair → Bool → List (List ℕ) → List (List ℕ)
tooled tools behind_not [] = []
tooled tools behind_not (word ∷ words) =
    if behind_not && bytes_eq word (codes "--crash") then word ∷ tooled tools false words
    else value_or word (find (is_name word) tools)
    ∷ (if bytes_eq word (codes "not") then tooled tools true words else words)

-- ---- pipes

abbrev pub is_none_left : List Command → Bool
is_none_left [] = true
is_none_left (command ∷ commands) = false

abbrev pub task_of : Test → List ℕ → Command → Bool → Task
task_of test dir command last = record {
  words = tooled test.tools false command.words;
  dir = dir;
  env = test.environment;
  places = places_of dir command.redirs;
  last = last;
}

-- the last status that isn't 0
abbrev pub last_failed : ℕ → ℕ → ℕ
last_failed failed zero = failed
last_failed failed (suc status) = suc status

-- behind a command the rest of its pipe
abbrev pub behind_command : (ℕ → List ℕ → List Told → PlayCourse) → ℕ → List ℕ → Onward
behind_command rest failed flow status told = rest (last_failed failed status) flow told

-- the commands of a pipe, each with what the one before it wrote
abbrev pub commands : Test → List ℕ → ℕ → Onward → List Command → ℕ → List ℕ → List Told → PlayCourse
commands test dir line next [] failed flow told = next failed told
commands test dir line next (command ∷ rest) failed flow told =
    with_source (task_of test dir command (is_none_left rest)) (source_of dir command.redirs)
    (behind_command (commands test dir line next rest) failed) line flow told

-- ---- lines

-- between two pipes: what was told, the directory, and the line's status so far
pub record Scene : Type 0 where
  pub told : List Told
  pub dir : List ℕ
  pub status : ℕ

-- whether a pipe runs behind a status
abbrev pub lets : Join → ℕ → Bool
lets First status = true
lets Then status = true
lets And status = status == 0
lets Or zero = false
lets Or (suc status) = true

abbrev pub turned : Bool → ℕ → ℕ
turned false status = status
turned true zero = 1
turned true (suc status) = 0

-- the directory that a `cd` names
abbrev pub cd_words : List (List ℕ) → Option (List ℕ)
cd_words [] = None
cd_words (word ∷ []) = None
cd_words (word ∷ name ∷ words) = if is_cd word then Some name else None

abbrev pub cd_of : List Command → Option (List ℕ)
cd_of [] = None
cd_of (command ∷ commands) = cd_words command.words

-- behind a pipe
abbrev pub behind_pipe : Bool → List ℕ → (Scene → PlayCourse) → Onward
behind_pipe inverted dir next status told = next (record { told = told; dir = dir; status = turned inverted status })

-- a pipe of commands, or a `cd`
abbrev pub piped : Test → ℕ → Pipe → Option (List ℕ) → (Scene → PlayCourse) → Scene → PlayCourse
piped test line pipe None next scene =
    commands test scene.dir line (behind_pipe pipe.inverted scene.dir next) pipe.commands 0 [] scene.told
piped test line pipe (Some name) next scene =
    next (record { told = scene.told; dir = joined scene.dir name; status = turned pipe.inverted 0 })

-- the pipes of a line that the statuses so far let run
abbrev pub pipes : Test → ℕ → (Scene → PlayCourse) → List Pipe → Scene → PlayCourse
pipes test line next [] scene = next scene
pipes test line next (pipe ∷ rest) scene =
    if lets pipe.join scene.status then piped test line pipe (cd_of pipe.commands) (pipes test line next rest) scene
    else pipes test line next rest scene

abbrev pub at_start : Test → List Told → Scene
at_start test told = record { told = told; dir = test.work_dir; status = 0 }

-- behind a line: the next one, or the play has failed
abbrev pub behind_line : ℕ → (List Told → PlayCourse) → Scene → PlayCourse
behind_line line next scene =
    if scene.status == 0 then next scene.told
    else over (record { told = scene.told; began = line + 1 }) (Failed line scene.status)

-- lines, of which the first has this number
abbrev pub lines : Test → List Line → ℕ → List Told → PlayCourse
lines test [] line told = over (record { told = told; began = line }) Passed
lines test (first ∷ rest) line told =
    pipes test line (behind_line line (lines test rest (line + 1))) first.pipes (at_start test told)

-- behind the reply to a MakeDir
abbrev pub by_dir : Test → List Line → List Told → Reply → PlayCourse
by_dir test script told Written = lines test script 0 told
by_dir test script told reply = over (record { told = told; began = 0 }) Unresolved

abbrev pub from_dir : Test → List Line → List Told → PlayCourse
from_dir test script told =
    asks (record { told = told; began = 0 }) (MakeDir test.temp_dir) (by_dir test script told)

-- The play of lines: the temporary directory, and then their commands.
abbrev pub play : List Line → Test → PlayCourse
play script test = from_dir test script []
