-- What is left behind one pipe of a line, or one line, at each stage at which the code may stand.
-- Each lemma takes one step of the definition, by cases on the status and on what is left, and names the stage that it comes to.
-- The hard ones are `runs` and `follows`, where a command begins: its words, directory, input and files are those of the definition.
use Rattle.tt_outside.specs.declared.request.Reply.{Reply}
use Rattle.shell_play.specs.declared.places.Write.{Write}
use Rattle.std.proofs.Common.{◌++◌, ◌==◌, ◌≡◌, ◌≢◌, ◌+◌, ℕ, true, false, List, [], ◌∷◌, Option, Some, None, refl, sym, arith, length, ◌<◌, Bor}
use Rattle.std.proofs.lemmas.Grind.{common_steps}
use Rattle.tt_outside.specs.declared.test_data.Test.{Test}
use Rattle.mini_shell.specs.declared.line.Command as commands_of
use Rattle.mini_shell.specs.declared.line.Line.{Line}
use Rattle.mini_shell.specs.declared.line.Pipe.{Pipe}
use Rattle.test_course.specs.Bytes.{LIMIT}
use Rattle.test_course.specs.Course.{over, asks, after, shown}
use Rattle.shell_play.specs.Places.{joined, source_of, is_null}
use Rattle.std.proofs.Common.{if◌then◌else◌}
use Rattle.tt_outside.specs.declared.request.Request.TheVariants.{ReadFile}
use Rattle.shell_play.specs.declared.stage.Wants.TheVariants.{Input, Program, Files}
use Rattle.shell_play.specs.Play.{by_write, write_files, quiet, spawned, by_read, PlayCourse, Scene, lets, turned, cd_of, behind_line, with_source, lines}
use Rattle.shell_play.specs.Standing.{IsHere, files_due, files_of, stands, request_of, files_left, told_before, told_last, in_line, in_pipe, onward, task, wanted, first_wants}
use Rattle.shell_play.specs.declared.stage.Running.{Running}
use Rattle.shell_play.specs.declared.stage.Wants.{Wants}
use Rattle.shell_play.specs.declared.stage.Stage.{Stage}
use Rattle.shell_play.specs.declared.stage.Stage.TheVariants.{Dir, Command, Over}
use Rattle.shell_play.specs.declared.told.PlayEnd.TheVariants.{Passed, Failed}
use Rattle.shell_play.specs.declared.told.Told.{Told}
use Rattle.tt_outside.specs.declared.request.Request.{Request}
use Rattle.shell_play.specs.PlayOf.{Shows}
use Rattle.shell_play.specs.declared.play.Due.TheVariants as due

-- a pipe that the status doesn't let run
pub skipped : (test : Test) (line : ℕ) (script : List Line) (left rest : List Pipe) (pipe : Pipe) (scene : Scene)
    → left ≡ pipe ∷ rest → lets pipe.join scene.status ≡ false
    → in_line test line script rest scene ≡ in_line test line script left scene
skipped test line script left rest pipe scene e f = rw e (rw f refl)

-- a `cd`
pub changed : (test : Test) (line : ℕ) (script : List Line) (left rest : List Pipe) (pipe : Pipe) (scene : Scene)
    (name : List ℕ) → left ≡ pipe ∷ rest → lets pipe.join scene.status ≡ true → cd_of pipe.commands ≡ Some name
    → in_line test line script rest
    (record { told = scene.told; dir = joined scene.dir name; status = turned pipe.inverted 0 })
    ≡ in_line test line script left scene
changed test line script left rest pipe scene name e f g = rw e (rw f (rw g refl))

none_of : (these : List commands_of.Command) → length these ≡ 0 → these ≡ []
none_of [] e = refl
none_of (one ∷ these) e = absurd (omega arith)

-- a pipe without commands
pub hollow : (test : Test) (line : ℕ) (script : List Line) (left rest : List Pipe) (pipe : Pipe) (scene : Scene)
    → left ≡ pipe ∷ rest → lets pipe.join scene.status ≡ true → length pipe.commands ≡ 0
    → in_line test line script rest (record { told = scene.told; dir = scene.dir; status = turned pipe.inverted 0 })
    ≡ in_line test line script left scene
hollow test line script left rest pipe scene e f g = rw e (rw f (rw (none_of pipe.commands g) refl))

-- no pipe is left
pub none_left : (test : Test) (line : ℕ) (script : List Line) (left : List Pipe) (scene : Scene) → length left ≡ 0
    → behind_line line (lines test script (line + 1)) scene ≡ in_line test line script left scene
none_left test line script [] scene e = refl
none_left test line script (pipe ∷ rest) scene e = absurd (omega arith)

-- what is due first of a command is what is left of it
pub sourced : (test : Test) (told : List Told) (r : Running) (source : Option (List ℕ)) (flow : List ℕ)
    → wanted test told r (first_wants source flow) ≡ with_source (task test r) source (onward test r) r.line flow told
sourced test told r None flow = refl
sourced test told r (Some path) flow = elim (is_null path) as
    (λ null. wanted test told r (if null then Program [] false else Input path)
    ≡ (if null
    then spawned (task test r) (onward test r) told (quiet r.line) (record { told = told; began = r.line + 1 }) []
    else asks (record { told = told; began = r.line + 1 }) (ReadFile path LIMIT)
    (by_read (task test r) path (onward test r) told (quiet r.line))))
    [ true ↦ refl | false ↦ refl ]

-- the first command of a pipe that the status lets run
pub runs : (test : Test) (told : List Told) (line : ℕ) (script : Bor (List Line)) (behind : Bor (List Pipe))
    (rest : Bor (List commands_of.Command)) (command : Bor commands_of.Command) (dir : List ℕ) (left : List Pipe) (pipe : Pipe) (status : ℕ) (wants : Wants) (whole : PlayCourse)
    → left ≡ pipe ∷ behind.now → lets pipe.join status ≡ true → cd_of pipe.commands ≡ None
    → pipe.commands ≡ command.now ∷ rest.now → wants ≡ first_wants (source_of dir command.now.redirs) []
    → in_line test line script.now left (record { told = told; dir = dir; status = status }) ≡ whole
    → wanted test told (record {
      line = line;
      lines = script;
      pipes = behind;
      inverted = pipe.inverted;
      commands = rest;
      command = command;
      dir = dir;
      failed = 0;
    }) wants ≡ whole
runs test told line script behind rest command dir left pipe status wants whole e f g h w is =
    rw (← is) (rw e (rw f (rw g (rw h (rw w (sourced test told (record {
      line = line;
      lines = script;
      pipes = behind;
      inverted = pipe.inverted;
      commands = rest;
      command = command;
      dir = dir;
      failed = 0;
    }) (source_of dir command.now.redirs) []))))))

-- the line's end with a status other than 0
pub failed : (test : Test) (line : ℕ) (script : List Line) (told : List Told) (status : ℕ) → status ≢ 0
    → behind_line line (lines test script (line + 1)) (record { told = told; dir = []; status = status })
    ≡ over (record { told = told; began = line + 1 }) (Failed line status)
failed test line script told status ne = let e : (status == 0) ≡ false = grind (arith, common_steps) in rw e refl

-- the last line's end with status 0
pub passed : (test : Test) (line : ℕ) (script : List Line) (told : List Told) (status : ℕ) → status ≡ 0 → length script ≡ 0
    → behind_line line (lines test script (line + 1)) (record { told = told; dir = []; status = status })
    ≡ over (record { told = told; began = line + 1 }) Passed
passed test line [] told status e f = rw e refl
passed test line (first ∷ rest) told status e f = absurd (omega arith)

-- another line's end with status 0
pub goes_on : (test : Test) (line : ℕ) (script rest : List Line) (first : Line) (told : List Told) (status : ℕ)
    → status ≡ 0 → script ≡ first ∷ rest
    → behind_line line (lines test script (line + 1)) (record { told = told; dir = []; status = status })
    ≡ in_line test (line + 1) rest first.pipes (record { told = told; dir = test.work_dir; status = 0 })
goes_on test line script rest first told status e f = rw e (rw f refl)

-- the next command of a pipe
pub follows : (test : Test) (told : List Told) (r : Running) (rest : Bor (List commands_of.Command)) (command : Bor commands_of.Command)
    (before : ℕ) (flow : List ℕ) (dir : List ℕ) (wants : Wants)
    → r.commands.now ≡ command.now ∷ rest.now → dir ≡ r.dir → wants ≡ first_wants (source_of dir command.now.redirs) flow
    → wanted test told (record {
      line = r.line;
      lines = r.lines;
      pipes = r.pipes;
      inverted = r.inverted;
      commands = rest;
      command = command;
      dir = dir;
      failed = before;
    }) wants ≡ in_pipe test r before flow told
follows test told r rest command before flow dir wants e d w =
    rw e (rw w (rw d (sourced test told (record {
      line = r.line;
      lines = r.lines;
      pipes = r.pipes;
      inverted = r.inverted;
      commands = rest;
      command = command;
      dir = r.dir;
      failed = before;
    }) (source_of r.dir command.now.redirs) flow)))

-- what was told last, and before it
pub before_last : (before : List Told) (now : Told) → told_before (before ++ now ∷ []) ≡ before
before_last before now = grind (arith, common_steps)

pub last_of_all : (before : List Told) (now : Told) → told_last (before ++ now ∷ []) ≡ now
last_of_all before now = grind (arith, common_steps)

-- files that are due behind a command that was told last
pub due_files : (test : Test) (r copy : Running) (writes : List Write) (flow : List ℕ) (status : ℕ) (before : List Told) (now : Told)
    → now.line ≡ r.line → copy ≡ r
    → wanted test (before ++ now ∷ []) copy (Files writes flow status)
    ≡ write_files writes (onward test r flow) before now status
due_files test r copy writes flow status before now here same =
    rw same (rw (before_last before now) (rw (last_of_all before now) (rw (← here) refl)))

-- a reply to the first of some files
pub first_file : (test : Test) (told : List Told) (r : Running) (wants : Wants) (writes left : List Write) (first : Write)
    (flow : List ℕ) (status : ℕ) (reply : Reply) (course : PlayCourse) (now : Told)
    → wants ≡ Files writes flow status → writes ≡ first ∷ left
    → now ≡ record (told_last told) { line = r.line }
    → course ≡ by_write first.path (write_files left (onward test r flow) (told_before told)) (told_before told) now status reply
    → course ≡ after (wanted test told r wants) reply
first_file test told r wants writes left first flow status reply course now e f g h = rw e (rw f (rw (← g) h))

-- the lines that began where a command's request is due
pub began_at : (test : Test) (told : List Told) (r : Running) (wants : Wants) → 0 < files_left wants
    → r.line + 1 ≡ (shown (wanted test told r wants)).began
began_at test told r (Input path) next = refl
began_at test told r (Program input true) next = refl
began_at test told r (Program input false) next = refl
began_at test told r (Files [] flow status) next = absurd (omega arith)
began_at test told r (Files (first ∷ left) flow status) next = refl

-- the request that is due of a command
pub shows_request : (test : Test) (told : List Told) (r : Running) (wants : Wants) (request : Request) → 0 < files_left wants
    → request ≡ request_of test r wants → Shows (wanted test told r wants) (due.Ask request)
shows_request test told r (Input path) request next is = is
shows_request test told r (Program input true) request next is = is
shows_request test told r (Program input false) request next is = is
shows_request test told r (Files [] flow status) request next is = absurd (omega arith)
shows_request test told r (Files (first ∷ left) flow status) request next is = is

-- the last one behind those before it
with_last : (told : List Told) → 0 < length told → told_before told ++ told_last told ∷ [] ≡ told
with_last told some = grind (arith, common_steps)

-- what was told is what is shown
pub shows_told : (test : Test) (told : List Told) (stage : Stage) → 0 < files_of stage
    → (files_due stage ≡ true → 0 < length told) → IsHere stage (told_last told).line
    → told ≡ (shown (stands test told stage)).told
shows_told test told (Dir script) next heard here = refl
shows_told test told (Over began end) next heard here = refl
shows_told test told (Command r (Input path)) next heard here = refl
shows_told test told (Command r (Program input true)) next heard here = refl
shows_told test told (Command r (Program input false)) next heard here = refl
shows_told test told (Command r (Files [] flow status)) next heard here = absurd (omega arith)
shows_told test told (Command r (Files (first ∷ left) flow status)) next heard here =
    rw (here refl) (sym (with_last told (heard refl)))
