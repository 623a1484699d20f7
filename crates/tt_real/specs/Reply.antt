-- What a hand makes of what the system told of a program or a file.
-- Own rules: a program that the system doesn't find is Missing. What else the system refuses or fails at is Broken; it counts
-- before a stream that passes its limit, of which the output counts before the errors. A program that stops reading is no fault.
use Rattle.std.specs.Prelude.{◌≡◌, ℕ, Bool, nat_lt, if◌then◌else◌, List, [], length, Option, Some, None, Result, Ok, Err, MatchResult, ℤ, pos, negsuc}
use Rattle.std.specs.declared.io.ErrorKind.{ErrorKind}
use Rattle.std.specs.declared.io.ErrorKind.TheVariants.{NotFound, OutOfMemory, BrokenPipe}
use Rattle.tt_base.specs.declared.memory.NoMemory.{NoMemory as Lacks}
use Rattle.tt_outside.specs.declared.files.FilesFault.{FilesFault}
use Rattle.tt_outside.specs.declared.files.FilesFault.TheVariants as faults
use Rattle.tt_outside.specs.declared.request.Finish.{Finish}
use Rattle.tt_outside.specs.declared.request.Finish.TheVariants.{Code, Signal}
use Rattle.tt_outside.specs.Fits.{fits}
use Rattle.tt_outside.specs.declared.request.Reply.{Reply}
use Rattle.tt_outside.specs.declared.request.Reply.TheVariants.{Bytes, Written, Missing, Status, TooLarge, Broken}
use Rattle.tt_outside.specs.declared.request.Request.TheVariants.{Spawn}
use Rattle.tt_outside.specs.declared.request.Stream.TheVariants.{File, Out, Err as Errors}
use Rattle.tt_real.specs.declared.told.Told.{Told}
use Rattle.tt_real.specs.declared.told.Told.TheVariants.{Whole, OutPast, ErrPast, Failed, NoMemory}

-- ---- a program

-- a reply, where there was memory for it
abbrev pub GivesReply : Option Reply → Result Reply Lacks → Type 0
GivesReply due result = MatchResult result (λ reply. due ≡ Some reply) (λ _. due ≡ None)

-- the reply is one that a program may get each of whose streams may have so many bytes
abbrev pub fits_program : ℕ → Reply → Bool
fits_program limit reply = fits (Spawn [] [] [] [] limit) reply

-- a stream that passes the limit, the output before the errors, or what else is so
abbrev pub past_or : Told → List ℕ → List ℕ → ℕ → Told
past_or other out err limit =
    if nat_lt limit (length out) then OutPast else if nat_lt limit (length err) then ErrPast else other

-- What reading both streams came to, where it ended by a fault, or none, and gave these bytes. It ends without a fault where both
-- have ended, or where one is past the limit; that counts before a want of memory.
abbrev pub told_of : Option ErrorKind → List ℕ → List ℕ → ℕ → Told
told_of None out err limit = past_or Whole out err limit
told_of (Some OutOfMemory) out err limit = past_or NoMemory out err limit
told_of (Some _) out err limit = Failed

-- how a program ended, by the code or the signal that the system tells
abbrev pub finish_of : Option ℤ → Option ℤ → Option Finish
finish_of (Some (pos code)) signal = if nat_lt code 256 then Some (Code code) else None
finish_of (Some (negsuc code)) signal = None
finish_of None (Some (pos signal)) = if nat_lt signal 256 then Some (Signal signal) else None
finish_of None (Some (negsuc signal)) = None
finish_of None None = None

-- how it ended, if its input was taken, or it stopped reading
abbrev pub finish_fed : Option ErrorKind → Option Finish → Option Finish
finish_fed None finish = finish
finish_fed (Some BrokenPipe) finish = finish
finish_fed (Some _) finish = None

-- the reply to a program that was fed, read and waited for, where there was memory for it
abbrev pub reply_of : Told → Option Finish → List ℕ → List ℕ → Option Reply
reply_of Whole (Some finish) out err = Some (Status finish out err)
reply_of OutPast (Some finish) out err = Some (TooLarge Out)
reply_of ErrPast (Some finish) out err = Some (TooLarge Errors)
reply_of Failed finish out err = Some Broken
reply_of NoMemory finish out err = None
reply_of told None out err = Some Broken

-- The reply to a start that was refused by an error, where there was memory for it. An error that isn't the system's own is that
-- of this program's memory.
abbrev pub refused_reply : ErrorKind → Option ℤ → Option Reply
refused_reply NotFound code = Some Missing
refused_reply OutOfMemory (Some code) = Some Broken
refused_reply OutOfMemory None = None
refused_reply _ code = Some Broken

-- ---- files

-- the reply to a file that was read
abbrev pub read_reply : Result (List ℕ) FilesFault → Option Reply
read_reply (Ok bytes) = Some (Bytes bytes)
read_reply (Err faults.Missing) = Some Missing
read_reply (Err (faults.TooLarge size)) = Some (TooLarge File)
read_reply (Err faults.Failed) = Some Broken
read_reply (Err faults.NoMemory) = None

-- the reply to a file that was written
abbrev pub written_reply : Result (Unit {0}) ErrorKind → Reply
written_reply (Ok done) = Written
written_reply (Err NotFound) = Missing
written_reply (Err _) = Broken

-- the reply to a directory that was made
abbrev pub made_reply : Result (Unit {0}) ErrorKind → Reply
made_reply (Ok done) = Written
made_reply (Err _) = Broken
