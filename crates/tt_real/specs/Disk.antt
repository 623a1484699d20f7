-- What a hand's requests of files come to.
-- Own rule: the reply is that of what the system answers to just this path, these bytes and this limit; a path that isn't text
-- is a fault, and nothing is asked.
use Rattle.std.specs.Prelude.{◌≡◌, ℕ, Bool, List, Result, Ok}
use Rattle.std.specs.Str.{IsUtf8}
use Rattle.std.specs.declared.io.ErrorKind.{ErrorKind}
use Rattle.tt_base.specs.declared.memory.NoMemory.{NoMemory}
use Rattle.tt_outside.specs.declared.files.FilesFault.{FilesFault}
use Rattle.tt_outside.specs.declared.request.Reply.{Reply}
use Rattle.tt_outside.specs.declared.request.Reply.TheVariants.{Broken}
use Rattle.tt_real.specs.Reply.{GivesReply, made_reply, read_reply, written_reply}

-- what was done, or why not
abbrev pub Done : Type 0
Done = Result (Unit {0}) ErrorKind

-- a file was read
pub record IsRead (read : List ℕ → ℕ → Result (List ℕ) FilesFault → Type 0) (path : List ℕ) (limit : ℕ) (result : Result Reply NoMemory) : Type 0 where
  pub asked : IsUtf8 path → (answer : Result (List ℕ) FilesFault) × read path limit answer
      × GivesReply (read_reply answer) result
  pub other : ¬ (IsUtf8 path) → result ≡ Ok Broken

-- a directory was made
pub record IsMade (made : List ℕ → Done → Type 0) (path : List ℕ) (reply : Reply) : Type 0 where
  pub asked : IsUtf8 path → (answer : Done) × made path answer × (reply ≡ made_reply answer)
  pub other : ¬ (IsUtf8 path) → reply ≡ Broken

-- a file was written
pub record IsWritten (written : List ℕ → List ℕ → Bool → Done → Type 0) (path bytes : List ℕ) (append : Bool) (reply : Reply) : Type 0 where
  pub asked : IsUtf8 path → (answer : Done) × written path bytes append answer × (reply ≡ written_reply answer)
  pub other : ¬ (IsUtf8 path) → reply ≡ Broken
