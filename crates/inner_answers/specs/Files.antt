-- The files that FileCheck reads. Own rules: their names are joined to the request's directory; the check file is asked first, and an
-- input of the same name isn't asked again.
use Rattle.std.specs.Prelude.{ℕ, ◌^◌, nat_le, Bool, false, if◌then◌else◌, List, [], ◌∷◌, ◌++◌, length, All, Option, Some, None}
use Rattle.std.specs.Str.{bytes_eq}
use Rattle.filecheck_tool.specs.declared.file_names.Names.{Names}
use Rattle.shell_play.specs.Places.{joined}
use Rattle.tt_outside.specs.declared.request.Reply.{Reply}
use Rattle.tt_outside.specs.declared.request.Reply.TheVariants as kinds
use Rattle.tt_outside.specs.declared.request.Request.{Request}
use Rattle.tt_outside.specs.declared.request.Request.TheVariants.{ReadFile}
use Rattle.tt_run.specs.Run.{IsShort}
use Rattle.tt_run.specs.declared.reading.Reading.{Reading}
use Rattle.tt_run.specs.declared.reading.Reading.TheVariants.{Whole, Missing, TooLarge, Failed}

-- refused words name no files
abbrev pub names_or_none : Option Names → Names
names_or_none (Some names) = names
names_or_none None = record { check = None; input = None }

-- the check file has this name too
abbrev pub is_shared : Option (List ℕ) → List ℕ → Bool
is_shared (Some check) input = bytes_eq check input
is_shared None input = false

-- ---- what is asked

abbrev pub check_asked : List ℕ → Option (List ℕ) → List Request
check_asked dir (Some name) = ReadFile (joined dir name) (2 ^ 24) ∷ []
check_asked dir None = []

abbrev pub input_asked : List ℕ → Option (List ℕ) → Option (List ℕ) → List Request
input_asked dir check (Some name) = if is_shared check name then [] else ReadFile (joined dir name) (2 ^ 26) ∷ []
input_asked dir check None = []

-- the requests for the files of these names
abbrev pub files_asked : List ℕ → Names → List Request
files_asked dir names = check_asked dir names.check ++ input_asked dir names.check names.input

-- ---- what is read

-- what a reply to such a request says of the file
abbrev pub reading_of : Reply → Reading
reading_of (kinds.Bytes bytes) = Whole bytes
reading_of kinds.Missing = Missing
reading_of (kinds.TooLarge stream) = TooLarge
reading_of reply = Failed

abbrev pub first_reply : List Reply → Reply
first_reply [] = kinds.Missing
first_reply (reply ∷ replies) = reply

-- the last of replies, or what stands for it
abbrev pub last_or : Reply → List Reply → Reply
last_or other [] = other
last_or other (reply ∷ replies) = last_or reply replies

abbrev pub last_reply : List Reply → Reply
last_reply replies = last_or kinds.Missing replies

-- the check file is told by the first reply
abbrev pub check_read : Names → List Reply → Reading
check_read names replies = elim (names.check) [ Some name ↦ reading_of (first_reply replies) | None ↦ Missing ]

-- a standard input of so many bytes is read whole
abbrev pub standard_read : List ℕ → Reading
standard_read input = if nat_le (length input) (2 ^ 26) then Whole input else TooLarge

-- a file that is the input is told by the last reply, which is the check file's where they share the name
abbrev pub input_read : Names → List ℕ → List Reply → Reading
input_read names input replies = elim (names.input) [ Some name ↦ reading_of (last_reply replies) | None ↦ standard_read input ]

-- each file that is told whole is short
abbrev pub AreShort : List Reply → Type 0
AreShort replies = All (λ reply. IsShort (2 ^ 30) (reading_of reply)) replies
