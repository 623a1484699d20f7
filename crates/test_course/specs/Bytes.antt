-- How many bytes a test keeps.
-- Own rules: a request's own bytes are all bytes in it and one more, and a reply's are all bytes in it; a test that asks for more
-- has kept at most 16 MiB with the request; a file and a stream have at most 4 MiB.
use Rattle.std.specs.Prelude.{◌+◌, ◌^◌, ◌≤◌, ℕ, List, [], ◌∷◌, length, min}
use Rattle.tt_outside.specs.declared.request.Entry.{Entry}
use Rattle.tt_outside.specs.declared.request.Pair.{Pair}
use Rattle.tt_outside.specs.declared.request.Reply.{Reply}
use Rattle.tt_outside.specs.declared.request.Reply.TheVariants.{Bytes, Status}
use Rattle.tt_outside.specs.declared.request.Request.{Request}
use Rattle.tt_outside.specs.declared.request.Request.TheVariants.{ReadFile, MakeDir, WriteFile, Spawn}

-- how many bytes a test may have kept where it asks for more, with those of the request
abbrev pub MAX_KEPT : ℕ
MAX_KEPT = 2 ^ 24

-- how many bytes a file and a stream of a test may have
abbrev pub LIMIT : ℕ
LIMIT = 2 ^ 22

abbrev pub bytes_in : List (List ℕ) → ℕ
bytes_in [] = 0
bytes_in (text ∷ texts) = length text + bytes_in texts

abbrev pub bytes_in_pairs : List Pair → ℕ
bytes_in_pairs [] = 0
bytes_in_pairs (pair ∷ pairs) = length pair.name + length pair.value + bytes_in_pairs pairs

-- a request's own bytes: all bytes in it, and one more
abbrev pub own_bytes : Request → ℕ
own_bytes (ReadFile path limit) = length path + 1
own_bytes (MakeDir path) = length path + 1
own_bytes (WriteFile path bytes append) = length path + length bytes + 1
own_bytes (Spawn words dir env input limit) = bytes_in words + length dir + bytes_in_pairs env + length input + 1

abbrev pub reply_bytes : Reply → ℕ
reply_bytes (Bytes bytes) = length bytes
reply_bytes (Status finish out err) = length out + length err
reply_bytes reply = 0

abbrev pub entry_bytes : Entry → ℕ
entry_bytes entry = own_bytes entry.request + reply_bytes entry.reply

-- how many bytes are kept behind entries, where so many were kept before
abbrev pub kept_behind : ℕ → List Entry → ℕ
kept_behind kept [] = kept
kept_behind kept (entry ∷ entries) = kept_behind (kept + entry_bytes entry) entries

-- a number, or one that stands for all greater ones; no test keeps as many bytes
abbrev pub capped : ℕ → ℕ
capped n = min n (2 ^ 25)

-- a request asks for a file or for streams of at most so many bytes
abbrev pub IsLimited : Request → Type 0
IsLimited (ReadFile path limit) = limit ≤ LIMIT
IsLimited (MakeDir path) = Unit {0}
IsLimited (WriteFile path bytes append) = Unit {0}
IsLimited (Spawn words dir env input limit) = limit ≤ LIMIT

-- and so do all
abbrev pub AreLimited : List Entry → Type 0
AreLimited [] = Unit {0}
AreLimited (entry ∷ entries) = IsLimited entry.request × AreLimited entries
