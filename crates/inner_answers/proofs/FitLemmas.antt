-- Shown: replies that fit what is asked inside tell only files that FileCheck takes, and so is the input. Idea: each file is asked for within
-- its limit, which is below that of FileCheck's answer; an input is a file, or else the request's own within its limit. The hard one is
-- all_short, request by request.
use Rattle.std.proofs.Common.{◌≡◌, ◌^◌, ◌≤◌, ℕ, suc, Bool, true, false, if◌then◌else◌, nat_le, List, [], ◌∷◌, length, drop, Option, Some, None, refl, lit≤, arith}
use Rattle.std.proofs.lemmas.Bool.{leb-true}
use Rattle.std.proofs.lemmas.List.Elements.{All-append, All-cons, All-nil}
use Rattle.std.specs.List.{All}
use Rattle.filecheck_tool.specs.declared.file_names.Names.{Names}
use Rattle.shell_play.specs.Places.{joined}
use Rattle.tt_outside.specs.Fits.{fits}
use Rattle.tt_outside.specs.declared.request.Pair.{Pair}
use Rattle.tt_outside.specs.declared.request.Reply.{Reply}
use Rattle.tt_outside.specs.declared.request.Reply.TheVariants as kinds
use Rattle.tt_outside.specs.declared.request.Request.{Request}
use Rattle.tt_outside.specs.declared.request.Request.TheVariants.{ReadFile, MakeDir, WriteFile, Spawn}
use Rattle.tt_run.specs.Run.{IsShort}
use Rattle.tt_run.specs.declared.reading.Reading.TheVariants.{Whole, TooLarge}
use Rattle.inner_answers.specs.Below.{core_asks, names_in, tool_asks}
use Rattle.inner_answers.specs.Files.{AreShort, check_asked, input_asked, input_read, is_shared, last_or, last_reply, reading_of, standard_read}
use Rattle.inner_answers.specs.Inside.{AreFit}
use Rattle.inner_answers.specs.Peeled.{tool_in}
use Rattle.inner_answers.specs.declared.tool.Tool.{Tool}
use Rattle.inner_answers.specs.declared.tool.Tool.TheVariants.{FileCheck, Count, Not}

-- a file is asked for within the limit
abbrev IsSmall : Request → Type 0
IsSmall (ReadFile path limit) = limit ≤ 2 ^ 30
IsSmall request = Unit {0}

fit_short : (request : Request) (reply : Reply) → IsSmall request → fits request reply ≡ true
    → IsShort (2 ^ 30) (reading_of reply)
fit_short (ReadFile path limit) (kinds.Bytes bytes) small fit = omega (arith, small, leb-true (length bytes) limit fit)
fit_short (MakeDir path) (kinds.Bytes bytes) small fit = cc
fit_short (WriteFile path bytes append) (kinds.Bytes read) small fit = cc
fit_short (Spawn words dir env input limit) (kinds.Bytes bytes) small fit = cc
fit_short request kinds.Written small fit = tt
fit_short request kinds.Missing small fit = tt
fit_short request (kinds.Status finish out err) small fit = tt
fit_short request (kinds.TooLarge stream) small fit = tt
fit_short request kinds.Broken small fit = tt

all_short : (requests : List Request) (replies : List Reply) → All IsSmall requests → AreFit requests replies → AreShort replies
all_short [] [] small fit = All-nil _
all_short (request ∷ requests) (reply ∷ replies) small fit =
    All-cons (λ (one : Reply). IsShort (2 ^ 30) (reading_of one)) reply replies
    (fit_short request reply (small 0 request (omega arith)) fit.0)
    (all_short requests replies (λ k d within. small (suc k) d (omega (arith, within))) fit.1)
all_short [] (reply ∷ replies) small fit = absurd fit
all_short (request ∷ requests) [] small fit = absurd fit

check_small : (dir : List ℕ) (check : Option (List ℕ)) → All IsSmall (check_asked dir check)
check_small dir (Some name) = All-cons IsSmall (ReadFile (joined dir name) (2 ^ 24)) [] (lit≤ tt) (All-nil IsSmall)
check_small dir None = All-nil IsSmall

input_small : (dir : List ℕ) (check input : Option (List ℕ)) → All IsSmall (input_asked dir check input)
input_small dir check None = All-nil IsSmall
input_small dir check (Some name) = each (is_shared check name)
  where
    each : (shared : Bool) → All IsSmall (if shared then [] else ReadFile (joined dir name) (2 ^ 26) ∷ [])
    each true = All-nil IsSmall
    each false = All-cons IsSmall (ReadFile (joined dir name) (2 ^ 26)) [] (lit≤ tt) (All-nil IsSmall)

tool_small : (tool : Option Tool) (core : List (List ℕ)) (dir : List ℕ) (env : List Pair) (input : List ℕ) (limit : ℕ)
    → All IsSmall (tool_asks tool core dir env input limit)
tool_small (Some FileCheck) core dir env input limit =
    let names = names_in (drop 1 core) in
    All-append IsSmall (check_asked dir names.check) (input_asked dir names.check names.input) (check_small dir names.check)
    (input_small dir names.check names.input)
tool_small (Some Count) core dir env input limit = All-nil IsSmall
tool_small (Some Not) core dir env input limit = All-nil IsSmall
tool_small None core dir env input limit = All-cons IsSmall (Spawn core dir env input limit) [] tt (All-nil IsSmall)

pub fit_are_short : (core : List (List ℕ)) (dir : List ℕ) (env : List Pair) (input : List ℕ) (limit : ℕ) (replies : List Reply)
    → AreFit (core_asks core dir env input limit) replies → AreShort replies
fit_are_short core dir env input limit replies =
    all_short (core_asks core dir env input limit) replies (tool_small (tool_in core) core dir env input limit)

-- ---- the input

last_short : (other : Reply) (replies : List Reply) → IsShort (2 ^ 30) (reading_of other) → AreShort replies
    → IsShort (2 ^ 30) (reading_of (last_or other replies))
last_short other [] one all = one
last_short other (reply ∷ replies) one all =
    last_short reply replies (all 0 reply (omega arith)) (λ k d within. all (suc k) d (omega (arith, within)))

standard_short : (input : List ℕ) → IsShort (2 ^ 30) (standard_read input)
standard_short input = each (nat_le (length input) (2 ^ 26)) refl
  where
    each : (b : Bool) → nat_le (length input) (2 ^ 26) ≡ b → IsShort (2 ^ 30) (if b then Whole input else TooLarge)
    each true is = omega (arith, leb-true (length input) (2 ^ 26) is)
    each false is = tt

either_short : (name : Option (List ℕ)) (input : List ℕ) (replies : List Reply) → AreShort replies
    → IsShort (2 ^ 30) (elim name [ Some one ↦ reading_of (last_reply replies) | None ↦ standard_read input ])
either_short (Some one) input replies all = last_short kinds.Missing replies tt all
either_short None input replies all = standard_short input

pub input_short : (names : Names) (input : List ℕ) (replies : List Reply) → AreShort replies
    → IsShort (2 ^ 30) (input_read names input replies)
input_short names input replies all = either_short names.input input replies all
