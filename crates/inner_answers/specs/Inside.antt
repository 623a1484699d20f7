-- Requests that are answered without a process of their own. Own rule: FileCheck, `count` and `not`, as they answer where they run. What
-- is no such request is asked as it is.
use Rattle.std.specs.Prelude.{◌≡◌, ⊤, ℕ, Bool, true, false, ◌&&◌, is_some, List, [], ◌∷◌}
use Rattle.std.specs.List.{list_all, list_any}
use Rattle.std.specs.Str.{is_utf8}
use Rattle.opt_words.specs.Step.{texts}
use Rattle.tt_outside.specs.Fits.{fits}
use Rattle.tt_outside.specs.declared.request.Reply.{Reply}
use Rattle.tt_outside.specs.declared.request.Reply.TheVariants.{Broken}
use Rattle.tt_outside.specs.declared.request.Request.{Request}
use Rattle.tt_outside.specs.declared.request.Request.TheVariants.{Spawn}
use Rattle.inner_answers.specs.Below.{IsCoreReply, core_asks}
use Rattle.inner_answers.specs.Files.{last_reply}
use Rattle.inner_answers.specs.Peeled.{Peeled, is_short, peel, tool_in}
use Rattle.inner_answers.specs.Peeling.{IsPeeling}
use Rattle.inner_answers.specs.Told.{inverse_all}
use Rattle.inner_answers.specs.declared.inside.Inside.{Inside}

-- a request is answered inside: it runs one of the tools, and its words are texts
abbrev pub is_inside : Request → Bool
is_inside (Spawn words dir env input limit) = is_some (tool_in words) && list_all is_utf8 words
is_inside request = false

-- ---- what is asked

abbrev pub asked_where : Bool → Request → List Request
asked_where true (Spawn words dir env input limit) = core_asks (peel (is_short input) 0 words).core dir env input limit
asked_where inside request = request ∷ []

-- what a request asks of the hand, in order; where it isn't answered inside, that is the request itself
abbrev pub asked_inside : Request → List Request
asked_inside request = asked_where (is_inside request) request

-- replies fit the requests, one by one
abbrev pub AreFit : List Request → List Reply → Type 0
AreFit [] [] = ⊤
AreFit (request ∷ requests) (reply ∷ replies) = (fits request reply ≡ true) × AreFit requests replies
AreFit [] (reply ∷ replies) = ⊥
AreFit (request ∷ requests) [] = ⊥

-- ---- the reply

abbrev pub is_broken : Reply → Bool
is_broken Broken = true
is_broken reply = false

abbrev pub IsPeeledReply : Peeled → List ℕ → ℕ → List Reply → Reply → Type 0
IsPeeledReply peeled input limit replies reply =
    (core : Reply) × IsCoreReply peeled.core input limit replies core × (reply ≡ inverse_all limit peeled.levels core)

-- the reply over replies of which none is a fault
abbrev pub IsReplyOver : Bool → Request → List Reply → Reply → Type 0
IsReplyOver true (Spawn words dir env input limit) replies reply =
    IsPeeledReply (peel (is_short input) 0 words) input limit replies reply
IsReplyOver inside request replies reply = reply ≡ last_reply replies

abbrev pub IsReplyUnless : Bool → Request → List Reply → Reply → Type 0
IsReplyUnless true request replies reply = reply ≡ Broken
IsReplyUnless false request replies reply = IsReplyOver (is_inside request) request replies reply

-- the reply to a request over the replies to what it asks: where one of these is a fault, that
abbrev pub IsReplyInside : Request → List Reply → Reply → Type 0
IsReplyInside request replies reply = IsReplyUnless (list_any is_broken replies) request replies reply

-- ---- what is kept of a request

abbrev pub words_of : Request → List (List ℕ)
words_of (Spawn words dir env input limit) = words
words_of request = []

abbrev pub input_of : Request → List ℕ
input_of (Spawn words dir env input limit) = input
input_of request = []

-- its words, where it is answered inside, and how they are peeled
pub record IsOf (request : Request) (kept : Inside) : Type 0 where
  pub inside : is_inside request ≡ true
  pub words : texts kept.words ≡ words_of request
  pub peeling : IsPeeling (is_short (input_of request)) (words_of request) kept.peeling
