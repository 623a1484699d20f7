-- What a hand gives that answers FileCheck, count and not by itself.
-- Own rule: such a request is answered over what another hand gave to what it asks, one request after the other, behind the same earlier
-- entries; every other request is handed on.
use Rattle.std.specs.Prelude.{◌≡◌, ℕ, zero, suc, Bool, true, false, List, [], ◌∷◌}
use Rattle.inner_answers.specs.Inside.{IsReplyInside, asked_inside, is_inside}
use Rattle.tt_outside.specs.Faults.{Rose}
use Rattle.tt_outside.specs.Gave.{Gave, IsSteady, one_more}
use Rattle.tt_outside.specs.declared.request.Reply.{Reply}
use Rattle.tt_outside.specs.declared.request.Request.{Request}

-- ---- the replies

-- what a hand may answer to requests, for a test and behind the entries before
abbrev pub Gives : Type 1
Gives = Request → Reply → Type 0

-- replies were given to requests, one to each, in order
abbrev pub AreGiven : Gives → List Request → List Reply → Type 0
AreGiven gives [] replies = replies ≡ []
AreGiven gives (request ∷ asked) [] = ⊥
AreGiven gives (request ∷ asked) (reply ∷ replies) = gives request reply × AreGiven gives asked replies

-- a reply over what was given to what the request asks
abbrev pub GivenInside : Gives → Request → Reply → Type 0
GivenInside gives request reply =
    (replies : List Reply) × AreGiven gives (asked_inside request) replies × IsReplyInside request replies reply

-- the same where the request is answered inside, and else what was given to it
abbrev pub GivenIf : Bool → Gives → Request → Reply → Type 0
GivenIf true gives request reply = GivenInside gives request reply
GivenIf false gives request reply = gives request reply

-- what a hand round another one gives
abbrev pub in_gave : Gave → Gave
in_gave gave test earlier request = GivenIf (is_inside request) (gave test earlier) request

-- Law: where the one gives one reply at most, so does the other.
abbrev pub StaysSteady : Gave → Type 0
StaysSteady gave = IsSteady gave → IsSteady (in_gave gave)

-- ---- the counts of the hand in it

-- so many requests more, up to the last value
abbrev pub more : ℕ → ℕ → ℕ
more n zero = n
more n (suc count) = one_more (more n count)

-- a count of faults rose where there was one, and else it stayed
abbrev pub RoseIf : Bool → ℕ → ℕ → Type 0
RoseIf true before now = Rose before now
RoseIf false before now = now ≡ before
