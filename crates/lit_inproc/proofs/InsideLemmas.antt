-- What a hand gives that answers some requests by itself: the same where the hand in it gives the same; and what it asks, one request more.
-- By induction over what is asked, a reply to each.
use Rattle.std.proofs.Common.{◌≡◌, Bool, true, false, List, [], ◌∷◌, ◌++◌, refl}
use Rattle.inner_answers.specs.Inside.{AreFit, asked_inside, is_inside}
use Rattle.tt_outside.specs.Fits.{fits}
use Rattle.tt_outside.specs.Gave.{Gave, SameGave}
use Rattle.tt_outside.specs.declared.request.Reply.{Reply}
use Rattle.tt_outside.specs.declared.request.Request.{Request}
use Rattle.lit_inproc.specs.Inside.{AreGiven, GivenIf, Gives, in_gave}

-- what one gives, the other gives too
abbrev Goes : Gives → Gives → Type 0
Goes one other = (request : Request) (reply : Reply) → one request reply → other request reply

given_same : (one other : Gives) → Goes one other → (asked : List Request) (replies : List Reply)
    → AreGiven one asked replies → AreGiven other asked replies
given_same one other goes [] replies given = given
given_same one other goes (request ∷ asked) [] given = absurd given
given_same one other goes (request ∷ asked) (reply ∷ replies) given =
    (goes request reply given.0, given_same one other goes asked replies given.1)

given_if : (inside : Bool) (one other : Gives) → Goes one other → (request : Request) (reply : Reply)
    → GivenIf inside one request reply → GivenIf inside other request reply
given_if true one other goes request reply given =
    (given.0, given_same one other goes (asked_inside request) given.0 given.1, given.2)
given_if false one other goes request reply given = goes request reply given

-- hands round hands that give the same give the same
pub in_same : (one other : Gave) → SameGave one other → SameGave (in_gave one) (in_gave other)
in_same one other same test earlier request reply = (
  given_if (is_inside request) (one test earlier) (other test earlier) (λ asked told. (same test earlier asked told).0) request reply,
  given_if (is_inside request) (other test earlier) (one test earlier) (λ asked told. (same test earlier asked told).1) request reply,
)

-- one more request and its reply, behind others
pub given_behind : (gives : Gives) (asked : List Request) (replies : List Reply) (request : Request) (reply : Reply)
    → AreGiven gives asked replies → gives request reply → AreGiven gives (asked ++ request ∷ []) (replies ++ reply ∷ [])
given_behind gives [] replies request reply a b = rw a (b, refl)
given_behind gives (x ∷ asked) [] request reply a b = absurd a
given_behind gives (x ∷ asked) (y ∷ replies) request reply a b = (a.0, given_behind gives asked replies request reply a.1 b)

pub fit_behind : (asked : List Request) (replies : List Reply) (request : Request) (reply : Reply) → AreFit asked replies
    → fits request reply ≡ true → AreFit (asked ++ request ∷ []) (replies ++ reply ∷ [])
fit_behind [] [] request reply a b = (b, tt)
fit_behind [] (y ∷ replies) request reply a b = absurd a
fit_behind (x ∷ asked) [] request reply a b = absurd a
fit_behind (x ∷ asked) (y ∷ replies) request reply a b = (a.0, fit_behind asked replies request reply a.1 b)
