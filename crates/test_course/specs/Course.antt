-- What is asked of the outside, one request after the other.
-- Own rule: a course says what is asked now, and for each reply how it goes on.
use Rattle.std.specs.Prelude.{List, [], ◌∷◌}
use Rattle.tt_outside.specs.declared.request.Entry.{Entry}
use Rattle.tt_outside.specs.declared.request.Reply.{Reply}
use Rattle.tt_outside.specs.declared.request.Request.{Request}

-- Nothing more is asked, or a request is due and each reply leads on. At each moment something is shown of what came
-- so far.
pub data Course (S E : Type 0) : Type 0 where
  over : S → E → Course S E
  asks : S → Request → (Reply → Course S E) → Course S E

-- what is shown
abbrev pub shown : {S E : Type 0} → Course S E → S
shown (over now end) = now
shown (asks now request next) = now

-- how it goes on behind a reply
abbrev pub after : {S E : Type 0} → Course S E → Reply → Course S E
after (over now end) reply = over now end
after (asks now request next) reply = next reply

-- and behind entries
abbrev pub behind : {S E : Type 0} → Course S E → List Entry → Course S E
behind course [] = course
behind course (entry ∷ entries) = behind (after course entry.reply) entries

-- another course goes on where this one is over; what this one shows is shown in another way
abbrev pub followed : {S E T F : Type 0} → (S → T) → (S → E → Course T F) → Course S E → Course T F
followed say next (over now end) = next now end
followed say next (asks now request answered) = asks (say now) request (λ reply. followed say next (answered reply))
