-- What was asked of a hand, behind earlier entries of the same test.
-- Own rule: a number stands for the kept bytes, up to one that no test keeps.
use Rattle.std.specs.Prelude.{◌≡◌, ◌+◌, ◌≤◌, ◌<◌, ◌^◌, ℕ, Bool, true, false, List, ◌++◌, length}
use Rattle.std.specs.List.{list_any}
use Rattle.tt_outside.specs.Faults.{Rose}
use Rattle.tt_outside.specs.Gave.{Gave}
use Rattle.tt_outside.specs.declared.request.Entry.{Entry}
use Rattle.tt_outside.specs.declared.request.Reply.{Reply}
use Rattle.tt_outside.specs.declared.request.Reply.TheVariants.{Broken}
use Rattle.test_course.specs.Bytes.{MAX_KEPT, capped, kept_behind, own_bytes}
use Rattle.test_course.specs.Course.{Course, over, asks, behind}
use Rattle.test_course.specs.Entries.{AreAsked, AreGiven}

-- Behind earlier entries others are what a course asks where so many bytes are kept, each was given to the test of this
-- number, and behind them so many bytes are kept and this is left of the course.
pub record Played {S E : Type 0} (gave : Gave) (number : ℕ) (earlier entries : List Entry) (start : ℕ)
    (course : Course S E) (kept : ℕ) (rest : Course S E) : Type 0 where
  pub more : List Entry
  pub whole : entries ≡ earlier ++ more
  pub asked : AreAsked start course more
  pub given : AreGiven gave number earlier more
  pub leads : rest ≡ behind course more
  pub counted : kept ≡ capped (kept_behind start more)

-- nothing more is asked where so many bytes are kept, as they are counted: the course is over, or what is due has no room
abbrev pub IsFull : {S E : Type 0} → ℕ → Course S E → Type 0
IsFull kept (over now end) = Unit {0}
IsFull kept (asks now request next) = MAX_KEPT < kept + capped (own_bytes request)

abbrev pub is_broken : Reply → Bool
is_broken Broken = true
is_broken reply = false

-- whether one of the replies is a fault of the outside
abbrev pub any_broken : List Entry → Bool
any_broken entries = list_any (λ entry. is_broken entry.reply) entries

-- a hand's count of faults rose where one of the entries behind the earlier ones is Broken, and else it stayed
pub record CountsFaults (before now : ℕ) (earlier entries : List Entry) : Type 0 where
  pub later : before ≤ now
  pub broken : any_broken earlier ≡ false → any_broken entries ≡ true → Rose before now
  pub calm : any_broken entries ≡ false → now ≡ before

-- a hand's count of requests grew by one for each of the entries behind the earlier ones, where it has room for them
abbrev pub CountsAsked : ℕ → ℕ → List Entry → List Entry → Type 0
CountsAsked before now earlier entries =
    before + length entries < 2 ^ 64 + length earlier → now + length earlier ≡ before + length entries
