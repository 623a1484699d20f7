-- What stays of a hand behind requests, and what it answered, one part of a run after the other. Each record is
-- put together field by field: a part says what it left, and the next begins there. The hard one is
-- `answered_on`, an entry more: its request counts, and the faults rise exactly where it is broken.
use Rattle.std.proofs.Common.{◌≡◌, ◌≤◌, ◌∙◌, ℕ, List, [], ◌∷◌, ◌++◌, length, length-append, ap, arith}
use Rattle.tt_outside.specs.Faults.{Rose}
use Rattle.tt_outside.specs.Gave.{SameGave, last_of, one_more}
use Rattle.tt_outside.specs.declared.crew.Runner.{Ghosts as OfRunner}
use Rattle.tt_outside.specs.declared.request.Entry.{Entry}
use Rattle.tt_outside.specs.declared.request.Reply.TheVariants.{Broken}
use Rattle.test_course.specs.Bytes.{IsLimited}
use Rattle.test_course.specs.Course.{Course}
use Rattle.test_course.specs.Played.{Played}
use Rattle.test_course.proofs.EntryLemmas.{AreLimited-append}
use Rattle.test_course.proofs.PlayedLemmas.{SameGave-trans, asked_on, asked_trans, faults_on, faults_trans, played_as}
use Rattle.test_attempts.specs.Hands.{Answered, StaysOn}

pub stays_on : {H : Type 0} (runner : OfRunner H) (one two three : H) → StaysOn runner one two
    → runner.begun three ≡ runner.begun two → runner.rooms three ≡ runner.rooms two
    → SameGave (runner.gave three) (runner.gave two) → runner.ready three → runner.faults two ≤ runner.faults three
    → StaysOn runner one three
stays_on runner one two three p begun room gave ready later = record {
  begun = begun ∙ p.begun;
  room = room ∙ p.room;
  gave = SameGave-trans _ _ _ gave p.gave;
  ready = ready;
  later = omega (arith, p.later, later);
}

pub stays_trans : {H : Type 0} (runner : OfRunner H) (one two three : H) → StaysOn runner one two → StaysOn runner two three
    → StaysOn runner one three
stays_trans runner one two three p q = stays_on runner one two three p q.begun q.room q.gave q.ready q.later

-- what was played by a hand that stayed on its test
pub played_there : {H S E : Type 0} (runner : OfRunner H) (one two : H) (earlier entries : List Entry) (start : ℕ)
    (course other : Course S E) (kept : ℕ) (rest : Course S E) → StaysOn runner one two → course ≡ other
    → Played (runner.gave two) (last_of 0 (runner.begun two)) earlier entries start course kept rest
    → Played (runner.gave one) (last_of 0 (runner.begun one)) earlier entries start other kept rest
played_there runner one two earlier entries start course other kept rest p is played =
    played_as _ _ _ _ _ _ _ _ _ _ _ p.gave (ap (λ ns. last_of 0 ns) p.begun) is played

-- entries are no fewer than those before them
no_fewer : (entries later more : List Entry) → later ≡ entries ++ more → length entries ≤ length later
no_fewer entries later more is = let sum = ap length is ∙ length-append entries more in omega (arith, sum)

pub answered_trans : {H : Type 0} (runner : OfRunner H) (one two three : H) (earlier entries others first more : List Entry)
    → Answered runner one two earlier entries → Answered runner two three entries others → entries ≡ earlier ++ first
    → others ≡ entries ++ more → Answered runner one three earlier others
answered_trans runner one two three earlier entries others first more p q front whole = record {
  limited = λ before. q.limited (p.limited before);
  asked = asked_trans _ _ _ _ _ _ p.asked q.asked (no_fewer _ _ _ front) (no_fewer _ _ _ whole);
  faults = faults_trans _ _ _ _ _ more _ p.faults q.faults whole;
}

-- an entry more
pub answered_on : {H : Type 0} (runner : OfRunner H) (one two three : H) (earlier entries first : List Entry) (entry : Entry)
    → Answered runner one two earlier entries → entries ≡ earlier ++ first → IsLimited entry.request
    → runner.asked three ≡ one_more (runner.asked two) → runner.faults two ≤ runner.faults three
    → (entry.reply ≡ Broken → Rose (runner.faults two) (runner.faults three))
    → ((entry.reply ≡ Broken → ⊥) → runner.faults three ≡ runner.faults two)
    → Answered runner one three earlier (entries ++ entry ∷ [])
answered_on runner one two three earlier entries first entry p front limit counted later cause calm = record {
  limited = λ before. AreLimited-append entries (entry ∷ []) (p.limited before) (limit, tt);
  asked = asked_on _ _ _ _ _ entry p.asked counted (no_fewer _ _ _ front);
  faults = faults_on _ _ _ _ _ entry p.faults later cause calm;
}
