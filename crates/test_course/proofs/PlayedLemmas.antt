-- One entry more along a course, and entries end to end: what was played, what is kept, and what the hand counted.
-- By induction over the entries, which lead the course on; what a hand gives may be said by another that gives the same.
-- The hard ones are `played_trans`, where bytes are counted up to a number, and `faults_trans`, where one of two lists has the fault.
use Rattle.std.proofs.lemmas.List.Folds.{list_any-append}
use Rattle.std.proofs.lemmas.Bool.{cases_Bool, or_parts}
use Rattle.std.proofs.Math.Bool.{or-false}
use Rattle.tt_outside.specs.declared.request.Reply.{Reply}
use Rattle.tt_outside.specs.declared.request.Reply.TheVariants.{Bytes, Written, Missing, Status, TooLarge, Broken}
use Rattle.std.proofs.Common.{inl, inr, ◌≡◌, ◌+◌, ◌≤◌, ◌^◌, ◌||◌, ℕ, true, List, [], ◌∷◌, ◌++◌, append_assoc, append-nil, length-append, length, refl, sym, ap, ◌∙◌, arith}
use Rattle.tt_outside.specs.Faults.{Rose}
use Rattle.tt_outside.specs.Fits.{fits}
use Rattle.tt_outside.specs.Gave.{Gave, SameGave, one_more}
use Rattle.tt_outside.specs.declared.request.Entry.{Entry}
use Rattle.test_course.specs.Bytes.{MAX_KEPT, capped, kept_behind, own_bytes, reply_bytes}
use Rattle.test_course.specs.Course.{Course, over, asks, after, behind, followed}
use Rattle.test_course.specs.Entries.{AreAsked, AreGiven, IsDue, IsOver}
use Rattle.test_course.specs.Played.{CountsAsked, CountsFaults, IsFull, Played, any_broken, is_broken}
use Rattle.test_course.proofs.EntryLemmas.{AreAsked-append, AreGiven-append, AreGiven_same, asked_followed, behind-append, kept_alike, kept_behind-append}

-- ---- what was played

-- what was played, by its parts
pub played_by : {S E : Type 0} {gave : Gave} {number : ℕ} {earlier entries : List Entry} {start : ℕ} {course : Course S E}
    {kept : ℕ} {rest : Course S E} (more : List Entry) → entries ≡ earlier ++ more → AreAsked start course more
    → AreGiven gave number earlier more → rest ≡ behind course more → kept ≡ capped (kept_behind start more)
    → Played gave number earlier entries start course kept rest
played_by more whole asked given leads counted =
    record { more = more; whole = whole; asked = asked; given = given; leads = leads; counted = counted }

-- at first nothing was asked
pub played_none : {S E : Type 0} (gave : Gave) (number : ℕ) (earlier : List Entry) (start : ℕ) (course : Course S E)
    → start ≤ 2 ^ 25 → Played gave number earlier earlier start course start course
played_none gave number earlier start course most =
    played_by [] (sym (append-nil earlier)) tt tt refl (omega (arith, most))

-- what is asked where bytes are counted is asked where they are kept
AreAsked_counted : {S E : Type 0} (kept now : ℕ) (course : Course S E) (entries : List Entry) → kept ≡ capped now
    → AreAsked kept course entries → AreAsked now course entries
AreAsked_counted kept now course [] is asked = tt
AreAsked_counted kept now course (entry ∷ entries) is asked =
    let same : kept ≡ now = omega (arith, is, asked.0.2) in rw same at asked

-- what was played behind what was played
pub played_trans : {S E : Type 0} (gave : Gave) (number : ℕ) (earlier entries others : List Entry) (start : ℕ)
    (course : Course S E) (kept : ℕ) (rest : Course S E) (later : ℕ) (last : Course S E)
    → Played gave number earlier entries start course kept rest → Played gave number entries others kept rest later last
    → Played gave number earlier others start course later last
played_trans gave number earlier entries others start course kept rest later last p q =
    let begun = kept_behind start p.more in
    let counted : capped (kept_behind kept q.more) ≡ capped (kept_behind begun q.more) =
    kept_alike kept begun q.more (omega (arith, p.counted)) in
    played_by (p.more ++ q.more) (q.whole ∙ rw p.whole (append_assoc earlier p.more q.more))
    (AreAsked-append start course p.more q.more p.asked
    (AreAsked_counted kept begun (behind course p.more) q.more p.counted (rw p.leads at q.asked)))
    (AreGiven-append gave number earlier p.more q.more p.given (rw p.whole at q.given))
    (q.leads ∙ ap (λ c. behind c q.more) p.leads ∙ sym (behind-append course p.more q.more))
    (q.counted ∙ counted ∙ ap capped (sym (kept_behind-append start p.more q.more)))

-- an entry that is asked and given, behind others
pub played_on : {S E : Type 0} (gave : Gave) (number : ℕ) (earlier entries : List Entry) (start : ℕ)
    (course : Course S E) (kept : ℕ) (rest : Course S E) (entry : Entry) (later : ℕ)
    → Played gave number earlier entries start course kept rest → IsDue rest entry.request
    → fits entry.request entry.reply ≡ true → kept + capped (own_bytes entry.request) ≤ MAX_KEPT
    → gave number entries entry.request entry.reply
    → later ≡ capped (kept + capped (own_bytes entry.request) + capped (reply_bytes entry.reply))
    → Played gave number earlier (entries ++ entry ∷ []) start course later (after rest entry.reply)
played_on gave number earlier entries start course kept rest entry later p due fit room given is =
    played_trans gave number earlier entries (entries ++ entry ∷ []) start course kept rest later (after rest entry.reply) p
    (played_by (entry ∷ []) refl ((due, fit, omega (arith, room)), tt) (given, tt) refl (omega (arith, is)))

-- what was played along a course that goes on as another one
pub played_followed : {S E T F : Type 0} (say : S → T) (next : S → E → Course T F) (gave : Gave) (number : ℕ)
    (earlier entries : List Entry) (start : ℕ) (course : Course S E) (kept : ℕ) (rest : Course S E)
    → Played gave number earlier entries start course kept rest
    → Played gave number earlier entries start (followed say next course) kept (followed say next rest)
played_followed say next gave number earlier entries start course kept rest p =
    let along = asked_followed say next start course p.more p.asked in
    played_by p.more p.whole along.0 p.given (ap (followed say next) p.leads ∙ sym along.1) p.counted

-- what was played by a hand that gives the same
pub played_as : {S E : Type 0} (one two : Gave) (first second : ℕ) (earlier entries : List Entry) (start : ℕ)
    (course other : Course S E) (kept : ℕ) (rest : Course S E) → SameGave one two → first ≡ second → course ≡ other
    → Played one first earlier entries start course kept rest → Played two second earlier entries start other kept rest
played_as one two first second earlier entries start course other kept rest same number is p =
    played_by p.more p.whole (rw is at p.asked) (rw number at (AreGiven_same one two same first earlier p.more p.given))
    (p.leads ∙ ap (λ c. behind c p.more) is) p.counted

-- where nothing more is asked, as bytes are counted, nothing more is asked
pub full_over : {S E : Type 0} (kept now : ℕ) (rest : Course S E) → kept ≡ capped now → IsFull kept rest → IsOver now rest
full_over kept now (over shown end) counted full = tt
full_over kept now (asks shown request next) counted full = omega (arith, counted, full)

-- ---- what the hand counted

pub SameGave-trans : (one two three : Gave) → SameGave one two → SameGave two three → SameGave one three
SameGave-trans one two three e f = λ t s q r. (λ x. (f t s q r).0 ((e t s q r).0 x), λ x. (e t s q r).1 ((f t s q r).1 x))

pub asked_on : (before now later : ℕ) (earlier entries : List Entry) (entry : Entry)
    → CountsAsked before now earlier entries → later ≡ one_more now → length earlier ≤ length entries
    → CountsAsked before later earlier (entries ++ entry ∷ [])
asked_on before now later earlier entries entry counts is front = λ few.
    let more : length (entries ++ entry ∷ []) ≡ length entries + 1 = length-append entries (entry ∷ []) in
    omega (arith, few, more, counts (omega (arith, few, more)), is, front)

pub asked_trans : (before now later : ℕ) (earlier entries others : List Entry) → CountsAsked before now earlier entries
    → CountsAsked now later entries others → length earlier ≤ length entries → length entries ≤ length others
    → CountsAsked before later earlier others
asked_trans before now later earlier entries others one two front more = λ few.
    let first = one (omega (arith, few, more)) in omega (arith, first, two (omega (arith, few, first)))

broken_is : (reply : Reply) → is_broken reply ≡ true → reply ≡ Broken
broken_is Broken is = refl
broken_is (Bytes bytes) is = cc
broken_is Written is = cc
broken_is Missing is = cc
broken_is (Status finish out err) is = cc
broken_is (TooLarge stream) is = cc

any_broken-append : (one other : List Entry) → any_broken (one ++ other) ≡ (any_broken one || any_broken other)
any_broken-append one other = list_any-append (λ entry. is_broken entry.reply) one other

pub faults_trans : (before now later : ℕ) (earlier entries more others : List Entry)
    → CountsFaults before now earlier entries → CountsFaults now later entries others → others ≡ entries ++ more
    → CountsFaults before later earlier others
faults_trans before now later earlier entries more others one two whole = record {
  later = omega (arith, one.later, two.later);
  broken = λ none broken. elim (cases_Bool (any_broken entries)) [
    | inl here ↦ omega (arith, one.broken none here, two.later)
    | inr calm ↦ omega (arith, two.broken calm broken, one.calm calm)
  ];
  calm = λ none. two.calm none ∙ one.calm
      (or_parts (any_broken entries) (any_broken more) (sym (any_broken-append entries more) ∙ rw whole at none)).0;
}

pub faults_on : (before now later : ℕ) (earlier entries : List Entry) (entry : Entry)
    → CountsFaults before now earlier entries → now ≤ later → (entry.reply ≡ Broken → Rose now later)
    → ((entry.reply ≡ Broken → ⊥) → later ≡ now) → CountsFaults before later earlier (entries ++ entry ∷ [])
faults_on before now later earlier entries entry counts grows cause calm =
    let last : any_broken (entries ++ entry ∷ []) ≡ (any_broken entries || is_broken entry.reply) =
    any_broken-append entries (entry ∷ []) ∙ ap (λ here. any_broken entries || here) (or-false (is_broken entry.reply)) in
    faults_trans before now later earlier entries (entry ∷ []) (entries ++ entry ∷ []) counts
    (record {
      later = grows;
      broken = λ none broken. cause (broken_is entry.reply (rw none at (sym last ∙ broken)));
      calm = λ none. calm (λ broken.
          cc ((or_parts (any_broken entries) (is_broken entry.reply) (sym last ∙ none)).1, ap is_broken broken));
    }) refl
