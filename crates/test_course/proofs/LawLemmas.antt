-- A steady crew leads along a course in one way, and each entry takes a byte: by induction on the lists.
-- At each entry one request is due at most, and the crew has one reply to it; where nothing is due both lists end.
-- The long one is `few_bytes`: what is kept grows by each entry up to the limit, past which nothing is asked.
use Rattle.std.proofs.Common.{◌≡◌, ◌+◌, ◌*◌, ◌≤◌, ℕ, true, leb, max, List, [], ◌∷◌, ◌++◌, length, refl, sym, ap, ◌∙◌, arith}
use Rattle.std.proofs.lemmas.Bool.{and_parts, leb-true}
use Rattle.tt_outside.specs.Fits.{fits}
use Rattle.tt_outside.specs.Gave.{Gave, IsSteady}
use Rattle.tt_outside.specs.declared.request.Entry.{Entry}
use Rattle.tt_outside.specs.declared.request.Request.TheVariants.{ReadFile, MakeDir, WriteFile, Spawn}
use Rattle.tt_outside.specs.declared.request.Request.{Request}
use Rattle.tt_outside.specs.declared.request.Reply.{Reply}
use Rattle.tt_outside.specs.declared.request.Reply.TheVariants.{Bytes, Written, Missing, Status, TooLarge, Broken}
use Rattle.test_course.specs.Bytes.{AreLimited, IsLimited, LIMIT, MAX_KEPT, entry_bytes, kept_behind, own_bytes, reply_bytes}
use Rattle.test_course.specs.Course.{Course, over, asks, after}
use Rattle.test_course.specs.Entries.{AreAsked, AreGiven, Follows, IsDue, IsOver}

-- of a course nothing is due where nothing more is asked
over_or_asked : {S E : Type 0} (kept : ℕ) (course : Course S E) (entry : Entry) → IsOver kept course
    → IsDue course entry.request → kept + own_bytes entry.request ≤ MAX_KEPT → ⊥
over_or_asked kept (over now end) entry none due room = due
over_or_asked kept (asks now request next) entry none due room = let r = rw due at room in absurd (omega (arith, r, none))

-- one request is due at most
one_due : {S E : Type 0} (course : Course S E) (one other : Request) → IsDue course one → IsDue course other → one ≡ other
one_due (over now end) one other a b = absurd a
one_due (asks now request next) one other a b = a ∙ sym b

pub one_list : {S E : Type 0} (gave : Gave) → IsSteady gave → (number kept : ℕ) (course : Course S E)
    (earlier first second : List Entry) → AreGiven gave number earlier first → AreGiven gave number earlier second
    → Follows kept course first → Follows kept course second → first ≡ second
one_list gave steady number kept course earlier [] [] a b f s = refl
one_list gave steady number kept course earlier [] (y ∷ ys) a b f s =
    absurd (over_or_asked kept course y f.ends s.asked.0.0 s.asked.0.2)
one_list gave steady number kept course earlier (x ∷ xs) [] a b f s =
    absurd (over_or_asked kept course x s.ends f.asked.0.0 f.asked.0.2)
one_list gave steady number kept course earlier (x ∷ xs) (y ∷ ys) a b f s =
    let asked : x.request ≡ y.request = one_due course x.request y.request f.asked.0.0 s.asked.0.0 in
    let replied : x.reply ≡ y.reply = steady number earlier x.request x.reply y.reply a.0 (rw asked b.0) in
    let same : x ≡ y = λ i. record { request = asked i; reply = replied i } in
    let rest : xs ≡ ys = one_list gave steady number (kept + entry_bytes x) (after course x.reply) (earlier ++ x ∷ [])
    xs ys a.1 (rw same b.1) (record { asked = f.asked.1; ends = f.ends })
    (record { asked = rw same s.asked.1; ends = rw same s.ends }) in
    rw same (ap (λ (zs : List Entry). y ∷ zs) rest)

some_bytes : (request : Request) → 1 ≤ own_bytes request
some_bytes (ReadFile path limit) = omega arith
some_bytes (MakeDir path) = omega arith
some_bytes (WriteFile path bytes append) = omega arith
some_bytes (Spawn words dir env input limit) = omega arith

fewer : {S E : Type 0} (kept : ℕ) (course : Course S E) (entries : List Entry) → AreAsked kept course entries
    → kept + length entries ≤ max kept MAX_KEPT
fewer kept course [] are = omega arith
fewer kept course (entry ∷ entries) are =
    let later = fewer (kept + entry_bytes entry) (after course entry.reply) entries are.1 in
    omega (arith, are.0.2, some_bytes entry.request, later)

pub few_entries : {S E : Type 0} (course : Course S E) (entries : List Entry) → AreAsked 0 course entries
    → length entries ≤ MAX_KEPT
few_entries course entries are = omega (arith, fewer 0 course entries are)

-- ---- how many bytes a test keeps

reply_few : (request : Request) (answered : Reply) → fits request answered ≡ true → IsLimited request
    → reply_bytes answered ≤ 2 * LIMIT
reply_few request Written fit few = omega arith
reply_few request Missing fit few = omega arith
reply_few request (TooLarge stream) fit few = omega arith
reply_few request Broken fit few = omega arith
reply_few (ReadFile path limit) (Bytes bytes) fit few = omega (arith, few, leb-true (length bytes) limit fit)
reply_few (MakeDir path) (Bytes bytes) fit few = absurd (cc fit)
reply_few (WriteFile path text append) (Bytes bytes) fit few = absurd (cc fit)
reply_few (Spawn words dir env input limit) (Bytes bytes) fit few = absurd (cc fit)
reply_few (ReadFile path limit) (Status finish out err) fit few = absurd (cc fit)
reply_few (MakeDir path) (Status finish out err) fit few = absurd (cc fit)
reply_few (WriteFile path text append) (Status finish out err) fit few = absurd (cc fit)
reply_few (Spawn words dir env input limit) (Status finish out err) fit few =
    let fits = and_parts (leb (length out) limit) (leb (length err) limit) fit in
    omega (arith, few, leb-true (length out) limit fits.0, leb-true (length err) limit fits.1)

kept_few : {S E : Type 0} (kept : ℕ) (course : Course S E) (entries : List Entry) → AreAsked kept course entries
    → AreLimited entries → kept_behind kept entries ≤ max kept (MAX_KEPT + 2 * LIMIT)
kept_few kept course [] are few = omega arith
kept_few kept course (entry ∷ entries) are few =
    let later = kept_few (kept + entry_bytes entry) (after course entry.reply) entries are.1 few.1 in
    omega (arith, are.0.2, reply_few entry.request entry.reply are.0.1 few.0, later)

pub few_bytes : {S E : Type 0} (course : Course S E) (entries : List Entry) → AreAsked 0 course entries
    → AreLimited entries → kept_behind 0 entries ≤ MAX_KEPT + 2 * LIMIT
few_bytes course entries are few = omega (arith, kept_few 0 course entries are few)
