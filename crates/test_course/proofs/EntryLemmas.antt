-- Entries along a course, end to end, and along one that goes on as another.
-- By induction over the first of two lists; what is kept behind it is where the second begins.
-- `kept_first` is the hard one: bytes that are counted up to a number are counted alike from any place on.
use Rattle.std.proofs.Common.{◌≡◌, ◌+◌, ◌≤◌, ◌^◌, ℕ, List, [], ◌∷◌, ◌++◌, append_assoc, append-nil, length, refl, arith}
use Rattle.tt_outside.specs.Gave.{Gave, SameGave}
use Rattle.tt_outside.specs.declared.request.Entry.{Entry}
use Rattle.test_course.specs.Bytes.{AreLimited, capped, entry_bytes, kept_behind, own_bytes, reply_bytes}
use Rattle.test_course.specs.Course.{Course, over, asks, after, behind, followed}
use Rattle.test_course.specs.Entries.{AreAsked, AreGiven}

-- ---- end to end

pub behind-append : {S E : Type 0} (course : Course S E) (one other : List Entry)
    → behind course (one ++ other) ≡ behind (behind course one) other
behind-append course [] other = refl
behind-append course (entry ∷ entries) other = behind-append (after course entry.reply) entries other

pub kept_behind-append : (kept : ℕ) (one other : List Entry)
    → kept_behind kept (one ++ other) ≡ kept_behind (kept_behind kept one) other
kept_behind-append kept [] other = refl
kept_behind-append kept (entry ∷ entries) other = kept_behind-append (kept + entry_bytes entry) entries other

pub AreAsked-append : {S E : Type 0} (kept : ℕ) (course : Course S E) (one other : List Entry) → AreAsked kept course one
    → AreAsked (kept_behind kept one) (behind course one) other → AreAsked kept course (one ++ other)
AreAsked-append kept course [] other a b = b
AreAsked-append kept course (entry ∷ entries) other a b =
    (a.0, AreAsked-append (kept + entry_bytes entry) (after course entry.reply) entries other a.1 b)

pub AreGiven-append : (gave : Gave) (number : ℕ) (earlier one other : List Entry) → AreGiven gave number earlier one
    → AreGiven gave number (earlier ++ one) other → AreGiven gave number earlier (one ++ other)
AreGiven-append gave number earlier [] other a b = rw (append-nil earlier) at b
AreGiven-append gave number earlier (entry ∷ entries) other a b = (
  a.0,
  AreGiven-append gave number (earlier ++ entry ∷ []) entries other a.1
      (rw (append_assoc earlier (entry ∷ []) entries) b),
)

-- what was given by a hand that gives the same
pub AreGiven_same : (one two : Gave) → SameGave one two → (number : ℕ) (earlier entries : List Entry)
    → AreGiven one number earlier entries → AreGiven two number earlier entries
AreGiven_same one two same number earlier [] a = tt
AreGiven_same one two same number earlier (entry ∷ entries) a = (
  (same number earlier entry.request entry.reply).0 a.0,
  AreGiven_same one two same number (earlier ++ entry ∷ []) entries a.1,
)

-- ---- how many bytes entries keep

-- what is counted alike stays so
pub kept_alike : (one other : ℕ) (entries : List Entry) → capped one ≡ capped other
    → capped (kept_behind one entries) ≡ capped (kept_behind other entries)
kept_alike one other [] is = is
kept_alike one other (entry ∷ entries) is =
    kept_alike (one + entry_bytes entry) (other + entry_bytes entry) entries (omega (arith, is))

pub kept_first : (rest behind : List Entry) (entry : Entry) (kept later : ℕ) → rest ≡ entry ∷ behind
    → later ≡ capped (kept + capped (own_bytes entry.request) + capped (reply_bytes entry.reply))
    → capped (kept_behind later behind) ≡ capped (kept_behind kept rest)
kept_first rest behind entry kept later is counted =
    rw is (kept_alike later (kept + entry_bytes entry) behind (omega (arith, counted)))

pub kept_none : (rest : List Entry) (kept : ℕ) → length rest ≡ 0 → kept ≤ 2 ^ 25 → kept ≡ capped (kept_behind kept rest)
kept_none [] kept none most = omega (arith, most)
kept_none (entry ∷ rest) kept none most = absurd (omega arith)

pub AreLimited-append : (one other : List Entry) → AreLimited one → AreLimited other → AreLimited (one ++ other)
AreLimited-append [] other a b = b
AreLimited-append (entry ∷ entries) other a b = (a.0, AreLimited-append entries other a.1 b)

-- ---- along a course that goes on as another one

pub asked_followed : {S E T F : Type 0} (say : S → T) (next : S → E → Course T F) (kept : ℕ) (course : Course S E)
    (entries : List Entry) → AreAsked kept course entries → AreAsked kept (followed say next course) entries
    × (behind (followed say next course) entries ≡ followed say next (behind course entries))
asked_followed say next kept course [] a = (tt, refl)
asked_followed say next kept (over now end) (entry ∷ entries) a = absurd a.0.0
asked_followed say next kept (asks now request answered) (entry ∷ entries) a =
    let later = asked_followed say next (kept + entry_bytes entry) (answered entry.reply) entries a.1 in
    ((a.0, later.0), later.1)
