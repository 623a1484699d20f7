-- What is told of a line by an expression without references, for one that derives no more than that one spans.
-- What begins in the line ends in it, so it is led back from there, and begins at a place of the set.
-- None is hard.
use Rattle.std.proofs.Common.{◌≡◌, ◌∙◌, ℕ, ◌+◌, ◌≤◌, ◌<◌, Bool, IsTrue, Some, List, false, true≢false, length, sym, subst, inl, inr, arith}
use Rattle.std.proofs.lemmas.Bool.{cases_lt}
use Rattle.std.specs.FinMap.{empty}
use Rattle.ere_match.specs.Filter.{MayLie}
use Rattle.ere_match.specs.Line.{EndsBy, HasLine, StaysUpTo}
use Rattle.ere_match.specs.declared.line.Line.{Line}
use Rattle.ere_places.specs.Seen.{is_held}
use Rattle.ere_relaxed.specs.Relaxed.{AreBytes, SpansAll}
use Rattle.ere_slow.specs.Slow.{HasNoHitBefore}
use Rattle.ere_tree.specs.Captures.{Captures}
use Rattle.ere_tree.specs.Derivation.{Derives, Spans, Way}
use Rattle.ere_tree.specs.Tree.{Tree}
use Rattle.ere_tree.specs.declared.hit.Cap.{Cap}

pub line_of : (s : List ℕ) (t free : Tree) (low : ℕ) (line : Line) → AreBytes s → SpansAll t free → StaysUpTo s free low line.high
    → ((h k : ℕ) → low ≤ h → k ≤ line.high → Spans s free h k → IsTrue (is_held line.begins h)) → HasLine s t low line
line_of s t free low line bytes spans stays begins = record {
  order = stays.order;
  inside = stays.inside;
  each = λ h k v d from to shows.
      let spanned = spans s v h k d bytes shows in
      let ends = stays.ends h k from to spanned in
      (begins h k from ends spanned, ends);
}

-- from a later place on
pub line_on : (s : List ℕ) (t : Tree) (low place : ℕ) (line : Line) → HasLine s t low line → low ≤ place → place ≤ line.high
    → HasLine s t place line
line_on s t low place line has from to = record {
  order = to;
  inside = has.inside;
  each = λ h k v d later inside shows. has.each h k v d (omega (arith, from, later)) inside shows;
}

-- where nothing is held, nothing begins
pub begins_not : (s : List ℕ) (t : Tree) (low place : ℕ) (line : Line) → HasLine s t low line → low ≤ place → place ≤ line.high
    → is_held line.begins place ≡ false → (k : ℕ) (v : Way) (d : Captures) → Derives s t v place k empty d → ⊥
begins_not s t low place line has from to none k v d shows =
    true≢false (sym (has.each place k v d from to shows).0 ∙ none)

pub passed_one : (s : List ℕ) (t : Tree) (low place : ℕ) (line : Line) → HasLine s t low line → low ≤ place → place ≤ line.high
    → is_held line.begins place ≡ false → HasNoHitBefore s t place → HasNoHitBefore s t (place + 1)
passed_one s t low place line has from to none before h k v d low_h shows = elim (cases_lt h place) [
  | inl earlier ↦ before h k v d earlier shows
  | inr on ↦
      begins_not s t low place line has from to none k v d
      (subst (λ n. Derives s t v n k empty d) (let same : h ≡ place = omega (arith, low_h, on) in same) shows)
]

-- fewer places
pub before_fewer : (s : List ℕ) (t : Tree) (place next : ℕ) → place ≤ next → HasNoHitBefore s t next → HasNoHitBefore s t place
before_fewer s t place next few before h k v d low shows = before h k v d (omega (arith, low, few)) shows

-- a hit may lie from a place of the line on, up to the greatest end of what is spanned from there
pub may_lie_in : (s : List ℕ) (t free : Tree) (place last : ℕ) (line : Line) → AreBytes s → SpansAll t free
    → HasLine s t place line → HasNoHitBefore s t place → EndsBy s free place line.high last
    → MayLie s t (Some (record { from = place; to = last }))
may_lie_in s t free place last line bytes spans has before ends = (
  before,
  (ends.order, omega (arith, ends.inside, has.inside)),
  λ k v d shows.
      ends.ends k (has.each place k v d (omega arith) has.order shows).1 (spans s v place k d bytes shows),
)
