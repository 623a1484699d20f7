-- Where the windows of a text show that a plain directive doesn't begin.
-- Own rule: such places are passed over, which changes no answer.
use Rattle.std.specs.Prelude.{ℕ, List, length, IfSome, Option}
use Rattle.pattern_scan.specs.Seek.{IsPlain}
use Rattle.text_windows.specs.Windows.{ArePlaces}
use Rattle.tt_base.specs.Occurrence.{StandsNowhere}
use Rattle.check_group.specs.declared.directive.Check.{Check}

-- first places that are known are those of the text
abbrev pub AreFirstsOf : List ℕ → Option (List ℕ) → Type 0
AreFirstsOf text known = IfSome known (λ places. ArePlaces places text)

-- the bytes that a directive is sought as, if it is plain, begin nowhere from an offset to before another
abbrev pub BeginsNowhere : List ℕ → Check → ℕ → ℕ → Type 0
BeginsNowhere text check from to =
    (bytes : List ℕ) → IsPlain check.pattern bytes → StandsNowhere text bytes (length text) from to
