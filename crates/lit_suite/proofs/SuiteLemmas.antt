-- A fault that is met is the fault of the whole, and a file that is no text or no TOML is refused at once.
use Rattle.std.proofs.Common.{◌≡◌, ℕ, Bool, true, false, List, Result, Err, Some, ap, refl}
use Rattle.std.proofs.lemmas.Str.{IsUtf8-from_is_utf8, is_utf8-from_IsUtf8}
use Rattle.std.specs.Str.{IsUtf8, is_utf8}
use Rattle.toml.specs.Data.{Members}
use Rattle.toml.specs.Parse.{parse_document}
use Rattle.lit_suite.specs.declared.suite_file.SuiteFault.{SuiteFault}
use Rattle.lit_suite.specs.declared.suite_file.SuiteFault.TheVariants.{NotToml}
use Rattle.lit_suite.specs.declared.suite_file.SuiteFail.{SuiteFail}
use Rattle.lit_suite.specs.declared.suite_file.SuiteFail.TheVariants.{Bad, NoMemory}
use Rattle.lit_suite.specs.Suites.{Reads, and_read, suite_file, suite_of}

-- a step that fails is the failure of what comes behind it
pub handed : {A B : Type 0} (fail : SuiteFail) (step : Result A SuiteFault) (next : A → Result B SuiteFault)
    → Reads {T = A} (Err fail) step → Reads {T = B} (Err fail) (and_read step next)
handed (Bad fault) step next e = ap (λ r. and_read r next) e
handed NoMemory step next e = tt

not_true : (test : Bool) → (test ≡ true → ⊥) → test ≡ false
not_true true never = absurd (never refl)
not_true false never = refl

pub no_text : (bytes : List ℕ) → (IsUtf8 bytes → ⊥) → suite_file bytes ≡ Err NotToml
no_text bytes never = rw (not_true (is_utf8 bytes) (λ e. never (IsUtf8-from_is_utf8 bytes e)))

pub a_table : (bytes : List ℕ) (table : Members) → IsUtf8 bytes → parse_document bytes ≡ Some table
    → suite_file bytes ≡ suite_of table
a_table bytes table text parsed = rw (is_utf8-from_IsUtf8 bytes text, parsed)
