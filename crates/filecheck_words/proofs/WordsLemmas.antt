-- Words, and what they give.
use Rattle.std.proofs.Common.{◌≡◌, ℕ, Bool, true, false, List, refl, sym, ap, subst}
use Rattle.std.proofs.lemmas.Str.{is_utf8-from_IsUtf8, IsUtf8-from_is_utf8}
use Rattle.std.specs.Prelude.{Result, Ok, Err}
use Rattle.std.specs.Str.{IsUtf8, is_utf8}
use Rattle.opt_words.specs.Reading.{IsTally, Reads}
use Rattle.opt_words.specs.declared.fault.WordFault.{WordFault}
use Rattle.opt_words.specs.declared.settings.Settings.{Settings}
use Rattle.opt_words.specs.declared.step.Given.{Given}

pub text_is : (bytes : List ℕ) → IsUtf8 bytes → is_utf8 bytes ≡ true
text_is bytes is = is_utf8-from_IsUtf8 bytes is

no_text_by : (bytes : List ℕ) (test : Bool) → is_utf8 bytes ≡ test → ¬ (IsUtf8 bytes) → is_utf8 bytes ≡ false
no_text_by bytes true is never = absurd (never (IsUtf8-from_is_utf8 bytes is))
no_text_by bytes false is never = is

pub no_text : (bytes : List ℕ) → ¬ (IsUtf8 bytes) → is_utf8 bytes ≡ false
no_text bytes never = no_text_by bytes (is_utf8 bytes) refl never

-- what was read and all that is given belong together
pub read_is : (n : ℕ) (got : Result (List Given) WordFault) (settings : Settings n) (all : List Given) → Reads n got (Ok settings)
    → ((due : List Given) → got ≡ Ok due → all ≡ due) → (got ≡ Ok all) × IsTally n all settings
read_is n (Ok due) settings all tally is =
    let same : all ≡ due = is due refl in (ap Ok (sym same), subst (λ list. IsTally n list settings) (sym same) tally)
read_is n (Err fault) settings all none is = absurd none
