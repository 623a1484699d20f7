-- Whether bytes are text, as `from_utf8` tells.
use Rattle.std.proofs.Common.{◌≡◌, ℕ, Bool, true, false, List, refl}
use Rattle.std.proofs.lemmas.Str.{IsUtf8-from_is_utf8, is_utf8-from_IsUtf8}
use Rattle.std.specs.Str.{IsUtf8, is_utf8}

pub text_is : (bytes : List ℕ) → IsUtf8 bytes → is_utf8 bytes ≡ true
text_is bytes is = is_utf8-from_IsUtf8 bytes is

no_text_by : (bytes : List ℕ) (text : Bool) → is_utf8 bytes ≡ text → (IsUtf8 bytes → ⊥) → is_utf8 bytes ≡ false
no_text_by bytes true is never = absurd (never (IsUtf8-from_is_utf8 bytes is))
no_text_by bytes false is never = is

pub no_text : (bytes : List ℕ) → (IsUtf8 bytes → ⊥) → is_utf8 bytes ≡ false
no_text bytes never = no_text_by bytes (is_utf8 bytes) refl never
