-- The number that is read of a text is the one that it spells, where that is a value: one clause says that what is read is
-- spelled, the other that a value that is spelled is read.
use Rattle.std.proofs.Common.{◌≡◌, ℕ, ℤ, pos, negsuc, Bool, true, false, Option, Some, None, IfSome, IsTrue, List, if◌then◌else◌, refl, sym, ap, ◌∙◌, FitsSigned, arith}
use Rattle.std.proofs.lemmas.Bool.Decides.{nat_tests}
use Rattle.std.specs.Int.{w128}
use Rattle.num_base.specs.Value.{is_value}
use Rattle.num_base.specs.declared.format.Format.{Format}
use Rattle.num_spell.specs.Spelling.{Spells, spelled, valued}
use Rattle.num_spell.proofs.ReadLemmas.{is_spelled, spells}

fits_is_value : (v : ℤ) → FitsSigned w128 v → is_value v ≡ true
fits_is_value (pos n) fits = let low = fits.sfits in grind (arith, nat_tests)
fits_is_value (negsuc n) fits = let low = fits.sfits in grind (arith, nat_tests)

pub read_some : (format : Format) (text : List ℕ) (v : ℤ) → FitsSigned w128 v → Spells format text v
    → Some v ≡ valued (spelled format text)
read_some format text v fits found =
    sym (ap valued (is_spelled format text v found) ∙ ap (λ b. if b then Some v else None) (fits_is_value v fits))

pub read_none : (format : Format) (text : List ℕ)
    → ((v : ℤ) → Spells format text v → IsTrue (is_value v) → None ≡ Some v) → None ≡ valued (spelled format text)
read_none format text only = each (spelled format text) refl
  where
    by_value : (z : ℤ) (b : Bool) → spelled format text ≡ Some z → is_value z ≡ b
        → None ≡ (if b then Some z else None)
    by_value z true e value = only z (spells format text z e) value
    by_value z false e value = refl

    each : (s : Option ℤ) → spelled format text ≡ s → None ≡ valued s
    each None e = refl
    each (Some z) e = by_value z (is_value z) e refl

pub read_tells : (format : Format) (text : List ℕ) (o : Option ℤ) → IfSome o (λ v. Spells format text v)
    → ((v : ℤ) → Spells format text v → IsTrue (is_value v) → o ≡ Some v) → IfSome o (FitsSigned w128)
    → o ≡ valued (spelled format text)
read_tells format text (Some v) found only fits = read_some format text v fits found
read_tells format text None found only fits = read_none format text only
