-- Texts that grow piece by piece.
use Rattle.std.proofs.Common.{◌≡◌, ℕ, List, ◌++◌, length, ap, arith, length-append}
use Rattle.make_checks.specs.Adding.{IsRefused}
use Rattle.make_checks.specs.declared.fault.MakeFail.{MakeFail}
use Rattle.make_checks.specs.declared.fault.MakeFail.TheVariants.{Bad, NoMemory}

-- what is refused for a front is refused for the whole
pub refused : (part more whole : List ℕ) (fail : MakeFail) → part ++ more ≡ whole → IsRefused part fail → IsRefused whole fail
refused part more whole (Bad fault) is h = (h.0, omega (arith, h.1, length-append part more, ap length is))
refused part more whole NoMemory is h = tt
