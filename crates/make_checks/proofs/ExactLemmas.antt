-- What is answered with Ok stands for its output.
use Rattle.std.proofs.Common.{◌≡◌, ℕ, Bool, true, false, if◌then◌else◌, List, Option, None, Some, Ok, Err, refl, subst}
use Rattle.exact_laws.proofs.ExactLemmas.{made_files_are_exact}
use Rattle.exact_laws.specs.Exact.{IsExactFor}
use Rattle.file_laws.specs.Lead.{is_bad}
use Rattle.file_laws.specs.Made.{canonical_lines, long_line, made_file}
use Rattle.make_checks.specs.Made.{is_too_large, refreshed, unless_long}
use Rattle.make_checks.specs.declared.fault.MakeFault.TheVariants.{BadLead, TooLarge}

large_by : (large : Bool) (text file : List ℕ) → (if large then Err TooLarge else Ok text) ≡ Ok file → text ≡ file
large_by true text file is = cc
large_by false text file is = cc

ok_by : (bad : Bool) (long : Option ℕ) (text file : List ℕ) → (if bad then Err BadLead else unless_long long text) ≡ Ok file
    → (bad ≡ false) × (long ≡ None) × (text ≡ file)
ok_by true long text file is = cc
ok_by false (Some number) text file is = cc
ok_by false None text file is = (refl, refl, large_by (is_too_large text) text file is)

pub ok_exact : (old output lead file : List ℕ) → refreshed old output lead ≡ Ok file → IsExactFor output file
ok_exact old output lead file is =
    let parts = ok_by (is_bad lead) (long_line (canonical_lines output)) (made_file old output lead) file is in
    subst (IsExactFor output) parts.2 (made_files_are_exact old output lead parts.0 parts.1)
