-- Lemmas on equal values.
use Rattle.std.proofs.Common.{◌≡◌, List, ◌<◌, length, All}
use Rattle.std.proofs.Props.{props}
use mathlib.Core.HLevel.{is_prop→PathP}
use Rattle.tt_outside.specs.declared.request.Pair.{Pair}
use Rattle.tt_outside.specs.declared.test_data.Test.{Test}

named_prop : (pairs : List Pair) → IsProp (All (λ pair. 0 < length pair.name) pairs)
named_prop pairs = Prim.hlevel props

-- tests with equal fields are equal
pub equal_tests : (one other : Test)
    → one.name ≡ other.name → one.path ≡ other.path → one.source_dir ≡ other.source_dir → one.work_dir ≡ other.work_dir
    → one.temp_dir ≡ other.temp_dir → one.temp ≡ other.temp → one.features ≡ other.features
    → one.substitutions ≡ other.substitutions → one.tools ≡ other.tools → one.environment ≡ other.environment
    → one ≡ other
equal_tests one other name path source_dir work_dir temp_dir temp features substitutions tools environment =
    λ i. record {
      name = name i;
      path = path i;
      source_dir = source_dir i;
      work_dir = work_dir i;
      temp_dir = temp_dir i;
      temp = temp i;
      features = features i;
      substitutions = substitutions i;
      tools = tools i;
      environment = environment i;
      named = is_prop→PathP (λ j. All (λ pair. 0 < length pair.name) (substitutions j))
          (λ j. named_prop (substitutions j)) one.named other.named i;
    }
