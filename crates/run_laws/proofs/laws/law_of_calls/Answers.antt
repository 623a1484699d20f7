use Rattle.run_laws.proofs.CallLemmas.{one_answer}
use Rattle.run_laws.proofs.ListLemmas.{one_list}
use Rattle.run_laws.proofs.laws.law_of_calls.Goals as goal

pub returns : goal.returns
returns g c = record {
  tests = one_list;
  answer = λ bare seen fresh found first last again end blank full empty whole calm told silent spoken. one_answer _ _;
}
