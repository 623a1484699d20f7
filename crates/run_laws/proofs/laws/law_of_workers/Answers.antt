use Rattle.run_laws.proofs.WorkerLemmas.{ends_alike, in_front}
use Rattle.run_laws.proofs.laws.law_of_workers.Goals as goal

pub returns : goal.returns
returns g c = record {
  report = λ first last again end blank full empty whole calm told silent spoken detail tests workers others one other.
      ends_alike detail tests workers others _ _ one other;
  front = λ first last again end blank full empty whole calm told silent spoken detail tests workers others one other.
      in_front detail tests workers others _ _ one other;
}
