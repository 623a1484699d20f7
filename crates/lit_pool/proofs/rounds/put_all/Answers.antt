use Rattle.std.proofs.Common.{rules, ◌≡◌, ◌+◌, ◌<◌, ◌++◌, ◌∷◌, [], length, get_or, take, Some, sym, ap, subst, arith, ◌∙◌}
use Rattle.std.proofs.lemmas.List.{length-take-le, take_more}
use Rattle.std.proofs.lemmas.Option.{slice_get-get_or}
use Rattle.lit_desk.specs.Desk.{PutFrom}
use Rattle.lit_pool.proofs.RunLemmas.{put_on}
use Rattle.lit_pool.proofs.rounds.put_all.Goals as goal

pub returns-in-Err-clause-refused : goal.returns-in-Err-clause-refused
returns-in-Err-clause-refused g c =
    let was = c.loop-trial.invariant in
    let item = c.trial-item.result in
    let low = c.loop-trial-test.true in
    record {
      other = item;
      at = slice_get-get_or c.args.trials.now c.loop-trial.taken item (omega (arith, was.taken, low))
          ∙ ap Some (ap (λ n. get_or c.args.trials.now n item) was.taken ∙ sym c.trial-item.is);
      between = c.loop-trial.desk;
      put = was.put;
      kept = search rules;
    }

pub loop-trial-preserved : goal.loop-trial-preserved
loop-trial-preserved g c =
    let was = c.loop-trial.invariant in
    let item = c.trial-item.result in
    let trials = c.args.trials.now in
    let taken = c.loop-trial.taken in
    let low : taken < length trials = (let at = c.loop-trial-test.true in omega (arith, was.taken)) in
    let more = take_more trials taken item low
    ∙ ap (λ t. take taken trials ++ t ∷ []) (ap (λ n. get_or trials n item) was.taken ∙ sym c.trial-item.is) in
    let long = length-take-le taken trials (omega (arith, low)) in
    let place : c.args.first + taken ≡ c.args.first + length (take taken trials) = omega (arith, long) in
    record {
      taken = ap (λ n. n + 1) was.taken;
      put = subst (λ ts. PutFrom g.D.Desk.took c.args.desk.now c.args.first ts c.put.new.self) (sym more)
          (put_on g.D.Desk.took c.args.desk.now c.loop-trial.desk c.put.new.self c.args.first (take taken trials) item was.put
          (subst (λ n. g.D.Desk.took c.loop-trial.desk n item c.put.new.self) place (search rules)));
    }
