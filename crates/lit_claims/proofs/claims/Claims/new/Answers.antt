use Rattle.std.proofs.Common.{rules, arith, ◌≡◌, ◌++◌, ◌∷◌, []}
use Rattle.std.proofs.lemmas.List.{length_push}
use Rattle.std.proofs.lemmas.List.Elements.{All-push}
use Rattle.std.proofs.lemmas.List.Sums.{sum_by_push}
use Rattle.lit_claims.specs.Seats.{IsFresh, claims_id, share_of}
use Rattle.lit_claims.proofs.claims.Claims.new.Goals as goal

pub loop-preserved : goal.loop-preserved
loop-preserved c =
    let was = c.loop.invariant in
    let made = c.another-seat.result in
    let old = c.another-seat.ensures.old in
    let new = c.another-seat.ensures.new in
    let pushed : c.push.new.self ≡ c.loop.seats ++ made ∷ [] = search rules in
    let sum = sum_by_push share_of c.loop.seats made in
    let long = length_push c.loop.seats made in
    rw pushed (record {
      first = old.0;
      left = let before = was.left in let less = old.1 in omega arith;
      count = let before = was.count in omega arith;
      shares = let before = was.shares in let less = old.1 in let one = new.1 in omega arith;
      all = All-push (IsFresh (claims_id c.in-Ok.claims)) c.loop.seats made was.all new.0;
    })

pub returns-in-Ok-push : goal.returns-in-Ok-push
returns-in-Ok-push c =
    let was = c.loop.invariant in
    let last = c.loop.first in
    let pushed : c.push-2.new.self ≡ c.loop.seats ++ last ∷ [] = search rules in
    let sum = sum_by_push share_of c.loop.seats last in
    let long = length_push c.loop.seats last in
    rw pushed (record {
      count = let before = was.count in search (rules, arith);
      fresh = All-push (IsFresh (claims_id c.in-Ok.claims)) c.loop.seats last was.all was.first;
      shares = let before = was.shares in omega arith;
    })
