-- The loop over rounds, with its four ways out: memory was wanting in a round, or for its trials, a trial was refused, and the end. Lemmas
-- of CrewLemmas tell of the hands and those of RunLemmas of the trials; what is left here is which name holds what. The longest is the step
-- to the next round (`loop-first-preserved`).
use Rattle.std.proofs.Common.{rules, arith, ◌≡◌, ◌+◌, ◌++◌, length, take, drop, sym, ap, subst, ◌∙◌}
use Rattle.std.proofs.lemmas.List.{drop_at, length-map}
use Rattle.std.proofs.lemmas.Option.{slice_get_within}
use Rattle.lit_desk.specs.Desk.{PutFrom}
use Rattle.lit_round.specs.Hands.{left, room_of}
use Rattle.lit_round.specs.Trials.{AreTrials}
use Rattle.lit_pool.specs.Pool.{RefusesAt, stop_at}
use Rattle.lit_pool.proofs.CrewLemmas.{can_run, hands_same, left_at_end, next_are, next_left, next_long, next_refused, next_went}
use Rattle.lit_pool.proofs.RunLemmas.{put_both, stopped_in}
use Rattle.lit_pool.proofs.rounds.run_rounds.Goals as goal

pub run_round-ran-requires-clause-ready : goal.run_round-ran-requires-clause-ready
run_round-ran-requires-clause-ready g c κs within =
    let R = g.C.Hand.Runner in
    let was = c.loop-first.invariant in
    let hands = c.loop-first.hands.items in
    let low = c.loop-first-test.true in
    let count = c.min-count.ensures in
    let part = c.split_at-in-loop-first.ensures.front_len in
    can_run R (g.C.Crew.gave c.args.crew.now) (length c.args.hands.items)
    (length c.args.tests.now) c.loop-first.first (length c.split_at-in-loop-first.result.0.now) hands
    (sym (length-map hands (left R)) ∙ was.went.count) (was.rooms ∙ c.requires.hired.rooms) was.went.number
    (omega arith) was.own

pub returns-in_default-clause-left : goal.returns-in_default-clause-left
returns-in_default-clause-left g c =
    let R = g.C.Hand.Runner in
    let was = c.loop-first.invariant in
    let ran = c.run_round-ran.ensures in
    next_left (length c.args.hands.items) c.args.tests.now c.split_at-in-loop-first.result.0.now c.loop-first.first c.min-count.result
    c.loop-first.trials.items _ _ was.went c.loop-first-test.true c.min-count.ensures
    (c.split_at-in-loop-first.ensures.front ∙ ap (take c.min-count.result) c.split_at.ensures.back) ran.begun
    (hands_same (room_of R) (left R) c.loop-first.hands.items c.run_round-ran.result.hands.items ran.rooms)
    c.stop.result (ap (λ s. s.trials) c.stop.ensures) (ap (λ s. s.other) c.stop.ensures)

pub returns-then-is_err-clause-left : goal.returns-then-is_err-clause-left
returns-then-is_err-clause-left g c =
    let R = g.C.Hand.Runner in
    let was = c.loop-first.invariant in
    let ran = c.run_round-ran.ensures in
    let kept : c.append.new.self.items ≡ c.loop-first.trials.items = search rules in
    next_left (length c.args.hands.items) c.args.tests.now c.split_at-in-loop-first.result.0.now c.loop-first.first c.min-count.result
    c.loop-first.trials.items _ _ was.went c.loop-first-test.true c.min-count.ensures
    (c.split_at-in-loop-first.ensures.front ∙ ap (take c.min-count.result) c.split_at.ensures.back) ran.begun
    (hands_same (room_of R) (left R) c.loop-first.hands.items c.run_round-ran.result.hands.items ran.rooms)
    c.stop-then-is_err.result (ap (λ s. s.trials) c.stop-then-is_err.ensures ∙ kept) (ap (λ s. s.other) c.stop-then-is_err.ensures)

pub put_all-requires : goal.put_all-requires
put_all-requires g c =
    let R = g.C.Hand.Runner in
    let was = c.loop-first.invariant in
    let ran = c.run_round-ran.ensures in
    let xs = c.loop-first.trials.items in
    let ys = c.in-Some.ran.items in
    let all : c.append.new.self.items ≡ xs ++ ys = search rules in
    let runs = rw c.in-Some.is at ran.trials in
    let long = next_long (length c.args.hands.items) c.args.tests.now c.split_at-in-loop-first.result.0.now c.loop-first.first
    c.min-count.result xs _ _ was.went c.loop-first-test.true c.min-count.ensures
    (c.split_at-in-loop-first.ensures.front ∙ ap (take c.min-count.result) c.split_at.ensures.back) ran.begun
    (hands_same (room_of R) (left R) c.loop-first.hands.items c.run_round-ran.result.hands.items ran.rooms)
    (g.C.Crew.gave c.args.crew.now) ys runs in
    let behind = ap length (c.split_at-in-loop-first-2.ensures.back ∙ ap (drop c.loop-first.first) (c.deref.ensures.value ∙ all)
    ∙ drop_at xs ys c.loop-first.first was.went.long) in
    record { few = omega (arith, long, behind, c.requires.few, c.min-count.ensures, c.loop-first-test.true) }

pub stop_at-requires : goal.stop_at-requires
stop_at-requires g c =
    let refused = c.in-Err.ensures.refused in
    let low = slice_get_within c.split_at-in-loop-first-2.result.1.now c.in-Err.refusal.taken refused.other refused.at in
    let back = c.split_at-in-loop-first-2.ensures.back_len in
    record { within = search (rules, arith) }

pub returns-in-Err-clause-count : goal.returns-in-Err-clause-count
returns-in-Err-clause-count g c =
    let room = room_of g.C.Hand.Runner in
    sym (length-map c.run_round-ran.result.hands.items room) ∙ ap length (c.run_round-ran.ensures.rooms ∙ c.loop-first.invariant.rooms)
    ∙ length-map c.args.hands.items room

pub returns-in-Err-clause-stopped : goal.returns-in-Err-clause-stopped
returns-in-Err-clause-stopped g c =
    let was = c.loop-first.invariant in
    let xs = c.loop-first.trials.items in
    let ys = c.in-Some.ran.items in
    let first = c.loop-first.first in
    let taken = c.in-Err.refusal.taken in
    let all : c.append.new.self.items ≡ xs ++ ys = search rules in
    let runs = rw c.in-Some.is at c.run_round-ran.ensures.trials in
    let behind = c.split_at-in-loop-first-2.ensures.back ∙ ap (drop first) (c.deref.ensures.value ∙ all) ∙ drop_at xs ys first was.went.long in
    let refused = subst (λ zs. RefusesAt g.D.Desk.took g.D.Desk.kept c.loop-first.desk first zs taken c.in-Err.refusal.why c.put_all.new.desk)
    behind c.in-Err.ensures.refused in
    stopped_in g.D.Desk.took g.D.Desk.kept (g.C.Crew.gave c.args.crew.now) c.args.tests.now first c.min-count.result taken xs ys c.args.desk.now
    c.loop-first.desk c.put_all.new.desk c.in-Err.refusal.why c.stop_at.result was.went.long was.are was.put
    (subst (λ ts. AreTrials (g.C.Crew.gave c.args.crew.now) first ts ys)
    (c.split_at-in-loop-first.ensures.front ∙ ap (take c.min-count.result) c.split_at.ensures.back) runs.are) refused
    (c.stop_at.ensures ∙ ap (λ ts. stop_at ts (first + taken) c.in-Err.refusal.why) all)

pub returns-in-Err-clause-left : goal.returns-in-Err-clause-left
returns-in-Err-clause-left g c =
    let R = g.C.Hand.Runner in
    let was = c.loop-first.invariant in
    let ran = c.run_round-ran.ensures in
    let xs = c.loop-first.trials.items in
    let ys = c.in-Some.ran.items in
    let first = c.loop-first.first in
    let taken = c.in-Err.refusal.taken in
    let all : c.append.new.self.items ≡ xs ++ ys = search rules in
    let runs = rw c.in-Some.is at ran.trials in
    let behind = c.split_at-in-loop-first-2.ensures.back ∙ ap (drop first) (c.deref.ensures.value ∙ all) ∙ drop_at xs ys first was.went.long in
    let refused = rw behind at c.in-Err.ensures.refused in
    next_refused (length c.args.hands.items) c.args.tests.now c.split_at-in-loop-first.result.0.now first c.min-count.result xs _ _ was.went
    c.loop-first-test.true c.min-count.ensures
    (c.split_at-in-loop-first.ensures.front ∙ ap (take c.min-count.result) c.split_at.ensures.back) ran.begun
    (hands_same (room_of R) (left R) c.loop-first.hands.items c.run_round-ran.result.hands.items ran.rooms)
    (g.C.Crew.gave c.args.crew.now) ys runs taken c.in-Err.refusal.why refused.other c.stop_at.result refused.at
    (c.stop_at.ensures ∙ ap (λ ts. stop_at ts (first + taken) c.in-Err.refusal.why) all)

pub loop-first-preserved : goal.loop-first-preserved
loop-first-preserved g c =
    let R = g.C.Hand.Runner in
    let was = c.loop-first.invariant in
    let ran = c.run_round-ran.ensures in
    let gave = g.C.Crew.gave c.args.crew.now in
    let workers = length c.args.hands.items in
    let tests = c.args.tests.now in
    let part = c.split_at-in-loop-first.result.0.now in
    let first = c.loop-first.first in
    let count = c.min-count.result in
    let xs = c.loop-first.trials.items in
    let ys = c.in-Some.ran.items in
    let low = c.loop-first-test.true in
    let all : c.append.new.self.items ≡ xs ++ ys = search rules in
    let runs = rw c.in-Some.is at ran.trials in
    let behind = c.split_at-in-loop-first-2.ensures.back ∙ ap (drop first) (c.deref.ensures.value ∙ all) ∙ drop_at xs ys first was.went.long in
    let part_is = c.split_at-in-loop-first.ensures.front ∙ ap (take count) c.split_at.ensures.back in
    let same = hands_same (room_of R) (left R) c.loop-first.hands.items c.run_round-ran.result.hands.items
    ran.rooms in
    rw all (record {
      within = omega (arith, low, c.min-count.ensures);
      are = next_are workers tests part first count xs _ _ was.went low c.min-count.ensures part_is ran.begun same gave ys runs was.are;
      put = put_both g.D.Desk.took c.args.desk.now c.loop-first.desk c.put_all.new.desk 0 first xs ys (omega (arith, was.went.long)) was.put
          (subst (λ zs. PutFrom g.D.Desk.took c.loop-first.desk first zs c.put_all.new.desk) behind c.in_default-put_all.ensures.put);
      own = ran.hands;
      rooms = ran.rooms ∙ was.rooms;
      went = next_went workers tests part first count xs _ _ was.went low c.min-count.ensures part_is ran.begun same gave ys runs;
    })

pub returns-clause-left : goal.returns-clause-left
returns-clause-left g c =
    let was = c.loop-first.invariant in
    let R = g.C.Hand.Runner in
    rw c.from_vec.ensures (left_at_end (length c.args.hands.items) (length c.args.tests.now) c.loop-first.first c.loop-first.trials.items _
    (omega (arith, was.within, c.loop-first-test.false)) was.went)
