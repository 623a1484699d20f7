use Rattle.std.proofs.Common.{◌≡◌, ◌∙◌, ◌+◌, ◌≤◌, ◌<◌, ◌++◌, ℕ, true, List, [], ◌∷◌, ap, subst, arith}
use Rattle.tt_outside.specs.Fits.{fits}
use Rattle.tt_outside.specs.Gave.{last_of}
use Rattle.tt_outside.specs.declared.request.Entry.{Entry}
use Rattle.tt_outside.specs.declared.request.Request.{Request}
use Rattle.tt_outside.specs.declared.request.Request.TheVariants.{ReadFile}
use Rattle.test_course.specs.Bytes.{LIMIT, MAX_KEPT, capped, own_bytes, reply_bytes}
use Rattle.lit_test.specs.Trial.{read_request}
use Rattle.lit_test.proofs.EndingLemmas.{ends_behind_file, ends_plan_as, ends_unread, file_is_small}
use Rattle.lit_test.proofs.running.run_begun.Goals as goal

pub plan_of-requires : goal.plan_of-requires
plan_of-requires g c = record { small = file_is_small c.in_ok-path.path c.in_ok-reply.reply c.in_ok-reply.ensures.fit }

pub returns-then-own-gt-MAX_KEPT-clause-ends : goal.returns-then-own-gt-MAX_KEPT-clause-ends
returns-then-own-gt-MAX_KEPT-clause-ends g c =
    let same : ReadFile c.in_ok-path.path LIMIT ≡ read_request c.args.test.now =
    ap (λ (path : List ℕ). ReadFile path LIMIT) (c.in_ok-path.ensures ∙ c.as_slice.ensures) in
    let much : MAX_KEPT < own_bytes (read_request c.args.test.now) =
    subst (λ (r : Request). MAX_KEPT < own_bytes r) same (omega (arith, c.own_bytes-own.ensures, c.if-own-gt-MAX_KEPT.true)) in
    rw c.requires.none (ends_unread (g.R.Runner.gave c.args.hand.now) (last_of 0 (g.R.Runner.begun c.args.hand.now))
    c.args.test.now c.in_ok-unread.unread much (rw c.new.ensures at c.in_ok-unread.ensures))

pub returns-clause-ends : goal.returns-clause-ends
returns-clause-ends g c =
    let request : Request = ReadFile c.in_ok-path.path LIMIT in
    let reply = c.in_ok-reply.reply in
    let entry : Entry = record { request = request; reply = reply } in
    let asked = c.in_ok-reply.ensures in
    let same : request ≡ read_request c.args.test.now =
    ap (λ (path : List ℕ). ReadFile path LIMIT) (c.in_ok-path.ensures ∙ c.as_slice.ensures) in
    let fit : fits request reply ≡ true = asked.fit in
    let room : own_bytes request ≤ MAX_KEPT = omega (arith, c.own_bytes-own.ensures, c.if-own-gt-MAX_KEPT.false) in
    let given : g.R.Runner.gave c.args.hand.now (last_of 0 (g.R.Runner.begun c.args.hand.now)) [] request reply =
    rw (c.as_slice-2.ensures ∙ c.requires.none) at asked.given in
    let kept : c.min-kept.result ≡ capped (capped (own_bytes request) + capped (reply_bytes reply)) =
    omega (arith, c.min-kept.ensures, c.own_bytes-own.ensures, c.reply_bytes.ensures) in
    let fronts : c.push.new.self ≡ entry ∷ [] =
    c.in_ok-push.ensures.ok ∙ ap (λ (es : List Entry). es ++ entry ∷ []) c.requires.none in
    ends_behind_file (g.R.Runner.gave c.args.hand.now) (last_of 0 (g.R.Runner.begun c.args.hand.now)) c.args.test.now entry
    c.by_plan.new.entries c.min-kept.result c.in_ok-ending.ending same fit room given kept
    (ends_plan_as _ _ _ _ _ _ _ _ _ _ _ _ asked.gave (ap (last_of 0) asked.begun) c.in_ok-plan.ensures.exact fronts
    c.in_ok-ending.ensures.ends)
