-- The loop over lines: what a line comes to leads on from the state before it, stops there, or ends the script.
-- Each is one lemma of ScriptLemmas, at the line as the code cuts it (`leads_line`).
-- The hard one is `loop-fail-preserved`, which goes on behind a line.
use Rattle.std.proofs.Common.{◌≡◌, ◌<◌, ◌≤◌, ◌+◌, ℕ, List, Bool, true, false, Ok, Err, Result, length, sym, subst, ◌∙◌, arith, rules}
use Rattle.lit_directives.specs.Script.{IsState, LeadsOn, State, reader_view}
use Rattle.lit_directives.specs.declared.fault.ScriptFault.{ScriptFault}
use Rattle.lit_directives.specs.declared.reader.Reader.{Reader}
use Rattle.lit_directives.proofs.LineLemmas.{end_above, end_within}
use Rattle.lit_directives.proofs.ScriptLemmas.{line_ended, line_refused, line_stopped, line_taken}
use Rattle.lit_directives.proofs.script.read_lines.Goals as goal

-- of a line without its `\r`, where the reading goes on or not
leads_line : (s : State) (number : ℕ) (next : Reader) (d : Bool) (l m : List ℕ) (b : Bool) → l ≡ m → b ≡ d
    → LeadsOn s number l (Ok (next, b)) → LeadsOn s number m (Ok (next, d))
leads_line s number next d l m b same is leads =
    subst (λ (l : List ℕ). LeadsOn s number l (Ok (next, d))) same
    (subst (λ (b : Bool). LeadsOn s number l (Ok (next, b))) is leads)

pub returns-in-Err : goal.returns-in-Err
returns-in-Err c =
    let s : State = reader_view c.loop-fail.reader in
    let fail = c.in-Err.fail in
    subst (λ (r : Result State ScriptFault). IsState (Err fail) r) c.loop-fail.invariant.rest
    (line_refused c.args.bytes.now c.loop-fail.start c.line_of-end.result.to c.loop-fail.number c.loop-fail.invariant.within
    c.line_of-end.ensures.to s fail
    (subst (λ (l : List ℕ). LeadsOn s c.loop-fail.number l (Err fail)) c.without_return-line.ensures.value c.in-Err.ensures))

pub returns-then-not-goes_on : goal.returns-then-not-goes_on
returns-then-not-goes_on c =
    let s : State = reader_view c.loop-fail.reader in
    let number = c.loop-fail.number in
    let next = c.in-Ok.next in
    let leads = leads_line s number next false c.without_return-line.result.now _ c.in-Ok.goes_on
    c.without_return-line.ensures.value (search rules) c.in-Ok.ensures in
    sym c.loop-fail.invariant.rest
    ∙ line_stopped c.args.bytes.now c.loop-fail.start c.line_of-end.result.to number c.loop-fail.invariant.within
    c.line_of-end.ensures.to s next leads

pub returns-then-end-bytes : goal.returns-then-end-bytes
returns-then-end-bytes c =
    let s : State = reader_view c.loop-fail.reader in
    let number = c.loop-fail.number in
    let next = c.in-Ok.next in
    let leads = leads_line s number next true c.without_return-line.result.now _ c.in-Ok.goes_on
    c.without_return-line.ensures.value (search rules) c.in-Ok.ensures in
    sym c.loop-fail.invariant.rest
    ∙ line_ended c.args.bytes.now c.loop-fail.start c.line_of-end.result.to number c.loop-fail.invariant.within
    c.line_of-end.ensures.to s next leads (omega arith)

pub loop-fail-preserved : goal.loop-fail-preserved
loop-fail-preserved c =
    let s : State = reader_view c.loop-fail.reader in
    let number = c.loop-fail.number in
    let next = c.in-Ok.next in
    let text = c.args.bytes.now in
    let start = c.loop-fail.start in
    let end = c.line_of-end.result.to in
    let low = c.loop-fail.invariant.within in
    let is = c.line_of-end.ensures.to in
    let above = end_above text start end low is in
    let fits = end_within text start end low is in
    let inside : end < length text = omega arith in
    let leads = leads_line s number next true c.without_return-line.result.now _ c.in-Ok.goes_on
    c.without_return-line.ensures.value (search rules) c.in-Ok.ensures in
    record {
      within = omega arith;
      counted = omega arith;
      rest = line_taken text start end number low is s next leads
          inside ∙ c.loop-fail.invariant.rest;
    }
