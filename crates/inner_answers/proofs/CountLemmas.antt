-- `count` over bytes in memory: a source that tells all it has and never fails is read to its end or past the limit, so its lines are those
-- of the bytes; a sink that tells what it took has the message, or had no room for it. The hard one is counted_known: the source's record
-- is written out, since what is known of it are its fields.
use Rattle.std.proofs.Common.{◌≡◌, ◌≢◌, ℕ, ◌^◌, ◌==◌, Bool, true, false, if◌then◌else◌, nat_le, List, [], ◌++◌, length, Some, Result, Ok, Err, sym, ap, ◌∙◌, inl, inr, arith, length-append}
use Rattle.std.proofs.Math.Dec.{leb-zero}
use Rattle.std.proofs.lemmas.Bool.{le-leb, lt-leb}
use Rattle.std.proofs.lemmas.List.{append-nil}
use Rattle.not_count.specs.Asked.{asked}
use Rattle.not_count.specs.Count.{OutcomeFrom, compared_status, status_of, text_of}
use Rattle.not_count.specs.Lines.{IsCounted, lines_of}
use Rattle.not_count.specs.declared.asked.CountRefusal.{CountRefusal}
use Rattle.not_count.specs.declared.count.Outcome.{Outcome}
use Rattle.not_count.specs.declared.count.Outcome.TheVariants.{Compared}
use Rattle.not_count.specs.declared.lines.Counted.{Counted}
use Rattle.not_count.specs.declared.lines.Counted.TheVariants.{Lines, TooLong, Failed}
use Rattle.tt_outside.specs.declared.request.Finish.TheVariants.{Code}
use Rattle.tt_outside.specs.declared.request.Reply.TheVariants.{Status, TooLarge}
use Rattle.tt_outside.specs.declared.request.Stream.TheVariants.{Out, Err as ErrStream}
use Rattle.tt_run.specs.Run.{Answered, Source, Stream}
use Rattle.inner_answers.specs.Told.{compared, count_answer, counted, reply_within, told_of}

-- ---- the source

-- a source that told what it had and what it has left
abbrev known : Type 0 → Type 0 → List ℕ → List ℕ → ℕ → ℕ → Source
known untouched steady input rest before now = record {
  untouched = untouched;
  old = Some input;
  new = Some rest;
  steady = steady;
  before = before;
  now = now;
}

module _ (untouched steady : Type 0) (input rest : List ℕ) (before now : ℕ) where
  counted_known : (found : Counted) → steady → IsCounted (known untouched steady input rest before now) (2 ^ 40) found
      → found ≡ counted input
  counted_known (Lines lines) calm (bytes, parts, ends, few, told, still) =
      let whole : input ≡ bytes = parts ∙ ap (λ (left : List ℕ). bytes ++ left) ends ∙ append-nil bytes in
      let short : nat_le (length input) (2 ^ 40) ≡ true = le-leb (length input) (2 ^ 40) (omega (arith, ap length whole, few)) in
      ap Lines (told ∙ ap lines_of (sym whole))
      ∙ sym (ap (λ b. if b then Lines (lines_of input) else TooLong) short)
  counted_known TooLong calm ((bytes, parts, taken), still) =
      let long : nat_le (length input) (2 ^ 40) ≡ false =
      lt-leb (length input) (2 ^ 40) (omega (arith, ap length parts, length-append bytes rest, taken)) in
      sym (ap (λ b. if b then Lines (lines_of input) else TooLong) long)
  counted_known Failed calm (rose, not) = absurd (not calm)

  pub outcome_known : (wanted : Result ℕ CountRefusal) (outcome : Outcome) → steady
      → OutcomeFrom (known untouched steady input rest before now) (2 ^ 40) wanted outcome → outcome ≡ compared wanted input
  outcome_known (Ok wanted) outcome calm (found, from, told) = told ∙ ap (Compared wanted) (counted_known found calm from)
  outcome_known (Err refusal) outcome calm (rests, told) = told

-- ---- the sink

-- an outcome over bytes in memory is no fault
calm_status : (wanted : Result ℕ CountRefusal) (input : List ℕ) → status_of (compared wanted input) ≢ 3
calm_status (Err refusal) input is = omega (arith, is)
calm_status (Ok wanted) input is = each (nat_le (length input) (2 ^ 40)) is
  where
    lines : (b : Bool) → ◌≢◌ {A = ℕ} (if b then 0 else 1) 3
    lines true is = omega (arith, is)
    lines false is = omega (arith, is)

    each : (b : Bool) → compared_status wanted (if b then Lines (lines_of input) else TooLong) ≢ 3
    each true is = lines (lines_of input == wanted) is
    each false is = omega (arith, is)

-- an empty out is within each limit
out_fits : (limit : ℕ) (err : List ℕ) (status : ℕ) → reply_within limit (record { out = []; err = err; status = status })
    ≡ (if nat_le (length err) limit then Status (Code status) [] err else TooLarge ErrStream)
out_fits limit err status =
    ap (λ b. if b then (if nat_le (length err) limit then Status (Code status) [] err else TooLarge ErrStream) else TooLarge Out)
    (leb-zero limit)

module _ (words : List (List ℕ)) (input held told : List ℕ) (status before now room limit : ℕ) (outcome : Outcome) where
  abbrev stream : Stream
  stream = record { old = Some held; new = Some told; before = before; now = now; room = room }

  -- a status that isn't that of a fault comes with the whole message
  pub told_whole : outcome ≡ compared (asked words) input → held ≡ [] → status ≢ 3
      → Answered (text_of words outcome) (status_of outcome) status stream
      → record { out = []; err = told; status = status } ≡ count_answer words input
  told_whole is none calm (inl (same, taken)) =
      let text : told ≡ text_of words outcome = taken.0 ∙ ap (λ (front : List ℕ). front ++ text_of words outcome) none in
      (λ i. record { out = []; err = text i; status = same i }) ∙ ap (told_of words) is
  told_whole is none calm (inr (three, stopped)) = absurd (calm three)

  -- and that of a fault where the message is longer than the limit
  pub told_large : outcome ≡ compared (asked words) input → room ≡ limit → status ≡ 3
      → Answered (text_of words outcome) (status_of outcome) status stream
      → TooLarge ErrStream ≡ reply_within limit (count_answer words input)
  told_large is all three (inl (same, taken)) =
      absurd (calm_status (asked words) input (sym (ap status_of is) ∙ sym same ∙ three))
  told_large is all three (inr (same, stopped)) =
      sym (ap (reply_within limit) (sym (ap (told_of words) is)) ∙ out_fits limit (text_of words outcome) (status_of outcome)
      ∙ ap (λ b. if b then Status (Code (status_of outcome)) [] (text_of words outcome) else TooLarge ErrStream)
      (lt-leb (length (text_of words outcome)) limit (omega (arith, all, stopped.2))))
