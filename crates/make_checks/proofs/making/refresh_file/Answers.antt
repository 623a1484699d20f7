-- What `refresh_file` answers, at each of its returns.
-- Shown: the lines that are gone through are those of the canonical text, so what is told is what is due; and what is answered with Ok stands for
-- its output, since it is what is due. The hard one is the return with Ok, where what is kept and what is made are the whole.
use Rattle.std.proofs.Common.{◌≡◌, ◌≤◌, ◌-◌, List, ℕ, length, true≢false, ◌++◌, None, Ok, ap, sym, ◌∙◌, refl, subst}
use Rattle.make_checks.proofs.AddLemmas.{refused}
use Rattle.make_checks.proofs.ExactLemmas.{ok_exact}
use Rattle.make_checks.proofs.MadeLemmas.{answer_large, answer_refused, answer_whole, refreshed_is}
use Rattle.file_laws.specs.Kept.{kept}
use Rattle.file_laws.specs.Made.{made_text}
use Rattle.make_checks.specs.Directives.{LeavesRoom}
use Rattle.make_checks.specs.Made.{lines_in, refreshed, trimmed, unless_large, unless_long}
use Rattle.make_checks.proofs.making.refresh_file.Goals as goal

-- what is due, where the lead is good: at each return the first three lines are the same
pub returns-in-Some : goal.returns-in-Some
returns-in-Some c =
    let lines : List ℕ = c.trimmed-lines.result.now in
    let canonical = c.as_slice.ensures ∙ c.canon_owned-output.ensures.exact in
    let made : List ℕ = made_text c.args.lead.now (lines_in lines) in
    record {
      value = refreshed_is c.args.old.now c.args.output c.args.lead.now c.as_slice.result.now lines c.is_bad.result c.long_line.result
          c.is_bad.ensures c.if-is_bad.false canonical c.trimmed-lines.ensures.value c.long_line.ensures
          ∙ ap (λ n. unless_long n (kept c.args.old.now ++ made)) c.in-Some.is;
      exact = tt;
    }

pub returns-in-Err : goal.returns-in-Err
returns-in-Err c =
    let lines : List ℕ = c.trimmed-lines.result.now in
    let canonical = c.as_slice.ensures ∙ c.canon_owned-output.ensures.exact in
    let made : List ℕ = made_text c.args.lead.now (lines_in lines) in
    record {
      value = answer_refused _ (kept c.args.old.now ++ made) c.in-Err.fail
          (refreshed_is c.args.old.now c.args.output c.args.lead.now c.as_slice.result.now lines c.is_bad.result c.long_line.result
          c.is_bad.ensures c.if-is_bad.false canonical c.trimmed-lines.ensures.value c.long_line.ensures
          ∙ ap (λ n. unless_long n (kept c.args.old.now ++ made)) c.in_default.is)
          (refused (kept c.args.old.now) made _ c.in-Err.fail refl c.in-Err.ensures);
      exact = tt;
    }

pub returns-then-not-has_room : goal.returns-then-not-has_room
returns-then-not-has_room c =
    let lines : List ℕ = c.trimmed-lines.result.now in
    let canonical = c.as_slice.ensures ∙ c.canon_owned-output.ensures.exact in
    let made : List ℕ = made_text c.args.lead.now (lines_in lines) in
    record {
      value = answer_large _ c.in-Ok.kept made
          (refreshed_is c.args.old.now c.args.output c.args.lead.now c.as_slice.result.now lines c.is_bad.result c.long_line.result
          c.is_bad.ensures c.if-is_bad.false canonical c.trimmed-lines.ensures.value c.long_line.ensures
          ∙ ap (λ n. unless_long n (kept c.args.old.now ++ made)) c.in_default.is
          ∙ ap (λ front. unless_large (front ++ made)) (sym c.in-Ok.ensures.0))
          c.in-Ok.ensures.1 (subst (λ n. LeavesRoom made (16777216 - n) None) c.len.ensures
          (λ fits. true≢false (sym (c.has_room.ensures.1 fits) ∙ c.if-not-has_room.true)));
      exact = tt;
    }

pub returns : goal.returns
returns c =
    let kept_text : List ℕ = c.in-Ok.kept in
    let lines : List ℕ = c.trimmed-lines.result.now in
    let canonical = c.as_slice.ensures ∙ c.canon_owned-output.ensures.exact in
    let made : List ℕ = made_text c.args.lead.now (lines_in lines) in
    let rest : ℕ = 16777216 - length kept_text - length made in
    let whole : refreshed c.args.old.now c.args.output c.args.lead.now ≡ Ok (kept_text ++ made) =
    answer_whole _ kept_text made rest
    (refreshed_is c.args.old.now c.args.output c.args.lead.now c.as_slice.result.now lines c.is_bad.result c.long_line.result
    c.is_bad.ensures c.if-is_bad.false canonical c.trimmed-lines.ensures.value c.long_line.ensures
    ∙ ap (λ n. unless_long n (kept c.args.old.now ++ made)) c.in_default.is
    ∙ ap (λ front. unless_large (front ++ made)) (sym c.in-Ok.ensures.0))
    c.in-Ok.ensures.1 (subst (λ n. length made ≤ 16777216 - n) c.len.ensures (c.has_room.ensures.0 c.if-not-has_room.false), refl) in
    let lead : List ℕ = c.in_ok-lead.lead in
    let file : List ℕ = kept_text ++ made_text lead (lines_in (trimmed c.canon_owned-output.result)) in
    let value : refreshed c.args.old.now c.args.output c.args.lead.now ≡ Ok file =
    whole ∙ ap (λ l. Ok (kept_text ++ made_text l (lines_in lines))) (sym c.in_ok-lead.ensures)
    ∙ ap (λ t. Ok (kept_text ++ made_text lead (lines_in t))) (c.trimmed-lines.ensures.value ∙ ap trimmed c.as_slice.ensures) in
    record { value = value; exact = ok_exact c.args.old.now c.args.output c.args.lead.now file value }
