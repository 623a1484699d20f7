use Rattle.std.proofs.Common.{◌≡◌, ◌∙◌, ◌&&◌, ◌++◌, ◌∷◌, [], Bool, true, false, List, ℕ, ap, subst, sym, refl, get_or}
use Rattle.std.proofs.lemmas.List.{map-append, take_more}
use Rattle.std.proofs.lemmas.List.Folds.{list_all_at, list_all_more}
use Rattle.std.proofs.lemmas.Str.{IsUtf8-from_is_utf8, is_utf8-from_IsUtf8}
use Rattle.std.specs.Prelude.{string_bytes}
use Rattle.std.specs.Str.{IsUtf8, is_utf8}
use Rattle.opt_words.specs.Step.{texts}
use Rattle.inner_answers.proofs.peeling.texts_of.Goals as goal

no_text : (bytes : List ℕ) → (IsUtf8 bytes → ⊥) → (b : Bool) → is_utf8 bytes ≡ b → b ≡ false
no_text bytes not true is = absurd (not (IsUtf8-from_is_utf8 bytes is))
no_text bytes not false is = refl

pub returns-in_default-clause-some : goal.returns-in_default-clause-some
returns-in_default-clause-some c =
    let words = c.args.words.now in
    let one = c.word-item.result in
    let none = no_text c.as_slice.result.now c.in_default.ensures.cases.0 (is_utf8 c.as_slice.result.now) refl in
    sym (list_all_at is_utf8 words c.loop-word.word-index one c.loop-word-test.true
    (subst (λ (bytes : List ℕ). is_utf8 bytes ≡ false) (c.as_slice.ensures ∙ c.word-item.is) none))

pub loop-word-preserved : goal.loop-word-preserved
loop-word-preserved c =
    let words = c.args.words.now in
    let at = c.loop-word.word-index in
    let one = c.word-item.result in
    let text = c.in-Ok-from_str.text in
    let kept = c.loop-word.invariant in
    let is : c.as_slice.result.now ≡ get_or words at one = c.as_slice.ensures ∙ c.word-item.is in
    let same : string_bytes text ≡ get_or words at one =
    c.in-Ok-from_str.ensures.ok ∙ c.in-Ok.ensures.cases.0 ∙ is in
    let good : is_utf8 (get_or words at one) ≡ true =
    subst (λ (bytes : List ℕ). is_utf8 bytes ≡ true) is (is_utf8-from_IsUtf8 c.as_slice.result.now c.in-Ok.ensures.cases.1) in
    record {
      value = ap texts c.in_ok-push-in-Ok-from_str.ensures.ok ∙ map-append string_bytes c.loop-word.list (text ∷ [])
          ∙ (λ i. kept.value i ++ same i ∷ []) ∙ sym (take_more words at one c.loop-word-test.true);
      whole = list_all_more is_utf8 words at one c.loop-word-test.true ∙ (λ i. kept.whole i && good i);
    }
