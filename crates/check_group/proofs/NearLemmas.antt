-- A plain text that begins nowhere before a place is first where it first is from there on.
-- Shown: an occurrence in the rest of a text is one in the text, and none begins between the two places.
-- The module has both ways; `begins_behind` says so of a directive whose pattern is plain.
use Rattle.std.proofs.Common.{◌≡◌, ℕ, ◌+◌, ◌-◌, ◌<◌, ◌≤◌, ⊎_elim, List, [], ◌∷◌, length, take, drop, length-drop, Some, None, Ok, Err, refl, sym, ◌∙◌, ap, subst, arith}
use Rattle.std.proofs.lemmas.Bool.{cases_lt}
use Rattle.std.proofs.lemmas.List.{drop-drop}
use Rattle.ere_tree.specs.declared.hit.Hit.{Hit}
use Rattle.pattern_hits.proofs.PlainLemmas.{found_none, found_some}
use Rattle.pattern_parse.specs.Item.{plain}
use Rattle.pattern_scan.specs.Seek.{IsPlain}
use Rattle.pattern_scan.proofs.SeekLemmas.{plain_sought}
use Rattle.tt_base.specs.Occurrence.{IsFirstIn, StandsAt, StandsNowhere}
use Rattle.tt_base.specs.Place.{span_of}
use Rattle.check_group.specs.Changes.{Variables}
use Rattle.check_group.specs.Matches.{answered, looked}
use Rattle.check_group.specs.Near.{BeginsNowhere}
use Rattle.check_group.specs.declared.directive.Check.{Check}
use Rattle.check_group.specs.declared.fault.FaultKind.TheVariants as fault

module _ (text needle : List ℕ) (from : ℕ) where
  in_rest : (at : ℕ) → from ≤ at → StandsAt text needle (length text) at
      → StandsAt (drop from text) needle (length (drop from text)) (at - from)
  in_rest at low there =
      let back : from + (at - from) ≡ at = omega (arith, low) in (
        omega (arith, low, there.0, length-drop from text),
        ap (take (length needle)) (drop-drop (at - from) from text ∙ ap (λ n. drop n text) back) ∙ there.1,
      )

  in_text : (at : ℕ) → from ≤ length text → StandsAt (drop from text) needle (length (drop from text)) at
      → StandsAt text needle (length text) (from + at)
  in_text at within there = (
    omega (arith, within, there.0, length-drop from text),
    ap (take (length needle)) (sym (drop-drop at from text)) ∙ there.1,
  )

  -- what begins nowhere before a place, and nowhere from there on, begins nowhere in the rest
  nowhere : (later end count : ℕ) → from ≤ length text → from + count ≤ end → StandsNowhere text needle (length text) from later
      → StandsNowhere text needle (length text) later end → StandsNowhere (drop from text) needle (length (drop from text)) 0 count
  nowhere later end count within fits before behind at _ high there =
      let stands = in_text at within there in
      ⊎_elim (λ (soon : from + at < later). before (from + at) (omega arith) soon stands)
      (λ (late : later ≤ from + at). behind (from + at) late (omega (arith, fits, high)) stands) (cases_lt (from + at) later)

  module _ (check : Check) (vars : Variables) (later : ℕ) (is : IsPlain check.pattern needle) (ordered : from ≤ later)
      (within : later ≤ length text) (before : StandsNowhere text needle (length text) from later) where
    pub later_none : StandsNowhere text needle (length text) later (length text + 1)
        → Err (fault.NotFound from 0) ≡ looked text vars check 0 from
    later_none behind =
        ap (λ answer. answered answer (fault.NotFound from 0))
        (plain_sought vars check.line check.pattern needle text from None is
        (λ t of. found_none text needle (drop from text) from (length (drop from text)) t refl refl
        (nowhere later (length text + 1) (length (drop from text) + 1) (omega (arith, ordered, within))
        (omega (arith, length-drop from text, ordered, within)) before behind) of))

    pub later_some : (at : ℕ) → IsFirstIn text needle later (length text) (Some at)
        → Ok (record { span = span_of at (length needle); fresh = [] }) ≡ looked text vars check 0 from
    later_some at found =
        let low : from ≤ at = omega (arith, ordered, found.0) in
        let back : from + (at - from) ≡ at = omega (arith, low) in
        let long : from + (at - from) + length needle - (from + (at - from)) ≡ length needle = omega arith in
        let hit : Hit = record { from = from + (at - from); to = from + (at - from) + length needle; groups = [] } in
        sym ((λ n. Ok (record { span = span_of (back n) (long n); fresh = [] })))
        ∙ ap (λ answer. answered answer (fault.NotFound from 0))
        (plain_sought vars check.line check.pattern needle text from (Some hit) is
        (λ t of. found_some text needle (drop from text) from (length (drop from text)) (at - from) t refl refl
        (in_rest at low found.1) (nowhere later at (at - from) (omega (arith, ordered, within)) (omega (arith, low)) before found.2) of))

head_is : (bytes other : List ℕ) → plain bytes ∷ [] ≡ plain other ∷ [] → bytes ≡ other
head_is bytes other same = cc

-- what begins nowhere before a place of the rest
pub begins_behind : (text needle : List ℕ) (check : Check) (place earliest result : ℕ) → IsPlain check.pattern needle → place ≤ length text
    → StandsNowhere (drop place text) needle (length (drop place text)) 0 earliest → result ≤ place + earliest
    → BeginsNowhere text check place result
begins_behind text needle check place earliest result is here before low bytes also at behind high there =
    let same : bytes ≡ needle = head_is bytes needle (sym also.pieces ∙ is.pieces) in
    before (at - place) (omega arith) (omega (arith, behind, high, low))
    (in_rest text needle place at behind (subst (λ b. StandsAt text b (length text) at) same there))
