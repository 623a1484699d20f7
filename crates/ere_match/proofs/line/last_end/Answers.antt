use Rattle.std.proofs.Common.{◌≡◌, ℕ, ◌+◌, ◌<◌, ◌∙◌, length, slice_index, sym, ap, inl, inr, arith, eqb-true, refl}
use Rattle.std.proofs.lemmas.Bool.{cases_lt}
use Rattle.std.proofs.lemmas.List.{get_or-drop, take_rest}
use Rattle.ere_match.proofs.NewlineLemmas.{holds_none}
use Rattle.ere_match.specs.Begins.{may_hold_newline}
use Rattle.ere_tree.proofs.DerivationLemmas.{is_part}
use Rattle.ere_tree.specs.View.{view}
use Rattle.ere_match.proofs.line.last_end.Goals as goal

pub returns-then-may_hold_newline : goal.returns-then-may_hold_newline
returns-then-may_hold_newline c = record {
  order = c.requires;
  inside = omega arith;
  ends = λ h k low high shows. (is_part c.args.slice.now (view c.args.free.now) shows.0 h k shows.1 shows.2 shows.3).1;
}

pub returns-in-None : goal.returns-in-None
returns-in-None c = record {
  order = c.requires;
  inside = omega arith;
  ends = λ h k low high shows. (is_part c.args.slice.now (view c.args.free.now) shows.0 h k shows.1 shows.2 shows.3).1;
}

-- what ends behind the newline holds it
pub returns-in-Some : goal.returns-in-Some
returns-in-Some c = record {
  order = omega arith;
  inside = omega (arith, c.in-Some.ensures.0.high);
  ends = λ h k low high shows.
      let s = c.args.slice.now in
      let t = view c.args.free.now in
      let place = c.args.place in
      let newline = c.in-Some.newline in
      let at = place + newline in
      let is : slice_index s at ≡ 10 =
      sym (ap (λ xs. slice_index xs newline) (take_rest s place) ∙ get_or-drop place s newline 0)
      ∙ eqb-true _ 10 c.in-Some.ensures.1 in
      elim (cases_lt at k) [
        | inl past ↦ absurd (holds_none s t shows.0 h k shows.1 shows.2
            (sym c.may_hold_newline.ensures ∙ c.if-may_hold_newline.false) shows.3
            (record { at = at; from = high; before = past; is = is }))
        | inr up ↦ up
      ];
}
