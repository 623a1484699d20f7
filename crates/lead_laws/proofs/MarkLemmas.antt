-- What decides a line with a lead and one of the four directives.
-- Shown: byte by byte, no prefix begins with a byte that belongs to no word, so what decides stands behind the lead.
-- The hard one is `none_marks`, where each prefix is tried at such a byte.
use Rattle.std.proofs.Common.{◌≡◌, codes, ℕ, suc, ◌+◌, nat_eq, Bool, false, ◌&&◌, List, [], ◌∷◌, ◌++◌, length, Some, None, refl, sym, ap, ◌∙◌, arith}
use Rattle.std.proofs.lemmas.Bool.Decides.{nat_tests}
use Rattle.std.specs.Option.{option_or, option_map}
use Rattle.check_lines.specs.Decision.{decide_from, is_word, mark_at, mark_of}
use Rattle.check_lines.specs.declared.decision.LineMark.{LineMark}
use Rattle.lead_laws.specs.Marks.{DecidesBehind, IsLead, LeadsDecideNothing, checks, comments, mark_of_kind}
use Rattle.check_lines.specs.declared.kind.Kind.{Kind}
use Rattle.check_lines.specs.declared.kind.Kind.TheVariants.{Plain, Next, Empty, Not}
use Rattle.prefix_tree.specs.Prefix.{meant_from, taken}
use Rattle.tt_base.specs.Occurrence.{begins_with}

-- a byte that belongs to no word is none of these letters
no_c : (b : ℕ) → is_word b ≡ false → nat_eq 67 b ≡ false
no_c b h = grind (arith, nat_tests, h)

no_r : (b : ℕ) → is_word b ≡ false → nat_eq 82 b ≡ false
no_r b h = grind (arith, nat_tests, h)

and_false : (p q : Bool) → p ≡ false → (p && q) ≡ false
and_false p q e = ap (λ x. x && q) e

none_marks : (b : ℕ) (rest : List ℕ) → is_word b ≡ false → mark_at checks comments (b ∷ rest) ≡ None
unfolding meant_from
none_marks b rest h =
    let check : begins_with (b ∷ rest) (codes "CHECK") ≡ false = and_false _ _ (no_c b h) in
    let comment : begins_with (b ∷ rest) (codes "COM") ≡ false = and_false _ _ (no_c b h) in
    let run : begins_with (b ∷ rest) (codes "RUN") ≡ false = and_false _ _ (no_r b h) in
    ap (λ p. mark_of (taken p 0 5 None) (taken (begins_with (b ∷ rest) (codes "RUN")) 1 3
    (taken (begins_with (b ∷ rest) (codes "COM")) 0 3 None)) (b ∷ rest)) check
    ∙ ap (λ p. mark_of None (taken (begins_with (b ∷ rest) (codes "RUN")) 1 3 (taken p 0 3 None)) (b ∷ rest)) comment
    ∙ ap (λ p. mark_of None (taken p 1 3 None) (b ∷ rest)) run

leads_to : (lead : List ℕ) (line : List ℕ) (at : ℕ) (mark : LineMark) → IsLead lead
    → decide_from checks comments false (at + length lead) line ≡ Some (record { at = at + length lead; mark = mark })
    → decide_from checks comments false at (lead ++ line) ≡ Some (record { at = at + length lead; mark = mark })
unfolding decide_from
leads_to [] line at mark is h =
    let none : at ≡ at + 0 = omega arith in ap (λ n. decide_from checks comments false n line) none ∙ h
leads_to (b ∷ lead) line at mark is h =
    let next : at + 1 + length lead ≡ at + suc (length lead) = omega arith in
    let behind : decide_from checks comments false (at + 1 + length lead) line ≡ Some (record { at = at + 1 + length lead; mark = mark }) =
    ap (λ n. decide_from checks comments false n line) next ∙ h ∙ ap (λ n. Some (record { at = n; mark = mark })) (sym next) in
    ap (λ m. option_or (option_map (λ mark. record { at = at; mark = mark }) m) (decide_from checks comments (is_word b) (at + 1) (lead ++ line)))
    (none_marks b (lead ++ line) is.0)
    ∙ ap (λ w. decide_from checks comments w (at + 1) (lead ++ line)) is.0
    ∙ leads_to lead line (at + 1) mark is.1 behind
    ∙ ap (λ n. Some (record { at = n; mark = mark })) next

-- ---- the four directives

plain_first : (at : ℕ) (body : List ℕ) → decide_from checks comments false at (codes "CHECK: " ++ body)
    ≡ Some (record { at = at; mark = mark_of_kind Plain 1 })
unfolding decide_from meant_from
plain_first at body = refl

next_first : (at : ℕ) (body : List ℕ) → decide_from checks comments false at (codes "CHECK-NEXT: " ++ body)
    ≡ Some (record { at = at; mark = mark_of_kind Next 6 })
unfolding decide_from meant_from
next_first at body = refl

empty_first : (at : ℕ) (body : List ℕ) → decide_from checks comments false at (codes "CHECK-EMPTY:" ++ body)
    ≡ Some (record { at = at; mark = mark_of_kind Empty 7 })
unfolding decide_from meant_from
empty_first at body = refl

not_first : (at : ℕ) (body : List ℕ) → decide_from checks comments false at (codes "CHECK-NOT: " ++ body)
    ≡ Some (record { at = at; mark = mark_of_kind Not 5 })
unfolding decide_from meant_from
not_first at body = refl

behind_lead : (lead directive : List ℕ) (kind : Kind) (count : ℕ) → IsLead lead
    → ((at : ℕ) (body : List ℕ) → decide_from checks comments false at (directive ++ body)
    ≡ Some (record { at = at; mark = mark_of_kind kind count })) → DecidesBehind lead directive kind count
behind_lead lead directive kind count is first body =
    let none : 0 + length lead ≡ length lead = omega arith in
    leads_to lead (directive ++ body) 0 (mark_of_kind kind count) is (first (0 + length lead) body)
    ∙ ap (λ n. Some (record { at = n; mark = mark_of_kind kind count })) none

pub leads_decide_nothing : LeadsDecideNothing
leads_decide_nothing lead is = record {
  plain = behind_lead lead (codes "CHECK: ") Plain 1 is plain_first;
  next = behind_lead lead (codes "CHECK-NEXT: ") Next 6 is next_first;
  empty = behind_lead lead (codes "CHECK-EMPTY:") Empty 7 is empty_first;
  negative = behind_lead lead (codes "CHECK-NOT: ") Not 5 is not_first;
}
