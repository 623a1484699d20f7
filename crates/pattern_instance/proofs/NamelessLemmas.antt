-- Pieces that use no names: none of theirs lacks a value, and the groups of texts before them don't matter.
-- By induction over the pieces, and for a number over its expression.
-- The long one is `groups_aside`, a case for each kind of piece.
use Rattle.std.proofs.Common.{◌≡◌, ℕ, ℤ, ◌+◌, Bool, true, false, true≢false, is_some, Option, Some, None, List, [], ◌∷◌, Result, Ok, Err, refl, sym, ap, ◌∙◌}
use Rattle.std.specs.Prelude.{◌||◌}
use Rattle.std.specs.FinMap.{empty, insert}
use Rattle.num_base.specs.Term.{Term}
use Rattle.num_base.specs.declared.evaluation.EvalFault.{EvalFault}
use Rattle.pattern_parse.specs.Item.{Item, plain, regex, define, recall, number}
use Rattle.pattern_instance.specs.Known.{Known}
use Rattle.pattern_instance.specs.Missing.{Names, each_once, lacking_in, missing, unknown, uses_names, with_name}
use Rattle.pattern_instance.specs.Parts.{Groups, Part, Parts, behind_part, groups_behind, map_parts, part_of, parts_from, with_part}

none_lacking : (numbers : List ℕ → Option ℤ) (expr : Option Term) (uses : Bool) (others : List (List ℕ))
    → (is_some expr || uses) ≡ false → (uses ≡ false → others ≡ []) → lacking_in numbers expr others ≡ []
none_lacking numbers None uses others none rest = rest none
none_lacking numbers (Some t) uses others none rest = absurd (true≢false none)

none_unknown : (known : Known) (defined : Names) (items : List Item) → uses_names items ≡ false
    → unknown known defined items ≡ []
none_unknown known defined [] none = refl
none_unknown known defined (plain bytes ∷ items) none = none_unknown known defined items none
none_unknown known defined (regex tree ∷ items) none = none_unknown known defined items none
none_unknown known defined (define one tree ∷ items) none = none_unknown known (with_name one defined) items none
none_unknown known defined (recall one ∷ items) none = absurd (true≢false none)
none_unknown known defined (number num format ∷ items) none =
    none_lacking known.number num.expr (uses_names items) (unknown known defined items) none
    (λ rest. none_unknown known defined items rest)

pub none_missing : (known : Known) (items : List Item) → uses_names items ≡ false → missing known items ≡ []
none_missing known items none = ap (each_once empty) (none_unknown known empty items none)

behind_same : (r : Result Part EvalFault) (f g : ℕ → Result Parts EvalFault) → ((more : ℕ) → f more ≡ g more)
    → behind_part r f ≡ behind_part r g
behind_same (Ok part) f g same = ap (map_parts (with_part part)) (same part.groups)
behind_same (Err fault) f g same = refl

rest_uses : (expr : Option Term) (items : List Item) → (is_some expr || uses_names items) ≡ false
    → uses_names items ≡ false
rest_uses None items none = none
rest_uses (Some t) items none = absurd (true≢false none)

pub rest_nameless : (one : Item) (items : List Item) → uses_names (one ∷ items) ≡ false → uses_names items ≡ false
rest_nameless (plain bytes) items none = none
rest_nameless (regex tree) items none = none
rest_nameless (define one tree) items none = none
rest_nameless (recall one) items none = absurd (true≢false none)
rest_nameless (number num format) items none = rest_uses num.expr items none

pub groups_aside : (known : Known) (n : ℕ) (g h : Groups) (items : List Item) → uses_names items ≡ false
    → parts_from known n g items ≡ parts_from known n h items
groups_aside known n g h [] none = refl
groups_aside known n g h (plain bytes ∷ items) none =
    behind_same (part_of known n g (plain bytes)) (λ more. parts_from known (n + more) g items)
    (λ more. parts_from known (n + more) h items) (λ more. groups_aside known (n + more) g h items none)
groups_aside known n g h (regex t ∷ items) none =
    behind_same (part_of known n g (regex t)) (λ more. parts_from known (n + more) g items)
    (λ more. parts_from known (n + more) h items) (λ more. groups_aside known (n + more) g h items none)
groups_aside known n g h (define name t ∷ items) none =
    behind_same (part_of known n g (define name t)) (λ more. parts_from known (n + more) (insert g name (n + 1)) items)
    (λ more. parts_from known (n + more) (insert h name (n + 1)) items)
    (λ more. groups_aside known (n + more) (insert g name (n + 1)) (insert h name (n + 1)) items none)
groups_aside known n g h (recall name ∷ items) none = absurd (true≢false none)
groups_aside known n g h (number num format ∷ items) none =
    behind_same (part_of known n g (number num format)) (λ more. parts_from known (n + more) g items)
    (λ more. parts_from known (n + more) h items)
    (λ more. groups_aside known (n + more) g h items (rest_uses num.expr items none))
