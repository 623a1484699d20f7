-- The pieces of a body one by one, as the loop reads them: what was read, in front of what the definition says of the rest,
-- is what it says of the whole. So a refusal or the end at hand is the body's. The hard one is `one_more`; `pieces_are_one`
-- follows from `one_cut`.
use Rattle.std.specs.Bool.{MatchBool}
use Rattle.pattern_parse.specs.Item.{plain, refused}
use Rattle.pattern_parse.specs.Demand.{is_label}
use Rattle.pattern_parse.specs.Pieces.{IsPieces, PiecesAreOne, is_plain, nothing_said}
use Rattle.pattern_parse.specs.declared.fault.PatKind.TheVariants.{TooLong}
use Rattle.pattern_parse.proofs.CutLemmas.{one_cut}
use Rattle.std.proofs.Common.{◌≡◌, ℕ, zero, suc, ◌+◌, ◌<◌, ◌≤◌, Bool, true, false, nat_lt, List, [], ◌∷◌, ◌++◌, Option, Some, None, Result, Ok, Err, add-one, ap, drop, drop-cons, get_or, length, map, refl, subst, sym, take, ◌∙◌, arith}
use Rattle.std.proofs.lemmas.Bool.{le-ltb}
use Rattle.std.proofs.lemmas.List.{drop_all, take_all}
use Rattle.num_base.specs.declared.format.Format.{Format}
use Rattle.pattern_parse.specs.Block.{Said}
use Rattle.pattern_parse.specs.Cut.{Ending, IsCut, Raw}
use Rattle.pattern_parse.specs.Cut as cut
use Rattle.pattern_parse.specs.Item.{Item}
use Rattle.pattern_parse.specs.Pieces.{and_items, behind_items, behind_raw, items_behind, items_from, raw_read, unless_refused, ended}
use Rattle.pattern_parse.specs.RawView.{raw_view}
use Rattle.pattern_parse.specs.declared.cutting.Raw as raws
use Rattle.pattern_parse.specs.declared.fault.PatFault.{PatFault}
use Rattle.pattern_parse.specs.declared.pattern.BodyRules.{BodyRules}

-- no bytes stand past the end
pub none_there : (body : List ℕ) (from n : ℕ) → length body < from → [] ≡ take n (drop from body)
none_there body from n over = sym (ap (take n) (drop_all from body (omega arith)) ∙ take_all n [] (omega arith))

-- a refusal behind items refuses them all
pub all_refused : (items : List Item) (fault : PatFault) → behind_items items (Err fault) ≡ Err fault
all_refused [] fault = refl
all_refused (item ∷ items) fault = ap (and_items item) (all_refused items fault)

all_over : (items : List Item) → behind_items items (Ok []) ≡ Ok items
all_over [] = refl
all_over (item ∷ items) = ap (and_items item) (all_over items)

-- an item behind others
one_behind : (items : List Item) (item : Item) (told : Result (List Item) PatFault)
    → behind_items (items ++ item ∷ []) told ≡ behind_items items (and_items item told)
one_behind [] item told = refl
one_behind (other ∷ items) item told = ap (and_items other) (one_behind items item told)

split_raws : (all : List raws.Raw) (i : ℕ) (raw : raws.Raw) → i < length all → raw ≡ get_or all i raw
    → drop i all ≡ raw ∷ drop (i + 1) all
split_raws all i raw low is = drop-cons all i raw low ∙ (λ n. sym is n ∷ drop (sym (add-one i) n) all)

pub get_same : (all : List raws.Raw) (i : ℕ) (d : raws.Raw) → i < length all
    → get_or all i d ≡ get_or all i (get_or all i d)
get_same [] i d low = absurd (omega (arith, low))
get_same (raw ∷ all) zero d low = refl
get_same (raw ∷ all) (suc i) d low = get_same all i d (omega (arith, low))

module _ (fold : Bool) (known : List ℕ → Option Format) (label : Bool) (body : List ℕ) (ending : Ending)
    (all : List raws.Raw) (told : Result (List Item) PatFault) (items : List Item) (said : Said) (at : ℕ) (i : ℕ) where
  here : (raw : raws.Raw) → i < length all → raw ≡ get_or all i raw
      → behind_items items (items_from fold known label said at (map (raw_view body) (drop i all)) ending) ≡ told
      → behind_items items (items_behind (raw_read fold known label said at (raw_view body raw))
      (λ next. items_from fold known label next (behind_raw at (raw_view body raw))
      (map (raw_view body) (drop (i + 1) all)) ending)) ≡ told
  here raw low is before =
      sym (ap (λ rs. behind_items items (items_from fold known label said at (map (raw_view body) rs) ending))
      (split_raws all i raw low is)) ∙ before

  -- a refusal at a piece is the body's
  pub refused_here : (raw : raws.Raw) (fault : PatFault) → i < length all → raw ≡ get_or all i raw
      → behind_items items (items_from fold known label said at (map (raw_view body) (drop i all)) ending) ≡ told
      → raw_read fold known label said at (raw_view body raw) ≡ Err fault → told ≡ Err fault
  refused_here raw fault low is before read =
      sym (here raw low is before)
      ∙ ap (λ r. behind_items items (items_behind r (λ next. items_from fold known label next
      (behind_raw at (raw_view body raw)) (map (raw_view body) (drop (i + 1) all)) ending))) read
      ∙ all_refused items fault

  -- a piece is put behind those that were read
  pub one_more : (raw : raws.Raw) (item : Item) (then_said : Said) (next_at : ℕ) (more : List Item) → i < length all
      → raw ≡ get_or all i raw
      → behind_items items (items_from fold known label said at (map (raw_view body) (drop i all)) ending) ≡ told
      → raw_read fold known label said at (raw_view body raw) ≡ Ok (item, then_said)
      → next_at ≡ behind_raw at (raw_view body raw) → more ≡ items ++ item ∷ []
      → behind_items more
      (items_from fold known label then_said next_at (map (raw_view body) (drop (i + 1) all)) ending)
      ≡ told
  one_more raw item then_said next_at more low is before read next joined =
      let rest : ℕ → Result (List Item) PatFault =
      λ n. items_from fold known label then_said n (map (raw_view body) (drop (i + 1) all)) ending in
      ap (λ is. behind_items is (rest next_at)) joined
      ∙ one_behind items item (rest next_at)
      ∙ ap (λ n. behind_items items (and_items item (rest n))) next
      ∙ sym (ap (λ r. behind_items items (items_behind r (λ after. items_from fold known label after
      (behind_raw at (raw_view body raw)) (map (raw_view body) (drop (i + 1) all)) ending))) read)
      ∙ here raw low is before

  at_end : length all ≤ i
      → behind_items items (items_from fold known label said at (map (raw_view body) (drop i all)) ending) ≡ told
      → behind_items items (unless_refused (ended label said.references at ending)) ≡ told
  at_end over before =
      sym (ap (λ rs. behind_items items (items_from fold known label said at (map (raw_view body) rs) ending))
      (drop_all i all over)) ∙ before

  -- the body's end
  pub refused_end : (fault : PatFault) → length all ≤ i
      → behind_items items (items_from fold known label said at (map (raw_view body) (drop i all)) ending) ≡ told
      → ended label said.references at ending ≡ Some fault → Err fault ≡ told
  refused_end fault over before is =
      sym (all_refused items fault) ∙ sym (ap (λ o. behind_items items (unless_refused o)) is) ∙ at_end over before

  pub over_end : length all ≤ i
      → behind_items items (items_from fold known label said at (map (raw_view body) (drop i all)) ending) ≡ told
      → ended label said.references at ending ≡ None → Ok items ≡ told
  over_end over before is =
      sym (all_over items) ∙ sym (ap (λ o. behind_items items (unless_refused o)) is) ∙ at_end over before

-- A body has one list of pieces, or one refusal.
pub pieces_are_one : PiecesAreOne
pieces_are_one body rules known told other one two =
    long (nat_lt 65536 (length body)) (is_plain rules) one two
  where
    cut_one : ((raws : List Raw) × (ending : Ending) × IsCut body raws ending
        × (told ≡ items_from rules.fold known (is_label rules.demand.role) nothing_said 0 raws ending))
        → ((raws : List Raw) × (ending : Ending) × IsCut body raws ending
        × (other ≡ items_from rules.fold known (is_label rules.demand.role) nothing_said 0 raws ending)) → told ≡ other
    cut_one (raws, ending, cut, same_told) (others, ends, again, equal) =
        let same = one_cut body raws others ending ends cut again in
        same_told ∙ ap (λ rs. items_from rules.fold known (is_label rules.demand.role) nothing_said 0 rs ending) same.0
        ∙ ap (items_from rules.fold known (is_label rules.demand.role) nothing_said 0 others) same.1 ∙ sym equal

    long : (b p : Bool)
        → MatchBool b (told ≡ refused TooLong 0) (MatchBool p (told ≡ Ok (plain body ∷ []))
        ((raws : List Raw) × (ending : Ending) × IsCut body raws ending
        × (told ≡ items_from rules.fold known (is_label rules.demand.role) nothing_said 0 raws ending)))
        → MatchBool b (other ≡ refused TooLong 0) (MatchBool p (other ≡ Ok (plain body ∷ []))
        ((raws : List Raw) × (ending : Ending) × IsCut body raws ending
        × (other ≡ items_from rules.fold known (is_label rules.demand.role) nothing_said 0 raws ending))) → told ≡ other
    long true p same_told equal = same_told ∙ sym equal
    long false true same_told equal = same_told ∙ sym equal
    long false false same_told equal = cut_one same_told equal

-- ---- a body that is plain text alone

pub plain_alone : (body : List ℕ) (rules : BodyRules) (known : List ℕ → Option Format) (told : Result (List Item) PatFault)
    → length body ≤ 65536 → told ≡ Ok (plain body ∷ []) → (is_plain rules ≡ false → IsCut body (cut.text body ∷ []) cut.over)
    → IsPieces body rules known told
plain_alone body rules known told short is alone =
    subst (λ v. MatchBool v (told ≡ refused TooLong 0) (MatchBool (is_plain rules) (told ≡ Ok (plain body ∷ []))
    ((raws : List Raw) × (ending : Ending) × IsCut body raws ending
    × (told ≡ items_from rules.fold known (is_label rules.demand.role) nothing_said 0 raws ending))))
    (sym (le-ltb 65536 (length body) short)) (each (is_plain rules) refl)
  where
    each : (v : Bool) → is_plain rules ≡ v → MatchBool v (told ≡ Ok (plain body ∷ []))
        ((raws : List Raw) × (ending : Ending) × IsCut body raws ending
        × (told ≡ items_from rules.fold known (is_label rules.demand.role) nothing_said 0 raws ending))
    each true plain_kind = is
    each false other = (cut.text body ∷ [], cut.over, alone other, is)
