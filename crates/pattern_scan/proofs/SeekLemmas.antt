-- Seeking answers what the value of the hit says, whatever found the hit.
-- A hit that was found is compared with the value part by part: its start, its length and its groups decide the answer.
-- The hard one is `plain_sought`: what one piece of plain text stands for.
use Rattle.std.proofs.Common.{◌≡◌, ℕ, ℤ, ◌-◌, ◌≤◌, Bool, true, false, true≢false, Option, Some, None, IfSome, List, [], ◌∷◌, length, Result, Ok, Err, IfOk, IfErr, refl, sym, ap, ◌∙◌, subst, arith, append-nil}
use Rattle.std.specs.FinMap.{FinMap}
use Rattle.ere_hit.proofs.ValueLemmas.{value_is_hit, value_is_one, value_lies}
use Rattle.ere_hit.specs.Value.{Alike, IsSame, LiesIn, hit_in}
use Rattle.ere_match.specs.Shown.{ShownForHit}
use Rattle.ere_match.specs.Spans.{FindsSpan}
use Rattle.ere_tree.specs.Hit.{FindsHit}
use Rattle.ere_tree.specs.Shape.{has_refs}
use Rattle.ere_tree.specs.Tree.{Tree, cat, plain, then, none}
use Rattle.ere_tree.specs.declared.hit.Cap.{Cap}
use Rattle.ere_tree.specs.declared.hit.Hit.{Hit}
use Rattle.num_base.specs.Names.{name_cmp}
use Rattle.num_base.specs.declared.evaluation.EvalFault.{EvalFault}
use Rattle.num_base.specs.declared.evaluation.EvalFault.TheVariants as fault
use Rattle.pattern_hits.proofs.CapsLemmas.{hit_is_sound}
use Rattle.pattern_hits.specs.Bound.{all_bound, bound_of, number_bound, span_at, with_bound}
use Rattle.pattern_hits.specs.Caps.{IsSoundIn, LieInText}
use Rattle.pattern_hits.specs.Plain.{IsText}
use Rattle.pattern_instance.specs.Instance.{Instance, undefined, faulty, made, instance_of}
use Rattle.pattern_instance.specs.Known.{known_of}
use Rattle.pattern_instance.specs.declared.gift.Gift.{Gift}
use Rattle.pattern_instance.specs.declared.gift.Gift.TheVariants as gift
use Rattle.pattern_parse.specs.PieceView.{items_view}
use Rattle.pattern_parse.specs.declared.pattern.Pattern.{Pattern}
use Rattle.pattern_scan.specs.Means.{Shows}
use Rattle.pattern_scan.specs.Ready.{IsBuiltFor, IsReady, sought_by}
use Rattle.pattern_scan.specs.declared.means.Means.{Means}
use Rattle.pattern_scan.specs.declared.ready.Ready.{Ready}
use Rattle.pattern_scan.specs.Seek.{IsPlain, IsShown, IsWithin, answer_of, answered, is_expressed, refusal_of, sought, sought_of}
use Rattle.pattern_scan.specs.declared.sought.Sought.{Sought}
use Rattle.pattern_scan.specs.declared.sought.Sought.TheVariants.{Absent, Found}
use Rattle.pattern_vars.specs.declared.binding.Binding.{Binding}
use Rattle.pattern_vars.specs.declared.vars.Held.{Held}
use Rattle.tt_base.specs.Place.{span_of}
use Rattle.tt_base.specs.declared.memory.NoMemory.{NoMemory}
use Rattle.tt_base.specs.declared.place.Span.{Span}

same_answered : (from : ℕ) (a b : Hit) (r : Result (List Binding) Span) → IsSame from a b → answered a r ≡ answered b r
same_answered from a b (Ok fresh) same = (λ n. Found (span_of (same.start n) (same.count n)) fresh)
same_answered from a b (Err span) same = refl

same_answer : (fold : Bool) (text : List ℕ) (gifts : List Gift) (from : ℕ) (a b : Option Hit) → Alike from a b
    → answer_of fold text gifts a ≡ answer_of fold text gifts b
same_answer fold text gifts from None None same = refl
same_answer fold text gifts from None (Some b) same = absurd same
same_answer fold text gifts from (Some a) None same = absurd same
same_answer fold text gifts from (Some a) (Some b) same =
    same_answered from a b (all_bound fold text a.groups gifts) same
    ∙ ap (λ groups. answered b (all_bound fold text groups gifts)) same.groups

-- the answer of a hit that was found is that of the value
pub hit_sought : (fold : Bool) (text : List ℕ) (from : ℕ) (t : Tree) (gifts : List Gift) (hit : Option Hit)
    → FindsHit text t from hit → answer_of fold text gifts hit ≡ answer_of fold text gifts (hit_in text t from)
hit_sought fold text from t gifts hit finds =
    same_answer fold text gifts from hit (hit_in text t from) (value_is_one text t from hit finds)

same_shown : (count from shown : ℕ) (a b : Option Hit) → Alike from a b → ShownForHit count from a shown
    → ShownForHit count from b shown
same_shown count from shown None None same h = h
same_shown count from shown None (Some b) same h = absurd same
same_shown count from shown (Some a) None same h = absurd same
same_shown count from shown (Some a) (Some b) same h = same.reach shown h

-- and what was shown for it is what the value takes
pub hit_shown : (text : List ℕ) (from : ℕ) (t : Tree) (hit : Option Hit) (count shown : ℕ) → FindsHit text t from hit
    → ShownForHit count from hit shown → ShownForHit count from (hit_in text t from) shown
hit_shown text from t hit count shown finds h =
    same_shown count from shown hit (hit_in text t from) (value_is_one text t from hit finds) h

-- a number that can't be read ends in the text
abbrev EndsBy : ℕ → Result (List Binding) Span → Type 0
EndsBy to r = IfErr r (λ span. span.to ≤ to)

number_ends : (text : List ℕ) (groups : List (Option Cap)) (name : List ℕ) (n : ℕ) (r : Option ℤ) → LieInText text groups
    → IfErr (number_bound name (span_at groups n) r) (λ span. span.to ≤ length text)
number_ends text groups name n (Some value) lie = tt
number_ends text groups name n None lie = omega (lie.ordered n, lie.within n, arith)

one_ends : (fold : Bool) (text : List ℕ) (groups : List (Option Cap)) (one : Gift) → LieInText text groups
    → IfErr (bound_of fold text groups one) (λ span. span.to ≤ length text)
one_ends fold text groups (gift.Text name n) lie = tt
one_ends fold text groups (gift.Number name n format) lie = number_ends text groups name n _ lie
one_ends fold text groups (gift.Given name value) lie = tt

more_end : (to : ℕ) (one : Result Binding Span) (rest : Result (List Binding) Span) → IfErr one (λ span. span.to ≤ to)
    → EndsBy to rest → EndsBy to (with_bound one rest)
more_end to (Err span) rest h g = h
more_end to (Ok one) (Err span) h g = g
more_end to (Ok one) (Ok others) h g = tt

bound_ends : (fold : Bool) (text : List ℕ) (groups : List (Option Cap)) (gifts : List Gift) → LieInText text groups
    → EndsBy (length text) (all_bound fold text groups gifts)
bound_ends fold text groups [] lie = tt
bound_ends fold text groups (one ∷ gifts) lie =
    more_end (length text) (bound_of fold text groups one) (all_bound fold text groups gifts)
    (one_ends fold text groups one lie) (bound_ends fold text groups gifts lie)

answered_within : (from to : ℕ) (hit : Hit) (r : Result (List Binding) Span) → LiesIn from to hit → EndsBy to r
    → IsWithin from to (answered hit r)
answered_within from to hit (Ok fresh) h g = (h.behind, omega (h.ordered, h.within, arith))
answered_within from to hit (Err span) h g = g

answer_within : (fold : Bool) (text : List ℕ) (gifts : List Gift) (from : ℕ) (hit : Option Hit)
    → IfSome hit (LiesIn from (length text)) → IfSome hit (IsSoundIn text)
    → IsWithin from (length text) (answer_of fold text gifts hit)
answer_within fold text gifts from None h g = tt
answer_within fold text gifts from (Some hit) h g =
    answered_within from (length text) hit (all_bound fold text hit.groups gifts) h
    (bound_ends fold text hit.groups gifts g.lies)

refusal_within : (from to : ℕ) (fault : EvalFault) → IsWithin from to (refusal_of fault)
refusal_within from to fault.Undefined = tt
refusal_within from to fault.Range = tt
refusal_within from to fault.ZeroDivisor = tt

-- what is found lies in the slice
pub sought_within : (fold : Bool) (text : List ℕ) (from : ℕ) (i : Instance) → from ≤ length text
    → IsWithin from (length text) (sought_of fold text from i)
sought_within fold text from (undefined names) inside = tt
sought_within fold text from (faulty fault) inside = refusal_within from (length text) fault
sought_within fold text from (made t gifts) inside =
    answer_within fold text gifts from (hit_in text t from) (value_lies text t from inside)
    (hit_is_sound text t from (hit_in text t from) inside (value_is_hit text t from))

pub pattern_within : (pattern : Pattern) (vars : FinMap name_cmp Held) (text : List ℕ) (from line : ℕ) → from ≤ length text
    → IsWithin from (length text) (sought pattern vars text from line)
pattern_within pattern vars text from line inside =
    sought_within pattern.fold text from
    (instance_of (known_of vars line pattern.fold) pattern.frame (items_view pattern.pieces)) inside

pub answers_within : (fold : Bool) (text : List ℕ) (from : ℕ) (i : Instance) (r : Result Sought NoMemory)
    → from ≤ length text → IfOk r (λ answer. answer ≡ sought_of fold text from i) → IfOk r (IsWithin from (length text))
answers_within fold text from i (Ok answer) inside is =
    subst (IsWithin from (length text)) (sym is) (sought_within fold text from i inside)
answers_within fold text from i (Err e) inside is = tt

-- an answer is another value's, where both are the same
pub answer_is : (r : Result Sought NoMemory) (a b : Sought) → a ≡ b → IfOk r (λ answer. answer ≡ a)
    → IfOk r (λ answer. answer ≡ b)
answer_is (Ok answer) a b same is = is ∙ same
answer_is (Err e) a b same is = tt

-- the answer of an instance that is made
pub made_sought : (fold : Bool) (text : List ℕ) (from : ℕ) (i : Instance) (t : Tree) (gifts : List Gift)
    (hit : Option Hit) (r : Result Sought NoMemory) → made t gifts ≡ i → FindsHit text t from hit
    → IfOk r (λ answer. answer ≡ answer_of fold text gifts hit) → IfOk r (λ answer. answer ≡ sought_of fold text from i)
made_sought fold text from i t gifts hit r is finds told =
    answer_is r _ _ (hit_sought fold text from t gifts hit finds ∙ ap (sought_of fold text from) is) told

-- what is ready answers as its pattern does
pub ready_seeks : (ready : Ready) (pattern : Pattern) (vars : FinMap name_cmp Held) (line : ℕ) (text : List ℕ) (from : ℕ)
    → IsReady ready pattern vars line → sought_by ready text from ≡ sought pattern vars text from line
ready_seeks ready pattern vars line text from is = (λ n. sought_of (is.fold n) text from (is.instance n))

-- what is built for an instance that is made shows each byte, where it has to
pub built_shows : (i : Instance) (means : Means) (expressed : Bool) (t : Tree) (gifts : List Gift) → made t gifts ≡ i
    → IsBuiltFor i means expressed → expressed ≡ true → Shows means
built_shows i means expressed t gifts is built has =
    (subst (λ one. IsBuiltFor one means expressed) (sym is) built).1 has

always : (r : Result Sought NoMemory) {P : Type 0} → P → IfOk r (λ answer. P)
always (Ok answer) h = h
always (Err e) h = tt

pub made_shown : (expressed : Bool) (text : List ℕ) (from : ℕ) (i : Instance) (shown : ℕ) (t : Tree) (gifts : List Gift)
    (hit : Option Hit) (r : Result Sought NoMemory) → made t gifts ≡ i → FindsHit text t from hit
    → (expressed ≡ true → has_refs t ≡ false → ShownForHit (length text - from) from hit shown)
    → IfOk r (λ answer. IsShown expressed text from i shown)
made_shown expressed text from i shown t gifts hit r is finds least =
    always r (subst (λ one. IsShown expressed text from one shown) is
    (λ yes no_refs. hit_shown text from t hit (length text - from) shown finds (least yes no_refs)))

-- WHERE NOTHING IS ASKED OF GROUPS

-- the answer of a span
abbrev pub spanned : Option Cap → Sought
spanned None = Absent
spanned (Some span) = Found (span_of span.from (span.to - span.from)) []

-- where the span of the hit is told, its answer is that of the value
pub span_sought : (fold : Bool) (text : List ℕ) (from : ℕ) (t : Tree) (span : Option Cap) → FindsSpan text t from span
    → spanned span ≡ answer_of fold text [] (hit_in text t from)
span_sought fold text from t None told = hit_sought fold text from t [] None told
span_sought fold text from t (Some span) told =
    sym (λ n. Found (span_of (told.2 n) (told.3 n - told.2 n)) []) ∙ hit_sought fold text from t [] (Some told.0) told.1

-- ONE PIECE OF PLAIN TEXT

-- the instance of plain text alone
plain_made : (vars : FinMap name_cmp Held) (line : ℕ) (pattern : Pattern) (needle : List ℕ) → IsPlain pattern needle
    → instance_of (known_of vars line pattern.fold) pattern.frame (items_view pattern.pieces)
    ≡ made (cat (then (plain needle) none)) []
plain_made vars line pattern needle is =
    (λ n. instance_of (known_of vars line (is.fold n)) (is.frame n) (is.pieces n))

-- two patterns of the same plain text answer alike, whatever the variables hold
pub plain_alike : (vars vars' : FinMap name_cmp Held) (line line' : ℕ) (pattern other : Pattern) (needle text : List ℕ) (from : ℕ)
    → IsPlain pattern needle → IsPlain other needle → sought pattern vars text from line ≡ sought other vars' text from line'
plain_alike vars vars' line line' pattern other needle text from is also =
    (λ n. sought_of (is.fold n) text from (plain_made vars line pattern needle is n))
    ∙ sym ((λ n. sought_of (also.fold n) text from (plain_made vars' line' other needle also n)))

is_text : (needle : List ℕ) → IsText (cat (then (plain needle) none)) needle
is_text needle = record { texts = needle ∷ []; is = refl; joins = append-nil needle }

pub plain_sought : (vars : FinMap name_cmp Held) (line : ℕ) (pattern : Pattern) (needle text : List ℕ) (from : ℕ)
    (hit : Option Hit) → IsPlain pattern needle → ((t : Tree) → IsText t needle → FindsHit text t from hit)
    → answer_of false text [] hit ≡ sought pattern vars text from line
plain_sought vars line pattern needle text from hit is finds =
    hit_sought false text from (cat (then (plain needle) none)) [] hit (finds _ (is_text needle))
    ∙ sym ((λ n. sought_of (is.fold n) text from (plain_made vars line pattern needle is n)))

pub text_sound : (needle text : List ℕ) (from : ℕ) (hit : Option Hit) → from ≤ length text
    → ((t : Tree) → IsText t needle → FindsHit text t from hit) → IfSome hit (IsSoundIn text)
text_sound needle text from hit inside finds =
    hit_is_sound text (cat (then (plain needle) none)) from hit inside (finds _ (is_text needle))

-- nothing need be shown for it
pub plain_shown : (pattern : Pattern) (needle text : List ℕ) (from shown : ℕ) (i : Instance) → IsPlain pattern needle
    → IsShown (is_expressed (items_view pattern.pieces)) text from i shown
plain_shown pattern needle text from shown (undefined names) is = tt
plain_shown pattern needle text from shown (faulty fault) is = tt
plain_shown pattern needle text from shown (made t gifts) is =
    λ yes no_refs. absurd (true≢false (sym yes ∙ ap is_expressed is.pieces))
