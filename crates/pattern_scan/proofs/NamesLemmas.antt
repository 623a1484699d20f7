-- What a match gives is for names that the pattern defines, so where these have places `bind` may store it.
-- From the pieces to their gifts, from the gifts to what they bind, each by cases.
-- The hard one is `gifts_placed`, which goes along the parts of an instance.
use Rattle.std.proofs.Common.{◌≡◌, ℕ, ◌+◌, ℤ, Bool, true, is_some, Option, Some, None, IfSome, List, [], ◌∷◌, Result, Ok, Err, IfOk, refl, subst, sym}
use Rattle.std.proofs.lemmas.List.Elements.{All-head, All-tail}
use Rattle.std.specs.FinMap.{FinMap, empty, get}
use Rattle.std.specs.List.{cons_option, list_all}
use Rattle.std.specs.Option.{option_map}
use Rattle.ere_hit.specs.Value.{hit_in}
use Rattle.ere_tree.specs.declared.hit.Cap.{Cap}
use Rattle.ere_tree.specs.declared.hit.Hit.{Hit}
use Rattle.num_base.specs.Names.{name_cmp}
use Rattle.num_base.specs.Term.{Term}
use Rattle.num_base.specs.Eval.{value_of}
use Rattle.num_base.specs.declared.evaluation.EvalFault.{EvalFault}
use Rattle.num_base.specs.declared.evaluation.EvalFault.TheVariants as fault
use Rattle.num_base.specs.declared.format.Format.{Format}
use Rattle.num_spell.specs.Spelling.{prints}
use Rattle.pattern_hits.specs.Bound.{all_bound, bound_of, number_bound, with_bound}
use Rattle.pattern_instance.specs.Instance.{Instance, undefined, faulty, made, made_of, instance_of, unless_missing}
use Rattle.pattern_instance.specs.Known.{Known}
use Rattle.pattern_instance.specs.Missing.{missing}
use Rattle.pattern_instance.specs.Parts.{Groups, Part, Parts, behind_part, groups_behind, map_parts, number_part, part_of, parts_from, shown, valued, with_part}
use Rattle.pattern_instance.specs.declared.gift.Gift.{Gift}
use Rattle.pattern_instance.specs.declared.gift.Gift.TheVariants as gift
use Rattle.pattern_parse.specs.Item.{Item, plain, regex, define, recall, number}
use Rattle.pattern_parse.specs.declared.pattern.Frame.{Frame}
use Rattle.pattern_scan.specs.Seek.{ArePlaced, answer_of, answered, named_by, names_in, refusal_of, sought_of}
use Rattle.pattern_scan.specs.declared.sought.Sought.{Sought}
use Rattle.pattern_vars.proofs.VarsLemmas.{both_true}
use Rattle.pattern_vars.specs.Vars.{HavePlaces, has_place, have_places}
use Rattle.pattern_vars.specs.declared.binding.Binding.{Binding}
use Rattle.pattern_vars.specs.declared.vars.Held.{Held}
use Rattle.tt_base.specs.declared.memory.NoMemory.{NoMemory}
use Rattle.tt_base.specs.declared.place.Span.{Span}

-- the name that a gift is for
abbrev name_of : Gift → List ℕ
name_of (gift.Text name n) = name
name_of (gift.Number name n format) = name
name_of (gift.Given name value) = name

abbrev has : FinMap name_cmp Held → List ℕ → Bool
has vars name = is_some (get vars name)

abbrev HasPlace : FinMap name_cmp Held → Gift → Type 0
HasPlace vars one = has vars (name_of one) ≡ true

abbrev GiftsPlaced : FinMap name_cmp Held → List Gift → Type 0
GiftsPlaced vars gifts = list_all (λ one. has vars (name_of one)) gifts ≡ true

-- FROM GIFTS TO WHAT THEY BIND

number_placed : (vars : FinMap name_cmp Held) (name : List ℕ) (span : Span) (r : Option ℤ) → has vars name ≡ true
    → IfOk (number_bound name span r) (λ one. has_place vars one ≡ true)
number_placed vars name span (Some value) h = h
number_placed vars name span None h = tt

one_placed : (vars : FinMap name_cmp Held) (fold : Bool) (text : List ℕ) (groups : List (Option Cap)) (one : Gift)
    → HasPlace vars one → IfOk (bound_of fold text groups one) (λ binding. has_place vars binding ≡ true)
one_placed vars fold text groups (gift.Text name n) h = h
one_placed vars fold text groups (gift.Number name n format) h = number_placed vars name _ _ h
one_placed vars fold text groups (gift.Given name value) h = h

more_placed : (vars : FinMap name_cmp Held) (one : Result Binding Span) (rest : Result (List Binding) Span)
    → IfOk one (λ binding. has_place vars binding ≡ true) → IfOk rest (λ fresh. have_places vars fresh ≡ true)
    → IfOk (with_bound one rest) (λ fresh. have_places vars fresh ≡ true)
more_placed vars (Err span) rest h g = tt
more_placed vars (Ok one) (Err span) h g = tt
more_placed vars (Ok one) (Ok others) h g = rw h g

bound_placed : (vars : FinMap name_cmp Held) (fold : Bool) (text : List ℕ) (groups : List (Option Cap)) (gifts : List Gift)
    → GiftsPlaced vars gifts → IfOk (all_bound fold text groups gifts) (λ fresh. have_places vars fresh ≡ true)
bound_placed vars fold text groups [] h = refl
bound_placed vars fold text groups (one ∷ gifts) h =
    let both = both_true (has vars (name_of one)) (list_all (λ other. has vars (name_of other)) gifts) h in
    more_placed vars (bound_of fold text groups one) (all_bound fold text groups gifts)
    (one_placed vars fold text groups one both.0) (bound_placed vars fold text groups gifts both.1)

-- FROM PIECES TO THEIR GIFTS

abbrev PartPlaced : FinMap name_cmp Held → Result Part EvalFault → Type 0
PartPlaced vars part = IfOk part (λ one. IfSome one.gift (HasPlace vars))

abbrev PartsPlaced : FinMap name_cmp Held → Result Parts EvalFault → Type 0
PartsPlaced vars parts = IfOk parts (λ all. GiftsPlaced vars all.gifts)

given_placed : (vars : FinMap name_cmp Held) (make : List ℕ → Gift) (defines : Option (List ℕ))
    → ((name : List ℕ) → name_of (make name) ≡ name) → IfSome defines (λ name. has vars name ≡ true)
    → IfSome (option_map make defines) (HasPlace vars)
given_placed vars make None same h = tt
given_placed vars make (Some name) same h = subst (λ n. has vars n ≡ true) (sym (same name)) h

shown_placed : (vars : FinMap name_cmp Held) (fold : Bool) (defines : Option (List ℕ)) (value : ℤ)
    (bytes : Option (List ℕ)) → IfSome defines (λ name. has vars name ≡ true)
    → PartPlaced vars (shown fold defines value bytes)
shown_placed vars fold defines value None h = tt
shown_placed vars fold defines value (Some bytes) h =
    given_placed vars (λ name. gift.Given name value) defines (λ name. refl) h

valued_placed : (vars : FinMap name_cmp Held) (fold : Bool) (defines : Option (List ℕ)) (format : Format)
    (value : Result ℤ EvalFault) → IfSome defines (λ name. has vars name ≡ true)
    → PartPlaced vars (valued fold defines format value)
valued_placed vars fold defines format (Ok value) h = shown_placed vars fold defines value (prints format value) h
valued_placed vars fold defines format (Err fault) h = tt

number_part_placed : (vars : FinMap name_cmp Held) (known : Known) (n : ℕ) (defines : Option (List ℕ)) (format : Format)
    (expr : Option Term) → IfSome defines (λ name. has vars name ≡ true)
    → PartPlaced vars (number_part known n defines format expr)
number_part_placed vars known n defines format None h =
    given_placed vars (λ name. gift.Number name n format) defines (λ name. refl) h
number_part_placed vars known n defines format (Some t) h =
    valued_placed vars known.fold defines format (value_of known.number known.at t) h

-- the names of a piece, and of those behind it
optional_names : (vars : FinMap name_cmp Held) (defines : Option (List ℕ)) (names : List (List ℕ))
    → HavePlaces vars (cons_option defines names) → IfSome defines (λ name. has vars name ≡ true) × HavePlaces vars names
optional_names vars None names h = (tt, h)
optional_names vars (Some name) names h =
    (All-head (λ one. has vars one ≡ true) name names h, All-tail (λ one. has vars one ≡ true) name names h)

piece_placed : (vars : FinMap name_cmp Held) (known : Known) (n : ℕ) (groups : Groups) (one : Item)
    (names : List (List ℕ)) → HavePlaces vars (named_by one names)
    → PartPlaced vars (part_of known n groups one) × HavePlaces vars names
piece_placed vars known n groups (plain bytes) names h = (tt, h)
piece_placed vars known n groups (regex t) names h = (tt, h)
piece_placed vars known n groups (define name t) names h =
    (All-head (λ one. has vars one ≡ true) name names h, All-tail (λ one. has vars one ≡ true) name names h)
piece_placed vars known n groups (recall name) names h = (tt, h)
piece_placed vars known n groups (number num format) names h =
    let both = optional_names vars num.defines names h in
    (number_part_placed vars known n num.defines format num.expr both.0, both.1)

front_placed : (vars : FinMap name_cmp Held) (one : Part) (rest : Result Parts EvalFault)
    → IfSome one.gift (HasPlace vars) → PartsPlaced vars rest → PartsPlaced vars (map_parts (with_part one) rest)
front_placed vars one (Err fault) h g = tt
front_placed vars one (Ok parts) h g = each one.gift h
  where
    each : (o : Option Gift) → IfSome o (HasPlace vars) → GiftsPlaced vars (cons_option o parts.gifts)
    each None h = g
    each (Some given) h = rw h g

part_placed : (vars : FinMap name_cmp Held) (one : Result Part EvalFault) (rest : ℕ → Result Parts EvalFault)
    → PartPlaced vars one → ((more : ℕ) → PartsPlaced vars (rest more)) → PartsPlaced vars (behind_part one rest)
part_placed vars (Err fault) rest h g = tt
part_placed vars (Ok one) rest h g = front_placed vars one (rest one.groups) h (g one.groups)

gifts_placed : (vars : FinMap name_cmp Held) (known : Known) (n : ℕ) (groups : Groups) (items : List Item)
    → HavePlaces vars (names_in items) → PartsPlaced vars (parts_from known n groups items)
gifts_placed vars known n groups [] h = refl
gifts_placed vars known n groups (one ∷ items) h =
    let both = piece_placed vars known n groups one (names_in items) h in
    part_placed vars (part_of known n groups one) _ both.0
    (λ more. gifts_placed vars known (n + more) (groups_behind n groups one) items both.1)

-- FROM THE INSTANCE TO THE ANSWER

abbrev InstancePlaced : FinMap name_cmp Held → Instance → Type 0
InstancePlaced vars (undefined names) = Unit {0}
InstancePlaced vars (faulty fault) = Unit {0}
InstancePlaced vars (made t gifts) = GiftsPlaced vars gifts

made_placed : (vars : FinMap name_cmp Held) (frame : Frame) (parts : Result Parts EvalFault) → PartsPlaced vars parts
    → InstancePlaced vars (made_of frame parts)
made_placed vars frame (Ok parts) h = h
made_placed vars frame (Err fault) h = tt

unless_placed : (vars : FinMap name_cmp Held) (names : List (List ℕ)) (i : Instance) → InstancePlaced vars i
    → InstancePlaced vars (unless_missing names i)
unless_placed vars [] i h = h
unless_placed vars (name ∷ names) i h = tt

instance_placed : (vars : FinMap name_cmp Held) (known : Known) (frame : Frame) (items : List Item)
    → HavePlaces vars (names_in items) → InstancePlaced vars (instance_of known frame items)
instance_placed vars known frame items h =
    unless_placed vars (missing known items) _
    (made_placed vars frame (parts_from known 0 empty items) (gifts_placed vars known 0 empty items h))

answered_placed : (vars : FinMap name_cmp Held) (hit : Hit) (r : Result (List Binding) Span)
    → IfOk r (λ fresh. have_places vars fresh ≡ true) → ArePlaced vars (answered hit r)
answered_placed vars hit (Ok fresh) h = h
answered_placed vars hit (Err span) h = tt

answer_placed : (vars : FinMap name_cmp Held) (fold : Bool) (text : List ℕ) (gifts : List Gift) (hit : Option Hit)
    → GiftsPlaced vars gifts → ArePlaced vars (answer_of fold text gifts hit)
answer_placed vars fold text gifts None h = tt
answer_placed vars fold text gifts (Some hit) h =
    answered_placed vars hit (all_bound fold text hit.groups gifts) (bound_placed vars fold text hit.groups gifts h)

refusal_placed : (vars : FinMap name_cmp Held) (fault : EvalFault) → ArePlaced vars (refusal_of fault)
refusal_placed vars fault.Undefined = tt
refusal_placed vars fault.Range = tt
refusal_placed vars fault.ZeroDivisor = tt

sought_placed : (vars : FinMap name_cmp Held) (fold : Bool) (text : List ℕ) (from : ℕ) (i : Instance)
    → InstancePlaced vars i → ArePlaced vars (sought_of fold text from i)
sought_placed vars fold text from (undefined names) h = tt
sought_placed vars fold text from (faulty fault) h = refusal_placed vars fault
sought_placed vars fold text from (made t gifts) h = answer_placed vars fold text gifts (hit_in text t from) h

-- what a pattern's search gives is for its own names
pub answers_placed : (vars : FinMap name_cmp Held) (fold : Bool) (text : List ℕ) (from : ℕ) (known : Known) (frame : Frame)
    (items : List Item) (r : Result Sought NoMemory) → HavePlaces vars (names_in items)
    → IfOk r (λ answer. answer ≡ sought_of fold text from (instance_of known frame items)) → IfOk r (ArePlaced vars)
answers_placed vars fold text from known frame items (Ok answer) h is =
    subst (ArePlaced vars) (sym is)
    (sought_placed vars fold text from (instance_of known frame items) (instance_placed vars known frame items h))
answers_placed vars fold text from known frame items (Err none) h is = tt
