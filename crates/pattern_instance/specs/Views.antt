-- The definitions' values that the code's values stand for.
use Rattle.std.specs.Prelude.{◌≡◌, ℕ, ◌+◌, ℤ, Bool, false, ◌++◌, List, ◌∷◌, map, Option, Some, None, Result, Ok, Err, IfOk}
use Rattle.std.specs.FinMap.{FinMap, insert}
use Rattle.ere_tree.specs.Tree.{cat, trees_of}
use Rattle.ere_tree.specs.View.{view}
use Rattle.num_base.specs.Names.{name_cmp}
use Rattle.num_base.specs.Term.{Term, literal, line, name, binary}
use Rattle.num_base.specs.declared.evaluation.EvalFault.{EvalFault}
use Rattle.pattern_parse.specs.Item.{Item, recall}
use Rattle.pattern_parse.specs.PieceView.{item_view, items_view}
use Rattle.pattern_parse.specs.Search.{greatest_of}
use Rattle.pattern_parse.specs.declared.pattern.Frame.{Frame}
use Rattle.pattern_parse.specs.declared.pattern.Pattern.{Pattern}
use Rattle.pattern_parse.specs.declared.pattern.Piece as pieces
use Rattle.pattern_vars.specs.Vars.{number_of}
use Rattle.pattern_vars.specs.declared.vars.Held.{Held}
use Rattle.pattern_instance.specs.Instance.{Instance, undefined, faulty, made, behind, instance_of}
use Rattle.pattern_instance.specs.Known.{Known, known_in, known_of}
use Rattle.pattern_instance.specs.Missing.{Names, each_once, lacking, unknown, uses_names}
use Rattle.pattern_instance.specs.Parts.{Part, Parts, groups_behind, map_parts, parts_from, with_part}
use Rattle.pattern_instance.specs.declared.instance.Instance as instances
use Rattle.pattern_instance.specs.declared.instance.Instance.TheVariants as instance
use Rattle.pattern_instance.specs.declared.known.Known as held
use Rattle.pattern_instance.specs.declared.name_list.NameList as names
use Rattle.pattern_instance.specs.declared.part.Part as parts
use Rattle.pattern_instance.specs.declared.part.Made as begun

-- the names that were told, with those that are told of others behind them
abbrev pub still_told : names.NameList → List (List ℕ) → List (List ℕ)
still_told list rest = list.names ++ each_once list.told rest

-- more names are told: what is told with others is what was told with these in front of them
abbrev pub ToldBy : names.NameList → names.NameList → (List (List ℕ) → List (List ℕ)) → Type 0
ToldBy old new more = (rest : List (List ℕ)) → still_told new rest ≡ still_told old (more rest)

abbrev pub ToldFirst : names.NameList → names.NameList → List (List ℕ) → Type 0
ToldFirst old new more = ToldBy old new (λ rest. more ++ rest)

-- the names of an expression that have no number by these variables, in front of others
abbrev pub lacking_of : FinMap name_cmp Held → Term → List (List ℕ) → List (List ℕ)
lacking_of vars t others = lacking (number_of vars) t others

-- the names of pieces that have no value, behind those that were told, where these texts are defined
abbrev pub told_with : names.NameList → Known → Names → List Item → List (List ℕ)
told_with list known defined items = still_told list (unknown known defined items)

-- the names of a piece are told, with the texts that are defined before it and behind it
abbrev pub TellsItem : Known → Item → Names → Names → names.NameList → names.NameList → Type 0
TellsItem known one before after old new =
    (items : List Item) → told_with new known after items ≡ told_with old known before (one ∷ items)

abbrev pub Tells : held.Known → pieces.Piece → Names → Names → names.NameList → names.NameList → Type 0
Tells known piece before after old new = TellsItem (known_in known) (item_view piece) before after old new

abbrev pub TellsRecall : held.Known → List ℕ → Names → names.NameList → names.NameList → Type 0
TellsRecall known one defined old new = TellsItem (known_in known) (recall one) defined defined old new

-- numbers with those of an expression that have a value
abbrev pub gathered : (List ℕ → Option ℤ) → Term → FinMap name_cmp ℤ → FinMap name_cmp ℤ
gathered numbers (literal z) held = held
gathered numbers line held = held
gathered numbers (name one) held = elim (numbers one) [ Some z ↦ insert held one z | None ↦ held ]
gathered numbers (binary op left right) held = gathered numbers right (gathered numbers left held)

abbrev pub part_view : parts.Part → Part
part_view part = record { tree = view part.ere; groups = part.groups; gift = part.gift }

abbrev pub outcome_view : Result parts.Part EvalFault → Result Part EvalFault
outcome_view (Ok part) = Ok (part_view part)
outcome_view (Err fault) = Err fault

-- a part, or a fault, unless memory ran out
abbrev pub MakesPart : {E : Type 0} → Result parts.Part E → Part → Type 0
MakesPart result due = IfOk result (λ part. part_view part ≡ due)

abbrev pub MayMakePart : {E : Type 0} → Result (Result parts.Part EvalFault) E → Result Part EvalFault → Type 0
MayMakePart result due = IfOk result (λ told. outcome_view told ≡ due)

-- what is made so far, in front of the parts of other pieces
abbrev pub in_front : begun.Made → Result Parts EvalFault → Result Parts EvalFault
in_front first (Ok rest) =
    Ok (record { trees = map view first.trees.items ++ rest.trees; gifts = first.gifts ++ rest.gifts })
in_front first (Err fault) = Err fault

-- the parts of all pieces, where those of the first ones are made
abbrev pub whole : Known → begun.Made → List Item → Result Parts EvalFault
whole known first items = in_front first (parts_from known first.count first.groups items)

-- the parts of all pieces, or their first fault
abbrev pub told_view : Result begun.Made EvalFault → Result Parts EvalFault
told_view (Ok all) = Ok (record { trees = map view all.trees.items; gifts = all.gifts })
told_view (Err fault) = Err fault

abbrev pub MayMakeAll : {E : Type 0} → Result (Result begun.Made EvalFault) E → Result Parts EvalFault → Type 0
MayMakeAll result due = IfOk result (λ told. told_view told ≡ due)

-- a part stands behind what was made, and in front of those of other pieces
abbrev pub HasPart : begun.Made → begun.Made → Part → Type 0
HasPart old new part =
    (rest : Result Parts EvalFault) → in_front new rest ≡ in_front old (map_parts (with_part part) rest)

-- the groups of texts serve the parts of pieces behind them as others do, where none of those uses names or some may
abbrev pub Serve : Bool → Names → Names → Type 0
Serve uses groups others =
    (known : Known) (count : ℕ) (items : List Item) → (uses ≡ false → uses_names items ≡ false)
    → parts_from known count groups items ≡ parts_from known count others items

-- the groups behind a piece serve so
abbrev pub ServeBehind : Bool → ℕ → Names → Names → Item → Type 0
ServeBehind uses count old new one = Serve uses new (groups_behind count old one)

-- a piece was added to what is made, or it has the first fault
abbrev pub Added : Known → begun.Made → begun.Made → Item → List Item → Result (Unit {0}) EvalFault → Type 0
Added known old new one items (Ok done) = whole known new items ≡ whole known old (one ∷ items)
Added known old new one items (Err fault) = whole known old (one ∷ items) ≡ Err fault

-- how many groups a piece has at most
abbrev pub most_groups : Item → ℕ
most_groups one = greatest_of one + 2

-- a piece was added so in front of any pieces behind it, where none of those uses names or some may
abbrev pub AddsPiece : Bool → held.Known → begun.Made → begun.Made → Item → Result (Unit {0}) EvalFault → Type 0
AddsPiece uses known old new one told =
    (items : List Item) → (uses ≡ false → uses_names items ≡ false) → Added (known_in known) old new one items told

-- the instance of parts, once all are made
abbrev pub finished : begun.Made → Frame → Instance
finished parts frame = made (cat (trees_of (map view parts.trees.items ++ behind frame))) parts.gifts

-- the instance of a pattern that a directive of this line has
abbrev pub instance_by : FinMap name_cmp Held → ℕ → Pattern → Instance
instance_by vars at pattern = instance_of (known_of vars at pattern.fold) pattern.frame (items_view pattern.pieces)

-- an instance
abbrev pub instance_view : instances.Instance → Instance
instance_view (instance.Undefined names) = undefined names
instance_view (instance.Faulty fault) = faulty fault
instance_view (instance.Made ere gifts) = made (view ere) gifts
