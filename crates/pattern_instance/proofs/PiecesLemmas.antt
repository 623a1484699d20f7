-- One piece more: what is made with it, in front of the rest, is what was made before, in front of all.
-- By what the definition says of a first piece; the room that was counted ahead for groups covers those that are left.
-- `one_more` is the step of the loop, and `one_fault` its early end.
use Rattle.std.proofs.Common.{◌≡◌, false, ℕ, ◌+◌, ◌<◌, ◌≤◌, ◌^◌, List, ◌∷◌, length, drop, get_or, Result, Err, sym, ap, ◌∙◌, arith}
use Rattle.std.specs.List.{sum_by}
use Rattle.std.proofs.lemmas.List.Sums.{sum_by-cons}
use Rattle.num_base.specs.declared.evaluation.EvalFault.{EvalFault}
use Rattle.pattern_parse.proofs.FormatsLemmas.{split_pieces}
use Rattle.pattern_parse.specs.Item.{Item}
use Rattle.pattern_parse.specs.PieceView.{item_view, items_view}
use Rattle.pattern_parse.specs.Search.{greatest_of}
use Rattle.pattern_parse.specs.declared.pattern.Piece.{Piece}
use Rattle.pattern_instance.proofs.NamelessLemmas.{rest_nameless}
use Rattle.pattern_instance.specs.Known.{Known}
use Rattle.pattern_instance.specs.Missing.{uses_names}
use Rattle.pattern_instance.specs.Parts.{Parts}
use Rattle.pattern_instance.specs.Views.{whole}
use Rattle.pattern_instance.specs.declared.part.Made as begun

abbrev room_for : List Item → ℕ
room_for items = sum_by (λ one. greatest_of one + 2) items

-- the rest of pieces is a piece and the rest behind it
front : (pieces : List Piece) (i : ℕ) (piece : Piece) → i < length pieces → piece ≡ get_or pieces i piece
    → items_view (drop i pieces) ≡ item_view piece ∷ items_view (drop (i + 1) pieces)
front pieces i piece low is = ap items_view (split_pieces pieces i piece low is)

one_room : (one : Item) (items : List Item) → room_for (one ∷ items) ≡ greatest_of one + 2 + room_for items
one_room one items = sum_by-cons (λ n. greatest_of n + 2) one items

pub room_left : (pieces : List Piece) (i old new : ℕ) (piece : Piece) → i < length pieces
    → piece ≡ get_or pieces i piece → old + room_for (items_view (drop i pieces)) < 2 ^ 31
    → new ≤ old + (greatest_of (item_view piece) + 2)
    → new + room_for (items_view (drop (i + 1) pieces)) < 2 ^ 31
room_left pieces i old new piece low is small more =
    omega (
      arith,
      ap room_for (front pieces i piece low is),
      small,
      more,
      one_room (item_view piece) (items_view (drop (i + 1) pieces)),
    )

pub room_here : (pieces : List Piece) (i old : ℕ) (piece : Piece) → i < length pieces
    → piece ≡ get_or pieces i piece → old + room_for (items_view (drop i pieces)) < 2 ^ 31
    → old + (greatest_of (item_view piece) + 2) < 2 ^ 31
room_here pieces i old piece low is small =
    omega (
      arith,
      ap room_for (front pieces i piece low is),
      small,
      one_room (item_view piece) (items_view (drop (i + 1) pieces)),
    )

pub nameless_next : (pieces : List Piece) (i : ℕ) (piece : Piece) → i < length pieces → piece ≡ get_or pieces i piece
    → uses_names (items_view (drop i pieces)) ≡ false → uses_names (items_view (drop (i + 1) pieces)) ≡ false
nameless_next pieces i piece low is none =
    rest_nameless (item_view piece) (items_view (drop (i + 1) pieces))
    (sym (ap uses_names (front pieces i piece low is)) ∙ none)

pub one_more : (known : Known) (pieces : List Piece) (i : ℕ) (made new : begun.Made) (piece : Piece) (all : Result Parts EvalFault)
    → i < length pieces → piece ≡ get_or pieces i piece → whole known made (items_view (drop i pieces)) ≡ all
    → whole known new (items_view (drop (i + 1) pieces))
    ≡ whole known made (item_view piece ∷ items_view (drop (i + 1) pieces))
    → whole known new (items_view (drop (i + 1) pieces)) ≡ all
one_more known pieces i made new piece all low is same added =
    added ∙ ap (whole known made) (sym (front pieces i piece low is)) ∙ same

pub one_fault : (known : Known) (pieces : List Piece) (i : ℕ) (made : begun.Made) (piece : Piece) (all : Result Parts EvalFault) (fault : EvalFault)
    → i < length pieces → piece ≡ get_or pieces i piece → whole known made (items_view (drop i pieces)) ≡ all
    → whole known made (item_view piece ∷ items_view (drop (i + 1) pieces)) ≡ Err fault
    → Err fault ≡ all
one_fault known pieces i made piece all fault low is same refused =
    sym refused ∙ ap (whole known made) (sym (front pieces i piece low is)) ∙ same
