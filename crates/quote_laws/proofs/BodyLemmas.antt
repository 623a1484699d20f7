-- What a quoted line between anchors is cut into, and what that is read as.
-- Shown: part by part, a text is a run that ends before `{{`, and the two bytes are expressions of their own.
-- The hard one is `cut_parts`: a text of a line ends exactly where the next part begins.
use Rattle.std.proofs.Common.{◌≡◌, codes, ℕ, ◌+◌, ◌==◌, Bool, true, false, true≢false, arith, ◌&&◌, not, if◌then◌else◌, List, [], ◌∷◌, ◌++◌, length, map, Option, Ok, refl, sym, ap, ◌∙◌, subst, append_assoc}
use Rattle.std.proofs.lemmas.Bool.{and_left, or_parts}
use Rattle.std.proofs.lemmas.Bool.Decides.{nat_tests}
use Rattle.std.specs.List.{list_any}
use Rattle.ere_tree.specs.Bound.{begins_bound, bound_at}
use Rattle.ere_tree.specs.Bracket.{begins_range, bracket, class_len, element, member, members}
use Rattle.ere_tree.specs.Front.{begins_with}
use Rattle.ere_tree.specs.Grammar.{reading, reading_from, tree_read}
use Rattle.ere_tree.specs.Token.{atom_at, bound_behind, token}
use Rattle.ere_tree.specs.Tree.{Tree, alt, bytes_passing, line_start, line_end, numbers_below, set}
use Rattle.ere_tree.specs.Tree as tree
use Rattle.quote_laws.specs.Quote as quote_of
use Rattle.quote_laws.specs.Quote.{BodiesAreCut, BodiesAreRead, NotsAreRead, Part, QuotesAreParts, bit_of, body_of, brace, items_of, part_before, parts_of, quote, quote_byte, raws_of, text, text_before, written, written_all}
use Rattle.line_laws.specs.Left.{alternatives, dot}
use Rattle.line_laws.specs.Quoted.{bytes_in}
use Rattle.num_base.specs.declared.format.Format.{Format}
use Rattle.pattern_parse.specs.Cut.{IsCut, IsRun, IsUpToEnd, front_at, over, starts_twice}
use Rattle.pattern_parse.specs.Block.{and_said}
use Rattle.pattern_parse.specs.Item.{Item, plain, regex}
use Rattle.pattern_parse.specs.Cut as cut
use Rattle.pattern_parse.specs.Ends.{is_text}
use Rattle.pattern_parse.specs.Pieces.{and_items, items_behind, items_from, nothing_said, regex_read}

-- ---- what the four expressions are read as

start_read : reading false (codes "^") ≡ Ok line_start
unfolding reading tree_read reading_from token begins_with
start_read = refl

end_read : reading false (codes "$") ≡ Ok line_end
unfolding reading tree_read reading_from token begins_with
end_read = refl

bracket_read : reading false (codes "\\[") ≡ Ok (tree.plain (91 ∷ []))
unfolding reading tree_read reading_from token begins_with begins_bound atom_at bound_behind bound_at
bracket_read = refl

brace_read : reading false (codes "[{]") ≡ Ok (set (123 ∷ []))
unfolding reading tree_read reading_from token begins_with begins_bound atom_at bound_behind bound_at bracket members member begins_range element class_len bytes_passing numbers_below
brace_read = refl

-- ---- parts of a line are sound

abbrev IsPlainByte : ℕ → Type 0
IsPlainByte b = (b == 91 ≡ false) × (b == 123 ≡ false)

abbrev ArePlainBytes : List ℕ → Type 0
ArePlainBytes [] = Unit {0}
ArePlainBytes (b ∷ bytes) = IsPlainByte b × ArePlainBytes bytes

abbrev IsText : List ℕ → Type 0
IsText [] = ⊥
IsText (b ∷ bytes) = IsPlainByte b × ArePlainBytes bytes

abbrev BeginsOther : List Part → Type 0
BeginsOther [] = Unit {0}
BeginsOther (text bytes ∷ parts) = ⊥
BeginsOther (quote_of.bracket ∷ parts) = Unit {0}
BeginsOther (brace ∷ parts) = Unit {0}

abbrev AreSound : List Part → Type 0
AreSound [] = Unit {0}
AreSound (text bytes ∷ parts) = IsText bytes × BeginsOther parts × AreSound parts
AreSound (quote_of.bracket ∷ parts) = AreSound parts
AreSound (brace ∷ parts) = AreSound parts

text_sound : (b : ℕ) (parts : List Part) → IsPlainByte b → AreSound parts → AreSound (text_before b parts)
text_sound b [] is sound = ((is, tt), tt, tt)
text_sound b (text [] ∷ parts) is sound = absurd sound.0
text_sound b (text (c ∷ bytes) ∷ parts) is sound = ((is, sound.0), sound.1, sound.2)
text_sound b (quote_of.bracket ∷ parts) is sound = ((is, tt), tt, sound)
text_sound b (brace ∷ parts) is sound = ((is, tt), tt, sound)

sound_by : (b : ℕ) (parts : List Part) (x y : Bool) → b == 91 ≡ x → b == 123 ≡ y → AreSound parts
    → AreSound (if x then quote_of.bracket ∷ parts else if y then brace ∷ parts else text_before b parts)
sound_by b parts true y e f sound = sound
sound_by b parts false true e f sound = sound
sound_by b parts false false e f sound = text_sound b parts (e, f) sound

all_sound : (line : List ℕ) → AreSound (parts_of line)
all_sound [] = tt
all_sound (b ∷ line) = sound_by b (parts_of line) (b == 91) (b == 123) refl refl (all_sound line)

-- ---- a body is that of its parts

text_written : (b : ℕ) (parts : List Part) → written_all (text_before b parts) ≡ b ∷ written_all parts
text_written b [] = refl
text_written b (text bytes ∷ parts) = refl
text_written b (quote_of.bracket ∷ parts) = refl
text_written b (brace ∷ parts) = refl

written_by : (b : ℕ) (parts : List Part) (x y : Bool)
    → (if x then codes "{{\\[}}" else if y then codes "{{[{]}}" else b ∷ []) ++ written_all parts
    ≡ written_all (if x then quote_of.bracket ∷ parts else if y then brace ∷ parts else text_before b parts)
written_by b parts true y = refl
written_by b parts false true = refl
written_by b parts false false = sym (text_written b parts)

all_written : (line : List ℕ) → quote line ++ codes "{{$}}" ≡ written_all (parts_of line)
all_written [] = refl
all_written (b ∷ line) =
    append_assoc (quote_byte b) (quote line) (codes "{{$}}") ∙ ap (λ l. quote_byte b ++ l) (all_written line)
    ∙ written_by b (parts_of line) (b == 91) (b == 123)

text_bytes : (b : ℕ) (parts : List Part) → bytes_in (map bit_of (text_before b parts)) ≡ b ∷ bytes_in (map bit_of parts)
text_bytes b [] = refl
text_bytes b (text bytes ∷ parts) = refl
text_bytes b (quote_of.bracket ∷ parts) = refl
text_bytes b (brace ∷ parts) = refl

is_number : (b n : ℕ) → b == n ≡ true → n ≡ b
is_number b n e = grind (arith, nat_tests, e)

bytes_by : (b : ℕ) (parts : List Part) (x y : Bool) → b == 91 ≡ x → b == 123 ≡ y
    → bytes_in (map bit_of (if x then quote_of.bracket ∷ parts else if y then brace ∷ parts else text_before b parts))
    ≡ b ∷ bytes_in (map bit_of parts)
bytes_by b parts true y e f = ap (λ n. n ∷ bytes_in (map bit_of parts)) (is_number b 91 e)
bytes_by b parts false true e f = ap (λ n. n ∷ bytes_in (map bit_of parts)) (is_number b 123 f)
bytes_by b parts false false e f = text_bytes b parts

pub all_bytes : (line : List ℕ) → bytes_in (map bit_of (parts_of line)) ≡ line
all_bytes [] = refl
all_bytes (b ∷ line) =
    bytes_by b (parts_of line) (b == 91) (b == 123) refl refl ∙ ap (λ l. b ∷ l) (all_bytes line)

pub quotes_are_parts : QuotesAreParts
quotes_are_parts line = (ap (λ l. codes "{{^}}" ++ l) (all_written line), all_bytes line)

-- ---- the cut

front_text : (b : ℕ) (rest : List ℕ) → IsPlainByte b → front_at (b ∷ rest) ≡ front_at (97 ∷ [])
front_text b [] is = refl
front_text b (y ∷ more) is =
    ap (λ p. if p && (y == 123) then front_at (123 ∷ 123 ∷ [])
    else if (b == 91 && (y == 91)) && not (starts_twice 91 (y ∷ more)) then front_at (91 ∷ 91 ∷ []) else front_at (97 ∷ [])) is.1
    ∙ ap (λ q. if (q && (y == 91)) && not (starts_twice 91 (y ∷ more)) then front_at (91 ∷ 91 ∷ []) else front_at (97 ∷ [])) is.0

begins_regex : (parts : List Part) → BeginsOther parts → front_at (written_all parts) ≡ front_at (123 ∷ 123 ∷ [])
begins_regex [] h = refl
begins_regex (text bytes ∷ parts) h = absurd h
begins_regex (quote_of.bracket ∷ parts) h = refl
begins_regex (brace ∷ parts) h = refl

other_front : front_at (123 ∷ 123 ∷ []) ≡ front_at (97 ∷ []) → ⊥
other_front e = true≢false (sym (ap is_text e))

run_ends : (bytes rest : List ℕ) → ArePlainBytes bytes → front_at rest ≡ front_at (123 ∷ 123 ∷ [])
    → IsRun bytes (bytes ++ rest) rest
run_ends [] rest sound is = (refl, λ e. other_front (sym is ∙ e))
run_ends (b ∷ bytes) rest sound is =
    (front_text b (bytes ++ rest) sound.0, bytes ++ rest, refl, run_ends bytes rest sound.1 is)

cut_parts : (parts : List Part) → AreSound parts → IsCut (written_all parts) (raws_of parts) over
cut_parts [] sound = (refl, [], (125 ∷ 125 ∷ [], refl, refl, refl), refl)
cut_parts (text [] ∷ parts) sound = absurd sound.0
cut_parts (text (b ∷ bytes) ∷ parts) sound = (
  front_text b (bytes ++ written_all parts) sound.0.0,
  written_all parts,
  run_ends (b ∷ bytes) (written_all parts) sound.0 (begins_regex parts sound.1),
  cut_parts parts sound.2,
)
cut_parts (quote_of.bracket ∷ parts) sound =
    let rest = written_all parts in
    (refl, rest, (91 ∷ 125 ∷ 125 ∷ rest, refl, refl, (125 ∷ 125 ∷ rest, refl, refl, refl)), cut_parts parts sound)
cut_parts (brace ∷ parts) sound =
    let rest = written_all parts in (
      refl,
      rest,
      (123 ∷ 93 ∷ 125 ∷ 125 ∷ rest, refl, refl, (93 ∷ 125 ∷ 125 ∷ rest, refl, refl, (125 ∷ 125 ∷ rest, refl, refl, refl))),
      cut_parts parts sound,
    )

pub bodies_are_cut : BodiesAreCut
bodies_are_cut line =
    let rest = quote line ++ codes "{{$}}" in
    let is : IsCut rest (raws_of (parts_of line)) over =
    subst (λ l. IsCut l (raws_of (parts_of line)) over) (sym (all_written line)) (cut_parts (parts_of line) (all_sound line)) in
    (refl, rest, (125 ∷ 125 ∷ rest, refl, refl, refl), is)

-- ---- the pieces

-- an expression that is read as a tree is that piece, and says nothing
one_read : (known : List ℕ → Option Format) (at : ℕ) (bytes : List ℕ) (t : Tree) (raws : List cut.Raw) (items : List Item)
    → reading false bytes ≡ Ok t → items_from false known false nothing_said (at + length bytes + 4) raws over ≡ Ok items
    → items_from false known false nothing_said at (cut.regex bytes ∷ raws) over ≡ Ok (regex t ∷ items)
one_read known at bytes t raws items is rest =
    ap (λ r. items_behind (and_said nothing_said (regex_read (at + 2) r))
    (λ next. items_from false known false next (at + length bytes + 4) raws over)) is
    ∙ ap (and_items (regex t)) rest

items_read : (known : List ℕ → Option Format) (at : ℕ) (parts : List Part)
    → items_from false known false nothing_said at (raws_of parts) over ≡ Ok (items_of parts)
items_read known at [] = one_read known at (codes "$") line_end [] [] end_read refl
items_read known at (text bytes ∷ parts) = ap (and_items (plain bytes)) (items_read known (at + length bytes) parts)
items_read known at (quote_of.bracket ∷ parts) =
    one_read known at (codes "\\[") (tree.plain (91 ∷ [])) (raws_of parts) (items_of parts) bracket_read
    (items_read known (at + length (codes "\\[") + 4) parts)
items_read known at (brace ∷ parts) =
    one_read known at (codes "[{]") (set (123 ∷ [])) (raws_of parts) (items_of parts) brace_read
    (items_read known (at + length (codes "[{]") + 4) parts)

pub bodies_are_read : BodiesAreRead
bodies_are_read known line =
    one_read known 0 (codes "^") line_start (raws_of (parts_of line)) (items_of (parts_of line)) start_read
    (items_read known (0 + length (codes "^") + 4) (parts_of line))

-- ---- the two NOTs

dot_read : reading false (codes ".") ≡ Ok dot
unfolding reading tree_read reading_from token begins_with begins_bound atom_at bound_behind bound_at
dot_read = refl

any_read : reading false (codes ".|[[:space:]]") ≡ Ok (alt alternatives)
unfolding reading tree_read reading_from token begins_with begins_bound atom_at bound_behind bound_at bracket members member begins_range element class_len
any_read = refl

-- bytes other than `}` stand before an end
up_to_end : (bytes rest : List ℕ) → list_any (λ b. b == 125) bytes ≡ false → IsUpToEnd bytes (bytes ++ 125 ∷ 125 ∷ rest) rest
up_to_end [] rest none = refl
up_to_end (b ∷ []) rest none = (125 ∷ 125 ∷ rest, refl, and_left (b == 125) true (or_parts (b == 125) false none).0, refl)
up_to_end (b ∷ c ∷ bytes) rest none =
    let parts = or_parts (b == 125) (list_any (λ b. b == 125) (c ∷ bytes)) none in
    (c ∷ (bytes ++ 125 ∷ 125 ∷ rest), refl, and_left (b == 125) (c == 125) parts.0, up_to_end (c ∷ bytes) rest parts.1)

pub nots_are_read : NotsAreRead
nots_are_read = record {
  end = (
    (refl, [], up_to_end (codes ".") [] refl, refl),
    λ known. one_read known 0 (codes ".") dot [] [] dot_read refl,
  );
  start = (
    (refl, [], up_to_end (codes ".|[[:space:]]") [] refl, refl),
    λ known. one_read known 0 (codes ".|[[:space:]]") (alt alternatives) [] [] any_read refl,
  );
}
