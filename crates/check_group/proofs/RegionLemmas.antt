-- A pattern of which a plain piece isn't in a slice is sought there in vain: its instance is the parts of its pieces one
-- behind the other, whatever variables hold, and each of its hits has a part that is that text.
-- The hard one is `fixed_parts`, along the pieces.
use Rattle.std.proofs.Common.{◌≡◌, ℕ, ◌+◌, ◌-◌, ◌<◌, Bool, false, ◌⊎◌, inl, inr, Option, Some, None, List, [], ◌∷◌, ◌++◌, zero, suc, length, map, take, drop, get_or, append-nil, Ok, refl, sym, ap, ◌∙◌, subst, arith}
use Rattle.std.specs.FinMap.{empty}
use Rattle.ere_tree.proofs.DerivationLemmas.{length-part}
use Rattle.ere_tree.specs.Captures.{Captures}
use Rattle.ere_tree.specs.Derivation.{Way, Ways, leaf, parts, done, next, IsPart, part, Derives, DerivesAll}
use Rattle.ere_tree.specs.Hit.{HasNoHit}
use Rattle.ere_tree.specs.Shape.{greatest_group, shifted}
use Rattle.ere_tree.specs.Tree.{Tree, cat, trees_of}
use Rattle.ere_tree.specs.Tree as tree
use Rattle.pattern_instance.specs.Instance.{instance_of, made, made_of, unless_missing}
use Rattle.pattern_instance.specs.Known.{Known, known_of}
use Rattle.pattern_instance.specs.Missing.{each_once, unknown, with_name, Names}
use Rattle.pattern_instance.specs.Parts.{Groups, Parts, behind_part, cased, groups_behind, in_group, map_parts, no_parts, part_of, parts_from, ungrouped, with_part}
use Rattle.pattern_instance.specs.declared.gift.Gift.TheVariants.{Text}
use Rattle.pattern_parse.specs.Item.{Item, plain, regex, define, recall, number}
use Rattle.pattern_parse.specs.PieceView.{item_view, items_view}
use Rattle.pattern_parse.specs.declared.pattern.Frame.TheVariants.{Open}
use Rattle.pattern_parse.specs.declared.pattern.Pattern.{Pattern}
use Rattle.pattern_parse.specs.declared.pattern.Piece.{Piece}
use Rattle.pattern_scan.proofs.SeekLemmas.{hit_sought}
use Rattle.pattern_scan.specs.Seek.{sought, sought_of}
use Rattle.pattern_scan.specs.declared.sought.Sought.TheVariants.{Absent}
use Rattle.text_windows.specs.Windows.{Covers}
use Rattle.tt_base.specs.Occurrence.{StandsAt, StandsNowhere}
use Rattle.check_group.specs.Changes.{Variables}
use Rattle.check_group.specs.Region.{AreFixed, HasPlain, IsFixed, LackPlain}

-- THE INSTANCE

-- one of the trees is this plain text
abbrev pub HasPart : List Tree → List ℕ → Type 0
HasPart [] bytes = ⊥
HasPart (t ∷ ts) bytes = (t ≡ tree.plain bytes) ⊎ HasPart ts bytes

-- the parts of fixed pieces
pub record FixedParts (known : Known) (n : ℕ) (groups : Groups) (items : List Item) : Type 0 where
  pub all : Parts
  pub are : parts_from known n groups items ≡ Ok all
  pub hold : (bytes : List ℕ) → HasPlain items bytes → HasPart all.trees bytes

abbrev text_of : Item → List ℕ
text_of (plain bytes) = bytes
text_of (regex t) = []
text_of (define name t) = []
text_of (recall name) = []
text_of (number num format) = []

-- a piece of another kind isn't the text
behind : (t : Tree) (ts : List Tree) (one : Item) (items : List Item) (bytes : List ℕ) → (one ≡ plain bytes → ⊥)
    → (HasPlain items bytes → HasPart ts bytes) → HasPlain (one ∷ items) bytes → HasPart (t ∷ ts) bytes
behind t ts one items bytes other rest (inl own) = absurd (other own)
behind t ts one items bytes other rest (inr has) = inr (rest has)

here : (run : List ℕ) (ts : List Tree) (items : List Item) (bytes : List ℕ) → (HasPlain items bytes → HasPart ts bytes)
    → HasPlain (plain run ∷ items) bytes → HasPart (tree.plain run ∷ ts) bytes
here run ts items bytes rest (inl own) = inl (ap (λ one. tree.plain (text_of one)) own)
here run ts items bytes rest (inr has) = inr (rest has)

abbrev is_plain : Item → Type 0
is_plain (plain bytes) = Unit {0}
is_plain (regex t) = ⊥
is_plain (define name t) = ⊥
is_plain (recall name) = ⊥
is_plain (number num format) = ⊥

fixed_parts : (known : Known) (n : ℕ) (groups : Groups) (items : List Item) → known.fold ≡ false → AreFixed items
    → FixedParts known n groups items
fixed_parts known n groups [] as_is fixed = record { all = no_parts; are = refl; hold = λ bytes has. absurd has }
fixed_parts known n groups (plain run ∷ items) as_is fixed =
    let rest = fixed_parts known (n + 0) groups items as_is fixed in
    record {
      all = with_part (ungrouped (tree.plain run) None) rest.all;
      are = (λ i. behind_part (Ok (ungrouped (cased (as_is i) (tree.plain run)) None))
          (λ more. parts_from known (n + more) groups items))
          ∙ ap (map_parts (with_part (ungrouped (tree.plain run) None))) rest.are;
      hold = λ bytes. here run rest.all.trees items bytes (rest.hold bytes);
    }
fixed_parts known n groups (regex t ∷ items) as_is fixed =
    let rest = fixed_parts known (n + greatest_group t) groups items as_is fixed in
    record {
      all = with_part (record { tree = shifted n t; groups = greatest_group t; gift = None }) rest.all;
      are = ap (map_parts (with_part (record { tree = shifted n t; groups = greatest_group t; gift = None }))) rest.are;
      hold = λ bytes. behind _ rest.all.trees (regex t) items bytes (λ e. subst is_plain (sym e) tt) (rest.hold bytes);
    }
fixed_parts known n groups (define name t ∷ items) as_is fixed =
    let rest = fixed_parts known (n + (1 + greatest_group t)) (groups_behind n groups (define name t)) items as_is fixed in
    record {
      all = with_part (in_group n t (Some (Text name n))) rest.all;
      are = ap (map_parts (with_part (in_group n t (Some (Text name n))))) rest.are;
      hold = λ bytes.
          behind _ rest.all.trees (define name t) items bytes (λ e. subst is_plain (sym e) tt) (rest.hold bytes);
    }
fixed_parts known n groups (recall name ∷ items) as_is fixed = absurd fixed
fixed_parts known n groups (number num format ∷ items) as_is fixed = absurd fixed

all_known : (known : Known) (defined : Names) (items : List Item) → AreFixed items → unknown known defined items ≡ []
all_known known defined [] fixed = refl
all_known known defined (plain run ∷ items) fixed = all_known known defined items fixed
all_known known defined (regex t ∷ items) fixed = all_known known defined items fixed
all_known known defined (define name t ∷ items) fixed = all_known known (with_name name defined) items fixed
all_known known defined (recall name ∷ items) fixed = absurd fixed
all_known known defined (number num format ∷ items) fixed = absurd fixed

-- WHERE IT STANDS

plain_stands : (s bytes : List ℕ) (w : Way) (i j : ℕ) (c d : Captures) → Derives s (tree.plain bytes) w i j c d
    → StandsAt s bytes (length s) i × (i < length s + 1)
plain_stands s bytes leaf i j c d h =
    let long : length bytes ≡ j - i = sym (ap length h.1) ∙ length-part s i j h.0.0 h.0.1 in
    ((omega (arith, long, h.0.0, h.0.1), ap (λ n. take n (drop i s)) long ∙ h.1), omega (arith, h.0.0, h.0.1))
plain_stands s bytes w i j c d h = absurd h

part_stands : (s : List ℕ) (ts : List Tree) (bytes : List ℕ) (ws : Ways) (i j : ℕ) (c d : Captures) → HasPart ts bytes
    → DerivesAll s (trees_of ts) ws i j c d → (at : ℕ) × StandsAt s bytes (length s) at × (at < length s + 1)
part_stands s [] bytes ws i j c d has h = absurd has
part_stands s (t ∷ ts) bytes done i j c d has h = absurd h
part_stands s (t ∷ ts) bytes (next k w ws) i j c d (inl own) h =
    let one = plain_stands s bytes w i k c h.0 (subst (λ x. Derives s x w i k c h.0) own h.1) in (i, one.0, one.1)
part_stands s (t ∷ ts) bytes (next k w ws) i j c d (inr has) h = part_stands s ts bytes ws k j h.0 d has h.2

none_stands : (s : List ℕ) (ts : List Tree) (bytes : List ℕ) → HasPart ts bytes
    → StandsNowhere s bytes (length s) 0 (length s + 1) → HasNoHit s (cat (trees_of ts))
none_stands s ts bytes has nowhere h k (parts ws) d shows =
    let one = part_stands s ts bytes ws h k empty d has shows in
    nowhere one.0 (omega arith) one.2 one.1
none_stands s ts bytes has nowhere h k v d shows = absurd shows

-- SEEKING

pub lacks : (windows : List Bool) (pattern : Pattern) → IsFixed pattern → LackPlain windows (items_view pattern.pieces)
    → (text : List ℕ) (from : ℕ) → Covers windows (drop from text)
    → (vars : Variables) (line : ℕ) → sought pattern vars text from line ≡ Absent
lacks windows pattern is lack text from covers vars line =
    let items = items_view pattern.pieces in
    let known = known_of vars line false in
    let all = fixed_parts known 0 empty items refl is.pieces in
    let t = cat (trees_of all.all.trees) in
    let instance : instance_of known Open items ≡ made t all.all.gifts =
    (λ i. unless_missing (each_once empty (all_known known empty items is.pieces i)) (made_of Open (all.are i)))
    ∙ ap (λ ts. made (cat (trees_of ts)) all.all.gifts) (append-nil all.all.trees) in
    (λ i. sought_of (is.fold i) text from (instance_of (known_of vars line (is.fold i)) (is.frame i) items))
    ∙ ap (sought_of false text from) instance
    ∙ sym (hit_sought false text from t all.all.gifts None
    (none_stands (drop from text) all.all.trees lack.bytes (all.hold lack.bytes lack.has) (lack.lack (drop from text) covers)))

-- a piece at a place
pub has_at : (pieces : List Piece) (i : ℕ) (piece : Piece) (bytes : List ℕ) → i < length pieces
    → piece ≡ get_or pieces i piece → item_view piece ≡ plain bytes → HasPlain (items_view pieces) bytes
has_at [] i piece bytes low is e = absurd (omega (arith, low))
has_at (one ∷ pieces) zero piece bytes low is e = inl (ap item_view (sym is) ∙ e)
has_at (one ∷ pieces) (suc i) piece bytes low is e = inr (has_at pieces i piece bytes (omega (arith, low)) is e)
