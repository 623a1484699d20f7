-- A pattern whose pieces are all text is sought as those bytes: its instance is that text, and gives nothing. By induction
-- over the pieces; what each of them adds is in `one_text`.
-- The hard one is `all_text`.
use Rattle.std.proofs.Common.{◌≡◌, ℕ, ◌+◌, ◌<◌, ◌≤◌, false, true≢false, is_some, IfSome, Option, Some, None, List, [], ◌∷◌, ◌++◌, length, map, drop, drop-cons, add-one, get_or, append_assoc, append-nil, Ok, refl, sym, ap, ◌∙◌, subst}
use Rattle.std.specs.Prelude.{◌||◌, if◌then◌else◌}
use Rattle.std.specs.FinMap.{FinMap, empty, get-empty}
use Rattle.std.proofs.lemmas.List.{drop_all}
use Rattle.std.proofs.lemmas.Option.{none-some}
use Rattle.ere_tree.proofs.CapturesLemmas.{some_same}
use Rattle.ere_tree.specs.Hit.{FindsHit}
use Rattle.ere_tree.specs.Tree.{Tree, cat, trees_of}
use Rattle.ere_tree.specs.Tree as tree
use Rattle.ere_tree.specs.declared.hit.Hit.{Hit}
use Rattle.num_base.specs.Names.{name_cmp}
use Rattle.pattern_hits.specs.Plain.{IsText, joined}
use Rattle.pattern_instance.specs.Instance.{instance_of, made, made_of, unless_missing}
use Rattle.pattern_instance.specs.Known.{Known, known_of}
use Rattle.pattern_instance.specs.Missing.{each_once, unknown}
use Rattle.pattern_instance.specs.Parts.{behind_part, cased, groups_behind, map_parts, part_of, parts_from, recalled, ungrouped, with_part}
use Rattle.pattern_parse.specs.Item.{Item, plain, regex, define, recall, number}
use Rattle.pattern_parse.specs.PieceView.{item_view, items_view}
use Rattle.pattern_parse.specs.declared.pattern.Frame.TheVariants.{Open}
use Rattle.pattern_parse.specs.declared.pattern.Pattern.{Pattern}
use Rattle.pattern_parse.specs.declared.pattern.Piece.{Piece}
use Rattle.pattern_scan.proofs.NumberTextLemmas.{number_is}
use Rattle.pattern_scan.proofs.SeekLemmas.{hit_sought}
use Rattle.pattern_scan.specs.Seek.{IsShown, answer_of, is_expressed, sought, sought_of}
use Rattle.pattern_scan.specs.Stored.{AddsRun, AreText, IsStored, piece_text}
use Rattle.pattern_vars.specs.declared.vars.Held.{Held}

-- ALONG THE PIECES

-- the first pieces are a text, whatever the others are
abbrev pub Begins : Known → List Piece → ℕ → List ℕ → Type 0
Begins known pieces i text =
    (rest : List ℕ) → AreText known (items_view (drop i pieces)) rest → AreText known (items_view pieces) (text ++ rest)

pub one_run : (known : Known) (pieces : List Piece) (i : ℕ) (piece : Piece) (text new : List ℕ)
    → i < length pieces → piece ≡ get_or pieces i piece → AddsRun (piece_text known (item_view piece)) text new
    → Begins known pieces i text → Begins known pieces (i + 1) new
one_run known pieces i piece text new low is adds begins = λ rest h.
    let here : drop i pieces ≡ piece ∷ drop (i + 1) pieces =
    drop-cons pieces i piece low ∙ (λ n. sym is n ∷ drop (sym (add-one i) n) pieces) in
    subst (AreText known (items_view pieces)) (sym (ap (λ xs. xs ++ rest) adds.2 ∙ append_assoc text adds.0 rest))
    (begins (adds.0 ++ rest) (subst (λ ps. AreText known (items_view ps) (adds.0 ++ rest)) (sym here)
    (adds.0, rest, adds.1, h, refl)))

pub all_runs : (known : Known) (pieces : List Piece) (i : ℕ) (text : List ℕ) → length pieces ≤ i
    → Begins known pieces i text → AreText known (items_view pieces) text
all_runs known pieces i text past begins =
    subst (AreText known (items_view pieces)) (append-nil text)
    (begins [] (subst (λ ps. AreText known (items_view ps) []) (sym (drop_all i pieces past)) refl))

-- THE INSTANCE

-- what a piece that is text adds: that text alone
one_text : (known : Known) (n : ℕ) (one : Item) (items : List Item) (run : List ℕ) → known.fold ≡ false
    → piece_text known one ≡ Some run
    → (part_of known n empty one ≡ Ok (ungrouped (tree.plain run) None)) × (groups_behind n empty one ≡ empty)
    × (unknown known empty (one ∷ items) ≡ unknown known empty items) × (is_expressed (one ∷ items) ≡ is_expressed items)
one_text known n (plain bytes) items run as_is is =
    ((λ i. Ok (ungrouped (cased (as_is i) (tree.plain (some_same bytes run is i))) None)), refl, refl, refl)
one_text known n (regex t) items run as_is is = absurd (none-some run is)
one_text known n (define name t) items run as_is is = absurd (none-some run is)
one_text known n (recall name) items run as_is is = (
  (λ i. Ok (ungrouped (recalled (as_is i) (get-empty name_cmp name i) (is i)) None)),
  refl,
  (λ i. if is_some {T = ℕ} (get-empty name_cmp name i) || is_some (is i) then unknown known empty items
      else name ∷ unknown known empty items),
  refl,
)
one_text known n (number num format) items run as_is is =
    let told = number_is known n num.defines format num.expr (unknown known empty items) run as_is is in
    (told.0, refl, told.1, refl)

-- the parts of pieces that are text
pub record Texts (known : Known) (n : ℕ) (items : List Item) (bytes : List ℕ) : Type 0 where
  pub texts : List (List ℕ)
  pub joins : joined texts ≡ bytes
  pub parts : parts_from known n empty items ≡ Ok (record { trees = map tree.plain texts; gifts = [] })
  pub known_all : unknown known empty items ≡ []
  pub plainly : is_expressed items ≡ false

all_text : (known : Known) (n : ℕ) (items : List Item) (bytes : List ℕ) → known.fold ≡ false
    → AreText known items bytes → Texts known n items bytes
all_text known n [] bytes as_is are =
    record { texts = []; joins = sym are; parts = refl; known_all = refl; plainly = refl }
all_text known n (one ∷ items) bytes as_is are =
    let first = one_text known n one items are.0 as_is are.2 in
    let rest = all_text known (n + 0) items are.1 as_is are.3 in
    record {
      texts = are.0 ∷ rest.texts;
      joins = ap (λ xs. are.0 ++ xs) rest.joins ∙ sym are.4;
      parts = (λ i. behind_part (first.0 i) (λ more. parts_from known (n + more) (first.1 i) items))
          ∙ ap (map_parts (with_part (ungrouped (tree.plain are.0) None))) rest.parts;
      known_all = first.2 ∙ rest.known_all;
      plainly = first.3 ∙ rest.plainly;
    }

text_made : (known : Known) (items : List Item) (bytes : List ℕ) → known.fold ≡ false → AreText known items bytes
    → (t : Tree) × IsText t bytes × (instance_of known Open items ≡ made t [])
text_made known items bytes as_is are =
    let all = all_text known 0 items bytes as_is are in (
      cat (trees_of (map tree.plain all.texts)),
      record { texts = all.texts; is = refl; joins = all.joins },
      (λ i. unless_missing (each_once empty (all.known_all i)) (made_of Open (all.parts i)))
          ∙ ap (λ ts. made (cat (trees_of ts)) []) (append-nil (map tree.plain all.texts)),
    )

-- SEEKING

pub stored_sought : (vars : FinMap name_cmp Held) (line : ℕ) (pattern : Pattern) (needle text : List ℕ) (from : ℕ)
    (hit : Option Hit) → IsStored pattern vars line needle → ((t : Tree) → IsText t needle → FindsHit text t from hit)
    → answer_of false text [] hit ≡ sought pattern vars text from line
stored_sought vars line pattern needle text from hit is finds =
    let items = items_view pattern.pieces in
    let one = text_made (known_of vars line false) items needle refl is.pieces in
    hit_sought false text from one.0 [] hit (finds one.0 one.1)
    ∙ sym ((λ i. sought_of (is.fold i) text from (instance_of (known_of vars line (is.fold i)) (is.frame i) items))
    ∙ ap (sought_of false text from) one.2)

-- what is told of a text is so of the one that was told
pub stored_is : (pattern : Pattern) (vars : FinMap name_cmp Held) (line : ℕ) (told : Option (List ℕ)) (needle : List ℕ)
    → IfSome told (IsStored pattern vars line) → told ≡ Some needle → IsStored pattern vars line needle
stored_is pattern vars line told needle told_is is = subst (λ one. IfSome one (IsStored pattern vars line)) is told_is

-- nothing need be shown for it
pub stored_shown : (vars : FinMap name_cmp Held) (line : ℕ) (pattern : Pattern) (needle text : List ℕ) (from shown : ℕ)
    → IsStored pattern vars line needle
    → IsShown (is_expressed (items_view pattern.pieces)) text from
    (instance_of (known_of vars line pattern.fold) pattern.frame (items_view pattern.pieces)) shown
stored_shown vars line pattern needle text from shown is =
    let items = items_view pattern.pieces in
    let known = known_of vars line false in
    let all = all_text known 0 items needle refl is.pieces in
    let one = text_made known items needle refl is.pieces in
    subst (λ i. IsShown (is_expressed items) text from i shown)
    (sym ((λ i. instance_of (known_of vars line (is.fold i)) (is.frame i) items) ∙ one.2))
    (λ yes no_refs. absurd (true≢false (sym yes ∙ all.plainly)))
