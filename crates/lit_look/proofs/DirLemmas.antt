-- Shown: the directory of what stands is a directory, in a tree where only directories lie above other nodes.
-- Idea: a path that stands has a node at it or below it, which lies below its directory too.
-- The hard one is `above_stands`.
use Rattle.std.proofs.Common.{◌≡◌, ◌≢◌, ℕ, Bool, true, false, not, ◌||◌, cond, codes, List, [], ◌∷◌, ◌++◌, length, take, drop, Option, Some, None, refl, sym, ap, ◌∙◌, append-nil, append_assoc, length-append, arith, ◌⊎◌, inl, inr}
use Rattle.std.specs.List.{Contains, list_all}
use Rattle.std.specs.Str.{bytes_eq}
use Rattle.std.proofs.lemmas.Bool.{false≢true, lt-ltb}
use Rattle.std.proofs.lemmas.List.{take-append-drop}
use Rattle.std.proofs.lemmas.List.Elements.{All-contains}
use Rattle.std.proofs.lemmas.List.Folds.{Any-from_list_any, list_all-append, list_any-from_Any}
use Rattle.std.proofs.lemmas.List.Sums.{AllPass-from_list_all}
use Rattle.std.proofs.Math.Seq.{take-append_seam}
use Rattle.std.proofs.lemmas.Slice.Eq.{bytes_eq-Decides}
use Rattle.tt_base.specs.Occurrence.{begins_with}
use Rattle.tt_outside.specs.declared.tree.Node.{Node}
use Rattle.tt_outside.specs.declared.tree.ItemKind.{ItemKind}
use Rattle.tt_outside.specs.declared.tree.ItemKind.TheVariants.{Dir, File, Other}
use Rattle.tt_outside.specs.TreeMap.{are_nested, front_of, goes_on, has_below, is_dir, is_nested, is_part, kind_or, lies_below, node_at}
use Rattle.lit_paths.specs.Paths.{Parts, text_of}
use Rattle.lit_paths.proofs.LawLemmas.{names_stand_below}
use Rattle.lit_paths.proofs.PartLemmas.{and_both, and_left, and_right, no_part_is_empty}
use Rattle.lit_dirs.specs.Looks.{kind_of}
use Rattle.lit_look.proofs.ListLemmas.{any_one, found_in, its_one}

-- ---- fronts of paths

-- it goes on behind a front where something stands behind
goes_behind : (path front : List ℕ) (byte : ℕ) (rest : List ℕ) → path ≡ front ++ byte ∷ rest → goes_on front path ≡ true
goes_behind path front byte rest is =
    and_both (begins_with path front) _
    ((bytes_eq-Decides front (take (length front) path)).1
    (sym (ap (take (length front)) is ∙ take-append_seam front (byte ∷ rest))))
    (lt-ltb (length front) (length path) (let e = ap length is in omega (arith, e, length-append front (byte ∷ rest))))

rest_of : (path front : List ℕ) → begins_with path front ≡ true → path ≡ front ++ drop (length front) path
rest_of path front h =
    sym (take-append-drop (length front) path)
    ∙ ap (λ x. x ++ drop (length front) path) (sym ((bytes_eq-Decides front (take (length front) path)).0 h))

front_adds : (b : Bool) (path : List ℕ) → (more : List ℕ) × (cond b path (path ++ codes "/") ≡ path ++ more)
front_adds true path = ([], sym (append-nil path))
front_adds false path = (codes "/", refl)

-- what stands at the path of a name, or below it, lies below its directory
lies_in : (dir path : List ℕ) (byte : ℕ) (rest : List ℕ) → path ≡ front_of dir ++ byte ∷ rest → (other : List ℕ)
    → (other ≡ path) ⊎ (lies_below path other ≡ true) → lies_below dir other ≡ true
lies_in dir path byte rest is other (inl here) = goes_behind other (front_of dir) byte rest (here ∙ is)
lies_in dir path byte rest is other (inr below) =
    let (more, adds) = front_adds (bytes_eq path (codes "/")) path in
    let behind = drop (length (front_of path)) other in
    goes_behind other (front_of dir) byte ((rest ++ more) ++ behind)
    (rest_of other (front_of path) (and_left (begins_with other (front_of path)) _ below)
    ∙ ap (λ x. x ++ behind) (adds ∙ ap (λ x. x ++ more) is ∙ append_assoc (front_of dir) (byte ∷ rest) more)
    ∙ append_assoc (front_of dir) (byte ∷ (rest ++ more)) behind)

-- ---- nodes

node_of : (nodes : List Node) (path : List ℕ) (node : Node) → node_at nodes path ≡ Some node
    → Contains nodes node × (node.path ≡ path)
node_of nodes path node is =
    let (within, here) = found_in (λ one. bytes_eq one.path path) nodes node is in
    (within, (bytes_eq-Decides node.path path).0 here)

above_stands : (nodes : List Node) (dir path : List ℕ)
    → ((other : List ℕ) → (other ≡ path) ⊎ (lies_below path other ≡ true) → lies_below dir other ≡ true)
    → (found : Option Node) (below : Bool) → node_at nodes path ≡ found → has_below nodes path ≡ below
    → kind_or found below ≢ None → has_below nodes dir ≡ true
above_stands nodes dir path each (Some node) below is lies stands =
    let (within, here) = node_of nodes path node is in
    list_any-from_Any (λ one. lies_below dir one.path) nodes
    (any_one (λ one. lies_below dir one.path ≡ true) nodes node within (each node.path (inl here)))
above_stands nodes dir path each None true is lies stands =
    let (node, within, below) = its_one (λ one. lies_below path one.path ≡ true) nodes
    (Any-from_list_any (λ one. lies_below path one.path) nodes lies) in
    list_any-from_Any (λ one. lies_below dir one.path) nodes
    (any_one (λ one. lies_below dir one.path ≡ true) nodes node within (each node.path (inr below)))
above_stands nodes dir path each None false is lies stands = absurd (stands refl)

is_dir_kind : (kind : ItemKind) (below : Bool) → below ≡ true → (is_dir kind || not below) ≡ true → kind ≡ Dir
is_dir_kind Dir below b h = refl
is_dir_kind File true b h = absurd (false≢true h)
is_dir_kind File false b h = absurd (false≢true b)
is_dir_kind Other true b h = absurd (false≢true h)
is_dir_kind Other false b h = absurd (false≢true b)

kind_above : (nodes : List Node) (path : List ℕ) (found : Option Node) → node_at nodes path ≡ found
    → are_nested nodes ≡ true → has_below nodes path ≡ true → kind_or found true ≡ Some Dir
kind_above nodes path None is nested below = refl
kind_above nodes path (Some node) is nested below =
    let (within, here) = node_of nodes path node is in
    ap (λ x. Some x) (is_dir_kind node.kind (has_below nodes node.path) (ap (has_below nodes) here ∙ below)
    (All-contains (λ one. is_nested nodes one ≡ true) nodes node (AllPass-from_list_all (is_nested nodes) nodes nested) within))

-- the directory of what stands is a directory
pub above_is_dir : (nodes : List Node) (dir : Parts) (part : List ℕ) → are_nested nodes ≡ true
    → list_all is_part (dir ++ part ∷ []) ≡ true → kind_of nodes (dir ++ part ∷ []) ≢ None
    → kind_of nodes dir ≡ Some Dir
above_is_dir nodes dir [] nested parts stands =
    absurd (no_part_is_empty (and_left (is_part []) true (and_right (list_all is_part dir) (list_all is_part ([] ∷ []))
    (sym (list_all-append is_part dir ([] ∷ [])) ∙ parts))))
above_is_dir nodes dir (byte ∷ rest) nested parts stands =
    let name = byte ∷ rest in
    let path = text_of (dir ++ name ∷ []) in
    let all = and_left (list_all is_part dir) (list_all is_part (name ∷ []))
    (sym (list_all-append is_part dir (name ∷ [])) ∙ parts) in
    let below = above_stands nodes (text_of dir) path (lies_in (text_of dir) path byte rest (names_stand_below dir name all))
    (node_at nodes path) (has_below nodes path) refl refl stands in
    ap (kind_or (node_at nodes (text_of dir))) below
    ∙ kind_above nodes (text_of dir) (node_at nodes (text_of dir)) refl nested below
