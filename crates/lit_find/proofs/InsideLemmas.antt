-- What stands in a directory, and what it lists: what is walked through, and what is a test.
-- Idea: names differ, so a listing is a finite map: an item of each name stands for what is there, and the reverse.
-- The hard ones are `named_item`, and `its_item`, from what is taken to the item that lists it.
use Rattle.lit_find.proofs.Names.{◌≡◌, ℕ, Bool, true, false, true≢false, cond, not, inl, inr, List, [], ◌∷◌, ◌++◌, Option, Some, None, refl, sym, ap, ◌∙◌, append-nil, Contains, find, list_all, list_any, option_map, unwrap_or, Node, Item, ItemKind, Dir, File, Lists, is_part, kind_at, names_differ, Parts, text_of, kind_of, IsLook, LiesIn, first_suite, nearest, or_else, rooted, rooted_at, SuiteRoot, IsIn, IsTest, IsWalked, takes, test_in, IsRight, is_kept, IsAhead, Place}
use Rattle.std.specs.Str.{bytes_eq}
use Rattle.std.proofs.lemmas.List.Folds.{list_any-from_Any}
use Rattle.std.proofs.lemmas.Slice.Eq.{bytes_eq-Decides}
use Rattle.tt_outside.specs.TreeMap as map
use Rattle.lit_paths.proofs.LawLemmas.{names_stand_below}
use Rattle.lit_paths.proofs.PartLemmas.{and_both, and_left, and_right, false_of}
use Rattle.lit_dirs.specs.Suites.{suite_at}
use Rattle.lit_look.proofs.ListLemmas.{any_one, cons_cases, found_in, none_in}
use Rattle.lit_look.proofs.SuiteLemmas.{upward_push}
use Rattle.lit_find.proofs.FileLemmas.{right_test}
use Rattle.lit_find.proofs.PathLemmas.{lies_push, walked_below}

-- ---- listings

pub named_item : (items : List Item) (item : Item) → names_differ items ≡ true → Contains items item
    → find (λ one. bytes_eq one.name item.name) items ≡ Some item
named_item [] item differ within = absurd (none_in item within)
named_item (one ∷ items) item differ within =
    let apart = false_of (list_any (λ other. bytes_eq other.name one.name) items)
    (and_left (not (list_any (λ other. bytes_eq other.name one.name) items)) (names_differ items) differ) in
    let rest = and_right (not (list_any (λ other. bytes_eq other.name one.name) items)) (names_differ items) differ in
    elim (cons_cases one item items within) [
      | inl same ↦ ap (λ b. cond b (Some one) (find (λ other. bytes_eq other.name item.name) items))
          (ap (λ x. bytes_eq one.name x.name) same ∙ (bytes_eq-Decides one.name one.name).1 refl) ∙ ap (λ x. Some x) (sym same)
      | inr later ↦ by_test (bytes_eq one.name item.name) refl apart later (named_item items item rest later)
    ]
  where
    by_test : (b : Bool) → bytes_eq one.name item.name ≡ b
        → list_any (λ other. bytes_eq other.name one.name) items ≡ false → Contains items item
        → find (λ other. bytes_eq other.name item.name) items ≡ Some item
        → cond b (Some one) (find (λ other. bytes_eq other.name item.name) items) ≡ Some item
    by_test true is apart later h =
        let e = (bytes_eq-Decides one.name item.name).0 is in
        absurd (true≢false (sym (list_any-from_Any (λ other. bytes_eq other.name one.name) items
        (any_one (λ other. bytes_eq other.name one.name ≡ true) items item later
        ((bytes_eq-Decides item.name one.name).1 (sym e)))) ∙ apart))
    by_test false is apart later h = h

-- what is listed stands there
listed_right : (nodes : List Node) (dir : Parts) (items : List Item) (item : Item) → list_all is_part dir ≡ true
    → Lists nodes (text_of dir) items → Contains items item → is_part item.name ≡ true
    → kind_of nodes (dir ++ item.name ∷ []) ≡ Some item.kind
listed_right nodes dir items item parts lists within named =
    ap (kind_at nodes) (names_stand_below dir item.name parts)
    ∙ sym (lists.kinds item.name ∙ ap (λ b. cond b (kind_at nodes (map.front_of (text_of dir) ++ item.name)) None) named)
    ∙ ap (option_map (λ one. one.kind)) (named_item items item lists.differ within)

pub mapped : (o : Option Item) (kind : ItemKind) → option_map (λ one. one.kind) o ≡ Some kind
    → (item : Item) × (o ≡ Some item) × (item.kind ≡ kind)
mapped None kind h = absurd (cc)
mapped (Some item) kind h = (item, refl, cc)

-- what stands there is listed
listed_whole : (nodes : List Node) (dir : Parts) (items : List Item) (name : List ℕ) (kind : ItemKind)
    → list_all is_part dir ≡ true → Lists nodes (text_of dir) items → is_part name ≡ true
    → kind_of nodes (dir ++ name ∷ []) ≡ Some kind
    → (item : Item) × Contains items item × (item.name ≡ name) × (item.kind ≡ kind)
listed_whole nodes dir items name kind parts lists part stands =
    let (item, found, is) = mapped (find (λ item. bytes_eq item.name name) items) kind
    (lists.kinds name ∙ ap (λ b. cond b (kind_at nodes (map.front_of (text_of dir) ++ name)) None) part
    ∙ ap (kind_at nodes) (sym (names_stand_below dir name parts)) ∙ stands) in
    let (within, same) = found_in (λ item. bytes_eq item.name name) items item found in
    (item, within, (bytes_eq-Decides item.name name).0 same, is)

-- ---- its suite

-- what is known of a directory that was looked at
pub record IsOf (nodes : List Node) (dir : Parts) (items : List Item) (root : SuiteRoot) : Type 0 where
  pub inside : LiesIn root.dir dir
  pub lists : Lists nodes (text_of dir) items
  pub near : nearest nodes dir ≡ Some (rooted_at root)

pub is_of : (nodes : List Node) (word : Parts) (place : Place) (items : List Item) (count : ℕ) (own : Option SuiteRoot)
    → IsAhead nodes word place → IsLook nodes (record { dir = place.path; count = count; suite = own })
    → Lists nodes (text_of place.path) items → IsOf nodes place.path items (unwrap_or own place.suite)
is_of nodes word place items count None ahead look lists = record {
  inside = ahead.inside;
  lists = lists;
  near = ahead.suite ∙ ap (λ x. or_else (rooted place.path x) (Some (rooted_at place.suite))) look.suite;
}
is_of nodes word place items count (Some own) ahead look lists = record {
  inside = record {
    rest = [];
    is = sym look.root ∙ sym (append-nil own.dir);
    parts = ahead.inside.parts;
  };
  lists = lists;
  near = ahead.suite ∙ ap (λ x. or_else (rooted place.path x) (Some (rooted_at place.suite))) look.suite
      ∙ ap (λ d. Some (record { root = d; suite = own.suite })) (sym look.root);
}

-- ---- items and names

module _ (nodes : List Node) (dir : Parts) (items : List Item) (root : SuiteRoot) (of : IsOf nodes dir items root) where
  pub item_in : (item : Item) → Contains items item → is_kept root dir item ≡ true → IsIn nodes item.kind dir item.name
  item_in item within kept =
      let named = and_left (is_part item.name) _ kept in
      record {
        named = named;
        stands = listed_right nodes dir items item of.inside.parts of.lists within named;
        taken = ap (λ r. takes r item.kind dir item.name) of.near ∙ and_right (is_part item.name) _ kept;
      }

  pub its_item : (kind : ItemKind) (part : List ℕ) → IsIn nodes kind dir part
      → (item : Item) × Contains items item × (is_kept root dir item ≡ true) × (item.name ≡ part) × (item.kind ≡ kind)
  its_item kind part inside =
      let (item, within, named, its) =
      listed_whole nodes dir items part kind of.inside.parts of.lists inside.named inside.stands in (
        item,
        within,
        and_both (is_part item.name) (takes (Some (rooted_at root)) item.kind dir item.name)
            (ap is_part named ∙ inside.named) ((λ i. takes (sym of.near i) (its i) dir (named i)) ∙ inside.taken),
        named,
        its,
      )

  pub ahead_in : (word : Parts) (part : List ℕ) → IsWalked nodes word dir → IsIn nodes Dir dir part
      → IsAhead nodes word (record { path = dir ++ part ∷ []; suite = root })
  ahead_in word part walked inside = record {
    inside = lies_push root.dir dir part of.inside inside.named;
    walked = walked_below nodes word dir part walked inside;
    is_dir = inside.stands;
    suite = ap (first_suite nodes) (upward_push dir part)
        ∙ ap (or_else (rooted (dir ++ part ∷ []) (suite_at nodes (dir ++ part ∷ [])))) of.near;
  }

  pub right_in : (words : List Parts) (part : List ℕ) → IsIn nodes File dir part → IsTest nodes words (dir ++ part ∷ [])
      → IsRight nodes words (test_in (record { path = text_of (dir ++ part ∷ []); suite = root }))
  right_in words part inside test =
      right_test root dir part (text_of (dir ++ part ∷ [])) of.inside inside.named refl nodes words of.near test
