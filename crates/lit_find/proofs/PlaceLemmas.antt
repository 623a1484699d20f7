-- What lists of places have behind one that is put in, and what a walk has behind what a directory lists.
-- By induction over the list, and over the items: what was there stays, and what an item makes is there.
-- The hard one is `put_has`.
use Rattle.lit_find.proofs.Names.{◌≡◌, ◌+◌, ◌≤◌, Bool, true, false, cond, ◌⊎◌, inl, inr, List, [], ◌∷◌, ◌++◌, length, map, All, Result, Ok, Err, OnOk, OnErr, refl, sym, ap, ◌∙◌, subst, arith, ⊤, Contains, match_ordering, Ordering, Less, Equal, Greater, Test, Item, ItemKind, Dir, File, Other, SuiteRoot, Parts, text_of, test_in, IsInside, path_order, place_of_entry, put, is_kept, with_item, with_items, with_path, HasPath, IsDone, Place, Walk}
use Rattle.std.specs.BTreeMap.{insert_entry}
use Rattle.std.proofs.lemmas.List.Elements.{All-cons, All-head, All-push, All-same, All-tail}
use Rattle.lit_look.proofs.ListLemmas.{cons_cases, first_in, later_in, none_in, push_has}
use Rattle.lit_find.proofs.KeyLemmas.{Key, exact_parts, inserted, vec_cmp}

-- ---- one more place

-- what holds of each place and of one more
pub all_put : (P : Place → Type 0) (place : Place) (places : List Place) → P place → All P places
    → All P (put path_order place places)
all_put P place [] p all = All-cons P place [] p all
all_put P place (one ∷ places) p all =
    by_order (path_order place one) (all_put P place places p (All-tail P one places all))
  where
    by_order : (o : Ordering) → All P (put path_order place places)
        → All P (match_ordering o (place ∷ one ∷ places) (place ∷ places) (one ∷ put path_order place places))
    by_order Less later = All-cons P place (one ∷ places) p all
    by_order Equal later = All-cons P place places p (All-tail P one places all)
    by_order Greater later = All-cons P one (put path_order place places) (All-head P one places all) later

-- what holds of the places of keys holds behind a call that put one in, or was refused
pub put_inside : {A E : Type 0} (old new : List (Key × SuiteRoot)) (key : Key) (suite : SuiteRoot) (result : Result A E)
    → OnOk result (new ≡ insert_entry vec_cmp old key suite) → OnErr result (new ≡ old)
    → IsInside (place_of_entry (key, suite)) → All IsInside (map place_of_entry old)
    → All IsInside (map place_of_entry new)
put_inside old new key suite (Ok done) is same one all =
    All-same IsInside (map place_of_entry new) (put path_order (place_of_entry (key, suite)) (map place_of_entry old))
    (ap (map place_of_entry) is ∙ inserted old key suite)
    (all_put IsInside (place_of_entry (key, suite)) (map place_of_entry old) one all)
put_inside old new key suite (Err why) is same one all =
    All-same IsInside (map place_of_entry new) (map place_of_entry old) (ap (map place_of_entry) same) all

here : (places : List Place) (place : Place) (path : Parts) → path ≡ place.path → HasPath (place ∷ places) path
here places place path is =
    subst (λ one. HasPath (place ∷ places) one) (sym is) (first_in place.path (map (λ one. one.path) places))

-- a path is there behind if it was there before, and that of the place is
pub put_has : (place : Place) (places : List Place) (path : Parts) → (path ≡ place.path) ⊎ HasPath places path
    → HasPath (put path_order place places) path
put_has place [] path (inl is) = here [] place path is
put_has place [] path (inr had) = absurd (none_in path had)
put_has place (one ∷ places) path h =
    by_order (path_order place one) refl h (put_has place places path)
  where
    next : List Place
    next = put path_order place places

    by_order : (o : Ordering) → path_order place one ≡ o → (path ≡ place.path) ⊎ HasPath (one ∷ places) path
        → ((path ≡ place.path) ⊎ HasPath places path → HasPath (put path_order place places) path)
        → HasPath (match_ordering o (place ∷ one ∷ places) (place ∷ places) (one ∷ put path_order place places)) path
    by_order Less is (inl same) later = here (one ∷ places) place path same
    by_order Less is (inr had) later = later_in place.path path (map (λ one. one.path) (one ∷ places)) had
    by_order Equal is (inl same) later = here places place path same
    by_order Equal is (inr had) later = elim (cons_cases one.path path (map (λ one. one.path) places) had) [
      | inl same ↦ here places place path (same ∙ sym (exact_parts place.path one.path is))
      | inr more ↦ later_in place.path path (map (λ one. one.path) places) more
    ]
    by_order Greater is (inl same) later = later_in one.path path (map (λ one. one.path) next) (later (inl same))
    by_order Greater is (inr had) later = elim (cons_cases one.path path (map (λ one. one.path) places) had) [
      | inl same ↦ here next one path same
      | inr more ↦ later_in one.path path (map (λ one. one.path) next) (later (inr more))
    ]

-- there is one more at most
put_length : (place : Place) (places : List Place) → length (put path_order place places) ≤ length places + 1
put_length place [] = omega arith
put_length place (one ∷ places) = by_order (path_order place one) (put_length place places)
  where
    by_order : (o : Ordering) → length (put path_order place places) ≤ length places + 1
        → length (match_ordering o (place ∷ one ∷ places) (place ∷ places) (one ∷ put path_order place places))
        ≤ length (one ∷ places) + 1
    by_order Less later = omega arith
    by_order Equal later = omega arith
    by_order Greater later = omega arith

-- ---- one more path

-- what is done stays done
pub done_keeps : (root : SuiteRoot) (kind : ItemKind) (path : Parts) (asked : ItemKind) (one : Parts) (walk : Walk)
    → IsDone walk asked one → IsDone (with_path root kind path walk) asked one
done_keeps root kind path Other one walk done = tt
done_keeps root Dir path Dir one walk (inl was) = inl was
done_keeps root Dir path Dir one walk (inr had) =
    inr (put_has (record { path = path; suite = root }) walk.pending one (inr had))
done_keeps root Dir path File one walk had = had
done_keeps root File path Dir one walk done = done
done_keeps root File path File one walk had =
    push_has (λ test. test.path) walk.found (test_in (record { path = text_of path; suite = root })) (text_of one) (inl had)
done_keeps root Other path Dir one walk done = done
done_keeps root Other path File one walk had = had

pub done_now : (root : SuiteRoot) (kind : ItemKind) (path : Parts) (walk : Walk)
    → IsDone (with_path root kind path walk) kind path
done_now root Dir path walk = inr (put_has (record { path = path; suite = root }) walk.pending path (inl refl))
done_now root File path walk =
    push_has (λ test. test.path) walk.found (test_in (record { path = text_of path; suite = root })) (text_of path)
    (inr refl)
done_now root Other path walk = tt

-- what holds of the place of a directory, and of the test of a file
abbrev pub Fits : (Place → Type 0) → (Test → Type 0) → SuiteRoot → ItemKind → Parts → Type 0
Fits P Q root Dir path = P (record { path = path; suite = root })
Fits P Q root File path = Q (test_in (record { path = text_of path; suite = root }))
Fits P Q root Other path = ⊤

abbrev pub AllFit : (Place → Type 0) → (Test → Type 0) → Walk → Type 0
AllFit P Q walk = All P walk.pending × All Q walk.found

one_fits : (P : Place → Type 0) (Q : Test → Type 0) (root : SuiteRoot) (kind : ItemKind) (path : Parts) (walk : Walk)
    → Fits P Q root kind path → AllFit P Q walk → AllFit P Q (with_path root kind path walk)
one_fits P Q root Dir path walk fits all =
    (all_put P (record { path = path; suite = root }) walk.pending fits all.0, all.1)
one_fits P Q root File path walk fits all =
    (all.0, All-push Q walk.found (test_in (record { path = text_of path; suite = root })) all.1 fits)
one_fits P Q root Other path walk fits all = all

path_length : (root : SuiteRoot) (kind : ItemKind) (path : Parts) (walk : Walk)
    → length (with_path root kind path walk).pending ≤ length walk.pending + 1
path_length root Dir path walk = put_length (record { path = path; suite = root }) walk.pending
path_length root File path walk = omega arith
path_length root Other path walk = omega arith

-- ---- what a directory lists

module _ (root : SuiteRoot) (dir : Parts) where
  -- what each item that is kept leaves
  items_keep : (I : Walk → Type 0) (items : List Item) (walk : Walk)
      → ((item : Item) (now : Walk) → Contains items item → is_kept root dir item ≡ true → I now
      → I (with_path root item.kind (dir ++ item.name ∷ []) now)) → I walk → I (with_items root dir walk items)
  items_keep I [] walk keeps i = i
  items_keep I (item ∷ items) walk keeps i =
      items_keep I items (with_item root dir walk item)
      (λ one now within. keeps one now (later_in item one items within)) (by_test (is_kept root dir item) refl)
    where
      by_test : (b : Bool) → is_kept root dir item ≡ b
          → I (cond b (with_path root item.kind (dir ++ item.name ∷ []) walk) walk)
      by_test true is = keeps item walk (first_in item items) is i
      by_test false is = i

  pub done_still : (items : List Item) (walk : Walk) (kind : ItemKind) (path : Parts) → IsDone walk kind path
      → IsDone (with_items root dir walk items) kind path
  done_still items walk kind path done =
      items_keep (λ now. IsDone now kind path) items walk
      (λ item now within kept was. done_keeps root item.kind (dir ++ item.name ∷ []) kind path now was) done

  -- what an item that is kept brings
  pub done_items : (items : List Item) (walk : Walk) (item : Item) → Contains items item → is_kept root dir item ≡ true
      → IsDone (with_items root dir walk items) item.kind (dir ++ item.name ∷ [])
  done_items [] walk item within kept = absurd (none_in item within)
  done_items (one ∷ items) walk item within kept = elim (cons_cases one item items within) [
    | inl same ↦ done_still items (with_item root dir walk one) item.kind (dir ++ item.name ∷ [])
        (subst (λ x. IsDone (with_item root dir walk x) item.kind (dir ++ item.name ∷ [])) same
        (subst (λ b. IsDone (cond b (with_path root item.kind (dir ++ item.name ∷ []) walk) walk) item.kind
        (dir ++ item.name ∷ [])) (sym kept) (done_now root item.kind (dir ++ item.name ∷ []) walk)))
    | inr later ↦ done_items items (with_item root dir walk one) item later kept
  ]

  pub all_fit : (P : Place → Type 0) (Q : Test → Type 0) (items : List Item) (walk : Walk)
      → ((item : Item) → Contains items item → is_kept root dir item ≡ true
      → Fits P Q root item.kind (dir ++ item.name ∷ [])) → AllFit P Q walk → AllFit P Q (with_items root dir walk items)
  all_fit P Q items walk each all =
      items_keep (AllFit P Q) items walk
      (λ item now within kept. one_fits P Q root item.kind (dir ++ item.name ∷ []) now (each item within kept)) all

  pub items_length : (items : List Item) (walk : Walk)
      → length (with_items root dir walk items).pending ≤ length walk.pending + length items
  items_length [] walk = omega arith
  items_length (item ∷ items) walk =
      let later = items_length items (with_item root dir walk item) in
      let one = by_test (is_kept root dir item) in
      omega arith
    where
      by_test : (b : Bool)
          → length (cond b (with_path root item.kind (dir ++ item.name ∷ []) walk) walk).pending ≤ length walk.pending + 1
      by_test true = path_length root item.kind (dir ++ item.name ∷ []) walk
      by_test false = omega arith
