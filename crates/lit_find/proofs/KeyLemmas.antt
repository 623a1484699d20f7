-- Places under keys: their order, what a map of them holds when one is put in, and what is left behind its first.
-- Idea: a key is the parts of a path, keys are compared as paths are, and a directory stands before those below it.
-- The hard one is `inserted`.
use Rattle.lit_find.proofs.Names.{◌≡◌, ℕ, Bool, true, false, ◌||◌, List, [], ◌∷◌, ◌++◌, refl, sym, ap, ◌∙◌, subst, append-nil, map, All, arith, IsTotalOrder, match_ordering, nat_cmp, ordering_then, Equal, Greater, Less, Vec, list_any, slice_cmp, Ordering, Parts, SuiteRoot, same_text, IsBefore, IsFirst, IsInside, parts_cmp, path_order, place_of_entry, put}
use Rattle.std.proofs.lemmas.Cmp.{lists_total, nat_list_cmp_total, tied_itself}
use Rattle.std.proofs.lemmas.List.Elements.{All-cons, All-head, All-tail}
use Rattle.std.specs.declared.alloc.Global.{Global}
use Rattle.std.specs.BTreeMap.{insert_entry}
use Rattle.std.specs.BTreeSet.{insert_key}
use Rattle.std.proofs.lemmas.Map.Lookups.{exact_bytes}
use Rattle.lit_find.specs.Places.{parts_of}

pub parts_cmp_total : IsTotalOrder parts_cmp
parts_cmp_total = lists_total nat_list_cmp_total

-- a front and the whole are in the order of nothing and the rest
front_cmp : (front rest : Parts) → parts_cmp front (front ++ rest) ≡ parts_cmp [] rest
front_cmp [] rest = refl
front_cmp (part ∷ front) rest =
    ap (λ o. ordering_then o (parts_cmp front (front ++ rest))) (tied_itself nat_list_cmp_total part)
    ∙ front_cmp front rest

pub before_below : (dir : Parts) (part : List ℕ) → IsBefore dir (dir ++ part ∷ [])
before_below dir part = front_cmp dir (part ∷ [])

pub before_before : (one other last : Parts) → IsBefore one other → IsBefore other last → IsBefore one last
before_before one other last h k = parts_cmp_total.trans one other last h k

pub not_before_itself : (dir : Parts) → IsBefore dir dir → ⊥
not_before_itself dir h = let e : Less ≡ Equal = sym h ∙ tied_itself parts_cmp_total dir in absurd (cc)

-- what stands before a directory isn't below it
pub none_before : (front rest : Parts) → IsBefore (front ++ rest) front → ⊥
none_before front [] h = not_before_itself front (subst (λ dir. IsBefore dir front) (append-nil front) h)
none_before front (part ∷ rest) h =
    not_before_itself front (before_before front (front ++ part ∷ rest) front (front_cmp front (part ∷ rest)) h)

abbrev pub Key : Type 0
Key = Vec (Vec ℕ Global) Global

abbrev pub vec_cmp : Key → Key → Ordering
vec_cmp x y = slice_cmp (λ x y. slice_cmp nat_cmp x.items y.items) x.items y.items

cmp_items : (xs ys : List (Vec ℕ Global))
    → slice_cmp (λ x y. slice_cmp nat_cmp x.items y.items) xs ys
    ≡ parts_cmp (map (λ part. part.items) xs) (map (λ part. part.items) ys)
cmp_items [] [] = refl
cmp_items [] (y ∷ ys) = refl
cmp_items (x ∷ xs) [] = refl
cmp_items (x ∷ xs) (y ∷ ys) = ap (ordering_then (slice_cmp nat_cmp x.items y.items)) (cmp_items xs ys)

vec_cmp_is : vec_cmp ≡ (λ x y. parts_cmp (parts_of x) (parts_of y))
vec_cmp_is = λ i x y. cmp_items x.items y.items i

both_equal : (o p : Ordering) → ordering_then o p ≡ Equal → (o ≡ Equal) × (p ≡ Equal)
both_equal Less p h = absurd (cc)
both_equal Equal p h = (refl, h)
both_equal Greater p h = absurd (cc)

pub exact_parts : (xs ys : Parts) → parts_cmp xs ys ≡ Equal → xs ≡ ys
exact_parts [] [] h = refl
exact_parts [] (y ∷ ys) h = absurd (cc)
exact_parts (x ∷ xs) [] h = absurd (cc)
exact_parts (x ∷ xs) (y ∷ ys) h =
    let both = both_equal (slice_cmp nat_cmp x y) (parts_cmp xs ys) h in
    λ i. exact_bytes x y both.0 i ∷ exact_parts xs ys both.1 i

put_in : (entries : List (Key × SuiteRoot)) (key : Key) (suite : SuiteRoot)
    → map place_of_entry (insert_entry (λ x y. parts_cmp (parts_of x) (parts_of y)) entries key suite)
    ≡ put path_order (place_of_entry (key, suite)) (map place_of_entry entries)
put_in [] key suite = refl
put_in (e ∷ entries) key suite = by_order (parts_cmp (parts_of key) (parts_of e.0)) refl (put_in entries key suite)
  where
    by_order : (o : Ordering) → parts_cmp (parts_of key) (parts_of e.0) ≡ o
        → map place_of_entry (insert_entry (λ x y. parts_cmp (parts_of x) (parts_of y)) entries key suite)
        ≡ put path_order (place_of_entry (key, suite)) (map place_of_entry entries)
        → map place_of_entry (match_ordering o ((key, suite) ∷ e ∷ entries) ((e.0, suite) ∷ entries)
        (e ∷ insert_entry (λ x y. parts_cmp (parts_of x) (parts_of y)) entries key suite))
        ≡ match_ordering o (place_of_entry (key, suite) ∷ place_of_entry e ∷ map place_of_entry entries)
        (place_of_entry (key, suite) ∷ map place_of_entry entries)
        (place_of_entry e ∷ put path_order (place_of_entry (key, suite)) (map place_of_entry entries))
    by_order Less is later = refl
    by_order Equal is later =
        ap (λ path. record { path = path; suite = suite } ∷ map place_of_entry entries)
        (sym (exact_parts (parts_of key) (parts_of e.0) is))
    by_order Greater is later = ap (λ places. place_of_entry e ∷ places) later

pub inserted : (entries : List (Key × SuiteRoot)) (key : Key) (suite : SuiteRoot)
    → map place_of_entry (insert_entry vec_cmp entries key suite)
    ≡ put path_order (place_of_entry (key, suite)) (map place_of_entry entries)
inserted entries key suite =
    ap (λ cmp. map place_of_entry (insert_entry cmp entries key suite)) vec_cmp_is ∙ put_in entries key suite

-- the first entry's place stands before the others
least : (entries : List (Key × SuiteRoot)) (key : Key)
    → All (λ other. vec_cmp key other ≡ Less) (map (λ e. e.0) entries)
    → All (λ other. IsBefore (parts_of key) other.path) (map place_of_entry entries)
least [] key low = λ k d less. absurd (omega arith)
least (e ∷ entries) key low =
    All-cons (λ other. IsBefore (parts_of key) other.path) (place_of_entry e) (map place_of_entry entries)
    (sym (λ i. vec_cmp_is i key e.0) ∙ All-head (λ other. vec_cmp key other ≡ Less) e.0 (map (λ e. e.0) entries) low)
    (least entries key (All-tail (λ other. vec_cmp key other ≡ Less) e.0 (map (λ e. e.0) entries) low))

-- the first entry's place is the first
pub first_of : (old new : List (Key × SuiteRoot)) (key : Key) (suite : SuiteRoot) → old ≡ (key, suite) ∷ new
    → All (λ other. vec_cmp key other ≡ Less) (map (λ e. e.0) new) → All IsInside (map place_of_entry old)
    → IsFirst (map place_of_entry old) (map place_of_entry new) (place_of_entry (key, suite))
first_of old new key suite is low all = record {
  first = ap (map place_of_entry) is;
  least = least new key low;
  inside = All-head IsInside (place_of_entry (key, suite)) (map place_of_entry new)
      (subst (λ entries. All IsInside (map place_of_entry entries)) is all);
}

-- ---- a set of texts

or_twice : (a b : Bool) → (a || b) ≡ (a || (a || b))
or_twice true b = refl
or_twice false b = refl

or_swap : (a b c : Bool) → (a || (b || c)) ≡ (b || (a || c))
or_swap true true c = refl
or_swap true false c = refl
or_swap false b c = refl

-- it has the text that was put in, and those that it had
pub has_inserted : (keys : List (Vec ℕ Global)) (key : Vec ℕ Global) (text : List ℕ)
    → list_any (λ k. same_text text k.items) (insert_key (λ x y. slice_cmp nat_cmp x.items y.items) keys key)
    ≡ (same_text text key.items || list_any (λ k. same_text text k.items) keys)
has_inserted [] key text = refl
has_inserted (one ∷ keys) key text =
    by_order (slice_cmp nat_cmp key.items one.items) refl (has_inserted keys key text)
  where
    by_order : (o : Ordering) → slice_cmp nat_cmp key.items one.items ≡ o
        → list_any (λ k. same_text text k.items) (insert_key (λ x y. slice_cmp nat_cmp x.items y.items) keys key)
        ≡ (same_text text key.items || list_any (λ k. same_text text k.items) keys)
        → list_any (λ k. same_text text k.items) (match_ordering o (key ∷ one ∷ keys) (one ∷ keys)
        (one ∷ insert_key (λ x y. slice_cmp nat_cmp x.items y.items) keys key))
        ≡ (same_text text key.items || (same_text text one.items || list_any (λ k. same_text text k.items) keys))
    by_order Less is later = refl
    by_order Equal is later =
        or_twice (same_text text one.items) (list_any (λ k. same_text text k.items) keys)
        ∙ ap (λ items. same_text text items || (same_text text one.items || list_any (λ k. same_text text k.items) keys)) (sym (exact_bytes key.items one.items is))
    by_order Greater is later =
        ap (λ b. same_text text one.items || b) later ∙ or_swap (same_text text one.items) (same_text text key.items)
        (list_any (λ k. same_text text k.items) keys)
