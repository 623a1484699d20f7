-- What a tree in memory lists is what stands in the directory.
-- Shown: a listing has under each name of one part the kind that stands there, and no name twice. By induction over the
-- nodes: a listing is a finite map, to which each node adds a name. The hard one is `gives_here`, where a node stands at
-- a name or below it and so gives it.
use Rattle.std.proofs.Common.{suc, ◌≡◌, ◌==◌, ℕ, ◌+◌, ◌<◌, Bool, true, false, ◌&&◌, ◌||◌, not, cond, eqb, ltb, Option, None, Some, List, [], ◌∷◌, ◌++◌, length, take, drop, refl, sym, ap, ◌∙◌, subst, ◌⊎◌, inl, inr, ⊎_elim, arith, position, append_assoc, length-append}
use Rattle.std.proofs.lemmas.List.{take_all}
use Rattle.std.proofs.lemmas.Bool.{cases_Bool, false≢true}
use Rattle.std.proofs.lemmas.Bool.Decides.{nat_tests, Decides-eqb}
use Rattle.std.proofs.lemmas.List.Folds.{list_any-append}
use Rattle.std.proofs.lemmas.Slice.Eq.{bytes_eq-Decides, starts_is}
use Rattle.std.proofs.Math.Seq.{drop-append_seam}
use Rattle.std.specs.List.{position_or_len, find, list_any}
use Rattle.std.specs.Option.{option_map, option_and_then}
use Rattle.std.specs.Prelude.{codes}
use Rattle.std.specs.Str.{bytes_eq}
use Rattle.tt_outside.specs.declared.tree.Node.{Node}
use Rattle.tt_outside.specs.declared.tree.Item.{Item}
use Rattle.tt_outside.specs.declared.tree.ItemKind.{ItemKind}
use Rattle.tt_outside.specs.declared.tree.ItemKind.TheVariants.{Dir}
use Rattle.tt_outside.specs.Listing.{first_part, unless_empty, part_behind, item_named, item_of, has_name, with_item, with_items, listed}
use Rattle.tt_outside.specs.TreeMap.{Lists, front_of, goes_on, is_part, kind_at, kind_of, kind_or, lies_below, names_differ}

-- ---- the first part of a path

found_number : (b : Bool) (n at : ℕ) → cond b (Some n) None ≡ Some at → n ≡ at
found_number true n at e = cc
found_number false n at e = cc

none_found : (b : Bool) (n : ℕ) → cond b (Some n) None ≡ None → b ≡ false
none_found true n e = cc
none_found false n e = refl

pub first_part_found : (path : List ℕ) (at : ℕ) → position (λ byte. byte == 47) path ≡ Some at → first_part path ≡ take at path
first_part_found path at e = ap (λ n. take n path) (found_number _ _ _ e)

pub first_part_none : (path : List ℕ) → position (λ byte. byte == 47) path ≡ None → first_part path ≡ path
first_part_none path e =
    let past : ltb (position_or_len (λ byte. byte == 47) path) (length path) ≡ false = none_found _ _ e in
    take_all _ path (grind (arith, nat_tests))

-- ---- tests

or_cases : (a b : Bool) → (a || b) ≡ true → (a ≡ true) ⊎ (b ≡ true)
or_cases true b e = inl refl
or_cases false b e = inr e

or_left : (a b : Bool) → a ≡ true → (a || b) ≡ true
or_left true b e = refl
or_left false b e = cc

or_right : (a b : Bool) → b ≡ true → (a || b) ≡ true
or_right true b e = refl
or_right false b e = e

and_left : (a b : Bool) → (a && b) ≡ true → a ≡ true
and_left true b e = refl
and_left false b e = cc

and_right : (a b : Bool) → (a && b) ≡ true → b ≡ true
and_right true b e = e
and_right false b e = cc

and_both : (a b : Bool) → a ≡ true → b ≡ true → (a && b) ≡ true
and_both a b x y = rw (x, y) refl

not_true : (a : Bool) → not a ≡ true → a ≡ false
not_true true e = cc
not_true false e = refl

same_bytes : (xs : List ℕ) → bytes_eq xs xs ≡ true
same_bytes xs = (bytes_eq-Decides xs xs).1 refl

-- ---- parts

abbrev is_slash : ℕ → Bool
is_slash byte = eqb byte 47

first_part-cons : (byte : ℕ) (path : List ℕ) → first_part (byte ∷ path) ≡ cond (is_slash byte) [] (byte ∷ first_part path)
first_part-cons byte path =
    let n = position_or_len is_slash path in
    let more : 1 + n ≡ suc n = omega arith in
    elim (is_slash byte) as (λ t. take (cond (not t) (1 + n) 0) (byte ∷ path) ≡ cond t [] (byte ∷ take n path))
    [ true ↦ refl | false ↦ ap (λ k. take k (byte ∷ path)) more ]

or_false_left : (a b : Bool) → (a || b) ≡ false → a ≡ false
or_false_left true b e = cc
or_false_left false b e = refl

or_false_right : (a b : Bool) → (a || b) ≡ false → b ≡ false
or_false_right true b e = cc
or_false_right false b e = e

-- a part ends before the slash behind it
part_ends : (part rest : List ℕ) → list_any is_slash part ≡ false → first_part (part ++ 47 ∷ rest) ≡ part
part_ends [] rest e = first_part-cons 47 rest
part_ends (byte ∷ part) rest e =
    first_part-cons byte (part ++ 47 ∷ rest)
    ∙ ap (λ t. cond t [] (byte ∷ first_part (part ++ 47 ∷ rest))) (or_false_left _ _ e)
    ∙ ap (λ xs. byte ∷ xs) (part_ends part rest (or_false_right _ _ e))

-- a part without a slash is the whole
part_whole : (part : List ℕ) → list_any is_slash part ≡ false → first_part part ≡ part
part_whole [] e = refl
part_whole (byte ∷ part) e =
    first_part-cons byte part
    ∙ ap (λ t. cond t [] (byte ∷ first_part part)) (or_false_left _ _ e)
    ∙ ap (λ xs. byte ∷ xs) (part_whole part (or_false_right _ _ e))

-- no slash stands in a first part
first_part-plain : (path : List ℕ) → list_any is_slash (first_part path) ≡ false
first_part-plain [] = refl
first_part-plain (byte ∷ path) =
    ap (list_any is_slash) (first_part-cons byte path)
    ∙ ⊎_elim (λ slash. ap (λ t. list_any is_slash (cond t [] (byte ∷ first_part path))) slash)
    (λ other. ap (λ t. list_any is_slash (cond t [] (byte ∷ first_part path))) other
    ∙ ap (λ t. t || list_any is_slash (first_part path)) other ∙ first_part-plain path)
    (cases_Bool (is_slash byte))

is_part-plain : (name : List ℕ) → is_part name ≡ true → list_any is_slash name ≡ false
is_part-plain name e = not_true _ (and_right _ _ e)

unless_empty-part : (name : List ℕ) → is_part name ≡ true → unless_empty name ≡ Some name
unless_empty-part [] e = cc
unless_empty-part (byte ∷ name) e = refl

-- what is the part of a path is a part
is_part-given : (path name : List ℕ) → unless_empty (first_part path) ≡ Some name → is_part name ≡ true
is_part-given path name e = of (first_part path) (first_part-plain path) e where
  of : (part : List ℕ) → list_any is_slash part ≡ false → unless_empty part ≡ Some name → is_part name ≡ true
  of [] plain e = cc
  of (byte ∷ part) plain e =
      let same : byte ∷ part ≡ name = cc in
      subst (λ (n : List ℕ). is_part n ≡ true) same (ap not plain)

-- ---- a path behind the front of its directory

module _ (front : List ℕ) where
  begins : (rest : List ℕ) → goes_on front (front ++ rest) ≡ ltb (length front) (length (front ++ rest))
  begins rest = ap (λ t. t && ltb (length front) (length (front ++ rest))) ((starts_is Decides-eqb (front ++ rest) front _ refl).1 rest refl)

  goes_on-append : (rest : List ℕ) → 0 < length rest → goes_on front (front ++ rest) ≡ true
  goes_on-append rest long = begins rest ∙ grind (arith, nat_tests, length-append {A = ℕ})

  goes_on-rest : (path : List ℕ) → goes_on front path ≡ true → path ≡ front ++ drop (length front) path
  goes_on-rest path e = (starts_is Decides-eqb path front _ refl).0 (and_left _ _ e)

  part_behind-append : (rest : List ℕ) → 0 < length rest → part_behind front (front ++ rest) ≡ unless_empty (first_part rest)
  part_behind-append rest long =
      ap (λ t. cond t (unless_empty (first_part (drop (length front) (front ++ rest)))) None) (goes_on-append rest long)
      ∙ ap (λ xs. unless_empty (first_part xs)) (drop-append_seam front rest)

  part_behind-part : (path name : List ℕ) → part_behind front path ≡ Some name → is_part name ≡ true
  part_behind-part path name e = of (goes_on front path) e where
    of : (b : Bool) → cond b (unless_empty (first_part (drop (length front) path))) None ≡ Some name → is_part name ≡ true
    of true e = is_part-given (drop (length front) path) name e
    of false e = cc

-- ---- a node gives a name

abbrev is_name : Option (List ℕ) → List ℕ → Bool
is_name None name = false
is_name (Some part) name = bytes_eq part name

-- the node gives the name in a directory of this front
abbrev gives : List ℕ → List ℕ → Node → Bool
gives front name node = is_name (part_behind front node.path) name

-- the node stands at the name, or below it
abbrev is_here : List ℕ → List ℕ → Node → Bool
is_here front name node = bytes_eq node.path (front ++ name) || lies_below (front ++ name) node.path

length-part : (name : List ℕ) → is_part name ≡ true → 0 < length name
length-part [] e = cc
length-part (byte ∷ name) e = omega arith

-- a part behind a front is no single slash
no_root : (front name : List ℕ) → is_part name ≡ true → bytes_eq (front ++ name) (codes "/") ≡ false
no_root front name e = ⊎_elim (λ root. absurd (refuted front name e ((bytes_eq-Decides _ _).0 root))) (λ other. other) (cases_Bool _) where
  refuted : (front name : List ℕ) → is_part name ≡ true → front ++ name ≡ codes "/" → ⊥
  refuted [] name e same = false≢true (sym (is_part-plain name e) ∙ ap (list_any is_slash) same)
  refuted (byte ∷ front) name e same =
      let size : length (byte ∷ front ++ name) ≡ 1 = ap length same in
      omega (arith, length-part name e, length-append front name)

front_of-part : (front name : List ℕ) → is_part name ≡ true → front_of (front ++ name) ≡ (front ++ name) ++ codes "/"
front_of-part front name e = ap (λ t. cond t (front ++ name) ((front ++ name) ++ codes "/")) (no_root front name e)

gives_part : (front name path : List ℕ) → is_part name ≡ true → part_behind front path ≡ Some name → is_name (part_behind front path) name ≡ true
gives_part front name path e given = rw given (same_bytes name)

gives_at : (front name path : List ℕ) → is_part name ≡ true → path ≡ front ++ name → part_behind front path ≡ Some name
gives_at front name path e same =
    ap (part_behind front) same ∙ part_behind-append front name (length-part name e)
    ∙ ap unless_empty (part_whole name (is_part-plain name e)) ∙ unless_empty-part name e

gives_below : (front name path : List ℕ) → is_part name ≡ true → lies_below (front ++ name) path ≡ true → part_behind front path ≡ Some name
gives_below front name path e below =
    let here = (front ++ name) ++ codes "/" in
    let goes : goes_on here path ≡ true = ap (λ f. goes_on f path) (sym (front_of-part front name e)) ∙ below in
    let rest = drop (length here) path in
    let same : path ≡ front ++ (name ++ 47 ∷ rest) =
    goes_on-rest here path goes ∙ append_assoc (front ++ name) (codes "/") rest ∙ append_assoc front name (47 ∷ rest) in
    let long : 0 < length (name ++ 47 ∷ rest) = omega (arith, length-append name (47 ∷ rest), length-part name e) in
    ap (part_behind front) same ∙ part_behind-append front (name ++ 47 ∷ rest) long
    ∙ ap unless_empty (part_ends name rest (is_part-plain name e)) ∙ unless_empty-part name e

gives_here : (front name : List ℕ) (node : Node) → is_part name ≡ true → is_here front name node ≡ true → gives front name node ≡ true
gives_here front name node e here =
    gives_part front name node.path e
    (⊎_elim (λ at. gives_at front name node.path e ((bytes_eq-Decides _ _).0 at)) (gives_below front name node.path e)
    (or_cases _ _ here))

part_given : (front name : List ℕ) (node : Node) → gives front name node ≡ true → is_part name ≡ true
part_given front name node e = of (part_behind front node.path) refl e where
  of : (part : Option (List ℕ)) → part_behind front node.path ≡ part → is_name part name ≡ true → is_part name ≡ true
  of None is e = cc
  of (Some part) is e = part_behind-part front node.path name (is ∙ ap Some ((bytes_eq-Decides part name).0 e))

-- ---- the nodes that give a name

list_any_weaker : {X : Type 0} (p q : X → Bool) → ((x : X) → p x ≡ true → q x ≡ true) → (xs : List X) → list_any p xs ≡ true → list_any q xs ≡ true
list_any_weaker p q h [] e = e
list_any_weaker p q h (x ∷ xs) e =
    ⊎_elim (λ here. or_left _ _ (h x here)) (λ later. or_right _ _ (list_any_weaker p q h xs later)) (or_cases _ _ e)

list_any_only : {X : Type 0} (p : X → Bool) (P : Type 0) → ((x : X) → p x ≡ true → P) → (xs : List X) → list_any p xs ≡ true → P
list_any_only p P h [] e = absurd (false≢true e)
list_any_only p P h (x ∷ xs) e = ⊎_elim (h x) (list_any_only p P h xs) (or_cases _ _ e)

-- where something stands at a path, a node stands there or below it
stands_any : (at below : Node → Bool) (nodes : List Node) (kind : ItemKind)
    → kind_or (find at nodes) (list_any below nodes) ≡ Some kind → list_any (λ node. at node || below node) nodes ≡ true
stands_any at below nodes kind e = of (find at nodes) refl (list_any below nodes) refl e where
  found : (nodes : List Node) (node : Node) → find at nodes ≡ Some node → list_any at nodes ≡ true
  found [] node is = cc
  found (one ∷ nodes) node is =
      ⊎_elim (λ here. or_left _ _ here)
      (λ other. or_right _ _ (found nodes node (ap (λ t. cond t (Some one) (find at nodes)) (sym other) ∙ is)))
      (cases_Bool (at one))

  of : (node : Option Node) → find at nodes ≡ node → (b : Bool) → list_any below nodes ≡ b → kind_or node b ≡ Some kind
      → list_any (λ node. at node || below node) nodes ≡ true
  of (Some node) is b any e = list_any_weaker at _ (λ x h. or_left _ _ h) nodes (found nodes node is)
  of None is true any e = list_any_weaker below _ (λ x h. or_right _ _ h) nodes any
  of None is false any e = cc

-- under a name of one part stands what the nodes that give it say
kinds_given : (nodes : List Node) (front name : List ℕ)
    → cond (list_any (gives front name) nodes) (kind_at nodes (front ++ name)) None ≡ cond (is_part name) (kind_at nodes (front ++ name)) None
kinds_given nodes front name =
    same (list_any (gives front name) nodes) (is_part name) (kind_at nodes (front ++ name))
    (list_any_only (gives front name) _ (part_given front name) nodes)
    (λ kind part stands. list_any_weaker _ _ (λ node. gives_here front name node part) nodes (stands_any _ _ nodes kind stands)) where
      same : (a p : Bool) (k : Option ItemKind) → (a ≡ true → p ≡ true) → ((kind : ItemKind) → p ≡ true → k ≡ Some kind → a ≡ true)
          → cond a k None ≡ cond p k None
      same true true k h g = refl
      same true false k h g = absurd (false≢true (h refl))
      same false false k h g = refl
      same false true None h g = refl
      same false true (Some kind) h g = absurd (false≢true (g kind refl refl))

-- ---- a listing is a finite map

abbrev or_else : Option ItemKind → Option ItemKind → Option ItemKind
or_else (Some kind) other = Some kind
or_else None other = other

or_else-none : (kind : Option ItemKind) → or_else kind None ≡ kind
or_else-none (Some kind) = refl
or_else-none None = refl

or_else-assoc : (a b c : Option ItemKind) → or_else (or_else a b) c ≡ or_else a (or_else b c)
or_else-assoc (Some kind) b c = refl
or_else-assoc None b c = refl

-- the kind that one item has for a name
abbrev kind_given : Option Item → List ℕ → Option ItemKind
kind_given None name = None
kind_given (Some item) name = cond (bytes_eq item.name name) (Some item.kind) None

kind_of-push : (items : List Item) (item : Item) (name : List ℕ)
    → kind_of (items ++ item ∷ []) name ≡ or_else (kind_of items name) (kind_given (Some item) name)
kind_of-push [] item name =
    elim (bytes_eq item.name name) as (λ t. option_map (λ (one : Item). one.kind) (cond t (Some item) None) ≡ cond t (Some item.kind) None)
    [ true ↦ refl | false ↦ refl ]
kind_of-push (one ∷ items) item name =
    elim (bytes_eq one.name name) as (λ t. option_map (λ (one : Item). one.kind) (cond t (Some one) (find (λ one. bytes_eq one.name name) (items ++ item ∷ []))) ≡ or_else (option_map (λ (one : Item). one.kind) (cond t (Some one) (find (λ one. bytes_eq one.name name) items))) (kind_given (Some item) name))
    [ true ↦ refl | false ↦ kind_of-push items item name ]

abbrev kind_first : Bool → Item → List Item → List ℕ → Option ItemKind
kind_first here one items name = option_map (λ (item : Item). item.kind) (cond here (Some one) (find (λ item. bytes_eq item.name name) items))

-- a name that is had keeps its kind
kind_of-had : (items : List Item) (name : List ℕ) (other : Option ItemKind) → has_name items name ≡ true → or_else (kind_of items name) other ≡ kind_of items name
kind_of-had [] name other e = absurd (false≢true e)
kind_of-had (one ∷ items) name other e = of (bytes_eq one.name name) (kind_of-had items name other) e where
  of : (t : Bool) → (has_name items name ≡ true → or_else (kind_of items name) other ≡ kind_of items name) → (t || has_name items name) ≡ true
      → or_else (kind_first t one items name) other ≡ kind_first t one items name
  of true later e = refl
  of false later e = later e

kind_of-with_item : (items : List Item) (given : Option Item) (name : List ℕ)
    → kind_of (with_item items given) name ≡ or_else (kind_of items name) (kind_given given name)
kind_of-with_item items None name = sym (or_else-none (kind_of items name))
kind_of-with_item items (Some item) name = of (has_name items item.name) refl where
  had : (t : Bool) → bytes_eq item.name name ≡ t → has_name items item.name ≡ true
      → kind_of items name ≡ or_else (kind_of items name) (cond t (Some item.kind) None)
  had true same e =
      sym (kind_of-had items name (Some item.kind) (subst (λ (n : List ℕ). has_name items n ≡ true) ((bytes_eq-Decides item.name name).0 same) e))
  had false other e = sym (or_else-none (kind_of items name))

  of : (t : Bool) → has_name items item.name ≡ t
      → kind_of (cond t items (items ++ item ∷ [])) name ≡ or_else (kind_of items name) (kind_given (Some item) name)
  of true e = had (bytes_eq item.name name) refl e
  of false e = kind_of-push items item name

module _ (nodes : List Node) (front : List ℕ) where
  -- the kind that nodes give to a name
  abbrev kind_from : List Node → List ℕ → Option ItemKind
  kind_from rest name = cond (list_any (gives front name) rest) (kind_at nodes (front ++ name)) None

  kind_given-node : (node : Node) (name : List ℕ)
      → kind_given (item_of nodes front node) name ≡ cond (gives front name node) (kind_at nodes (front ++ name)) None
  kind_given-node node name = of (part_behind front node.path) where
    named : (part : List ℕ) (t : Bool) → bytes_eq part name ≡ t → (kind : Option ItemKind) → kind_at nodes (front ++ part) ≡ kind
        → kind_given (option_map (λ kind. record { name = part; kind = kind }) kind) name ≡ cond t (kind_at nodes (front ++ name)) None
    named part true same kind is = at (kind) (sym is ∙ ap (λ n. kind_at nodes (front ++ n)) ((bytes_eq-Decides part name).0 same)) where
      at : (kind : Option ItemKind) → kind ≡ kind_at nodes (front ++ name)
          → kind_given (option_map (λ kind. record { name = part; kind = kind }) kind) name ≡ kind_at nodes (front ++ name)
      at None e = e
      at (Some kind) e = ap (λ t. cond t (Some kind) None) same ∙ e
    named part false other None is = refl
    named part false other (Some kind) is = ap (λ t. cond t (Some kind) None) other

    of : (part : Option (List ℕ))
        → kind_given (option_and_then (item_named nodes front) part) name ≡ cond (is_name part name) (kind_at nodes (front ++ name)) None
    of None = refl
    of (Some part) = named part (bytes_eq part name) refl (kind_at nodes (front ++ part)) refl

  kind_from-cons : (node : Node) (rest : List Node) (name : List ℕ)
      → or_else (cond (gives front name node) (kind_at nodes (front ++ name)) None) (kind_from rest name) ≡ kind_from (node ∷ rest) name
  kind_from-cons node rest name = of (gives front name node) (list_any (gives front name) rest) (kind_at nodes (front ++ name)) where
    of : (a b : Bool) (kind : Option ItemKind) → or_else (cond a kind None) (cond b kind None) ≡ cond (a || b) kind None
    of true b (Some kind) = refl
    of true true None = refl
    of true false None = refl
    of false b kind = refl

  kind_of-with_items : (items : List Item) (rest : List Node) (name : List ℕ)
      → kind_of (with_items nodes front items rest) name ≡ or_else (kind_of items name) (kind_from rest name)
  kind_of-with_items items [] name = sym (or_else-none (kind_of items name))
  kind_of-with_items items (node ∷ rest) name =
      kind_of-with_items (with_item items (item_of nodes front node)) rest name
      ∙ ap (λ kind. or_else kind (kind_from rest name)) (kind_of-with_item items (item_of nodes front node) name)
      ∙ or_else-assoc (kind_of items name) (kind_given (item_of nodes front node) name) (kind_from rest name)
      ∙ ap (λ kind. or_else (kind_of items name) (or_else kind (kind_from rest name))) (kind_given-node node name)
      ∙ ap (or_else (kind_of items name)) (kind_from-cons node rest name)

-- ---- no name is listed twice

other_name : (one other : List ℕ) → bytes_eq one other ≡ false → bytes_eq other one ≡ false
other_name one other e =
    ⊎_elim (λ same. absurd (false≢true (sym e ∙ (bytes_eq-Decides one other).1 (sym ((bytes_eq-Decides other one).0 same)))))
    (λ apart. apart) (cases_Bool (bytes_eq other one))

names_differ-push : (items : List Item) (item : Item) → names_differ items ≡ true → has_name items item.name ≡ false
    → names_differ (items ++ item ∷ []) ≡ true
names_differ-push [] item e new = refl
names_differ-push (one ∷ items) item e new =
    and_both _ _
    (ap not (list_any-append (λ other. bytes_eq other.name one.name) items (item ∷ [])
    ∙ ap (λ t. t || (bytes_eq item.name one.name || false)) (not_true _ (and_left _ _ e))
    ∙ ap (λ t. t || false) (other_name one.name item.name (or_false_left _ _ new))))
    (names_differ-push items item (and_right _ _ e) (or_false_right _ _ new))

names_differ-with_item : (items : List Item) (given : Option Item) → names_differ items ≡ true → names_differ (with_item items given) ≡ true
names_differ-with_item items None e = e
names_differ-with_item items (Some item) e = of (has_name items item.name) refl where
  of : (t : Bool) → has_name items item.name ≡ t → names_differ (cond t items (items ++ item ∷ [])) ≡ true
  of true had = e
  of false new = names_differ-push items item e new

names_differ-with_items : (nodes : List Node) (front : List ℕ) (items : List Item) (rest : List Node) → names_differ items ≡ true
    → names_differ (with_items nodes front items rest) ≡ true
names_differ-with_items nodes front items [] e = e
names_differ-with_items nodes front items (node ∷ rest) e =
    names_differ-with_items nodes front (with_item items (item_of nodes front node)) rest (names_differ-with_item items (item_of nodes front node) e)

-- a directory is listed
pub Lists-listed : (nodes : List Node) (dir : List ℕ) → kind_at nodes dir ≡ Some Dir → Lists nodes dir (listed nodes dir)
Lists-listed nodes dir here = record {
  here = here;
  kinds = λ name. kind_of-with_items nodes (front_of dir) [] nodes name ∙ kinds_given nodes (front_of dir) name;
  differ = names_differ-with_items nodes (front_of dir) [] nodes refl;
}
