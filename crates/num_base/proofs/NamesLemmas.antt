-- What a map under names has at a name: a list of entries in order of names, as std's map holds them, is a finite
-- map; putting an entry in is inserting it. Shown at each name by the order of the entries.
-- The hard one is `put_at`.
use Rattle.std.proofs.Common.{◌≡◌, ℕ, Bool, true, false, true≢false, cond, is_some, Option, Some, List, [], ◌∷◌, map, refl, sym, ap, ◌∙◌}
use Rattle.std.specs.Prelude.{Vec}
use Rattle.std.specs.declared.alloc.Global.{Global}
use Rattle.std.specs.Cmp.Lexicographic.{slice_cmp}
use Rattle.std.specs.Cmp.{eq_by_cmp_equiv}
use Rattle.std.specs.Ordering.{nat_cmp, is_eq, match_ordering}
use Rattle.std.specs.BTreeMap.{is_at, insert_entry}
use Rattle.std.specs.Map.{lookup, set_value}
use Rattle.std.specs.declared.cmp.Ordering.{Ordering}
use Rattle.std.specs.declared.cmp.Ordering.TheVariants.{Less, Equal, Greater}
use Rattle.std.specs.FinMap.{get, insert, find, get-from_entries, get-insert, same_map}
use Rattle.std.proofs.lemmas.Map.Lookups.{exact_bytes}
use Rattle.std.proofs.lemmas.Cmp.{nat_list_cmp_total}
use Rattle.num_base.specs.Names.{name_cmp, as_pair, by_names}

-- what the entries have at a name
abbrev pub value_at : {V : Type 0} → List (Vec ℕ Global × V) → List ℕ → Option V
value_at es q = lookup (is_at (λ k. slice_cmp nat_cmp q k.items)) es

found_under : {V : Type 0} (es : List (Vec ℕ Global × V)) (q : List ℕ)
    → find name_cmp q (map as_pair es) ≡ value_at es q
found_under [] q = refl
found_under (e ∷ es) q = ap (cond (is_at (λ k. slice_cmp nat_cmp q k.items) e.0) (Some e.1)) (found_under es q)

pub value_under : {V : Type 0} (es : List (Vec ℕ Global × V)) (q : List ℕ)
    → get (by_names es) q ≡ value_at es q
value_under es q = get-from_entries nat_list_cmp_total (map as_pair es) q ∙ found_under es q

-- an entry that was put in is found at its name, and the others as before
is_equal : (r : Ordering) → is_eq r ≡ true → r ≡ Equal
is_equal Less e = absurd (true≢false (sym e))
is_equal Equal e = refl
is_equal Greater e = absurd (true≢false (sym e))

swapped : {A : Type 0} (a b : Bool) (x y z : A) → (a ≡ true → b ≡ true → ⊥)
    → cond a x (cond b y z) ≡ cond b y (cond a x z)
swapped true true x y z n = absurd (n refl refl)
swapped true false x y z n = refl
swapped false b x y z n = refl

covered : {A : Type 0} (a : Bool) (x y z : A) → cond a x z ≡ cond a x (cond a y z)
covered true x y z = refl
covered false x y z = refl

differ : (k l q : List ℕ) → name_cmp k l ≡ Greater → is_eq (name_cmp q l) ≡ true → is_eq (name_cmp q k) ≡ true
    → ⊥
differ k l q p a b =
    let q_is_l = exact_bytes q l (is_equal _ a) in
    let q_is_k = exact_bytes q k (is_equal _ b) in
    true≢false (sym ((eq_by_cmp_equiv nat_list_cmp_total).refl k)
    ∙ ap (λ x. is_eq (name_cmp k x)) (sym q_is_k ∙ q_is_l) ∙ ap is_eq p)

-- an entry of another name doesn't matter
past : {V : Type 0} (q k l : List ℕ) (x y z w : Option V) → is_eq (name_cmp k l) ≡ false
    → w ≡ cond (is_eq (name_cmp q k)) y z
    → cond (is_eq (name_cmp q l)) x w ≡ cond (is_eq (name_cmp q k)) y (cond (is_eq (name_cmp q l)) x z)
past q k l x y z w p e = ap (cond (is_eq (name_cmp q l)) x) e
    ∙ swapped (is_eq (name_cmp q l)) (is_eq (name_cmp q k)) x y z (λ a b.
    true≢false (sym ((eq_by_cmp_equiv nat_list_cmp_total).refl k)
    ∙ ap (λ m. is_eq (name_cmp k m)) (sym (exact_bytes q k (is_equal _ b)) ∙ exact_bytes q l (is_equal _ a)) ∙ p))

put_at : {V : Type 0} (es : List (List ℕ × V)) (k : List ℕ) (v : V) (q : List ℕ)
    → find name_cmp q (insert_entry name_cmp es k v) ≡ cond (is_eq (name_cmp q k)) (Some v) (find name_cmp q es)
put_at [] k v q = refl
put_at (e ∷ es) k v q =
    elim (name_cmp k e.0) as (λ r. name_cmp k e.0 ≡ r
    → find name_cmp q (match_ordering r ((k, v) ∷ e ∷ es) ((e.0, v) ∷ es) (e ∷ insert_entry name_cmp es k v))
    ≡ cond (is_eq (name_cmp q k)) (Some v) (cond (is_eq (name_cmp q e.0)) (Some e.1) (find name_cmp q es))) [
      | Less ↦ λ p. refl
      | Equal ↦ λ p. ap (λ x. cond (is_eq (name_cmp q x)) (Some v) (find name_cmp q es)) (sym (exact_bytes k e.0 p))
          ∙ covered (is_eq (name_cmp q k)) (Some v) (Some e.1) (find name_cmp q es)
          ∙ ap (λ x. cond (is_eq (name_cmp q k)) (Some v) (cond (is_eq (name_cmp q x)) (Some e.1) (find name_cmp q es)))
          (exact_bytes k e.0 p)
      | Greater ↦ λ p. ap (cond (is_eq (name_cmp q e.0)) (Some e.1)) (put_at es k v q)
          ∙ swapped (is_eq (name_cmp q e.0)) (is_eq (name_cmp q k)) (Some e.1) (Some v) (find name_cmp q es)
          (differ k e.0 q p)
    ] refl

-- entries of owned names, as pairs
pairs_put : {V : Type 0} (es : List (Vec ℕ Global × V)) (k : Vec ℕ Global) (v : V)
    → map as_pair (insert_entry (λ x y. slice_cmp nat_cmp x.items y.items) es k v)
    ≡ insert_entry name_cmp (map as_pair es) k.items v
pairs_put [] k v = refl
pairs_put (e ∷ es) k v =
    elim (name_cmp k.items e.0.items) as (λ r.
    map as_pair (match_ordering r ((k, v) ∷ e ∷ es) ((e.0, v) ∷ es)
    (e ∷ insert_entry (λ x y. slice_cmp nat_cmp x.items y.items) es k v))
    ≡ match_ordering r ((k.items, v) ∷ as_pair e ∷ map as_pair es) ((e.0.items, v) ∷ map as_pair es)
    (as_pair e ∷ insert_entry name_cmp (map as_pair es) k.items v)) [
      | Less ↦ refl
      | Equal ↦ refl
      | Greater ↦ ap (λ xs. as_pair e ∷ xs) (pairs_put es k v)
    ]

-- putting an entry in is inserting it into the map
pub put_under : {V : Type 0} (es : List (Vec ℕ Global × V)) (k : Vec ℕ Global) (v : V)
    → by_names (insert_entry (λ x y. slice_cmp nat_cmp x.items y.items) es k v)
    ≡ insert (by_names es) k.items v
put_under es k v = same_map nat_list_cmp_total exact_bytes _ _ (λ q.
    get-from_entries nat_list_cmp_total _ q ∙ ap (find name_cmp q) (pairs_put es k v)
    ∙ put_at (map as_pair es) k.items v q
    ∙ sym (get-insert nat_list_cmp_total (by_names es) k.items v q
    ∙ ap (cond (is_eq (name_cmp q k.items)) (Some v)) (get-from_entries nat_list_cmp_total (map as_pair es) q)))

-- setting the value of a name that has an entry is inserting it
set_at_name : {V : Type 0} (es : List (Vec ℕ Global × V)) (k : List ℕ) (v : V) (q : List ℕ)
    → is_some (value_at es k) ≡ true
    → value_at (set_value (is_at (λ x. slice_cmp nat_cmp k x.items)) es v) q
    ≡ cond (is_eq (name_cmp q k)) (Some v) (value_at es q)
set_at_name [] k v q h = absurd (true≢false (sym h))
set_at_name (e ∷ es) k v q h =
    elim (name_cmp k e.0.items) as (λ r. name_cmp k e.0.items ≡ r
    → is_some (cond (is_eq r) (Some e.1) (value_at es k)) ≡ true
    → value_at (cond (is_eq r) ((e.0, v) ∷ es) (e ∷ set_value (is_at (λ x. slice_cmp nat_cmp k x.items)) es v)) q
    ≡ cond (is_eq (name_cmp q k)) (Some v)
    (cond (is_eq (name_cmp q e.0.items)) (Some e.1) (value_at es q))) [
      | Less ↦ λ p h. past q k e.0.items (Some e.1) (Some v) (value_at es q)
          (value_at (set_value (is_at (λ x. slice_cmp nat_cmp k x.items)) es v) q) (ap is_eq p) (set_at_name es k v q h)
      | Equal ↦ λ p h. ap (λ x. cond (is_eq (name_cmp q x)) (Some v) (value_at es q)) (sym (exact_bytes k e.0.items p))
          ∙ covered (is_eq (name_cmp q k)) (Some v) (Some e.1) (value_at es q)
          ∙ ap (λ x. cond (is_eq (name_cmp q k)) (Some v) (cond (is_eq (name_cmp q x)) (Some e.1) (value_at es q)))
          (exact_bytes k e.0.items p)
      | Greater ↦ λ p h. past q k e.0.items (Some e.1) (Some v) (value_at es q)
          (value_at (set_value (is_at (λ x. slice_cmp nat_cmp k x.items)) es v) q) (ap is_eq p) (set_at_name es k v q h)
    ] refl h

pub set_under : {V : Type 0} (es : List (Vec ℕ Global × V)) (k : List ℕ) (v : V)
    → is_some (value_at es k) ≡ true
    → by_names (set_value (is_at (λ x. slice_cmp nat_cmp k x.items)) es v) ≡ insert (by_names es) k v
set_under es k v h = same_map nat_list_cmp_total exact_bytes _ _ (λ q.
    value_under _ q ∙ set_at_name es k v q h
    ∙ sym (get-insert nat_list_cmp_total (by_names es) k v q
    ∙ ap (cond (is_eq (name_cmp q k)) (Some v)) (value_under es q)))
