-- What variables hold under a name, by the entries of std's map: a binding is stored at its name's place, and a block's start
-- leaves what `cleared` says at each name. Shown at each name by `value_under` of num_base; the hard one is `kept_cleared`,
-- which reads what std says of `retain`.
use Rattle.std.proofs.Common.{◌≡◌, ℕ, Bool, true, false, true≢false, cond, is_some, Option, Some, None, List, [], ◌∷◌, map, refl, sym, ap, ◌∙◌, subst, ◌&&◌}
use Rattle.std.specs.Prelude.{Vec}
use Rattle.std.specs.declared.alloc.Global.{Global}
use Rattle.std.specs.Cmp.Lexicographic.{slice_cmp}
use Rattle.std.specs.Ordering.{nat_cmp, is_eq}
use Rattle.std.specs.BTreeMap.{is_at}
use Rattle.std.specs.Map.{set_value}
use Rattle.std.specs.Map.Calls.{RetainsPairs}
use Rattle.std.specs.Option.{IfSome, option_map}
use Rattle.std.specs.declared.cmp.Ordering.{Ordering}
use Rattle.std.specs.declared.cmp.Ordering.TheVariants.{Less, Equal, Greater}
use Rattle.std.specs.FinMap.{FinMap, entries, find, get, insert, get-entries, get-from_entries, get-insert, same_map}
use Rattle.std.proofs.lemmas.Map.Lookups.{exact_bytes}
use Rattle.std.proofs.lemmas.Cmp.{nat_list_cmp_total}
use Rattle.num_base.specs.Names.{name_cmp, by_names}
use Rattle.num_base.proofs.NamesLemmas.{value_under, set_under}
use Rattle.pattern_vars.specs.Vars.{HavePlaces, IsCleared, bound, bound_all, cleared, forgotten, has_place, have_places, held_with, name_of, value_at}
use Rattle.pattern_vars.specs.declared.binding.Binding.{Binding}
use Rattle.pattern_vars.specs.declared.vars.Held.{Held}

-- what is held under a name is what the entries have there
pub held_under : (es : List (Vec ℕ Global × Held)) (q : List ℕ) {vars : FinMap name_cmp Held} {o : Option Held}
    → by_names es ≡ vars → o ≡ value_at es q → o ≡ get vars q
held_under es q view is = is ∙ sym (value_under es q) ∙ ap (λ all. get all q) view

-- a binding is stored at its place
pub stored : (es others : List (Vec ℕ Global × Held)) (b : Binding) → has_place (by_names es) b ≡ true
    → IfSome (value_at es (name_of b)) (λ one. others
    ≡ set_value (is_at (λ k. slice_cmp nat_cmp (name_of b) k.items)) es (held_with (Some one) b))
    → by_names others ≡ bound (by_names es) b
stored es others b has set =
    each (value_at es (name_of b)) refl set
    ∙ ap (λ o. insert (by_names es) (name_of b) (held_with o b)) (sym (value_under es (name_of b)))
  where
    each : (o : Option Held) → value_at es (name_of b) ≡ o
        → IfSome o (λ one. others
        ≡ set_value (is_at (λ k. slice_cmp nat_cmp (name_of b) k.items)) es (held_with (Some one) b))
        → by_names others ≡ insert (by_names es) (name_of b) (held_with o b)
    each None is same = absurd (true≢false (sym has ∙ ap is_some (value_under es (name_of b) ∙ is)))
    each (Some one) is same =
        ap by_names same ∙ set_under es (name_of b) (held_with (Some one) b) (ap is_some is)

-- places stay
place_stays : (vars : FinMap name_cmp Held) (b other : Binding) → has_place vars other ≡ true
    → has_place (bound vars b) other ≡ true
place_stays vars b other has =
    ap is_some (get-insert nat_list_cmp_total vars (name_of b) (held_with (get vars (name_of b)) b) (name_of other))
    ∙ each (is_eq (name_cmp (name_of other) (name_of b)))
  where
    each : (same : Bool)
        → is_some (cond same (Some (held_with (get vars (name_of b)) b)) (get vars (name_of other))) ≡ true
    each true = refl
    each false = has

pub both_true : (v w : Bool) → (v && w) ≡ true → (v ≡ true) × (w ≡ true)
both_true true w is = (refl, is)
both_true false w is = absurd (true≢false (sym is))

pub places_stay : (vars : FinMap name_cmp Held) (b : Binding) (bs : List Binding) → have_places vars bs ≡ true
    → have_places (bound vars b) bs ≡ true
places_stay vars b [] has = refl
places_stay vars b (other ∷ bs) has =
    let both = both_true (has_place vars other) (have_places vars bs) has in
    rw (place_stays vars b other both.0) (places_stay vars b bs both.1)

name_stays : (vars : FinMap name_cmp Held) (b : Binding) (name : List ℕ) → is_some (get vars name) ≡ true
    → is_some (get (bound vars b) name) ≡ true
name_stays vars b name has =
    ap is_some (get-insert nat_list_cmp_total vars (name_of b) (held_with (get vars (name_of b)) b) name)
    ∙ each (is_eq (name_cmp name (name_of b)))
  where
    each : (same : Bool)
        → is_some (cond same (Some (held_with (get vars (name_of b)) b)) (get vars name)) ≡ true
    each true = refl
    each false = has

name_stays_bound : (vars : FinMap name_cmp Held) (bs : List Binding) (name : List ℕ) → is_some (get vars name) ≡ true
    → is_some (get (bound_all vars bs) name) ≡ true
name_stays_bound vars [] name has = has
name_stays_bound vars (b ∷ bs) name has = name_stays_bound (bound vars b) bs name (name_stays vars b name has)

pub have_places_bound : (vars : FinMap name_cmp Held) (bs : List Binding) (names : List (List ℕ)) → HavePlaces vars names
    → HavePlaces (bound_all vars bs) names
have_places_bound vars bs names has = λ k d low. name_stays_bound vars bs _ (has k d low)

-- the start of a block
is_equal : (r : Ordering) → is_eq r ≡ true → r ≡ Equal
is_equal Less e = absurd (true≢false (sym e))
is_equal Equal e = refl
is_equal Greater e = absurd (true≢false (sym e))

abbrev pub cleared_entry : Vec ℕ Global × Held → Vec ℕ Global × Held
cleared_entry e = (e.0, cleared e.0.items e.1)

cleared_at : (es : List (Vec ℕ Global × Held)) (q : List ℕ)
    → value_at (map cleared_entry es) q ≡ option_map (cleared q) (value_at es q)
cleared_at [] q = refl
cleared_at (e ∷ es) q = each (is_eq (name_cmp q e.0.items)) refl (cleared_at es q)
  where
    each : (same : Bool) → is_eq (name_cmp q e.0.items) ≡ same
        → value_at (map cleared_entry es) q ≡ option_map (cleared q) (value_at es q)
        → cond same (Some (cleared e.0.items e.1)) (value_at (map cleared_entry es) q)
        ≡ option_map (cleared q) (cond same (Some e.1) (value_at es q))
    each true is rest = ap (λ name. Some (cleared name e.1)) (sym (exact_bytes q e.0.items (is_equal _ is)))
    each false is rest = rest

pub entries_cleared : (es others : List (Vec ℕ Global × Held)) → others ≡ map cleared_entry es
    → IsCleared (by_names es) (by_names others)
entries_cleared es others same = λ q.
    value_under others q ∙ ap (λ all. value_at all q) same ∙ cleared_at es q
    ∙ ap (option_map (cleared q)) (sym (value_under es q))

-- what is kept by a closure that keeps each entry, with what is left under its name
pub kept_cleared : {F : Type 0} (T : F → Vec ℕ Global → Held → Bool → Held → F → Type 0) (f : F)
    → ((k : Vec ℕ Global) (v : Held) (b : Bool) (w : Held) (g : F) → T f k v b w g
    → (b ≡ true) × (w ≡ cleared k.items v) × (g ≡ f))
    → (es kept : List (Vec ℕ Global × Held)) → RetainsPairs T f es kept → kept ≡ map cleared_entry es
kept_cleared T f tells [] kept is = is
kept_cleared T f tells (e ∷ es) kept (b, w, g, rest, told, more, same) =
    let facts = tells e.0 e.1 b w g told in
    let behind : rest ≡ map cleared_entry es =
    kept_cleared T f tells es rest (subst (λ h. RetainsPairs T h es rest) (facts.2) more) in
    same ∙ ap (λ v. cond v ((e.0, w) ∷ rest) rest) facts.0 ∙ (λ n. (e.0, facts.1 n) ∷ behind n)

-- the value of what is left
find_cleared : (es : List (List ℕ × Held)) (q : List ℕ)
    → find name_cmp q (map (λ e. (e.0, cleared e.0 e.1)) es) ≡ option_map (cleared q) (find name_cmp q es)
find_cleared [] q = refl
find_cleared (e ∷ es) q = each (is_eq (name_cmp q e.0)) refl (find_cleared es q)
  where
    each : (same : Bool) → is_eq (name_cmp q e.0) ≡ same
        → find name_cmp q (map (λ e. (e.0, cleared e.0 e.1)) es) ≡ option_map (cleared q) (find name_cmp q es)
        → cond same (Some (cleared e.0 e.1)) (find name_cmp q (map (λ e. (e.0, cleared e.0 e.1)) es))
        ≡ option_map (cleared q) (cond same (Some e.1) (find name_cmp q es))
    each true is rest = ap (λ name. Some (cleared name e.1)) (sym (exact_bytes q e.0 (is_equal _ is)))
    each false is rest = rest

get-forgotten : (vars : FinMap name_cmp Held) (q : List ℕ) → get (forgotten vars) q ≡ option_map (cleared q) (get vars q)
unfolding forgotten
get-forgotten vars q =
    get-from_entries nat_list_cmp_total _ q ∙ find_cleared (entries vars) q ∙ ap (option_map (cleared q)) (sym (get-entries vars q))

pub cleared_is : (old new : FinMap name_cmp Held) → IsCleared old new → new ≡ forgotten old
cleared_is old new is = same_map nat_list_cmp_total exact_bytes new (forgotten old) (λ q. is q ∙ sym (get-forgotten old q))

is_some-mapped : (f : Held → Held) (o : Option Held) → is_some (option_map f o) ≡ is_some o
is_some-mapped f None = refl
is_some-mapped f (Some one) = refl

pub have_places_forgotten : (vars : FinMap name_cmp Held) (names : List (List ℕ)) → HavePlaces vars names
    → HavePlaces (forgotten vars) names
have_places_forgotten vars names has = λ k d low.
    ap is_some (get-forgotten vars _) ∙ is_some-mapped _ (get vars _) ∙ has k d low
