-- Places of variables before the first directive: each name of the patterns and of the words has one.
-- By induction over the names, and over the bindings that are stored behind them; a place that is made stays.
-- `fresh_placed` is the harder one, since a binding puts a value and a place at once.
use Rattle.std.proofs.Common.{◌≡◌, ◌∙◌, ℕ, zero, suc, ◌<◌, arith, Bool, true, false, cond, is_some, Some, List, [], ◌∷◌, ◌++◌, get_or, length, map, refl, subst, ap, append-nil}
use Rattle.std.specs.FinMap.{FinMap, empty, get, insert, get-insert}
use Rattle.std.specs.Ordering.{is_eq}
use Rattle.std.proofs.lemmas.Cmp.{eq_by_cmp_equiv, nat_list_cmp_total}
use Rattle.num_base.specs.Names.{name_cmp}
use Rattle.pattern_vars.specs.Vars.{HavePlaces, have_places, name_of, nothing_held, with_places}
use Rattle.pattern_vars.specs.declared.binding.Binding.{Binding}
use Rattle.pattern_vars.specs.declared.vars.Held.{Held}
use Rattle.pattern_vars.proofs.VarsLemmas.{have_places_bound}
use Rattle.define_words.specs.Start.{start}

-- a place is made, and stays
is_made : (vars : FinMap name_cmp Held) (name : List ℕ) → is_some (get (insert vars name nothing_held) name) ≡ true
is_made vars name =
    ap is_some (get-insert nat_list_cmp_total vars name nothing_held name)
    ∙ ap (λ same. is_some (cond same (Some nothing_held) (get vars name)))
    ((eq_by_cmp_equiv nat_list_cmp_total).refl name)

stays : (vars : FinMap name_cmp Held) (name other : List ℕ) → is_some (get vars other) ≡ true
    → is_some (get (insert vars name nothing_held) other) ≡ true
stays vars name other has =
    ap is_some (get-insert nat_list_cmp_total vars name nothing_held other) ∙ each (is_eq (name_cmp other name))
  where
    each : (same : Bool) → is_some (cond same (Some nothing_held) (get vars other)) ≡ true
    each true = refl
    each false = has

all_stay : (vars : FinMap name_cmp Held) (names : List (List ℕ)) (other : List ℕ) → is_some (get vars other) ≡ true
    → is_some (get (with_places vars names) other) ≡ true
all_stay vars [] other has = has
all_stay vars (name ∷ names) other has =
    all_stay (insert vars name nothing_held) names other (stays vars name other has)

-- of names with others behind them each has one
each_has : (vars : FinMap name_cmp Held) (names others : List (List ℕ)) (k : ℕ) (d : List ℕ) → k < length names
    → is_some (get (with_places vars (names ++ others)) (get_or names k d)) ≡ true
each_has vars [] others k d low = absurd (omega (arith, low))
each_has vars (name ∷ names) others zero d low =
    all_stay (insert vars name nothing_held) (names ++ others) name (is_made vars name)
each_has vars (name ∷ names) others (suc k) d low =
    each_has (insert vars name nothing_held) names others k d (omega (arith, low))

pub names_placed : (names : List (List ℕ)) (fresh : List Binding) → HavePlaces (start names fresh) names
names_placed names fresh =
    have_places_bound (with_places empty (names ++ map name_of fresh)) fresh names
    (λ k d low. each_has empty names (map name_of fresh) k d low)

-- and so have those behind them
each_behind : (vars : FinMap name_cmp Held) (names others : List (List ℕ)) (k : ℕ) (d : List ℕ) → k < length others
    → is_some (get (with_places vars (names ++ others)) (get_or others k d)) ≡ true
each_behind vars [] others k d low =
    subst (λ all. is_some (get (with_places vars all) (get_or others k d)) ≡ true) (append-nil others)
    (each_has vars others [] k d low)
each_behind vars (name ∷ names) others k d low = each_behind (insert vars name nothing_held) names others k d low

have_all : (vars : FinMap name_cmp Held) (fresh : List Binding) → HavePlaces vars (map name_of fresh)
    → have_places vars fresh ≡ true
have_all vars [] has = refl
have_all vars (binding ∷ later) has =
    rw (has zero [] (omega arith)) (have_all vars later (λ k d low. has (suc k) d (omega (arith, low))))

pub fresh_placed : (names : List (List ℕ)) (fresh : List Binding)
    → have_places (with_places empty (names ++ map name_of fresh)) fresh ≡ true
fresh_placed names fresh =
    have_all (with_places empty (names ++ map name_of fresh)) fresh
    (λ k d low. each_behind empty names (map name_of fresh) k d low)
