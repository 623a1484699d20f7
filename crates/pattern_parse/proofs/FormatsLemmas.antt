-- What formats have at a name is what the map of the code's entries has there, whose empty places nobody sees.
-- Both are followed name by name, with what num_base says of entries under names.
-- The hard one is `place_under`: a new place changes no look-up.
use Rattle.std.proofs.lemmas.List.{drop_all}
use Rattle.std.proofs.Common.{◌≡◌, ℕ, ◌+◌, ◌<◌, ◌≤◌, add-one, drop, drop-cons, get_or, length, Bool, true, false, true≢false, cond, is_some, Option, Some, None, List, [], ◌∷◌, refl, sym, ap, ◌∙◌, subst}
use Rattle.std.specs.Prelude.{Vec}
use Rattle.std.specs.declared.alloc.Global.{Global}
use Rattle.std.specs.Cmp.Lexicographic.{slice_cmp}
use Rattle.std.specs.Ordering.{nat_cmp, is_eq}
use Rattle.std.specs.BTreeMap.{is_at, insert_entry}
use Rattle.std.specs.Map.{set_value}
use Rattle.std.specs.Option.{option_flatten}
use Rattle.std.specs.Cmp.{eq_by_cmp_equiv}
use Rattle.std.specs.declared.cmp.Ordering.{Ordering}
use Rattle.std.specs.declared.cmp.Ordering.TheVariants.{Less, Equal, Greater}
use Rattle.std.specs.FinMap.{FinMap, get, insert, get-insert, get-remove, get-empty, same_map}
use Rattle.std.proofs.lemmas.Map.Lookups.{exact_bytes}
use Rattle.std.proofs.lemmas.Cmp.{nat_list_cmp_total}
use Rattle.num_base.specs.Names.{name_cmp, by_names}
use Rattle.num_base.specs.declared.format.Format.{Format}
use Rattle.num_base.proofs.NamesLemmas.{value_at, value_under, put_under, set_under}
use Rattle.pattern_parse.specs.Formats.{HasPlace, HasPlaces, NamePlace, Stays, by_places, with_place}
use Rattle.pattern_parse.specs.declared.pattern.Piece.{Piece}
use Rattle.pattern_parse.specs.declared.pattern.Piece.TheVariants as piece

place_at : (known : FinMap name_cmp Format) (k q : List ℕ) (o : Option Format)
    → get (with_place known k o) q ≡ cond (is_eq (name_cmp q k)) o (get known q)
place_at known k q None = get-remove nat_list_cmp_total known k q
place_at known k q (Some f) = get-insert nat_list_cmp_total known k f q

chosen : (b : Bool) (o : Option Format) (r : Option (Option Format))
    → cond b o (option_flatten r) ≡ option_flatten (cond b (Some o) r)
chosen true o r = refl
chosen false o r = refl

pub format_under : (es : List (Vec ℕ Global × Option Format)) (q : List ℕ)
    → get (by_places es) q ≡ option_flatten (value_at es q)
format_under [] q = get-empty name_cmp q
format_under (e ∷ es) q =
    place_at (by_places es) e.0.items q e.1
    ∙ ap (cond (is_eq (name_cmp q e.0.items)) e.1) (format_under es q)
    ∙ chosen (is_eq (name_cmp q e.0.items)) e.1 (value_at es q)

-- an entry that is put in or set is found at its name
put_value : (es : List (Vec ℕ Global × Option Format)) (k : Vec ℕ Global) (o : Option Format) (q : List ℕ)
    → value_at (insert_entry (λ x y. slice_cmp nat_cmp x.items y.items) es k o) q
    ≡ cond (is_eq (name_cmp q k.items)) (Some o) (value_at es q)
put_value es k o q =
    sym (value_under (insert_entry (λ x y. slice_cmp nat_cmp x.items y.items) es k o) q)
    ∙ ap (λ m. get m q) (put_under es k o)
    ∙ get-insert nat_list_cmp_total (by_names es) k.items o q
    ∙ ap (cond (is_eq (name_cmp q k.items)) (Some o)) (value_under es q)

set_place : (es : List (Vec ℕ Global × Option Format)) (k : List ℕ) (o : Option Format) (q : List ℕ)
    → is_some (value_at es k) ≡ true
    → value_at (set_value (is_at (λ x. slice_cmp nat_cmp k x.items)) es o) q
    ≡ cond (is_eq (name_cmp q k)) (Some o) (value_at es q)
set_place es k o q has =
    sym (value_under (set_value (is_at (λ x. slice_cmp nat_cmp k x.items)) es o) q)
    ∙ ap (λ m. get m q) (set_under es k o has)
    ∙ get-insert nat_list_cmp_total (by_names es) k o q
    ∙ ap (cond (is_eq (name_cmp q k)) (Some o)) (value_under es q)

is_equal : (r : Ordering) → is_eq r ≡ true → r ≡ Equal
is_equal Less e = absurd (true≢false (sym e))
is_equal Equal e = refl
is_equal Greater e = absurd (true≢false (sym e))

-- a new place is seen by nobody
pub place_under : (es : List (Vec ℕ Global × Option Format)) (k : Vec ℕ Global) → value_at es k.items ≡ None
    → by_places (insert_entry (λ x y. slice_cmp nat_cmp x.items y.items) es k None) ≡ by_places es
place_under es k none = same_map nat_list_cmp_total exact_bytes _ _ (λ q.
    format_under _ q ∙ ap option_flatten (put_value es k None q) ∙ each q (is_eq (name_cmp q k.items)) refl
    ∙ sym (format_under es q))
  where
    each : (q : List ℕ) (b : Bool) → is_eq (name_cmp q k.items) ≡ b
        → option_flatten (cond b (Some None) (value_at es q)) ≡ option_flatten (value_at es q)
    each q true is =
        sym (ap (λ n. option_flatten (value_at es n)) (exact_bytes q k.items (is_equal _ is)) ∙ ap option_flatten none)
    each q false is = refl

-- a format at a place is in the map
pub format_set : (es : List (Vec ℕ Global × Option Format)) (k : List ℕ) (f : Format)
    → is_some (value_at es k) ≡ true
    → by_places (set_value (is_at (λ x. slice_cmp nat_cmp k x.items)) es (Some f)) ≡ insert (by_places es) k f
format_set es k f has = same_map nat_list_cmp_total exact_bytes _ _ (λ q.
    format_under _ q ∙ ap option_flatten (set_place es k (Some f) q has)
    ∙ sym (chosen (is_eq (name_cmp q k)) (Some f) (value_at es q))
    ∙ ap (cond (is_eq (name_cmp q k)) (Some f)) (sym (format_under es q))
    ∙ sym (get-insert nat_list_cmp_total (by_places es) k f q))

-- places stay
pub place_stays : (es : List (Vec ℕ Global × Option Format)) (k : Vec ℕ Global) (o : Option Format) (q : List ℕ)
    → is_some (value_at es q) ≡ true
    → is_some (value_at (insert_entry (λ x y. slice_cmp nat_cmp x.items y.items) es k o) q) ≡ true
place_stays es k o q has = ap is_some (put_value es k o q) ∙ each (is_eq (name_cmp q k.items))
  where
    each : (b : Bool) → is_some (cond b (Some o) (value_at es q)) ≡ true
    each true = refl
    each false = has

pub place_stays_set : (es : List (Vec ℕ Global × Option Format)) (k : List ℕ) (o : Option Format) (q : List ℕ)
    → is_some (value_at es k) ≡ true → is_some (value_at es q) ≡ true
    → is_some (value_at (set_value (is_at (λ x. slice_cmp nat_cmp k x.items)) es o) q) ≡ true
place_stays_set es k o q there has = ap is_some (set_place es k o q there) ∙ each (is_eq (name_cmp q k))
  where
    each : (b : Bool) → is_some (cond b (Some o) (value_at es q)) ≡ true
    each true = refl
    each false = has

pub place_made : (es : List (Vec ℕ Global × Option Format)) (k : Vec ℕ Global) (o : Option Format)
    → is_some (value_at (insert_entry (λ x y. slice_cmp nat_cmp x.items y.items) es k o) k.items) ≡ true
place_made es k o =
    ap is_some (put_value es k o k.items)
    ∙ each (is_eq (name_cmp k.items k.items)) ((eq_by_cmp_equiv nat_list_cmp_total).refl k.items)
  where
    each : (b : Bool) → b ≡ true → is_some (cond b (Some o) (value_at es k.items)) ≡ true
    each true is = refl
    each false is = absurd (true≢false (sym is))

pub none_of : (o : Option (Option Format)) → is_some o ≡ false → o ≡ None
none_of None is = refl
none_of (Some f) is = absurd (true≢false is)

-- what has a place keeps it
name_stays : (es others : List (Vec ℕ Global × Option Format)) → Stays es others → (o : Option (List ℕ))
    → NamePlace es o → NamePlace others o
name_stays es others stays None has = _
name_stays es others stays (Some name) has = stays name has

pub has_place_stays : (es others : List (Vec ℕ Global × Option Format)) → Stays es others → (p : Piece)
    → HasPlace es p → HasPlace others p
has_place_stays es others stays (piece.Num block format) has = name_stays es others stays block.defines has
has_place_stays es others stays (piece.Plain bytes) has = _
has_place_stays es others stays (piece.Regex ere) has = _
has_place_stays es others stays (piece.Define name ere) has = _
has_place_stays es others stays (piece.Recall name) has = _

pub have_places_stay : (es others : List (Vec ℕ Global × Option Format)) → Stays es others → (ps : List Piece)
    → HasPlaces es ps → HasPlaces others ps
have_places_stay es others stays [] has = _
have_places_stay es others stays (p ∷ ps) has = (
  has_place_stays es others stays p has.0,
  have_places_stay es others stays ps has.1,
)

-- where no piece is left
pub no_places : (es : List (Vec ℕ Global × Option Format)) (ps : List Piece) (i : ℕ) → length ps ≤ i
    → HasPlaces es (drop i ps)
no_places es ps i over = subst (HasPlaces es) (sym (drop_all i ps over)) _

-- a piece and those behind it
pub split_pieces : (ps : List Piece) (i : ℕ) (p : Piece) → i < length ps → p ≡ get_or ps i p
    → drop i ps ≡ p ∷ drop (i + 1) ps
split_pieces ps i p low is = drop-cons ps i p low ∙ (λ n. sym is n ∷ drop (sym (add-one i) n) ps)
