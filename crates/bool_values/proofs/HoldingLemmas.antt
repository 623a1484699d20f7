-- The value decides whether the expression holds: by cases on the expression, and for a tree by the list of its derivations.
-- Names and trees are sought in the list of features, by a test that decides what is sought of each.
-- The hard one is `matches_decides`: all derivations of a tree are listed, and none but those.
use Rattle.std.proofs.Common.{◌≡◌, ◌==◌, ℕ, Bool, true, false, List, [], ◌∷◌, length, refl, subst}
use Rattle.std.specs.Bool.{Decides}
use Rattle.std.specs.FinMap.{empty}
use Rattle.std.specs.List.{list_any}
use Rattle.std.specs.Str.{bytes_eq}
use Rattle.std.proofs.lemmas.Bool.{eqb-true, eq-eqb, or_parts}
use Rattle.std.proofs.lemmas.Bool.Decides.{Decides-and, Decides-not, Decides-or}
use Rattle.std.proofs.lemmas.List.Folds.{Any-from_list_any, list_any-from_Any}
use Rattle.std.proofs.lemmas.Slice.Eq.{bytes_eq-Decides}
use Rattle.ere_slow.specs.Listing.{Found, all_ways}
use Rattle.ere_slow.proofs.ListingLemmas.{all_ways-complete, all_ways-sound}
use Rattle.ere_slow.proofs.MembershipLemmas.{Contains-IsIn, IsIn-Any}
use Rattle.ere_places.proofs.SpanLemmas.{spans_from}
use Rattle.ere_tree.specs.Derivation.{Derives}
use Rattle.ere_tree.specs.Shape.{has_refs}
use Rattle.ere_tree.specs.Tree.{Tree}
use Rattle.ere_whole.specs.Whole.{MatchesWhole}
use Rattle.bool_exprs.specs.Expr.{Expr, constant, name, match, negation, both, either, Holds, OneOf, refers}
use Rattle.bool_values.specs.Holding.{HoldingIsOne, holds_in, matches_in}

-- one of the features is such where one passes a test that decides it
OneOf-Decides : (IsSuch : List ℕ → Type 0) (test : List ℕ → Bool) → ((f : List ℕ) → Decides (test f) (IsSuch f))
    → (fs : List (List ℕ)) → Decides (list_any test fs) (OneOf IsSuch fs)
OneOf-Decides IsSuch test each [] = (λ is. cc, λ one. absurd one)
OneOf-Decides IsSuch test each (f ∷ fs) =
    Decides-or (test f) (list_any test fs) (each f) (OneOf-Decides IsSuch test each fs)

matches_decides : (tree : Tree) (text : List ℕ) → has_refs tree ≡ false
    → Decides (matches_in tree text) (MatchesWhole tree text)
unfolding matches_in
matches_decides tree text free =
    let test = λ (found : Found). found.to == length text in
    let found = all_ways text tree 0 empty in (
      λ is.
          let one = Any-from_list_any test found is in
          let ends : one.1.to ≡ length text = eqb-true one.1.to (length text) one.4 in
          let shows = all_ways-sound text tree 0 empty one.1 (Contains-IsIn found one.1 (one.0, one.2, one.3)) in
          (one.1.way, empty, one.1.captures, subst (λ j. Derives text tree one.1.way 0 j empty one.1.captures) ends shows),
      λ spans.
          let shows = spans_from text tree 0 (length text) free spans empty in
          let way : Found = record { way = shows.0; to = length text; captures = shows.1 } in
          let listed = all_ways-complete text tree shows.0 0 (length text) empty shows.1 shows.2 in
          list_any-from_Any test found
          (IsIn-Any (λ one. test one ≡ true) found way listed (eq-eqb (length text) (length text) refl)),
    )

pub holds_in-Decides : (features : List (List ℕ)) (expr : Expr) → refers expr ≡ false
    → Decides (holds_in features expr) (Holds features expr)
unfolding holds_in
holds_in-Decides features (constant value) free = (λ is. is, λ holds. holds)
holds_in-Decides features (name bytes) free =
    OneOf-Decides (λ f. f ≡ bytes) (λ f. bytes_eq f bytes) (λ f. bytes_eq-Decides f bytes) features
holds_in-Decides features (match tree) free =
    OneOf-Decides (MatchesWhole tree) (matches_in tree) (λ f. matches_decides tree f free) features
holds_in-Decides features (negation inner) free =
    Decides-not (holds_in features inner) (holds_in-Decides features inner free)
holds_in-Decides features (both left right) free =
    Decides-and (holds_in features left) (holds_in features right)
    (holds_in-Decides features left (or_parts (refers left) (refers right) free).0)
    (holds_in-Decides features right (or_parts (refers left) (refers right) free).1)
holds_in-Decides features (either left right) free =
    Decides-or (holds_in features left) (holds_in features right)
    (holds_in-Decides features left (or_parts (refers left) (refers right) free).0)
    (holds_in-Decides features right (or_parts (refers left) (refers right) free).1)

pub holding_is_one : HoldingIsOne
holding_is_one = record {
  says = λ features expr free. (holds_in-Decides features expr free).0;
  said = λ features expr free. (holds_in-Decides features expr free).1;
}
