-- What a discovery answers, by what its words gave and by the files that were found.
-- Idea: each file that the words make a test was found, since each directory above it was walked through.
-- The hard one is `test_found`.
use Rattle.lit_find.proofs.Names.{◌≡◌, ℕ, true, false, ◌⊎◌, inl, inr, List, [], ◌∷◌, ◌++◌, map, All, Option, Some, None, IfSome, Result, Ok, Err, refl, sym, ap, ◌∙◌, subst, arith, Any, Contains, Test, Node, are_nested, File, Parts, joined, text_of, kind_of, DiscoverFault, NoTests, TooMany, Told, Looked, IsBelow, IsTest, LooksAt, AnswersTo, AreTests, Discovers, IsInOrder, IsRight, HasPlace, IsClear, IsRefused, RefusesWord, GivesWord, GivesWords, HasTest, IsCovered, Walked, Walks, was_walked, Walk}
use Rattle.std.proofs.lemmas.Bool.{both_ways}
use Rattle.std.proofs.lemmas.List.Elements.{All-contains, All-nil, All-weaker}
use Rattle.lit_paths.specs.Paths.{parts_of}
use Rattle.lit_look.proofs.ListLemmas.{its_one, mapped, none_in}
use Rattle.lit_look.proofs.FaultLemmas.{IsEarly, early_fault}
use Rattle.lit_look.proofs.TreeLemmas.{told}
use Rattle.lit_find.proofs.VisitLemmas.{all_reached}

-- ---- the tests

-- each file that the words make a test was found
test_found : (nodes : List Node) (words : List Parts) (seen : List Looked) (walk : Walk)
    → IsCovered nodes words seen walk → (path : Parts) → IsTest nodes words path → HasTest walk.found path
test_found nodes words seen walk is path test =
    let (word, within, either) = its_one (λ word. (path ≡ word) ⊎ IsBelow nodes word path) words test.1 in
    elim either [
      | inl same ↦ subst (HasTest walk.found) (sym same)
          (is.state.asked File word within (ap (kind_of nodes) (sym same) ∙ test.0))
      | inr below ↦ subst (HasTest walk.found) (sym below.is)
          (is.state.closed File below.dir below.part (all_reached is.state is.done within below.walked) below.test)
    ]

are_tests : (nodes : List Node) (words : List Parts) (seen : List Looked) (walk : Walk) (tests : List Test)
    → IsCovered nodes words seen walk → IsInOrder walk.found tests
    → AreTests nodes words tests
are_tests nodes words seen walk tests is made = record {
  ascending = made.ascending;
  right = All-weaker (Contains walk.found) (IsRight nodes words)
      (λ test within. All-contains (IsRight nodes words) walk.found test is.state.tests within) tests made.right;
  whole = λ path parts test.
      let (one, within, same) = mapped (λ one. one.path) walk.found (text_of path)
      (test_found nodes words seen walk is path test) in
      subst (λ text. Any (λ other. other.path ≡ text) tests) same
      (All-contains (λ one. Any (λ other. other.path ≡ one.path) tests) walk.found one made.whole within);
}

pub discovers : (told : Option (List Node)) (base : List ℕ) (texts : List (List ℕ)) (found tests : List Test)
    (result : Result (List Test) DiscoverFault) → Walks told base texts (Ok found)
    → IsInOrder found tests → ((nodes : List Node) (words : List Parts) → IsClear nodes words
    → AreTests nodes words tests → AnswersTo nodes words result) → Discovers told base texts result
discovers None base texts found tests result walks made answers = tt
discovers (Some nodes) base texts found tests result (seen, walk, is, same) made answers =
    let words = map (joined (parts_of base)) texts in
    answers nodes words (record { places = is.places; seen = seen; all = is.all })
    (are_tests nodes words seen walk tests is (subst (λ all. IsInOrder all tests) (sym same) made))

-- ---- refusals

pub words_refused : (nodes : List Node) (words early later : List Parts) (word : Parts) (seen next : List Looked)
    (walk after : Walk) (fault : DiscoverFault) → IsCovered nodes early seen walk → words ≡ early ++ word ∷ later
    → GivesWord {A = Unit {0}} nodes early word next after (Err fault)
    → GivesWords {A = Unit {0}} nodes words next after (Err fault)
words_refused nodes words early later word seen next walk after fault is all gives =
    told (RefusesWord nodes early word) (IsRefused nodes words) fault
    (λ one refuses. record {
      earlier = early;
      word = word;
      later = later;
      all = all;
      clear = record { places = is.places; seen = seen; all = is.all };
      refused = refuses;
    }) gives

-- a word is refused before all tests were found
of_word : (nodes : List Node) (earlier : List Parts) (word : Parts) (fault : DiscoverFault)
    → RefusesWord nodes earlier word fault → IsEarly fault
of_word nodes earlier word fault (inl (dir, file, is)) = subst IsEarly (sym is) tt
of_word nodes earlier word fault (inr (stands, inl (inl (seen, none, is)))) = subst IsEarly (sym is) tt
of_word nodes earlier word fault (inr (stands, inl (inr (early, dir, later, up, (seen, before, refuses))))) =
    early_fault nodes seen dir fault refuses
of_word nodes earlier word fault (inr (stands, inr (suite, (dir, walked, (seen, before, refuses))))) =
    early_fault nodes seen dir fault refuses

answers_refusal : (nodes : List Node) (words : List Parts) (fault : DiscoverFault)
    → Told (IsRefused nodes words) fault → AnswersTo nodes words (Err fault)
answers_refusal nodes words TooMany is = absurd (of_word nodes is.earlier is.word TooMany is.refused)
answers_refusal nodes words NoTests is = absurd (of_word nodes is.earlier is.word NoTests is.refused)
answers_refusal nodes words fault is = is

pub discovers_refusal : (told : Option (List Node)) (base : List ℕ) (texts : List (List ℕ)) (fault : DiscoverFault)
    → Walks told base texts (Err fault) → Discovers told base texts (Err fault)
discovers_refusal None base texts fault walks = tt
discovers_refusal (Some nodes) base texts fault walks = answers_refusal nodes _ fault walks

-- ---- before the first word

pub nothing_yet : (nodes : List Node) (seen : List Looked) (walk : Walk) → seen ≡ []
    → ((text : List ℕ) → was_walked walk text ≡ false) → walk.taken ≡ 0 → walk.pending ≡ [] → walk.found ≡ []
    → IsCovered nodes [] seen walk
nothing_yet nodes seen walk empty none taken pending found = subst (λ seen. IsCovered nodes [] seen walk) (sym empty) (record {
  state = record {
    tests = subst (All (IsRight nodes [])) (sym found) (All-nil (IsRight nodes []));
    closed = λ kind dir part was inside. absurd (not_walked dir was);
    asked = λ kind word within stands. absurd (none_in word within);
  };
  done = pending;
  looked = λ dir was. absurd (not_walked dir was);
  places = All-nil (HasPlace nodes);
  all = record {
    right = λ dir has. absurd (none_in dir has);
    whole = λ dir any. let (word, within, at) = its_one (LooksAt nodes dir) [] any in absurd (none_in word within);
    looks = λ k d less. absurd (omega arith);
    once = λ i j d less within. absurd (omega arith);
    within = omega arith;
  };
  within = omega (arith, taken);
})
  where
    not_walked : (dir : Parts) → Walked walk dir → ⊥
    not_walked dir was = both_ways (was_walked walk (text_of dir)) (none (text_of dir)) was.1

-- ---- where the tree tells what stands in it

pub walks_where_told : (told : Option (List Node)) (root base : List ℕ) (texts : List (List ℕ))
    (result : Result (List Test) DiscoverFault) → base ≡ root → IfSome told (λ nodes. are_nested nodes ≡ true)
    → ((nodes : List Node) → told ≡ Some nodes → are_nested nodes ≡ true → Walks (Some nodes) base texts result)
    → Walks told root texts result
walks_where_told None root base texts result same nested right = tt
walks_where_told (Some nodes) root base texts result same nested right =
    subst (λ one. Walks (Some nodes) one texts result) same (right nodes refl nested)
