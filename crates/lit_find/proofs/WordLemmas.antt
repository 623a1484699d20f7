-- One more word: the directories up to its suite, a word that is a file, and the walk of one that is a directory.
-- Idea: what was looked at for earlier words doesn't count again; where nothing is before the walk, each directory that is
-- walked through from the word was, since it was begun. The hard one is `walk_ends`.
use Rattle.lit_find.proofs.Names.{◌≡◌, ◌≢◌, ℕ, true, ◌⊎◌, inl, inr, List, [], ◌∷◌, ◌++◌, length, All, Option, Some, None, Result, Ok, Err, OnOk, refl, sym, ap, ◌∙◌, subst, append-nil, arith, Contains, list_all, Node, Test, ItemKind, Dir, File, are_nested, is_part, Parts, dir_of, text_of, kind_of, DiscoverFault, Missing, AreSeenUp, Extends, GivesNearest, IsAbsent, RefusesUp, AreSeen, Has, LiesIn, Rooted, looked_up, nearest, or_else, rooted, rooted_at, SuiteRoot, Looked, IsBelow, IsLookedAt, IsTest, IsWalked, LooksAt, start_at, start_of, test_in, IsRight, IsBefore, path_order, put, HasPlace, IsDue, IsRefusedDown, RefusesWord, Stands, with_path, GivesWalk, GivesWord, IsAhead, IsCovered, IsDone, IsState, IsWalk, Walked, Walk}
use Rattle.std.proofs.lemmas.List.Quantifiers.{Any-push}
use Rattle.std.proofs.lemmas.List.Elements.{All-cons, All-nil, All-push, All-weaker, Contains-push, Contains-push_cases}
use Rattle.lit_suite.specs.declared.suite_file.Suite.{Suite}
use Rattle.lit_suite.specs.declared.suite_file.SuiteFault.{SuiteFault}
use Rattle.lit_dirs.specs.Suites.{suite_at}
use Rattle.lit_look.proofs.ClimbLemmas.{no_parts}
use Rattle.lit_look.proofs.DirLemmas.{above_is_dir}
use Rattle.lit_look.proofs.SeenLemmas.{further, looks_of, same_seen}
use Rattle.lit_look.proofs.ListLemmas.{any_cases, any_longer}
use Rattle.lit_look.proofs.SuiteLemmas.{nearest_here}
use Rattle.lit_look.proofs.TreeLemmas.{told}
use Rattle.lit_find.proofs.FileLemmas.{right_test}
use Rattle.lit_find.proofs.PathLemmas.{dir_of_push, last_part, name_behind}
use Rattle.lit_find.proofs.PlaceLemmas.{done_keeps, done_now}
use Rattle.lit_find.proofs.RoomLemmas.{spent_longer}
use Rattle.lit_find.proofs.VisitLemmas.{all_reached}

-- ---- one more word

-- the tests of some words are tests of these and one more
tests_longer : (nodes : List Node) (words : List Parts) (word : Parts) (found : List Test)
    → All (IsRight nodes words) found → All (IsRight nodes (words ++ word ∷ [])) found
tests_longer nodes words word found all =
    All-weaker (IsRight nodes words) (IsRight nodes (words ++ word ∷ []))
    (λ test is.
    let path = is.rooted.root ++ is.below in
    record {
      rooted = is.rooted;
      below = is.below;
      parts = is.parts;
      suite = is.suite;
      passes = (is.passes.0, any_longer (λ one. (path ≡ one) ⊎ IsBelow nodes one path) words word is.passes.1);
      made = is.made;
    }) found all

-- what was found and begun is what one more word asks for, too
state_word : (nodes : List Node) (words : List Parts) (word : Parts) (root : SuiteRoot) (kind : ItemKind) (walk : Walk)
    → IsState nodes words walk → kind_of nodes word ≡ Some kind
    → ((dir : Parts) → Walked (with_path root kind word walk) dir → Walked walk dir)
    → All (IsRight nodes (words ++ word ∷ [])) (with_path root kind word walk).found
    → IsState nodes (words ++ word ∷ []) (with_path root kind word walk)
state_word nodes words word root kind walk is stands before tests = record {
  tests = tests;
  closed = λ asked dir part was inside.
      done_keeps root kind word asked (dir ++ part ∷ []) walk (is.closed asked dir part (before dir was) inside);
  asked = λ asked other within its. elim (Contains-push_cases words word other within) [
    | inl early ↦ done_keeps root kind word asked other walk (is.asked asked other early its)
    | inr last ↦
        let both : Some kind ≡ Some asked = sym stands ∙ ap (kind_of nodes) last ∙ its in
        let same : kind ≡ asked = cc in
        subst (IsDone (with_path root kind word walk) asked) last
        (subst (λ one. IsDone (with_path root kind word walk) one word) same (done_now root kind word walk))
  ];
}

-- ---- the directories up to its suite

up_behind : (nodes : List Node) (B : Parts → Type 0) (old : List Looked) (dir word : Parts) (fault : DiscoverFault)
    → AreSeen nodes B old → RefusesUp nodes (Has old) dir word fault → RefusesUp nodes B dir word fault
up_behind nodes B old dir word fault all (inl ((seen, up), none, same)) =
    inl ((seen, further B (Contains (looked_up nodes dir)) all up), none, same)
up_behind nodes B old dir word fault all (inr (early, one, later, is, (seen, before, refuses))) =
    inr (early, one, later, is, (seen, further B (Contains early) all before, refuses))

refuses_word : (nodes : List Node) (words : List Parts) (word start : Parts) (old : List Looked) (fault : DiscoverFault)
    → Stands nodes word → start_of nodes word ≡ start → AreSeen nodes (IsLookedAt nodes words) old
    → RefusesUp nodes (Has old) start word fault → RefusesWord nodes words word fault
refuses_word nodes words word start old fault stands is all up =
    inr (
      stands,
      inl (subst (λ (one : Parts). RefusesUp nodes (IsLookedAt nodes words) one word fault) (sym is)
          (up_behind nodes (IsLookedAt nodes words) old start word fault all up)),
    )

-- nothing is there, or there is no suite for a directory
pub word_refused : (nodes : List Node) (words : List Parts) (word : Parts) (old new next : List Looked)
    (walk after : Walk) (fault : DiscoverFault) → IsCovered nodes words old walk
    → GivesNearest nodes word word old new (Err fault)
    → GivesWord {A = Unit {0}} nodes words word next after (Err fault)
word_refused nodes words word old new next walk after fault is gives =
    told (λ one. IsAbsent nodes word one ⊎ ((kind_of nodes word ≡ Some Dir) × RefusesUp nodes (Has old) word word one))
    (RefusesWord nodes words word) fault
    (λ one h. elim h [
      | inl absent ↦ inl (absent.1, inl absent.2, absent.0)
      | inr up ↦ refuses_word nodes words word word old one (inl up.0) (ap (start_at word) up.0) is.all up.1
    ]) gives

-- ---- a word that is a file

pub dir_is_dir : (nodes : List Node) (word dir : Parts) (part : List ℕ) → word ≡ dir ++ part ∷ []
    → are_nested nodes ≡ true → list_all is_part word ≡ true → kind_of nodes word ≡ Some File
    → kind_of nodes dir ≡ Some Dir
dir_is_dir nodes word dir part split nested parts file =
    above_is_dir nodes dir part nested (ap (list_all is_part) (sym split) ∙ parts)
    (λ none. let e : Some File ≡ None = sym file ∙ ap (kind_of nodes) split ∙ none in cc)

pub apart : (nodes : List Node) (word : Parts) → kind_of nodes word ≡ Some File → kind_of nodes word ≡ Some Dir → ⊥
apart nodes word file dir = let e : Some File ≡ Some Dir = sym file ∙ dir in absurd (cc)

-- the directory of a file is the one whose suite is that of the word
start_in : (nodes : List Node) (word dir : Parts) (part : List ℕ) → word ≡ dir ++ part ∷ [] → kind_of nodes word ≡ Some File
    → start_of nodes word ≡ dir
start_in nodes word dir part split kind = ap (start_at word) kind ∙ ap dir_of split ∙ dir_of_push dir part

pub file_added : (nodes : List Node) (words : List Parts) (word dir : Parts) (part : List ℕ) (old new : List Looked)
    (root : SuiteRoot) (walk : Walk) → word ≡ dir ++ part ∷ [] → list_all is_part word ≡ true
    → kind_of nodes word ≡ Some File → IsCovered nodes words old walk → LiesIn root.dir dir
    → AreSeenUp nodes (Has old) dir new → Extends old new → nearest nodes dir ≡ Some (rooted_at root)
    → IsCovered nodes (words ++ word ∷ []) new (with_path root File word walk)
file_added nodes words word dir part old new root walk split parts kind is lies seen extends near =
    let start = start_in nodes word dir part split kind in
    let named = last_part dir part (ap (list_all is_part) (sym split) ∙ parts) in
    let test : IsTest nodes (words ++ word ∷ []) word =
    (kind, Any-push (λ one. (word ≡ one) ⊎ IsBelow nodes one word) words word (inl refl)) in
    record {
      state = state_word nodes words word root File walk is.state kind (λ one was. was)
          (All-push (IsRight nodes (words ++ word ∷ [])) walk.found
          (test_in (record { path = text_of word; suite = root }))
          (tests_longer nodes words word walk.found is.state.tests)
          (right_test root dir part (text_of word) lies named (ap text_of split) nodes (words ++ word ∷ []) near
          (subst (IsTest nodes (words ++ word ∷ [])) split test)));
      done = is.done;
      looked = λ one was. seen.whole one (inl (is.looked one was));
      places = All-push (HasPlace nodes) words word is.places (record {
        stands = inr (kind, λ none. name_behind dir part (sym split ∙ none));
        suite = λ none. let e = sym near ∙ ap (nearest nodes) (sym start) ∙ none in cc;
      });
      all = same_seen (IsDue nodes words dir) (IsLookedAt nodes (words ++ word ∷ []))
          (further (IsLookedAt nodes words) (Contains (looked_up nodes dir)) is.all seen)
          (λ one b. elim b [
            | inl early ↦ any_longer (LooksAt nodes one) words word early
            | inr up ↦ Any-push (LooksAt nodes one) words word
                (inl (subst (λ x. Contains (looked_up nodes x) one) (sym start) up))
          ])
          (λ one c. elim (any_cases (LooksAt nodes one) words word c) [
            | inl early ↦ inl early
            | inr (inl up) ↦ inr (subst (λ x. Contains (looked_up nodes x) one) start up)
            | inr (inr below) ↦ absurd (apart nodes word kind below.from_dir)
          ]);
      within = omega (arith, is.within, spent_longer old new walk extends);
    }

pub file_refused : (nodes : List Node) (words : List Parts) (word dir : Parts) (part : List ℕ)
    (old new next : List Looked) (walk after : Walk) (fault : DiscoverFault) → word ≡ dir ++ part ∷ []
    → kind_of nodes word ≡ Some File → kind_of nodes dir ≡ Some Dir → IsCovered nodes words old walk
    → GivesNearest nodes dir word old new (Err fault) → GivesWord {A = Unit {0}} nodes words word next after (Err fault)
file_refused nodes words word dir part old new next walk after fault split kind is_dir is gives =
    told (λ one. IsAbsent nodes dir one ⊎ ((kind_of nodes dir ≡ Some Dir) × RefusesUp nodes (Has old) dir word one))
    (RefusesWord nodes words word) fault
    (λ one h. elim h [
      | inl absent ↦ absurd (absent.1 is_dir)
      | inr up ↦ refuses_word nodes words word dir old one
          (inr (kind, λ none. name_behind dir part (sym split ∙ none))) (start_in nodes word dir part split kind) is.all up.1
    ]) gives

-- `/` is no file in a directory
pub root_file : (nodes : List Node) (words : List Parts) (word : Parts) (path : List ℕ) → length word ≡ 0
    → kind_of nodes word ≡ Some File → path ≡ text_of word → RefusesWord nodes words word (Missing path)
root_file nodes words word path none kind is =
    inl (apart nodes word kind, inr (no_parts word none), ap (λ text. Missing text) is)

-- ---- a word that is a directory

near_itself : (nodes : List Node) (word : Parts) (root : Option Rooted) → nearest nodes word ≡ root
    → nearest nodes word ≡ or_else (rooted word (suite_at nodes word)) root
near_itself nodes word root near = by_suite (suite_at nodes word) refl
  where
    by_suite : (s : Option (Result Suite SuiteFault)) → suite_at nodes word ≡ s
        → nearest nodes word ≡ or_else (rooted word s) root
    by_suite None is = near
    by_suite (Some (Ok suite)) is = nearest_here nodes word suite is
    by_suite (Some (Err fault)) is = near

pub walk_begins : (nodes : List Node) (words : List Parts) (word : Parts) (old new : List Looked) (root : SuiteRoot)
    (walk : Walk) → kind_of nodes word ≡ Some Dir → IsCovered nodes words old walk → LiesIn root.dir word
    → AreSeenUp nodes (Has old) word new → Extends old new → nearest nodes word ≡ Some (rooted_at root) → walk.pending ≡ []
    → IsWalk nodes (words ++ word ∷ []) word new new (with_path root Dir word walk)
walk_begins nodes words word old new root walk kind is lies seen extends near none = record {
  state = state_word nodes words word root Dir walk is.state kind (λ dir was. was)
      (tests_longer nodes words word walk.found is.state.tests);
  ahead = subst (λ places. All (IsAhead nodes word) (put path_order (record { path = word; suite = root }) places)) (sym none)
      (All-cons (IsAhead nodes word) (record { path = word; suite = root }) [] (record {
        inside = lies;
        walked = record { rest = []; behind = sym (append-nil word); from_dir = kind; way = tt };
        is_dir = kind;
        suite = near_itself nodes word _ near;
      }) (All-nil (IsAhead nodes word)));
  looks = looks_of seen;
  looked = λ dir was. seen.whole dir (inl (is.looked dir was));
  from = λ dir has. has;
  new = λ dir has. inl has;
  one = Contains-push words word;
  within = omega (arith, is.within, spent_longer old new walk extends);
}

walk_ends : (nodes : List Node) (words : List Parts) (word : Parts) (first new : List Looked) (walk : Walk)
    → kind_of nodes word ≡ Some Dir → IsWalk nodes (words ++ word ∷ []) word first new walk → walk.pending ≡ []
    → AreSeen nodes (IsDue nodes words word) first → nearest nodes word ≢ None → All (HasPlace nodes) words
    → IsCovered nodes (words ++ word ∷ []) new walk
walk_ends nodes words word first new walk kind is none seen suite places =
    let start : start_of nodes word ≡ word = ap (start_at word) kind in
    record {
      state = is.state;
      done = none;
      looked = is.looked;
      places = All-push (HasPlace nodes) words word places
          (record { stands = inl kind; suite = subst (λ one. nearest nodes one ≢ None) (sym start) suite });
      all = same_seen (Has new) (IsLookedAt nodes (words ++ word ∷ [])) is.looks
          (λ dir has. elim (is.new dir has) [
            | inl early ↦ elim (seen.right dir early) [
              | inl looked ↦ any_longer (LooksAt nodes dir) words word looked
              | inr up ↦ Any-push (LooksAt nodes dir) words word
                  (inl (subst (λ one. Contains (looked_up nodes one) dir) (sym start) up))
            ]
            | inr later ↦ Any-push (LooksAt nodes dir) words word (inr later.0)
          ])
          (λ dir any. elim (any_cases (LooksAt nodes dir) words word any) [
            | inl early ↦ is.from dir (seen.whole dir (inl early))
            | inr (inl up) ↦ is.from dir (seen.whole dir
                (inr (subst (λ one. Contains (looked_up nodes one) dir) start up)))
            | inr (inr below) ↦ is.looked dir (all_reached is.state none is.one below)
          ]);
      within = is.within;
    }

-- what a walk gives is what its word gives
pub word_walked : (nodes : List Node) (words : List Parts) (word : Parts) (first new : List Looked) (walk : Walk)
    (result : Result (Unit {0}) DiscoverFault) → kind_of nodes word ≡ Some Dir → nearest nodes word ≢ None
    → AreSeen nodes (IsDue nodes words word) first → All (HasPlace nodes) words
    → OnOk result (walk.pending ≡ []) → GivesWalk nodes (words ++ word ∷ []) word first new walk result
    → GivesWord nodes words word new walk result
word_walked nodes words word first new walk (Ok done) kind suite seen places none gives =
    walk_ends nodes words word first new walk kind gives none seen suite places
word_walked nodes words word first new walk (Err fault) kind suite seen places none gives =
    told (IsRefusedDown nodes (Has first) word) (RefusesWord nodes words word) fault
    (λ one h.
    let (dir, walked, (looks, before, refuses)) = h in
    let due = further (IsDue nodes words word) (λ other. IsWalked nodes word other × IsBefore other dir) seen before in
    inr (inl kind, inr (suite, (dir, walked, (looks, due, refuses))))) gives
