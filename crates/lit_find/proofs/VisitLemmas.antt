-- What one directory of a walk gives, and what refuses it.
-- Idea: of each directory that was walked through, those in it were begun, and its tests are found; both stay so. What was
-- looked at in the walk stands before all that is to be walked through. The hard ones are `through_next` and `before_first`.
use Rattle.lit_find.proofs.Names.{◌≡◌, ℕ, ◌+◌, ◌≤◌, length, true, false, ◌||◌, ◌⊎◌, inl, inr, List, [], ◌∷◌, ◌++◌, map, All, Err, refl, sym, ap, ◌∙◌, subst, eq_by_cmp_equiv, Contains, unwrap_or, Item, ItemKind, Dir, File, Other, Node, Parts, text_of, DiscoverFault, GivesLook, IsAbsent, AreSeen, Has, IsLook, RefusesNext, SuiteRoot, Looked, IsBelow, IsIn, IsWalked, IsRight, IsBefore, IsRefusedDown, with_items, GivesWalk, HasPath, HasTest, IsAhead, IsDone, IsState, IsThrough, IsWalk, Walked, same_text, spent, was_walked, with_first, Place, Walk, Extends, count_items, Option, Some, Ok, IfSome, IsNumberOf, arith}
use Rattle.std.proofs.lemmas.Bool.{or_cases, or_left, or_right}
use Rattle.std.proofs.lemmas.Cmp.{nat_list_cmp_total}
use Rattle.std.proofs.lemmas.List.Elements.{All-contains, All-head, All-map, All-tail, All-weaker}
use Rattle.std.proofs.lemmas.Map.Lookups.{exact_bytes}
use Rattle.std.proofs.lemmas.Map.Views.{tells_apart}
use Rattle.lit_paths.proofs.LawLemmas.{texts_tell_paths}
use Rattle.std.specs.Prelude.{slice_get}
use Rattle.lit_look.specs.Looks.{GivesListed, WasListed}
use Rattle.lit_look.proofs.ListLemmas.{any_one, cons_cases, has_at, none_in}
use Rattle.lit_look.proofs.SeenLemmas.{again, dir_at, looks_of, same_seen}
use Rattle.lit_look.proofs.TreeLemmas.{told}
use Rattle.lit_find.proofs.InsideLemmas.{IsOf, ahead_in, is_of, item_in, its_item, right_in}
use Rattle.lit_find.proofs.KeyLemmas.{before_before, before_below, none_before}
use Rattle.lit_find.proofs.PathLemmas.{reached}
use Rattle.lit_find.proofs.RoomLemmas.{counted, has_room, spent_longer, spent_more}
use Rattle.lit_find.proofs.PlaceLemmas.{AllFit, Fits, all_fit, done_items, done_still}

-- ---- what is reached

-- a directory that is walked through from a word was walked through, or one above it is still before the walk
reached_from : {nodes : List Node} {words : List Parts} {walk : Walk} {word dir : Parts} → IsState nodes words walk
    → Contains words word → IsWalked nodes word dir
    → Walked walk dir ⊎ ((front below : Parts) × (dir ≡ front ++ below) × HasPath walk.pending front)
reached_from {nodes = nodes} {walk = walk} {word = word} is within walked =
    subst (λ path. Walked walk path ⊎ ((front below : Parts) × (path ≡ front ++ below) × HasPath walk.pending front))
    (sym walked.behind)
    (reached nodes (Walked walk) (HasPath walk.pending) (is.closed Dir) word walked.rest walked.way
    (is.asked Dir word within walked.from_dir))

pub all_reached : {nodes : List Node} {words : List Parts} {walk : Walk} {word dir : Parts} → IsState nodes words walk
    → walk.pending ≡ [] → Contains words word → IsWalked nodes word dir → Walked walk dir
all_reached is none within walked = elim (reached_from is within walked) [
  | inl was ↦ was
  | inr (front, below, same, has) ↦ absurd (none_in front (subst (λ places. HasPath places front) none has))
]

-- ---- one directory of a walk

-- behind the first directory of a walk, which was walked through: what was done still is, and what it has in it; all that
-- is ahead stands behind it
record IsNext (nodes : List Node) (words : List Parts) (word : Parts) (place : Place) (old new : Walk) : Type 0 where
  pub keeps : (kind : ItemKind) (path : Parts) → IsDone (with_first place old) kind path → IsDone new kind path
  pub inside : (kind : ItemKind) (part : List ℕ) → IsIn nodes kind place.path part
      → IsDone new kind (place.path ++ part ∷ [])
  pub cases : (dir : Parts) → Walked new dir → Walked old dir ⊎ (dir ≡ place.path)
  pub ahead : All (λ other. IsAhead nodes word other × IsBefore place.path other.path) new.pending
  pub tests : All (IsRight nodes words) new.found

-- what was done still is, where the first directory was walked through
first_done : (place : Place) (old new : Walk) → Walked new place.path
    → ((path : Parts) → Walked old path → Walked new path)
    → ((path : Parts) → HasPath old.pending path → HasPath new.pending path)
    → ((path : Parts) → HasTest old.found path → HasTest new.found path) → (kind : ItemKind) (path : Parts)
    → IsDone (with_first place old) kind path → IsDone new kind path
first_done place old new here keeps waits finds Dir path (inl was) = inl (keeps path was)
first_done place old new here keeps waits finds Dir path (inr had) =
    elim (cons_cases place.path path (map (λ one. one.path) old.pending) had) [
      | inl same ↦ inl (subst (Walked new) (sym same) here)
      | inr later ↦ inr (waits path later)
    ]
first_done place old new here keeps waits finds File path had = finds path had
first_done place old new here keeps waits finds Other path done = tt

module _ (nodes : List Node) (words : List Parts) (word : Parts) (first old : List Looked) (place : Place) (before : Walk)
    (is : IsWalk nodes words word first old (with_first place before))
    (least : All (λ other. IsBefore place.path other.path) before.pending) where
  pub its_ahead : IsAhead nodes word place
  its_ahead = All-head (IsAhead nodes word) place before.pending is.ahead

  -- ---- it is walked through

  abbrev Ahead : Place → Type 0
  Ahead other = IsAhead nodes word other × IsBefore place.path other.path

  rest : All Ahead before.pending
  rest = λ k d within. (All-tail (IsAhead nodes word) place before.pending is.ahead k d within, least k d within)

  again_next : Walked before place.path → IsNext nodes words word place before before
  again_next done =
      let keeps = first_done place before before done (λ path was. was) (λ path had. had) (λ path had. had) in
      record {
        keeps = keeps;
        inside = λ kind part inside.
            keeps kind (place.path ++ part ∷ []) (is.state.closed kind place.path part done inside);
        cases = λ dir was. inl was;
        ahead = rest;
        tests = is.state.tests;
      }

  through_next : (items : List Item) (root : SuiteRoot) (new : Walk) → IsOf nodes place.path items root
      → ((text : List ℕ) → was_walked new text ≡ (same_text text (text_of place.path) || was_walked before text))
      → new ≡ with_items root place.path (record { found = before.found; walked = new.walked; taken = new.taken; pending = before.pending }) items
      → IsNext nodes words word place before new
  through_next items root new of marked sorted = record {
    keeps = λ kind path done.
        subst (λ walk. IsDone walk kind path) (sym sorted) (done_still root place.path items begun kind path
        (first_done place before begun (
          of.inside.parts,
          marked (text_of place.path) ∙ or_left _ _ ((eq_by_cmp_equiv nat_list_cmp_total).refl (text_of place.path)),
        )
        (λ dir was. (was.0, marked (text_of dir) ∙ or_right (same_text (text_of dir) (text_of place.path)) _ was.1))
        (λ dir had. had) (λ dir had. had) kind path done));
    inside = λ kind part inside.
        let (item, within, kept, named, its) = its_item nodes place.path items root of kind part inside in
        subst (λ walk. IsDone walk kind (place.path ++ part ∷ [])) (sym sorted)
        (subst (λ k. IsDone all k (place.path ++ part ∷ [])) its
        (subst (λ name. IsDone all item.kind (place.path ++ name ∷ [])) named
        (done_items root place.path items begun item within kept)));
    cases = λ dir was. elim (or_cases (same_text (text_of dir) (text_of place.path)) (was_walked before (text_of dir))
        (sym (marked (text_of dir)) ∙ was.1)) [
          | inl same ↦ inr (texts_tell_paths dir place.path was.0 of.inside.parts
              (tells_apart exact_bytes (text_of dir) (text_of place.path) same))
          | inr had ↦ inl (was.0, had)
        ];
    ahead = fit.0;
    tests = fit.1;
  }
    where
      begun : Walk
      begun = record { found = before.found; walked = new.walked; taken = new.taken; pending = before.pending }

      all : Walk
      all = with_items root place.path begun items

      it_fits : (kind : ItemKind) (part : List ℕ) → IsIn nodes kind place.path part
          → Fits Ahead (IsRight nodes words) root kind (place.path ++ part ∷ [])
      it_fits Dir part inside =
          (ahead_in nodes place.path items root of word part its_ahead.walked inside, before_below place.path part)
      it_fits File part inside =
          let path = place.path ++ part ∷ [] in
          right_in nodes place.path items root of words part inside (
            inside.stands,
            any_one (λ one. (path ≡ one) ⊎ IsBelow nodes one path) words word is.one
                (inr (record { dir = place.path; part = part; is = refl; walked = its_ahead.walked; test = inside })),
          )
      it_fits Other part inside = tt

      fit : AllFit Ahead (IsRight nodes words) new
      fit =
          subst (AllFit Ahead (IsRight nodes words)) (sym sorted)
          (all_fit root place.path Ahead (IsRight nodes words) items begun
          (λ item within kept. it_fits item.kind item.name (item_in nodes place.path items root of item within kept))
          (rest, is.state.tests))

  next_walk : (new : List Looked) (after : Walk) → AreSeen nodes (λ one. Has old one ⊎ (one ≡ place.path)) new
      → IsNext nodes words word place before after → after.taken ≤ spent new after → IsWalk nodes words word first new after
  next_walk new after looks next within = record {
    state = record {
      tests = next.tests;
      closed = λ kind dir part was inside. elim (next.cases dir was) [
        | inl had ↦ next.keeps kind (dir ++ part ∷ []) (is.state.closed kind dir part had inside)
        | inr same ↦ subst (λ one. IsDone after kind (one ++ part ∷ [])) (sym same)
            (next.inside kind part (subst (λ one. IsIn nodes kind one part) same inside))
      ];
      asked = λ kind other within stands. next.keeps kind other (is.state.asked kind other within stands);
    };
    ahead = All-weaker Ahead (IsAhead nodes word) (λ other both. both.0) after.pending next.ahead;
    looks = looks_of looks;
    looked = λ dir was. elim (next.cases dir was) [
      | inl had ↦ looks.whole dir (inl (is.looked dir had))
      | inr same ↦ looks.whole dir (inr same)
    ];
    from = λ dir has. looks.whole dir (inl (is.from dir has));
    new = λ dir has. elim (looks.right dir has) [
      | inl had ↦ elim (is.new dir had) [
        | inl early ↦ inl early
        | inr later ↦ inr (
          later.0,
          all_before dir (λ other both.
              before_before dir place.path other (All-head (λ one. IsBefore dir one.path) place before.pending later.1) both),
        )
      ]
      | inr same ↦ inr (
        subst (IsWalked nodes word) (sym same) its_ahead.walked,
        all_before dir (λ other both. subst (λ one. IsBefore one other) (sym same) both),
      )
    ];
    one = is.one;
    within = within;
  }
    where
      all_before : (dir : Parts) → ((other : Parts) → IsBefore place.path other → IsBefore dir other)
          → All (λ other. IsBefore dir other.path) after.pending
      all_before dir each =
          All-weaker Ahead (λ other. IsBefore dir other.path) (λ other both. each other.path both.1) after.pending next.ahead

  pub visited_again : was_walked before (text_of place.path) ≡ true → IsWalk nodes words word first old before
  visited_again was =
      let done : Walked before place.path = (its_ahead.inside.parts, was) in
      next_walk old before (again nodes old place.path is.looks (is.looked place.path done)) (again_next done) is.within

  -- what a look at it gave, where it wasn't walked through
  module _ (new : List Looked) (at : Parts) (found : Option (ℕ × List Item)) (number : ℕ) (items : List Item) (looked : Looked)
      (same : at ≡ place.path) (some : found ≡ Some (number, items)) (gives : GivesListed nodes at old new (Ok found))
      (numbered : IfSome found (λ one. IsNumberOf new at one.0)) (there : slice_get new number ≡ Some looked)
      (extends : Extends old new) (fresh : was_walked before (text_of place.path) ≡ false) where
    listed : WasListed nodes place.path old new (Some (number, items))
    listed = subst (WasListed nodes place.path old new) some (subst (λ one. WasListed nodes one old new found) same gives)

    within : Contains new looked
    within = has_at new number looked there

    here : looked.dir ≡ place.path
    here =
        dir_at new at number looked (subst (λ o. IfSome o (λ one. IsNumberOf new at one.0)) some numbered) there ∙ same

    abbrev in_dir : Parts → Looked
    in_dir dir = record { dir = dir; count = looked.count; suite = looked.suite }

    look : IsLook nodes (in_dir place.path)
    look = subst (λ dir. IsLook nodes (in_dir dir)) here (All-contains (IsLook nodes) new looked listed.0.looks within)

    unspent : was_walked before (text_of looked.dir) ≡ false
    unspent = ap (λ dir. was_walked before (text_of dir)) here ∙ fresh

    few : length items ≤ looked.count
    few = counted nodes place.path items looked.count listed.1 look.counts

    pub its_room : before.taken + length items ≤ count_items new
    its_room = omega (arith, is.within, few, spent_longer old new before extends, has_room new looked before within unspent)

    pub visited : (after : Walk) → IsThrough looked items place.suite before after → IsWalk nodes words word first new after
    visited after through =
        let its = subst (λ dir. IsThrough (in_dir dir) items place.suite before after) here through in
        next_walk new after listed.0
        (through_next items (unwrap_or looked.suite place.suite) after
        (is_of nodes word place items looked.count looked.suite its_ahead look listed.1) its.marked its.sorted)
        (omega (
          arith,
          through.taken,
          is.within,
          few,
          spent_longer old new before extends,
          spent_more new looked before within unspent through,
        ))

  -- ---- it is refused

  -- what is walked through from the word before the first directory was looked at
  before_first : (dir : Parts) → IsWalked nodes word dir → IsBefore dir place.path → Has old dir
  before_first dir walked early = elim (reached_from is.state is.one walked) [
    | inl was ↦ is.looked dir was
    | inr open_above ↦ absurd (none_open open_above)
  ]
    where
      none_open : (front below : Parts) × (dir ≡ front ++ below) × HasPath (place ∷ before.pending) front → ⊥
      none_open (front, below, same, has) =
          let above : IsBefore (front ++ below) place.path = subst (λ path. IsBefore path place.path) same early in
          elim (cons_cases place.path front (map (λ other. other.path) before.pending) has) [
            | inl here ↦ none_before front below (subst (λ path. IsBefore (front ++ below) path) (sym here) above)
            | inr later ↦ none_before front below (before_before (front ++ below) place.path front above
                (All-contains (λ path. IsBefore place.path path) (map (λ other. other.path) before.pending) front
                (All-map (λ path. IsBefore place.path path) (λ other. other.path) before.pending least) later))
          ]

  -- a fault of a look is one of the walk
  pub visit_refused : (new : List Looked) (after : Walk) (fault : DiscoverFault)
      → GivesLook nodes place.path old new (Err fault)
      → GivesWalk {A = Unit {0}} nodes words word first new after (Err fault)
  visit_refused new after fault gives =
      told (λ one. IsAbsent nodes place.path one ⊎ RefusesNext nodes old place.path one)
      (IsRefusedDown nodes (Has first) word) fault
      (λ one h. elim h [
        | inl absent ↦ absurd (absent.1 its_ahead.is_dir)
        | inr refuses ↦ (place.path, its_ahead.walked, (old, seen_before, refuses))
      ]) gives
    where
      seen_before : AreSeen nodes (λ one. Has first one ⊎ (IsWalked nodes word one × IsBefore one place.path)) old
      seen_before =
          same_seen (Has old) (λ one. Has first one ⊎ (IsWalked nodes word one × IsBefore one place.path)) is.looks
          (λ one has. elim (is.new one has) [
            | inl early ↦ inl early
            | inr later ↦ inr (later.0, All-head (λ other. IsBefore one other.path) place before.pending later.1)
          ])
          (λ one h. elim h [ inl early ↦ is.from one early | inr later ↦ before_first one later.0 later.1 ])
