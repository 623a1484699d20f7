-- Looks from a directory upward.
-- Shown: what the looks so far give, at the next directory, at one with a suite, at `/` and at a refusal.
-- Idea: what was looked at is a front of the directories that are due. The hard one is `climbs_next`.
use Rattle.std.proofs.Common.{◌≡◌, ℕ, true, List, [], ◌∷◌, ◌++◌, length, Option, Some, None, IfSome, Ok, Err, ◌⊎◌, inl, inr, refl, sym, ap, ◌∙◌, subst, append_assoc, arith}
use Rattle.std.specs.List.{Contains, list_all}
use Rattle.std.specs.Option.{option_map}
use Rattle.std.specs.Prelude.{slice_get}
use Rattle.std.proofs.lemmas.List.Elements.{All-contains, Contains-append_left, Contains-push, Contains-push_cases}
use Rattle.std.proofs.lemmas.List.Folds.{list_all-append}
use Rattle.lit_paths.proofs.PartLemmas.{and_left}
use Rattle.lit_dirs.specs.Looks.{kind_of}
use Rattle.lit_dirs.specs.Suites.{suite_at}
use Rattle.lit_dirs.specs.declared.fault.DiscoverFault.{DiscoverFault}
use Rattle.lit_dirs.specs.declared.fault.DiscoverFault.TheVariants.{NoSuite}
use Rattle.lit_paths.specs.Paths.{Parts, text_of}
use Rattle.lit_look.proofs.DirLemmas.{above_is_dir}
use Rattle.lit_look.proofs.ListLemmas.{has_at, none_in}
use Rattle.lit_look.proofs.SeenLemmas.{further, looks_of, same_seen}
use Rattle.lit_look.proofs.SuiteLemmas.{nearest_above, nearest_here, nearest_nowhere, up_above, up_at_root, up_ends, up_starts}
use Rattle.lit_look.proofs.TreeLemmas.{told}
use Rattle.lit_look.specs.Looks.{AreSeenUp, Extends, GivesLook, GivesNearest, IsAbsent, IsNumberOf, RefusesUp, suite_of}
use Rattle.lit_look.specs.Seen.{AreLooks, AreSeen, Has, IsLook, RefusesNext}
use Rattle.lit_look.specs.Suites.{looked_up, nearest}
use Rattle.lit_look.specs.declared.root.SuiteRoot.{SuiteRoot}
use Rattle.lit_look.specs.declared.seen.Looked.{Looked}
use Rattle.tt_outside.specs.TreeMap.{are_nested, is_part}
use Rattle.tt_outside.specs.declared.tree.ItemKind.TheVariants.{Dir}
use Rattle.tt_outside.specs.declared.tree.Node.{Node}

-- The directories that are due before this one were looked at. It is the first, or it and the first are directories.
pub record Climbs (nodes : List Node) (dir at : Parts) (old now : List Looked) : Type 0 where
  pub early : List Parts
  pub up : looked_up nodes dir ≡ early ++ looked_up nodes at
  pub seen : AreSeen nodes (λ one. Has old one ⊎ Contains early one) now
  pub same : nearest nodes dir ≡ nearest nodes at
  pub here : ((at ≡ dir) × (now ≡ old)) ⊎ ((kind_of nodes at ≡ Some Dir) × (kind_of nodes dir ≡ Some Dir))

pub climbs_start : (nodes : List Node) (dir : Parts) (old : List Looked) → AreLooks nodes old
    → Climbs nodes dir dir old old
climbs_start nodes dir old looks = record {
  early = [];
  up = refl;
  seen = same_seen (Has old) (λ one. Has old one ⊎ Contains [] one) looks (λ one has. inl has)
      (λ one h. elim h [ inl has ↦ has | inr none ↦ absurd (none_in one none) ]);
  same = refl;
  here = inl (refl, refl);
}

-- ---- a directory that was looked at

-- the next directory was looked at, too
pub record Step (nodes : List Node) (dir at : Parts) (old now new : List Looked) (number : ℕ) : Type 0 where
  pub climbs : Climbs nodes dir at old now
  pub seen : AreSeen nodes (λ one. Has now one ⊎ (one ≡ at)) new
  pub looked : Looked
  pub is : slice_get new number ≡ Some looked
  pub here : looked.dir ≡ at

pub step_of : {nodes : List Node} {dir at : Parts} {old now : List Looked} (new : List Looked) (found : Option ℕ)
    (number : ℕ) → found ≡ Some number → Climbs nodes dir at old now
    → (AreLooks nodes now → GivesLook nodes at now new (Ok found)) → IfSome found (IsNumberOf new at)
    → Step nodes dir at old now new number
step_of {nodes = nodes} {at = at} {now = now} new found number is climbs gives numbered =
    let (looked, there, here) = subst (λ o. IfSome o (IsNumberOf new at)) is numbered in
    record {
      climbs = climbs;
      seen = subst (λ o. GivesLook nodes at now new (Ok o)) is (gives (looks_of climbs.seen));
      looked = looked;
      is = there;
      here = here;
    }

module _ {nodes : List Node} {dir at : Parts} {old now new : List Looked} {number : ℕ}
    (step : Step nodes dir at old now new number) where
  its_look : IsLook nodes step.looked
  its_look = All-contains (IsLook nodes) new step.looked step.seen.looks (has_at new number step.looked step.is)

  its_suite : (suite : Option SuiteRoot) → suite_of (slice_get new number) ≡ suite
      → (suite_at nodes at ≡ option_map Ok (option_map (λ root. root.suite) suite)) × IfSome suite (λ root. root.dir ≡ at)
  its_suite suite has =
      let its : step.looked.suite ≡ suite = ap suite_of (sym step.is) ∙ has in (
        ap (suite_at nodes) (sym step.here) ∙ its_look.suite
            ∙ ap (λ one. option_map Ok (option_map (λ root. root.suite) one)) its,
        subst (λ (one : Parts). IfSome suite (λ root. root.dir ≡ one)) step.here
            (subst (λ (one : Option SuiteRoot). IfSome one (λ root. root.dir ≡ step.looked.dir)) its its_look.root),
      )

  are_dirs : (kind_of nodes at ≡ Some Dir) × (kind_of nodes dir ≡ Some Dir)
  are_dirs =
      let its = ap (kind_of nodes) (sym step.here) ∙ its_look.counts.lists.here in
      elim step.climbs.here [ inl first ↦ (its, ap (kind_of nodes) (sym first.0) ∙ its) | inr both ↦ both ]

  seen_more : AreSeen nodes (λ one. Has old one ⊎ Contains (step.climbs.early ++ at ∷ []) one) new
  seen_more =
      let early = step.climbs.early in
      same_seen (λ one. (Has old one ⊎ Contains early one) ⊎ (one ≡ at))
      (λ one. Has old one ⊎ Contains (early ++ at ∷ []) one)
      (further (λ one. Has old one ⊎ Contains early one) (λ one. one ≡ at) step.climbs.seen step.seen)
      (λ one h. elim h [
        | inl (inl has) ↦ inl has
        | inl (inr within) ↦ inr (Contains-append_left early (at ∷ []) one within)
        | inr is ↦ inr (subst (Contains (early ++ at ∷ [])) (sym is) (Contains-push early at))
      ])
      (λ one h. elim h [
        | inl has ↦ inl (inl has)
        | inr within ↦ elim (Contains-push_cases early at one within) [ inl before ↦ inl (inr before) | inr is ↦ inr (sym is) ]
      ])

  -- where it is the last one
  seen_all : looked_up nodes at ≡ at ∷ [] → AreSeenUp nodes (Has old) dir new
  seen_all last =
      subst (λ dirs. AreSeen nodes (λ one. Has old one ⊎ Contains dirs one) new)
      (sym (step.climbs.up ∙ ap (λ dirs. step.climbs.early ++ dirs) last)) seen_more

  pub climbs_to_suite : (word : Parts) (root : SuiteRoot) → suite_of (slice_get new number) ≡ Some root
      → GivesNearest nodes dir word old new (Ok (Some root))
  climbs_to_suite word root some =
      let (there, here) = its_suite (Some root) some in (
        are_dirs.1,
        seen_all (up_ends nodes at (Ok root.suite) there),
        step.climbs.same ∙ nearest_here nodes at root.suite there
            ∙ ap (λ d. Some (record { root = d; suite = root.suite })) (sym here),
      )

  pub climbs_to_root : (word : Parts) (path : List ℕ) → suite_of (slice_get new number) ≡ None → at ≡ []
      → path ≡ text_of word → GivesNearest nodes dir word old new (Err (NoSuite path))
  climbs_to_root word path none empty same =
      let here = ap (suite_at nodes) (sym empty) ∙ (its_suite None none).0 in
      let last = subst (λ (one : Parts). looked_up nodes one ≡ one ∷ []) (sym empty) (up_at_root nodes here) in
      inr (
        are_dirs.1,
        inl (
          (new, seen_all last),
          step.climbs.same ∙ ap (nearest nodes) empty ∙ nearest_nowhere nodes here,
          ap (λ text. NoSuite text) same,
        ),
      )

  pub climbs_next : (above : Parts) (part : List ℕ) → suite_of (slice_get new number) ≡ None → at ≡ above ++ part ∷ []
      → are_nested nodes ≡ true → list_all is_part at ≡ true → Climbs nodes dir above old new
  climbs_next above part none is nested parts =
      let clear = ap (suite_at nodes) (sym is) ∙ (its_suite None none).0 in
      let early = step.climbs.early in
      record {
        early = early ++ at ∷ [];
        up = step.climbs.up
            ∙ ap (λ dirs. early ++ dirs) (ap (looked_up nodes) is ∙ up_above nodes above part clear
            ∙ ap (λ one. one ∷ looked_up nodes above) (sym is))
            ∙ sym (append_assoc early (at ∷ []) (looked_up nodes above));
        seen = seen_more;
        same = step.climbs.same ∙ ap (nearest nodes) is ∙ nearest_above nodes above part clear;
        here = inr (
          above_is_dir nodes above part nested (ap (list_all is_part) (sym is) ∙ parts)
              (λ nothing. let e = sym are_dirs.0 ∙ ap (kind_of nodes) is ∙ nothing in cc),
          are_dirs.1,
        );
      }

-- ---- a refusal

pub climbs_refused : {nodes : List Node} {dir at : Parts} {old now : List Looked} (word : Parts)
    (next new : List Looked) (fault : DiscoverFault) → Climbs nodes dir at old now
    → (AreLooks nodes now → GivesLook nodes at now next (Err fault)) → GivesNearest nodes dir word old new (Err fault)
climbs_refused {nodes = nodes} {dir = dir} {at = at} {old = old} {now = now} word next new fault climbs gives =
    told (λ one. IsAbsent nodes at one ⊎ RefusesNext nodes now at one)
    (λ one. IsAbsent nodes dir one ⊎ ((kind_of nodes dir ≡ Some Dir) × RefusesUp nodes (Has old) dir word one)) fault
    (λ one h. elim h [
      | inl absent ↦ elim climbs.here [
        | inl first ↦ inl (subst (λ (path : Parts). IsAbsent nodes path one) first.0 absent)
        | inr both ↦ absurd (absent.1 both.0)
      ]
      | inr refuses ↦
          let (later, is) = up_starts nodes at in
          let front = climbs.up ∙ ap (λ dirs. climbs.early ++ dirs) is in
          inr (
            elim climbs.here [
              | inl first ↦ ap (kind_of nodes) (sym first.0) ∙ refuses.counts.lists.here
              | inr both ↦ both.1
            ],
            inr (climbs.early, at, later, front, (now, climbs.seen, refuses)),
          )
    ]) (gives (looks_of climbs.seen))

-- ---- whatever the tree tells

pub no_parts : (at : Parts) → length at ≡ 0 → at ≡ []
no_parts [] h = refl
no_parts (part ∷ at) h = absurd (omega arith)

pub lies_above : (dir at above rest : Parts) (part : List ℕ) → dir ≡ at ++ rest → at ≡ above ++ part ∷ []
    → dir ≡ above ++ part ∷ rest
lies_above dir at above rest part is same =
    is ∙ ap (λ path. path ++ rest) same ∙ append_assoc above (part ∷ []) rest

pub parts_above : (at above : Parts) (part : List ℕ) → at ≡ above ++ part ∷ [] → list_all is_part at ≡ true
    → list_all is_part above ≡ true
parts_above at above part is parts =
    and_left (list_all is_part above) (list_all is_part (part ∷ []))
    (sym (list_all-append is_part above (part ∷ [])) ∙ ap (list_all is_part) (sym is) ∙ parts)

pub extends_more : (old mid new : List Looked) → Extends old mid → Extends mid new → Extends old new
extends_more old mid new (more, is) (later, same) =
    (more ++ later, same ∙ ap (λ x. x ++ later) is ∙ append_assoc old more later)
