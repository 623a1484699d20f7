-- The nearest suite, and the directories up to it, a directory at a time.
-- Shown: both at a directory with a suite, at one without, and at `/`. Idea: a directory comes first upward from itself.
-- The hard one is `upward_first`.
use Rattle.std.proofs.Common.{◌≡◌, ℕ, List, [], ◌∷◌, ◌++◌, map, reverse, Result, Some, None, Ok, refl, ap, ◌∙◌}
use Rattle.std.proofs.lemmas.List.{map-append, reverse-append}
use Rattle.lit_paths.specs.Paths.{Parts}
use Rattle.lit_dirs.specs.Suites.{suite_at}
use Rattle.lit_suite.specs.declared.suite_file.Suite.{Suite}
use Rattle.lit_suite.specs.declared.suite_file.SuiteFault.{SuiteFault}
use Rattle.lit_look.specs.Suites.{first_suite, fronts, if_none, looked_up, nearest, or_else, rooted, up_to_suite, upward}
use Rattle.tt_outside.specs.declared.tree.Node.{Node}

fronts_push : (dir : Parts) (part : List ℕ) → fronts (dir ++ part ∷ []) ≡ fronts dir ++ (dir ++ part ∷ []) ∷ []
fronts_push [] part = refl
fronts_push (first ∷ dir) part =
    ap (λ xs. [] ∷ map (λ front. first ∷ front) xs) (fronts_push dir part)
    ∙ ap (λ xs. [] ∷ xs) (map-append (λ front. first ∷ front) (fronts dir) ((dir ++ part ∷ []) ∷ []))

pub upward_push : (dir : Parts) (part : List ℕ) → upward (dir ++ part ∷ []) ≡ (dir ++ part ∷ []) ∷ upward dir
upward_push dir part =
    ap reverse (fronts_push dir part) ∙ reverse-append (fronts dir) ((dir ++ part ∷ []) ∷ [])

-- a directory comes first upward from itself
upward_first : (dir : Parts) → (rest : List Parts) × (upward dir ≡ dir ∷ rest)
upward_first dir = let (front, is) = last dir in (reverse front, ap reverse is ∙ reverse-append front (dir ∷ []))
  where
    last : (dir : Parts) → (front : List Parts) × (fronts dir ≡ front ++ dir ∷ [])
    last [] = ([], refl)
    last (part ∷ dir) =
        let (front, is) = last dir in (
          [] ∷ map (λ one. part ∷ one) front,
          ap (λ xs. [] ∷ map (λ one. part ∷ one) xs) is
              ∙ ap (λ xs. [] ∷ xs) (map-append (λ one. part ∷ one) front (dir ∷ [])),
        )

-- ---- the nearest suite

pub nearest_here : (nodes : List Node) (dir : Parts) (suite : Suite) → suite_at nodes dir ≡ Some (Ok suite)
    → nearest nodes dir ≡ Some (record { root = dir; suite = suite })
nearest_here nodes dir suite is =
    let (rest, e) = upward_first dir in
    ap (first_suite nodes) e ∙ ap (λ s. or_else (rooted dir s) (first_suite nodes rest)) is

pub nearest_above : (nodes : List Node) (dir : Parts) (part : List ℕ) → suite_at nodes (dir ++ part ∷ []) ≡ None
    → nearest nodes (dir ++ part ∷ []) ≡ nearest nodes dir
nearest_above nodes dir part none =
    ap (first_suite nodes) (upward_push dir part)
    ∙ ap (λ s. or_else (rooted (dir ++ part ∷ []) s) (nearest nodes dir)) none

pub nearest_nowhere : (nodes : List Node) → suite_at nodes [] ≡ None → nearest nodes [] ≡ None
nearest_nowhere nodes none = ap (λ s. or_else (rooted [] s) None) none

-- ---- the directories up to it

pub up_starts : (nodes : List Node) (dir : Parts) → (later : List Parts) × (looked_up nodes dir ≡ dir ∷ later)
up_starts nodes dir =
    let (rest, is) = upward_first dir in
    (if_none (suite_at nodes dir) (up_to_suite nodes rest), ap (up_to_suite nodes) is)

pub up_ends : (nodes : List Node) (dir : Parts) (read : Result Suite SuiteFault) → suite_at nodes dir ≡ Some read
    → looked_up nodes dir ≡ dir ∷ []
up_ends nodes dir read is =
    let (rest, e) = upward_first dir in
    ap (up_to_suite nodes) e ∙ ap (λ s. dir ∷ if_none s (up_to_suite nodes rest)) is

pub up_above : (nodes : List Node) (dir : Parts) (part : List ℕ) → suite_at nodes (dir ++ part ∷ []) ≡ None
    → looked_up nodes (dir ++ part ∷ []) ≡ (dir ++ part ∷ []) ∷ looked_up nodes dir
up_above nodes dir part none =
    ap (up_to_suite nodes) (upward_push dir part)
    ∙ ap (λ s. (dir ++ part ∷ []) ∷ if_none s (looked_up nodes dir)) none

pub up_at_root : (nodes : List Node) → suite_at nodes [] ≡ None → looked_up nodes [] ≡ [] ∷ []
up_at_root nodes none = ap (λ s. [] ∷ if_none s []) none
