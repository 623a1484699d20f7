-- Expressions in both cases: lists of them, and runs of bytes, a byte at a time.
-- A level that takes bytes one by one, and the rest of the run behind it, are the parts of the whole run; `run_more` is
-- the step.
use Rattle.std.proofs.Common.{◌≡◌, ℕ, ◌+◌, ◌<◌, ◌≤◌, Bool, true, false, if◌then◌else◌, None, List, [], ◌∷◌, length, map, drop, get_or, refl, sym, ap, ◌∙◌, drop-cons, add-one}
use Rattle.std.proofs.lemmas.List.{drop_all}
use Rattle.ere_tree.specs.Case.{both_cases, is_folded}
use Rattle.ere_tree.specs.Folded.{folded_parts, folded_run, folded, all_folded}
use Rattle.ere_tree.specs.Grammar.{letter, with_byte, branch_of}
use Rattle.ere_tree.specs.Levels.{Level, with_letter, with_part, with_item, tree_of}
use Rattle.ere_tree.specs.Token.{byte}
use Rattle.ere_tree.specs.Tree.{Tree, set, trees_of}
use Rattle.ere_tree.specs.Tree as tree
use Rattle.ere_tree.proofs.LevelLemmas.{finished, finished-letter, finished-part, finished-end}

pub all_folded_map : (ts : List Tree) → all_folded (trees_of ts) ≡ trees_of (map folded ts)
all_folded_map [] = refl
all_folded_map (t ∷ ts) = ap (λ rest. tree.then (folded t) rest) (all_folded_map ts)

-- a byte that a level takes stands before the rest of its branch
byte_finished : (b : ℕ) (level : Level) (here : List Tree) →
    finished (with_item true (byte b) None level) here [] ≡ finished level (with_byte true b here) []
byte_finished b level here = each (is_folded true b)
  where
    each : (v : Bool) →
        finished ((if v then with_part (set (both_cases (b ∷ []))) else with_letter b) level) here []
        ≡ finished level (if v then set (both_cases (b ∷ [])) ∷ here else letter b here) []
    each true = finished-part (set (both_cases (b ∷ []))) level here [] refl
    each false = finished-letter b level here []

-- one byte more of a run
pub run_more : (bytes : List ℕ) (i : ℕ) (old new : Level) → i < length bytes →
    new ≡ with_item true (byte (get_or bytes i 0)) None old →
    finished old (folded_parts (drop i bytes)) [] ≡ branch_of (folded_parts bytes) →
    finished new (folded_parts (drop (i + 1) bytes)) [] ≡ branch_of (folded_parts bytes)
run_more bytes i old new low taken before =
    let here : folded_parts (drop i bytes) ≡ with_byte true (get_or bytes i 0) (folded_parts (drop (i + 1) bytes)) =
    ap folded_parts (drop-cons bytes i 0 low) ∙ ap (λ n. with_byte true (get_or bytes i 0) (folded_parts (drop n bytes)))
    (sym (add-one i)) in
    ap (λ level. finished level (folded_parts (drop (i + 1) bytes)) []) taken
    ∙ byte_finished (get_or bytes i 0) old (folded_parts (drop (i + 1) bytes))
    ∙ ap (λ parts. finished old parts []) (sym here)
    ∙ before

-- and the whole run, which isn't empty
pub run_over : (bytes : List ℕ) (i : ℕ) (level : Level) → length bytes ≤ i → (length bytes ≡ 0 → ⊥) →
    finished level (folded_parts (drop i bytes)) [] ≡ branch_of (folded_parts bytes) →
    tree_of level ≡ folded_run bytes
run_over [] i level past some before = absurd (some refl)
run_over (b ∷ bytes) i level past some before =
    sym (finished-end level) ∙ ap (λ rest. finished level (folded_parts rest) []) (sym (drop_all i (b ∷ bytes) past))
    ∙ before
