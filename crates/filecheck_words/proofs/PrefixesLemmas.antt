-- Prefixes behind each other.
use Rattle.std.proofs.Common.{◌≡◌, ◌∙◌, ℕ, zero, suc, ◌+◌, ◌<◌, ◌≤◌, arith, Bool, ◌||◌, List, [], ◌∷◌, ◌++◌, length, get_or, take, drop, drop-cons, add-one, Some, None, refl, sym, ap, append_assoc}
use Rattle.std.proofs.lemmas.List.Folds.{list_any-append}
use Rattle.std.proofs.lemmas.List.{append-nil, drop_all}
use Rattle.std.specs.List.{list_any}
use Rattle.std.specs.Option.{option_or}
use Rattle.filecheck_words.specs.Prefixes.{first_fault, prefix_fault}
use Rattle.filecheck_words.specs.declared.fault.WordsFault.{WordsFault}

pub list_any_append : {X : Type 0} (p : X → Bool) (xs ys : List X) → list_any p (xs ++ ys) ≡ (list_any p xs || list_any p ys)
list_any_append p xs ys = list_any-append p xs ys

-- one more of a list
take_next : (xs : List (List ℕ)) (at : ℕ) (d : List ℕ) → at < length xs → take at xs ++ get_or xs at d ∷ [] ≡ take (suc at) xs
take_next [] at d low = absurd (omega arith)
take_next (x ∷ xs) zero d low = refl
take_next (x ∷ xs) (suc at) d low = ap (λ l. x ∷ l) (take_next xs at d (omega arith))

-- the fault of the first one, or else of a later one
fault_next : (before later : List (List ℕ)) (prefix : List ℕ)
    → first_fault before (prefix ∷ later) ≡ option_or (prefix_fault before prefix) (first_fault (before ++ prefix ∷ []) later)
unfolding first_fault
fault_next before later prefix = refl

-- the same from an index on
fault_from : (names order : List (List ℕ)) (at : ℕ) (d : List ℕ) → at < length order
    → first_fault (names ++ take at order) (drop at order)
    ≡ option_or (prefix_fault (names ++ take at order) (get_or order at d)) (first_fault (names ++ take (suc at) order) (drop (suc at) order))
fault_from names order at d low =
    let prefix = get_or order at d in
    let before = names ++ take at order in
    let next : before ++ prefix ∷ [] ≡ names ++ take (suc at) order =
    append_assoc names (take at order) (prefix ∷ []) ∙ ap (λ l. names ++ l) (take_next order at d low) in
    ap (first_fault before) (drop-cons order at d low) ∙ fault_next before (drop (suc at) order) prefix
    ∙ ap (λ l. option_or (prefix_fault before prefix) (first_fault l (drop (suc at) order))) next

pub fault_found : (names order : List (List ℕ)) (at : ℕ) (d : List ℕ) (fault : WordsFault) → at < length order
    → prefix_fault (names ++ take at order) (get_or order at d) ≡ Some fault
    → first_fault (names ++ take at order) (drop at order) ≡ Some fault
fault_found names order at d fault low is =
    fault_from names order at d low
    ∙ ap (λ one. option_or one (first_fault (names ++ take (suc at) order) (drop (suc at) order))) is

pub fault_passed : (names order : List (List ℕ)) (at : ℕ) (d : List ℕ) → at < length order
    → prefix_fault (names ++ take at order) (get_or order at d) ≡ None
    → first_fault (names ++ take (at + 1) order) (drop (at + 1) order) ≡ first_fault (names ++ take at order) (drop at order)
fault_passed names order at d low is =
    ap (λ n. first_fault (names ++ take n order) (drop n order)) (add-one at)
    ∙ sym (fault_from names order at d low
    ∙ ap (λ one. option_or one (first_fault (names ++ take (suc at) order) (drop (suc at) order))) is)

-- all of a list
pub fault_all : (names order : List (List ℕ)) (at : ℕ) → length order ≤ at
    → first_fault (names ++ take at order) (drop at order) ≡ None
unfolding first_fault
fault_all names order at all = ap (first_fault (names ++ take at order)) (drop_all at order all)

pub fault_none : (names order : List (List ℕ)) → first_fault (names ++ take 0 order) (drop 0 order) ≡ first_fault names order
fault_none names order = ap (λ l. first_fault l order) (append-nil names)
