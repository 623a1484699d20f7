-- Shown: joined paths are normal, and their parts are parts.
-- Idea: the parts of a text that is cut at its slashes have none, and each part that is added leaves a path normal.
-- The hard one is `chosen_passes`, the cases of one part.
use Rattle.std.proofs.Common.{◌≡◌, ◌==◌, ℕ, ◌-◌, Bool, true, false, cond, not, ◌&&◌, ◌||◌, codes, zero, suc, List, [], ◌∷◌, ◌++◌, length, take, refl, ◌∙◌, ap}
use Rattle.std.specs.List.{fold, list_all, list_any, onto_first, slice_split}
use Rattle.std.specs.Str.{bytes_eq}
use Rattle.std.proofs.lemmas.List.Folds.{list_all-append}
use Rattle.tt_base.specs.Occurrence.{begins_with}
use Rattle.lit_paths.specs.Laws.{JoinedIsNormal, is_name}
use Rattle.tt_outside.specs.TreeMap.{is_part}
use Rattle.lit_paths.specs.Paths.{Parts, dir_of, joined, parts_of, with_part}
use Rattle.lit_paths.proofs.PartLemmas.{and_left, and_right, and_both}

abbrev is_slash : ℕ → Bool
is_slash byte = byte == 47

abbrev has_none : List ℕ → Bool
has_none part = not (list_any is_slash part)

-- ---- the parts of a text

cut_once : (b : Bool) (x : ℕ) (parts : Parts) → is_slash x ≡ b → list_all has_none parts ≡ true
    → list_all has_none (cond b ([] ∷ parts) (onto_first x parts)) ≡ true
cut_once true x parts e h = h
cut_once false x [] e h = ap (λ b. not (b || false) && true) e
cut_once false x (part ∷ parts) e h = ap (λ b. not (b || list_any is_slash part) && list_all has_none parts) e ∙ h

cut_has_none : (text : List ℕ) → list_all has_none (slice_split is_slash text) ≡ true
cut_has_none [] = refl
cut_has_none (x ∷ text) = cut_once (is_slash x) x (slice_split is_slash text) refl (cut_has_none text)

-- ---- a part that is added

-- a test that each part passes which is left when empty parts, `.` and `..` are gone
abbrev Passes : (List ℕ → Bool) → Type 0
Passes p =
    (part : List ℕ) → bytes_eq part [] ≡ false → bytes_eq part (codes ".") ≡ false → bytes_eq part (codes "..") ≡ false
    → has_none part ≡ true → p part ≡ true

names_pass : Passes is_name
names_pass part e d u k =
    ap (λ b. (not b && has_none part) && not (bytes_eq part (codes ".") || bytes_eq part (codes ".."))) e
    ∙ ap (λ b. b && not (bytes_eq part (codes ".") || bytes_eq part (codes ".."))) k
    ∙ ap (λ b. not (b || bytes_eq part (codes ".."))) d ∙ ap not u

parts_pass : Passes is_part
parts_pass part e d u k = ap (λ b. not b && has_none part) e ∙ k

take_passes : (p : List ℕ → Bool) (n : ℕ) (path : Parts) → list_all p path ≡ true → list_all p (take n path) ≡ true
take_passes p zero path h = refl
take_passes p (suc n) [] h = refl
take_passes p (suc n) (part ∷ path) h =
    and_both (p part) (list_all p (take n path)) (and_left (p part) (list_all p path) h)
    (take_passes p n path (and_right (p part) (list_all p path) h))

chosen_passes : (p : List ℕ → Bool) → Passes p → (empty dot dots : Bool) (path : Parts) (part : List ℕ)
    → bytes_eq part [] ≡ empty → bytes_eq part (codes ".") ≡ dot → bytes_eq part (codes "..") ≡ dots
    → list_all p path ≡ true → has_none part ≡ true
    → list_all p (cond (empty || dot) path (cond dots (dir_of path) (path ++ part ∷ []))) ≡ true
chosen_passes p gives true dot dots path part e d u h k = h
chosen_passes p gives false true dots path part e d u h k = h
chosen_passes p gives false false true path part e d u h k = take_passes p (length path - 1) path h
chosen_passes p gives false false false path part e d u h k =
    list_all-append p path (part ∷ [])
    ∙ and_both (list_all p path) (p part && true) h (ap (λ b. b && true) (gives part e d u k))

fold_passes : (p : List ℕ → Bool) → Passes p → (path parts : Parts) → list_all p path ≡ true
    → list_all has_none parts ≡ true → list_all p (fold with_part path parts) ≡ true
fold_passes p gives path [] h k = h
fold_passes p gives path (part ∷ parts) h k =
    fold_passes p gives (with_part path part) parts
    (chosen_passes p gives _ _ _ path part refl refl refl h (and_left (has_none part) (list_all has_none parts) k))
    (and_right (has_none part) (list_all has_none parts) k)

begun_passes : (p : List ℕ → Bool) (b : Bool) (dir : Parts) → list_all p dir ≡ true → list_all p (cond b [] dir) ≡ true
begun_passes p true dir h = refl
begun_passes p false dir h = h

joined_passes : (p : List ℕ → Bool) → Passes p → (dir : Parts) (text : List ℕ) → list_all p dir ≡ true
    → list_all p (joined dir text) ≡ true
joined_passes p gives dir text h =
    fold_passes p gives (cond (begins_with text (codes "/")) [] dir) (slice_split is_slash text)
    (begun_passes p (begins_with text (codes "/")) dir h) (cut_has_none text)

pub joined_is_normal : JoinedIsNormal
joined_is_normal dir text h = joined_passes is_name names_pass dir text h

-- a joined path has whole parts where its directory has
joined_has_parts : (dir : Parts) (text : List ℕ) → list_all is_part dir ≡ true
    → list_all is_part (joined dir text) ≡ true
joined_has_parts dir text h = joined_passes is_part parts_pass dir text h

pub read_has_parts : (text : List ℕ) → list_all is_part (parts_of text) ≡ true
read_has_parts text = fold_passes is_part parts_pass [] (slice_split is_slash text) refl (cut_has_none text)

pub its_parts : (path dir : Parts) (text : List ℕ) → path ≡ joined dir text → list_all is_part dir ≡ true
    → list_all is_part path ≡ true
its_parts path dir text same h = ap (list_all is_part) same ∙ joined_has_parts dir text h
