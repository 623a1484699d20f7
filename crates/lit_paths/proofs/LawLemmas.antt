-- The laws of paths: where the path of a name is written, that a text tells its path, and that joined paths are normal.
-- By induction over the parts of a path; a part has no slash, so a text is cut at its slashes in one way.
-- A text is cut at its slashes, which gives the parts back: that is `cut_gives_parts`, the hard one.
use Rattle.std.proofs.Common.{◌≡◌, ◌==◌, ℕ, Bool, true, List, [], ◌∷◌, ◌++◌, false, cond, refl, sym, ◌∙◌, ap, append-nil, append_assoc, arith}
use Rattle.std.specs.List.{list_all, onto_first, slice_split}
use Rattle.std.proofs.lemmas.Grind.{flat_map-append}
use Rattle.std.proofs.lemmas.List.Splits.{slice_split_none, slice_split_at}
use Rattle.tt_outside.specs.TreeMap.{is_part}
use Rattle.lit_paths.specs.Laws.{NamesStandBelow, PathsAreInTexts, TextsTellPaths}
use Rattle.lit_paths.specs.Paths.{Parts, cut, path_in, slashed, text_of}
use Rattle.lit_paths.proofs.PartLemmas.{first_is_part, rest_are_parts, no_slash, no_part_is_empty}

abbrev is_slash : ℕ → Bool
is_slash byte = byte == 47

-- ---- the path of a name

below : (dir : Parts) (name : List ℕ) → slashed (dir ++ name ∷ []) ≡ slashed dir ++ 47 ∷ name
below dir name =
    flat_map-append (λ part. 47 ∷ part) dir (name ∷ []) ∙ ap (λ xs. slashed dir ++ 47 ∷ xs) (append-nil name)

pub names_stand_below : NamesStandBelow
names_stand_below [] name h = ap (λ xs. 47 ∷ xs) (append-nil name)
names_stand_below ([] ∷ dir) name h = absurd (no_part_is_empty (first_is_part [] dir h))
names_stand_below ((byte ∷ part) ∷ dir) name h =
    below ((byte ∷ part) ∷ dir) name ∙ sym (append_assoc (slashed ((byte ∷ part) ∷ dir)) (47 ∷ []) name)

-- ---- a text tells its path

cut_gives_parts : (part : List ℕ) (path : Parts) → is_part part ≡ true → list_all is_part path ≡ true
    → slice_split is_slash (part ++ slashed path) ≡ part ∷ path
cut_gives_parts part [] h all =
    ap (slice_split is_slash) (append-nil part) ∙ slice_split_none is_slash part (no_slash part h)
cut_gives_parts part (next ∷ path) h all =
    slice_split_at is_slash part 47 (next ++ slashed path) (no_slash part h) refl
    ∙ ap (λ xs. part ∷ xs) (cut_gives_parts next path (first_is_part next path all) (rest_are_parts next path all))

same_tail : (x y : ℕ) (xs ys : List ℕ) → x ∷ xs ≡ y ∷ ys → xs ≡ ys
same_tail x y xs ys h = cc

same_parts : (part other : List ℕ) (path others : Parts) → list_all is_part (part ∷ path) ≡ true
    → list_all is_part (other ∷ others) ≡ true → slashed (part ∷ path) ≡ slashed (other ∷ others)
    → part ∷ path ≡ other ∷ others
same_parts part other path others h k same =
    sym (cut_gives_parts part path (first_is_part part path h) (rest_are_parts part path h))
    ∙ ap (slice_split is_slash) (same_tail 47 47 (part ++ slashed path) (other ++ slashed others) same)
    ∙ cut_gives_parts other others (first_is_part other others k) (rest_are_parts other others k)

-- only `/` is written so
root_is_alone : (part : List ℕ) (path : Parts) → is_part part ≡ true → slashed (part ∷ path) ≡ 47 ∷ [] → ⊥
root_is_alone [] path h same = no_part_is_empty h
root_is_alone (byte ∷ part) path h same = absurd (cc)

pub texts_tell_paths : TextsTellPaths
texts_tell_paths [] [] h k same = refl
texts_tell_paths [] (other ∷ others) h k same =
    absurd (root_is_alone other others (first_is_part other others k) (sym same))
texts_tell_paths (part ∷ path) [] h k same = absurd (root_is_alone part path (first_is_part part path h) same)
texts_tell_paths (part ∷ path) (other ∷ others) h k same = same_parts part other path others h k same

-- ---- a text is that of the path in it

cut_once : (b : Bool) (x : ℕ) (parts : Parts) (text : List ℕ) → is_slash x ≡ b → slashed parts ≡ 47 ∷ text
    → slashed (cond b ([] ∷ parts) (onto_first x parts)) ≡ 47 ∷ x ∷ text
cut_once true x parts text e h = let is : x ≡ 47 = grind arith in λ i. 47 ∷ (h ∙ ap (λ y. y ∷ text) (sym is)) i
cut_once false x [] text e h = absurd (cc)
cut_once false x (part ∷ parts) text e h = λ i. 47 ∷ x ∷ same_tail 47 47 (part ++ slashed parts) text h i

slashed_cut : (text : List ℕ) → slashed (cut text) ≡ 47 ∷ text
slashed_cut [] = refl
slashed_cut (x ∷ text) = cut_once (is_slash x) x (cut text) text refl (slashed_cut text)

text_slashed : (parts : Parts) (text : List ℕ) → slashed parts ≡ 47 ∷ text → text_of parts ≡ 47 ∷ text
text_slashed [] text h = absurd (cc)
text_slashed (part ∷ parts) text h = h

pub text_of_path_in : (text : List ℕ) → text_of (path_in (47 ∷ text)) ≡ 47 ∷ text
text_of_path_in text = text_slashed (cut text) text (slashed_cut text)

pub path_in_text_of : (part : List ℕ) (path : Parts) → list_all is_part (part ∷ path) ≡ true
    → path_in (text_of (part ∷ path)) ≡ part ∷ path
path_in_text_of part path h = cut_gives_parts part path (first_is_part part path h) (rest_are_parts part path h)

pub paths_are_in_texts : PathsAreInTexts
paths_are_in_texts = (text_of_path_in, path_in_text_of)
