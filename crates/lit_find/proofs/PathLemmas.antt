-- Paths and their texts, and what is reached from a directory, part by part.
-- Idea: a way to a directory goes on from a directory that was walked through, or one on it is still to be.
-- The hard one is `reached`.
use Rattle.lit_find.proofs.Names.{◌≡◌, ◌≢◌, ℕ, true, ◌&&◌, List, [], ◌∷◌, ◌++◌, refl, sym, ap, ◌∙◌, append_assoc, ◌-◌, ◌⊎◌, inl, inr, length, take, subst, append-nil, arith, length-append, list_all, is_part, Dir, Node, Parts, dir_of, path_in, slashed, text_of, LiesIn, IsIn, IsWalked, IsWay}
use Rattle.std.proofs.lemmas.List.Folds.{list_all-append}
use Rattle.std.proofs.Math.Seq.{take-append_seam}
use Rattle.lit_paths.proofs.LawLemmas.{path_in_text_of}
use Rattle.lit_paths.proofs.PartLemmas.{and_both, and_left, and_right}
use Rattle.lit_dirs.proofs.MadeLemmas.{text_of_name}

-- the path in the text of one that isn't `/`
pub path_in_word : (word : Parts) → list_all is_part word ≡ true → word ≢ [] → path_in (text_of word) ≡ word
path_in_word [] parts some = absurd (some refl)
path_in_word (part ∷ rest) parts some = path_in_text_of part rest parts

pub name_behind : (dir : Parts) (name : List ℕ) → dir ++ name ∷ [] ≢ []
name_behind [] name none = absurd (cc)
name_behind (part ∷ dir) name none = absurd (cc)

-- the text of a name in a directory
pub name_text : (dir : Parts) (front name : List ℕ) → front ≡ slashed dir ++ 47 ∷ []
    → front ++ name ≡ text_of (dir ++ name ∷ [])
name_text dir front name is =
    ap (λ xs. xs ++ name) is ∙ append_assoc (slashed dir) (47 ∷ []) name ∙ sym (text_of_name dir name)

-- ---- paths

pub parts_left : (xs ys : Parts) → list_all is_part (xs ++ ys) ≡ true → list_all is_part xs ≡ true
parts_left xs ys h = and_left (list_all is_part xs) (list_all is_part ys) (sym (list_all-append is_part xs ys) ∙ h)

pub parts_right : (xs ys : Parts) → list_all is_part (xs ++ ys) ≡ true → list_all is_part ys ≡ true
parts_right xs ys h = and_right (list_all is_part xs) (list_all is_part ys) (sym (list_all-append is_part xs ys) ∙ h)

pub parts_push : (dir : Parts) (part : List ℕ) → list_all is_part dir ≡ true → is_part part ≡ true
    → list_all is_part (dir ++ part ∷ []) ≡ true
parts_push dir part h k =
    list_all-append is_part dir (part ∷ [])
    ∙ and_both (list_all is_part dir) (list_all is_part (part ∷ [])) h (ap (λ b. b && true) k)

pub last_part : (dir : Parts) (part : List ℕ) → list_all is_part (dir ++ part ∷ []) ≡ true → is_part part ≡ true
last_part dir part h = and_left (is_part part) true (parts_right dir (part ∷ []) h)

pub dir_of_push : (dir : Parts) (part : List ℕ) → dir_of (dir ++ part ∷ []) ≡ dir
dir_of_push dir part =
    let e : length (dir ++ part ∷ []) - 1 ≡ length dir = omega (arith, length-append dir (part ∷ [])) in
    ap (λ n. take n (dir ++ part ∷ [])) e ∙ take-append_seam dir (part ∷ [])

-- what a directory below another has in it lies below that one
abbrev pub lies_push : (root dir : Parts) (part : List ℕ) → LiesIn root dir → is_part part ≡ true → LiesIn root (dir ++ part ∷ [])
lies_push root dir part lies named = record {
  rest = lies.rest ++ part ∷ [];
  is = ap (λ path. path ++ part ∷ []) lies.is ∙ append_assoc root lies.rest (part ∷ []);
  parts = parts_push dir part lies.parts named;
}

-- ---- ways

way_push : (nodes : List Node) (dir rest : Parts) (part : List ℕ) → IsWay nodes dir rest
    → IsIn nodes Dir (dir ++ rest) part → IsWay nodes dir (rest ++ part ∷ [])
way_push nodes dir [] part way inside = (subst (λ path. IsIn nodes Dir path part) (append-nil dir) inside, tt)
way_push nodes dir (one ∷ rest) part way inside = (
  way.0,
  way_push nodes (dir ++ one ∷ []) rest part way.1
      (subst (λ path. IsIn nodes Dir path part) (sym (append_assoc dir (one ∷ []) rest)) inside),
)

pub walked_below : (nodes : List Node) (word dir : Parts) (part : List ℕ) → IsWalked nodes word dir
    → IsIn nodes Dir dir part → IsWalked nodes word (dir ++ part ∷ [])
walked_below nodes word dir part walked inside = record {
  rest = walked.rest ++ part ∷ [];
  behind = ap (λ path. path ++ part ∷ []) walked.behind ∙ append_assoc word walked.rest (part ∷ []);
  from_dir = walked.from_dir;
  way = way_push nodes word walked.rest part walked.way (subst (λ path. IsIn nodes Dir path part) walked.behind inside);
}

-- a directory is reached, or one above it is still to be walked through
pub reached : (nodes : List Node) (W P : Parts → Type 0)
    → ((dir : Parts) (part : List ℕ) → W dir → IsIn nodes Dir dir part → W (dir ++ part ∷ []) ⊎ P (dir ++ part ∷ []))
    → (dir rest : Parts) → IsWay nodes dir rest → W dir ⊎ P dir
    → W (dir ++ rest) ⊎ ((front below : Parts) × (dir ++ rest ≡ front ++ below) × P front)
reached nodes W P closed dir [] way (inl w) = inl (subst W (sym (append-nil dir)) w)
reached nodes W P closed dir [] way (inr p) = inr (dir, [], refl, p)
reached nodes W P closed dir (part ∷ rest) way (inr p) = inr (dir, part ∷ rest, refl, p)
reached nodes W P closed dir (part ∷ rest) (inside, way) (inl w) =
    subst (λ path. W path ⊎ ((front below : Parts) × (path ≡ front ++ below) × P front)) (append_assoc dir (part ∷ []) rest)
    (reached nodes W P closed (dir ++ part ∷ []) rest way (closed dir part w inside))
