-- Paths as lists of their parts.
-- Own rule: a path is joined to a directory unless it begins with `/`; empty parts and `.` are dropped, and `..` takes
-- away the part before it, if there is one.
use Rattle.std.specs.Prelude.{◌≡◌, ℕ, ◌==◌, ◌-◌, Bool, true, false, ◌||◌, codes, if◌then◌else◌, List, [], ◌∷◌, ◌++◌, All, length, drop, take, Option, None, Some}
use Rattle.std.specs.List.{flat_map, fold, list_all, slice_split}
use Rattle.std.specs.Str.{bytes_eq}
use Rattle.tt_base.specs.Occurrence.{begins_with}
use Rattle.tt_outside.specs.TreeMap.{is_part}

abbrev pub Parts : Type 0
Parts = List (List ℕ)

-- ---- texts of paths

-- each part behind a slash
abbrev pub slashed : Parts → List ℕ
slashed path = flat_map (λ part. 47 ∷ part) path

-- the bytes of a path
abbrev pub text_of : Parts → List ℕ
text_of [] = codes "/"
text_of (part ∷ path) = slashed (part ∷ path)

-- the bytes of a path that is told below a directory
abbrev pub inner_text_of : Parts → List ℕ
inner_text_of [] = []
inner_text_of (part ∷ path) = part ++ slashed path

-- a text before its last slash, and behind it
abbrev pub CutsName : List ℕ → List ℕ → List ℕ → Type 0
CutsName text before behind =
    (front name : List ℕ) → text ≡ front ++ 47 ∷ name → All (λ byte. (byte == 47) ≡ false) name
    → (before ≡ front) × (behind ≡ name)

-- the parts of a text between its slashes
abbrev pub cut : List ℕ → Parts
cut text = slice_split (λ byte. byte == 47) text

-- the path that is written so: a text that begins with `/` is that of the path which it tells
abbrev pub path_in : List ℕ → Parts
path_in text = cut (drop 1 text)

-- ---- parts of paths

-- each of these can be a part of a path
abbrev pub AreParts : Parts → Type 0
AreParts path = list_all is_part path ≡ true

-- the directory that a path stands in; `/` stands in itself
abbrev pub dir_of : Parts → Parts
dir_of path = take (length path - 1) path

-- a path, and a part behind it
abbrev pub with_part : Parts → List ℕ → Parts
with_part path part =
    if bytes_eq part [] || bytes_eq part (codes ".") then path
    else if bytes_eq part (codes "..") then dir_of path
    else path ++ part ∷ []

-- a text that begins with `/`, as a path
abbrev pub parts_of : List ℕ → Parts
parts_of text = fold with_part [] (slice_split (λ byte. byte == 47) text)

-- a text as a path, joined to a directory unless it begins with `/`
abbrev pub joined : Parts → List ℕ → Parts
joined dir text =
    fold with_part (if begins_with text (codes "/") then [] else dir) (slice_split (λ byte. byte == 47) text)

-- what a path has behind another
abbrev pub behind : Parts → Parts → Option Parts
behind [] path = Some path
behind (one ∷ front) [] = None
behind (one ∷ front) (other ∷ path) = if bytes_eq one other then behind front path else None

-- something stands behind
abbrev pub goes_on : Option Parts → Bool
goes_on (Some (part ∷ rest)) = true
goes_on (Some []) = false
goes_on None = false

-- a path lies below another
abbrev pub is_above : Parts → Parts → Bool
is_above dir path = goes_on (behind dir path)
