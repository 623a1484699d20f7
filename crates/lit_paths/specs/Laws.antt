-- Laws of paths.
-- Own rule: a normal path has no empty part, no `.`, no `..`, and no slash in a part.
use Rattle.std.specs.Prelude.{◌≡◌, ℕ, Bool, true, not, ◌&&◌, ◌||◌, codes, List, [], ◌∷◌, ◌++◌}
use Rattle.std.specs.List.{list_all}
use Rattle.std.specs.Str.{bytes_eq}
use Rattle.tt_outside.specs.TreeMap.{front_of, is_part}
use Rattle.lit_paths.specs.Paths.{AreParts, Parts, joined, path_in, text_of}

-- the part names something, and is one part of a path
abbrev pub is_name : List ℕ → Bool
is_name part = is_part part && not (bytes_eq part (codes ".") || bytes_eq part (codes ".."))

abbrev pub is_normal : Parts → Bool
is_normal path = list_all is_name path

-- a path is normal where its directory is
abbrev pub JoinedIsNormal : Type 0
JoinedIsNormal = (dir : Parts) (text : List ℕ) → is_normal dir ≡ true → is_normal (joined dir text) ≡ true

-- the path of a name is written behind the front of its directory
abbrev pub NamesStandBelow : Type 0
NamesStandBelow =
    (dir : Parts) (name : List ℕ) → AreParts dir
    → text_of (dir ++ name ∷ []) ≡ front_of (text_of dir) ++ name

-- two paths of one text are one
abbrev pub TextsTellPaths : Type 0
TextsTellPaths =
    (one other : Parts) → AreParts one → AreParts other → text_of one ≡ text_of other → one ≡ other

-- a text that begins with `/` is that of the path in it, and a path other than `/` is the one in its text
abbrev pub PathsAreInTexts : Type 0
PathsAreInTexts =
    ((text : List ℕ) → text_of (path_in (47 ∷ text)) ≡ 47 ∷ text)
    × ((part : List ℕ) (path : Parts) → AreParts (part ∷ path) → path_in (text_of (part ∷ path)) ≡ part ∷ path)
