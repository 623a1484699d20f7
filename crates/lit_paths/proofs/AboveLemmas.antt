-- How a path is compared with a directory, part by part.
use Rattle.std.proofs.Common.{◌≡◌, ℕ, ◌+◌, ◌<◌, true, false, cond, None, List, ◌∷◌, length, drop, get_or, sym, ◌∙◌, ap, add-one, suc}
use Rattle.std.specs.Str.{bytes_eq}
use Rattle.std.proofs.Math.Seq.{drop-cons}
use Rattle.lit_paths.specs.Paths.{Parts, behind, goes_on, is_above}

front_of_drop : (dir : Parts) (i : ℕ) (part : List ℕ) → i < length dir → part ≡ get_or dir i part
    → drop i dir ≡ part ∷ drop (i + 1) dir
front_of_drop dir i part h is = rw (add-one, drop-cons dir i part) (ap (λ x. x ∷ drop (suc i) dir) (sym is))

-- the next part of a directory, and the next of a path
both_next : (dir path rest : Parts) (i : ℕ) (part first : List ℕ) → i < length dir → part ≡ get_or dir i part
    → path ≡ first ∷ rest
    → is_above (drop i dir) path ≡ goes_on (cond (bytes_eq part first) (behind (drop (i + 1) dir) rest) None)
both_next dir path rest i part first h is same =
    ap (λ xs. is_above xs path) (front_of_drop dir i part h is) ∙ ap (is_above (part ∷ drop (i + 1) dir)) same

-- where they are the same, the rest decides
pub above_next : (dir path rest : Parts) (i : ℕ) (part first : List ℕ) → i < length dir → part ≡ get_or dir i part
    → path ≡ first ∷ rest → bytes_eq part first ≡ true → is_above (drop (i + 1) dir) rest ≡ is_above (drop i dir) path
above_next dir path rest i part first h is same e =
    sym (both_next dir path rest i part first h is same
    ∙ ap (λ b. goes_on (cond b (behind (drop (i + 1) dir) rest) None)) e)

-- where they differ, the path is elsewhere
pub above_ends : (dir path rest : Parts) (i : ℕ) (part first : List ℕ) → i < length dir → part ≡ get_or dir i part
    → path ≡ first ∷ rest → bytes_eq part first ≡ false → is_above (drop i dir) path ≡ false
above_ends dir path rest i part first h is same e =
    both_next dir path rest i part first h is same
    ∙ ap (λ b. goes_on (cond b (behind (drop (i + 1) dir) rest) None)) e
