use Rattle.std.proofs.Common.{◌≡◌, ◌∙◌, ◌||◌, ℕ, suc, ◌+◌, Bool, List, [], ◌∷◌, cond, true, false, drop, refl, ap, sym, arith}
use Rattle.std.proofs.lemmas.List.{drop-drop}
use Rattle.mini_shell.specs.Class.{begins, front, has}
use Rattle.mini_shell.specs.declared.class.Class.{Class}

-- behind all bytes of a class at a front stands none of it
pub begins_front : (class : Class) (text : List ℕ) → begins class (drop (front class text) text) ≡ false
begins_front class [] = refl
begins_front class (byte ∷ rest) = by_test (has class byte) refl (begins_front class rest)
  where
    by_test : (test : Bool) → has class byte ≡ test → begins class (drop (front class rest) rest) ≡ false
        → begins class (drop (cond test (1 + front class rest) 0) (byte ∷ rest)) ≡ false
    by_test true is behind =
        let one : 1 + front class rest ≡ suc (front class rest) = omega arith in
        ap (λ n. begins class (drop n (byte ∷ rest))) one ∙ behind
    by_test false is behind = is

pub begins_front_from : (class : Class) (text : List ℕ) (from : ℕ)
    → begins class (drop (from + front class (drop from text)) text) ≡ false
begins_front_from class text from =
    ap (begins class) (sym (drop-drop (front class (drop from text)) from text)) ∙ begins_front class (drop from text)

-- of two tests none holds
pub none_of : (a b : Bool) → (a || b) ≡ false → (a ≡ false) × (b ≡ false)
none_of true b is = cc
none_of false b is = (refl, is)
