use Rattle.std.proofs.Common.{◌≡◌, Bool, true, false, cond, List, [], ◌∷◌, ◌++◌, ap, ◌∙◌, sym, append_assoc}
use Rattle.ere_tree.specs.Tree.{Tree}
use Rattle.tt_outside.specs.declared.test_data.Test.{Test}
use Rattle.lit_select.specs.Selection.{chooses, chosen}

-- a test that is chosen goes behind those that are kept
pub kept_more : (w : Bool) (t : Tree) (x : Test) (xs items kept whole : List Test) → items ≡ x ∷ xs
    → chooses w t x ≡ true → kept ++ chosen w t items ≡ whole → (kept ++ x ∷ []) ++ chosen w t xs ≡ whole
kept_more w t x xs items kept whole same e h =
    append_assoc kept (x ∷ []) (chosen w t xs)
    ∙ ap (λ b. kept ++ cond b (x ∷ chosen w t xs) (chosen w t xs)) (sym e)
    ∙ ap (λ all. kept ++ chosen w t all) (sym same) ∙ h

-- and one that isn't chosen does not
pub kept_less : (w : Bool) (t : Tree) (x : Test) (xs items kept whole : List Test) → items ≡ x ∷ xs
    → chooses w t x ≡ false → kept ++ chosen w t items ≡ whole → kept ++ chosen w t xs ≡ whole
kept_less w t x xs items kept whole same e h =
    ap (λ b. kept ++ cond b (x ∷ chosen w t xs) (chosen w t xs)) (sym e)
    ∙ ap (λ all. kept ++ chosen w t all) (sym same) ∙ h
