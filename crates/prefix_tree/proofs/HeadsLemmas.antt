-- The flags of first bytes: a flag that was set stays set, and at a byte whose flag isn't set no prefix stands.
use Rattle.std.proofs.Common.{◌≡◌, ℕ, ◌<◌, ◌≤◌, Bool, true, false, List, [], ◌∷◌, None, length, get_or, sym, ◌∙◌, arith, ⊎_elim}
use Rattle.std.proofs.Math.ListN.{get_or-eq_default}
use Rattle.std.proofs.lemmas.Bool.{cases_lt}
use Rattle.std.proofs.lemmas.List.{get_or-replicate}
use Rattle.std.specs.Prelude.{replicate}
use Rattle.std.proofs.lemmas.List.Elements.{All-get_or, All-weaker}
use Rattle.prefix_tree.specs.Heads.{AreHeads, HasHead, HeadsStay, may_begin}
use Rattle.prefix_tree.specs.Prefix.{IsMeant}

pub heads_stay : (old new : List Bool) (prefixes : List (List ℕ)) → HeadsStay old new → AreHeads old prefixes → AreHeads new prefixes
heads_stay old new prefixes stay are =
    All-weaker (HasHead old) (HasHead new) (λ prefix has byte rest small begins. stay byte (has byte rest small begins)) prefixes are

differ : true ≡ false → ⊥
differ same = cc

-- at a byte with which no prefix begins none is meant
pub none_meant : (heads : List Bool) (prefixes : List (List ℕ)) (text : List ℕ)
    → ((i : ℕ) → i < length text → get_or text i 0 < 256) → AreHeads heads prefixes
    → may_begin heads text ≡ false → IsMeant prefixes text None
none_meant heads prefixes [] fits are unset = cc
none_meant heads prefixes (byte ∷ rest) fits are unset =
    λ one stands. differ
    (sym (All-get_or (HasHead heads) prefixes one.index [] stands.within are byte rest (fits 0 (omega arith)) stands.begins) ∙ unset)

-- where each flag is set, each that was set is
pub all_stay : (heads : List Bool) (byte : ℕ) → length heads ≡ 256 → get_or heads byte false ≡ true
    → get_or (replicate 256 true) byte false ≡ true
all_stay heads byte long was =
    ⊎_elim (λ (small : byte < 256). get_or-replicate 256 byte true false small)
    (λ (large : 256 ≤ byte). absurd (differ (sym was ∙ get_or-eq_default heads false (omega (arith, long, large)))))
    (cases_lt byte 256)
