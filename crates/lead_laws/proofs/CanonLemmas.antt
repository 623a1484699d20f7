-- The canonical form of texts one behind the other.
-- By induction over the first; the hard one is `kept_alike`: such a byte behind another decides it as the end of a text does.
use Rattle.std.proofs.Common.{◌≡◌, ℕ, Bool, true, false, not, ◌==◌, ◌&&◌, ◌||◌, if◌then◌else◌, List, [], ◌∷◌, ◌++◌, get_or, refl, ap, ◌∙◌}
use Rattle.check_lines.specs.Canonical.{canon, is_blank, is_kept, shown}
use Rattle.lead_laws.specs.Canon.{BeginsApart, CanonIsByParts}

kept_alike : (strict : Bool) (byte next : ℕ) → (next == 10) ≡ false → is_blank next ≡ false → is_kept strict byte next ≡ is_kept strict byte 0
kept_alike strict byte next no_newline no_blank =
    ap (λ n. not ((byte == 13 && n) || ((not strict && is_blank byte) && is_blank next))) no_newline
    ∙ ap (λ k. not ((byte == 13 && false) || ((not strict && is_blank byte) && k))) no_blank

front_alike : (strict : Bool) (byte : ℕ) (behind : List ℕ) → BeginsApart behind → is_kept strict byte (get_or behind 0 0) ≡ is_kept strict byte 0
front_alike strict byte [] apart = refl
front_alike strict byte (next ∷ behind) apart = kept_alike strict byte next apart.0 apart.1

pub if_append : (kept : Bool) (byte : ℕ) (front behind : List ℕ) → (if kept then byte ∷ (front ++ behind) else front ++ behind)
    ≡ (if kept then byte ∷ front else front) ++ behind
if_append true byte front behind = refl
if_append false byte front behind = refl

pub canon_is_by_parts : CanonIsByParts
unfolding canon
canon_is_by_parts strict [] behind apart = refl
canon_is_by_parts strict (byte ∷ []) behind apart =
    ap (λ kept. if kept then shown strict byte ∷ canon strict behind else canon strict behind) (front_alike strict byte behind apart)
    ∙ if_append (is_kept strict byte 0) (shown strict byte) [] (canon strict behind)
canon_is_by_parts strict (byte ∷ next ∷ rest) behind apart =
    ap (λ l. if is_kept strict byte next then shown strict byte ∷ l else l) (canon_is_by_parts strict (next ∷ rest) behind apart)
    ∙ if_append (is_kept strict byte next) (shown strict byte) (canon strict (next ∷ rest)) (canon strict behind)
