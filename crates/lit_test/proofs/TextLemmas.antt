-- A text ends in a newline where what was added to it does.
use Rattle.std.proofs.Common.{◌≡◌, ◌∙◌, ◌==◌, ◌<◌, ◌-◌, ◌+◌, ℕ, suc, Bool, true, false, List, [], ◌∷◌, ◌++◌, length, length-append, append_assoc, append-nil, get_or, refl, sym, ap, if◌then◌else◌, arith}
use Rattle.std.specs.Prelude.{codes}
use Rattle.lit_test.specs.Transcript.{ended, ends_line}

last-append : (old more : List ℕ) → 0 < length more
    → get_or (old ++ more) (length (old ++ more) - 1) 0 ≡ get_or more (length more - 1) 0
last-append [] more some = refl
last-append (byte ∷ old) more some =
    let sum : length (old ++ more) ≡ length old + length more = length-append old more in
    let behind : length (byte ∷ (old ++ more)) - 1 ≡ suc (length (old ++ more) - 1) = omega (arith, sum, some) in
    ap (λ n. get_or (byte ∷ (old ++ more)) n 0) behind ∙ last-append old more some

-- bytes behind a head end as they do, or as the head does where there are none
pub ends_in_bytes : (head bytes : List ℕ) → 0 < length bytes → ends_line bytes ≡ ends_line (head ++ bytes)
ends_in_bytes head bytes some = ap (λ byte. byte == 10) (sym (last-append head bytes some))

pub ends_in_head : (head bytes : List ℕ) → length bytes ≡ 0 → ends_line head ≡ ends_line (head ++ bytes)
ends_in_head head [] none = ap ends_line (sym (append-nil head))
ends_in_head head (byte ∷ bytes) none = absurd (omega arith)

pub ended_whole : (old head bytes : List ℕ) → ends_line (head ++ bytes) ≡ true
    → (old ++ head) ++ bytes ≡ old ++ ended (head ++ bytes)
unfolding ended
ended_whole old head bytes ends =
    append_assoc old head bytes
    ∙ sym (ap (λ (b : Bool). old ++ (if b then head ++ bytes else (head ++ bytes) ++ codes "\n")) ends)

pub ended_newly : (old head bytes : List ℕ) → ends_line (head ++ bytes) ≡ false
    → ((old ++ head) ++ bytes) ++ codes "\n" ≡ old ++ ended (head ++ bytes)
unfolding ended
ended_newly old head bytes ends =
    ap (λ text. text ++ codes "\n") (append_assoc old head bytes) ∙ append_assoc old (head ++ bytes) (codes "\n")
    ∙ sym (ap (λ (b : Bool). old ++ (if b then head ++ bytes else (head ++ bytes) ++ codes "\n")) ends)
