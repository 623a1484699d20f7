-- What is added to a text in pieces.
use Rattle.std.proofs.Common.{◌≡◌, List, ℕ, ◌++◌, Result, Ok, Err, OnOk, append_assoc, sym, ap, ◌∙◌}

-- what is added behind what was added
pub added_both : (start first new a b : List ℕ) → first ≡ start ++ a → new ≡ first ++ b → new ≡ start ++ (a ++ b)
added_both start first new a b one two = two ∙ ap (λ t. t ++ b) one ∙ append_assoc start a b

pub added_three : (start first second new a b c : List ℕ) → first ≡ start ++ a → second ≡ first ++ b → new ≡ second ++ c
    → new ≡ start ++ (a ++ b ++ c)
added_three start first second new a b c one two three = added_both start second new (a ++ b) c (added_both start first second a b one two) three

-- and where two texts are added at once
pub added_pair : (start first new a b c : List ℕ) → first ≡ start ++ a → new ≡ first ++ (b ++ c) → new ≡ start ++ (a ++ b ++ c)
added_pair start first new a b c one two =
    added_both start first new a (b ++ c) one two ∙ ap (λ t. start ++ t) (sym (append_assoc a b c))

-- and where it may lack memory
pub added : {T E : Type 0} (result : Result T E) (start first new a b : List ℕ) → first ≡ start ++ a
    → OnOk result (new ≡ first ++ b) → OnOk result (new ≡ start ++ (a ++ b))
added (Ok x) start first new a b one two = added_both start first new a b one two
added (Err e) start first new a b one two = two
