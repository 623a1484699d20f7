-- What stands at the front of a text.
use Rattle.std.specs.Prelude.{ℕ, Bool, true, false, List, [], ◌∷◌, drop, ◌==◌, ◌&&◌}

-- whether the text begins with a byte that passes the test
unfoldable pub begins_with : (ℕ → Bool) → List ℕ → Bool
begins_with test [] = false
begins_with test (first ∷ rest) = test first

-- whether the text begins with this byte
abbrev pub begins : ℕ → List ℕ → Bool
begins byte = begins_with (λ first. first == byte)

-- whether the text begins with these bytes
abbrev pub starts : List ℕ → List ℕ → Bool
starts [] text = true
starts (byte ∷ []) text = begins byte text
starts (byte ∷ second ∷ bytes) text = begins byte text && starts (second ∷ bytes) (drop 1 text)
