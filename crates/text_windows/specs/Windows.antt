-- Which windows a text has.
-- Own rule: a window is four bytes, which stand for a number; its slot is a part of that number times a constant.
use Rattle.std.specs.Prelude.{◌≡◌, ℕ, ◌+◌, ◌*◌, ◌/◌, ◌%◌, ◌^◌, ◌≤◌, Bool, true, false, List, length, slice_index_or}
use Rattle.tt_base.specs.Occurrence.{StandsNowhere}

-- the slot of four bytes
abbrev pub slot : ℕ → ℕ → ℕ → ℕ → ℕ
slot a b c d = (a + 256 * b + 65536 * (c + 256 * d)) * 2654435761 % 2 ^ 32 / 16384

-- the slot of the window at a place of a text
unfoldable pub slot_at : List ℕ → ℕ → ℕ
slot_at text at = slot (slice_index_or text at 0) (slice_index_or text (at + 1) 0) (slice_index_or text (at + 2) 0)
    (slice_index_or text (at + 3) 0)

-- the slot of each window of the text is marked
abbrev pub Covers : List Bool → List ℕ → Type 0
Covers marked text = (at : ℕ) → at + 4 ≤ length text → slice_index_or marked (slot_at text at) false ≡ true

-- a needle stands in no text of which these are all slots
abbrev pub Exclude : List Bool → List ℕ → Type 0
Exclude marked needle =
    (text : List ℕ) → Covers marked text → StandsNowhere text needle (length text) 0 (length text + 1)

-- no window of the text begins before the place that is kept for its slot; four slots share one
abbrev pub ArePlaces : List ℕ → List ℕ → Type 0
ArePlaces places text = (at : ℕ) → at + 4 ≤ length text → slice_index_or places (slot_at text at / 4) 0 ≤ at

-- a needle begins before an offset in no text of which these are the places
abbrev pub Delay : List ℕ → List ℕ → ℕ → Type 0
Delay places needle to = (text : List ℕ) → ArePlaces places text → StandsNowhere text needle (length text) 0 to
