-- What is kept of a chunk of bytes, told by a flag for each.
-- Own form, for speed alone: the bytes of a chunk are decided before one of them moves.
use Rattle.std.specs.Prelude.{◌≡◌, ℕ, zero, suc, ◌<◌, ◌≤◌, ◌==◌, ◌%◌, ◌/◌, Bool, if◌then◌else◌, List, [], ◌∷◌, ◌++◌, All, get_or, length, take}
use Rattle.std.specs.List.{range_with_len}
use Rattle.std.specs.Simd.Lanes.{mask_l}
use Rattle.check_lines.specs.Canonical.{is_kept}
use Rattle.check_lines.specs.declared.chunk.Row.{Row}
use Rattle.check_lines.specs.declared.chunk.Rows.{Rows}

-- for each byte of a text, whether something stands for it
unfoldable pub kept_flags : Bool → List ℕ → List Bool
kept_flags strict [] = []
kept_flags strict (byte ∷ rest) = is_kept strict byte (get_or rest 0 0) ∷ kept_flags strict rest

-- the elements whose flag is set
unfoldable pub flagged : List Bool → List ℕ → List ℕ
flagged [] bytes = []
flagged (flag ∷ flags) [] = []
flagged (flag ∷ flags) (byte ∷ bytes) = if flag then byte ∷ flagged flags bytes else flagged flags bytes

-- a flag as a lane of a vector
abbrev pub lane : Bool → ℕ
lane flag = if flag then 255 else 0

-- so many bits of a number as flags, the lowest first
unfoldable pub bits : ℕ → ℕ → List Bool
bits zero number = []
bits (suc n) number = (number % 2 == 1) ∷ bits n (number / 2)

-- the row of a number: the places of its bits that are set, of the lowest eight
pub record IsRow (code : ℕ) (row : Row) : Type 0 where
  pub few : row.count ≤ 8
  pub long : length row.places ≡ 16
  pub small : All (λ place. place < 16) row.places
  pub places : take row.count row.places ≡ flagged (bits 8 code) (range_with_len 0 8)

-- behind what was done stand, up to an end, the bytes of a chunk whose flags a row tells, or the bits of a number
abbrev pub RowPuts : Row → List ℕ → ℕ → List ℕ → List ℕ → ℕ → Type 0
RowPuts row chunk done old new end = (flags : List Bool) → length flags ≡ 8 → IsRow (mask_l flags) row
    → take end new ≡ take done old ++ flagged flags chunk

abbrev pub ChunkPuts : ℕ → List ℕ → ℕ → List ℕ → List ℕ → ℕ → Type 0
ChunkPuts kept chunk done old new end = (flags : List Bool) → length flags ≡ 16 → mask_l flags ≡ kept
    → take end new ≡ take done old ++ flagged flags chunk

-- each number below 256 has its row
abbrev pub AreRows : Rows → Type 0
AreRows rows = (code : ℕ) → code < 256 → (row : Row) → IsRow code (get_or rows.rows code row)
