-- How often a byte stands in texts that are joined.
use Rattle.std.proofs.Common.{◌≡◌, ℕ, ◌+◌, ◌≤◌, List, ◌++◌, length}
use Rattle.std.proofs.lemmas.List.Sums.{count_by-le-length, sum_by-append}
use Rattle.std.specs.List.{count_by}
use Rattle.byte_counts.specs.Counts.{is_byte}

pub count-append : (byte : ℕ) (xs ys : List ℕ) → count_by (is_byte byte) (xs ++ ys) ≡ count_by (is_byte byte) xs + count_by (is_byte byte) ys
count-append byte xs ys = sum_by-append _ xs ys

pub count_at_most : (byte : ℕ) (xs : List ℕ) → count_by (is_byte byte) xs ≤ length xs
count_at_most byte xs = count_by-le-length (is_byte byte) xs
