-- Items of a shard, one behind the other.
use Rattle.std.proofs.Common.{◌≡◌, ℕ, ◌+◌, true, false, cond, List, [], ◌∷◌, ◌++◌, ap, ◌∙◌, sym, append_assoc}
use Rattle.lit_words.specs.declared.number.Shard.{Shard}
use Rattle.lit_tool.specs.Kept.{has_place, shard_from}

-- an item of the shard goes behind those that are kept
pub kept_more : {A : Type 0} (s : Shard) (place : ℕ) (x : A) (xs items kept whole : List A) → items ≡ x ∷ xs
    → has_place s place ≡ true → kept ++ shard_from s place items ≡ whole
    → (kept ++ x ∷ []) ++ shard_from s (place + 1) xs ≡ whole
kept_more s place x xs items kept whole same e h =
    append_assoc kept (x ∷ []) (shard_from s (place + 1) xs)
    ∙ ap (λ b. kept ++ cond b (x ∷ shard_from s (place + 1) xs) (shard_from s (place + 1) xs)) (sym e)
    ∙ ap (λ all. kept ++ shard_from s place all) (sym same) ∙ h

-- and one of another does not
pub kept_less : {A : Type 0} (s : Shard) (place : ℕ) (x : A) (xs items kept whole : List A) → items ≡ x ∷ xs
    → has_place s place ≡ false → kept ++ shard_from s place items ≡ whole → kept ++ shard_from s (place + 1) xs ≡ whole
kept_less s place x xs items kept whole same e h =
    ap (λ b. kept ++ cond b (x ∷ shard_from s (place + 1) xs) (shard_from s (place + 1) xs)) (sym e)
    ∙ ap (λ all. kept ++ shard_from s place all) (sym same) ∙ h
