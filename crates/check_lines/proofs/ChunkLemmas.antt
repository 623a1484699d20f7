-- A chunk, decided by vectors and put by rows.
-- Shown: a vector of flags is the flags of the text; the row of eight flags picks the bytes whose flag is set.
-- The hard one is `picked`, where a look-up by a row is the choice by its flags.
use Rattle.std.proofs.Common.{◌≡◌, ℕ, zero, suc, ◌+◌, ◌*◌, ◌/◌, ◌%◌, ◌^◌, ◌<◌, ◌≤◌, Bool, true, false, not, ◌&&◌, ◌||◌, cond, eqb, List, [], ◌∷◌, ◌++◌, length, get_or, take, drop, map, replicate, refl, sym, ◌∙◌, ap, arith, w8, bit_and, bit_or}
use Rattle.std.specs.List.{range_with_len}
use Rattle.std.specs.Simd.Lanes.{zip2, sel_l, mask_l, top}
use Rattle.std.proofs.lemmas.Simd.{swz_l, get_or-swz_l_below, zip2_splat, zip2-map, tops_compared, pick_l-range_with_len}
use Rattle.std.proofs.Math.Nat.{pow-succ'}
use Rattle.std.proofs.Math.Seq.{take-append-add}
use Rattle.std.proofs.lemmas.List.{length-map, length-take, take-take}
use Rattle.check_lines.specs.Canonical.{is_blank, shown}
use Rattle.check_lines.specs.Chunk.{bits, flagged, kept_flags, lane}
use Rattle.check_lines.proofs.CanonLemmas.{front_of}

-- ---- vectors of flags

-- what two functions give, where they give the same
pub map_same : {A B : Type 0} (f g : A → B) (xs : List A) → ((x : A) → f x ≡ g x) → map f xs ≡ map g xs
map_same f g [] same = refl
map_same f g (x ∷ xs) same = (λ i. same x i ∷ map_same f g xs same i)

-- both flags, and either
pub lane_and : (one other : Bool) → bit_and (lane one) (lane other) ≡ lane (one && other)
lane_and true true = refl
lane_and true false = refl
lane_and false true = refl
lane_and false false = refl

pub lane_or : (one other : Bool) → bit_or (lane one) (lane other) ≡ lane (one || other)
lane_or true true = refl
lane_or true false = refl
lane_or false true = refl
lane_or false false = refl

-- a flag that isn't set
pub lane_unset : (flag : Bool) → eqb (lane flag) 0 ≡ not flag
lane_unset true = refl
lane_unset false = refl

-- a choice lane by lane
pub sel_maps : {A : Type 0} (p : A → Bool) (f g : A → ℕ) (xs : List A)
    → sel_l (map p xs) (map f xs) (map g xs) ≡ map (λ x. cond (p x) (f x) (g x)) xs
sel_maps p f g [] = refl
sel_maps p f g (x ∷ xs) = ap (λ l. cond (p x) (f x) (g x) ∷ l) (sel_maps p f g xs)

-- what two vectors of flags give together
pub lanes_and : {A : Type 0} (p q : A → Bool) (xs : List A)
    → zip2 bit_and (map (λ x. lane (p x)) xs) (map (λ x. lane (q x)) xs) ≡ map (λ x. lane (p x && q x)) xs
lanes_and p q xs = zip2-map bit_and (λ x. lane (p x)) (λ x. lane (q x)) xs ∙ map_same _ _ xs (λ x. lane_and (p x) (q x))

pub lanes_or : {A : Type 0} (p q : A → Bool) (xs : List A)
    → zip2 bit_or (map (λ x. lane (p x)) xs) (map (λ x. lane (q x)) xs) ≡ map (λ x. lane (p x || q x)) xs
lanes_or p q xs = zip2-map bit_or (λ x. lane (p x)) (λ x. lane (q x)) xs ∙ map_same _ _ xs (λ x. lane_or (p x) (q x))

-- the lanes that a comparison finds equal, as flags
abbrev pub equal_lanes : List ℕ → List ℕ → List ℕ
equal_lanes = zip2 (λ a b. cond (eqb a b) 255 0)

-- a choice by the comparison with a splat
pub chosen : (js : List ℕ) (n byte : ℕ) (xs ys : List ℕ) → length js ≡ n
    → sel_l (map (top 7) (equal_lanes js (replicate n byte))) xs ys ≡ sel_l (map (λ j. eqb j byte) js) xs ys
chosen js n byte xs ys long =
    ap (λ ms. sel_l ms xs ys) (tops_compared w8 eqb js (replicate n byte) ∙ zip2_splat eqb js n byte long)

-- the lanes that count as blanks are shown as spaces
pub shown_lanes : (strict : Bool) (bytes js : List ℕ) → js ≡ map (λ b. lane (not strict && is_blank b)) bytes
    → length bytes ≡ 16
    → sel_l (map (top 7) (equal_lanes js (replicate 16 0))) bytes (replicate 16 32) ≡ map (shown strict) bytes
shown_lanes strict bytes js are long =
    let counts : length js ≡ 16 = ap length are ∙ length-map bytes _ ∙ long in
    chosen js 16 0 bytes (replicate 16 32) counts
    ∙ ap (λ l. sel_l (map (λ j. eqb j 0) l) bytes (replicate 16 32)) are
    ∙ ap (λ n. sel_l (map (λ j. eqb j 0) (map (λ b. lane (not strict && is_blank b)) bytes)) bytes (replicate n 32))
    (sym long)
    ∙ each bytes
  where
    one : (flag : Bool) (b : ℕ) → cond (eqb (lane flag) 0) b 32 ≡ cond flag 32 b
    one true b = refl
    one false b = refl

    each : (bytes : List ℕ) → sel_l (map (λ j. eqb j 0) (map (λ b. lane (not strict && is_blank b)) bytes)) bytes
        (replicate (length bytes) 32) ≡ map (shown strict) bytes
    each [] = refl
    each (b ∷ bytes) = (λ i. one (not strict && is_blank b) b i ∷ each bytes i)

-- the flags of a text, from the lanes of its bytes and of those one further on
pub lanes_are_flags : (strict : Bool) (n : ℕ) (xs : List ℕ) → n < length xs
    → map (λ x. eqb x 0) (zip2 bit_or
    (zip2 bit_and (map (λ b. lane (eqb b 13)) (take n xs)) (map (λ b. lane (eqb b 10)) (take n (drop 1 xs))))
    (zip2 bit_and (map (λ b. lane (not strict && is_blank b)) (take n xs))
    (map (λ b. lane (is_blank b)) (take n (drop 1 xs)))))
    ≡ take n (kept_flags strict xs)
unfolding kept_flags
lanes_are_flags strict zero xs long = refl
lanes_are_flags strict (suc n) [] long = cc
lanes_are_flags strict (suc n) (x ∷ []) long = absurd (omega (arith, long))
lanes_are_flags strict (suc n) (x ∷ y ∷ rest) long =
    (λ i. unset (eqb x 13) (eqb y 10) (not strict && is_blank x) (is_blank y) i
    ∷ lanes_are_flags strict n (y ∷ rest) (omega (arith, long)) i)
  where
    unset : (p q r s : Bool) → eqb (bit_or (bit_and (lane p) (lane q)) (bit_and (lane r) (lane s))) 0
        ≡ not ((p && q) || (r && s))
    unset p q r s =
        (λ i. eqb (bit_or (lane_and p q i) (lane_and r s i)) 0)
        ∙ ap (λ l. eqb l 0) (lane_or (p && q) (r && s)) ∙ lane_unset ((p && q) || (r && s))

-- ---- rows

-- the next bit of a number is the flag of the next place
pub row_next : (left place n : ℕ) → flagged (bits (suc n) left) (range_with_len place (suc n))
    ≡ cond (eqb (left % 2) 1) (place ∷ flagged (bits n (left / 2)) (range_with_len (place + 1) n))
    (flagged (bits n (left / 2)) (range_with_len (place + 1) n))
unfolding flagged bits
row_next left place n = refl

pub row_end : (left : ℕ) (places : List ℕ) → flagged (bits 0 left) places ≡ []
unfolding flagged bits
row_end left places = refl

-- the bits of a mask are its flags
pub bits_of_mask : (flags : List Bool) → bits (length flags) (mask_l flags) ≡ flags
unfolding bits
bits_of_mask [] = refl
bits_of_mask (flag ∷ flags) =
    (λ i. first flag (mask_l flags) i ∷ (ap (bits (length flags)) (others flag (mask_l flags)) ∙ bits_of_mask flags) i)
  where
    first : (flag : Bool) (m : ℕ) → eqb ((cond flag 1 0 + 2 * m) % 2) 1 ≡ flag
    first true m = let odd : (1 + 2 * m) % 2 ≡ 1 = omega arith in ap (λ k. eqb k 1) odd
    first false m = let even : (0 + 2 * m) % 2 ≡ 0 = omega arith in ap (λ k. eqb k 1) even

    others : (flag : Bool) (m : ℕ) → (cond flag 1 0 + 2 * m) / 2 ≡ m
    others true m = omega arith
    others false m = omega arith

-- the flags of a function's values
pub flagged_map : (f : ℕ → ℕ) (flags : List Bool) (xs : List ℕ) → map f (flagged flags xs) ≡ flagged flags (map f xs)
unfolding flagged
flagged_map f [] xs = refl
flagged_map f (flag ∷ flags) [] = refl
flagged_map f (true ∷ flags) (x ∷ xs) = ap (λ l. f x ∷ l) (flagged_map f flags xs)
flagged_map f (false ∷ flags) (x ∷ xs) = flagged_map f flags xs

-- a look-up at places in one block of sixteen
pub looked_up : (xs places : List ℕ) (i : ℕ) → i + length places ≤ 16
    → ((k d : ℕ) → k < length places → get_or places k d < 16)
    → swz_l w8 16 xs i places ≡ map (λ place. get_or xs place 0) places
looked_up xs [] i long small = refl
looked_up xs (place ∷ places) i long small =
    let low : place < 16 = small 0 0 (omega arith) in
    let block : 16 * ((i + 0) / 16) + place ≡ place = omega (arith, long) in
    (λ j. (get_or-swz_l_below w8 16 xs i (place ∷ places) 0 (omega arith) low ∙ ap (λ k. get_or xs k 0) block) j
    ∷ looked_up xs places (suc i) (omega (arith, long)) (λ k d less. small (suc k) d (omega (arith, less))) j)

-- the first places in order give the first bytes
pub first_bytes : (xs : List ℕ) (n : ℕ) → n ≤ length xs
    → map (λ place. get_or xs place 0) (range_with_len 0 n) ≡ take n xs
first_bytes xs n long = pick_l-range_with_len 0 xs 0 n (omega (arith, long))

-- what a row picks of a chunk are the bytes of its first half whose flag is set
pub picked : (xs places : List ℕ) (count : ℕ) (flags : List Bool) → length flags ≡ 8 → 8 ≤ length xs
    → length places ≤ 16 → ((k d : ℕ) → k < length places → get_or places k d < 16)
    → take count places ≡ flagged (bits 8 (mask_l flags)) (range_with_len 0 8)
    → take count (swz_l w8 16 xs 0 places) ≡ flagged flags (take 8 xs)
picked xs places count flags eight long few small row =
    let look : ℕ → ℕ = λ place. get_or xs place 0 in
    let are : bits 8 (mask_l flags) ≡ flags = ap (λ n. bits n (mask_l flags)) (sym eight) ∙ bits_of_mask flags in
    ap (take count) (looked_up xs places 0 (omega (arith, few)) small) ∙ front_of look places count ∙ ap (map look) row
    ∙ flagged_map look (bits 8 (mask_l flags)) (range_with_len 0 8)
    ∙ (λ i. flagged (are i) (first_bytes xs 8 long i))

-- both halves of a chunk
pub flagged_split : (n : ℕ) (flags : List Bool) (xs : List ℕ)
    → flagged flags xs ≡ flagged (take n flags) (take n xs) ++ flagged (drop n flags) (drop n xs)
unfolding flagged
flagged_split zero flags xs = refl
flagged_split (suc n) [] xs = refl
flagged_split (suc n) (flag ∷ flags) [] = none (drop n flags)
  where
    none : (flags : List Bool) → [] ≡ flagged flags []
    none [] = refl
    none (flag ∷ flags) = refl
flagged_split (suc n) (true ∷ flags) (x ∷ xs) = ap (λ l. x ∷ l) (flagged_split n flags xs)
flagged_split (suc n) (false ∷ flags) (x ∷ xs) = flagged_split n flags xs

-- the masks of both halves of sixteen flags
pub mask_halves : (flags : List Bool) → length flags ≡ 16
    → mask_l flags ≡ mask_l (take 8 flags) + 256 * mask_l (drop 8 flags)
mask_halves flags long = split 8 flags (omega (arith, long))
  where
    split : (n : ℕ) (flags : List Bool) → n ≤ length flags
        → mask_l flags ≡ mask_l (take n flags) + 2 ^ n * mask_l (drop n flags)
    split zero flags less = omega arith
    split (suc n) [] less = absurd (omega (arith, less))
    split (suc n) (flag ∷ flags) less = more flag _ _ _ (2 ^ n) (split n flags (omega (arith, less))) (pow-succ' 2 n)
      where
        more : (flag : Bool) (whole low high power : ℕ) → whole ≡ low + power * high → 2 ^ suc n ≡ 2 * power
            → cond flag 1 0 + 2 * whole ≡ (cond flag 1 0 + 2 * low) + 2 ^ suc n * high
        more flag whole low high power is next =
            let split : 2 * power * high ≡ 2 * (power * high) = grind arith in
            omega (arith, is, split) ∙ ap (λ p. (cond flag 1 0 + 2 * low) + p * high) (sym next)

-- a mask of which each bit is set
pub mask_full : (flags : List Bool) → mask_l flags + 1 ≡ 2 ^ length flags → flags ≡ replicate (length flags) true
mask_full [] full = refl
mask_full (true ∷ flags) full = ap (λ l. true ∷ l) (mask_full flags (omega (arith, full, pow-succ' 2 (length flags))))
mask_full (false ∷ flags) full = absurd (omega (arith, full, pow-succ' 2 (length flags)))

-- the front of what was put, and no more of it than counts
pub front_taken : (old new piece : List ℕ) (done n count : ℕ) → done ≤ length old → count ≤ n
    → take (done + n) new ≡ take done old ++ piece → take (done + count) new ≡ take done old ++ take count piece
front_taken old new piece done n count within few front =
    let at : length (take done old) ≡ done = omega (arith, length-take done old) in
    sym (take-take (done + count) (done + n) new (omega (arith, few))) ∙ ap (take (done + count)) front
    ∙ ap (λ k. take (k + count) (take done old ++ piece)) (sym at) ∙ take-append-add (take done old) piece count

-- each byte has a flag
flags_long : (strict : Bool) (xs : List ℕ) → length (kept_flags strict xs) ≡ length xs
unfolding kept_flags
flags_long strict [] = refl
flags_long strict (x ∷ xs) = ap suc (flags_long strict xs)

-- so a chunk has sixteen
pub sixteen : (strict : Bool) (xs : List ℕ) → 16 < length xs → length (take 16 (kept_flags strict xs)) ≡ 16
sixteen strict xs long = omega (arith, length-take 16 (kept_flags strict xs), flags_long strict xs, long)
