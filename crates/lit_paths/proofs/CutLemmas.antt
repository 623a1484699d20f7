-- Where a text is cut: behind a path, and at its last slash.
-- Behind a path part by part: what was passed is those parts, each behind a slash. The last slash has none behind it.
-- The hard one is `behind_part`, one part more.
use Rattle.std.proofs.Common.{◌≡◌, ◌==◌, ℕ, ◌+◌, ◌-◌, ◌<◌, false, true≢false, inl, inr, List, [], ◌∷◌, ◌++◌, min, length, length-append, take, drop, get_or, All, Some, None, sym, ap, ◌∙◌, arith, add-one, suc, zero, append_assoc}
use Rattle.std.proofs.Math.Seq.{drop-cons, get_or-append_right, get_or-append_seam, take-append_seam}
use Rattle.std.proofs.lemmas.Bool.{cases_order}
use Rattle.std.proofs.lemmas.List.Prefix.{front_rest}
use Rattle.std.proofs.lemmas.List.{take_all}
use Rattle.memchr.specs.Find.{IsLastByte, is_byte}
use Rattle.lit_paths.specs.Paths.{Parts, slashed}

-- ---- behind a path

-- one more part is passed
pub behind_part : (dir : Parts) (i : ℕ) (part text rest : List ℕ) (n : ℕ) → i < length dir → part ≡ get_or dir i part
    → text ≡ slashed (drop i dir) ++ rest → n ≡ min (length text) (length part + 1)
    → take (length text - n) (drop n text) ≡ slashed (drop (i + 1) dir) ++ rest
behind_part dir i part text rest n within is all least =
    let next : drop i dir ≡ part ∷ drop (i + 1) dir =
    rw (add-one, drop-cons dir i part) (ap (λ x. x ∷ drop (suc i) dir) (sym is)) in
    let later = slashed (drop (i + 1) dir) ++ rest in
    let cut : text ≡ (47 ∷ part) ++ later =
    all ∙ ap (λ path. slashed path ++ rest) next ∙ append_assoc (47 ∷ part) (slashed (drop (i + 1) dir)) rest in
    let whole : n ≡ length (47 ∷ part) = omega (arith, ap length cut, length-append (47 ∷ part) later) in
    let behind : drop n text ≡ later = ap (λ k. drop k text) whole ∙ front_rest text (47 ∷ part) later cut in
    take_all (length text - n) (drop n text) (omega (
      arith,
      ap length behind,
      ap length cut,
      length-append (47 ∷
          part) later,
    )) ∙ behind

-- ---- at the last slash

-- it stands behind the front
last_is : (text front name : List ℕ) (k : ℕ) → text ≡ front ++ 47 ∷ name → All (λ byte. (byte == 47) ≡ false) name
    → IsLastByte (is_byte 47) text (Some k) → k ≡ length front
last_is text front name k is none last = elim (cases_order k (length front)) [
  | inl same ↦ same
  | inr (inl less) ↦ absurd (last.0.after (length front) (omega arith) (omega (
    arith,
    ap length is,
    length-append front
        (47 ∷ name),
  ))
      (ap (λ one. is_byte 47 (get_or one (length front) 0)) is
      ∙ ap (is_byte 47) (get_or-append_seam front 47 name 0)))
  | inr (inr more) ↦ absurd (true≢false (sym last.1 ∙ ap (λ one. is_byte 47 (get_or one k 0)) is
      ∙ ap (is_byte 47) (get_or-append_right front (47 ∷ name) k 0 (omega arith)) ∙ in_name (k - length front)
      (omega arith) (omega (arith, last.0.high, ap length is, length-append front (47 ∷ name)))))
]
  where
    in_name : (j : ℕ) → 0 < j → j < length (47 ∷ name) → is_byte 47 (get_or (47 ∷ name) j 0) ≡ false
    in_name zero low high = absurd (omega arith)
    in_name (suc j) low high = none j 0 (omega arith)

pub cut_there : (text front name : List ℕ) (k : ℕ) → text ≡ front ++ 47 ∷ name
    → All (λ byte. (byte == 47) ≡ false) name → IsLastByte (is_byte 47) text (Some k)
    → (take k text ≡ front) × (take (length text - (k + 1)) (drop (k + 1) text) ≡ name)
cut_there text front name k is none last =
    let same = last_is text front name k is none last in
    let split : text ≡ (front ++ 47 ∷ []) ++ name = is ∙ sym (append_assoc front (47 ∷ []) name) in
    let here : k + 1 ≡ length (front ++ 47 ∷ []) = omega (arith, length-append front (47 ∷ [])) in
    let behind : drop (k + 1) text ≡ name = ap (λ n. drop n text) here ∙ front_rest text (front ++ 47 ∷ []) name split in (
      (λ i. take (same i) (is i)) ∙ take-append_seam front (47 ∷ name),
      take_all (length text - (k + 1)) (drop (k + 1) text)
          (omega (arith, ap length behind, ap length is, length-append front (47 ∷ name))) ∙ behind,
    )

pub no_slash_last : (text front name : List ℕ) → text ≡ front ++ 47 ∷ name → IsLastByte (is_byte 47) text None → ⊥
no_slash_last text front name is none =
    none (length front) (omega arith) (omega (arith, ap length is, length-append front (47 ∷ name)))
    (ap (λ one. is_byte 47 (get_or one (length front) 0)) is ∙ ap (is_byte 47) (get_or-append_seam front 47 name 0))
