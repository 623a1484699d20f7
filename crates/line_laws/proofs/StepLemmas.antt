-- What a hit from a line's end on is: the next line, and nothing else.
-- A hit one newline behind begins behind the first byte, since each later line has more newlines
-- before it (`one_newline`); and the next line is found there, since nothing that isn't empty begins at a line's end.
use Rattle.std.proofs.Common.{◌≡◌, ◌≢◌, ℕ, zero, suc, ◌+◌, ◌-◌, ◌<◌, ◌≤◌, ◌==◌, true, IsTrue, Some, None, List, [], ◌∷◌, ◌++◌, length, length-drop, take, drop, get_or, count_by, refl, sym, ap, ◌∙◌, ◌||◌, if◌then◌else◌, subst, inl, inr, arith}
use Rattle.std.proofs.lemmas.List.{drop-drop, get_or-drop, length-append}
use Rattle.std.proofs.Math.Seq.{drop-append_seam}
use Rattle.std.proofs.lemmas.Bool.{cases_lt}
use Rattle.std.proofs.lemmas.Bool.Decides.{nat_tests}
use Rattle.std.proofs.lemmas.List.Sums.{count_by_more_yes, sum_by-cons}
use Rattle.std.specs.FinMap.{empty}
use Rattle.ere_tree.proofs.DerivationLemmas.{line_end_within, line_start_within}
use Rattle.ere_tree.specs.Derivation.{Way, Derives, is_line_end, is_line_start}
use Rattle.line_laws.proofs.LineLemmas.{derives_line, line_derives}
use Rattle.line_laws.specs.Line.{IsLineAt}
use Rattle.line_laws.specs.Quoted.{Bit, bytes_in, line_tree}
use Rattle.line_laws.specs.Steps.{EndsLine, BeginsFilled, IsNextLine, NextIsForced, NextIsFound, FirstIsForced, FirstIsFound}
use Rattle.tt_base.specs.Place.{is_newline}

starts_behind : (s : List ℕ) (n : ℕ) → IsTrue (is_line_start s (suc n)) → is_newline (get_or s n 0) ≡ true
starts_behind s n h =
    let before : suc n - 1 ≡ n = omega arith in
    let here = rw before at h in grind (arith, nat_tests, here)

behind_first : (rest : List ℕ) (i : ℕ) → IsTrue (is_line_start (10 ∷ rest) i) → i ≤ length (10 ∷ rest)
    → count_by is_newline (take i (10 ∷ rest)) ≡ 1 → i ≡ 1
behind_first rest zero begins within one = let no : ⊥ = omega (arith, one) in absurd no
behind_first rest (suc zero) begins within one = refl
behind_first rest (suc (suc n)) begins within one =
    let here : is_newline (get_or (10 ∷ rest) (suc n) 0) ≡ true = starts_behind (10 ∷ rest) (suc n) begins in
    let low : suc n < length (10 ∷ rest) = within in
    let more : count_by is_newline (take (suc n + 1) (10 ∷ rest)) ≡ count_by is_newline (take (suc n) (10 ∷ rest)) + 1 =
    count_by_more_yes is_newline (10 ∷ rest) (suc n) 0 low here in
    let next : suc n + 1 ≡ suc (suc n) = omega arith in
    let total : count_by is_newline (take (suc n) (10 ∷ rest)) + 1 ≡ 1 =
    sym more ∙ ap (λ m. count_by is_newline (take m (10 ∷ rest))) next ∙ one in
    let first : count_by is_newline (take (suc n) (10 ∷ rest)) ≡ 1 + count_by is_newline (take n rest) = sum_by-cons (λ x. if is_newline x then 1 else 0) 10 (take n rest) in
    let no : ⊥ = omega (arith, total, first) in absurd no

-- a line that begins behind exactly one newline, from a line's end on, begins behind the first byte
pub one_newline : (s : List ℕ) (i : ℕ) → EndsLine s → IsTrue (is_line_start s i) → i ≤ length s
    → count_by is_newline (take i s) ≡ 1 → (i ≡ 1) × (rest : List ℕ) × (s ≡ 10 ∷ rest)
one_newline [] zero ends begins within one = let no : ⊥ = omega (arith, one) in absurd no
one_newline [] (suc n) ends begins within one = let no : ⊥ = omega (arith, within) in absurd no
one_newline (b ∷ rest) i ends begins within one =
    let same : b ∷ rest ≡ 10 ∷ rest = ap (λ x. x ∷ rest) ends in (
      behind_first rest i (subst (λ l. IsTrue (is_line_start l i)) same begins) (subst (λ l. i ≤ length l) same within)
          (subst (λ l. count_by is_newline (take i l) ≡ 1) same one),
      rest,
      same,
    )

ends_now : (b n : ℕ) → (0 == suc n || b == 10) ≡ true → b ≡ 10
ends_now b n e = grind (arith, nat_tests, e)

both_more : (i n : ℕ) → (suc i == suc n) ≡ (i == n)
both_more i n = grind (arith, nat_tests)

end_behind : (b : ℕ) (rest : List ℕ) (i : ℕ) → is_line_end (b ∷ rest) (suc i) ≡ is_line_end rest i
end_behind b rest i = ap (λ x. x || get_or rest i 0 == 10) (both_more i (length rest))

-- what stands where a line ends
pub ends_line : (s : List ℕ) (i : ℕ) → IsTrue (is_line_end s i) → EndsLine (drop i s)
ends_line [] zero h = tt
ends_line [] (suc i) h = tt
ends_line (b ∷ rest) zero h = ends_now b (length rest) h
ends_line (b ∷ rest) (suc i) h = ends_line rest i (subst IsTrue (end_behind b rest i) h)

pub next_is_forced : NextIsForced
next_is_forced text bits from hit ends h one =
    let s = drop from text in
    let line = derives_line s bits h.is_hit.way (hit.from - from) (hit.to - from) h.captures h.is_hit.shows in
    let within = line_start_within s (hit.from - from) line.0.begins in
    let first = one_newline s (hit.from - from) ends line.0.begins within one in
    let q = bytes_in bits in
    let start : drop (hit.from - from) s ≡ first.1 =
    ap (λ n. drop n s) first.0 ∙ ap (λ l. drop 1 l) first.2 in
    let there : from + (hit.from - from + length q) ≡ hit.to = omega (arith, line.1, h.behind, h.ordered) in
    let behind : drop (hit.from - from + length q) s ≡ drop hit.to text =
    drop-drop (hit.from - from + length q) from text ∙ ap (λ n. drop n text) there in (
      first.2 ∙ ap (λ l. 10 ∷ l) (sym start ∙ line.0.bytes ∙ ap (λ l. q ++ l) behind),
      subst EndsLine behind (ends_line s (hit.from - from + length q) line.0.ends),
    )

-- a line ends where what is behind says so
pub line_ends : (s behind : List ℕ) (i : ℕ) → EndsLine behind → drop i s ≡ behind → i ≤ length s → IsTrue (is_line_end s i)
line_ends s [] i ends is low =
    let all : length s - i ≡ 0 = sym (length-drop i s) ∙ ap length is in
    let end : i ≡ length s = omega (arith, all, low) in
    grind (arith, nat_tests, end)
line_ends s (b ∷ rest) i ends is low =
    let first : get_or (drop i s) 0 0 ≡ b = ap (λ l. get_or l 0 0) is in
    let here : get_or s (i + 0) 0 ≡ b = sym (get_or-drop i s 0 0) ∙ first in
    let same : i + 0 ≡ i = omega arith in
    let at : get_or s i 0 ≡ 10 = sym (ap (λ n. get_or s n 0) same) ∙ here ∙ ends in
    grind (arith, nat_tests, at)

-- the next line derives from behind the newline
line_at_one : (text : List ℕ) (bits : List Bit) (behind : List ℕ) (from : ℕ)
    → IsNextLine (drop from text) (bytes_in bits) behind
    → (w : Way) × Derives (drop from text) (line_tree bits) w 1 (1 + length (bytes_in bits)) empty empty
line_at_one text bits behind from next =
    let s = drop from text in
    let q = bytes_in bits in
    let is : s ≡ 10 ∷ (q ++ behind) = next.0 in
    let more : suc (length q) ≡ 1 + length q = omega arith in
    let rest : drop (1 + length q) s ≡ behind =
    ap (λ n. drop n s) (sym more) ∙ ap (λ l. drop (suc (length q)) l) is ∙ drop-append_seam q behind in
    line_derives s bits 1 (record {
      begins = subst (λ l. IsTrue (is_line_start l 1)) (sym is) refl;
      bytes = ap (λ l. drop 1 l) is ∙ ap (λ l. q ++ l) (sym rest);
      ends = line_ends s behind (1 + length q) next.1 rest (omega (arith, ap length is, length-append q behind));
    })

-- what isn't empty and begins with no newline doesn't begin at a line's end
begins_filled : (s q behind : List ℕ) (i : ℕ) → BeginsFilled q → IsNextLine s q behind → IsLineAt s q i → i ≢ 0
begins_filled s [] behind i filled next line e = absurd filled
begins_filled s (b ∷ q) behind i filled next line e =
    let here : s ≡ b ∷ (q ++ drop (i + length (b ∷ q)) s) = ap (λ n. drop n s) (sym e) ∙ line.bytes in
    filled (sym (ap (λ l. get_or l 0 0) here) ∙ ap (λ l. get_or l 0 0) next.0)

exactly_one : (n : ℕ) → n ≢ 0 → n ≤ 1 → n ≡ 1
exactly_one n not low = grind (arith, not, low)

pub next_is_found : NextIsFound
next_is_found text bits behind from None filled next h = absurd (h _ _ _ _ (line_at_one text bits behind from next).1)
next_is_found text bits behind from (Some hit) filled next h =
    let s = drop from text in
    let q = bytes_in bits in
    let there = line_at_one text bits behind from next in
    let line = derives_line s bits h.is_hit.way (hit.from - from) (hit.to - from) h.captures h.is_hit.shows in
    let not_at_once : hit.from - from ≢ 0 = λ e. begins_filled s q behind (hit.from - from) filled next line.0 e in
    let least : 1 < hit.from - from → ⊥ = λ later. h.is_hit.leftmost 1 (1 + length q) there.0 empty later there.1 in
    let start : hit.from - from ≡ 1 = elim (cases_lt 1 (hit.from - from)) [
      | inl later ↦ absurd (least later)
      | inr at_most ↦ exactly_one (hit.from - from) not_at_once at_most
    ] in
    let end : hit.to ≡ from + (1 + length q) = omega (arith, line.1, start, h.behind, h.ordered) in
    let more : suc (length q) ≡ 1 + length q = omega arith in
    record {
      found = hit;
      is = refl;
      start = omega (arith, start, h.behind);
      rest = ap (λ n. drop n text) end ∙ sym (drop-drop (1 + length q) from text)
          ∙ ap (λ n. drop n s) (sym more) ∙ ap (λ l. drop (suc (length q)) l) next.0 ∙ drop-append_seam q behind;
      within = omega (arith, line_end_within s (hit.from - from + length q) line.0.ends, length-drop from text, start, end);
      one = ap (λ n. count_by is_newline (take n s)) start ∙ ap (λ l. count_by is_newline (take 1 l)) next.0;
    }

-- ---- the first line

pub first_is_forced : FirstIsForced
first_is_forced text bits hit h at =
    let q = bytes_in bits in
    let line = derives_line text bits h.is_hit.way (hit.from - 0) (hit.to - 0) h.captures h.is_hit.shows in
    let start : hit.from - 0 ≡ 0 = omega (arith, at) in
    let there : hit.from - 0 + length q ≡ hit.to = omega (arith, line.1, h.ordered) in
    let behind : drop (hit.from - 0 + length q) text ≡ drop hit.to text = ap (λ n. drop n text) there in (
      sym (ap (λ n. drop n text) start) ∙ line.0.bytes ∙ ap (λ l. q ++ l) behind,
      subst EndsLine behind (ends_line text (hit.from - 0 + length q) line.0.ends),
    )

first_line : (text : List ℕ) (bits : List Bit) (behind : List ℕ) → text ≡ bytes_in bits ++ behind → EndsLine behind
    → (w : Way) × Derives text (line_tree bits) w 0 (0 + length (bytes_in bits)) empty empty
first_line text bits behind is ends =
    let q = bytes_in bits in
    let zero_more : 0 + length q ≡ length q = omega arith in
    let rest : drop (0 + length q) text ≡ behind =
    ap (λ n. drop n text) zero_more ∙ ap (λ l. drop (length q) l) is ∙ drop-append_seam q behind in
    line_derives text bits 0 (record {
      begins = refl;
      bytes = is ∙ ap (λ l. q ++ l) (sym rest);
      ends = line_ends text behind (0 + length q) ends rest (omega (arith, ap length is, length-append q behind));
    })

pub first_is_found : FirstIsFound
first_is_found text bits behind None is ends h = absurd (h _ _ _ _ (first_line text bits behind is ends).1)
first_is_found text bits behind (Some hit) is ends h =
    let q = bytes_in bits in
    let there = first_line text bits behind is ends in
    let line = derives_line text bits h.is_hit.way (hit.from - 0) (hit.to - 0) h.captures h.is_hit.shows in
    let start : hit.from ≡ 0 = elim (cases_lt 0 (hit.from - 0)) [
      | inl later ↦ absurd (h.is_hit.leftmost 0 (0 + length q) there.0 empty later there.1)
      | inr at_most ↦ omega (arith, at_most)
    ] in
    let end : hit.to ≡ length q = omega (arith, line.1, start, h.ordered) in
    record {
      found = hit;
      is = refl;
      start = start;
      rest = ap (λ n. drop n text) end ∙ ap (λ l. drop (length q) l) is ∙ drop-append_seam q behind;
      within = omega (arith, line_end_within text (hit.from - 0 + length q) line.0.ends, start, end);
    }
