-- A byte more of plain text, of a regular expression and of a block: what each loop of the code does with one byte. With the
-- bytes that were passed added, the length of the rest stays the length of the whole. The hard one is `block_more`, by
-- the cases of `end_step`.
use Rattle.std.proofs.Common.{◌≡◌, ℕ, ◌+◌, ◌<◌, ◌≤◌, zero, suc, Bool, true, false, if◌then◌else◌, ◌≢◌, ◌==◌, ◌&&◌, not, List, [], ◌∷◌, Option, Some, None, length, drop, get_or, refl, sym, ap, ◌∙◌, arith}
use Rattle.std.proofs.Math.Seq.{drop-cons}
use Rattle.std.proofs.lemmas.Bool.{ne_eqb}
use Rattle.std.proofs.lemmas.List.{drop_all}
use Rattle.pattern_parse.specs.declared.cutting.Front.TheVariants.{Block, Regex, Text}
use Rattle.pattern_parse.specs.Cut.{front_at, starts_twice}
use Rattle.pattern_parse.specs.Ends.{one_more, is_text, run_of, up_to_end, closed, end_of, behind_byte, behind_close}
use Rattle.pattern_parse.proofs.CutLemmas.{adds}

-- one byte and those behind it
split : (text : List ℕ) (i : ℕ) → i < length text → drop i text ≡ get_or text i 0 ∷ drop (i + 1) text
split text i low =
    let next : suc i ≡ i + 1 = omega arith in
    drop-cons text i 0 low ∙ ap (λ n. get_or text i 0 ∷ drop n text) next

adds_one : (n : ℕ) (o : Option ℕ) → adds (n + 1) o ≡ adds n (one_more o)
adds_one zero o = refl
adds_one (suc n) o =
    let e : suc n + 1 ≡ suc (n + 1) = omega arith in ap (λ k. adds k o) e ∙ ap one_more (adds_one n o)

pub adds_nothing : (n : ℕ) → adds n None ≡ None
adds_nothing zero = refl
adds_nothing (suc n) = ap one_more (adds_nothing n)

pub adds_end : (n : ℕ) → adds n (Some 0) ≡ Some n
adds_end zero = refl
adds_end (suc n) = ap one_more (adds_end n)

-- PLAIN TEXT

pub run_more : (text : List ℕ) (i : ℕ) → i < length text → is_text (front_at (drop i text)) ≡ true
    → run_of (drop (i + 1) text) + (i + 1) ≡ run_of (drop i text) + i
run_more text i low is =
    let e = split text i low in
    let one : run_of (drop i text) ≡ suc (run_of (drop (i + 1) text)) =
    ap run_of e ∙ ap (λ v. if v then suc (run_of (drop (i + 1) text)) else 0)
    (ap (λ xs. is_text (front_at xs)) (sym e) ∙ is) in
    omega (arith, one)

-- a byte that is no opening bracket
pub run_past : (text : List ℕ) (i : ℕ) → i < length text → get_or text i 0 ≢ 123 → get_or text i 0 ≢ 91
    → run_of (drop (i + 1) text) + (i + 1) ≡ run_of (drop i text) + i
run_past text i low no_brace no_bracket =
    run_more text i low (ap (λ xs. is_text (front_at xs)) (split text i low)
    ∙ other (get_or text i 0) (drop (i + 1) text) (ne_eqb (get_or text i 0) 123 no_brace) (ne_eqb (get_or text i 0) 91 no_bracket))
  where
    other : (b : ℕ) (rest : List ℕ) → (b == 123) ≡ false → (b == 91) ≡ false → is_text (front_at (b ∷ rest)) ≡ true
    other b [] brace bracket = refl
    other b (c ∷ rest) brace bracket =
        ap (λ v. is_text (if v && (c == 123) then Regex else if (b == 91) && (c == 91) && not (starts_twice 91 (c ∷ rest)) then Block else Text)) brace
        ∙ ap (λ v. is_text (if v && (c == 91) && not (starts_twice 91 (c ∷ rest)) then Block else Text)) bracket

pub run_stops : (text : List ℕ) (i : ℕ) → is_text (front_at (drop i text)) ≡ false → run_of (drop i text) ≡ 0
run_stops text i other = each (drop i text) other
  where
    each : (xs : List ℕ) → is_text (front_at xs) ≡ false → run_of xs ≡ 0
    each [] other = refl
    each (b ∷ rest) other = ap (λ v. if v then suc (run_of rest) else 0) other

-- REGULAR EXPRESSIONS

pub regex_more : (text : List ℕ) (i : ℕ) → i < length text → starts_twice 125 (drop i text) ≡ false
    → adds (i + 1) (up_to_end (drop (i + 1) text)) ≡ adds i (up_to_end (drop i text))
regex_more text i low other =
    let e = split text i low in
    adds_one i (up_to_end (drop (i + 1) text))
    ∙ ap (adds i) (sym (ap up_to_end e ∙ ap (λ v. if v then Some 0 else one_more (up_to_end (drop (i + 1) text)))
    (ap (starts_twice 125) (sym e) ∙ other)))

pub regex_here : (text : List ℕ) (i : ℕ) → i < length text → starts_twice 125 (drop i text) ≡ true
    → adds i (up_to_end (drop i text)) ≡ Some i
regex_here text i low is =
    let e = split text i low in
    ap (adds i) (ap up_to_end e ∙ ap (λ v. if v then Some 0 else one_more (up_to_end (drop (i + 1) text)))
    (ap (starts_twice 125) (sym e) ∙ is)) ∙ adds_end i

pub none_left : (text : List ℕ) (i : ℕ) → length text ≤ i → adds i (up_to_end (drop i text)) ≡ None
none_left text i over = ap (λ xs. adds i (up_to_end xs)) (drop_all i text over) ∙ adds_nothing i

-- BLOCKS

-- what one byte does
abbrev on_byte : List ℕ → ℕ → Option (ℕ × Bool) → Option ℕ
on_byte rest b None = if starts_twice 93 (b ∷ rest) then Some 0 else None
on_byte rest b (Some next) = one_more (end_of next.0 next.1 rest)

on_close : (depth b : ℕ) (rest : List ℕ)
    → closed depth (b ∷ rest) (λ d. one_more (end_of d false rest)) ≡ on_byte rest b (behind_close depth)
on_close zero b rest = refl
on_close (suc depth) b rest = refl

end_step : (depth : ℕ) (hidden : Bool) (b : ℕ) (rest : List ℕ)
    → end_of depth hidden (b ∷ rest) ≡ on_byte rest b (behind_byte depth hidden b)
end_step depth true b rest = refl
end_step depth false b rest = each (b == 92) (b == 91) (b == 93)
  where
    each : (v w x : Bool) → (if v then one_more (end_of depth true rest)
        else if w then one_more (end_of (suc depth) false rest)
        else if x then closed depth (b ∷ rest) (λ d. one_more (end_of d false rest))
        else one_more (end_of depth false rest))
        ≡ on_byte rest b (if v then Some (depth, true) else if w then Some (suc depth, false)
        else if x then behind_close depth else Some (depth, false))
    each true w x = refl
    each false true x = refl
    each false false true = on_close depth b rest
    each false false false = refl

pub block_more : (text : List ℕ) (i depth : ℕ) (hidden : Bool) (next : ℕ × Bool) → i < length text
    → behind_byte depth hidden (get_or text i 0) ≡ Some next
    → adds (i + 1) (end_of next.0 next.1 (drop (i + 1) text)) ≡ adds i (end_of depth hidden (drop i text))
block_more text i depth hidden next low is =
    let e = split text i low in
    let rest : List ℕ = drop (i + 1) text in
    adds_one i (end_of next.0 next.1 rest)
    ∙ ap (adds i) (sym (ap (end_of depth hidden) e ∙ end_step depth hidden (get_or text i 0) rest
    ∙ ap (on_byte rest (get_or text i 0)) is))

pub block_here : (text : List ℕ) (i depth : ℕ) (hidden : Bool) → i < length text
    → behind_byte depth hidden (get_or text i 0) ≡ None
    → adds i (end_of depth hidden (drop i text)) ≡ (if starts_twice 93 (drop i text) then Some i else None)
block_here text i depth hidden low is =
    let e = split text i low in
    let rest : List ℕ = drop (i + 1) text in
    ap (adds i) (ap (end_of depth hidden) e ∙ end_step depth hidden (get_or text i 0) rest
    ∙ ap (on_byte rest (get_or text i 0)) is)
    ∙ each (starts_twice 93 (get_or text i 0 ∷ rest))
    ∙ ap (λ xs. if starts_twice 93 xs then Some i else None) (sym e)
  where
    each : (v : Bool) → adds i (if v then Some 0 else None) ≡ (if v then Some i else None)
    each true = adds_end i
    each false = adds_nothing i

pub block_none : (text : List ℕ) (i depth : ℕ) (hidden : Bool) → length text ≤ i
    → adds i (end_of depth hidden (drop i text)) ≡ None
block_none text i depth hidden over =
    ap (λ xs. adds i (end_of depth hidden xs)) (drop_all i text over) ∙ adds_nothing i
