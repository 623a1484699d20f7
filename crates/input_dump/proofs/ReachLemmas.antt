-- The cursor over marks: one that is too far before a line is near no later line, and of lines in order the first that isn't tells whether
-- one is near.
-- Shown: each step of the cursor changes no answer (`passes`), and where it stops the next mark tells (`next_tells`). By induction over the
-- lines; the hard one is `all_far`, that behind a line too far away all are.
use Rattle.std.proofs.Common.{◌≡◌, ℕ, zero, suc, ◌+◌, ◌<◌, ◌≤◌, ◌-◌, nat_le, Bool, true, false, ◌||◌, List, [], ◌∷◌, length, drop, get_or, refl, sym, ap, ◌∙◌, subst, arith}
use Rattle.std.specs.List.{AllByRecursion}
use Rattle.std.proofs.lemmas.Bool.Decides.{nat_tests}
use Rattle.std.proofs.Math.Seq.{drop-cons}
use Rattle.input_dump.specs.Dump.{any_close, is_close}
use Rattle.input_dump.specs.Follow.{AreNearTheSame, IsFirstInReach}
use Rattle.input_dump.specs.Order.{AreAscending}

not_close : (context line m : ℕ) → m + context < line → is_close context line m ≡ false
not_close context line m far = grind (arith, nat_tests, far)

still_close : (context line m : ℕ) → line ≤ m + context → is_close context line m ≡ nat_le m (line + context)
still_close context line m near = grind (arith, nat_tests, near)

too_far : (context line m : ℕ) → line + context < m → is_close context line m ≡ false
too_far context line m far = grind (arith, nat_tests, far)

le_false : (m n : ℕ) → n < m → nat_le m n ≡ false
le_false m n is = grind (arith, nat_tests, is)

not_le : (m n : ℕ) → nat_le m n ≡ false → n < m
not_le m n is = grind (arith, nat_tests, is)

all_far : (others : List ℕ) (m context line : ℕ) → AllByRecursion (λ other. m ≤ other) others → line + context < m
    → any_close context line others ≡ false
all_far [] m context line behind far = refl
all_far (one ∷ others) m context line behind far =
    ap (λ b. b || any_close context line others) (too_far context line one (omega (arith, behind.0, far)))
    ∙ all_far others m context line behind.1 far

pub ascending_behind : (lines : List ℕ) (at : ℕ) → AreAscending lines → AreAscending (drop at lines)
ascending_behind lines zero up = up
ascending_behind [] (suc at) up = tt
ascending_behind (m ∷ lines) (suc at) up = ascending_behind lines at up.1

-- a mark that is passed is near no line from there on
pub passes : (lines : List ℕ) (at context from : ℕ) → at < length lines → get_or lines at 0 + context < from
    → (line : ℕ) → from ≤ line → any_close context line (drop (at + 1) lines) ≡ any_close context line (drop at lines)
passes lines at context from low past line later =
    let m = get_or lines at 0 in
    let next : suc at ≡ at + 1 = omega arith in
    sym (ap (λ l. any_close context line l) (drop-cons lines at 0 low)
    ∙ ap (λ b. b || any_close context line (drop (suc at) lines)) (not_close context line m (omega (arith, past, later)))
    ∙ ap (λ n. any_close context line (drop n lines)) next)

or_far : (others : List ℕ) (m context line : ℕ) → AllByRecursion (λ other. m ≤ other) others → (yes : Bool)
    → nat_le m (line + context) ≡ yes → (yes || any_close context line others) ≡ yes
or_far others m context line behind true is = refl
or_far others m context line behind false is = all_far others m context line behind (not_le m (line + context) is)

tells : (lines : List ℕ) (context line : ℕ) → AreAscending lines → IsFirstInReach context line lines → (m : ℕ) (others : List ℕ)
    → lines ≡ m ∷ others → any_close context line lines ≡ nat_le m (line + context)
tells lines context line up first m others is =
    let up_there : AreAscending (m ∷ others) = subst AreAscending is up in
    let near : line ≤ m + context = subst (IsFirstInReach context line) is first in
    ap (λ l. any_close context line l) is ∙ ap (λ b. b || any_close context line others) (still_close context line m near)
    ∙ or_far others m context line up_there.0 (nat_le m (line + context)) refl

-- of lines in order the first that isn't too far before tells
pub next_tells : (lines : List ℕ) (at context line : ℕ) → AreAscending lines → IsFirstInReach context line (drop at lines) → at < length lines
    → any_close context line (drop at lines) ≡ nat_le (get_or lines at 0) (line + context)
next_tells lines at context line up first low =
    tells (drop at lines) context line (ascending_behind lines at up) first (get_or lines at 0) (drop (suc at) lines) (drop-cons lines at 0 low)

pub none_tells : (lines : List ℕ) (at context line : ℕ) → length lines ≤ at → any_close context line (drop at lines) ≡ false
none_tells [] zero context line all = refl
none_tells [] (suc at) context line all = refl
none_tells (m ∷ lines) zero context line all = let no : ⊥ = omega (arith, all) in absurd no
none_tells (m ∷ lines) (suc at) context line all = none_tells lines at context line (omega (arith, all))

-- the first of the lines from an index on
pub reach_at : (lines : List ℕ) (at context number : ℕ) → (at < length lines → number ≤ get_or lines at 0 + context)
    → IsFirstInReach context number (drop at lines)
reach_at [] zero context number near = tt
reach_at [] (suc at) context number near = tt
reach_at (m ∷ lines) zero context number near = near (omega arith)
reach_at (m ∷ lines) (suc at) context number near = reach_at lines at context number (λ low. near (omega (arith, low)))

-- lines far enough before a mark, and behind the marks that are passed, are near none
pub far_before : (lines : List ℕ) (at context line : ℕ) → AreAscending lines → at < length lines → line < get_or lines at 0 - context
    → any_close context line (drop at lines) ≡ false
far_before lines at context line up low far =
    let m = get_or lines at 0 in
    let first : IsFirstInReach context line (drop at lines) = reach_at lines at context line (λ inside. omega (arith, far)) in
    let past : line + context < m = omega (arith, far) in
    next_tells lines at context line up first low ∙ le_false m (line + context) past

not_all : (all : Bool) (rest : Bool) → all ≡ false → rest ≡ false → (all || rest) ≡ false
not_all true rest none far = none
not_all false rest none far = far

-- so they are hidden
pub hidden_where : (all : Bool) (lines passed before : List ℕ) (context number line : ℕ) → all ≡ false
    → AreNearTheSame context number passed before → AreNearTheSame context number before lines → number ≤ line
    → any_close context line passed ≡ false → (all || any_close context line lines) ≡ false
hidden_where all lines passed before context number line none same follow later far =
    not_all all (any_close context line lines) none (sym (same line later ∙ follow line later) ∙ far)
