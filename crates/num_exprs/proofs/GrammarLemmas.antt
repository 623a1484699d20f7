-- What is read is an expression, and each expression is read. Sound: the tokens that were read up to a place, in front of
-- those behind it, are those of the whole (`before`), which each step keeps. Complete: by induction over the expression,
-- from any place (`runs_sum`). The hard one is `sound_from`.
use Rattle.std.proofs.Common.{◌≡◌, ℕ, ◌+◌, ◌-◌, ◌≤◌, Option, Some, None, List, [], ◌∷◌, Result, Ok, Err, is_ok, is_some, true, false, true≢false, nat_le, if◌then◌else◌, Bool, zero, suc, arith, refl, sym, subst, ap, ◌∙◌}
use Rattle.std.specs.Option.{option_map, option_and_then}
use Rattle.std.proofs.lemmas.Bool.Decides.{nat_tests}
use Rattle.std.proofs.lemmas.Option.{same_Some}
use Rattle.ere_tree.specs.Class.{is_blank}
use Rattle.num_base.specs.Term.{Term, binary}
use Rattle.num_exprs.specs.Token.{Token, value, operator, named, open_paren, close_paren, comma, Tokens, ends, stops, next, and_next, token, tokens_from, wanted_behind}
use Rattle.num_exprs.specs.Place.{Frame, behind, paren, first, second, Place, wants, called, has, taken, step, step_within, weight, whole, over, on_place, using, uses_of, Found, reading_from}
use Rattle.num_exprs.specs.Productions.{Sum, Operand, one, more, simple, parens, call, tokens, operand_tokens, sum_term, operand_term, weights, all_tokens, IsExpr, expr_at}

-- WHAT WAS READ

-- a place with the productions that were read, and what it says
abbrev frame_terms : Frame Sum → Frame Term
frame_terms (behind s op) = behind (sum_term s) op
frame_terms paren = paren
frame_terms (first op) = first op
frame_terms (second op s) = second op (sum_term s)

abbrev frames_terms : List (Frame Sum) → List (Frame Term)
frames_terms [] = []
frames_terms (f ∷ fs) = frame_terms f ∷ frames_terms fs

abbrev terms : Place Sum → Place Term
terms (wants fs) = wants (frames_terms fs)
terms (called op fs) = called op (frames_terms fs)
terms (has fs s) = has (frames_terms fs) (sum_term s)

-- the tokens that were read up to a place, in front of those behind it
abbrev before_frames : List (Frame Sum) → List Token → List Token
before_frames [] rest = rest
before_frames (behind s op ∷ fs) rest = before_frames fs (tokens s (operator op ∷ rest))
before_frames (paren ∷ fs) rest = before_frames fs (open_paren ∷ rest)
before_frames (first op ∷ fs) rest = before_frames fs (named op ∷ open_paren ∷ rest)
before_frames (second op s ∷ fs) rest = before_frames fs (named op ∷ open_paren ∷ tokens s (comma ∷ rest))

abbrev before : Place Sum → List Token → List Token
before (wants fs) rest = before_frames fs rest
before (called op fs) rest = before_frames fs (named op ∷ rest)
before (has fs s) rest = before_frames fs (tokens s rest)

-- the place behind an operand
abbrev sum_taken : List (Frame Sum) → Operand → Place Sum
sum_taken [] x = has [] (one x)
sum_taken (behind s op ∷ fs) x = has fs (more s op x)
sum_taken (paren ∷ fs) x = has (paren ∷ fs) (one x)
sum_taken (first op ∷ fs) x = has (first op ∷ fs) (one x)
sum_taken (second op s ∷ fs) x = has (second op s ∷ fs) (one x)

taken_terms : (fs : List (Frame Sum)) (x : Operand) → terms (sum_taken fs x) ≡ taken (frames_terms fs) (operand_term x)
taken_terms [] x = refl
taken_terms (behind s op ∷ fs) x = refl
taken_terms (paren ∷ fs) x = refl
taken_terms (first op ∷ fs) x = refl
taken_terms (second op s ∷ fs) x = refl

before_taken : (fs : List (Frame Sum)) (x : Operand) (rest : List Token)
    → before (sum_taken fs x) rest ≡ before_frames fs (operand_tokens x rest)
before_taken [] x rest = refl
before_taken (behind s op ∷ fs) x rest = refl
before_taken (paren ∷ fs) x rest = refl
before_taken (first op ∷ fs) x rest = refl
before_taken (second op s ∷ fs) x rest = refl

-- the productions behind a token
abbrev Lifted : Place Sum → Token → Place Term → Type 0
Lifted p t q = (r : Place Sum) × (terms r ≡ q) × ((rest : List Token) → before r rest ≡ before p (t ∷ rest))

lift_taken : (p : Place Sum) (t : Token) (fs : List (Frame Sum)) (x : Operand) (q : Place Term)
    → ((rest : List Token) → before_frames fs (operand_tokens x rest) ≡ before p (t ∷ rest))
    → Some (taken (frames_terms fs) (operand_term x)) ≡ Some q → Lifted p t q
lift_taken p t fs x q same h =
    (sum_taken fs x, taken_terms fs x ∙ same_Some _ q h, λ rest. before_taken fs x rest ∙ same rest)

lift_step : (p : Place Sum) (t : Token) (q : Place Term) → step (terms p) t ≡ Some q → Lifted p t q
lift_step (wants fs) (value t) q h = lift_taken (wants fs) (value t) fs (simple t) q (λ rest. refl) h
lift_step (wants fs) open_paren q h = (wants (paren ∷ fs), same_Some _ q h, λ rest. refl)
lift_step (wants fs) (named op) q h = (called op fs, same_Some _ q h, λ rest. refl)
lift_step (called op fs) open_paren q h = (wants (first op ∷ fs), same_Some _ q h, λ rest. refl)
lift_step (has fs s) (operator op) q h = (wants (behind s op ∷ fs), same_Some _ q h, λ rest. refl)
lift_step (has (paren ∷ fs) s) close_paren q h =
    lift_taken (has (paren ∷ fs) s) close_paren fs (parens s) q (λ rest. refl) h
lift_step (has (first op ∷ fs) s) comma q h = (wants (second op s ∷ fs), same_Some _ q h, λ rest. refl)
lift_step (has (second op a ∷ fs) s) close_paren q h =
    lift_taken (has (second op a ∷ fs) s) close_paren fs (call op a s) q (λ rest. refl) h
lift_step p t q h = absurd (true≢false (sym (ap is_some h)))

no_ok : {A : Type 0} (at : ℕ) (t : Term) → Err at ≡ Ok t → A
no_ok at t h = absurd (true≢false (sym (ap is_ok h)))

abbrev ok : Term → Result Term ℕ
ok t = Ok t

abbrev ok_or : Result Term ℕ → Term → Term
ok_or (Ok u) t = u
ok_or (Err at) t = t

same_ok : (s t : Term) → ok s ≡ ok t → s ≡ t
same_ok s t h = ap (λ r. ok_or r s) h

-- the whole is an expression, of which so much was read up to a place
abbrev Says : ℕ → Place Sum → Tokens → Term → Type 0
Says left p rest t = (ts : List Token) × (all_tokens rest ≡ Some ts) × (s : Sum) × (before p ts ≡ tokens s [])
    × (weights ts ≤ left) × (t ≡ sum_term s)

sound_end : (at left : ℕ) (p : Place Sum) (t : Term) → Found.outcome (over at (whole (terms p))) ≡ Ok t
    → Says left p (ends at) t
sound_end at left (has [] s) t h = ([], refl, s, refl, omega arith, sym (same_ok (sum_term s) t h))
sound_end at left (has (f ∷ fs) s) t h = no_ok at t h
sound_end at left (wants fs) t h = no_ok at t h
sound_end at left (called op fs) t h = no_ok at t h

sound_from : (left : ℕ) (p : Place Sum) (rest : Tokens) (t : Term)
    → Found.outcome (reading_from left (terms p) rest) ≡ Ok t → Says left p rest t
sound_from left p (ends at) t h = sound_end at left p t h
sound_from left p (stops at) t h = no_ok at t h
sound_from left p (next at u rest) t h =
    elim (nat_le (weight u) left) as (λ b. nat_le (weight u) left ≡ b
    → Found.outcome (on_place at (if b then step (terms p) u else None) (λ q.
    using (uses_of at u) (reading_from (left - weight u) q rest))) ≡ Ok t → Says left p (next at u rest) t) [
      | false ↦ λ small h. no_ok at t h
      | true ↦ λ small h. elim (step (terms p) u) as (λ o. step (terms p) u ≡ o
          → Found.outcome (on_place at o (λ q. using (uses_of at u) (reading_from (left - weight u) q rest))) ≡ Ok t
          → Says left p (next at u rest) t) [
            | None ↦ λ is h. no_ok at t h
            | Some q ↦ λ is h.
                let r = lift_step p u q is in
                let says = sound_from (left - weight u) r.0 rest t
                (subst (λ place. Found.outcome (reading_from (left - weight u) place rest) ≡ Ok t) (sym r.1) h) in (
                  u ∷ says.0,
                  ap (option_map (λ ts. u ∷ ts)) says.1,
                  says.2,
                  sym (r.2 says.0) ∙ says.3,
                  grind (arith, nat_tests, small, says.4),
                  says.5,
                )
          ] refl h
    ] refl h

-- EACH EXPRESSION IS READ

-- what is read of a list of tokens
abbrev run : ℕ → Place Term → List Token → Option Term
run left p [] = whole p
run left p (t ∷ ts) = option_and_then (λ q. run (left - weight t) q ts) (step_within left p t)

abbrev mutual
  -- the weight of an expression
  sum_weight : Sum → ℕ
  sum_weight (one x) = operand_weight x
  sum_weight (more s op x) = sum_weight s + (1 + operand_weight x)

  operand_weight : Operand → ℕ
  operand_weight (simple t) = 0
  operand_weight (parens s) = 1 + sum_weight s
  operand_weight (call op a b) = 1 + (1 + (sum_weight a + sum_weight b))

mutual
  weigh : (s : Sum) (rest : List Token) → weights (tokens s rest) ≡ sum_weight s + weights rest
  weigh (one x) rest = weigh_operand x rest
  weigh (more s op x) rest = omega (arith, weigh s (operator op ∷ operand_tokens x rest), weigh_operand x rest)

  weigh_operand : (x : Operand) (rest : List Token)
      → weights (operand_tokens x rest) ≡ operand_weight x + weights rest
  weigh_operand (simple t) rest = omega arith
  weigh_operand (parens s) rest = omega (arith, weigh s (close_paren ∷ rest))
  weigh_operand (call op a b) rest =
      omega (arith, weigh a (comma ∷ tokens b (close_paren ∷ rest)), weigh b (close_paren ∷ rest))

-- a token that goes on
one_step : (l : ℕ) (p q : Place Term) (t : Token) (ts : List Token) → step p t ≡ Some q
    → run (weight t + l) p (t ∷ ts) ≡ run l q ts
one_step l p q t ts is =
    let small : nat_le (weight t) (weight t + l) ≡ true = grind (arith, nat_tests) in
    let less : weight t + l - weight t ≡ l = omega arith in
    let go : Place Term → Option Term = λ q. run (weight t + l - weight t) q ts in
    ap (λ b. option_and_then go (if b then step p t else None)) small
    ∙ ap (option_and_then go) is
    ∙ ap (λ n. run n q ts) less

-- a token that goes on and doesn't count
free_step : (l : ℕ) (p q : Place Term) (t : Token) (ts : List Token) → weight t ≡ 0 → step p t ≡ Some q
    → run l p (t ∷ ts) ≡ run l q ts
free_step l p q t ts free is =
    let e : l ≡ weight t + l = omega (arith, free) in
    ap (λ n. run n p (t ∷ ts)) e ∙ one_step l p q t ts is

-- no side of an operator is open here
abbrev IsFresh : List (Frame Term) → Type 0
IsFresh [] = Unit {0}
IsFresh (behind s op ∷ fs) = ⊥
IsFresh (f ∷ fs) = Unit {0}

fresh_taken : (fs : List (Frame Term)) (t : Term) → IsFresh fs → taken fs t ≡ has fs t
fresh_taken [] t h = refl
fresh_taken (behind s op ∷ fs) t h = absurd h
fresh_taken (paren ∷ fs) t h = refl
fresh_taken (first op ∷ fs) t h = refl
fresh_taken (second op s ∷ fs) t h = refl

runs_with : (m n : ℕ) (p : Place Term) (ts : List Token) (o : Option Term) → m ≡ n → run m p ts ≡ o → run n p ts ≡ o
runs_with m n p ts o e h = subst (λ k. run k p ts ≡ o) e h

mutual
  runs_sum : (s : Sum) (l : ℕ) (fs : List (Frame Term)) (rest : List Token) → IsFresh fs
      → run (sum_weight s + l) (wants fs) (tokens s rest) ≡ run l (has fs (sum_term s)) rest
  runs_sum (one x) l fs rest fresh =
      runs_operand x l fs rest ∙ ap (λ p. run l p rest) (fresh_taken fs (operand_term x) fresh)
  runs_sum (more s op x) l fs rest fresh =
      let n : ℕ = 1 + (operand_weight x + l) in
      let a = runs_sum s n fs (operator op ∷ operand_tokens x rest) fresh in
      let b = one_step (operand_weight x + l) (has fs (sum_term s)) (wants (behind (sum_term s) op ∷ fs)) (operator op)
      (operand_tokens x rest) refl in
      let c = runs_operand x l (behind (sum_term s) op ∷ fs) rest in
      runs_with (sum_weight s + n) (sum_weight s + (1 + operand_weight x) + l) (wants fs)
      (tokens s (operator op ∷ operand_tokens x rest)) (run l (has fs (sum_term (more s op x))) rest) (omega arith)
      (a ∙ b ∙ c)

  runs_operand : (x : Operand) (l : ℕ) (fs : List (Frame Term)) (rest : List Token)
      → run (operand_weight x + l) (wants fs) (operand_tokens x rest) ≡ run l (taken fs (operand_term x)) rest
  runs_operand (simple t) l fs rest = one_step l (wants fs) (taken fs t) (value t) rest refl
  runs_operand (parens s) l fs rest =
      let a = one_step (sum_weight s + l) (wants fs) (wants (paren ∷ fs)) open_paren (tokens s (close_paren ∷ rest))
      refl in
      let b = runs_sum s l (paren ∷ fs) (close_paren ∷ rest) tt in
      let c = free_step l (has (paren ∷ fs) (sum_term s)) (taken fs (sum_term s)) close_paren rest refl refl in
      runs_with (1 + (sum_weight s + l)) (1 + sum_weight s + l) (wants fs)
      (open_paren ∷ tokens s (close_paren ∷ rest)) (run l (taken fs (sum_term s)) rest) (omega arith) (a ∙ b ∙ c)
  runs_operand (call op x y) l fs rest =
      let n : ℕ = sum_weight x + (sum_weight y + l) in
      let s : Term = sum_term x in
      let tail : List Token = tokens y (close_paren ∷ rest) in
      let whole : Term = binary op s (sum_term y) in
      let a = one_step (1 + n) (wants fs) (called op fs) (named op) (open_paren ∷ tokens x (comma ∷ tail)) refl in
      let b = one_step n (called op fs) (wants (first op ∷ fs)) open_paren (tokens x (comma ∷ tail)) refl in
      let c = runs_sum x (sum_weight y + l) (first op ∷ fs) (comma ∷ tail) tt in
      let d = free_step (sum_weight y + l) (has (first op ∷ fs) s) (wants (second op s ∷ fs)) comma tail refl refl in
      let e = runs_sum y l (second op s ∷ fs) (close_paren ∷ rest) tt in
      let f = free_step l (has (second op s ∷ fs) (sum_term y)) (taken fs whole) close_paren rest refl refl in
      runs_with (1 + (1 + n)) (1 + (1 + (sum_weight x + sum_weight y)) + l) (wants fs)
      (named op ∷ open_paren ∷ tokens x (comma ∷ tail)) (run l (taken fs whole) rest) (omega arith)
      (a ∙ b ∙ c ∙ d ∙ e ∙ f)

-- the expression that was read, if there is one
abbrev ok_of : Result Term ℕ → Option Term
ok_of (Ok t) = Some t
ok_of (Err at) = None

ok_out : (r : Result Term ℕ) (t : Term) → ok_of r ≡ Some t → r ≡ Ok t
ok_out (Ok u) t h = ap Ok (same_Some u t h)
ok_out (Err at) t h = absurd (true≢false (sym (ap is_some h)))

ok_over : (at : ℕ) (o : Option Term) → ok_of (Found.outcome (over at o)) ≡ o
ok_over at (Some t) = refl
ok_over at None = refl

-- reading tokens as they stand in the text
runs_as : (left : ℕ) (p : Place Term) (rest : Tokens) (ts : List Token) → all_tokens rest ≡ Some ts
    → ok_of (Found.outcome (reading_from left p rest)) ≡ run left p ts
runs_as left p (ends at) ts h =
    ok_over at (whole p) ∙ ap (run left p) (same_Some [] ts h)
runs_as left p (stops at) ts h = absurd (true≢false (sym (ap is_some h)))
runs_as left p (next at u rest) ts h =
    each (λ us is q. runs_as (left - weight u) q rest us is) (all_tokens rest) refl h
  where
    goes : (us : List Token) → ((q : Place Term)
        → ok_of (Found.outcome (reading_from (left - weight u) q rest)) ≡ run (left - weight u) q us)
        → (o : Option (Place Term)) → ok_of (Found.outcome (on_place at o (λ q.
        using (uses_of at u) (reading_from (left - weight u) q rest))))
        ≡ option_and_then (λ q. run (left - weight u) q us) o
    goes us same None = refl
    goes us same (Some q) = same q

    each : ((us : List Token) → all_tokens rest ≡ Some us → (q : Place Term)
        → ok_of (Found.outcome (reading_from (left - weight u) q rest)) ≡ run (left - weight u) q us)
        → (o : Option (List Token)) → all_tokens rest ≡ o → option_map (λ vs. u ∷ vs) o ≡ Some ts
        → ok_of (Found.outcome (reading_from left p (next at u rest))) ≡ run left p ts
    each later None is h = absurd (true≢false (sym (ap is_some h)))
    each later (Some us) is h =
        goes us (later us is) (step_within left p u) ∙ ap (run left p) (same_Some (u ∷ us) ts h)

-- where the text begins doesn't matter
shifted : (wanted : Bool) (a b skip : ℕ) (text : List ℕ)
    → all_tokens (tokens_from wanted a skip text) ≡ all_tokens (tokens_from wanted b skip text)
unfolding tokens_from
shifted wanted a b skip [] = refl
shifted wanted a b (suc skip) (x ∷ text) = shifted wanted (suc a) (suc b) skip text
shifted wanted a b zero (x ∷ text) =
    elim (is_blank x) as (λ v.
    all_tokens (if v then tokens_from wanted (suc a) 0 text
    else and_next a (token wanted (x ∷ text)) (λ found.
    tokens_from (wanted_behind found.0) (suc a) (found.1 - 1) text))
    ≡ all_tokens (if v then tokens_from wanted (suc b) 0 text
    else and_next b (token wanted (x ∷ text)) (λ found.
    tokens_from (wanted_behind found.0) (suc b) (found.1 - 1) text))) [
      | true ↦ shifted wanted (suc a) (suc b) 0 text
      | false ↦ elim (token wanted (x ∷ text)) as (λ r.
          all_tokens (and_next a r (λ found. tokens_from (wanted_behind found.0) (suc a) (found.1 - 1) text))
          ≡ all_tokens (and_next b r (λ found. tokens_from (wanted_behind found.0) (suc b) (found.1 - 1) text))) [
            | Ok found ↦ ap (option_map (λ ts. found.0 ∷ ts))
                (shifted (wanted_behind found.0) (suc a) (suc b) (found.1 - 1) text)
            | Err k ↦ refl
          ]
    ]

pub sound : (at : ℕ) (text : List ℕ) (t : Term) → Found.outcome (expr_at at text) ≡ Ok t → IsExpr text t
sound at text t h =
    let says = sound_from 250 (wants []) (tokens_from true at 0 text) t h in
    let is : says.0 ≡ tokens says.2 [] = says.3 in (
      says.2,
      shifted true 0 at 0 text ∙ says.1 ∙ ap Some is,
      subst (λ ts. weights ts ≤ 250) is says.4,
      says.5,
    )

pub complete : (at : ℕ) (text : List ℕ) (t : Term) → IsExpr text t → Found.outcome (expr_at at text) ≡ Ok t
complete at text t h =
    let s : Sum = h.0 in
    let l : ℕ = 250 - sum_weight s in
    let e : sum_weight s + l ≡ 250 = omega (arith, h.2, weigh s []) in
    let reads = runs_as 250 (wants []) (tokens_from true at 0 text) (tokens s []) (shifted true at 0 0 text ∙ h.1) in
    ok_out (Found.outcome (expr_at at text)) t
    (reads ∙ ap (λ n. run n (wants []) (tokens s [])) (sym e) ∙ runs_sum s l [] [] tt ∙ ap Some (sym h.3))
