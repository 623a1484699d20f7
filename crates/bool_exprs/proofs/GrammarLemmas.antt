-- What is read of a list is what the productions say, and each list is read.
-- Sound: a place of the reader stands for productions that are read so far, and each token makes longer ones (`lift_step`).
-- Complete: a production is read from any place where it may stand (`runs_sum`). The hard one is `sound_from`.
use Rattle.std.proofs.Common.{◌≡◌, ℕ, ◌+◌, ◌-◌, ◌≤◌, Bool, true, false, true≢false, List, [], ◌∷◌, ◌++◌, Option, Some, None, refl, sym, ap, ◌∙◌, subst, arith, append_assoc, if◌then◌else◌}
use Rattle.std.specs.Prelude.{nat_le, is_some}
use Rattle.std.specs.Option.{option_map, option_and_then}
use Rattle.std.proofs.lemmas.Bool.Decides.{nat_tests}
use Rattle.std.proofs.lemmas.Option.{same_Some}
use Rattle.bool_exprs.specs.Expr.{Expr, negation}
use Rattle.bool_exprs.specs.Token.{Token, operand, bang, both, either, open_paren, close_paren, comma, star, Tokens, ends, stops, next, tokens_from}
use Rattle.bool_exprs.specs.Place as reader
use Rattle.bool_exprs.specs.Place.{Frame, Place, State, after, alone, beginning, closed, finished, is_comma, item, or_open, reading_from, star_at, step, summed, taken, weight, within_item, exprs_in}
use Rattle.bool_exprs.specs.Productions.{Sum, one, more, Product, factor, times, Factor, simple, denied, parens, Item, nothing, any, some, sum_tokens, product_tokens, factor_tokens, sum_expr, product_expr, factor_expr, sum_weight, product_weight, factor_weight, item_tokens, item_exprs, item_weight, list_tokens, list_exprs, AreWithin, all_tokens, IsList}

-- THE READER'S PLACES, WITH PRODUCTIONS

-- what is open round a place, fs productions
data Around : Type 0 where
  not_behind : Around
  and_behind : Product → Around
  or_behind : Sum → Around
  paren : Around

data Spot : Type 0 where
  wants : List Around → Spot
  has : List Around → Product → Spot
  starred : Spot

abbrev frame : Around → Frame Expr
frame not_behind = reader.denied
frame (and_behind p) = reader.and_behind (product_expr p)
frame (or_behind s) = reader.or_behind (sum_expr s)
frame paren = reader.paren

abbrev frames : List Around → List (Frame Expr)
frames [] = []
frames (f ∷ fs) = frame f ∷ frames fs

abbrev place : Spot → Place Expr
place (wants fs) = reader.wants (frames fs)
place (has fs p) = reader.has (frames fs) (product_expr p)
place starred = reader.starred

-- the tokens read so far, and those behind them
abbrev before_frames : List Around → List Token → List Token
before_frames [] rest = rest
before_frames (not_behind ∷ fs) rest = before_frames fs (bang ∷ rest)
before_frames (and_behind p ∷ fs) rest = before_frames fs (product_tokens p (both ∷ rest))
before_frames (or_behind s ∷ fs) rest = before_frames fs (sum_tokens s (either ∷ rest))
before_frames (paren ∷ fs) rest = before_frames fs (open_paren ∷ rest)

abbrev before : Spot → List Token → List Token
before (wants fs) rest = before_frames fs rest
before (has fs p) rest = before_frames fs (product_tokens p rest)
before starred rest = star ∷ rest

no_some : {A B : Type 0} (x : A) → None ≡ Some x → B
no_some x h = absurd (true≢false (sym (ap is_some h)))

-- behind a factor
abbrev spot_taken : List Around → Factor → Spot
spot_taken [] x = has [] (factor x)
spot_taken (not_behind ∷ fs) x = spot_taken fs (denied x)
spot_taken (and_behind p ∷ fs) x = has fs (times p x)
spot_taken (or_behind s ∷ fs) x = has (or_behind s ∷ fs) (factor x)
spot_taken (paren ∷ fs) x = has (paren ∷ fs) (factor x)

taken_place : (fs : List Around) (x : Factor) → place (spot_taken fs x) ≡ taken (frames fs) (factor_expr x)
taken_place [] x = refl
taken_place (not_behind ∷ fs) x = taken_place fs (denied x)
taken_place (and_behind p ∷ fs) x = refl
taken_place (or_behind s ∷ fs) x = refl
taken_place (paren ∷ fs) x = refl

before_taken : (fs : List Around) (x : Factor) (rest : List Token)
    → before (spot_taken fs x) rest ≡ before_frames fs (factor_tokens x rest)
before_taken [] x rest = refl
before_taken (not_behind ∷ fs) x rest = before_taken fs (denied x) rest
before_taken (and_behind p ∷ fs) x rest = refl
before_taken (or_behind s ∷ fs) x rest = refl
before_taken (paren ∷ fs) x rest = refl

-- behind a product that no `&&` follows
abbrev Summed : List Around → Product → Type 0
Summed fs p = (bs : List Around) × (s : Sum) × (summed (frames fs) (product_expr p) ≡ (frames bs, sum_expr s))
    × ((rest : List Token) → before_frames bs (sum_tokens s rest) ≡ before_frames fs (product_tokens p rest))

sum_of : (fs : List Around) (p : Product) → Summed fs p
sum_of [] p = ([], one p, refl, λ rest. refl)
sum_of (not_behind ∷ fs) p = (not_behind ∷ fs, one p, refl, λ rest. refl)
sum_of (and_behind q ∷ fs) p = (and_behind q ∷ fs, one p, refl, λ rest. refl)
sum_of (or_behind s ∷ fs) p = (fs, more s p, refl, λ rest. refl)
sum_of (paren ∷ fs) p = (paren ∷ fs, one p, refl, λ rest. refl)

-- behind a token
abbrev Lifted : Spot → Token → Place Expr → Type 0
Lifted p t q = (r : Spot) × (place r ≡ q) × ((rest : List Token) → before r rest ≡ before p (t ∷ rest))

lift_taken : (p : Spot) (t : Token) (fs : List Around) (x : Factor) (q : Place Expr)
    → ((rest : List Token) → before_frames fs (factor_tokens x rest) ≡ before p (t ∷ rest))
    → Some (taken (frames fs) (factor_expr x)) ≡ Some q → Lifted p t q
lift_taken p t fs x q same h =
    (spot_taken fs x, taken_place fs x ∙ same_Some _ q h, λ rest. before_taken fs x rest ∙ same rest)

lift_closed : (p : Spot) (bs : List Around) (s : Sum) (q : Place Expr)
    → ((rest : List Token) → before_frames bs (sum_tokens s (close_paren ∷ rest)) ≡ before p (close_paren ∷ rest))
    → closed (frames bs, sum_expr s) ≡ Some q → Lifted p close_paren q
lift_closed p [] s q same h = no_some q h
lift_closed p (not_behind ∷ bs) s q same h = no_some q h
lift_closed p (and_behind r ∷ bs) s q same h = no_some q h
lift_closed p (or_behind r ∷ bs) s q same h = no_some q h
lift_closed p (paren ∷ bs) s q same h = lift_taken p close_paren bs (parens s) q same h

lift_step : (p : Spot) (t : Token) (q : Place Expr) → step (place p) t ≡ Some q → Lifted p t q
lift_step (wants fs) (operand e) q h = lift_taken (wants fs) (operand e) fs (simple e) q (λ rest. refl) h
lift_step (wants fs) bang q h = (wants (not_behind ∷ fs), same_Some _ q h, λ rest. refl)
lift_step (wants fs) open_paren q h = (wants (paren ∷ fs), same_Some _ q h, λ rest. refl)
lift_step (wants []) star q h = (starred, same_Some _ q h, λ rest. refl)
lift_step (wants (f ∷ fs)) star q h = no_some q h
lift_step (has fs p) both q h = (wants (and_behind p ∷ fs), same_Some _ q h, λ rest. refl)
lift_step (has fs p) either q h =
    let r = sum_of fs p in
    (wants (or_behind r.1 ∷ r.0), ap or_open (sym r.2) ∙ same_Some _ q h, λ rest. r.3 (either ∷ rest))
lift_step (has fs p) close_paren q h =
    let r = sum_of fs p in
    lift_closed (has fs p) r.0 r.1 q (λ rest. r.3 (close_paren ∷ rest)) (ap closed (sym r.2) ∙ h)
lift_step (wants fs) both q h = no_some q h
lift_step (wants fs) either q h = no_some q h
lift_step (wants fs) close_paren q h = no_some q h
lift_step (wants fs) comma q h = no_some q h
lift_step (has fs p) (operand e) q h = no_some q h
lift_step (has fs p) bang q h = no_some q h
lift_step (has fs p) open_paren q h = no_some q h
lift_step (has fs p) star q h = no_some q h
lift_step (has fs p) comma q h = no_some q h
lift_step starred t q h = no_some q h

-- at an item's end
abbrev Ended : Spot → List Expr → Type 0
Ended p es = (i : Item) × (es ≡ item_exprs i) × ((rest : List Token) → before p rest ≡ item_tokens i rest)

lift_alone : (p : Spot) (bs : List Around) (s : Sum) (es : List Expr)
    → ((rest : List Token) → before_frames bs (sum_tokens s rest) ≡ before p rest)
    → alone (frames bs, sum_expr s) ≡ Some es → Ended p es
lift_alone p [] s es same h = (some s, sym (same_Some _ es h), λ rest. sym (same rest))
lift_alone p (b ∷ bs) s es same h = no_some es h

lift_item : (p : Spot) (es : List Expr) → item (place p) ≡ Some es → Ended p es
lift_item (wants []) es h = (nothing, sym (same_Some _ es h), λ rest. refl)
lift_item (wants (f ∷ fs)) es h = no_some es h
lift_item (has fs p) es h =
    let r = sum_of fs p in lift_alone (has fs p) r.0 r.1 es r.3 (ap alone (sym r.2) ∙ h)
lift_item starred es h = (any, sym (same_Some _ es h), λ rest. refl)

-- WHAT IS READ IS A LIST

-- how much is left of an item counts against the limit
abbrev left_weight : List Token → ℕ
left_weight [] = 0
left_weight (t ∷ ts) = if is_comma t then 0 else weight t + left_weight ts

mutual
  weigh : (s : Sum) (rest : List Token) → left_weight (sum_tokens s rest) ≡ sum_weight s + left_weight rest
  weigh (one p) rest = weigh_product p rest
  weigh (more s p) rest = omega (arith, weigh s (either ∷ product_tokens p rest), weigh_product p rest)

  weigh_product : (p : Product) (rest : List Token) → left_weight (product_tokens p rest) ≡ product_weight p + left_weight rest
  weigh_product (factor x) rest = weigh_factor x rest
  weigh_product (times p x) rest = omega (arith, weigh_product p (both ∷ factor_tokens x rest), weigh_factor x rest)

  weigh_factor : (x : Factor) (rest : List Token) → left_weight (factor_tokens x rest) ≡ factor_weight x + left_weight rest
  weigh_factor (simple e) rest = refl
  weigh_factor (denied x) rest = omega (arith, weigh_factor x rest)
  weigh_factor (parens s) rest = omega (arith, weigh s (close_paren ∷ rest))

weigh_item : (i : Item) (rest : List Token) → left_weight (item_tokens i rest) ≡ item_weight i + left_weight rest
weigh_item nothing rest = omega arith
weigh_item any rest = refl
weigh_item (some s) rest = weigh s rest

-- the first item of a list is no more than all before its comma
first_within : (i : Item) (js : List Item) → item_weight i ≤ left_weight (list_tokens i js)
first_within i [] = omega (arith, weigh_item i [])
first_within i (j ∷ js) = omega (arith, weigh_item i (comma ∷ list_tokens j js))

comma_is : (t : Token) → is_comma t ≡ true → t ≡ comma
comma_is comma h = refl
comma_is (operand e) h = absurd (true≢false (sym h))
comma_is bang h = absurd (true≢false (sym h))
comma_is both h = absurd (true≢false (sym h))
comma_is either h = absurd (true≢false (sym h))
comma_is open_paren h = absurd (true≢false (sym h))
comma_is close_paren h = absurd (true≢false (sym h))
comma_is star h = absurd (true≢false (sym h))

abbrev state : List Expr → ℕ → Place Expr → State
state list left p = record { list = list; left = left; place = p }

-- the whole is a list, of which so much was read up to a place
record Says (left : ℕ) (p : Spot) (rest : Tokens) (es : List Expr) : Type 0 where
  tokens : List Token
  all : all_tokens rest ≡ Some tokens
  first : Item
  others : List Item
  spells : before p tokens ≡ list_tokens first others
  within : left_weight tokens ≤ left
  are_within : AreWithin others
  says : es ≡ list_exprs first others

abbrev Adds : List Expr → ℕ → Spot → Tokens → List Expr → Type 0
Adds list left p rest es = (new : List Expr) × (es ≡ list ++ new) × Says left p rest new

abbrev Reads : Tokens → Type 0
Reads rest = (list : List Expr) (left : ℕ) (p : Spot) (es : List Expr)
    → reading_from (state list left (place p)) rest ≡ Some es → Adds list left p rest es

sound_end : (list : List Expr) (left : ℕ) (p : Spot) (es : List Expr) (o : Option (List Expr)) → item (place p) ≡ o
    → option_map (λ these. list ++ these) o ≡ Some es → Adds list left p ends es
sound_end list left p es None is h = no_some es h
sound_end list left p es (Some these) is h =
    let e = lift_item p these is in (
      these,
      sym (same_Some _ es h),
      record {
        tokens = [];
        all = refl;
        first = e.0;
        others = [];
        spells = e.2 [];
        within = omega arith;
        are_within = tt;
        says = e.1;
      },
    )

module _ (t : Token) (rest : Tokens) (reads : Reads rest) (list : List Expr) (left : ℕ) (p : Spot) (es : List Expr) where
  abbrev go : Option State → Option (List Expr)
  go o = option_and_then (λ s. reading_from s rest) o

  -- a comma
  sound_comma : is_comma t ≡ true → (o : Option (List Expr)) → item (place p) ≡ o
      → go (option_map beginning (option_map (λ these. list ++ these) o)) ≡ Some es → Adds list left p (next t rest) es
  sound_comma comma_here None is h = no_some es h
  sound_comma comma_here (Some these) is h =
      let e = lift_item p these is in
      let later = reads (list ++ these) 250 (wants []) es h in
      let said = later.2 in
      let ts : List Token = said.tokens in
      let none : left_weight (t ∷ ts) ≡ 0 = ap (λ b. if b then 0 else weight t + left_weight ts) comma_here in
      let fits : item_weight said.first ≤ 250 =
      omega (arith, first_within said.first said.others, ap left_weight said.spells, said.within) in (
        these ++ later.0,
        later.1 ∙ append_assoc list these later.0,
        record {
          tokens = t ∷ ts;
          all = ap (option_map (λ us. t ∷ us)) said.all;
          first = e.0;
          others = said.first ∷ said.others;
          spells = e.2 (t ∷ ts) ∙ ap (λ u. item_tokens e.0 (u ∷ ts)) (comma_is t comma_here)
              ∙ ap (λ us. item_tokens e.0 (comma ∷ us)) said.spells;
          within = omega (arith, none);
          are_within = (fits, said.are_within);
          says = ap (λ es. es ++ later.0) e.1 ∙ ap (λ es. item_exprs e.0 ++ es) said.says;
        },
      )

  -- another token
  sound_step : is_comma t ≡ false → nat_le (weight t) left ≡ true → (o : Option (Place Expr)) → step (place p) t ≡ o
      → go (option_map (λ there. state list (left - weight t) there) o) ≡ Some es → Adds list left p (next t rest) es
  sound_step other small None is h = no_some es h
  sound_step other small (Some q) is h =
      let r = lift_step p t q is in
      let later = reads list (left - weight t) r.0 es
      (subst (λ there. reading_from (state list (left - weight t) there) rest ≡ Some es) (sym r.1) h) in
      let said = later.2 in
      let ts : List Token = said.tokens in
      let longer : left_weight (t ∷ ts) ≡ weight t + left_weight ts =
      ap (λ b. if b then 0 else weight t + left_weight ts) other in
      let fits : weight t ≤ left = grind (arith, nat_tests, small) in (
        later.0,
        later.1,
        record {
          tokens = t ∷ ts;
          all = ap (option_map (λ us. t ∷ us)) said.all;
          first = said.first;
          others = said.others;
          spells = sym (r.2 ts) ∙ said.spells;
          within = omega (arith, fits, longer, said.within);
          are_within = said.are_within;
          says = said.says;
        },
      )

  sound_small : is_comma t ≡ false → (b : Bool) → nat_le (weight t) left ≡ b
      → go (if b then option_map (λ there. state list (left - weight t) there) (step (place p) t) else None) ≡ Some es
      → Adds list left p (next t rest) es
  sound_small other false small h = no_some es h
  sound_small other true small h = sound_step other small (step (place p) t) refl h

  sound_token : (b : Bool) → is_comma t ≡ b
      → go (if b then option_map beginning (finished list (place p)) else within_item (state list left (place p)) t) ≡ Some es
      → Adds list left p (next t rest) es
  sound_token true is h = sound_comma is (item (place p)) refl h
  sound_token false is h = sound_small is (nat_le (weight t) left) refl h

sound_from : (rest : Tokens) → Reads rest
sound_from ends list left p es h = sound_end list left p es (item (place p)) refl h
sound_from stops list left p es h = no_some es h
sound_from (next t rest) list left p es h = sound_token t rest (sound_from rest) list left p es (is_comma t) refl h

pub sound : (xfail : Bool) (text : List ℕ) (es : List Expr) → exprs_in xfail text ≡ Some es → IsList xfail text es
sound xfail text es h =
    let r = sound_from (tokens_from xfail 0 text) [] 250 (wants []) es h in
    let said = r.2 in
    let fits : item_weight said.first ≤ 250 =
    omega (arith, first_within said.first said.others, ap left_weight said.spells, said.within) in
    (said.first, said.others, said.all ∙ ap Some said.spells, (fits, said.are_within), r.1 ∙ said.says)

-- EACH LIST IS READ

-- what is read of a list of tokens
abbrev run : State → List Token → Option (List Expr)
run s [] = finished s.list s.place
run s (t ∷ ts) = option_and_then (λ there. run there ts) (after s t)

-- a token that goes on
one_step : (l : List Expr) (n : ℕ) (p q : Place Expr) (t : Token) (ts : List Token) → is_comma t ≡ false
    → step p t ≡ Some q → run (state l (weight t + n) p) (t ∷ ts) ≡ run (state l n q) ts
one_step l n p q t ts other is =
    let small : nat_le (weight t) (weight t + n) ≡ true = grind (arith, nat_tests) in
    let less : weight t + n - weight t ≡ n = omega arith in
    let put : Place Expr → State = λ there. state l (weight t + n - weight t) there in
    let go : Option State → Option (List Expr) = λ o. option_and_then (λ there. run there ts) o in
    ap (λ b. go (if b then option_map beginning (finished l p) else within_item (state l (weight t + n) p) t)) other
    ∙ ap (λ b. go (if b then option_map put (step p t) else None)) small
    ∙ ap (λ o. go (option_map put o)) is
    ∙ ap (λ k. run (state l k q) ts) less

-- one that doesn't count
free_step : (l : List Expr) (n : ℕ) (p q : Place Expr) (t : Token) (ts : List Token) → is_comma t ≡ false → weight t ≡ 0
    → step p t ≡ Some q → run (state l n p) (t ∷ ts) ≡ run (state l n q) ts
free_step l n p q t ts other free is =
    let e : n ≡ weight t + n = omega (arith, free) in
    ap (λ k. run (state l k p) (t ∷ ts)) e ∙ one_step l n p q t ts other is

runs_with : (l : List Expr) (m n : ℕ) (p : Place Expr) (ts : List Token) (o : Option (List Expr)) → m ≡ n
    → run (state l m p) ts ≡ o → run (state l n p) ts ≡ o
runs_with l m n p ts o e h = subst (λ k. run (state l k p) ts ≡ o) e h

-- no `!`, no left side of `&&`, and no left side of `||` is open here
abbrev IsFree : List (Frame Expr) → Type 0
IsFree [] = Unit {0}
IsFree (reader.denied ∷ fs) = ⊥
IsFree (reader.and_behind e ∷ fs) = ⊥
IsFree (f ∷ fs) = Unit {0}

abbrev IsFresh : List (Frame Expr) → Type 0
IsFresh [] = Unit {0}
IsFresh (reader.paren ∷ fs) = Unit {0}
IsFresh (f ∷ fs) = ⊥

free_taken : (fs : List (Frame Expr)) (e : Expr) → IsFree fs → taken fs e ≡ reader.has fs e
free_taken [] e h = refl
free_taken (reader.denied ∷ fs) e h = absurd h
free_taken (reader.and_behind s ∷ fs) e h = absurd h
free_taken (reader.or_behind s ∷ fs) e h = refl
free_taken (reader.paren ∷ fs) e h = refl

fresh_free : (fs : List (Frame Expr)) → IsFresh fs → IsFree fs
fresh_free [] h = tt
fresh_free (reader.denied ∷ fs) h = absurd h
fresh_free (reader.and_behind e ∷ fs) h = absurd h
fresh_free (reader.or_behind e ∷ fs) h = tt
fresh_free (reader.paren ∷ fs) h = tt

-- the place behind a sum
abbrev behind_sum : List (Frame Expr) → Sum → Place Expr
behind_sum fs (one p) = reader.has fs (product_expr p)
behind_sum fs (more s p) = reader.has (reader.or_behind (sum_expr s) ∷ fs) (product_expr p)

fresh_summed : (fs : List (Frame Expr)) (e : Expr) → IsFresh fs → summed fs e ≡ (fs, e)
fresh_summed [] e h = refl
fresh_summed (reader.paren ∷ fs) e h = refl
fresh_summed (reader.denied ∷ fs) e h = absurd h
fresh_summed (reader.and_behind s ∷ fs) e h = absurd h
fresh_summed (reader.or_behind s ∷ fs) e h = absurd h

-- behind a sum an `||`, a `)` and the end find the sum
either_step : (fs : List (Frame Expr)) (s : Sum) → IsFresh fs
    → step (behind_sum fs s) either ≡ Some (reader.wants (reader.or_behind (sum_expr s) ∷ fs))
either_step fs (one p) h = ap (λ r. Some (or_open r)) (fresh_summed fs (product_expr p) h)
either_step fs (more s p) h = refl

close_step : (fs : List (Frame Expr)) (s : Sum)
    → step (behind_sum (reader.paren ∷ fs) s) close_paren ≡ Some (taken fs (sum_expr s))
close_step fs (one p) = refl
close_step fs (more s p) = refl

end_item : (s : Sum) → item (behind_sum [] s) ≡ Some (sum_expr s ∷ [])
end_item (one p) = refl
end_item (more s p) = refl

mutual
  runs_sum : (s : Sum) (l : List Expr) (n : ℕ) (fs : List (Frame Expr)) (rest : List Token) → IsFresh fs
      → run (state l (sum_weight s + n) (reader.wants fs)) (sum_tokens s rest) ≡ run (state l n (behind_sum fs s)) rest
  runs_sum (one p) l n fs rest fresh = runs_product p l n fs rest (fresh_free fs fresh)
  runs_sum (more s p) l n fs rest fresh =
      let m : ℕ = 1 + (product_weight p + n) in
      runs_with l (sum_weight s + m) (sum_weight s + (1 + product_weight p) + n) (reader.wants fs)
      (sum_tokens s (either ∷ product_tokens p rest)) (run (state l n (behind_sum fs (more s p))) rest) (omega arith)
      (runs_sum s l m fs (either ∷ product_tokens p rest) fresh
      ∙ one_step l (product_weight p + n) (behind_sum fs s) (reader.wants (reader.or_behind (sum_expr s) ∷ fs)) either
      (product_tokens p rest) refl (either_step fs s fresh)
      ∙ runs_product p l n (reader.or_behind (sum_expr s) ∷ fs) rest tt)

  runs_product : (p : Product) (l : List Expr) (n : ℕ) (fs : List (Frame Expr)) (rest : List Token) → IsFree fs
      → run (state l (product_weight p + n) (reader.wants fs)) (product_tokens p rest)
      ≡ run (state l n (reader.has fs (product_expr p))) rest
  runs_product (factor x) l n fs rest free =
      runs_factor x l n fs rest ∙ ap (λ there. run (state l n there) rest) (free_taken fs (factor_expr x) free)
  runs_product (times p x) l n fs rest free =
      let m : ℕ = 1 + (factor_weight x + n) in
      runs_with l (product_weight p + m) (product_weight p + (1 + factor_weight x) + n) (reader.wants fs)
      (product_tokens p (both ∷ factor_tokens x rest)) (run (state l n (reader.has fs (product_expr (times p x)))) rest)
      (omega arith)
      (runs_product p l m fs (both ∷ factor_tokens x rest) free
      ∙ one_step l (factor_weight x + n) (reader.has fs (product_expr p))
      (reader.wants (reader.and_behind (product_expr p) ∷ fs)) both (factor_tokens x rest) refl refl
      ∙ runs_factor x l n (reader.and_behind (product_expr p) ∷ fs) rest)

  runs_factor : (x : Factor) (l : List Expr) (n : ℕ) (fs : List (Frame Expr)) (rest : List Token)
      → run (state l (factor_weight x + n) (reader.wants fs)) (factor_tokens x rest)
      ≡ run (state l n (taken fs (factor_expr x))) rest
  runs_factor (simple e) l n fs rest = one_step l n (reader.wants fs) (taken fs e) (operand e) rest refl refl
  runs_factor (denied x) l n fs rest =
      runs_with l (1 + (factor_weight x + n)) (1 + factor_weight x + n) (reader.wants fs) (bang ∷ factor_tokens x rest)
      (run (state l n (taken fs (negation (factor_expr x)))) rest) (omega arith)
      (one_step l (factor_weight x + n) (reader.wants fs) (reader.wants (reader.denied ∷ fs)) bang (factor_tokens x rest)
      refl refl
      ∙ runs_factor x l n (reader.denied ∷ fs) rest)
  runs_factor (parens s) l n fs rest =
      runs_with l (1 + (sum_weight s + n)) (1 + sum_weight s + n) (reader.wants fs)
      (open_paren ∷ sum_tokens s (close_paren ∷ rest)) (run (state l n (taken fs (sum_expr s))) rest) (omega arith)
      (one_step l (sum_weight s + n) (reader.wants fs) (reader.wants (reader.paren ∷ fs)) open_paren
      (sum_tokens s (close_paren ∷ rest)) refl refl
      ∙ runs_sum s l n (reader.paren ∷ fs) (close_paren ∷ rest) tt
      ∙ free_step l n (behind_sum (reader.paren ∷ fs) s) (taken fs (sum_expr s)) close_paren rest refl refl
      (close_step fs s))

-- an item, at its comma and at the end
runs_item : (i : Item) (l : List Expr) (rest : List Token) → item_weight i ≤ 250 → (n : ℕ) × (p : Place Expr)
    × (run (state l 250 (reader.wants [])) (item_tokens i rest) ≡ run (state l n p) rest) × (item p ≡ Some (item_exprs i))
runs_item nothing l rest fits = (250, reader.wants [], refl, refl)
runs_item any l rest fits =
    (250, reader.starred, free_step l 250 (reader.wants []) reader.starred star rest refl refl refl, refl)
runs_item (some s) l rest fits =
    let n : ℕ = 250 - sum_weight s in
    let e : sum_weight s + n ≡ 250 = omega (arith, fits) in (
      n,
      behind_sum [] s,
      runs_with l (sum_weight s + n) 250 (reader.wants []) (sum_tokens s rest)
          (run (state l n (behind_sum [] s)) rest) e (runs_sum s l n [] rest tt),
      end_item s,
    )

runs_list : (i : Item) (js : List Item) (l : List Expr) → AreWithin (i ∷ js)
    → run (state l 250 (reader.wants [])) (list_tokens i js) ≡ Some (l ++ list_exprs i js)
runs_list i [] l within =
    let r = runs_item i l [] within.0 in r.2 ∙ ap (option_map (λ these. l ++ these)) r.3
runs_list i (j ∷ js) l within =
    let r = runs_item i l (comma ∷ list_tokens j js) within.0 in
    r.2
    ∙ ap (λ o. option_and_then (λ there. run there (list_tokens j js)) (option_map beginning (option_map (λ these.
    l ++ these) o))) r.3
    ∙ runs_list j js (l ++ item_exprs i) within.1
    ∙ ap Some (append_assoc l (item_exprs i) (list_exprs j js))

-- reading tokens as they stand in the text
abbrev RunsAs : Tokens → Type 0
RunsAs rest = (s : State) (ts : List Token) → all_tokens rest ≡ Some ts → reading_from s rest ≡ run s ts

runs_next : (t : Token) (rest : Tokens) → RunsAs rest → (s : State) (ts : List Token) (o : Option (List Token))
    → all_tokens rest ≡ o → option_map (λ us. t ∷ us) o ≡ Some ts → reading_from s (next t rest) ≡ run s ts
runs_next t rest runs s ts None is h = no_some ts h
runs_next t rest runs s ts (Some us) is h = goes (after s t) ∙ ap (run s) (same_Some (t ∷ us) ts h)
  where
    goes : (o : Option State)
        → option_and_then (λ there. reading_from there rest) o ≡ option_and_then (λ there. run there us) o
    goes None = refl
    goes (Some there) = runs there us is

runs_as : (rest : Tokens) → RunsAs rest
runs_as ends s ts h = ap (run s) (same_Some [] ts h)
runs_as stops s ts h = no_some ts h
runs_as (next t rest) s ts h = runs_next t rest (runs_as rest) s ts (all_tokens rest) refl h

pub complete : (xfail : Bool) (text : List ℕ) (es : List Expr) → IsList xfail text es → exprs_in xfail text ≡ Some es
complete xfail text es h =
    runs_as (tokens_from xfail 0 text) (beginning []) (list_tokens h.0 h.1) h.2
    ∙ runs_list h.0 h.1 [] h.3 ∙ ap Some (sym h.4)
