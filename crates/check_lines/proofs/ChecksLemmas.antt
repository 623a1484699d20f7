-- The lines of a text one by one, and what they hold so far.
-- Shown: the value that is read line by line, and that it is what the lines hold, each in its place. A record keeps both at
-- the beginning of each line. The hard one is `hold_next`: between two beginnings no line begins.
use Rattle.std.proofs.Common.{◌≡◌, ◌⊎◌, ℕ, zero, suc, ◌+◌, ◌-◌, ◌<◌, ◌≤◌, false, true, not, List, [], ◌∷◌, ◌++◌, Bool, ◌&&◌, ◌||◌, Option, None, Some, Result, Ok, Err, All, length, get_or, take, drop, refl, sym, ◌∙◌, ap, subst, inl, inr, arith, append_assoc, append-nil, le_refl, length-drop, take_all, ⊎_elim}
use Rattle.std.specs.Prelude.{AllPairs, Contains, nat_lt}
use Rattle.std.specs.List.{list_any}
use Rattle.std.proofs.lemmas.Bool.{cases_lt}
use Rattle.std.proofs.lemmas.Bool.Decides.{nat_tests}
use Rattle.std.proofs.lemmas.List.{drop-drop, get_or-drop, get_or-take, length-take-le}
use Rattle.std.proofs.lemmas.List.Elements.{All-from_all_within, All-get_or, All-head, All-tail, All-nil, All-push, All-weaker, Contains-append_left, Contains-append_right}
use Rattle.std.proofs.lemmas.List.Quantifiers.{all_pairs_push}
use Rattle.std.proofs.lemmas.List.Splits.{slice_split_first, slice_split_none}
use Rattle.std.proofs.lemmas.List.Sums.{count_by_more_no, count_by_more_yes, fails_before_first, passes_at_first, prefix_len-le-length, suffix_len_is, suffix_len-le-length}
use Rattle.std.specs.List.{after_last, count_by, position_or_len, slice_split, suffix_len}
use Rattle.tt_base.specs.Place.{is_newline, line_end, place_at}
use Rattle.tt_base.specs.declared.place.Place.{Place}
use Rattle.check_lines.specs.Checks.{AddsLine, BeginsLine, FailIsPlaced, IsPlaced, IsRefusalOf, earlier_at, earlier_behind, join_reading}
use Rattle.check_lines.specs.Checks.{AreDirectives as AreDirectivesBy, FailIsFirst as FailIsFirstBy, HoldBefore as HoldBeforeBy, HoldsAt as HoldsAtBy, line_at as line_at_by, read_lines as read_lines_by, read_lines_from as read_lines_from_by}
use Rattle.check_lines.specs.Kind.{is_earlier}
use Rattle.check_lines.specs.Line.{IsOnLine, LiesAmong, LiesOnLine, read_line as read_line_by}
use Rattle.check_lines.specs.declared.directive.Directive.{Directive}
use Rattle.check_lines.specs.declared.fault.CheckFail.{CheckFail}
use Rattle.check_lines.specs.declared.fault.CheckFail.TheVariants.{Bad, NoMemory}
use Rattle.check_lines.specs.declared.fault.CheckFault.{CheckFault}

-- ---- where a line ends

position_fits : (xs : List ℕ) → position_or_len is_newline xs ≤ length xs
position_fits xs = prefix_len-le-length _ xs

-- where the first line ends
line_end_is : (text : List ℕ) (start : ℕ) → line_end text start ≡ start + position_or_len is_newline (drop start text)
line_end_is text start =
    ap (λ n. start + n) (length-take-le (position_or_len is_newline (drop start text)) (drop start text)
    (position_fits (drop start text)))

module _ (text : List ℕ) (start end : ℕ) (low : start ≤ length text) (is : end ≡ line_end text start) where
  pub end_above : start ≤ end
  end_above = omega (arith, line_end_is text start)

  pub end_within : end ≤ length text
  end_within = omega (arith, line_end_is text start, position_fits (drop start text), length-drop start text)

  line_length : length (take (end - start) (drop start text)) ≡ end - start
  line_length = length-take-le (end - start) (drop start text) (omega (arith, end_within, length-drop start text))

  -- no byte of the line is a newline
  no_newline : (k : ℕ) → start ≤ k → k < end → is_newline (get_or text k 0) ≡ false
  no_newline k above below =
      let there : start + (k - start) ≡ k = omega arith in
      ap (λ n. is_newline (get_or text n 0)) (sym there) ∙ ap is_newline (sym (get_or-drop start text (k - start) 0))
      ∙ fails_before_first is_newline (drop start text) (k - start) 0 (omega (arith, line_end_is text start))

  -- the byte behind it is one
  newline_at : end < length text → is_newline (get_or text end 0) ≡ true
  newline_at inside =
      let n = position_or_len is_newline (drop start text) in
      let at_end : start + n ≡ end = sym (is ∙ line_end_is text start) in
      ap (λ k. is_newline (get_or text k 0)) (sym at_end) ∙ ap is_newline (sym (get_or-drop start text n 0))
      ∙ passes_at_first is_newline (drop start text) 0 (omega (arith, length-drop start text))

  -- the last line
  last_line : end ≡ length text → slice_split is_newline (drop start text) ≡ take (end - start) (drop start text) ∷ []
  last_line ends =
      let rest = drop start text in
      let n = position_or_len is_newline rest in
      let at_end : end ≡ start + n = is ∙ line_end_is text start in
      let whole : length rest ≡ n = omega (arith, length-drop start text) in
      let same : take (end - start) rest ≡ rest = take_all (end - start) rest (omega arith) in
      slice_split_none is_newline rest (All-from_all_within (λ x. is_newline x ≡ false) rest
      (λ k d low_k below. fails_before_first is_newline rest k d (omega arith)))
      ∙ ap (λ l. l ∷ []) (sym same)

  -- a line before others
  next_line : end < length text → slice_split is_newline (drop start text)
      ≡ take (end - start) (drop start text) ∷ slice_split is_newline (drop (end + 1) text)
  next_line inside =
      let rest = drop start text in
      let n = position_or_len is_newline rest in
      let at_end : end ≡ start + n = is ∙ line_end_is text start in
      let found : n < length rest = omega (arith, length-drop start text) in
      let count : n ≡ end - start = omega arith in
      let later : start + (n + 1) ≡ end + 1 = omega arith in
      slice_split_first is_newline rest 0 found
      ∙ ap (λ k. take k rest ∷ slice_split is_newline (drop (n + 1) rest)) count
      ∙ ap (λ l. take (end - start) rest ∷ slice_split is_newline l)
      (drop-drop (n + 1) start text ∙ ap (λ k. drop k text) later)

  -- ---- the places of a line

  count_to : (k : ℕ) → start + k ≤ end → count_by is_newline (take (start + k) text) ≡ count_by is_newline (take start text)
  count_to zero within = let none : start + 0 ≡ start = omega arith in ap (λ n. count_by is_newline (take n text)) none
  count_to (suc k) within =
      let next : start + suc k ≡ start + k + 1 = omega arith in
      let inside : start + k < length text = omega (arith, within, end_within) in
      ap (λ n. count_by is_newline (take n text)) next
      ∙ count_by_more_no is_newline text (start + k) 0 inside (no_newline (start + k) (omega arith) (omega (arith, within)))
      ∙ count_to k (omega (arith, within))

  -- the lines before an offset of the line are those before the line
  same_count : (at : ℕ) → start ≤ at → at ≤ end → count_by is_newline (take at text) ≡ count_by is_newline (take start text)
  same_count at above below =
      let there : at ≡ start + (at - start) = omega arith in
      ap (λ n. count_by is_newline (take n text)) there ∙ count_to (at - start) (omega arith)

  -- and the bytes before it are those of the line
  front_length : BeginsLine text start → (at : ℕ) → start ≤ at → at ≤ end
      → length (after_last is_newline (take at text)) ≡ at - start
  front_length begins at above below =
      let front = take at text in
      let long : length front ≡ at = length-take-le at text (omega (arith, below, end_within)) in
      let q = λ (x : ℕ). not (is_newline x) in
      let measured : suffix_len q front ≡ length front - start =
      suffix_len_is q front start 0 (omega (arith, long, above))
      (λ k low_k high. let inside : k < at = omega (arith, long, high) in
      ap q (get_or-take at text k 0 inside) ∙ ap not (no_newline k low_k (omega (arith, inside, below))))
      (λ some. let inside : start - 1 < at = omega (arith, some, above) in
      ap q (get_or-take at text (start - 1) 0 inside) ∙ ap not (begins.behind some)) in
      omega (arith, length-drop (length front - suffix_len q front) front, suffix_len-le-length q front)

  -- what stands on the line has the place of its offset
  place_is : (number at : ℕ) (place : Place) → BeginsLine text start → number ≡ count_by is_newline (take start text) + 1
      → IsOnLine number start end at place → place ≡ place_at text at
  place_is number at place begins counted on =
      let make : ℕ → ℕ → Place = λ line col. record { line = line; col = col } in
      let line : place.line ≡ count_by is_newline (take at text) + 1 =
      on.line ∙ counted ∙ ap (λ n. n + 1) (sym (same_count at on.low on.high)) in
      let col : place.col ≡ length (after_last is_newline (take at text)) + 1 =
      omega (arith, on.col, on.low, front_length begins at on.low on.high) in
      ap (λ n. make n place.col) line ∙ ap (make (count_by is_newline (take at text) + 1)) col

  -- a line that begins before the end of this one begins before it or is it
  begins_where : (other : ℕ) → BeginsLine text other → other < end + 1 → (other < start) ⊎ (other ≡ start)
  begins_where other begins below =
      ⊎_elim (λ (before : other < start). inl before)
      (λ (above : start ≤ other). ⊎_elim
      (λ (behind : start < other). absurd (impossible (sym (begins.behind (omega arith))
      ∙ no_newline (other - 1) (omega arith) (omega arith))))
      (λ (here : other ≤ start). inr (omega arith)) (cases_lt start other)) (cases_lt other start)
    where
      impossible : true ≡ false → ⊥
      impossible same = cc

-- ---- the value so far

-- what was found before what is found later
abbrev pub joined : List Directive → Result (List Directive) CheckFault → Result (List Directive) CheckFault
joined found (Ok later) = Ok (found ++ later)
joined found (Err fault) = Err fault

joined_some : (found : List Directive) (one : Directive) (later : Result (List Directive) CheckFault)
    → joined found (join_reading (Ok (Some one)) later) ≡ joined (found ++ one ∷ []) later
joined_some found one (Ok later) = ap Ok (sym (append_assoc found (one ∷ []) later))
joined_some found one (Err fault) = refl

-- a line is added
joined_line : (old new : List Directive) (found : Bool) (reading : Result (Option Directive) CheckFault)
    (later : Result (List Directive) CheckFault)
    → AddsLine old new found reading → joined old (join_reading reading later) ≡ joined new later
joined_line old new found (Ok None) later adds = ap (λ l. joined l later) (sym adds.0)
joined_line old new found (Ok (Some one)) later adds = joined_some old one later ∙ ap (λ l. joined l later) (sym adds.0)
joined_line old new found (Err fault) later adds = absurd adds

joined-nil : (found : List Directive) → joined found (Ok []) ≡ Ok found
joined-nil found = ap Ok (append-nil found)

joined-start : (reading : Result (List Directive) CheckFault) → joined [] reading ≡ reading
joined-start (Ok found) = refl
joined-start (Err fault) = refl

-- ---- whether a match came earlier

or_false : (b : Bool) → (b || false) ≡ b
or_false true = refl
or_false false = refl

and_false : (b : Bool) → (b && false) ≡ false
and_false true = refl
and_false false = refl

any_snoc : (p : Directive → Bool) (front : List Directive) (one : Directive)
    → list_any p (front ++ one ∷ []) ≡ (list_any p front || p one)
any_snoc p [] one = refl_or (p one)
  where
    refl_or : (b : Bool) → (b || false) ≡ (false || b)
    refl_or true = refl
    refl_or false = refl
any_snoc p (first ∷ front) one = ap (λ b. p first || b) (any_snoc p front one) ∙ or_assoc (p first) (list_any p front) (p one)
  where
    or_assoc : (a b c : Bool) → (a || (b || c)) ≡ ((a || b) || c)
    or_assoc true b c = refl
    or_assoc false b c = refl

not_below : (at start : ℕ) → start ≤ at → nat_lt at start ≡ false
not_below at start above = grind (arith, nat_tests)

is_below : (at start : ℕ) → at < start → nat_lt at start ≡ true
is_below at start below = grind (arith, nat_tests)

-- behind all of the directives, each counts
earlier_all : (found : List Directive) (start : ℕ) → All (λ one. one.at < start) found
    → earlier_at found start ≡ list_any (λ one. is_earlier one.kind) found
earlier_all [] start heads = refl
earlier_all (one ∷ found) start heads =
    let here : (is_earlier one.kind && nat_lt one.at start) ≡ is_earlier one.kind =
    ap (λ b. is_earlier one.kind && b) (is_below one.at start (All-head (λ one. one.at < start) one found heads))
    ∙ and_true (is_earlier one.kind) in
    ap (λ b. b || earlier_at found start) here
    ∙ ap (λ b. is_earlier one.kind || b) (earlier_all found start (All-tail (λ one. one.at < start) one found heads))
  where
    and_true : (b : Bool) → (b && true) ≡ b
    and_true true = refl
    and_true false = refl

-- what a line holds counts for no line before it
earlier_same : (old new : List Directive) (found : Bool) (number start end other : ℕ) (reading : Result (Option Directive) CheckFault)
    → other ≤ start → AddsLine old new found reading → LiesOnLine number start end reading
    → earlier_at new other ≡ earlier_at old other
earlier_same old new found number start end other (Ok None) before adds lies = ap (λ l. earlier_at l other) adds.0
earlier_same old new found number start end other (Ok (Some one)) before adds lies =
    ap (λ l. earlier_at l other) adds.0 ∙ any_snoc (λ one. is_earlier one.kind && nat_lt one.at other) old one
    ∙ ap (λ b. earlier_at old other || (is_earlier one.kind && b))
    (not_below one.at other (omega (arith, before, lies.0.low)))
    ∙ ap (λ b. earlier_at old other || b) (and_false (is_earlier one.kind)) ∙ or_false (earlier_at old other)
earlier_same old new found number start end other (Err fault) before adds lies = absurd adds

-- whether a match came before what is behind a line
earlier_next : (old new : List Directive) (found : Bool) (reading : Result (Option Directive) CheckFault)
    → AddsLine old new found reading
    → (list_any (λ one. is_earlier one.kind) old || found) ≡ list_any (λ one. is_earlier one.kind) new
earlier_next old new found (Ok None) adds =
    ap (λ b. list_any (λ one. is_earlier one.kind) old || b) adds.1 ∙ or_false (list_any (λ one. is_earlier one.kind) old)
    ∙ ap (list_any (λ (one : Directive). is_earlier one.kind)) (sym adds.0)
earlier_next old new found (Ok (Some one)) adds =
    ap (λ b. list_any (λ one. is_earlier one.kind) old || b) adds.1 ∙ sym (any_snoc (λ one. is_earlier one.kind) old one)
    ∙ ap (list_any (λ (one : Directive). is_earlier one.kind)) (sym adds.0)
earlier_next old new found (Err fault) adds = absurd adds

behind_is : (earlier found : Bool) (old new : List Directive) (reading : Result (Option Directive) CheckFault)
    → AddsLine old new found reading → earlier_behind earlier reading ≡ (earlier || found)
behind_is earlier found old new (Ok None) adds = sym (ap (λ b. earlier || b) adds.1 ∙ or_false earlier)
behind_is earlier found old new (Ok (Some one)) adds = ap (λ b. earlier || b) (sym adds.1)
behind_is earlier found old new (Err fault) adds = absurd adds

-- ---- a line more

-- what holds of what was found holds with what a line holds
pushed_all : (P : Directive → Type 0) (old new : List Directive) (found : Bool) (reading : Result (Option Directive) CheckFault)
    → All P old → ((one : Directive) → reading ≡ Ok (Some one) → P one) → AddsLine old new found reading → All P new
pushed_all P old new found (Ok None) all here adds = subst (All P) (sym adds.0) all
pushed_all P old new found (Ok (Some one)) all here adds = subst (All P) (sym adds.0) (All-push P old one all (here one refl))
pushed_all P old new found (Err fault) all here adds = absurd adds

pushed_order : (old new : List Directive) (found : Bool) (number start end : ℕ) (reading : Result (Option Directive) CheckFault)
    → AllPairs (λ one later. one.at < later.at) old → All (λ one. one.at < start) old → AddsLine old new found reading
    → LiesOnLine number start end reading → AllPairs (λ one later. one.at < later.at) new
pushed_order old new found number start end (Ok None) ordered heads adds lies =
    subst (AllPairs (λ one later. one.at < later.at)) (sym adds.0) ordered
pushed_order old new found number start end (Ok (Some one)) ordered heads adds lies =
    subst (AllPairs (λ one later. one.at < later.at)) (sym adds.0)
    (all_pairs_push (λ one later. one.at < later.at) old one ordered
    (λ k d inside. let below = All-get_or (λ one. one.at < start) old k d inside heads in omega (arith, below, lies.0.low)))
pushed_order old new found number start end (Err fault) ordered heads adds lies = absurd adds

-- what was found stays, and what a line holds is found
stays : (old new : List Directive) (found : Bool) (reading : Result (Option Directive) CheckFault) (one : Directive)
    → AddsLine old new found reading → Contains old one → Contains new one
stays old new found (Ok None) one adds there = subst (λ l. Contains l one) (sym adds.0) there
stays old new found (Ok (Some last)) one adds there =
    subst (λ l. Contains l one) (sym adds.0) (Contains-append_left old (last ∷ []) one there)
stays old new found (Err fault) one adds there = absurd adds

is_found : (old new : List Directive) (found : Bool) (reading : Result (Option Directive) CheckFault) (one : Directive)
    → AddsLine old new found reading → reading ≡ Ok (Some one) → Contains new one
is_found old new found (Ok None) one adds is = cc
is_found old new found (Ok (Some last)) one adds is =
    let same : last ≡ one = cc in
    subst (λ l. Contains l one) (sym adds.0)
    (Contains-append_right old (last ∷ []) one (0, omega arith, same))
is_found old new found (Err fault) one adds is = absurd adds

not_refused : (old new : List Directive) (found : Bool) (reading : Result (Option Directive) CheckFault) (fault : CheckFault)
    → AddsLine old new found reading → reading ≡ Err fault → ⊥
not_refused old new found (Ok None) fault adds is = cc
not_refused old new found (Ok (Some one)) fault adds is = cc
not_refused old new found (Err other) fault adds is = adds

module _ (checks comments : List (List ℕ)) (keep : Bool) where
  abbrev HoldsAt : List ℕ → List Directive → ℕ → Directive → Type 0
  HoldsAt = HoldsAtBy checks comments keep

  abbrev HoldBefore : List ℕ → ℕ → List Directive → Type 0
  HoldBefore = HoldBeforeBy checks comments keep

  abbrev line_at : List ℕ → Bool → ℕ → Result (Option Directive) CheckFault
  line_at = line_at_by checks comments keep

  abbrev read_line : Bool → ℕ → ℕ → List ℕ → Result (Option Directive) CheckFault
  read_line = read_line_by checks comments keep

  abbrev read_lines_from : Bool → ℕ → ℕ → List (List ℕ) → Result (List Directive) CheckFault
  read_lines_from = read_lines_from_by checks comments keep

  abbrev read_lines : List ℕ → Result (List Directive) CheckFault
  read_lines = read_lines_by checks comments keep

  -- how far the reading has come, at the beginning of a line
  pub record ReadBefore (text : List ℕ) (found : List Directive) (earlier : Bool) (number start : ℕ) : Type 0 where
    pub begins : BeginsLine text start
    pub counted : number ≡ count_by is_newline (take start text) + 1
    pub small : number ≤ start + 1
    pub matched : earlier ≡ list_any (λ one. is_earlier one.kind) found
    pub hold : HoldBefore text start found
    pub heads : All (λ one. one.at < start) found
    pub placed : All (IsPlaced text (length checks)) found
    pub same : joined found (read_lines_from earlier number start (slice_split is_newline (drop start text))) ≡ read_lines text

  pub read_none : (text : List ℕ) → ReadBefore text [] false 1 0
  read_none text = record {
    begins = record { within = omega arith; behind = λ none. absurd (omega arith) };
    counted = refl;
    small = omega arith;
    matched = refl;
    hold = record {
      held = All-nil _;
      whole = λ start one below holds. absurd (omega arith);
      ordered = λ i j d low high. absurd (omega arith);
      accepted = λ start fault below refused. absurd (omega arith);
    };
    heads = All-nil _;
    placed = All-nil (IsPlaced text (length checks));
    same = joined-start (read_lines text);
  }

  -- a line that begins before an offset holds a directive, among these
  abbrev HeldBefore : List ℕ → List Directive → ℕ → Directive → Type 0
  HeldBefore text directives end one = (start : ℕ) × (start < end) × HoldsAt text directives start one

  module _ (text : List ℕ) (old new : List Directive) (found earlier : Bool) (number start end : ℕ) (line : List ℕ)
      (so_far : ReadBefore text old earlier number start) (is : end ≡ line_end text start)
      (line_is : line ≡ take (end - start) (drop start text)) where
    low : start ≤ length text
    low = so_far.begins.within

    above : start ≤ end
    above = end_above text start end low is

    pub line_ends : start + length line ≡ end
    line_ends = omega (arith, above, ap length line_is, line_length text start end low is)

    earlier_is : earlier_at old start ≡ earlier
    earlier_is = earlier_all old start so_far.heads ∙ sym so_far.matched

    line_at_is : line_at text (earlier_at old start) start ≡ read_line earlier number start line
    line_at_is =
        ap (λ e. line_at text e start) earlier_is
        ∙ ap (λ n. read_line earlier n start (take (line_end text start - start) (drop start text))) (sym so_far.counted)
        ∙ ap (λ e. read_line earlier number start (take (e - start) (drop start text))) (sym is)
        ∙ ap (read_line earlier number start) (sym line_is)

    on_line : (at : ℕ) (place : Place) → IsOnLine number start end at place → place ≡ place_at text at
    on_line at place on = place_is text start end low is number at place so_far.begins so_far.counted on

    module _ (reading : Result (Option Directive) CheckFault) (reads : read_line earlier number start line ≡ reading)
        (adds : AddsLine old new found reading) (lies : LiesOnLine number start end reading) where
      before_same : (other : ℕ) → other ≤ start → earlier_at new other ≡ earlier_at old other
      before_same other before = earlier_same old new found number start end other reading before adds lies

      line_same : (other : ℕ) → other ≤ start → line_at text (earlier_at new other) other ≡ line_at text (earlier_at old other) other
      line_same other before = ap (λ e. line_at text e other) (before_same other before)

      here_is : line_at text (earlier_at new start) start ≡ reading
      here_is = line_same start (le_refl start) ∙ line_at_is ∙ reads

      lies_at : (one : Directive) → reading ≡ Ok (Some one) → LiesOnLine number start end (Ok (Some one))
      lies_at one is_one = subst (LiesOnLine number start end) is_one lies

      held_next : All (HeldBefore text new (end + 1)) new
      held_next =
          pushed_all (HeldBefore text new (end + 1)) old new found reading
          (All-weaker (HeldBefore text old start) (HeldBefore text new (end + 1))
          (λ one (other, below, holds).
          let before : other ≤ start = omega (arith, below) in
          (other, omega (arith, below, above), (holds.0, line_same other before ∙ holds.1)))
          old so_far.hold.held)
          (λ one is_one. (start, omega (arith, above), (so_far.begins, here_is ∙ is_one))) adds

      -- the lines up to this one hold what was found with it
      hold_next : HoldBefore text (end + 1) new
      hold_next = record {
        held = held_next;
        whole = λ other one below holds. ⊎_elim
            (λ (before : other < start). stays old new found reading one adds
            (so_far.hold.whole other one before (holds.0, sym (line_same other (omega (arith, before))) ∙ holds.1)))
            (λ (here : other ≡ start). is_found old new found reading one adds
            (sym here_is ∙ ap (λ n. line_at text (earlier_at new n) n) (sym here) ∙ holds.1))
            (begins_where text start end low is other holds.0 below);
        ordered = pushed_order old new found number start end reading so_far.hold.ordered so_far.heads adds lies;
        accepted = λ other fault below refused. ⊎_elim
            (λ (before : other < start). so_far.hold.accepted other fault before
            (refused.0, sym (line_same other (omega (arith, before))) ∙ refused.1))
            (λ (here : other ≡ start). not_refused old new found reading fault adds
            (sym here_is ∙ ap (λ n. line_at text (earlier_at new n) n) (sym here) ∙ refused.1))
            (begins_where text start end low is other refused.0 below);
      }

      placed_next : LiesAmong (length checks) reading → All (IsPlaced text (length checks)) new
      placed_next among =
          pushed_all (IsPlaced text (length checks)) old new found reading so_far.placed
          (λ one is_one. let on = lies_at one is_one in
          let few : LiesAmong (length checks) (Ok (Some one)) = subst (LiesAmong (length checks)) is_one among in record {
            head = on_line one.at _ on.0;
            body = on_line one.body.from _ on.1;
            within = omega (arith, on.2, end_within text start end low is);
            prefix = few;
          }) adds

      heads_next : All (λ one. one.at < end + 1) new
      heads_next =
          pushed_all (λ one. one.at < end + 1) old new found reading
          (All-weaker (λ one. one.at < start) (λ one. one.at < end + 1) (λ one below. omega (arith, below, above)) old
          so_far.heads)
          (λ one is_one. let on = lies_at one is_one in omega (arith, on.0.high)) adds

    lies_to : LiesOnLine number start (start + length line) (read_line earlier number start line)
        → LiesOnLine number start end (read_line earlier number start line)
    lies_to lies = subst (λ e. LiesOnLine number start e (read_line earlier number start line)) line_ends lies

    module _ (adds : AddsLine old new found (read_line earlier number start line))
        (lies : LiesOnLine number start (start + length line) (read_line earlier number start line))
        (among : LiesAmong (length checks) (read_line earlier number start line)) where
      -- the last line is read
      pub read_last : end ≡ length text → read_lines text ≡ Ok new
      unfolding read_lines_from_by
      read_last ends =
          let lines : slice_split is_newline (drop start text) ≡ line ∷ [] =
          last_line text start end low is ends ∙ ap (λ l. l ∷ []) (sym line_is) in
          sym so_far.same ∙ ap (λ l. joined old (read_lines_from earlier number start l)) lines
          ∙ joined_line old new found (read_line earlier number start line) (Ok []) adds ∙ joined-nil new

      pub hold_last : end ≡ length text → AreDirectivesBy checks comments keep text new
      hold_last ends =
          subst (λ e. HoldBefore text (e + 1) new) ends
          (hold_next (read_line earlier number start line) refl adds (lies_to lies))

      pub placed_last : All (IsPlaced text (length checks)) new
      placed_last = placed_next (read_line earlier number start line) refl adds (lies_to lies) among

      -- a line before others is read
      pub read_next : end < length text → ReadBefore text new (earlier || found) (number + 1) (end + 1)
      unfolding read_lines_from_by
      read_next inside =
          let reading = read_line earlier number start line in
          let lines : slice_split is_newline (drop start text) ≡ line ∷ slice_split is_newline (drop (end + 1) text) =
          next_line text start end low is inside
          ∙ ap (λ l. l ∷ slice_split is_newline (drop (end + 1) text)) (sym line_is) in
          let later : start + length line + 1 ≡ end + 1 = ap (λ n. n + 1) line_ends in
          let one_less : end + 1 - 1 ≡ end = omega arith in
          let behind = newline_at text start end low is inside in
          let rest = slice_split is_newline (drop (end + 1) text) in
          record {
            begins = record {
              within = omega arith;
              behind = λ some. ap (λ n. is_newline (get_or text n 0)) one_less ∙ behind;
            };
            counted = omega (
              arith,
              so_far.counted,
              count_by_more_yes is_newline text end 0 inside behind,
              same_count text start end low is end above (le_refl end),
            );
            small = omega (arith, so_far.small, above);
            matched = ap (λ b. b || found) so_far.matched ∙ earlier_next old new found reading adds;
            hold = hold_next reading refl adds (lies_to lies);
            heads = heads_next reading refl adds (lies_to lies);
            placed = placed_last;
            same = sym (joined_line old new found reading (read_lines_from (earlier || found) (number + 1) (end + 1) rest) adds)
                ∙ ap (λ b. joined old (join_reading reading (read_lines_from b (number + 1) (end + 1) rest)))
                (sym (behind_is earlier found old new reading adds))
                ∙ ap (λ k. joined old (join_reading reading
                (read_lines_from (earlier_behind earlier reading) (number + 1) k rest))) (sym later)
                ∙ ap (λ l. joined old (read_lines_from earlier number start l)) (sym lines) ∙ so_far.same;
          }

    refused_before : (fault : CheckFault) → read_line earlier number start line ≡ Err fault → (later : List (List ℕ))
        → slice_split is_newline (drop start text) ≡ line ∷ later → read_lines text ≡ Err fault
    unfolding read_lines_from_by
    refused_before fault refused later lines =
        sym so_far.same ∙ ap (λ l. joined old (read_lines_from earlier number start l)) lines
        ∙ ap (λ r. joined old (join_reading r (read_lines_from (earlier_behind earlier r) (number + 1) (start + length line + 1) later)))
        refused

    -- a refused line refuses the text
    pub read_refused : (fail : CheckFail) → IsRefusalOf (read_line earlier number start line) fail → IsRefusalOf (read_lines text) fail
    read_refused NoMemory refused = tt
    read_refused (Bad fault) refused =
        ⊎_elim
        (λ (inside : end < length text). refused_before fault refused (slice_split is_newline (drop (end + 1) text))
        (next_line text start end low is inside
        ∙ ap (λ l. l ∷ slice_split is_newline (drop (end + 1) text)) (sym line_is)))
        (λ (outside : length text ≤ end). let within = end_within text start end low is in refused_before fault refused []
        (last_line text start end low is (omega arith) ∙ ap (λ l. l ∷ []) (sym line_is)))
        (cases_lt end (length text))

    pub first_refused : (fail : CheckFail) → IsRefusalOf (read_line earlier number start line) fail
        → FailIsFirstBy checks comments keep text fail
    first_refused NoMemory refused = tt
    first_refused (Bad fault) refused = record {
      start = start;
      before = old;
      hold = so_far.hold;
      refused = (so_far.begins, line_at_is ∙ refused);
    }

    pub placed_refused : (fail : CheckFail) → IsRefusalOf (read_line earlier number start line) fail
        → LiesOnLine number start (start + length line) (read_line earlier number start line) → FailIsPlaced text fail
    placed_refused NoMemory refused lies = tt
    placed_refused (Bad fault) refused lies =
        let on : IsOnLine number start end fault.at fault.place =
        subst (λ r. LiesOnLine number start end r) refused (lies_to lies) in
        (on_line fault.at fault.place on, omega (arith, on.high, end_within text start end low is))
