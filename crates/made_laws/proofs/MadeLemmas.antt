-- Directive by directive. What a search answers goes by its one hit (`seek`); the chain of the lines behind the first one goes by
-- the list of lines, each step by what the hit or the empty line is (`chain`); the first line stands in front of it.
-- The hard one is `chain`: what a step accepts is the next line, and from its end the rest follows.
use Rattle.std.proofs.Common.{◌≡◌, ◌≢◌, ◌↔◌, ℕ, zero, suc, ◌+◌, ◌-◌, ◌<◌, ◌≤◌, ◌==◌, Bool, true, false, true≢false, if◌then◌else◌, IsTrue, Option, Some, None, List, [], ◌∷◌, ◌++◌, map, length, length-drop, take, drop, get_or, slice_index, count_by, Result, Ok, Err, refl, sym, ap, ◌∙◌, ◌⊎◌, subst, inl, inr, arith}
use Rattle.std.proofs.lemmas.Bool.{cases_lt}
use Rattle.std.proofs.lemmas.Bool.Decides.{nat_tests}
use Rattle.std.proofs.lemmas.List.{drop-drop, get_or-drop, length-take-le}
use Rattle.std.proofs.Math.Seq.{drop-append_seam}
use Rattle.std.proofs.lemmas.Option.{none-some, same_Some}
use Rattle.ere_hit.proofs.ValueLemmas.{value_is_hit}
use Rattle.ere_hit.specs.Value.{hit_in}
use Rattle.ere_tree.proofs.DerivationLemmas.{is_part}
use Rattle.ere_tree.specs.Derivation.{is_line_start}
use Rattle.ere_tree.specs.Hit.{FindsHit, HasNoHit, TellsHit}
use Rattle.ere_tree.specs.Tree.{Tree, alt}
use Rattle.ere_tree.specs.declared.hit.Hit.{Hit}
use Rattle.line_laws.proofs.LeftLemmas.{nothing_is_left, nothing_stands}
use Rattle.line_laws.proofs.StepLemmas.{ends_line, first_is_forced, first_is_found, next_is_forced, next_is_found, one_newline}
use Rattle.line_laws.specs.Left.{AreBytes, AreNewlines, alternatives, any_byte, any_filled, dot}
use Rattle.line_laws.specs.Lines.{Follow, IsTextOf, lines_of}
use Rattle.line_laws.proofs.LinesLemmas.{AreGood, HasNone, good_lines, same_lines}
use Rattle.line_laws.specs.Quoted.{Bit, bytes_in, line_tree}
use Rattle.line_laws.specs.Steps.{BeginsFilled, EndsLine, IsNextLine}
use Rattle.quote_laws.proofs.BodyLemmas.{all_bytes}
use Rattle.quote_laws.proofs.InstanceLemmas.{lines_are_made}
use Rattle.quote_laws.specs.Quote.{bit_of, parts_of}
use Rattle.made_laws.proofs.EmptyLemmas.{empty_lines_are_least}
use Rattle.made_laws.specs.Made.{asks, AreLines, AreMade, AreNext, HasPieces, IsLine, IsOfLine, MadeChecksAreExact, MadeChecksTellLines}
use Rattle.pattern_instance.specs.Instance.{instance_of, made}
use Rattle.pattern_instance.specs.Known.{Known, known_of}
use Rattle.pattern_parse.specs.Item.{Item, regex}
use Rattle.pattern_parse.specs.PieceView.{items_view}
use Rattle.pattern_parse.specs.declared.pattern.Frame.TheVariants.{Open}
use Rattle.pattern_vars.specs.Vars.{bound_all}
use Rattle.pattern_scan.specs.Seek.{answer_of, sought, sought_of}
use Rattle.check_group.specs.Alone.{began_at, came, counted, met}
use Rattle.check_group.specs.Changes.{Variables, binds, changed}
use Rattle.check_group.specs.Lines.{EndsBeforeEmpty, IsEmptyLine, behind_newline, empty_line, newlines, on_next_line}
use Rattle.check_group.specs.Matches.{Came, answered, behind, fails, if_met, looked}
use Rattle.check_group.specs.Region.{excluded_by, fault_before, region}
use Rattle.check_group.specs.declared.answer.Met.{Met}
use Rattle.check_group.specs.declared.directive.Check.{Check}
use Rattle.pattern_parse.specs.declared.demand.Demand.{Demand}
use Rattle.pattern_parse.specs.declared.demand.LineRule.{LineRule}
use Rattle.pattern_parse.specs.declared.demand.LineRule.TheVariants.{Any, Empty, Next}
use Rattle.pattern_parse.specs.declared.demand.Role.{Role}
use Rattle.pattern_parse.specs.declared.demand.Role.TheVariants.{Excluded, Sought}
use Rattle.check_group.specs.declared.fault.Fault.{Fault}
use Rattle.check_group.specs.declared.fault.FaultKind.{FaultKind}
use Rattle.check_group.specs.declared.fault.FaultKind.TheVariants.{NotFound, WrongLine}
use Rattle.check_scan.specs.Block.{End, block, closed, unless}
use Rattle.check_scan.specs.Blocks.{Blocks, block_before, blocks_of, in_first, last}
use Rattle.check_scan.specs.Parts.{Part, finish, part_before, parts_before}
use Rattle.check_scan.specs.Verdict.{scan, verdict}
use Rattle.tt_base.specs.Place.{is_newline, span_of}

-- ---- searches

abbrev bits_of : List ℕ → List Bit
bits_of line = map bit_of (parts_of line)

seek : (check : Check) (items : List Item) (tree : Tree) → HasPieces check items
    → ((known : Known) → known.fold ≡ false → instance_of known Open items ≡ made tree [])
    → (vars : Variables) (text : List ℕ) (from : ℕ)
    → sought check.pattern vars text from check.line ≡ answer_of false text [] (hit_in text tree from)
seek check items tree has is vars text from =
    let line = check.line in
    let p = check.pattern in
    ap (λ fold. sought_of fold text from (instance_of (known_of vars line fold) p.frame (items_view p.pieces))) has.fold
    ∙ ap (λ frame. sought_of false text from (instance_of (known_of vars line false) frame (items_view p.pieces))) has.frame
    ∙ ap (λ pieces. sought_of false text from (instance_of (known_of vars line false) Open pieces)) has.pieces
    ∙ ap (sought_of false text from) (is (known_of vars line false) refl)

seek_line : (line : List ℕ) (check : Check) → IsOfLine line check → (vars : Variables) (text : List ℕ) (from : ℕ)
    → looked text vars check 0 from
    ≡ answered (answer_of false text [] (hit_in text (line_tree (bits_of line)) from)) (NotFound from 0)
seek_line line check has vars text from =
    ap (λ s. answered s (NotFound from 0))
    (seek check _ (line_tree (bits_of line)) has (λ known plain. (lines_are_made known (parts_of line) plain).line) vars text from)

none_cons : (fault : Fault) (faults : List Fault) → fault ∷ faults ≡ [] → ⊥
none_cons fault faults e = let no : suc (length faults) ≡ 0 = ap length e in let off : ⊥ = omega (arith, no) in off

-- a NOT has no fault exactly where its tree has no hit
not_by : (check : Check) (text s : List ℕ) (tree : Tree) (from : ℕ) (hit : Option Hit) → FindsHit text tree from hit
    → (fault_before check (excluded_by (answer_of false text [] hit)) [] ≡ []) ↔ HasNoHit (drop from text) tree
not_by check text s tree from None h = (λ e. h, λ none. refl)
not_by check text s tree from (Some hit) h =
    (λ e. absurd (none_cons _ _ e), λ none. absurd (none _ _ _ _ h.is_hit.shows))

not_is : (check : Check) (items : List Item) (tree : Tree) → HasPieces check items
    → ((known : Known) → known.fold ≡ false → instance_of known Open items ≡ made tree [])
    → (vars : Variables) (text : List ℕ) (from : ℕ)
    → (region text from vars (check ∷ []) ≡ []) ↔ HasNoHit (drop from text) tree
unfolding region
not_is check items tree has is vars text from =
    subst (λ s. (fault_before check (excluded_by s) [] ≡ []) ↔ HasNoHit (drop from text) tree)
    (sym (seek check items tree has is vars text from))
    (not_by check text text tree from (hit_in text tree from) (value_is_hit text tree from))

bytes_behind : (n : ℕ) (s : List ℕ) → AreBytes s → AreBytes (drop n s)
bytes_behind zero s are = are
bytes_behind (suc n) [] are = tt
bytes_behind (suc n) (b ∷ s) are = bytes_behind n s are.1

bytes_before : (n : ℕ) (s : List ℕ) → AreBytes s → AreBytes (take n s)
bytes_before zero s are = tt
bytes_before (suc n) [] are = tt
bytes_before (suc n) (b ∷ s) are = (are.0, bytes_before n s are.1)

end_is : (check : Check) → HasPieces check (regex dot ∷ []) → (vars : Variables) (text : List ℕ) (from : ℕ) → AreBytes text
    → (region text from vars (check ∷ []) ≡ []) ↔ AreNewlines (drop from text)
end_is check has vars text from are =
    let no_hit = not_is check _ any_filled has (λ known plain. (lines_are_made known [] plain).left) vars text from in
    let left = nothing_is_left (drop from text) (bytes_behind from text are) in
    (λ e. left.0 (no_hit.0 e), λ newlines. no_hit.1 (left.1 newlines))

start_is : (check : Check) → HasPieces check (regex (alt alternatives) ∷ []) → (vars : Variables) (text : List ℕ) → AreBytes text
    → (region text 0 vars (check ∷ []) ≡ []) ↔ (text ≡ [])
start_is check has vars text are =
    let no_hit = not_is check _ any_byte has (λ known plain. (lines_are_made known [] plain).stands) vars text 0 in
    let stands = nothing_stands text are in
    (λ e. stands.0 (no_hit.0 e), λ none. no_hit.1 (stands.1 none))

hit_ends : (text : List ℕ) (tree : Tree) (from : ℕ) (hit : Hit) → from ≤ length text → TellsHit text tree from hit
    → hit.to ≤ length text
hit_ends text tree from hit low h =
    let within = (is_part (drop from text) tree h.is_hit.way (hit.from - from) (hit.to - from) _ h.captures h.is_hit.shows).1 in
    omega (arith, within, length-drop from text, low)

-- ---- the chain of lines behind the first one

-- what one match of a directive comes to, and its fault
abbrev matched : Check → Result Met FaultKind → Came
matched check (Ok m) =
    record { outcome = Ok (record { from = m.span.from; to = m.span.to }); changes = binds m.fresh ∷ [] }
matched check (Err kind) = fails check kind

once : List ℕ → Variables → ℕ → Check → Result Met FaultKind → Came
once text vars place check r =
    if_met check r (λ m. behind m.fresh
    (counted text check 0 1 (bound_all vars m.fresh) (began_at 0 m.span.from place) m.span.to))

once_matched : (text : List ℕ) (vars : Variables) (place : ℕ) (check : Check) (r : Result Met FaultKind)
    → once text vars place check r ≡ matched check r
unfolding once counted
once_matched text vars place check (Ok m) = refl
once_matched text vars place check (Err kind) = refl

-- what a directive comes to that is to have one match
came_is : (text : List ℕ) (vars : Variables) (place : ℕ) (check : Check) (role : Role) (rule : LineRule) → check.demand ≡ asks role rule
    → came text vars place check ≡ matched check (met text vars check 0 place rule)
unfolding once counted
came_is text vars place check role rule is =
    let one : check.demand.times ≡ 1 = ap (λ (d : Demand). d.times) is in
    let first : counted text check 1 0 vars place place ≡ once text vars place check (met text vars check 0 place check.demand.rule) = refl in
    ap (λ n. counted text check n 0 vars place place) one ∙ first
    ∙ ap (λ (d : Demand). once text vars place check (met text vars check 0 place d.rule)) is
    ∙ once_matched text vars place check (met text vars check 0 place rule)

-- what follows a step accepts exactly the lines behind it
abbrev Accepts : List ℕ → List (List ℕ) → (ℕ → Variables → End) → Type 0
Accepts text lines rest = (place : ℕ) (vars : Variables) → place ≤ length text → EndsLine (drop place text)
    → ((rest place vars).faults ≡ []) ↔ Follow lines (drop place text)

-- a step that comes to a match or a fault, with nothing pending, accepts a line and those behind it
abbrev StepIs : List ℕ → List ℕ → List (List ℕ) → ℕ → Variables → Check → (ℕ → Variables → End) → Result Met FaultKind → Type 0
StepIs text line lines place vars check rest met =
    ((closed text place vars [] (matched check met) rest).faults ≡ []) ↔ Follow (line ∷ lines) (drop place text)

abbrev met_of : Hit → Met
met_of hit = record { span = span_of hit.from (hit.to - hit.from); fresh = [] }

-- what stands behind a line is one
same_tail : (line a b : List ℕ) → line ++ a ≡ line ++ b → a ≡ b
same_tail line a b e =
    sym (drop-append_seam line a) ∙ ap (λ l. drop (length line) l) e ∙ drop-append_seam line b

same_behind : (line s a b : List ℕ) → s ≡ 10 ∷ (line ++ a) → s ≡ 10 ∷ (line ++ b) → a ≡ b
same_behind line s a b e f = same_tail line a b (ap (λ l. drop 1 l) (sym e ∙ f))

-- ---- NEXT

next_of : (line : List ℕ) (s behind : List ℕ) → IsNextLine s line behind → IsNextLine s (bytes_in (bits_of line)) behind
next_of line s behind h = subst (λ q. IsNextLine s q behind) (sym (all_bytes line)) h

next_hit : (text line : List ℕ) (lines : List (List ℕ)) (place : ℕ) (vars : Variables) (check : Check) (rest : ℕ → Variables → End)
    → BeginsFilled line → place ≤ length text → EndsLine (drop place text) → Accepts text lines rest → (hit : Hit)
    → TellsHit text (line_tree (bits_of line)) place hit → (yes : Bool) → newlines text place hit.from == 1 ≡ yes
    → StepIs text line lines place vars check rest
    (if yes then Ok (met_of hit) else Err (WrongLine hit.from place (newlines text place hit.from)))
unfolding region
next_hit text line lines place vars check rest filled low ends accepts hit h true e =
    let one : newlines text place hit.from ≡ 1 = grind (arith, nat_tests, e) in
    let to : hit.from + (hit.to - hit.from) ≡ hit.to = omega (arith, h.ordered) in
    let next : IsNextLine (drop place text) line (drop hit.to text) =
    subst (λ q. IsNextLine (drop place text) q (drop hit.to text)) (all_bytes line)
    (next_is_forced text (bits_of line) place hit ends h one) in
    let within : hit.from + (hit.to - hit.from) ≤ length text =
    subst (λ n. n ≤ length text) (sym to) (hit_ends text (line_tree (bits_of line)) place hit low h) in
    let behind : EndsLine (drop (hit.from + (hit.to - hit.from)) text) = subst (λ n. EndsLine (drop n text)) (sym to) next.1 in
    let there = accepts (hit.from + (hit.to - hit.from)) (changed vars (binds [] ∷ [])) within behind in (
      λ none. (drop hit.to text, next, subst (λ n. Follow lines (drop n text)) to (there.0 none)),
      λ follow.
          let same : follow.0 ≡ drop hit.to text = same_behind line (drop place text) follow.0 (drop hit.to text) follow.1.0 next.0 in
          there.1 (subst (λ n. Follow lines (drop n text)) (sym to) (subst (Follow lines) same follow.2)),
    )
next_hit text line lines place vars check rest filled low ends accepts hit h false e = (
  λ none. absurd (none_cons _ _ none),
  λ follow.
      let found = next_is_found text (bits_of line) follow.0 place (Some hit)
      (subst BeginsFilled (sym (all_bytes line)) filled) (next_of line (drop place text) follow.0 follow.1) h in
      let same : hit ≡ found.found = same_Some hit found.found found.is in
      let one : newlines text place hit.from ≡ 1 = ap (λ x. newlines text place x.from) same ∙ found.one in
      let yes : newlines text place hit.from == 1 ≡ true = ap (λ n. n == 1) one in
      absurd (true≢false (sym yes ∙ e)),
)

next_by : (text line : List ℕ) (lines : List (List ℕ)) (place : ℕ) (vars : Variables) (check : Check) (rest : ℕ → Variables → End)
    → BeginsFilled line → place ≤ length text → EndsLine (drop place text) → Accepts text lines rest → (hit : Option Hit)
    → FindsHit text (line_tree (bits_of line)) place hit
    → StepIs text line lines place vars check rest
    (on_next_line text place (answered (answer_of false text [] hit) (NotFound place 0)))
next_by text line lines place vars check rest filled low ends accepts None h = (
  λ none. absurd (none_cons _ _ none),
  λ follow.
      let found = next_is_found text (bits_of line) follow.0 place None
      (subst BeginsFilled (sym (all_bytes line)) filled) (next_of line (drop place text) follow.0 follow.1) h in
      absurd (none-some found.found found.is),
)
next_by text line lines place vars check rest filled low ends accepts (Some hit) h =
    next_hit text line lines place vars check rest filled low ends accepts hit h (newlines text place hit.from == 1) refl

-- ---- EMPTY

behind_empty : (text behind : List ℕ) (place : ℕ) → drop place text ≡ 10 ∷ behind → length text - place ≡ suc (length behind)
    → EndsLine behind → (place + 1 ≡ length text) ⊎ ((place + 1 < length text) × (slice_index text (place + 1) ≡ 10))
behind_empty text [] place is long ends = inl (omega (arith, long))
behind_empty text (b ∷ behind) place is long ends =
    inr (omega (arith, long), sym (get_or-drop place text 1 0) ∙ ap (λ l. get_or l 1 0) is ∙ ends)

-- a line ends behind a newline before an empty line
line_behind : (text : List ℕ) (at : ℕ) → EndsBeforeEmpty text at → EndsLine (drop (at + 1) text)
line_behind text at h = ends_line text (at + 1) (elim (h.empty) [
  | inl end ↦ grind (arith, nat_tests, end)
  | inr next ↦ grind (arith, nat_tests, next.1)
])

begins_behind : (s : List ℕ) (i n : ℕ) → i ≡ suc n → get_or s n 0 ≡ 10 → IsTrue (is_line_start s i)
begins_behind s i n is newline =
    let before : i - 1 ≡ n = omega (arith, is) in
    let here : slice_index s (i - 1) ≡ 10 = ap (λ m. get_or s m 0) before ∙ newline in
    grind (arith, nat_tests, here)

empty_here : (text behind : List ℕ) (place : ℕ) → drop place text ≡ 10 ∷ behind → EndsLine behind → EndsBeforeEmpty text place
empty_here text behind place is ends =
    let long : length text - place ≡ suc (length behind) = sym (length-drop place text) ∙ ap length is in
    let zero_more : place + 0 ≡ place = omega arith in
    record {
      within = omega (arith, long);
      newline = sym (sym (ap (λ l. get_or l 0 0) is) ∙ get_or-drop place text 0 0 ∙ ap (λ n. get_or text n 0) zero_more);
      empty = behind_empty text behind place is long ends;
    }

empty_hit : (text : List ℕ) (lines : List (List ℕ)) (place : ℕ) (vars : Variables) (check : Check) (rest : ℕ → Variables → End)
    → place ≤ length text → EndsLine (drop place text) → Accepts text lines rest → (at : ℕ) → IsEmptyLine text place (Some at)
    → (yes : Bool) → newlines text place (at + 1) == 1 ≡ yes
    → StepIs text [] lines place vars check rest
    (if yes then Ok (record { span = span_of (at + 1) 0; fresh = [] }) else Err (WrongLine (at + 1) place (newlines text place (at + 1))))
unfolding region
empty_hit text lines place vars check rest low ends accepts at is true e =
    let s = drop place text in
    let one : newlines text place (at + 1) ≡ 1 = grind (arith, nat_tests, e) in
    let there : place + (at - place) ≡ at = omega (arith, is.0) in
    let behind_it : get_or s (at - place) 0 ≡ 10 =
    get_or-drop place text (at - place) 0 ∙ ap (λ n. get_or text n 0) there ∙ is.1.newline in
    let here : at + 1 - place ≡ suc (at - place) = omega (arith, is.0) in
    let before : suc (at - place) - 1 ≡ at - place = omega arith in
    let begins : IsTrue (is_line_start s (at + 1 - place)) = begins_behind s (at + 1 - place) (at - place) here behind_it in
    let fits : at + 1 - place ≤ length s = omega (arith, is.0, is.1.within, length-drop place text) in
    let first = one_newline s (at + 1 - place) ends begins fits one in
    let place_is : at ≡ place = omega (arith, first.0, is.0) in
    let to : at + 1 + 0 ≡ at + 1 = omega arith in
    let next : IsNextLine s [] (drop (at + 1) text) = (
      first.2 ∙ ap (λ l. 10 ∷ l) (
          sym (ap (λ l. drop 1 l) first.2) ∙ drop-drop 1 place text ∙ ap (λ n. drop (n + 1) text) (sym place_is)),
      line_behind text at is.1,
    ) in
    let within : at + 1 + 0 ≤ length text = omega (arith, is.1.within) in
    let after = accepts (at + 1 + 0) (changed vars (binds [] ∷ [])) within (subst (λ n. EndsLine (drop n text)) (sym to) next.1) in (
      λ none. (drop (at + 1) text, next, subst (λ n. Follow lines (drop n text)) to (after.0 none)),
      λ follow.
          let same : follow.0 ≡ drop (at + 1) text = same_behind [] s follow.0 (drop (at + 1) text) follow.1.0 next.0 in
          after.1 (subst (λ n. Follow lines (drop n text)) (sym to) (subst (Follow lines) same follow.2)),
    )
empty_hit text lines place vars check rest low ends accepts at is false e = (
  λ none. absurd (none_cons _ _ none),
  λ follow.
      let at_place : EndsBeforeEmpty text place = empty_here text follow.0 place follow.1.0 follow.1.1 in
      let place_is : at ≡ place = elim (cases_lt place at) [
        | inl later ↦ absurd (is.2 place (omega arith) later at_place)
        | inr at_most ↦ omega (arith, at_most, is.0)
      ] in
      let step : at + 1 - place ≡ 1 = omega (arith, place_is) in
      let one : newlines text place (at + 1) ≡ 1 =
      ap (λ n. count_by is_newline (take n (drop place text))) step ∙ ap (λ l. count_by is_newline (take 1 l)) follow.1.0 in
      absurd (true≢false (sym (ap (λ n. n == 1) one) ∙ e)),
)

empty_by : (text : List ℕ) (lines : List (List ℕ)) (place : ℕ) (vars : Variables) (check : Check) (rest : ℕ → Variables → End)
    → place ≤ length text → EndsLine (drop place text) → Accepts text lines rest → (found : Option ℕ) → IsEmptyLine text place found
    → StepIs text [] lines place vars check rest (on_next_line text place (behind_newline place found))
empty_by text lines place vars check rest low ends accepts None is = (
  λ none. absurd (none_cons _ _ none),
  λ follow. absurd (is place (omega arith) (empty_here text follow.0 place follow.1.0 follow.1.1)),
)
empty_by text lines place vars check rest low ends accepts (Some at) is =
    empty_hit text lines place vars check rest low ends accepts at is (newlines text place (at + 1) == 1) refl

-- ---- the chain

abbrev rest_of : List ℕ → List Check → ℕ → Variables → End
rest_of text checks place vars = block text [] (parts_before checks (finish ∷ [])) place [] vars

unless_end : (faults : List Fault) (end : End) → end.faults ≡ [] → (unless faults end).faults ≡ faults
unless_end [] end e = e
unless_end (fault ∷ faults) end e = refl

last_is : (text : List ℕ) (check : Check) (place : ℕ) (vars : Variables) → check.demand ≡ asks Excluded Any
    → (rest_of text (check ∷ []) place vars).faults ≡ region text place vars (check ∷ [])
unfolding parts_before block
last_is text check place vars is =
    ap (λ (d : Demand). (block text [] (part_before check d.role (finish ∷ [])) place [] vars).faults) is
    ∙ unless_end (region text place vars (check ∷ [])) _ refl

next_is : (text : List ℕ) (check : Check) (checks : List Check) (place : ℕ) (vars : Variables) → check.demand ≡ asks Sought Next
    → (rest_of text (check ∷ checks) place vars).faults
    ≡ (closed text place vars [] (matched check (on_next_line text place (looked text vars check 0 place))) (rest_of text checks)).faults
unfolding parts_before block
next_is text check checks place vars is =
    ap (λ (d : Demand). (block text [] (part_before check d.role (parts_before checks (finish ∷ []))) place [] vars).faults) is
    ∙ ap (λ come. (closed text place vars [] come (rest_of text checks)).faults) (came_is text vars place check Sought Next is)

empty_is : (text : List ℕ) (check : Check) (checks : List Check) (place : ℕ) (vars : Variables) → check.demand ≡ asks Sought Empty
    → (rest_of text (check ∷ checks) place vars).faults
    ≡ (closed text place vars [] (matched check (on_next_line text place (behind_newline place (empty_line text place))))
    (rest_of text checks)).faults
unfolding parts_before block
empty_is text check checks place vars is =
    ap (λ (d : Demand). (block text [] (part_before check d.role (parts_before checks (finish ∷ []))) place [] vars).faults) is
    ∙ ap (λ come. (closed text place vars [] come (rest_of text checks)).faults) (came_is text vars place check Sought Empty is)

along : {Q : Type 0} → (a b : List Fault) → a ≡ b → (b ≡ []) ↔ Q → (a ≡ []) ↔ Q
along a b e h = (λ none. h.0 (sym e ∙ none), λ q. e ∙ h.1 q)

no_more : (check : Check) (checks : List Check) → check ∷ checks ≡ [] → ⊥
no_more check checks e = let no : suc (length checks) ≡ 0 = ap length e in let off : ⊥ = omega (arith, no) in off

pub chain : (lines : List (List ℕ)) (checks : List Check) (text : List ℕ) → AreLines lines
    → AreNext lines checks → AreBytes text → Accepts text lines (rest_of text checks)
chain [] (check ∷ []) text plain are bytes place vars low ends =
    let end = end_is check are.0.1 vars text place bytes in
    along _ _ (last_is text check place vars are.0.0) (λ none. (ends, end.0 none), λ follow. end.1 follow.1)
chain [] (check ∷ other ∷ checks) text plain are bytes place vars low ends = absurd (no_more other checks are.1)
chain ([] ∷ lines) (check ∷ checks) text plain are bytes place vars low ends =
    along _ _ (empty_is text check checks place vars are.0)
    (empty_by text lines place vars check (rest_of text checks) low ends (chain lines checks text plain.1 are.1 bytes)
    (empty_line text place) (empty_lines_are_least text place))
chain ((b ∷ line) ∷ lines) (check ∷ checks) text plain are bytes place vars low ends =
    along _ _ (next_is text check checks place vars are.0.0
    ∙ ap (λ met. (closed text place vars [] (matched check (on_next_line text place met)) (rest_of text checks)).faults)
    (seek_line (b ∷ line) check are.0.1 vars text place))
    (next_by text (b ∷ line) lines place vars check (rest_of text checks) plain.0.0 low ends
    (chain lines checks text plain.1 are.1 bytes) (hit_in text (line_tree (bits_of (b ∷ line))) place)
    (value_is_hit text (line_tree (bits_of (b ∷ line))) place))
chain [] [] text plain are bytes place vars low ends = absurd are
chain (line ∷ lines) [] text plain are bytes place vars low ends = absurd are

-- ---- the first line

unless_none : (faults : List Fault) (end : End) → ((unless faults end).faults ≡ []) ↔ ((faults ≡ []) × (end.faults ≡ []))
unless_none [] end = (λ e. (refl, e), λ h. h.1)
unless_none (fault ∷ faults) end = (λ e. absurd (none_cons _ _ e), λ h. absurd (none_cons _ _ h.0))

take_none : (n : ℕ) (text : List ℕ) → n ≤ length text → take n text ≡ [] → n ≡ 0
take_none n text low e = let long : n ≡ 0 = sym (length-take-le n text low) ∙ ap length e in long

-- the first step, with the NOT of any byte pending
abbrev FirstIs : List ℕ → List ℕ → List (List ℕ) → Variables → Check → Check → (ℕ → Variables → End) → Result Met FaultKind → Type 0
FirstIs text line lines vars start check rest met =
    ((closed text 0 vars (start ∷ []) (matched check met) rest).faults ≡ []) ↔ IsTextOf (line ∷ lines) text

first_by : (text line : List ℕ) (lines : List (List ℕ)) (vars : Variables) (start check : Check) (rest : ℕ → Variables → End)
    → HasPieces start (regex (alt alternatives) ∷ []) → AreBytes text → Accepts text lines rest → (hit : Option Hit)
    → FindsHit text (line_tree (bits_of line)) 0 hit
    → FirstIs text line lines vars start check rest (answered (answer_of false text [] hit) (NotFound 0 0))
first_by text line lines vars start check rest any bytes accepts None h = (
  λ none. absurd (none_cons _ _ none),
  λ is.
      let found = first_is_found text (bits_of line) is.0 None (is.1 ∙ ap (λ q. q ++ is.0) (sym (all_bytes line))) is.2 h in
      absurd (none-some found.found found.is),
)
first_by text line lines vars start check rest any bytes accepts (Some hit) h =
    let to : hit.from + (hit.to - hit.from) ≡ hit.to = omega (arith, h.ordered) in
    let ends : hit.to ≤ length text = hit_ends text (line_tree (bits_of line)) 0 hit (omega arith) h in
    let begins : hit.from ≤ length text = omega (arith, h.ordered, ends) in
    let within : hit.from + (hit.to - hit.from) ≤ length text = subst (λ n. n ≤ length text) (sym to) ends in
    let now = changed vars (binds [] ∷ []) in
    let before = start_is start any now (take hit.from text) (bytes_before hit.from text bytes) in
    let both = unless_none (region (take hit.from text) 0 now (start ∷ [])) (rest (hit.from + (hit.to - hit.from)) now) in (
      λ none.
          let first : hit.from ≡ 0 = take_none hit.from text begins (before.0 (both.0 none).0) in
          let forced = first_is_forced text (bits_of line) hit h first in
          let behind : EndsLine (drop (hit.from + (hit.to - hit.from)) text) = subst (λ n. EndsLine (drop n text)) (sym to) forced.1 in (
            drop hit.to text,
            forced.0 ∙ ap (λ q. q ++ drop hit.to text) (all_bytes line),
            forced.1,
            subst (λ n. Follow lines (drop n text)) to ((accepts (hit.from + (hit.to - hit.from)) now within behind).0 (both.0 none).1),
          ),
      λ is.
          let found = first_is_found text (bits_of line) is.0 (Some hit) (is.1 ∙ ap (λ q. q ++ is.0) (sym (all_bytes line))) is.2 h in
          let same : hit ≡ found.found = same_Some hit found.found found.is in
          let first : hit.from ≡ 0 = ap (λ x. x.from) same ∙ found.start in
          let rest_is : is.0 ≡ drop hit.to text = sym found.rest ∙ ap (λ x. drop x.to text) (sym same) in
          let follow : Follow lines (drop (hit.from + (hit.to - hit.from)) text) =
          subst (λ n. Follow lines (drop n text)) (sym to) (subst (Follow lines) rest_is is.3) in
          let behind : EndsLine (drop (hit.from + (hit.to - hit.from)) text) =
          subst (λ n. EndsLine (drop n text)) (sym to) (subst EndsLine rest_is is.2) in
          both.1 (before.1 (ap (λ n. take n text) first), (accepts (hit.from + (hit.to - hit.from)) now within behind).1 follow),
    )

-- ---- the whole

in_last : (check : Check) (checks : List Check) (demand : Demand) → check.demand ≡ demand
    → ((blocks : Blocks) → block_before check demand.role blocks ≡ in_first check blocks) → blocks_of checks ≡ last checks
    → blocks_of (check ∷ checks) ≡ last (check ∷ checks)
unfolding blocks_of
in_last check checks demand is no_label rest =
    ap (λ (d : Demand). block_before check d.role (blocks_of checks)) is ∙ no_label (blocks_of checks) ∙ ap (in_first check) rest

none_last : blocks_of [] ≡ last []
unfolding blocks_of
none_last = refl

nexts_last : (lines : List (List ℕ)) (checks : List Check) → AreNext lines checks → blocks_of checks ≡ last checks
nexts_last [] (check ∷ []) are = in_last check [] (asks Excluded Any) are.0.0 (λ blocks. refl) none_last
nexts_last [] (check ∷ other ∷ checks) are = absurd (no_more other checks are.1)
nexts_last ([] ∷ lines) (check ∷ checks) are = in_last check checks (asks Sought Empty) are.0 (λ blocks. refl) (nexts_last lines checks are.1)
nexts_last ((b ∷ line) ∷ lines) (check ∷ checks) are =
    in_last check checks (asks Sought Next) are.0.0 (λ blocks. refl) (nexts_last lines checks are.1)
nexts_last [] [] are = absurd are
nexts_last (line ∷ lines) [] are = absurd are

scan_last : (checks : List Check) (text : List ℕ) (vars : Variables) → blocks_of checks ≡ last checks
    → (scan checks [] false text vars).faults ≡ (rest_of text checks 0 vars).faults
unfolding verdict changed
scan_last checks text vars is = ap (λ blocks. (verdict text [] false false blocks 0 vars).faults) is

first_is : (text : List ℕ) (start check : Check) (checks : List Check) (vars : Variables) → start.demand ≡ asks Excluded Any
    → check.demand ≡ asks Sought Any → (rest_of text (start ∷ check ∷ checks) 0 vars).faults
    ≡ (closed text 0 vars (start ∷ []) (matched check (looked text vars check 0 0)) (rest_of text checks)).faults
unfolding parts_before block
first_is text start check checks vars negative is =
    ap (λ (d : Demand). (block text [] (part_before start d.role (part_before check check.demand.role (parts_before checks (finish ∷ []))))
    0 [] vars).faults) negative
    ∙ ap (λ (d : Demand). (block text [] (part_before check d.role (parts_before checks (finish ∷ []))) 0 (start ∷ []) vars).faults) is
    ∙ ap (λ come. (closed text 0 vars (start ∷ []) come (rest_of text checks)).faults) (came_is text vars 0 check Sought Any is)

whole : (lines : List (List ℕ)) (checks : List Check) (text : List ℕ) (vars : Variables)
    → AreLines lines → AreMade lines checks → AreBytes text → (blocks_of checks ≡ last checks)
    × (((rest_of text checks 0 vars).faults ≡ []) ↔ IsTextOf lines text)
whole [] checks text vars plain are bytes =
    let end = end_is are.0 are.1.1 vars text 0 bytes in
    subst (λ cs. (blocks_of cs ≡ last cs) × (((rest_of text cs 0 vars).faults ≡ []) ↔ AreNewlines text)) (sym are.2)
    (in_last are.0 [] (asks Excluded Any) are.1.0 (λ blocks. refl) none_last, along _ _ (last_is text are.0 0 vars are.1.0) end)
whole (line ∷ lines) checks text vars plain are bytes =
    subst (λ cs. (blocks_of cs ≡ last cs) × (((rest_of text cs 0 vars).faults ≡ []) ↔ IsTextOf (line ∷ lines) text)) (sym are.6) (
      in_last are.0 (are.1 ∷ are.2) (asks Excluded Any) are.3.0 (λ blocks. refl)
          (in_last are.1 are.2 (asks Sought Any) are.4.0 (λ blocks. refl) (nexts_last lines are.2 are.5)),
      along _ _ (first_is text are.0 are.1 are.2 vars are.3.0 are.4.0
          ∙ ap (λ met. (closed text 0 vars (are.0 ∷ []) (matched are.1 met) (rest_of text are.2)).faults)
          (seek_line line are.1 are.4.1 vars text 0))
          (first_by text line lines vars are.0 are.1 (rest_of text are.2) are.3.1 bytes
          (chain lines are.2 text plain.1 are.5 bytes) (hit_in text (line_tree (bits_of line)) 0)
          (value_is_hit text (line_tree (bits_of line)) 0)),
    )

pub made_checks_are_exact : MadeChecksAreExact
made_checks_are_exact lines checks text vars plain are bytes =
    let all = whole lines checks text vars plain are bytes in
    along _ _ (scan_last checks text vars all.0) all.1

-- ---- the lines of an output

other_byte : (b : ℕ) → is_newline b ≡ false → b ≢ 10
other_byte b e is = true≢false (sym (ap is_newline is) ∙ e)

line_plain : (line : List ℕ) → HasNone line → IsLine line
line_plain [] h = tt
line_plain (b ∷ line) h = (other_byte b h.0, line_plain line h.1)

lines_plain : (lines : List (List ℕ)) → AreGood lines → AreLines lines
lines_plain [] h = tt
lines_plain (line ∷ lines) h = (line_plain line h.0, lines_plain lines h.2)

pub made_checks_tell_lines : MadeChecksTellLines
made_checks_tell_lines output other checks vars are bytes =
    let exact = made_checks_are_exact (lines_of output) checks other vars
    (lines_plain (lines_of output) (good_lines output)) are bytes in
    let same = same_lines output other in
    (λ none. same.0 (exact.0 none), λ e. exact.1 (same.1 e))
