-- What a line with a directive is read as.
-- Shown: behind a lead a directive with a blank and a body that begins with `{` and ends with `}` has that body, and one without a body has none;
-- neither is mistaken, where a line is asked for behind a match. By the steps of reading a line, one equation each; `checked_full` joins them.
use Rattle.std.proofs.Common.{◌≡◌, ℕ, suc, ◌+◌, ◌-◌, ◌==◌, Bool, true, false, true≢false, not, ◌&&◌, if◌then◌else◌, List, [], ◌∷◌, ◌++◌, length, take, drop, Option, Some, None, Result, Ok, refl, sym, ap, ◌∙◌, arith, length-append, length-drop, drop-drop, take_all, drop_at}
use Rattle.std.proofs.lemmas.Bool.Decides.{nat_tests}
use Rattle.std.proofs.lemmas.List.{reverse-append}
use Rattle.std.specs.List.{prefix_len, suffix_len}
use Rattle.check_lines.specs.Class.{has}
use Rattle.check_lines.specs.Decision.{decide}
use Rattle.check_lines.specs.Kind.{demand_of}
use Rattle.check_lines.specs.Line.{body_length, body_start, checked, decided, directive, mistake, read_line, unless_mistaken}
use Rattle.check_lines.specs.declared.class.Class.TheVariants.{Blank}
use Rattle.check_lines.specs.declared.directive.Directive.{Directive}
use Rattle.check_lines.specs.declared.fault.CheckFault.{CheckFault}
use Rattle.check_lines.specs.declared.fault.LineFault.{LineFault}
use Rattle.check_lines.specs.declared.fault.LineFault.TheVariants.{EmptyPattern, NoEarlierCheck, NonEmptyForEmpty}
use Rattle.check_lines.specs.declared.kind.Kind.{Kind}
use Rattle.check_lines.specs.declared.suffix.Spelled.{Spelled}
use Rattle.lead_laws.specs.Marks.{checks, comments, mark_of_kind}
use Rattle.pattern_parse.specs.Demand.{asks_line, takes_none}

-- ---- where the body stands

no_blanks : (front : List ℕ) → suffix_len (has Blank) (front ++ 125 ∷ []) ≡ 0
no_blanks front = ap (prefix_len (has Blank)) (reverse-append front (125 ∷ []))

less_none : (n : ℕ) → n - 0 ≡ n
less_none n = omega arith

whole_length : (body front : List ℕ) → body ≡ front ++ 125 ∷ [] → body_length false body ≡ length body
whole_length body front is = ap (λ n. length body - n) (ap (suffix_len (has Blank)) is ∙ no_blanks front) ∙ less_none (length body)

more_behind : (n behind rest : ℕ) → n - behind ≡ suc (suc rest) → n == behind + 1 ≡ false
more_behind n behind rest long = grind (arith, nat_tests, long)

begins_full : (line rest : List ℕ) (behind : ℕ) → drop behind line ≡ 32 ∷ 123 ∷ rest → body_start false line behind ≡ behind + 1
begins_full line rest behind is =
    ap (λ l. if length line == behind + prefix_len (has Blank) l then behind else behind + prefix_len (has Blank) l) is
    ∙ ap (λ k. if k then behind else behind + 1)
    (more_behind (length line) behind (length rest) (sym (length-drop behind line) ∙ ap length is))

none_behind : (n behind : ℕ) → n ≡ behind → n == behind + 0 ≡ true
none_behind n behind same = grind (arith, nat_tests, same)

begins_empty : (line : List ℕ) (behind : ℕ) → drop behind line ≡ [] → length line ≡ behind → body_start false line behind ≡ behind
begins_empty line behind is long =
    ap (λ l. if length line == behind + prefix_len (has Blank) l then behind else behind + prefix_len (has Blank) l) is
    ∙ ap (λ k. if k then behind else behind + 0) (none_behind (length line) behind long)

pub some_bytes : (n : ℕ) → suc n == 0 ≡ false
some_bytes n = grind (arith, nat_tests)

none_of : (takes empty asks : Bool) (one two three : Option (ℕ × LineFault)) → takes ≡ empty → asks ≡ false
    → (if not takes && empty then one else if takes && not empty then two else if asks then three else None) ≡ None
none_of true true asks one two three same off = ap (λ k. if k then three else None) off
none_of false false asks one two three same off = ap (λ k. if k then three else None) off
none_of true false asks one two three same off = absurd (true≢false same)
none_of false true asks one two three same off = absurd (true≢false (sym same))

module _ (earlier : Bool) (number start head behind : ℕ) (suffix : Spelled) (asks : asks_line (demand_of suffix.kind).rule && not earlier ≡ false) where
  abbrev told : ℕ → ℕ → List ℕ → Result (Option Directive) CheckFault
  told from count body =
      unless_mistaken number start (mistake earlier suffix body head behind from) (directive number start head from count suffix 0)

  abbrev by_start : List ℕ → ℕ → Result (Option Directive) CheckFault
  by_start line from = told from (body_length false (drop from line)) (take (body_length false (drop from line)) (drop from line))

  abbrev by_rest : ℕ → List ℕ → Result (Option Directive) CheckFault
  by_rest from rest = told from (body_length false rest) (take (body_length false rest) rest)

  right : (from : ℕ) (body : List ℕ) → takes_none (demand_of suffix.kind).rule ≡ (length body == 0)
      → told from (length body) body ≡ Ok (Some (directive number start head from (length body) suffix 0))
  right from body takes =
      ap (λ m. unless_mistaken number start m (directive number start head from (length body) suffix 0))
      (none_of (takes_none (demand_of suffix.kind).rule) (length body == 0) (asks_line (demand_of suffix.kind).rule && not earlier)
      (Some (behind, EmptyPattern)) (Some (from, NonEmptyForEmpty)) (Some (head, NoEarlierCheck)) takes asks)

  pub checked_full : (line rest front : List ℕ) → drop behind line ≡ 32 ∷ 123 ∷ rest → 123 ∷ rest ≡ front ++ 125 ∷ []
      → takes_none (demand_of suffix.kind).rule ≡ false
      → checked false earlier number start line head behind suffix 0
      ≡ Ok (Some (directive number start head (behind + 1) (length (123 ∷ rest)) suffix 0))
  checked_full line rest front is closed takes =
      ap (by_start line) (begins_full line rest behind is)
      ∙ ap (by_rest (behind + 1)) (sym (drop-drop 1 behind line) ∙ ap (λ l. drop 1 l) is)
      ∙ ap (λ n. told (behind + 1) n (take n (123 ∷ rest))) (whole_length (123 ∷ rest) front closed)
      ∙ ap (told (behind + 1) (length (123 ∷ rest))) (take_all (length (123 ∷ rest)) (123 ∷ rest) (omega arith))
      ∙ right (behind + 1) (123 ∷ rest) (takes ∙ sym (some_bytes (length rest)))

  pub checked_empty : (line : List ℕ) → drop behind line ≡ [] → length line ≡ behind → takes_none (demand_of suffix.kind).rule ≡ true
      → checked false earlier number start line head behind suffix 0 ≡ Ok (Some (directive number start head behind 0 suffix 0))
  checked_empty line is long takes =
      ap (by_start line) (begins_empty line behind is long) ∙ ap (by_rest behind) is ∙ right behind [] takes

-- ---- a line behind a lead

-- what is spelled behind the default prefix
abbrev pub spelled_as : Kind → ℕ → Spelled
spelled_as kind count = record { kind = kind; literal = false; count = count }

far : (lead word : List ℕ) (count : ℕ) → length word ≡ 5 + count → length lead + 5 + count ≡ length lead + length word
far lead word count long = omega (arith, long)

behind_word : (lead word rest : List ℕ) (count : ℕ) → length word ≡ 5 + count → drop (length lead + 5 + count) (lead ++ (word ++ rest)) ≡ rest
behind_word lead word rest count long =
    ap (λ n. drop n (lead ++ (word ++ rest))) (far lead word count long)
    ∙ sym (drop-drop (length word) (length lead) (lead ++ (word ++ rest)))
    ∙ ap (drop (length word)) (drop_at lead (word ++ rest) (length lead) refl) ∙ drop_at word rest (length word) refl

-- a line that is decided so, with a body
pub full_line : (earlier : Bool) (number start : ℕ) (lead word rest front : List ℕ) (kind : Kind) (count : ℕ) → length word ≡ 5 + count
    → decide checks comments (lead ++ (word ++ 32 ∷ 123 ∷ rest)) ≡ Some (record { at = length lead; mark = mark_of_kind kind count })
    → 123 ∷ rest ≡ front ++ 125 ∷ [] → takes_none (demand_of kind).rule ≡ false → asks_line (demand_of kind).rule && not earlier ≡ false
    → read_line checks comments false earlier number start (lead ++ (word ++ 32 ∷ 123 ∷ rest))
    ≡ Ok (Some (directive number start (length lead) (length lead + 5 + count + 1) (length (123 ∷ rest)) (spelled_as kind count) 0))
full_line earlier number start lead word rest front kind count long decides closed takes asks =
    ap (decided false earlier number start (lead ++ (word ++ 32 ∷ 123 ∷ rest))) decides
    ∙ checked_full earlier number start (length lead) (length lead + 5 + count) (spelled_as kind count) asks (lead ++ (word ++ 32 ∷ 123 ∷ rest))
    rest front (behind_word lead word (32 ∷ 123 ∷ rest) count long) closed takes

-- and one without
pub empty_line : (earlier : Bool) (number start : ℕ) (lead word : List ℕ) (kind : Kind) (count : ℕ) → length word ≡ 5 + count
    → decide checks comments (lead ++ (word ++ [])) ≡ Some (record { at = length lead; mark = mark_of_kind kind count })
    → takes_none (demand_of kind).rule ≡ true → asks_line (demand_of kind).rule && not earlier ≡ false
    → read_line checks comments false earlier number start (lead ++ (word ++ []))
    ≡ Ok (Some (directive number start (length lead) (length lead + 5 + count) 0 (spelled_as kind count) 0))
empty_line earlier number start lead word kind count long decides takes asks =
    let whole : length (lead ++ (word ++ [])) ≡ length lead + 5 + count =
    omega (arith, length-append lead (word ++ []), length-append word [], long) in
    ap (decided false earlier number start (lead ++ (word ++ []))) decides
    ∙ checked_empty earlier number start (length lead) (length lead + 5 + count) (spelled_as kind count) asks (lead ++ (word ++ []))
    (behind_word lead word [] count long) whole takes
