-- What the lines of a made check file are read as.
-- Shown: each line that is free is read as nothing, and each that is made as the directive that asks for what it stands for, wherever the lines
-- stand in their text. By induction over the lines, with what stands before them; the hard one is `body_there`, where a body is cut out of the text.
use Rattle.std.proofs.Common.{◌≡◌, codes, ℕ, ◌+◌, ◌-◌, Bool, true, false, true≢false, not, ◌&&◌, ◌||◌, List, [], ◌∷◌, ◌++◌, map, length, take, drop, Option, Some, None, Ok, refl, sym, ap, ◌∙◌, arith, append_assoc, length-append, drop-drop, drop_at, take_at}
use Rattle.std.specs.List.{flat_map}
use Rattle.check_lines.specs.Checks.{earlier_behind, join_reading, read_lines_from}
use Rattle.check_lines.specs.Decision.{decide, decide_from}
use Rattle.check_lines.specs.Kind.{demand_of, is_earlier}
use Rattle.check_lines.specs.Line.{decided, directive, marked, read_line}
use Rattle.check_lines.specs.declared.decision.Decision.{Decision}
use Rattle.check_lines.specs.declared.decision.LineMark.{LineMark}
use Rattle.check_lines.specs.declared.decision.LineMark.TheVariants.{Check, Comment}
use Rattle.check_lines.specs.declared.directive.Directive.{Directive}
use Rattle.check_lines.specs.declared.kind.Kind.TheVariants.{Empty, Next, Not, Plain}
use Rattle.check_lines.specs.declared.suffix.Spelled.{Spelled}
use Rattle.file_laws.proofs.BodyLemmas.{empty_line, full_line, spelled_as}
use Rattle.file_laws.proofs.SpelledLemmas.{spelled}
use Rattle.file_laws.specs.Asks.{AreOf, Ask, asks_of, body_in, empty, end, first, kind_of, mark_of, next, next_ask, start}
use Rattle.file_laws.specs.Kept.{decides_none, is_comment, is_free, with_newline}
use Rattle.lead_laws.proofs.MarkLemmas.{leads_decide_nothing}
use Rattle.lead_laws.specs.Marks.{IsLead, checks, comments}
use Rattle.pattern_parse.specs.Demand.{asks_line}
use Rattle.quote_laws.specs.Quote.{quote}

-- ---- one line

-- a line behind a lead is read as the directive that asks for this, with its body behind its mark
record IsReadLine (lead : List ℕ) (ask : Ask) (earlier : Bool) (number from : ℕ) : Type 0 where
  suffix : Spelled
  kind : suffix.kind ≡ kind_of ask
  literal : suffix.literal ≡ false
  at : ℕ
  there : at ≡ length lead + length (mark_of ask)
  read : read_line checks comments false earlier number from (lead ++ spelled ask)
      ≡ Ok (Some (directive number from (length lead) at (length (body_in ask)) suffix 0))

-- nothing asks for a line before any match
abbrev MayAsk : Bool → Ask → Type 0
MayAsk earlier ask = asks_line (demand_of (kind_of ask)).rule && not earlier ≡ false

-- the bytes of a quoted line's body behind the first, and those before the last
abbrev behind_first : List ℕ → List ℕ
behind_first line = codes "{^}}" ++ (quote line ++ codes "{{$}}")

abbrev before_last : List ℕ → List ℕ
before_last line = (codes "{{^}}" ++ quote line) ++ codes "{{$}"

body_closed : (line : List ℕ) → 123 ∷ behind_first line ≡ before_last line ++ 125 ∷ []
body_closed line = sym (append_assoc (codes "{{^}}" ++ quote line) (codes "{{$}") (125 ∷ []))

ask_reads : (lead : List ℕ) → IsLead lead → (ask : Ask) (earlier : Bool) (number from : ℕ) → MayAsk earlier ask
    → IsReadLine lead ask earlier number from
ask_reads lead is start earlier number from may = record {
  suffix = spelled_as Not 5;
  kind = refl;
  literal = refl;
  at = length lead + 5 + 5 + 1;
  there = omega arith;
  read = full_line earlier number from lead (codes "CHECK-NOT:") (codes "{.|[[:space:]]}}") (codes "{{.|[[:space:]]}") Not 5 refl
      ((leads_decide_nothing lead is).negative (codes "{{.|[[:space:]]}}")) refl refl may;
}
ask_reads lead is (first line) earlier number from may = record {
  suffix = spelled_as Plain 1;
  kind = refl;
  literal = refl;
  at = length lead + 5 + 1 + 1;
  there = omega arith;
  read = full_line earlier number from lead (codes "CHECK:") (behind_first line) (before_last line) Plain 1 refl
      ((leads_decide_nothing lead is).plain (body_in (first line))) (body_closed line) refl may;
}
ask_reads lead is (next line) earlier number from may = record {
  suffix = spelled_as Next 6;
  kind = refl;
  literal = refl;
  at = length lead + 5 + 6 + 1;
  there = omega arith;
  read = full_line earlier number from lead (codes "CHECK-NEXT:") (behind_first line) (before_last line) Next 6 refl
      ((leads_decide_nothing lead is).next (body_in (next line))) (body_closed line) refl may;
}
ask_reads lead is empty earlier number from may = record {
  suffix = spelled_as Empty 7;
  kind = refl;
  literal = refl;
  at = length lead + 5 + 7;
  there = omega arith;
  read = empty_line earlier number from lead (codes "CHECK-EMPTY:") Empty 7 refl ((leads_decide_nothing lead is).empty []) refl may;
}
ask_reads lead is end earlier number from may = record {
  suffix = spelled_as Not 5;
  kind = refl;
  literal = refl;
  at = length lead + 5 + 5 + 1;
  there = omega arith;
  read = full_line earlier number from lead (codes "CHECK-NOT:") (codes "{.}}") (codes "{{.}") Not 5 refl
      ((leads_decide_nothing lead is).negative (codes "{{.}}")) refl refl may;
}

-- a line that holds no directive is read as nothing
free_by : (earlier : Bool) (number from : ℕ) (line : List ℕ) (found : Option Decision) → decides_none found ≡ true
    → decided false earlier number from line found ≡ Ok None
free_by earlier number from line None free = refl
free_by earlier number from line (Some found) free = mark_by found.mark free
  where
    mark_by : (mark : LineMark) → is_comment mark ≡ true → marked false earlier number from line found.at mark ≡ Ok None
    mark_by Comment free = refl
    mark_by (Check prefix spelling) free = absurd (true≢false (sym free))

-- ---- all lines

-- bytes behind others on a line of a text
body_there : (text before line behind front body : List ℕ) (from at : ℕ) → text ≡ before ++ (line ++ 10 ∷ behind) → line ≡ front ++ body
    → from ≡ length before → at ≡ length front
    → take (from + at + length body - (from + at)) (drop (from + at) text) ≡ body
body_there text before line behind front body from at is line_is from_is at_is =
    let count : from + at + length body - (from + at) ≡ length body = omega arith in
    let rest : drop from text ≡ line ++ 10 ∷ behind = ap (drop from) is ∙ drop_at before (line ++ 10 ∷ behind) from (sym from_is) in
    let there : drop at (line ++ 10 ∷ behind) ≡ body ++ 10 ∷ behind =
    ap (λ l. drop at (l ++ 10 ∷ behind)) line_is ∙ ap (drop at) (append_assoc front body (10 ∷ behind))
    ∙ drop_at front (body ++ 10 ∷ behind) at (sym at_is) in
    ap (λ n. take n (drop (from + at) text)) count
    ∙ ap (take (length body)) (sym (drop-drop at from text) ∙ ap (drop at) rest ∙ there)
    ∙ take_at body (10 ∷ behind) (length body) refl

-- lines of a text from an offset on are read as directives that ask for these
pub record AreReadFrom (text : List ℕ) (earlier : Bool) (number from : ℕ) (lines : List (List ℕ)) (asks : List Ask) : Type 0 where
  pub directives : List Directive
  pub read : read_lines_from checks comments false earlier number from lines ≡ Ok directives
  pub are : AreOf text asks directives

-- the directives may stand in this order, behind a match or not
abbrev MayStand : Bool → List Ask → Type 0
MayStand earlier [] = Unit {0}
MayStand earlier (ask ∷ asks) = MayAsk earlier ask × MayStand (earlier || is_earlier (kind_of ask)) asks

nexts_may : (lines : List (List ℕ)) → MayStand true (map next_ask lines ++ end ∷ [])
nexts_may [] = (refl, tt)
nexts_may ([] ∷ lines) = (refl, nexts_may lines)
nexts_may ((b ∷ line) ∷ lines) = (refl, nexts_may lines)

asks_may : (lines : List (List ℕ)) → MayStand false (asks_of lines)
asks_may [] = (refl, tt)
asks_may (line ∷ lines) = (refl, (refl, nexts_may lines))

abbrev pub AreFree : List (List ℕ) → Type 0
AreFree [] = Unit {0}
AreFree (line ∷ lines) = (is_free checks comments line ≡ true) × AreFree lines

-- the place behind a line and its newline
next_place : (before line : List ℕ) (from : ℕ) → from ≡ length before → from + length line + 1 ≡ length (before ++ with_newline line)
next_place before line from is = omega (arith, is, length-append before (with_newline line), length-append line (10 ∷ []))

module _ (text lead : List ℕ) (is_lead : IsLead lead) where
  abbrev line_of : Ask → List ℕ
  line_of ask = lead ++ spelled ask

  -- a line that asks before lines that do
  more_asks : (ask : Ask) (asks : List Ask) (before : List ℕ) (earlier : Bool) (number from : ℕ) → from ≡ length before
      → text ≡ before ++ flat_map with_newline (map line_of (ask ∷ asks)) → IsReadLine lead ask earlier number from
      → AreReadFrom text (earlier || is_earlier (kind_of ask)) (number + 1) (from + length (line_of ask) + 1) (map line_of asks ++ [] ∷ []) asks
      → AreReadFrom text earlier number from (map line_of (ask ∷ asks) ++ [] ∷ []) (ask ∷ asks)
  unfolding read_lines_from
  more_asks ask asks before earlier number from from_is is one rest =
      let lines : List (List ℕ) = map line_of asks ++ [] ∷ [] in
      let next_from : ℕ = from + length (line_of ask) + 1 in
      let found : Directive = directive number from (length lead) one.at (length (body_in ask)) one.suffix 0 in
      let place : text ≡ before ++ (line_of ask ++ 10 ∷ flat_map with_newline (map line_of asks)) =
      is ∙ ap (λ l. before ++ l) (append_assoc (line_of ask) (10 ∷ []) (flat_map with_newline (map line_of asks))) in
      record {
        directives = found ∷ rest.directives;
        read = ap (λ r. join_reading r (read_lines_from checks comments false (earlier_behind earlier r) (number + 1) next_from lines)) one.read
            ∙ ap (λ k. join_reading (Ok (Some found)) (read_lines_from checks comments false (earlier || is_earlier k) (number + 1) next_from lines)) one.kind
            ∙ ap (join_reading (Ok (Some found))) rest.read;
        are = (
          record {
            kind = one.kind;
            literal = one.literal;
            body = body_there text before (line_of ask) (flat_map with_newline (map line_of asks)) (lead ++ mark_of ask) (body_in ask) from one.at
                place (sym (append_assoc lead (mark_of ask) (body_in ask))) from_is (one.there ∙ sym (length-append lead (mark_of ask)));
          },
          rest.are,
        );
      }

  asks_read : (asks : List Ask) (before : List ℕ) (earlier : Bool) (number from : ℕ) → from ≡ length before
      → text ≡ before ++ flat_map with_newline (map line_of asks) → MayStand earlier asks
      → AreReadFrom text earlier number from (map line_of asks ++ [] ∷ []) asks
  unfolding read_lines_from decide_from
  asks_read [] before earlier number from from_is is may = record { directives = []; read = refl; are = tt }
  asks_read (ask ∷ asks) before earlier number from from_is is may =
      more_asks ask asks before earlier number from from_is is (ask_reads lead is_lead ask earlier number from may.0)
      (asks_read asks (before ++ with_newline (line_of ask)) (earlier || is_earlier (kind_of ask)) (number + 1) (from + length (line_of ask) + 1)
      (next_place before (line_of ask) from from_is)
      (is ∙ sym (append_assoc before (with_newline (line_of ask)) (flat_map with_newline (map line_of asks)))) may.1)

  -- lines that hold no directive before those that ask
  all_read : (free : List (List ℕ)) (asks : List Ask) (before : List ℕ) (number from : ℕ) → AreFree free → from ≡ length before
      → text ≡ before ++ flat_map with_newline (free ++ map line_of asks) → MayStand false asks
      → AreReadFrom text false number from ((free ++ map line_of asks) ++ [] ∷ []) asks
  unfolding read_lines_from
  all_read [] asks before number from are from_is is may = asks_read asks before false number from from_is is may
  all_read (line ∷ free) asks before number from are from_is is may =
      let lines : List (List ℕ) = (free ++ map line_of asks) ++ [] ∷ [] in
      let next_from : ℕ = from + length line + 1 in
      let rest = all_read free asks (before ++ with_newline line) (number + 1) next_from are.1 (next_place before line from from_is)
      (is ∙ sym (append_assoc before (with_newline line) (flat_map with_newline (free ++ map line_of asks)))) may in
      record {
        directives = rest.directives;
        read = ap (λ r. join_reading r (read_lines_from checks comments false (earlier_behind false r) (number + 1) next_from lines))
            (free_by false number from line (decide checks comments line) are.0)
            ∙ rest.read;
        are = rest.are;
      }

  -- from the front of the text on
  pub lines_read : (free lines : List (List ℕ)) → AreFree free → text ≡ flat_map with_newline (free ++ map line_of (asks_of lines))
      → AreReadFrom text false 1 0 ((free ++ map line_of (asks_of lines)) ++ [] ∷ []) (asks_of lines)
  lines_read free lines are is = all_read free (asks_of lines) [] 1 0 are refl is (asks_may lines)
