-- Shown: what a line comes to, before the directives of the lines behind it, is what all lines from it on come to.
-- Idea: the lines from one on are that line and those behind its newline.
-- The hard one is `line_taken`, which goes on behind the newline.
use Rattle.std.proofs.Common.{◌≡◌, ◌⊎◌, ℕ, ◌+◌, ◌-◌, ◌<◌, ◌≤◌, List, [], ◌∷◌, length, take, drop, Ok, Err, true, false, inl, inr, sym, ap, ◌∙◌, arith, refl}
use Rattle.std.proofs.Math.Nat.{eq-or-lt_of_le}
use Rattle.std.specs.List.{slice_split}
use Rattle.tt_base.specs.Place.{is_newline, line_end}
use Rattle.lit_directives.specs.Line.{Said, nothing, stop, directive, read_line, without_return}
use Rattle.lit_directives.specs.Script.{Directive, IsState, LeadsOn, State, after_all, and_then, by_directive, directives_from, onto_later, reader_view}
use Rattle.lit_directives.specs.declared.keyword.Kind.{Kind}
use Rattle.lit_directives.specs.declared.fault.ScriptFault.{ScriptFault}
use Rattle.std.specs.Str.{is_utf8}
use Rattle.std.specs.Prelude.{Result}
use Rattle.lit_directives.specs.declared.fault.ScriptFail.{ScriptFail}
use Rattle.lit_directives.specs.declared.fault.ScriptFail.TheVariants.{Bad, NoMemory}
use Rattle.lit_directives.specs.declared.reader.Reader.{Reader}
use Rattle.lit_directives.proofs.LineLemmas.{end_within, last_line, next_line}

module _ (text : List ℕ) (start end number : ℕ) (low : start ≤ length text) (is : end ≡ line_end text start) where
  abbrev line : List ℕ
  line = without_return (take (end - start) (drop start text))

  abbrev here : List Directive
  here = directives_from number (slice_split is_newline (drop start text))

  pub lines_last : end ≡ length text → here ≡ onto_later number line (read_line line) []
  unfolding directives_from
  lines_last ends = ap (directives_from number) (last_line text start end low is ends)

  pub lines_next : end < length text
      → here ≡ onto_later number line (read_line line) (directives_from (number + 1) (slice_split is_newline (drop (end + 1) text)))
  unfolding directives_from
  lines_next inside = ap (directives_from number) (next_line text start end low is inside)

  -- whatever comes later
  pub lines_here : (later : List Directive) × (here ≡ onto_later number line (read_line line) later)
  lines_here = by_order (eq-or-lt_of_le (end_within text start end low is))
    where
      by_order : (end ≡ length text) ⊎ (end < length text) → (later : List Directive) × (here ≡ onto_later number line (read_line line) later)
      by_order (inl ends) = ([], lines_last ends)
      by_order (inr inside) = (directives_from (number + 1) (slice_split is_newline (drop (end + 1) text)), lines_next inside)

  -- the line is refused
  pub line_refused : (s : State) (fail : ScriptFail) → LeadsOn s number line (Err fail) → IsState (Err fail) (after_all s here)
  line_refused s NoMemory leads = tt
  line_refused s (Bad fault) leads = ap (after_all s) lines_here.1 ∙ leads lines_here.0

  -- the reading stops, the line is the last, or lines are behind it
  pub line_stopped : (s : State) (next : Reader) → LeadsOn s number line (Ok (next, false))
      → after_all s here ≡ Ok (reader_view next)
  line_stopped s next leads = ap (after_all s) lines_here.1 ∙ leads lines_here.0

  pub line_ended : (s : State) (next : Reader) → LeadsOn s number line (Ok (next, true)) → end ≡ length text
      → after_all s here ≡ Ok (reader_view next)
  unfolding after_all
  line_ended s next leads ends = ap (after_all s) (lines_last ends) ∙ leads []

  pub line_taken : (s : State) (next : Reader) → LeadsOn s number line (Ok (next, true)) → end < length text
      → after_all (reader_view next) (directives_from (number + 1) (slice_split is_newline (drop (end + 1) text)))
      ≡ after_all s here
  line_taken s next leads inside = sym (ap (after_all s) (lines_next inside)
      ∙ leads (directives_from (number + 1) (slice_split is_newline (drop (end + 1) text))))

-- ---- what was read behind a line, by what it says

module _ (s : State) (number : ℕ) (line : List ℕ) where
  abbrev with_line : Said → List Directive → Result State ScriptFault
  with_line one later = after_all s (onto_later number line one later)

  pub leads_stop : stop ≡ read_line line → (later : List Directive) → with_line (read_line line) later ≡ Ok s
  unfolding after_all
  leads_stop is later = ap (λ one. with_line one later) (sym is)

  pub leads_nothing : nothing ≡ read_line line → (later : List Directive) → with_line (read_line line) later ≡ after_all s later
  leads_nothing is later = ap (λ one. with_line one later) (sym is)

  module _ (kind : Kind) (rest : List ℕ) (is : directive kind rest ≡ read_line line) where
    abbrev read : Result State ScriptFault
    read = by_directive s number (is_utf8 line) kind rest

    pub leads_directive : (t : State) → read ≡ Ok t → (later : List Directive)
        → with_line (read_line line) later ≡ after_all t later
    unfolding after_all
    leads_directive t h later =
        ap (λ one. with_line one later) (sym is) ∙ ap (λ r. and_then r (λ there. after_all there later)) h

    pub leads_fail : (fail : ScriptFail) → IsState (Err fail) read → LeadsOn s number line (Err fail)
    unfolding after_all
    leads_fail NoMemory h = tt
    leads_fail (Bad fault) h =
        λ later. ap (λ one. with_line one later) (sym is) ∙ ap (λ r. and_then r (λ there. after_all there later)) h
