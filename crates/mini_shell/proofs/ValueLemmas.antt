-- Each text is read as the value: by what comes next, one token after the other.
use Rattle.std.proofs.Common.{◌≡◌, ◌∙◌, ℕ, zero, suc, ◌-◌, ◌<◌, List, [], ◌∷◌, length, drop, Option, Some, Result, Ok, Err, refl, sym, ap, arith}
use Rattle.mini_shell.specs.Reading.{IsReadFrom, IsReading, Reads, ended, none_of_it, refusal, step, told_at}
use Rattle.mini_shell.specs.Token.{next_at}
use Rattle.mini_shell.specs.declared.fault.ShellFail.{ShellFail}
use Rattle.mini_shell.specs.declared.fault.ShellFail.TheVariants.{Bad, NoMemory}
use Rattle.mini_shell.specs.declared.fault.ShellFault.{ShellFault}
use Rattle.mini_shell.specs.declared.line.Line.{Line}
use Rattle.mini_shell.specs.declared.reader.Reader.{Reader}
use Rattle.mini_shell.specs.declared.token.Next.{Next}
use Rattle.mini_shell.specs.declared.token.Next.TheVariants.{Found, Over}
use Rattle.mini_shell.specs.declared.token.Token.{Token}
use Rattle.mini_shell.proofs.UniqueLemmas.{reading_is_one}
use Rattle.mini_shell.specs.Value.{IsLineIn, LineIsRead, by_next, by_step, line_in, read_in}
use Rattle.mini_shell.proofs.GrowthLemmas.{next_grows}

-- what comes behind an offset is read as this
abbrev pub Told : List ℕ → ℕ → Reader → Result Line ShellFault → Type 0
Told text at r told = (tokens : List Token) × IsReadFrom text at r tokens told

reads_step : (text : List ℕ) (at : ℕ) (r : Reader) (token : Token) (end : ℕ) (stepped : Result Reader ShellFault)
    (go : ℕ → Reader → Result Line ShellFault) → next_at at (drop at text) ≡ Ok (Found token end)
    → step r token ≡ stepped → ((next : Reader) → Told text end next (go end next))
    → Told text at r (by_step stepped (go end))
reads_step text at r token end (Err fault) go is takes onward = ([], ap (told_at r) is ∙ ap refusal takes)
reads_step text at r token end (Ok next) go is takes onward =
    let rest = onward next in (token ∷ rest.0, (end, next, is, takes, rest.1))

reads_next : (text : List ℕ) (at : ℕ) (r : Reader) (next : Result Next ShellFault)
    (go : ℕ → Reader → Result Line ShellFault) → next_at at (drop at text) ≡ next
    → ((token : Token) (end : ℕ) → next ≡ Ok (Found token end) → (behind : Reader) → Told text end behind (go end behind))
    → Told text at r (by_next r next go)
reads_next text at r (Ok (Over end)) go is onward = ([], ap (told_at r) is)
reads_next text at r (Err fault) go is onward = ([], ap (told_at r) is)
reads_next text at r (Ok (Found token end)) go is onward =
    reads_step text at r token end (step r token) go is refl (onward token end refl)

reads_from : (left : ℕ) (text : List ℕ) (at : ℕ) (r : Reader) → length text - at < left
    → Told text at r (read_in left text at r)
unfolding read_in
reads_from zero text at r few = absurd (omega arith)
reads_from (suc left) text at r few = reads_next text at r (next_at at (drop at text)) (read_in left text) refl
    (λ token end is behind. let grows = next_grows text at token end is in
    reads_from left text end behind (omega (arith, few, grows.0, grows.1)))

reads_whole : (text : List ℕ) → IsReading text (line_in text)
unfolding line_in
reads_whole text = reads_from (suc (length text)) text 0 none_of_it (omega arith)

pub line_is_read : LineIsRead
line_is_read = record {
  read = reads_whole;
  one = λ text told reads. reading_is_one text told (line_in text) reads (reads_whole text);
}

pub reads_in : (text : List ℕ) (answer : Result Line ShellFail) → Reads text answer → IsLineIn answer (line_in text)
reads_in text (Ok line) reads = sym (reading_is_one text (Ok line) (line_in text) reads (reads_whole text))
reads_in text (Err (Bad fault)) reads = sym (reading_is_one text (Err fault) (line_in text) reads (reads_whole text))
reads_in text (Err NoMemory) reads = tt
