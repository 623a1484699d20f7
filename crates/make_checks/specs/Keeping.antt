-- What is kept by the prefixes of directives and those of comments.
-- Own rule: that of `file_laws`, where a line stands in its canonical form.
use Rattle.std.specs.Prelude.{ℕ, Bool, List}
use Rattle.check_lines.specs.declared.decision.Prefixes.{Prefixes}
use Rattle.file_laws.specs.Kept.{free_text, is_free, kept_line}
use Rattle.lead_laws.specs.Canon.{form_of}

-- whether a line holds no directive, nor a faulty one
abbrev pub free_by : Prefixes → List ℕ → Bool
free_by prefixes line = is_free prefixes.checks.prefixes.now prefixes.comments.prefixes.now line

-- what is kept of a line, and of a text
abbrev pub line_by : Prefixes → List ℕ → List ℕ
line_by prefixes line = kept_line prefixes.checks.prefixes.now prefixes.comments.prefixes.now line (form_of line)

abbrev pub text_by : Prefixes → List ℕ → List ℕ
text_by prefixes text = free_text prefixes.checks.prefixes.now prefixes.comments.prefixes.now text (form_of text)
