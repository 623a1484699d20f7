-- What is kept of a check file is lines that hold no directive.
-- Shown: line by line the canonical form of a text is that of its lines, so each line that is kept is free in the canonical form that it has
-- there, before a newline. By the list of lines that a text is cut into; the hard one is `kept_parts`, where text and form are cut alike.
use Rattle.std.proofs.Common.{◌≡◌, ℕ, Bool, true, false, if◌then◌else◌, List, [], ◌∷◌, ◌++◌, map, refl, sym, ap, ◌∙◌, subst}
use Rattle.std.specs.List.{flat_map, slice_split}
use Rattle.file_laws.proofs.PlainLemmas.{ArePlain, IsCutAt, IsPlain, plain_form, split_alone, split_before, split_is}
use Rattle.file_laws.proofs.ReadLemmas.{AreFree}
use Rattle.file_laws.specs.Kept.{ended, is_free, kept, kept_of, last_of, with_newline}
use Rattle.lead_laws.proofs.FormLemmas.{form_by_lines}
use Rattle.lead_laws.specs.Canon.{form_of}
use Rattle.lead_laws.specs.Marks.{checks, comments}
use Rattle.tt_base.specs.Place.{is_newline}

-- a text is lines that hold no directive in their canonical forms
pub record IsKept (text : List ℕ) : Type 0 where
  pub lines : List (List ℕ)
  pub is : text ≡ flat_map with_newline lines
  pub free : AreFree (map form_of lines)
  pub plain : ArePlain (map form_of lines)

none_kept : IsKept []
none_kept = record { lines = []; is = refl; free = tt; plain = tt }

more_kept : (line text : List ℕ) (free : Bool) → is_free checks comments (form_of line) ≡ free → IsPlain line → IsKept text
    → IsKept ((if free then with_newline line else []) ++ text)
more_kept line text true e plain rest = record {
  lines = line ∷ rest.lines;
  is = ap (λ l. with_newline line ++ l) rest.is;
  free = (e, rest.free);
  plain = (plain_form line plain, rest.plain);
}
more_kept line text false e plain rest = rest

last_kept : (line : List ℕ) → IsPlain line → IsKept (kept_of checks comments (last_of line) (form_of line ∷ []))
last_kept [] plain = none_kept
last_kept (b ∷ line) plain = more_kept (b ∷ line) [] (is_free checks comments (form_of (b ∷ line))) refl plain none_kept

kept_parts : (lines : List (List ℕ)) (old : List ℕ) → IsCutAt old lines
    → IsKept (kept_of checks comments (ended lines) (slice_split is_newline (form_of old)))
kept_parts [] old cut = absurd cut
kept_parts (line ∷ []) old cut =
    subst (λ forms. IsKept (kept_of checks comments (last_of line) forms))
    (sym (ap (λ l. slice_split is_newline (form_of l)) cut.1 ∙ split_alone (form_of line) (plain_form line cut.0)))
    (last_kept line cut.0)
kept_parts (line ∷ next ∷ lines) old cut =
    subst (λ forms. IsKept (kept_of checks comments (line ∷ ended (next ∷ lines)) forms))
    (sym (ap (λ l. slice_split is_newline (form_of l)) cut.2 ∙ ap (slice_split is_newline) (form_by_lines line cut.1)
    ∙ split_before (form_of line) (form_of cut.1) (plain_form line cut.0)))
    (more_kept line (kept_of checks comments (ended (next ∷ lines)) (slice_split is_newline (form_of cut.1)))
    (is_free checks comments (form_of line)) refl cut.0 (kept_parts (next ∷ lines) cut.1 cut.3))

pub kept_is : (old : List ℕ) → IsKept (kept old)
kept_is old = kept_parts (slice_split is_newline old) old (split_is old)
