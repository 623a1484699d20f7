-- What comes next in a body is a piece of its cut, or its end, and a piece that is found is put behind the others. By
-- the lemmas on each kind of piece in `CutLemmas`, at an offset of the body. The hard one is `one_more_raw`: a cut of the
-- rest stays a cut of the whole.
use Rattle.std.proofs.Common.{◌≡◌, ℕ, ◌+◌, ◌≤◌, false, List, [], ◌∷◌, ◌++◌, Some, None, length, length-drop, drop, map, sym, ap, ◌∙◌, subst, arith, append_assoc}
use Rattle.std.proofs.lemmas.List.{map-append}
use Rattle.pattern_parse.specs.Cut.{IsCut, Raw, Ending, front_at}
use Rattle.pattern_parse.specs.Ends.{end_of, run_of, up_to_end}
use Rattle.pattern_parse.specs.RawView.{Steps, raw_view}
use Rattle.pattern_parse.specs.declared.cutting.Raw as raws
use Rattle.pattern_parse.specs.declared.cutting.Step.TheVariants as step
use Rattle.pattern_parse.specs.declared.cutting.RawKind.TheVariants as kind
use Rattle.pattern_parse.specs.declared.cutting.Ending.TheVariants as ending
use Rattle.pattern_parse.specs.declared.cutting.Front.TheVariants.{Regex, Block, Text}
use Rattle.pattern_parse.proofs.CutLemmas.{some_run, text_cut, regex_cut, block_cut, regex_open, block_open}

pub text_steps : (body rest : List ℕ) (at n : ℕ) → front_at (drop at body) ≡ Text → at ≤ length body
    → rest ≡ drop at body → n ≡ run_of rest → n ≤ length rest
    → Steps body at (step.Piece (record { kind = kind.Text; from = at; to = at + n }) (at + n))
text_steps body rest at n is within behind exact fits =
    let same : n ≡ run_of (drop at body) = exact ∙ ap run_of behind in
    subst (λ m. Steps body at (step.Piece (record { kind = kind.Text; from = at; to = at + m }) (at + m))) (sym same) (
      omega (arith, some_run (drop at body) is),
      omega (arith, same, fits, ap length behind, length-drop at body),
      λ more e h. text_cut body at more e is h,
    )

pub regex_steps : (body rest : List ℕ) (at n : ℕ) → front_at (drop at body) ≡ Regex → at + 2 ≤ length body
    → rest ≡ drop (at + 2) body → Some n ≡ up_to_end rest → n + 2 ≤ length rest
    → Steps body at (step.Piece (record { kind = kind.Regex; from = at + 2; to = at + 2 + n }) (at + 2 + n + 2))
regex_steps body rest at n is within behind exact fits = (
  omega arith,
  omega (arith, fits, ap length behind, length-drop (at + 2) body),
  λ more e h. regex_cut body at n more e is (ap up_to_end (sym behind) ∙ sym exact) h,
)

pub block_steps : (body rest : List ℕ) (at n : ℕ) → front_at (drop at body) ≡ Block → at + 2 ≤ length body
    → rest ≡ drop (at + 2) body → Some n ≡ end_of 0 false rest → n + 2 ≤ length rest
    → Steps body at (step.Piece (record { kind = kind.Block; from = at + 2; to = at + 2 + n }) (at + 2 + n + 2))
block_steps body rest at n is within behind exact fits = (
  omega arith,
  omega (arith, fits, ap length behind, length-drop (at + 2) body),
  λ more e h. block_cut body at n more e is (ap (end_of 0 false) (sym behind) ∙ sym exact) h,
)

pub regex_ends : (body rest : List ℕ) (at : ℕ) → front_at (drop at body) ≡ Regex → rest ≡ drop (at + 2) body
    → None ≡ up_to_end rest → Steps body at (step.Ends ending.NoRegexEnd)
regex_ends body rest at is behind none = regex_open body at is (ap up_to_end (sym behind) ∙ sym none)

pub block_ends : (body rest : List ℕ) (at : ℕ) → front_at (drop at body) ≡ Block → rest ≡ drop (at + 2) body
    → None ≡ end_of 0 false rest → Steps body at (step.Ends ending.NoBlockEnd)
block_ends body rest at is behind none = block_open body at is (ap (end_of 0 false) (sym behind) ∙ sym none)

-- a piece is put behind those that were found
pub one_more_raw : (body : List ℕ) (old new : List raws.Raw) (raw : raws.Raw) (at next : ℕ) → new ≡ old ++ raw ∷ []
    → ((more : List Raw) (e : Ending) → IsCut (drop at body) more e → IsCut body (map (raw_view body) old ++ more) e)
    → ((more : List Raw) (e : Ending) → IsCut (drop next body) more e
    → IsCut (drop at body) (raw_view body raw ∷ more) e)
    → (more : List Raw) (e : Ending) → IsCut (drop next body) more e → IsCut body (map (raw_view body) new ++ more) e
one_more_raw body old new raw at next is before one more e h =
    let joined : map (raw_view body) new ++ more ≡ map (raw_view body) old ++ raw_view body raw ∷ more =
    ap (λ rs. map (raw_view body) rs ++ more) is
    ∙ ap (λ rs. rs ++ more) (map-append (raw_view body) old (raw ∷ []))
    ∙ append_assoc (map (raw_view body) old) (raw_view body raw ∷ []) more in
    subst (λ rs. IsCut body rs e) (sym joined) (before (raw_view body raw ∷ more) e (one more e h))
