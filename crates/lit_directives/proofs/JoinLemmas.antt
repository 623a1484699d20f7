-- The RUN lines of a script are its RUN directives, joined where one goes on.
-- What is read of directives adds RUN lines to those before, the first of which may have begun, by cases on the kind of
-- the first directive. The hard one is `run_more`, which puts a part before others.
use Rattle.std.proofs.Common.{◌≡◌, ℕ, ◌-◌, Bool, true, false, List, [], ◌∷◌, ◌++◌, length, take, Option, Some, None, Result, Ok, Err, refl, sym, ap, subst, ◌∙◌, append_assoc}
use Rattle.std.specs.Prelude.{IfOk, nat_le}
use Rattle.std.proofs.lemmas.List.{append-nil}
use Rattle.bool_exprs.specs.Expr.{Expr}
use Rattle.bool_exprs.specs.Place.{exprs_in}
use Rattle.lit_directives.specs.Joined.{AreRuns, Joins, Part, kept, parts}
use Rattle.lit_directives.specs.Line.{front_kept, trimmed}
use Rattle.lit_directives.specs.Script.{Directive, IsScript, State, Whole, after_all, beginning, begun, by_directive, directives_of, ended, finished, goes_on, part_text, retries_of, script_of, script_view, with_part, with_text}
use Rattle.lit_directives.specs.declared.fault.ScriptFail.{ScriptFail}
use Rattle.lit_directives.specs.declared.fault.TheConstants.{MAX_RUNS}
use Rattle.lit_directives.specs.declared.keyword.Kind.{Kind}
use Rattle.lit_directives.specs.declared.keyword.Kind.TheVariants.{Run, Requires, Unsupported, Xfail, Retries}
use Rattle.lit_directives.specs.declared.script.RunLine.{RunLine}
use Rattle.lit_directives.specs.declared.script.Script as scripts
use Rattle.lit_directives.proofs.ListLemmas.{ended_parts, list_parts, retries_parts, run_parts, then_parts}

-- what parts give where a RUN line goes on or not
abbrev Further : Option (RunLine × ℕ) → List Part → List RunLine → Type 0
Further None all new = AreRuns all new
Further (Some pending) all [] = ⊥
Further (Some pending) all (run ∷ more) = (here : List Part) × (later : List Part) × (rest : List ℕ)
    × (all ≡ here ++ later) × Joins (kept here) rest × (run ≡ with_text pending.0 rest) × AreRuns later more

record More (pending : Option (RunLine × ℕ)) (runs : List RunLine) (all : List Part) (there : List RunLine) : Type 0 where
  new : List RunLine
  added : there ≡ runs ++ new
  further : Further pending all new

-- a text that goes on before others
joins_more : (text : List ℕ) (more : List (List ℕ)) (rest : List ℕ) → goes_on text ≡ true → Joins more rest
    → Joins (text ∷ more) (take (length text - 1) text ++ rest)
unfolding Joins
joins_more text [] rest is joins = absurd joins
joins_more text (next ∷ more) rest is joins = (is, rest, joins, refl)

-- a part before others
module _ (line : ℕ) (rest : List ℕ) (all : List Part) (runs there : List RunLine) where
  -- which ends a RUN line
  run_ends : (pending : Option (RunLine × ℕ)) → goes_on (part_text pending rest) ≡ false
      → More None (runs ++ with_text (begun line pending) (part_text pending rest) ∷ []) all there
      → More pending runs ((line, rest) ∷ all) there
  unfolding AreRuns Joins
  run_ends None is next =
      let run : RunLine = with_text (begun line None) (trimmed rest) in
      record {
        new = run ∷ next.new;
        added = next.added ∙ append_assoc runs (run ∷ []) next.new;
        further = ((line, rest) ∷ [], all, refl, (refl, (is, refl)), next.further);
      }
  run_ends (Some pending) is next =
      let run : RunLine = with_text pending.0 (front_kept rest) in
      record {
        new = run ∷ next.new;
        added = next.added ∙ append_assoc runs (run ∷ []) next.new;
        further = ((line, rest) ∷ [], all, front_kept rest, refl, (is, refl), refl, next.further);
      }

  abbrev longer : Option (RunLine × ℕ) → List ℕ → Option (RunLine × ℕ)
  longer pending text = Some (with_text (begun line pending) (take (length text - 1) text), line)

  -- which goes on
  run_goes : (pending : Option (RunLine × ℕ)) (new : List RunLine) → goes_on (part_text pending rest) ≡ true
      → Further (longer pending (part_text pending rest)) all new → Further pending ((line, rest) ∷ all) new
  unfolding AreRuns
  run_goes pending [] is further = absurd further
  run_goes None (run ∷ more) is (here, later, behind, cut, joins, same, are) =
      let text = trimmed rest in (
        (line, rest) ∷ here,
        later,
        ap (λ l. (line, rest) ∷ l) cut,
        (
          ap (λ (r : RunLine). r.line) same,
          subst (Joins (text ∷ kept here)) (sym (ap (λ (r : RunLine). r.text) same)) (joins_more text (kept here) behind is joins),
        ),
        are,
      )
  run_goes (Some pending) (run ∷ more) is (here, later, behind, cut, joins, same, are) =
      let text = front_kept rest in
      let cut_text = take (length text - 1) text in
      let run_is : run ≡ with_text pending.0 (cut_text ++ behind) = same
      ∙ ap (λ (l : List ℕ). record { line = pending.0.line; text = l }) (append_assoc pending.0.text cut_text behind) in (
        (line, rest) ∷ here,
        later,
        cut_text ++ behind,
        ap (λ l. (line, rest) ∷ l) cut,
        joins_more text (kept here) behind is joins,
        run_is,
        are,
      )

-- a RUN directive before others
run_more : (goes : Bool) (s : State) (line : ℕ) (rest : List ℕ) (all : List Part) (there : List RunLine)
    → goes_on (part_text s.pending rest) ≡ goes
    → (let u : State = with_part goes s line (begun line s.pending) (part_text s.pending rest) in More u.pending u.runs all there)
    → More s.pending s.runs ((line, rest) ∷ all) there
run_more false s line rest all there is next = run_ends line rest all s.runs there s.pending is next
run_more true s line rest all there is next = record {
  new = next.new;
  added = next.added;
  further = run_goes line rest all s.runs there s.pending next.new is next.further;
}

abbrev Runs : State → List Directive → State → Type 0
Runs s ds t = More s.pending s.runs (parts ds) t.runs

-- a directive before others
module _ (s u t : State) (line : ℕ) (rest : List ℕ) (ds : List Directive) where
  behind : (is_text : Bool) (kind : Kind) → by_directive s line is_text kind rest ≡ Ok u → Runs u ds t
      → Runs s (record { line = line; is_text = is_text; kind = kind; rest = rest } ∷ ds) t
  unfolding parts
  behind false kind is more = cc
  behind true Run is more =
      let text = part_text s.pending rest in
      let parted = run_parts (nat_le MAX_RUNS s.count) line (with_part (goes_on text) s line (begun line s.pending) text) u is in
      run_more (goes_on text) s line rest (parts ds) t.runs refl (subst (λ u. Runs u ds t) (sym parted.1) more)
  behind true Requires is more =
      let put : List Expr → State = λ these. record s { required = s.required ++ these } in
      let parted = list_parts line (exprs_in false rest) put u is in
      subst (λ u. Runs u ds t) (sym parted.2) more
  behind true Unsupported is more =
      let put : List Expr → State = λ these. record s { unsupported = s.unsupported ++ these } in
      let parted = list_parts line (exprs_in false rest) put u is in
      subst (λ u. Runs u ds t) (sym parted.2) more
  behind true Xfail is more =
      let put : List Expr → State = λ these. record s { xfail = s.xfail ++ these } in
      let parted = list_parts line (exprs_in true rest) put u is in
      subst (λ u. Runs u ds t) (sym parted.2) more
  behind true Retries is more =
      subst (λ u. Runs u ds t) (sym (retries_parts s line s.retries (retries_of rest) u is).3) more

runs_from : (ds : List Directive) (s t : State) → after_all s ds ≡ Ok t → t.pending ≡ None → Runs s ds t
unfolding after_all parts AreRuns
runs_from [] s t is ended =
    let same : s ≡ t = cc in
    let none : s.pending ≡ None = ap (λ (s : State). s.pending) same ∙ ended in
    record {
      new = [];
      added = sym (append-nil s.runs ∙ ap (λ (s : State). s.runs) same);
      further = subst (λ p. Further p [] []) (sym none) refl;
    }
runs_from (one ∷ ds) s t is ended =
    let parted = then_parts (by_directive s one.line one.is_text one.kind one.rest) (λ there. after_all there ds) t is in
    behind s parted.0 t one.line one.rest ds one.is_text one.kind parted.1 (runs_from ds parted.0 t parted.2 ended)

-- ---- the whole script

script_runs : (text : List ℕ) (w : Whole) → script_of text ≡ Ok w → AreRuns (parts (directives_of text)) w.runs
script_runs text w is =
    let ds = directives_of text in
    let parted = ended_parts (after_all beginning ds) w is in
    let all : Runs beginning ds parted.0 = runs_from ds beginning parted.0 parted.1 parted.2 in
    subst (AreRuns (parts ds)) (sym all.added ∙ ap (λ (w : Whole). w.runs) parted.3) all.further

pub answer_joins : (text : List ℕ) (answer : Result scripts.Script ScriptFail) → IsScript answer (script_of text)
    → IfOk answer (λ script. AreRuns (parts (directives_of text)) script.runs)
answer_joins text (Ok script) is = script_runs text (script_view script) is
answer_joins text (Err fail) is = tt
