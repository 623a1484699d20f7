-- The lists and retries of a script are those of its directives in order, and no item has references.
-- What is read of directives adds to the state before them, directive by directive, by cases on the kind of the first.
-- The hard one is `stepped`, which puts a directive before others.
use Rattle.std.proofs.Common.{◌≡◌, ℕ, zero, suc, ◌+◌, ◌<◌, ◌≤◌, Bool, true, false, List, [], ◌∷◌, ◌++◌, length, map, cond, Option, Some, None, Result, Ok, Err, refl, sym, ap, subst, ◌∙◌, arith, append_assoc}
use Rattle.std.specs.Prelude.{All, IfOk, nat_le, ◌==◌}
use Rattle.std.proofs.lemmas.List.{append-nil}
use Rattle.std.proofs.lemmas.Bool.{leb-false}
use Rattle.bool_exprs.specs.Expr.{Expr, expr_of, refers}
use Rattle.bool_exprs.specs.Place.{exprs_in}
use Rattle.bool_exprs.specs.declared.expr.BoolExpr.{BoolExpr}
use Rattle.bool_exprs.proofs.FreeLemmas.{IfFree, list_free}
use Rattle.lit_directives.specs.Lists.{AreFree, HasNoRefs, ListsAddUp, RetriesAre, added_up, items, texts}
use Rattle.lit_directives.specs.Script.{Directive, IsScript, State, Whole, after_all, and_then, beginning, begun, by_directive, directives_of, ended, finished, goes_on, number_or_none, part_text, retries_of, script_of, script_view, whole_of, with_list, with_part, with_retries}
use Rattle.lit_directives.specs.declared.fault.ScriptFail.{ScriptFail}
use Rattle.lit_directives.specs.declared.fault.ScriptFault.{ScriptFault}
use Rattle.lit_directives.specs.declared.fault.ScriptFault.TheVariants.{NoRun, TooMany}
use Rattle.lit_directives.specs.declared.fault.TheConstants.{MAX_RUNS}
use Rattle.lit_directives.specs.declared.keyword.Kind.{Kind}
use Rattle.lit_directives.specs.declared.keyword.Kind.TheVariants.{Run, Requires, Unsupported, Xfail, Retries}
use Rattle.lit_directives.specs.declared.script.RunLine.{RunLine}
use Rattle.lit_directives.specs.declared.script.Script as scripts

-- ---- what directives add to a state

-- the number of retries behind these texts
abbrev RetriesFrom : Option ℕ → List (List ℕ) → Option ℕ → Type 0
RetriesFrom earlier [] later = later ≡ earlier
RetriesFrom None (text ∷ []) later = (number : ℕ) × (retries_of text ≡ Some number) × (later ≡ Some number)
RetriesFrom earlier texts later = ⊥

record Adds (s : State) (ds : List Directive) (t : State) : Type 0 where
  required : t.required ≡ s.required ++ added_up false (texts Requires ds)
  unsupported : t.unsupported ≡ s.unsupported ++ added_up false (texts Unsupported ds)
  xfail : t.xfail ≡ s.xfail ++ added_up true (texts Xfail ds)
  retries : RetriesFrom s.retries (texts Retries ds) t.retries
  count : t.count ≡ s.count + length (texts Run ds)
  few : s.count ≤ MAX_RUNS → t.count ≤ MAX_RUNS

pub then_parts : (r : Result State ScriptFault) (go : State → Result State ScriptFault) (t : State) → and_then r go ≡ Ok t
    → (u : State) × (r ≡ Ok u) × (go u ≡ Ok t)
then_parts (Err fault) go t is = cc
then_parts (Ok u) go t is = (u, refl, is)

pub list_parts : (line : ℕ) (o : Option (List Expr)) (put : List Expr → State) (u : State) → with_list line o put ≡ Ok u
    → (these : List Expr) × (o ≡ Some these) × (put these ≡ u)
list_parts line None put u is = cc
list_parts line (Some these) put u is = (these, refl, cc)

pub run_parts : (full : Bool) (line : ℕ) (s u : State) → cond full (Err (TooMany line)) (Ok s) ≡ Ok u → (full ≡ false) × (s ≡ u)
run_parts true line s u is = cc
run_parts false line s u is = (refl, cc)

pub retries_parts : (s : State) (line : ℕ) (earlier number : Option ℕ) (u : State) → with_retries s line earlier number ≡ Ok u
    → (earlier ≡ None) × (n : ℕ) × (number ≡ Some n) × (record s { retries = Some n } ≡ u)
retries_parts s line (Some n) number u is = cc
retries_parts s line None None u is = cc
retries_parts s line None (Some n) u is = (refl, n, refl, cc)

-- items, and those of lists behind them
regroup : (xs these more ts : List Expr) (o : Option (List Expr)) → o ≡ Some these → ts ≡ (xs ++ these) ++ more
    → ts ≡ xs ++ (items o ++ more)
regroup xs these more ts o is all =
    all ∙ append_assoc xs these more ∙ ap (λ o. xs ++ (items o ++ more)) (sym is)

-- a RUN directive before others
run_adds : (goes : Bool) (s t : State) (line : ℕ) (run : RunLine) (text : List ℕ) (one : Directive) (ds : List Directive)
    → one.kind ≡ Run → s.count < MAX_RUNS → Adds (with_part goes s line run text) ds t → Adds s (one ∷ ds) t
unfolding texts
run_adds true s t line run text one ds is below more = rw is (record {
  required = more.required;
  unsupported = more.unsupported;
  xfail = more.xfail;
  retries = more.retries;
  count = omega (arith, more.count);
  few = λ _. more.few (omega arith);
})
run_adds false s t line run text one ds is below more = rw is (record {
  required = more.required;
  unsupported = more.unsupported;
  xfail = more.xfail;
  retries = more.retries;
  count = omega (arith, more.count);
  few = λ _. more.few (omega arith);
})

-- an ALLOW_RETRIES before others
retries_join : (earlier later : Option ℕ) (n : ℕ) (text : List ℕ) (more : List (List ℕ)) → earlier ≡ None
    → retries_of text ≡ Some n → RetriesFrom (Some n) more later → RetriesFrom earlier (text ∷ more) later
retries_join None later n text [] none is same = (n, is, same)
retries_join None later n text (x ∷ []) none is same = same
retries_join None later n text (x ∷ y ∷ more) none is same = same
retries_join (Some m) later n text more none is same = cc

-- a directive before others
module _ (s u t : State) (line : ℕ) (rest : List ℕ) (ds : List Directive) where
  abbrev one : Bool → Kind → Directive
  one is_text kind = record { line = line; is_text = is_text; kind = kind; rest = rest }

  stepped : (is_text : Bool) (kind : Kind) → by_directive s line is_text kind rest ≡ Ok u → Adds u ds t
      → Adds s (one is_text kind ∷ ds) t
  unfolding texts added_up
  stepped false kind is more = cc
  stepped true Run is more =
      let text = part_text s.pending rest in
      let run = begun line s.pending in
      let parts = run_parts (nat_le MAX_RUNS s.count) line (with_part (goes_on text) s line run text) u is in
      run_adds (goes_on text) s t line run text (one true Run) ds refl (leb-false MAX_RUNS s.count parts.0)
      (subst (λ u. Adds u ds t) (sym parts.1) more)
  stepped true Requires is more =
      let put : List Expr → State = λ these. record s { required = s.required ++ these } in
      let parts = list_parts line (exprs_in false rest) put u is in
      let next : Adds (put parts.0) ds t = subst (λ u. Adds u ds t) (sym parts.2) more in
      record {
        required = regroup s.required parts.0 (added_up false (texts Requires ds)) t.required (exprs_in false rest) parts.1
            next.required;
        unsupported = next.unsupported;
        xfail = next.xfail;
        retries = next.retries;
        count = next.count;
        few = next.few;
      }
  stepped true Unsupported is more =
      let put : List Expr → State = λ these. record s { unsupported = s.unsupported ++ these } in
      let parts = list_parts line (exprs_in false rest) put u is in
      let next : Adds (put parts.0) ds t = subst (λ u. Adds u ds t) (sym parts.2) more in
      record {
        unsupported = regroup s.unsupported parts.0 (added_up false (texts Unsupported ds)) t.unsupported
            (exprs_in false rest) parts.1 next.unsupported;
        required = next.required;
        xfail = next.xfail;
        retries = next.retries;
        count = next.count;
        few = next.few;
      }
  stepped true Xfail is more =
      let put : List Expr → State = λ these. record s { xfail = s.xfail ++ these } in
      let parts = list_parts line (exprs_in true rest) put u is in
      let next : Adds (put parts.0) ds t = subst (λ u. Adds u ds t) (sym parts.2) more in
      record {
        xfail = regroup s.xfail parts.0 (added_up true (texts Xfail ds)) t.xfail (exprs_in true rest) parts.1 next.xfail;
        required = next.required;
        unsupported = next.unsupported;
        retries = next.retries;
        count = next.count;
        few = next.few;
      }
  stepped true Retries is more =
      let parts = retries_parts s line s.retries (retries_of rest) u is in
      let next : Adds (record s { retries = Some parts.1 }) ds t = subst (λ u. Adds u ds t) (sym parts.3) more in
      record {
        retries = retries_join s.retries t.retries parts.1 rest (texts Retries ds) parts.0 parts.2 next.retries;
        required = next.required;
        unsupported = next.unsupported;
        xfail = next.xfail;
        count = next.count;
        few = next.few;
      }

adds : (ds : List Directive) (s t : State) → after_all s ds ≡ Ok t → Adds s ds t
unfolding after_all texts added_up
adds [] s t is =
    let same : s ≡ t = cc in
    subst (Adds s []) same (record {
      required = sym (append-nil s.required);
      unsupported = sym (append-nil s.unsupported);
      xfail = sym (append-nil s.xfail);
      retries = refl;
      count = omega arith;
      few = λ below. below;
    })
adds (one ∷ ds) s t is =
    let parts = then_parts (by_directive s one.line one.is_text one.kind one.rest) (λ there. after_all there ds) t is in
    stepped s parts.0 t one.line one.rest ds one.is_text one.kind parts.1 (adds ds parts.0 t parts.2)

-- ---- the whole script

finished_parts : (pending : Option (RunLine × ℕ)) (s : State) (w : Whole) → finished pending s ≡ Ok w
    → (pending ≡ None) × (whole_of s ≡ w)
finished_parts (Some pending) s w is = cc
finished_parts None s w is = (refl, by_count (length s.runs == 0) is)
  where
    by_count : (none : Bool) → cond none (Err NoRun) (Ok (whole_of s)) ≡ Ok w → whole_of s ≡ w
    by_count true is = cc
    by_count false is = cc

pub ended_parts : (r : Result State ScriptFault) (w : Whole) → ended r ≡ Ok w
    → (s : State) × (r ≡ Ok s) × (s.pending ≡ None) × (whole_of s ≡ w)
ended_parts (Err fault) w is = cc
ended_parts (Ok s) w is = let found = finished_parts s.pending s w is in (s, refl, found.0, found.1)

retries_are : (told : List (List ℕ)) (later : Option ℕ) → RetriesFrom None told later → RetriesAre told (number_or_none later)
retries_are [] later is = ap number_or_none is
retries_are (text ∷ []) later is = is.1 ∙ ap Some (sym (ap number_or_none is.2))
retries_are (x ∷ y ∷ more) later is = is

lists_add_up : (text : List ℕ) (w : Whole) → script_of text ≡ Ok w → ListsAddUp (directives_of text) w
lists_add_up text w is =
    let ds = directives_of text in
    let parts = ended_parts (after_all beginning ds) w is in
    let s : State = parts.0 in
    let all : Adds beginning ds s = adds ds beginning s parts.1 in
    subst (ListsAddUp ds) parts.3 (record {
      required = all.required;
      unsupported = all.unsupported;
      xfail = all.xfail;
      retries = retries_are (texts Retries ds) s.retries all.retries;
      few = omega (arith, all.count, all.few (omega arith));
    })

-- ---- references

items_free : (o : Option (List Expr)) → IfFree o → IfFree (Some (items o))
items_free None free = tt
items_free (Some these) free = free

join_free : (xs ys : List Expr) → IfFree (Some xs) → IfFree (Some ys) → IfFree (Some (xs ++ ys))
join_free [] ys h k = k
join_free (x ∷ xs) ys h k = (h.0, join_free xs ys h.1 k)

lists_free : (xfail : Bool) (told : List (List ℕ)) → IfFree (Some (added_up xfail told))
unfolding added_up
lists_free xfail [] = tt
lists_free xfail (text ∷ more) =
    join_free (items (exprs_in xfail text)) (added_up xfail more) (items_free (exprs_in xfail text) (list_free xfail text))
    (lists_free xfail more)

-- of the code's expressions
are_free : (xs : List BoolExpr) → IfFree (Some (map expr_of xs)) → AreFree xs
are_free [] h k d below = absurd (omega arith)
are_free (x ∷ xs) h zero d below = h.0
are_free (x ∷ xs) h (suc k) d below = are_free xs h.1 k d (omega arith)

all_free : (xs : List BoolExpr) (xfail : Bool) (told : List (List ℕ)) → map expr_of xs ≡ added_up xfail told → AreFree xs
all_free xs xfail told is = are_free xs (subst (λ l. IfFree (Some l)) (sym is) (lists_free xfail told))

has_no_refs : (ds : List Directive) (script : scripts.Script) → ListsAddUp ds (script_view script) → HasNoRefs script
has_no_refs ds script lists = record {
  required = all_free script.required false (texts Requires ds) lists.required;
  unsupported = all_free script.unsupported false (texts Unsupported ds) lists.unsupported;
  xfail = all_free script.xfail true (texts Xfail ds) lists.xfail;
}

-- ---- of an answer

pub answer_adds_up : (text : List ℕ) (answer : Result scripts.Script ScriptFail) → IsScript answer (script_of text)
    → IfOk answer (λ script. ListsAddUp (directives_of text) (script_view script))
answer_adds_up text (Ok script) is = lists_add_up text (script_view script) is
answer_adds_up text (Err fail) is = tt

pub answer_is_free : (text : List ℕ) (answer : Result scripts.Script ScriptFail) → IsScript answer (script_of text)
    → IfOk answer HasNoRefs
answer_is_free text (Ok script) is = has_no_refs (directives_of text) script (lists_add_up text (script_view script) is)
answer_is_free text (Err fail) is = tt
