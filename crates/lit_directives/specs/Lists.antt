-- The lists and the retries of a script, said of its directives as a whole.
-- After LLVM Testing Infrastructure Guide, 'Constraining test execution': the lists of several lines add up. Own rules: one
-- ALLOW_RETRIES at most, and at most 1,000 RUN directives.
use Rattle.std.specs.Prelude.{◌≡◌, ◌≤◌, ℕ, Bool, true, false, All, List, [], ◌∷◌, ◌++◌, length, IfOk, Option, Some, None, if◌then◌else◌}
use Rattle.bool_exprs.specs.Expr.{Expr, expr_of, refers}
use Rattle.bool_exprs.specs.Place.{exprs_in}
use Rattle.bool_exprs.specs.declared.expr.BoolExpr.{BoolExpr}
use Rattle.lit_directives.specs.Script.{Directive, Whole, directives_of, retries_of}
use Rattle.lit_directives.specs.declared.fault.TheConstants.{MAX_RUNS}
use Rattle.lit_directives.specs.declared.keyword.Kind.{Kind}
use Rattle.lit_directives.specs.declared.keyword.Kind.TheVariants.{Run, Requires, Unsupported, Xfail, Retries}
use Rattle.lit_directives.specs.declared.script.Script as scripts

abbrev pub is_kind : Kind → Kind → Bool
is_kind Run Run = true
is_kind Requires Requires = true
is_kind Unsupported Unsupported = true
is_kind Xfail Xfail = true
is_kind Retries Retries = true
is_kind wanted kind = false

-- what stands behind the keyword of one kind, directive by directive
unfoldable pub texts : Kind → List Directive → List (List ℕ)
texts wanted [] = []
texts wanted (one ∷ more) = if is_kind wanted one.kind then one.rest ∷ texts wanted more else texts wanted more

-- the items of a text, where it is a list
abbrev pub items : Option (List Expr) → List Expr
items None = []
items (Some these) = these

-- the items of lists, one behind the other
unfoldable pub added_up : Bool → List (List ℕ) → List Expr
added_up xfail [] = []
added_up xfail (text ∷ more) = items (exprs_in xfail text) ++ added_up xfail more

-- the number of retries, by what stands behind each ALLOW_RETRIES
abbrev pub RetriesAre : List (List ℕ) → ℕ → Type 0
RetriesAre [] number = number ≡ 0
RetriesAre (text ∷ []) number = retries_of text ≡ Some number
RetriesAre (text ∷ second ∷ more) number = ⊥

-- a script's lists are the items of its directives in order
pub record ListsAddUp (ds : List Directive) (w : Whole) : Type 0 where
  pub required : w.required ≡ added_up false (texts Requires ds)
  pub unsupported : w.unsupported ≡ added_up false (texts Unsupported ds)
  pub xfail : w.xfail ≡ added_up true (texts Xfail ds)
  pub retries : RetriesAre (texts Retries ds) w.retries
  pub few : length (texts Run ds) ≤ MAX_RUNS

-- no expression has references
abbrev pub AreFree : List BoolExpr → Type 0
AreFree = All (λ e. refers (expr_of e) ≡ false)

pub record HasNoRefs (script : scripts.Script) : Type 0 where
  pub required : AreFree script.required
  pub unsupported : AreFree script.unsupported
  pub xfail : AreFree script.xfail
