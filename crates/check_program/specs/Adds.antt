-- What one body comes to. Own rule: a refusal leaves the formats as they were.
use Rattle.std.specs.Prelude.{◌≡◌, ◌⊎◌, ℕ, List, [], ◌∷◌, ◌++◌, Result, Ok, Err}
use Rattle.check_group.specs.declared.directive.Check.{Check}
use Rattle.check_program.specs.Compiled.{Body, Formats, IsCheck, IsRead, formats_behind}
use Rattle.check_program.specs.declared.compiling.RawBody.{RawBody}
use Rattle.check_program.specs.declared.program.CompileFail.{CompileFail}
use Rattle.check_program.specs.declared.program.CompileFail.TheVariants.{Bad, NoMemory}
use Rattle.check_program.specs.declared.program.CompileOpts.{CompileOpts}
use Rattle.pattern_parse.specs.declared.fault.PatFault.{PatFault}

-- a body that stands in a text
abbrev pub body_seen : RawBody → Body
body_seen body = record { bytes = body.bytes.now; demand = body.demand; literal = body.literal; line = body.line }

-- a body is refused under a number, and the formats stay
pub record IsRefusal (opts : CompileOpts) (number : ℕ) (old : Formats) (body : Body) (told : ℕ) (fault : PatFault)
    (new : Formats) : Type 0 where
  pub directive : told ≡ number
  pub refused : IsRead opts old body (Err fault)
  pub stay : new ≡ old

-- the directive of a body, with the formats that are known behind it
pub record IsOneMore (opts : CompileOpts) (number : ℕ) (old : Formats) (body : Body) (check : Check) (new : Formats)
    : Type 0 where
  pub is : IsCheck opts number old body check
  pub known : new ≡ formats_behind old check

-- what a body of a number came to
abbrev pub IsOne : CompileOpts → ℕ → Formats → Body → Result Check CompileFail → Formats → Type 0
IsOne opts number old body (Ok check) new = IsOneMore opts number old body check new
IsOne opts number old body (Err (Bad directive fault)) new = IsRefusal opts number old body directive fault new
IsOne opts number old body (Err NoMemory) new = new ≡ old

-- the same, where its directive is added to others; want of memory may come before or behind the formats
abbrev pub Adds : CompileOpts → ℕ → List Check → Formats → Body → Result (Unit {0}) CompileFail → List Check
    → Formats → Type 0
Adds opts number checks old body (Ok done) more new =
    (check : Check) × IsOneMore opts number old body check new × (more ≡ checks ++ check ∷ [])
Adds opts number checks old body (Err (Bad directive fault)) more new =
    IsRefusal opts number old body directive fault new
Adds opts number checks old body (Err NoMemory) more new =
    (new ≡ old) ⊎ ((check : Check) × IsOneMore opts number old body check new)
