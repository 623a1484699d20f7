-- Directives with the patterns of their bodies.
-- After LLVM Command Guide, FileCheck: what stands behind a directive's colon is its pattern, and --implicit-check-not
-- adds NOTs. Own rules: bodies are read in order, and the first that is refused is told; the format of a number is known
-- from its definition on.
use Rattle.std.specs.Prelude.{◌≡◌, ◌≤◌, ℕ, ◌+◌, ◌-◌, Bool, false, min, List, [], ◌∷◌, ◌++◌, length, map, take, drop, Result, Ok, Err}
use Rattle.std.specs.FinMap.{FinMap, get}
use Rattle.check_group.specs.declared.directive.Check.{Check}
use Rattle.check_lines.specs.Kind.{demand_of}
use Rattle.check_lines.specs.declared.directive.Directive.{Directive}
use Rattle.check_lines.specs.declared.kind.Kind.TheVariants.{Not}
use Rattle.check_program.specs.Names.{names_once}
use Rattle.check_program.specs.declared.program.CompileFail.{CompileFail}
use Rattle.check_program.specs.declared.program.CompileFail.TheVariants.{Bad, NoMemory}
use Rattle.check_program.specs.declared.program.CompileOpts.{CompileOpts}
use Rattle.check_program.specs.declared.program.Program.{Program}
use Rattle.num_base.specs.Names.{name_cmp}
use Rattle.num_base.specs.declared.format.Format.{Format}
use Rattle.pattern_parse.specs.Item.{Item}
use Rattle.pattern_parse.specs.PieceView.{items_view}
use Rattle.pattern_parse.specs.Pieces.{IsPieces, frame_of, with_formats}
use Rattle.pattern_parse.specs.Search.{IsSearchable}
use Rattle.pattern_parse.specs.declared.fault.PatFault.{PatFault}
use Rattle.pattern_parse.specs.declared.demand.Demand.{Demand}
use Rattle.pattern_parse.specs.declared.pattern.BodyRules.{BodyRules}

-- ---- bodies

-- the body of a directive, with what decides how it is read, and its line
pub record Body : Type 0 where
  pub bytes : List ℕ
  pub demand : Demand
  pub literal : Bool
  pub line : ℕ

-- a directive's body ends at or before an offset
abbrev pub EndsBy : ℕ → Directive → Type 0
EndsBy offset directive = directive.body.to ≤ offset

-- the body of a directive in a text
abbrev pub body_of : List ℕ → Directive → Body
body_of text directive = record {
  bytes = take (directive.body.to - directive.body.from) (drop directive.body.from text);
  demand = demand_of directive.kind;
  literal = directive.literal;
  line = directive.line;
}

-- an implicit NOT on a line; a line past the greatest is that one
abbrev pub implicit_body : ℕ → List ℕ → Body
implicit_body line bytes = record {
  bytes = bytes;
  demand = demand_of Not;
  literal = false;
  line = min line 4294967295;
}

-- implicit NOTs, of which the first stands on a line
abbrev pub implicit_bodies : ℕ → List (List ℕ) → List Body
implicit_bodies line [] = []
implicit_bodies line (bytes ∷ others) = implicit_body line bytes ∷ implicit_bodies (line + 1) others

-- all bodies of a check file: those of its directives, and behind them the implicit ones
abbrev pub bodies_of : List ℕ → List Directive → List (List ℕ) → List Body
bodies_of text directives implicit = map (body_of text) directives ++ implicit_bodies 1 implicit

-- ---- directives

-- formats of numbers under names
abbrev pub Formats : Type 0
Formats = FinMap name_cmp Format

-- what decides how a body is read
abbrev pub rules_of : CompileOpts → Body → BodyRules
rules_of opts body = record { demand = body.demand; literal = body.literal; fold = opts.fold; frame = opts.frame }

-- what is read of a body, where these formats are known
abbrev pub IsRead : CompileOpts → Formats → Body → Result (List Item) PatFault → Type 0
IsRead opts known body read = IsPieces body.bytes (rules_of opts body) (get known) read

-- the directive of a number that a body is, where these formats are known
pub record IsCheck (opts : CompileOpts) (index : ℕ) (known : Formats) (body : Body) (check : Check) : Type 0 where
  pub number : check.number ≡ index
  pub demand : check.demand ≡ body.demand
  pub line : check.line ≡ body.line
  pub read : IsRead opts known body (Ok (items_view check.pattern.pieces))
  pub frame : check.pattern.frame ≡ frame_of (rules_of opts body)
  pub fold : check.pattern.fold ≡ opts.fold
  pub searchable : IsSearchable (items_view check.pattern.pieces)

-- the formats that are known behind a directive
abbrev pub formats_behind : Formats → Check → Formats
formats_behind known check = with_formats known (items_view check.pattern.pieces)

-- bodies are these directives, of which the first has a number; formats that are known before the first become those that
-- are known behind the last
abbrev pub AreChecks : CompileOpts → ℕ → Formats → List Body → List Check → Formats → Type 0
AreChecks opts number old [] [] new = new ≡ old
AreChecks opts number old [] (check ∷ checks) new = ⊥
AreChecks opts number old (body ∷ bodies) [] new = ⊥
AreChecks opts number old (body ∷ bodies) (check ∷ checks) new =
    IsCheck opts number old body check × AreChecks opts (number + 1) (formats_behind old check) bodies checks new

-- some first bodies are directives, behind which these formats are known
pub record IsPartWay (opts : CompileOpts) (number : ℕ) (old : Formats) (bodies : List Body) (new : Formats)
    : Type 0 where
  pub front : List Body
  pub rest : List Body
  pub checks : List Check
  pub parts : front ++ rest ≡ bodies
  pub compiled : AreChecks opts number old front checks new

-- the first body that is refused, by its number: those before it are directives, behind which these formats are known
pub record IsRefused (opts : CompileOpts) (number : ℕ) (old : Formats) (bodies : List Body) (told : ℕ)
    (fault : PatFault) (new : Formats) : Type 0 where
  pub front : List Body
  pub body : Body
  pub rest : List Body
  pub checks : List Check
  pub parts : front ++ body ∷ rest ≡ bodies
  pub compiled : AreChecks opts number old front checks new
  pub directive : told ≡ number + length front
  pub refused : IsRead opts new body (Err fault)

-- what bodies came to, of which the first has a number, and which formats are known behind it
abbrev pub Comes : CompileOpts → ℕ → Formats → List Body → Result (List Check) CompileFail → Formats → Type 0
Comes opts number old bodies (Ok checks) new = AreChecks opts number old bodies checks new
Comes opts number old bodies (Err (Bad directive fault)) new = IsRefused opts number old bodies directive fault new
Comes opts number old bodies (Err NoMemory) new = IsPartWay opts number old bodies new

-- ---- programs

-- a program is the directives of bodies, of which so many are those of lines, and their names
pub record IsProgram (opts : CompileOpts) (count : ℕ) (old : Formats) (bodies : List Body) (program : Program)
    (new : Formats) : Type 0 where
  pub compiled : AreChecks opts 0 old bodies (program.checks ++ program.always) new
  pub lines : length program.checks ≡ count
  pub names : program.names ≡ names_once (program.checks ++ program.always)

-- what the bodies of a check file came to, and which formats are known behind it
abbrev pub Compiles : CompileOpts → ℕ → Formats → List Body → Result Program CompileFail → Formats → Type 0
Compiles opts lines old bodies (Ok program) new = IsProgram opts lines old bodies program new
Compiles opts lines old bodies (Err (Bad directive fault)) new = IsRefused opts 0 old bodies directive fault new
Compiles opts lines old bodies (Err NoMemory) new = IsPartWay opts 0 old bodies new
