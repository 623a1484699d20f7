-- How compiling goes on from body to body.
-- Shown: what some first bodies came to, with what the next one or the others came to, is what all came to. Idea:
-- directives behind directives are those of bodies behind bodies, with the formats between. The hard one is
-- `checks_append`.
use Rattle.std.proofs.Common.{◌≡◌, ◌⊎◌, inl, inr, ℕ, ◌+◌, List, [], ◌∷◌, ◌++◌, length, take, drop, Ok, Err, refl, sym, ap, ◌∙◌, subst, arith, append_assoc}
use Rattle.std.proofs.lemmas.List.{append-nil, length-append, take-append-drop}
use Rattle.check_group.specs.declared.directive.Check.{Check}
use Rattle.check_program.proofs.BodyLemmas.{next}
use Rattle.check_program.specs.Adds.{Adds, IsOneMore, IsRefusal}
use Rattle.check_program.specs.Compiled.{AreChecks, Body, Comes, Compiles, Formats, IsPartWay, IsRead, IsRefused, formats_behind}
use Rattle.check_program.specs.declared.program.CompileFail.{CompileFail}
use Rattle.check_program.specs.declared.program.CompileFail.TheVariants.{Bad, NoMemory}
use Rattle.check_program.specs.declared.program.CompileOpts.{CompileOpts}
use Rattle.pattern_parse.specs.declared.fault.PatFault.{PatFault}

-- directives are as many as their bodies
pub checks_length : (opts : CompileOpts) (number : ℕ) (old : Formats) (bodies : List Body) (checks : List Check)
    (new : Formats) → AreChecks opts number old bodies checks new → length checks ≡ length bodies
checks_length opts number old [] [] new are = refl
checks_length opts number old [] (check ∷ checks) new are = absurd are
checks_length opts number old (body ∷ bodies) [] new are = absurd are
checks_length opts number old (body ∷ bodies) (check ∷ checks) new are =
    omega (arith, checks_length opts (number + 1) (formats_behind old check) bodies checks new are.1)

-- directives behind directives
pub checks_append : (opts : CompileOpts) (number : ℕ) (old mid new : Formats) (front more : List Body)
    (checks others : List Check) → AreChecks opts number old front checks mid
    → AreChecks opts (number + length front) mid more others new
    → AreChecks opts number old (front ++ more) (checks ++ others) new
checks_append opts number old mid new [] more [] others are behind =
    let same : number + 0 ≡ number = omega arith in
    subst (λ known. AreChecks opts number known more others new) are
    (subst (λ n. AreChecks opts n mid more others new) same behind)
checks_append opts number old mid new [] more (check ∷ checks) others are behind = absurd are
checks_append opts number old mid new (body ∷ front) more [] others are behind = absurd are
checks_append opts number old mid new (body ∷ front) more (check ∷ checks) others are behind =
    let same : number + length (body ∷ front) ≡ (number + 1) + length front = omega arith in (
      are.0,
      checks_append opts (number + 1) (formats_behind old check) mid new front more checks others are.1
          (subst (λ n. AreChecks opts n mid more others new) same behind),
    )

-- a directive behind others
pub checks_more : (opts : CompileOpts) (number : ℕ) (old mid new : Formats) (front : List Body) (body : Body)
    (checks : List Check) (check : Check) → AreChecks opts number old front checks mid
    → IsOneMore opts (number + length front) mid body check new
    → AreChecks opts number old (front ++ body ∷ []) (checks ++ check ∷ []) new
checks_more opts number old mid new front body checks check are one =
    checks_append opts number old mid new front (body ∷ []) checks (check ∷ []) are (one.is, one.known)

-- ---- behind some first bodies

module _ (opts : CompileOpts) (number : ℕ) (old mid : Formats) (bodies : List Body) (checks : List Check) (n m : ℕ)
    (at : m ≡ number + n) (body : Body) (rest : List Body) (here : drop n bodies ≡ body ∷ rest)
    (are : AreChecks opts number old (take n bodies) checks mid) where
  parts : take n bodies ++ body ∷ rest ≡ bodies
  parts = ap (λ behind. take n bodies ++ behind) (sym here) ∙ take-append-drop n bodies

  counted : m ≡ number + length (take n bodies)
  counted = omega (arith, at, (next n bodies rest body here).1)

  -- the next is a directive
  pub next_is : (more : List Check) (new : Formats) → Adds opts m checks mid body (Ok tt) more new
      → AreChecks opts number old (take (n + 1) bodies) more new
  next_is more new (check, one, added) =
      subst (λ front. AreChecks opts number old front more new) (sym (next n bodies rest body here).0)
      (subst (λ all. AreChecks opts number old (take n bodies ++ body ∷ []) all new) (sym added)
      (checks_more opts number old mid new (take n bodies) body checks check are
      (subst (λ k. IsOneMore opts k mid body check new) counted one)))

  refused : (told : ℕ) (fault : PatFault) (new : Formats) → IsRefusal opts m mid body told fault new
      → IsRefused opts number old bodies told fault new
  refused told fault new is = record {
    front = take n bodies;
    body = body;
    rest = rest;
    checks = checks;
    parts = parts;
    compiled = subst (AreChecks opts number old (take n bodies) checks) (sym is.stay) are;
    directive = is.directive ∙ counted;
    refused = subst (λ known. IsRead opts known body (Err fault)) (sym is.stay) is.refused;
  }

  part-way : (new : Formats) → (new ≡ mid) ⊎ ((check : Check) × IsOneMore opts m mid body check new)
      → IsPartWay opts number old bodies new
  part-way new (inl same) = record {
    front = take n bodies;
    rest = body ∷ rest;
    checks = checks;
    parts = parts;
    compiled = subst (AreChecks opts number old (take n bodies) checks) (sym same) are;
  }
  part-way new (inr (check, one)) = record {
    front = take n bodies ++ body ∷ [];
    rest = rest;
    checks = checks ++ check ∷ [];
    parts = append_assoc (take n bodies) (body ∷ []) rest ∙ parts;
    compiled = checks_more opts number old mid new (take n bodies) body checks check are
        (subst (λ k. IsOneMore opts k mid body check new) counted one);
  }

  -- the next is refused, or memory runs out at it
  pub next_fails : (fail : CompileFail) (more : List Check) (new : Formats)
      → Adds opts m checks mid body (Err fail) more new
      → Comes opts number old bodies (Err fail) new
  next_fails (Bad told fault) more new is = refused told fault new is
  next_fails NoMemory more new is = part-way new is

-- memory runs out before the next
pub part_way_here : (opts : CompileOpts) (number : ℕ) (old mid : Formats) (bodies : List Body) (checks : List Check)
    (n : ℕ) → AreChecks opts number old (take n bodies) checks mid → IsPartWay opts number old bodies mid
part_way_here opts number old mid bodies checks n are = record {
  front = take n bodies;
  rest = drop n bodies;
  checks = checks;
  parts = take-append-drop n bodies;
  compiled = are;
}

-- ---- behind all of some bodies

module _ (opts : CompileOpts) (number : ℕ) (old mid new : Formats) (bodies more : List Body) (checks : List Check)
    (m : ℕ) (at : m ≡ number + length bodies) (are : AreChecks opts number old bodies checks mid) where
  refused-behind : (told : ℕ) (fault : PatFault) → IsRefused opts m mid more told fault new
      → IsRefused opts number old (bodies ++ more) told fault new
  refused-behind told fault is =
      let both : m + length is.front ≡ number + length (bodies ++ is.front) =
      omega (arith, at, length-append bodies is.front) in
      record {
        front = bodies ++ is.front;
        body = is.body;
        rest = is.rest;
        checks = checks ++ is.checks;
        parts = append_assoc bodies is.front (is.body ∷ is.rest) ∙ ap (λ behind. bodies ++ behind) is.parts;
        compiled = checks_append opts number old mid new bodies is.front checks is.checks are
            (subst (λ k. AreChecks opts k mid is.front is.checks new) at is.compiled);
        directive = is.directive ∙ both;
        refused = is.refused;
      }

  part-way-behind : IsPartWay opts m mid more new → IsPartWay opts number old (bodies ++ more) new
  part-way-behind is = record {
    front = bodies ++ is.front;
    rest = is.rest;
    checks = checks ++ is.checks;
    parts = append_assoc bodies is.front is.rest ∙ ap (λ behind. bodies ++ behind) is.parts;
    compiled = checks_append opts number old mid new bodies is.front checks is.checks are
        (subst (λ k. AreChecks opts k mid is.front is.checks new) at is.compiled);
  }

  pub all_behind : (others : List Check) → AreChecks opts m mid more others new
      → AreChecks opts number old (bodies ++ more) (checks ++ others) new
  all_behind others then =
      checks_append opts number old mid new bodies more checks others are
      (subst (λ k. AreChecks opts k mid more others new) at then)

  pub fails_behind : (fail : CompileFail) → Comes opts m mid more (Err fail) new
      → Comes opts number old (bodies ++ more) (Err fail) new
  fails_behind (Bad told fault) is = refused-behind told fault is
  fails_behind NoMemory is = part-way-behind is

-- ---- before others

module _ (opts : CompileOpts) (number : ℕ) (old new : Formats) (bodies more : List Body) where
  refused-before : (told : ℕ) (fault : PatFault) → IsRefused opts number old bodies told fault new
      → IsRefused opts number old (bodies ++ more) told fault new
  refused-before told fault is = record {
    front = is.front;
    body = is.body;
    rest = is.rest ++ more;
    checks = is.checks;
    parts = sym (append_assoc is.front (is.body ∷ is.rest) more) ∙ ap (λ front. front ++ more) is.parts;
    compiled = is.compiled;
    directive = is.directive;
    refused = is.refused;
  }

  part-way-before : IsPartWay opts number old bodies new → IsPartWay opts number old (bodies ++ more) new
  part-way-before is = record {
    front = is.front;
    rest = is.rest ++ more;
    checks = is.checks;
    parts = sym (append_assoc is.front is.rest more) ∙ ap (λ front. front ++ more) is.parts;
    compiled = is.compiled;
  }

  pub fails_before : (fail : CompileFail) → Comes opts number old bodies (Err fail) new
      → Comes opts number old (bodies ++ more) (Err fail) new
  fails_before (Bad told fault) is = refused-before told fault is
  fails_before NoMemory is = part-way-before is

-- memory runs out behind all bodies
pub part_way_all : (opts : CompileOpts) (number : ℕ) (old new : Formats) (bodies : List Body) (checks : List Check)
    → AreChecks opts number old bodies checks new → IsPartWay opts number old bodies new
part_way_all opts number old new bodies checks are = record {
  front = bodies;
  rest = [];
  checks = checks;
  parts = append-nil bodies;
  compiled = are;
}

-- what fails as a list of directives fails as a program
pub fails_whole : (opts : CompileOpts) (count : ℕ) (old new : Formats) (bodies : List Body) (fail : CompileFail)
    → Comes opts 0 old bodies (Err fail) new → Compiles opts count old bodies (Err fail) new
fails_whole opts count old new bodies (Bad told fault) is = is
fails_whole opts count old new bodies NoMemory is = is
