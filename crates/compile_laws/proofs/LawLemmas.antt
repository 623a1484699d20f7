-- Bodies come to one thing.
-- Shown: directives of the same bodies are the same to scanning, no bodies are both directives and refused, and one
-- refusal is told. Idea: a body is read in one way where the same formats are known, so the same formats are known
-- behind it. The hard one is `one-refusal`.
use Rattle.std.proofs.Common.{◌≡◌, ℕ, ◌+◌, List, [], ◌∷◌, ◌++◌, length, map, Result, Ok, Err, refl, sym, ◌∙◌, subst, arith}
use Rattle.std.specs.FinMap.{get}
use Rattle.check_group.specs.declared.directive.Check.{Check}
use Rattle.check_program.specs.Compiled.{AreChecks, Body, Formats, IsCheck, IsRead, formats_behind, rules_of}
use Rattle.check_program.specs.declared.program.CompileOpts.{CompileOpts}
use Rattle.compile_laws.specs.Laws.{ChecksAreOne, NotBoth, RefusalIsOne, seen}
use Rattle.pattern_parse.proofs.PieceLemmas.{pieces_are_one}
use Rattle.pattern_parse.specs.Item.{Item}
use Rattle.pattern_parse.specs.PieceView.{items_view}
use Rattle.pattern_parse.specs.Pieces.{with_formats}
use Rattle.pattern_parse.specs.declared.fault.PatFault.{PatFault}

module _ (opts : CompileOpts) where
  -- a body is read in one way
  read-one : (known : Formats) (body : Body) (told other : Result (List Item) PatFault) → IsRead opts known body told
      → IsRead opts known body other → told ≡ other
  read-one known body = pieces_are_one body.bytes (rules_of opts body) (get known)

  read-items : (known : Formats) (body : Body) (items others : List Item) → IsRead opts known body (Ok items)
      → IsRead opts known body (Ok others) → items ≡ others
  read-items known body items others one two =
      let same = read-one known body (Ok items) (Ok others) one two in cc

  read-fault : (known : Formats) (body : Body) (fault why : PatFault) → IsRead opts known body (Err fault)
      → IsRead opts known body (Err why) → fault ≡ why
  read-fault known body fault why one two =
      let same = read-one known body (Err fault) (Err why) one two in cc

  read-both : (known : Formats) (body : Body) (items : List Item) (fault : PatFault)
      → IsRead opts known body (Ok items) → IsRead opts known body (Err fault) → ⊥
  read-both known body items fault one two =
      let same = read-one known body (Ok items) (Err fault) one two in cc

  -- a body is a directive that scanning sees in one way
  one-check : (number : ℕ) (known : Formats) (body : Body) (check other : Check)
      → IsCheck opts number known body check → IsCheck opts number known body other → seen check ≡ seen other
  one-check number known body check other is again =
      let same = read-items known body (items_view check.pattern.pieces) (items_view other.pattern.pieces)
      is.read again.read in
      λ i. record {
        number = (is.number ∙ sym again.number) i;
        demand = (is.demand ∙ sym again.demand) i;
        line = (is.line ∙ sym again.line) i;
        pieces = same i;
        frame = (is.frame ∙ sym again.frame) i;
        fold = (is.fold ∙ sym again.fold) i;
      }

  -- so the directives behind it begin with the same formats
  behind-one : (number : ℕ) (known : Formats) (body : Body) (check other : Check) (bodies : List Body)
      (others : List Check) (last : Formats) → IsCheck opts number known body check
      → IsCheck opts number known body other
      → AreChecks opts (number + 1) (formats_behind known other) bodies others last
      → AreChecks opts (number + 1) (formats_behind known check) bodies others last
  behind-one number known body check other bodies others last is again are =
      subst (λ s. AreChecks opts (number + 1) (with_formats known s.pieces) bodies others last)
      (sym (one-check number known body check other is again)) are

  one-list : (number : ℕ) (old : Formats) (bodies : List Body) (checks others : List Check) (new last : Formats)
      → AreChecks opts number old bodies checks new → AreChecks opts number old bodies others last
      → (map seen checks ≡ map seen others) × (new ≡ last)
  one-list number old [] [] [] new last are again = (refl, are ∙ sym again)
  one-list number old [] [] (other ∷ others) new last are again = absurd again
  one-list number old [] (check ∷ checks) others new last are again = absurd are
  one-list number old (body ∷ bodies) [] others new last are again = absurd are
  one-list number old (body ∷ bodies) (check ∷ checks) [] new last are again = absurd again
  one-list number old (body ∷ bodies) (check ∷ checks) (other ∷ others) new last are again =
      let rest = one-list (number + 1) (formats_behind old check) bodies checks others new last are.1
      (behind-one number old body check other bodies others last are.0 again.0 again.1) in
      let first = one-check number old body check other are.0 again.0 in
      (λ i. first i ∷ rest.0 i, rest.1)

  -- bodies that are directives have no refused one
  none-refused : (number : ℕ) (old : Formats) (front : List Body) (body : Body) (rest : List Body)
      (checks others : List Check) (fault : PatFault) (new last : Formats)
      → AreChecks opts number old (front ++ body ∷ rest) checks new → AreChecks opts number old front others last
      → IsRead opts last body (Err fault) → ⊥
  none-refused number old [] body rest [] others fault new last are again refused = are
  none-refused number old [] body rest (check ∷ checks) [] fault new last are again refused =
      read-both old body (items_view check.pattern.pieces) fault are.0.read
      (subst (λ known. IsRead opts known body (Err fault)) again refused)
  none-refused number old [] body rest (check ∷ checks) (other ∷ others) fault new last are again refused = again
  none-refused number old (first ∷ front) body rest [] others fault new last are again refused = are
  none-refused number old (first ∷ front) body rest (check ∷ checks) [] fault new last are again refused = again
  none-refused number old (first ∷ front) body rest (check ∷ checks) (other ∷ others) fault new last are again refused =
      none-refused (number + 1) (formats_behind old check) front body rest checks others fault new last are.1
      (behind-one number old first check other front others last are.0 again.0 again.1) refused

  -- a refused body is not the first of directives
  not-first : (number : ℕ) (old : Formats) (body first : Body) (bodies : List Body) (checks : List Check)
      (fault : PatFault) (new : Formats) → body ≡ first → AreChecks opts number old (first ∷ bodies) checks new
      → IsRead opts old body (Err fault) → ⊥
  not-first number old body first bodies [] fault new same are refused = are
  not-first number old body first bodies (check ∷ checks) fault new same are refused =
      read-both old first (items_view check.pattern.pieces) fault are.0.read
      (subst (λ b. IsRead opts old b (Err fault)) same refused)

  -- a front that is directives, and the refused body behind it
  abbrev Stops : ℕ → Formats → List Body → Body → List Check → PatFault → Formats → Type 0
  Stops number old front body checks fault new =
      AreChecks opts number old front checks new × IsRead opts new body (Err fault)

  one-refusal : (number : ℕ) (old : Formats) (front back : List Body) (body next : Body) (rest more : List Body)
      (checks others : List Check) (fault why : PatFault) (new last : Formats)
      → front ++ body ∷ rest ≡ back ++ next ∷ more → Stops number old front body checks fault new
      → Stops number old back next others why last
      → (length front ≡ length back) × (fault ≡ why) × (new ≡ last)
  one-refusal number old [] [] body next rest more [] [] fault why new last is one two =
      let equal : body ≡ next = cc in (
        refl,
        read-fault old body fault why (subst (λ known. IsRead opts known body (Err fault)) one.0 one.1)
            (subst (λ b. IsRead opts old b (Err why)) (sym equal)
            (subst (λ known. IsRead opts known next (Err why)) two.0 two.1)),
        one.0 ∙ sym two.0,
      )
  one-refusal number old [] [] body next rest more [] (other ∷ others) fault why new last is one two = absurd two.0
  one-refusal number old [] [] body next rest more (check ∷ checks) others fault why new last is one two = absurd one.0
  one-refusal number old [] (second ∷ back) body next rest more [] others fault why new last is one two =
      let equal : body ≡ second = cc in
      absurd (not-first number old body second back others fault last equal two.0
      (subst (λ known. IsRead opts known body (Err fault)) one.0 one.1))
  one-refusal number old [] (second ∷ back) body next rest more (check ∷ checks) others fault why new last is one two =
      absurd one.0
  one-refusal number old (first ∷ front) [] body next rest more checks [] fault why new last is one two =
      let equal : next ≡ first = cc in
      absurd (not-first number old next first front checks why new equal one.0
      (subst (λ known. IsRead opts known next (Err why)) two.0 two.1))
  one-refusal number old (first ∷ front) [] body next rest more checks (other ∷ others) fault why new last is one two =
      absurd two.0
  one-refusal number old (first ∷ front) (second ∷ back) body next rest more [] others fault why new last is one two =
      absurd one.0
  one-refusal number old (first ∷ front) (second ∷ back) body next rest more (check ∷ checks) [] fault why new last is
      one two = absurd two.0
  one-refusal number old (first ∷ front) (second ∷ back) body next rest more (check ∷ checks) (other ∷ others) fault why
      new last is one two =
      let equal : first ≡ second = cc in
      let tails : front ++ body ∷ rest ≡ back ++ next ∷ more = cc in
      let again = subst (λ b. IsCheck opts number old b other) (sym equal) two.0.0 in
      let found = one-refusal (number + 1) (formats_behind old check) front back body next rest more checks others fault
      why new last tails (one.0.1, one.1)
      (behind-one number old first check other back others last one.0.0 again two.0.1, two.1) in
      (omega (arith, found.0), found.1, found.2)

pub checks_are_one : ChecksAreOne
checks_are_one = one-list

pub not_both : NotBoth
not_both opts number old bodies checks told fault new last are refused =
    none-refused opts number old refused.front refused.body refused.rest checks refused.checks fault new last
    (subst (λ all. AreChecks opts number old all checks new) (sym refused.parts) are) refused.compiled refused.refused

pub refusal_is_one : RefusalIsOne
refusal_is_one opts number old bodies told other fault why new last one two =
    let found = one-refusal opts number old one.front two.front one.body two.body one.rest two.rest one.checks
    two.checks fault why new last (one.parts ∙ sym two.parts) (one.compiled, one.refused) (two.compiled, two.refused) in
    (omega (arith, one.directive, two.directive, found.0), found.1, found.2)
