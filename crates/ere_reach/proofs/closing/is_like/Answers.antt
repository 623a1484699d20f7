use Rattle.std.proofs.Common.{◌≡◌, ℕ, List, get_or, sym, ap, ◌∙◌, arith, eq-eqb, true≢false, rules}
use Rattle.std.specs.Char.{to_ascii_lowercase}
use Rattle.std.proofs.lemmas.List.{get_or-map}
use Rattle.ere_reach.proofs.closing.is_like.Goals as goal

pub returns-then-not-eq_ignore_ascii_case : goal.returns-then-not-eq_ignore_ascii_case
returns-then-not-eq_ignore_ascii_case c =
    let one = c.args.one.now in
    let other = c.args.other.now in
    let long = c.if-one-gt0.true in (
      search rules,
      λ same.
          let first : to_ascii_lowercase (get_or one 0 0) ≡ to_ascii_lowercase (get_or other 0 0) =
          sym (get_or-map to_ascii_lowercase one 0 0 0 long) ∙ ap (λ (xs : List ℕ). get_or xs 0 0) same
          ∙ get_or-map to_ascii_lowercase other 0 0 0 (omega (arith, long, c.requires)) in
          absurd (true≢false (sym (eq-eqb _ _ first) ∙ sym c.eq_ignore_ascii_case.ensures
          ∙ c.if-not-eq_ignore_ascii_case.true)),
    )
