use Rattle.std.proofs.Common.{arith, sym, subst}
use Rattle.ere_laws.specs.Spelling.{SpellsToken}
use Rattle.ere_laws.proofs.TokenSpelling.{token_spelled, token_told}
use Rattle.ere_laws.proofs.laws.law_of_the_tokens.Goals as goal

pub returns : goal.returns
returns c = record {
  spelled = λ text t rest. (
    λ (count, read, some, fits, same). subst (SpellsToken text t) (sym same)
        (token_told text (t, count) (omega (arith, some, fits)) read),
    token_spelled text t rest,
  );
}
