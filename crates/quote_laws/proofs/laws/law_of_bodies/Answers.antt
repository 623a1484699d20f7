use Rattle.quote_laws.proofs.BodyLemmas.{bodies_are_cut, bodies_are_read, nots_are_read, quotes_are_parts}
use Rattle.quote_laws.proofs.laws.law_of_bodies.Goals as goal

pub returns : goal.returns
returns c = record { quoted = quotes_are_parts; cut = bodies_are_cut; read = bodies_are_read; nots = nots_are_read }
