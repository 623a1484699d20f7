use Rattle.std.proofs.Common.{sym, ◌∙◌, true≢false, arith}
use Rattle.ere_tree.specs.Derivation.{Spans}
use Rattle.ere_tree.specs.Tree.{set}
use Rattle.ere_tree.specs.View.{members_of}
use Rattle.ere_places.proofs.LeafLemmas.{gives_some, gives_none}
use Rattle.ere_whole.proofs.LeafLemmas.{byte_leads, byte_led}
use Rattle.ere_whole.proofs.leaf.end_of_set.Goals as goal

pub returns-then-place-text : goal.returns-then-place-text
returns-then-place-text c =
    gives_none (Spans c.args.text.now (set (members_of c.args.one.now.bits)) c.args.place) (λ q h.
    let r = byte_led c.args.text.now (members_of c.args.one.now.bits) c.args.place q h in
    absurd (omega (arith, r.0, r.1, c.if-place-text.true)))

pub returns-then-has : goal.returns-then-has
returns-then-has c =
    let s = c.args.text.now in
    let bytes = members_of c.args.one.now.bits in
    gives_some (Spans s (set bytes) c.args.place) _
    (byte_leads s bytes c.args.place (omega arith) (c.has.ensures.member.0 c.if-has.true))
    (λ q h. (byte_led s bytes c.args.place q h).0)

pub returns-else-has : goal.returns-else-has
returns-else-has c =
    let bytes = members_of c.args.one.now.bits in
    gives_none (Spans c.args.text.now (set bytes) c.args.place) (λ q h.
    true≢false (sym (c.has.ensures.member.1 (byte_led c.args.text.now bytes c.args.place q h).2) ∙ c.if-has.false))
