use Rattle.std.proofs.Common.{sym, ◌∙◌, true≢false, arith}
use Rattle.ere_tree.specs.Derivation.{Spans}
use Rattle.ere_tree.specs.Tree.{plain}
use Rattle.ere_places.proofs.LeafLemmas.{gives_some, gives_none}
use Rattle.ere_whole.proofs.LeafLemmas.{bytes_lead, bytes_led}
use Rattle.ere_whole.proofs.leaf.end_of_bytes.Goals as goal

pub returns-then-text-place : goal.returns-then-text-place
returns-then-text-place c =
    gives_none (Spans c.args.text.now (plain c.args.bytes.now) c.args.place) (λ q h.
    let r = bytes_led c.args.text.now c.args.bytes.now c.args.place q c.requires h in
    absurd (omega (arith, r.0, r.1, c.if-text-place.true)))

pub returns-then-stands : goal.returns-then-stands
returns-then-stands c =
    let s = c.args.text.now in
    let bytes = c.args.bytes.now in
    gives_some (Spans s (plain bytes) c.args.place) _
    (bytes_lead s bytes c.args.place (omega arith) (c.stands.ensures.0 c.if-stands.true))
    (λ q h. (bytes_led s bytes c.args.place q c.requires h).0)

pub returns-else-stands : goal.returns-else-stands
returns-else-stands c =
    gives_none (Spans c.args.text.now (plain c.args.bytes.now) c.args.place) (λ q h.
    true≢false (sym (c.stands.ensures.1 (bytes_led c.args.text.now c.args.bytes.now c.args.place q c.requires h).2)
    ∙ c.if-stands.false))
