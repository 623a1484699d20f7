use Rattle.std.proofs.Common.{List, ℕ, ◌++◌, codes}
use Rattle.std.specs.Fmt.{decimal}
use Rattle.tt_run.specs.Frame.{newline}
use Rattle.filecheck_messages.proofs.AppendLemmas.{added_both, added_pair}
use Rattle.filecheck_messages.proofs.message.append_made.Goals as goal

pub returns : goal.returns
returns c =
    let start : List ℕ = c.args.text.now in
    let made = c.args.made in
    let checks : List ℕ = codes "generated: checks " ++ decimal made.checks in
    let bytes : List ℕ = checks ++ codes ", input bytes " ++ decimal made.bytes in
    let faults : List ℕ = bytes ++ codes ", faults " ++ decimal made.faults in
    added_both start _ _ faults newline
    (added_pair start _ _ bytes (codes ", faults ") (decimal made.faults)
    (added_pair start _ _ checks (codes ", input bytes ") (decimal made.bytes) c.in_ok-append_count.ensures c.in_ok-append_count-2.ensures)
    c.in_ok-append_count-3.ensures) c.in_ok-append.ensures
