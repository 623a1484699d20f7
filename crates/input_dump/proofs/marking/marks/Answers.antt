use Rattle.std.proofs.Common.{◌≡◌, ℕ, ◌+◌, ◌<◌, List, [], ◌∷◌, ◌++◌, length, take, get_or, sym, ap, ◌∙◌, subst, arith}
use Rattle.std.proofs.lemmas.List.{flat_map_more, get_or_read, take_more}
use Rattle.std.specs.List.{flat_map, slice_index_or}
use Rattle.check_group.specs.declared.fault.Fault.{Fault}
use Rattle.input_dump.specs.Marks.{mark_of, marks, one_or_none}
use Rattle.input_dump.specs.declared.marking.Mark.{Mark}
use Rattle.input_dump.proofs.marking.marks.Goals as goal

-- the mark of one more fault
one_more : (faults : List Fault) (labels : List (List ℕ)) (i : ℕ) (fault : Fault) → i < length faults → fault ≡ get_or faults i fault
    → (label : List ℕ) → label ≡ get_or labels fault.directive []
    → marks (take i faults) labels ++ one_or_none (mark_of fault.kind label) ≡ marks (take (i + 1) faults) labels
one_more faults labels i fault inside is label known =
    let f : Fault → List Mark = λ one. one_or_none (mark_of one.kind (slice_index_or labels one.directive [])) in
    let longer : take (i + 1) faults ≡ take i faults ++ (fault ∷ []) =
    take_more faults i fault inside ∙ ap (λ x. take i faults ++ (x ∷ [])) (sym is) in
    ap (λ l. marks (take i faults) labels ++ one_or_none (mark_of fault.kind l)) known
    ∙ flat_map_more f [] (take i faults) fault ∙ sym (ap (flat_map f) longer)

pub loop-fault-preserved : goal.loop-fault-preserved
loop-fault-preserved c =
    let l = c.loop-fault in
    let fault : Fault = c.fault-item.result in
    let label : c.as_slice.result.now ≡ get_or c.args.labels.now fault.directive [] =
    c.as_slice.ensures ∙ get_or_read c.args.labels.now fault.directive c.index-labels-fault.result
    (subst (λ (one : Fault). one.directive < length c.args.labels.now) (sym c.fault-item.is) (c.requires.labelled l.fault-index fault (omega arith)))
    c.index-labels-fault.is [] in
    c.in_ok-append_mark_of.ensures ∙ ap (λ t. t ++ one_or_none (mark_of fault.kind c.as_slice.result.now)) l.invariant
    ∙ one_more c.args.faults.now c.args.labels.now l.fault-index fault (omega arith) c.fault-item.is c.as_slice.result.now label
