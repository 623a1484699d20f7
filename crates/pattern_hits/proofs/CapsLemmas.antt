-- The parts that the groups of a hit hold lie in the text.
use Rattle.std.proofs.Common.{◌≡◌, ℕ, ◌+◌, ◌-◌, ◌≤◌, Option, Some, None, IfSome, Result, Ok, Err, IfOk, List, length, drop, refl, sym, ap, ◌∙◌, subst, slice_get, arith}
use Rattle.std.specs.FinMap.{empty, get}
use Rattle.std.specs.List.{range_with_len}
use Rattle.std.specs.Option.{option_map}
use Rattle.std.proofs.lemmas.List.{length-drop}
use Rattle.std.proofs.lemmas.Option.{slice_get-map}
use Rattle.ere_tree.specs.Captures.{Captures, cap_of}
use Rattle.ere_tree.specs.Hit.{TellsHit, FindsHit}
use Rattle.ere_tree.specs.Shape.{greatest_group}
use Rattle.ere_tree.specs.Tree.{Tree}
use Rattle.ere_tree.specs.declared.hit.Cap.{Cap}
use Rattle.ere_tree.specs.declared.hit.Hit.{Hit}
use Rattle.ere_tree.proofs.CapturesLemmas.{LieIn, empty_lies_in}
use Rattle.ere_tree.proofs.DerivationLemmas.{captures_lie_in}
use Rattle.pattern_hits.specs.Bound.{cap_at, held}
use Rattle.tt_base.specs.declared.memory.NoMemory.{NoMemory}
use Rattle.pattern_hits.specs.Caps.{LieInText, IsSoundIn}

abbrev Lies : List ℕ → Cap → Type 0
Lies text cap = (cap.from ≤ cap.to) × (cap.to ≤ length text)

part_lies : (text : List ℕ) (from : ℕ) (c : Captures) → from ≤ length text → LieIn (drop from text) c
    → (o : Option ℕ) → Lies text (held (option_map (cap_of from c) o))
part_lies text from c inside lie None = (omega arith, omega arith)
part_lies text from c inside lie (Some n) = each (get c n) refl
  where
    each : (p : Option (ℕ × ℕ)) → get c n ≡ p
        → Lies text (held (Some (option_map (λ (part : ℕ × ℕ). record { from = from + part.0; to = from + part.1 }) p)))
    each None is = (omega arith, omega arith)
    each (Some part) is =
        let in_slice = lie n part is in
        (omega (arith, in_slice.0), omega (arith, in_slice.1, length-drop from text))

pub caps_lie : (text : List ℕ) (t : Tree) (from : ℕ) (hit : Hit) → from ≤ length text → TellsHit text t from hit
    → LieInText text hit.groups
caps_lie text t from hit inside tells =
    let c = tells.captures in
    let lie : LieIn (drop from text) c =
    captures_lie_in (drop from text) t tells.is_hit.way (hit.from - from) (hit.to - from) empty c
    (empty_lies_in (drop from text)) tells.is_hit.shows in
    let at : (n : ℕ) → Lies text (cap_at hit.groups n) = λ n.
    subst (λ o. Lies text (held o))
    (sym (ap (λ groups. slice_get groups n) tells.groups
    ∙ slice_get-map (cap_of from c) (range_with_len 1 (greatest_group t)) n))
    (part_lies text from c inside lie (slice_get (range_with_len 1 (greatest_group t)) n)) in
    record { ordered = λ n. (at n).0; within = λ n. (at n).1 }

pub hit_is_sound : (text : List ℕ) (t : Tree) (from : ℕ) (found : Option Hit) → from ≤ length text
    → FindsHit text t from found → IfSome found (IsSoundIn text)
hit_is_sound text t from None inside finds = tt
hit_is_sound text t from (Some hit) inside finds =
    record { lies = caps_lie text t from hit inside finds }

pub hits_are_sound : (text : List ℕ) (t : Tree) (from : ℕ) (r : Result (Option Hit) NoMemory) → from ≤ length text
    → IfOk r (FindsHit text t from) → IfOk r (λ found. IfSome found (IsSoundIn text))
hits_are_sound text t from (Ok found) inside finds = hit_is_sound text t from found inside finds
hits_are_sound text t from (Err none) inside finds = tt
