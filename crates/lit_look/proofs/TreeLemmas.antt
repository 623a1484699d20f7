-- What calls leave of a tree, one behind another, and the causes of faults.
use Rattle.std.proofs.Common.{◌≡◌, ◌≢◌, ℕ, Bool, true, false, List, Option, Some, None, refl, ◌∙◌, subst, arith, true≢false}
use Rattle.lit_dirs.specs.declared.fault.DiscoverFault.{DiscoverFault}
use Rattle.lit_dirs.specs.declared.fault.DiscoverFault.TheVariants.{TreeFault, NoMemory}
use Rattle.tt_outside.specs.Faults.{Rose}
use Rattle.tt_outside.specs.declared.tree.Node.{Node}
use Rattle.lit_look.specs.Trees.{Leaves, Told}

-- a fault that is told for one cause is told for another
pub told : (P Q : DiscoverFault → Type 0) (fault : DiscoverFault) → ((one : DiscoverFault) → P one → Q one)
    → Told P fault → Told Q fault
told P Q TreeFault to h = tt
told P Q NoMemory to h = tt
told P Q fault to h = to fault h

-- a fault of the tree
abbrev pub is_counted : Option DiscoverFault → Bool
is_counted (Some TreeFault) = true
is_counted fault = false

other_fault : (fault : Option DiscoverFault) → is_counted fault ≡ false → fault ≢ Some TreeFault
other_fault fault other is = true≢false (subst (λ one. is_counted one ≡ false) is other)

module _ {T : Type 0} {told : T → Option (List Node)} {base : T → List ℕ} {count : T → ℕ} {steady : T → Type 0} where
  pub leaves_still : {tree : T} {fault : Option DiscoverFault} → is_counted fault ≡ false
      → Leaves told base count steady tree tree fault
  leaves_still {fault = fault} other = record {
    nodes = refl;
    root = refl;
    later = omega arith;
    cause = λ is. absurd (other_fault fault other is);
    calm = λ differs. refl;
    steady = λ still. (other_fault fault other, still);
  }

  pub leaves_on : {old mid new : T} {fault : Option DiscoverFault} → Leaves told base count steady old mid None
      → Leaves told base count steady mid new fault → Leaves told base count steady old new fault
  leaves_on {old = old} {mid = mid} {new = new} {fault = fault} first last =
      let calm = first.calm (other_fault None refl) in
      record {
        nodes = last.nodes ∙ first.nodes;
        root = last.root ∙ first.root;
        later = omega (arith, first.later, last.later);
        cause = λ is. subst (λ n. Rose n (count new)) calm (last.cause is);
        calm = λ differs. last.calm differs ∙ calm;
        steady = λ still. last.steady (first.steady still).1;
      }
