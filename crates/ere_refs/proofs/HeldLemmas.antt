-- Lists of what groups hold: what one of them has at an index, and the text that this is.
-- A list is made of captures from 1 on, so its items tell these, with offsets of the text in which the slice begins.
-- The hard one is the index: a list counts from 0, and groups from 1.
use Rattle.std.proofs.Common.{◌≡◌, ℕ, ◌+◌, ◌-◌, ◌<◌, ◌≤◌, Option, Some, None, List, length, get_or, refl, sym, ap, ◌∙◌, arith}
use Rattle.std.proofs.lemmas.List.FromFn.{get_or-map-range_with_len}
use Rattle.std.proofs.lemmas.Option.{none-some}
use Rattle.std.specs.FinMap.{empty, get, get-empty}
use Rattle.std.specs.Option.{option_map}
use Rattle.std.specs.Ordering.{nat_cmp}
use Rattle.ere_tree.proofs.CapturesLemmas.{some_same}
use Rattle.ere_tree.specs.Captures.{Captures, cap_of, caps_of}
use Rattle.ere_tree.specs.declared.hit.Cap.{Cap}

pub nothing_held : (start n : ℕ) → cap_of start empty n ≡ None
nothing_held start n = ap (option_map (λ part. record { from = start + part.0; to = start + part.1 })) (get-empty nat_cmp n)

-- what a list has for a group
pub held_at : (start : ℕ) (c : Captures) (count number : ℕ) (x : Option Cap) → 0 < number → number ≤ count
    → get_or (caps_of start c count) (number - 1) x ≡ cap_of start c number
held_at start c count number x some room =
    get_or-map-range_with_len (cap_of start c) 1 count (number - 1) number x (omega (arith, some, room))
    (omega (arith, some))

pub unset : (start : ℕ) (c : Captures) (number : ℕ) → cap_of start c number ≡ None → get c number ≡ None
unset start c number is = each (get c number) is
  where
    each : (held : Option (ℕ × ℕ))
        → option_map (λ (part : ℕ × ℕ). let r : Cap = record { from = start + part.0; to = start + part.1 } in r) held
        ≡ None → held ≡ None
    each None is = refl
    each (Some part) is = absurd (none-some _ (sym is))

-- the offsets that a group holds are those of the list less the start
pub set_to : (start : ℕ) (c : Captures) (number : ℕ) (cap : Cap) → cap_of start c number ≡ Some cap
    → (p : ℕ × ℕ) × (get c number ≡ Some p) × (p.0 ≡ cap.from - start) × (p.1 ≡ cap.to - start)
set_to start c number cap is = each (get c number) is
  where
    each : (held : Option (ℕ × ℕ))
        → option_map (λ (part : ℕ × ℕ). let r : Cap = record { from = start + part.0; to = start + part.1 } in r) held
        ≡ Some cap → (p : ℕ × ℕ) × (held ≡ Some p) × (p.0 ≡ cap.from - start) × (p.1 ≡ cap.to - start)
    each None is = absurd (none-some cap is)
    each (Some part) is =
        let same = some_same (record { from = start + part.0; to = start + part.1 }) cap is in (
          part,
          refl,
          omega (arith, ap (λ (x : Cap). x.from) same),
          omega (arith, ap (λ (x : Cap). x.to) same),
        )

-- what a list that holds captures has for a group
pub at_held : (start : ℕ) (c : Captures) (number : ℕ) (caps : List (Option Cap)) (x one : Option Cap) → 0 < number
    → number ≤ length caps → caps ≡ caps_of start c (length caps) → get_or caps (number - 1) x ≡ one
    → cap_of start c number ≡ one
at_held start c number caps x one some room is here =
    sym (held_at start c (length caps) number x some room)
    ∙ ap (λ (xs : List (Option Cap)). get_or xs (number - 1) x) (sym is) ∙ here

-- what two lists hold alike, two captures do
pub same_held : (start : ℕ) (c d : Captures) (number : ℕ) → cap_of start c number ≡ cap_of start d number
    → get c number ≡ get d number
same_held start c d number is = each (get c number) (get d number) is
  where
    cap : ℕ × ℕ → Cap
    cap part = record { from = start + part.0; to = start + part.1 }

    each : (x y : Option (ℕ × ℕ)) → option_map cap x ≡ option_map cap y → x ≡ y
    each None None is = refl
    each None (Some p) is = absurd (none-some (cap p) is)
    each (Some p) None is = absurd (none-some (cap p) (sym is))
    each (Some p) (Some q) is =
        let same = some_same (cap p) (cap q) is in
        let from : p.0 ≡ q.0 = omega (arith, ap (λ (x : Cap). x.from) same) in
        let to : p.1 ≡ q.1 = omega (arith, ap (λ (x : Cap). x.to) same) in
        ap Some (λ i. (from i, to i))
