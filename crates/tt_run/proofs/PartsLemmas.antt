-- The parts of a message, which are written one behind the other.
use Rattle.std.proofs.Common.{◌≡◌, ℕ, ◌+◌, ◌<◌, List, [], ◌++◌, Option, Some, None, length, drop, get_or, drop-cons, add-one, append_assoc, length-append, arith, ◌≤◌, refl, sym, ap, ◌∙◌, ◌∷◌}
use Rattle.std.proofs.KnownBytes.{Appends-trans}
use Rattle.tt_outside.specs.Transfer.{AppendsPart}
use Rattle.std.proofs.lemmas.List.{append-nil}
use Rattle.std.specs.Io.KnownBytes.{Appends}
use Rattle.tt_run.specs.Parts.{joined}
use denote.Bor.{Bor}

-- nothing was written
pub appends_nothing : (held : Option (List ℕ)) → Appends held held []
appends_nothing None = tt
appends_nothing (Some bytes) = sym (append-nil bytes)

-- the parts from one on are that part and the later ones
pub joined_from : (parts : List (Bor (List ℕ))) (at : ℕ) (other : Bor (List ℕ)) → at < length parts
    → joined (drop at parts) ≡ (get_or parts at other).now ++ joined (drop (at + 1) parts)
joined_from parts at other low = rw (add-one at, drop-cons parts at other) refl

-- a list before another is nothing where both are
left_is_nothing : (left rest : List ℕ) → left ++ rest ≡ [] → left ≡ []
left_is_nothing [] rest none = refl
left_is_nothing (byte ∷ left) rest none = cc

-- one part more was written
pub part_written : (a b c : Option (List ℕ)) (done part rest message : List ℕ) → done ++ (part ++ rest) ≡ message
    → Appends a b done → Appends b c part → ((done ++ part) ++ rest ≡ message) × Appends a c (done ++ part)
part_written a b c done part rest message whole before now =
    (append_assoc done part rest ∙ whole, Appends-trans a b c done part before now)

-- a proper front of a part was written, which is one of the message
pub part_stopped : (a b c : Option (List ℕ)) (done part rest message : List ℕ) → done ++ (part ++ rest) ≡ message
    → Appends a b done → AppendsPart b c part → AppendsPart a c message
part_stopped a b c done part rest message whole before (front, left, both, some, now) =
    let joins : (done ++ front) ++ (left ++ rest) ≡ done ++ ((front ++ left) ++ rest) = simp append_assoc in (
      done ++ front,
      left ++ rest,
      joins ∙ ap (λ piece. done ++ (piece ++ rest)) both ∙ whole,
      λ none. some (left_is_nothing left rest none),
      Appends-trans a b c done front before now,
    )

-- the lengths of a message's parts
pub length_parts : (done part rest message : List ℕ) → done ++ (part ++ rest) ≡ message
    → length message ≡ length done + (length part + length rest)
length_parts done part rest message whole = sym (ap length whole) ∙ simp length-append

-- what doesn't fit is longer than the room
pub past_room : (room size : ℕ) → (size ≤ room → ⊥) → room < size
past_room room size passes = omega (arith, passes)
