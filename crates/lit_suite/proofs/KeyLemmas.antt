-- A test of some images is a test of what they are images of.
use Rattle.std.proofs.Common.{◌≡◌, Bool, ◌||◌, List, [], ◌∷◌, map, refl, ap}
use Rattle.std.specs.List.{list_any}

pub any_of_map : {X Y : Type 0} (test : X → Bool) (image : Y → X) (ys : List Y)
    → list_any test (map image ys) ≡ list_any (λ y. test (image y)) ys
any_of_map test image [] = refl
any_of_map test image (y ∷ ys) = ap (λ rest. test (image y) || rest) (any_of_map test image ys)
