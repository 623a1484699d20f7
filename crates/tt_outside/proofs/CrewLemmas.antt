-- Hands and crews: the test that was begun last, and replies that fit where nothing is planned.
use Rattle.std.proofs.Common.{ℕ, ◌≡◌, List, [], ◌∷◌, ◌++◌, true, refl, ap, sym, ◌∙◌}
use Rattle.tt_outside.specs.Gave.{last_of}
use Rattle.tt_outside.specs.Fits.{fits}
use Rattle.tt_outside.specs.Planned.{default_reply}
use Rattle.tt_outside.specs.declared.request.Request.{Request}
use Rattle.tt_outside.specs.declared.request.Request.TheVariants.{ReadFile, MakeDir, WriteFile, Spawn}

-- the last of a list that was added to
pub last_snoc : (other : ℕ) (xs : List ℕ) (x : ℕ) → last_of other (xs ++ x ∷ []) ≡ x
last_snoc other [] x = refl
last_snoc other (y ∷ ys) x = last_snoc y ys x

-- the same, where the longer list is known otherwise
pub last_added : (xs ys : List ℕ) (x : ℕ) → ys ≡ xs ++ x ∷ [] → x ≡ last_of 0 ys
last_added xs ys x added = sym (ap (last_of 0) added ∙ last_snoc 0 xs x)

-- the reply where nothing is planned fits
pub default_fits : (request : Request) → fits request (default_reply request) ≡ true
default_fits (ReadFile path limit) = refl
default_fits (MakeDir path) = refl
default_fits (WriteFile path bytes append) = refl
default_fits (Spawn words dir env input limit) = refl
