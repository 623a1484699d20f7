-- Which page of its own a program shows.
-- After the GNU Coding Standards, Command-Line Interfaces: `--help` and `--version`. Own rule: only where it is the only word.
use Rattle.std.specs.Prelude.{◌≡◌, ◌⊎◌, ℕ, ◌||◌, if◌then◌else◌, List, [], ◌∷◌, Option, Some, None, codes}
use Rattle.std.specs.Str.{bytes_eq}
use Rattle.tt_run.specs.Run.{Stopped, Stream, Taken, Told}
use Rattle.tt_main.specs.declared.page.Page.{Page}
use Rattle.tt_main.specs.declared.page.Page.TheVariants.{Help, Version}

-- the page that a word names
abbrev pub page_named : List ℕ → Option Page
page_named word = if bytes_eq word (codes "--help") || bytes_eq word (codes "-h") then Some Help
    else (if bytes_eq word (codes "--version") then Some Version else None)

-- the page that words ask for
abbrev pub page_of : List (List ℕ) → Option Page
page_of [] = None
page_of (word ∷ []) = page_named word
page_of (word ∷ (other ∷ more)) = None

-- a page was written, and errors were left alone; or out took it up to a fault, which is told on err
abbrev pub Shown : List ℕ → List ℕ → ℕ → Stream → Stream → Type 0 → Type 0
Shown text fault status out err untouched =
    ((status ≡ 0) × Taken text out × untouched) ⊎ ((status ≡ 3) × Stopped text out × Told fault err)
