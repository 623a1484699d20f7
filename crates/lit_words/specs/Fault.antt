-- Steps that give a value or refuse. Own rule: the first refusal is told.
use Rattle.std.specs.Prelude.{◌≡◌, ⊤, ℕ, List, [], slice_index_or, Result, Ok, Err}
use Rattle.opt_words.specs.Fault.{word_of}
use Rattle.opt_words.specs.declared.fault.WordFault.{WordFault}
use Rattle.lit_words.specs.declared.fault.LitWordsFail.{LitWordsFail}
use Rattle.lit_words.specs.declared.fault.LitWordsFail.TheVariants.{Bad, NoMemory}
use Rattle.lit_words.specs.declared.fault.LitWordsFault.{LitWordsFault}
use Rattle.lit_words.specs.declared.fault.LitWordsFault.TheVariants.{Faulty}

-- a step, and then another with its value
infixl 10 ◌>>=◌
abbrev pub ◌>>=◌ : {A B : Type 0} → Result A LitWordsFault → (A → Result B LitWordsFault) → Result B LitWordsFault
(Ok x) >>= next = next x
(Err fault) >>= next = Err fault

-- what is wrong with an option, with the word that names it
abbrev pub faulty : List (List ℕ) → WordFault → LitWordsFault
faulty words fault = Faulty fault (slice_index_or words (word_of fault) [])

-- a step gave this value, seen by a view, or refused so, or wanted memory
abbrev pub Gives : {X Y : Type 0} → (X → Y) → Result X LitWordsFail → Result Y LitWordsFault → Type 0
Gives view (Ok x) step = step ≡ Ok (view x)
Gives view (Err (Bad fault)) step = step ≡ Err fault
Gives view (Err NoMemory) step = ⊤
