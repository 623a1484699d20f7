-- Steps one behind the other, of which the first that stops is the end.
-- Own rule: the first refusal alone is told. A fault of reading is no refusal, and has a variant of its own.
use Rattle.std.specs.Prelude.{◌≡◌, ⊤, Result, Ok, Err, IsErr}
use Rattle.tt_base.specs.declared.memory.NoMemory.{NoMemory as NoRoom}
use Rattle.filecheck_messages.specs.declared.refusal.Refusal.{Refusal}
use Rattle.filecheck_messages.specs.declared.refusal.StepFail.{StepFail}
use Rattle.filecheck_messages.specs.declared.refusal.StepFail.TheVariants.{Stopped, NoMemory}
use Rattle.filecheck_messages.specs.declared.refusal.Stop.{Stop}
use Rattle.filecheck_messages.specs.declared.refusal.Stop.TheVariants.{Refused}

-- a step that reads nothing: it gives a value, or refuses
abbrev pub accepted : {A : Type 0} → Result A Refusal → Result A Stop
accepted (Ok x) = Ok x
accepted (Err refusal) = Err (Refused refusal)

-- a step, and then another with its value
infixl 10 ◌>>=◌
abbrev pub ◌>>=◌ : {A B : Type 0} → Result A Stop → (A → Result B Stop) → Result B Stop
(Ok x) >>= f = f x
(Err stop) >>= f = Err stop

-- a step that gave a value leads on to this end; one that stopped is the end
abbrev pub LeadsTo : {A B : Type 0} → Result A Stop → (A → Result B Stop → Type 0) → Result B Stop → Type 0
LeadsTo (Ok x) Next end = Next x end
LeadsTo (Err stop) Next end = end ≡ Err stop

-- what a step came to is one of these ends, unless it wanted memory
abbrev pub Ends : {X : Type 0} → Result X StepFail → (Result X Stop → Type 0) → Type 0
Ends (Ok x) IsEnd = IsEnd (Ok x)
Ends (Err (Stopped stop)) IsEnd = IsEnd (Err stop)
Ends (Err NoMemory) IsEnd = ⊤

-- a step gave this value, seen by a view, or stopped so, or wanted memory
abbrev pub Gives : {X Y : Type 0} → (X → Y) → Result X StepFail → Result Y Stop → Type 0
Gives view (Ok x) step = step ≡ Ok (view x)
Gives view (Err (Stopped stop)) step = step ≡ Err stop
Gives view (Err NoMemory) step = ⊤

-- what a step came to, unless it wanted memory
abbrev pub Settles : {X : Type 0} → Result X StepFail → Result (Result X Stop) NoRoom → Type 0
Settles (Ok x) result = result ≡ Ok (Ok x)
Settles (Err (Stopped stop)) result = result ≡ Ok (Err stop)
Settles (Err NoMemory) result = IsErr result
