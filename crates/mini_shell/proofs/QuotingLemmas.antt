-- Words, as they are written and as they are read.
-- Shown: a word that is written is read, and one that is read is written; by induction over its parts, and over the text
-- with what quotes the next byte. The hard one is `written_from`, which goes through all five ways of quoting.
use Rattle.std.proofs.Common.{◌≡◌, ◌∙◌, ℕ, ◌+◌, ◌==◌, ◌||◌, ◌&&◌, not, Bool, true, false, cond, List, [], ◌∷◌, ◌++◌, length, Result, Ok, refl, sym, ap, subst, arith, append_assoc, append-nil, eqb-true}
use Rattle.std.specs.List.{list_any}
use Rattle.mini_shell.proofs.ClassLemmas.{none_of}
use Rattle.mini_shell.specs.Class.{ends_word, has}
use Rattle.mini_shell.specs.Quoting.{AreKept, AreParts, IsWordOf, Kept, Part, bare, double, hidden, is_bare, is_end, itself, kept_value, kept_written, single, slashed, value_of, written}
use Rattle.mini_shell.specs.Word.{turn_of, turned, word_at, word_from}
use Rattle.mini_shell.specs.declared.class.Class.TheVariants.{Glob}
use Rattle.mini_shell.specs.declared.fault.ShellFault.{ShellFault}
use Rattle.mini_shell.specs.declared.fault.ShellKind.TheVariants as kind
use Rattle.mini_shell.specs.declared.word.Open.{Open}
use Rattle.mini_shell.specs.declared.word.Quoting.{Quoting}
use Rattle.mini_shell.specs.declared.word.Quoting.TheVariants.{Bare, Escaped, Single, Double, Slash}
use Rattle.mini_shell.specs.declared.word.Take.TheVariants.{Byte, Both, Mark, Opening}
use Rattle.mini_shell.specs.declared.word.Turn.{Turn}
use Rattle.mini_shell.specs.declared.word.Turn.TheVariants.{Ends, Refused, Goes}
use Rattle.mini_shell.specs.declared.word.Word.{Word}

-- a word that is being read
abbrev pub open_word : Quoting → ℕ → List ℕ → Open
open_word quoting opened value = record { quoting = quoting; opened = opened; value = value }

-- ---- what is written is read

chain : (e s q d g t : Bool) → (not e && not s && not q && not d && not g && not t) ≡ true
    → cond e Ends (cond s (Goes Opening Escaped) (cond q (Goes Opening Single) (cond d (Goes Opening Double)
    (cond g (Refused kind.Glob) (cond t (Refused kind.BadOperator) (Goes Byte Bare)))))) ≡ Goes Byte Bare
chain true s q d g t is = cc
chain false true q d g t is = cc
chain false false true d g t is = cc
chain false false false true g t is = cc
chain false false false false true t is = cc
chain false false false false false true is = cc
chain false false false false false false is = refl

bare_turn : (b : ℕ) → is_bare b ≡ true → turn_of Bare b ≡ Goes Byte Bare
bare_turn b is = chain (ends_word b) (b == 92) (b == 39) (b == 34) (has Glob b) (b == 96) is

single_byte : (b : ℕ) (rest value : List ℕ) (opened at : ℕ) → (b == 39) ≡ false
    → word_from (open_word Single opened value) at (b ∷ rest)
    ≡ word_from (open_word Single opened (value ++ b ∷ [])) (at + 1) rest
single_byte b rest value opened at is = rw is refl

-- single quotes, up to the end of a text
quotes_single : (bytes : List ℕ) (rest value : List ℕ) (opened at : ℕ) → list_any (λ b. b == 39) bytes ≡ false
    → (end : ℕ) × (word_from (open_word Single opened value) at (bytes ++ 39 ∷ rest)
    ≡ word_from (open_word Bare opened (value ++ bytes)) end rest)
    × (end + length rest ≡ at + length (bytes ++ 39 ∷ rest))
quotes_single [] rest value opened at none = (
  at + 1,
  ap (λ v. word_from (open_word Bare opened v) (at + 1) rest) (sym (append-nil value)),
  omega arith,
)
quotes_single (b ∷ bytes) rest value opened at none =
    let parts = none_of (b == 39) (list_any (λ x. x == 39) bytes) none in
    let more = quotes_single bytes rest (value ++ b ∷ []) opened (at + 1) parts.1 in (
      more.0,
      single_byte b (bytes ++ 39 ∷ rest) value opened at parts.0
          ∙ more.1
          ∙ ap (λ v. word_from (open_word Bare opened v) more.0 rest) (append_assoc value (b ∷ []) bytes),
      omega (arith, more.2),
    )

slash_turn : (b : ℕ) (value rest : List ℕ) (opened at : ℕ)
    → word_from (open_word Slash opened value) at (b ∷ rest)
    ≡ word_from (open_word Double opened (value ++ cond (b == 34 || b == 92) (b ∷ []) (92 ∷ b ∷ []))) (at + 1) rest
slash_turn b value rest opened at = by_test (b == 34 || b == 92)
  where
    by_test : (test : Bool)
        → turned (cond test (Goes Byte Double) (Goes Both Double)) (open_word Slash opened value) at b
        (λ next. word_from next (at + 1) rest)
        ≡ word_from (open_word Double opened (value ++ cond test (b ∷ []) (92 ∷ b ∷ []))) (at + 1) rest
    by_test true = refl
    by_test false = refl

slash_value : (b : ℕ) (value : List ℕ) (keeps : List Kept)
    → ((value ++ cond (b == 34 || b == 92) (b ∷ []) (92 ∷ b ∷ [])) ++ kept_value keeps)
    ≡ (value ++ kept_value (slashed b ∷ keeps))
slash_value b value keeps =
    append_assoc value (cond (b == 34 || b == 92) (b ∷ []) (92 ∷ b ∷ [])) (kept_value keeps)
    ∙ ap (λ v. value ++ v) (by_test (b == 34 || b == 92))
  where
    by_test : (test : Bool) → (cond test (b ∷ []) (92 ∷ b ∷ []) ++ kept_value keeps)
        ≡ cond test (b ∷ kept_value keeps) (92 ∷ b ∷ kept_value keeps)
    by_test true = refl
    by_test false = refl

-- double quotes
quotes_double : (keeps : List Kept) (rest value : List ℕ) (opened at : ℕ) → AreKept keeps
    → (end : ℕ) × (word_from (open_word Double opened value) at (kept_written keeps (34 ∷ rest))
    ≡ word_from (open_word Bare opened (value ++ kept_value keeps)) end rest)
    × (end + length rest ≡ at + length (kept_written keeps (34 ∷ rest)))
quotes_double [] rest value opened at kept = (
  at + 1,
  ap (λ v. word_from (open_word Bare opened v) (at + 1) rest) (sym (append-nil value)),
  omega arith,
)
quotes_double (itself b ∷ keeps) rest value opened at (quote, slash, kept) =
    let more = quotes_double keeps rest (value ++ b ∷ []) opened (at + 1) kept in (
      more.0,
      rw (quote, slash) more.1
          ∙ ap (λ v. word_from (open_word Bare opened v) more.0 rest) (append_assoc value (b ∷ []) (kept_value keeps)),
      omega (arith, more.2),
    )
quotes_double (slashed b ∷ keeps) rest value opened at kept =
    let next : List ℕ = value ++ cond (b == 34 || b == 92) (b ∷ []) (92 ∷ b ∷ []) in
    let more = quotes_double keeps rest next opened (at + 1 + 1) kept in (
      more.0,
      slash_turn b value (kept_written keeps (34 ∷ rest)) opened (at + 1)
          ∙ more.1
          ∙ ap (λ v. word_from (open_word Bare opened v) more.0 rest) (slash_value b value keeps),
      omega (arith, more.2),
    )

word_ends : (rest value : List ℕ) (opened at : ℕ) → is_end rest ≡ true
    → word_from (open_word Bare opened value) at rest ≡ Ok (record { value = value; end = at })
word_ends [] value opened at is = refl
word_ends (b ∷ rest) value opened at is = rw is refl

parts_read : (parts : List Part) (rest value : List ℕ) (opened at : ℕ) → AreParts parts → is_end rest ≡ true
    → (end : ℕ) × (word_from (open_word Bare opened value) at (written parts rest)
    ≡ Ok (record { value = value ++ value_of parts; end = end }))
    × (end + length rest ≡ at + length (written parts rest))
parts_read [] rest value opened at sound ends = (
  at,
  word_ends rest value opened at ends ∙ ap (λ v. Ok (record { value = v; end = at })) (sym (append-nil value)),
  refl,
)
parts_read (bare b ∷ parts) rest value opened at (is, sound) ends =
    let more = parts_read parts rest (value ++ b ∷ []) opened (at + 1) sound ends in (
      more.0,
      ap (λ t. turned t (open_word Bare opened value) at b (λ next. word_from next (at + 1) (written parts rest)))
          (bare_turn b is)
          ∙ more.1
          ∙ ap (λ v. Ok (record { value = v; end = more.0 })) (append_assoc value (b ∷ []) (value_of parts)),
      omega (arith, more.2),
    )
parts_read (hidden b ∷ parts) rest value opened at sound ends =
    let more = parts_read parts rest (value ++ b ∷ []) at (at + 1 + 1) sound ends in (
      more.0,
      more.1 ∙ ap (λ v. Ok (record { value = v; end = more.0 })) (append_assoc value (b ∷ []) (value_of parts)),
      omega (arith, more.2),
    )
parts_read (single bytes ∷ parts) rest value opened at (none, sound) ends =
    let quoted = quotes_single bytes (written parts rest) value at (at + 1) none in
    let more = parts_read parts rest (value ++ bytes) at quoted.0 sound ends in (
      more.0,
      quoted.1
          ∙ more.1
          ∙ ap (λ v. Ok (record { value = v; end = more.0 })) (append_assoc value bytes (value_of parts)),
      omega (arith, more.2, quoted.2),
    )
parts_read (double keeps ∷ parts) rest value opened at (kept, sound) ends =
    let quoted = quotes_double keeps (written parts rest) value at (at + 1) kept in
    let more = parts_read parts rest (value ++ kept_value keeps) at quoted.0 sound ends in (
      more.0,
      quoted.1
          ∙ more.1
          ∙ ap (λ v. Ok (record { value = v; end = more.0 })) (append_assoc value (kept_value keeps) (value_of parts)),
      omega (arith, more.2, quoted.2),
    )

pub word_read : (at end : ℕ) (text value rest : List ℕ) → IsWordOf text value rest
    → end + length rest ≡ at + length text → word_at at text ≡ Ok (record { value = value; end = end })
word_read at end text value rest (parts, sound, is, means, ends) sums =
    let read = parts_read parts rest [] at at sound ends in
    let same : read.0 ≡ end = omega (arith, read.2, sums, ap length is) in
    ap (word_at at) is
    ∙ read.1
    ∙ ap (λ v. Ok (record { value = v; end = read.0 })) (sym means)
    ∙ ap (λ n. Ok (record { value = value; end = n })) same

-- ---- what is read is written

-- what a turn shows of a byte that isn't quoted
abbrev pub Shows : ℕ → Turn → Type 0
Shows b Ends = ends_word b ≡ true
Shows b (Refused kind) = Unit {0}
Shows b (Goes Byte Bare) = is_bare b ≡ true
Shows b (Goes Opening Escaped) = b ≡ 92
Shows b (Goes Opening Single) = b ≡ 39
Shows b (Goes Opening Double) = b ≡ 34
Shows b (Goes take quoting) = ⊥

shows_chain : (b : ℕ) (e s q d g t : Bool) → ends_word b ≡ e → (b == 92) ≡ s → (b == 39) ≡ q → (b == 34) ≡ d
    → has Glob b ≡ g → (b == 96) ≡ t
    → Shows b (cond e Ends (cond s (Goes Opening Escaped) (cond q (Goes Opening Single) (cond d (Goes Opening Double)
    (cond g (Refused kind.Glob) (cond t (Refused kind.BadOperator) (Goes Byte Bare)))))))
shows_chain b true s q d g t e_is s_is q_is d_is g_is t_is = e_is
shows_chain b false true q d g t e_is s_is q_is d_is g_is t_is = eqb-true b 92 s_is
shows_chain b false false true d g t e_is s_is q_is d_is g_is t_is = eqb-true b 39 q_is
shows_chain b false false false true g t e_is s_is q_is d_is g_is t_is = eqb-true b 34 d_is
shows_chain b false false false false true t e_is s_is q_is d_is g_is t_is = tt
shows_chain b false false false false false true e_is s_is q_is d_is g_is t_is = tt
shows_chain b false false false false false false e_is s_is q_is d_is g_is t_is =
    rw (e_is, s_is, q_is, d_is, g_is, t_is) refl

shows : (b : ℕ) → Shows b (turn_of Bare b)
shows b = shows_chain b (ends_word b) (b == 92) (b == 39) (b == 34) (has Glob b) (b == 96) refl refl refl refl refl refl

-- what is told of a text at an offset, where a word of this value goes on in it so
abbrev pub Unquoted : List ℕ → List ℕ → Word → ℕ → Type 0
Unquoted text value word at =
    (parts : List Part) × (rest : List ℕ) × AreParts parts × (text ≡ written parts rest)
    × (word.value ≡ value ++ value_of parts) × (is_end rest ≡ true) × (word.end + length rest ≡ at + length text)

abbrev pub InDouble : List ℕ → List ℕ → Word → ℕ → Type 0
InDouble text value word at =
    (keeps : List Kept) × (more : List ℕ) × (next : ℕ) × AreKept keeps × (text ≡ kept_written keeps (34 ∷ more))
    × Unquoted more (value ++ kept_value keeps) word next × (next + length more ≡ at + length text)

abbrev pub GoesOn : Quoting → List ℕ → List ℕ → Word → ℕ → Type 0
GoesOn Bare text value word at = Unquoted text value word at
GoesOn Escaped text value word at =
    (b : ℕ) × (more : List ℕ) × (text ≡ b ∷ more) × Unquoted more (value ++ b ∷ []) word (at + 1)
GoesOn Single text value word at =
    (bytes : List ℕ) × (more : List ℕ) × (next : ℕ) × (list_any (λ b. b == 39) bytes ≡ false)
    × (text ≡ bytes ++ 39 ∷ more) × Unquoted more (value ++ bytes) word next × (next + length more ≡ at + length text)
GoesOn Double text value word at = InDouble text value word at
GoesOn Slash text value word at =
    (b : ℕ) × (more : List ℕ) × (text ≡ b ∷ more)
    × InDouble more (value ++ cond (b == 34 || b == 92) (b ∷ []) (92 ∷ b ∷ [])) word (at + 1)

-- what is told of the rest of a text, however it goes on
abbrev pub Later : List ℕ → Word → ℕ → Type 0
Later rest word at =
    (quoting : Quoting) (opened : ℕ) (value : List ℕ)
    → word_from (open_word quoting opened value) at rest ≡ Ok word → GoesOn quoting rest value word at

abbrev gives : List ℕ → ℕ → Result Word ShellFault
gives value at = Ok (record { value = value; end = at })

ends_there : (text value : List ℕ) (at : ℕ) (word : Word) → is_end text ≡ true → gives value at ≡ Ok word
    → Unquoted text value word at
ends_there text value at word ends is =
    let same : record { value = value; end = at } ≡ word = cc in
    subst (λ w. Unquoted text value w at) same ([], text, tt, refl, sym (append-nil value), ends, refl)

-- where nothing quotes the byte
from_bare : (b : ℕ) (rest value : List ℕ) (opened at : ℕ) (word : Word) → Later rest word (at + 1) → (turn : Turn)
    → Shows b turn → turned turn (open_word Bare opened value) at b (λ next. word_from next (at + 1) rest) ≡ Ok word
    → Unquoted (b ∷ rest) value word at
from_bare b rest value opened at word later Ends is told = ends_there (b ∷ rest) value at word is told
from_bare b rest value opened at word later (Refused kind) is told = cc
from_bare b rest value opened at word later (Goes Byte Bare) is told =
    let all = later Bare opened (value ++ b ∷ []) told in (
      bare b ∷ all.0,
      all.1,
      (is, all.2),
      ap (λ t. b ∷ t) all.3,
      all.4 ∙ append_assoc value (b ∷ []) (value_of all.0),
      all.5,
      omega (arith, all.6),
    )
from_bare b rest value opened at word later (Goes Opening Escaped) is told =
    let next = later Escaped at value told in
    let unquoted = next.3 in (
      hidden next.0 ∷ unquoted.0,
      unquoted.1,
      unquoted.2,
      ap (λ t. b ∷ t) (next.2 ∙ ap (λ t. next.0 ∷ t) unquoted.3)
          ∙ ap (λ x. x ∷ next.0 ∷ written unquoted.0 unquoted.1) is,
      unquoted.4 ∙ append_assoc value (next.0 ∷ []) (value_of unquoted.0),
      unquoted.5,
      omega (arith, unquoted.6, ap length next.2),
    )
from_bare b rest value opened at word later (Goes Opening Single) is told =
    let next = later Single at value told in
    let unquoted = next.5 in (
      single next.0 ∷ unquoted.0,
      unquoted.1,
      (next.3, unquoted.2),
      ap (λ t. b ∷ t) (next.4 ∙ ap (λ t. next.0 ++ 39 ∷ t) unquoted.3)
          ∙ ap (λ x. x ∷ next.0 ++ 39 ∷ written unquoted.0 unquoted.1) is,
      unquoted.4 ∙ append_assoc value next.0 (value_of unquoted.0),
      unquoted.5,
      omega (arith, unquoted.6, next.6),
    )
from_bare b rest value opened at word later (Goes Opening Double) is told =
    let next = later Double at value told in
    let unquoted = next.5 in (
      double next.0 ∷ unquoted.0,
      unquoted.1,
      (next.3, unquoted.2),
      ap (λ t. b ∷ t) (next.4 ∙ ap (λ t. kept_written next.0 (34 ∷ t)) unquoted.3)
          ∙ ap (λ x. x ∷ kept_written next.0 (34 ∷ written unquoted.0 unquoted.1)) is,
      unquoted.4 ∙ append_assoc value (kept_value next.0) (value_of unquoted.0),
      unquoted.5,
      omega (arith, unquoted.6, next.6),
    )
from_bare b rest value opened at word later (Goes take quoting) is told = absurd is

-- in single quotes
from_single : (b : ℕ) (rest value : List ℕ) (opened at : ℕ) (word : Word) → Later rest word (at + 1)
    → word_from (open_word Single opened value) at (b ∷ rest) ≡ Ok word → GoesOn Single (b ∷ rest) value word at
from_single b rest value opened at word later told = by_test (b == 39) refl told
  where
    by_test : (test : Bool) → (b == 39) ≡ test
        → turned (cond test (Goes Mark Bare) (Goes Byte Single)) (open_word Single opened value) at b
        (λ next. word_from next (at + 1) rest) ≡ Ok word
        → GoesOn Single (b ∷ rest) value word at
    by_test true is told = (
      [],
      rest,
      at + 1,
      refl,
      ap (λ x. x ∷ rest) (eqb-true b 39 is),
      subst (λ v. Unquoted rest v word (at + 1)) (sym (append-nil value)) (later Bare opened value told),
      omega arith,
    )
    by_test false is told =
        let next = later Single opened (value ++ b ∷ []) told in (
          b ∷ next.0,
          next.1,
          next.2,
          ap (λ t. t || list_any (λ x. x == 39) next.0) is ∙ next.3,
          ap (λ t. b ∷ t) next.4,
          subst (λ v. Unquoted next.1 v word next.2) (append_assoc value (b ∷ []) next.0) next.5,
          omega (arith, next.6),
        )

-- in double quotes
from_double : (b : ℕ) (rest value : List ℕ) (opened at : ℕ) (word : Word) → Later rest word (at + 1)
    → word_from (open_word Double opened value) at (b ∷ rest) ≡ Ok word → InDouble (b ∷ rest) value word at
from_double b rest value opened at word later told = by_test (b == 34) refl (b == 92) refl told
  where
    by_test : (quote : Bool) → (b == 34) ≡ quote → (slash : Bool) → (b == 92) ≡ slash
        → turned (cond quote (Goes Mark Bare) (cond slash (Goes Mark Slash) (Goes Byte Double)))
        (open_word Double opened value) at b (λ next. word_from next (at + 1) rest) ≡ Ok word
        → InDouble (b ∷ rest) value word at
    by_test true quote_is slash slash_is told = (
      [],
      rest,
      at + 1,
      tt,
      ap (λ x. x ∷ rest) (eqb-true b 34 quote_is),
      subst (λ v. Unquoted rest v word (at + 1)) (sym (append-nil value)) (later Bare opened value told),
      omega arith,
    )
    by_test false quote_is true slash_is told =
        let behind = later Slash opened value told in
        let next = behind.3 in (
          slashed behind.0 ∷ next.0,
          next.1,
          next.2,
          next.3,
          ap (λ t. b ∷ t) (behind.2 ∙ ap (λ t. behind.0 ∷ t) next.4)
              ∙ ap (λ x. x ∷ behind.0 ∷ kept_written next.0 (34 ∷ next.1)) (eqb-true b 92 slash_is),
          subst (λ v. Unquoted next.1 v word next.2) (slash_value behind.0 value next.0) next.5,
          omega (arith, next.6, ap length behind.2),
        )
    by_test false quote_is false slash_is told =
        let next = later Double opened (value ++ b ∷ []) told in (
          itself b ∷ next.0,
          next.1,
          next.2,
          (quote_is, slash_is, next.3),
          ap (λ t. b ∷ t) next.4,
          subst (λ v. Unquoted next.1 v word next.2) (append_assoc value (b ∷ []) (kept_value next.0)) next.5,
          omega (arith, next.6),
        )

from_byte : (quoting : Quoting) (b : ℕ) (rest value : List ℕ) (opened at : ℕ) (word : Word) → Later rest word (at + 1)
    → word_from (open_word quoting opened value) at (b ∷ rest) ≡ Ok word → GoesOn quoting (b ∷ rest) value word at
from_byte Bare b rest value opened at word later told =
    from_bare b rest value opened at word later (turn_of Bare b) (shows b) told
from_byte Escaped b rest value opened at word later told = (b, rest, refl, later Bare opened (value ++ b ∷ []) told)
from_byte Single b rest value opened at word later told = from_single b rest value opened at word later told
from_byte Double b rest value opened at word later told = from_double b rest value opened at word later told
from_byte Slash b rest value opened at word later told =
    let next : List ℕ = value ++ cond (b == 34 || b == 92) (b ∷ []) (92 ∷ b ∷ []) in
    (b, rest, refl, later Double opened next (sym (slash_turn b value rest opened at) ∙ told))

written_from : (text : List ℕ) (word : Word) (at : ℕ) → Later text word at
written_from [] word at Bare opened value told = ends_there [] value at word refl told
written_from [] word at Escaped opened value told = cc
written_from [] word at Single opened value told = cc
written_from [] word at Double opened value told = cc
written_from [] word at Slash opened value told = cc
written_from (b ∷ rest) word at quoting opened value told =
    from_byte quoting b rest value opened at word (written_from rest word (at + 1)) told

pub word_said : (at : ℕ) (text : List ℕ) (word : Word) → word_at at text ≡ Ok word
    → (rest : List ℕ) × IsWordOf text word.value rest × (word.end + length rest ≡ at + length text)
word_said at text word told =
    let all = written_from text word at Bare at [] told in
    (all.1, (all.0, all.2, all.3, all.4, all.5), all.6)
