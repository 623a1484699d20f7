-- A token ends behind where it is looked for: an operator has a sign, and a word has a byte that doesn't end one.
-- By cases on what stands at an offset that isn't blank; the bytes of a run of signs are those of one operator.
-- `next_grows` puts them together: so the reader comes to an end.
use Rattle.std.proofs.Common.{◌≡◌, ◌∙◌, ℕ, zero, suc, ◌+◌, ◌≤◌, ◌<◌, ◌==◌, ◌&&◌, ◌||◌, Bool, true, false, if◌then◌else◌, List, [], ◌∷◌, length, take, drop, Option, Some, None, Result, Ok, Err, refl, sym, ap, subst, arith}
use Rattle.std.proofs.lemmas.Bool.Decides.{nat_tests}
use Rattle.std.proofs.lemmas.List.{length-drop}
use Rattle.std.specs.List.{prefix_len}
use Rattle.mini_shell.specs.Class.{begins, ends_word, front, has, is_sign}
use Rattle.mini_shell.specs.Token.{begins_operator, found, found_word, is_empty, next_at, number_count, operator_at, operator_count, operator_of, signs_count, stream_count, token_at}
use Rattle.mini_shell.specs.Word.{ended, none_of_it, taken, turn_of, turned, word_at, word_from}
use Rattle.mini_shell.specs.declared.class.Class.{Class}
use Rattle.mini_shell.specs.declared.class.Class.TheVariants as class
use Rattle.mini_shell.specs.Fault.{refused}
use Rattle.mini_shell.specs.declared.fault.ShellFault.{ShellFault}
use Rattle.mini_shell.specs.declared.fault.ShellKind.TheVariants.{BadOperator, Glob}
use Rattle.mini_shell.specs.declared.line.Join.TheVariants as join
use Rattle.mini_shell.specs.declared.token.Next.TheVariants.{Found, Over}
use Rattle.mini_shell.specs.declared.token.Token.{Token}
use Rattle.mini_shell.specs.declared.token.TokenKind.{TokenKind}
use Rattle.mini_shell.specs.declared.token.TokenKind.TheVariants as kind
use Rattle.mini_shell.specs.declared.word.Take.TheVariants.{Byte, Opening}
use Rattle.mini_shell.specs.declared.word.Open.{Open}
use Rattle.mini_shell.specs.declared.word.Quoting.{Quoting}
use Rattle.mini_shell.specs.declared.word.Quoting.TheVariants.{Bare, Escaped, Single, Double, Slash}
use Rattle.mini_shell.specs.declared.word.Turn.{Turn}
use Rattle.mini_shell.specs.declared.word.Turn.TheVariants.{Ends, Refused, Goes}
use Rattle.mini_shell.specs.declared.word.Word.{Word}
use Rattle.mini_shell.proofs.ClassLemmas.{begins_front}

-- ---- words

word_ended : (quoting : Quoting) (begun : Open) (at : ℕ) (word : Word) → ended quoting begun at ≡ Ok word → word.end ≡ at
word_ended Bare begun at word is = cc
word_ended Escaped begun at word is = absurd (cc is)
word_ended Single begun at word is = absurd (cc is)
word_ended Double begun at word is = absurd (cc is)
word_ended Slash begun at word is = absurd (cc is)

-- a word ends no earlier than it goes on
later_turned : (turn : Turn) (begun : Open) (at byte : ℕ) (rest : List ℕ) (word : Word)
    → turned turn begun at byte (λ next. word_from next (at + 1) rest) ≡ Ok word
    → ((next : Open) → word_from next (at + 1) rest ≡ Ok word → at + 1 ≤ word.end) → at ≤ word.end
later_turned Ends begun at byte rest word is later = let e : at ≡ word.end = cc in omega (arith, e)
later_turned (Refused kind) begun at byte rest word is later = absurd (cc is)
later_turned (Goes take quoting) begun at byte rest word is later =
    omega (arith, later (taken begun at byte take quoting) is)

later_from : (begun : Open) (at : ℕ) (text : List ℕ) (word : Word) → word_from begun at text ≡ Ok word → at ≤ word.end
later_from begun at [] word is = omega (arith, word_ended begun.quoting begun at word is)
later_from begun at (byte ∷ rest) word is =
    later_turned (turn_of begun.quoting byte) begun at byte rest word is (λ next. later_from next (at + 1) rest word)

-- a byte that doesn't end a word
goes_turned : (escape single double glob tick : Bool)
    → (if escape then Goes Opening Escaped else if single then Goes Opening Single
    else if double then Goes Opening Double else if glob then Refused Glob
    else if tick then Refused BadOperator else Goes Byte Bare) ≡ Ends → ⊥
goes_turned true single double glob tick is = cc is
goes_turned false true double glob tick is = cc is
goes_turned false false true glob tick is = cc is
goes_turned false false false true tick is = cc is
goes_turned false false false false true is = cc is
goes_turned false false false false false is = cc is

goes : (byte : ℕ) → ends_word byte ≡ false → turn_of Bare byte ≡ Ends → ⊥
goes byte inner is =
    goes_turned (byte == 92) (byte == 39) (byte == 34) (has class.Glob byte) (byte == 96) (rw inner at is)

grows_turned : (turn : Turn) (begun : Open) (at byte : ℕ) (rest : List ℕ) (word : Word) → (turn ≡ Ends → ⊥)
    → turned turn begun at byte (λ next. word_from next (at + 1) rest) ≡ Ok word → at < word.end
grows_turned Ends begun at byte rest word onward is = absurd (onward refl)
grows_turned (Refused kind) begun at byte rest word onward is = absurd (cc is)
grows_turned (Goes take quoting) begun at byte rest word onward is =
    omega (arith, later_from (taken begun at byte take quoting) (at + 1) rest word is)

word_grows : (at byte : ℕ) (rest : List ℕ) (word : Word) → ends_word byte ≡ false
    → word_at at (byte ∷ rest) ≡ Ok word → at < word.end
word_grows at byte rest word inner is =
    grows_turned (turn_of Bare byte) (none_of_it at) at byte rest word (goes byte inner) is

found_word_is : (at : ℕ) (bang : Bool) (read : Result Word ShellFault) (token : Token) (end : ℕ)
    → found_word at bang read ≡ Ok (Found token end) → (word : Word) × (read ≡ Ok word) × (end ≡ word.end)
found_word_is at bang (Ok word) token end is = (word, refl, cc)
found_word_is at bang (Err fault) token end is = absurd (cc is)

-- ---- operators

front_some : (one : Class) (text : List ℕ) → begins one text ≡ true → 1 ≤ front one text
front_some one [] is = absurd (cc is)
front_some one (byte ∷ rest) is = rw is (omega arith)

front_none : (one : Class) (byte : ℕ) (rest : List ℕ) → has one byte ≡ false → front one (byte ∷ rest) ≡ 0
front_none one byte rest is = rw is refl

found_at : (at end : ℕ) (kind : Option TokenKind) (token : Token) (to : ℕ) → found at end kind ≡ Ok (Found token to)
    → to ≡ end
found_at at end (Some one) token to is = cc
found_at at end None token to is = absurd (cc is)

operator_grows : (at : ℕ) (text : List ℕ) (token : Token) (end : ℕ) → begins_operator text ≡ true
    → operator_at at text ≡ Ok (Found token end) → at < end
operator_grows at text token end begins_here is =
    let sign = front_some class.Sign (drop (number_count text) text) begins_here in
    let ends = found_at at (at + operator_count text) (operator_of (take (operator_count text) text)) token end is in
    omega (arith, sign, ends)

-- a byte that begins no operator is no sign
digit_is_no_sign : (byte : ℕ) → has class.Digit byte ≡ true → is_sign byte ≡ false
digit_is_no_sign byte is = grind (arith, nat_tests)

no_number : (arrow : Bool) (count : ℕ) → count ≡ 0 → (if arrow then count else 0) ≡ 0
no_number true count is = is
no_number false count is = refl

no_sign_by : (digit : Bool) (byte : ℕ) (rest : List ℕ) → has class.Digit byte ≡ digit
    → begins_operator (byte ∷ rest) ≡ false → is_sign byte ≡ false
no_sign_by true byte rest is none = digit_is_no_sign byte is
no_sign_by false byte rest is none =
    let count : number_count (byte ∷ rest) ≡ 0 = no_number
    (begins class.Arrow (drop (front class.Digit (byte ∷ rest)) (byte ∷ rest))) (front class.Digit (byte ∷ rest))
    (front_none class.Digit byte rest is) in
    subst (λ n. begins class.Sign (drop n (byte ∷ rest)) ≡ false) count none

-- ---- what stands at an offset that isn't blank

inside : (blank semi sign : Bool) → blank ≡ false → semi ≡ false → sign ≡ false → (blank || semi || sign) ≡ false
inside blank semi sign a b c = rw a (rw b c)

token_by : (at byte : ℕ) (rest : List ℕ) (token : Token) (end : ℕ) (semi operator paren : Bool)
    → begins class.Blank (byte ∷ rest) ≡ false → has class.Then byte ≡ semi → begins_operator (byte ∷ rest) ≡ operator
    → (if semi then Ok (Found (record { at = at; kind = kind.Joins join.Then }) (at + 1))
    else if operator then operator_at at (byte ∷ rest)
    else if paren then refused BadOperator at
    else found_word at (begins class.Bang (byte ∷ rest)) (word_at at (byte ∷ rest))) ≡ Ok (Found token end)
    → at < end
token_by at byte rest token end true operator paren blank semi here is =
    let ends : at + 1 ≡ end = cc in omega (arith, ends)
token_by at byte rest token end false true paren blank semi here is = operator_grows at (byte ∷ rest) token end here is
token_by at byte rest token end false false true blank semi here is = absurd (cc is)
token_by at byte rest token end false false false blank semi here is =
    let found : (word : Word) × (word_at at (byte ∷ rest) ≡ Ok word) × (end ≡ word.end) =
    found_word_is at (begins class.Bang (byte ∷ rest)) (word_at at (byte ∷ rest)) token end is in
    let sign = no_sign_by (has class.Digit byte) byte rest refl here in
    let grows = word_grows at byte rest found.0
    (inside (has class.Blank byte) (byte == 59) (is_sign byte) blank semi sign) found.1 in
    omega (arith, grows, found.2)

token_grows : (at : ℕ) (text : List ℕ) (token : Token) (end : ℕ) → begins class.Blank text ≡ false
    → token_at at text ≡ Ok (Found token end) → (at < end) × (0 < length text)
token_grows at [] token end blank is = absurd (cc is)
token_grows at (byte ∷ rest) token end blank is = (
  token_by at byte rest token end (has class.Then byte) (begins_operator (byte ∷ rest)) (begins class.Paren (byte ∷ rest))
      blank refl refl is,
  omega arith,
)

-- a token ends behind an offset in the text
pub next_grows : (text : List ℕ) (at : ℕ) (token : Token) (end : ℕ) → next_at at (drop at text) ≡ Ok (Found token end)
    → (at < end) × (at < length text)
next_grows text at token end is =
    let behind : List ℕ = drop at text in
    let grows = token_grows (at + front class.Blank behind) (drop (front class.Blank behind) behind) token end
    (begins_front class.Blank behind) is in (
      omega (arith, grows.0),
      omega (arith, grows.1, length-drop (front class.Blank behind) behind, length-drop at text),
    )
