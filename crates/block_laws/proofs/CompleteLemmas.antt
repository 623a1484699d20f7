-- Each block of the productions is read. An expression has none of the bytes `%`, `:` and `=` (`expr_is_clean`), so each
-- test of the reading tells which parts there are; a part that is there is read up to what stands behind it.
-- The hard one is `all_clean`, which follows the tokens of an expression.
use Rattle.std.proofs.Common.{◌≡◌, ℕ, ◌+◌, ◌-◌, ◌^◌, ◌<◌, suc, zero, Bool, true, false, true≢false, not, ◌&&◌, ◌||◌, ◌==◌, if◌then◌else◌, nat_le, nat_lt, List, [], ◌∷◌, ◌++◌, length, take, drop, Option, Some, None, Result, Ok, Err, is_some, refl, sym, ap, ◌∙◌, subst, ◌⊎◌, inl, inr, arith, codes}
use Rattle.std.specs.List.{prefix_len, list_all, list_any}
use Rattle.std.specs.Option.{option_map}
use Rattle.std.specs.Str.Parse.{digits_value}
use Rattle.std.proofs.lemmas.Bool.{eqb-true, eq-eqb, le-leb, and_parts, and_from}
use Rattle.std.proofs.lemmas.Bool.Decides.{nat_tests}
use Rattle.std.proofs.lemmas.List.{append-nil, drop-drop, take_all}
use Rattle.std.proofs.Math.Seq.{drop-append_seam, take-append_seam}
use Rattle.std.proofs.lemmas.Option.{same_Some}
use Rattle.ere_tree.specs.Class.{is_blank, is_digit, is_xdigit}
use Rattle.ere_tree.specs.Front.{begins, begins_with}
use Rattle.tt_base.specs.Occurrence as plain
use Rattle.num_base.specs.Term.{Term, literal, line}
use Rattle.num_base.specs.declared.expr.Op.TheVariants.{Sub}
use Rattle.num_spell.specs.Spelling.{signed}
use Rattle.num_base.specs.declared.format.Format.{Format}
use Rattle.num_base.specs.declared.format.FormatKind.{FormatKind}
use Rattle.num_base.specs.declared.format.FormatKind.TheVariants.{Unsigned, Signed, LowerHex, UpperHex}
use Rattle.num_exprs.proofs.GrammarLemmas as expressions
use Rattle.num_exprs.specs.Block.{Num, block_of, reading, expr_from, behind_format, equals_at, name_from, name_behind, format_at, format_from, digits_behind, digits_at, kind_behind, kind_at, comma_behind}
use Rattle.num_exprs.specs.Place.{Found}
use Rattle.num_exprs.specs.declared.block.PlacedName.{PlacedName}
use Rattle.std.proofs.lemmas.List.Folds.{list_any-append}
use Rattle.num_exprs.specs.Name as names
use Rattle.num_exprs.specs.Name.{begins_name, is_in_name, name_at}
use Rattle.num_exprs.specs.Token.{Token, value, operator, and_next, blanks, literal_from, literal_of, operand_at, word_at, word_of, token, tokens_from, wanted_behind}
use Rattle.num_exprs.specs.Productions.{Sum, one, more, simple, parens, call, tokens, operand_tokens, all_tokens, IsExpr, expr_at}
use Rattle.block_laws.proofs.FrontLemmas.{begins_is, front_is, row_front, row_length, all_follow, blanks_behind}
use Rattle.block_laws.proofs.SoundLemmas.{not_ok, name_of, name_sound}
use Rattle.block_laws.specs.Productions.{Blanks, letter_of, is_hex, sharp, ArePlaces, IsFmt, FormatPart, is_word, is_name, NamePart, EqualsPart, ExprPart, IsNum}

-- NO EXPRESSION HOLDS THEM

abbrev clean : ℕ → Bool
clean b = not (b == 37) && (not (b == 58) && not (b == 61))

-- one of two was chosen
chosen : {A E : Type 0} (b : Bool) (x : A) (r : Result A E) (y : A) → (if b then Ok x else r) ≡ Ok y
    → ((b ≡ true) × (x ≡ y)) ⊎ (r ≡ Ok y)
chosen true x r y h = let same : x ≡ y = cc in inl (refl, same)
chosen false x r y h = inr h

-- the bytes of a token are clean, and it has some
abbrev Clean : List ℕ → ℕ → Type 0
Clean text count = (list_all clean (take count text) ≡ true) × (0 < count)

digits_clean : (negative : Bool) (count n at k : ℕ) (text : List ℕ) (found : Token × ℕ)
    → literal_of negative count n ≡ Ok found → count ≡ at + k → Clean text k
    → (k : ℕ) × (found.1 ≡ at + k) × Clean text k
digits_clean negative count n at k text found h same bytes = each (nat_lt n (2 ^ 127)) h
  where
    each : (b : Bool)
        → ◌≡◌ {A = Result (Token × ℕ) ℕ} (if b then Ok (value (literal (signed negative n)), count) else Err 0) (Ok found)
        → (k : ℕ) × (found.1 ≡ at + k) × Clean text k
    each false h = not_ok _ found h
    each true h = let pair : (value (literal (signed negative n)), count) ≡ found = cc in
        (k, sym (ap (λ p. p.1) pair) ∙ same, bytes)

-- a row of digits, of which there is one
row_bytes : (test : ℕ → Bool) → ((b : ℕ) → test b ≡ true → clean b ≡ true) → (text : List ℕ)
    → begins_with test text ≡ true → Clean text (prefix_len test text)
unfolding begins_with
row_bytes test follows [] h = absurd (true≢false (sym h))
row_bytes test follows (b ∷ text) h = (all_follow test clean follows _ (row_front test (b ∷ text)), rw h (omega arith))

digit_clean : (b : ℕ) → is_digit b ≡ true → clean b ≡ true
digit_clean b h = grind (arith, nat_tests)

xdigit_clean : (b : ℕ) → is_xdigit b ≡ true → clean b ≡ true
xdigit_clean b h = grind (arith, nat_tests)

name_byte_clean : (b : ℕ) → is_in_name b ≡ true → clean b ≡ true
name_byte_clean b h = grind (arith, nat_tests)

first_clean : (b : ℕ) → begins_name b ≡ true → clean b ≡ true
first_clean b h = grind (arith, nat_tests)

literal_clean : (negative : Bool) (at : ℕ) (text : List ℕ) (found : Token × ℕ)
    → literal_from negative at text ≡ Ok found → (k : ℕ) × (found.1 ≡ at + k) × Clean text k
literal_clean negative at text found h =
    each (plain.begins_with text (codes "0x")) (begins_with is_xdigit (drop 2 text)) refl refl h
  where
    Goal : Type 0
    Goal = (k : ℕ) × (found.1 ≡ at + k) × Clean text k

    x : ℕ
    x = prefix_len is_xdigit (drop 2 text)

    d : ℕ
    d = prefix_len is_digit text

    decimal : (c : Bool) → begins_with is_digit text ≡ c
        → (if c then literal_of negative (at + d) (digits_value 10 (take d text)) else Err at) ≡ Ok found → Goal
    decimal false some h = not_ok _ found h
    decimal true some h = digits_clean negative (at + d) _ at d text found h refl (row_bytes is_digit digit_clean text some)

    each : (a b : Bool) → plain.begins_with text (codes "0x") ≡ a → begins_with is_xdigit (drop 2 text) ≡ b
        → (if a && b then literal_of negative (at + 2 + x) (digits_value 16 (take x (drop 2 text)))
        else if begins_with is_digit text then literal_of negative (at + d) (digits_value 10 (take d text))
        else Err at) ≡ Ok found → Goal
    each true true lead some h =
        let row = row_bytes is_xdigit xdigit_clean (drop 2 text) some in
        let two : 2 + x ≡ suc (suc x) = omega arith in
        let bytes : list_all clean (take (2 + x) (48 ∷ 120 ∷ drop 2 text)) ≡ true = rw two (row.0) in
        digits_clean negative (at + 2 + x) _ at (2 + x) text found h (omega arith)
        (subst (λ t. list_all clean (take (2 + x) t) ≡ true) (sym (front_is (codes "0x") text lead)) bytes, omega arith)
    each true false lead some h = decimal (begins_with is_digit text) refl h
    each false b lead some h = decimal (begins_with is_digit text) refl h

word_bytes_clean : (bytes : List ℕ) → is_word bytes ≡ true → list_all clean bytes ≡ true
word_bytes_clean [] h = absurd (true≢false (sym h))
word_bytes_clean (b ∷ bytes) h =
    let both = and_parts (begins_name b) (list_all is_in_name bytes) h in
    and_from (clean b) _ (first_clean b both.0) (all_follow is_in_name clean name_byte_clean bytes both.1)

name_clean : (bytes : List ℕ) → is_name bytes ≡ true → list_all clean bytes ≡ true
name_clean [] h = absurd (true≢false (sym h))
name_clean (b ∷ bytes) h = each (b == 36) refl h
  where
    each : (v : Bool) → (b == 36) ≡ v → (if v then is_word bytes else is_word (b ∷ bytes)) ≡ true
        → list_all clean (b ∷ bytes) ≡ true
    each true is h = rw (eqb-true b 36 is) (word_bytes_clean bytes h)
    each false is h = word_bytes_clean (b ∷ bytes) h

some_in_name : (text : List ℕ) (long : ℕ) → is_name (take long text) ≡ true → 0 < long
some_in_name text zero h = absurd (true≢false (sym h))
some_in_name text (suc long) h = omega arith

word_clean : (text : List ℕ) (found : Token × ℕ) → word_at text ≡ Ok found → Clean text found.1
word_clean text found h = each (name_at text) refl h
  where
    each : (r : Result ℕ ℕ) → name_at text ≡ r
        → ◌≡◌ {A = Result (Token × ℕ) ℕ} (elim r [ Ok count ↦ Ok (word_of count text, count) | Err at ↦ Err at ]) (Ok found)
        → Clean text found.1
    each (Err at) is h = not_ok _ found h
    each (Ok count) is h =
        let pair : (word_of count text, count) ≡ found = cc in
        let named = name_sound text count is in
        subst (λ (p : Token × ℕ). Clean text p.1) pair (name_clean (take count text) named, some_in_name text count named)

operand_clean : (text : List ℕ) (found : Token × ℕ) → operand_at text ≡ Ok found → Clean text found.1
operand_clean text found h = digit (begins_with is_digit text) h
  where
    at_line : (v : Bool) → plain.begins_with text (codes "@LINE") ≡ v
        → ◌≡◌ {A = Result (Token × ℕ) ℕ} (if v then Ok (value line, 5) else word_at text) (Ok found) → Clean text found.1
    at_line false is h = word_clean text found h
    at_line true is h =
        let pair : (value line, 5) ≡ found = cc in
        let bytes : list_all clean (take 5 (codes "@LINE" ++ drop 5 text)) ≡ true = refl in
        subst (λ (p : Token × ℕ). Clean text p.1) pair
        (subst (λ t. list_all clean (take 5 t) ≡ true) (sym (front_is (codes "@LINE") text is)) bytes, omega arith)

    digit : (v : Bool) → (if v then literal_from false 0 text
        else if plain.begins_with text (codes "@LINE") then Ok (value line, 5)
        else word_at text) ≡ Ok found → Clean text found.1
    digit false h = at_line (plain.begins_with text (codes "@LINE")) refl h
    digit true h =
        let row = literal_clean false 0 text found h in
        subst (Clean text) (omega arith) row.2

-- a byte that is a token
byte_clean : (b : ℕ) (text : List ℕ) (t : Token) (found : Token × ℕ) → clean b ≡ true → begins b text ≡ true
    → (t, 1) ≡ found → Clean text found.1
byte_clean b text t found good is same =
    subst (λ (p : Token × ℕ). Clean text p.1) same (
      subst (λ s. list_all clean (take 1 s) ≡ true) (sym (begins_is b text is)) (and_from (clean b) true good refl),
      omega arith,
    )

token_clean : (wanted : Bool) (text : List ℕ) (found : Token × ℕ) → token wanted text ≡ Ok found → Clean text found.1
unfolding token
token_clean wanted text found h = elim (chosen (begins 40 text) _ _ found h) [
  | inl a ↦ byte_clean 40 text _ found refl a.0 a.1
  | inr h ↦ elim (chosen (begins 41 text) _ _ found h) [
    | inl a ↦ byte_clean 41 text _ found refl a.0 a.1
    | inr h ↦ elim (chosen (begins 44 text) _ _ found h) [
      | inl a ↦ byte_clean 44 text _ found refl a.0 a.1
      | inr h ↦ elim (chosen (begins 43 text) _ _ found h) [
        | inl a ↦ byte_clean 43 text _ found refl a.0 a.1
        | inr h ↦ minus (begins 45 text) refl wanted h
      ]
    ]
  ]
]
  where
    minus : (v : Bool) → begins 45 text ≡ v → (w : Bool)
        → (if v then (if w then literal_from true 1 (drop 1 text) else Ok (operator Sub, 1))
        else if w then operand_at text
        else Err 0) ≡ Ok found → Clean text found.1
    minus true is true h =
        let row = literal_clean true 1 (drop 1 text) found h in
        let one : found.1 ≡ suc row.0 = omega arith in
        let bytes : list_all clean (take (suc row.0) (45 ∷ drop 1 text)) ≡ true = row.2.0 in
        rw one (subst (λ s. list_all clean (take (suc row.0) s) ≡ true) (sym (begins_is 45 text is)) bytes, omega arith)
    minus true is false h = let same : (operator Sub, 1) ≡ found = cc in byte_clean 45 text _ found refl is same
    minus false is true h = operand_clean text found h
    minus false is false h = not_ok _ found h

all_clean : (wanted : Bool) (at skip : ℕ) (text : List ℕ)
    → is_some (all_tokens (tokens_from wanted at skip text)) ≡ true → list_all clean (take skip text) ≡ true
    → list_all clean text ≡ true
unfolding tokens_from
all_clean wanted at skip [] h front = refl
all_clean wanted at (suc skip) (b ∷ text) h front =
    let both = and_parts (clean b) (list_all clean (take skip text)) front in
    and_from (clean b) _ both.0 (all_clean wanted (suc at) skip text h both.1)
all_clean wanted at zero (b ∷ text) h front =
    each (is_blank b) refl (λ w s. all_clean w (suc at) s text) h
  where
    blank : is_blank b ≡ true → clean b ≡ true
    blank is = grind (arith, nat_tests)

    some : {A B : Type 0} (f : A → B) (o : Option A) → is_some (option_map f o) ≡ true → is_some o ≡ true
    some f None h = h
    some f (Some x) h = refl

    each_token : ((w : Bool) (s : ℕ) → is_some (all_tokens (tokens_from w (suc at) s text)) ≡ true
        → list_all clean (take s text) ≡ true → list_all clean text ≡ true)
        → (r : Result (Token × ℕ) ℕ) → token wanted (b ∷ text) ≡ r
        → is_some (all_tokens (and_next at r (λ found.
        tokens_from (wanted_behind found.0) (suc at) (found.1 - 1) text))) ≡ true → list_all clean (b ∷ text) ≡ true
    each_token later (Err k) is h = absurd (true≢false (sym h))
    each_token later (Ok found) is h =
        let bytes = token_clean wanted (b ∷ text) found is in
        let one : found.1 ≡ suc (found.1 - 1) = omega (arith, bytes.1) in
        let both = and_parts (clean b) (list_all clean (take (found.1 - 1) text))
        (subst (λ n. list_all clean (take n (b ∷ text)) ≡ true) one bytes.0) in
        and_from (clean b) _ both.0 (later (wanted_behind found.0) (found.1 - 1) (some _ _ h) both.1)

    each : (v : Bool) → is_blank b ≡ v
        → ((w : Bool) (s : ℕ) → is_some (all_tokens (tokens_from w (suc at) s text)) ≡ true
        → list_all clean (take s text) ≡ true → list_all clean text ≡ true)
        → is_some (all_tokens (if v then tokens_from wanted (suc at) 0 text
        else and_next at (token wanted (b ∷ text)) (λ found.
        tokens_from (wanted_behind found.0) (suc at) (found.1 - 1) text))) ≡ true → list_all clean (b ∷ text) ≡ true
    each true is later h = and_from (clean b) _ (blank is) (later wanted 0 h refl)
    each false is later h = each_token later (token wanted (b ∷ text)) refl h

expr_is_clean : (text : List ℕ) (t : Term) → IsExpr text t → list_all clean text ≡ true
expr_is_clean text t h = all_clean true 0 0 text (ap is_some h.1) refl

clean_behind : (n : ℕ) (text : List ℕ) → list_all clean text ≡ true → list_all clean (drop n text) ≡ true
clean_behind zero text h = h
clean_behind (suc n) [] h = refl
clean_behind (suc n) (b ∷ text) h = clean_behind n text (and_parts (clean b) (list_all clean text) h).1

not_begun : (b : ℕ) (text : List ℕ) → clean b ≡ false → list_all clean text ≡ true → begins b text ≡ false
not_begun b text bad h = each (begins b text) refl
  where
    each : (v : Bool) → begins b text ≡ v → v ≡ false
    each false is = refl
    each true is =
        let all : list_all clean (b ∷ drop 1 text) ≡ true = subst (λ t. list_all clean t ≡ true) (begins_is b text is) h in
        absurd (true≢false (sym (and_parts (clean b) (list_all clean (drop 1 text)) all).0 ∙ bad))

no_colon : (text : List ℕ) → list_all clean text ≡ true → list_any (λ b. b == 58) text ≡ false
no_colon [] h = refl
no_colon (b ∷ text) h =
    let both = and_parts (clean b) (list_all clean text) h in
    let other : (b == 58) ≡ false = grind (arith, nat_tests) in
    rw other (no_colon text both.1)

blank_clean : (b : ℕ) → is_blank b ≡ true → clean b ≡ true
blank_clean b h = grind (arith, nat_tests)

part_is_clean : (text : List ℕ) (equals : Bool) (expr : Option Term) → ExprPart text equals expr
    → list_all clean text ≡ true
part_is_clean text equals None h = all_follow is_blank clean blank_clean text h.1
part_is_clean text equals (Some t) h = expr_is_clean text t h

-- WHICH PARTS THERE ARE

-- what begins a name begins neither a format nor blanks
name_begun : (name rest : List ℕ) → is_name name ≡ true
    → (begins 37 (name ++ rest) ≡ false) × (begins_with is_blank (name ++ rest) ≡ false)
unfolding begins_with
name_begun [] rest h = absurd (true≢false (sym h))
name_begun (b ∷ name) rest h = each (b == 36) refl h
  where
    each : (v : Bool) → (b == 36) ≡ v → (if v then is_word name else is_word (b ∷ name)) ≡ true
        → ((b == 37) ≡ false) × (is_blank b ≡ false)
    each true is h = rw (eqb-true b 36 is) (refl, refl)
    each false is h =
        let first : begins_name b ≡ true = (and_parts (begins_name b) (list_all is_in_name name) h).0 in
        (grind (arith, nat_tests), grind (arith, nat_tests))

-- the text behind blanks begins so
behind_blanks : (b : ℕ) (text rest : List ℕ) → Blanks text rest → begins_with is_blank rest ≡ false
    → begins b rest ≡ false → begins b (drop (blanks text) text) ≡ false
behind_blanks b text rest are none other = ap (begins b) (blanks_behind text rest are none) ∙ other

no_percent : (text a b : List ℕ) (name : Option (List ℕ)) (equals : Bool) (expr : Option Term)
    → NamePart text name a → EqualsPart a equals b → ExprPart b equals expr
    → begins 37 (drop (blanks text) text) ≡ false
unfolding begins_with
no_percent text a b (Some name) equals expr named equality said =
    let begun = name_begun name named.0 named.1 in
    behind_blanks 37 text (name ++ named.0) named.2 begun.1 begun.0
no_percent text a b None true expr named equality said =
    behind_blanks 37 text (61 ∷ 61 ∷ b) (subst (λ t. Blanks t (61 ∷ 61 ∷ b)) named equality) refl refl
no_percent text a b None false expr named equality said =
    let same : b ≡ text = equality ∙ named in
    not_begun 37 (drop (blanks text) text) refl
    (clean_behind (blanks text) text (subst (λ t. list_all clean t ≡ true) same (part_is_clean b false expr said)))

no_name : (text b : List ℕ) (equals : Bool) (expr : Option Term) → EqualsPart text equals b → ExprPart b equals expr
    → list_any (λ b. b == 58) text ≡ false
no_name text b false expr equality said =
    subst (λ t. list_any (λ b. b == 58) t ≡ false) equality (no_colon b (part_is_clean b false expr said))
no_name text b true expr equality said =
    ap (list_any (λ b. b == 58)) equality.2 ∙ list_any-append (λ b. b == 58) equality.0 (61 ∷ 61 ∷ b)
    ∙ ap (λ v. v || list_any (λ b. b == 58) b) (no_colon equality.0 (all_follow is_blank clean blank_clean equality.0 equality.1))
    ∙ no_colon b (part_is_clean b true expr said)

-- EACH PART

comma_read : (format : Format) (at taken : ℕ) (text c rest : List ℕ) → drop taken text ≡ c → Blanks c (44 ∷ rest)
    → (m : ℕ) × (comma_behind format at taken text ≡ Ok (Some format, m)) × (drop m text ≡ rest)
unfolding begins_with
comma_read format at taken text c rest there are =
    let count : ℕ = taken + blanks (drop taken text) in
    let behind : drop count text ≡ 44 ∷ rest =
    sym (drop-drop (blanks (drop taken text)) taken text) ∙ ap (λ s. drop (blanks s) s) there
    ∙ blanks_behind c (44 ∷ rest) are refl in
    let comma : begins 44 (drop count text) ≡ true = ap (begins 44) behind in
    (count + 1, rw comma refl, sym (drop-drop 1 count text) ∙ ap (drop 1) behind)

-- what the letter of a kind is
kind_read : (alternate : Bool) (kind : FormatKind) (rest : List ℕ) → (alternate ≡ true → is_hex kind ≡ true)
    → kind_at alternate (letter_of kind ∷ rest) ≡ Some kind
unfolding begins_with
kind_read true Unsigned rest hex = absurd (true≢false (sym (hex refl)))
kind_read false Unsigned rest hex = refl
kind_read true Signed rest hex = absurd (true≢false (sym (hex refl)))
kind_read false Signed rest hex = refl
kind_read alternate LowerHex rest hex = refl
kind_read alternate UpperHex rest hex = refl

not_letter : (test : ℕ → Bool) (kind : FormatKind) (rest : List ℕ) → test 117 ≡ false → test 100 ≡ false
    → test 120 ≡ false → test 88 ≡ false → begins_with test (letter_of kind ∷ rest) ≡ false
unfolding begins_with
not_letter test Unsigned rest u d x y = u
not_letter test Signed rest u d x y = d
not_letter test LowerHex rest u d x y = x
not_letter test UpperHex rest u d x y = y

places_read : (places : List ℕ) (n : ℕ) (kind : FormatKind) (c : List ℕ) → ArePlaces places n
    → (count : ℕ) × (digits_at (places ++ letter_of kind ∷ c) ≡ Some (n, count))
    × (drop count (places ++ letter_of kind ∷ c) ≡ letter_of kind ∷ c)
unfolding begins_with
places_read [] n kind c are =
    let other : begins 46 (letter_of kind ∷ c) ≡ false = not_letter (λ b. b == 46) kind c refl refl refl refl in
    (0, rw (other, are) refl, refl)
places_read (dot ∷ digits) n kind c are =
    let s : List ℕ = letter_of kind ∷ c in
    let long : prefix_len is_digit (digits ++ s) ≡ length digits =
    row_length is_digit digits s are.1 (not_letter is_digit kind c refl refl refl refl) in
    let figures : take (length digits) (digits ++ s) ≡ digits = take-append_seam digits s in
    let low : nat_le 1 n ≡ true = le-leb 1 n are.3 in
    let high : nat_le n 100 ≡ true = le-leb n 100 are.4 in
    let one : length digits + 1 ≡ suc (length digits) = omega arith in (
      length digits + 1,
      rw (are.0, long, figures, ← are.2, low, high) refl,
      ap (λ m. drop m (dot ∷ digits ++ s)) one ∙ drop-append_seam digits s,
    )

-- no blank and no `#` begins what stands behind the `#` of a format
places_begun : (test : ℕ → Bool) (places : List ℕ) (n : ℕ) (kind : FormatKind) (c : List ℕ) → ArePlaces places n
    → test 46 ≡ false → test 117 ≡ false → test 100 ≡ false → test 120 ≡ false → test 88 ≡ false
    → begins_with test (places ++ letter_of kind ∷ c) ≡ false
unfolding begins_with
places_begun test [] n kind c are dot u d x y = not_letter test kind c u d x y
places_begun test (b ∷ digits) n kind c are dot u d x y = ap test are.0 ∙ dot

sharp_read : (alternate : Bool) (text rest : List ℕ) → text ≡ sharp alternate ++ rest → begins 35 rest ≡ false
    → (begins 35 text ≡ alternate) × (drop (if alternate then 1 else 0) text ≡ rest)
unfolding begins_with
sharp_read true text rest is none = rw is (refl, refl)
sharp_read false text rest is none = rw is (none, refl)

fmt_read : (at : ℕ) (text c rest : List ℕ) (format : Format) → IsFmt text format c → Blanks c (44 ∷ rest)
    → (m : ℕ) × (format_from at text ≡ Ok (Some format, m)) × (drop m text ≡ rest)
fmt_read at text c rest format is are =
    let alternate : Bool = format.alternate in
    let first : ℕ = if alternate then 1 else 0 in
    let lead = sharp_read alternate text (is.0 ++ letter_of format.kind ∷ c) is.3
    (places_begun (λ b. b == 35) is.0 format.digits format.kind c is.1 refl refl refl refl refl) in
    let digits = places_read is.0 format.digits format.kind c is.1 in
    let found : digits_at (drop first text) ≡ Some (format.digits, digits.0) = ap digits_at lead.1 ∙ digits.1 in
    let there : drop (first + digits.0) text ≡ letter_of format.kind ∷ c =
    sym (drop-drop digits.0 first text) ∙ ap (drop digits.0) lead.1 ∙ digits.2 in
    let kind : kind_at alternate (drop (first + digits.0) text) ≡ Some format.kind =
    ap (kind_at alternate) there ∙ kind_read alternate format.kind c is.2 in
    let comma = comma_read format at (first + digits.0 + 1) text c rest
    (sym (drop-drop 1 (first + digits.0) text) ∙ ap (drop 1) there) are in
    (comma.0, rw (lead.0, found, digits_behind, lead.0, kind, kind_behind, lead.0) comma.1, comma.2)

format_read : (text rest : List ℕ) (format : Option Format) → FormatPart text format rest
    → begins 37 (drop (blanks rest) rest) ≡ false
    → (n : ℕ) × (format_at text ≡ Ok (format, n)) × (drop n text ≡ rest)
unfolding begins_with
format_read text rest None part other =
    let none : begins 37 (drop (blanks text) text) ≡ false =
    subst (λ t. begins 37 (drop (blanks t) t) ≡ false) part other in (0, rw none refl, sym part)
format_read text rest (Some format) part other =
    let a : List ℕ = part.0 in
    let b : List ℕ = part.1 in
    let at : ℕ = blanks text in
    let begin : ℕ = at + 1 + blanks (drop (at + 1) text) in
    let lead : drop at text ≡ 37 ∷ a = blanks_behind text (37 ∷ a) part.3 refl in
    let percent : begins 37 (drop at text) ≡ true = ap (begins 37) lead in
    let here : drop (at + 1) text ≡ a = sym (drop-drop 1 at text) ∙ ap (drop 1) lead in
    let is : IsFmt b format part.2 = part.5 in
    let begun : begins_with is_blank b ≡ false = fmt_begun b part.2 format is in
    let there : drop begin text ≡ b =
    sym (drop-drop (blanks (drop (at + 1) text)) (at + 1) text) ∙ ap (λ s. drop (blanks s) s) here
    ∙ blanks_behind a b part.4 begun in
    let read = fmt_read begin b part.2 rest format is part.6 in (
      begin + read.0,
      rw (percent, there, read.1) refl,
      sym (drop-drop read.0 begin text) ∙ ap (drop read.0) there ∙ read.2,
    )
  where
    fmt_begun : (b c : List ℕ) (format : Format) → IsFmt b format c → begins_with is_blank b ≡ false
    fmt_begun b c format is = ap (begins_with is_blank) is.3 ∙ each format.alternate
      where
        each : (v : Bool) → begins_with is_blank (sharp v ++ (is.0 ++ letter_of format.kind ∷ c)) ≡ false
        each true = refl
        each false = places_begun is_blank is.0 format.digits format.kind c is.1 refl refl refl refl refl

has_colon : (front rest : List ℕ) → list_any (λ b. b == 58) rest ≡ true → list_any (λ b. b == 58) (front ++ rest) ≡ true
has_colon [] rest h = h
has_colon (b ∷ front) rest h = let more = has_colon front rest h in rw more (or_true (b == 58))
  where
    or_true : (v : Bool) → (v || true) ≡ true
    or_true true = refl
    or_true false = refl

word_in_name : (bytes : List ℕ) → is_word bytes ≡ true
    → (begins_with begins_name bytes ≡ true) × (list_all is_in_name bytes ≡ true)
unfolding begins_with
word_in_name [] h = absurd (true≢false (sym h))
word_in_name (b ∷ bytes) h =
    let both = and_parts (begins_name b) (list_all is_in_name bytes) h in
    let in_name : is_in_name b ≡ true = first_in_name b both.0 in
    (both.0, and_from (is_in_name b) _ in_name both.1)
  where
    first_in_name : (b : ℕ) → begins_name b ≡ true → is_in_name b ≡ true
    first_in_name b h = grind (arith, nat_tests)

word_front : (bytes rest : List ℕ) → is_word bytes ≡ true → begins_with begins_name (bytes ++ rest) ≡ true
unfolding begins_with
word_front [] rest h = absurd (true≢false (sym h))
word_front (b ∷ bytes) rest h = (and_parts (begins_name b) (list_all is_in_name bytes) h).0

name_whole : (name rest : List ℕ) → is_name name ≡ true → begins_with is_in_name rest ≡ false
    → name_at (name ++ rest) ≡ Ok (length name)
unfolding begins_with
name_whole [] rest h none = absurd (true≢false (sym h))
name_whole (b ∷ name) rest h none = each (b == 36) refl h
  where
    each : (v : Bool) → (b == 36) ≡ v → (if v then is_word name else is_word (b ∷ name)) ≡ true
        → names.name_behind (if v then 1 else 0) (b ∷ name ++ rest) ≡ Ok (length (b ∷ name))
    each true is h =
        let long : prefix_len is_in_name (name ++ rest) ≡ length name =
        row_length is_in_name name rest (word_in_name name h).1 none in
        let count : 1 + length name ≡ suc (length name) = omega arith in
        let front : begins_with begins_name (name ++ rest) ≡ true = word_front name rest h in
        rw (front, long, count) refl
    each false is h =
        let long : prefix_len is_in_name (b ∷ name ++ rest) ≡ length (b ∷ name) =
        row_length is_in_name (b ∷ name) rest (word_in_name (b ∷ name) h).1 none in
        let front : begins_name b ≡ true = word_front (b ∷ name) rest h in
        let count : 0 + length (b ∷ name) ≡ length (b ∷ name) = omega arith in
        rw (front, long, count) refl

name_read : (at : ℕ) (text rest : List ℕ) (name : Option (List ℕ)) → NamePart text name rest
    → list_any (λ b. b == 58) rest ≡ false
    → (found : Option PlacedName × ℕ) × (name_from at text ≡ Ok found) × (name_of found.0 ≡ name) × (drop found.1 text ≡ rest)
unfolding begins_with
name_read at text rest None part other =
    let none : list_any (λ b. b == 58) text ≡ false = ap (list_any (λ b. b == 58)) (sym part) ∙ other in
    ((None, 0), rw none refl, refl, sym part)
name_read at text rest (Some name) part other =
    let a : List ℕ = part.0 in
    let begin : ℕ = blanks text in
    let long : ℕ = length name in
    let count : ℕ = begin + long + blanks (drop (begin + long) text) in
    let any : list_any (λ b. b == 58) text ≡ true =
    ap (list_any (λ b. b == 58)) part.2.2
    ∙ has_colon part.2.0 (name ++ a) (has_colon name a (ap (list_any (λ b. b == 58)) part.3.2
    ∙ has_colon part.3.0 (58 ∷ rest) refl)) in
    let lead : drop begin text ≡ name ++ a = blanks_behind text (name ++ a) part.2 (name_begun name a part.1).1 in
    let found : name_at (drop begin text) ≡ Ok long =
    ap name_at lead ∙ name_whole name a part.1 (behind_name_none a rest part.3) in
    let here : drop (begin + long) text ≡ a =
    sym (drop-drop long begin text) ∙ ap (drop long) lead ∙ drop-append_seam name a in
    let there : drop count text ≡ 58 ∷ rest =
    sym (drop-drop (blanks (drop (begin + long) text)) (begin + long) text) ∙ ap (λ s. drop (blanks s) s) here
    ∙ blanks_behind a (58 ∷ rest) part.3 refl in
    let colon : begins 58 (drop count text) ≡ true = ap (begins 58) there in (
      (Some (record { at = at + begin; name = take long (drop begin text) }), count + 1),
      rw (any, found, name_behind, colon) refl,
      ap (λ s. Some (take long s)) lead ∙ ap Some (take-append_seam name a),
      sym (drop-drop 1 count text) ∙ ap (drop 1) there,
    )
  where
    behind_name_none : (a rest : List ℕ) → Blanks a (58 ∷ rest) → begins_with is_in_name a ≡ false
    behind_name_none a rest are = ap (begins_with is_in_name) are.2 ∙ each are.0 are.1
      where
        each : (bytes : List ℕ) → list_all is_blank bytes ≡ true → begins_with is_in_name (bytes ++ 58 ∷ rest) ≡ false
        each [] h = refl
        each (b ∷ bytes) h =
            let blank : is_blank b ≡ true = (and_parts (is_blank b) (list_all is_blank bytes) h).0 in grind (arith, nat_tests)

equals_read : (text rest : List ℕ) (equals : Bool) (expr : Option Term) → EqualsPart text equals rest
    → ExprPart rest equals expr → (not (equals_at text == 0) ≡ equals) × (drop (equals_at text) text ≡ rest)
unfolding begins_with
equals_read text rest false expr part said =
    let none : plain.begins_with (drop (blanks text) text) (codes "==") ≡ false = each _ refl in
    rw none (refl, sym part)
  where
    all : list_all clean (drop (blanks text) text) ≡ true
    all = clean_behind (blanks text) text (subst (λ t. list_all clean t ≡ true) part (part_is_clean rest false expr said))

    each : (v : Bool) → plain.begins_with (drop (blanks text) text) (codes "==") ≡ v → v ≡ false
    each false is = refl
    each true is =
        absurd (true≢false (sym (subst (λ t. list_all clean t ≡ true)
        (front_is (codes "==") (drop (blanks text) text) is) all)))
equals_read text rest true expr part said =
    let there : drop (blanks text) text ≡ 61 ∷ 61 ∷ rest = blanks_behind text (61 ∷ 61 ∷ rest) part refl in
    let some : plain.begins_with (drop (blanks text) text) (codes "==") ≡ true =
    ap (λ s. plain.begins_with s (codes "==")) there in
    let count : not (blanks text + 2 == 0) ≡ true = grind (arith, nat_tests) in
    rw (some, count) (refl, sym (drop-drop 2 (blanks text) text) ∙ ap (drop 2) there)

-- an expression has a token, and blanks have none
no_tokens : (wanted : Bool) (at : ℕ) (text : List ℕ) → list_all is_blank text ≡ true
    → all_tokens (tokens_from wanted at 0 text) ≡ Some []
unfolding tokens_from
no_tokens wanted at [] h = refl
no_tokens wanted at (b ∷ text) h =
    let both = and_parts (is_blank b) (list_all is_blank text) h in rw (both.0) (no_tokens wanted (suc at) text both.1)

some_tokens : (s : Sum) (rest : List Token) → [] ≡ tokens s rest → ⊥
some_tokens (one (simple t)) rest h = cc
some_tokens (one (parens s)) rest h = cc
some_tokens (one (call op a b)) rest h = cc
some_tokens (more s op x) rest h = some_tokens s (operator op ∷ operand_tokens x rest) h

expr_read : (format : Option Format) (defines : Option PlacedName) (equals : Bool) (at : ℕ) (text : List ℕ)
    (expr : Option Term) → ExprPart text equals expr
    → block_of (expr_from format defines equals at text)
    ≡ Ok (record { format = format; defines = name_of defines; expr = expr })
unfolding begins_with
expr_read format defines equals at text None said =
    let long : prefix_len is_blank text ≡ length text =
    ap (prefix_len is_blank) (sym (append-nil text)) ∙ row_length is_blank text [] said.1 none in
    let blank : (blanks text == length text) ≡ true = eq-eqb (blanks text) (length text) long in
    rw (blank, said.0) refl
  where
    none : begins_with is_blank [] ≡ false
    none = refl
expr_read format defines equals at text (Some t) said =
    let there : (blanks text == length text) ≡ false = each _ refl in
    let found : Found.outcome (expr_at at text) ≡ Ok t = expressions.complete at text t said in
    rw (there, found) refl
  where
    each : (v : Bool) → (blanks text == length text) ≡ v → v ≡ false
    each false is = refl
    each true is =
        let long : blanks text ≡ length text = eqb-true (blanks text) (length text) is in
        let all : list_all is_blank text ≡ true = subst (λ t. list_all is_blank t ≡ true)
        (ap (λ n. take n text) long ∙ take_all (length text) text (omega arith)) (row_front is_blank text) in
        absurd (some_tokens said.0 [] (same_Some _ _ (sym (no_tokens true 0 text all) ∙ said.1)))

pub complete : (text : List ℕ) (num : Num) → IsNum text num → block_of (reading text) ≡ Ok num
unfolding reading
complete text num is =
    let format = format_read text is.behind_format num.format is.format
    (no_percent is.behind_format is.behind_name is.behind_equals num.defines is.equals num.expr is.name is.equality
    is.expr) in
    let name = name_read format.0 is.behind_format is.behind_name num.defines is.name
    (no_name is.behind_name is.behind_equals is.equals num.expr is.equality is.expr) in
    let equals = equals_read is.behind_name is.behind_equals is.equals num.expr is.equality is.expr in
    let read = expr_read num.format name.0.0 is.equals (format.0 + name.0.1 + equals_at is.behind_name)
    is.behind_equals num.expr is.expr in
    rw (format.1, reading, format.2, name.1, behind_format, format.2, name.3, equals.0, equals.1)
    (read ∙ ap (λ d. Ok (record { format = num.format; defines = d; expr = num.expr })) name.2)
