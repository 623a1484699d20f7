-- What is read of a block is what the productions say: each part that was read is one, with what stands behind it.
-- Where a part is a chain of tests each is taken apart by itself (`kind_sound`, `comma_sound`).
-- The hard one is `format_sound`.
use Rattle.std.proofs.Common.{◌≡◌, ℕ, ◌+◌, ◌≤◌, suc, Bool, true, false, true≢false, not, ◌&&◌, ◌==◌, if◌then◌else◌, nat_le, List, [], ◌∷◌, ◌++◌, length, take, drop, Option, Some, None, Result, Ok, Err, is_ok, refl, sym, ap, ◌∙◌, subst, ◌⊎◌, inl, inr, arith, codes}
use Rattle.std.specs.List.{prefix_len, list_all, list_any}
use Rattle.std.specs.Option.{option_map}
use Rattle.std.specs.Str.Parse.{digits_value}
use Rattle.std.proofs.lemmas.Bool.{eqb-true, and_parts, leb-true, not-true}
use Rattle.std.proofs.lemmas.Bool.Decides.{nat_tests}
use Rattle.std.proofs.lemmas.List.{drop-drop, take-append-drop, take_all}
use Rattle.std.proofs.lemmas.Option.{none-some, same_Some}
use Rattle.ere_tree.specs.Class.{is_blank, is_digit}
use Rattle.ere_tree.specs.Front.{begins, begins_with}
use Rattle.tt_base.specs.Occurrence as plain
use Rattle.num_base.specs.Term.{Term}
use Rattle.num_base.specs.declared.format.Format.{Format}
use Rattle.num_base.specs.declared.format.FormatKind.{FormatKind}
use Rattle.num_base.specs.declared.format.FormatKind.TheVariants.{Unsigned, Signed, LowerHex, UpperHex}
use Rattle.num_exprs.proofs.GrammarLemmas as expressions
use Rattle.num_exprs.specs.Block.{Num, block_of, reading, expr_of, with_expr, expr_from, behind_name, behind_format, equals_at, name_from, name_behind, colon_behind, format_at, percent_at, format_behind, format_from, digits_at, digits_of, kind_behind, kind_at, comma_behind, refused}
use Rattle.num_exprs.specs.Fault.{fault}
use Rattle.num_exprs.specs.Name as names
use Rattle.num_exprs.specs.Name.{begins_name, is_in_name, name_at}
use Rattle.num_exprs.specs.Place.{Found}
use Rattle.num_exprs.specs.Productions.{expr_at}
use Rattle.num_exprs.specs.Token.{blanks}
use Rattle.num_exprs.specs.declared.block.PlacedName.{PlacedName}
use Rattle.num_exprs.specs.declared.fault.NumFault.{NumFault}
use Rattle.num_exprs.specs.declared.fault.NumKind.TheVariants.{BadName, BadFormat, BadExpr}
use Rattle.block_laws.proofs.FrontLemmas.{begins_is, front_is, row_front, blanks_front}
use Rattle.block_laws.specs.Productions.{Blanks, letter_of, is_hex, sharp, ArePlaces, IsFmt, FormatPart, is_word, is_name, NamePart, EqualsPart, ExprPart, IsNum}

pub not_ok : {A E P : Type 0} (e : E) (x : A) → ◌≡◌ {A = Result A E} (Err e) (Ok x) → P
not_ok e x h = absurd (true≢false (sym (ap is_ok h)))

-- one of two was chosen
chosen : {A : Type 0} (b : Bool) (x : A) (o : Option A) (y : A) → (if b then Some x else o) ≡ Some y
    → ((b ≡ true) × (x ≡ y)) ⊎ (o ≡ Some y)
chosen true x o y h = inl (refl, same_Some x y h)
chosen false x o y h = inr h

-- FORMATS

sharp_sound : (text : List ℕ) → text ≡ sharp (begins 35 text) ++ drop (if begins 35 text then 1 else 0) text
sharp_sound text = each (begins 35 text) refl
  where
    each : (b : Bool) → begins 35 text ≡ b → text ≡ sharp b ++ drop (if b then 1 else 0) text
    each true is = begins_is 35 text is
    each false is = refl

abbrev Places : List ℕ → ℕ × ℕ → Type 0
Places text digits = (places : List ℕ) × ArePlaces places digits.0 × (text ≡ places ++ drop digits.1 text)

within : (n taken : ℕ) (digits : ℕ × ℕ) → digits_of n taken ≡ Some digits
    → (1 ≤ n) × (n ≤ 100) × (digits ≡ (n, taken))
within n taken digits h = each (nat_le 1 n) (nat_le n 100) refl refl h
  where
    each : (a b : Bool) → nat_le 1 n ≡ a → nat_le n 100 ≡ b → (if a && b then Some (n, taken) else None) ≡ Some digits
        → (1 ≤ n) × (n ≤ 100) × (digits ≡ (n, taken))
    each true true low high h = (leb-true 1 n low, leb-true n 100 high, sym (same_Some _ _ h))
    each true false low high h = absurd (none-some _ h)
    each false b low high h = absurd (none-some _ h)

places_sound : (text : List ℕ) (digits : ℕ × ℕ) → digits_at text ≡ Some digits → Places text digits
places_sound text digits = each (begins 46 text) refl
  where
    k : ℕ
    k = prefix_len is_digit (drop 1 text)

    n : ℕ
    n = digits_value 10 (take k (drop 1 text))

    each : (b : Bool) → begins 46 text ≡ b → (if b then digits_of n (k + 1) else Some (0, 0)) ≡ Some digits
        → Places text digits
    each false is h = subst (Places text) (same_Some _ _ h) ([], refl, refl)
    each true is h =
        let fits = within n (k + 1) digits h in
        let all : text ≡ 46 ∷ (take k (drop 1 text) ++ drop (k + 1) text) =
        begins_is 46 text is ∙ ap (λ r. 46 ∷ r) (sym (take-append-drop k (drop 1 text))
        ∙ ap (λ r. take k (drop 1 text) ++ r) (drop-drop k 1 text ∙ ap (λ m. drop m text) (omega arith))) in
        subst (Places text) (sym fits.2)
        (46 ∷ take k (drop 1 text), (refl, row_front is_digit (drop 1 text), refl, fits.0, fits.1), all)

kind_sound : (alternate : Bool) (text : List ℕ) (kind : FormatKind) → kind_at alternate text ≡ Some kind
    → (text ≡ letter_of kind ∷ drop 1 text) × (alternate ≡ true → is_hex kind ≡ true)
kind_sound alternate text kind h = elim (chosen (begins 117 text && not alternate) _ _ kind h) [
  | inl u ↦ plain 117 Unsigned refl u
  | inr h ↦ elim (chosen (begins 100 text && not alternate) _ _ kind h) [
    | inl d ↦ plain 100 Signed refl d
    | inr h ↦ elim (chosen (begins 120 text) _ _ kind h) [
      | inl x ↦ hex LowerHex refl x
      | inr h ↦ elim (chosen (begins 88 text) _ _ kind h) [
        | inl x ↦ hex UpperHex refl x
        | inr h ↦ absurd (none-some kind h)
      ]
    ]
  ]
]
  where
    Goal : Type 0
    Goal = (text ≡ letter_of kind ∷ drop 1 text) × (alternate ≡ true → is_hex kind ≡ true)

    plain : (b : ℕ) (k : FormatKind) → letter_of k ≡ b → ((begins b text && not alternate) ≡ true) × (k ≡ kind) → Goal
    plain b k letter h =
        let both = and_parts (begins b text) (not alternate) h.0 in (
          begins_is b text both.0 ∙ ap (λ n. n ∷ drop 1 text) (sym letter ∙ ap letter_of h.1),
          λ yes. absurd (true≢false (sym yes ∙ not-true alternate both.1)),
        )

    hex : (k : FormatKind) → is_hex k ≡ true → (begins (letter_of k) text ≡ true) × (k ≡ kind) → Goal
    hex k is h =
        (begins_is (letter_of k) text h.0 ∙ ap (λ n. n ∷ drop 1 text) (ap letter_of h.1), λ yes. sym (ap is_hex h.1) ∙ is)

comma_sound : (format : Format) (at taken : ℕ) (text : List ℕ) (found : Option Format × ℕ)
    → comma_behind format at taken text ≡ Ok found
    → (found.0 ≡ Some format) × Blanks (drop taken text) (44 ∷ drop found.1 text)
comma_sound format at taken text found = each (begins 44 (drop count text)) refl
  where
    count : ℕ
    count = taken + blanks (drop taken text)

    each : (b : Bool) → begins 44 (drop count text) ≡ b
        → (if b then Ok (Some format, count + 1) else fault BadFormat (at + count)) ≡ Ok found
        → (found.0 ≡ Some format) × Blanks (drop taken text) (44 ∷ drop found.1 text)
    each false is h = not_ok _ found h
    each true is h =
        let same : (Some format, count + 1) ≡ found = cc in
        let there : drop (blanks (drop taken text)) (drop taken text) ≡ 44 ∷ drop found.1 text =
        drop-drop (blanks (drop taken text)) taken text ∙ begins_is 44 (drop count text) is
        ∙ ap (λ r. 44 ∷ r) (drop-drop 1 count text ∙ ap (λ p. drop p.1 text) same) in
        (sym (ap (λ p. p.0) same), subst (Blanks (drop taken text)) there (blanks_front (drop taken text)))

-- a format was read, with the comma behind it
abbrev FormatRead : List ℕ → Option Format × ℕ → Type 0
FormatRead text found = (format : Format) × (c : List ℕ) × (found.0 ≡ Some format) × IsFmt text format c
    × Blanks c (44 ∷ drop found.1 text)

fmt_sound : (at : ℕ) (text : List ℕ) (found : Option Format × ℕ) → format_from at text ≡ Ok found
    → FormatRead text found
fmt_sound at text found h = each_digits (digits_at (drop first text)) refl h
  where
    alternate : Bool
    alternate = begins 35 text

    first : ℕ
    first = if alternate then 1 else 0

    each_kind : (digits : ℕ × ℕ) → Places (drop first text) digits → (o : Option FormatKind)
        → kind_at alternate (drop (first + digits.1) text) ≡ o
        → ◌≡◌ {A = Result (Option Format × ℕ) NumFault} (elim o [
          | None ↦ fault BadFormat (at + (first + digits.1))
          | Some kind ↦ comma_behind (record { kind = kind; alternate = alternate; digits = digits.0 }) at
              (first + digits.1 + 1) text
        ]) (Ok found) → FormatRead text found
    each_kind digits places None is h = not_ok _ found h
    each_kind digits places (Some kind) is h =
        let letter = kind_sound alternate (drop (first + digits.1) text) kind is in
        let comma = comma_sound _ at (first + digits.1 + 1) text found h in (
          record { kind = kind; alternate = alternate; digits = digits.0 },
          drop (first + digits.1 + 1) text,
          comma.0,
          (
            places.0,
            places.1,
            letter.1,
            sharp_sound text ∙ ap (λ r. sharp alternate ++ r) (places.2
                ∙ ap (λ r. places.0 ++ r) (drop-drop digits.1 first text ∙ letter.0
                ∙ ap (λ r. letter_of kind ∷ r) (drop-drop 1 (first + digits.1) text))),
          ),
          comma.1,
        )

    each_digits : (o : Option (ℕ × ℕ)) → digits_at (drop first text) ≡ o
        → ◌≡◌ {A = Result (Option Format × ℕ) NumFault} (elim o [
          | None ↦ fault BadFormat (at + first + 1)
          | Some digits ↦ kind_behind alternate digits.0 at (first + digits.1) text
        ]) (Ok found) → FormatRead text found
    each_digits None is h = not_ok _ found h
    each_digits (Some digits) is h =
        each_kind digits (places_sound (drop first text) digits is)
        (kind_at alternate (drop (first + digits.1) text)) refl h

format_sound : (text : List ℕ) (found : Option Format × ℕ) → format_at text ≡ Ok found
    → FormatPart text found.0 (drop found.1 text)
format_sound text found = each (begins 37 (drop at text)) refl
  where
    at : ℕ
    at = blanks text

    a : List ℕ
    a = drop (at + 1) text

    begin : ℕ
    begin = at + 1 + blanks a

    Goal : Option Format × ℕ → Type 0
    Goal found = FormatPart text found.0 (drop found.1 text)

    percent : drop at text ≡ 37 ∷ a → (r : Result (Option Format × ℕ) NumFault)
        → format_from begin (drop begin text) ≡ r → format_behind begin r ≡ Ok found → Goal found
    percent there (Err e) is h = not_ok _ found h
    percent there (Ok p) is h =
        let same : (p.0, begin + p.1) ≡ found = cc in
        let read = fmt_sound begin (drop begin text) p is in
        let rest : drop p.1 (drop begin text) ≡ drop (begin + p.1) text = drop-drop p.1 begin text in
        subst Goal (ap (λ o. (o, begin + p.1)) (sym read.2) ∙ same) (
          a,
          drop begin text,
          read.1,
          subst (Blanks text) there (blanks_front text),
          subst (Blanks a) (drop-drop (blanks a) (at + 1) text) (blanks_front a),
          read.3,
          subst (λ r. Blanks read.1 (44 ∷ r)) rest read.4,
        )

    each : (b : Bool) → begins 37 (drop at text) ≡ b → (if b then percent_at at text else Ok (None, 0)) ≡ Ok found
        → Goal found
    each false is h =
        let same : (None, 0) ≡ found = cc in subst Goal same refl
    each true is h =
        percent (begins_is 37 (drop at text) is ∙ ap (λ r. 37 ∷ r) (drop-drop 1 at text))
        (format_from begin (drop begin text)) refl h

-- NAMES

word_sound : (text : List ℕ) → begins_with begins_name text ≡ true
    → is_word (take (prefix_len is_in_name text) text) ≡ true
unfolding begins_with
word_sound [] h = absurd (true≢false (sym h))
word_sound (b ∷ text) h =
    let in_name : is_in_name b ≡ true = grind (arith, nat_tests) in
    let one : 1 + prefix_len is_in_name text ≡ suc (prefix_len is_in_name text) = omega arith in
    rw (in_name, one, h) (row_front is_in_name text)

pub name_sound : (text : List ℕ) (long : ℕ) → name_at text ≡ Ok long → is_name (take long text) ≡ true
unfolding begins_with
name_sound [] long h = not_ok _ long h
name_sound (b ∷ text) long h = each (b == 36) refl h
  where
    k : ℕ
    k = prefix_len is_in_name text

    sign : b ≡ 36 → (v : Bool) → begins_with begins_name text ≡ v → ◌≡◌ {A = Result ℕ ℕ} (if v then Ok (1 + k) else Err 1) (Ok long)
        → is_name (take long (b ∷ text)) ≡ true
    sign is false word h = not_ok _ long h
    sign is true word h =
        let same : long ≡ suc k = grind arith in rw (same, is) (word_sound text word)

    none : (b == 36) ≡ false → (v : Bool) → begins_name b ≡ v
        → ◌≡◌ {A = Result ℕ ℕ} (if v then Ok (0 + prefix_len is_in_name (b ∷ text)) else Err 0) (Ok long)
        → is_name (take long (b ∷ text)) ≡ true
    none is false word h = not_ok _ long h
    none is true word h =
        let in_name : is_in_name b ≡ true = grind (arith, nat_tests) in
        let same : long ≡ suc k = grind (arith, nat_tests) in
        rw (same, is, word) (row_front is_in_name text)

    each : (v : Bool) → (b == 36) ≡ v → names.name_behind (if v then 1 else 0) (b ∷ text) ≡ Ok long
        → is_name (take long (b ∷ text)) ≡ true
    each true is h = sign (eqb-true b 36 is) (begins_with begins_name text) refl h
    each false is h = none is (begins_name b) refl h

abbrev pub name_of : Option PlacedName → Option (List ℕ)
name_of named = option_map (λ (named : PlacedName). named.name) named

name_part : (at : ℕ) (text : List ℕ) (found : Option PlacedName × ℕ) → name_from at text ≡ Ok found
    → NamePart text (name_of found.0) (drop found.1 text)
name_part at text found = each (list_any (λ b. b == 58) text) refl
  where
    begin : ℕ
    begin = blanks text

    Goal : Option PlacedName × ℕ → Type 0
    Goal found = NamePart text (name_of found.0) (drop found.1 text)

    colon : (long : ℕ) → is_name (take long (drop begin text)) ≡ true → (v : Bool)
        → begins 58 (drop (begin + long + blanks (drop (begin + long) text)) text) ≡ v
        → (if v then Ok (
          Some (record { at = at + begin; name = take long (drop begin text) }),
          begin + long + blanks (drop (begin + long) text) + 1,
        )
        else fault BadName (at + (begin + long + blanks (drop (begin + long) text)))) ≡ Ok found → Goal found
    colon long word false is h = not_ok _ found h
    colon long word true is h =
        let same : (
          Some (record { at = at + begin; name = take long (drop begin text) }),
          begin + long + blanks (drop (begin + long) text) + 1,
        ) ≡ found = cc in
        subst Goal same (
          drop (begin + long) text,
          word,
          subst (Blanks text) (sym (take-append-drop long (drop begin text))
              ∙ ap (λ r. take long (drop begin text) ++ r) (drop-drop long begin text)) (blanks_front text),
          subst (Blanks (drop (begin + long) text))
              (drop-drop (blanks (drop (begin + long) text)) (begin + long) text
              ∙ begins_is 58 _ is
              ∙ ap (λ r. 58 ∷ r) (drop-drop 1 (begin + long + blanks (drop (begin + long) text)) text))
              (blanks_front (drop (begin + long) text)),
        )

    word : (r : Result ℕ ℕ) → name_at (drop begin text) ≡ r
        → ◌≡◌ {A = Result (Option PlacedName × ℕ) NumFault} (elim r [
          | Ok long ↦ colon_behind at begin long text
          | Err behind ↦ fault BadName (at + begin + behind)
        ]) (Ok found) → Goal found
    word (Err behind) is h = not_ok _ found h
    word (Ok long) is h =
        colon long (name_sound (drop begin text) long is)
        (begins 58 (drop (begin + long + blanks (drop (begin + long) text)) text)) refl h

    each : (v : Bool) → list_any (λ b. b == 58) text ≡ v → (if v then name_behind at begin text else Ok (None, 0)) ≡ Ok found
        → Goal found
    each false is h = let same : (None, 0) ≡ found = cc in subst Goal same refl
    each true is h = word (name_at (drop begin text)) refl h

-- EXPRESSIONS

equals_part : (text : List ℕ) → EqualsPart text (not (equals_at text == 0)) (drop (equals_at text) text)
equals_part text = each (plain.begins_with (drop (blanks text) text) (codes "==")) refl
  where
    each : (v : Bool) → plain.begins_with (drop (blanks text) text) (codes "==") ≡ v
        → EqualsPart text (not ((if v then blanks text + 2 else 0) == 0)) (drop (if v then blanks text + 2 else 0) text)
    each false is = refl
    each true is =
        let some : not (blanks text + 2 == 0) ≡ true = grind (arith, nat_tests) in
        rw some (subst (Blanks text)
        (front_is (codes "==") _ is ∙ ap (λ r. 61 ∷ 61 ∷ r) (drop-drop 2 (blanks text) text)) (blanks_front text))

abbrev IsRead : Option Format → Option PlacedName → Bool → List ℕ → Num → Type 0
IsRead format defines equals text num =
    (num.format ≡ format) × (num.defines ≡ name_of defines) × ExprPart text equals num.expr

expr_part : (format : Option Format) (defines : Option PlacedName) (equals : Bool) (at : ℕ) (text : List ℕ) (num : Num)
    → block_of (expr_from format defines equals at text) ≡ Ok num → IsRead format defines equals text num
expr_part format defines equals at text num = each (blanks text == length text) refl
  where
    nothing : list_all is_blank text ≡ true → (b : Bool)
        → block_of (if b then refused format defines (record { at = at + length text; kind = BadExpr })
        else record { format = format; defines = defines; uses = []; expr = Ok None }) ≡ Ok num
        → IsRead format defines b text num
    nothing all true h = not_ok _ num h
    nothing all false h =
        let same : record { format = format; defines = name_of defines; expr = None } ≡ num = cc in
        subst (IsRead format defines false text) same (refl, refl, (refl, all))

    outcome : (r : Result Term ℕ) → Found.outcome (expr_at at text) ≡ r
        → block_of (record { format = format; defines = defines; uses = Found.uses (expr_at at text); expr = expr_of r })
        ≡ Ok num → IsRead format defines equals text num
    outcome (Err e) is h = not_ok _ num h
    outcome (Ok t) is h =
        let same : record { format = format; defines = name_of defines; expr = Some t } ≡ num = cc in
        subst (IsRead format defines equals text) same (refl, refl, expressions.sound at text t is)

    each : (v : Bool) → (blanks text == length text) ≡ v
        → block_of (if v then (if equals then refused format defines (record { at = at + length text; kind = BadExpr })
        else record { format = format; defines = defines; uses = []; expr = Ok None })
        else with_expr format defines (expr_at at text)) ≡ Ok num → IsRead format defines equals text num
    each false is h = outcome (Found.outcome (expr_at at text)) refl h
    each true is h =
        let long : blanks text ≡ length text = eqb-true (blanks text) (length text) is in
        let all : list_all is_blank text ≡ true =
        subst (λ t. list_all is_blank t ≡ true) (ap (λ n. take n text) long ∙ take_all (length text) text (omega arith))
        (row_front is_blank text) in
        nothing all equals h

pub sound : (text : List ℕ) (num : Num) → block_of (reading text) ≡ Ok num → IsNum text num
unfolding reading
sound text num = format (format_at text) refl
  where
    name : (f : Option Format × ℕ) → FormatPart text f.0 (drop f.1 text)
        → (r : Result (Option PlacedName × ℕ) NumFault) → name_from f.1 (drop f.1 text) ≡ r
        → block_of (elim r [
          | Ok found ↦ behind_name f.0 found.0 (f.1 + found.1) (drop found.1 (drop f.1 text))
          | Err fault ↦ refused f.0 None fault
        ]) ≡ Ok num → IsNum text num
    name f first (Err e) is h = not_ok _ num h
    name f first (Ok n) is h =
        let s : List ℕ = drop n.1 (drop f.1 text) in
        let read = expr_part f.0 n.0 (not (equals_at s == 0)) (f.1 + n.1 + equals_at s) (drop (equals_at s) s) num h in
        record {
          behind_format = drop f.1 text;
          behind_name = s;
          behind_equals = drop (equals_at s) s;
          equals = not (equals_at s == 0);
          format = subst (λ o. FormatPart text o (drop f.1 text)) (sym read.0) first;
          name = subst (λ o. NamePart (drop f.1 text) o s) (sym read.1) (name_part f.1 (drop f.1 text) n is);
          equality = equals_part s;
          expr = read.2;
        }

    format : (r : Result (Option Format × ℕ) NumFault) → format_at text ≡ r
        → block_of (elim r [
          | Ok found ↦ behind_format found.0 found.1 (drop found.1 text)
          | Err fault ↦ refused None None fault
        ]) ≡ Ok num → IsNum text num
    format (Err e) is h = not_ok _ num h
    format (Ok f) is h = name f (format_sound text f is) (name_from f.1 (drop f.1 text)) refl h
