-- A text is the lines of another exactly where their lines that count are the same.
-- A text is cut at its first newline (`first_cut`); by the list of its parts it is the text of its lines that count
-- (`own_lines`). The other way round a text of lines has these lines, where they hold no newline and the last isn't empty.
use Rattle.std.proofs.Common.{◌≡◌, ◌⊎◌, ℕ, Bool, true, false, List, [], ◌∷◌, ◌++◌, length, append-nil, refl, sym, ap, ◌∙◌, subst, inl, inr, arith}
use Rattle.std.proofs.lemmas.Bool.Decides.{nat_tests}
use Rattle.std.proofs.lemmas.List.Splits.{length-slice_split, slice_split-cons_yes, slice_split-cons_no}
use Rattle.std.specs.List.{slice_split, onto_first}
use Rattle.line_laws.specs.Left.{AreNewlines}
use Rattle.line_laws.specs.Lines.{Follow, IsTextOf, SameLines, counting, line_before, lines_of}
use Rattle.line_laws.specs.Steps.{EndsLine}
use Rattle.tt_base.specs.Place.{is_newline}

is_ten : (b : ℕ) → is_newline b ≡ true → b ≡ 10
is_ten b e = grind (arith, nat_tests, e)

-- a text holds no newline
abbrev pub HasNone : List ℕ → Type 0
HasNone [] = Unit {0}
HasNone (b ∷ text) = (is_newline b ≡ false) × HasNone text

-- a text is a part without a newline, and behind it stands nothing, or a newline and the text of the other parts
record Cuts (text first : List ℕ) (others : List (List ℕ)) : Type 0 where
  plain : HasNone first
  rest : ((others ≡ []) × (text ≡ first)) ⊎ ((behind : List ℕ) × (text ≡ first ++ 10 ∷ behind) × (slice_split is_newline behind ≡ others))

same_cons : (x y : List ℕ) (xs ys : List (List ℕ)) → x ∷ xs ≡ y ∷ ys → (x ≡ y) × (xs ≡ ys)
same_cons x y xs ys e = search (e)

some_part : (text : List ℕ) → slice_split is_newline text ≡ [] → ⊥
some_part text e =
    let none : length (slice_split is_newline text) ≡ 0 = ap length e in
    let no : ⊥ = omega (arith, none, length-slice_split is_newline text) in no

-- the parts behind a byte that is no newline
behind_byte : (b : ℕ) (text : List ℕ) (parts : List (List ℕ)) (first : List ℕ) (others : List (List ℕ))
    → is_newline b ≡ false → slice_split is_newline text ≡ parts
    → ((first : List ℕ) (others : List (List ℕ)) → slice_split is_newline text ≡ first ∷ others → Cuts text first others)
    → onto_first b parts ≡ first ∷ others → Cuts (b ∷ text) first others
behind_byte b text [] first others other is more e = absurd (some_part text is)
behind_byte b text (part ∷ parts) first others other is more e =
    let same = same_cons (b ∷ part) first parts others e in
    let cut = more part parts is in
    subst (λ f. Cuts (b ∷ text) f others) same.0 (subst (λ o. Cuts (b ∷ text) (b ∷ part) o) same.1 (record {
      plain = (other, cut.plain);
      rest = elim cut.rest [
        | inl h ↦ inl (h.0, ap (λ l. b ∷ l) h.1)
        | inr h ↦ inr (h.0, ap (λ l. b ∷ l) h.1, h.2)
      ];
    }))

cut_by : (b : ℕ) (text first : List ℕ) (others : List (List ℕ)) (yes : Bool) → is_newline b ≡ yes
    → ((first : List ℕ) (others : List (List ℕ)) → slice_split is_newline text ≡ first ∷ others → Cuts text first others)
    → slice_split is_newline (b ∷ text) ≡ first ∷ others → Cuts (b ∷ text) first others
cut_by b text first others true is more e =
    let same = same_cons [] first (slice_split is_newline text) others (sym (slice_split-cons_yes is_newline b text is) ∙ e) in
    subst (λ f. Cuts (b ∷ text) f others) same.0
    (record { plain = tt; rest = inr (text, ap (λ x. x ∷ text) (is_ten b is), same.1) })
cut_by b text first others false is more e =
    behind_byte b text (slice_split is_newline text) first others is refl more
    (sym (slice_split-cons_no is_newline b text is) ∙ e)

first_cut : (text first : List ℕ) (others : List (List ℕ)) → slice_split is_newline text ≡ first ∷ others → Cuts text first others
first_cut [] first others e =
    let same = same_cons [] first [] others e in
    subst (λ f. Cuts [] f others) same.0 (record { plain = tt; rest = inl (sym same.1, refl) })
first_cut (b ∷ text) first others e = cut_by b text first others (is_newline b) refl (first_cut text) e

-- ---- a text is the text of its lines

alone : (first text : List ℕ) → text ≡ first → IsTextOf (line_before first []) text
alone [] text e = subst AreNewlines (sym e) tt
alone (b ∷ first) text e = ([], e ∙ sym (append-nil (b ∷ first)), tt, (tt, tt))

before : (first : List ℕ) (lines : List (List ℕ)) (behind text : List ℕ) → text ≡ first ++ 10 ∷ behind
    → IsTextOf lines behind → IsTextOf (line_before first lines) text
before [] [] behind text e h = subst AreNewlines (sym e) (refl, h)
before [] (line ∷ lines) behind text e h = (10 ∷ behind, e, refl, (h.0, (ap (λ l. 10 ∷ l) h.1, h.2), h.3))
before (b ∷ first) [] behind text e h = (10 ∷ behind, e, refl, (refl, (refl, h)))
before (b ∷ first) (line ∷ lines) behind text e h = (10 ∷ behind, e, refl, (h.0, (ap (λ l. 10 ∷ l) h.1, h.2), h.3))

own_lines : (parts : List (List ℕ)) (text : List ℕ) → slice_split is_newline text ≡ parts → IsTextOf (counting parts) text
own_lines [] text e = absurd (some_part text e)
own_lines (first ∷ others) text e = elim (first_cut text first others e).rest [
  | inl h ↦ subst (λ o. IsTextOf (line_before first (counting o)) text) (sym h.0) (alone first text h.1)
  | inr h ↦ before first (counting others) h.0 text h.1 (own_lines others h.0 h.2)
]

-- ---- a text of lines has these lines

-- lines hold no newline, and the last isn't empty
abbrev ArePlain : List (List ℕ) → Type 0
ArePlain [] = Unit {0}
ArePlain (line ∷ lines) = HasNone line × ArePlain lines

abbrev pub AreGood : List (List ℕ) → Type 0
AreGood [] = Unit {0}
AreGood (line ∷ lines) = HasNone line × (line_before line lines ≡ line ∷ lines) × AreGood lines

parts_plain : (parts : List (List ℕ)) (text : List ℕ) → slice_split is_newline text ≡ parts → ArePlain parts
parts_plain [] text e = tt
parts_plain (first ∷ others) text e =
    let cut = first_cut text first others e in (
      cut.plain,
      elim cut.rest [
        | inl h ↦ subst ArePlain (sym h.0) tt
        | inr h ↦ parts_plain others h.0 h.2
      ],
    )

good_before : (line : List ℕ) (lines : List (List ℕ)) → HasNone line → AreGood lines → AreGood (line_before line lines)
good_before [] [] plain good = tt
good_before [] (line ∷ lines) plain good = (plain, refl, good)
good_before (b ∷ line) lines plain good = (plain, refl, good)

counting_good : (parts : List (List ℕ)) → ArePlain parts → AreGood (counting parts)
counting_good [] plain = tt
counting_good (first ∷ others) plain = good_before first (counting others) plain.0 (counting_good others plain.1)

-- the lines behind a line's end
abbrev behind_lines : List ℕ → List (List ℕ)
behind_lines [] = []
behind_lines (b ∷ rest) = lines_of rest

plain_split : (line : List ℕ) → HasNone line → slice_split is_newline line ≡ line ∷ []
plain_split [] plain = refl
plain_split (b ∷ line) plain =
    slice_split-cons_no is_newline b line plain.0 ∙ ap (onto_first b) (plain_split line plain.1)

plain_split_at : (line rest : List ℕ) → HasNone line
    → slice_split is_newline (line ++ 10 ∷ rest) ≡ line ∷ slice_split is_newline rest
plain_split_at [] rest plain = slice_split-cons_yes is_newline 10 rest refl
plain_split_at (b ∷ line) rest plain =
    slice_split-cons_no is_newline b (line ++ 10 ∷ rest) plain.0 ∙ ap (onto_first b) (plain_split_at line rest plain.1)

line_then : (line behind : List ℕ) → HasNone line → EndsLine behind
    → lines_of (line ++ behind) ≡ line_before line (behind_lines behind)
line_then line [] plain ends =
    ap (λ l. counting (slice_split is_newline l)) (append-nil line) ∙ ap counting (plain_split line plain)
line_then line (b ∷ rest) plain ends =
    ap (λ x. lines_of (line ++ x ∷ rest)) ends ∙ ap counting (plain_split_at line rest plain)

newlines_none : (text : List ℕ) → AreNewlines text → lines_of text ≡ []
newlines_none [] are = refl
newlines_none (b ∷ text) are =
    ap (λ x. lines_of (x ∷ text)) are.0 ∙ ap counting (slice_split-cons_yes is_newline 10 text refl)
    ∙ ap (line_before []) (newlines_none text are.1)

follow_lines : (lines : List (List ℕ)) (rest : List ℕ) → AreGood lines → Follow lines rest → behind_lines rest ≡ lines
follow_lines [] [] good h = refl
follow_lines [] (b ∷ rest) good h = newlines_none rest h.1.1
follow_lines (line ∷ lines) rest good h =
    ap behind_lines h.1.0 ∙ line_then line h.0 good.0 h.1.1 ∙ ap (line_before line) (follow_lines lines h.0 good.2 h.2)
    ∙ good.1

text_lines : (lines : List (List ℕ)) (text : List ℕ) → AreGood lines → IsTextOf lines text → lines_of text ≡ lines
text_lines [] text good h = newlines_none text h
text_lines (line ∷ lines) text good h =
    ap lines_of h.1 ∙ line_then line h.0 good.0 h.2 ∙ ap (line_before line) (follow_lines lines h.0 good.2 h.3) ∙ good.1

pub good_lines : (text : List ℕ) → AreGood (lines_of text)
good_lines text = counting_good _ (parts_plain _ text refl)

pub same_lines : SameLines
same_lines text other = (
  text_lines (lines_of text) other (good_lines text),
  λ e. subst (λ l. IsTextOf l other) e (own_lines _ other refl),
)
