-- The pieces of a body can be searched for. The numbers in an expression are at most its length (`ere_within`), so those
-- of all pieces, with two more for each, are at most twice the body's length. The hard lemma is `cut_rooms`: the pieces,
-- with what encloses them, are no longer than the body.
use Rattle.std.proofs.Common.{◌≡◌, ℕ, ◌+◌, ◌*◌, ◌^◌, ◌<◌, ◌≤◌, Bool, true, false, ◌==◌, nat_lt, cond, List, [], ◌∷◌, Option, Some, None, Result, Ok, Err, length, drop, take, length-append, refl, sym, ap, subst, ◌∙◌, arith}
use Rattle.std.specs.Bool.{MatchBool}
use Rattle.std.specs.List.{prefix_len, sum_by}
use Rattle.std.specs.Prelude.{All, codes, ℤ}
use Rattle.std.proofs.lemmas.Bool.Decides.{nat_tests}
use Rattle.std.proofs.lemmas.List.{length-drop}
use Rattle.std.proofs.lemmas.List.Elements.{All-cons, All-nil}
use Rattle.std.proofs.lemmas.List.Sums.{sum_by-append}
use Rattle.tt_base.specs.Occurrence.{begins_with}
use Rattle.ere_tree.specs.Class.{is_digit}
use Rattle.ere_tree.specs.Front.{begins}
use Rattle.ere_tree.specs.Tree.{Tree}
use Rattle.ere_tree.specs.Grammar as ere
use Rattle.ere_tree.specs.Grammar.{sized, tree_read}
use Rattle.ere_tree.specs.Fault.{fault}
use Rattle.ere_tree.specs.declared.fault.EreFault.{EreFault}
use Rattle.ere_tree.specs.declared.fault.EreKind.TheVariants.{TooLarge}
use Rattle.ere_tree.proofs.SoundLemmas.{read_grammar}
use Rattle.num_base.specs.declared.expr.Op.{Op}
use Rattle.num_base.specs.declared.expr.Op.TheVariants.{Add, Sub}
use Rattle.num_base.specs.declared.format.Format.{Format}
use Rattle.num_base.specs.Names.{name_cmp}
use Rattle.num_base.specs.Term.{Term, binary, line, literal}
use Rattle.num_exprs.specs.declared.fault.NumFault.{NumFault}
use Rattle.std.specs.FinMap.{FinMap}
use Rattle.std.specs.Prelude.{is_some}
use Rattle.num_exprs.specs.Block.{Reading, reading}
use Rattle.num_exprs.specs.Name.{name_at}
use Rattle.pattern_parse.specs.Block.{Said, and_said, decimal, is_used, line_number, uses_read, with_own, with_recall, behind_line, behind_name, block_number, block_read, defined_as, line_digits, line_read, number_of, text_read}
use Rattle.pattern_parse.specs.Cut.{Inside, written, Raw, text, regex, block, Ending, IsRun, IsUpToEnd, IsBlock, IsCut}
use Rattle.pattern_parse.specs.Item.{Item, refused}
use Rattle.pattern_parse.specs.Item as item
use Rattle.pattern_parse.specs.Demand.{is_label}
use Rattle.pattern_parse.specs.Pieces.{IsPieces, and_items, behind_raw, ended, is_plain, items_behind, items_from, nothing_said, raw_read, regex_read, unless_refused}
use Rattle.pattern_parse.specs.Search.{HasNumbers, IsSearchable, greatest_of}
use Rattle.pattern_parse.specs.declared.fault.PatFault.{PatFault}
use Rattle.pattern_parse.specs.declared.fault.PatKind.TheVariants.{BadExpr, BadName, TooLong, VariableInLabel}
use Rattle.pattern_parse.specs.declared.pattern.BodyRules.{BodyRules}
use Rattle.pattern_parse.proofs.CutLemmas.{written_front}
use Rattle.pattern_parse.proofs.NumberLemmas.{IsWithin, ere_within, within_numbered}

-- a piece whose numbers are at most this
abbrev Fits : ℕ → Item → Type 0
Fits n one = HasNumbers one × (greatest_of one ≤ n)

abbrev OneFits : ℕ → Result Item PatFault → Type 0
OneFits n (Ok one) = Fits n one
OneFits n (Err refusal) = Unit {0}

abbrev NextFits : ℕ → Result (Item × Said) PatFault → Type 0
NextFits n (Ok found) = Fits n found.0
NextFits n (Err refusal) = Unit {0}

abbrev TreeFits : ℕ → Result Tree EreFault → Type 0
TreeFits n (Ok tree) = IsWithin n tree
TreeFits n (Err refusal) = Unit {0}

-- EXPRESSIONS

sized_fits : (n : ℕ) (v : Bool) (tree : Tree) → IsWithin n tree
    → TreeFits n (cond v (Ok tree) (fault 0 TooLarge))
sized_fits n true tree w = w
sized_fits n false tree w = tt

tree_fits : (fold : Bool) (bytes : List ℕ) (read : Result Tree EreFault) → tree_read fold bytes ≡ read
    → TreeFits (length bytes) (sized read)
tree_fits fold bytes (Ok tree) is = sized_fits (length bytes) _ tree (ere_within fold bytes tree (read_grammar fold bytes tree is))
tree_fits fold bytes (Err refusal) is = tt

reading_fits : (fold : Bool) (bytes : List ℕ) → TreeFits (length bytes) (ere.reading fold bytes)
unfolding ere.reading
reading_fits fold bytes = tree_fits fold bytes (tree_read fold bytes) refl

-- PIECES

regex_fits : (n at : ℕ) (read : Result Tree EreFault) → TreeFits n read → OneFits n (regex_read at read)
regex_fits n at (Ok tree) w = within_numbered n tree w
regex_fits n at (Err refusal) w = tt

said_fits : (n : ℕ) (said : Said) (read : Result Item PatFault) → OneFits n read → NextFits n (and_said said read)
said_fits n said (Ok one) w = w
said_fits n said (Err refusal) w = tt

chosen_fits : (n : ℕ) (v : Bool) (r s : Result (Item × Said) PatFault) → NextFits n r → NextFits n s
    → NextFits n (cond v r s)
chosen_fits n true r s w x = w
chosen_fits n false r s w x = x

one_chosen : (n : ℕ) (v : Bool) (r s : Result Item PatFault) → OneFits n r → OneFits n s
    → OneFits n (cond v r s)
one_chosen n true r s w x = w
one_chosen n false r s w x = x

define_fits : (n m at : ℕ) (name : List ℕ) (said : Said) (read : Result Tree EreFault) → m ≤ n → TreeFits m read
    → NextFits n (defined_as name said at read)
define_fits n m at name said (Ok tree) low w =
    let found = within_numbered m tree w in (found.0, omega (arith, low, found.1))
define_fits n m at name said (Err refusal) low w = tt

name_fits : (fold : Bool) (said : Said) (at long : ℕ) (bytes : List ℕ)
    → NextFits (length bytes) (behind_name fold said at long bytes)
name_fits fold said at long bytes =
    let rest : List ℕ = drop (long + 1) bytes in
    let defined : Result (Item × Said) PatFault =
    defined_as (take long bytes) said (at + long + 1) (ere.reading fold rest) in
    let refusal : Result (Item × Said) PatFault = refused BadName (at + long) in
    chosen_fits (length bytes) (length bytes == long)
    (Ok (item.recall (take long bytes), with_recall (take long bytes) said))
    (cond (begins 58 (drop long bytes)) defined refusal) (tt, omega arith)
    (chosen_fits (length bytes) (begins 58 (drop long bytes)) defined refusal
    (define_fits (length bytes) (length rest) (at + long + 1) (take long bytes) said (ere.reading fold rest)
    (omega (arith, length-drop (long + 1) bytes)) (reading_fits fold rest)) tt)

text_named : (fold : Bool) (said : Said) (at long : ℕ) (bytes : List ℕ) → name_at bytes ≡ Ok long
    → text_read fold said at bytes ≡ behind_name fold said at long bytes
text_named fold said at long bytes is = rw (text_read, is) refl

text_unnamed : (fold : Bool) (said : Said) (at behind : ℕ) (bytes : List ℕ) → name_at bytes ≡ Err behind
    → text_read fold said at bytes ≡ refused BadName (at + behind)
text_unnamed fold said at behind bytes is = rw (text_read, is) refl

text_fits : (fold : Bool) (said : Said) (at : ℕ) (bytes : List ℕ) → NextFits (length bytes) (text_read fold said at bytes)
text_fits fold said at bytes = named (name_at bytes) refl
  where
    named : (name : Result ℕ ℕ) → name_at bytes ≡ name → NextFits (length bytes) (text_read fold said at bytes)
    named (Ok long) is = subst (NextFits (length bytes)) (sym (text_named fold said at long bytes is))
        (name_fits fold said at long bytes)
    named (Err behind) is = subst (NextFits (length bytes)) (sym (text_unnamed fold said at behind bytes is)) tt

number_fits : (n at : ℕ) (known : List ℕ → Option Format) (said : Said) (read : Reading)
    → NextFits n (number_of known said at read)
number_fits n at known said read =
    used (uses_read known (with_own said.defined read.defines) (is_some read.format) at said.used None read.uses) refl
  where
    shown : (seen : Option Format × FinMap name_cmp ℤ) (expr : Result (Option Term) NumFault) → read.expr ≡ expr
        → NextFits n (block_number said at read seen)
    shown seen (Ok expr) is = rw is (tt, omega arith)
    shown seen (Err refusal) is = rw is tt

    used : (r : Result (Option Format × FinMap name_cmp ℤ) PatFault)
        → uses_read known (with_own said.defined read.defines) (is_some read.format) at said.used None read.uses ≡ r
        → NextFits n (number_of known said at read)
    used (Ok seen) is = rw is (chosen_fits n (is_used said.used read.defines) _ _ tt (shown seen read.expr refl))
    used (Err refusal) is = rw is (chosen_fits n (is_used said.used read.defines) _ _ tt tt)

digits_fit : (n : ℕ) (op : Op) (at count : ℕ) (bytes : List ℕ) → OneFits n (line_digits op at count bytes)
digits_fit n op at count bytes = valued (decimal (take count bytes)) refl
  where
    no_value : decimal (take count bytes) ≡ None → line_digits op at count bytes ≡ refused BadExpr at
    no_value is = rw (line_digits, is) refl

    a_value : (value : ℤ) → decimal (take count bytes) ≡ Some value → line_digits op at count bytes
        ≡ cond (length bytes == count) (Ok (line_number (binary op line (literal value)))) (refused BadExpr (at + count))
    a_value value is = rw (line_digits, is) refl

    valued : (value : Option ℤ) → decimal (take count bytes) ≡ value → OneFits n (line_digits op at count bytes)
    valued None is = subst (OneFits n) (sym (no_value is)) tt
    valued (Some value) is = subst (OneFits n) (sym (a_value value is))
        (one_chosen n (length bytes == count) _ _ (tt, omega arith) tt)

behind_fits_line : (n at : ℕ) (bytes : List ℕ) → OneFits n (behind_line at bytes)
behind_fits_line n at bytes =
    let rest : List ℕ = drop 1 bytes in
    let plus : Result Item PatFault = line_digits Add (at + 1) (prefix_len is_digit rest) rest in
    let minus : Result Item PatFault = line_digits Sub (at + 1) (prefix_len is_digit rest) rest in
    let refusal : Result Item PatFault = refused BadExpr at in
    one_chosen n (length bytes == 0) (Ok (line_number line))
    (cond (begins 43 bytes) plus (cond (begins 45 bytes) minus refusal)) (tt, omega arith)
    (one_chosen n (begins 43 bytes) plus (cond (begins 45 bytes) minus refusal)
    (digits_fit n Add (at + 1) (prefix_len is_digit rest) rest)
    (one_chosen n (begins 45 bytes) minus refusal (digits_fit n Sub (at + 1) (prefix_len is_digit rest) rest) tt))

line_fits : (n at : ℕ) (bytes : List ℕ) → OneFits n (line_read at bytes)
line_fits n at bytes =
    one_chosen n (begins_with bytes (codes "@LINE")) (behind_line (at + 5) (drop 5 bytes)) (refused BadName at)
    (behind_fits_line n (at + 5) (drop 5 bytes)) tt

block_fits : (fold : Bool) (known : List ℕ → Option Format) (said : Said) (at : ℕ) (bytes : List ℕ)
    → NextFits (length bytes) (block_read fold known said at bytes)
block_fits fold known said at bytes =
    let numbered : Result (Item × Said) PatFault = number_of known said (at + 1) (reading (drop 1 bytes)) in
    let lined : Result (Item × Said) PatFault = and_said said (line_read at bytes) in
    let texted : Result (Item × Said) PatFault = text_read fold said at bytes in
    chosen_fits (length bytes) (begins 35 bytes) numbered (cond (begins 64 bytes) lined texted)
    (number_fits (length bytes) (at + 1) known said (reading (drop 1 bytes)))
    (chosen_fits (length bytes) (begins 64 bytes) lined texted
    (said_fits (length bytes) said (line_read at bytes) (line_fits (length bytes) at bytes))
    (text_fits fold said at bytes))

-- how many numbers the expression of a piece may have
abbrev numbers_in : Raw → ℕ
numbers_in (text bytes) = 0
numbers_in (regex bytes) = length bytes
numbers_in (block bytes) = length bytes

raw_fits : (fold : Bool) (known : List ℕ → Option Format) (label : Bool) (said : Said) (at : ℕ) (raw : Raw)
    → NextFits (numbers_in raw) (raw_read fold known label said at raw)
raw_fits fold known label said at (text bytes) = (tt, omega arith)
raw_fits fold known label said at (regex bytes) =
    said_fits (length bytes) said (regex_read (at + 2) (ere.reading fold bytes))
    (regex_fits (length bytes) (at + 2) (ere.reading fold bytes) (reading_fits fold bytes))
raw_fits fold known label said at (block bytes) =
    chosen_fits (length bytes) label (refused VariableInLabel at) (block_read fold known said (at + 2) bytes) tt
    (block_fits fold known said (at + 2) bytes)

-- BODIES

run_length : (bytes body rest : List ℕ) → IsRun bytes body rest → length body ≡ length bytes + length rest
run_length [] body rest (same, ends) = omega (arith, ap length same)
run_length (b ∷ bytes) body rest (front, more, same, run) =
    omega (arith, ap length same, run_length bytes more rest run)

end_length : (bytes body rest : List ℕ) → IsUpToEnd bytes body rest → length body ≡ length bytes + 2 + length rest
end_length [] body rest same = omega (arith, ap length same)
end_length (b ∷ bytes) body rest (more, same, low, up) =
    omega (arith, ap length same, end_length bytes more rest up)

written_length : (i : Inside) (rest : List ℕ) → length (written i rest) ≡ length (written i []) + length rest
written_length i rest = ap length (written_front i rest) ∙ length-append (written i []) rest

block_length : (bytes body rest : List ℕ) → IsBlock bytes body rest → length body ≡ length bytes + 2 + length rest
block_length bytes body rest (i, sound, inside, same) =
    omega (arith, ap length same, ap length inside, written_length i (93 ∷ 93 ∷ rest))

-- pieces whose numbers, with two more for each, are at most this
abbrev room_of : Item → ℕ
room_of one = greatest_of one + 2

abbrev AllFit : ℕ → Result (List Item) PatFault → Type 0
AllFit n (Ok items) = All HasNumbers items × (sum_by room_of items ≤ n)
AllFit n (Err refusal) = Unit {0}

and_fits : (k m n : ℕ) (one : Item) (told : Result (List Item) PatFault) → Fits n one → AllFit m told → n + 2 + m ≤ k
    → AllFit k (and_items one told)
and_fits k m n one (Ok items) fits all low =
    let first : sum_by room_of (one ∷ []) ≡ 0 + room_of one = refl in
    let total : sum_by room_of (one ∷ items) ≡ sum_by room_of (one ∷ []) + sum_by room_of items =
    sum_by-append room_of (one ∷ []) items in
    (All-cons HasNumbers one items fits.0 all.0, omega (arith, fits.1, all.1, low, first, total))
and_fits k m n one (Err refusal) fits all low = tt

behind_fits : (k m n : ℕ) (read : Result (Item × Said) PatFault) (go : Said → Result (List Item) PatFault) → NextFits n read
    → ((said : Said) → AllFit m (go said)) → n + 2 + m ≤ k → AllFit k (items_behind read go)
behind_fits k m n (Ok found) go fits all low = and_fits k m n found.0 (go found.1) fits (all found.1) low
behind_fits k m n (Err refusal) go fits all low = tt

end_fits : (n : ℕ) (refusal : Option PatFault) → AllFit n (unless_refused refusal)
end_fits n None = (All-nil HasNumbers, omega arith)
end_fits n (Some refusal) = tt

cut_rooms : (fold : Bool) (known : List ℕ → Option Format) (label : Bool) (raws : List Raw) (ending : Ending) (said : Said)
    (at : ℕ) (body : List ℕ) → IsCut body raws ending
    → AllFit (2 * length body) (items_from fold known label said at raws ending)
cut_rooms fold known label [] ending said at body cut = end_fits (2 * length body) (ended label said.references at ending)
cut_rooms fold known label (text [] ∷ raws) ending said at body (front, rest, run, cut) = absurd (run.1 front)
cut_rooms fold known label (text (b ∷ bytes) ∷ raws) ending said at body (front, rest, run, cut) =
    let raw : Raw = text (b ∷ bytes) in
    behind_fits (2 * length body) (2 * length rest) 0 (raw_read fold known label said at raw) _
    (raw_fits fold known label said at raw)
    (λ next. cut_rooms fold known label raws ending next (behind_raw at raw) rest cut)
    (omega (arith, run_length (b ∷ bytes) body rest run))
cut_rooms fold known label (regex bytes ∷ raws) ending said at body (front, rest, up, cut) =
    let raw : Raw = regex bytes in
    behind_fits (2 * length body) (2 * length rest) (length bytes) (raw_read fold known label said at raw) _
    (raw_fits fold known label said at raw)
    (λ next. cut_rooms fold known label raws ending next (behind_raw at raw) rest cut)
    (omega (arith, end_length bytes (drop 2 body) rest up, length-drop 2 body))
cut_rooms fold known label (block bytes ∷ raws) ending said at body (front, rest, inside, cut) =
    let raw : Raw = block bytes in
    behind_fits (2 * length body) (2 * length rest) (length bytes) (raw_read fold known label said at raw) _
    (raw_fits fold known label said at raw)
    (λ next. cut_rooms fold known label raws ending next (behind_raw at raw) rest cut)
    (omega (arith, block_length bytes (drop 2 body) rest inside, length-drop 2 body))

same_items : (told : Result (List Item) PatFault) (items others : List Item) → told ≡ Ok items → told ≡ Ok others
    → items ≡ others
same_items told items others is same = cc

no_items : (told : Result (List Item) PatFault) (items : List Item) (refusal : PatFault) → told ≡ Ok items
    → told ≡ Err refusal → IsSearchable items
no_items told items refusal is same = cc

-- what a search asks, where the body isn't too long
fit_searchable : (n : ℕ) (items : List Item) (told : Result (List Item) PatFault) → n < 2 ^ 31 → Ok items ≡ told → AllFit n told
    → IsSearchable items
fit_searchable n items (Ok others) small same all =
    let total : sum_by (λ piece. greatest_of piece + 2) others ≤ n = all.1 in
    subst IsSearchable (sym (same_items (Ok others) items others (sym same) refl))
    (record { numbered = all.0; small = omega (arith, total, small) })
fit_searchable n items (Err refusal) small same all = cc

told_searchable : (body : List ℕ) (rules : BodyRules) (known : List ℕ → Option Format)
    (told : Result (List Item) PatFault) (items : List Item) → told ≡ Ok items → IsPieces body rules known told
    → IsSearchable items
told_searchable body rules known told items ok is =
    long (nat_lt 65536 (length body)) (is_plain rules) refl is
  where
    cut_pieces : length body ≤ 65536 → ((raws : List Raw) × (ending : Ending) × IsCut body raws ending
        × (told ≡ items_from rules.fold known (is_label rules.demand.role) nothing_said 0 raws ending)) → IsSearchable items
    cut_pieces low (raws, ending, cut, same) =
        fit_searchable (2 * length body) items (items_from rules.fold known (is_label rules.demand.role) nothing_said 0 raws ending)
        (omega (arith, low)) (sym ok ∙ same)
        (cut_rooms rules.fold known (is_label rules.demand.role) raws ending nothing_said 0 body cut)

    long : (b p : Bool) → nat_lt 65536 (length body) ≡ b
        → MatchBool b (told ≡ refused TooLong 0) (MatchBool p (told ≡ Ok (item.plain body ∷ []))
        ((raws : List Raw) × (ending : Ending) × IsCut body raws ending
        × (told ≡ items_from rules.fold known (is_label rules.demand.role) nothing_said 0 raws ending))) → IsSearchable items
    long true p low same = no_items told items (record { at = 0; kind = TooLong }) ok same
    long false true low same =
        fit_searchable 2 items (Ok (item.plain body ∷ [])) (omega arith) (sym ok ∙ same)
        (All-cons HasNumbers (item.plain body) [] tt (All-nil HasNumbers), omega arith)
    long false false low same = cut_pieces (grind (arith, nat_tests)) same

pub pieces_searchable : (body : List ℕ) (rules : BodyRules) (known : List ℕ → Option Format)
    (items : List Item) → IsPieces body rules known (Ok items) → IsSearchable items
pieces_searchable body rules known items is =
    told_searchable body rules known (Ok items) items refl is
