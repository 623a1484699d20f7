-- Rows of bytes at the front of a text, and what stands behind them: what is in a row passes its test, and a row is as long
-- as what passes. By induction on the text.
-- The hard one is `row_length`.
use Rattle.std.proofs.Common.{◌≡◌, ℕ, ◌+◌, suc, Bool, true, false, true≢false, ◌==◌, cond, List, [], ◌∷◌, ◌++◌, length, take, drop, refl, sym, ap, ◌∙◌, arith}
use Rattle.std.specs.List.{prefix_len, list_all}
use Rattle.std.proofs.lemmas.Bool.{eqb-true, and_from, and_parts}
use Rattle.std.proofs.lemmas.List.{take-append-drop}
use Rattle.std.proofs.Math.Seq.{drop-append_seam}
use Rattle.ere_tree.specs.Class.{is_blank}
use Rattle.ere_tree.specs.Front.{begins, begins_with}
use Rattle.num_exprs.specs.Token.{blanks}
use Rattle.tt_base.specs.Occurrence as plain
use Rattle.block_laws.specs.Productions.{Blanks}

pub begins_is : (b : ℕ) (text : List ℕ) → begins b text ≡ true → text ≡ b ∷ drop 1 text
unfolding begins_with
begins_is b [] h = absurd (true≢false (sym h))
begins_is b (x ∷ text) h = ap (λ n. n ∷ text) (eqb-true x b h)

pub front_is : (front text : List ℕ) → plain.begins_with text front ≡ true → text ≡ front ++ drop (length front) text
front_is [] text h = refl
front_is (f ∷ front) [] h = absurd (true≢false (sym h))
front_is (f ∷ front) (x ∷ text) h =
    let both = and_parts (f == x) (plain.begins_with text front) h in
    let same : f ≡ x = eqb-true f x both.0 in
    rw same (ap (λ r. x ∷ r) (front_is front text both.1))

-- what is in a row passes
pub row_front : (test : ℕ → Bool) (text : List ℕ) → list_all test (take (prefix_len test text) text) ≡ true
row_front test [] = refl
row_front test (b ∷ text) = each (test b) refl (row_front test text)
  where
    each : (v : Bool) → test b ≡ v → list_all test (take (prefix_len test text) text) ≡ true
        → list_all test (take (cond v (1 + prefix_len test text) 0) (b ∷ text)) ≡ true
    each false is more = refl
    each true is more =
        let one : 1 + prefix_len test text ≡ suc (prefix_len test text) = omega arith in
        rw (one, is) more

-- bytes that pass a test pass each that follows
pub all_follow : (test other : ℕ → Bool) → ((b : ℕ) → test b ≡ true → other b ≡ true) → (bytes : List ℕ)
    → list_all test bytes ≡ true → list_all other bytes ≡ true
all_follow test other follows [] h = refl
all_follow test other follows (b ∷ bytes) h =
    let both = and_parts (test b) (list_all test bytes) h in
    and_from (other b) _ (follows b both.0) (all_follow test other follows bytes both.1)

-- a row is as long as what passes
pub row_length : (test : ℕ → Bool) (row rest : List ℕ) → list_all test row ≡ true → begins_with test rest ≡ false
    → prefix_len test (row ++ rest) ≡ length row
unfolding begins_with
row_length test [] [] all none = refl
row_length test [] (b ∷ rest) all none = rw none refl
row_length test (b ∷ row) rest all none =
    let both = and_parts (test b) (list_all test row) all in
    let more : prefix_len test (row ++ rest) ≡ length row = row_length test row rest both.1 none in
    rw (both.0) (omega arith)

pub row_behind : (test : ℕ → Bool) (text row rest : List ℕ) → text ≡ row ++ rest → list_all test row ≡ true
    → begins_with test rest ≡ false → drop (prefix_len test text) text ≡ rest
row_behind test text row rest is all none =
    ap (λ t. drop (prefix_len test t) t) is ∙ ap (λ n. drop n (row ++ rest)) (row_length test row rest all none)
    ∙ drop-append_seam row rest

pub blanks_front : (text : List ℕ) → Blanks text (drop (blanks text) text)
blanks_front text = (take (blanks text) text, row_front is_blank text, sym (take-append-drop (blanks text) text))

pub blanks_behind : (text rest : List ℕ) → Blanks text rest → begins_with is_blank rest ≡ false
    → drop (blanks text) text ≡ rest
blanks_behind text rest are none = row_behind is_blank text are.0 rest are.2 are.1 none
