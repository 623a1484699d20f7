-- How the views of the slow program's values grow: captures by one setting more, rows of ways by one more.
-- A comparison of rows that has come to an index is that of what is left of them; `rows_decided` and `rows_undecided`
-- are its two steps.
use Rattle.std.proofs.Common.{◌≡◌, ℕ, true, false, cond, Some, None, List, [], ◌∷◌, ◌++◌, ◌+◌, ◌<◌, ◌≤◌, length, map, get_or, take, drop, min, not, true≢false, ◌==◌, eq-eqb, length-drop, vec_len, refl, sym, ap, ◌∙◌, arith, drop-cons, eqb, add-one, rules}
use Rattle.std.proofs.lemmas.List.{take_more, length-map}
use Rattle.std.proofs.lemmas.Bool.{ne_eqb}
use Rattle.std.proofs.Math.ListN.{get_or-map}
use Rattle.std.specs.declared.cmp.Ordering.{Ordering}
use Rattle.std.specs.declared.cmp.Ordering.TheVariants.{Less, Equal, Greater}
use Rattle.std.proofs.lemmas.Cmp.{nat_cmp_total}
use Rattle.std.specs.Cmp.{unsigned_tied}
use Rattle.std.specs.FinMap.{get, insert, empty, get-insert, get-empty}
use Rattle.std.specs.Ordering.{nat_cmp, ordering_then, ordering_index}
use Rattle.ere_tree.specs.Captures.{Captures}
use Rattle.ere_tree.specs.Derivation.{Way, next}
use Rattle.ere_tree.specs.Preference.{within, in_order, preference}
use Rattle.ere_slow.specs.WayView.{after_settings, ways_of, way_of, step_of, row_of}
use Rattle.ere_slow.specs.declared.way.OwnedWay.TheFolds.{fold_out-OwnedWays, fold_out-OwnedStep}
use Rattle.ere_slow.specs.declared.way.OwnedWay.TheViews.{out-OwnedWays, out-OwnedStep}
use Rattle.ere_slow.specs.declared.way.OwnedStep.{OwnedStep}
use Rattle.ere_slow.specs.declared.way.OwnedWays.{OwnedWays}
use Rattle.ere_slow.specs.declared.settings.Setting.{Setting}

abbrev no_captures : Captures
no_captures = empty

pub get_unset : (q : ℕ) → None ≡ get no_captures q
get_unset q = sym (get-empty nat_cmp q)

pub after_settings_push : (c : Captures) (xs : List Setting) (x : Setting)
    → after_settings c (xs ++ x ∷ []) ≡ insert (after_settings c xs) x.number (x.from, x.to)
after_settings_push c [] x = refl
after_settings_push c (y ∷ ys) x = after_settings_push (insert c y.number (y.from, y.to)) ys x

-- how a row is seen
pub row_is : (w : OwnedWays) → row_of w ≡ map step_of (out-OwnedWays w).held.items
row_is w = search (rules, fold_out-OwnedWays)

pub step_is : (w : OwnedStep) → step_of w ≡ ((out-OwnedStep w).to, way_of (out-OwnedStep w).way)
step_is w = search (rules, fold_out-OwnedStep)

-- the captures behind one more setting
get_settings_more : (xs : List Setting) (i : ℕ) (d : Setting) (q : ℕ) → i < length xs
    → get (after_settings empty (take (i + 1) xs)) q
    ≡ cond (eqb q (get_or xs i d).number) (Some ((get_or xs i d).from, (get_or xs i d).to))
    (get (after_settings empty (take i xs)) q)
get_settings_more xs i d q b =
    let x = get_or xs i d in
    ap (λ ys. get (after_settings empty ys) q) (take_more xs i d b)
    ∙ ap (λ m. get m q) (after_settings_push empty (take i xs) x)
    ∙ get-insert nat_cmp_total (after_settings empty (take i xs)) x.number (x.from, x.to) q
    ∙ ap (λ b. cond b (Some (x.from, x.to)) (get (after_settings empty (take i xs)) q)) (unsigned_tied q x.number)

pub get_settings_same : (xs : List Setting) (i : ℕ) (d : Setting) (q : ℕ) → i < length xs → (get_or xs i d).number ≡ q
    → get (after_settings empty (take (i + 1) xs)) q ≡ Some ((get_or xs i d).from, (get_or xs i d).to)
get_settings_same xs i d q b e =
    get_settings_more xs i d q b
    ∙ ap (λ t. cond t (Some ((get_or xs i d).from, (get_or xs i d).to)) (get (after_settings empty (take i xs)) q))
    (eq-eqb q (get_or xs i d).number (sym e))

pub get_settings_other : (xs : List Setting) (i : ℕ) (d : Setting) (q : ℕ) → i < length xs
    → ((get_or xs i d).number ≡ q → ⊥)
    → get (after_settings empty (take (i + 1) xs)) q ≡ get (after_settings empty (take i xs)) q
get_settings_other xs i d q b e =
    get_settings_more xs i d q b
    ∙ ap (λ t. cond t (Some ((get_or xs i d).from, (get_or xs i d).to)) (get (after_settings empty (take i xs)) q))
    (ne_eqb q (get_or xs i d).number (λ x. e (sym x)))

-- two rows are compared by their first ways, and then by the others
pub in_order_drop : (xs ys : List (ℕ × Way)) (k : ℕ) (x y : ℕ × Way) → k < length xs → k < length ys
    → x ≡ get_or xs k x → y ≡ get_or ys k y
    → in_order (ways_of (drop k xs)) (ways_of (drop k ys))
    ≡ ordering_then (preference x.1 x.0 y.1 y.0) (in_order (ways_of (drop (k + 1) xs)) (ways_of (drop (k + 1) ys)))
in_order_drop xs ys k x y a b e f =
    (λ n. in_order (ways_of (drop-cons xs k x a n)) (ways_of (drop-cons ys k y b n)))
    ∙ (λ n. in_order (next (sym e n).0 (sym e n).1 (ways_of (drop (sym (add-one k) n) xs)))
    (next (sym f n).0 (sym f n).1 (ways_of (drop (sym (add-one k) n) ys))))

over : (xs ys : List (ℕ × Way)) → min (length xs) (length ys) ≡ 0 → in_order (ways_of xs) (ways_of ys) ≡ Equal
over [] [] h = refl
over [] (y ∷ ys) h = refl
over (x ∷ xs) [] h = refl
over (x ∷ xs) (y ∷ ys) h = absurd (omega arith)

-- nothing more is compared where one row is over
in_order_over : (xs ys : List (ℕ × Way)) (k : ℕ) → min (length xs) (length ys) ≤ k
    → in_order (ways_of (drop k xs)) (ways_of (drop k ys)) ≡ Equal
in_order_over xs ys k b = over (drop k xs) (drop k ys) (omega (arith, length-drop k xs, length-drop k ys))

abbrev steps_of : OwnedWays → List OwnedStep
steps_of w = (out-OwnedWays w).held.items

at_row : (w : OwnedWays) (k : ℕ) (x : OwnedStep) → x ≡ get_or (steps_of w) k x
    → ((out-OwnedStep x).to, way_of (out-OwnedStep x).way)
    ≡ get_or (row_of w) k ((out-OwnedStep x).to, way_of (out-OwnedStep x).way)
at_row w k x e =
    sym (step_is x) ∙ ap step_of e ∙ sym (get_or-map step_of (steps_of w) k x)
    ∙ ap (λ xs. get_or xs k (step_of x)) (sym (row_is w)) ∙ ap (λ y. get_or (row_of w) k y) (step_is x)

length-row : (w : OwnedWays) → length (row_of w) ≡ vec_len (out-OwnedWays w).held
length-row w =
    let known = ap length (row_is w) ∙ length-map (steps_of w) step_of in
    omega (arith, known, (out-OwnedWays w).held.ok.0)

-- whether a first comparison decides
decides : (o r : Ordering) → not (ordering_index o == 1) ≡ true → o ≡ ordering_then o r
decides Less r e = refl
decides Equal r e = absurd (true≢false (sym e))
decides Greater r e = refl

decides_not : (o r : Ordering) → not (ordering_index o == 1) ≡ false → ordering_then o r ≡ r
decides_not Less r e = absurd (true≢false e)
decides_not Equal r e = refl
decides_not Greater r e = absurd (true≢false e)

-- of two rows of values: their k-th ways decide, or else the others
rows_more : (w v : OwnedWays) (k : ℕ) (x y : OwnedStep)
    → k < min (vec_len (out-OwnedWays w).held) (vec_len (out-OwnedWays v).held)
    → x ≡ get_or (steps_of w) k x → y ≡ get_or (steps_of v) k y
    → in_order (ways_of (drop k (row_of w))) (ways_of (drop k (row_of v)))
    ≡ ordering_then (ordering_then (nat_cmp (out-OwnedStep y).to (out-OwnedStep x).to)
    (within (way_of (out-OwnedStep x).way) (way_of (out-OwnedStep y).way)))
    (in_order (ways_of (drop (k + 1) (row_of w))) (ways_of (drop (k + 1) (row_of v))))
rows_more w v k x y b e f =
    in_order_drop (row_of w) (row_of v) k _ _ (omega (arith, length-row w, length-row v))
    (omega (arith, length-row w, length-row v))
    (at_row w k x e) (at_row v k y f)

pub rows_decided : (w v : OwnedWays) (k : ℕ) (x y : OwnedStep)
    → k < min (vec_len (out-OwnedWays w).held) (vec_len (out-OwnedWays v).held)
    → x ≡ get_or (steps_of w) k x → y ≡ get_or (steps_of v) k y
    → (o : Ordering)
    → o ≡ ordering_then (nat_cmp (out-OwnedStep y).to (out-OwnedStep x).to)
    (within (way_of (out-OwnedStep x).way) (way_of (out-OwnedStep y).way))
    → not (ordering_index o == 1) ≡ true
    → o ≡ in_order (ways_of (drop k (row_of w))) (ways_of (drop k (row_of v)))
rows_decided w v k x y b e f o is test =
    let rest = in_order (ways_of (drop (k + 1) (row_of w))) (ways_of (drop (k + 1) (row_of v))) in
    decides o rest test ∙ ap (λ p. ordering_then p rest) is ∙ sym (rows_more w v k x y b e f)

pub rows_undecided : (w v : OwnedWays) (k : ℕ) (x y : OwnedStep)
    → k < min (vec_len (out-OwnedWays w).held) (vec_len (out-OwnedWays v).held)
    → x ≡ get_or (steps_of w) k x → y ≡ get_or (steps_of v) k y
    → (o : Ordering)
    → o ≡ ordering_then (nat_cmp (out-OwnedStep y).to (out-OwnedStep x).to)
    (within (way_of (out-OwnedStep x).way) (way_of (out-OwnedStep y).way))
    → not (ordering_index o == 1) ≡ false
    → in_order (ways_of (drop (k + 1) (row_of w))) (ways_of (drop (k + 1) (row_of v)))
    ≡ in_order (ways_of (drop k (row_of w))) (ways_of (drop k (row_of v)))
rows_undecided w v k x y b e f o is test =
    let rest = in_order (ways_of (drop (k + 1) (row_of w))) (ways_of (drop (k + 1) (row_of v))) in
    sym (decides_not o rest test) ∙ ap (λ p. ordering_then p rest) is ∙ sym (rows_more w v k x y b e f)

pub rows_over : (w v : OwnedWays) (k : ℕ) → min (vec_len (out-OwnedWays w).held) (vec_len (out-OwnedWays v).held) ≤ k
    → in_order (ways_of (drop k (row_of w))) (ways_of (drop k (row_of v))) ≡ Equal
rows_over w v k b = in_order_over (row_of w) (row_of v) k (omega (arith, length-row w, length-row v))
