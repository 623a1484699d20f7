-- Rows of a table of steps: what stays where a cell is written or a row is added.
-- A row and its threads stay where they are, so a step between rows stays that step; a new row has no known cell.
-- The hard ones are `leads_still` and `leads_new`, a step between old rows, and one to the new row.
use Rattle.std.proofs.Common.{◌≡◌, ℕ, ◌+◌, ◌-◌, ◌*◌, ◌<◌, ◌≤◌, ◌==◌, ◌&&◌, ◌++◌, Bool, true, false, not, true≢false, Option, Some, List, [], ◌∷◌, zero, suc, length, take, drop, replicate, refl, sym, ap, ◌∙◌, subst, inl, inr, arith, slice_index, slice_index_or, is_none, length-drop, length-append}
use Rattle.std.proofs.Math.ListN.{set}
use Rattle.std.proofs.Math.Seq.{get_or-append_seam}
use Rattle.std.proofs.lemmas.List.{get_or-set_same, get_or-set_other, get_or_append_left, get_or-append_right, get_or-replicate, get_or_past, length-replicate, take-append-le, drop-append-le, get_or-take}
use Rattle.std.proofs.lemmas.Bool.{cases_eq, cases_lt, eqb-true, not-true}
use Rattle.ere_auto.specs.Closure.{node_in, origin_in}
use Rattle.ere_auto.specs.declared.row.Row.{Row}
use Rattle.ere_auto.specs.declared.thread.Thread.{Thread}
use Rattle.ere_table.specs.Node.{Node}
use Rattle.ere_auto.specs.Step.{IsStep}
use Rattle.ere_auto.specs.RowTable.{RowTable, no_row, row_in, threads_in, threads_of, cell_of, Leads, AreSteps, Keeps, IsRow}
use Rattle.ere_table.specs.Node.{node_at}
use Rattle.ere_auto.specs.Seen.{State, Turns}

-- a row leads as before where the rows are those that were there
pub leads_still : (T : ℕ → Node) (e : ℕ) (R S : RowTable) (r b c : ℕ) → Keeps R S → r < length R.rows → Leads T e R r b c
    → Leads T e S r b c
leads_still T e R S r b c k l h =
    let row = sym (k.rows r l) in
    let to = sym (k.rows c h.inside) in
    record {
      inside = omega (arith, h.inside, k.longer);
      step =
          subst (λ x. IsStep T e x (threads_of S c) (row_in S.rows r).line (row_in S.rows r).searching (Some b)
          (row_in S.rows c).begun (row_in S.rows c).met) (sym (k.threads r l))
          (subst (λ x. IsStep T e (threads_of R r) x (row_in S.rows r).line (row_in S.rows r).searching (Some b)
          (row_in S.rows c).begun (row_in S.rows c).met) (sym (k.threads c h.inside))
          (subst (λ x. IsStep T e (threads_of R r) (threads_of R c) x.line x.searching (Some b)
          (row_in S.rows c).begun (row_in S.rows c).met) row
          (subst (λ x. IsStep T e (threads_of R r) (threads_of R c) (row_in R.rows r).line (row_in R.rows r).searching
          (Some b) x.begun x.met) to h.step)));
      line = ap (λ x. x.line) (sym to) ∙ h.line;
      searching =
          ap (λ x. x.searching) (sym to) ∙ h.searching
          ∙ (λ i. (row i).searching && is_none (to i).met);
    }

pub steps_set : (T : ℕ → Node) (e : ℕ) (R S : RowTable) (r b c : ℕ) → Keeps R S → length R.cells ≡ 256 * length R.rows
    → length S.rows ≡ length R.rows → S.cells ≡ set R.cells (r * 256 + b) c → r < length R.rows → b < 256
    → AreSteps T e R → Leads T e R r b c → AreSteps T e S
steps_set T e R S r b c k long same cells l m a h = record {
  cells = λ q d u v known. elim (cases_eq (q * 256 + d) (r * 256 + b)) [
    | inl here ↦
        let row : r ≡ q = omega (arith, here, m, v) in
        let byte : b ≡ d = omega (arith, here, m, v) in
        let is : c ≡ cell_of S q d =
        sym (ap (λ x. slice_index x (q * 256 + d)) cells ∙ ap (slice_index (set R.cells (r * 256 + b) c)) here
        ∙ get_or-set_same R.cells (r * 256 + b) c 0 (omega (arith, long, l, m))) in
        subst (λ x. Leads T e S x d (cell_of S q d)) row
        (subst (λ x. Leads T e S r x (cell_of S q d)) byte
        (subst (Leads T e S r b) is (leads_still T e R S r b c k l h)))
    | inr other ↦
        let is : cell_of R q d ≡ cell_of S q d =
        sym (ap (λ x. slice_index x (q * 256 + d)) cells
        ∙ get_or-set_other R.cells (r * 256 + b) (q * 256 + d) c 0 other) in
        let inside : q < length R.rows = omega (arith, u, same) in
        subst (Leads T e S q d) is
        (leads_still T e R S q d (cell_of R q d) k inside (a.cells q d inside v (omega (arith, is, known))))
  ];
}

pub keeps_rows : (R S : RowTable) → S.pool ≡ R.pool → S.rows ≡ R.rows → Keeps R S
keeps_rows R S p r = record {
  longer = omega (arith, ap length r);
  rows = λ q l. ap (λ x. row_in x q) r;
  threads = λ q l. (λ i. threads_in (p i) (row_in (r i) q));
}

-- lists of the same threads, one by one
pub same_lists : (K L : List Thread) → length K ≡ length L
    → ((k : ℕ) → k < length K → node_in K k ≡ node_in L k) → ((k : ℕ) → k < length K → origin_in K k ≡ origin_in L k)
    → K ≡ L
same_lists [] [] e n o = refl
same_lists [] (t ∷ L) e n o = absurd (omega (arith, e))
same_lists (t ∷ K) [] e n o = absurd (omega (arith, e))
same_lists (t ∷ K) (u ∷ L) e n o =
    let node : t.node ≡ u.node = n 0 (omega arith) in
    let origin : t.origin ≡ u.origin = o 0 (omega arith) in
    let rest = same_lists K L (omega (arith, e)) (λ k l. n (suc k) (omega (arith, l))) (λ k l. o (suc k) (omega (arith, l))) in
    λ i. record { node = node i; origin = origin i } ∷ rest i

-- what holds of the rows there were and of the new one
pub each_row : (P : Row → Type 0) (rows new : List Row) (row : Row) → new ≡ rows ++ row ∷ []
    → ((r : ℕ) → r < length rows → P (row_in rows r)) → P row → (r : ℕ) → r < length rows + 1 → P (row_in new r)
each_row P rows new row e old here r l =
    subst (λ x. P (row_in x r)) (sym e) (elim (cases_lt r (length rows)) [
      | inl before ↦ subst P (sym (get_or_append_left rows (row ∷ []) no_row r before)) (old r before)
      | inr behind ↦
          let same : r ≡ length rows = omega (arith, l, behind) in
          subst P (sym (ap (row_in (rows ++ row ∷ [])) same ∙ get_or-append_seam rows row [] no_row)) here
    ])

-- what holds of the threads of two lists
pub each_thread : (P : Thread → Type 0) (K L new : List Thread) (d : Thread) → new ≡ K ++ L
    → ((x : ℕ) → x < length K → P (slice_index_or K x d)) → ((x : ℕ) → x < length L → P (slice_index_or L x d))
    → (x : ℕ) → x < length K + length L → P (slice_index_or new x d)
each_thread P K L new d e one other x l =
    subst (λ y. P (slice_index_or y x d)) (sym e) (elim (cases_lt x (length K)) [
      | inl before ↦ subst P (sym (get_or_append_left K L d x before)) (one x before)
      | inr behind ↦ subst P (sym (get_or-append_right K L (length K) x d refl behind)) (other (x - length K) (omega (arith, l, behind)))
    ])

-- a row that was there is there, and so is the first of those that are kept
pub row_kept : (rows new : List Row) (row : Row) → new ≡ rows ++ row ∷ [] → (r : ℕ) → r < length rows
    → row_in new r ≡ row_in rows r
row_kept rows new row e r l =
    ap (λ x. row_in x r) e ∙ get_or_append_left rows (row ∷ []) no_row r l

pub threads_kept : (K L new : List Thread) (row : Row) → new ≡ K ++ L → row.from ≤ row.to → row.to ≤ length K
    → threads_in new row ≡ threads_in K row
threads_kept K L new row e o l =
    ap (λ x. threads_in x row) e
    ∙ ap (take (row.to - row.from)) (drop-append-le row.from K L (omega (arith, o, l)))
    ∙ take-append-le (row.to - row.from) (drop row.from K) L (omega (arith, o, l, length-drop row.from K))

-- a cell of a list with zeros behind
pub cell_more : (cells new : List ℕ) (k : ℕ) → new ≡ cells ++ replicate 256 0 → k < length cells
    → slice_index new k ≡ slice_index cells k
cell_more cells new k e l = ap (λ x. slice_index x k) e ∙ get_or_append_left cells (replicate 256 0) 0 k l

pub cell_zero : (cells new : List ℕ) (k : ℕ) → new ≡ cells ++ replicate 256 0 → length cells ≤ k → slice_index new k ≡ 0
cell_zero cells new k e l =
    ap (λ x. slice_index x k) e ∙ get_or-append_right cells (replicate 256 0) (length cells) k 0 refl l
    ∙ zero_in 256 (k - length cells)
  where
    zero_in : (n k : ℕ) → slice_index (replicate n 0) k ≡ 0
    zero_in n k =
        elim (cases_lt k n) [
          | inl inside ↦ get_or-replicate n k 0 0 inside
          | inr past ↦ get_or_past (replicate n 0) k 0 (omega (arith, past, length-replicate {A = ℕ} n 0))
        ]

pub cells_inside : (cells new : List ℕ) (few more : ℕ) → new ≡ cells ++ replicate 256 0 → few ≤ more → 0 < more
    → ((k : ℕ) → k < length cells → slice_index cells k < few) → (k : ℕ) → slice_index new k < more
cells_inside cells new few more e l z h k =
    elim (cases_lt k (length cells)) [
      | inl before ↦ omega (arith, h k before, cell_more cells new k e before, l)
      | inr behind ↦ omega (arith, cell_zero cells new k e behind, z)
    ]

-- with a row more, of which no cell is known
pub steps_more : (T : ℕ → Node) (e : ℕ) (R S : RowTable) → Keeps R S → length R.cells ≡ 256 * length R.rows
    → length S.rows ≡ length R.rows + 1 → S.cells ≡ R.cells ++ replicate 256 0 → AreSteps T e R → AreSteps T e S
steps_more T e R S k long more cells a = record {
  cells = λ r b l m known. elim (cases_lt r (length R.rows)) [
    | inl old ↦
        let is : cell_of R r b ≡ cell_of S r b =
        sym (cell_more R.cells S.cells (r * 256 + b) cells (omega (arith, long, old, m))) in
        subst (Leads T e S r b) is
        (leads_still T e R S r b (cell_of R r b) k old (a.cells r b old m (omega (arith, is, known))))
    | inr new ↦
        absurd (omega (arith, known, cell_zero R.cells S.cells (r * 256 + b) cells (omega (arith, long, new))))
  ];
}

-- where no cell is known
pub steps_none : (T : ℕ → Node) (e : ℕ) (R : RowTable) → ((k : ℕ) → slice_index R.cells k ≡ 0) → AreSteps T e R
steps_none T e R z = record { cells = λ r b l m known. absurd (omega (arith, known, z (r * 256 + b))) }

-- THE FIRST TWO ROWS

pub row_front : (rows new : List Row) (r : ℕ) → new ≡ take 2 rows → r < 2 → row_in new r ≡ row_in rows r
row_front rows new r e l = ap (λ x. row_in x r) e ∙ get_or-take 2 rows r no_row l

pub two_rows : (rows : List Row) (r : ℕ) → (row_in rows 0).to ≡ 0 → (row_in rows 1).to ≡ 0 → r < 2 → (row_in rows r).to ≡ 0
two_rows rows zero a b l = a
two_rows rows (suc zero) a b l = b
two_rows rows (suc (suc r)) a b l = absurd (omega (arith, l))

pub all_zero : (none some all : List ℕ) → none ≡ [] → some ≡ none ++ replicate 256 0 → all ≡ some ++ replicate 256 0
    → (k : ℕ) → slice_index all k ≡ 0
all_zero none some all e f g k =
    elim (cases_lt k (length some)) [
      | inl first ↦
          cell_more some all k g first ∙ cell_zero none some k f (omega (arith, ap length e))
      | inr second ↦ cell_zero some all k g second
    ]

pub keeps_more : (R S : RowTable) (more : List Thread) (row : Row) → S.rows ≡ R.rows ++ row ∷ [] → S.pool ≡ R.pool ++ more
    → ((r : ℕ) → r < length R.rows → (row_in R.rows r).from ≤ (row_in R.rows r).to)
    → ((r : ℕ) → r < length R.rows → (row_in R.rows r).to ≤ length R.pool) → Keeps R S
keeps_more R S more row e f ordered ranges = record {
  longer = omega (arith, ap length e ∙ length-append R.rows (row ∷ []));
  rows = λ r l. row_kept R.rows S.rows row e r l;
  threads = λ r l.
      ap (threads_in S.pool) (row_kept R.rows S.rows row e r l)
      ∙ threads_kept R.pool more S.pool (row_in R.rows r) f (ordered r l) (ranges r l);
}

pub two_of : (none some all : List Row) (a b : Row) → none ≡ [] → some ≡ none ++ a ∷ [] → all ≡ some ++ b ∷ []
    → all ≡ a ∷ b ∷ []
two_of none some all a b e f g = g ∙ ap (λ x. x ++ b ∷ []) (f ∙ ap (λ x. x ++ a ∷ []) e)

pub each_two : (P : Row → Type 0) (all : List Row) (a b : Row) → all ≡ a ∷ b ∷ [] → P a → P b → (r : ℕ) → r < 2
    → P (row_in all r)
each_two P all a b e p q zero l = subst (λ x. P (row_in x 0)) (sym e) p
each_two P all a b e p q (suc zero) l = subst (λ x. P (row_in x 1)) (sym e) q
each_two P all a b e p q (suc (suc r)) l = absurd (omega (arith, l))

-- A STEP THAT IS NEW

pub leads_new : (T : ℕ → Node) (e : ℕ) (R S : RowTable) (r b c : ℕ) (K : List Thread) (line searching : Bool)
    (begun met : Option ℕ) → Keeps R S → r < length R.rows → IsRow S c K line searching begun met
    → IsStep T e (threads_of R r) K (row_in R.rows r).line (row_in R.rows r).searching (Some b) begun met
    → line ≡ (b == 10) → searching ≡ ((row_in R.rows r).searching && is_none met) → Leads T e S r b c
leads_new T e R S r b c K line searching begun met k l row step at seeks =
    let old = sym (k.rows r l) in
    record {
      inside = row.inside;
      step =
          subst (λ x. IsStep T e x (threads_of S c) (row_in S.rows r).line (row_in S.rows r).searching (Some b)
          (row_in S.rows c).begun (row_in S.rows c).met) (sym (k.threads r l))
          (subst (λ x. IsStep T e (threads_of R r) x (row_in S.rows r).line (row_in S.rows r).searching (Some b)
          (row_in S.rows c).begun (row_in S.rows c).met) (sym row.threads)
          (subst (λ x. IsStep T e (threads_of R r) K x.line x.searching (Some b) (row_in S.rows c).begun
          (row_in S.rows c).met) old
          (subst (λ x. IsStep T e (threads_of R r) K (row_in R.rows r).line (row_in R.rows r).searching (Some b) x
          (row_in S.rows c).met) (sym row.begun)
          (subst (λ x. IsStep T e (threads_of R r) K (row_in R.rows r).line (row_in R.rows r).searching (Some b) begun x)
          (sym row.met) step))));
      line = row.line ∙ at;
      searching = row.searching ∙ seeks ∙ (λ i. (old i).searching && is_none (sym row.met i));
    }

-- the state behind a step that is new
pub turns_new : (a b : State) (S L : RowTable) (byte c : ℕ) (K : List Thread) (line searching : Bool) (begun met : Option ℕ)
    → IsStep (node_at a.nodes) a.entry a.threads K a.line a.searching (Some byte) begun met → line ≡ (byte == 10)
    → searching ≡ (a.searching && is_none met) → IsRow S c K line searching begun met → L.pool ≡ S.pool → L.rows ≡ S.rows
    → b.threads ≡ threads_of L c → b.line ≡ (row_in L.rows c).line → b.searching ≡ (row_in L.rows c).searching
    → AreSteps (node_at a.nodes) a.entry b.kept → Turns a b byte (row_in L.rows c).begun (row_in L.rows c).met
turns_new a b S L byte c K line searching begun met step at seeks row pool rows threads starts sought known =
    let same : row_in L.rows c ≡ row_in S.rows c = ap (λ x. row_in x c) rows in
    let first : (row_in L.rows c).begun ≡ begun = ap (λ x. x.begun) same ∙ row.begun in
    let last : (row_in L.rows c).met ≡ met = ap (λ x. x.met) same ∙ row.met in
    let list : b.threads ≡ K = threads ∙ (λ i. threads_in (pool i) (row_in (rows i) c)) ∙ row.threads in
    subst (λ x. Turns a b byte x (row_in L.rows c).met) (sym first) (subst (Turns a b byte begun) (sym last) (record {
      step = subst (λ x. IsStep (node_at a.nodes) a.entry a.threads x a.line a.searching (Some byte) begun met) (sym list) step;
      line = starts ∙ ap (λ x. x.line) same ∙ row.line ∙ at;
      searching = sought ∙ ap (λ x. x.searching) same ∙ row.searching ∙ seeks;
      steps = known;
    }))

-- a row at which all is over
both_true : (a b : Bool) → (a && b) ≡ true → (a ≡ true) × (b ≡ true)
both_true true b h = (refl, h)
both_true false b h = absurd (true≢false (sym h))

pub over_row : (pool : List Thread) (row : Row) → row.over ≡ (not row.searching && row.from == row.to) → row.over ≡ true
    → (row.searching ≡ false) × (length (threads_in pool row) ≡ 0)
over_row pool row is over =
    let both = both_true (not row.searching) (row.from == row.to) (sym is ∙ over) in
    let same : row.from ≡ row.to = eqb-true row.from row.to both.1 in
    let none : row.to - row.from ≡ 0 = omega (arith, same) in
    (not-true row.searching both.0, ap (λ n. length (take n (drop row.from pool))) none)
