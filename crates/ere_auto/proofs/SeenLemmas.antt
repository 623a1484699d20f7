-- From step to step: what an automaton has seen, and when its span is known.
-- A step is right for every slice, so it is for each that begins as the automaton was told. The hard ones are
-- `found_more`, by which the span stays that of all matches that have ended, and `settled`, by which it is the span of
-- the whole slice once no match that counts can end later.
use Rattle.std.proofs.Common.{◌≡◌, ℕ, ◌+◌, ◌-◌, ◌<◌, ◌≤◌, ◌==◌, ◌||◌, ◌&&◌, Bool, true, false, IsSome, Option, Some, None, List, [], ◌∷◌, ◌++◌, suc, length, refl, sym, ap, ◌∙◌, subst, inl, inr, arith, slice_index, slice_set, is_none, append_assoc, length-append, ne_eqb, take, drop, take-append-drop, true≢false}
use Rattle.std.proofs.Math.Bool.{and-true, and-false}
use Rattle.std.proofs.Math.ListN.{get_or-append}
use Rattle.std.proofs.Math.Seq.{drop-cons, get_or-append_seam}
use Rattle.std.proofs.lemmas.List.{get_or-set_same, get_or-set_other, append-nil, length-take-le}
use Rattle.std.proofs.lemmas.Bool.{cases_lt}
use Rattle.std.proofs.lemmas.Option.{none-some}
use Rattle.ere_tree.specs.Tree.{Tree}
use Rattle.ere_tree.specs.Derivation.{is_line_start}
use Rattle.ere_tree.proofs.CapturesLemmas.{some_same}
use Rattle.ere_tree.specs.declared.hit.Cap.{Cap}
use Rattle.ere_tree.proofs.DerivationLemmas.{is_part}
use Rattle.ere_table.specs.Node.{Node, node_at}
use Rattle.ere_table.specs.Path.{LeadsAs}
use Rattle.ere_auto.specs.Closure.{origin_in, Counts}
use Rattle.ere_auto.specs.Span.{IsSpan}
use Rattle.ere_auto.specs.Step.{Shows, Begun, limit_behind, StopsBy, Past, StandsAt, IsStep}
use Rattle.ere_auto.specs.Seen.{State, IsFor, start_of, Matches, FoundBefore, StandsIn, HasSeen, HasFound, starts_behind, best_behind, GoesTo, EndsIn, Waits, Fresh}
use Rattle.ere_auto.specs.RowTable.{RowTable}
use Rattle.ere_auto.specs.declared.thread.Thread.{Thread}
use Rattle.ere_auto.proofs.EdgeLemmas.{goes_on, stays_in, crosses}
use Rattle.ere_auto.proofs.StepLemmas.{opened_before}

-- THE SPAN OF WHAT HAS ENDED

pub found_more : (R : ℕ → ℕ → Type 0) (begin n : ℕ) (best : Option Cap) (starts : List ℕ) (met : Option ℕ)
    → FoundBefore R begin n best
    → StopsBy (λ h. (begin ≤ h) × Counts (start_of best) h) (slice_index starts) (λ h. R h n) met
    → FoundBefore R begin (n + 1) (best_behind best starts met n)
found_more R begin n None starts None f h = λ i j b l r.
    elim (cases_lt j n) [
      | inl before ↦ f i j b before r
      | inr here ↦ let same : j ≡ n = omega (arith, here, l) in h i (b, tt) (subst (R i) same r)
    ]
found_more R begin n (Some cap) starts None f h = record {
  begins = f.begins;
  matches = (omega (arith, f.matches.0), f.matches.1);
  leftmost = λ i j b l r. elim (cases_lt j n) [
    | inl before ↦ f.leftmost i j b l (before, r.1)
    | inr here ↦
        let same : j ≡ n = omega (arith, here, r.0) in h i (b, omega (arith, l)) (subst (R i) same r.1)
  ];
  longest = λ j r. elim (cases_lt j n) [
    | inl before ↦ f.longest j (before, r.1)
    | inr here ↦
        let same : j ≡ n = omega (arith, here, r.0) in
        absurd (h cap.from (f.begins, omega arith) (subst (R cap.from) same r.1))
  ];
}
found_more R begin n None starts (Some m) f h = record {
  begins = h.0.0;
  matches = (omega arith, h.1);
  leftmost = λ i j b l r. elim (cases_lt j n) [
    | inl before ↦ f i j b before r.1
    | inr here ↦
        let same : j ≡ n = omega (arith, here, r.0) in
        absurd (omega (arith, l, h.2 i (b, tt) (subst (R i) same r.1)))
  ];
  longest = λ j r. omega (arith, r.0);
}
found_more R begin n (Some cap) starts (Some m) f h = record {
  begins = h.0.0;
  matches = (omega arith, h.1);
  leftmost = λ i j b l r. elim (cases_lt j n) [
    | inl before ↦ f.leftmost i j b (omega (arith, l, h.0.1)) (before, r.1)
    | inr here ↦
        let same : j ≡ n = omega (arith, here, r.0) in
        absurd (omega (arith, l, h.2 i (b, omega (arith, l, h.0.1)) (subst (R i) same r.1)))
  ];
  longest = λ j r. omega (arith, r.0);
}

settled_by : (a : State) (s : List ℕ) (n : ℕ) (best : Option Cap) → n ≤ length s + 1
    → FoundBefore (Matches a s) a.begin n best
    → ((h j : ℕ) → a.begin ≤ h → h ≤ length s → Counts (start_of best) h → Matches a s h j → j < n)
    → (t : Tree) → LeadsAs a.nodes a.entry t → IsSpan s t a.begin best
settled_by a s n None m f late t of = λ h k b spans.
    let leads = of.complete s h k spans in
    let lies = is_part s t spans.0 h k spans.1 spans.2 spans.3 in
    f h k b (late h k b (omega (arith, lies.0, lies.1)) tt leads) leads
settled_by a s n (Some cap) m f late t of =
    let on = goes_on s (node_at a.nodes) f.matches.1.0 a.entry cap.from 0 cap.to f.matches.1.1 in
    let start : cap.from ≤ length s = omega (arith, on, f.matches.0, m) in (
      record {
        begins = f.begins;
        matches = of.sound s cap.from cap.to start f.matches.1;
        leftmost = λ h k b l spans.
            let leads = of.complete s h k spans in
            f.leftmost h k b l (late h k b (omega (arith, l, start)) (omega (arith, l)) leads, leads);
        longest = λ k spans.
            let leads = of.complete s cap.from k spans in
            f.longest k (late cap.from k f.begins start (omega arith) leads, leads);
      },
      omega (arith, f.matches.0, m),
    )

found_within : (R : ℕ → ℕ → Type 0) (begin n at : ℕ) (best : Option Cap) → FoundBefore R begin n best → n ≤ at + 1
    → (cap : Cap) → best ≡ Some cap → cap.to ≤ at
found_within R begin n at best f m cap e =
    let known : FoundBefore R begin n (Some cap) = subst (FoundBefore R begin n) e f in
    omega (arith, known.matches.0, m)

settled : (a : State) (t : Tree) (s : List ℕ) (n : ℕ) → IsFor a t → n ≤ length s + 1 → n ≤ a.at + 1
    → FoundBefore (Matches a s) a.begin n a.best
    → ((h j : ℕ) → a.begin ≤ h → h ≤ length s → Counts (start_of a.best) h → Matches a s h j → j < n)
    → HasFound a t s
settled a t s n of m l f late = record {
  expression = of;
  span = settled_by a s n a.best m f late t of.leads;
  within = found_within (Matches a s) a.begin n a.at a.best f l;
}

-- THE NEXT BYTE

abbrev pub behind : State → List Thread → Bool → Bool → RowTable → Option ℕ → Option ℕ → State
behind a L line searching R begun met = record {
  nodes = a.nodes;
  entry = a.entry;
  begin = a.begin;
  at = a.at + 1;
  best = best_behind a.best (starts_behind a.starts begun a.at) met a.at;
  starts = starts_behind a.starts begun a.at;
  threads = L;
  line = line;
  searching = searching;
  kept = R;
}

goes_is : (a b : State) (byte : ℕ) (begun met : Option ℕ) → GoesTo a b byte begun met
    → b ≡ behind a b.threads (byte == 10) (a.searching && is_none met) b.kept begun met
goes_is a b byte begun met g = λ i. record {
  nodes = g.nodes i;
  entry = g.entry i;
  begin = g.begin i;
  at = g.at i;
  best = (g.best ∙ ap (λ x. best_behind a.best x met a.at) g.starts) i;
  starts = g.starts i;
  threads = b.threads;
  line = g.turns.line i;
  searching = g.turns.searching i;
  kept = b.kept;
}

-- a match is known once one was met
sought_behind : (best : Option Cap) (starts : List ℕ) (searching : Bool) (met : Option ℕ) (n : ℕ) → searching ≡ is_none best
    → (searching && is_none met) ≡ is_none (best_behind best starts met n)
sought_behind best starts searching None n h = and-true searching ∙ h
sought_behind best starts searching (Some m) n h = and-false searching

is_none_start : (best : Option Cap) → is_none (start_of best) ≡ is_none best
is_none_start None = refl
is_none_start (Some cap) = refl

limit_best : (best : Option Cap) (starts : List ℕ) (met : Option ℕ) (n : ℕ)
    → limit_behind (start_of best) (slice_index starts) met ≡ start_of (best_behind best starts met n)
limit_best best starts None n = refl
limit_best best starts (Some m) n = refl

begun_is : (starts : List ℕ) (K : List Thread) (begun : Option ℕ) (n : ℕ)
    → ((slot : ℕ) → begun ≡ Some slot → slot < length starts)
    → ((slot : ℕ) → begun ≡ Some slot → (x : ℕ) → x < length K → origin_in K x ≡ slot → ⊥)
    → Begun (slice_index starts) (slice_index (starts_behind starts begun n)) K begun n
begun_is starts K None n inside free = record {
  same = λ x l. refl;
  here = λ slot e. absurd (none-some slot e);
}
begun_is starts K (Some slot) n inside free = record {
  same = λ x l. get_or-set_other starts slot (origin_in K x) n 0 (free slot refl x l);
  here = λ other e.
      let same = some_same slot other e in
      ap (slice_index (slice_set starts slot n)) (sym same) ∙ get_or-set_same starts slot n 0 (inside slot refl);
}

-- what a step makes of one slice
stands_more : (a : State) (L : List Thread) (next begun met : Option ℕ)
    → IsStep (node_at a.nodes) a.entry a.threads L a.line a.searching next begun met
    → ((slot : ℕ) → begun ≡ Some slot → slot < length a.starts) → (s : List ℕ) → StandsIn a s → a.begin ≤ a.at
    → Shows s a.at next → let new = starts_behind a.starts begun a.at in
    FoundBefore (Matches a s) a.begin (a.at + 1) (best_behind a.best new met a.at)
    × (a.at < length s → StandsAt s (node_at a.nodes) a.entry a.begin (a.at + 1)
    (start_of (best_behind a.best new met a.at)) (slice_index new) L)
stands_more a L next begun met step inside s st b shown =
    let new = starts_behind a.starts begun a.at in
    let first = begun_is a.starts a.threads begun a.at inside step.free in
    let none = is_none_start a.best ∙ sym st.sought in
    let stops = step.stops s a.begin a.at (start_of a.best) (slice_index a.starts) (slice_index new) b none st.stands st.line
    shown first in (
      found_more (Matches a s) a.begin a.at a.best new met st.found stops,
      λ l. subst (λ x. StandsAt s (node_at a.nodes) a.entry a.begin (a.at + 1) x (slice_index new) L)
          (limit_best a.best new met a.at)
          (step.moves s a.begin a.at (start_of a.best) (slice_index a.starts) (slice_index new) b none st.stands st.line shown
          first l),
    )

-- the byte at a place, with what stands before and behind it
pub split_at : (s : List ℕ) (i : ℕ) → i < length s → take i s ++ slice_index s i ∷ drop (i + 1) s ≡ s
split_at s i h =
    let one : suc i ≡ i + 1 = omega arith in
    ap (λ l. take i s ++ l) (sym (drop-cons s i 0 h ∙ ap (λ k. slice_index s i ∷ drop k s) one)) ∙ take-append-drop i s

-- the byte behind a front
shown_at : (front rest : List ℕ) (byte : ℕ) → slice_index (front ++ byte ∷ rest) (length front) ≡ byte
shown_at front rest byte = get_or-append_seam front byte rest 0

front_longer : (front rest : List ℕ) (byte : ℕ) → length front < length (front ++ byte ∷ rest)
front_longer front rest byte = omega (arith, length-append front (byte ∷ rest))

-- a line starts behind a newline
pub line_behind : (s : List ℕ) (n byte : ℕ) → slice_index s n ≡ byte → is_line_start s (n + 1) ≡ (byte == 10)
line_behind s n byte h =
    ap (λ b. b || slice_index s (n + 1 - 1) == 10) (ne_eqb (n + 1) 0 (λ e. omega (arith, e)))
    ∙ ap (λ x. slice_index s x == 10) (one_less n) ∙ ap (λ x. x == 10) h
  where
    one_less : (n : ℕ) → n + 1 - 1 ≡ n
    one_less n = omega arith

split_front : (front rest : List ℕ) (byte : ℕ) → front ++ byte ∷ rest ≡ (front ++ byte ∷ []) ++ rest
split_front front rest byte = sym (append_assoc front (byte ∷ []) rest)

pub seen_more : (a b : State) (t : Tree) (byte : ℕ) (begun met : Option ℕ) (front : List ℕ)
    → GoesTo a b byte begun met → HasSeen a t front → a.begin ≤ a.at → HasSeen b t (front ++ byte ∷ [])
seen_more a b t byte begun met front g seen m =
    let c = behind a b.threads (byte == 10) (a.searching && is_none met) b.kept begun met in
    subst (λ x. HasSeen x t (front ++ byte ∷ [])) (sym (goes_is a b byte begun met g)) (record {
      expression = record { leads = seen.expression.leads; steps = g.turns.steps };
      all = omega (arith, seen.all, length-append front (byte ∷ []));
      stands = λ rest.
          let s = front ++ byte ∷ rest in
          let st = seen.stands (byte ∷ rest) in
          let at : slice_index s a.at ≡ byte = ap (slice_index s) seen.all ∙ shown_at front rest byte in
          let inside : a.at < length s = omega (arith, seen.all, front_longer front rest byte) in
          let both = stands_more a b.threads (Some byte) begun met g.turns.step g.inside s st m (inside, at) in
          subst (StandsIn c) (split_front front rest byte) (record {
            stands = both.1 inside;
            found = both.0;
            line = line_behind s a.at byte at;
            sought = sought_behind a.best (starts_behind a.starts begun a.at) a.searching met a.at st.sought;
          });
    })

past_more : (limit : Option ℕ) (n : ℕ) → Past limit n → Past limit (n + 1)
past_more None n p = tt
past_more (Some last) n p = omega (arith, p)

found_waiting : (a : State) (s : List ℕ) (best : Option Cap) → FoundBefore (Matches a s) a.begin a.at best
    → a.at < a.begin → FoundBefore (Matches a s) a.begin (a.at + 1) best
found_waiting a s None f w = λ h j b l leads.
    omega (arith, b, l, w, goes_on s (node_at a.nodes) leads.0 a.entry h 0 j leads.1)
found_waiting a s (Some cap) f w =
    let leads = f.matches.1 in
    absurd (omega (
      arith,
      f.begins,
      f.matches.0,
      w,
      goes_on s (node_at a.nodes) leads.0 a.entry cap.from 0 cap.to leads.1,
    ))

-- no span is known before a start counts
none_waiting : (a : State) (s : List ℕ) (best : Option Cap) → FoundBefore (Matches a s) a.begin a.at best → a.at < a.begin
    → true ≡ is_none best
none_waiting a s None f w = refl
none_waiting a s (Some cap) f w =
    let leads = f.matches.1 in
    absurd (omega (
      arith,
      f.begins,
      f.matches.0,
      w,
      goes_on s (node_at a.nodes) leads.0 a.entry cap.from 0 cap.to leads.1,
    ))

-- no thread stands anywhere while no start counts
pub no_thread : (s : List ℕ) (T : ℕ → Node) (e begin n : ℕ) (limit : Option ℕ) (σ : ℕ → ℕ) → n ≤ begin → Past limit n
    → StandsAt s T e begin n limit σ []
no_thread s T e begin n limit σ b p = record {
  follows = record {
    arrives = λ x l. absurd (omega (arith, l));
    begins = λ x l. absurd (omega (arith, l));
    counts = λ x l. absurd (omega (arith, l));
    complete = λ h q m c o. absurd (omega (arith, m, b, opened_before s T e n h q o));
    rises = record { rising = λ x y u v. absurd (omega (arith, v)) };
  };
  apart = record { apart = λ x y u v e. absurd (omega (arith, u)) };
  past = p;
}

abbrev pub waited : State → ℕ → State
waited a byte = record a { at = a.at + 1; line = byte == 10; searching = true; threads = [] }

waits_is : (a b : State) (byte : ℕ) → Waits a b byte → b ≡ waited a byte
waits_is a b byte w = λ i. record {
  nodes = w.nodes i;
  entry = w.entry i;
  begin = w.begin i;
  at = w.at i;
  best = w.best i;
  starts = w.starts i;
  threads = w.threads i;
  line = w.line i;
  searching = w.searching i;
  kept = w.kept i;
}

-- while the bytes before `begin` are shown, nothing else is done
pub seen_waiting : (a b : State) (t : Tree) (byte : ℕ) (front : List ℕ) → Waits a b byte → HasSeen a t front
    → a.at < a.begin → HasSeen b t (front ++ byte ∷ [])
seen_waiting a b t byte front waits seen w =
    subst (λ x. HasSeen x t (front ++ byte ∷ [])) (sym (waits_is a b byte waits)) (record {
      expression = record { leads = seen.expression.leads; steps = seen.expression.steps };
      all = omega (arith, seen.all, length-append front (byte ∷ []));
      stands = λ rest.
          let s = front ++ byte ∷ rest in
          let at : slice_index s a.at ≡ byte = ap (slice_index s) seen.all ∙ shown_at front rest byte in
          let old = seen.stands (byte ∷ rest) in
          subst (StandsIn (waited a byte)) (split_front front rest byte) (record {
            stands =
                no_thread s (node_at a.nodes) a.entry a.begin (a.at + 1) (start_of a.best) (slice_index a.starts)
                (omega (arith, w)) (past_more (start_of a.best) a.at old.stands.past);
            found = found_waiting a s a.best old.found w;
            line = line_behind s a.at byte at;
            sought = none_waiting a s a.best old.found w;
          });
    })

-- WHERE NO START COUNTED YET

abbrev started : State → State → ℕ → Bool → State
started a b at line = record b {
  line = line;
  searching = true;
  threads = [];
  at = at;
  best = None;
  nodes = a.nodes;
  entry = a.entry;
  kept = a.kept;
}

fresh_is : (a b : State) (at : ℕ) (line : Bool) → Fresh a b at line → b ≡ started a b at line
fresh_is a b at line f = λ i. record {
  nodes = f.nodes i;
  entry = f.entry i;
  begin = b.begin;
  at = f.at i;
  best = f.best i;
  starts = b.starts;
  threads = f.threads i;
  line = f.line i;
  searching = f.searching i;
  kept = f.kept i;
}

-- whether a line starts behind a front is told by the front
line_front : (front rest : List ℕ) → is_line_start (front ++ rest) (length front) ≡ is_line_start front (length front)
line_front [] rest = refl
line_front (x ∷ xs) rest =
    ap (λ b. length (x ∷ xs) == 0 || b == 10) (get_or-append (x ∷ xs) rest 0 (length (x ∷ xs) - 1) (omega arith))

seen_front : (a b : State) (t : Tree) (front : List ℕ) (line : Bool) → Fresh a b (length front) line
    → is_line_start front (length front) ≡ line → length front ≤ b.begin → IsFor a t → HasSeen b t front
seen_front a b t front line f starts low of =
    subst (λ x. HasSeen x t front) (sym (fresh_is a b (length front) line f)) (record {
      expression = record { leads = of.leads; steps = of.steps };
      all = refl;
      stands = λ rest. record {
        stands =
            no_thread (front ++ rest) (node_at a.nodes) a.entry b.begin (length front) None (slice_index b.starts) low tt;
        found = λ h j m l leads.
            omega (arith, m, l, low, goes_on (front ++ rest) (node_at a.nodes) leads.0 a.entry h 0 j leads.1);
        line = line_front front rest ∙ starts;
        sought = refl;
      };
    })

pub seen_nothing : (a b : State) (t : Tree) → Fresh a b 0 true → IsFor a t → HasSeen b t []
seen_nothing a b t f of = seen_front a b t [] true f refl (omega arith) of

pub seen_part : (a b : State) (t : Tree) (s : List ℕ) (n : ℕ) → n ≤ length s → Fresh a b n (is_line_start s n)
    → n ≤ b.begin → IsFor a t → HasSeen b t (take n s)
seen_part a b t s n within f low of =
    let long : length (take n s) ≡ n = length-take-le n s within in
    let whole : is_line_start (take n s) (length (take n s)) ≡ is_line_start s n =
    sym (line_front (take n s) (drop n s)) ∙ ap (λ x. is_line_start x (length (take n s))) (take-append-drop n s)
    ∙ ap (is_line_start s) long in
    seen_front a b t (take n s) (is_line_start s n) (subst (λ k. Fresh a b k (is_line_start s n)) (sym long) f) whole
    (omega (arith, long, low)) of

-- WHEN THE SPAN IS KNOWN

-- at the slice's end
abbrev pub ended : State → Bool → Bool → List Thread → Option ℕ → Option ℕ → State
ended a line searching L begun met = record {
  nodes = a.nodes;
  entry = a.entry;
  begin = a.begin;
  at = a.at;
  best = best_behind a.best (starts_behind a.starts begun a.at) met a.at;
  starts = starts_behind a.starts begun a.at;
  threads = L;
  line = line;
  searching = searching;
  kept = a.kept;
}

ends_is : (a b : State) (begun met : Option ℕ) → EndsIn a b begun met
    → b ≡ ended a b.line b.searching b.threads begun met
ends_is a b begun met g = λ i. record {
  nodes = g.nodes i;
  entry = g.entry i;
  begin = g.begin i;
  at = g.at i;
  best = (g.best ∙ ap (λ x. best_behind a.best x met a.at) g.starts) i;
  starts = g.starts i;
  threads = b.threads;
  line = b.line;
  searching = b.searching;
  kept = g.kept i;
}

pub found_at_end : (a b : State) (t : Tree) (begun met : Option ℕ) (front : List ℕ) → EndsIn a b begun met
    → HasSeen a t front → a.begin ≤ a.at → HasFound b t front
found_at_end a b t begun met front g seen m =
    subst (λ x. HasFound x t front) (sym (ends_is a b begun met g))
    (let st = subst (StandsIn a) (append-nil front) (seen.stands []) in
    let both = stands_more a g.threads None begun met g.step g.inside front st m seen.all in
    settled (ended a b.line b.searching b.threads begun met) t front (a.at + 1)
    (record { leads = seen.expression.leads; steps = seen.expression.steps }) (omega (arith, seen.all)) (omega arith) both.0
    (λ h j u l c leads. omega (arith, seen.all, stays_in front (node_at a.nodes) leads.0 a.entry h 0 j leads.1 l)))

pub found_waiting_end : (a : State) (t : Tree) (front : List ℕ) → HasSeen a t front → a.at < a.begin → HasFound a t front
found_waiting_end a t front seen w =
    let st = subst (StandsIn a) (append-nil front) (seen.stands []) in
    settled a t front a.at seen.expression (omega (arith, seen.all)) (omega arith) st.found
    (λ h j u l c leads. absurd (omega (arith, u, l, w, seen.all)))

-- where a match is known and no thread is left
pub found_over : (a : State) (t : Tree) (cap : Cap) (front rest : List ℕ) → HasSeen a t front → a.best ≡ Some cap
    → a.threads ≡ [] → HasFound a t (front ++ rest)
found_over a t cap front rest seen known over =
    let s = front ++ rest in
    let st = seen.stands rest in
    let none : length a.threads ≡ 0 = ap length over in
    let last : Past (Some cap.from) a.at = subst (λ x. Past (start_of x) a.at) known st.stands.past in
    settled a t s a.at seen.expression (omega (arith, seen.all, length-append front rest)) (omega arith) st.found
    (λ h j u l c leads.
    elim (cases_lt j a.at) [
      | inl before ↦ before
      | inr behind ↦
          let early : h ≤ cap.from = subst (λ x. Counts (start_of x) h) known c in
          let opened = crosses s (node_at a.nodes) leads.0 a.entry h 0 j a.at leads.1 (omega (arith, early, last)) behind in
          let had = st.stands.follows.complete h opened.0 u c opened.1 in
          absurd (omega (arith, had.inside, none))
    ])

no_threads : (K : List Thread) → length K ≡ 0 → K ≡ []
no_threads [] h = refl
no_threads (t ∷ K) h = absurd (omega (arith, h))

known_best : (a : State) (t : Tree) (best : Option Cap) (front rest : List ℕ) → a.best ≡ best → is_none best ≡ false
    → HasSeen a t front → length a.threads ≡ 0 → HasFound a t (front ++ rest)
known_best a t None front rest e h seen none = absurd (true≢false h)
known_best a t (Some cap) front rest e h seen none = found_over a t cap front rest seen e (no_threads a.threads none)

is_some_of : (best : Option Cap) → is_none best ≡ false → IsSome best
is_some_of None h = absurd (true≢false h)
is_some_of (Some cap) h = refl

pub known_behind : (a b : State) (t : Tree) (byte : ℕ) (begun met : Option ℕ) (front rest : List ℕ)
    → GoesTo a b byte begun met → HasSeen a t front → a.begin ≤ a.at → b.searching ≡ false
    → length b.threads ≡ 0 → HasFound b t (front ++ byte ∷ rest) × IsSome b.best
known_behind a b t byte begun met front rest g seen m known none =
    let later = seen_more a b t byte begun met front g seen m in
    let some : is_none b.best ≡ false = sym (later.stands []).sought ∙ known in (
      subst (HasFound b t) (sym (split_front front rest byte))
          (known_best b t b.best (front ++ byte ∷ []) rest refl some later none),
      is_some_of b.best some,
    )
