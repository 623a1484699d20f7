-- States that lead to a match: a task that is taken off, tasks that are put on, and a place and groups that change.
-- Each is a lemma on the step that is done first; what the tasks of the expression's forms do is told form by form.
-- None is hard: `last_of` takes the task apart that is done first.
use Rattle.std.proofs.Common.{◌≡◌, ℕ, zero, suc, ◌+◌, ◌-◌, ◌<◌, ◌≤◌, Bool, false, IsTrue, Option, Some, None, IfSome, List, [], ◌∷◌, ◌++◌, length, refl, sym, ap, ◌∙◌, subst, inl, inr, arith, true≢false}
use Rattle.std.specs.Prelude.{Vec}
use Rattle.std.specs.declared.alloc.Global.{Global}
use Rattle.std.specs.FinMap as fin
use Rattle.std.specs.FinMap.{get, insert}
use Rattle.std.specs.List.{Contains, slice_get}
use Rattle.std.proofs.lemmas.Option.{none-some}
use Rattle.ere_tree.proofs.CapturesLemmas.{some_same}
use Rattle.std.proofs.lemmas.List.Elements.{Contains-append_left, Contains-push, Contains-push_cases}
use Rattle.ere_captures.proofs.KeepLemmas.{get_other, get_set}
use Rattle.ere_places.proofs.SpanLemmas.{spans_from}
use Rattle.ere_places.specs.Places.{Finds, is_leaf}
use Rattle.ere_places.specs.declared.window.Direction.TheVariants.{Ahead}
use Rattle.ere_tree.proofs.PartsLemmas.{alt_out, repeat_out}
use Rattle.ere_tree.specs.Captures.{Captures}
use Rattle.ere_tree.specs.Derivation.{Way, Ways, leaf, members, chosen, inside, done, next, CanRepeat, Derives, DerivesAll, DerivesEach, Spans, count_of}
use Rattle.ere_tree.specs.Shape.{has_refs}
use Rattle.ere_tree.specs.Tree.{Tree, Trees, empty, plain, set, line_start, line_end, cat, alt, repeat, group, back, then}
use Rattle.ere_tree.specs.View.{view}
use Rattle.ere_dive.specs.declared.open.Site.{Site}
use Rattle.ere_dive.specs.declared.task.Held.{Held}
use Rattle.ere_dive.specs.declared.task.State.{State}
use Rattle.ere_dive.specs.declared.task.Task.{Task}
use Rattle.ere_dive.specs.declared.task.What.{What}
use Rattle.ere_dive.specs.Dive.{AllLead, Step, Stays, Does, DoesTask, DoesTasks, FitsText, IsClosed, IsCopy, IsPushed, LeadsBy, LeadsTo, LetsOneMore, Matches, Shows, StandsTo}

-- a step, and then another
abbrev pub Both : Step → Step → Step
Both D E p q c d = (r : ℕ) × (e : Captures) × D p r c e × E r q e d

-- TASKS

pub last_of : (s : List ℕ) (xs : List Task) (x : Task) (p q : ℕ) (c d : Captures) → DoesTasks s (xs ++ x ∷ []) p q c d
    → Both (DoesTask s x.what) (DoesTasks s xs) p q c d
last_of s [] x p q c d (r, e, (same, kept), does) =
    let here = subst (λ n. DoesTask s x.what n q c d) same (subst (λ f. DoesTask s x.what r q f d) kept does) in
    (q, d, here, (refl, refl))
last_of s (y ∷ xs) x p q c d (r, e, others, does) =
    let k = last_of s xs x p r c e others in (k.0, k.1, k.2, (r, e, k.3, does))

pub with_last : (s : List ℕ) (xs : List Task) (x : Task) (p r q : ℕ) (c e d : Captures) → DoesTask s x.what p r c e
    → DoesTasks s xs r q e d → DoesTasks s (xs ++ x ∷ []) p q c d
with_last s [] x p r q c e d does (same, kept) =
    let there = subst (λ n. DoesTask s x.what p n c d) (sym same) (subst (λ f. DoesTask s x.what p r c f) (sym kept) does) in
    (p, c, (refl, refl), there)
with_last s (y ∷ xs) x p r q c e d does (k, f, others, last) =
    (k, f, with_last s xs x p r k c e f does others, last)

-- STATES

pub popped : (site : Site) (state rest : State) (task : Task) → state.tasks.items ≡ rest.tasks.items ++ task ∷ []
    → rest.place ≡ state.place → rest.held.items ≡ state.held.items → LeadsTo site state
    → LeadsBy site (DoesTask site.text.now task.what) rest
popped site state rest task tasks place held leads =
    let s = site.text.now in
    record {
      captures = leads.captures;
      shows = subst (λ (h : List Held). Shows h leads.captures) (sym held) leads.shows;
      inside = omega (arith, place, leads.inside);
      ends = λ r e d does others.
          leads.ends state.place leads.captures d (refl, refl)
          (subst (λ (xs : List Task). DoesTasks s xs state.place site.high leads.captures d) (sym tasks)
          (with_last s rest.tasks.items task state.place r site.high leads.captures e d
          (subst (λ n. DoesTask s task.what n r leads.captures e) place does) others));
    }

pub pushed : (site : Site) (D E : Step) (what : What) (old new : State) → IsPushed what old new
    → ((q : ℕ) (c d : Captures) → Both D (DoesTask site.text.now what) old.place q c d → E old.place q c d)
    → LeadsBy site E old → LeadsBy site D new
pushed site D E what old new is within leads =
    let s = site.text.now in
    record {
      captures = leads.captures;
      shows = subst (λ (h : List Held). Shows h leads.captures) (sym is.held) leads.shows;
      inside = omega (arith, is.place, leads.inside);
      ends = λ r e d first others.
          let k = last_of s old.tasks.items is.task r site.high e d
          (subst (λ (xs : List Task). DoesTasks s xs r site.high e d) is.tasks others) in
          let does = subst (λ (x : What). DoesTask s x r k.0 e k.1) is.is k.2 in
          let begun = subst (λ n. D n r leads.captures e) is.place first in
          leads.ends k.0 k.1 d (within k.0 leads.captures k.1 (r, e, begun, does)) k.3;
    }

-- a step that does less
pub weaker : (site : Site) (D E : Step) (state : State)
    → ((q : ℕ) (c d : Captures) → D state.place q c d → E state.place q c d) → LeadsBy site E state → LeadsBy site D state
weaker site D E state within leads = record {
  captures = leads.captures;
  shows = leads.shows;
  inside = leads.inside;
  ends = λ r e d first others. leads.ends r e d (within r leads.captures e first) others;
}

-- the last of them
pub pushed_last : (site : Site) (E : Step) (what : What) (old new : State) → IsPushed what old new
    → ((q : ℕ) (c d : Captures) → DoesTask site.text.now what old.place q c d → E old.place q c d) → LeadsBy site E old
    → LeadsTo site new
pushed_last site E what old new is within leads =
    let s = site.text.now in
    pushed site Stays E what old new is
    (λ q c d (r, e, (same, kept), does).
    within q c d (subst (λ n. DoesTask s what n q c d) same (subst (λ f. DoesTask s what r q f d) kept does))) leads

pub moved : (site : Site) (D : Step) (old new : State) → new.tasks.items ≡ old.tasks.items → new.place ≤ site.high
    → ((c : Captures) → Shows old.held.items c
    → (e : Captures) × D old.place new.place c e × Shows new.held.items e)
    → LeadsBy site D old → LeadsTo site new
moved site D old new tasks low step leads =
    let s = site.text.now in
    let k = step leads.captures leads.shows in
    record {
      captures = k.0;
      shows = k.2;
      inside = low;
      ends = λ r e d (same, kept) others.
          leads.ends new.place k.0 d k.1
          (subst (λ n. DoesTasks s old.tasks.items n site.high k.0 d) same
          (subst (λ f. DoesTasks s old.tasks.items r site.high f d) kept
          (subst (λ (xs : List Task). DoesTasks s xs r site.high e d) tasks others)));
    }

-- where only the place changes
pub gone_on : (site : Site) (D : Step) (old new : State) → new.tasks.items ≡ old.tasks.items
    → new.held.items ≡ old.held.items → new.place ≤ site.high
    → ((c : Captures) → Shows old.held.items c → D old.place new.place c c) → LeadsBy site D old → LeadsTo site new
gone_on site D old new tasks held low step leads =
    moved site D old new tasks low
    (λ c shows. (c, step c shows, subst (λ (h : List Held). Shows h c) (sym held) shows)) leads

pub copied : (site : Site) (D : Step) (old new : State) → IsCopy old new → LeadsBy site D old → LeadsBy site D new
copied site D old new is leads =
    let s = site.text.now in
    record {
      captures = leads.captures;
      shows = subst (λ (h : List Held). Shows h leads.captures) (sym is.held) leads.shows;
      inside = omega (arith, is.place, leads.inside);
      ends = λ r e d first others.
          leads.ends r e d (subst (λ n. D n r leads.captures e) is.place first)
          (subst (λ (xs : List Task). DoesTasks s xs r site.high e d) is.tasks others);
    }

-- one more of them
pub one_more_leads : (site : Site) (old new : List State) (state : State) → new ≡ old ++ state ∷ [] → AllLead site old
    → LeadsTo site state → AllLead site new
one_more_leads site old new state is all leads other at =
    elim (Contains-push_cases old state other (subst (λ (xs : List State). Contains xs other) is at)) [
      | inl was ↦ all other was
      | inr same ↦ subst (LeadsTo site) same leads
    ]

pub none_lead : (site : Site) (states : List State) → states ≡ [] → AllLead site states
none_lead site states is state at =
    absurd (let few = subst (λ (xs : List State). Contains xs state) is at in omega (arith, few.1))

-- the last of them, and the others
pub last_leads : (site : Site) (all rest : List State) (state : State) → all ≡ rest ++ state ∷ [] → AllLead site all
    → LeadsTo site state × AllLead site rest
last_leads site all rest state is leads = (
  leads state (subst (λ (xs : List State). Contains xs state) (sym is) (Contains-push rest state)),
  λ other at. leads other
      (subst (λ (xs : List State). Contains xs other) (sym is) (Contains-append_left rest (state ∷ []) other at)),
)

-- where nothing is left to do at the span's end
pub finished : (site : Site) (state : State) → state.tasks.items ≡ [] → state.place ≡ site.high → LeadsTo site state
    → Matches site.text.now (view site.whole.now) site.low site.high
finished site state tasks place leads =
    leads.ends state.place leads.captures leads.captures (refl, refl)
    (subst (λ (xs : List Task). DoesTasks site.text.now xs state.place site.high leads.captures leads.captures) (sym tasks)
    (sym place, refl))

-- where it begins
pub begins : (site : Site) (first : State) → first.tasks.items ≡ [] → first.held.items ≡ [] → first.place ≡ site.low
    → site.low ≤ site.high → LeadsBy site (Does site.text.now (view site.whole.now)) first
begins site first tasks held place order =
    let s = site.text.now in
    let t = view site.whole.now in
    record {
      captures = fin.empty;
      shows = λ one at. absurd (let few = subst (λ (h : List Held). Contains h one) held at in omega (arith, few.1));
      inside = omega (arith, place, order);
      ends = λ r e d does others.
          let rest = subst (λ (xs : List Task). DoesTasks s xs r site.high e d) tasks others in (
            e,
            subst (λ n. Does s t n site.high fin.empty e) place
                (subst (λ n. Does s t first.place n fin.empty e) (sym rest.0) does),
          );
    }

-- FORMS OF EXPRESSIONS

one_is : (p q : ℕ) → Contains (p ∷ []) q → p ≡ q
one_is p q (zero, low, at) = at
one_is p q (suc n, low, at) = absurd (omega (arith, low))

pub leaf_free : (t : Tree) → IsTrue (is_leaf t) → has_refs t ≡ false
leaf_free empty is = refl
leaf_free (plain bytes) is = refl
leaf_free (set bytes) is = refl
leaf_free line_start is = refl
leaf_free line_end is = refl
leaf_free (cat ts) is = absurd (true≢false (sym is))
leaf_free (alt ts) is = absurd (true≢false (sym is))
leaf_free (repeat t least most) is = absurd (true≢false (sym is))
leaf_free (group number t) is = absurd (true≢false (sym is))
leaf_free (back number fold) is = absurd (true≢false (sym is))

leaf_keeps : (s : List ℕ) (t : Tree) (w : Way) (p q : ℕ) (c d : Captures) → IsTrue (is_leaf t) → Derives s t w p q c d → d ≡ c
leaf_keeps s empty leaf p q c d is h = h.2
leaf_keeps s (plain bytes) leaf p q c d is h = h.2
leaf_keeps s (set bytes) leaf p q c d is h = h.3
leaf_keeps s line_start leaf p q c d is h = h.2
leaf_keeps s line_end leaf p q c d is h = h.2
leaf_keeps s (cat ts) w p q c d is h = absurd (true≢false (sym is))
leaf_keeps s (alt ts) w p q c d is h = absurd (true≢false (sym is))
leaf_keeps s (repeat t least most) w p q c d is h = absurd (true≢false (sym is))
leaf_keeps s (group number t) w p q c d is h = absurd (true≢false (sym is))
leaf_keeps s (back number fold) w p q c d is h = absurd (true≢false (sym is))
leaf_keeps s t w p q c d is h = absurd h

pub leaf_does : (s : List ℕ) (t : Tree) (p q : ℕ) (c : Captures) → IsTrue (is_leaf t) → Spans s t p q → Does s t p q c c
leaf_does s t p q c is spans =
    let k = spans_from s t p q (leaf_free t is) spans c in
    (k.0, subst (Derives s t k.0 p q c) (leaf_keeps s t k.0 p q c k.1 is k.2) k.2)

pub first_of : (xs : List ℕ) (x : ℕ) → Some x ≡ slice_get xs 0 → Contains xs x
first_of [] x is = absurd (none-some x (sym is))
first_of (y ∷ xs) x is = (0, omega arith, some_same y x (sym is))

-- the first of the ends from one place
pub first_end : (s : List ℕ) (t : Tree) (place high end : ℕ) (ends : Vec ℕ Global)
    → Finds s t (record { low = place; high = high; direction = Ahead }) (place ∷ []) ends → Contains ends.items end
    → Spans s t place end × (end ≤ high)
first_end s t place high end ends finds at =
    let from = (finds end).0 at in
    (subst (λ n. Spans s t n end) (sym (one_is place from.0 from.1)) from.2.0, from.2.1.1)

-- parts
pub part_first : (s : List ℕ) (t : Tree) (ts : Trees) (p q : ℕ) (c d : Captures)
    → Both (Does s t) (λ p q c d. (ws : Ways) × DerivesAll s ts ws p q c d) p q c d
    → (ws : Ways) × DerivesAll s (then t ts) ws p q c d
part_first s t ts p q c d (r, e, (w, h), (ws, g)) = (next r w ws, (e, h, g))

-- alternatives
pub choice_first : (s : List ℕ) (t : Tree) (ts : Trees) (p q : ℕ) (c d : Captures) → Does s t p q c d
    → Does s (alt (then t ts)) p q c d
choice_first s t ts p q c d (w, h) = (chosen 0 w, (t, refl, h))

pub choice_later : (s : List ℕ) (t : Tree) (ts : Trees) (p q : ℕ) (c d : Captures) → Does s (alt ts) p q c d
    → Does s (alt (then t ts)) p q c d
choice_later s t ts p q c d (w, h) =
    let one = alt_out s ts w p q c d h in (chosen (suc one.0) one.1, (one.2, one.3, one.4))

-- members of a repeat
least_none : (most : Option ℕ) → IfSome most (λ n. 0 ≤ n)
least_none None = tt
least_none (Some n) = omega arith

pub ended : (s : List ℕ) (t : Tree) (most : Option ℕ) (p : ℕ) (c : Captures) → p ≤ length s
    → Does s (repeat t 0 most) p p c c
ended s t most p c low = (members done, ((omega arith, least_none most), (refl, low, refl)))

pub no_more : (site : Site) (t : Tree) (least : ℕ) (most : Option ℕ) (state : State) → FitsText site → least ≤ 0
    → LeadsBy site (Does site.text.now (repeat t least most)) state → LeadsTo site state
no_more site t least most state fits few leads =
    let s = site.text.now in
    let is : 0 ≡ least = omega (arith, few) in
    gone_on site (Does s (repeat t least most)) state state refl refl leads.inside
    (λ c shows. subst (λ n. Does s (repeat t n most) state.place state.place c c) is
    (ended s t most state.place c (omega (arith, leads.inside, fits.1)))) leads

pub beyond : (s : List ℕ) (t : Tree) (place p q : ℕ) (c d : Captures)
    → Both (Does s t) (λ p q c d. (place < p) × (q ≡ p) × (d ≡ c)) p q c d → Does s t p q c d × (place < q)
beyond s t place p q c d (r, e, does, (past, same, kept)) = (
  subst (λ n. Does s t p n c d) (sym same) (subst (λ f. Does s t p r c f) (sym kept) does),
  omega (arith, past, same),
)

each_next : (s : List ℕ) (t : Tree) (least : ℕ) (w : Way) (ws : Ways) (p k q : ℕ) (c e d : Captures)
    → Derives s t w p k c e → (least ≡ 0 → p < k) → DerivesEach s t (least - 1) ws k q e d
    → DerivesEach s t least (next k w ws) p q c d
each_next s t zero w ws p k q c e d h beyond others = (e, h, beyond refl, others)
each_next s t (suc least) w ws p k q c e d h beyond others =
    let fewer : suc least - 1 ≡ least = omega arith in
    (e, h, subst (λ n. DerivesEach s t n ws k q e d) fewer others)

pub member_first : (s : List ℕ) (t : Tree) (least : ℕ) (most fewer : Option ℕ) (p k q : ℕ) (c e d : Captures)
    → LetsOneMore most fewer → Does s t p k c e → (least ≡ 0 → p < k) → Does s (repeat t (least - 1) fewer) k q e d
    → Does s (repeat t least most) p q c d
member_first s t least most fewer p k q c e d lets (w, h) beyond (v, others) =
    let all = repeat_out s t (least - 1) fewer v k q e d others in
    let can : CanRepeat least most (count_of all.0 + 1) =
    (omega (arith, all.1.0), lets (count_of all.0) all.1.1) in
    (members (next k w all.0), (can, each_next s t least w all.0 p k q c e d h beyond all.2))

-- groups
pub group_ends : (s : List ℕ) (t : Tree) (number p k q : ℕ) (c e d : Captures) → Does s t p k c e
    → (q ≡ k) × (d ≡ insert e number (p, k)) → Does s (group number t) p q c d
group_ends s t number p k q c e d (w, h) (same, sets) =
    subst (λ n. Does s (group number t) p n c d) (sym same) (inside w, (e, h, sets))

abbrev pair : ℕ → ℕ → Option (ℕ × ℕ)
pair i j = Some (i, j)

pub closed_shows : (number from to : ℕ) (held found : List Held) (c : Captures) → IsClosed number from to held found
    → Shows held c → Shows found (insert c number (from, to))
closed_shows number from to held found c closed shows one at = elim (closed one at) [
  | inl (own, first, last) ↦
      ap (get (insert c number (from, to))) own ∙ get_set c number (from, to)
      ∙ ap (λ (i : ℕ). pair i to) (sym first) ∙ ap (pair one.part.from) (sym last)
  | inr (was, other) ↦ get_other c number (from, to) one.number other ∙ shows one was
]

-- references
pub refers : (site : Site) (number : ℕ) (fold : Bool) (p q : ℕ) (c : Captures) (one : Held) (held : List Held)
    → Contains held one → one.number ≡ number → StandsTo site p one.part.from one.part.to fold q → Shows held c
    → Does site.text.now (back number fold) p q c c
refers site number fold p q c one held at own stands shows =
    (leaf, ((one.part.from, one.part.to), subst (λ n. get c n ≡ Some (one.part.from, one.part.to)) own (shows one at), stands.0, stands.2, refl))
