-- What walks along bytes, a set, an anchor and a repeated set tell. Each span of a leaf has the end that its length
-- says; a repeated set spans no more than the run of its bytes, and behind the run its follower begins.
-- The hard one is `run_admits`, the run's end.
use Rattle.std.proofs.Common.{◌≡◌, ℕ, ◌+◌, ◌-◌, ◌<◌, ◌≤◌, IsTrue, Option, Some, None, List, length, slice_index, refl, ap, subst, inl, inr, arith}
use Rattle.std.specs.Prelude.{IfSome}
use Rattle.std.specs.List.{Contains}
use Rattle.std.proofs.lemmas.Bool.{cases_lt}
use Rattle.ere_tree.specs.Tree.{Tree, empty, plain, set, line_start, line_end, repeat}
use Rattle.ere_tree.specs.Derivation.{leaf, part, is_line_start, is_line_end, Spans}
use Rattle.ere_tree.proofs.DerivationLemmas.{length-part}
use Rattle.ere_tree.proofs.PartsLemmas.{plain_out, set_out, sets_out, sets_in}
use Rattle.ere_one.specs.Walk.{Tells, Admits, AlwaysSpans, Stand, IsRun, IsApart, limit_of}
use Rattle.ere_one.specs.declared.follow.Follow.{Follow}
use Rattle.ere_one.specs.declared.follow.Follow.TheVariants.{End, Byte, Any}
use Rattle.ere_one.specs.declared.walking.Walked.TheVariants.{Ends, Nowhere}

-- the only end of all, whatever stands behind it
pub one_end : (s : List ℕ) (t : Tree) (at end : ℕ) (follow : Follow) → AlwaysSpans s t at end
    → ((k : ℕ) → Spans s t at k → k ≡ end) → Tells s t follow at (Ends end)
one_end s t at end follow spans only = record {
  spans = spans;
  only = λ k span. admits follow k (only k span);
}
  where
    admits : (follow : Follow) (k : ℕ) → k ≡ end → Admits s follow (Ends end) k
    admits End k is = omega arith
    admits (Byte b) k is = λ h. is
    admits Any k is = is

pub no_end : (s : List ℕ) (t : Tree) (at : ℕ) (follow : Follow) → ((k : ℕ) → Spans s t at k → ⊥)
    → Tells s t follow at Nowhere
no_end s t at follow only = record { spans = tt; only = λ k span. absurd (only k span) }

-- LEAVES

pub bytes_out : (s bytes : List ℕ) (i j : ℕ) → Spans s (plain bytes) i j
    → Stand s bytes i × (j ≡ i + length bytes)
bytes_out s bytes i j (w, c, d, h) =
    let r = plain_out s bytes w i j c d h in
    let end : j ≡ i + length bytes = omega (arith, length-part s i j r.0.0 r.0.1, ap length r.1, r.0.0) in
    (subst (λ n. (n ≤ length s) × (part s i n ≡ bytes)) end (r.0.1, r.1), end)

pub told_bytes : (s bytes : List ℕ) (at : ℕ) (follow : Follow) → Stand s bytes at
    → Tells s (plain bytes) follow at (Ends (at + length bytes))
told_bytes s bytes at follow stand =
    one_end s (plain bytes) at (at + length bytes) follow
    (λ c. (leaf, c, ((omega arith, stand.0), stand.1, refl))) (λ k span. (bytes_out s bytes at k span).1)

pub told_set : (s bytes : List ℕ) (at : ℕ) (follow : Follow) → at < length s → Contains bytes (slice_index s at)
    → Tells s (set bytes) follow at (Ends (at + 1))
told_set s bytes at follow within has =
    one_end s (set bytes) at (at + 1) follow
    (λ c. (leaf, c, (refl, within, has, refl))) (λ k span. (set_out s bytes span.0 at k span.1 span.2 span.3).0)

pub told_empty : (s : List ℕ) (at : ℕ) (follow : Follow) → at ≤ length s → Tells s empty follow at (Ends at)
told_empty s at follow within = one_end s empty at at follow (λ c. (leaf, c, (refl, within, refl))) out
  where
    out : (k : ℕ) → Spans s empty at k → k ≡ at
    out k (leaf, c, d, h) = h.0
    out k (w, c, d, h) = absurd h

pub told_line_start : (s : List ℕ) (at : ℕ) (follow : Follow) → IsTrue (is_line_start s at)
    → Tells s line_start follow at (Ends at)
told_line_start s at follow is = one_end s line_start at at follow (λ c. (leaf, c, (refl, is, refl))) out
  where
    out : (k : ℕ) → Spans s line_start at k → k ≡ at
    out k (leaf, c, d, h) = h.0
    out k (w, c, d, h) = absurd h

pub told_line_end : (s : List ℕ) (at : ℕ) (follow : Follow) → IsTrue (is_line_end s at)
    → Tells s line_end follow at (Ends at)
told_line_end s at follow is = one_end s line_end at at follow (λ c. (leaf, c, (refl, is, refl))) out
  where
    out : (k : ℕ) → Spans s line_end at k → k ≡ at
    out k (leaf, c, d, h) = h.0
    out k (w, c, d, h) = absurd h

-- A REPEATED SET

-- no span of it ends behind the run, nor before the least is reached
within_run : (s bytes : List ℕ) (least : ℕ) (most : Option ℕ) (at end k : ℕ)
    → IsRun s bytes at (limit_of s at most) end → Spans s (repeat (set bytes) least most) at k
    → (at + least ≤ k) × (k ≤ end)
within_run s bytes least most at end k run (w, c, d, h) =
    let r = sets_out s bytes least most w at k c d h in
    let low : at + least ≤ k = omega (arith, r.0.0, r.1.0) in
    elim (cases_lt end k) [
      | inl past ↦ absurd (run.stops (below most r.0.1 past r.1.1) (r.2 end run.from past))
      | inr fits ↦ (low, fits)
    ]
  where
    below : (most : Option ℕ) → IfSome most (λ n. k - at ≤ n) → end < k → k ≤ length s → end < limit_of s at most
    below None fits past within = omega arith
    below (Some n) fits past within = omega arith

pub too_few : (s bytes : List ℕ) (least : ℕ) (most : Option ℕ) (follow : Follow) (at end : ℕ)
    → IsRun s bytes at (limit_of s at most) end → end - at < least
    → Tells s (repeat (set bytes) least most) follow at Nowhere
too_few s bytes least most follow at end run few =
    no_end s (repeat (set bytes) least most) at follow (λ k span.
    let r = within_run s bytes least most at end k run span in omega (arith, r.0, r.1, run.from))

-- the run is spanned
run_spans : (s bytes : List ℕ) (least : ℕ) (most : Option ℕ) (at end : ℕ) → at ≤ length s
    → IsRun s bytes at (limit_of s at most) end → least ≤ end - at → AlwaysSpans s (repeat (set bytes) least most) at end
run_spans s bytes least most at end here run enough c =
    let r = fits most run.to in
    let found = sets_in s bytes least most at end c (enough, r.0) (run.from, r.1) run.inside in
    (found.0, c, found.1)
  where
    fits : (most : Option ℕ) → end ≤ limit_of s at most → IfSome most (λ n. end - at ≤ n) × (end ≤ length s)
    fits None to = (tt, to)
    fits (Some n) to = (omega arith, omega arith)

pub just_enough : (s bytes : List ℕ) (least : ℕ) (most : Option ℕ) (follow : Follow) (at end : ℕ) → at ≤ length s
    → IsRun s bytes at (limit_of s at most) end → end - at ≡ least
    → Tells s (repeat (set bytes) least most) follow at (Ends end)
just_enough s bytes least most follow at end here run just =
    one_end s (repeat (set bytes) least most) at end follow
    (run_spans s bytes least most at end here run (omega arith))
    (λ k span. let r = within_run s bytes least most at end k run span in omega (arith, r.0, r.1, run.from))

-- before the run's end what stands behind can't begin
pub run_admits : (s bytes : List ℕ) (least : ℕ) (most : Option ℕ) (follow : Follow) (at end : ℕ) → at ≤ length s
    → IsRun s bytes at (limit_of s at most) end → least ≤ end - at → IsApart bytes follow
    → Tells s (repeat (set bytes) least most) follow at (Ends end)
run_admits s bytes least most follow at end here run enough apart = record {
  spans = run_spans s bytes least most at end here run enough;
  only = λ k span. admits follow apart k (within_run s bytes least most at end k run span);
}
  where
    within : (most : Option ℕ) → end ≤ limit_of s at most → end ≤ length s
    within None to = to
    within (Some n) to = omega arith

    admits : (follow : Follow) → IsApart bytes follow → (k : ℕ) → (at + least ≤ k) × (k ≤ end)
        → Admits s follow (Ends end) k
    admits End apart k r = r.1
    admits (Byte b) apart k r = λ begins. elim (cases_lt k end) [
      | inl before ↦
          let low : at ≤ k = omega (arith, r.0) in
          let lies : k < length s = omega (arith, within most run.to) in
          absurd (apart (subst (Contains bytes) (begins lies) (run.inside k low before)))
      | inr same ↦ omega (arith, r.1)
    ]
    admits Any apart k r = absurd apart
