-- Counts of a hand that is asked more than once, and what hands leave with other numbers of requests.
-- A count over replies rises at one reply more as it does at that reply; hands and their counts grow at their ends together.
-- The hard one is `recounted_behind`: there may be more hands than counts, and the last ones are recounted.
use Rattle.std.proofs.Common.{◌≡◌, ◌≢◌, ◌∙◌, ◌+◌, ◌≤◌, ◌||◌, ℕ, suc, Bool, true, false, List, [], ◌∷◌, ◌++◌, ap, arith, refl, reverse, subst, sym, true≢false}
use Rattle.std.proofs.lemmas.List.{reverse-append}
use Rattle.std.proofs.lemmas.List.Folds.{list_any-append}
use Rattle.std.specs.List.{list_any}
use Rattle.inner_answers.specs.Inside.{is_broken}
use Rattle.tt_outside.specs.Faults.{Rose}
use Rattle.tt_outside.specs.Gave.{one_more}
use Rattle.tt_outside.specs.declared.crew.Left.{Left}
use Rattle.tt_outside.specs.declared.request.Reply.{Reply}
use Rattle.tt_outside.specs.declared.request.Reply.TheVariants.{Bytes, Written, Missing, Status, TooLarge, Broken}
use Rattle.lit_inproc.specs.Hands.{each_with, recounted, with_asked}
use Rattle.lit_inproc.specs.Inside.{RoseIf, more}

-- ---- counts

-- what a hand tells of its faults at a reply
pub rose_at : (before now : ℕ) (reply : Reply) → (reply ≡ Broken → Rose before now) → (reply ≢ Broken → now ≡ before)
    → RoseIf (is_broken reply) before now
rose_at before now Broken cause calm = cause refl
rose_at before now (Bytes bytes) cause calm = calm (λ is. true≢false (sym (ap is_broken is)))
rose_at before now Written cause calm = calm (λ is. true≢false (sym (ap is_broken is)))
rose_at before now Missing cause calm = calm (λ is. true≢false (sym (ap is_broken is)))
rose_at before now (Status finish out err) cause calm = calm (λ is. true≢false (sym (ap is_broken is)))
rose_at before now (TooLarge stream) cause calm = calm (λ is. true≢false (sym (ap is_broken is)))

-- the counts at one reply more
rose_more : (some last : Bool) (before between now : ℕ) → RoseIf some before between → RoseIf last between now → before ≤ between
    → between ≤ now → RoseIf (some || last) before now
rose_more true last before between now one other up on = omega (arith, one, on)
rose_more false true before between now one other up on = omega (arith, one, other)
rose_more false false before between now one other up on = other ∙ one

or_none : (b : Bool) → (b || false) ≡ b
or_none true = refl
or_none false = refl

pub rose_behind : (replies : List Reply) (reply : Reply) (before between now : ℕ) → RoseIf (list_any is_broken replies) before between
    → RoseIf (is_broken reply) between now → before ≤ between → between ≤ now
    → RoseIf (list_any is_broken (replies ++ reply ∷ [])) before now
rose_behind replies reply before between now one other up on =
    let last : RoseIf (list_any is_broken (reply ∷ [])) between now =
    subst (λ b. RoseIf b between now) (sym (or_none (is_broken reply))) other in
    rw (list_any-append is_broken replies (reply ∷ []))
    (rose_more (list_any is_broken replies) (list_any is_broken (reply ∷ [])) before between now one last up on)

-- and of requests
pub more_behind : (before between now count next : ℕ) → between ≡ more before count → now ≡ one_more between → next ≡ count + 1
    → now ≡ more before next
more_behind before between now count next one other is =
    let step : next ≡ suc count = omega (arith, is) in
    other ∙ ap one_more one ∙ sym (ap (more before) step)

-- ---- what hands leave

-- one hand more
pub recounted_behind : (lefts : List Left) (counts : List ℕ) (left : Left) (asked : ℕ)
    → recounted (lefts ++ left ∷ []) (counts ++ asked ∷ []) ≡ recounted lefts counts ++ with_asked left asked ∷ []
recounted_behind lefts counts left asked =
    rw (reverse-append lefts (left ∷ [])) (rw (reverse-append counts (asked ∷ []))
    (reverse-append (with_asked left asked ∷ []) (each_with (reverse lefts) (reverse counts))))
