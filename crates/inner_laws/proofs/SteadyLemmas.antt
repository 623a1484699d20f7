-- A crew whose hands answer some requests by themselves is steady where the crew in it is.
-- By induction over what is asked: one reply to each, so one list of replies, and one reply over these.
use Rattle.std.proofs.Common.{◌≡◌, ◌∙◌, Bool, true, false, List, [], ◌∷◌, ap, subst, sym}
use Rattle.inner_answers.specs.Inside.{IsReplyInside, asked_inside, is_inside}
use Rattle.tt_outside.specs.Gave.{Gave}
use Rattle.tt_outside.specs.declared.request.Reply.{Reply}
use Rattle.tt_outside.specs.declared.request.Request.{Request}
use Rattle.lit_inproc.specs.Inside.{AreGiven, GivenIf, Gives, StaysSteady}
use Rattle.inner_laws.proofs.InsideLemmas.{one_reply}

-- at most one reply is given to a request
abbrev GivesOne : Gives → Type 0
GivesOne gives = (request : Request) (one other : Reply) → gives request one → gives request other → one ≡ other

one_list : (gives : Gives) → GivesOne gives → (asked : List Request) (one other : List Reply)
    → AreGiven gives asked one → AreGiven gives asked other → one ≡ other
one_list gives steady [] one other a b = a ∙ sym b
one_list gives steady (request ∷ asked) [] other a b = absurd a
one_list gives steady (request ∷ asked) (x ∷ xs) [] a b = absurd b
one_list gives steady (request ∷ asked) (x ∷ xs) (y ∷ ys) a b =
    ap (λ reply. reply ∷ xs) (steady request x y a.0 b.0) ∙ ap (λ replies. y ∷ replies) (one_list gives steady asked xs ys a.1 b.1)

one_if : (inside : Bool) (gives : Gives) → GivesOne gives → (request : Request) (one other : Reply)
    → GivenIf inside gives request one → GivenIf inside gives request other → one ≡ other
one_if true gives steady request one other a b =
    let same : a.0 ≡ b.0 = one_list gives steady (asked_inside request) a.0 b.0 a.1 b.1 in
    one_reply request b.0 one other (subst (λ replies. IsReplyInside request replies one) same a.2) b.2
one_if false gives steady request one other a b = steady request one other a b

pub steady_inside : (gave : Gave) → StaysSteady gave
steady_inside gave steady test earlier request one other =
    one_if (is_inside request) (gave test earlier) (λ asked. steady test earlier asked) request one other
