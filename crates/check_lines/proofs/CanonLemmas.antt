-- The canonical form in place.
-- Shown: what is put so far, before the form of what is left, is the form of the whole, by chunks and by bytes.
-- The hard one is `chunk_put`, where a chunk is decided by its flags before one of its bytes moves.
use Rattle.std.proofs.Common.{◌≡◌, ℕ, zero, suc, ◌+◌, ◌-◌, ◌<◌, ◌≤◌, Bool, true, false, List, [], ◌∷◌, ◌++◌, length, get_or, take, drop, refl, sym, ◌∙◌, ap, arith, map, append_assoc, drop-cons, add-one, length-drop, take_all, cond}
use Rattle.std.proofs.lemmas.List.{drop_all, drop-drop, drop-set-lt, get_or-drop, take-set}
use Rattle.std.proofs.lemmas.Grind.{take-set_at}
use Rattle.std.proofs.Math.ListN.{set}
use Rattle.std.proofs.Math.Seq.{paste}
use Rattle.std.specs.Prelude.{replicate}
use Rattle.std.proofs.lemmas.List.Edits.{drop-paste}
use Rattle.std.proofs.lemmas.Slice.{put_mid-paste}
use borrow.Rule.Slice.PartMut.{put_mid}
use mir.Val.{bool_byte}
use Rattle.check_lines.specs.Canonical.{canon, is_kept, shown}
use Rattle.check_lines.specs.Chunk.{flagged, kept_flags}

-- what is left of a text, as the code slices it
pub rest_of : (text : List ℕ) (at : ℕ) → take (length text - at) (drop at text) ≡ drop at text
rest_of text at = take_all (length text - at) (drop at text) (omega (arith, length-drop at text))

-- ---- a byte at an offset

first_of : (text : List ℕ) (at : ℕ) → get_or (drop at text) 0 0 ≡ get_or text at 0
first_of text at =
    let here : at + 0 ≡ at = omega arith in
    get_or-drop at text 0 0 ∙ ap (λ n. get_or text n 0) here

opened : (text : List ℕ) (at : ℕ) → at < length text → drop at text ≡ get_or text at 0 ∷ drop (at + 1) text
opened text at within = drop-cons text at 0 within ∙ ap (λ n. get_or text at 0 ∷ drop n text) (sym (add-one at))

canon-drop : (strict : Bool) (text : List ℕ) (at : ℕ) → at < length text → canon strict (drop at text)
    ≡ cond (is_kept strict (get_or text at 0) (get_or text (at + 1) 0))
    (shown strict (get_or text at 0) ∷ canon strict (drop (at + 1) text)) (canon strict (drop (at + 1) text))
unfolding canon
canon-drop strict text at within =
    let later = canon strict (drop (at + 1) text) in
    ap (canon strict) (opened text at within)
    ∙ ap (λ n. cond (is_kept strict (get_or text at 0) n) (shown strict (get_or text at 0) ∷ later) later)
    (first_of text (at + 1))

-- ---- a chunk

-- the first bytes of a text by their flags, and the form of the others
pub canon_split : (strict : Bool) (n : ℕ) (text : List ℕ) → canon strict text
    ≡ flagged (take n (kept_flags strict text)) (map (shown strict) (take n text)) ++ canon strict (drop n text)
unfolding canon kept_flags flagged
canon_split strict zero text = refl
canon_split strict (suc n) [] = refl
canon_split strict (suc n) (byte ∷ rest) =
    split_by (is_kept strict byte (get_or rest 0 0)) (shown strict byte) _ _ _ (canon_split strict n rest)
  where
    split_by : (kept : Bool) (byte : ℕ) (later front behind : List ℕ) → later ≡ front ++ behind
        → cond kept (byte ∷ later) later ≡ cond kept (byte ∷ front) front ++ behind
    split_by true byte later front behind is = ap (λ l. byte ∷ l) is
    split_by false byte later front behind is = is

-- the form of a text, of which a chunk was put
pub chunk_put : (strict : Bool) (text new chunk : List ℕ) (kept : List Bool) (done to at n : ℕ)
    → kept ≡ take n (kept_flags strict (drop at text)) → chunk ≡ map (shown strict) (take n (drop at text))
    → take to new ≡ take done text ++ flagged kept chunk → drop (at + n) new ≡ drop (at + n) text
    → take to new ++ canon strict (drop (at + n) new) ≡ take done text ++ canon strict (drop at text)
chunk_put strict text new chunk kept done to at n kept_are chunk_is front rest =
    let left = canon strict (drop (at + n) text) in
    let split = canon_split strict n (drop at text)
    ∙ ap (λ l. flagged (take n (kept_flags strict (drop at text))) (map (shown strict) (take n (drop at text)))
    ++ canon strict l) (drop-drop n at text) in
    ap (λ l. take to new ++ canon strict l) rest ∙ ap (λ l. l ++ left) front
    ∙ append_assoc (take done text) (flagged kept chunk) left
    ∙ ap (λ k. take done text ++ (flagged k chunk ++ left)) kept_are
    ∙ ap (λ b. take done text ++ (flagged (take n (kept_flags strict (drop at text))) b ++ left)) chunk_is
    ∙ ap (λ l. take done text ++ l) (sym split)

-- a chunk where each flag is set is put as it is
pub flagged_all : (n : ℕ) (bytes : List ℕ) → length bytes ≡ n → flagged (replicate n true) bytes ≡ bytes
unfolding flagged
flagged_all zero [] long = refl
flagged_all zero (byte ∷ bytes) long = cc
flagged_all (suc n) [] long = cc
flagged_all (suc n) (byte ∷ bytes) long = ap (λ l. byte ∷ l) (flagged_all n bytes (omega (arith, long)))

-- a byte is written, and counts where it is kept; `form` says what the bytes from an offset on give
pub put_next : (text : List ℕ) (to : ℕ) (kept : Bool) (byte : ℕ) (later whole : List ℕ) → to < length text
    → take to text ++ cond kept (byte ∷ later) later ≡ whole
    → take (to + bool_byte kept) (set text to byte) ++ later ≡ whole
put_next text to true byte later whole within so_far =
    ap (λ l. l ++ later) (take-set_at text to (to + 1) byte refl within)
    ∙ append_assoc (take to text) (byte ∷ []) later ∙ so_far
put_next text to false byte later whole within so_far =
    let count : to + 0 ≡ to = omega arith in
    ap (λ n. take n (set text to byte) ++ later) count
    ∙ ap (λ l. l ++ later) (take-set text to byte) ∙ so_far

-- a byte of a text is put where something stands for it
pub canon_next : (strict : Bool) (text : List ℕ) (to k : ℕ) (kept : Bool) (byte : ℕ) (whole : List ℕ) → k < length text
    → to ≤ k → kept ≡ is_kept strict (get_or text k 0) (get_or text (k + 1) 0) → byte ≡ shown strict (get_or text k 0)
    → take to text ++ canon strict (drop k text) ≡ whole
    → take (to + bool_byte kept) (set text to byte) ++ canon strict (drop (k + 1) (set text to byte)) ≡ whole
canon_next strict text to k kept byte whole within below kept_is byte_is so_far =
    let later = canon strict (drop (k + 1) text) in
    let first : canon strict (drop k text) ≡ cond kept (byte ∷ later) later =
    canon-drop strict text k within
    ∙ ap (λ b. cond b (shown strict (get_or text k 0) ∷ later) later) (sym kept_is)
    ∙ ap (λ b. cond kept (b ∷ later) later) (sym byte_is) in
    ap (λ l. take (to + bool_byte kept) (set text to byte) ++ canon strict l)
    (drop-set-lt (k + 1) text to byte (omega (arith, below)))
    ∙ put_next text to kept byte later whole (omega (arith, below, within))
    (ap (λ l. take to text ++ l) (sym first) ∙ so_far)

-- at the end of a text nothing is left
pub canon_end : (strict : Bool) (text : List ℕ) (at : ℕ) → length text ≤ at → canon strict (drop at text) ≡ []
unfolding canon
canon_end strict text at ends = ap (canon strict) (drop_all at text ends)

-- the front of what a function gives
pub front_of : (f : ℕ → ℕ) (xs : List ℕ) (n : ℕ) → take n (map f xs) ≡ map f (take n xs)
front_of f xs zero = refl
front_of f [] (suc n) = refl
front_of f (x ∷ xs) (suc n) = ap (λ l. f x ∷ l) (front_of f xs n)

-- what lies behind a pasted piece
paste_rest : (text piece : List ℕ) (at n m : ℕ) → at ≤ length text → n ≤ length piece → at + n ≤ m
    → drop m (paste text at piece n) ≡ drop m text
paste_rest text piece at n m within long past =
    let there : at + n + (m - (at + n)) ≡ m = omega arith in
    let split : (l : List ℕ) → drop m l ≡ drop (m - (at + n)) (drop (at + n) l) =
    λ l. ap (λ k. drop k l) (sym there) ∙ sym (drop-drop (m - (at + n)) (at + n) l) in
    split (paste text at piece n) ∙ ap (drop (m - (at + n))) (drop-paste text at piece n within long)
    ∙ sym (split text)

-- what lies behind a chunk that was put
pub put_behind : (text piece : List ℕ) (done n k from : ℕ) → done + n ≤ length text → n ≡ length piece → k ≡ n
    → done + n ≤ from → drop from (put_mid done k text piece) ≡ drop from text
put_behind text piece done n k from within long count past =
    ap (drop from) (put_mid-paste done k text piece piece n refl (sym count) long)
    ∙ paste_rest text piece done n from (omega arith) (omega arith) past

-- a flag counts at most one
pub flag_small : (flag : Bool) → bool_byte flag ≤ 1
flag_small true = omega arith
flag_small false = omega arith
