-- How rows are tried with a stack, as the code holds it: what follows a stage, and where the frames of the stack stand.
-- Own rule: rows are gone through from the preferred one on; each place is left once all that goes on from it is found.
use Rattle.std.specs.Prelude.{◌≡◌, ◌⊎◌, ◌+◌, ◌<◌, ◌≤◌, ℕ, Bool, true, false, Option, Some, None, List, [], ◌∷◌, ◌++◌, suc, map, drop, reverse, length, get_or, Vec}
use Rattle.std.specs.List.{All, Contains}
use Rattle.std.specs.FinMap.{insert}
use Rattle.std.specs.declared.alloc.Global.{Global}
use Rattle.ere_tree.specs.Captures.{Captures, caps_of}
use Rattle.ere_tree.specs.Derivation.{Way, Ways, parts, members, done, next, Derives}
use Rattle.ere_tree.specs.Shape.{greatest_group, greatest_group_of}
use Rattle.ere_tree.specs.Tree.{Tree, Trees, empty, plain, set, line_start, line_end, cat, alt, repeat, group, back, none, then, trees_of}
use Rattle.ere_tree.specs.View.{view}
use Rattle.ere_tree.specs.declared.ere.Ere.{Ere}
use Rattle.ere_tree.specs.declared.hit.Cap.{Cap}
use Rattle.ere_refs.specs.Course.{AllGrow, Fits, Reached, Rows, Spot, Told, members_behind, parts_behind}
use Rattle.ere_refs.specs.Lists.{AllDerive, AreOver, HasLike, Listed, lists_of}
use Rattle.ere_refs.specs.Live.{reads, reads_all}
use Rattle.ere_refs.specs.Over.{AreEnds, may_be}
use Rattle.ere_refs.specs.Refers.{Agree, Refers, all_refs_fit, refs_fit}
use Rattle.ere_refs.specs.Site.{AreLong, HasRoom, IsSite}
use Rattle.ere_refs.specs.declared.held.Part.{Part}
use Rattle.ere_refs.specs.declared.kept.State.{State}
use Rattle.ere_refs.specs.declared.lists.Frame.{Frame}
use Rattle.ere_refs.specs.declared.lists.Frame.TheVariants.{New, Open}
use Rattle.ere_refs.specs.declared.lists.Opened.{Opened}
use Rattle.ere_refs.specs.declared.lists.Course.{Course}
use Rattle.ere_refs.specs.declared.lists.Progress.{Progress}
use Rattle.ere_refs.specs.declared.row.Follows.{Follows}
use Rattle.ere_refs.specs.declared.row.Follows.TheVariants.{End, Nothing, One}
use Rattle.ere_refs.specs.declared.row.Row.{Row}
use Rattle.ere_refs.specs.declared.row.Row.TheVariants.{Members, Parts}
use Rattle.ere_refs.specs.declared.site.Site.{Site}

-- STATES

-- two lists hold the same for each of some groups
abbrev pub AgreeOn : List ℕ → List (Option Cap) → List (Option Cap) → Type 0
AgreeOn live one other =
    (start : ℕ) (c d : Captures) → one ≡ caps_of start c (length one) → other ≡ caps_of start d (length other)
    → Agree (Contains live) c d

-- two states have come as far, and agree on what is read
abbrev pub IsLikeState : List ℕ → State → State → Type 0
IsLikeState live x y = (x.stage ≡ y.stage) × (x.place ≡ y.place) × AgreeOn live x.caps.items y.caps.items

abbrev pub HasLikeState : List ℕ → List State → State → Type 0
HasLikeState live states y = (x : State) × Contains states x × IsLikeState live x y

abbrev pub caps_at : State → List (Option Cap)
caps_at state = state.caps.items

-- the list is put behind the others, or one of those agrees with it
abbrev pub PutsCaps : List ℕ → List (Option Cap) → List State → List State → Type 0
PutsCaps live caps old new =
    (map caps_at new ≡ map caps_at old ++ caps ∷ [])
    ⊎ ((new ≡ old) × ((x : State) × Contains old x × AgreeOn live x.caps.items caps))

-- the lists are put one by one
abbrev pub PutsAll : List ℕ → List (List (Option Cap)) → List State → List State → Type 0
PutsAll live [] old new = new ≡ old
PutsAll live (caps ∷ others) old new =
    (mid : List State) × PutsCaps live caps old mid × PutsAll live others mid new

-- the second list holds what the first one does, with the part for a group
abbrev pub Inserts : Part → ℕ → List (Option Cap) → List (Option Cap) → Type 0
Inserts part number old new =
    (d : Captures) → old ≡ caps_of part.start d (length old)
    → new ≡ caps_of part.start (insert d number (part.from, part.to)) (length old)

-- one list is the other with a group set
abbrev pub SetsGroup : Part → ℕ → Vec (Option Cap) Global → Vec (Option Cap) Global → Type 0
SetsGroup part number old new =
    Inserts part number old.items new.items × (length new.items ≡ length old.items)

-- ROWS

-- what derives the rest of a row
abbrev pub rest_of : Row → List ℕ → ℕ → Rows
rest_of (Parts all) s j = parts_behind s (map view all.now) j
rest_of (Members inner least most) s j = members_behind s (view inner.now) least most j

abbrev pub wrap_of : Row → Ways → Way
wrap_of (Parts all) ws = parts ws
wrap_of (Members inner least most) ws = members ws

-- the tree that the row is of
abbrev pub tree_of : Row → Tree
tree_of (Parts all) = cat (trees_of (map view all.now))
tree_of (Members inner least most) = repeat (view inner.now) least most

-- how large a tree is
abbrev mutual
  pub nodes : Tree → ℕ
  nodes empty = 1
  nodes (plain bytes) = 1
  nodes (set bytes) = 1
  nodes line_start = 1
  nodes line_end = 1
  nodes (cat ts) = nodes_of ts + 1
  nodes (alt ts) = nodes_of ts + 1
  nodes (repeat t least most) = nodes t + 2
  nodes (group number t) = nodes t + 1
  nodes (back number fold) = 1

  pub nodes_of : Trees → ℕ
  nodes_of none = 0
  nodes_of (then t ts) = nodes t + nodes_of ts + 1

-- how large all is that stands in a row
abbrev pub row_nodes : Row → ℕ
row_nodes (Parts all) = nodes_of (trees_of (map view all.now))
row_nodes (Members inner least most) = nodes (view inner.now) + 1

-- what is read between members: what the next one refers to, and what is read behind them
abbrev pub between : Tree → List ℕ → ℕ → Type 0
between t live n = Refers t n ⊎ Contains live n

-- each list has what is read from a stage of parts on, where these groups are read behind them
abbrev pub ArePartLives : List Ere → List (Vec ℕ Global) → List ℕ → Type 0
ArePartLives all lives live =
    (k : ℕ) (one : Vec ℕ Global) → k ≤ length all → one ≡ get_or lives k one → (n : ℕ)
    → reads_all (trees_of (drop k (map view all))) (Contains live) n → Contains one.items n

-- the lists have what is read before a member and behind it
abbrev pub AreMemberLives : Tree → List (Vec ℕ Global) → List ℕ → Type 0
AreMemberLives t lives live =
    ((one : Vec ℕ Global) → one ≡ get_or lives 0 one → (n : ℕ) → reads t (between t live) n → Contains one.items n)
    × ((one : Vec ℕ Global) → one ≡ get_or lives 1 one → (n : ℕ) → between t live n → Contains one.items n)

abbrev pub AreLives : Row → List (Vec ℕ Global) → List ℕ → Type 0
AreLives (Parts all) lives live = ArePartLives all.now lives live
AreLives (Members inner least most) lives live = AreMemberLives (view inner.now) lives live

-- how many lists there are
abbrev pub lives_count : Row → ℕ
lives_count (Parts all) = length all.now + 1
lives_count (Members inner least most) = 2

-- the stage behind a member: past the minimum it isn't counted where there is no most
abbrev pub IsStage : ℕ → Option ℕ → ℕ → ℕ → Type 0
IsStage least most n m = ((most ≡ None) × (least ≤ n) × (m ≡ n)) ⊎ (m ≡ suc n)

-- whether there may be no more members behind so many
abbrev pub IsFull : Option ℕ → ℕ → Bool → Type 0
IsFull None n answer = answer ≡ false
IsFull (Some most) n answer = (answer ≡ true → most ≤ n) × (answer ≡ false → n < most)

-- a place is the end, or lies before it
abbrev pub IsAtEnd : Bool → ℕ → ℕ → Type 0
IsAtEnd true p j = p ≡ j
IsAtEnd false p j = p < j

-- At a stage and a place this tree follows, and it isn't empty if it is a further one; behind it stands the stage m. The lists
-- have what is read before and behind it.
pub record NextFits (s : List ℕ) (Rest : Rows) (P : ℕ → Type 0) (n p j : ℕ) (t : Tree) (further : Bool) (m : ℕ)
    (before behind : List ℕ) : Type 0 where
  pub fits : (c e : Captures) (rs : Ways) → Rest n rs p c e → Fits (Some (suc j)) rs
  pub splits : (c e : Captures) (k : ℕ) (w : Way) (rs : Ways) → Rest n (next k w rs) p c e
      → (b : Captures) × Derives s t w p k c b × (further ≡ true → p < k) × Rest m rs k b e
  pub joins : (c b e : Captures) (k : ℕ) (w : Way) (rs : Ways) → Derives s t w p k c b → (further ≡ true → p < k)
      → Rest m rs k b e → Rest n (next k w rs) p c e
  pub same_before : (b a e : Captures) (rs : Ways) → Agree (Contains before) b a → Rest n rs p b e
      → (f : Captures) × Rest n rs p a f × Agree P e f
  pub same_behind : (k : ℕ) (b a e : Captures) (rs : Ways) → Agree (Contains behind) b a → Rest m rs k b e
      → (f : Captures) × Rest m rs k a f × Agree P e f

-- what follows a stage of a row
abbrev pub FollowFits : Row → List ℕ → ℕ → Bool → Follows → Type 0
FollowFits row live n at_end End =
    (at_end ≡ true)
    × ((s : List ℕ) (j : ℕ) (c e : Captures) (rs : Ways) → rest_of row s j n rs j c e → (rs ≡ done) × (e ≡ c))
    × ((s : List ℕ) (j : ℕ) (c : Captures) → j ≤ length s → rest_of row s j n done j c c)
FollowFits row live n at_end Nothing =
    (s : List ℕ) (p j : ℕ) (c e : Captures) (rs : Ways) → IsAtEnd at_end p j → rest_of row s j n rs p c e → ⊥
FollowFits row live n at_end (One one) =
    (s : List ℕ) (p j : ℕ) → IsAtEnd at_end p j
    → NextFits s (rest_of row s j) (Contains live) n p j (view one.ere.now) one.further one.stage one.before.now
    one.behind.now

-- each expression of a row refers to groups that there are, and sets such
abbrev pub RowRoom : ℕ → Row → Type 0
RowRoom count (Parts all) =
    (all_refs_fit count (trees_of (map view all.now)) ≡ true) × (greatest_group_of (trees_of (map view all.now)) ≤ count)
RowRoom count (Members inner least most) =
    (refs_fit count (view inner.now) ≡ true) × (greatest_group (view inner.now) ≤ count)

-- what follows does so
abbrev pub NextRoom : ℕ → Follows → Type 0
NextRoom count End = Unit {0}
NextRoom count Nothing = Unit {0}
NextRoom count (One one) = (refs_fit count (view one.ere.now) ≡ true) × (greatest_group (view one.ere.now) ≤ count)

-- this follows a stage, where the lists have what is read from there on, whatever is read behind the row
abbrev pub FollowsBy : Row → List (Vec ℕ Global) → ℕ → Bool → Follows → Type 0
FollowsBy row lives n at_end follows = (live : List ℕ) → AreLives row lives live → FollowFits row live n at_end follows

-- groups for which the row has room do for what follows
abbrev pub KeepsRoom : Row → Follows → Type 0
KeepsRoom row follows = (count : ℕ) → RowRoom count row → NextRoom count follows

-- what follows is smaller than the row
abbrev pub IsSmaller : Row → Follows → Type 0
IsSmaller row End = Unit {0}
IsSmaller row Nothing = Unit {0}
IsSmaller row (One one) = nodes (view one.ere.now) < row_nodes row

-- FRAMES

abbrev pub state_in : Frame → State
state_in (New state) = state
state_in (Open opened) = opened.state

-- where a frame stands, by the ways that led there and the captures that they left
abbrev pub spot_in : Frame → Ways → Captures → Spot
spot_in (New state) us c =
    record { ways = us; stage = state.stage; place = state.place; caps = c; below = None }
spot_in (Open opened) us c =
    record {
      ways = us;
      stage = opened.state.stage;
      place = opened.state.place;
      caps = c;
      below = Some opened.high;
    }

-- the frames of a stack, the last of them first, stand at these spots
abbrev pub Show : ℕ → ℕ → List Frame → List Spot → Type 0
Show start count frames [] = frames ≡ []
Show start count frames (spot ∷ spots) =
    (below : List Frame) × (top : Frame) × (frames ≡ below ++ top ∷ []) × (spot ≡ spot_in top spot.ways spot.caps)
    × (caps_at (state_in top) ≡ caps_of start spot.caps count) × Show start count below spots

-- the frame of a state that is new
abbrev pub new_frame : ℕ → ℕ → Vec (Option Cap) Global → Frame
new_frame stage place caps = New (record { stage = stage; place = place; caps = caps })

-- the frames of new states are put on the stack, the first of them on top
abbrev pub PutsNew : ℕ → ℕ → List (Vec (Option Cap) Global) → List Frame → List Frame → Type 0
PutsNew stage place found old new = new ≡ old ++ reverse (map (new_frame stage place) found)

abbrev pub StateFits : Part → ℕ → State → Type 0
StateFits part count state = (part.from ≤ state.place) × (state.place ≤ part.to) × (length state.caps.items ≡ count)

-- The ends of what follows an opened state: each that may be lies from `low` on.
pub record EndsFit (s : List ℕ) (part : Part) (count : ℕ) (one : Opened) : Type 0 where
  pub state : StateFits part count one.state
  pub ends : AreEnds s (view one.next.ere.now) part.start one.state.place part.to count one.state.caps.items one.ends
  pub holds : (q : ℕ) → one.state.place ≤ q → q ≤ part.to → (one.next.further ≡ true → one.state.place < q)
      → may_be one.ends q ≡ true → one.low ≤ q
  pub behind : (one.next.further ≡ true → one.state.place < one.low) × (one.state.place ≤ one.low)
  pub high : one.high ≤ part.to + 1

-- each of them lies below `high`, as long as none was tried
abbrev pub AllBelow : Part → Opened → Type 0
AllBelow part one = (q : ℕ) → one.state.place ≤ q → q ≤ part.to → may_be one.ends q ≡ true → q < one.high

-- COURSES

-- what derives the rest of the row that is tried, up to the end of the part
abbrev pub rest_in : Course → Rows
rest_in course = rest_of course.row course.site.text.now course.site.part.to

-- a row from its beginning, by these ways and from these captures
abbrev pub WholeRow : Course → Captures → Ways → Captures → Type 0
WholeRow course c us e = rest_in course 0 us course.site.part.from c e

-- so many groups
abbrev pub count_in : Course → ℕ
count_in course = length course.site.caps.now

abbrev pub CourseFits : Course → Type 0
CourseFits course =
    (length course.lives.now ≡ lives_count course.row) × AreLives course.row course.lives.now course.site.live.now
    × RowRoom (count_in course) course.row × IsSite course.site

-- what is known of a state that was opened
pub record OpenFits (course : Course) (one : Opened) : Type 0 where
  pub follows : NextFits course.site.text.now (rest_in course) (Contains course.site.live.now) one.state.stage
      one.state.place course.site.part.to (view one.next.ere.now) one.next.further one.next.stage one.next.before.now
      one.next.behind.now
  pub ends : EndsFit course.site.text.now course.site.part (count_in course) one
  pub room : HasRoom (count_in course) (view one.next.ere.now)
  pub small : nodes (view one.next.ere.now) < row_nodes course.row

abbrev pub FrameFits : Course → Frame → Type 0
FrameFits course (New state) = StateFits course.site.part (count_in course) state
FrameFits course (Open one) = OpenFits course one

-- what stands on the stack fits, and what is found is of as many groups
abbrev pub ProgressFits : Course → Progress → Type 0
ProgressFits course progress =
    All (FrameFits course) progress.frames.items × AreLong (count_in course) (map caps_at progress.found.states.items)

-- from the captures of a state all that goes on has its like in the list
abbrev pub IsLeft : Course → Listed → State → Type 0
IsLeft course listed state =
    (b : Captures) × (caps_at state ≡ caps_of course.site.part.start b (count_in course))
    × ((rs : Ways) (e : Captures) → rest_in course state.stage rs state.place b e
    → HasLike (Contains course.site.live.now) e listed)

-- what is found is what groups hold behind these derivations
abbrev pub AreFound : Course → List State → Listed → Type 0
AreFound course found listed = map caps_at found ≡ lists_of course.site.part.start (count_in course) listed

-- The stack, what is found and what is left behind, where a row is tried from these captures: each row is found, or goes
-- on from a spot.
pub record Stands (course : Course) (c : Captures) (frames : List Frame) (found left : List State) : Type 0 where
  pub spots : List Spot
  pub listed : Listed
  pub shown : Show course.site.part.start (count_in course) frames spots
  pub held : AreFound course found listed
  pub reached : (vs : Ways) (d : Captures) → WholeRow course c vs d
      → Reached (rest_in course) (Contains course.site.live.now) (wrap_of course.row) vs d listed spots
  pub told : Told (rest_in course) (Contains course.site.live.now) listed [] spots
  pub left_all : (x : State) → Contains left x → IsLeft course listed x
  pub grows : AllGrow (rest_in course) (WholeRow course c) spots
  pub derived : AllDerive course.site.text.now (tree_of course.row) course.site.part.from course.site.part.to c listed

-- it stands so with these frames on the stack in place of those that are there
abbrev pub StandsWith : Course → Captures → List Frame → Progress → Type 0
StandsWith course c frames progress =
    Stands course c frames progress.found.states.items progress.left.states.items

-- from a frame that was taken off a stack a course has come to another
abbrev pub Keeps : Course → Progress → Frame → Progress → Type 0
Keeps course old top new =
    (c : Captures) → StandsWith course c (old.frames.items ++ top ∷ []) old → StandsWith course c new.frames.items new

-- What is found has the derivations of the row, of those that agree on what is read one alone, the preferred first.
abbrev pub IsDone : Course → Captures → List State → Type 0
IsDone course c found =
    (listed : Listed) × AreOver course.site.text.now (tree_of course.row) course.site.part.from course.site.part.to c
    (Contains course.site.live.now) listed × AreFound course found listed

-- a course comes to its end
abbrev pub Finishes : Course → Progress → Progress → Type 0
Finishes course old new =
    ((c : Captures) → StandsWith course c old.frames.items old → IsDone course c new.found.states.items)
    × AreLong (count_in course) (map caps_at new.found.states.items)

-- the state of a row that begins is put on the stack
abbrev pub Begins : Site → List Frame → List Frame → Type 0
Begins site old new =
    (held : Vec (Option Cap) Global) × (held.items ≡ site.caps.now)
    × (new ≡ old ++ new_frame 0 site.part.from held ∷ [])
