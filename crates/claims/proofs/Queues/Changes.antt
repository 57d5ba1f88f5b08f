-- The moves of the queues that correspond to one step of a thread, what they show, and which records they make first.
use mathlib.Core.Path.{◌≡◌, refl}
use mathlib.Core.List.{List, [], ◌∷◌}
use Prim.Native.Nat.{ℕ, ◌<◌}
use Rattle.model.specs.Trees.{Tree}
use Rattle.model.proofs.Trees.Index.{record_at}
use Rattle.model.proofs.Lists.{put}
use Rattle.claims.proofs.Queues.Moves.{State, Event, out, climb, nothing, begins, ends, entered, Move, start, join_empty, join_root, join_after, enter, leave, hand_on, release, let_go, Run, done, silent, more}

-- the state after a thread starts
abbrev pub started_by : State → (thread : ℕ) → State
started_by st i = record { queue = st.queue; stage = put st.stage i (climb 0); tally = st.tally }

-- no move, one move, or a start before them
pub data Changed (T : Tree) : State → State → Type 0 where
  unmoved : {st : State} → Changed T st st
  moved : {st st' : State} {e : Event} → Move T st e st' → Changed T st st'
  begun : {st st' : State} (i : ℕ) → i < T.threads → st.stage i ≡ out → Changed T (started_by st i) st' → Changed T st st'

-- WHAT THEY SHOW
unfoldable pub event_shown : Event → List Event
event_shown nothing = []
event_shown (begins d m) = begins d m ∷ []
event_shown (ends d m) = ends d m ∷ []
event_shown (entered i) = entered i ∷ []

unfoldable pub change_shown : (T : Tree) {st st' : State} → Changed T st st' → List Event
change_shown T unmoved = []
change_shown T (moved {e = e} mv) = event_shown e
change_shown T (begun i h e c) = change_shown T c

pub change_run : (T : Tree) {st st' : State} (c : Changed T st st') → Run T st (change_shown T c) st'
unfolding change_shown event_shown
change_run T unmoved = done
change_run T (moved {e = nothing} mv) = silent mv done
change_run T (moved {e = begins d m} mv) = more mv done
change_run T (moved {e = ends d m} mv) = more mv done
change_run T (moved {e = entered i} mv) = more mv done
change_run T (begun i h e c) = silent (start i h e) (change_run T c)

-- THE RECORDS that they make the first of a queue
unfoldable pub made_first : (T : Tree) {st st' : State} {e : Event} → Move T st e st' → List ℕ
made_first T (start i h e) = []
made_first T (join_empty i j e n z) = record_at T i j ∷ []
made_first T (join_root i j e r z) = record_at T i j ∷ []
made_first T (join_after i j a e f) = []
made_first T (enter i e) = []
made_first T (leave i e) = []
made_first T (hand_on i j s l xs e h w m ok shape) = record_at T s l ∷ []
made_first T (release i j s l xs e w m shape) = record_at T s l ∷ []
made_first T (let_go i j b shape) = []

unfoldable pub change_firsts : (T : Tree) {st st' : State} → Changed T st st' → List ℕ
change_firsts T unmoved = []
change_firsts T (moved mv) = made_first T mv
change_firsts T (begun i h e c) = change_firsts T c

-- a grant makes the record that it names first
pub made_ends : (T : Tree) {st st' : State} {d m : ℕ} (mv : Move T st (ends d m) st') → made_first T mv ≡ m ∷ []
unfolding made_first
made_ends T (hand_on i j s l xs e h w m ok shape) = refl
made_ends T (release i j s l xs e w m shape) = refl

-- a member that begins to stand is not first
pub made_begins : (T : Tree) {st st' : State} {d m : ℕ} (mv : Move T st (begins d m) st') → made_first T mv ≡ []
unfolding made_first
made_begins T (join_after i j a e f) = refl
