-- In every state reached from fresh in which some thread is not Idle, a thread that is not Idle has a next step that is not a stay.
use mathlib.Core.Path.{◌≡◌, refl, sym, ap, ◌∙◌}
use mathlib.Core.Bool.{true, false, false≢true}
use mathlib.Core.List.{List, [], ◌∷◌}
use mathlib.Core.Logic.{◌≢◌}
use Prim.Native.Nat.{ℕ, suc, ◌≤◌, ◌<◌}
use native.Mathlib.Omega.{arith}
use lib.Dec.{eqb}
use Rattle.model.specs.declared.Place.{Place}
use Rattle.model.specs.declared.Place.TheVariants.{Idle, Link, Linger, Watch}
use Rattle.model.specs.declared.State.{State as WordState}
use Rattle.model.specs.Trees.{Tree, tree_of, is_ticket}
use Rattle.model.specs.Places.{words_of}
use Rattle.model.specs.States.{acquire_parent, next, status, place}
use Rattle.model.specs.Steps.{Kind, stay, other, root_entry, is_kind, is_entry, RowResult, wait_row, watch_row, row, step}
use Rattle.model.specs.WellFormed.{good_place}
use Rattle.model.specs.Answers.{fresh_answer}
use Rattle.model.specs.Laws.{SixteenBit, KindLaw, FreshRun}
use Rattle.model.specs.Calls.{joined}
use Rattle.claims.specs.Reached.{MoveLaw, ListMoveLaw}
use Rattle.model.proofs.Places.{not_idle}
use Rattle.model.proofs.Branches.{Branch, linger_alone, linger_linked, watch_shown, watch_unshown, watch_branch, branch}
use Rattle.model.proofs.Waiting.{acquiring_row, Granted, granted_root, granted_inner}
use Rattle.model.proofs.Trees.Index.{ancestor, height, record_at}
use Rattle.model.proofs.Trees.Accepted.{Accepted, accepted, sixteen_bit}
use Rattle.model.proofs.Trees.Tickets.{ticket_yes, queue_facts}
use Rattle.model.proofs.Trees.Paths.{ancestor_inner, ancestor_root}
use Rattle.model.proofs.Trees.Records.{own_record_at, root_record}
use Rattle.model.proofs.Laws.FromFresh.{left_from_fresh, formed_from_fresh}
use Rattle.model.proofs.Laws.Kinds.{may_stay, goes_on, no_stay, kind_law}
use Rattle.model.proofs.Lists.{less_or, first_rest, count}
use Rattle.claims.proofs.Queues.Paths.{laws}
use Rattle.claims.proofs.Queues.Moves.{Stage, out, queued, ready, low, acts, reach, State}
use Rattle.claims.proofs.Queues.Invariant.{Inv}
use Rattle.claims.proofs.Queues.Order.{Second, second}
use Rattle.claims.proofs.Queues.Unblocked.{Unblocked, unblocked}
use Rattle.claims.proofs.Words.Links.{final, after, before_second}
use Rattle.claims.proofs.Words.View.{Words, words_in}
use Rattle.claims.proofs.Words.Represents.{letting_go, letting_go_low, Fits, at_idle, at_prep, at_swap, at_link, at_wait, at_woken, at_ready, at_inside, at_check, at_pass, at_help, at_cas, at_linger, at_grant, at_draw, at_watch, at_shown, at_raise, Represents}
use Rattle.claims.proofs.Words.Releasing.{firm}
use Rattle.claims.proofs.Claims.Reached.{Queued, queued_from_fresh}
use Rattle.claims.proofs.Claims.Calls.{starts_here, joined_threads}
use Rattle.claims.proofs.Claims.Accepts.{last_reached}
use Rattle.claims.proofs.Words.Acquiring.{ready_row}
use Rattle.claims.proofs.Words.Drawing.{is_shown}
use Rattle.claims.proofs.Words.Frame.{others_of}
use Rattle.claims.proofs.Words.Says.{Ungranted, linking, waiting, watching, ungranted}

abbrev pub Moves : RowResult → Type 0
Moves x = x.kind ≢ stay

-- an entry is no stay
entry_moves : (k : Kind) → is_entry k ≡ true → k ≢ stay
unfolding is_entry
entry_moves k f e = false≢true (sym (ap is_entry e) ∙ f)

-- a thread that is not Idle and whose next step is no stay
pub record Mover (t : Tree) (s : WordState) : Type 0 where
  pub thread : ℕ
  pub real : thread < t.threads
  pub not_idle : place s thread ≢ Idle
  pub moves : (row t thread (place s thread) s).kind ≢ stay

-- a queue whose first is not its last has a second
pub two_there : (r : ℕ) (q xs : List ℕ) → q ≡ r ∷ xs → final q ≢ suc r → (m : ℕ) × (ys : List ℕ) × (q ≡ r ∷ m ∷ ys)
unfolding final
two_there r q [] e n = absurd (n (ap final e))
two_there r q (m ∷ ys) e n = (m, ys, e)

module _ (t : Tree) (valid : Accepted t) (bits : SixteenBit t) (s : WordState) (q : Queued t s) where
  abbrev pub g : State
  g = q.queues

  abbrev pub w : Words
  w = words_in s

  abbrev pub rep : Represents t (words_in s) q.queues
  rep = q.represents

  abbrev pub inv : Inv t g
  inv = q.represents.invariant

  -- what follows from a thread's place: the thread, or the one after it in Link, can move; or it stands ungranted; or it is Idle
  data Found (i : ℕ) : Type 0 where
    can_move : Mover t s → Found i
    stands : (k : ℕ) → g.stage i ≡ queued k → Found i
    idles : place s i ≡ Idle → g.stage i ≡ out → Found i

  module _ (i : ℕ) (h : i < t.threads) where
    someone : (p : Place) → place s i ≡ p → p ≢ Idle → Moves (row t i p s) → Mover t s
    someone p e n m = record { thread = i; real = h; not_idle = rw e n; moves = rw e m }

    -- THE ROWS
    row_moves : (p : Place) → may_stay p ≡ false → Moves (row t i p s)
    row_moves p f = no_stay _ (goes_on f (branch t i s p))

    -- granted the domain only, so the parent is next
    pub woken_moves : (k : ℕ) → k < height t i → w.statuses (record_at t i k) ≡ acquire_parent → Moves (wait_row t i (ancestor t i k) s)
    unfolding words_in is_kind
    woken_moves k b v =
        let inner = ancestor_inner t valid i h k b in
        rw (acquiring_row t i s (ancestor t i k) (λ z. omega arith) (rw (own_record_at t valid i h k (omega arith)) v)) (no_stay other refl)

    -- granted the lock: UNLOCKED at the root, a count below it
    pub ready_moves :
        (k : ℕ) → k ≤ height t i → g.stage i ≡ ready → (k < height t i → w.statuses (record_at t i k) ≡ g.tally (record_at t i k)) →
        (k ≡ height t i → w.statuses (record_at t i k) ≡ 0) → Moves (wait_row t i (ancestor t i k) s)
    unfolding words_in low is_kind
    ready_moves k l e c v = by (ready_row t valid s q.room g i h (others_of rep i) bits k l e c v)
      where
        by : {x : RowResult} → Granted t i s (ancestor t i k) x → Moves x
        by (granted_root z) = no_stay root_entry refl
        by (granted_inner n kind entry) = entry_moves kind entry

    -- the ticket is shown
    pub shown_moves : t.ticket_root ≡ true → g.stage i ≡ ready → Moves (watch_row t i s)
    unfolding words_in low is_kind
    shown_moves root e = by (watch_branch t i s)
      where
        shown : status s (record_at t i (height t i)) ≡ s.grant
        shown = is_shown t valid s q.room g i h (others_of rep i) root e

        by : {x : RowResult} → Branch t i s Watch x → Moves x
        by (watch_shown _) = no_stay root_entry refl
        by (watch_unshown n) = absurd ((rw (root_record t valid i h) at n) shown)

  -- the member after a record without a next is in Link, and moves
  link_after :
      (d r m : ℕ) (ys : List ℕ) → is_ticket t d ≡ false → g.queue d ≡ r ∷ m ∷ ys → next s r ≡ 0 → Mover t s
  unfolding words_in may_stay
  link_after d r m ys nt shape quiet = by (ungranted N b.waits (rep.fits S b.real))
    where
      b : Second t g d m
      b = second t g inv d r m ys shape

      S : ℕ
      S = b.thread

      N : ℕ
      N = b.index

      by : Ungranted t w g S N (place s S) → Mover t s
      by (linking p e nd a z) = someone S b.real (Link (ancestor t S N) p) e (not_idle _ refl) (row_moves S b.real (Link (ancestor t S N) p) refl)
      by (waiting p e c a z) =
          let a' : after (r ∷ m ∷ ys) p ≡ suc m = rw (b.place, b.mine, shape) at a in
          let one : count m (r ∷ m ∷ ys) ≤ 1 = rw shape at (inv.once d m) in
          let same = before_second p r m ys a' one in
          absurd (let z' : next s r ≡ suc (record_at t S N) = rw same at z in omega arith)
      by (watching e z y c) =
          absurd (false≢true (sym nt ∙ ticket_yes t d y (sym b.place ∙ ap (ancestor t S) z ∙ ancestor_root t valid S b.real)))

  module _ (i : ℕ) (h : i < t.threads) where
    -- LINGER: with a next it moves; without one, the member after it is in Link and moves
    linger_someone :
        (k : ℕ) → k ≤ height t i → place s i ≡ Linger (ancestor t i k) → g.stage i ≡ letting_go (height t i) k →
        w.tails (ancestor t i k) ≢ suc (record_at t i k) → {x : RowResult} → row t i (Linger (ancestor t i k)) s ≡ x → Branch t i s (Linger (ancestor t i k)) x → Mover t s
    unfolding words_in good_place is_kind
    linger_someone k l y e n same (linger_alone _ none_next) =
        let quiet : next s (record_at t i k) ≡ 0 = rw (own_record_at t valid i h k l) at none_next in
        let good : good_place t i (Linger (ancestor t i k)) ≡ true = rw y at ((q.facts.places i).used h) in
        let nt = (queue_facts t i (ancestor t i k) good).1 in
        let first_there : k < low (height t i) (g.stage i) = rw e (omega (arith, letting_go_low (height t i) k)) in
        let shape = first_rest (record_at t i k) (g.queue (ancestor t i k)) ((inv.threads i).heads k first_there) in
        let two = two_there (record_at t i k) (g.queue (ancestor t i k)) _ shape (λ f. n ((rep.linked (ancestor t i k) nt).last ∙ f)) in
        link_after (ancestor t i k) (record_at t i k) two.0 two.1 nt two.2 quiet
    linger_someone k l y e n same (linger_linked _ v _ _) = someone i h (Linger (ancestor t i k)) y (not_idle _ refl) (rw same (no_stay other refl))

    moves_from : {p : Place} → place s i ≡ p → eqb (words_of p).row 0 ≡ false → may_stay p ≡ false → Found i
    moves_from {p} y n f = can_move (someone i h p y (not_idle p n) (row_moves i h p f))

    found_at : {p : Place} {x : Stage} → place s i ≡ p → g.stage i ≡ x → Fits t w g i p x → Found i
    unfolding row may_stay
    found_at y e at_idle = idles y e
    found_at y e (at_prep k l c) = moves_from y refl refl
    found_at y e (at_swap k l c n v) = moves_from y refl refl
    found_at y e (at_link k p l c d a n v) = moves_from y refl refl
    found_at y e (at_wait k p l c d a n v) = stands k e
    found_at y e (at_woken k b c v z) = can_move (someone i h _ y (not_idle _ refl) (woken_moves i h k b v))
    found_at y e (at_ready k l c v p) = can_move (someone i h _ y (not_idle _ refl) (ready_moves i h k l e (λ b. c k b b) v))
    found_at y e (at_inside c) = moves_from y refl refl
    found_at y e (at_check k b c) = moves_from y refl refl
    found_at y e (at_pass k r v b c n z f) = moves_from y refl refl
    found_at y e (at_help k l c) = moves_from y refl refl
    found_at y e (at_cas k l c) = moves_from y refl refl
    found_at y e (at_linger k l c n) = can_move (linger_someone k l y e n refl (branch t i s (Linger (ancestor t i k))))
    found_at y e (at_grant k r l c n) = moves_from y refl refl
    found_at y e (at_draw k l r c) = moves_from y refl refl
    found_at y e (at_watch k l r c) = stands k e
    found_at y e (at_shown r c) = can_move (someone i h _ y (not_idle _ refl) (shown_moves i h r e))
    found_at y e (at_raise r c) = moves_from y refl refl

    found : Found i
    unfolding words_in
    found = found_at refl refl (rep.fits i h)

  -- from a thread that stands ungranted nowhere
  from_unblocked : Unblocked t g → Mover t s
  unfolding low acts reach
  from_unblocked u = by (found i ((inv.threads i).real u.busy))
    where
      i : ℕ
      i = u.thread

      by : Found i → Mover t s
      by (can_move x) = x
      by (stands k e) = firm (height t i) k (g.stage i) e u.nowhere
      by (idles y e) = let b : 0 < reach (height t i) out = rw e at u.busy in absurd (omega arith)

  from_any : (i : ℕ) → i < t.threads → place s i ≢ Idle → Mover t s
  unfolding reach
  from_any i h n = by (found i h)
    where
      by : Found i → Mover t s
      by (can_move x) = x
      by (stands k e) = from_unblocked (unblocked t (laws t valid) g inv i (rw e (omega arith)))
      by (idles y e) = absurd (n y)

  -- unused slots are Idle
  pub someone_moves : (i : ℕ) → place s i ≢ Idle → Mover t s
  someone_moves i n = from_any i (less_or i t.threads _ (λ b. b) (λ b. absurd (n ((q.facts.places i).unused b)))) n

pub move_law : MoveLaw
unfolding MoveLaw KindLaw step
move_law t s f i n =
    let k = f.fresh_run in
    let x = someone_moves t (accepted t k.tree_accepted) k.sixteen_bit s (queued_from_fresh t s f) i n in
    let kinds = kind_law t x.thread s k.tree_accepted x.real (formed_from_fresh t s f) in
    record { thread = x.thread; real = x.real; not_idle = x.not_idle; no_stay = x.moves; changes = λ e. x.moves (kinds.stays_exactly.1 e) }

pub list_move_law : ListMoveLaw
unfolding ListMoveLaw MoveLaw fresh_answer
list_move_law w start cs ok n i busy =
    let t = tree_of w in
    let f = (fresh_answer w start).state in
    let here = starts_here t f in
    let turns : FreshRun t (joined cs f) = record { sixteen_bit = sixteen_bit w; tree_accepted = ok; threads = joined_threads t f cs [] f here n } in
    let there = last_reached t f cs [] f here n in
    rw there (move_law t _ (left_from_fresh t _ (joined cs f) turns) i (rw there at busy))
