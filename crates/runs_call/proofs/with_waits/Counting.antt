-- Counting attempts from the numbers that report the steps.
use mathlib.Core.Path.{◌≡◌, refl, sym, ap, subst, ◌∙◌}
use mathlib.Core.Bool.{Bool, true, false, ◌&&◌, ◌||◌, cond}
use mathlib.Core.List.{List, [], ◌∷◌, ◌++◌, append_assoc, append-nil}
use Prim.Native.Nat.{ℕ, ◌+◌, ◌*◌, ◌/◌, ◌%◌, ◌≤◌, ◌<◌, max}
use native.Mathlib.Omega.{arith}
use native.Mathlib.Decide.{ℕ_discrete}
use lib.Dec.{eqb}
use mir.Val.{bool_byte as from_bool}
use lib.ListN.{get_or, length, take, set}
use Rattle.runs_call.proofs.with_waits.Kept.{nothing, mark_read, attempts_read, total_read, longest_read}
use lib.Seq.{take_all, set-get_or, map-set}
use borrow.Author.Tests.{eq-eqb, ne_eqb, lt-ltb, le-leb}
use Rattle.model.specs.declared.TreeWords.{TreeWords}
use Rattle.model.specs.declared.State.{State}
use Rattle.model.specs.declared.Place.{Place}
use Rattle.model.specs.declared.Place.TheVariants.{Idle, Prep, Swap, Link, Wait, Inside, Check, Help, Cas, Linger, Grant, Draw, Watch, Raise, Invalid}
use Rattle.model.specs.Places.{words_of}
use Rattle.model.specs.Trees.{Tree, tree_of, is_ticket, read_word}
use Rattle.model.specs.Steps.{kind_number, is_entry, Step, step}
use Rattle.model.specs.Runs.{steps, state_after}
use Rattle.waits.specs.Attempts.{swaps_at, draws, begins_from}
use Rattle.runs_call.specs.WithWaits.Tallies.{first, begins_number, mark_with, finishes, wait_of, noted, Tallies}
use Rattle.runs_call.proofs.with_waits.Tables.{turn, mark_small, attempts_small, total_small}
use Rattle.rows.specs.Common.Standing.{is_entry_number}
use Rattle.rows.specs.declared.kinds.Kind.{Kind}
use Rattle.rows.specs.Kinds.{number_of_kind}
use Rattle.lock.specs.Steps.Running.{step_code}
use Rattle.runs_call.specs.WithWaits.Waiting.{ticket_home, mark_at, marks_of, attempts_of, totals_of, longest_of, tally_noted, Fits, Counting, Countable, Counted}
use Rattle.runs_call.specs.declared.with_waits.waiting.ThreadTally.{ThreadTally}
use Rattle.lock.proofs.steps.SoFar.{next_step, thread_at, below, kind_small, entry_number, at_most}

-- a test as a number
pub one_if : (b : Bool) → from_bool b ≡ cond b 1 0
one_if true = refl
one_if false = refl

pub mark_fits : (b : Bool) (n m : ℕ) → m ≤ n + 1 → mark_with b n m ≤ n + 1
mark_fits true n m h = omega arith
mark_fits false n m h = h

-- THE NUMBER OF A PLACE determines whether an attempt begins there
abbrev number_of : Place → ℕ
number_of p = (words_of p).row + 16 * (words_of p).domain

same_domain : (l h : ℕ) → eqb l h ≡ eqb (2 + 16 * l) (2 + 16 * h)
same_domain l h =
    elim (ℕ_discrete l h) [
      | yes z ↦ eq-eqb l h z ∙ sym (eq-eqb (2 + 16 * l) (2 + 16 * h) (omega arith))
      | no z ↦ ne_eqb l h z ∙ sym (ne_eqb (2 + 16 * l) (2 + 16 * h) (λ q. z (omega arith)))
    ]

swaps_number : (h : ℕ) (p : Place) → swaps_at h p ≡ eqb (number_of p) (2 + 16 * h)
unfolding swaps_at
swaps_number h Idle = sym (ne_eqb _ (2 + 16 * h) (λ q. absurd (omega arith)))
swaps_number h (Prep l) = sym (ne_eqb (1 + 16 * l) (2 + 16 * h) (λ q. omega arith))
swaps_number h (Swap l) = same_domain l h
swaps_number h (Link l p) = sym (ne_eqb (3 + 16 * l) (2 + 16 * h) (λ q. omega arith))
swaps_number h (Wait l) = sym (ne_eqb (4 + 16 * l) (2 + 16 * h) (λ q. omega arith))
swaps_number h Inside = sym (ne_eqb 5 (2 + 16 * h) (λ q. omega arith))
swaps_number h (Check l) = sym (ne_eqb (6 + 16 * l) (2 + 16 * h) (λ q. omega arith))
swaps_number h (Help l) = sym (ne_eqb (7 + 16 * l) (2 + 16 * h) (λ q. omega arith))
swaps_number h (Cas l) = sym (ne_eqb (8 + 16 * l) (2 + 16 * h) (λ q. omega arith))
swaps_number h (Linger l) = sym (ne_eqb (9 + 16 * l) (2 + 16 * h) (λ q. omega arith))
swaps_number h (Grant l r w) = sym (ne_eqb (10 + 16 * l) (2 + 16 * h) (λ q. omega arith))
swaps_number h Draw = sym (ne_eqb 11 (2 + 16 * h) (λ q. omega arith))
swaps_number h Watch = sym (ne_eqb 12 (2 + 16 * h) (λ q. omega arith))
swaps_number h Raise = sym (ne_eqb 13 (2 + 16 * h) (λ q. omega arith))
swaps_number h Invalid = sym (ne_eqb 14 (2 + 16 * h) (λ q. omega arith))

neither : (r l : ℕ) → 0 < r → r < 16 → (r ≡ 11 → ⊥) → false ≡ (eqb (r + 16 * l) 0 || eqb (r + 16 * l) 11)
neither r l p b n = rw (ne_eqb (r + 16 * l) 0 (λ q. omega arith), ne_eqb (r + 16 * l) 11 (λ q. n (omega arith)))

draws_number : (p : Place) → draws p ≡ (eqb (number_of p) 0 || eqb (number_of p) 11)
unfolding draws
draws_number Idle = refl
draws_number (Prep l) = neither 1 l (omega arith) (omega arith) (λ q. omega arith)
draws_number (Swap l) = neither 2 l (omega arith) (omega arith) (λ q. omega arith)
draws_number (Link l p) = neither 3 l (omega arith) (omega arith) (λ q. omega arith)
draws_number (Wait l) = neither 4 l (omega arith) (omega arith) (λ q. omega arith)
draws_number Inside = refl
draws_number (Check l) = neither 6 l (omega arith) (omega arith) (λ q. omega arith)
draws_number (Help l) = neither 7 l (omega arith) (omega arith) (λ q. omega arith)
draws_number (Cas l) = neither 8 l (omega arith) (omega arith) (λ q. omega arith)
draws_number (Linger l) = neither 9 l (omega arith) (omega arith) (λ q. omega arith)
draws_number (Grant l r w) = neither 10 l (omega arith) (omega arith) (λ q. omega arith)
draws_number Draw = refl
draws_number Watch = refl
draws_number Raise = refl
draws_number Invalid = refl

-- a step's number divided by eight is the number of its place, and the remainder that of its kind
place_of_code : (x : Step) → step_code x / 8 ≡ number_of x.place
unfolding step_code
place_of_code x = let h = kind_small x.kind in omega arith

kind_by_code : (x : Step) (code : ℕ) (k : Kind) → code ≡ step_code x → (code % 8 < 6 → number_of_kind k ≡ code % 8) → is_entry x.kind ≡ is_entry_number (number_of_kind k)
unfolding step_code
kind_by_code x code k c by =
    let h = kind_small x.kind in
    let e : code % 8 ≡ kind_number x.kind = omega (arith, c) in
    rw (by (omega (arith, e, h)), e) (sym (entry_number x.kind))

home_at : (w : TreeWords) (i : ℕ) → i < (tree_of w).threads → (tree_of w).home i ≡ get_or w.homes i 0
unfolding tree_of read_word
home_at w i h = let small : i < w.threads = h in rw (lt-ltb i w.threads small, le-leb 0 i (omega arith))

begins_by : (t : Tree) (i home : ℕ) (p : Place) → t.home i ≡ home → begins_from t i p ≡ cond (t.ticket_root && eqb home 0) (draws p) (swaps_at home p)
unfolding begins_from is_ticket
begins_by t i home p e = rw e

begins_by_code :
    (w : TreeWords) (i : ℕ) (x : Step) → i < (tree_of w).threads →
    begins_from (tree_of w) i x.place ≡ begins_number (ticket_home w.ticket_root (get_or w.homes i 0)) (get_or w.homes i 0) (step_code x / 8)
unfolding begins_number tree_of
begins_by_code w i x h = begins_by (tree_of w) i (get_or w.homes i 0) x.place (home_at w i h) ∙ rw (place_of_code x, draws_number x.place, swaps_number (get_or w.homes i 0) x.place)

-- a store of what is there already changes nothing
set_if : (f : Bool) (l : List ℕ) (at v : ℕ) → set l at (cond f v (get_or l at 0)) ≡ noted f l at v
set_if true l at v = refl
set_if false l at v = set-get_or l at 0

-- A PIECE, one step after another
module _ (w : TreeWords) (is codes : List ℕ) (K₀ : List ThreadTally) (n₀ : ℕ) where
  abbrev t : Tree
  t = tree_of w

  abbrev Given : List ℕ → List Step → State → Type 0
  Given us done s = Counting t is codes (marks_of K₀) (attempts_of K₀) (totals_of K₀) (longest_of K₀) n₀ us done s

  -- the first k steps are counted
  pub record CountedSoFar (K : List ThreadTally) (n k : ℕ) : Type 0 where
    pub within : k ≤ length is
    pub few : n ≤ n₀ + k
    pub tallies : (us : List ℕ) (done : List Step) (s : State) → Given us done s → Tallies t us (done ++ steps t (take k is) s) (marks_of K) (attempts_of K) (totals_of K) (longest_of K) n

  pub counted_start : CountedSoFar K₀ n₀ 0
  unfolding steps
  counted_start = record { within = omega arith; few = omega arith; tallies = λ us done s g. rw (append-nil done) g.tallied }

  module _ (K : List ThreadTally) (n k : ℕ) (G : CountedSoFar K n k) (h : k < length is) (C : Countable t is codes K₀ n₀) where
    abbrev M : List ℕ
    M = marks_of K

    abbrev A : List ℕ
    A = attempts_of K

    abbrev W : List ℕ
    W = totals_of K

    abbrev L : List ℕ
    L = longest_of K

    pub thread_known : get_or is k 0 < t.threads
    thread_known = thread_at t is C.counting.threads k h

    pub thread_small : get_or is k 0 < 256
    thread_small = below t is C.counting.tree C.counting.threads k h

    pub codes_long : k < length codes
    codes_long = omega (arith, C.counting.long)

    pub entered_few : n ≤ first + 65536
    entered_few = omega (arith, G.few, C.counting.short)

    pub note_fits : Fits (get_or K (get_or is k 0) nothing) n
    note_fits =
        let T = G.tallies C.under_way C.done C.state C.counting in
        record {
          few = entered_few;
          mark = omega (arith, mark_read K (get_or is k 0), mark_small t C.under_way _ M A W L n T (get_or is k 0) thread_small);
          attempts_few = omega (arith, attempts_read K (get_or is k 0), attempts_small t C.under_way _ M A W L n T (get_or is k 0) thread_small, entered_few);
          total_small = rw (sym (mark_read K (get_or is k 0)), sym (total_read K (get_or is k 0))) (total_small t C.under_way _ M A W L n T entered_few (get_or is k 0) thread_small);
        }

    pub going_turn :
        (b e : Bool) → b ≡ begins_number (ticket_home w.ticket_root (get_or w.homes (get_or is k 0) 0)) (get_or w.homes (get_or is k 0) 0) (get_or codes k 0 / 8) →
        (kd : Kind) → (get_or codes k 0 % 8 < 6 → number_of_kind kd ≡ get_or codes k 0 % 8) → e ≡ is_entry_number (number_of_kind kd) → (K' : List ThreadTally) →
        K' ≡ set K (get_or is k 0) (tally_noted b e n (get_or K (get_or is k 0) nothing)) → CountedSoFar K' (n + cond e 1 0) (k + 1)
    unfolding step
    going_turn b e eb kd ek ee K' eK =
        let at = get_or is k 0 in
        let r = tally_noted b e n (get_or K at nothing) in
        let m = mark_at M at n b in
        let f = finishes e m in
        let em : marks_of K' ≡ set M at (cond e 0 m) = ap marks_of eK ∙ map-set (λ q. q.mark) K at r ∙ rw (sym (mark_read K at)) refl in
        let ea : attempts_of K' ≡ noted f A at (get_or A at 0 + 1) = ap attempts_of eK ∙ map-set (λ q. q.attempts) K at r ∙ rw (sym (mark_read K at), sym (attempts_read K at)) (set_if f A at (get_or A at 0 + 1)) in
        let ew : totals_of K' ≡ noted f W at (get_or W at 0 + wait_of n m) = ap totals_of eK ∙ map-set (λ q. q.total) K at r ∙ rw (sym (mark_read K at), sym (total_read K at)) (set_if f W at (get_or W at 0 + wait_of n m)) in
        let el : longest_of K' ≡ noted f L at (max (get_or L at 0) (wait_of n m)) = ap longest_of eK ∙ map-set (λ q. q.longest) K at r ∙ rw (sym (mark_read K at), sym (longest_read K at)) (set_if f L at (max (get_or L at 0) (wait_of n m))) in
        record {
          within = omega arith;
          few = omega (arith, G.few, at_most e);
          tallies =
              λ us done s g.
              (let i = get_or is k 0 in
              let x = step t i (state_after s (steps t (take k is) s)) in
              let code : get_or codes k 0 ≡ step_code x = g.each_code k h in
              let begins : begins_from t i x.place ≡ b = begins_by_code w i x thread_known ∙ sym (eb ∙ ap (λ v. begins_number (ticket_home w.ticket_root (get_or w.homes i 0)) (get_or w.homes i 0) (v / 8)) code) in
              let enters : is_entry x.kind ≡ e = kind_by_code x _ kd code ek ∙ sym ee in
              let more : done ++ steps t (take (k + 1) is) s ≡ (done ++ steps t (take k is) s) ++ (x ∷ []) =
              ap (λ (r : List Step). done ++ r) (next_step t is [] s k h) ∙ sym (append_assoc done (steps t (take k is) s) (x ∷ [])) in
              rw more (turn t us _ M A W L n (G.tallies us done s g) x i refl thread_small b e begins enters (marks_of K') (attempts_of K') (totals_of K') (longest_of K') em ea ew el));
        }

    -- the same with the numbers that the code has read
    pub counted_read :
        (at : ℕ) → at ≡ get_or is k 0 → (th b e : Bool) → th ≡ ticket_home w.ticket_root (get_or w.homes at 0) →
        b ≡ begins_number th (get_or w.homes at 0) (get_or codes k 0 / 8) → (kd : Kind) → (get_or codes k 0 % 8 < 6 → number_of_kind kd ≡ get_or codes k 0 % 8) → e ≡ is_entry_number (number_of_kind kd) → (K' : List ThreadTally) (n' : ℕ) → n' ≡ n + cond e 1 0 →
        K' ≡ set K at (tally_noted b e n (get_or K at nothing)) → CountedSoFar K' n' (k + 1)
    counted_read at ei th b e et eb kd ek ee K' n' en eK =
        rw en
        (going_turn b e
        (eb ∙ ap (λ v. begins_number v (get_or w.homes at 0) (get_or codes k 0 / 8)) et
        ∙ ap (λ v. begins_number (ticket_home w.ticket_root (get_or w.homes v 0)) (get_or w.homes v 0) (get_or codes k 0 / 8)) ei)
        kd ek ee K' (eK ∙ ap (λ v. set K v (tally_noted b e n (get_or K v nothing))) ei))

  pub counted_ends : (K : List ThreadTally) (n k : ℕ) → CountedSoFar K n k → length is ≤ k → Counted t is codes K₀ n₀ K n
  counted_ends K n k G h = record { counted = λ us done s g. subst (λ (r : List ℕ). Tallies t us (done ++ steps t r s) (marks_of K) (attempts_of K) (totals_of K) (longest_of K) n) (take_all k is h) (G.tallies us done s g) }
