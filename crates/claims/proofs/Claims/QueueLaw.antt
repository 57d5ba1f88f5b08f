-- In states reached from fresh each domain has its queue, and exactly one thread acts for each member in it.
use mathlib.Core.Path.{◌≡◌, refl, sym, ap, ◌∙◌}
use mathlib.Core.Bool.{Bool, true, false, cond, false≢true}
use mathlib.Core.Logic.{inl, inr}
use mathlib.Core.List.{List, [], ◌∷◌}
use Prim.Native.Nat.{ℕ, ◌+◌, ◌≤◌, ◌<◌}
use native.Mathlib.Omega.{arith}
use lib.ListN.{drop}
use borrow.Author.Tests.{ltb-true, lt-ltb}
use Rattle.model.specs.declared.State.{State as WordState}
use Rattle.model.specs.Trees.{Tree, is_ticket, on_path, own_record}
use Rattle.model.specs.States.{none, tail, status, place, wrap, fresh_state}
use Rattle.model.specs.Runs.{steps, run_of, run}
use Rattle.model.specs.Acts.{acts_at}
use Rattle.model.specs.Acts as model
use Rattle.model.specs.Laws.{SixteenBit}
use Rattle.claims.specs.Reached.{last_or_none, Consecutive, ActsFor, ActedOnce, QueueLaw}
use Rattle.model.proofs.Tests.{and_both}
use Rattle.model.proofs.Trees.Index.{ancestor, height, record_at}
use Rattle.model.proofs.Trees.Accepted.{Accepted, accepted}
use Rattle.model.proofs.Trees.Paths.{path_index, on_path_at}
use Rattle.model.proofs.Trees.Records.{own_record_at, member_at}
use Rattle.model.proofs.Lists.{rest, is, count, first_in, count_rest, less_or}
use Rattle.claims.proofs.Queues.Paths.{laws}
use Rattle.claims.proofs.Queues.Moves.{low, acts, State}
use Rattle.claims.proofs.Queues.Invariant.{Inv, acts_low, unique}
use Rattle.claims.proofs.Queues.Remaining.{acts_real}
use Rattle.claims.proofs.Queues.Order.{in_order}
use Rattle.claims.proofs.Words.Links.{final}
use Rattle.claims.proofs.Words.View.{words_in}
use Rattle.claims.proofs.Words.Represents.{Tickets}
use Rattle.claims.proofs.Claims.Reached.{Queued, from_fresh}
use Rattle.claims.proofs.Claims.InOrder.{begun_shown, ended_shown}
use Rattle.claims.proofs.Claims.Bounded.{same_count}
use Rattle.claims.proofs.Claims.Acting.{acts_stage}

same_last : (q : List ℕ) → final q ≡ last_or_none q
unfolding final last_or_none
same_last [] = refl
same_last (m ∷ []) = refl
same_last (m ∷ n ∷ ms) = same_last (n ∷ ms)

rest_drop : (q : List ℕ) → rest q ≡ drop 1 q
unfolding rest
rest_drop [] = refl
rest_drop (m ∷ ms) = refl

-- the tail names the last member; a ticket root has no tail
tail_there :
    (t : Tree) (s : WordState) (q : Queued t s) (d : ℕ) (b : Bool) → is_ticket t d ≡ b → tail s d ≡ cond b none (last_or_none (q.queues.queue d))
unfolding words_in
tail_there t s q d true e = elim (q.facts.tails d) [ inl z ↦ z | inr m ↦ absurd (false≢true (sym m.0 ∙ e)) ]
tail_there t s q d false e = (q.represents.linked d e).last ∙ same_last (q.queues.queue d)

tickets_there : (s : WordState) (v : ℕ) (q : List ℕ) → Tickets (λ r. status s r) v s.ticket q → Consecutive s v q
unfolding Tickets Consecutive
tickets_there s v [] h = h
tickets_there s v (m ∷ ms) h = (h.0, tickets_there s (wrap (v + 1)) ms h.1)

module _ (t : Tree) (valid : Accepted t) (bits : SixteenBit t) (s : WordState) (q : Queued t s) where
  abbrev pub g : State
  g = q.queues

  abbrev pub inv : Inv t g
  inv = q.represents.invariant

  -- a thread that acts for a record uses it at an index at which its stage acts
  pub record Acting (d m i : ℕ) : Type 0 where
    pub index : ℕ
    pub within : index < acts (height t i) (g.stage i)
    pub there : ancestor t i index ≡ d
    pub mine : record_at t i index ≡ m

  pub acting_index : (d m i : ℕ) → ActsFor t s d m i → Acting d m i
  unfolding model.acts words_in
  acting_index d m i a =
      let both = and_both (on_path t i d) (acts_at t s i (place s i) d) a.acting in
      let o = path_index t valid i a.real d both.0 in
      let k = o.index in
      let z = acts_stage t valid i a.real k o.within bits s g inv refl (q.represents.fits i a.real) in
      let w : acts_at t s i (place s i) (ancestor t i k) ≡ true = rw o.there both.1 in
      record {
        index = k;
        within = ltb-true k (acts (height t i) (g.stage i)) (sym z ∙ w);
        there = o.there;
        mine = sym (own_record_at t valid i a.real k o.within) ∙ ap (own_record t i) o.there ∙ a.record_there;
      }

  pub index_acting : (i k : ℕ) → k < acts (height t i) (g.stage i) → ActsFor t s (ancestor t i k) (record_at t i k) i
  unfolding model.acts words_in
  index_acting i k b =
      let r = acts_real t (laws t valid) g inv i k b in
      let z = acts_stage t valid i r.0 k r.2 bits s g inv refl (q.represents.fits i r.0) in
      record {
        real = r.0;
        acting = rw (on_path_at t valid i r.0 k r.2) (z ∙ lt-ltb k (acts (height t i) (g.stage i)) b);
        record_there = own_record_at t valid i r.0 k r.2;
      }

  acted_once : (d m : ℕ) → 1 ≤ count m (g.queue d) → ActedOnce t s d m
  acted_once d m b =
      let a = inv.acted d m b in
      record {
        thread = a.thread;
        acting = rw (a.place, a.mine) at (index_acting a.thread a.index a.acting);
        only = λ j f.
            let x = acting_index d m j f in
            (unique t (laws t valid) g inv j a.thread x.index a.index x.within a.acting (x.mine ∙ sym a.mine)).0;
      }

  -- a record for which a thread acts is in the queue, as its first or standing
  pub in_queue : (i k : ℕ) → k < acts (height t i) (g.stage i) → 1 ≤ count (record_at t i k) (g.queue (ancestor t i k))
  in_queue i k b =
      let th = inv.threads i in
      let lo = low (height t i) (g.stage i) in
      less_or k lo _
      (λ c. first_in (record_at t i k) (g.queue (ancestor t i k)) (th.heads k c))
      (λ c.
      let z : k ≡ lo = omega (arith, acts_low (height t i) (g.stage i)) in
      let st = th.stands (omega arith) in
      let st' : 1 ≤ count (record_at t i k) (rest (g.queue (ancestor t i k))) = rw (← z) at st in
      omega (arith, count_rest (record_at t i k) (g.queue (ancestor t i k))))

pub queue_law : QueueLaw
unfolding QueueLaw run run_of words_in
queue_law t v is k =
    let valid = accepted t k.tree_accepted in
    let bits = k.sixteen_bit in
    let x = from_fresh t valid bits v is k.threads in
    let q = x.there in
    let s = (run t is (fresh_state t v)).state in
    let g = q.queues in
    let inv = q.represents.invariant in
    record {
      queue = g.queue;
      tails = λ d. tail_there t s q d _ refl;
      tickets = λ e. tickets_there s s.grant (g.queue 0) (q.represents.numbered e).held;
      standing = λ d.
          rw (← begun_shown d (steps t is (fresh_state t v)), ← ended_shown d (steps t is (fresh_state t v)), ← rest_drop (g.queue d)) (in_order t d x.follows);
      members = λ d m b.
          let a = inv.acted d m (rw (same_count m (g.queue d)) b) in
          let r = acts_real t (laws t valid) g inv a.thread a.index a.acting in
          rw (a.place, a.mine) at (member_at t valid a.thread r.0 a.index r.2);
      once = λ d m. rw (← same_count m (g.queue d)) (inv.once d m);
      acted = λ d m b. acted_once t valid bits s q d m (rw (same_count m (g.queue d)) b);
      acted_only = λ d m i a.
          let y = acting_index t valid bits s q d m i a in
          rw (← same_count m (g.queue d)) (rw (y.there, y.mine) at (in_queue t valid bits s q i y.index y.within));
    }
