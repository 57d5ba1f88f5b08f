-- In a list, a call that names the tree and existing threads, with a trace buffer long enough, is accepted; and a run on its own lock is a list.
use mathlib.Core.Path.{◌≡◌, refl, ap, ◌∙◌}
use mathlib.Core.Bool.{true}
use mathlib.Core.List.{List, [], ◌∷◌, ◌++◌, append_assoc, append-nil}
use Prim.Native.Nat.{ℕ, zero, suc, ◌<◌}
use native.Mathlib.Omega.{arith}
use lib.ListN.{length, replicate, length-replicate}
use Rattle.model.specs.declared.LockState.{LockState}
use Rattle.model.specs.Trees.{Tree, tree_of}
use Rattle.model.specs.Counters.{good_counts}
use Rattle.model.specs.CounterLaws.{CounterFormLaw, RoomLaw, FreshRoomLaw}
use Rattle.model.specs.Refusals.{accepted, tree_refusal}
use Rattle.model.specs.Answers.{fresh_answer}
use Rattle.model.specs.Laws.{AllThreads, Formed, FormLaw}
use Rattle.model.specs.Calls.{Ask, one_step, a_run, Call, state_in, answer, ask_refusal, call_refusal, asked_entries, added, joined, Names}
use Rattle.claims.specs.Claim.{DemandThree}
use Rattle.claims.specs.Reached.{last_state, ValidAsk, NeverRefused, ValidAskLaw, LongestRunLaw, lone_run, LoneRunLaw}
use Rattle.model.proofs.Laws.Form.{form_law}
use Rattle.model.proofs.Laws.Calls.{CountsPass, step_facts, step_accepted, run_facts, run_accepted}
use Rattle.model.proofs.Laws.Counters.{counter_form_law, room_law, fresh_room, fresh_room_law}
use Rattle.claims.proofs.Claims.Calls.{reached, starts_here, returned, joined_threads}
use Rattle.claims.proofs.Claims.Demand.{demand_three}
use Rattle.model.proofs.Trees.Accepted.{sixteen_bit}

-- the last state returned is the table's after the list's schedule
pub last_reached :
    (t : Tree) (f : LockState) (cs : List Call) (pre : List ℕ) (s : LockState) → s ≡ reached t f pre → Names t cs s →
    last_state cs s ≡ reached t f (pre ++ joined cs s)
unfolding last_state joined Names
last_reached t f [] pre s here n = rw (append-nil pre) here
last_reached t f (c ∷ cs) pre s here n =
    let next = last_reached t f cs (pre ++ added c s) (state_in (answer c s)) (returned t f c pre [] s here n.0) n.1 in
    next ∙ ap (reached t f) (append_assoc pre (added c s) (joined cs (state_in (answer c s))))

asks_accepted :
    (t : Tree) → (tree_refusal t).number ≡ 0 → (a : Ask) (s : LockState) → Formed t s.words → good_counts t s.counters ≡ true → CountsPass t s (asked_entries a) → ValidAsk t a →
    ask_refusal t a s ≡ accepted
unfolding ask_refusal ValidAsk asked_entries
asks_accepted t ok (one_step i) s f g low h = step_accepted t s i (record { tree = ok; form = f.form; counts = g; thread = h }) low
asks_accepted t ok (a_run is b) s f g low h =
    run_accepted t s is (length b) (record { tree = ok; form = f.form; counts = g; short = omega (arith, h.1); threads = h.0; fits = omega (arith, h.2) }) low

pub valid_ask_law : ValidAskLaw
unfolding ValidAskLaw ValidAsk ask_refusal
valid_ask_law t (one_step i) s e = (step_facts t s i e).thread
valid_ask_law t (a_run is b) s e =
    let good = run_facts t s is (length b) e in
    (good.threads, omega (arith, good.short), omega (arith, good.fits))

same_threads : (t : Tree) (n i : ℕ) → i < t.threads → AllThreads t (replicate n i)
unfolding AllThreads
same_threads t zero i h = tt
same_threads t (suc n) i h = (h, same_threads t n i h)

pub longest_run_law : LongestRunLaw
unfolding LongestRunLaw ValidAsk
longest_run_law t h =
    let many = length-replicate {A = ℕ} 65536 0 in
    (same_threads t 65536 0 h, omega (arith, many), omega (arith, many))

pub never_refused : NeverRefused
unfolding NeverRefused fresh_answer call_refusal FormLaw CounterFormLaw RoomLaw FreshRoomLaw
never_refused w start cs ok n c same asks few =
    let t = tree_of w in
    let f = (fresh_answer w start).state in
    let all = joined_threads t f cs [] f (starts_here t f) n in
    let law = form_law t (sixteen_bit w) ok in
    let counts = counter_form_law t ok (sixteen_bit w) in
    let there = last_reached t f cs [] f (starts_here t f) n in
    let fresh_formed = law.of_fresh _ in
    let before : CountsPass t f (joined cs f) = room_law t (sixteen_bit w) f (joined cs f) (fresh_room (length (joined cs f)) (omega arith)) in
    rw (same, there)
    (asks_accepted t ok c.ask (reached t f (joined cs f)) (law.of_run (joined cs f) f.words all fresh_formed)
    (counts.of_run (joined cs f) f all fresh_formed counts.of_fresh before)
    (fresh_room_law t (sixteen_bit w) _ (joined cs f) (asked_entries c.ask) (omega arith)) asks)

pub lone_run_law : LoneRunLaw
unfolding LoneRunLaw DemandThree fresh_answer Names
lone_run_law w start is b ok = demand_three w start (lone_run w is b ∷ []) ok (λ e. refl, tt)
