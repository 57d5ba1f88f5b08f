-- WHO MEETS WHAT THE LAWS ASK: inputs that have at once all that a law of `claims` asks of them beside a tree, a schedule and a thread, which `Witnesses` of `model` has; docs/WITNESSES.md is the list.
use Rattle.std.specs.Prelude.{◌≡◌, true, List, [], ◌∷◌, ◌++◌, ◌≢◌, ℕ, ◌+◌, ◌≤◌, length, replicate}
use Rattle.model.specs.declared.State.{State}
use Rattle.model.specs.declared.Place.TheVariants.{Idle, Wait, Check, Grant}
use Rattle.model.specs.Trees.{tree_of}
use Rattle.model.specs.States.{place, fresh_state}
use Rattle.model.specs.Steps.{is_entry, step}
use Rattle.model.specs.Runs.{run}
use Rattle.model.specs.Counters.{fresh_lock, most_counted}
use Rattle.model.specs.Answers.{fresh_answer}
use Rattle.model.specs.Calls.{one_step, a_run, Call, asked_entries, joined, Names, Stretches}
use Rattle.model.specs.Cases.Marked.{two_homes}
use Rattle.model.specs.Cases.Counters.{one_pass}
use Rattle.model.specs.Cases.Claim.{call, mixed_calls, mixed_schedule}
use Rattle.claims.specs.Reached.{last_state, ValidAsk}

-- a call after the list of mixed calls: the longest run that is allowed, on the list's tree
abbrev pub longest_call : Call
longest_call = call two_homes (a_run (replicate 65536 0) (replicate 65536 0))

pub record CallMeets : Type 0 where
  pub fresh : (fresh_answer two_homes 0).number ≡ 0
  pub names : Names (tree_of two_homes) mixed_calls (fresh_answer two_homes 0).state
  pub same_tree : tree_of longest_call.tree ≡ tree_of two_homes
  pub asks : ValidAsk (tree_of two_homes) longest_call.ask
  pub room : length (joined mixed_calls (fresh_answer two_homes 0).state) + length (asked_entries longest_call.ask) ≤ most_counted
  pub stretches : Stretches (tree_of two_homes) fresh_lock mixed_schedule 0 mixed_calls

-- STATES REACHED FROM FRESH in document 01's example. Thread 0 enters and thread 1 waits after it
unfoldable pub until_waiting : List ℕ
until_waiting = replicate 4 0 ++ replicate 3 1

unfoldable pub reached : (schedule : List ℕ) → State
reached is = (run (tree_of two_homes) is (fresh_state (tree_of two_homes) 0)).state

-- thread 0 leaves and is at its Check; the Check passes the lock on with count 2; granted, thread 1 enters from Wait below the root
pub record StatesReached : Type 0 where
  pub at_check : place (reached (until_waiting ++ 0 ∷ [])) 0 ≡ Check 1
  pub passes : place (step (tree_of two_homes) 0 (reached (until_waiting ++ 0 ∷ []))).state 0 ≡ Grant 1 1 2
  pub waits : place (reached (until_waiting ++ replicate 3 0)) 1 ≡ Wait 1
  pub enters : is_entry (step (tree_of two_homes) 1 (reached (until_waiting ++ replicate 3 0))).kind ≡ true

-- a tree whose thresholds are all 1
unfoldable pub ThresholdsOne : Type 0
ThresholdsOne = (d : ℕ) → (tree_of one_pass).threshold d ≤ 1

-- after a list of one step its thread is not Idle
pub record ListMeets : Type 0 where
  pub names : Names (tree_of two_homes) (call two_homes (one_step 0) ∷ []) (fresh_answer two_homes 0).state
  pub busy : place (last_state (call two_homes (one_step 0) ∷ []) (fresh_answer two_homes 0).state).words 0 ≢ Idle

pub record Witnesses : Type 0 where
  pub call_meets : CallMeets
  pub states : StatesReached
  pub thresholds : ThresholdsOne
  pub list_meets : ListMeets
