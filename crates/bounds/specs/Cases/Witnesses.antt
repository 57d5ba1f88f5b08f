-- WHO MEETS WHAT THE LAWS ASK: inputs that have at once all that a law of `bounds` asks of them beside a tree, a schedule and a thread, which `Witnesses` of `model` has; docs/WITNESSES.md is the list.
use Rattle.std.specs.Prelude.{◌≡◌, true, List, [], ◌∷◌, ℕ, ◌*◌, ◌≤◌, length, replicate}
use Rattle.model.specs.declared.TreeWords.{TreeWords}
use Rattle.model.specs.Trees.{Tree, tree_of, level}
use Rattle.model.specs.States.{place, fresh_state}
use Rattle.model.specs.Runs.{steps, run}
use Rattle.model.specs.Refusals.{tree_refusal}
use Rattle.model.specs.Cases.Marked.{tree, two_homes}
use Rattle.model.specs.Cases.Ticket.{three_in_ticket}
use Rattle.waits.specs.Attempts.{waits}
use Rattle.bounds.specs.StarvationFreedom.Bounds.{members}
use Rattle.bounds.specs.StarvationFreedom.Laws.{is_acquiring, is_releasing, Rounds, Windows, round_robin}
use Rattle.bounds.specs.LongestWait.Bounds.{wait_bound}
use Rattle.bounds.specs.LongestWait.InLine.{late_entry, count_steps}
use Rattle.bounds.specs.LongestWait.Laws.{Even}

-- 1. ROUNDS AND WINDOWS. Round robin has as many rounds as one likes, in every tree, and windows as long as the threads, so many turns
unfoldable pub RoundsMet : Type 0
RoundsMet =
    (t : Tree) (n : ℕ) →
    Rounds t n (round_robin t.threads n) × Windows t t.threads (round_robin t.threads n)
    × (t.threads * n ≤ length (round_robin t.threads n))

-- thread 0 is on its way up, and after its entry on its way down
pub record PlacesMet : Type 0 where
  pub acquiring : is_acquiring (place (run (tree_of two_homes) (0 ∷ 0 ∷ []) (fresh_state (tree_of two_homes) 0)).state 0) ≡ true
  pub releasing : is_releasing (place (run (tree_of two_homes) (replicate 5 0) (fresh_state (tree_of two_homes) 0)).state 0) ≡ true

-- 2. EQUAL LEVELS: two threads a home, two homes a socket and two sockets, with every threshold 2
unfoldable pub two_by_two_by_two : TreeWords
two_by_two_by_two = tree 7 8 (0 ∷ 0 ∷ 0 ∷ 1 ∷ 1 ∷ 2 ∷ 2 ∷ []) (0 ∷ replicate 6 2) (3 ∷ 3 ∷ 4 ∷ 4 ∷ 5 ∷ 5 ∷ 6 ∷ 6 ∷ [])

-- it has all that the laws of even trees and of equation 18 ask, and W of its threads is what both say
pub record EvenMet (t : Tree) : Type 0 where
  pub accepted : (tree_refusal t).number ≡ 0
  pub even : Even t
  pub three_levels : level t (t.home 0) ≡ 3
  pub two_threads : 2 ≤ members t (t.home 0)
  pub two_homes_each : 2 ≤ members t (t.parent (t.home 0))
  pub home_passes : members t (t.home 0) ≤ t.threshold (t.home 0)
  pub socket_passes : members t (t.parent (t.home 0)) ≤ t.threshold (t.parent (t.home 0))
  pub waits_for_all : wait_bound t 0 ≡ 7

-- 3. PROMPT ENTRIES. Three threads draw one after another, and enter in turn: no entry of another thread is late for thread 2, which waits for one
unfoldable pub in_turn : List ℕ
in_turn = 0 ∷ 1 ∷ 2 ∷ 0 ∷ 0 ∷ 1 ∷ 1 ∷ 1 ∷ 2 ∷ []

pub record PromptMet (t : Tree) : Type 0 where
  pub all_prompt : count_steps (late_entry t 2) (fresh_state t 0) (steps t in_turn (fresh_state t 0)) ≡ 0
  pub waited : waits t 2 (steps t in_turn (fresh_state t 0)) ≡ 1 ∷ []

pub record Witnesses : Type 0 where
  pub rounds : RoundsMet
  pub places : PlacesMet
  pub even : EvenMet (tree_of two_by_two_by_two)
  pub prompt : PromptMet (tree_of three_in_ticket)
