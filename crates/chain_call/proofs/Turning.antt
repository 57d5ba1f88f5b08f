-- One turn of the loop that follows the links.
use mathlib.Core.Path.{◌≡◌, sym, ◌∙◌}
use mathlib.Core.Bool.{Bool, true, false}
use mathlib.Core.List.{List}
use mathlib.Core.Logic.{◌≢◌}
use Prim.Native.Nat.{ℕ, suc, ◌+◌, ◌≤◌, ◌<◌}
use lib.ListN.{get_or, set, replicate}
use Rattle.model.specs.declared.TreeWords.{TreeWords}
use Rattle.model.specs.declared.State.{State}
use Rattle.model.specs.Trees.{Tree, tree_of}
use Rattle.model.specs.WellFormed.{well_formed}
use Rattle.model.specs.Refusals.{tree_refusal}
use Rattle.model.specs.States.{numbers_at}
use Rattle.model.proofs.Trees.Accepted.{Accepted, accepted}
use Rattle.model.proofs.Trees.Reading.{threads_read}
use Rattle.chain.specs.Chain.{stays, looks_to, only, chain}
use Rattle.chain_call.specs.declared.tables.Count.{Count}
use Rattle.chain_call.specs.declared.links.Link.{Link}
use Rattle.chain_call.specs.declared.links.Link.TheVariants.{Moves, To, Broken}
use Rattle.std.specs.Prelude.{Option, None, Some}
use Rattle.chain_call.specs.Tables.{Filled, SoundPlace, link_by, Followed}
use Rattle.chain_call.proofs.Filling.{on_its_path}
use Rattle.chain_call.proofs.Linking.{LinkOf, link_is, sound_place}
use Rattle.chain_call.proofs.Following.{Follows, follow_first, follow_ends, follow_nobody, follow_full, follow_back, follow_next}

module _ (w : TreeWords) (ok : (tree_refusal (tree_of w)).number ≡ 0) (s : State) (form : well_formed (tree_of w) s ≡ true) (xs : List Count) (ks vs : List (Option ℕ))
    (tables : Filled (tree_of w) s w.threads xs ks vs) (start : ℕ) (h : start < w.threads) where
  abbrev t : Tree
  t = tree_of w

  valid : Accepted t
  valid = accepted t ok

  all_tables : Filled t s t.threads xs ks vs
  unfolding tree_of
  all_tables = tables

  start_real : start < t.threads
  start_real = rw (threads_read w) h

  pub turn_first : Follows t s start (set (replicate 256 0) 0 start) (set (replicate 256 false) start true) start 1
  turn_first = follow_first t s start valid.few_threads start_real

  module _ (found : List ℕ) (seen : List Bool) (i n : ℕ) (x : Follows t s start found seen i n) where
    pub turn_real : i < w.threads
    turn_real = rw (threads_read w) at x.real

    pub turn_within : n ≤ w.threads
    turn_within = rw (threads_read w) at x.within

    pub turn_sound : SoundPlace t s.statuses i (numbers_at s.places i)
    turn_sound = sound_place t valid s form xs ks vs all_tables i x.real (on_its_path w ok s form i turn_real)

    module _ (one : Link) (e : one ≡ link_by t s xs ks vs i) where
      is_link : LinkOf t s i one
      is_link = rw e (link_is t valid s form xs ks vs all_tables i x.real (on_its_path w ok s form i turn_real))

      pub turn_ends : one ≡ Moves → Followed w.threads (chain t s start) found (Some n)
      unfolding tree_of
      turn_ends z = follow_ends t s start valid.few_threads start_real found seen i n x (is_link.moves z)

      pub turn_nobody : one ≡ Broken → Followed w.threads (chain t s start) found None
      unfolding tree_of
      turn_nobody z = let b = is_link.broken z in follow_nobody t s start valid.few_threads start_real found seen i n x b.0 b.1

      module _ (j : ℕ) (z : one ≡ To j) where
        stayed : (stays t s i ≡ true) × (only (looks_to t s i) ≡ suc j) × (j < t.threads)
        stayed = is_link.leads j z

        pub turn_small : j < w.threads
        turn_small = rw (threads_read w) at stayed.2

        pub turn_full : n ≡ w.threads → Followed w.threads (chain t s start) found None
        unfolding tree_of
        turn_full y = follow_full t s start valid.few_threads start_real found seen i n x j stayed.0 stayed.1 stayed.2 (y ∙ sym (threads_read w))

        pub turn_back : get_or seen j false ≡ true → Followed w.threads (chain t s start) found None
        unfolding tree_of
        turn_back y = follow_back t s start valid.few_threads start_real found seen i n x j stayed.0 stayed.1 stayed.2 y

        pub turn_next : n ≢ w.threads → get_or seen j false ≡ false → Follows t s start (set found n j) (set seen j true) j (n + 1)
        turn_next y v = follow_next t s start valid.few_threads start_real found seen i n x j stayed.0 stayed.1 stayed.2 (λ u. y (u ∙ threads_read w)) v
