-- Going up a thread's path: at which domain it is, with which record.
use mathlib.Core.Path.{◌≡◌, sym, ap, ◌∙◌}
use Prim.Native.Nat.{ℕ, suc, ◌+◌, ◌≤◌, ◌<◌}
use native.Mathlib.Omega.{arith}
use lib.ListN.{get_or}
use Rattle.model.specs.declared.TreeWords.{TreeWords}
use Rattle.model.specs.Trees.{Tree, tree_of}
use Rattle.model.specs.Refusals.{tree_refusal}
use Rattle.model.proofs.Trees.Index.{ancestor, height, record_at}
use Rattle.model.proofs.Trees.Accepted.{Accepted, accepted}
use Rattle.model.proofs.Trees.Paths.{ancestor_home, ancestor_real, ancestor_parent_of, ancestor_not_root}
use Rattle.model.proofs.Trees.Records.{record_own, record_suc, record_small}
use Rattle.model.proofs.Trees.Reading.{home_read, parent_read, domains_read, threads_read}

-- the loop is at domain c, with record r there
pub record At (t : Tree) (i r c : ℕ) : Type 0 where
  pub index : ℕ
  pub within : index ≤ height t i
  pub there : ancestor t i index ≡ c
  pub mine : record_at t i index ≡ r

module _ (w : TreeWords) (ok : (tree_refusal (tree_of w)).number ≡ 0) where
  abbrev pub t : Tree
  t = tree_of w

  abbrev pub valid : Accepted t
  valid = accepted t ok

  module _ (i : ℕ) (h : i < w.threads) where
    pub real : i < t.threads
    real = rw (threads_read w) h

    unfoldable pub at_home : At t i i (get_or w.homes i 0)
    at_home = record { index = 0; within = omega arith; there = ancestor_home t i ∙ home_read w i h; mine = record_own t i }

    module _ (r c : ℕ) (a : At t i r c) where
      pub at_real : c < w.domains
      at_real = rw (a.there, domains_read w) at (ancestor_real t valid i real a.index)

      pub at_record : r < 320
      at_record = rw a.mine at (record_small t valid i real a.index a.within)

      unfoldable pub at_next : 0 < c → At t i (256 + c) (get_or w.parents c 0)
      at_next p =
          let l = ancestor_not_root t valid i real a.index a.within (rw a.there p) in
          record {
            index = suc a.index;
            within = l;
            there = sym (ancestor_parent_of t valid i real a.index l) ∙ ap t.parent a.there ∙ parent_read w c p at_real;
            mine = record_suc t i a.index ∙ ap (λ d. 256 + d) a.there;
          }

      pub at_falls : 0 < c → get_or w.parents c 0 < c
      at_falls p =
          let low = valid.parent_lower c p (rw (domains_read w) at_real) in
          omega (arith, parent_read w c p at_real)
