-- What a step counts, given the words that it reads. proofs/ of `lock` shows that it is what the model counts.
use Rattle.std.specs.Prelude.{◌≡◌, ℕ, Bool, cond, ◌≢◌, List, ◌==◌}
use Rattle.model.specs.declared.Counters.{Counters}
use Rattle.model.specs.declared.PlaceWords.{PlaceWords}
use Rattle.rows.specs.Common.Counting.{taken_in, record_domain_in, added_at, raised_at, CountedShown, Clear}

-- the domain whose tenure a step other than a raise starts, given its place before, the row of its place after and its kind; 0 for none
unfoldable pub started_in : (domains : ℕ) → (parents : List ℕ) → (home : ℕ) → (before : PlaceWords) → (after kind : ℕ) → ℕ
started_in m ps h q a k =
    cond (q.row == 10) (record_domain_in q.peer)
    (cond (q.row == 2) (cond (a == 3) 0 (taken_in m ps h q.domain))
    (cond (q.row == 11) (cond (k == 1) 0 (taken_in m ps h 0))
    0))

-- the tenures that a step counts: a raise counts those whose ticket it shows, a Check that will grant reports the word as a length, and any other step counts the one that it starts
pub record CountedStep (domains : ℕ) (parents : List ℕ) (home : ℕ) (before after : PlaceWords) (kind : ℕ) (shown : List Bool) (old new : Counters) : Type 0 where
  pub raise : before.row ≡ 13 → CountedShown shown 64 old new
  pub check : before.row ≡ 6 → (new.tenures ≡ old.tenures) × (new.longest ≡ raised_at old.longest (cond (after.row == 10) before.domain 0) after.word)
  pub other :
      before.row ≢ 13 → before.row ≢ 6 →
      (new.tenures ≡ added_at old.tenures (started_in domains parents home before after.row kind)) × (new.longest ≡ raised_at old.longest (started_in domains parents home before after.row kind) 1)

-- the marks after a step: none after a raise, unchanged after any other step
pub record ShownLeft (before : PlaceWords) (shown left : List Bool) : Type 0 where
  pub raise : before.row ≡ 13 → Clear left
  pub other : before.row ≢ 13 → left ≡ shown
