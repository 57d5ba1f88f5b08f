-- What a run looks at before a raise, and whether its counters can take 65,536 more.
use Rattle.std.specs.Prelude.{◌≡◌, Bool, true, false, ◌&&◌, List, ℕ, ◌+◌, ◌≤◌, ◌<◌, eqb, get_or, length}
use Rattle.model.specs.declared.PlaceArrays.{PlaceArrays}
use Rattle.model.specs.Scans.{any_below}
use Rattle.model.specs.Counters.{most_counted}
use Rattle.model.specs.States.{numbers_at}
use Rattle.rows.specs.Common.Counting.{taken_in, is_watch_in}

-- a thread watches for the record of a domain, which has this ticket
abbrev pub shows_in : (domains : ℕ) → (parents homes statuses : List ℕ) → (places : PlaceArrays) → (ticket domain thread : ℕ) → Bool
shows_in m ps hs vs qs v d j = is_watch_in (numbers_at qs j) && (eqb (taken_in m ps (get_or hs j 0) 0) d && eqb (get_or vs (256 + d) 0) v)

-- for each domain, whether one of the first threads does
pub record Marked (domains : ℕ) (parents homes statuses : List ℕ) (places : PlaceArrays) (ticket threads : ℕ) (shown : List Bool) : Type 0 where
  pub room : length shown ≡ 64
  pub marked : (d : ℕ) → d < 64 → get_or shown d false ≡ any_below threads (shows_in domains parents homes statuses places ticket d)

-- the answer is true only if 65,536 more leave every counter at most 2^63
pub record RoomAnswered (entries tenures : List ℕ) (answer : Bool) : Type 0 where
  pub entries_fit : answer ≡ true → (d : ℕ) → d < 64 → get_or entries d 0 + 65536 ≤ most_counted
  pub tenures_fit : answer ≡ true → (d : ℕ) → d < 64 → get_or tenures d 0 + 65536 ≤ most_counted
