-- A piece of the journal compared with the steps of its threads: the check continues after it, or 26 refuses at the first entry whose kind is not the step's.
use mathlib.Core.Path.{◌≡◌, refl, sym, ap, ◌∙◌}
use mathlib.Core.List.{List}
use Rattle.std.specs.Prelude.{Some}
use Rattle.refusals.specs.declared.reasons.Reason.{Reason}
use Rattle.refusals.specs.Reasons.{number_of}
use mathlib.Core.Logic.{◌≢◌}
use Prim.Native.Nat.{ℕ, zero, suc, ◌+◌, ◌≤◌, ◌<◌}
use native.Mathlib.Omega.{arith}
use lib.ListN.{length, get_or}
use Rattle.model.specs.declared.State.{State}
use Rattle.model.specs.Trees.{Tree}
use Rattle.model.specs.Steps.{step}
use Rattle.model.specs.Runs.{steps, state_after}
use Rattle.model.specs.Refusals.{refusal, accepted}
use Rattle.model.specs.Laws.{AllThreads}
use Rattle.journal_call.specs.Reader.Stretches.{position_after, Stretch, none_read, one_read, Stops, for_broken, for_thread}
use Rattle.journal.specs.Answers.{checked}
use Rattle.journal.specs.Laws.{kind_numbers}
use Rattle.journal.proofs.Facts.{moves_on}
use Rattle.journal_call.proofs.reader.Stretching.{position_next, position_none}
use Rattle.journal.proofs.Checking.{unknown_thread, same_kind, other_kind, broken_entry, journal_end, past_end, enough}

-- A STRETCH of entries: its threads are of the tree, and each entry takes at least one byte
pub stretch_threads : (t : Tree) {bs is ks : List ℕ} {p b e l : ℕ} → Stretch t.threads bs p b is ks e l → AllThreads t is
unfolding AllThreads
stretch_threads t none_read = tt
stretch_threads t (one_read f h s) = (h, stretch_threads t s)

pub stretch_moves : {known : ℕ} {bs is ks : List ℕ} {p b e l : ℕ} → Stretch known bs p b is ks e l → p + length is ≤ e
stretch_moves none_read = omega arith
stretch_moves {bs = bs} (one_read {p = p} {b = b} {i = i} {k = k} {next = q} f h s) = omega (arith, (moves_on bs p b i k q f).0, stretch_moves s)

-- and it ends within the journal
pub stretch_within : {known : ℕ} {bs is ks : List ℕ} {p b e l : ℕ} → Stretch known bs p b is ks e l → p ≤ length bs → e ≤ length bs
stretch_within none_read h = h
stretch_within {bs = bs} (one_read {p = p} {b = b} {i = i} {k = k} {next = q} f _ s) _ = stretch_within s (moves_on bs p b i k q f).1

-- the kinds of entries before a position are those of the steps
abbrev pub SameKinds : Tree → State → (threads kinds : List ℕ) → (position : ℕ) → Type 0
SameKinds t s is ks m = (j : ℕ) → j < m → get_or ks j 0 ≡ get_or (kind_numbers (steps t is s)) j 0

module _ (t : Tree) (bs : List ℕ) where
  stretch_passes :
      {is ks : List ℕ} {p b e l : ℕ} → Stretch t.threads bs p b is ks e l → (s : State) → SameKinds t s is ks (length is) → (n : ℕ) →
      checked (length is + n) t s bs p b ≡ checked n t (state_after s (steps t is s)) bs e l
  unfolding steps state_after kind_numbers
  stretch_passes none_read s f n = let z : 0 + n ≡ n = omega arith in rw z
  stretch_passes (one_read {p = p} {b = b} {i = i} {k = k} {next = q} {is = is} g h r) s f n =
      let z : suc (length is) + n ≡ suc (length is + n) = omega arith in
      rw z
      (same_kind t bs (length is + n) s p b i k q g h (f 0 (omega arith)) ∙ stretch_passes r (step t i s).state (λ j l. f (suc j) (omega arith)) n)

  stretch_stops :
      {is ks : List ℕ} {p b e l : ℕ} → Stretch t.threads bs p b is ks e l → (s : State) → (m : ℕ) → m < length is → SameKinds t s is ks m →
      get_or ks m 0 ≢ get_or (kind_numbers (steps t is s)) m 0 → (n : ℕ) → checked (length is + n) t s bs p b ≡ refusal 26 (position_after m bs p b)
  unfolding steps kind_numbers
  stretch_stops none_read s m h f d n = absurd (omega arith)
  stretch_stops (one_read {p = p} {b = b} {i = i} {k = k} {next = q} {is = is} g v r) s zero h f d n =
      let z : suc (length is) + n ≡ suc (length is + n) = omega arith in
      rw z (other_kind t bs (length is + n) s p b i k q g v d ∙ ap (refusal 26) (sym (position_none 0 bs p b refl)))
  stretch_stops (one_read {p = p} {b = b} {i = i} {k = k} {next = q} {is = is} g v r) s (suc m) h f d n =
      let z : suc (length is) + n ≡ suc (length is + n) = omega arith in
      rw z
      (same_kind t bs (length is + n) s p b i k q g v (f 0 (omega arith))
      ∙ stretch_stops r (step t i s).state m (omega arith) (λ j l. f (suc j) (omega arith)) d n
      ∙ ap (refusal 26) (sym (position_next m bs p b i k q g)))

  -- THE SAME FOR THE WHOLE CHECK from a position on
  module _ {is ks : List ℕ} {p b e l : ℕ} (r : Stretch t.threads bs p b is ks e l) (s : State) where
    pub goes_on : SameKinds t s is ks (length is) → checked (length bs) t s bs p b ≡ checked (length bs) t (state_after s (steps t is s)) bs e l
    goes_on f = enough t bs (length bs) (length is + length bs) s p b (omega arith) (omega arith) ∙ stretch_passes r s f (length bs)

    pub stops_here :
        (m : ℕ) → m < length is → SameKinds t s is ks m → get_or ks m 0 ≢ get_or (kind_numbers (steps t is s)) m 0 →
        checked (length bs) t s bs p b ≡ refusal 26 (position_after m bs p b)
    stops_here m h f d = enough t bs (length bs) (length is + length bs) s p b (omega arith) (omega arith) ∙ stretch_stops r s m h f d (length bs)

  -- after a piece: the reason for which reading stopped, or the end of the journal
  pub stopped_by : (s : State) (p b : ℕ) (why : Reason) → Stops t.threads bs p b (Some why) → checked (length bs) t s bs p b ≡ refusal (number_of why) p
  stopped_by s p b _ (for_broken f) = enough t bs (length bs) (suc (length bs)) s p b (omega arith) (omega arith) ∙ broken_entry t bs (length bs) s p b f
  stopped_by s p b _ (for_thread {i = i} {k = k} {next = q} f h) =
      enough t bs (length bs) (suc (length bs)) s p b (omega arith) (omega arith) ∙ unknown_thread t bs (length bs) s p b i k q f h

  pub ended : (s : State) (p b : ℕ) → length bs ≤ p → checked (length bs) t s bs p b ≡ accepted
  ended s p b h = journal_end t bs (length bs) s p b (past_end t bs p b h)
