-- While one member stands ungranted, the threads under another enter at most as often as its allowance.
use mathlib.Core.Path.{◌≡◌, refl, sym, ap, ◌∙◌}
use mathlib.Core.Bool.{Bool, true, false, cond}
use mathlib.Core.List.{List, [], ◌∷◌, ◌++◌, append_assoc}
use mathlib.Core.Logic.{◌≢◌}
use Prim.Native.Nat.{ℕ, zero, suc, ◌+◌, ◌≤◌, ◌<◌}
use native.Mathlib.Omega.{arith}
use lib.Dec.{eqb}
use borrow.Author.Tests.{eq-eqb}
use Rattle.model.specs.Trees.{Tree, is_member, under, allowance}
use Rattle.model.specs.Steps.{is_entry, begins, Step}
use Rattle.model.specs.Runs.{ended, entries_under, occurrences}
use Rattle.model.proofs.Tests.{or_right}
use Rattle.model.proofs.Trees.Index.{height, record_at}
use Rattle.model.proofs.Trees.Accepted.{Accepted}
use Rattle.model.proofs.Trees.Records.{member_owner, member_works}
use Rattle.model.proofs.Lists.{same_or, is, count}
use Rattle.claims.proofs.Queues.Paths.{laws}
use Rattle.claims.proofs.Queues.Moves as moves
use Rattle.claims.proofs.Queues.Moves.{State, Event, empty, Run}
use Rattle.claims.proofs.Queues.Allowance.{between}
use Rattle.claims.proofs.Words.Outcome.{standing_shown, entry_shown, shown}
use Rattle.claims.proofs.Claims.Reached.{all_shown, AllReal}
use Rattle.claims.proofs.Claims.InOrder.{given_append, entry_given, ended_shown}

-- AN ENTRY UNDER A MEMBER: the thread works with the member's record
module _ (t : Tree) (valid : Accepted t) (d q : ℕ) (mem : is_member t d q ≡ true) where
  found : (i n k : ℕ) → k < n → record_at t i k ≡ q → moves.under_from t i n q ≡ true
  unfolding moves.under_from
  found i zero k b e = absurd (omega arith)
  found i (suc n) k b e =
      same_or k n _
      (λ z. let y = eq-eqb (record_at t i n) q (ap (record_at t i) (sym z) ∙ e) in rw y)
      (λ z. or_right (eqb (record_at t i n) q) (moves.under_from t i n q) (found i n k (omega arith) e))

  under_queues : (i : ℕ) → i < t.threads → under t q i ≡ true → moves.under t i q ≡ true
  unfolding moves.under
  under_queues i h u =
      let w = member_works t valid i h d q mem u in
      found i (suc (height t i)) w.index (omega (arith, w.within)) w.with_record

  one_entry : (i : ℕ) → i < t.threads → (b c : Bool) → under t q i ≡ c → cond b (cond (under t q i) 1 0) 0 ≤ moves.entries t q (cond b (moves.entered i ∷ []) [])
  unfolding moves.entries moves.entry_by
  one_entry i h true true e = let z = under_queues i h e in rw (e, z) (omega arith)
  one_entry i h true false e = rw e (omega arith)
  one_entry i h false c e = omega arith

  entries_append : (xs ys : List Event) → moves.entries t q (xs ++ ys) ≡ moves.entries t q xs + moves.entries t q ys
  unfolding moves.entries
  entries_append [] ys = omega arith
  entries_append (x ∷ xs) ys = omega (arith, entries_append xs ys)

  step_entries : (x : Step) → x.thread < t.threads → cond (is_entry x.kind) (cond (under t q x.thread) 1 0) 0 ≤ moves.entries t q (shown x)
  unfolding shown entry_shown
  step_entries x h =
      omega (
        arith,
        one_entry x.thread h (is_entry x.kind) (under t q x.thread) refl,
        entries_append (standing_shown x.standing x.domain) (cond (is_entry x.kind) (moves.entered x.thread ∷ []) []),
      )

  -- the entries of the table's steps are among those that the moves show
  entries_shown : (xs : List Step) → AllReal t xs → entries_under t q xs ≤ moves.entries t q (all_shown xs)
  unfolding entries_under all_shown AllReal moves.entries
  entries_shown [] l = omega arith
  entries_shown (x ∷ xs) l =
      omega (arith, step_entries x l.0, entries_shown xs l.1, entries_append (shown x) (all_shown xs))

pub same_count : (m : ℕ) (xs : List ℕ) → count m xs ≡ occurrences m xs
unfolding count is occurrences
same_count m [] = refl
same_count m (x ∷ xs) = rw (same_count m xs)

shown_append : (xs ys : List Step) → all_shown (xs ++ ys) ≡ all_shown xs ++ all_shown ys
unfolding all_shown
shown_append [] ys = refl
shown_append (x ∷ xs) ys = rw (shown_append xs ys) (simp append_assoc)

real_after : (t : Tree) (xs ys : List Step) → AllReal t (xs ++ ys) → AllReal t ys
unfolding AllReal
real_after t [] ys l = l
real_after t (x ∷ xs) ys l = real_after t xs ys l.1

real_before : (t : Tree) (xs ys : List Step) → AllReal t (xs ++ ys) → AllReal t xs
unfolding AllReal
real_before t [] ys l = tt
real_before t (x ∷ xs) ys l = (l.0, real_before t xs ys l.1)

pub bounded :
    (t : Tree) → Accepted t → (all : List Step) (g : State) → AllReal t all → Run t empty (all_shown all) g →
    (before meanwhile later : List Step) (x : Step) (m q : ℕ) → all ≡ before ++ (x ∷ (meanwhile ++ later)) → x.standing ≡ begins m →
    occurrences m (ended x.domain meanwhile) ≡ 0 → is_member t x.domain q ≡ true → q ≢ m → entries_under t q meanwhile ≤ allowance t q
unfolding all_shown shown standing_shown entry_shown AllReal
bounded t valid all g real r before meanwhile later x m q e st none mem n =
    let d = x.domain in
    let entry = cond (is_entry x.kind) (moves.entered x.thread ∷ []) [] in
    let split : all_shown all ≡ all_shown before ++ (moves.begins d m ∷ ((entry ++ all_shown meanwhile) ++ all_shown later)) =
    ap all_shown e ∙ shown_append before (x ∷ (meanwhile ++ later)) ∙ rw (st, shown_append meanwhile later) (simp append_assoc) in
    let quiet : count m (moves.given d (entry ++ all_shown meanwhile)) ≡ 0 =
    ap (count m) (given_append d entry (all_shown meanwhile) ∙ rw (entry_given d (is_entry x.kind) x.thread) (ended_shown d meanwhile))
    ∙ same_count m (ended d meanwhile) ∙ none in
    let bound = between t (laws t valid) r (all_shown before) (entry ++ all_shown meanwhile) (all_shown later) d m q split quiet (member_owner t valid d q mem) n in
    let rest : AllReal t (meanwhile ++ later) = (real_after t before (x ∷ (meanwhile ++ later)) (rw e at real)).1 in
    omega (
      arith,
      bound,
      entries_shown t valid d q mem meanwhile (real_before t meanwhile later rest),
      entries_append t valid d q mem entry (all_shown meanwhile),
    )
