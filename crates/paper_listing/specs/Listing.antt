-- Listing 1 of the paper on HMCS locks (source document 000), line by line. Fences are left out; docs/LISTING.md shows the lines next to the step table.
use Rattle.std.specs.Prelude.{cond, List, [], ◌∷◌, ℕ, ◌+◌, ◌-◌, eqb, ltb}
use Rattle.model.specs.Trees.{Tree}
use Rattle.model.specs.States.{cohort_start, acquire_parent, wait_word, unlocked, locked, none}
use Rattle.paper_listing.specs.Calls.{Memory, lock_at, next_at, status_at, store_lock, store_next, store_status, Return, from_acquire, from_release, after_17, after_29, after_31, after_41, after_43, after_82, Frame, Point, outside, critical, line_7, line_9, line_10, line_11, line_13, line_14, line_16, line_17, line_25, line_27, line_29, line_31, line_35, line_36, line_37, line_41, line_43, line_53, line_54, line_55, line_57, line_58, line_59, line_66, line_67, line_68, line_69, line_71, line_72, line_82, ticket_lock, control, After, goes, acquire_real, release_real, release_helper, returns}
use Rattle.paper_listing.specs.TicketLock.{ticket_line}

-- ONE LINE of thread i, in a call with L and I; fs are all its calls, m the memory
unfoldable pub line : Tree → (i : ℕ) → Point → (L I : ℕ) → (fs : List Frame) → (m : Memory) → After
-- 20 or 77: AcquireReal(L, I) of the thread's home and record, which starts with line 7, 66 or 90
line t i outside L I fs m = record { thread = acquire_real t (t.home i) i from_acquire []; memory = m }
-- 7: I->status = WAIT; I->next = NULL;
line t i line_7 L I fs m = goes line_9 fs (store_next I none (store_status I wait_word m))
-- 9: QNode * pred = (QNode *) SWAP(&(L->lock), I);
line t i line_9 L I fs m = goes (line_10 (lock_at m L)) fs (store_lock L (I + 1) m)
-- 10: if (pred) {
line t i (line_10 pred) L I fs m = goes (cond (eqb pred none) line_16 (line_11 (pred - 1))) fs m
-- 11: pred->next = I;
line t i (line_11 pred) L I fs m = goes line_13 fs (store_next pred (I + 1) m)
-- 13: while( (curStatus=I->status) == WAIT); // spin
line t i line_13 L I fs m = let s = status_at m I in goes (cond (eqb s wait_word) line_13 (line_14 s)) fs m
-- 14: if (curStatus < ACQUIRE_PARENT) return; // Acquired, enter CS
line t i (line_14 s) L I fs m = record { thread = cond (ltb s acquire_parent) (returns fs) (control line_16 fs); memory = m }
-- 16: I->status = COHORT_START;
line t i line_16 L I fs m = goes line_17 fs (store_status I cohort_start m)
-- 17: HMCS<depth-1>::AcquireReal(L->parent, &(L->node));
line t i line_17 L I fs m = record { thread = acquire_real t (t.parent L) (256 + L) after_17 fs; memory = m }
-- 48 or 87: ReleaseReal(L, I) of the thread's home and record
line t i critical L I fs m = record { thread = release_real t (t.home i) i from_release []; memory = m }
-- 25: uint64_t curCount = I->status;
line t i line_25 L I fs m = goes (line_27 (status_at m I)) fs m
-- 27: if (curCount == L->GetThreshold()) {
line t i (line_27 c) L I fs m = goes (cond (eqb c (t.threshold L)) line_29 (line_35 c)) fs m
-- 29: HMCS<depth-1>::ReleaseReal(L->parent, &(L->node));
line t i line_29 L I fs m = record { thread = release_real t (t.parent L) (256 + L) after_29 fs; memory = m }
-- 31: ReleaseHelper(L, I, ACQUIRE_PARENT);
line t i line_31 L I fs m = record { thread = release_helper L I acquire_parent after_31 fs; memory = m }
-- 35: QNode * succ = I->next;
line t i (line_35 c) L I fs m = goes (line_36 c (next_at m I)) fs m
-- 36: if (succ) { // Pass within cohorts
line t i (line_36 c n) L I fs m = goes (cond (eqb n none) line_41 (line_37 c (n - 1))) fs m
-- 37: succ->status = curCount + 1; and 38: return;
line t i (line_37 c succ) L I fs m = record { thread = returns fs; memory = store_status succ (c + 1) m }
-- 41: HMCS<depth-1>::ReleaseReal(L->parent, &(L->node));
line t i line_41 L I fs m = record { thread = release_real t (t.parent L) (256 + L) after_41 fs; memory = m }
-- 43: ReleaseHelper(L,I, ACQUIRE_PARENT);
line t i line_43 L I fs m = record { thread = release_helper L I acquire_parent after_43 fs; memory = m }
-- 53: QNode * succ = I->next;
line t i (line_53 v) L I fs m = goes (line_54 (next_at m I) v) fs m
-- 54: if (succ) {
line t i (line_54 n v) L I fs m = goes (cond (eqb n none) (line_57 v) (line_55 (n - 1) v)) fs m
-- 55: succ->status = val; // pass lock
line t i (line_55 succ v) L I fs m = record { thread = returns fs; memory = store_status succ v m }
-- 57: if (CAS(&(L->lock), I, NULL)) return;
line t i (line_57 v) L I fs m =
    cond (eqb (lock_at m L) (I + 1)) (record { thread = returns fs; memory = store_lock L none m }) (goes (line_58 v) fs m)
-- 58: while( (succ=I->next) == NULL); // spin
line t i (line_58 v) L I fs m = let n = next_at m I in goes (cond (eqb n none) (line_58 v) (line_59 (n - 1) v)) fs m
-- 59: succ->status = val; // pass lock
line t i (line_59 succ v) L I fs m = record { thread = returns fs; memory = store_status succ v m }
-- 66: I->status = LOCKED; I->next = NULL;
line t i line_66 L I fs m = goes line_67 fs (store_next I none (store_status I locked m))
-- 67: QNode * pred = (QNode *) SWAP(&(L->lock), I);
line t i line_67 L I fs m = goes (line_68 (lock_at m L)) fs (store_lock L (I + 1) m)
-- 68: if (!pred) {
line t i (line_68 pred) L I fs m = goes (cond (eqb pred none) line_69 (line_71 (pred - 1))) fs m
-- 69: I->status = UNLOCKED;
line t i line_69 L I fs m = record { thread = returns fs; memory = store_status I unlocked m }
-- 71: pred->next = I;
line t i (line_71 pred) L I fs m = goes line_72 fs (store_next pred (I + 1) m)
-- 72: while(I->status == LOCKED); // spin
line t i line_72 L I fs m = record { thread = cond (eqb (status_at m I) locked) (control line_72 fs) (returns fs); memory = m }
-- 82: ReleaseHelper(L, I, UNLOCKED);
line t i line_82 L I fs m = record { thread = release_helper L I unlocked after_82 fs; memory = m }
-- 90 to 92: the ticket lock, in place of lines 63 to 89
line t i (ticket_lock p) L I fs m = ticket_line p I fs m

-- L of the innermost call; 0 without a call
unfoldable pub top_domain : List Frame → ℕ
top_domain [] = 0
top_domain (f ∷ fs) = f.domain

-- I of the innermost call; 0 without a call
unfoldable pub top_node : List Frame → ℕ
top_node [] = 0
top_node (f ∷ fs) = f.node

-- where the innermost call returns
unfoldable pub top_back : List Frame → Return
top_back [] = from_release
top_back (f ∷ fs) = f.back

-- the next line of a thread
unfoldable pub next_line : Tree → (i : ℕ) → After → After
next_line t i x =
    line t i x.thread.point (top_domain x.thread.frames) (top_node x.thread.frames) x.thread.frames x.memory
