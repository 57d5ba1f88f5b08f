-- THE LAWS of the written file: read back, shortest, the buffer, and running it.
use mathlib.Core.Path.{◌≡◌, refl, sym, ap, ◌∙◌}
use mathlib.Core.Bool.{Bool, true, false}
use mathlib.Core.List.{List, ◌++◌}
use mathlib.Core.Logic.{◌≢◌}
use Prim.Native.Nat.{ℕ, ◌≤◌, ◌<◌}
use native.Mathlib.Omega.{arith, by_contra}
use native.Mathlib.Decide.{ℕ_discrete}
use lib.ListN.{length, take, drop, length-append, length-drop, replicate, length-replicate}
use lib.Seq.{take_at, drop_at}
use lib.Dec.{ltb}
use borrow.Author.Tests.{ltb-true, ltb-false, eq-eqb}
use Rattle.model.specs.declared.TreeWords.{TreeWords}
use Rattle.model.specs.Trees.{Tree, tree_of}
use Rattle.model.specs.States.{fresh_words}
use Rattle.model.specs.Counters.{fresh_lock}
use Rattle.model.specs.Runs.{run}
use Rattle.model.specs.Refusals.{refusal, accepted, first_refusal, schedule_tests, tree_refusal, run_refusal}
use Rattle.model.specs.Answers.{counters_after_run, run_reply, run_answer}
use Rattle.model.proofs.Laws.Calls.{run_reply_number}
use Rattle.model.proofs.Trees.Reading.{few_domains, few_threads}
use Rattle.lock_file.specs.ReadingLaws.{FormatLaw}
use Rattle.lock_file.proofs.FormatLaw.{format_law}
use Rattle.schedules.proofs.Alone.{answer_by_schedule}
use Rattle.lock_file.specs.PrintedListing.Listing.{listing}
use Rattle.lock_file.specs.FileAnswers.FileAnswers.{run_outcome, file_run, file_trace, tree_outcome, listing_outcome}
use Rattle.lock_file.specs.FileAnswers.FileLaws.{DescribedLaw}
use Rattle.lock_file.proofs.file_answers.FileClaim.{zero_start, described_law}
use Rattle.lock_file.specs.FileWriter.Writing.{written_file}
use Rattle.lock_file.specs.FileWriter.Refusals.{write_refusal}
use Rattle.lock_file.specs.FileWriter.Answers.{answered_length, write_answer, write_reply, file_buffer_answer}
use Rattle.lock_file.specs.FileWriter.Laws.{WriteRefusalLaw, file_left, LockFileFor, ReadBackLaw, ShortestLaw, TooLongLaw, RoundTripLaw, KeepsRest, BufferLaw}
use Rattle.lock_file.proofs.file_writer.Refusing.{write_refusal_law}
use Rattle.lock_file.proofs.file_writer.Answering.{replied, answer_refused, answer_accepted}
use Rattle.lock_file.proofs.file_writer.Describing.{words_of, same_tree, describes}
use Rattle.lock_file.proofs.file_writer.Shortest.{least}

-- what the tests of an accepted call have shown
record GoodWrite (t : Tree) (is : List ℕ) (room : ℕ) : Type 0 where
  tree : (tree_refusal t).number ≡ 0
  schedule : (first_refusal (schedule_tests t is)).number ≡ 0
  short : length (written_file t is) ≤ 65536
  fits : length (written_file t is) ≤ room

write_facts : (t : Tree) (is : List ℕ) (room : ℕ) → (write_refusal t is room).number ≡ 0 → GoodWrite t is room
unfolding WriteRefusalLaw refusal
write_facts t is room e =
    elim (ℕ_discrete (tree_refusal t).number 0) [
      | no z ↦ absurd (z (sym (ap (λ r. r.number) ((write_refusal_law t is room).tree_refused z)) ∙ e))
      | yes z ↦
          elim (ℕ_discrete (first_refusal (schedule_tests t is)).number 0) [
            | no y ↦ absurd (y (sym (ap (λ r. r.number) ((write_refusal_law t is room).schedule_refused z y)) ∙ e))
            | yes y ↦ let l = short z y in record { tree = z; schedule = y; short = l; fits = fits z y l }
          ]
    ]
  where
    short : (tree_refusal t).number ≡ 0 → (first_refusal (schedule_tests t is)).number ≡ 0 → length (written_file t is) ≤ 65536
    short z y =
        by_contra (length (written_file t is)) 65536
        (λ h. let m = ap (λ r. r.number) ((write_refusal_law t is room).length_refused z y h) in omega arith)

    fits :
        (tree_refusal t).number ≡ 0 → (first_refusal (schedule_tests t is)).number ≡ 0 → length (written_file t is) ≤ 65536 →
        length (written_file t is) ≤ room
    fits z y l =
        by_contra (length (written_file t is)) room
        (λ h. let m = ap (λ r. r.number) ((write_refusal_law t is room).room_refused z y l h) in omega arith)

-- an accepted call: its file is at the front of the buffer
module _ (w : TreeWords) (is b : List ℕ) (e : (write_answer w is b).number ≡ 0) where
  good : GoodWrite (tree_of w) is (length b)
  unfolding write_answer write_reply
  good = write_facts (tree_of w) is (length b) e

  answered :
      (replied 0 0 (answered_length (tree_of w) is) ≡ write_answer w is b)
      × (written_file (tree_of w) is ++ drop (length (written_file (tree_of w) is)) b ≡ file_buffer_answer w is b)
  unfolding WriteRefusalLaw
  answered =
      answer_accepted w is b
      ((write_refusal_law (tree_of w) is (length b)).accepts good.tree good.schedule good.short good.fits)

  length_answered : (write_answer w is b).length ≡ length (written_file (tree_of w) is)
  length_answered = sym (ap (λ r. r.length) answered.0)

  left : file_left w is b ≡ written_file (tree_of w) is
  left =
      ap (λ n. take n (file_buffer_answer w is b)) length_answered ∙ ap (take (length (written_file (tree_of w) is))) (sym answered.1)
      ∙ take_at (written_file (tree_of w) is) (drop (length (written_file (tree_of w) is)) b) _ refl

module _ (w : TreeWords) (ok : (tree_refusal (tree_of w)).number ≡ 0) where
  -- the written file is a lock file for the tree and the schedule, and none is shorter
  written : (is : List ℕ) → LockFileFor (written_file (tree_of w) is) w is
  written is =
      record { words = words_of (tree_of w); same_tree = same_tree w (few_domains w ok) (few_threads w ok); describes = describes w (few_domains w ok) (few_threads w ok) is }

  none_shorter : (is bytes : List ℕ) → LockFileFor bytes w is → length (written_file (tree_of w) is) ≤ length bytes
  unfolding tree_of
  none_shorter is bytes x =
      let domains : x.words.domains ≡ w.domains = ap (λ t. t.domains) x.same_tree in
      let threads : x.words.threads ≡ w.threads = ap (λ t. t.threads) x.same_tree in
      let l = least bytes x.words is (omega (arith, domains, few_domains w ok)) (omega (arith, threads, few_threads w ok)) x.describes in
      rw (← x.same_tree) l

pub read_back_law : ReadBackLaw
unfolding ReadBackLaw FormatLaw
read_back_law w is b e =
    let x = written w (good w is b e).tree is in
    record { words = x.words; same_tree = x.same_tree; read = rw (left w is b e) ((format_law _ x.words is).1 x.describes) }

pub shortest_law : ShortestLaw
unfolding ShortestLaw
shortest_law w is b e bytes x = rw (length_answered w is b e) (none_shorter w (good w is b e).tree is bytes x)

pub too_long_law : TooLongLaw
unfolding TooLongLaw WriteRefusalLaw refusal accepted
too_long_law w is room tree schedule = (
  λ e bytes x.
      let more : 65536 < length (written_file (tree_of w) is) = long e in
      omega (arith, more, none_shorter w tree is bytes x),
  λ f. (write_refusal_law (tree_of w) is room).length_refused tree schedule (f _ (written w tree is)),
)
  where
    long : write_refusal (tree_of w) is room ≡ refusal 1 0 → 65536 < length (written_file (tree_of w) is)
    long e =
        let l = by_contra 65537 (length (written_file (tree_of w) is)) (λ h. other (ltb room (length (written_file (tree_of w) is))) refl (omega arith) e) in
        omega arith
      where
        other :
            (b : Bool) → ltb room (length (written_file (tree_of w) is)) ≡ b → length (written_file (tree_of w) is) ≤ 65536 →
            write_refusal (tree_of w) is room ≡ refusal 1 0 → ⊥
        other true f short g =
            let m = ap (λ r. r.number) (sym ((write_refusal_law (tree_of w) is room).room_refused tree schedule short (ltb-true _ _ f)) ∙ g) in
            omega arith
        other false f short g =
            let m = ap (λ r. r.number) (sym ((write_refusal_law (tree_of w) is room).accepts tree schedule short (ltb-false _ _ f)) ∙ g) in
            omega arith

-- THE REST of the buffer
rest_accepted : (w : TreeWords) (is b : List ℕ) → (write_answer w is b).number ≡ 0 → KeepsRest w is b
rest_accepted w is b e =
    let file = written_file (tree_of w) is in
    let buffer = sym (answered w is b e).1 in
    let n = length_answered w is b e in
    record {
      long = ap length buffer ∙ simp (length-append, length-drop) (omega (arith, (good w is b e).fits));
      after = rw (n, buffer) (drop_at file (drop (length file) b) (length file) refl);
      refused = λ z. absurd (z e);
    }

rest_refused : (w : TreeWords) (is b : List ℕ) → (write_answer w is b).number ≢ 0 → KeepsRest w is b
unfolding write_answer write_reply
rest_refused w is b n =
    let x = answer_refused w is b (write_refusal (tree_of w) is (length b)) refl n in
    let same = sym x.1 in
    record {
      long = ap length same;
      after = ap (drop (write_answer w is b).length) same;
      refused = λ z. (same, sym (ap (λ r. r.length) x.0));
    }

pub buffer_law : BufferLaw
unfolding BufferLaw
buffer_law w is b =
    elim (ℕ_discrete (write_answer w is b).number 0) [
      | yes z ↦ rest_accepted w is b z
      | no z ↦ rest_refused w is b z
    ]

-- WRITTEN, READ AND RUN
module _ (w : TreeWords) (is : List ℕ) (tree : (tree_refusal (tree_of w)).number ≡ 0) (schedule : (first_refusal (schedule_tests (tree_of w) is)).number ≡ 0) where
  run_accepted : (trace : List ℕ) → length trace ≡ length is → (run_answer w fresh_lock is trace).number ≡ 0
  run_accepted trace long =
      ap (λ r. r.number) (answer_by_schedule w tree is trace long)
      ∙ run_reply_number (first_refusal (schedule_tests (tree_of w) is)) fresh_lock (run (tree_of w) is fresh_words) (counters_after_run (tree_of w) is fresh_lock) ∙ schedule

  -- an accepted run's outcome is its listing
  outcome_listed :
      (room : ℕ) →
      tree_outcome w is room
      ≡ listing_outcome (listing (run (tree_of w) is fresh_words).counts (run (tree_of w) is fresh_words).trace) room
  unfolding run_outcome file_run file_trace run_reply
  outcome_listed room =
      let e = answer_by_schedule w tree is (replicate (length is) 0) (length-replicate {A = ℕ} (length is) 0) in
      rw (e, eq-eqb (first_refusal (schedule_tests (tree_of w) is)).number 0 schedule)

-- a run depends on the words of a tree only through the tree
outcome_same : (v w : TreeWords) (is : List ℕ) (room : ℕ) → tree_of v ≡ tree_of w → tree_outcome v is room ≡ tree_outcome w is room
unfolding file_run file_trace run_answer
outcome_same v w is room e =
    ap
    (λ t.
    run_outcome (run_reply (run_refusal t fresh_lock is (length (replicate {A = ℕ} (length is) 0))) fresh_lock (run t is fresh_words) (counters_after_run t is fresh_lock))
    (run t is fresh_words).trace room)
    e

pub round_trip_law : RoundTripLaw
unfolding RoundTripLaw DescribedLaw
round_trip_law w is b e =
    let g = good w is b e in
    let x = written w g.tree is in
    record {
      fresh = zero_start w;
      accepted_run = run_accepted w is g.tree g.schedule;
      listed =
          λ room.
          rw (left w is b e)
          (described_law _ x.words is room g.short x.describes ∙ outcome_same x.words w is room x.same_tree
          ∙ outcome_listed w is g.tree g.schedule room);
    }
