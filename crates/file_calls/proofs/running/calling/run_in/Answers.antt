-- `file_calls::running::calling::run_in` meets its contract: schedule and trace are at the front of their buffers, so the run is that of the file's entries on a fresh lock.
use Rattle.std.proofs.Common.{refl, sym, ap, ◌∙◌, length, ◌≤◌, ◌-◌, ◌/◌, take, Some, None, arith}
use lib.Seq.{length-take-le}
use Rattle.model.specs.Refusals.{refusal}
use Rattle.lock_file.specs.PrintedListing.Listing.{listing}
use Rattle.lock_file.specs.FileAnswers.FileAnswers.{outcome_reply, outcome_output}
use Rattle.file_calls.proofs.printing.Printing.{fitted_says, printed_short, printed_fits}
use Rattle.file_calls.proofs.running.Outcomes.{listing_short, listing_fits, error_replied}
use Rattle.file_calls.proofs.running.FileRun.{run_in_buffers, run_refuses, run_lists}
use Rattle.file_calls.proofs.running.calling.run_in.Goals as goal

pub slice_bounds-run_in_place-end-2 : goal.slice_bounds-run_in_place-end-2
slice_bounds-run_in_place-end-2 c = let a = c.args in
    let n = (length a.file.now - a.read.now.start) / 2 in
    let l = c.read_schedule.new.schedule in
    let h : n ≤ length l = omega arith in
    sym (length-take-le n l h)

pub returns-in_err-counts : goal.returns-in_err-counts
unfolding outcome_output
returns-in_err-counts c = let a = c.args in
    let room = length a.output.now in
    let all = run_in_buffers _ _ _ _ _ _ _ _ c.requires.file_len_bound c.requires.schedule_len c.read_schedule.ensures c.fresh-state.ensures c.run_in_place.ensures.trace_after in
    let o = sym (all.1 room) ∙ run_refuses _ _ _ _ _ room _ c.in_err-counts.ensures.refused in
    record { value = error_replied c.from_residual.result _ _ c.from_residual.ensures.1 o; output_after = rw o refl }

pub slice_bounds-put_listing-end : goal.slice_bounds-put_listing-end
slice_bounds-put_listing-end c =
    let all = run_in_buffers _ _ _ _ _ _ _ _ c.requires.file_len_bound c.requires.schedule_len c.read_schedule.ensures c.fresh-state.ensures c.run_in_place.ensures.trace_after in
    let few = ap (λ k. k.entries) c.in_ok-counts.ensures.counts in
    omega (arith, all.0, few, c.run_in_place.auto.trace, c.requires)

pub slice_bounds-put_listing-end-2 : goal.slice_bounds-put_listing-end-2
slice_bounds-put_listing-end-2 c =
    let all = run_in_buffers _ _ _ _ _ _ _ _ c.requires.file_len_bound c.requires.schedule_len c.read_schedule.ensures c.fresh-state.ensures c.run_in_place.ensures.trace_after in
    let few = ap (λ k. k.entries) c.in_ok-counts.ensures.counts in
    sym (length-take-le _ _ (omega (arith, all.0, few, c.run_in_place.auto.trace, c.requires)))

pub returns-in-Some : goal.returns-in-Some
unfolding outcome_reply outcome_output
returns-in-Some c = let a = c.args in
    let room = length a.output.now in
    let counts = c.in_ok-counts.counts in
    let all = run_in_buffers _ _ _ _ _ _ _ _ c.requires.file_len_bound c.requires.schedule_len c.read_schedule.ensures c.fresh-state.ensures c.run_in_place.ensures.trace_after in
    let ls = listing counts (take counts.entries c.run_in_place.new.trace) in
    let says = fitted_says ls room (Some c.in-Some.length) c.in-Some.ensures.value in
    let o = sym (all.1 room) ∙ run_lists _ _ _ _ _ room c.in_ok-counts.ensures.refused _ c.in_ok-counts.ensures.counts ∙ listing_fits ls room says.0 in
    record { value = rw (o, says.1) refl; output_after = rw o (c.in-Some.ensures.output_after ∙ printed_fits ls _ says.0) }

pub returns-in-None : goal.returns-in-None
unfolding outcome_reply outcome_output refusal
returns-in-None c = let a = c.args in
    let room = length a.output.now in
    let counts = c.in_ok-counts.counts in
    let all = run_in_buffers _ _ _ _ _ _ _ _ c.requires.file_len_bound c.requires.schedule_len c.read_schedule.ensures c.fresh-state.ensures c.run_in_place.ensures.trace_after in
    let ls = listing counts (take counts.entries c.run_in_place.new.trace) in
    let short = fitted_says ls room None c.in-None.ensures.value in
    let o = sym (all.1 room) ∙ run_lists _ _ _ _ _ room c.in_ok-counts.ensures.refused _ c.in_ok-counts.ensures.counts ∙ listing_short ls room short in
    record { value = rw (o, c.at.ensures) refl; output_after = rw o (c.in-None.ensures.output_after ∙ printed_short ls _ short) }
