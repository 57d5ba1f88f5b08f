-- `refusals::schedule_refusal_of` meets its contract: the length, the lowest bad entry and the buffer length, in the order of 11 to 13.
use Rattle.std.proofs.Common.{◌≡◌, None, sym, arith, rules}
use Rattle.refusals.proofs.ScheduleTests as tests
use Rattle.refusals.proofs.schedule_refusal_of.Goals as goal

pub returns-then-schedule-gt65536 : goal.returns-then-schedule-gt65536
returns-then-schedule-gt65536 c = rw c.at.ensures (sym (tests.long_refused _ _ _ c.if-schedule-gt65536.true))

pub returns-in-Some : goal.returns-in-Some
returns-in-Some c = let k = c.in-Some.ensures in
    rw c.at-in-Some.ensures (sym (tests.entry_refused _ _ _ c.if-schedule-gt65536.false _ k.0 k.1))

pub returns-then-room-schedule : goal.returns-then-room-schedule
returns-then-room-schedule c = let none : c.lowest_bad_entry.result ≡ None = search rules in
    let lowest = rw none at c.lowest_bad_entry.ensures in
    rw c.at-then-room-schedule.ensures (sym (tests.room_refused _ _ _ c.if-schedule-gt65536.false _ lowest.0 (omega arith) c.if-room-schedule.true))

pub returns : goal.returns
returns c = let none : c.lowest_bad_entry.result ≡ None = search rules in
    let lowest = rw none at c.lowest_bad_entry.ensures in
    sym (tests.schedule_passes _ _ _ c.if-schedule-gt65536.false _ lowest.0 (omega arith) c.if-room-schedule.false)
