-- The reasons for a refusal, and what the result of the tests says as number and place.
use Rattle.std.specs.Prelude.{ℕ, Result, Ok, Err}
use Rattle.model.specs.Refusals as model
use Rattle.model.specs.Refusals.{refusal, accepted}
use Rattle.refusals.specs.declared.reasons.Reason.{Reason}
use Rattle.refusals.specs.declared.reasons.Reason.TheVariants.{FileTooLong, FileCut, FileBit, BadDomains, BadThreads, BadParent, TooDeep, NoThreshold, BadHome, BadState, ScheduleLong, BadEntry, TraceShort, OutputShort, TextWrong, EmptyDomain, FileShort, WaitsBufferShort, CounterFull, ChainShort, NoChain, LengthsWrong, RowsShort, BadTime, JournalBroken, OtherKind, BadUnderWay, KindsShort, OtherDomain, ListsUnequal}
use Rattle.refusals.specs.declared.reasons.Refusal.{Refusal}

-- the number of a reason
abbrev pub number_of : Reason → ℕ
number_of FileTooLong = 1
number_of FileCut = 2
number_of FileBit = 3
number_of BadDomains = 4
number_of BadThreads = 5
number_of BadParent = 6
number_of TooDeep = 7
number_of NoThreshold = 8
number_of BadHome = 9
number_of BadState = 10
number_of ScheduleLong = 11
number_of BadEntry = 12
number_of TraceShort = 13
number_of OutputShort = 14
number_of TextWrong = 15
number_of EmptyDomain = 16
number_of FileShort = 17
number_of WaitsBufferShort = 18
number_of CounterFull = 19
number_of ChainShort = 20
number_of NoChain = 21
number_of LengthsWrong = 22
number_of RowsShort = 23
number_of BadTime = 24
number_of JournalBroken = 25
number_of OtherKind = 26
number_of BadUnderWay = 27
number_of KindsShort = 28
number_of OtherDomain = 29
number_of ListsUnequal = 30

-- a refusal with this reason and place
abbrev pub refusal_at : Reason → (place : ℕ) → Refusal
refusal_at reason place = record { reason = reason; place = place }

-- what the result of the tests says, as number and place: 0 and 0 if nothing is refused
abbrev pub refusal_of : {A : Type 0} → Result A Refusal → model.Refusal
refusal_of (Ok _) = accepted
refusal_of (Err r) = refusal (number_of r.reason) r.place
