-- The number of a reason, and lists of tests in sequence, from the results of functions that test them.
use mathlib.Core.Path.{◌≡◌, sym, ap, ◌∙◌}
use mathlib.Core.List.{List, ◌++◌}
use native.Mathlib.Omega.{arith}
use Rattle.std.specs.Result.{IsErrAnd}
use Rattle.std.proofs.Common.{Result}
use Rattle.std.proofs.lemmas.Result.{err_from_is_err_and}
use Rattle.model.specs.Refusals as model
use Rattle.model.specs.Refusals.{refusal, accepted, Test, first_refusal}
use Rattle.model.specs.Laws.{Numbered}
use Rattle.model.proofs.Laws.Refusals.{accepted_number}
use Rattle.refusals.specs.declared.reasons.Reason.{Reason}
use Rattle.refusals.specs.declared.reasons.Reason.TheVariants.{FileTooLong, FileCut, FileBit, BadDomains, BadThreads, BadParent, TooDeep, NoThreshold, BadHome, BadState, ScheduleLong, BadEntry, TraceShort, OutputShort, TextWrong, EmptyDomain, FileShort, WaitsBufferShort, CounterFull, ChainShort, NoChain, LengthsWrong, RowsShort, BadTime, JournalBroken, OtherKind, BadUnderWay, KindsShort, OtherDomain, ListsUnequal}
use Rattle.refusals.specs.declared.reasons.Refusal.{Refusal}
use Rattle.refusals.specs.Reasons.{number_of, refusal_of}
use Rattle.refusals.proofs.Joining.{first_decides, other_decides}

-- no reason has number 0
pub reason_numbered : (r : Reason) → number_of r ≡ 0 → ⊥
reason_numbered FileTooLong e = absurd (omega arith)
reason_numbered FileCut e = absurd (omega arith)
reason_numbered FileBit e = absurd (omega arith)
reason_numbered BadDomains e = absurd (omega arith)
reason_numbered BadThreads e = absurd (omega arith)
reason_numbered BadParent e = absurd (omega arith)
reason_numbered TooDeep e = absurd (omega arith)
reason_numbered NoThreshold e = absurd (omega arith)
reason_numbered BadHome e = absurd (omega arith)
reason_numbered BadState e = absurd (omega arith)
reason_numbered ScheduleLong e = absurd (omega arith)
reason_numbered BadEntry e = absurd (omega arith)
reason_numbered TraceShort e = absurd (omega arith)
reason_numbered OutputShort e = absurd (omega arith)
reason_numbered TextWrong e = absurd (omega arith)
reason_numbered EmptyDomain e = absurd (omega arith)
reason_numbered FileShort e = absurd (omega arith)
reason_numbered WaitsBufferShort e = absurd (omega arith)
reason_numbered CounterFull e = absurd (omega arith)
reason_numbered ChainShort e = absurd (omega arith)
reason_numbered NoChain e = absurd (omega arith)
reason_numbered LengthsWrong e = absurd (omega arith)
reason_numbered RowsShort e = absurd (omega arith)
reason_numbered BadTime e = absurd (omega arith)
reason_numbered JournalBroken e = absurd (omega arith)
reason_numbered OtherKind e = absurd (omega arith)
reason_numbered BadUnderWay e = absurd (omega arith)
reason_numbered KindsShort e = absurd (omega arith)
reason_numbered OtherDomain e = absurd (omega arith)
reason_numbered ListsUnequal e = absurd (omega arith)

-- a model's refusal that an error states has a number, and one that Ok states has none
pub error_numbered : (x : Refusal) {m : model.Refusal} → refusal (number_of x.reason) x.place ≡ m → m.number ≡ 0 → ⊥
unfolding refusal
error_numbered x e z = reason_numbered x.reason (ap (λ q. q.number) e ∙ z)

pub ok_numbered : {m : model.Refusal} → accepted ≡ m → m.number ≡ 0
ok_numbered e = sym (ap (λ q. q.number) e) ∙ accepted_number

-- what `?` passes on
pub error_passed : {A : Type 0} (r : Result A Refusal) (x : Refusal) {m : model.Refusal} → IsErrAnd r (λ y. y ≡ x) → refusal (number_of x.reason) x.place ≡ m → refusal_of r ≡ m
error_passed r x h e = let y = err_from_is_err_and r h in rw (y.1, y.2) e

-- two lists in sequence: an error of the first is that of both, and otherwise the second gives the answer
module _ (xs ys : List Test) where
  pub refused_early : (x : Refusal) → refusal (number_of x.reason) x.place ≡ first_refusal xs → refusal (number_of x.reason) x.place ≡ first_refusal (xs ++ ys)
  refused_early x e = e ∙ sym (first_decides xs ys (error_numbered x e))

  pub passed_early : Numbered xs → accepted ≡ first_refusal xs → first_refusal (xs ++ ys) ≡ first_refusal ys
  passed_early n e = other_decides xs ys n (ok_numbered e)
