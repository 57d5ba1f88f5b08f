-- A piece: what is read from the front of the arrays on.
use mathlib.Core.Path.{◌≡◌, refl, sym, ap, ◌∙◌}
use mathlib.Core.List.{List}
use mathlib.Core.Bool.{true, false, false≢true}
use Rattle.std.specs.Prelude.{Option, Some, None, is_some}
use Prim.Native.Nat.{ℕ, ◌+◌, ◌≤◌, ◌<◌}
use native.Mathlib.Omega.{arith}
use lib.ListN.{length, take, drop}
use lib.Seq.{sets, sets-eq, take-append_seam}
use Rattle.refusals.specs.declared.reasons.Reason.{Reason}
use Rattle.journal_call.specs.declared.reader.Piece.{Piece}
use Rattle.journal_call.specs.Reader.Stretches.{Stops, ReadOn}
use Rattle.journal_call.specs.Pieces.Pieces.{PieceRead}
use Rattle.journal_call.proofs.reader.Stretching.{as_many, threads_long, kinds_long}

-- a reason is given, or none is
pub given : {A : Type 0} (o : Option A) → is_some o ≡ true → o ≡ None → ⊥
given o e z = false≢true (sym (ap is_some z) ∙ e)

pub not_given : {A : Type 0} (o : Option A) → is_some o ≡ false → o ≡ None
not_given None e = refl
not_given (Some x) e = absurd (false≢true (sym e))

-- the front of an array after stores from index 0
stored_front : (xs js : List ℕ) (n : ℕ) → n ≡ 0 + length js → length js ≤ length xs → take n (sets xs 0 js) ≡ js
stored_front xs js n e h =
    let z : n ≡ length js = omega arith in
    rw (z, sets-eq js xs 0 (omega arith)) (take-append_seam js (drop (0 + length js) xs))

pub piece : (known : ℕ) (bs : List ℕ) (p b : ℕ) (is₀ ks₀ is ks : List ℕ) (c : Piece (Option Reason)) → ReadOn known bs p b is₀ ks₀ 0 is ks c.count c.position c.before →
    Stops known bs c.position c.before c.refused →
    (c.refused ≡ None → c.position < length bs → (room : ℕ) → room ≤ length is → room ≤ length ks → room ≤ c.count) → PieceRead known bs p b is ks c
piece known bs p b is₀ ks₀ is ks c s stops full =
    let n = c.count in
    let long = threads_long known bs p b is₀ ks₀ 0 is ks n c.position c.before s in
    let long_kinds = kinds_long known bs p b is₀ ks₀ 0 is ks n c.position c.before s in
    let threads_front : take n is ≡ s.new_threads = ap (take n) s.threads_stored ∙ stored_front is₀ s.new_threads n s.counted (omega (arith, s.counted, s.threads_fit)) in
    let kinds_front : take n ks ≡ s.new_kinds = ap (take n) s.kinds_stored ∙ stored_front ks₀ s.new_kinds n (omega (arith, s.counted, as_many s.read)) (omega (arith, s.counted, s.kinds_fit, as_many s.read)) in
    record {
      threads_fit = omega (arith, s.threads_fit, long);
      kinds_fit = omega (arith, s.kinds_fit, long_kinds);
      read = rw (threads_front, kinds_front) s.read;
      stops = stops;
      full = full;
    }
