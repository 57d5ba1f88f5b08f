-- Parts of a lock file, read from left to right: bytes after the position reached are not looked at, and a part that ends too early can be completed with bytes 0.
use mathlib.Core.Path.{◌≡◌, refl, sym, ◌∙◌}
use mathlib.Core.Bool.{Bool, true, false, cond}
use mathlib.Core.List.{List}
use Prim.Native.Nat.{ℕ, zero, suc, ◌+◌, ◌-◌, ◌≤◌, ◌<◌}
use native.Mathlib.Omega.{arith}
use lib.Dec.{ltb, leb}
use lib.ListN.{length, get_or-eq_default}
use borrow.Author.Tests.{ltb-true, ltb-false, lt-ltb, leb-true, leb-false, lt-leb}
use Rattle.lock_file.specs.Reading.{Reached, At, Ended, BadMap, byte, field_end, entry_end}
use Rattle.lock_file.proofs.Positions.{field_within, entry_within, reached_cases}
use Rattle.lock_file.proofs.Bytes.{field_reached, entry_reached}

-- a reader of a part of a file that starts at a position
abbrev pub PartReader : Type 0
PartReader = (bytes : List ℕ) → (at : ℕ) → Reached

-- two files have the same bytes before a position
abbrev pub SameBefore : (end : ℕ) → (bs cs : List ℕ) → Type 0
SameBefore n bs cs = (j : ℕ) → j < n → byte bs j ≡ byte cs j

-- a part that ends at a position: what follows it does not matter
pub record PartReached (read : PartReader) (bs : List ℕ) (at next : ℕ) : Type 0 where
  pub ahead : at ≤ next
  pub alike : (cs : List ℕ) → SameBefore next bs cs → next ≤ length cs → read cs at ≡ At next

-- a bit map without a meaning is found: what follows it does not matter
pub record PartBad (read : PartReader) (bs : List ℕ) (at place : ℕ) : Type 0 where
  pub ahead : at ≤ place
  pub inside : place < length bs
  pub alike : (cs : List ℕ) → SameBefore (place + 1) bs cs → place < length cs → read cs at ≡ BadMap place

-- a part that is cut short is complete in every file with enough bytes 0 after it
pub record PartEnded (read : PartReader) (bs : List ℕ) (at : ℕ) : Type 0 where
  pub end : ℕ
  pub ahead : at ≤ end
  pub complete : length bs ≤ end
  pub filled : (cs : List ℕ) → ((j : ℕ) → byte bs j ≡ byte cs j) → end ≤ length cs → read cs at ≡ At end

pub record Part (read : PartReader) : Type 0 where
  pub reached : (bs : List ℕ) (at next : ℕ) → read bs at ≡ At next → PartReached read bs at next
  pub bad : (bs : List ℕ) (at place : ℕ) → read bs at ≡ BadMap place → PartBad read bs at place
  pub ended : (bs : List ℕ) (at : ℕ) → read bs at ≡ Ended → PartEnded read bs at

-- reading continues from the position reached
unfoldable pub onward : Reached → (ℕ → Reached) → Reached
onward (At next) f = f next
onward Ended f = Ended
onward (BadMap p) f = BadMap p

not_ended : (next : ℕ) → Ended ≡ At next → ⊥
not_ended next e = let z : ◌≡◌ {A = ℕ} 0 1 = cc in omega arith

not_bad : (p next : ℕ) → BadMap p ≡ At next → ⊥
not_bad p next e = let z : ◌≡◌ {A = ℕ} 0 1 = cc in omega arith

bad_not_ended : (p : ℕ) → BadMap p ≡ Ended → ⊥
bad_not_ended p e = let z : ◌≡◌ {A = ℕ} 0 1 = cc in omega arith

-- one part after another; a value in the bytes of the first part determines how the second is read
module _
    (first : PartReader) (value : (bytes : List ℕ) → (at : ℕ) → ℕ) (second : (value : ℕ) → PartReader) (first_part : Part first)
    (second_part : (v : ℕ) → Part (second v))
    (given : (bs cs : List ℕ) (at next : ℕ) → first bs at ≡ At next → SameBefore next bs cs → value bs at ≡ value cs at)
  where
    abbrev both : PartReader
    both bs at = onward (first bs at) (second (value bs at) bs)

    both_at : (bs : List ℕ) (at next : ℕ) → first bs at ≡ At next → both bs at ≡ second (value bs at) bs next
    unfolding onward
    both_at bs at next e = rw e

    both_ended : (bs : List ℕ) (at : ℕ) → first bs at ≡ Ended → both bs at ≡ Ended
    unfolding onward
    both_ended bs at e = rw e

    both_bad : (bs : List ℕ) (at place : ℕ) → first bs at ≡ BadMap place → both bs at ≡ BadMap place
    unfolding onward
    both_bad bs at place e = rw e

    -- the second part in another file with the same first part
    second_in :
        (bs cs : List ℕ) (at next : ℕ) (r : Reached) → first cs at ≡ At next → value bs at ≡ value cs at →
        second (value bs at) cs next ≡ r → both cs at ≡ r
    second_in bs cs at next r e v f = both_at cs at next e ∙ rw v at f

    reached_after :
        (bs : List ℕ) (at middle next : ℕ) → first bs at ≡ At middle → second (value bs at) bs middle ≡ At next → PartReached both bs at next
    reached_after bs at middle next e f =
        let a = first_part.reached bs at middle e in
        let b = (second_part (value bs at)).reached bs middle next f in
        let a_ahead = a.ahead in
        let b_ahead = b.ahead in
        record {
          ahead = omega arith;
          alike = λ cs same long.
              let before : SameBefore middle bs cs = λ j h. same j (omega arith) in
              second_in bs cs at middle (At next) (a.alike cs before (omega arith)) (given bs cs at middle e before) (b.alike cs same long);
        }

    bad_after :
        (bs : List ℕ) (at middle place : ℕ) → first bs at ≡ At middle → second (value bs at) bs middle ≡ BadMap place →
        PartBad both bs at place
    bad_after bs at middle place e f =
        let a = first_part.reached bs at middle e in
        let b = (second_part (value bs at)).bad bs middle place f in
        let a_ahead = a.ahead in
        let b_ahead = b.ahead in
        record {
          ahead = omega arith;
          inside = b.inside;
          alike = λ cs same long.
              let before : SameBefore middle bs cs = λ j h. same j (omega arith) in
              second_in bs cs at middle (BadMap place) (a.alike cs before (omega arith)) (given bs cs at middle e before) (b.alike cs same long);
        }

    ended_after :
        (bs : List ℕ) (at middle : ℕ) → first bs at ≡ At middle → second (value bs at) bs middle ≡ Ended → PartEnded both bs at
    ended_after bs at middle e f =
        let a = first_part.reached bs at middle e in
        let b = (second_part (value bs at)).ended bs middle f in
        let a_ahead = a.ahead in
        let b_ahead = b.ahead in
        record {
          end = b.end;
          ahead = omega arith;
          complete = b.complete;
          filled = λ cs same long.
              let before : SameBefore middle bs cs = λ j h. same j in
              second_in bs cs at middle (At b.end) (a.alike cs before (omega arith)) (given bs cs at middle e before) (b.filled cs same long);
        }

    -- the first part is cut short: after the bytes 0 that complete it, the second finds only bytes 0
    ended_first : (bs : List ℕ) (at : ℕ) → first bs at ≡ Ended → PartEnded both bs at
    ended_first bs at e =
        let a = first_part.ended bs at e in
        let v = value bs at in
        let a_ahead = a.ahead in
        let a_complete = a.complete in
        let value_in : (cs : List ℕ) → ((j : ℕ) → byte bs j ≡ byte cs j) → a.end ≤ length cs → value bs at ≡ value cs at =
        λ cs same long. sym (given cs bs at a.end (a.filled cs same long) (λ j h. sym (same j)))
        in
        reached_cases (second v bs a.end)
        (λ next f.
        let b = (second_part v).reached bs a.end next f in
        let b_ahead = b.ahead in
        record {
          end = next;
          ahead = omega arith;
          complete = omega arith;
          filled = λ cs same long.
              let enough : a.end ≤ length cs = omega arith in
              second_in bs cs at a.end (At next) (a.filled cs same enough) (value_in cs same enough) (b.alike cs (λ j h. same j) long);
        })
        (λ f.
        let b = (second_part v).ended bs a.end f in
        let b_ahead = b.ahead in
        record {
          end = b.end;
          ahead = omega arith;
          complete = b.complete;
          filled = λ cs same long.
              let enough : a.end ≤ length cs = omega arith in
              second_in bs cs at a.end (At b.end) (a.filled cs same enough) (value_in cs same enough) (b.filled cs same long);
        })
        (λ place f.
        let b = (second_part v).bad bs a.end place f in
        let b_ahead = b.ahead in
        let b_inside = b.inside in
        absurd (omega arith))

    bad_first : (bs : List ℕ) (at place : ℕ) → first bs at ≡ BadMap place → PartBad both bs at place
    bad_first bs at place e =
        let a = first_part.bad bs at place e in
        record { ahead = a.ahead; inside = a.inside; alike = λ cs same long. both_bad cs at place (a.alike cs same long) }

    pub both_part : Part both
    both_part =
        record {
          reached = λ bs at next e.
              reached_cases (first bs at)
              (λ middle f. reached_after bs at middle next f (sym (both_at bs at middle f) ∙ e))
              (λ f. absurd (not_ended next (sym (both_ended bs at f) ∙ e)))
              (λ place f. absurd (not_bad place next (sym (both_bad bs at place f) ∙ e)));
          bad = λ bs at place e.
              reached_cases (first bs at)
              (λ middle f. bad_after bs at middle place f (sym (both_at bs at middle f) ∙ e))
              (λ f. absurd (bad_not_ended place (sym e ∙ both_ended bs at f)))
              (λ here f.
              let both_here : BadMap here ≡ BadMap place = sym (both_bad bs at here f) ∙ e in
              let z : here ≡ place = cc in
              bad_first bs at place (rw z at f));
          ended = λ bs at e.
              reached_cases (first bs at)
              (λ middle f. ended_after bs at middle f (sym (both_at bs at middle f) ∙ e))
              (λ f. ended_first bs at f)
              (λ place f. absurd (bad_not_ended place (sym (both_bad bs at place f) ∙ e)));
        }

field_not_bad : (bs : List ℕ) (at size place : ℕ) → field_end bs at size ≡ BadMap place → ⊥
unfolding field_end
field_not_bad bs at size place e = by (ltb (length bs - at) size) e
  where
    by : (b : Bool) → cond b Ended (At (at + size)) ≡ BadMap place → ⊥
    by true q = bad_not_ended place (sym q)
    by false q = not_bad place (at + size) (sym q)

-- a field is cut short if the file ends inside it
field_short : (bs : List ℕ) (at size : ℕ) → field_end bs at size ≡ Ended → length bs ≤ at + size
unfolding field_end
field_short bs at size e = by (ltb (length bs - at) size) refl e
  where
    by : (b : Bool) → ltb (length bs - at) size ≡ b → cond b Ended (At (at + size)) ≡ Ended → length bs ≤ at + size
    by true t q = omega (arith, ltb-true (length bs - at) size t)
    by false t q = absurd (not_ended (at + size) (sym q))

-- a field
pub field_part : (size : ℕ) → 0 < size → Part (λ bs at. field_end bs at size)
field_part size positive =
    record {
      reached = λ bs at next e.
          let w = field_within bs at size next positive e in
          let here = w.0 in
          record { ahead = omega arith; alike = λ cs same long. field_reached cs at size (omega arith) ∙ rw here };
      bad = λ bs at place e. absurd (field_not_bad bs at size place e);
      ended = λ bs at e.
          record {
            end = at + size;
            ahead = omega arith;
            complete = field_short bs at size e;
            filled = λ cs same long. field_reached cs at size long;
          };
    }

-- an entry whose bit map has no meaning, and an entry that is cut short
record MapBad (bs : List ℕ) (largest at place : ℕ) : Type 0 where
  here : at ≡ place
  inside : at < length bs
  meaningless : largest < byte bs at

entry_bad :
    (bs : List ℕ) (largest at size place : ℕ) → entry_end bs largest at size ≡ BadMap place → MapBad bs largest at place
unfolding entry_end
entry_bad bs largest at size place e = by (leb (length bs) at) (ltb largest (byte bs at)) refl refl e
  where
    by :
        (b c : Bool) → leb (length bs) at ≡ b → ltb largest (byte bs at) ≡ c →
        cond b Ended (cond c (BadMap at) (field_end bs at size)) ≡ BadMap place → MapBad bs largest at place
    by true c t u e = absurd (bad_not_ended place (sym e))
    by false true t u e =
        record { here = cc; inside = leb-false (length bs) at t; meaningless = ltb-true largest (byte bs at) u }
    by false false t u e = absurd (field_not_bad bs at size place e)

bad_entry : (bs : List ℕ) (largest at size : ℕ) → at < length bs → largest < byte bs at → entry_end bs largest at size ≡ BadMap at
unfolding entry_end
bad_entry bs largest at size h m = rw (lt-leb (length bs) at h, lt-ltb largest (byte bs at) m)

record EntryShort (bs : List ℕ) (largest at size : ℕ) : Type 0 where
  meaningful : byte bs at ≤ largest
  complete : length bs ≤ at + size

entry_short : (bs : List ℕ) (largest at size : ℕ) → entry_end bs largest at size ≡ Ended → EntryShort bs largest at size
unfolding entry_end
entry_short bs largest at size e = by (leb (length bs) at) (ltb largest (byte bs at)) refl refl e
  where
    by :
        (b c : Bool) → leb (length bs) at ≡ b → ltb largest (byte bs at) ≡ c →
        cond b Ended (cond c (BadMap at) (field_end bs at size)) ≡ Ended → EntryShort bs largest at size
    by true c t u e =
        let over = leb-true (length bs) at t in
        record { meaningful = rw (get_or-eq_default bs 0 over) (omega arith); complete = omega arith }
    by false true t u e = absurd (bad_not_ended at e)
    by false false t u e = record { meaningful = ltb-false largest (byte bs at) u; complete = field_short bs at size e }

-- an entry whose size its bit map gives
module _ (largest : ℕ) (size : (map : ℕ) → ℕ) (positive : (map : ℕ) → 0 < size map) where
  abbrev pub entry_reader : PartReader
  entry_reader bs at = entry_end bs largest at (size (byte bs at))

  -- an entry with the same bit map in another file
  entry_alike :
      (bs cs : List ℕ) (at : ℕ) → byte bs at ≡ byte cs at → byte bs at ≤ largest → at + size (byte bs at) ≤ length cs →
      entry_reader cs at ≡ At (at + size (byte bs at))
  entry_alike bs cs at e m long =
      rw (← e) (entry_reached cs largest at (size (byte bs at)) (positive (byte bs at)) (rw e at m) long)

  pub entry_part : Part entry_reader
  entry_part =
      record {
        reached = λ bs at next e.
            let w = entry_within bs largest at (size (byte bs at)) next (positive (byte bs at)) e in
            let some = positive (byte bs at) in
            let here = w.reaches in
            record {
              ahead = omega arith;
              alike = λ cs same long. entry_alike bs cs at (same at (omega arith)) w.meaningful (omega arith) ∙ rw here;
            };
        bad = λ bs at place e.
            let w = entry_bad bs largest at (size (byte bs at)) place e in
            let here = w.here in
            let inside = w.inside in
            record {
              ahead = omega arith;
              inside = omega arith;
              alike = λ cs same long.
                  bad_entry cs largest at (size (byte cs at)) (omega arith) (rw (same at (omega arith)) at w.meaningless) ∙ rw here;
            };
        ended = λ bs at e.
            let w = entry_short bs largest at (size (byte bs at)) e in
            record {
              end = at + size (byte bs at);
              ahead = omega arith;
              complete = w.complete;
              filled = λ cs same long. entry_alike bs cs at (same at) w.meaningful long;
            };
      }

  -- a given number of entries
  unfoldable pub entries_reader : (left : ℕ) → PartReader
  entries_reader zero bs at = At at
  entries_reader (suc k) bs at = onward (entry_reader bs at) (entries_reader k bs)

  pub entries_part : (left : ℕ) → Part (entries_reader left)
  unfolding entries_reader
  entries_part zero =
      record {
        reached = λ bs at next e. let z : at ≡ next = cc in record { ahead = omega arith; alike = λ cs same long. rw z };
        bad = λ bs at place e. absurd (not_bad place at (sym e));
        ended = λ bs at e. absurd (not_ended at (sym e));
      }
  entries_part (suc k) =
      both_part entry_reader (λ bs at. 0) (λ v. entries_reader k) entry_part (λ v. entries_part k) (λ bs cs at next e same. refl)

  -- a field that gives the number of entries after it
  module _
      (width : ℕ) (some : 0 < width) (count : (bytes : List ℕ) → (at : ℕ) → ℕ)
      (counted : (bs cs : List ℕ) (at : ℕ) → SameBefore (at + width) bs cs → count bs at ≡ count cs at)
    where
      abbrev pub counted_reader : PartReader
      counted_reader bs at = onward (field_end bs at width) (entries_reader (count bs at) bs)

      pub counted_part : Part counted_reader
      counted_part =
          both_part (λ bs at. field_end bs at width) count entries_reader (field_part width some) entries_part
          (λ bs cs at next e same.
          let here = (field_within bs at width next some e).0 in
          counted bs cs at (rw (← here) at same))
