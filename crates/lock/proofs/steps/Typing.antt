-- What the type of a state fixes: the lengths of its arrays, that statuses and words are below 2^64, and the counters below 2^16.
use mathlib.Core.List.{List, [], ◌∷◌}
use Prim.Native.Nat.{ℕ, zero, suc, ◌<◌}
use native.Mathlib.Omega.{arith}
use lib.ListN.{get_or}
use mir.Val.{Val}
use denote.Array.{each}
use denote.Shadow.{shadow}
use denote.Struct.Field.{u8-field, u16-field, u64-field, array_field}
use Rattle.model.specs.declared.State.{State}
use Rattle.model.specs.Laws.{Typed}
use Rattle.model.specs.States.{numbers_at}

-- each element of an array fits its type
numbers_fit : (xs : List ℕ) (us : List Val) → shadow (each ℕ u64-field.row.own_val xs us) → (k : ℕ) → get_or xs k 0 < 18446744073709551616
numbers_fit [] us z k = omega arith
numbers_fit (x ∷ xs) [] z k = absurd z
numbers_fit (x ∷ xs) (u ∷ us) z zero = z.0.1
numbers_fit (x ∷ xs) (u ∷ us) z (suc k) = numbers_fit xs us z.1 k

-- what a call knows about a state that it was passed
pub typed :
    (s : State) (a b c d e f g : List Val) (u v : List Val) →
    shadow ((array_field u16-field 64).row.own_val s.tails a) → shadow ((array_field u16-field 320).row.own_val s.nexts b) →
    shadow ((array_field u64-field 320).row.own_val s.statuses c) → shadow ((array_field u8-field 256).row.own_val s.places.rows d) →
    shadow ((array_field u8-field 256).row.own_val s.places.domains e) → shadow ((array_field u16-field 256).row.own_val s.places.peers f) →
    shadow ((array_field u64-field 256).row.own_val s.places.words g) → shadow (u16-field.row.own_val s.ticket u) →
    shadow (u16-field.row.own_val s.grant v) → Typed s
unfolding numbers_at
typed s a b c d e f g u v ts ns vs rs ds ps ws k l =
    record {
      tails_room = ts.1.0.1;
      nexts_room = ns.1.0.1;
      statuses_room = vs.1.0.1;
      places_room = record {
        rows = rs.1.0.1;
        domains = ds.1.0.1;
        peers = ps.1.0.1;
        words = ws.1.0.1;
      };
      statuses_fit = numbers_fit s.statuses vs.0 vs.1.1;
      ticket_fits = k.1;
      grant_fits = l.1;
      words_fit = numbers_fit s.places.words ws.0 ws.1.1;
    }
