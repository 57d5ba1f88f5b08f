-- `rows::common::counting::holds_ticket` meets its contract: no record of the domains has the ticket if `any` finds none.
use Rattle.std.proofs.Common.{◌≡◌, ℕ, ◌+◌, ◌-◌, ◌<◌, ◌≤◌, ◌≢◌, Bool, true, false, List, length, get_or, take, drop, MatchBool, sym, ◌∙◌, arith, rules, tests}
use Rattle.std.specs.List.{HoldsAt, AllWithin}
use Rattle.std.proofs.lemmas.Iterator.{cases_from_any, YieldsList-from_slice}
use Rattle.std.proofs.lemmas.Bool.{false≢true}
use Rattle.std.proofs.lemmas.List.{get_or-take, get_or-drop, length-take-le, length-drop}
use Rattle.rows.proofs.common.counting.holds_ticket.Goals as goal

-- no element is the ticket if the answer is false
none_equal : (r : Bool) (v : ℕ) (xs : List ℕ) → MatchBool r ((k : ℕ) × (k < length xs) × HoldsAt (λ x. x ≡ v) xs k) (AllWithin (λ x. x ≢ v) xs 0 (length xs)) → r ≡ false → (k : ℕ) → k < length xs → get_or xs k 0 ≢ v
none_equal true v xs h e k l = absurd (false≢true (sym e))
none_equal false v xs h e k l = h k 0 (omega arith) l

-- the elements of a part are those of the whole
part_differs : (vs : List ℕ) (m v d : ℕ) → 256 + m ≤ length vs → d < m → (d < length (take m (drop 256 vs)) → get_or (take m (drop 256 vs)) d 0 ≢ v) → get_or vs (256 + d) 0 ≢ v
part_differs vs m v d n l h e =
    let long : m ≤ length (drop 256 vs) = omega (arith, length-drop 256 vs) in
    h (omega (arith, length-take-le m (drop 256 vs) long)) (get_or-take m (drop 256 vs) d 0 l ∙ get_or-drop 256 vs d 0 ∙ e)

pub returns : goal.returns
returns c =
    let a = c.args in
    let found = cases_from_any _ _ _ (λ x. x ≡ a.v) (λ x. x ≢ a.v) c.any.ensures.ran (YieldsList-from_slice _ c.iter.ensures.rest) (λ x q k. search (rules, tests)) (λ x q k. search (rules, tests)) in
    record { none_holds = λ e d h. part_differs a.statuses.now (256 + a.domains - 256) a.v d (omega (arith, c.requires, c.told-statuses)) (omega arith) (none_equal _ a.v _ found e d) }
