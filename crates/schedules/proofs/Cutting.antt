-- The schedules: one per length, each of its length, and together all entries in order.
use mathlib.Core.Path.{◌≡◌, refl, ap, ◌∙◌}
use mathlib.Core.List.{List, [], ◌∷◌}
use Prim.Native.Nat.{ℕ, zero, suc, ◌+◌, ◌≤◌, ◌<◌}
use native.Mathlib.Omega.{arith}
use lib.ListN.{length, take, drop, get_or, length-drop, take-append-drop}
use lib.Seq.{drop-drop, length-take-le}
use Rattle.schedules.specs.Rows.{total, cut, after_one_another}
use Rattle.schedules.specs.Laws.{schedule_at, CutLaw}

pub as_many : (ns es : List ℕ) → length (cut ns es) ≡ length ns
unfolding cut
as_many [] es = refl
as_many (n ∷ ns) es = ap suc (as_many ns (drop n es))

-- the k-th schedule starts after the lengths before it
pub in_order : (ns es : List ℕ) (k : ℕ) → k < length ns → get_or (cut ns es) k [] ≡ schedule_at ns es k
unfolding cut total
in_order [] es k h = absurd (omega arith)
in_order (n ∷ ns) es zero h = refl
in_order (n ∷ ns) es (suc k) h = in_order ns (drop n es) k (omega arith) ∙ rw drop-drop

-- a length and those before it add up to at most all of them
within : (ns : List ℕ) (k : ℕ) → k < length ns → total (take k ns) + get_or ns k 0 ≤ total ns
unfolding total
within [] k h = absurd (omega arith)
within (n ∷ ns) zero h = omega arith
within (n ∷ ns) (suc k) h = let r = within ns k (omega arith) in omega arith

long : (ns es : List ℕ) → total ns ≡ length es → (k : ℕ) → k < length ns → length (schedule_at ns es k) ≡ get_or ns k 0
long ns es e k h =
    let fits = within ns k h in
    length-take-le (get_or ns k 0) (drop (total (take k ns)) es) (omega (arith, length-drop (total (take k ns)) es))

all_entries : (ns es : List ℕ) → total ns ≡ length es → after_one_another (cut ns es) ≡ es
unfolding cut total after_one_another
all_entries [] [] e = refl
all_entries [] (x ∷ es) e = absurd (omega arith)
all_entries (n ∷ ns) es e =
    let rest : total ns ≡ length (drop n es) = omega (arith, length-drop n es) in
    rw (all_entries ns (drop n es) rest) (take-append-drop n es)

pub cut_law : CutLaw
unfolding CutLaw
cut_law ns es e = record { as_many = as_many ns es; in_order = in_order ns es; long = long ns es e; all_entries = all_entries ns es e }
