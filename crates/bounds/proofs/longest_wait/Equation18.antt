-- On three equal levels, if no threshold is below its number of members, W is what equation 18 allows.
use mathlib.Core.Path.{◌≡◌, sym, ap, ◌∙◌}
use Prim.Native.Nat.{ℕ, zero, suc, ◌+◌, ◌*◌, ◌-◌, ◌/◌, ◌≤◌, ◌<◌}
use native.Mathlib.Omega.{arith}
use native.Mathlib.Nat.{mul-le-mul, one-le-mul, div-lt_iff_lt-mul, le-div_iff_mul-le}
use borrow.Author.Tests.{lt-ltb}
use Rattle.model.specs.Trees.{Tree, depth, level}
use Rattle.model.specs.Refusals.{tree_refusal}
use Rattle.model.proofs.Lists.{same_or}
use Rattle.model.proofs.Trees.Index.{ancestor, height, record_at}
use Rattle.model.proofs.Trees.Accepted.{Accepted, accepted}
use Rattle.model.proofs.Trees.Paths.{depth_child, ancestor_home, ancestor_real, ancestor_parent_of, ancestor_root}
use Rattle.model.proofs.Trees.Records.{record_own}
use Rattle.bounds.specs.StarvationFreedom.Bounds.{members}
use Rattle.bounds.specs.LongestWait.Bounds.{effective_threshold, others_passes, tenures_for_all, member_wait, wait_bound}
use Rattle.bounds.specs.LongestWait.Laws.{EqualLevels, equation_18, Equation18Law}
use Rattle.bounds.proofs.longest_wait.Waits.{above_wait, above_root, wait_at, above_next}
use Rattle.bounds.proofs.longest_wait.Even.{top, deep, same_many, has_members, P, others_at}

-- one tenure is enough if the threshold is not below the number of members
one_tenure_enough : (m v : ℕ) → 1 ≤ m → m ≤ v → (m + v - 1) / v ≡ 1
one_tenure_enough m v h l =
    let some : 0 < v = omega arith in
    let low : 1 ≤ (m + v - 1) / v = (le-div_iff_mul-le some).1 (omega arith) in
    let high : (m + v - 1) / v < 2 = (div-lt_iff_lt-mul some).1 (omega arith) in
    omega arith

-- THE SUM, with d = h k - a b and x = h - a; b and c are written suc b and suc c
sums_same : (a b c h k d x : ℕ) → 1 ≤ a → h * k ≡ a * suc b + d → h ≡ a + x → (a - 1) + b * h + c * (k * h) + 1 ≡ a * suc b * suc c + d * c + x * b
sums_same a b c h k d x some e f =
    let one : c * (k * h) ≡ (a * suc b + d) * c = (let z : c * (k * h) ≡ (h * k) * c = omega arith in z ∙ ap (λ v. v * c) e) in
    let two : b * h ≡ b * (a + x) = ap (λ v. b * v) f in
    omega arith

summed : (a b c h q u v w : ℕ) → 1 ≤ a → 1 ≤ b → 1 ≤ c → u + 1 ≡ a * 1 + v → v + h ≡ b * h + w → w + q ≡ c * q → u ≡ (a - 1) + (b - 1) * h + (c - 1) * q
summed a zero c h q u v w p r s e f g = absurd (omega arith)
summed a (suc b) zero h q u v w p r s e f g = absurd (omega arith)
summed a (suc b) (suc c) h q u v w p r s e f g =
    let zb : suc b - 1 ≡ b = omega arith in
    let zc : suc c - 1 ≡ c = omega arith in
    rw (zb, zc) (omega arith)

-- steps of the sum that need few facts
one_less : (b : ℕ) → suc b - 1 ≡ b
one_less b = omega arith

rest_added : (m n : ℕ) → m ≤ n → n ≡ m + (n - m)
rest_added m n h = omega arith

less_one : (u s x y z : ℕ) → u ≡ s → s + 1 ≡ x + y + z → 1 ≤ x → u ≡ (x - 1) + y + z
less_one u s x y z e f h = omega arith

equation_holds : (a b c h k W : ℕ) → 1 ≤ a → 1 ≤ b → 1 ≤ c → a ≤ h → b ≤ k → W ≡ (a - 1) + (b - 1) * h + (c - 1) * (k * h) → W ≡ equation_18 a b c h k
unfolding equation_18
equation_holds a zero c h k W p q r l m e = absurd (omega arith)
equation_holds a (suc b) zero h k W p q r l m e = absurd (omega arith)
equation_holds a (suc b) (suc c) h k W p q r l m e =
    let d = h * k - a * suc b in
    let x = h - a in
    let sum = sums_same a b c h k d x p (rest_added (a * suc b) (h * k) (mul-le-mul l m)) (rest_added a h l) in
    let e' : W ≡ (a - 1) + b * h + c * (k * h) = rw (one_less b, one_less c) at e in
    rw (one_less b, one_less c) (less_one W ((a - 1) + b * h + c * (k * h)) (a * suc b * suc c) (d * c) (x * b) e' sum (one-le-mul (one-le-mul p q) r))

module _ (t : Tree) (ok : (tree_refusal t).number ≡ 0) (equal : EqualLevels t) (i : ℕ) (hi : i < t.threads) (three : height t i ≡ 2) where
  valid : Accepted t
  valid = accepted t ok

  at_home : ancestor t i 0 ≡ t.home i
  at_home = ancestor_home t i

  at_socket : ancestor t i 1 ≡ t.parent (t.home i)
  at_socket = sym (ancestor_parent_of t valid i hi 0 (omega arith)) ∙ ap t.parent at_home

  at_root : ancestor t i 2 ≡ 0
  at_root = ap (ancestor t i) (sym three) ∙ ancestor_root t valid i hi

  height_top : top t ok equal i hi ≡ 2
  unfolding top
  height_top = three

  module _ (homes : 2 ≤ members t (ancestor t i 0)) (sockets : 2 ≤ members t (ancestor t i 1)) (wide_home : members t (ancestor t i 0) ≤ t.threshold (ancestor t i 0))
      (wide_socket : members t (ancestor t i 1) ≤ t.threshold (ancestor t i 1)) where
    -- every domain other than the root has at least two members
    many : (d : ℕ) → 0 < d → d < t.domains → 2 ≤ members t d
    many d p h =
        let below = deep t ok equal i hi d h in
        let up = depth_child t valid d p h in
        let z = height_top in
        same_or (depth t d) 2 _
        (λ e. let s = same_many t ok equal i hi 0 d h (omega arith) in omega arith)
        (λ e. let s = same_many t ok equal i hi 1 d h (omega arith) in omega arith)

    effect : (d : ℕ) → 0 < d → d < t.domains → effective_threshold t d ≡ t.threshold d
    unfolding effective_threshold
    effect d p h = rw (lt-ltb 1 (members t d) (many d p h))

    abbrev W : ℕ → ℕ
    W k = member_wait t (ancestor t i k) (record_at t i k)

    abbrev p : ℕ → ℕ
    p = P t ok equal i hi

    others : (k : ℕ) → k ≤ 2 → others_passes t (ancestor t i k) (record_at t i k) + p k ≡ members t (ancestor t i k) * p k
    others k l = others_at t ok equal i hi effect k (let z = height_top in omega arith)

    root_wait : W 2 + p 2 ≡ members t 0 * p 2
    root_wait =
        let w = wait_at t valid (ancestor t i 2) (record_at t i 2) (ancestor_real t valid i hi 2) in
        let none : tenures_for_all t (ancestor t i 2) * above_wait t (ancestor t i 2) ≡ 0 = let a = above_root t (ancestor t i 2) at_root in rw a (omega arith) in
        let same : members t (ancestor t i 2) * p 2 ≡ members t 0 * p 2 = ap (λ d. members t d * p 2) at_root in
        omega (arith, others 2 (omega arith))

    lower_wait : (k : ℕ) → k < 2 → 2 ≤ members t (ancestor t i k) → members t (ancestor t i k) ≤ t.threshold (ancestor t i k) → W k + p k ≡ members t (ancestor t i k) * p k + W (suc k)
    unfolding tenures_for_all
    lower_wait k l m v =
        let w = wait_at t valid (ancestor t i k) (record_at t i k) (ancestor_real t valid i hi k) in
        let up = above_next t valid i hi k (omega arith) in
        let one : tenures_for_all t (ancestor t i k) ≡ 1 = one_tenure_enough (members t (ancestor t i k)) (t.threshold (ancestor t i k)) (omega arith) v in
        let product : tenures_for_all t (ancestor t i k) * above_wait t (ancestor t i k) ≡ W (suc k) = rw one (let z : 1 * above_wait t (ancestor t i k) ≡ above_wait t (ancestor t i k) = omega arith in z ∙ up) in
        omega (arith, others k (omega arith))

    whole : W 0 ≡ equation_18 (members t (ancestor t i 0)) (members t (ancestor t i 1)) (members t 0) (t.threshold (ancestor t i 0)) (t.threshold (ancestor t i 1))
    unfolding P
    whole =
        let a = members t (ancestor t i 0) in
        let b = members t (ancestor t i 1) in
        let c = members t 0 in
        let h = t.threshold (ancestor t i 0) in
        let k = t.threshold (ancestor t i 1) in
        let some = has_members t ok equal i hi 0 valid.some_domain in
        let one : p 1 ≡ h = omega arith in
        let two : p 2 ≡ k * h = ap (λ v. k * v) one in
        let w1 : W 1 + h ≡ b * h + W 2 = rw one at (lower_wait 1 (omega arith) sockets wide_socket) in
        let w2 : W 2 + k * h ≡ c * (k * h) = rw two at root_wait in
        let w0 = lower_wait 0 (omega arith) homes wide_home in
        equation_holds a b c h k (W 0) (omega arith) (omega arith) some wide_home wide_socket
        (summed a b c h (k * h) (W 0) (W 1) (W 2) (omega arith) (omega arith) some w0 w1 w2)

pub equation_18_law : Equation18Law
unfolding Equation18Law wait_bound height level
equation_18_law t ok equal i hi three homes sockets wide_home wide_socket =
    let valid = accepted t ok in
    let tall : height t i ≡ 2 = omega arith in
    let home = at_home t ok equal i hi tall in
    let socket = at_socket t ok equal i hi tall in
    let x = whole t ok equal i hi tall (rw home homes) (rw socket sockets) (rw home wide_home) (rw socket wide_socket) in
    rw (home, socket, record_own t i) at x
