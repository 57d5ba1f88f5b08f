-- The kinds of entries of a written file.
use mathlib.Core.Path.{◌≡◌}
use mathlib.Core.List.{[], ◌∷◌}
use Prim.Native.Nat.{ℕ}
use borrow.Author.Tests.{eq-eqb, ne_eqb}
use Rattle.lock_file.specs.FileWriter.Writing.{low_first_bytes, absent_parent, absent_threshold, absent_home, written_domain, written_thread}

module _ (b h : ℕ) where
  pub thread_same : h ≡ absent_home b → written_thread b h ≡ 0 ∷ []
  unfolding written_thread
  thread_same e = rw (eq-eqb h (absent_home b) e)

  pub thread_other : (h ≡ absent_home b → ⊥) → written_thread b h ≡ 1 ∷ h ∷ []
  unfolding written_thread
  thread_other n = rw (ne_eqb h (absent_home b) n)

module _ (p h : ℕ) where
  pub domain_none : p ≡ absent_parent → h ≡ absent_threshold → written_domain p h ≡ 0 ∷ []
  unfolding written_domain
  domain_none e f = rw (eq-eqb p absent_parent e, eq-eqb h absent_threshold f)

  pub domain_threshold : p ≡ absent_parent → (h ≡ absent_threshold → ⊥) → written_domain p h ≡ 2 ∷ low_first_bytes h
  unfolding written_domain
  domain_threshold e n = rw (eq-eqb p absent_parent e, ne_eqb h absent_threshold n)

  pub domain_parent : (p ≡ absent_parent → ⊥) → h ≡ absent_threshold → written_domain p h ≡ 1 ∷ p ∷ []
  unfolding written_domain
  domain_parent n f = rw (ne_eqb p absent_parent n, eq-eqb h absent_threshold f)

  pub domain_both : (p ≡ absent_parent → ⊥) → (h ≡ absent_threshold → ⊥) → written_domain p h ≡ 3 ∷ p ∷ low_first_bytes h
  unfolding written_domain
  domain_both n m = rw (ne_eqb p absent_parent n, ne_eqb h absent_threshold m)
