-- A writer after several pieces, and the room for the next.
use Rattle.std.proofs.Common.{◌≡◌, refl, sym, ap, ◌∙◌, List, [], ◌++◌, ℕ, ◌+◌, ◌≤◌, length, length-append, arith}
use Rattle.std.proofs.Math.Seq.{length-sets}
use Rattle.model.proofs.Storing.{sets_append}
use Rattle.file_calls.specs.Writers.{written}
use Rattle.file_calls.specs.declared.writing.writing.Writer.{Writer}

abbrev pub HasRoom : Writer → List ℕ → Type 0
HasRoom w ls = w.at + length ls ≤ length w.buffer.now

add_parts : (a b c : ℕ) → a + (b + c) ≡ a + b + c
add_parts a b c = omega arith

written_append : (w : Writer) (a b : List ℕ) → written w (a ++ b) ≡ written (written w a) b
written_append w a b = rw (length-append a b, add_parts w.at (length a) (length b), sets_append w.buffer.now w.at a b) refl

written_none : (w : Writer) → written w [] ≡ w
written_none w = let z : w.at + 0 ≡ w.at = omega arith in ap (λ n. record { buffer = w.buffer; at = n }) z

-- two pieces
module _ (w next : Writer) (ls a b : List ℕ) (parts : ls ≡ a ++ b) (h : next ≡ written w a) where
  pub room_after : HasRoom w ls → HasRoom next b
  room_after r =
      let long = ap length parts ∙ length-append a b in
      let at : next.at ≡ w.at + length a = ap (λ v. v.at) h in
      let kept : length next.buffer.now ≡ length w.buffer.now = ap (λ v. length v.buffer.now) h ∙ length-sets w.buffer.now w.at a in
      omega (arith, r, long, at, kept)

  pub written_both : (last : Writer) → last ≡ written next b → last ≡ written w ls
  written_both last g = g ∙ rw (h, parts) (sym (written_append w a b))

-- what is left to write gives the result of the whole: then the next piece has room
pub room_first : (w now : Writer) (ls rest a b : List ℕ) → rest ≡ a ++ b → written now rest ≡ written w ls → HasRoom w ls → HasRoom now a
room_first w now ls rest a b parts same r =
    let long = ap length parts ∙ length-append a b in
    let at : now.at + length rest ≡ w.at + length ls = ap (λ v. v.at) same in
    let kept : length now.buffer.now ≡ length w.buffer.now = sym (length-sets now.buffer.now now.at rest) ∙ ap (λ v. length v.buffer.now) same ∙ length-sets w.buffer.now w.at ls in
    omega (arith, r, long, at, kept)

pub rest_after : (whole now next : Writer) (rest a b : List ℕ) → rest ≡ a ++ b → written now rest ≡ whole → next ≡ written now a → written next b ≡ whole
rest_after whole now next rest a b parts same h = written_both now next rest a b parts h (written next b) refl ∙ same

pub none_left : (whole now : Writer) (rest : List ℕ) → rest ≡ [] → written now rest ≡ whole → now ≡ whole
none_left whole now rest e same = sym (written_none now) ∙ ap (written now) (sym e) ∙ same
