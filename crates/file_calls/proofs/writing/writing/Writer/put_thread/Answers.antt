-- By its test, the one or two bytes of the entry.
use Rattle.std.proofs.Common.{◌≡◌, ◌+◌, ◌*◌, ◌/◌, ◌%◌, refl, ap, ◌∙◌, length, [], ◌∷◌, arith}
use Rattle.lock_file.specs.FileWriter.Writing.{low_first_bytes}
use Rattle.file_calls.specs.Writers.{written}
use Rattle.lock_file.proofs.file_writer.Entries.{thread_same, thread_other}
use Rattle.file_calls.proofs.writing.writing.Writer.put_thread.Goals as goal

pub put_byte-requires : goal.put_byte-requires
put_byte-requires c = omega (arith, ap length (thread_same _ _ c.if-home-before.true), c.requires)

pub returns-then-home-before : goal.returns-then-home-before
returns-then-home-before c = rw (thread_same _ _ c.if-home-before.true) c.put_byte.ensures

pub put_two_bytes-requires : goal.put_two_bytes-requires
put_two_bytes-requires c = omega (arith, ap length (thread_other _ _ c.if-home-before.false), c.requires)

pub returns : goal.returns
returns c =
    let h = c.args.home in
    let map : (1 + h * 256) % 256 ≡ 1 = omega arith in
    let other : (1 + h * 256) / 256 ≡ h = omega arith in
    let both : low_first_bytes c.from_le_bytes.result ≡ 1 ∷ h ∷ [] = rw (c.from_le_bytes.ensures, map, other) refl in
    rw (thread_other _ _ c.if-home-before.false) (c.put_two_bytes.ensures ∙ ap (written c.args.self.now) both)
