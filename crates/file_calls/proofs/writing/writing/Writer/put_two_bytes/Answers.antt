-- Two bytes, low byte first.
use Rattle.std.proofs.Common.{◌≡◌, ◌+◌, ap, rules, arith}
use Rattle.lock_file.specs.FileWriter.Writing.{low_first_bytes}
use Rattle.file_calls.proofs.Copying.{copied}
use Rattle.file_calls.proofs.writing.writing.Writer.put_two_bytes.Goals as goal

pub returns : goal.returns
returns c =
    let w = c.args.self.now in
    let e : c.copy_from_slice.new.self ≡ low_first_bytes c.args.value = search rules in
    ap (λ l. record { buffer = record { ref_ptr = w.buffer.ref_ptr; ghost_name = w.buffer.ghost_name; now = l }; at = w.at + 2 }) (copied _ _ (low_first_bytes c.args.value) _ _ e (omega arith) (omega (arith, c.requires)))
