-- `file_writer::put` meets its contract. Assumes nothing.
use Rattle.std.proofs.Common.{length, refl, arith, append_assoc, ◌∙◌}
use Rattle.std.proofs.lemmas.Slice.{put_mid-paste}
use Rattle.std.proofs.lemmas.List.Edits.{paste_all}
use Rattle.file_writer.specs.Pasting.{pasted}
use Rattle.file_writer.proofs.put.Goals as goal

pub returns : goal.returns
unfolding pasted
returns c =
    let bytes = c.args.bytes.now in
    record {
      area = rw append_assoc (put_mid-paste _ _ _ _ bytes (length bytes) c.copy_from_slice.ensures.after (omega arith) refl ∙ paste_all _ _ bytes _ refl);
      next = refl;
    }
