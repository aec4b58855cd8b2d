-- `u32` is put as it is to stand. Assumes nothing.
use Rattle.rows.proofs.Put.{put-number}
use Rattle.rows.proofs.little_endian.U32LittleEndian.write.Goals as goal

pub returns : goal.returns
returns c = put-number c.args.at 4 c.args.self _ _ c.args.bytes.now c.to_le_bytes.ensures c.copy_from_slice.ensures.after
