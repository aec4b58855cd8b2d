-- `u64` is read as it stands. Assumes nothing.
use mathlib.Core.Path.{◌∙◌}
use Rattle.rows.proofs.LittleEndian.{number-bytes}
use Rattle.rows.proofs.little_endian.U64LittleEndian.read.Goals as goal

pub returns : goal.returns
returns c = c.from_le_bytes.ensures ∙ number-bytes c.args.at 7 c.args.bytes.now c.requires
