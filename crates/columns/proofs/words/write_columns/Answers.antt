-- `write_columns` meets its contract: one column after another. Assumes nothing.
use Rattle.columns.proofs.Quadruples.{four_columns}
use Rattle.columns.proofs.words.write_columns.Goals as goal

pub returns : goal.returns
returns c = four_columns c.args.words.now _ _ _ _ _ _ _ c.write_bytes.ensures c.write_bytes-2.ensures c.write_bytes-3.ensures c.write_bytes-4.ensures
