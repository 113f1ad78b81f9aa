use Rattle.avc_vlc.proofs.Entries.{token_table, zeros_table, run_table, table_read}
use Rattle.avc_vlc.proofs.laws.tables_are_read.Goals as goal

pub returns : goal.returns
returns c = record {
  tokens = λ nc. table_read (token_table nc);
  zeros = λ total chroma_dc. table_read (zeros_table total chroma_dc);
  runs = λ zeros_left. table_read (run_table zeros_left);
}
