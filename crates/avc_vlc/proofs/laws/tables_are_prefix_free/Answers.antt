use Rattle.avc_vlc.proofs.Entries.{token_table, zeros_table, run_table, prefix_free, tokens_free, zeros_free, runs_free}
use Rattle.avc_vlc.proofs.laws.tables_are_prefix_free.Goals as goal

pub returns : goal.returns
returns c = record {
  tokens = λ nc. prefix_free (token_table nc) (tokens_free nc);
  zeros = λ total chroma_dc. prefix_free (zeros_table total chroma_dc) (zeros_free total chroma_dc);
  runs = λ zeros_left. prefix_free (run_table zeros_left) (runs_free zeros_left);
}
