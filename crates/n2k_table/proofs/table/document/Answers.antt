use Rattle.std.proofs.lemmas.Bool.{false≢true}
use Rattle.toml.specs.View.{table_view}
use Rattle.n2k_table.proofs.Documents.{document_some, document_none}
use Rattle.n2k_table.proofs.table.document.Goals as goal

pub returns-in-Ok : goal.returns-in-Ok
returns-in-Ok c = document_some c.args.bytes.now (table_view c.in-Ok.top) c.in-Ok.ensures.ok.0 c.in-Ok.ensures.ok.1

pub returns-in-Err-2 : goal.returns-in-Err-2
returns-in-Err-2 c = λ other. document_none c.args.bytes.now (c.in-Err.ensures.refused (λ memory. false≢true (c.if-is_memory.ensures.1 memory)))
