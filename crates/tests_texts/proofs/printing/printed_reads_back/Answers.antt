use Rattle.tests_texts.proofs.PrintedLemmas.{printed_reads_back}
use Rattle.tests_texts.proofs.printing.printed_reads_back.Goals as goal

pub returns : goal.returns
returns c = printed_reads_back
