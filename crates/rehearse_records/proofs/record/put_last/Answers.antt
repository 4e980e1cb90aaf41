use Rattle.rehearse_records.proofs.record.put_last.Goals as goal

pub returns-in-CutDevices : goal.returns-in-CutDevices
returns-in-CutDevices g c = rw c.in-CutDevices.is c.put.ensures

pub returns-in-Unknown : goal.returns-in-Unknown
returns-in-Unknown g c = rw c.in-Unknown.is c.put_word_line.ensures

pub returns-in-Syntax : goal.returns-in-Syntax
returns-in-Syntax g c = rw c.in-Syntax.is c.put_word_line-in-Syntax.ensures

pub returns-in-Unsupported : goal.returns-in-Unsupported
returns-in-Unsupported g c = rw c.in-Unsupported.is c.put_word_line-in-Unsupported.ensures

pub returns-in-Panic : goal.returns-in-Panic
returns-in-Panic g c = rw c.in-Panic.is c.put_word_line-in-Panic.ensures
