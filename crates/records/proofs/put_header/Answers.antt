-- `records::put_header` meets its contract: the six fields, one after the other.
-- Assumes nothing.
use Rattle.wire.specs.BigEndian.{bytes_of}
use Rattle.records.specs.Header.{memory_header}
use Rattle.records.proofs.put_header.Goals as goal

pub returns : goal.returns
unfolding bytes_of memory_header
returns c =
    rw (c.put64-2.ensures, c.put32-4.ensures, c.put32-3.ensures, c.put64.ensures, c.put32-2.ensures, c.put32.ensures)
