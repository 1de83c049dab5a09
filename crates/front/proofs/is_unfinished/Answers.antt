-- `front::is_unfinished` meets its contract: the tests of the definition, in its order.
-- Assumes nothing.
use borrow.Author.Tests.{lt-ltb, le-ltb, le-leb, lt-leb}
use Rattle.basics.specs.Choice.{◌and◌, ◌or◌}
use Rattle.front_model.specs.Front.{unfinished}
use Rattle.front.proofs.is_unfinished.Goals as goal

pub returns-then-payload_len-gt-MOST_PAYLOAD : goal.returns-then-payload_len-gt-MOST_PAYLOAD
unfolding unfinished ◌or◌ ◌and◌
returns-then-payload_len-gt-MOST_PAYLOAD c = rw (le-ltb _ _ c.if-part-lt-DS_HEADER_BYTES.false, ← c.get32-payload_len.ensures.0, lt-leb _ _ c.if-payload_len-gt-MOST_PAYLOAD.true)

pub returns : goal.returns
unfolding unfinished ◌or◌ ◌and◌
returns c = rw (le-ltb _ _ c.if-part-lt-DS_HEADER_BYTES.false, ← c.get32-payload_len.ensures.0, le-leb _ _ c.if-payload_len-gt-MOST_PAYLOAD.false)

pub returns-then-part-lt-DS_HEADER_BYTES : goal.returns-then-part-lt-DS_HEADER_BYTES
unfolding unfinished ◌or◌
returns-then-part-lt-DS_HEADER_BYTES c = rw (lt-ltb _ _ c.if-part-lt-DS_HEADER_BYTES.true)
