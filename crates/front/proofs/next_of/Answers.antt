-- `front::next_of` meets its contract: the cases of the definition.
-- Assumes nothing.
use Rattle.front.proofs.Joined.{keeps-few, keeps-more, gives-long, gives_whole}
use Rattle.front.proofs.next_of.Goals as goal

pub returns-then-count-lt-DS_HEADER_BYTES : goal.returns-then-count-lt-DS_HEADER_BYTES
returns-then-count-lt-DS_HEADER_BYTES c = keeps-few _ _ c.if-count-lt-DS_HEADER_BYTES.true

pub returns-then-payload_len-gt-MOST_PAYLOAD : goal.returns-then-payload_len-gt-MOST_PAYLOAD
returns-then-payload_len-gt-MOST_PAYLOAD c =
    let pre = c.requires in
    gives-long _ _ c.if-count-lt-DS_HEADER_BYTES.false pre.0 pre.1 (rw c.payload_len-payload_len.ensures.0 at c.if-payload_len-gt-MOST_PAYLOAD.true)

pub returns-then-count-end : goal.returns-then-count-end
returns-then-count-end c =
    let l = c.payload_len-payload_len.ensures.0 in
    keeps-more _ _ c.if-count-lt-DS_HEADER_BYTES.false (rw l at c.if-payload_len-gt-MOST_PAYLOAD.false) (rw l at c.if-count-end.true)

pub returns : goal.returns
returns c =
    let pre = c.requires in
    let l = c.payload_len-payload_len.ensures.0 in
    rw l (gives_whole _ _ c.if-count-lt-DS_HEADER_BYTES.false pre.0 pre.1 (rw l at c.if-payload_len-gt-MOST_PAYLOAD.false) (rw l at c.if-count-end.false))
